-- The calls that a log shows are those that made the line's primary station what it is in the log's
-- course.
use Rattle.std.specs.Prelude.{if◌then◌else◌}
use Rattle.std.proofs.Common.{◌≡◌, ℕ, zero, suc, ◌<◌, ◌≤◌, Bool, true, false, List, [], ◌∷◌, ◌++◌}
use Rattle.std.proofs.Common.{length, Option, Some, None, refl, ap, sym, subst, ◌∙◌, arith}
use Rattle.ft12.specs.Fronts.{front_of}
use Rattle.session.specs.declared.kinds.Close.{Close}
use Rattle.session.specs.declared.kinds.Close.TheVariants.{Grammar, SendNumber, ReceiveNumber}
use Rattle.session.specs.declared.kinds.Close.TheVariants.{Stopped, Timeout, OwnAnswers, Replaced}
use Rattle.link.specs.declared.outcome.Outcome.{Outcome}
use Rattle.link.specs.declared.outcome.Outcome.TheVariants as outcome
use Rattle.link.specs.declared.settings.LinkSettings.{LinkSettings}
use Rattle.link.specs.Exchanges.{Exchanges, Sending, no_exchanges, begun_by, received_current}
use Rattle.link.specs.Exchanges.{timed_current, given_up_at}
use Rattle.link.specs.Carried.{awaits_command, awaits_command_in, given_up, given_up_upto}
use Rattle.link.specs.Carried as line
use Rattle.link.specs.Runs.{Call, Next, Octets, Due, GivesUp, Doubts, called}
use Rattle.link.specs.Primary.{Primary}
use Rattle.link.specs.Matching.{Matches}
use Rattle.gateway.specs.Log.{Log, Input, LineIn, Opened, TcpIn, CutOff, Ticked, WallIs, Restarted}
use Rattle.gateway.specs.Log.{Came, Went, LineOut, TcpOut, Closed, GapOut, latest}
use Rattle.gateway.specs.Connections.{present}
use Rattle.gateway.specs.Reports.{Setup, AreFound, exchanges_of, sending_in}
use Rattle.gateway.specs.Serial as serial
use Rattle.gateway.specs.Serial.{Serial, waiting_in, next_request}
use Rattle.gateway.specs.Works.{Works, LearnsReport, LearnsOf, is_command_report, mirrored_works}
use Rattle.gateway.specs.Works.{octets_works, settled_works}
use Rattle.gateway.specs.Course.{Course, room_in, closed_course, HasTakenAll, IsLeft, SendsNext}
use Rattle.gateway.specs.Course.{Runs}
use Rattle.gateway.specs.Traffic.{ActsRightly}
use Rattle.gateway.specs.Calling.{waiting_by, give_ups, event_calls, CallsOf}
use Rattle.gateway.specs.Turning.{new_line}
use Rattle.gateway.proofs.Order.{frames_others, sent_others}
use Rattle.gateway.proofs.Restarting.{restarted_serial}
use Rattle.gateway.proofs.Carrying.{line_is}
use Rattle.gateway.proofs.Stations.{request_back}
use Rattle.gateway.proofs.AskingCalls.{Laws, Leads, leads_on, leads_nowhere, settled_line}
use Rattle.gateway.proofs.AskingCalls.{line_fits, asking, asks, Ends, ends}

module _ (laws : Laws) (p : Setup) where
  -- A restart

  give_up_leads : (n : ℕ) (q : Primary) (e : Exchanges) → n ≤ length q.stations
      → Matches p.link p.addresses q e
      → (length (line.commands_given_up_upto n q).stations ≡ length q.stations)
      × Leads p q e (give_ups p n e) (line.commands_given_up_upto n q)
      (given_up_upto p.link (front_of p.link.size) p.addresses n e)
  give_up_leads zero q e within t = (refl, leads_nowhere p q e t)
  give_up_leads (suc k) q e within t =
      let so_far : Primary = line.commands_given_up_upto k q in
      let shown : Exchanges = given_up_upto p.link (front_of p.link.size) p.addresses k e in
      let before = give_up_leads k q e (omega (arith, within)) t in
      let less : k < length so_far.stations = omega (arith, within, before.0) in
      let b : Bool =
      awaits_command_in p.link (front_of p.link.size) p.addresses k shown in
      let same : awaits_command so_far k ≡ b =
      laws.gives_up.awaits p.link p.addresses so_far shown k before.1.matches in
      let last = by_awaited so_far shown less before.1.matches b in (
        ap (λ (c : Bool). length (if c then given_up k so_far else so_far).stations) same
            ∙ last.0 ∙ before.0,
        leads_on p q so_far (if awaits_command so_far k then given_up k so_far else so_far) e shown
            (if b then given_up_at k shown else shown) (give_ups p k e)
            (if b then GivesUp k ∷ [] else []) before.1
            (subst (λ (c : Bool). Leads p so_far shown (if b then GivesUp k ∷ [] else [])
            (if c then given_up k so_far else so_far) (if b then given_up_at k shown else shown))
            (sym same) last.1),
      )
    where
      by_awaited : (r : Primary) (d : Exchanges) → k < length r.stations
          → Matches p.link p.addresses r d → (b : Bool)
          → (length (if b then given_up k r else r).stations ≡ length r.stations)
          × Leads p r d (if b then GivesUp k ∷ [] else []) (if b then given_up k r else r)
          (if b then given_up_at k d else d)
      by_awaited r d less matches true = (
        laws.for_one.number r k,
        record {
          may = (less, tt);
          line = refl;
          exchanges = refl;
          matches = laws.gives_up.one p.link p.addresses r d k less matches;
        },
      )
      by_awaited r d less matches false = (refl, leads_nowhere p r d matches)

  -- and then of no station is it known whether it was restarted
  doubt_leads : (q : Primary) (e : Exchanges) (calls : List Call) (r : Primary) (d : Exchanges)
      → Leads p q e calls r d → Leads p q e (calls ++ Doubts ∷ []) (line.doubted r) d
  doubt_leads q e calls r d h = leads_on p q r (line.doubted r) e d d calls (Doubts ∷ []) h
      (record {
        may = (tt, tt);
        line = refl;
        exchanges = refl;
        matches = laws.gives_up.doubted p.link p.addresses r d h.matches;
      })

  -- An event

  learnt_report : (at : ℕ) (running b : Bool) (report : List ℕ) (w z : Works)
      → LearnsReport p at running b report w z → z.serial.line ≡ w.serial.line
  learnt_report at running true report w z h =
      ap (λ (x : Works). x.serial.line) h.5 ∙ by_running running
    where
      by_running : (b : Bool)
          → (mirrored_works at b h.0 h.2 w).serial.line ≡ w.serial.line
      by_running true = refl
      by_running false = refl
  learnt_report at running false report w z h = ap (λ (x : Works). x.serial.line) h

  learnt_line : (at : ℕ) (running : Bool) (o : Outcome) (w z : Works)
      → LearnsOf p at running o w z → z.serial.line ≡ w.serial.line
  learnt_line at running (outcome.Report station asdu) w z h =
      learnt_report at running (is_command_report p.sizes asdu.items) asdu.items w z h
  learnt_line at running (outcome.Accepted station) w z h = ap (λ (x : Works). x.serial.line) h
  learnt_line at running (outcome.Busy station) w z h = ap (λ (x : Works). x.serial.line) h
  learnt_line at running (outcome.Down station) w z h = ap (λ (x : Works). x.serial.line) h
  learnt_line at running outcome.None w z h = ap (λ (x : Works). x.serial.line) h
  learnt_line at running (outcome.Started station) w z h = ap (λ (x : Works). x.serial.line) h
  learnt_line at running (outcome.StartedGap station session) w z h =
      ap (λ (x : Works). x.serial.line) h
  learnt_line at running (outcome.Empty station) w z h = ap (λ (x : Works). x.serial.line) h

  due_leads : (at : ℕ) (q : Primary) (e : Exchanges) → Matches p.link p.addresses q e
      → Leads p q e (Due at ∷ []) (called q (Due at))
      (record { ended = e.ended; current = timed_current p.link.answer_ms at e.current })
  due_leads at q e t = record {
    may = (tt, tt);
    line = refl;
    exchanges = ap (λ (s : LinkSettings). let made : Exchanges = record {
      ended = e.ended;
      current = timed_current s.answer_ms at e.current;
    } in made) t.settings_are;
    matches = laws.line.due p.link p.addresses q e at t;
  }

  octets_lead : (octets : List ℕ) (q : Primary) (e : Exchanges) → Matches p.link p.addresses q e
      → Leads p q e (Octets octets ∷ []) (called q (Octets octets))
      (record { ended = e.ended; current = received_current octets e.current })
  octets_lead octets q e t = record {
    may = (tt, tt);
    line = refl;
    exchanges = refl;
    matches = laws.line.octets p.link p.addresses q e octets t;
  }

  -- Each log

  pub record Made (log : Log) (c : Course) : Type 0 where
    pub calls : List Call
    pub shown : CallsOf p log calls
    pub leads : Leads p (new_line p) no_exchanges calls c.works.serial.line (exchanges_of p log)

  come : (log : Log) (now : ℕ) (event : Input) (before left c : Course) → Runs p log before
      → HasTakenAll (present log) before.talk → IsLeft p log before left → Made log before
      → (r : Primary) → c.works.serial.line ≡ r
      → (Matches p.link p.addresses left.works.serial.line (exchanges_of p log)
      → Leads p left.works.serial.line (exchanges_of p log)
      (event_calls p (latest (Came now event ∷ log)) event (exchanges_of p log)) r
      (exchanges_of p (Came now event ∷ log)))
      → Made (Came now event ∷ log) c
  come log now event before left c r all l made q is leads =
      let e : Ends laws p log before.works.serial.line (exchanges_of p log) left.works.serial.line =
      ends laws p log before left r all l made.leads.matches in
      let events : List Call =
      event_calls p (latest (Came now event ∷ log)) event (exchanges_of p log) in
      record {
        calls = (made.calls ++ e.calls) ++ events;
        shown = (made.calls, e.calls, made.shown, e.shown, refl);
        leads = subst (λ (x : Primary). Leads p (new_line p) no_exchanges
            ((made.calls ++ e.calls) ++ events) x (exchanges_of p (Came now event ∷ log))) (sym is)
            (leads_on p (new_line p) left.works.serial.line q no_exchanges (exchanges_of p log)
            (exchanges_of p (Came now event ∷ log)) (made.calls ++ e.calls) events
            (leads_on p (new_line p) before.works.serial.line left.works.serial.line no_exchanges
            (exchanges_of p log) (exchanges_of p log) made.calls e.calls made.leads e.leads)
            (leads e.leads.matches));
      }

  received_leads : (octets : List ℕ) (at : ℕ) (q : Primary) (e : Exchanges)
      → Matches p.link p.addresses q e
      → Leads p q e (Octets octets ∷ Due at ∷ []) (called (called q (Octets octets)) (Due at))
      (record {
        ended = e.ended;
        current = timed_current p.link.answer_ms at (received_current octets e.current);
      })
  received_leads octets at q e t =
      let arrived : Exchanges = record {
        ended = e.ended;
        current = received_current octets e.current;
      } in
      let first : Leads p q e (Octets octets ∷ []) (called q (Octets octets)) arrived =
      octets_lead octets q e t in
      leads_on p q (called q (Octets octets)) (called (called q (Octets octets)) (Due at)) e arrived
      (record { ended = e.ended; current = timed_current p.link.answer_ms at arrived.current })
      (Octets octets ∷ []) (Due at ∷ []) first
      (due_leads at (called q (Octets octets)) arrived first.matches)

  -- a connection is closed

  closed_line : (cause : Close) (is_open : Bool) (at : ℕ) (c : Course)
      → (closed_course p cause is_open at c).works.serial.line ≡ c.works.serial.line
  closed_line Grammar is_open at c = refl
  closed_line SendNumber is_open at c = refl
  closed_line ReceiveNumber is_open at c = refl
  closed_line Stopped is_open at c = refl
  closed_line OwnAnswers is_open at c = refl
  closed_line Timeout is_open at c = settled_line laws p at c.works
  closed_line Replaced is_open at c = refl

  -- what goes to TCP leaves the line as it is
  stay_so : (log : Log) (before c : Course) (made : Made log before)
      → c.works.serial.line ≡ before.works.serial.line
      → Leads p (new_line p) no_exchanges made.calls c.works.serial.line (exchanges_of p log)
  stay_so log before c made same =
      subst (λ (q : Primary). Leads p (new_line p) no_exchanges made.calls q (exchanges_of p log))
      (sym same) made.leads

  -- a request goes out
  sent : (found : AreFound p.addresses) (log : Log) (now : ℕ) (octets : List ℕ)
      (before c : Course) → now ≡ latest log → Runs p log before → SendsNext p log octets before c
      → Made log before → Made (Went now (LineOut octets) ∷ log) c
  sent found log now octets before c moment r sends made =
      let at : ℕ = latest log in
      let room : Bool = room_in p log before in
      let s : Serial = (settled_works at before.works).serial in
      let e : Exchanges = exchanges_of p log in
      let calls : List Call = Next at room (waiting_by p before.works.history) ∷ [] in
      let matches : Matches p.link p.addresses s.line e =
      subst (λ (q : Primary). Matches p.link p.addresses q e)
      (sym (settled_line laws p at before.works)) made.leads.matches in
      let read : sending_in p octets ≡ Some sends.request =
      ap (sending_in p) sends.spelled_so
      ∙ request_back laws.line p s.line log room (waiting_in s.commands) sends.request
      (line_fits laws p log before r at room e matches) found matches sends.next in
      let same : begun_by now (sending_in p octets) e ≡ begun_by at (next_request room s) e =
      ap (λ (n : ℕ). begun_by n (sending_in p octets) e) moment
      ∙ ap (λ (o : Option Sending). begun_by at o e) (read ∙ sym sends.next) in
      record {
        calls = made.calls ++ calls;
        shown = (made.calls, calls, made.shown, asks laws p log before r sends.all, refl);
        leads = subst (λ (d : Course). Leads p (new_line p) no_exchanges (made.calls ++ calls)
            d.works.serial.line (begun_by now (sending_in p octets) e)) (sym sends.is)
            (subst (λ (d : Exchanges). Leads p (new_line p) no_exchanges (made.calls ++ calls)
            (serial.asked at room None s).line d) (sym same)
            (leads_on p (new_line p) before.works.serial.line (serial.asked at room None s).line
            no_exchanges e (begun_by at (next_request room s) e) made.calls calls made.leads
            (asking laws p log before r at room e made.leads.matches)));
      }

  pub makes : AreFound p.addresses → Matches p.link p.addresses (new_line p) no_exchanges
      → (log : Log) (c : Course) → Runs p log c → ActsRightly p log → Made log c
  makes found starts [] c r acts = record {
    calls = [];
    shown = refl;
    leads = subst (λ (d : Course). Leads p (new_line p) no_exchanges [] d.works.serial.line
        no_exchanges) (sym r) (leads_nowhere p (new_line p) no_exchanges starts);
  }
  makes found starts (Came now (LineIn octets) ∷ log) c r acts =
      let at : ℕ = latest (Came now (LineIn octets) ∷ log) in
      come log now (LineIn octets) r.0 r.1 c r.2 r.3 r.4 (makes found starts log r.0 r.2 acts)
      (called (called r.1.works.serial.line (Octets octets)) (Due at))
      (ap (λ (d : Course). d.works.serial.line) r.5.2
      ∙ ap (λ (q : Primary). called q (Due at))
      (learnt_line _ _ _ (octets_works octets r.1.works) r.5.0 r.5.1))
      (received_leads octets at r.1.works.serial.line (exchanges_of p log))
  makes found starts (Came now (TcpIn octets) ∷ log) c r acts =
      let at : ℕ = latest (Came now (TcpIn octets) ∷ log) in
      come log now (TcpIn octets) r.0 r.1 c r.2 r.3 r.4 (makes found starts log r.0 r.2 acts)
      (called r.1.works.serial.line (Due at))
      (ap (λ (d : Course). d.works.serial.line) r.5.taken
      ∙ ap (λ (s : Serial). s.line) (frames_others p r.5.frames _ _ _))
      (due_leads at r.1.works.serial.line (exchanges_of p log))
  makes found starts (Came now Ticked ∷ log) c r acts =
      let at : ℕ = latest (Came now Ticked ∷ log) in
      come log now Ticked r.0 r.1 c r.2 r.3 r.4 (makes found starts log r.0 r.2 acts)
      (called r.1.works.serial.line (Due at)) (ap (λ (d : Course). d.works.serial.line) r.5)
      (due_leads at r.1.works.serial.line (exchanges_of p log))
  makes found starts (Came now (WallIs number) ∷ log) c r acts =
      let at : ℕ = latest (Came now (WallIs number) ∷ log) in
      come log now (WallIs number) r.0 r.1 c r.2 r.3 r.4 (makes found starts log r.0 r.2 acts)
      (called r.1.works.serial.line (Due at)) (ap (λ (d : Course). d.works.serial.line) r.5)
      (due_leads at r.1.works.serial.line (exchanges_of p log))
  makes found starts (Came now Opened ∷ log) c r acts =
      let at : ℕ = latest (Came now Opened ∷ log) in
      come log now Opened r.0 r.1 c r.2 r.3 r.4 (makes found starts log r.0 r.2 acts)
      (called r.1.works.serial.line (Due at)) (ap (λ (d : Course). d.works.serial.line) r.5)
      (due_leads at r.1.works.serial.line (exchanges_of p log))
  makes found starts (Came now CutOff ∷ log) c r acts =
      let at : ℕ = latest (Came now CutOff ∷ log) in
      come log now CutOff r.0 r.1 c r.2 r.3 r.4 (makes found starts log r.0 r.2 acts)
      (called r.1.works.serial.line (Due at)) (ap (λ (d : Course). d.works.serial.line) r.5)
      (due_leads at r.1.works.serial.line (exchanges_of p log))
  makes found starts (Came now Restarted ∷ log) c r acts =
      come log now Restarted r.0 r.1 c r.2 r.3 r.4 (makes found starts log r.0 r.2 acts)
      (line.doubted (line.without_commands r.1.works.serial.line))
      (ap (λ (d : Course). d.works.serial.line) r.5.1
      ∙ ap (λ (s : Serial). s.line) (restarted_serial r.1.works)
      ∙ line_is r.1.works.serial)
      (λ t. doubt_leads r.1.works.serial.line (exchanges_of p log)
      (give_ups p (length p.addresses) (exchanges_of p log))
      (line.without_commands r.1.works.serial.line) _
      (subst (λ (n : ℕ). Leads p r.1.works.serial.line (exchanges_of p log)
      (give_ups p n (exchanges_of p log))
      (line.without_commands r.1.works.serial.line)
      (given_up_upto p.link (front_of p.link.size) p.addresses n (exchanges_of p log))) t.count
      (give_up_leads (length r.1.works.serial.line.stations) r.1.works.serial.line
      (exchanges_of p log) (omega arith) t).1))
  makes found starts (Went now (LineOut octets) ∷ log) c r acts =
      sent found log now octets r.0 c acts.0.moment r.1 r.2 (makes found starts log r.0 r.1 acts.1)
  makes found starts (Went now (GapOut station session) ∷ log) c r acts =
      let made : Made log r.0 = makes found starts log r.0 r.1 acts.1 in
      record {
        calls = made.calls;
        shown = made.shown;
        leads = stay_so log r.0 c made (ap (λ (d : Course). d.works.serial.line) r.2.is);
      }
  makes found starts (Went now (TcpOut octets) ∷ log) c r acts =
      let made : Made log r.0 = makes found starts log r.0 r.2 acts.1 in
      record {
        calls = made.calls;
        shown = made.shown;
        leads = stay_so log r.0 c made (ap (λ (d : Course). d.works.serial.line) r.4.taken
            ∙ ap (λ (s : Serial). s.line) (frames_others p r.4.frames _ _ r.1)
            ∙ ap (λ (d : Course). d.works.serial.line) r.3.put
            ∙ ap (λ (s : Serial). s.line) (sent_others r.3.frame r.0.works));
      }
  makes found starts (Went now (Closed cause) ∷ log) c r acts =
      let made : Made log r.0 = makes found starts log r.0 r.1 acts.1 in
      record {
        calls = made.calls;
        shown = made.shown;
        leads = stay_so log r.0 c made (ap (λ (d : Course). d.works.serial.line) r.2
            ∙ closed_line cause (present log).is_open (latest log) r.0);
      }
