-- The course of a log and the exchanges of its line are one story: from entry to entry.
use Rattle.std.specs.Prelude.{not, option_and_then, option_map}
use Rattle.std.proofs.Common.{◌≡◌, ℕ, Bool, true, false, List, [], ◌∷◌, Option, Some, None, refl}
use Rattle.std.proofs.Common.{ap, sym, subst, ◌∙◌, if◌then◌else◌}
use Rattle.std.proofs.lemmas.Bool.{and_parts}
use Rattle.ft12.specs.Fronts.{front_of}
use Rattle.ft12.specs.Spelling as line
use Rattle.asdu.specs.Asdu.{AsduValue}
use Rattle.apci.specs.declared.apdu.Apdu.{Apdu}
use Rattle.link.specs.declared.service.Service.TheVariants.{Command}
use Rattle.link.specs.declared.service.Asked.TheVariants.{Counted}
use Rattle.link.specs.Carried.{commands_given_up}
use Rattle.std.specs.Io.Iter.{u64_saturate}
use Rattle.link.specs.Exchanges.{Exchanges, Sending, begun_by, received_current, timed_current}
use Rattle.link.specs.Exchanges.{reports_of_exchanges}
use Rattle.link.specs.Procedure.{is_held}
use Rattle.link.specs.Requests.{request_frame, request_in}
use Rattle.link.specs.Runs.{FitsLine}
use Rattle.link.specs.Turns.{CommandsWaiting, station_at}
use Rattle.link.specs.Primary.{Primary, asked, sending, due_outcome, is_command}
use Rattle.link.specs.Matching.{Matches}
use Rattle.session.specs.declared.kinds.Close.{Close}
use Rattle.session.specs.declared.kinds.Close.TheVariants.{Grammar, SendNumber, ReceiveNumber}
use Rattle.session.specs.declared.kinds.Close.TheVariants.{Stopped, Timeout, OwnAnswers, Replaced}
use Rattle.command.specs.State.{octets_waiting}
use Rattle.command.specs.Calls.{Cut}
use Rattle.gateway.specs.Log.{Log, Came, Went, Opened, LineIn, TcpIn, CutOff, Ticked, WallIs}
use Rattle.gateway.specs.Log.{Restarted, LineOut, TcpOut, Closed, GapOut, latest}
use Rattle.gateway.specs.Streams.{AllFit}
use Rattle.gateway.specs.Connections.{present}
use Rattle.gateway.specs.Reports.{Setup, address_at, sent_to, sending_in, exchanges_of}
use Rattle.gateway.specs.Traffic.{ActsRightly}
use Rattle.gateway.specs.Serial.{answer_outcome, is_first_command, next_request, waiting_in}
use Rattle.gateway.specs.Works.{Works, tasks_of, LearnsOf, octets_works, begun_works, cut_works}
use Rattle.gateway.specs.Works.{gapless_works, settled_works, unasked_works}
use Rattle.gateway.specs.Works.{done_works, put_first, unless_silent_works, asked_works}
use Rattle.gateway.specs.Works.{restarted_works}
use Rattle.gateway.specs.Course.{Course, with_frames, with_sent, closed_course, with_works, IsLeft}
use Rattle.gateway.specs.Course.{SendsNext, room_in, Runs}
use Rattle.delivery.specs.Joined.{IsSetUp, mirrored_in, command_reports, skipped_among, AreValues}
use Rattle.gateway.proofs.Waiting.{AnswersStay}
use Rattle.delivery.proofs.History.{line_logged, WaitsFit, one_fits}
use Rattle.delivery.proofs.Exchanging.{exchanges_at, IsLogged, stays_logged}
use Rattle.delivery.specs.LinkLaws.{LinkLaws}
use Rattle.delivery.proofs.Line.{received_logged, asked_logged, timed_logged}
use Rattle.delivery.proofs.Works.{all_logged, IsAllLogged, logged_alike, silent_logged, IsLearnt}
use Rattle.delivery.proofs.Works.{learnt_of}
use Rattle.delivery.proofs.Works.{IsQuiet, received_quiet, received_line, sent_quiet, sent_line}
use Rattle.delivery.proofs.Works.{settled_quiet, settled_line, put_logged}
use Rattle.delivery.proofs.Works.{put_mirrors}
use Rattle.delivery.proofs.Works.{put_fits}
use Rattle.gateway.proofs.Called.{taken_fit}
use Rattle.gateway.proofs.Lending.{waiting_data}
use Rattle.delivery.proofs.Restarts.{IsGiven, all_given}

-- the works are what these exchanges make them
pub record Joins (p : Setup) (e : Exchanges) (w : Works) : Type 0 where
  pub matches : Matches p.link p.addresses w.serial.line e
  pub logged : (k : ℕ)
      → IsLogged p.link (address_at p.addresses k) (exchanges_at (front_of p.link.size) k e) k
      (all_logged w)
  pub left : IsAllLogged w
  pub mirrors : AreValues p.sizes (mirrored_in w.history)
      (command_reports p.sizes (reports_of_exchanges (front_of p.link.size) (address_at p.addresses)
      e))
  pub fits : WaitsFit p w.serial.commands
  pub skips : w.serial.counts.skipped
      ≡ u64_saturate
      (skipped_among p.sizes (reports_of_exchanges (front_of p.link.size) (address_at p.addresses)
      e))

module _ (laws : LinkLaws) (stay : AnswersStay) (p : Setup) where
  abbrev reports_by : Exchanges → List (ℕ × List ℕ)
  reports_by e = reports_of_exchanges (front_of p.link.size) (address_at p.addresses) e

  quiet_joins : (e : Exchanges) (w z : Works) → Matches p.link p.addresses z.serial.line e
      → IsQuiet p w z → Joins p e w
      → Joins p e z
  quiet_joins e w z matches q j = record {
    matches = matches;
    logged = λ k. stays_logged p.link (address_at p.addresses k)
        (exchanges_at (front_of p.link.size) k e) k (all_logged w)
        (all_logged z) (q.logged k) (j.logged k);
    left = q.left j.left;
    mirrors =
        subst (λ (vs : List AsduValue). AreValues p.sizes vs
        (command_reports p.sizes (reports_by e)))
        (sym q.mirrors) j.mirrors;
    fits = q.fits j.fits;
    skips = q.skips ∙ j.skips;
  }

  -- Frames

  frames_join : (frames : List Apdu) (now : ℕ) (wall : Option ℕ) (e : Exchanges) (c : Course)
      → AllFit frames
      → Joins p e c.works → Joins p e (with_frames p frames now wall c).works
  frames_join [] now wall e c fit j = j
  frames_join (frame ∷ frames) now wall e c fit j =
      let before : Joins p e (with_frames p frames now wall c).works =
      frames_join frames now wall e c fit.1 j in
      quiet_joins e (with_frames p frames now wall c).works
      (with_frames p (frame ∷ frames) now wall c).works
      (subst (λ (q : Primary). Matches p.link p.addresses q e)
      (sym (received_line frame now wall (with_frames p frames now wall c).works)) before.matches)
      (received_quiet stay p frame now wall (with_frames p frames now wall c).works fit.0) before

  sent_joins : (frame : Apdu) (now : ℕ) (e : Exchanges) (c : Course) → Joins p e c.works
      → Joins p e (with_sent frame now c).works
  sent_joins frame now e c j = quiet_joins e c.works (with_sent frame now c).works
      (subst (λ (q : Primary). Matches p.link p.addresses q e) (sym (sent_line frame c.works))
      j.matches)
      (sent_quiet stay p frame c.works) j

  cut_joins : (e : Exchanges) (w : Works) → Joins p e w → Joins p e (cut_works w)
  cut_joins e w j =
      quiet_joins e w (cut_works w) j.matches
      (record {
        logged = λ k. logged_alike k w.serial.silent w (cut_works w) refl;
        left = λ h. h;
        mirrors = refl;
        fits =
            λ f. one_fits stay p Cut (tasks_of w) tt f;
        skips = refl;
      }) j

  settled_joins : (at : ℕ) (e : Exchanges) (w : Works) → Joins p e w
      → Joins p e (settled_works at w)
  settled_joins at e w j = quiet_joins e w (settled_works at w)
      (subst (λ (q : Primary). Matches p.link p.addresses q e) (sym (settled_line at w)) j.matches)
      (settled_quiet stay p at w) j

  -- what may go out fits the line
  fits_line : (room : Bool) (e : Exchanges) (w : Works) → Joins p e w
      → FitsLine w.serial.line room (waiting_in w.serial.commands)
  fits_line room e w j =
      laws.carried p.link p.addresses w.serial.line e room (waiting_in w.serial.commands)
      (waiting_data p.link.size w.serial.commands j.fits) j.matches

  -- An event's moment and octets

  timed_joins : (at : ℕ) (e : Exchanges) (w : Works) → w.serial.silent ≡ None → Joins p e w
      → Joins p (record { ended = e.ended; current = timed_current p.link.answer_ms at e.current })
      (begun_works at w)
  timed_joins at e w none j = record {
    matches = laws.due p.link p.addresses w.serial.line e at j.matches;
    logged = λ k. timed_logged laws p w.serial.line e j.matches at k w.history
        (all_logged (begun_works at w))
        (silent_logged k (due_outcome w.serial.line at) (begun_works at w))
        (subst (λ (o : Option ℕ). IsLogged p.link (address_at p.addresses k)
        (exchanges_at (front_of p.link.size) k e) k
        (unless_silent_works o w).history) none (j.logged k));
    left = λ due. cc;
    mirrors =
        subst (λ (l : List (ℕ × List ℕ)). AreValues p.sizes (mirrored_in w.history)
        (command_reports p.sizes l))
        (sym (laws.due_reports p.link.size (address_at p.addresses) p.link.answer_ms at e))
        j.mirrors;
    fits = j.fits;
    skips = j.skips ∙ ap (λ (l : List (ℕ × List ℕ)). u64_saturate (skipped_among p.sizes l))
        (sym (laws.due_reports p.link.size (address_at p.addresses) p.link.answer_ms at e));
  }

  received_joins : (octets : List ℕ) (at : ℕ) (running : Bool) (e : Exchanges) (w z : Works)
      → LearnsOf p at running (answer_outcome octets w.serial) (octets_works octets w) z
      → w.serial.silent ≡ None
      → Joins p e w →
      (z.serial.silent ≡ None)
      × Joins p (record { ended = e.ended; current = received_current octets e.current }) z
  received_joins octets at running e w z learns none j =
      let learnt : IsLearnt p (answer_outcome octets w.serial) (octets_works octets w) z =
      learnt_of stay p at running (answer_outcome octets w.serial) (octets_works octets w) z
      learns in
      let quiet : z.serial.silent ≡ None = learnt.silent ∙ none in (
        quiet,
        record {
          matches = subst (λ (q : Primary). Matches p.link p.addresses q
              (record { ended = e.ended; current = received_current octets e.current }))
              (sym learnt.line)
              (laws.octets p.link p.addresses w.serial.line e octets j.matches);
          logged = λ k. received_logged laws p w.serial.line e j.matches octets k w.history
              (all_logged z)
              (ap (λ (o : Option ℕ). line_logged k (unless_silent_works o z).history) quiet
              ∙ learnt.logged k)
              (subst (λ (o : Option ℕ). IsLogged p.link (address_at p.addresses k)
              (exchanges_at (front_of p.link.size) k e) k (unless_silent_works o w).history) none
              (j.logged k));
          left = λ due. quiet;
          mirrors = subst (λ (l : List (ℕ × List ℕ)). AreValues p.sizes (mirrored_in z.history)
              (command_reports p.sizes l))
              (sym (laws.octets_report p.link p.addresses w.serial.line e octets j.matches))
              (learnt.mirrors (reports_by e) j.mirrors);
          fits = learnt.fits j.fits;
          skips = learnt.skips (reports_by e) j.skips ∙ ap
              (λ (l : List (ℕ × List ℕ)). u64_saturate (skipped_among p.sizes l))
              (sym (laws.octets_report p.link p.addresses w.serial.line e octets j.matches));
        },
      )

  -- A restart

  restarted_joins : (e : Exchanges) (w : Works) → w.serial.silent ≡ None → Joins p e w
      → Joins p (commands_given_up p.link (front_of p.link.size) p.addresses e) (restarted_works w)
  restarted_joins e w none j =
      let g : IsGiven p w (restarted_works w)
      (commands_given_up p.link (front_of p.link.size) p.addresses e) =
      all_given laws stay p w e (record {
        matches = j.matches;
        logged = λ k. subst (λ (o : Option ℕ). IsLogged p.link (address_at p.addresses k)
            (exchanges_at (front_of p.link.size) k e) k (unless_silent_works o w).history) none
            (j.logged k);
        silent = none;
        fits = j.fits;
        mirrored = refl;
        skipped = refl;
      }) in
      let same = laws.given_reports p.link p.link.size p.addresses (address_at p.addresses) e in
      record {
        matches = g.matches;
        logged = λ k. subst (λ (o : Option ℕ). IsLogged p.link (address_at p.addresses k)
            (exchanges_at (front_of p.link.size) k
            (commands_given_up p.link (front_of p.link.size) p.addresses e)) k
            (unless_silent_works o (restarted_works w)).history) (sym g.silent) (g.logged k);
        left = λ due. g.silent;
        mirrors = subst (λ (vs : List AsduValue). AreValues p.sizes vs (command_reports p.sizes
            (reports_by (commands_given_up p.link (front_of p.link.size) p.addresses e))))
            (sym g.mirrored)
            (subst (λ (l : List (ℕ × List ℕ)). AreValues p.sizes (mirrored_in w.history)
            (command_reports p.sizes l)) (sym same) j.mirrors);
        fits = g.fits;
        skips = g.skipped ∙ j.skips
            ∙ ap (λ (l : List (ℕ × List ℕ)). u64_saturate (skipped_among p.sizes l)) (sym same);
      }

  -- The step before is done

  done_joins : (at : ℕ) (room : Bool) (e : Exchanges) (w : Works)
      → (w.is_due ≡ true → next_request room (settled_works at w).serial ≡ None) → Joins p e w
      → ((done_works at room w).serial.silent ≡ None) × Joins p e (done_works at room w)
  done_joins at room e w none j = go w.is_due refl
    where
      z : Works
      z = settled_works at w

      unasked : next_request room z.serial ≡ None → Joins p e (unasked_works at room z)
      unasked is =
          let r : Joins p e z = settled_joins at e w j in
          quiet_joins e z (unasked_works at room z)
          (subst (λ (o : Option Sending). Matches p.link p.addresses
          (asked z.serial.line at room (waiting_in z.serial.commands))
          (begun_by at o e)) is (laws.next p.link p.addresses z.serial.line e at
          room (waiting_in z.serial.commands) (fits_line room e z r) r.matches))
          (record {
            logged = λ k. refl;
            left = λ h due. refl;
            mirrors = refl;
            fits = λ f. f;
            skips =
                refl;
          }) r

      go : (b : Bool) → w.is_due ≡ b
          → ((if b then unasked_works at room (settled_works at w) else w).serial.silent
          ≡ None) × Joins p e (if b then unasked_works at room (settled_works at w) else w)
      go true is = (refl, unasked (none is))
      go false is = (j.left is, j)

  pub left_joins : (log : Log) (before after : Course) (e : Exchanges) → IsLeft p log before after
      → Joins p e before.works
      → (after.works.serial.silent ≡ None) × Joins p e after.works
  left_joins log before after e left j = subst (λ (c : Course). (c.works.serial.silent ≡ None)
      × Joins p e c.works)
      (sym left.is) (done_joins (latest log) (room_in p log before) e before.works left.none j)

  -- A request goes out

  back : (q : Primary) (e : Exchanges) (may : Bool) (waiting : CommandsWaiting) (s : Sending)
      → IsSetUp p → FitsLine q may waiting → Matches p.link p.addresses q e
      → sending q may waiting ≡ Some s
      → sending_in p
      (line.spelling p.link.size (request_frame (address_at p.addresses s.station) s.request))
      ≡ Some s
  back q e may waiting s set carried h is =
      let fits = laws.fit p.link p.addresses q e may waiting s carried h is in
      let reads : request_in p.link.size (line.spelling p.link.size
      (request_frame (address_at p.addresses s.station) s.request))
      ≡ Some (address_at p.addresses s.station, s.request) =
      laws.back p.link.size (address_at p.addresses s.station) s.request fits.address
      fits.request in
      ap (option_and_then (sent_to p.addresses)) reads
      ∙ ap (option_map (λ (i : ℕ). let made : Sending =
      record { station = i; request = s.request } in made))
      (set.found s.station fits.station)

  -- a command that goes out for the first time is the one that waits
  command_waits : (room : Bool) (s : Sending) (w : Works) → next_request room w.serial ≡ Some s
      → (fcb : Bool) (asdu : List ℕ) → s.request ≡ Counted fcb (Command asdu)
      → is_first_command w.serial.line s ≡ true
      → octets_waiting s.station w.serial.commands ≡ Some asdu
  command_waits room s w is fcb asdu request first =
      laws.begun w.serial.line room (waiting_in w.serial.commands) s fcb asdu is request
      (not-true (is_held (station_at w.serial.line.stations s.station).link)
      (and_parts (is_command s.request)
      (not (is_held (station_at w.serial.line.stations s.station).link)) first).1)
    where
      not-true : (b : Bool) → not b ≡ true → b ≡ false
      not-true true h = cc
      not-true false h = refl

  asked_joins : (at : ℕ) (room : Bool) (s : Sending) (e : Exchanges) (w : Works)
      → next_request room w.serial ≡ Some s → w.serial.silent ≡ None → Joins p e w
      → Joins p (begun_by at (Some s) e) (asked_works at room s w)
  asked_joins at room s e w is none j = record {
    matches =
        subst (λ (o : Option Sending). Matches p.link p.addresses
        (asked w.serial.line at room (waiting_in w.serial.commands)) (begun_by at o e)) is
        (laws.next p.link p.addresses w.serial.line e at room (waiting_in w.serial.commands)
        (fits_line room e w j) j.matches);
    logged = λ k. subst (λ (o : Option ℕ). IsLogged p.link (address_at p.addresses k)
        (exchanges_at (front_of p.link.size) k (begun_by at (Some s) e)) k
        (unless_silent_works o (asked_works at room s w)).history)
        (sym none)
        (asked_logged laws p w.serial.line e j.matches room (waiting_in w.serial.commands) s at k
        w.history (put_first (is_first_command w.serial.line s) s.station (tasks_of w)).history
        (fits_line room e w j) is
        (put_logged (is_first_command w.serial.line s) s.station s.request w k
        (λ first. (and_parts (is_command s.request)
        (not (is_held (station_at w.serial.line.stations s.station).link)) first).0)
        (command_waits room s w is))
        (subst (λ (o : Option ℕ). IsLogged p.link (address_at p.addresses k)
        (exchanges_at (front_of p.link.size) k e) k
        (unless_silent_works o w).history) none (j.logged k)));
    left = λ due. none;
    mirrors = subst (λ (vs : List AsduValue). AreValues p.sizes vs
        (command_reports p.sizes (reports_by (begun_by at (Some s) e))))
        (sym (put_mirrors (is_first_command w.serial.line s) s.station w))
        (subst (λ (l : List (ℕ × List ℕ)). AreValues p.sizes (mirrored_in w.history)
        (command_reports p.sizes l))
        (sym (laws.next_reports p.link.size (address_at p.addresses) at (Some s) e)) j.mirrors);
    fits = put_fits stay p (is_first_command w.serial.line s) s.station w j.fits;
    skips = j.skips ∙ ap (λ (l : List (ℕ × List ℕ)). u64_saturate (skipped_among p.sizes l))
        (sym (laws.next_reports p.link.size (address_at p.addresses) at (Some s) e));
  }

  sends_joins : (set : IsSetUp p) (log : Log) (now : ℕ) (octets : List ℕ) (before after : Course)
      → now ≡ latest log
      → SendsNext p log octets before after →
      Joins p (exchanges_of p log) before.works
      → Joins p (exchanges_of p (Went now (LineOut octets) ∷ log)) after.works
  sends_joins set log now octets before after moment sends j =
      let ready : Joins p (exchanges_of p log) (settled_works (latest log) before.works) =
      settled_joins (latest log) (exchanges_of p log) before.works j in
      let read : sending_in p octets ≡ Some sends.request =
      ap (λ (xs : List ℕ). sending_in p xs) sends.spelled_so
      ∙ back (settled_works (latest log) before.works).serial.line (exchanges_of p log)
      (room_in p log before)
      (waiting_in (settled_works (latest log) before.works).serial.commands) sends.request set
      (fits_line (room_in p log before) (exchanges_of p log)
      (settled_works (latest log) before.works) ready) ready.matches sends.next in
      let made : Joins p (begun_by (latest log) (Some sends.request) (exchanges_of p log))
      (asked_works (latest log) (room_in p log before) sends.request
      (settled_works (latest log) before.works)) =
      asked_joins (latest log) (room_in p log before) sends.request (exchanges_of p log)
      (settled_works (latest log) before.works) sends.next refl ready in
      subst (λ (c : Course). Joins p (exchanges_of p (Went now (LineOut octets) ∷ log)) c.works)
      (sym sends.is)
      (subst
      (λ (e : Exchanges). Joins p e (asked_works (latest log) (room_in p log before) sends.request
      (settled_works (latest log) before.works)))
      (sym (ap (λ (o : Option Sending). begun_by now o (exchanges_of p log)) read
      ∙ ap (λ (n : ℕ). begun_by n (Some sends.request) (exchanges_of p log)) moment)) made)

  closed_joins : (cause : Close) (is_open : Bool) (at : ℕ) (e : Exchanges) (c : Course)
      → Joins p e c.works
      → Joins p e (closed_course p cause is_open at c).works
  closed_joins Grammar is_open at e c j = cut_joins e c.works j
  closed_joins SendNumber is_open at e c j = cut_joins e c.works j
  closed_joins ReceiveNumber is_open at e c j = cut_joins e c.works j
  closed_joins Stopped is_open at e c j = cut_joins e c.works j
  closed_joins Timeout is_open at e c j =
      cut_joins e (settled_works at c.works) (settled_joins at e c.works j)
  closed_joins OwnAnswers is_open at e c j = cut_joins e c.works j
  closed_joins Replaced is_open at e c j = j

  -- Each log

  moment_of : (log : Log) (now : ℕ) (octets : List ℕ)
      → ActsRightly p (Went now (LineOut octets) ∷ log)
      → now ≡ latest log
  moment_of log now octets acts = acts.0.moment

  pub joins : (set : IsSetUp p) (log : Log) (c : Course) → Runs p log c → ActsRightly p log
      → Joins p (exchanges_of p log) c.works
  joins set [] c r acts = subst (λ (x : Course). Joins p (exchanges_of p []) x.works) (sym r)
      (record {
        matches = laws.begins p.link p.addresses set.some set.fit;
        logged = λ k. record { steps = refl; last = λ asdu e. cc; sent = refl };
        left = λ due. refl;
        mirrors = tt;
        fits = tt;
        skips = refl;
      })
  joins set (Came now (LineIn octets) ∷ log) c r acts =
      let at : ℕ = latest (Came now (LineIn octets) ∷ log) in
      let left : (r.1.works.serial.silent ≡ None) × Joins p (exchanges_of p log) r.1.works =
      left_joins log r.0 r.1 (exchanges_of p log) r.4 (joins set log r.0 r.2 acts) in
      subst (λ (x : Course). Joins p (exchanges_of p (Came now (LineIn octets) ∷ log)) x.works)
      (sym r.5.2)
      (timed_joins at (record {
        ended = (exchanges_of p log).ended;
        current =
            received_current octets (exchanges_of p log).current;
      }) r.5.0
      (received_joins octets at _ (exchanges_of p log) r.1.works r.5.0 r.5.1 left.0 left.1).0
      (received_joins octets at _ (exchanges_of p log) r.1.works r.5.0 r.5.1 left.0 left.1).1)
  joins set (Came now (TcpIn octets) ∷ log) c r acts =
      let at : ℕ = latest (Came now (TcpIn octets) ∷ log) in
      let left : (r.1.works.serial.silent ≡ None) × Joins p (exchanges_of p log) r.1.works =
      left_joins log r.0 r.1 (exchanges_of p log) r.4 (joins set log r.0 r.2 acts) in
      subst (λ (x : Course). Joins p (exchanges_of p (Came now (TcpIn octets) ∷ log)) x.works)
      (sym r.5.taken)
      (frames_join r.5.frames at _ (exchanges_of p (Came now (TcpIn octets) ∷ log))
      (with_works (begun_works at r.1.works) r.1)
      (taken_fit p (Came at (TcpIn octets) ∷ log) at r.5.frames
      (with_works (begun_works at r.1.works) r.1) r.5.each)
      (timed_joins at (exchanges_of p log) r.1.works left.0 left.1))
  joins set (Came now Ticked ∷ log) c r acts =
      let at : ℕ = latest (Came now Ticked ∷ log) in
      let left : (r.1.works.serial.silent ≡ None) × Joins p (exchanges_of p log) r.1.works =
      left_joins log r.0 r.1 (exchanges_of p log) r.4 (joins set log r.0 r.2 acts) in
      subst (λ (x : Course). Joins p (exchanges_of p (Came now Ticked ∷ log)) x.works) (sym r.5)
      (timed_joins at (exchanges_of p log) r.1.works left.0 left.1)
  joins set (Came now (WallIs number) ∷ log) c r acts =
      let at : ℕ = latest (Came now (WallIs number) ∷ log) in
      let left : (r.1.works.serial.silent ≡ None) × Joins p (exchanges_of p log) r.1.works =
      left_joins log r.0 r.1 (exchanges_of p log) r.4 (joins set log r.0 r.2 acts) in
      subst (λ (x : Course). Joins p (exchanges_of p (Came now (WallIs number) ∷ log)) x.works)
      (sym r.5)
      (timed_joins at (exchanges_of p log) r.1.works left.0 left.1)
  joins set (Came now Opened ∷ log) c r acts =
      let at : ℕ = latest (Came now Opened ∷ log) in
      let left : (r.1.works.serial.silent ≡ None) × Joins p (exchanges_of p log) r.1.works =
      left_joins log r.0 r.1 (exchanges_of p log) r.4 (joins set log r.0 r.2 acts) in
      subst (λ (x : Course). Joins p (exchanges_of p (Came now Opened ∷ log)) x.works) (sym r.5)
      (cut_joins (exchanges_of p (Came now Opened ∷ log)) (begun_works at r.1.works)
      (timed_joins at (exchanges_of p log) r.1.works left.0 left.1))
  joins set (Came now CutOff ∷ log) c r acts =
      let at : ℕ = latest (Came now CutOff ∷ log) in
      let left : (r.1.works.serial.silent ≡ None) × Joins p (exchanges_of p log) r.1.works =
      left_joins log r.0 r.1 (exchanges_of p log) r.4 (joins set log r.0 r.2 acts) in
      subst (λ (x : Course). Joins p (exchanges_of p (Came now CutOff ∷ log)) x.works) (sym r.5)
      (cut_joins (exchanges_of p (Came now CutOff ∷ log)) (begun_works at r.1.works)
      (timed_joins at (exchanges_of p log) r.1.works left.0 left.1))
  joins set (Came now Restarted ∷ log) c r acts =
      let left : (r.1.works.serial.silent ≡ None) × Joins p (exchanges_of p log) r.1.works =
      left_joins log r.0 r.1 (exchanges_of p log) r.4 (joins set log r.0 r.2 acts) in
      subst (λ (x : Course). Joins p (exchanges_of p (Came now Restarted ∷ log)) x.works)
      (sym r.5.1) (cut_joins (exchanges_of p (Came now Restarted ∷ log))
      (restarted_works r.1.works) (restarted_joins (exchanges_of p log) r.1.works left.0 left.1))
  joins set (Went now (LineOut octets) ∷ log) c r acts =
      sends_joins set log now octets r.0 c (moment_of log now octets acts) r.2
      (joins set log r.0 r.1 acts.1)
  joins set (Went now (GapOut station session) ∷ log) c r acts =
      let before : Joins p (exchanges_of p log) r.0.works = joins set log r.0 r.1 acts.1 in
      subst (λ (x : Course). Joins p (exchanges_of p log) x.works) (sym r.2.is)
      (record {
        matches = before.matches;
        logged = λ k. stays_logged p.link (address_at p.addresses k)
            (exchanges_at (front_of p.link.size) k (exchanges_of p log)) k (all_logged r.0.works)
            (all_logged (gapless_works r.0.works)) (logged_alike k r.0.works.serial.silent r.0.works
            (gapless_works r.0.works) refl) (before.logged k);
        left = before.left;
        mirrors = before.mirrors;
        fits =
            before.fits;
        skips = before.skips;
      })
  joins set (Went now (TcpOut octets) ∷ log) c r acts =
      let sent : Joins p (exchanges_of p log) r.1.works =
      subst (λ (x : Course). Joins p (exchanges_of p log) x.works) (sym r.3.put)
      (sent_joins r.3.frame (latest log) (exchanges_of p log) r.0 (joins set log r.0 r.2 acts.1)) in
      subst (λ (x : Course). Joins p (exchanges_of p log) x.works) (sym r.4.taken)
      (frames_join r.4.frames (latest log) _ (exchanges_of p log) r.1
      (taken_fit p (Went now (TcpOut octets) ∷ log) (latest log) r.4.frames r.1 r.4.each) sent)
  joins set (Went now (Closed cause) ∷ log) c r acts =
      subst (λ (x : Course). Joins p (exchanges_of p log) x.works) (sym r.2)
      (closed_joins cause (present log).is_open (latest log) (exchanges_of p log) r.0
      (joins set log r.0 r.1 acts.1))
