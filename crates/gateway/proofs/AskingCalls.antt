-- The calls by which a request is asked for, and those by which a step ends before an event.
use Rattle.std.specs.Prelude.{if◌then◌else◌, option_map}
use Rattle.std.proofs.Common.{◌≡◌, ℕ, ◌<◌, Bool, true, false, List, [], ◌∷◌, ◌++◌}
use Rattle.std.proofs.Common.{length, Option, Some, None, refl, ap, sym, subst, ◌∙◌}
use Rattle.ft12.specs.Fronts.{front_of}
use Rattle.link.specs.declared.settings.LinkSettings.{LinkSettings}
use Rattle.link.specs.Exchanges.{Exchanges, Sending, begun_by, given_up_at}
use Rattle.link.specs.Carried.{awaits_command, awaits_command_in, given_up}
use Rattle.link.specs.Runs.{Call, Next, FitsLine, called, exchanged, MayCallAll, called_all}
use Rattle.link.specs.Runs.{exchanged_all}
use Rattle.link.specs.Turns.{CommandsWaiting}
use Rattle.link.specs.Primary.{Primary, asked, sending}
use Rattle.link.specs.Matching.{Matches}
use Rattle.link.specs.LineLaws.{LineLaws}
use Rattle.command.specs.declared.waiting.Waiting.{Waiting}
use Rattle.command.specs.State.{octets_waiting, oldest}
use Rattle.command.specs.History.{next_octets}
use Rattle.command.specs.Calls.{Run}
use Rattle.command.specs.Laws.{AfterEachRun}
use Rattle.gateway.specs.Log.{Log, LineIn, Opened, TcpIn, CutOff, Ticked, WallIs, Restarted, Came}
use Rattle.gateway.specs.Log.{Went, LineOut, TcpOut, Closed, GapOut, latest}
use Rattle.gateway.specs.Connections.{present}
use Rattle.gateway.specs.Reports.{Setup, exchanges_of}
use Rattle.gateway.specs.Serial as serial
use Rattle.gateway.specs.Serial.{Serial, waiting_in, next_request}
use Rattle.gateway.specs.Works.{unless_silent_works, Works, settled_works, unasked_works}
use Rattle.gateway.specs.Course.{Course, room_in, HasTakenAll, IsLeft, Runs}
use Rattle.gateway.specs.Calling.{is_asking, waiting_by, Asks, EndsStep}
use Rattle.gateway.proofs.Waiting.{AnswersStay}
use Rattle.gateway.proofs.Called.{IsMade, all_made}
use Rattle.gateway.proofs.Lending.{settled_waiting, are_user_data}
use Rattle.gateway.proofs.Order.{frames_due, sent_due, closed_due}
use Rattle.gateway.proofs.Restarting.{restarted_due, done_due}
use Rattle.gateway.proofs.Carrying.{IsForOne}
use Rattle.link.specs.Carried.{doubted}

-- what giving up the link to a station leaves of the exchanges, as `giving_up_is_logged` says it
pub record GivesUpOne : Type 0 where
  pub awaits : (settings : LinkSettings) (addresses : List ℕ) (q : Primary) (e : Exchanges) (k : ℕ)
      → Matches settings addresses q e
      → awaits_command q k ≡ awaits_command_in settings (front_of settings.size) addresses k e
  pub one : (settings : LinkSettings) (addresses : List ℕ) (q : Primary) (e : Exchanges) (k : ℕ)
      → k < length q.stations → Matches settings addresses q e
      → Matches settings addresses (given_up k q) (given_up_at k e)
  pub doubted : (settings : LinkSettings) (addresses : List ℕ) (q : Primary) (e : Exchanges)
      → Matches settings addresses q e → Matches settings addresses (doubted q) e

-- what waits is what was forwarded and wasn't sent, as `commands_are_forwarded` says it
abbrev pub WaitingLaw : Type 0
WaitingLaw = AfterEachRun (λ stations sizes select_ms max_age_ms s h. (k : ℕ)
    → octets_waiting k s ≡ next_octets sizes stations select_ms max_age_ms k h)

pub record Laws : Type 0 where
  pub line : LineLaws
  pub gives_up : GivesUpOne
  pub for_one : IsForOne
  pub waiting : WaitingLaw
  pub stay : AnswersStay

-- Calls behind calls

called_more : (q : Primary) (xs ys : List Call) → called_all q (xs ++ ys)
    ≡ called_all (called_all q xs) ys
called_more q [] ys = refl
called_more q (x ∷ xs) ys = called_more (called q x) xs ys

exchanged_more : (q : Primary) (xs ys : List Call) (e : Exchanges) → exchanged_all q (xs ++ ys) e
    ≡ exchanged_all (called_all q xs) ys (exchanged_all q xs e)
exchanged_more q [] ys e = refl
exchanged_more q (x ∷ xs) ys e = exchanged_more (called q x) xs ys (exchanged q x e)

may_more : (q : Primary) (xs ys : List Call) → MayCallAll q xs → MayCallAll (called_all q xs) ys
    → MayCallAll q (xs ++ ys)
may_more q [] ys h k = k
may_more q (x ∷ xs) ys h k = (h.0, may_more (called q x) xs ys h.1 k)

-- these calls lead from one state of the line to another
pub record Leads (p : Setup) (q : Primary) (e : Exchanges) (calls : List Call) (r : Primary)
    (d : Exchanges) : Type 0 where
  pub may : MayCallAll q calls
  pub line : called_all q calls ≡ r
  pub exchanges : exchanged_all q calls e ≡ d
  pub matches : Matches p.link p.addresses r d

pub leads_on : (p : Setup) (q r s : Primary) (e d f : Exchanges) (xs ys : List Call)
    → Leads p q e xs r d → Leads p r d ys s f → Leads p q e (xs ++ ys) s f
leads_on p q r s e d f xs ys h k = record {
  may = may_more q xs ys h.may (subst (λ x. MayCallAll x ys) (sym h.line) k.may);
  line = called_more q xs ys ∙ ap (λ x. called_all x ys) h.line ∙ k.line;
  exchanges = exchanged_more q xs ys e
      ∙ ap (λ x. exchanged_all x ys (exchanged_all q xs e)) h.line
      ∙ ap (λ x. exchanged_all r ys x) h.exchanges ∙ k.exchanges;
  matches = k.matches;
}

pub leads_nowhere : (p : Setup) (q : Primary) (e : Exchanges) → Matches p.link p.addresses q e
    → Leads p q e [] q e
leads_nowhere p q e t = record { may = tt; line = refl; exchanges = refl; matches = t }

module _ (laws : Laws) (p : Setup) where
  -- What waits

  waiting_is : (log : Log) (c : Course) → Runs p log c → (k : ℕ)
      → octets_waiting k c.works.serial.commands
      ≡ next_octets p.sizes p.stations p.select_ms p.max_age_ms k c.works.history
  waiting_is log c r k =
      let m : IsMade p (latest log) c.works = all_made p log c r in
      subst (λ (r : Run). octets_waiting k r.state
      ≡ next_octets p.sizes p.stations p.select_ms p.max_age_ms k r.history) m.leave
      (laws.waiting p.stations p.sizes p.select_ms p.max_age_ms m.made k)

  -- What waits in the commands is what waits by the history, for each station alike.
  lent_is : (log : Log) (c : Course) → Runs p log c → (at : ℕ)
      → waiting_in (settled_works at c.works).serial.commands ≡ waiting_by p c.works.history
  lent_is log c r at = λ i k. each k i
    where
      each : (k : ℕ) → octets_waiting k (settled_works at c.works).serial.commands
          ≡ next_octets p.sizes p.stations p.select_ms p.max_age_ms k c.works.history
      each k = ap (λ (ws : List Waiting). option_map (λ (w : Waiting). w.octets) (oldest k ws))
          (settled_waiting at c.works) ∙ waiting_is log c r k

  pub settled_line : (at : ℕ) (w : Works) → (settled_works at w).serial.line ≡ w.serial.line
  settled_line at w = by_silent w.serial.silent
    where
      by_silent : (o : Option ℕ) → (unless_silent_works o w).serial.line ≡ w.serial.line
      by_silent None = refl
      by_silent (Some i) = refl

  -- A request is asked for

  -- what goes out fits the line
  pub line_fits : (log : Log) (c : Course) → Runs p log c → (at : ℕ) (room : Bool) (e : Exchanges)
      → Matches p.link p.addresses (settled_works at c.works).serial.line e
      → FitsLine (settled_works at c.works).serial.line room
      (waiting_in (settled_works at c.works).serial.commands)
  line_fits log c r at room e t =
      let s : Serial = (settled_works at c.works).serial in
      laws.line.carried p.link p.addresses s.line e room (waiting_in s.commands)
      (are_user_data laws.stay p log c r at) t

  next_leads : (at : ℕ) (room : Bool) (q : Primary) (waiting : CommandsWaiting) (e : Exchanges)
      → FitsLine q room waiting → Matches p.link p.addresses q e
      → Leads p q e (Next at room waiting ∷ []) (asked q at room waiting)
      (begun_by at (sending q room waiting) e)
  next_leads at room q waiting e fits t = record {
    may = (fits, tt);
    line = refl;
    exchanges = refl;
    matches = laws.line.next p.link p.addresses q e at room waiting fits t;
  }

  pub asking : (log : Log) (c : Course) → Runs p log c → (at : ℕ) (room : Bool) (e : Exchanges)
      → Matches p.link p.addresses c.works.serial.line e
      → Leads p c.works.serial.line e (Next at room (waiting_by p c.works.history) ∷ [])
      (serial.asked at room None (settled_works at c.works).serial).line
      (begun_by at (next_request room (settled_works at c.works).serial) e)
  asking log c r at room e t =
      let s : Serial = (settled_works at c.works).serial in
      let same : s.line ≡ c.works.serial.line = settled_line at c.works in
      let matches : Matches p.link p.addresses s.line e =
      subst (λ (q : Primary). Matches p.link p.addresses q e) (sym same) t in
      subst (λ (q : Primary). Leads p q e (Next at room (waiting_by p c.works.history) ∷ [])
      (serial.asked at room None s).line (begun_by at (next_request room s) e)) same
      (subst (λ (waiting : CommandsWaiting). Leads p s.line e (Next at room waiting ∷ [])
      (serial.asked at room None s).line (begun_by at (next_request room s) e))
      (lent_is log c r at)
      (next_leads at room s.line (waiting_in s.commands) e (line_fits log c r at room e matches)
      matches))

  pub asks : (log : Log) (c : Course) → Runs p log c → HasTakenAll (present log) c.talk
      → Asks p log (Next (latest log) (room_in p log c) (waiting_by p c.works.history) ∷ [])
  asks log c r all = record {
    course = c;
    runs = r;
    all = all;
    are = refl;
  }

  -- a step still asks if its request is due
  due_is : (log : Log) (c : Course) → Runs p log c → c.works.is_due ≡ is_asking log
  due_is [] c r = ap (λ (d : Course). d.works.is_due) r
  due_is (Came now (LineIn octets) ∷ log) c r = ap (λ (d : Course). d.works.is_due) r.5.2
  due_is (Came now (TcpIn octets) ∷ log) c r =
      ap (λ (d : Course). d.works.is_due) r.5.taken ∙ frames_due p r.5.frames _ _ _
  due_is (Came now Ticked ∷ log) c r = ap (λ (d : Course). d.works.is_due) r.5
  due_is (Came now (WallIs number) ∷ log) c r = ap (λ (d : Course). d.works.is_due) r.5
  due_is (Came now Opened ∷ log) c r = ap (λ (d : Course). d.works.is_due) r.5
  due_is (Came now CutOff ∷ log) c r = ap (λ (d : Course). d.works.is_due) r.5
  due_is (Came now Restarted ∷ log) c r =
      ap (λ (d : Course). d.works.is_due) r.5.1 ∙ restarted_due r.1.works
      ∙ ap (λ (d : Course). d.works.is_due) r.4.is
      ∙ done_due (latest log) (room_in p log r.0) r.0.works
  due_is (Went now (LineOut octets) ∷ log) c r = ap (λ (d : Course). d.works.is_due) r.2.is
  due_is (Went now (GapOut station session) ∷ log) c r =
      ap (λ (d : Course). d.works.is_due) r.2.is ∙ due_is log r.0 r.1
  due_is (Went now (TcpOut octets) ∷ log) c r =
      ap (λ (d : Course). d.works.is_due) r.4.taken ∙ frames_due p r.4.frames _ _ r.1
      ∙ ap (λ (d : Course). d.works.is_due) r.3.put ∙ sent_due r.3.frame r.0.works
      ∙ due_is log r.0 r.2
  due_is (Went now (Closed cause) ∷ log) c r =
      ap (λ (d : Course). d.works.is_due) r.2
      ∙ closed_due p cause (present log).is_open (latest log) r.0 ∙ due_is log r.0 r.1

  -- the step before an event ends
  pub record Ends (log : Log) (q : Primary) (e : Exchanges) (r : Primary) : Type 0 where
    pub calls : List Call
    pub shown : EndsStep p log (is_asking log) calls
    pub leads : Leads p q e calls r e

  pub ends : (log : Log) (before after : Course) → Runs p log before
      → HasTakenAll (present log) before.talk → IsLeft p log before after
      → Matches p.link p.addresses before.works.serial.line (exchanges_of p log)
      → Ends log before.works.serial.line (exchanges_of p log) after.works.serial.line
  ends log before after r all left t =
      subst (λ (d : Course). Ends log before.works.serial.line (exchanges_of p log)
      d.works.serial.line) (sym left.is)
      (by_due before.works.is_due refl (sym (due_is log before r)))
    where
      at : ℕ
      at = latest log

      room : Bool
      room = room_in p log before

      w : Works
      w = before.works

      by_due : (b : Bool) → w.is_due ≡ b → is_asking log ≡ w.is_due
          → Ends log w.serial.line (exchanges_of p log)
          (if b then unasked_works at room (settled_works at w) else w).serial.line
      by_due true due same = record {
        calls = Next at room (waiting_by p w.history) ∷ [];
        shown = subst (λ (b : Bool). EndsStep p log b
            (Next at room (waiting_by p w.history) ∷ []))
            (sym (same ∙ due)) (asks log before r all);
        leads = subst (λ (o : Option Sending). Leads p w.serial.line (exchanges_of p log)
            (Next at room (waiting_by p w.history) ∷ [])
            (serial.asked at room None (settled_works at w).serial).line
            (begun_by at o (exchanges_of p log)))
            (left.none due) (asking log before r at room (exchanges_of p log) t);
      }
      by_due false due same = record {
        calls = [];
        shown = subst (λ (b : Bool). EndsStep p log b []) (sym (same ∙ due)) refl;
        leads = leads_nowhere p w.serial.line (exchanges_of p log) t;
      }
