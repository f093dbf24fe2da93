-- What the works and the course learn of an exchange.
use Rattle.std.proofs.Common.{◌≡◌, ℕ, Bool, true, false, List, [], ◌∷◌, ◌++◌, Option, Some, None}
use Rattle.std.proofs.Common.{refl, sym, ap, subst, ◌∙◌}
use Rattle.std.specs.Prelude.{if◌then◌else◌}
use Rattle.std.proofs.lemmas.List.{append-nil}
use Rattle.arrayvec.specs.ArrayVec.{ArrayVec}
use Rattle.asdu.specs.Sizes.{tcp}
use Rattle.asdu.specs.InformationObjects.{monitor_objects_of}
use Rattle.link.specs.declared.outcome.Outcome.{Outcome}
use Rattle.link.specs.declared.outcome.Outcome.TheVariants as outcome
use Rattle.link.specs.Matching.{gap_in_outcome}
use Rattle.session.specs.Session.{is_transferring as is_transferring_of}
use Rattle.command.specs.State as tasks
use Rattle.command.specs.State.{line_of, refusal_of}
use Rattle.command.specs.History.{History}
use Rattle.command.specs.Mirrors as mirrors
use Rattle.command.specs.Calls.{Busy, Mirror, after_call}
use Rattle.gateway.specs.Log.{Log, Restarted, Came, latest}
use Rattle.gateway.specs.Gaps.{gaps_of, gaps_reported, gap_for}
use Rattle.gateway.specs.Reports.{Setup}
use Rattle.gateway.specs.Serial as serial
use Rattle.gateway.specs.Serial.{Serial, refusals, mirrored}
use Rattle.gateway.specs.State.{State, with_serial}
use Rattle.gateway.specs.Works.{tasks_of, Works, has_lacked_place, is_command_report}
use Rattle.gateway.specs.Works.{mirrored_works}
use Rattle.gateway.specs.Works.{LearnsReport, accepted_works, given_up_works, refused_works}
use Rattle.gateway.specs.Works.{LearnsOf, settled_works, unasked_works, done_works}
use Rattle.gateway.specs.Course.{Course, room_in, IsLeft}
use Rattle.gateway.specs.Phases.{Asked, resting}
use Rattle.command.specs.CommandLaws.{CommandLaws}
use Rattle.gateway.specs.Steps as steps
use Rattle.gateway.specs.Steps.{Keeps, Mirrors, Learns}
use Rattle.gateway.specs.Agrees.{Agrees, ArePlain}
use Rattle.gateway.proofs.Alike.{refused_serial, mirrored_serial}
use Rattle.gateway.proofs.Working.{gap_in, kept_overfull, kept_placed, kept_plain}
use Rattle.gateway.proofs.Reached.{IsReached}
use Rattle.gateway.proofs.Plain.{no_monitor}

-- the step before is done
abbrev pub left_of : Setup → Log → Course → Course
left_of p log c = record {
  talk = c.talk;
  sent = c.sent;
  earlier = c.earlier;
  works =
      done_works (latest log) (room_in p log c) c.works;
}

-- if nothing is due, nothing is left to be done
pub done_fresh : (at : ℕ) (room : Bool) (w : Works) → w.is_due ≡ false
    → (done_works at room w).serial ≡ w.serial
done_fresh at room w none = ap (λ b. (if b then unasked_works at room (settled_works at w)
    else w).serial) none

fresh_works : (p : Setup) (s : State) (log : Log) (c : Course) → s.serial ≡ c.works.serial
    → c.works.is_due ≡ false → s.serial ≡ (left_of p log c).works.serial
fresh_works p s log c does none = does
    ∙ sym (done_fresh (latest log) (room_in p log c) c.works none)

fresh_left : (p : Setup) (log : Log) (c : Course) → c.works.is_due ≡ false
    → c.works.serial.gap ≡ None → IsLeft p log c (left_of p log c)
fresh_left p log c none logged = record {
  logged = logged;
  none = λ due. let no : false ≡ true = sym none ∙ due in cc;
  is = refl;
}

pub at_rest_works : (p : Setup) (s : State) (log : Log) (a : Agrees p s log [] (resting log))
    → s.serial ≡ (left_of p log a.course).works.serial
at_rest_works p s [] a = fresh_works p s [] a.course a.stands.does a.stands.asks.0
at_rest_works p s (Came now Restarted ∷ log) a =
    fresh_works p s (Came now Restarted ∷ log) a.course a.stands.does a.stands.asks.0
at_rest_works p s (entry ∷ log) a = a.stands.does

pub is_left : (p : Setup) (s : State) (log : Log) (a : Agrees p s log [] (resting log))
    → IsLeft p log a.course (left_of p log a.course)
is_left p s [] a = fresh_left p [] a.course a.stands.asks.0 a.stands.asks.1
is_left p s (Came now Restarted ∷ log) a =
    fresh_left p (Came now Restarted ∷ log) a.course a.stands.asks.0 a.stands.asks.1
is_left p s (entry ∷ log) a = record { logged = a.stands.asks.2; none = a.stands.asks.0; is = refl }

-- no gap is left of the step before, and each is reported
pub none_left : (p : Setup) (s : State) (log : Log) (a : Agrees p s log [] (resting log))
    → s.serial.gap ≡ None
none_left p s log a = ap (λ (z : Serial). z.gap) (at_rest_works p s log a)
    ∙ gap_in Asked (latest log) (room_in p log a.course) a.course.works ∙ (is_left p s log a).logged

pub all_logged : (p : Setup) (s : State) (log : Log) (a : Agrees p s log [] (resting log)) (i : ℕ)
    → gaps_reported i log ≡ gaps_of p i log
all_logged p s log a i = sym (append-nil (gaps_reported i log))
    ∙ ap (λ g. gaps_reported i log ++ gap_for i g) (sym (none_left p s log a)) ∙ a.gaps i

-- What is learnt of an exchange

-- the works with the line's side of this state, and this history
abbrev pub beside : State → History → (is_due : Bool) → Works
beside s h due = record { serial = s.serial; history = h; is_due = due }

pub record Learnt (p : Setup) (at : ℕ) (is_transferring : Bool) (o : Outcome) (s t : State)
    (fits : Bool) (h : History)
    (is_due : Bool) : Type 0 where
  pub z : Works
  pub learns : LearnsOf p at is_transferring o (beside s h is_due) z
  pub serial : t.serial ≡ z.serial
  pub due : z.is_due ≡ is_due
  pub full : fits ≡ false → has_lacked_place z.history ≡ true
  pub placed : fits ≡ true → has_lacked_place z.history ≡ has_lacked_place h
  pub gap : (i : ℕ) → gap_for i t.serial.gap ≡ gap_in_outcome i o
  pub plain : ArePlain t.serial.commands.answers

module _ (p : Setup) (at : ℕ) (s : State) (h : History) (is_due : Bool) (laws : CommandLaws)
    (clock : s.moment ≡ at)
    (sizes : s.sizes ≡ p.sizes) (reached : IsReached p (beside s h is_due)) (no_gap : s.serial.gap
    ≡ None)
    (plain : ArePlain s.serial.commands.answers) where
  abbrev w : Works
  w = beside s h is_due

  abbrev IsLearnt : Bool → Outcome → State → Bool → Type 0
  IsLearnt is_transferring o t fits = Learnt p at is_transferring o s t fits h is_due

  -- if all own answers, if any, found places
  learnt_all : (is_transferring : Bool) (o : Outcome) (t : State) (fits : Bool) (z : Works)
      → LearnsOf p at is_transferring o w z
      → t ≡ with_serial z.serial s → fits ≡ true → z.is_due ≡ is_due → has_lacked_place z.history
      ≡ has_lacked_place h →
      z.serial.commands.answers ≡ s.serial.commands.answers
      → ((i : ℕ) → gap_for i z.serial.gap ≡ gap_in_outcome i o) → IsLearnt is_transferring o t fits
  learnt_all is_transferring o t fits z learns is all due placed answers gap = record {
    z = z;
    learns = learns;
    serial = ap (λ (x : State). x.serial) is;
    due = due;
    full = λ off. let no : false ≡ true = sym off ∙ all in cc;
    placed = λ on. placed;
    gap = λ i. ap (λ (x : State). gap_for i x.serial.gap) is ∙ gap i;
    plain = subst ArePlain (sym (ap (λ (x : State). x.serial.commands.answers) is ∙ answers)) plain;
  }

  refusal_plain : (i : ℕ) (o : Option (List ℕ)) → refusal_of (line_of i s.serial.commands) ≡ o
      → ArePlain (serial.listed o)
  refusal_plain i None e = tt
  refusal_plain i (Some a) e =
      let none : monitor_objects_of tcp a ≡ [] =
      laws.busy_plain p.stations p.sizes p.select_ms p.max_age_ms (tasks_of w) reached i a e in
      (no_monitor a none, tt)

  learnt_busy : (is_transferring : Bool) (i : ℕ) (t : State) (fits : Bool)
      → (t ≡ with_serial (serial.refused i s.serial) s) × (fits ≡ serial.refusal_fits i s.serial)
      → IsLearnt is_transferring (outcome.Busy i) t fits
  learnt_busy is_transferring i t fits e =
      let own : List (List ℕ) = refusals i s.serial in
      let c : tasks.State = tasks.given_up i s.serial.commands in
      record {
        z = refused_works i w;
        learns = refl;
        serial = ap (λ (x : State). x.serial) e.0 ∙ sym (refused_serial i w);
        due = refl;
        full = λ off. kept_overfull own (after_call (Busy i) (tasks_of w)) (sym e.1 ∙ off);
        placed = λ on. kept_placed own (after_call (Busy i) (tasks_of w)) (sym e.1 ∙ on);
        gap = λ i. ap (λ (x : State). gap_for i x.serial.gap) e.0 ∙ ap (gap_for i) no_gap;
        plain = subst ArePlain (sym (ap (λ (x : State). x.serial.commands.answers) e.0))
            (kept_plain own c (refusal_plain i (refusal_of (line_of i s.serial.commands)) refl)
            plain);
      }

  learnt_mirror : (is_transferring : Bool) (station : ℕ) (report : ArrayVec ℕ) (t : State)
      (fits : Bool)
      → is_command_report p.sizes report.items ≡ true
      → Mirrors p.sizes at is_transferring s.serial report.items fits t.serial
      → IsLearnt is_transferring (outcome.Report station report) t fits
  learnt_mirror true station report t fits of m =
      let c : tasks.State = mirrors.mirrored m.v at s.serial.commands in
      record {
        z = mirrored_works at true m.v m.pieces w;
        learns =
            subst (λ b. LearnsReport p at true b report.items w
            (mirrored_works at true m.v m.pieces w)) (sym of)
            (m.v, m.plain, m.pieces, m.passed, m.tagged, refl);
        serial = m.after ∙ sym (mirrored_serial at true m.v m.pieces w);
        due = refl;
        full = λ off. kept_overfull m.pieces (after_call (Mirror m.v at) (tasks_of w)) (sym m.all
            ∙ off);
        placed = λ on. kept_placed m.pieces (after_call (Mirror m.v at) (tasks_of w)) (sym m.all
            ∙ on);
        gap = λ i. ap (λ (x : Serial). gap_for i x.gap) m.after ∙ ap (gap_for i) no_gap;
        plain = subst ArePlain (sym (ap (λ (x : Serial). x.commands.answers) m.after))
            (kept_plain m.pieces c m.unmonitored (subst ArePlain
            (sym (laws.mirrored_answers m.v at s.serial.commands)) plain));
      }
  learnt_mirror false station report t fits of m = record {
    z = mirrored_works at false m.v m.pieces w;
    learns =
        subst (λ b. LearnsReport p at false b report.items w
        (mirrored_works at false m.v m.pieces w)) (sym of)
        (m.v, m.plain, m.pieces, m.passed, m.tagged, refl);
    serial = m.after;
    due = refl;
    full = λ off. let no : false ≡ true = sym off ∙ m.all in cc;
    placed = λ on. refl;
    gap = λ i. ap (λ (x : Serial). gap_for i x.gap) m.after ∙ ap (gap_for i) no_gap;
    plain = subst ArePlain (sym (ap (λ (x : Serial). x.commands.answers) m.after))
        (subst ArePlain (sym (laws.mirrored_answers m.v at s.serial.commands)) plain);
  }

  learnt_report : (is_transferring : Bool) (station : ℕ) (report : ArrayVec ℕ) (t : State)
      (fits : Bool)
      → is_command_report p.sizes report.items ≡ false → Keeps s report.items t × (fits ≡ true)
      → IsLearnt is_transferring (outcome.Report station report) t fits
  learnt_report is_transferring station report t fits of e =
      let z : Works = record w { serial = serial.reported p.sizes report.items w.serial } in
      let same : t.serial ≡ z.serial = ap (λ (x : State). x.serial) e.0.after
      ∙ ap (λ sizes. serial.reported sizes report.items s.serial) sizes in
      record {
        z = z;
        learns = subst (λ b. LearnsReport p at is_transferring b report.items w z) (sym of) refl;
        serial = same;
        due = refl;
        full = λ off. let no : false ≡ true = sym off ∙ e.1 in cc;
        placed = λ on. refl;
        gap = λ i. ap (λ (x : Serial). gap_for i x.gap) same ∙ ap (gap_for i) no_gap;
        plain = subst ArePlain (sym (ap (λ (x : Serial). x.commands.answers) same)) plain;
      }

  learnt_of : (is_transferring : Bool) (station : ℕ) (report : ArrayVec ℕ) (t : State)
      (fits b : Bool)
      → is_transferring_of s.centre.session ≡ is_transferring
      → is_command_report p.sizes report.items ≡ b
      → steps.LearnsReport b s report.items fits t
      → IsLearnt is_transferring (outcome.Report station report) t fits
  learnt_of is_transferring station report t fits true runs of e =
      learnt_mirror is_transferring station report t fits of
      (subst (λ r. Mirrors p.sizes at r s.serial report.items fits t.serial) runs
      (subst (λ m. Mirrors p.sizes m (is_transferring_of s.centre.session) s.serial report.items
      fits t.serial) clock
      (subst (λ z. Mirrors z s.moment (is_transferring_of s.centre.session) s.serial report.items
      fits t.serial) sizes
      e.0)))
  learnt_of is_transferring station report t fits false runs of e =
      learnt_report is_transferring station report t fits of e

  pub learnt : (is_transferring : Bool) (o : Outcome) (t : State) (fits : Bool)
      → is_transferring_of s.centre.session ≡ is_transferring → Learns s o fits t
      → IsLearnt is_transferring o t fits
  learnt is_transferring (outcome.Report station report) t fits runs e =
      learnt_of is_transferring station report t fits (is_command_report p.sizes report.items) runs
      refl
      (subst (λ z. steps.LearnsReport (is_command_report z report.items) s report.items fits t)
      sizes e)
  learnt is_transferring (outcome.Accepted i) t fits runs e =
      learnt_all is_transferring (outcome.Accepted i) t fits (accepted_works i w) refl e.0 e.1 refl
      refl refl
      (λ k. ap (gap_for k) no_gap)
  learnt is_transferring (outcome.Busy i) t fits runs e = learnt_busy is_transferring i t fits e
  learnt is_transferring (outcome.Down i) t fits runs e =
      learnt_all is_transferring (outcome.Down i) t fits
      (given_up_works i w) refl e.0 e.1 refl refl refl (λ k. ap (gap_for k) no_gap)
  learnt is_transferring outcome.None t fits runs e =
      learnt_all is_transferring outcome.None t fits w refl e.0 e.1 refl refl refl
      (λ k. ap (gap_for k) no_gap)
  learnt is_transferring (outcome.Started i) t fits runs e =
      learnt_all is_transferring (outcome.Started i) t fits w refl e.0 e.1 refl refl refl
      (λ k. ap (gap_for k) no_gap)
  learnt is_transferring (outcome.StartedGap i k) t fits runs e =
      learnt_all is_transferring (outcome.StartedGap i k) t fits
      (record w { serial = serial.with_gap i k w.serial }) refl e.0 e.1 refl refl refl
      (λ j. refl)
  learnt is_transferring (outcome.Empty i) t fits runs e = learnt_all is_transferring
      (outcome.Empty i) t fits w refl e.0 e.1 refl refl refl (λ k. ap (gap_for k) no_gap)
