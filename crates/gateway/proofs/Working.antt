-- The works of the course, as the log goes on: what is kept of own answers, what a frame and the
-- timers leave.
use Rattle.std.proofs.Common.{◌≡◌, ℕ, ◌&&◌, Bool, true, false, List, [], ◌∷◌, ◌++◌, Option, Some}
use Rattle.std.proofs.Common.{None, refl, ap, sym, ◌∙◌}
use Rattle.std.specs.Prelude.{if◌then◌else◌}
use Rattle.std.proofs.lemmas.Bool.{and_parts}
use Rattle.apci.specs.declared.apdu.Apdu.{Apdu}
use Rattle.apci.specs.declared.apdu.Apdu.TheVariants.{I, S, U}
use Rattle.command.specs.declared.waiting.Waiting.{Waiting}
use Rattle.command.specs.State as tasks
use Rattle.command.specs.State.{has_answer_place, first_answer, oldest_for}
use Rattle.command.specs.Judging.{judged}
use Rattle.command.specs.History.{Offered}
use Rattle.command.specs.Calls.{Judge, Own, Run, after_call, after_answer, after_sending}
use Rattle.gateway.specs.Serial as serial
use Rattle.gateway.specs.Serial.{Serial, kept_until, all_kept, listed, has_place, unless_silent}
use Rattle.gateway.specs.Serial.{settled, answered, without_gap, next_request}
use Rattle.gateway.specs.Works.{Works, tasks_of, kept_own, has_lacked_place}
use Rattle.gateway.specs.Works.{received_works}
use Rattle.gateway.specs.Works.{answered_works, unless_silent_works, settled_works}
use Rattle.gateway.specs.Works.{unasked_works, done_works, put_first}
use Rattle.gateway.specs.Phases.{Phase, Fresh, Taking, Judged, Idle, Crowded, Timed, Asked}
use Rattle.gateway.specs.Phases.{works_in, IsAsked}
use Rattle.gateway.specs.Agrees.{ArePlain}
use Rattle.gateway.proofs.Alike.{answered_serial, settled_serial}

-- Own answers are kept

-- if one finds no place, that shows
pub kept_overfull : (xs : List (List ℕ)) (r : Run) → all_kept xs r.state ≡ false
    → has_lacked_place (kept_own xs r).history ≡ true
kept_overfull [] r none = cc
kept_overfull (x ∷ xs) r none = by_room (has_answer_place r.state) refl (kept_overfull xs next)
  where
    next : Run
    next = after_call (Own x) r

    at_room : Bool → Type 0
    at_room b = has_lacked_place (if b then kept_own xs next else next).history ≡ true

    by_room : (b : Bool) → has_answer_place r.state ≡ b → (all_kept xs next.state ≡ false
        → has_lacked_place (kept_own xs next).history ≡ true)
        → at_room b
    by_room true e others = others (sym (ap (λ b. b && all_kept xs next.state) e) ∙ none)
    by_room false e others = ap (λ b. has_lacked_place (Offered x b ∷ r.history)) e

-- and if each finds one
pub kept_placed : (xs : List (List ℕ)) (r : Run) → all_kept xs r.state ≡ true
    → has_lacked_place (kept_own xs r).history ≡ has_lacked_place r.history
kept_placed [] r all = refl
kept_placed (x ∷ xs) r all =
    let next : Run = after_call (Own x) r in
    let both = and_parts (has_answer_place r.state) (all_kept xs next.state) all in
    ap (λ b. has_lacked_place (if b then kept_own xs next else next).history) both.0
    ∙ kept_placed xs next both.1
    ∙ ap (λ b. has_lacked_place (Offered x b ∷ r.history)) both.0

pub more_plain : (xs ys : List (List ℕ)) → ArePlain xs → ArePlain ys → ArePlain (xs ++ ys)
more_plain [] ys h k = k
more_plain (x ∷ xs) ys h k = (h.0, more_plain xs ys h.1 k)

either_plain : (b : Bool) (s t : tasks.State) → ArePlain s.answers → ArePlain t.answers
    → ArePlain (if b then s else t).answers
either_plain true s t h k = h
either_plain false s t h k = k

pub kept_plain : (xs : List (List ℕ)) (s : tasks.State) → ArePlain xs → ArePlain s.answers
    → ArePlain (kept_until xs s).answers
kept_plain [] s h k = k
kept_plain (x ∷ xs) s h k =
    let one : ArePlain (tasks.offered x s).answers =
    either_plain (has_answer_place s) (tasks.kept x s) s
    (more_plain s.answers (x ∷ []) k (h.0, tt)) k in
    either_plain (has_answer_place s) (kept_until xs (tasks.offered x s)) (tasks.offered x s)
    (kept_plain xs (tasks.offered x s) h.1 one) one

-- A frame is received

pub received_overfull : (f : Apdu) (now : ℕ) (wall : Option ℕ) (w : Works)
    → has_place f now wall w.serial.commands ≡ false
    → has_lacked_place (received_works f now wall w).history ≡ true
received_overfull (I ns nr asdu) now wall w h =
    kept_overfull (listed (judged asdu.items now wall w.serial.commands).0)
    (after_call (Judge asdu.items now wall) (tasks_of w)) h
received_overfull (S nr) now wall w h = cc
received_overfull (U u) now wall w h = cc

pub received_placed : (f : Apdu) (now : ℕ) (wall : Option ℕ) (w : Works)
    → has_place f now wall w.serial.commands ≡ true
    → has_lacked_place (received_works f now wall w).history ≡ has_lacked_place w.history
received_placed (I ns nr asdu) now wall w h =
    kept_placed (listed (judged asdu.items now wall w.serial.commands).0)
    (after_call (Judge asdu.items now wall) (tasks_of w)) h
received_placed (S nr) now wall w h = refl
received_placed (U u) now wall w h = refl

-- The timers

pub settled_placed : (at : ℕ) (w : Works) → has_lacked_place (settled_works at w).history
    ≡ has_lacked_place w.history
settled_placed at w = by_silent w.serial.silent
  where
    by_silent : (o : Option ℕ) → has_lacked_place (unless_silent_works o w).history
        ≡ has_lacked_place w.history
    by_silent None = refl
    by_silent (Some i) = refl

pub done_placed : (at : ℕ) (room : Bool) (w : Works)
    → has_lacked_place (done_works at room w).history
    ≡ has_lacked_place w.history
done_placed at room w = by_due w.is_due
  where
    by_due : (b : Bool) → has_lacked_place (if b then unasked_works at room (settled_works at w)
        else w).history
        ≡ has_lacked_place w.history
    by_due true = settled_placed at w
    by_due false = refl

-- An own answer goes out, while the step's timers and its request are done or not

settled_own : (at : ℕ) (s : Serial) → settled at (answered s) ≡ answered (settled at s)
settled_own at s = by_silent s.silent
  where
    after : Serial → Serial
    after t = record t { commands = tasks.timed at t.commands; silent = None }

    by_silent : (o : Option ℕ) → after (unless_silent o (answered s))
        ≡ answered (after (unless_silent o s))
    by_silent None = refl
    by_silent (Some i) = refl

module _ (w : Works) (x : List ℕ) (first : first_answer w.serial.commands.answers ≡ Some x) where
  pub own_placed : has_lacked_place (answered_works w).history ≡ has_lacked_place w.history
  own_placed = ap (λ (o : Option (List ℕ)). has_lacked_place (after_answer o (tasks_of w)).history)
      first

  own_settled : (at : ℕ) → (settled_works at (answered_works w)).serial
      ≡ answered (settled_works at w).serial
  own_settled at = settled_serial at (answered_works w) ∙ ap (settled at) (answered_serial w)
      ∙ settled_own at w.serial ∙ ap answered (sym (settled_serial at w))

  pub own_serial : (phase : Phase) (at : ℕ) (room : Bool)
      → (works_in phase at room (answered_works w)).serial
      ≡ answered (works_in phase at room w).serial
  own_serial Fresh at room = answered_serial w
  own_serial Taking at room = answered_serial w
  own_serial Idle at room = answered_serial w
  own_serial Judged at room = answered_serial w
  own_serial Crowded at room = answered_serial w
  own_serial Timed at room = own_settled at
  own_serial Asked at room = by_due w.is_due
    where
      by_due : (b : Bool)
          → (if b then unasked_works at room (settled_works at (answered_works w))
          else answered_works w).serial
          ≡ answered (if b then unasked_works at room (settled_works at w) else w).serial
      by_due true = ap (serial.asked at room None) (own_settled at)
      by_due false = answered_serial w

  pub asked_own : (phase : Phase) (at : ℕ) (room : Bool) → IsAsked phase at room w
      → IsAsked phase at room (answered_works w)
  asked_own Fresh at room h = h
  asked_own Taking at room h = h
  asked_own Idle at room h = h
  asked_own Judged at room h = h
  asked_own Crowded at room h = h
  asked_own Timed at room h = h
  asked_own Asked at room h = (
    λ due. ap (next_request room) (own_settled at) ∙ h.0 due,
    h.1,
    h.2,
  )

settled_answers : (at : ℕ) (w : Works) → (settled_works at w).serial.commands.answers
    ≡ w.serial.commands.answers
settled_answers at w = by_silent w.serial.silent
  where
    by_silent : (o : Option ℕ) → (unless_silent_works o w).serial.commands.answers
        ≡ w.serial.commands.answers
    by_silent None = refl
    by_silent (Some i) = refl

-- commands in a phase have the answers of the log's
pub answers_in : (phase : Phase) (at : ℕ) (room : Bool) (w : Works)
    → (works_in phase at room w).serial.commands.answers ≡ w.serial.commands.answers
answers_in Fresh at room w = refl
answers_in Taking at room w = refl
answers_in Idle at room w = refl
answers_in Judged at room w = refl
answers_in Crowded at room w = refl
answers_in Timed at room w = settled_answers at w
answers_in Asked at room w = by_due w.is_due
  where
    by_due : (b : Bool) → (if b then unasked_works at room (settled_works at w)
        else w).serial.commands.answers
        ≡ w.serial.commands.answers
    by_due true = settled_answers at w
    by_due false = refl

-- and the log's gap

pub settled_gap : (at : ℕ) (s : Serial) → (settled at s).gap ≡ s.gap
settled_gap at s = by_silent s.silent
  where
    by_silent : (o : Option ℕ) → (unless_silent o s).gap ≡ s.gap
    by_silent None = refl
    by_silent (Some i) = refl

pub gap_settled : (at : ℕ) (w : Works) → (settled_works at w).serial.gap ≡ w.serial.gap
gap_settled at w = ap (λ (s : Serial). s.gap) (settled_serial at w) ∙ settled_gap at w.serial

pub gap_in : (phase : Phase) (at : ℕ) (room : Bool) (w : Works)
    → (works_in phase at room w).serial.gap ≡ w.serial.gap
gap_in Fresh at room w = refl
gap_in Taking at room w = refl
gap_in Idle at room w = refl
gap_in Judged at room w = refl
gap_in Crowded at room w = refl
gap_in Timed at room w = gap_settled at w
gap_in Asked at room w = by_due w.is_due
  where
    by_due : (b : Bool) → (if b then unasked_works at room (settled_works at w) else w).serial.gap
        ≡ w.serial.gap
    by_due true = gap_settled at w
    by_due false = refl

-- A request goes out

pub put_placed : (b : Bool) (i : ℕ) (w : Works)
    → has_lacked_place (put_first b i (tasks_of w)).history
    ≡ has_lacked_place w.history
put_placed true i w = by_oldest (oldest_for i w.serial.commands)
  where
    by_oldest : (o : Option Waiting) → has_lacked_place (after_sending o i (tasks_of w)).history
        ≡ has_lacked_place w.history
    by_oldest None = refl
    by_oldest (Some x) = refl
put_placed false i w = refl
