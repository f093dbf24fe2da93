-- Calls of `command` change the line's side of the works as `Serial` says.
use Rattle.std.proofs.Common.{◌≡◌, ℕ, Bool, true, false, List, [], ◌∷◌, Option, Some, None, refl}
use Rattle.std.proofs.Common.{ap}
use Rattle.std.proofs.Common.{sym, ◌∙◌}
use Rattle.std.specs.Prelude.{if◌then◌else◌, drop}
use Rattle.asdu.specs.Asdu.{AsduValue}
use Rattle.apci.specs.declared.apdu.Apdu.{Apdu}
use Rattle.apci.specs.declared.apdu.Apdu.TheVariants.{I, S, U}
use Rattle.link.specs.Exchanges.{Sending}
use Rattle.command.specs.declared.waiting.Waiting.{Waiting}
use Rattle.command.specs.State as tasks
use Rattle.command.specs.State.{has_answer_place, first_answer, oldest_for}
use Rattle.command.specs.Judging.{judged}
use Rattle.command.specs.Calls.{Run, Judge, PutOnLine, Busy, Mirror, Own, SendOwn, after_call}
use Rattle.command.specs.Calls.{after_answer, after_sending}
use Rattle.gateway.specs.Serial as serial
use Rattle.gateway.specs.Serial.{Serial, kept_until, listed, refusals, is_first_command}
use Rattle.gateway.specs.Works.{Works, tasks_of, kept_own, mirrored_works, refused_works}
use Rattle.gateway.specs.Works.{received_works, answered_works, unless_silent_works}
use Rattle.gateway.specs.Works.{settled_works, put_first, asked_works}

abbrev with_commands : Serial → tasks.State → Serial
with_commands s c = record s { commands = c }

-- Own answers

kept_state : (xs : List (List ℕ)) (r : Run) → (kept_own xs r).state ≡ kept_until xs r.state
kept_state [] r = refl
kept_state (x ∷ xs) r = by_room (has_answer_place r.state) (kept_state xs next)
  where
    next : Run
    next = after_call (Own x) r

    by_room : (b : Bool) → (kept_own xs next).state ≡ kept_until xs (tasks.offered x r.state)
        → (if b then kept_own xs next else next).state
        ≡ (if b then kept_until xs (tasks.offered x r.state) else tasks.offered x r.state)
    by_room true same = same
    by_room false same = refl

pub refused_serial : (station : ℕ) (w : Works) → (refused_works station w).serial
    ≡ serial.refused station w.serial
refused_serial station w = ap (with_commands w.serial)
    (kept_state (refusals station w.serial) (after_call (Busy station) (tasks_of w)))

pub mirrored_serial : (at : ℕ) (is_transferring : Bool) (v : AsduValue) (pieces : List (List ℕ))
    (w : Works) → (mirrored_works at is_transferring v pieces w).serial
    ≡ serial.mirrored at is_transferring v pieces w.serial
mirrored_serial at true v pieces w =
    ap (with_commands w.serial) (kept_state pieces (after_call (Mirror v at) (tasks_of w)))
mirrored_serial at false v pieces w = refl

-- Frames

pub received_serial : (f : Apdu) (now : ℕ) (wall : Option ℕ) (w : Works)
    → (received_works f now wall w).serial ≡ serial.judged f now wall w.serial
received_serial (I ns nr asdu) now wall w = ap (with_commands w.serial)
    (kept_state (listed (judged asdu.items now wall w.serial.commands).0)
    (after_call (Judge asdu.items now wall) (tasks_of w)))
received_serial (S nr) now wall w = refl
received_serial (U u) now wall w = refl

-- if no own answer is kept, none can go out
answered_state : (r : Run) → (after_call SendOwn r).state ≡ tasks.answered r.state
answered_state r = by_answers r.state.answers refl
  where
    with_answers : List (List ℕ) → tasks.State
    with_answers xs = record r.state { answers = xs }

    by_answers : (xs : List (List ℕ)) → r.state.answers ≡ xs
        → (after_answer (first_answer xs) r).state ≡ tasks.answered r.state
    by_answers [] none = ap with_answers (none ∙ sym (ap (drop 1) none))
    by_answers (x ∷ xs) some = refl

pub answered_serial : (w : Works) → (answered_works w).serial ≡ serial.answered w.serial
answered_serial w = ap (with_commands w.serial) (answered_state (tasks_of w))

-- A step

unless_serial : (o : Option ℕ) (w : Works) → (unless_silent_works o w).serial
    ≡ serial.unless_silent o w.serial
unless_serial None w = refl
unless_serial (Some station) w = refl

pub settled_serial : (at : ℕ) (w : Works) → (settled_works at w).serial
    ≡ serial.settled at w.serial
settled_serial at w = ap after (unless_serial w.serial.silent w)
  where
    after : Serial → Serial
    after t = record t { commands = tasks.timed at t.commands; silent = None }

pub settled_due : (at : ℕ) (w : Works) → (settled_works at w).is_due ≡ w.is_due
settled_due at w = by_silent w.serial.silent
  where
    by_silent : (o : Option ℕ) → (unless_silent_works o w).is_due ≡ w.is_due
    by_silent None = refl
    by_silent (Some station) = refl

-- if no command waits, none is put on the line
sent_state : (station : ℕ) (r : Run) → (after_call (PutOnLine station) r).state
    ≡ tasks.sent station r.state
sent_state station r = by_oldest (oldest_for station r.state) refl
  where
    by_oldest : (o : Option Waiting) → oldest_for station r.state ≡ o
        → (after_sending o station r).state ≡ tasks.sent station r.state
    by_oldest None none = sym (ap (λ o. tasks.put_out o station r.state) none)
    by_oldest (Some x) some = refl

first_state : (is_first : Bool) (station : ℕ) (r : Run) → (put_first is_first station r).state
    ≡ serial.put_on_line is_first station r.state
first_state true station r = sent_state station r
first_state false station r = refl

pub asked_serial : (at : ℕ) (room : Bool) (x : Sending) (w : Works)
    → (asked_works at room x w).serial
    ≡ serial.asked at room (Some x) w.serial
asked_serial at room x w = ap (with_commands (serial.asked at room None w.serial))
    (first_state (is_first_command w.serial.line x) x.station (tasks_of w))
