-- What waits when a request is asked for fits the line.
use Rattle.std.proofs.Common.{◌≡◌, ℕ, Option, Some, None, refl, sym, subst}
use Rattle.std.specs.Prelude.{option_map}
use Rattle.ft12.specs.declared.frame.LinkSize.{LinkSize}
use Rattle.link.specs.Requests.{IsUserData}
use Rattle.link.specs.Runs.{AreUserData}
use Rattle.command.specs.declared.waiting.Waiting.{Waiting}
use Rattle.command.specs.State.{State, oldest}
use Rattle.gateway.specs.Log.{Log}
use Rattle.gateway.specs.Reports.{Setup}
use Rattle.gateway.specs.Serial.{waiting_in}
use Rattle.gateway.specs.Works.{unless_silent_works, Works, settled_works}
use Rattle.gateway.specs.Course.{Course, Runs}
use Rattle.gateway.proofs.Waiting.{AnswersStay, AllFitLine, call_fits, oldest_fits}
use Rattle.gateway.proofs.Called.{all_so}

waits_fit : AnswersStay → (p : Setup) (log : Log) (c : Course) → Runs p log c
    → AllFitLine p.link.size c.works.serial.commands.waiting
waits_fit stay p = all_so p (λ log r. AllFitLine p.link.size r.state.waiting)
    (λ log call r is h. call_fits stay p.link.size call r is.octets h)
    (λ entry log r h. h) tt

-- the timers leave it as it is
pub settled_waiting : (at : ℕ) (w : Works) → (settled_works at w).serial.commands.waiting
    ≡ w.serial.commands.waiting
settled_waiting at w = by_silent w.serial.silent
  where
    by_silent : (o : Option ℕ) → (unless_silent_works o w).serial.commands.waiting
        ≡ w.serial.commands.waiting
    by_silent None = refl
    by_silent (Some i) = refl

pub waiting_data : (size : LinkSize) (s : State) → AllFitLine size s.waiting
    → AreUserData size (waiting_in s)
waiting_data size s fit station asdu e = by_oldest (oldest station s.waiting) refl e
  where
    by_oldest : (o : Option Waiting) → oldest station s.waiting ≡ o
        → option_map (λ (w : Waiting). w.octets) o ≡ Some asdu → IsUserData size asdu
    by_oldest None is e = cc
    by_oldest (Some w) is e =
        let same : w.octets ≡ asdu = cc in
        subst (IsUserData size) same (oldest_fits size station s.waiting w fit is)

pub are_user_data : AnswersStay → (p : Setup) (log : Log) (c : Course) → Runs p log c → (at : ℕ)
    → AreUserData p.link.size (waiting_in (settled_works at c.works).serial.commands)
are_user_data stay p log c r at =
    waiting_data p.link.size (settled_works at c.works).serial.commands
    (subst (AllFitLine p.link.size) (sym (settled_waiting at c.works)) (waits_fit stay p log c r))
