-- What the works of the course log of commands.
use Rattle.std.proofs.Common.{◌≡◌, ℕ, Bool, true, false, List, [], ◌∷◌, Option, Some, None, refl}
use Rattle.std.proofs.Common.{◌∙◌, if◌then◌else◌}
use Rattle.arrayvec.specs.ArrayVec.{ArrayVec}
use Rattle.apci.specs.declared.apdu.Apdu.TheVariants.{I}
use Rattle.command.specs.State.{State, has_answer_place, first_answer}
use Rattle.command.specs.Judging.{judged}
use Rattle.command.specs.History.{Judged, Offered, Answered, Ended, History}
use Rattle.command.specs.Calls.{Call, Judge, Own, Run, after_call, after_answer}
use Rattle.gateway.specs.Reports.{Setup}
use Rattle.gateway.specs.Serial.{listed}
use Rattle.gateway.specs.Works.{Works, tasks_of, kept_own, received_works, answered_works}
use Rattle.delivery.specs.Commands.{LineStep, last_sent, steps_logged, sent_to, judged_in}
use Rattle.delivery.specs.Joined.{mirrored_in}
use Rattle.gateway.proofs.Waiting.{AllFitLine, AnswersStay, IsFitCall, call_fits}

-- A reading of a history that own answers and ends of connections leave as it is
pub record Ignores {X : Type 0} (F : History → X) : Type 0 where
  pub kept : (octets : List ℕ) (is_kept : Bool) (h : History) → F (Offered octets is_kept ∷ h) ≡ F h
  pub answered : (octets : List ℕ) (h : History) → F (Answered octets ∷ h) ≡ F h
  pub ended : (h : History) → F (Ended ∷ h) ≡ F h

-- what is logged of the line of station k
pub record LineLogged : Type 0 where
  pub steps : List LineStep
  pub last : List ℕ
  pub sent : List (List ℕ)

abbrev pub line_logged : ℕ → History → LineLogged
line_logged k h = record { steps = steps_logged k h; last = last_sent k h; sent = sent_to k h }

pub line_ignores : (k : ℕ) → Ignores (line_logged k)
line_ignores k = record {
  kept = λ octets is_kept h. refl;
  answered = λ octets h. refl;
  ended =
      λ h. refl;
}

pub mirrors_ignore : Ignores mirrored_in
mirrors_ignore = record {
  kept = λ octets is_kept h. refl;
  answered = λ octets h. refl;
  ended =
      λ h. refl;
}

pub judged_ignore : Ignores judged_in
judged_ignore = record {
  kept = λ octets is_kept h. refl;
  answered = λ octets h. refl;
  ended =
      λ h. refl;
}

pub keeping : {X : Type 0} (F : History → X) → Ignores F → (xs : List (List ℕ)) (r : Run)
    → F (kept_own xs r).history ≡ F r.history
keeping {X} F i [] r = refl
keeping {X} F i (x ∷ xs) r = go (has_answer_place r.state) (keeping F i xs next)
  where
    next : Run
    next = after_call (Own x) r

    one : F next.history ≡ F r.history
    one = i.kept x (has_answer_place r.state) r.history

    go : (b : Bool) → F (kept_own xs next).history ≡ F next.history
        → F (if b then kept_own xs next else next).history ≡ F r.history
    go true ih = ih ∙ one
    go false ih = one

pub sending_own : {X : Type 0} (F : History → X) → Ignores F → (w : Works)
    → F (answered_works w).history ≡ F w.history
sending_own {X} F i w = go (first_answer w.serial.commands.answers)
  where
    go : (o : Option (List ℕ)) → F (after_answer o (tasks_of w)).history ≡ F w.history
    go None = refl
    go (Some octets) = i.answered octets w.history

pub judging : {X : Type 0} (F : History → X) → Ignores F
    → (ns nr : ℕ) (asdu : ArrayVec ℕ) (now : ℕ) (wall : Option ℕ) (w : Works)
    → F (received_works (I ns nr asdu) now wall w).history
    ≡ F (Judged now wall asdu.items (judged asdu.items now wall w.serial.commands).0 ∷ w.history)
judging {X} F i ns nr asdu now wall w =
    keeping F i (listed (judged asdu.items now wall w.serial.commands).0)
    (after_call (Judge asdu.items now wall) (tasks_of w))

-- What waits fits the line.

abbrev pub WaitsFit : Setup → State → Type 0
WaitsFit p s = AllFitLine p.link.size s.waiting

pub one_fits : (stay : AnswersStay) (p : Setup) (call : Call) (r : Run) → IsFitCall call
    → WaitsFit p r.state
    → WaitsFit p (after_call call r).state
one_fits stay p call r h k = call_fits stay p.link.size call r h k

pub kept_fit : (stay : AnswersStay) (p : Setup) (xs : List (List ℕ)) (r : Run) → WaitsFit p r.state
    → WaitsFit p (kept_own xs r).state
kept_fit stay p [] r h = h
kept_fit stay p (x ∷ xs) r h = go (has_answer_place r.state) (kept_fit stay p xs next one)
  where
    next : Run
    next = after_call (Own x) r

    one : WaitsFit p next.state
    one = one_fits stay p (Own x) r tt h

    go : (b : Bool) → WaitsFit p (kept_own xs next).state
        → WaitsFit p (if b then kept_own xs next else next).state
    go true ih = ih
    go false ih = one
