-- Which commands pass (this gateway's own profile, over IEC 60870-5-101, 7.2.6: S/E).
use Rattle.std.specs.Prelude.{◌≡◌, ◌⊎◌, ◌&&◌, ◌||◌, ℕ, true, false, List, [], ◌∷◌, Option, None}
use Rattle.command.specs.History.{History, Judged, IsSelected}
use Rattle.command.specs.Standard.{cause_of_fault, executes, selects, must_be_selected}
use Rattle.command.specs.Passing.{FindsPlaces}
use Rattle.command.specs.Judging.{judged}
use Rattle.command.specs.Laws.{AfterEachRun, AtEachMoment}
use Rattle.gateway.specs.Reports.{Setup}

-- Nothing is wrong with the ASDU, there are places for it, and it needs no select, or is an execute
-- that is selected.
pub record MustPass (p : Setup) (xs : List ℕ) (now : ℕ) (wall : Option ℕ)
    (h : History) : Type 0 where
  pub faultless : cause_of_fault p.sizes p.stations p.max_age_ms wall xs ≡ None
  pub places : FindsPlaces p.stations xs h
  pub free : ((must_be_selected p.stations xs && (selects xs || executes xs)) ≡ false)
      ⊎ ((executes xs ≡ true) × IsSelected p.sizes p.stations p.select_ms p.max_age_ms xs now h)

-- Each such ASDU was forwarded.
abbrev pub PassesCommands : Setup → History → Type 0
PassesCommands p [] = Unit {0}
PassesCommands p (Judged now wall xs answer ∷ h) =
    (MustPass p xs now wall h → answer ≡ None) × PassesCommands p h
PassesCommands p (entry ∷ h) = PassesCommands p h

-- what `command` says of what passes
pub record PassingLaws : Type 0 where
  pub others : AfterEachRun (λ stations sizes select_ms max_age_ms s h. (xs : List ℕ)
      (now : ℕ) (wall : Option ℕ) →
      cause_of_fault sizes stations max_age_ms wall xs ≡ None
      → (must_be_selected stations xs && (selects xs || executes xs)) ≡ false
      → FindsPlaces stations xs h → (judged xs now wall s).0 ≡ None)
  pub executes_pass : AtEachMoment (λ stations sizes select_ms max_age_ms now s h.
      (xs : List ℕ) (wall : Option ℕ) →
      cause_of_fault sizes stations max_age_ms wall xs ≡ None → executes xs ≡ true
      → IsSelected sizes stations select_ms max_age_ms xs now h
      → FindsPlaces stations xs h → (judged xs now wall s).0 ≡ None)
