-- An activation with a time tag that nothing is wrong with was fresh when it came.
use Rattle.std.proofs.Common.{◌≡◌, ℕ, ◌+◌, Bool, true, false, not, ◌&&◌, Option, Some, None, List}
use Rattle.std.proofs.Common.{[], ◌∷◌, refl}
use Rattle.std.specs.Prelude.{nat_le, slice_index, if◌then◌else◌}
use Rattle.std.specs.List.{AllByRecursion}
use Rattle.std.proofs.lemmas.Bool.{and_parts, leb-true}
use Rattle.elements.specs.TimeTag.{verdict_of}
use Rattle.elements.specs.declared.tag.Verdict.{Verdict}
use Rattle.elements.specs.declared.tag.Verdict.TheVariants as verdict
use Rattle.asdu.specs.declared.sizes.Sizes.{Sizes}
use Rattle.command.specs.declared.station.StationInfo.{StationInfo}
use Rattle.command.specs.Standard.{Rule, first_cause, has_tag, is_activation, is_fresh, tag_of}
use Rattle.command.specs.Standard.{own_rules, cause_of_fault}
use Rattle.gateway.specs.Log.{Log, latest}
use Rattle.gateway.specs.Walls.{wall_on}
use Rattle.delivery.specs.Arrivals.{IsFreshOn}
use Rattle.delivery.proofs.Arriving.{shown}

pub none_applies : (rules : List Rule) → first_cause rules ≡ None
    → AllByRecursion (λ (r : Rule). r.applies ≡ false) rules
none_applies [] h = tt
none_applies (r ∷ rules) h = go r.applies refl h (λ e. none_applies rules e)
  where
    go : (b : Bool) → r.applies ≡ b → (if b then Some r.cause else first_cause rules) ≡ None
        → (first_cause rules ≡ None → AllByRecursion (λ (r : Rule). r.applies ≡ false) rules) →
        AllByRecursion (λ (r : Rule). r.applies ≡ false) (r ∷ rules)
    go true is e later = cc
    go false is e later = (is, later e)

-- it is a tagged activation, so it is fresh
is_so : (tagged active fresh : Bool) → (tagged && active && not fresh) ≡ false → tagged ≡ true
    → active ≡ true
    → fresh ≡ true
is_so true true true h t a = refl
is_so true true false h t a = cc
is_so false active fresh h t a = cc
is_so true false fresh h t a = cc

fresh_on : (max_age_ms : ℕ) (log : Log) (asdu : List ℕ) (wall : Option ℕ) (v : Verdict)
    → wall_on log (latest log) ≡ wall → verdict_of (tag_of asdu) ≡ v → is_fresh max_age_ms wall v
    ≡ true
    → IsFreshOn max_age_ms log asdu
fresh_on most log asdu (Some clock) (verdict.Good instant) is good h =
    let near : _ = and_parts (nat_le clock (instant + most)) (nat_le instant (clock + most)) h in
    record {
      instant = instant;
      good = good;
      clock = clock;
      wall = shown log (latest log) clock is;
      not_old = leb-true clock (instant + most) near.0;
      not_ahead = leb-true instant (clock + most) near.1;
    }
fresh_on most log asdu (Some clock) verdict.MarkedInvalid is good h = cc
fresh_on most log asdu (Some clock) verdict.OutOfRange is good h = cc
fresh_on most log asdu (Some clock) verdict.NoSuchDay is good h = cc
fresh_on most log asdu (Some clock) verdict.WrongWeekday is good h = cc
fresh_on most log asdu None v is good h = cc

pub fresh_command : (sizes : Sizes) (stations : List StationInfo) (max_age_ms : ℕ) (log : Log)
    (asdu : List ℕ)
    → cause_of_fault sizes stations max_age_ms (wall_on log (latest log)) asdu ≡ None →
    has_tag (slice_index asdu 0) ≡ true → is_activation asdu ≡ true → IsFreshOn max_age_ms log asdu
fresh_command sizes stations most log asdu faultless tagged active =
    let wall : Option ℕ = wall_on log (latest log) in
    let v : Verdict = verdict_of (tag_of asdu) in
    let none : AllByRecursion (λ (r : Rule). r.applies ≡ false)
    (own_rules sizes stations most wall asdu) =
    none_applies (own_rules sizes stations most wall asdu) faultless in
    fresh_on most log asdu wall v refl refl
    (is_so (has_tag (slice_index asdu 0)) (is_activation asdu)
    (is_fresh most wall v) none.1.1.1.1.1.1.0 tagged active)
