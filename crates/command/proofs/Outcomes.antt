-- What confirms a command, the cause of its answer and its times are the same whatever its numbers
-- are.
use Rattle.std.proofs.Common.{◌≡◌, ℕ, zero, suc, ◌+◌, ◌-◌, ◌%◌, ◌<◌, ◌≤◌, Bool, true, false, not}
use Rattle.std.proofs.Common.{List, [], ◌∷◌, refl}
use Rattle.std.proofs.Common.{sym, ap, ◌∙◌, arith}
use Rattle.std.specs.Prelude.{◌==◌, ◌&&◌, nat_lt, nat_le, slice_index, Option, Some, None}
use Rattle.std.specs.Prelude.{if◌then◌else◌}
use Rattle.std.proofs.lemmas.Bool.{eq-eqb, eqb-true, and_parts, lt-ltb, le-leb, leb-true}
use Rattle.elements.specs.Types.{row}
use Rattle.elements.specs.TimeTag.{verdict_of}
use Rattle.elements.specs.declared.tag.Verdict.{Verdict}
use Rattle.elements.specs.declared.tag.Verdict.TheVariants.{Good, MarkedInvalid, OutOfRange}
use Rattle.elements.specs.declared.tag.Verdict.TheVariants.{NoSuchDay, WrongWeekday}
use Rattle.asdu.specs.Asdu.{AsduValue, Info}
use Rattle.asdu.specs.declared.sizes.Sizes.{Sizes}
use Rattle.command.specs.declared.station.StationInfo.{StationInfo}
use Rattle.command.specs.Standard.{plain_type, IsFresh, is_fresh, unknown_station, unknown_object}
use Rattle.command.specs.Standard.{not_fresh, has_tag, is_activation, tag_of, is_object_of}
use Rattle.command.specs.Standard.{confirms_command, is_only_object_of, are_equal, element_part}
use Rattle.command.specs.Standard.{common_address, object_address, Rule, first_cause, negative_of}
use Rattle.command.specs.Standard.{cause_of_fault, unknown_type, unknown_cause, malformed}
use Rattle.command.specs.Standard.{not_permitted}
use Rattle.command.specs.Numbers.{Numbers, command_with, TimesAreKept, ConfirmationsAreRead}
use Rattle.command.specs.Numbers.{one_octet, set_point, one_octet_tagged, set_point_tagged}
use Rattle.command.specs.Numbers.{CausesAreGiven, IsKnown}
use Rattle.command.proofs.Numbers.{both_true, both_false, three_equal, three_only, six, eight}
use Rattle.command.proofs.Numbers.{no_tag}

-- ---- confirmations

equal_lists : (xs ys : List ℕ) → xs ≡ ys → are_equal xs ys ≡ true
equal_lists xs ys is = ap (are_equal xs) (sym is) ∙ go xs
  where
    go : (zs : List ℕ) → are_equal zs zs ≡ true
    go [] = refl
    go (z ∷ zs) = (let p : (z == z) ≡ true = eq-eqb z z refl in rw (p, go zs) refl)

only_equal_lists : (xs ys : List ℕ) → are_equal xs ys ≡ true → xs ≡ ys
only_equal_lists [] [] is = refl
only_equal_lists (x ∷ xs) (y ∷ ys) is =
    let parts = and_parts (x == y) (are_equal xs ys) is in
    cons_equal (eqb-true x y parts.0) (only_equal_lists xs ys parts.1)
  where
    cons_equal : x ≡ y → xs ≡ ys → (x ∷ xs) ≡ (y ∷ ys)
    cons_equal a b = cc
only_equal_lists [] (y ∷ ys) is = cc
only_equal_lists (x ∷ xs) [] is = cc

confirmed : (xs : List ℕ) (v : AsduValue) (i : Info)
    → v.infos ≡ i ∷ []
    → (v.cause % 128 ≡ 7 → plain_type (slice_index xs 0) ≡ (row v.kind).code
    → common_address xs ≡ v.ca
    → object_address xs ≡ i.address
    → element_part xs ≡ i.element
    → confirms_command xs v ≡ true)
    × (confirms_command xs v ≡ true
    → (v.cause % 128 ≡ 7) × (plain_type (slice_index xs 0) ≡ (row v.kind).code)
    × (common_address xs ≡ v.ca) × (object_address xs ≡ i.address)
    × (element_part xs ≡ i.element))
confirmed xs v i at = (is_so, is_only)
  where
    alone : is_only_object_of xs v v.infos
        ≡ (is_object_of xs v i && are_equal (element_part xs) i.element)
    alone = ap (is_only_object_of xs v) at

    is_so : v.cause % 128 ≡ 7 → plain_type (slice_index xs 0) ≡ (row v.kind).code
        → common_address xs ≡ v.ca
        → object_address xs ≡ i.address
        → element_part xs ≡ i.element
        → confirms_command xs v ≡ true
    is_so seven_ a b c d =
        let p : (v.cause % 128 == 7) ≡ true = eq-eqb (v.cause % 128) 7 seven_ in
        let q : is_object_of xs v i ≡ true =
        three_equal (plain_type (slice_index xs 0)) (row v.kind).code (common_address xs) v.ca
        (object_address xs) i.address a b c in
        let r : are_equal (element_part xs) i.element ≡ true =
        equal_lists (element_part xs) i.element d in
        both_true (v.cause % 128 == 7) (is_only_object_of xs v v.infos) p
        (alone ∙ both_true (is_object_of xs v i) (are_equal (element_part xs) i.element) q r)

    is_only : confirms_command xs v ≡ true
        → (v.cause % 128 ≡ 7) × (plain_type (slice_index xs 0) ≡ (row v.kind).code)
        × (common_address xs ≡ v.ca) × (object_address xs ≡ i.address)
        × (element_part xs ≡ i.element)
    is_only is =
        let parts = and_parts (v.cause % 128 == 7) (is_only_object_of xs v v.infos) is in
        let rest =
        and_parts (is_object_of xs v i) (are_equal (element_part xs) i.element)
        (sym alone ∙ parts.1) in
        let three =
        three_only (plain_type (slice_index xs 0)) (row v.kind).code (common_address xs) v.ca
        (object_address xs) i.address rest.0 in (
          eqb-true (v.cause % 128) 7 parts.0,
          three.0,
          three.1,
          three.2,
          only_equal_lists (element_part xs) i.element rest.1,
        )

not_alone : (xs : List ℕ) (v : AsduValue) (is : List Info) → v.infos ≡ is
    → is_only_object_of xs v is ≡ false
    → confirms_command xs v ≡ false
not_alone xs v is at none =
    both_false (v.cause % 128 == 7) (is_only_object_of xs v v.infos)
    (ap (is_only_object_of xs v) at ∙ none)

pub confirmations_hold : ConfirmationsAreRead
confirmations_hold = record {
  single = λ x n. confirmed (command_with 45 n (one_octet x));
  double = λ x n. confirmed (command_with 46 n (one_octet x));
  step = λ x n. confirmed (command_with 47 n (one_octet x));
  normalised = λ a b x n. confirmed (command_with 48 n (set_point a b x));
  scaled = λ a b x n. confirmed (command_with 49 n (set_point a b x));
  tagged_single = λ t x n. confirmed (command_with 58 n (one_octet_tagged t x));
  tagged_double = λ t x n. confirmed (command_with 59 n (one_octet_tagged t x));
  tagged_step = λ t x n. confirmed (command_with 60 n (one_octet_tagged t x));
  tagged_normalised = λ t a b x n. confirmed (command_with 61 n (set_point_tagged t a b x));
  tagged_scaled = λ t a b x n. confirmed (command_with 62 n (set_point_tagged t a b x));
  interrogation = λ x n. confirmed (command_with 100 n (one_octet x));
  no_object = λ xs v at. not_alone xs v [] at refl;
  several = λ xs v i j more at. not_alone xs v (i ∷ j ∷ more) at refl;
}

-- ---- causes of negative answers

negative_of_six : (kind : ℕ) (n : Numbers) (rest : List ℕ) → n.cause % 64 ≡ 6
    → negative_of (command_with kind n rest) ≡ 7
negative_of_six kind n rest is = (let p = (six n.cause is).0 in rw p refl)

negative_of_eight : (kind : ℕ) (n : Numbers) (rest : List ℕ) → n.cause % 64 ≡ 8
    → negative_of (command_with kind n rest) ≡ 9
negative_of_eight kind n rest is = (let p = (eight n.cause is).0 in rw p refl)

pub applied : (r : Rule) (rs : List Rule) → r.applies ≡ true → first_cause (r ∷ rs) ≡ Some r.cause
applied r rs is = ap (λ (b : Bool). if b then Some r.cause else first_cause rs) is

pub passed : (r : Rule) (rs : List Rule) → r.applies ≡ false → first_cause (r ∷ rs) ≡ first_cause rs
passed r rs is = ap (λ (b : Bool). if b then Some r.cause else first_cause rs) is

abbrev from_malformed : ℕ → Option ℕ → List ℕ → List Rule
from_malformed most wall xs = malformed xs ∷ not_permitted xs ∷ not_fresh most wall xs ∷ []

abbrev from_object : Sizes → ℕ → Option ℕ → List ℕ → List Rule
from_object sizes most wall xs = unknown_object sizes xs ∷ from_malformed most wall xs

abbrev from_station : Sizes → List StationInfo → ℕ → Option ℕ → List ℕ → List Rule
from_station sizes stations most wall xs =
    unknown_station stations xs ∷ from_object sizes most wall xs

abbrev from_cause : Sizes → List StationInfo → ℕ → Option ℕ → List ℕ → List Rule
from_cause sizes stations most wall xs =
    unknown_cause xs ∷ from_station sizes stations most wall xs

malformed_answer : (sizes : Sizes) (stations : List StationInfo) (most : ℕ) (wall : Option ℕ)
    (xs : List ℕ)
    → IsKnown sizes stations xs
    → (malformed xs).applies ≡ true
    → cause_of_fault sizes stations most wall xs ≡ Some (negative_of xs)
malformed_answer sizes stations most wall xs known_ is =
    passed (unknown_type xs) (from_cause sizes stations most wall xs) known_.kind
    ∙ passed (unknown_cause xs) (from_station sizes stations most wall xs) known_.cause
    ∙ passed (unknown_station stations xs) (from_object sizes most wall xs) known_.station
    ∙ passed (unknown_object sizes xs) (from_malformed most wall xs) known_.object
    ∙ applied (malformed xs) (not_permitted xs ∷ not_fresh most wall xs ∷ []) is

some_equal : (a b : ℕ) → a ≡ b → Some a ≡ Some b
some_equal a b is = cc

pub causes_hold : CausesAreGiven
causes_hold = record {
  activation = negative_of_six;
  deactivation = negative_of_eight;
  unknown_types = λ sizes stations most wall xs is.
      applied (unknown_type xs) (from_cause sizes stations most wall xs) is;
  unknown_causes = λ sizes stations most wall xs a is.
      passed (unknown_type xs) (from_cause sizes stations most wall xs) a
      ∙ applied (unknown_cause xs) (from_station sizes stations most wall xs) is;
  unknown_stations = λ sizes stations most wall xs a b is.
      passed (unknown_type xs) (from_cause sizes stations most wall xs) a
      ∙ passed (unknown_cause xs) (from_station sizes stations most wall xs) b
      ∙ applied (unknown_station stations xs) (from_object sizes most wall xs) is;
  unknown_objects = λ sizes stations most wall xs a b c is.
      passed (unknown_type xs) (from_cause sizes stations most wall xs) a
      ∙ passed (unknown_cause xs) (from_station sizes stations most wall xs) b
      ∙ passed (unknown_station stations xs) (from_object sizes most wall xs) c
      ∙ applied (unknown_object sizes xs) (from_malformed most wall xs) is;
  forms = λ sizes stations most wall kind n rest known_ is. (
    λ six_. malformed_answer sizes stations most wall (command_with kind n rest) known_ is
        ∙ some_equal (negative_of (command_with kind n rest)) 7
        (negative_of_six kind n rest six_),
    λ eight_. malformed_answer sizes stations most wall (command_with kind n rest) known_ is
        ∙ some_equal (negative_of (command_with kind n rest)) 9
        (negative_of_eight kind n rest eight_),
  );
}

-- ---- times

fresh : (most : ℕ) (wall : Option ℕ) (xs : List ℕ) → IsFresh most wall xs
    → (not_fresh most wall xs).applies ≡ false
fresh most wall xs is =
    let old : nat_le is.clock (is.instant + most) ≡ true =
    le-leb is.clock (is.instant + most) is.not_old in
    let ahead : nat_le is.instant (is.clock + most) ≡ true =
    le-leb is.instant (is.clock + most) is.not_ahead in
    let fresh : is_fresh most wall (verdict_of (tag_of xs)) ≡ true =
    ap (λ w. is_fresh most w (verdict_of (tag_of xs))) is.known
    ∙ ap (is_fresh most (Some is.clock)) is.good
    ∙ rw (old, ahead) refl in
    ap (λ (b : Bool). has_tag (slice_index xs 0) && is_activation xs && not b) fresh
    ∙ go (has_tag (slice_index xs 0)) (is_activation xs)
  where
    go : (a b : Bool) → (a && b && false) ≡ false
    go true true = refl
    go true false = refl
    go false b = refl

not_active : (a b c : Bool) → b ≡ false → (a && b && c) ≡ false
not_active true b c is = ap (λ (d : Bool). d && c) is
not_active false b c is = refl

-- what isn't fresh by its octets isn't fresh by its verdict
not_recent : (most : ℕ) (wall : Option ℕ) (xs : List ℕ) → (IsFresh most wall xs → ⊥)
    → is_fresh most wall (verdict_of (tag_of xs)) ≡ false
not_recent most wall xs never = by wall refl (verdict_of (tag_of xs)) refl
  where
    by : (w : Option ℕ) → wall ≡ w → (v : Verdict) → verdict_of (tag_of xs) ≡ v
        → is_fresh most w v ≡ false
    by None is v good = refl
    by (Some clock) is (Good instant) good = near (nat_le clock (instant + most)) refl
        (nat_le instant (clock + most)) refl
      where
        near : (a : Bool) → nat_le clock (instant + most) ≡ a
            → (b : Bool) → nat_le instant (clock + most) ≡ b → (a && b) ≡ false
        near true old true ahead = absurd (never (record {
          instant = instant;
          good = good;
          clock = clock;
          known = is;
          not_old = leb-true clock (instant + most) old;
          not_ahead = leb-true instant (clock + most) ahead;
        }))
        near true old false ahead = refl
        near false old b ahead = refl
    by (Some clock) is MarkedInvalid good = refl
    by (Some clock) is OutOfRange good = refl
    by (Some clock) is NoSuchDay good = refl
    by (Some clock) is WrongWeekday good = refl

has_one : (kind : ℕ) → 58 ≤ kind → kind ≤ 62 → has_tag kind ≡ true
has_one kind low high = at (kind - 58) (omega (arith, low, high)) (omega (arith, low, high))
  where
    at : (d : ℕ) → kind ≡ 58 + d → d < 5 → has_tag kind ≡ true
    at zero e f = ap has_tag e
    at (suc zero) e f = ap has_tag e
    at (suc (suc zero)) e f = ap has_tag e
    at (suc (suc (suc zero))) e f = ap has_tag e
    at (suc (suc (suc (suc zero)))) e f = ap has_tag e
    at (suc (suc (suc (suc (suc d))))) e f = absurd (omega (arith, f))

stale : (most : ℕ) (wall : Option ℕ) (kind : ℕ) (n : Numbers) (rest : List ℕ)
    → 58 ≤ kind → kind ≤ 62 → n.cause % 64 ≡ 6
    → (IsFresh most wall (command_with kind n rest) → ⊥)
    → (not_fresh most wall (command_with kind n rest)).applies ≡ true
stale most wall kind n rest low high six_ never =
    ap (λ (b : Bool). b && n.cause % 64 == 6
    && not (is_fresh most wall (verdict_of (tag_of (command_with kind n rest)))))
    (has_one kind low high)
    ∙ (ap (λ (c : ℕ). c == 6
    && not (is_fresh most wall (verdict_of (tag_of (command_with kind n rest))))) six_
    ∙ ap not (not_recent most wall (command_with kind n rest) never))

pub times_hold : TimesAreKept
times_hold = record {
  passes = λ select_ms max_age_ms came con now soon early.
      (let p : nat_lt (con - came) select_ms ≡ true = lt-ltb (con - came) select_ms soon in
      let q : nat_lt (now - con) select_ms ≡ true = lt-ltb (now - con) select_ms early in
      rw (p, q) refl);
  fresh = fresh;
  stale = stale;
  untagged = λ most wall kind rest other.
      ap (λ (b : Bool). b && is_activation (kind ∷ rest)
      && not (is_fresh most wall (verdict_of (tag_of (kind ∷ rest))))) (no_tag kind other);
  deactivation = λ most wall kind n rest is.
      not_active (has_tag kind) (n.cause % 64 == 6)
      (not (is_fresh most wall (verdict_of (tag_of (command_with kind n rest)))))
      (eight n.cause is).0;
}
