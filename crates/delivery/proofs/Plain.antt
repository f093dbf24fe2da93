-- A command with nothing wrong goes to the line octet by octet, without its time tag.
use Rattle.std.specs.Prelude.{◌==◌, nat_le, slice_index, drop, take, if◌then◌else◌}
use Rattle.std.specs.Int.{bytes_low_first}
use Rattle.std.specs.List.{AllByRecursion}
use Rattle.std.proofs.Common.{◌≡◌, ℕ, ◌-◌, ◌%◌, ◌<◌, ◌||◌, Bool, true, false, not, Option, Some}
use Rattle.std.proofs.Common.{None, List, [], ◌∷◌, ◌++◌, length, refl, ap, sym, subst, ◌∙◌}
use Rattle.std.proofs.Common.{append_assoc, arith}
use Rattle.std.proofs.lemmas.Bool.{or_parts, eqb-true, leb-false}
use Rattle.std.proofs.lemmas.List.{append-nil, drop-drop, get_or-drop}
use Rattle.elements.specs.declared.types.TypeId.{TypeId}
use Rattle.elements.specs.declared.types.TypeId.TheVariants.{CScNa1, CDcNa1, CRcNa1, CSeNa1, CSeNb1}
use Rattle.elements.specs.declared.types.TypeId.TheVariants.{CScTa1, CDcTa1, CRcTa1, CSeTa1, CSeTb1}
use Rattle.elements.specs.declared.types.TypeId.TheVariants.{CIcNa1}
use Rattle.elements.specs.Types.{row, type_of}
use Rattle.asdu.specs.Sizes.{ca_len, ioa_len, tcp}
use Rattle.asdu.specs.Asdu.{spelled, originator_octets}
use Rattle.asdu.specs.Fields.{value_at, first_address}
use Rattle.asdu.specs.Writing.{carried, carried_originator}
use Rattle.asdu.specs.Tagging.{untagged_type, untagged}
use Rattle.asdu.specs.declared.sizes.Sizes.{Sizes}
use Rattle.asdu.specs.declared.sizes.CauseSize.{CauseSize}
use Rattle.asdu.specs.declared.sizes.CauseSize.TheVariants as causes
use Rattle.command.specs.declared.station.StationInfo.{StationInfo}
use Rattle.command.specs.History.{typed_line_octets, line_octets}
use Rattle.command.specs.Standard.{Rule, has_tag, is_process_type, plain_type, object_address}
use Rattle.command.specs.Standard.{element_part, element_length, whole_length, own_rules}
use Rattle.command.specs.Standard.{cause_of_fault}
use Rattle.delivery.specs.Commands.{line_form}
use Rattle.delivery.proofs.Fresh.{none_applies}

-- the type of a command, and how long its element is
record IsType (octet : ℕ) : Type 0 where
  type : TypeId
  named : type_of octet ≡ Some type
  code : (row (untagged_type type)).code ≡ plain_type octet
  size : (row type).size ≡ element_length (plain_type octet)

plain_types : (n : ℕ) (a b c d e : Bool) → (n == 45) ≡ a → (n == 46) ≡ b → (n == 47) ≡ c
    → (n == 48) ≡ d
    → (n == 49) ≡ e → (a || b || c || d || e) ≡ true → IsType n
unfolding type_of
plain_types n true b c d e x1 x2 x3 x4 x5 h = subst IsType (sym (eqb-true n 45 x1))
    (record { type = CScNa1; named = refl; code = refl; size = refl })
plain_types n false true c d e x1 x2 x3 x4 x5 h = subst IsType (sym (eqb-true n 46 x2))
    (record { type = CDcNa1; named = refl; code = refl; size = refl })
plain_types n false false true d e x1 x2 x3 x4 x5 h = subst IsType (sym (eqb-true n 47 x3))
    (record { type = CRcNa1; named = refl; code = refl; size = refl })
plain_types n false false false true e x1 x2 x3 x4 x5 h =
    subst IsType (sym (eqb-true n 48 x4)) (record {
      type = CSeNa1;
      named = refl;
      code = refl;
      size =
          refl;
    })
plain_types n false false false false true x1 x2 x3 x4 x5 h =
    subst IsType (sym (eqb-true n 49 x5)) (record {
      type = CSeNb1;
      named = refl;
      code = refl;
      size =
          refl;
    })
plain_types n false false false false false x1 x2 x3 x4 x5 h = cc

tagged_types : (n : ℕ) (a b c d e : Bool) → (n == 58) ≡ a → (n == 59) ≡ b → (n == 60) ≡ c
    → (n == 61) ≡ d
    → (n == 62) ≡ e → (a || b || c || d || e) ≡ true → IsType n
unfolding type_of
tagged_types n true b c d e x1 x2 x3 x4 x5 h = subst IsType (sym (eqb-true n 58 x1))
    (record { type = CScTa1; named = refl; code = refl; size = refl })
tagged_types n false true c d e x1 x2 x3 x4 x5 h = subst IsType (sym (eqb-true n 59 x2))
    (record { type = CDcTa1; named = refl; code = refl; size = refl })
tagged_types n false false true d e x1 x2 x3 x4 x5 h =
    subst IsType (sym (eqb-true n 60 x3)) (record {
      type = CRcTa1;
      named = refl;
      code = refl;
      size =
          refl;
    })
tagged_types n false false false true e x1 x2 x3 x4 x5 h =
    subst IsType (sym (eqb-true n 61 x4)) (record {
      type = CSeTa1;
      named = refl;
      code = refl;
      size =
          refl;
    })
tagged_types n false false false false true x1 x2 x3 x4 x5 h =
    subst IsType (sym (eqb-true n 62 x5)) (record {
      type = CSeTb1;
      named = refl;
      code = refl;
      size =
          refl;
    })
tagged_types n false false false false false x1 x2 x3 x4 x5 h = cc

interrogation : (n : ℕ) → (n == 100) ≡ true → IsType n
unfolding type_of
interrogation n h = subst IsType (sym (eqb-true n 100 h))
    (record { type = CIcNa1; named = refl; code = refl; size = refl })

type_is : (n : ℕ) → not (is_process_type (plain_type n) || n == 100) ≡ false → IsType n
type_is n h = by_tag (has_tag n) refl h
  where
    by_process : (b c : Bool) → is_process_type n ≡ b → (n == 100) ≡ c → not (b || c) ≡ false
        → IsType n
    by_process true c is other h = plain_types n (n == 45) (n == 46) (n == 47) (n == 48)
        (n == 49) refl refl refl refl refl is
    by_process false true is other h = interrogation n other
    by_process false false is other h = cc

    by_tag : (b : Bool) → has_tag n ≡ b
        → not (is_process_type (if b then n - 13 else n) || n == 100) ≡ false → IsType n
    by_tag true is h = tagged_types n (n == 58) (n == 59) (n == 60) (n == 61) (n == 62) refl refl
        refl refl refl is
    by_tag false is h = by_process (is_process_type n) (n == 100) refl refl h

-- ---- one object, of the length that its type has

record IsOne (xs : List ℕ) : Type 0 where
  number : slice_index xs 1 ≡ 1
  whole : length xs ≡ whole_length (slice_index xs 0)

true_of : (b : Bool) → not b ≡ false → b ≡ true
true_of true h = refl
true_of false h = cc

small : (n : ℕ) → nat_le 128 n ≡ false → n < 128
small n h = leb-false 128 n h

one_number : (n : ℕ) → nat_le 128 n ≡ false → (n % 128 == 1) ≡ true → n ≡ 1
one_number n low h = let odd : n % 128 ≡ 1 = eqb-true (n % 128) 1 h in
    omega (arith, small n low, odd)

one_object : (xs : List ℕ) → ((nat_le 128 (slice_index xs 1) || not (slice_index xs 1 % 128 == 1))
    || not (length xs == whole_length (slice_index xs 0))) ≡ false → IsOne xs
one_object xs h =
    let all = or_parts (nat_le 128 (slice_index xs 1) || not (slice_index xs 1 % 128 == 1))
    (not (length xs == whole_length (slice_index xs 0))) h in
    let number = or_parts (nat_le 128 (slice_index xs 1)) (not (slice_index xs 1 % 128 == 1))
    all.0 in
    record {
      number =
          one_number (slice_index xs 1) number.0 (true_of (slice_index xs 1 % 128 == 1) number.1);
      whole = eqb-true (length xs) (whole_length (slice_index xs 0))
          (true_of (length xs == whole_length (slice_index xs 0)) all.1);
    }

-- ---- the octets

spelled_so : (s : Sizes) (ca : ℕ) (t : TypeId) (xs : List ℕ) → slice_index xs 1 ≡ 1 →
    spelled s (carried s (record (untagged (value_at tcp t xs)) { ca = ca })) ≡
    ((row (untagged_type t)).code ∷ 1 ∷ slice_index xs 2
    ∷ (originator_octets s.cause (carried_originator s.cause (slice_index xs 3))
    ++ bytes_low_first 0 (ca_len s.ca) ca))
    ++ ((bytes_low_first 0 (ioa_len s.ioa) (first_address tcp xs)
    ++ (take (row t).size (drop 3 (drop 6 xs)) ++ []))
    ++ [])
spelled_so s ca t xs number = rw number refl

same_originator : (size : CauseSize) (o : ℕ) → originator_octets size (carried_originator size o)
    ≡ originator_octets size o
same_originator causes.One o = refl
same_originator causes.Two o = refl

same_address : (xs : List ℕ) → first_address tcp xs ≡ object_address xs
same_address xs = omega (arith, get_or-drop 6 xs 0 0, get_or-drop 6 xs 1 0, get_or-drop 6 xs 2 0)

same_element : (xs : List ℕ) (size : ℕ) → size ≡ element_length (plain_type (slice_index xs 0))
    → length xs ≡ whole_length (slice_index xs 0) → take size (drop 3 (drop 6 xs)) ≡ element_part xs
same_element xs size is whole =
    ap (λ (ys : List ℕ). take size ys) (drop-drop 3 6 xs)
    ∙ ap (λ (n : ℕ). take n (drop 9 xs)) (omega (arith, is, whole))

joined : (a b c d : List ℕ) → (a ++ b) ++ ((c ++ (d ++ [])) ++ []) ≡ a ++ (b ++ (c ++ d))
joined a b c d = ap (λ (l : List ℕ). (a ++ b) ++ l) (append-nil (c ++ (d ++ []))
    ∙ ap (λ (l : List ℕ). c ++ l) (append-nil d)) ∙ append_assoc a b (c ++ d)

pub plain_line : (sizes : Sizes) (stations : List StationInfo) (max_age_ms : ℕ) (wall : Option ℕ)
    (xs : List ℕ)
    (station : StationInfo) → cause_of_fault sizes stations max_age_ms wall xs ≡ None
    → line_octets sizes xs station ≡ line_form sizes xs station
plain_line sizes stations most wall xs station faultless =
    let none : AllByRecursion (λ (r : Rule). r.applies ≡ false)
    (own_rules sizes stations most wall xs) =
    none_applies (own_rules sizes stations most wall xs) faultless in
    let t : IsType (slice_index xs 0) = type_is (slice_index xs 0) none.0 in
    let one : IsOne xs = one_object xs none.1.1.1.1.0 in
    let first : List ℕ =
    originator_octets sizes.cause (carried_originator sizes.cause (slice_index xs 3)) in
    let own : List ℕ = bytes_low_first 0 (ca_len sizes.ca) station.ca in
    let address : List ℕ = bytes_low_first 0 (ioa_len sizes.ioa) (first_address tcp xs) in
    let element : List ℕ = take (row t.type).size (drop 3 (drop 6 xs)) in
    let rest : (first ++ own) ++ ((address ++ (element ++ [])) ++ [])
    ≡ originator_octets sizes.cause (slice_index xs 3)
    ++ (own ++ (bytes_low_first 0 (ioa_len sizes.ioa) (object_address xs) ++ element_part xs)) =
    joined first own address element
    ∙ ap (λ (o : List ℕ). o ++ (own ++ (address ++ element)))
    (same_originator sizes.cause (slice_index xs 3))
    ∙ ap (λ (n : ℕ). originator_octets sizes.cause (slice_index xs 3)
    ++ (own ++ (bytes_low_first 0 (ioa_len sizes.ioa) n ++ element))) (same_address xs)
    ∙ ap (λ (e : List ℕ). originator_octets sizes.cause (slice_index xs 3)
    ++ (own ++ (bytes_low_first 0 (ioa_len sizes.ioa) (object_address xs) ++ e)))
    (same_element xs (row t.type).size t.size one.whole) in
    ap (λ (o : Option TypeId). typed_line_octets sizes station.ca o xs) t.named
    ∙ spelled_so sizes station.ca t.type xs one.number
    ∙ ap (λ (n : ℕ). n ∷ 1 ∷ slice_index xs 2
    ∷ ((first ++ own) ++ ((address ++ (element ++ [])) ++ []))) t.code
    ∙ ap (λ (l : List ℕ). plain_type (slice_index xs 0) ∷ 1 ∷ slice_index xs 2 ∷ l) rest
