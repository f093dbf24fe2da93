-- What goes to the line is the ASDU that came, in the line's sizes.
use Rattle.std.proofs.Common.{◌≡◌, ℕ, zero, suc, ◌+◌, ◌-◌, ◌<◌, ◌≤◌, ◌||◌, Bool, true, false, not}
use Rattle.std.proofs.Common.{List, [], ◌∷◌, ◌++◌, length, take, drop, slice_index, refl, sym}
use Rattle.std.proofs.Common.{subst, ap, append_assoc, ◌∙◌, arith}
use Rattle.std.specs.Prelude.{◌==◌, Option, Some, None, if◌then◌else◌, nat_le}
use Rattle.std.proofs.lemmas.Bool.{and_parts, eqb-true, leb-true}
use Rattle.std.proofs.lemmas.List.{append-nil, drop-drop, length-drop}
use Rattle.byteorder.specs.Endian.{little_bytes}
use Rattle.elements.specs.declared.types.TypeId.{TypeId}
use Rattle.elements.specs.declared.types.TypeId.TheVariants.{CScNa1, CDcNa1, CRcNa1, CSeNa1, CSeNb1}
use Rattle.elements.specs.declared.types.TypeId.TheVariants.{CScTa1, CDcTa1, CRcTa1, CSeTa1, CSeTb1}
use Rattle.elements.specs.declared.types.TypeId.TheVariants.{CIcNa1}
use Rattle.elements.specs.Types.{row, type_of}
use Rattle.asdu.specs.Sizes.{ca_len, ioa_len, tcp}
use Rattle.asdu.specs.Asdu.{spelled, originator_octets}
use Rattle.asdu.specs.Fields.{value_at, first_address}
use Rattle.asdu.specs.Writing.{carried, carried_originator}
use Rattle.asdu.specs.Tagging.{untagged_type, untagged}
use Rattle.asdu.specs.declared.sizes.Sizes.{Sizes}
use Rattle.asdu.specs.declared.sizes.CauseSize.{CauseSize}
use Rattle.asdu.specs.declared.sizes.CauseSize.TheVariants as causes
use Rattle.command.specs.Command.{is_command_type, is_process_command, is_tagged, line_kind}
use Rattle.command.specs.Command.{is_set_point, element_len, tag_len, command_len, element_at}
use Rattle.command.specs.Command.{element_octets, command_at, command_octets}
use Rattle.command.specs.declared.station.StationInfo.{StationInfo}
use Rattle.command.specs.declared.content.CommandElement.TheVariants.{Octet, SetPoint}
use Rattle.command.specs.Octets.{negative}
use Rattle.command.specs.Judging.{is_single, fault, address_fault, form_fault}
use Rattle.command.specs.History.{typed_line_octets}

-- ---- the types of commands

-- an octet that names a command type
pub record Names (octet : ℕ) : Type 0 where
  pub type : TypeId
  pub named : type_of octet ≡ Some type
  pub code : (row (untagged_type type)).code ≡ line_kind octet
  pub size : (row type).size ≡ element_len (line_kind octet)
  pub monitor : (row type).monitor ≡ false

process_at : (d code : ℕ) → code ≡ 45 + d → d < 5 → Names code
unfolding type_of
process_at zero code e h =
    subst Names (sym e) (record {
      type = CScNa1;
      named = refl;
      code = refl;
      size = refl;
      monitor =
          refl;
    })
process_at (suc zero) code e h =
    subst Names (sym e) (record {
      type = CDcNa1;
      named = refl;
      code = refl;
      size = refl;
      monitor =
          refl;
    })
process_at (suc (suc zero)) code e h = subst Names (sym e)
    (record { type = CRcNa1; named = refl; code = refl; size = refl; monitor = refl })
process_at (suc (suc (suc zero))) code e h = subst Names (sym e)
    (record { type = CSeNa1; named = refl; code = refl; size = refl; monitor = refl })
process_at (suc (suc (suc (suc zero)))) code e h = subst Names (sym e)
    (record { type = CSeNb1; named = refl; code = refl; size = refl; monitor = refl })
process_at (suc (suc (suc (suc (suc d))))) code e h = absurd (omega (arith, h))

interrogation : (code : ℕ) → code ≡ 100 → Names code
unfolding type_of
interrogation code e =
    subst Names (sym e) (record {
      type = CIcNa1;
      named = refl;
      code = refl;
      size = refl;
      monitor =
          refl;
    })

tagged_at : (d code : ℕ) → code ≡ 58 + d → d < 5 → Names code
unfolding type_of
tagged_at zero code e h =
    subst Names (sym e) (record {
      type = CScTa1;
      named = refl;
      code = refl;
      size = refl;
      monitor =
          refl;
    })
tagged_at (suc zero) code e h =
    subst Names (sym e) (record {
      type = CDcTa1;
      named = refl;
      code = refl;
      size = refl;
      monitor =
          refl;
    })
tagged_at (suc (suc zero)) code e h = subst Names (sym e)
    (record { type = CRcTa1; named = refl; code = refl; size = refl; monitor = refl })
tagged_at (suc (suc (suc zero))) code e h = subst Names (sym e)
    (record { type = CSeTa1; named = refl; code = refl; size = refl; monitor = refl })
tagged_at (suc (suc (suc (suc zero)))) code e h = subst Names (sym e)
    (record { type = CSeTb1; named = refl; code = refl; size = refl; monitor = refl })
tagged_at (suc (suc (suc (suc (suc d))))) code e h = absurd (omega (arith, h))

process : (code : ℕ) → is_process_command code ≡ true → Names code
process code h =
    let p : _ = and_parts (nat_le 45 code) (nat_le code 49) h in
    let low : 45 ≤ code = leb-true 45 code p.0 in
    let high : code ≤ 49 = leb-true code 49 p.1 in
    process_at (code - 45) code (omega arith) (omega arith)

tagged : (code : ℕ) → is_tagged code ≡ true → Names code
tagged code h =
    let p : _ = and_parts (nat_le 58 code) (nat_le code 62) h in
    let low : 58 ≤ code = leb-true 58 code p.0 in
    let high : code ≤ 62 = leb-true code 62 p.1 in
    tagged_at (code - 58) code (omega arith) (omega arith)

named_by : (code : ℕ) (b : Bool) → is_process_command code ≡ b → (b || code == 100) ≡ true
    → Names code
named_by code true e h = process code e
named_by code false e h = interrogation code (eqb-true code 100 h)

named_if : (code : ℕ) (b : Bool) → is_tagged code ≡ b
    → (is_process_command (if b then code - 13 else code)
    || code == 100) ≡ true → Names code
named_if code true e h = tagged code e
named_if code false e h = named_by code (is_process_command code) refl h

pub command_type : (code : ℕ) → is_command_type code ≡ true → Names code
command_type code h = named_if code (is_tagged code) refl h

-- ---- the element

one : (ys : List ℕ) → 1 ≤ length ys → slice_index ys 0 ∷ [] ≡ take 1 ys
one [] h = absurd (omega (arith, h))
one (y ∷ ys) h = refl

three : (ys : List ℕ) → 3 ≤ length ys → slice_index ys 0 ∷ slice_index ys 1 ∷ slice_index ys 2 ∷ []
    ≡ take 3 ys
three [] h = absurd (omega (arith, h))
three (x ∷ []) h = absurd (omega (arith, h))
three (x ∷ y ∷ []) h = absurd (omega (arith, h))
three (x ∷ y ∷ z ∷ ys) h = refl

element_by : (code : ℕ) (ys : List ℕ) (b : Bool) → is_set_point code ≡ b → (if b then 3 else 1)
    ≤ length ys
    → element_octets (if b then SetPoint (slice_index ys 0) (slice_index ys 1) (slice_index ys 2)
    else Octet
    (slice_index ys 0)) ≡ take (if b then 3 else 1) ys
element_by code ys true e h = three ys h
element_by code ys false e h = one ys h

-- the octets of the element are those at the front
pub element_front : (code : ℕ) (ys : List ℕ) → element_len code ≤ length ys
    → element_octets (element_at code ys) ≡ take (element_len code) ys
element_front code ys h = element_by code ys (is_set_point code) refl h

-- ---- the ASDU

-- the octets of an ASDU with one object and without a tag, header first
spelled_one : (s : Sizes) (ca : ℕ) (t : TypeId) (xs : List ℕ) → slice_index xs 1 ≡ 1 →
    spelled s (carried s (record (untagged (value_at tcp t xs)) { ca = ca })) ≡
    ((row (untagged_type t)).code ∷ 1 ∷ slice_index xs 2
    ∷ (originator_octets s.cause (carried_originator s.cause (slice_index xs 3))
    ++ little_bytes (ca_len s.ca) ca))
    ++ ((little_bytes (ioa_len s.ioa) (first_address tcp xs)
    ++ (take (row t).size (drop 3 (drop 6 xs)) ++ [])) ++ [])
spelled_one s ca t xs one_object = rw one_object refl

originator_again : (size : CauseSize) (o : ℕ) → originator_octets size (carried_originator size o)
    ≡ originator_octets size o
originator_again causes.One o = refl
originator_again causes.Two o = refl

regrouped : (a b c d : List ℕ) → (a ++ b) ++ ((c ++ (d ++ [])) ++ []) ≡ a ++ (b ++ (c ++ d))
regrouped a b c d = simp (append-nil, append_assoc) refl

pub is_spelled : (s : Sizes) (ca : ℕ) (xs : List ℕ) → is_command_type (slice_index xs 0) ≡ true
    → is_single xs ≡ true →
    command_octets s ca (command_at xs) ≡ typed_line_octets s ca (type_of (slice_index xs 0)) xs
is_spelled s ca xs known single =
    let n : Names (slice_index xs 0) = command_type (slice_index xs 0) known in
    let p : _ = and_parts (slice_index xs 1 == 1) (length xs == command_len (slice_index xs 0))
    single in
    let one_object : slice_index xs 1 ≡ 1 = eqb-true (slice_index xs 1) 1 p.0 in
    let whole : length xs ≡ command_len (slice_index xs 0) =
    eqb-true (length xs) (command_len (slice_index xs 0)) p.1 in
    let enough : element_len (line_kind (slice_index xs 0)) ≤ length (drop 9 xs) =
    left (element_len (line_kind (slice_index xs 0))) (tag_len (slice_index xs 0)) xs whole in
    let element : take (row n.type).size (drop 3 (drop 6 xs))
    ≡ element_octets (element_at (line_kind (slice_index xs 0)) (drop 9 xs)) =
    ap (λ (ys : List ℕ). take (row n.type).size ys) (drop-drop 3 6 xs)
    ∙ (ap (λ (m : ℕ). take m (drop 9 xs)) n.size ∙ sym
    (element_front (line_kind (slice_index xs 0)) (drop 9 xs) enough)) in
    let first : List ℕ =
    originator_octets s.cause (carried_originator s.cause (slice_index xs 3)) in
    let own : List ℕ = little_bytes (ca_len s.ca) ca in
    let address : List ℕ = little_bytes (ioa_len s.ioa) (first_address tcp xs) in
    let rest : (first ++ own) ++ ((address ++ (take (row n.type).size (drop 3 (drop 6 xs)) ++ []))
    ++ [])
    ≡ originator_octets s.cause (slice_index xs 3)
    ++ (own
    ++ (address ++ element_octets (element_at (line_kind (slice_index xs 0)) (drop 9 xs)))) =
    regrouped first own address (take (row n.type).size (drop 3 (drop 6 xs)))
    ∙ ap (λ (o : List ℕ). o ++ (own ++ (address ++ take (row n.type).size (drop 3 (drop 6 xs)))))
    (originator_again s.cause (slice_index xs 3))
    ∙ ap (λ (e : List ℕ). originator_octets s.cause (slice_index xs 3) ++ (own ++ (address ++ e)))
    element in
    let all : spelled s (carried s (record (untagged (value_at tcp n.type xs)) { ca = ca }))
    ≡ command_octets s ca (command_at xs) =
    spelled_one s ca n.type xs one_object
    ∙ ap (λ (k : ℕ). k ∷ 1 ∷ slice_index xs 2 ∷ ((first ++ own)
    ++ ((address ++ (take (row n.type).size (drop 3 (drop 6 xs)) ++ [])) ++ []))) n.code
    ∙ ap (λ (l : List ℕ). line_kind (slice_index xs 0) ∷ 1 ∷ slice_index xs 2 ∷ l) rest in
    subst (λ (o : Option TypeId). command_octets s ca (command_at xs) ≡ typed_line_octets s ca o xs)
    (sym n.named)
    (sym all)
  where
    left : (n t : ℕ) (xs : List ℕ) → length xs ≡ 9 + n + t → n ≤ length (drop 9 xs)
    left n t xs h = omega (arith, length-drop 9 xs, h)

-- ---- a command without a fault of its own

some_is_no_fault : (n : ℕ) → Some n ≡ None → ⊥
some_is_no_fault n h = cc

by_single : (age : ℕ) (wall : Option ℕ) (xs : List ℕ) (b : Bool) → is_single xs ≡ b
    → form_fault age wall xs ≡ None
    → is_single xs ≡ true
by_single age wall xs true e h = e
by_single age wall xs false e h = absurd (some_is_no_fault (negative xs) (rw e at h))

by_object : (age : ℕ) (wall : Option ℕ) (xs : List ℕ) (b : Bool)
    → (if not b then Some 47 else form_fault age wall xs) ≡ None → is_single xs ≡ true
by_object age wall xs true h = by_single age wall xs (is_single xs) refl h
by_object age wall xs false h = absurd (some_is_no_fault 47 h)

by_address : (age : ℕ) (wall : Option ℕ) (xs : List ℕ) (b c : Bool)
    → (if not b then Some 46 else (if not c then Some 47 else form_fault age wall xs)) ≡ None
    → is_single xs ≡ true
by_address age wall xs true c h = by_object age wall xs c h
by_address age wall xs false c h = absurd (some_is_no_fault 46 h)

by_cause : (sizes : Sizes) (stations : List StationInfo) (age : ℕ) (wall : Option ℕ) (xs : List ℕ)
    (b : Bool)
    → (if b then Some 45 else address_fault sizes stations age wall xs) ≡ None → is_single xs ≡ true
by_cause sizes stations age wall xs true h = absurd (some_is_no_fault 45 h)
by_cause sizes stations age wall xs false h = by_address age wall xs _ _ h

by_type : (sizes : Sizes) (stations : List StationInfo) (age : ℕ) (wall : Option ℕ) (xs : List ℕ)
    (b : Bool)
    → is_command_type (slice_index xs 0) ≡ b → fault sizes stations age wall xs ≡ None
    → (is_command_type (slice_index xs 0) ≡ true) × (is_single xs ≡ true)
by_type sizes stations age wall xs true e h = (e, by_cause sizes stations age wall xs _ (rw e at h))
by_type sizes stations age wall xs false e h = absurd (some_is_no_fault 44 (rw e at h))

pub forwarded_octets : (sizes : Sizes) (stations : List StationInfo) (age : ℕ) (wall : Option ℕ)
    (xs : List ℕ) (ca : ℕ)
    → fault sizes stations age wall xs ≡ None → command_octets sizes ca (command_at xs)
    ≡ typed_line_octets sizes ca (type_of (slice_index xs 0)) xs
forwarded_octets sizes stations age wall xs ca h =
    let k : (is_command_type (slice_index xs 0) ≡ true) × (is_single xs ≡ true) =
    by_type sizes stations age wall xs (is_command_type (slice_index xs 0)) refl h in
    is_spelled sizes ca xs k.0 k.1
