-- A report of a command type is passed on in one way.
use Rattle.std.proofs.Common.{◌≡◌, ℕ, ◌%◌, ◌≤◌, Bool, true, false, List, [], ◌∷◌, length, take}
use Rattle.std.proofs.Common.{drop, refl, ap, sym, ◌∙◌, subst, arith, Option, Some, None}
use Rattle.std.specs.Prelude.{map, slice_index}
use Rattle.std.specs.List.{flat_map, AllByRecursion}
use Rattle.std.proofs.lemmas.List.{append-nil, take_at, drop_at, length-map}
use Rattle.asdu.specs.declared.sizes.Sizes.{Sizes}
use Rattle.asdu.specs.Sizes.{tcp}
use Rattle.asdu.specs.Asdu.{AsduValue, Info, IsAsdu, vsq}
use Rattle.asdu.specs.Fields.{number_at}
use Rattle.asdu.specs.InformationObjects.{InformationObject, object_in, value_objects, objects_of}
use Rattle.asdu.specs.Writing.{with_infos}
use Rattle.asdu.specs.Translation.{piece_size, IsPiece, IsLargest, AllButLast}
use Rattle.gateway.specs.Reports.{Setup}
use Rattle.elements.specs.declared.tag.Cp56.{Cp56}
use Rattle.asdu.specs.Tagging.{tagged}
use Rattle.command.specs.Mirrors.{tag_for}
use Rattle.gateway.specs.Tags.{bears_tag, IsTaggedAs, IsTagged, AreTagged}
use Rattle.gateway.specs.Works.{Works, IsPassedOn, is_command_report, LearnsReport, LearnsOf}
use Rattle.gateway.specs.Works.{mirrored_works}
use Rattle.link.specs.declared.outcome.Outcome.{Outcome}
use Rattle.link.specs.declared.outcome.Outcome.TheVariants as outcome

-- what `asdu` says of ASDUs and their octets
pub record AsduLaws : Type 0 where
  pub one_asdu : (s : Sizes) (u v : AsduValue) (xs : List ℕ) → IsAsdu s u xs → IsAsdu s v xs → u ≡ v
  pub one_spelling : (s : Sizes) (u : AsduValue) (xs ys : List ℕ) → IsAsdu s u xs → IsAsdu s u ys
      → xs ≡ ys
  pub objects : (s : Sizes) (u : AsduValue) (xs : List ℕ) → IsAsdu s u xs → objects_of s xs
      ≡ value_objects u

-- objects show what stands in an ASDU
same_infos : (v : AsduValue) (is js : List Info) → map (object_in v) is ≡ map (object_in v) js
    → is ≡ js
same_infos v [] [] e = refl
same_infos v [] (j ∷ js) e = cc
same_infos v (i ∷ is) [] e = cc
same_infos v (i ∷ is) (j ∷ js) e = ap (λ x. x ∷ is) (one (first e))
    ∙ ap (λ xs. j ∷ xs) (same_infos v is js (rest e))
  where
    first : object_in v i ∷ map (object_in v) is ≡ object_in v j ∷ map (object_in v) js
        → object_in v i ≡ object_in v j
    first e = cc

    rest : object_in v i ∷ map (object_in v) is ≡ object_in v j ∷ map (object_in v) js
        → map (object_in v) is ≡ map (object_in v) js
    rest e = cc

    one : object_in v i ≡ object_in v j → i ≡ j
    one e = ap (λ (o : InformationObject).
        let made : Info = record { address = o.address; element = o.element; tag = o.tag } in
        made) e

-- the number of objects of a piece is the one that its octets bear
number_is : (v : AsduValue) (is : List Info) (xs : List ℕ) → IsAsdu tcp (with_infos v is) xs
    → number_at xs ≡ length is
number_is v is xs h = ap (λ ys. slice_index ys 1 % 128) h.octets
    ∙ by_sequence v.sequence h.value.most
  where
    by_sequence : (b : Bool) → length is ≤ 127 → vsq b (length is) % 128 ≡ length is
    by_sequence true most = omega (arith, most)
    by_sequence false most = omega (arith, most)

module _ (laws : AsduLaws) (v : AsduValue) where
  objects_are : (xs : List ℕ) (h : IsPiece v xs) → objects_of tcp xs ≡ map (object_in v) h.infos
  objects_are xs h = laws.objects tcp (with_infos v h.infos) xs h.spells

  -- pieces with the same objects
  same_piece : (xs ys : List ℕ) → IsPiece v xs → IsPiece v ys → objects_of tcp xs
      ≡ objects_of tcp ys → xs ≡ ys
  same_piece xs ys h k e =
      let infos : h.infos ≡ k.infos = same_infos v h.infos k.infos (sym (objects_are xs h) ∙ e
      ∙ objects_are ys k) in
      laws.one_spelling tcp (with_infos v k.infos) xs ys
      (subst (λ is. IsAsdu tcp (with_infos v is) xs) infos h.spells) k.spells

  -- as many as a piece takes
  full_length : (xs : List ℕ) → IsPiece v xs → IsLargest v xs
      → length (objects_of tcp xs) ≡ piece_size v.kind v.sequence
  full_length xs h full = ap length (objects_are xs h) ∙ length-map h.infos (object_in v)
      ∙ sym (number_is v h.infos xs h.spells) ∙ full

  abbrev all_objects : List (List ℕ) → List InformationObject
  all_objects pieces = flat_map (λ piece. objects_of tcp piece) pieces

  same_pieces : (xs ys : List (List ℕ)) → AllByRecursion (λ piece. IsPiece v piece) xs
      → AllByRecursion (λ piece. IsPiece v piece) ys → AllButLast (λ piece. IsLargest v piece) xs
      → AllButLast (λ piece. IsLargest v piece) ys →
      length xs ≡ length ys → all_objects xs ≡ all_objects ys → xs ≡ ys
  same_pieces [] [] h k full filled number e = refl
  same_pieces [] (y ∷ ys) h k full filled number e = absurd (omega (arith, number))
  same_pieces (x ∷ xs) [] h k full filled number e = absurd (omega (arith, number))
  same_pieces (x ∷ []) (y ∷ []) h k full filled number e =
      ap (λ z. z ∷ []) (same_piece x y h.0 k.0 (sym (append-nil (objects_of tcp x)) ∙ e
      ∙ append-nil (objects_of tcp y)))
  same_pieces (x ∷ []) (y ∷ z ∷ ys) h k full filled number e = absurd (omega (arith, number))
  same_pieces (x ∷ z ∷ xs) (y ∷ []) h k full filled number e = absurd (omega (arith, number))
  same_pieces (x ∷ z ∷ xs) (y ∷ w ∷ ys) h k full filled number e =
      let n : ℕ = piece_size v.kind v.sequence in
      let left : length (objects_of tcp x) ≡ n = full_length x h.0 full.0 in
      let right : length (objects_of tcp y) ≡ n = full_length y k.0 filled.0 in
      let first : objects_of tcp x ≡ objects_of tcp y =
      sym (take_at (objects_of tcp x) (all_objects (z ∷ xs)) n left)
      ∙ ap (take n) e ∙ take_at (objects_of tcp y) (all_objects (w ∷ ys)) n right in
      let rest : all_objects (z ∷ xs) ≡ all_objects (w ∷ ys) =
      sym (drop_at (objects_of tcp x) (all_objects (z ∷ xs)) n left) ∙ ap (drop n) e
      ∙ drop_at (objects_of tcp y) (all_objects (w ∷ ys)) n right in
      ap (λ a. a ∷ z ∷ xs) (same_piece x y h.0 k.0 first)
      ∙ ap (λ l. y ∷ l) (same_pieces (z ∷ xs) (w ∷ ys) h.1 k.1 full.1 filled.1
      (omega (arith, number)) rest)

-- a report is passed on in one way
pub one_passing : AsduLaws
    → (sizes : Sizes) (u v : AsduValue) (report : List ℕ) (xs ys : List (List ℕ))
    → IsPassedOn sizes u report xs → IsPassedOn sizes v report ys → (u ≡ v) × (xs ≡ ys)
one_passing laws sizes u v report xs ys h k =
    let same : u ≡ v = laws.one_asdu sizes u v report h.value k.value in
    let first : IsPassedOn sizes v report xs = subst (λ x. IsPassedOn sizes x report xs) same h in (
      same,
      same_pieces laws v xs ys first.each k.each first.full k.full (first.number ∙ sym k.number)
          (first.joined
          ∙ sym k.joined),
    )

-- and with a tag in one way
tagged_one : AsduLaws → (b : Bool) (tag : Cp56) (u : AsduValue) (x y z : List ℕ)
    → IsTaggedAs b tag u x y
    → IsTaggedAs b tag u x z → y ≡ z
tagged_one laws true tag u x y z h k = laws.one_spelling tcp (tagged tag.0 u) y z h k
tagged_one laws false tag u x y z h k = h ∙ sym k

same_tagged : AsduLaws → (tag : Cp56) (x y z : List ℕ) → IsTagged tag x y → IsTagged tag x z → y ≡ z
same_tagged laws tag x y z h k =
    let same : h.0 ≡ k.0 = laws.one_asdu tcp h.0 k.0 x h.1 k.1 in
    tagged_one laws (bears_tag k.0) tag k.0 x y z (subst (λ u. IsTaggedAs (bears_tag u) tag u x y)
    same h.2) k.2

one_tagging : AsduLaws → (tag : Option Cp56) (plain xs ys : List (List ℕ)) → AreTagged tag plain xs
    → AreTagged tag plain ys → xs ≡ ys
one_tagging laws None plain xs ys h k = h ∙ sym k
one_tagging laws (Some tag) [] xs ys h k = h ∙ sym k
one_tagging laws (Some tag) (x ∷ []) xs ys h k = h.1
    ∙ ap (λ y. y ∷ []) (same_tagged laws tag x h.0 k.0 h.2 k.2)
    ∙ sym k.1
one_tagging laws (Some tag) (x ∷ y ∷ plain) xs ys h k = h ∙ sym k

report_one : AsduLaws → (p : Setup) (at : ℕ) (transferring b : Bool) (report : List ℕ)
    (w z y : Works)
    → LearnsReport p at transferring b report w z → LearnsReport p at transferring b report w y
    → z ≡ y
report_one laws p at transferring true report w z y h k =
    let one = one_passing laws p.sizes h.0 k.0 report h.1 k.1 h.3 k.3 in
    let tagged_so : AreTagged (tag_for k.0 k.0.infos w.serial.commands) k.1 h.2 =
    subst (λ plain. AreTagged (tag_for k.0 k.0.infos w.serial.commands) plain h.2) one.1
    (subst (λ v. AreTagged (tag_for v v.infos w.serial.commands) h.1 h.2) one.0 h.4) in
    let pieces : h.2 ≡ k.2 = one_tagging laws (tag_for k.0 k.0.infos w.serial.commands) k.1 h.2 k.2
    tagged_so k.4 in
    h.5 ∙ ap (λ v. mirrored_works at transferring v h.2 w) one.0
    ∙ ap (λ ps. mirrored_works at transferring k.0 ps w) pieces
    ∙ sym k.5
report_one laws p at transferring false report w z y h k = h ∙ sym k

-- and so what came of an exchange is learnt in one way
pub learns_one : AsduLaws → (p : Setup) (at : ℕ) (transferring : Bool) (o : Outcome) (w z y : Works)
    → LearnsOf p at transferring o w z → LearnsOf p at transferring o w y → z ≡ y
learns_one laws p at transferring (outcome.Report station asdu) w z y h k =
    report_one laws p at transferring (is_command_report p.sizes asdu.items) asdu.items w z y h k
learns_one laws p at transferring (outcome.Accepted station) w z y h k = h ∙ sym k
learns_one laws p at transferring (outcome.Busy station) w z y h k = h ∙ sym k
learns_one laws p at transferring (outcome.Down station) w z y h k = h ∙ sym k
learns_one laws p at transferring outcome.None w z y h k = h ∙ sym k
learns_one laws p at transferring (outcome.Started station) w z y h k = h ∙ sym k
learns_one laws p at transferring (outcome.StartedGap station session) w z y h k = h ∙ sym k
learns_one laws p at transferring (outcome.Empty station) w z y h k = h ∙ sym k
