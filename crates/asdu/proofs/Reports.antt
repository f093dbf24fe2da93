-- The pieces of a report carry it.
use Rattle.std.proofs.Common.{◌≡◌, ℕ, zero, suc, ◌*◌, ◌≤◌, Bool, true, false, List, [], ◌∷◌, ◌++◌}
use Rattle.std.proofs.Common.{length, take, drop, map, refl, sym, ap, subst, ◌∙◌, arith}
use Rattle.std.proofs.Common.{length-take, length-drop}
use Rattle.std.specs.List.{flat_map, AllByRecursion}
use Rattle.std.specs.Int.{div_ceil}
use Rattle.std.specs.Prelude.{◌==◌, min}
use Rattle.std.proofs.lemmas.List.{length-map, take_min}
use Rattle.std.proofs.lemmas.Bool.Decides.{nat_tests}
use Rattle.std.proofs.Math.Nat.{min-zero, zero-min}
use Rattle.asdu.specs.Sizes.{tcp, ioa_len, header_len}
use Rattle.asdu.specs.declared.sizes.Sizes.{Sizes}
use Rattle.asdu.specs.Asdu.{Info, AsduValue, FitsSizes, IsAsdu, IsInfo, AreInOrder, AreSuccessive}
use Rattle.asdu.specs.Asdu.{spelled}
use Rattle.asdu.specs.Fields.{number_at}
use Rattle.asdu.specs.InformationObjects.{object_in, objects_of, monitor_objects_of, value_objects}
use Rattle.asdu.specs.InformationObjects.{only_if, is_passed_on}
use Rattle.asdu.specs.Translation.{piece_size, chunks, in_chunks, piece_with, report_pieces, parts}
use Rattle.asdu.specs.Translation.{IsPiece, IsLargest, AllButLast}
use Rattle.asdu.specs.Writing.{with_infos}
use Rattle.asdu.proofs.Chunks.{AreEnough, enough, enough-some, enough-drop, in_chunks-step}
use Rattle.asdu.proofs.Chunks.{in_chunks-none, length-chunks, chunks-joined, div_ceil-three}
use Rattle.asdu.proofs.Chunks.{All-take, All-drop}
use Rattle.asdu.proofs.Counts.{three_pieces, piece_size-some}
use Rattle.asdu.proofs.Joined.{header_len-low, ioa_len-low, monitored-pieces, some_monitored}
use Rattle.asdu.proofs.Joined.{lengths}
use Rattle.asdu.proofs.Pieces.{AreInfos-wider, FitsSizes-with_infos, body_len-piece, ca-two}
use Rattle.asdu.proofs.Pieces.{length-spelled, piece_size-few}
use Rattle.asdu.proofs.Related.{monitor_objects_of-IsAsdu, number_at-IsAsdu, objects_of-IsAsdu}
use Rattle.asdu.proofs.Related.{parts-IsAsdu}

-- ---- Addresses of a part

AreSuccessive-take : (a m : ℕ) (is : List Info) → AreSuccessive a is → AreSuccessive a (take m is)
AreSuccessive-take a zero is h = tt
AreSuccessive-take a (suc m) [] h = tt
AreSuccessive-take a (suc m) (i ∷ is) h = (h.0, AreSuccessive-take (suc a) m is h.1)

in_order : (a : ℕ) (is : List Info) → AreSuccessive a is → AreInOrder true is
in_order a [] h = tt
in_order a (i ∷ is) h = subst (λ b. AreSuccessive b (i ∷ is)) (sym h.0) h

in_order-drop : (a m : ℕ) (is : List Info) → AreSuccessive a is → AreInOrder true (drop m is)
in_order-drop a zero is h = in_order a is h
in_order-drop a (suc m) [] h = tt
in_order-drop a (suc m) (i ∷ is) h = in_order-drop (suc a) m is h.1

AreInOrder-take : (b : Bool) (m : ℕ) (is : List Info) → AreInOrder b is → AreInOrder b (take m is)
AreInOrder-take false m is h = tt
AreInOrder-take true zero is h = tt
AreInOrder-take true (suc m) [] h = tt
AreInOrder-take true (suc m) (i ∷ is) h = (h.0, AreSuccessive-take (suc i.address) m is h.1)

AreInOrder-drop : (b : Bool) (m : ℕ) (is : List Info) → AreInOrder b is → AreInOrder b (drop m is)
AreInOrder-drop false m is h = tt
AreInOrder-drop true zero is h = h
AreInOrder-drop true (suc m) [] h = tt
AreInOrder-drop true (suc m) (i ∷ is) h = in_order-drop (suc i.address) m is h.1

-- ---- One piece

-- objects that are left of a report, in the sizes of a connection
record AreLeft (v : AsduValue) (is : List Info) : Type 0 where
  pub infos : AllByRecursion (IsInfo v.kind 3) is
  pub order : AreInOrder v.sequence is

left-drop : (v : AsduValue) (m : ℕ) (is : List Info) → AreLeft v is → AreLeft v (drop m is)
left-drop v m is h = record {
  infos = All-drop (IsInfo v.kind 3) m is h.infos;
  order = AreInOrder-drop v.sequence m is h.order;
}

abbrev size_of : AsduValue → ℕ
size_of v = piece_size v.kind v.sequence

piece_spells : (s : Sizes) (v : AsduValue) (is : List Info) → FitsSizes s v → AreLeft v is
    → 1 ≤ length is
    → IsAsdu tcp (with_infos v (take (size_of v) is)) (piece_with v (take (size_of v) is))
piece_spells s v is h left more =
    let m = size_of v in
    let size = piece_size-some v.kind v.sequence in
    let few = length-take m is in
    record {
      value = FitsSizes-with_infos s tcp v (take m is) h (ca-two s.ca v.ca h.ca) (omega arith)
          (piece_size-few v.kind v.sequence (length (take m is)) (omega arith))
          (All-take (IsInfo v.kind 3) m is left.infos) (AreInOrder-take v.sequence m is left.order);
      octets = refl;
    }

one_piece : (s : Sizes) (v : AsduValue) (is : List Info) → FitsSizes s v → AreLeft v is
    → 1 ≤ length is
    → IsPiece v (piece_with v (take (size_of v) is))
one_piece s v is h left more =
    let m = size_of v in
    let u = with_infos v (take m is) in
    let spells = piece_spells s v is h left more in
    let few = length-take m is in
    let long = length-spelled tcp u spells.value.some spells.value.infos in
    let short = body_len-piece v.kind v.sequence (length (take m is)) (omega arith) in
    record { infos = take m is; spells = spells; size = omega arith; fits = omega arith }

-- ---- All pieces

abbrev pieces_in : AsduValue → ℕ → List Info → List (List ℕ)
pieces_in v k is = map (piece_with v) (chunks (size_of v) k is)

all_pieces : (s : Sizes) (v : AsduValue) (k : ℕ) (is : List Info) → FitsSizes s v → AreLeft v is
    → AreEnough (size_of v) k (length is) → AllByRecursion (λ p. IsPiece v p) (pieces_in v k is)
all_pieces s v zero is h left enough_here = tt
all_pieces s v (suc k) is h left enough_here =
    let m = size_of v in (
      one_piece s v is h left (enough-some m k (length is) enough_here),
      all_pieces s v k (drop m is) h (left-drop v m is left) (enough-drop m k is enough_here),
    )

all_objects : (s : Sizes) (v : AsduValue) (k : ℕ) (is : List Info) → FitsSizes s v → AreLeft v is
    → AreEnough (size_of v) k (length is)
    → flat_map (λ p. objects_of tcp p) (pieces_in v k is)
    ≡ flat_map (λ js. map (object_in v) js) (chunks (size_of v) k is)
all_objects s v zero is h left enough_here = refl
all_objects s v (suc k) is h left enough_here =
    let m = size_of v in
    let here = piece_spells s v is h left (enough-some m k (length is) enough_here) in
    let first : objects_of tcp (piece_with v (take m is)) ≡ map (object_in v) (take m is) =
    objects_of-IsAsdu tcp (with_infos v (take m is)) (piece_with v (take m is)) here in
    ap (λ os. os ++ flat_map (λ p. objects_of tcp p) (pieces_in v k (drop m is))) first
    ∙ ap (λ os. map (object_in v) (take m is) ++ os)
    (all_objects s v k (drop m is) h (left-drop v m is left) (enough-drop m k is enough_here))

all_full : (s : Sizes) (v : AsduValue) (k : ℕ) (is : List Info) → FitsSizes s v → AreLeft v is
    → AreEnough (size_of v) k (length is) → AllButLast (λ p. IsLargest v p) (pieces_in v k is)
all_full s v zero is h left enough_here = tt
all_full s v (suc zero) is h left enough_here = tt
all_full s v (suc (suc k)) is h left enough_here =
    let m = size_of v in
    let rest = enough-drop m (suc k) is enough_here in
    let more = enough-some m k (length (drop m is)) rest in
    let few = length-take m is in
    let fewer = length-drop m is in
    let here = piece_spells s v is h left (enough-some m (suc k) (length is) enough_here) in
    let number : number_at (piece_with v (take m is)) ≡ length (take m is) =
    number_at-IsAsdu tcp (with_infos v (take m is)) (piece_with v (take m is)) here in (
      number ∙ omega arith,
      all_full s v (suc k) (drop m is) h (left-drop v m is left) rest,
    )

-- ---- A report

left_of : (s : Sizes) (v : AsduValue) → FitsSizes s v → AreLeft v v.infos
left_of s v h = record { infos = AreInfos-wider v.kind s.ioa v.infos h.infos; order = h.order }

enough_of : (v : AsduValue) → AreEnough (size_of v) (div_ceil (length v.infos) (size_of v))
    (length v.infos)
enough_of v = enough (size_of v) (length v.infos) (piece_size-some v.kind v.sequence)

pub pieces_are : (s : Sizes) (v : AsduValue) (xs : List ℕ) → IsAsdu s v xs
    → AllByRecursion (λ p. IsPiece v p) (report_pieces v)
unfolding report_pieces
pieces_are s v xs h = all_pieces s v _ v.infos h.value (left_of s v h.value) (enough_of v)

pub pieces_full : (s : Sizes) (v : AsduValue) (xs : List ℕ) → IsAsdu s v xs
    → AllButLast (λ p. IsLargest v p) (report_pieces v)
unfolding report_pieces
pieces_full s v xs h = all_full s v _ v.infos h.value (left_of s v h.value) (enough_of v)

pieces_objects : (s : Sizes) (v : AsduValue) → FitsSizes s v
    → flat_map (λ p. objects_of tcp p) (report_pieces v) ≡ value_objects v
unfolding report_pieces
pieces_objects s v h =
    all_objects s v _ v.infos h (left_of s v h) (enough_of v)
    ∙ chunks-joined (object_in v) (size_of v) _ v.infos (enough_of v)

pub pieces_joined : (s : Sizes) (v : AsduValue) (xs : List ℕ) → IsAsdu s v xs
    → flat_map (λ p. objects_of tcp p) (report_pieces v) ≡ objects_of s xs
pieces_joined s v xs h = pieces_objects s v h.value ∙ sym (objects_of-IsAsdu s v xs h)

pub pieces_monitored : (s : Sizes) (v : AsduValue) (xs : List ℕ) → IsAsdu s v xs
    → flat_map (λ p. monitor_objects_of tcp p) (report_pieces v) ≡ monitor_objects_of s xs
pieces_monitored s v xs h =
    monitored-pieces (λ p. p) v (report_pieces v) (pieces_are s v xs h)
    ∙ ap (only_if (is_passed_on v.kind v.cause)) (pieces_objects s v h.value)
    ∙ sym (monitor_objects_of-IsAsdu s v xs h)

pub pieces_some_monitored : (s : Sizes) (v : AsduValue) (xs : List ℕ) → IsAsdu s v xs
    → is_passed_on v.kind v.cause ≡ true
    → AllByRecursion (λ p. 1 ≤ length (monitor_objects_of tcp p)) (report_pieces v)
pieces_some_monitored s v xs h passed = some_monitored (λ p. p) v (report_pieces v) passed
    (pieces_are s v xs h)

pub pieces_lengths : (s : Sizes) (v : AsduValue) (xs : List ℕ) → IsAsdu s v xs
    → AllByRecursion (λ p. (9 ≤ length p) × (length p ≤ 249)) (report_pieces v)
pieces_lengths s v xs h = lengths (λ p. p) v (report_pieces v) (pieces_are s v xs h)

count : (v : AsduValue) → length (report_pieces v) ≡ div_ceil (length v.infos) (size_of v)
unfolding report_pieces
count v = length-map (in_chunks (size_of v) v.infos) (piece_with v)
    ∙ length-chunks (size_of v) _ v.infos

pub pieces_number : (s : Sizes) (v : AsduValue) (xs : List ℕ) → IsAsdu s v xs
    → length (report_pieces v) ≡ parts s xs
pieces_number s v xs h = count v ∙ sym (parts-IsAsdu s v xs h)

pub pieces_few : (s : Sizes) (v : AsduValue) (xs : List ℕ) → IsAsdu s v xs → length xs ≤ 253
    → length (report_pieces v) ≤ 3
pieces_few s v xs h short =
    let n = length v.infos in
    let long = length-spelled s v h.value.some h.value.infos in
    let same : length xs ≡ length (spelled s v) = ap (λ ys. length ys) h.octets in
    let enough : n ≤ 3 * size_of v =
    three_pieces v.kind (ioa_len s.ioa) v.sequence n (header_len s) (header_len-low s)
    (ioa_len-low s.ioa) h.value.most
    (omega arith) in
    let few = div_ceil-three n (size_of v) (piece_size-some v.kind v.sequence) enough in
    let all = count v in
    omega arith

-- ---- Piece by piece

-- nothing is left
pub pieces-none : (v : AsduValue) → length v.infos ≡ 0 → report_pieces v ≡ []
unfolding report_pieces
pieces-none v none =
    ap (map (piece_with v)) (in_chunks-none (size_of v) v.infos (piece_size-some v.kind v.sequence)
    none)

-- the next piece, and those of what is left then
pub pieces-step : (v : AsduValue) (is : List Info) → 1 ≤ length is
    → report_pieces (with_infos v is)
    ≡ piece_with v (take (size_of v) is) ∷ report_pieces (with_infos v (drop (size_of v) is))
unfolding report_pieces
pieces-step v is more =
    ap (map (piece_with v)) (in_chunks-step (size_of v) is (piece_size-some v.kind v.sequence) more)

-- whether something is left
not_none : (n : ℕ) → 1 ≤ n → (n == 0) ≡ false
not_none n h = grind (arith, nat_tests)

pub is_over : (v : AsduValue) (is : List Info) (n : ℕ) (ps : List (List ℕ))
    → report_pieces (with_infos v is) ≡ ps
    → length is ≡ n → (n == 0) ≡ (length ps == 0)
is_over v [] n ps e long =
    let none = ap (λ (qs : List (List ℕ)). length qs == 0) (pieces-none (with_infos v []) refl) in
    ap (λ k. k == 0) (sym long) ∙ sym none ∙ ap (λ (qs : List (List ℕ)). length qs == 0) e
is_over v (i ∷ is) n ps e long =
    let more = ap (λ (qs : List (List ℕ)). length qs) (sym e
    ∙ pieces-step v (i ∷ is) (omega arith)) in
    not_none n (omega arith) ∙ sym (not_none (length ps) (omega arith))

pub some_left : (v : AsduValue) (is : List Info) (ps : List (List ℕ))
    → report_pieces (with_infos v is) ≡ ps
    → 1 ≤ length ps → 1 ≤ length is
some_left v [] ps e some =
    let none : ps ≡ [] = sym e ∙ pieces-none (with_infos v []) refl in
    let long = ap (λ (qs : List (List ℕ)). length qs) none in
    absurd (omega arith)
some_left v (i ∷ is) ps e some = omega arith

drop_min : (m : ℕ) (is : List Info) → drop (min m (length is)) is ≡ drop m is
drop_min zero is = ap (λ k. drop k is) (zero-min (length is))
drop_min (suc m) [] = ap (λ k. drop k []) (min-zero (suc m))
drop_min (suc m) (i ∷ is) =
    let less : min (suc m) (suc (length is)) ≡ suc (min m (length is)) = omega arith in
    ap (λ k. drop k (i ∷ is)) less ∙ drop_min m is

-- the next piece in the words of the code
pub next_piece : (v : AsduValue) (m k n : ℕ) (is js ks : List Info) (ps : List (List ℕ))
    (out : List ℕ)
    → report_pieces (with_infos v is) ≡ ps → m ≡ size_of v → length is ≡ n → 1 ≤ length is
    → k ≡ min m n
    → js ≡ take k is → ks ≡ drop k is → out ≡ piece_with v js
    → ps ≡ out ∷ report_pieces (with_infos v ks)
next_piece v m k n is js ks ps out e size long more small front rest text =
    let number : k ≡ min (size_of v) (length is) = small ∙ ap (λ j. min j n) size
    ∙ ap (min (size_of v)) (sym long) in
    let first : js ≡ take (size_of v) is =
    front ∙ ap (λ j. take j is) number ∙ take_min (size_of v) is in
    let others : ks ≡ drop (size_of v) is = rest ∙ ap (λ j. drop j is) number
    ∙ drop_min (size_of v) is in
    sym e ∙ pieces-step v is more
    ∙ ap (λ zs. piece_with v zs ∷ report_pieces (with_infos v (drop (size_of v) is))) (sym first)
    ∙ ap (λ xs. xs ∷ report_pieces (with_infos v (drop (size_of v) is))) (sym text)
    ∙ ap (λ zs. out ∷ report_pieces (with_infos v zs)) (sym others)
