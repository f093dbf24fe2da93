-- The pieces among sent frames, and what the frames say.
use Rattle.std.proofs.Common.{◌≡◌, ℕ, ◌==◌, ◌+◌, Bool, true, false, not, cond, List, [], ◌∷◌, ◌++◌}
use Rattle.std.proofs.Common.{length, take, drop, map, refl, ap, sym, subst, ◌∙◌, arith, suc, zero}
use Rattle.std.specs.List.{flat_map, list_all}
use Rattle.std.proofs.lemmas.List.{nil_from_length}
use Rattle.std.proofs.lemmas.Bool.{eqb-true}
use Rattle.std.proofs.lemmas.List.Sums.{sum_by-cons}
use Rattle.session.specs.Session.{is_from_queue, from_queue}
use Rattle.session.specs.declared.kinds.Unacknowledged.{Unacknowledged}
use Rattle.gateway.specs.Objects.{objects, has_objects}
use Rattle.asdu.specs.InformationObjects.{InformationObject}
use Rattle.gateway.specs.Agrees.{pieces_of}
use Rattle.gateway.specs.Frames.{Sent, objects_of_frames}

-- which of them came from the queue
abbrev pub kinds_of : List Unacknowledged → List Bool
kinds_of us = map (λ u. is_from_queue u.kind) us

abbrev pub flags_of : List Sent → List Bool
flags_of fs = map (λ f. has_objects f.asdu) fs

not_false : (b : Bool) → not b ≡ false → b ≡ true
not_false true h = refl
not_false false h = cc

pub no_objects : (a : List ℕ) → has_objects a ≡ false → objects a ≡ []
no_objects a h = nil_from_length (objects a) (eqb-true _ _ (not_false (length (objects a) == 0) h))

pub pieces_of-append : (xs ys : List Sent) → pieces_of (xs ++ ys) ≡ pieces_of xs ++ pieces_of ys
pieces_of-append [] ys = refl
pieces_of-append (x ∷ xs) ys =
    elim (has_objects x.asdu) as (λ b. cond b (x.asdu ∷ pieces_of (xs ++ ys)) (pieces_of (xs ++ ys))
    ≡ cond b (x.asdu ∷ pieces_of xs) (pieces_of xs) ++ pieces_of ys)
    [ true ↦ ap (λ t. x.asdu ∷ t) (pieces_of-append xs ys) | false ↦ pieces_of-append xs ys ]

-- what the pieces say is what the frames say
objects_by : (x : Sent) (rest : List (List ℕ)) (said : List InformationObject) (b : Bool)
    → has_objects x.asdu ≡ b
    → flat_map objects rest ≡ said → flat_map objects (cond b (x.asdu ∷ rest) rest)
    ≡ objects x.asdu ++ said
objects_by x rest said true e h = ap (λ t. objects x.asdu ++ t) h
objects_by x rest said false e h = h ∙ sym (ap (λ t. t ++ said) (no_objects x.asdu e))

pub objects-pieces_of : (fs : List Sent) → flat_map objects (pieces_of fs) ≡ objects_of_frames fs
objects-pieces_of [] = refl
objects-pieces_of (f ∷ fs) = objects_by f (pieces_of fs) (objects_of_frames fs) (has_objects f.asdu)
    refl
    (objects-pieces_of fs)

-- each of them has monitor objects
whole_by : (x : Sent) (rest : List (List ℕ)) (b : Bool) → has_objects x.asdu ≡ b
    → list_all (has_objects) rest ≡ true
    → list_all (has_objects) (cond b (x.asdu ∷ rest) rest) ≡ true
whole_by x rest true e h = rw e h
whole_by x rest false e h = h

pub all-pieces_of : (fs : List Sent) → list_all (has_objects) (pieces_of fs) ≡ true
all-pieces_of [] = refl
all-pieces_of (f ∷ fs) = whole_by f (pieces_of fs) (has_objects f.asdu) refl (all-pieces_of fs)

-- The frames that so many acknowledge, and their pieces
taken_by : (x : Sent) (n count : ℕ) (rest fewer : List (List ℕ)) (b : Bool)
    → fewer ≡ drop count rest
    → fewer ≡ drop (cond b (suc count) count) (cond b (x.asdu ∷ rest) rest)
taken_by x n count rest fewer true h = h
taken_by x n count rest fewer false h = h

from_queue-cons : (u : Unacknowledged) (us : List Unacknowledged)
    → from_queue (u ∷ us) ≡ cond (is_from_queue u.kind) (suc (from_queue us)) (from_queue us)
from_queue-cons u us =
    sum_by-cons (λ (x : Unacknowledged). cond (is_from_queue x.kind) 1 0) u us
    ∙ (elim (is_from_queue u.kind) as (λ b. cond b 1 0 + from_queue us
    ≡ cond b (suc (from_queue us)) (from_queue us))
    [ true ↦ omega arith | false ↦ omega arith ])

-- dropping frames drops as many pieces as there are queue entries among the kinds
pub pieces_of-drop : (n : ℕ) (fs : List Sent) (us : List Unacknowledged) → kinds_of us ≡ flags_of fs
    → pieces_of (drop n fs) ≡ drop (from_queue (take n us)) (pieces_of fs)
pieces_of-drop zero fs us h = refl
pieces_of-drop (suc n) [] [] h = refl
pieces_of-drop (suc n) [] (u ∷ us) h = cc
pieces_of-drop (suc n) (f ∷ fs) [] h = cc
pieces_of-drop (suc n) (f ∷ fs) (u ∷ us) h =
    let same : is_from_queue u.kind ≡ has_objects f.asdu = cc in
    let rest : kinds_of us ≡ flags_of fs = cc in
    let counted : from_queue (take (suc n) (u ∷ us))
    ≡ cond (has_objects f.asdu) (suc (from_queue (take n us)))
    (from_queue (take n us)) =
    from_queue-cons u (take n us)
    ∙ ap (λ b. cond b (suc (from_queue (take n us))) (from_queue (take n us))) same in
    subst (λ k. pieces_of (drop (suc n) (f ∷ fs)) ≡ drop k (pieces_of (f ∷ fs))) (sym counted)
    (taken_by f n (from_queue (take n us)) (pieces_of fs) (pieces_of (drop n fs))
    (has_objects f.asdu)
    (pieces_of-drop n fs us rest))
