-- A list with a mark, and the two lists round the mark.
use Rattle.std.proofs.Common.{◌≡◌, ℕ, ◌+◌, ◌-◌, ◌≤◌, List, [], ◌∷◌, ◌++◌, length, take, drop, refl}
use Rattle.std.proofs.Common.{ap, sym, ◌∙◌, arith, suc, zero, append_assoc, length-append}
use Rattle.std.proofs.lemmas.List.{map-append, take-append-drop, take-map, drop-map, drop-drop}
use Rattle.std.proofs.lemmas.List.{drop-take, take-append-le, drop-append-le, take-take, length-map}
use Rattle.std.proofs.lemmas.List.{length-take}
use Rattle.std.specs.Prelude.{Some, None, slice_get}
use Rattle.arrayvec.specs.ArrayVec.{ArrayVec}
use Rattle.events.specs.Pieces.{AreSendable}
use Rattle.events.specs.Queue.{Queue, queue_of, octets_of, acknowledged, rewound, kept}
use Rattle.events.specs.Restored.{marked}

abbrev pub queue_from : List (List ℕ) → List (List ℕ) → ℕ → Queue
queue_from sent unsent places = record { sent = sent; unsent = unsent; places = places }

pub same_queue : (s t u v : List (List ℕ)) (n : ℕ) → s ≡ t → u ≡ v → queue_from s u n
    ≡ queue_from t v n
same_queue s t u v n e f = ap (λ x. queue_from x u n) e ∙ ap (λ x. queue_from t x n) f

-- what stands before the mark, n further on
take_next : (n : ℕ) (xs : List (ArrayVec ℕ)) (m : ℕ) → octets_of (take (m + n) xs)
    ≡ octets_of (take m xs)
    ++ take n (octets_of (drop m xs))
take_next n xs m =
    let split : take (m + n) xs ≡ take m xs ++ take n (drop m xs) =
    sym (take-append-drop m (take (m + n) xs)) ∙ ap (λ l. l ++ drop m (take (m + n) xs))
    (take-take m (m + n) xs (omega arith)) ∙ ap (λ l. take m xs ++ l) (drop-take m n xs) in
    ap octets_of split ∙ map-append (λ p. p.items) (take m xs) (take n (drop m xs))
    ∙ ap (λ l. octets_of (take m xs) ++ l) (sym (take-map (λ p. p.items) n (drop m xs)))

pub queue_of-marked : (n : ℕ) (xs : List (ArrayVec ℕ)) (m places : ℕ)
    → queue_of xs (m + n) places ≡ marked n (queue_of xs m places)
queue_of-marked n xs m places = same_queue _ _ _ _ places (take_next n xs m)
    (ap octets_of (sym (drop-drop n m xs)) ∙ sym (drop-map (λ p. p.items) n (drop m xs)))

pub queue_of-rewound : (xs : List (ArrayVec ℕ)) (m places : ℕ) → queue_of xs 0 places
    ≡ rewound (queue_of xs m places)
queue_of-rewound xs m places = same_queue _ _ _ _ places refl
    (ap octets_of (sym (take-append-drop m xs)) ∙ map-append (λ p. p.items) (take m xs) (drop m xs))

pub queue_of-acknowledged : (xs : List (ArrayVec ℕ)) (m places n : ℕ) → n ≤ m
    → queue_of (drop n xs) (m - n) places ≡ acknowledged n (queue_of xs m places)
queue_of-acknowledged xs m places n le =
    let there : n + (m - n) ≡ m = omega arith in
    same_queue _ _ _ _ places
    (ap octets_of (sym (drop-take n (m - n) xs) ∙ ap (λ k. drop n (take k xs)) there)
    ∙ sym (drop-map (λ p. p.items) n (take m xs)))
    (ap octets_of (drop-drop (m - n) n xs ∙ ap (λ k. drop k xs) there))

-- what `pushed` says, in a name of its own
abbrev pub behind : List (List ℕ) → Queue → Queue
behind pieces q = queue_from q.sent (q.unsent ++ pieces) q.places

pub queue_of-pushed : (xs more : List (ArrayVec ℕ)) (m places : ℕ) → m ≤ length xs
    → queue_of (xs ++ more) m places ≡ behind (octets_of more) (queue_of xs m places)
queue_of-pushed xs more m places le = same_queue _ _ _ _ places
    (ap octets_of (take-append-le m xs more le))
    (ap octets_of (drop-append-le m xs more le) ∙ map-append (λ p. p.items) (drop m xs) more)

pub within_mark : (xs : List (ArrayVec ℕ)) (m places n : ℕ) (q : Queue) → queue_of xs m places ≡ q
    → n ≤ length q.sent
    → n ≤ m
within_mark xs m places n q e h =
    omega (
      arith,
      ap (λ (p : Queue). length p.sent) e,
      length-map (take m xs) (λ (p : ArrayVec ℕ). p.items),
      length-take m xs,
    )

-- what stands at the mark
pub unsent_some : (xs : List (ArrayVec ℕ)) (m : ℕ) (p : ArrayVec ℕ) → slice_get xs m ≡ Some p
    → octets_of (drop m xs) ≡ p.items ∷ drop 1 (octets_of (drop m xs))
unsent_some [] m p h = cc
unsent_some (x ∷ xs) zero p h = let same : x ≡ p = cc in
    ap (λ (y : ArrayVec ℕ). y.items ∷ octets_of xs) same
unsent_some (x ∷ xs) (suc m) p h = unsent_some xs m p h

pub unsent_none : (xs : List (ArrayVec ℕ)) (m : ℕ) → slice_get xs m ≡ None → octets_of (drop m xs)
    ≡ []
unsent_none [] zero h = refl
unsent_none [] (suc m) h = refl
unsent_none (x ∷ xs) zero h = cc
unsent_none (x ∷ xs) (suc m) h = unsent_none xs m h

-- and what stands behind it
pub lent_some : (xs : List (ArrayVec ℕ)) (m : ℕ) (p : ArrayVec ℕ) → slice_get xs m ≡ Some p
    → octets_of (drop m xs) ≡ p.items ∷ octets_of (drop (m + 1) xs)
lent_some xs m p h =
    unsent_some xs m p h
    ∙ ap (λ ps. p.items ∷ ps) (drop-map (λ q. q.items) 1 (drop m xs)
    ∙ ap octets_of (drop-drop 1 m xs))

-- ---- each piece is an ASDU

pub sendable-drop : (n : ℕ) (ps : List (List ℕ)) → AreSendable ps → AreSendable (drop n ps)
sendable-drop zero ps h = h
sendable-drop (suc n) [] h = h
sendable-drop (suc n) (p ∷ ps) h = sendable-drop n ps h.1

module _ (left rest : List (List ℕ)) (q r : Queue) (unsent : r.unsent ≡ q.unsent ++ take 1 left)
    (others : rest ≡ drop 1 left) where
  pub unsent-next : r.unsent ++ rest ≡ q.unsent ++ left
  unsent-next =
      ap (λ ps. r.unsent ++ ps) others ∙ ap (λ ps. ps ++ drop 1 left) unsent
      ∙ append_assoc q.unsent (take 1 left) (drop 1 left)
      ∙ ap (λ ps. q.unsent ++ ps) (take-append-drop 1 left)

  -- they have as many places as before
  pub room-next : r.sent ≡ q.sent → length (kept q) + length left ≡ length (kept r) + length rest
  room-next sent =
      let before = length-append q.sent q.unsent in
      let after = length-append r.sent r.unsent in
      let same = ap (λ (ps : List (List ℕ)). length ps) sent in
      let longer = ap (λ (ps : List (List ℕ)). length ps) unsent-next in
      let sum_before = length-append q.unsent left in
      let sum_after = length-append r.unsent rest in
      omega arith

pub kept-queue_of : (xs : List (ArrayVec ℕ)) (m places : ℕ) → kept (queue_of xs m places)
    ≡ octets_of xs
kept-queue_of xs m places =
    sym (map-append (λ p. p.items) (take m xs) (drop m xs)) ∙ ap octets_of (take-append-drop m xs)
