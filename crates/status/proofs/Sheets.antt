-- What stands on a sheet after some octets.
use Rattle.std.proofs.Common.{◌≡◌, ℕ, ◌+◌, ◌<◌, ◌≤◌, List, [], ◌∷◌, ◌++◌, length, nat_lt, Bool}
use Rattle.std.proofs.Common.{true, false, ◌⊎◌, inl, inr, take, ◌-◌, Option, Some, None}
use Rattle.std.proofs.Common.{if◌then◌else◌, refl, sym, ap, ◌∙◌, arith, append_assoc, length-append}
use Rattle.std.proofs.lemmas.List.{append-nil, length-take-le}
use Rattle.status.specs.TextPage.{Sheet, pushed, text_with, put}

-- what found no room is not mended by more
pub text_with_none : (room : ℕ) (a : List ℕ) → text_with room a None ≡ None
text_with_none room [] = refl
text_with_none room (c ∷ a) = text_with_none room a

-- more octets behind some
pub text_with_append : (room : ℕ) (a b : List ℕ) (t : Option (List ℕ))
    → text_with room (a ++ b) t ≡ text_with room b (text_with room a t)
text_with_append room [] b t = refl
text_with_append room (c ∷ a) b t = text_with_append room a b (pushed room t c)

pub put_put : (a b : List ℕ) (s : Sheet) → put b (put a s) ≡ put (a ++ b) s
unfolding put
put_put a b s = ap (λ (t : Option (List ℕ)). let u : Sheet = record { room = s.room; text = t } in
    u) (sym (text_with_append s.room a b s.text))

pushed_some : (room : ℕ) (t : List ℕ) (c : ℕ) → length t < room → pushed room (Some t) c
    ≡ Some (t ++ c ∷ [])
pushed_some room t c lt = let e : nat_lt (length t) room ≡ true = grind arith in rw e refl

pushed_none : (room : ℕ) (t : List ℕ) (c : ℕ) → room ≤ length t → pushed room (Some t) c ≡ None
pushed_none room t c le = let e : nat_lt (length t) room ≡ false = grind arith in rw e refl

-- they stand there whole if there is room for them
pub text_with_room : (room : ℕ) (a t : List ℕ) → length t + length a ≤ room
    → text_with room a (Some t) ≡ Some (t ++ a)
text_with_room room [] t le = ap Some (sym (append-nil t))
text_with_room room (c ∷ a) t le =
    let lt : length t < room = omega arith in
    let behind : length (t ++ c ∷ []) + length a ≤ room = simp length-append (omega arith) in
    ap (λ (o : Option (List ℕ)). text_with room a o) (pushed_some room t c lt)
    ∙ text_with_room room a (t ++ c ∷ []) behind ∙ ap Some (append_assoc t (c ∷ []) a)

less_or : (room n : ℕ) → (room ≤ n) ⊎ (n < room)
less_or room n = by_test (nat_lt n room) refl
  where
    by_test : (b : Bool) → nat_lt n room ≡ b → (room ≤ n) ⊎ (n < room)
    by_test true e = inr (grind arith)
    by_test false e = inl (grind arith)

-- and nothing stands there if there isn't
pub text_without_room : (room : ℕ) (a t : List ℕ) → length t ≤ room → room < length t + length a
    → text_with room a (Some t) ≡ None
text_without_room room [] t le lt = absurd (omega arith)
text_without_room room (c ∷ a) t le lt =
    elim (less_or room (length t)) [
      | inl most ↦ ap (λ (o : Option (List ℕ)). text_with room a o) (pushed_none room t c most)
          ∙ text_with_none room a
      | inr some ↦ ap (λ (o : Option (List ℕ)). text_with room a o) (pushed_some room t c some)
          ∙ text_without_room room a (t ++ c ∷ []) (simp length-append (omega arith))
          (simp length-append (omega arith))
    ]

-- the sheet of a page: the front of a list, unless something found no room
abbrev pub seen : (is_cut : Bool) → (end : ℕ) → List ℕ → Sheet
seen is_cut end xs = record { room = length xs; text = if is_cut then None else Some (take end xs) }

pub put_whole : (is_cut : Bool) (xs octets ys : List ℕ) (end : ℕ) → is_cut ≡ false
    → end ≤ length xs → length octets ≤ length xs - end → length ys ≡ length xs
    → take (end + length octets) ys ≡ take end xs ++ octets
    → seen is_cut (end + length octets) ys ≡ put octets (seen is_cut end xs)
unfolding put
put_whole true xs octets ys end whole within le same is = cc
put_whole false xs octets ys end whole within le same is =
    let len : length (take end xs) ≡ end = length-take-le end xs within in
    let all = text_with_room (length xs) octets (take end xs) (omega arith) in
    rw (same, is, all) refl

pub put_cut : (is_cut : Bool) (xs octets : List ℕ) (end : ℕ) → is_cut ≡ false
    → end ≤ length xs → length xs - end < length octets
    → seen true end xs ≡ put octets (seen is_cut end xs)
unfolding put
put_cut true xs octets end whole within lt = cc
put_cut false xs octets end whole within lt =
    let len : length (take end xs) ≡ end = length-take-le end xs within in
    rw (text_without_room (length xs) octets (take end xs) (omega arith) (omega arith)) refl

pub put_none : (is_cut : Bool) (xs octets : List ℕ) (end : ℕ) → is_cut ≡ true
    → seen is_cut end xs ≡ put octets (seen is_cut end xs)
unfolding put
put_none true xs octets end cut = rw (text_with_none (length xs) octets) refl
put_none false xs octets end whole = cc

pub room_put : (octets : List ℕ) (s : Sheet) → (put octets s).room ≡ s.room
unfolding put
room_put octets s = refl
