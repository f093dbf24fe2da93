-- Writes of a text, one after another: what was written is a beginning of it.
use Rattle.std.proofs.Common.{◌≡◌, ℕ, zero, suc, ◌+◌, ◌-◌, ◌++◌, List, [], ◌∷◌, length, take, drop}
use Rattle.std.proofs.Common.{take-append-drop, Option, Some, None, refl, ap, subst, sym, ◌∙◌}
use Rattle.std.proofs.Common.{arith}
use Rattle.std.proofs.lemmas.List.{take_all, length-drop}
use Rattle.std.specs.Prelude.{Result, Ok, Err}
use Rattle.std.specs.Io.KnownBytes.{Appends, Keeps, WriteAppends}
use Rattle.traces.specs.Pouring.{IsBegun}
use Rattle.traces.proofs.Poured.{appends_more}

take_add : (m n k : ℕ) (xs : List ℕ) → k ≡ m + n → take k xs ≡ take m xs ++ take n (drop m xs)
take_add zero n k xs e = let same : k ≡ n = omega arith in ap (λ (p : ℕ). take p xs) same
take_add (suc m) n zero xs e = absurd (omega arith)
take_add (suc m) n (suc k) [] e = sym (take_all n [] (omega arith))
take_add (suc m) n (suc k) (x ∷ xs) e = ap (λ (l : List ℕ). x ∷ l) (take_add m n k xs (omega arith))

written_more : (a b c : Option (List ℕ)) (xs : List ℕ) (done n : ℕ) → Appends a b (take done xs)
    → Appends b c (take n (take (length xs - done) (drop done xs))) →
    Appends a c (take (done + n) xs)
written_more a b c xs done n p q =
    let all : take (length xs - done) (drop done xs) ≡ drop done xs =
    take_all (length xs - done) (drop done xs) (omega (arith, length-drop done xs)) in
    subst (Appends a c) (sym (take_add done n (done + n) xs refl))
    (appends_more a b c (take done xs) (take n (drop done xs)) p
    (subst (λ (l : List ℕ). Appends b c (take n l)) all q))

kept_more : (a b c : Option (List ℕ)) (xs : List ℕ) → Appends a b xs → Keeps b c → Appends a c xs
kept_more None b c xs p q = tt
kept_more (Some a) None c xs p q = absurd p
kept_more (Some a) (Some b) None xs p q = absurd q
kept_more (Some a) (Some b) (Some c) xs p q = q ∙ p

-- the first octets of them all
pub begun_so_far : (before after : Option (List ℕ)) (octets : List ℕ) (n : ℕ)
    → Appends before after (take n octets)
    → IsBegun before after octets
begun_so_far before after octets n wrote =
    (take n octets, (drop n octets, take-append-drop n octets), wrote)

module _ {E : Type 0} where
  -- n octets more
  pub taken : (a b c : Option (List ℕ)) (xs : List ℕ) (done n more : ℕ) (r : Result ℕ E) → r ≡ Ok n
      → more ≡ done + n
      → Appends a b (take done xs) → WriteAppends b c r (take (length xs - done) (drop done xs))
      → Appends a c (take more xs)
  taken a b c xs done n more r is all p q =
      subst (λ (k : ℕ). Appends a c (take k xs)) (sym all)
      (written_more a b c xs done n p
      (subst (λ (x : Result ℕ E). WriteAppends b c x (take (length xs - done) (drop done xs))) is
      q))

  -- none, since the write failed
  pub not_taken : (a b c : Option (List ℕ)) (xs buf : List ℕ) (r : Result ℕ E) (e : E) → r ≡ Err e
      → Appends a b xs
      → WriteAppends b c r buf → Appends a c xs
  not_taken a b c xs buf r e is p q =
      kept_more a b c xs p (subst (λ (x : Result ℕ E). WriteAppends b c x buf) is q)
