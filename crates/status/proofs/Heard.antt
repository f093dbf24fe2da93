-- The latest lines of the log that are shown, one behind another.
use Rattle.std.proofs.Common.{◌≡◌, ℕ, suc, ◌+◌, ◌<◌, ◌≤◌, List, [], ◌∷◌, ◌++◌, length, take, get_or}
use Rattle.std.proofs.Common.{sym, ap, subst, ◌∙◌, arith}
use Rattle.std.proofs.Math.Seq.{take-suc}
use Rattle.std.proofs.lemmas.Bool.Decides.{nat_tests}
use Rattle.std.specs.Prelude.{◌==◌, false}
use Rattle.std.specs.List.{AllZip}
use Rattle.runlog.specs.declared.note.LogLine.{LogLine}
use Rattle.status.specs.Shown.{AreEvents, IsEvent}
use Rattle.status.specs.declared.snapshot.EventView.{EventView}

zip_more : {A B : Type 0} (R : A → B → Type 0) (xs : List A) (ys : List B) (x : A) (y : B)
    → AllZip R xs ys → R x y → AllZip R (xs ++ x ∷ []) (ys ++ y ∷ [])
zip_more R [] [] x y all one = (one, tt)
zip_more R [] (b ∷ ys) x y all one = absurd all
zip_more R (a ∷ xs) [] x y all one = absurd all
zip_more R (a ∷ xs) (b ∷ ys) x y (first, all) one = (first, zip_more R xs ys x y all one)

pub one_more : (latest : List LogLine) (events : List EventView) (i : ℕ) (line : LogLine)
    (event : EventView) → i < length latest → IsEvent (get_or latest i line) event
    → AreEvents (take i latest) events → AreEvents (take (i + 1) latest) (events ++ event ∷ [])
one_more latest events i line event lt is all =
    let next : suc i ≡ i + 1 = omega arith in
    subst (λ (l : List LogLine). AreEvents l (events ++ event ∷ []))
    (sym (take-suc latest i line lt) ∙ ap (λ (n : ℕ). take n latest) next)
    (zip_more IsEvent (take i latest) events (get_or latest i line) event all is)

pub not_twenty : (n i : ℕ) → false ≡ (n == 20) → n ≤ 20 → n ≡ i → i + 1 ≤ 20
not_twenty n i is le same = grind (arith, nat_tests)
