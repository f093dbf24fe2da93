-- What stations are called, one behind another.
use Rattle.std.proofs.Common.{◌≡◌, ℕ, ◌+◌, ◌<◌, List, [], ◌∷◌, ◌++◌, map, take, get_or, length}
use Rattle.std.proofs.Common.{sym, ap, ◌∙◌}
use Rattle.std.proofs.lemmas.List.{map-append, take_more}

-- Each of so many items and what was made of it say the same. So do they with one more.
pub one_more : {A B C : Type 0} (f : A → C) (g : B → C) (items : List A) (i : ℕ) (d : A)
    (made new : List B) (one : B) → i < length items → new ≡ made ++ one ∷ []
    → map g made ≡ map f (take i items) → g one ≡ f (get_or items i d)
    → map g new ≡ map f (take (i + 1) items)
one_more {A} {B} {C} f g items i d made new one within pushed so_far same =
    ap (λ (bs : List B). map g bs) pushed
    ∙ (map-append g made (one ∷ [])
    ∙ (ap (λ (cs : List C). cs ++ g one ∷ []) so_far
    ∙ (ap (λ (c : C). map f (take i items) ++ c ∷ []) same
    ∙ (sym (map-append f (take i items) (get_or items i d ∷ []))
    ∙ ap (λ (xs : List A). map f xs) (sym (take_more items i d within))))))
