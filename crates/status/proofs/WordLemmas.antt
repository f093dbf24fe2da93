-- What stands on a sheet after more words.
use Rattle.std.proofs.Common.{◌≡◌, ℕ, ◌+◌, ◌-◌, ◌<◌, ◌≤◌, List, [], ◌∷◌, ◌++◌, length, drop, get_or}
use Rattle.std.proofs.Common.{take, replicate, suc, refl, sym, ap, ◌∙◌, arith, drop-cons}
use Rattle.std.proofs.Math.ListN.{drop_of_length-le}
use Rattle.std.proofs.lemmas.List.{take_rest}
use Rattle.status.specs.TextPage.{Sheet, put}
use Rattle.status.specs.Words.{behind, listed, joined}
use Rattle.status.proofs.Sheets.{put_put}

pub put_nothing : (s : Sheet) → put [] s ≡ s
unfolding put
put_nothing s = refl

-- What a list means from a place on is put so: the element there first, and then the rest.
pub put_more : {A : Type 0} (f : A → List ℕ) (g : List A → List ℕ) (xs : List A) (i : ℕ) (d : A)
    (s p t : Sheet)
    → ((y : A) (ys : List A) → g (y ∷ ys) ≡ f y ++ g ys) → i < length xs
    → p ≡ put (f (get_or xs i d)) s → put (g (drop i xs)) s ≡ t → put (g (drop (i + 1) xs)) p ≡ t
put_more f g xs i d s p t step lt puts rest =
    let cut : g (drop i xs) ≡ f (get_or xs i d) ++ g (drop (i + 1) xs) =
    ap g (drop-cons xs i d lt)
    ∙ step (get_or xs i d) (drop (suc i) xs)
    ∙ ap (λ (n : ℕ). f (get_or xs i d) ++ g (drop n xs)) (let e : suc i ≡ i + 1 = omega arith in
    e) in
    ap (put (g (drop (i + 1) xs))) puts ∙ put_put (f (get_or xs i d)) (g (drop (i + 1) xs)) s
    ∙ ap (λ (l : List ℕ). put l s) (sym cut) ∙ rest

pub put_item : {A : Type 0} (f : A → List ℕ) (g : List A → List ℕ) (xs : List A) (i : ℕ) (x : A)
    (s p t : Sheet)
    → ((y : A) (ys : List A) → g (y ∷ ys) ≡ f y ++ g ys) → i < length xs → x ≡ get_or xs i x
    → p ≡ put (f x) s → put (g (drop i xs)) s ≡ t → put (g (drop (i + 1) xs)) p ≡ t
put_item f g xs i x s p t step lt is puts rest =
    put_more f g xs i x s p t step lt (puts ∙ ap (λ y. put (f y) s) is) rest

-- a comma and the text behind it
pub put_comma : (text : List ℕ) (s p q : Sheet) → p ≡ put (44 ∷ []) s → q ≡ put text p
    → q ≡ put (44 ∷ text) s
put_comma text s p q first then = then ∙ ap (put text) first ∙ put_put (44 ∷ []) text s

-- At its end nothing is left.
pub put_all : {A : Type 0} (g : List A → List ℕ) (xs : List A) (i : ℕ) (s t : Sheet)
    → length xs ≤ i → g [] ≡ [] → put (g (drop i xs)) s ≡ t → s ≡ t
put_all g xs i s t le none is =
    sym (put_nothing s) ∙ ap (λ (l : List ℕ). put l s) (sym (ap g (drop_of_length-le xs le) ∙ none))
    ∙ is

-- Texts that are put one after another

abbrev pub puts : List (List ℕ) → Sheet → Sheet
puts [] s = s
puts (t ∷ ts) s = puts ts (put t s)

pub puts_joined : (ts : List (List ℕ)) (s : Sheet) → puts ts s ≡ put (joined ts) s
puts_joined [] s = sym (put_nothing s)
puts_joined (t ∷ ts) s = puts_joined ts (put t s) ∙ put_put t (joined ts) s

-- Spaces up to a width

pub one_space : (width i : ℕ) (s : Sheet) → i < width
    → put (replicate (width - (i + 1)) 32) (put (32 ∷ []) s) ≡ put (replicate (width - i) 32) s
one_space width i s lt =
    put_put (32 ∷ []) (replicate (width - (i + 1)) 32) s
    ∙ ap (λ (n : ℕ). put (replicate n 32) s) (let e : suc (width - (i + 1)) ≡ width - i =
    omega arith in e)

pub no_space : (width i : ℕ) (s : Sheet) → width ≤ i → s ≡ put (replicate (width - i) 32) s
no_space width i s le =
    sym (put_nothing s) ∙ ap (λ (n : ℕ). put (replicate n 32) s) (let e : 0 ≡ width - i =
    omega arith in e)

-- A list with commas between its texts

pub listed_none : {A : Type 0} (f : A → List ℕ) (xs : List A) (s : Sheet) → length xs < 1
    → s ≡ put (listed f xs) s
listed_none f [] s lt = sym (put_nothing s)
listed_none f (x ∷ xs) s lt = absurd (omega arith)

pub listed_some : {A : Type 0} (f : A → List ℕ) (xs : List A) (x : A) (s p q : Sheet)
    → 1 ≤ length xs → x ≡ get_or xs 0 x → p ≡ put (f x) s
    → q ≡ put (behind f (take (length xs - 1) (drop 1 xs))) p → q ≡ put (listed f xs) s
listed_some f [] x s p q some is first others = absurd (omega arith)
listed_some f (y ∷ ys) x s p q some is first others =
    others ∙ ap (λ l. put (behind f l) p) (take_rest (y ∷ ys) 1)
    ∙ ap (put (behind f ys)) (first ∙ ap (λ z. put (f z) s) is) ∙ put_put (f y) (behind f ys) s
