-- The place of a station's address.
use Rattle.std.proofs.Common.{◌≡◌, ℕ, suc, ◌+◌, ◌<◌, ◌≤◌, Bool, true, false, List, [], ◌∷◌, length}
use Rattle.std.proofs.Common.{drop, get_or, map, Option, Some, None, refl, sym, ap, ◌∙◌, arith}
use Rattle.std.proofs.Common.{if◌then◌else◌}
use Rattle.std.specs.Prelude.{◌==◌, option_map}
use Rattle.std.proofs.lemmas.List.{drop_more, drop_all}
use Rattle.std.proofs.lemmas.Bool.{eq-eqb, ne_eqb}
use Rattle.gateway.specs.declared.settings.StationSettings.{StationSettings}
use Rattle.gateway.specs.Reports.{index_of}

-- the place, counted from n
abbrev pub place_from : (address : ℕ) → List ℕ → (n : ℕ) → Option ℕ
place_from address [] n = None
place_from address (a ∷ addresses) n = if a == address then Some n
    else place_from address addresses (n + 1)

from_place : (address : ℕ) (xs : List ℕ) (n : ℕ) → place_from address xs n
    ≡ option_map (λ k. k + n) (index_of address xs)
from_place address [] n = refl
from_place address (x ∷ xs) n = go (x == address) (from_place address xs (n + 1))
  where
    more : (m : Option ℕ) → option_map (λ (k : ℕ). k + (n + 1)) m
        ≡ option_map (λ (k : ℕ). k + n) (option_map suc m)
    more None = refl
    more (Some k) = let same : k + (n + 1) ≡ suc k + n = omega arith in ap (λ (j : ℕ). Some j) same

    go : (b : Bool) → place_from address xs (n + 1)
        ≡ option_map (λ k. k + (n + 1)) (index_of address xs) →
        (if b then Some n else place_from address xs (n + 1))
        ≡ option_map (λ k. k + n) (if b then Some 0 else option_map suc (index_of address xs))
    go true ih = let same : n ≡ 0 + n = omega arith in ap (λ (j : ℕ). Some j) same
    go false ih = ih ∙ more (index_of address xs)

abbrev pub addresses_of : List StationSettings → List ℕ
addresses_of ss = map (λ (s : StationSettings). s.address) ss

pub place_first : (address : ℕ) (ss : List StationSettings) → place_from address (addresses_of ss) 0
    ≡ index_of address (addresses_of ss)
place_first address ss = from_place address (addresses_of ss) 0
    ∙ go (index_of address (addresses_of ss))
  where
    go : (m : Option ℕ) → option_map (λ (k : ℕ). k + 0) m ≡ m
    go None = refl
    go (Some k) = let same : k + 0 ≡ k = omega arith in ap (λ (j : ℕ). Some j) same

pub place_here : (address : ℕ) (ss : List StationSettings) (i : ℕ) (d : StationSettings)
    (whole : Option ℕ)
    → i < length ss
    → (get_or ss i d).address ≡ address → place_from address (addresses_of (drop i ss)) i ≡ whole
    → Some i ≡ whole
place_here address ss i d whole lt is so =
    sym (ap (λ (l : List StationSettings). place_from address (addresses_of l) i)
    (drop_more ss i d lt)
    ∙ ap (λ (b : Bool). if b then Some i else place_from address (addresses_of (drop (i + 1) ss))
    (i + 1))
    (eq-eqb (get_or ss i d).address address is)) ∙ so

pub place_more : (address : ℕ) (ss : List StationSettings) (i : ℕ) (d : StationSettings)
    (whole : Option ℕ)
    → i < length ss
    → ((get_or ss i d).address ≡ address → ⊥) → place_from address (addresses_of (drop i ss)) i
    ≡ whole →
    place_from address (addresses_of (drop (i + 1) ss)) (i + 1) ≡ whole
place_more address ss i d whole lt never so =
    sym (ap (λ (l : List StationSettings). place_from address (addresses_of l) i)
    (drop_more ss i d lt)
    ∙ ap (λ (b : Bool). if b then Some i else place_from address (addresses_of (drop (i + 1) ss))
    (i + 1))
    (ne_eqb (get_or ss i d).address address never)) ∙ so

pub place_none : (address : ℕ) (ss : List StationSettings) (i : ℕ) (whole : Option ℕ) → length ss
    ≤ i
    → place_from address (addresses_of (drop i ss)) i ≡ whole → None ≡ whole
place_none address ss i whole le so =
    sym (ap (λ (l : List StationSettings). place_from address (addresses_of l) i)
    (drop_all i ss le)) ∙ so
