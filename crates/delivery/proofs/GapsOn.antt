-- The gaps of a station are those of all gaps that bear its number.
use Rattle.std.proofs.Common.{◌≡◌, ℕ, ◌==◌, Bool, true, false, List, [], ◌∷◌, ◌++◌, refl, ap, sym}
use Rattle.std.proofs.Common.{◌∙◌}
use Rattle.std.specs.Prelude.{if◌then◌else◌}
use Rattle.std.proofs.lemmas.List.{append-nil}
use Rattle.gateway.specs.Gaps.{gaps_reported}
use Rattle.gateway.specs.Log.{Log, Came, Went, LineOut, TcpOut, Closed, GapOut}
use Rattle.delivery.specs.Merges.{values_of}
use Rattle.delivery.specs.Sessions.{gaps_on}

-- one more value
more_by : (b : Bool) (value : ℕ) (values : List ℕ)
    → (if b then values ++ value ∷ [] else values) ≡ values ++ (if b then value ∷ [] else [])
more_by true value values = refl
more_by false value values = sym (append-nil values)

first_by : (b : Bool) (value : ℕ) (values more : List ℕ)
    → (if b then value ∷ (values ++ more) else values ++ more)
    ≡ (if b then value ∷ values else values) ++ more
first_by true value values more = refl
first_by false value values more = refl

values_both : (i : ℕ) (xs ys : List (ℕ × ℕ))
    → values_of i (xs ++ ys) ≡ values_of i xs ++ values_of i ys
values_both i [] ys = refl
values_both i (x ∷ xs) ys =
    ap (λ (l : List ℕ). if x.0 == i then x.1 ∷ l else l) (values_both i xs ys)
    ∙ first_by (x.0 == i) x.1 (values_of i xs) (values_of i ys)

pub gaps_of_station : (i : ℕ) (log : Log) → gaps_reported i log ≡ values_of i (gaps_on log)
gaps_of_station i [] = refl
gaps_of_station i (Came now event ∷ log) = gaps_of_station i log
gaps_of_station i (Went now (LineOut octets) ∷ log) = gaps_of_station i log
gaps_of_station i (Went now (TcpOut octets) ∷ log) = gaps_of_station i log
gaps_of_station i (Went now (Closed cause) ∷ log) = gaps_of_station i log
gaps_of_station i (Went now (GapOut station session) ∷ log) =
    ap (λ (l : List ℕ). if station == i then l ++ session ∷ [] else l) (gaps_of_station i log)
    ∙ more_by (station == i) session (values_of i (gaps_on log))
    ∙ sym (values_both i (gaps_on log) ((station, session) ∷ []))
