-- What the outcome of an APDU leaves.
use Rattle.std.proofs.Common.{◌≡◌, ℕ, ◌+◌, ◌-◌, List, length, take, drop, ap, ◌∙◌, sym, subst}
use Rattle.std.proofs.Common.{Option}
use Rattle.std.proofs.lemmas.List.{drop-drop, length-drop}
use Rattle.std.proofs.Math.Seq.{take-length}
use Rattle.gateway.specs.Log.{Log}
use Rattle.gateway.specs.Reports.{Setup}
use Rattle.gateway.specs.declared.step.Progress.{Progress}
use Rattle.gateway.specs.declared.step.Progress.TheVariants.{On}
use Rattle.gateway.specs.State.{State}
use Rattle.gateway.specs.Agrees.{Awaits}
use Rattle.gateway.specs.Judging.{Goes, IsOnward, faults_in}
use Rattle.gateway.specs.Runs.{Puts}

-- what is left of a piece is all of its octets from a place on
pub rest_is : (done : ℕ) (octets : List ℕ) → take (length octets - done) (drop done octets)
    ≡ drop done octets
rest_is done octets = ap (λ n. take n (drop done octets)) (sym (length-drop done octets))
    ∙ take-length (drop done octets)

-- an APDU is taken from what is left of a piece
pub goes_from : (p : Setup) (o : Progress) (s t : State) (logged after : Option Log) (n done : ℕ)
    (octets : List ℕ)
    → (Awaits p s logged (take (length octets - done) (drop done octets))
    → Goes o p t after (drop n (take (length octets - done) (drop done octets))))
    → Awaits p s logged (drop done octets) → Goes o p t after (drop (done + n) octets)
goes_from p o s t logged after n done octets law h =
    subst (λ rest. Goes o p t after rest) (drop-drop n done octets)
    (subst (λ front. Goes o p t after (drop n front)) (rest_is done octets)
    (law (subst (λ front. Awaits p s logged front) (sym (rest_is done octets)) h)))

pub goes_as : (p : Setup) (o out : Progress) (s : State) (logged : Option Log) (rest : List ℕ)
    → o ≡ out
    → Goes o p s logged rest → Goes out p s logged rest
goes_as p o out s logged rest is h = subst (λ o. Goes o p s logged rest) is h

pub onward : (o : Progress) (P : Type 0) → o ≡ On → IsOnward o P → P
onward o P is h = subst (λ o. IsOnward o P) is h

pub put_by : {S F : Type 0} {log : S → Option Log} {fixed : S → F} {failed : S → ℕ} {a b : S}
    (o out : Progress)
    → o ≡ out → Puts log fixed failed a b (faults_in o) → Puts log fixed failed a b (faults_in out)
put_by {log = log} {fixed = fixed} {failed = failed} {a = a} {b = b} o out is h =
    subst (λ o. Puts log fixed failed a b (faults_in o)) is h
