-- What is answered to whom, and what rows and lines begin with.
use Rattle.std.proofs.Common.{◌≡◌, ◌≢◌, ℕ, List, ◌++◌, Bool, true, false, None, Some}
use Rattle.std.proofs.Common.{refl, append_assoc, codes}
use Rattle.std.proofs.Common.{arith, if◌then◌else◌}
use Rattle.std.proofs.lemmas.Slice.Eq.{bytes_eq-Decides}
use Rattle.std.specs.Prelude.{bytes_eq}
use Rattle.status.specs.Request.{asked_by, view_of}
use Rattle.status.specs.declared.request.Inquiry.TheVariants.{Forbidden}
use Rattle.status.specs.declared.request.View.TheVariants as view

-- What is asked

other_text : (xs ys : List ℕ) → xs ≢ ys → bytes_eq xs ys ≡ false
other_text xs ys other = grind (arith, bytes_eq-Decides)

none_of_four : (a b d e : Bool) → a ≡ false → b ≡ false → d ≡ false → e ≡ false
    → (if a then Some view.Person else if b then Some view.Json else if d then Some view.Metrics
    else if e then Some view.Table else None)
    ≡ None
none_of_four true b d e is_a is_b is_d is_e = cc
none_of_four false true d e is_a is_b is_d is_e = cc
none_of_four false false true e is_a is_b is_d is_e = cc
none_of_four false false false true is_a is_b is_d is_e = cc
none_of_four false false false false is_a is_b is_d is_e = refl

pub no_view : (path : List ℕ) → path ≢ codes "/" → path ≢ codes "/status.json"
    → path ≢ codes "/metrics" → path ≢ codes "/status.txt" → view_of path ≡ None
no_view path root json metrics table =
    none_of_four (bytes_eq path (codes "/")) (bytes_eq path (codes "/status.json"))
    (bytes_eq path (codes "/metrics")) (bytes_eq path (codes "/status.txt"))
    (other_text path (codes "/") root) (other_text path (codes "/status.json") json)
    (other_text path (codes "/metrics") metrics) (other_text path (codes "/status.txt") table)

none_of_two : {A : Type 0} (a b : Bool) (one two other : A) → a ≡ false → b ≡ false
    → (if a then one else if b then two else other) ≡ other
none_of_two true b one two other is_a is_b = cc
none_of_two false true one two other is_a is_b = cc
none_of_two false false one two other is_a is_b = refl

pub other_method : (method target : List ℕ) → method ≢ codes "GET" → method ≢ codes "HEAD"
    → asked_by method target ≡ Forbidden
other_method method target get head =
    none_of_two (bytes_eq method (codes "GET")) (bytes_eq method (codes "HEAD")) _ _ Forbidden
    (other_text method (codes "GET") get) (other_text method (codes "HEAD") head)

-- How long ago

-- Whose a row is

-- The line

-- Moments

-- The summary

two : (a end next more : List ℕ) → a ++ ((end ++ next) ++ more) ≡ (a ++ end) ++ (next ++ more)
two a end next more = simp append_assoc

-- Names for Prometheus
