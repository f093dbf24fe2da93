-- Stations that are told to be the same are so.
use Rattle.std.proofs.Common.{◌≡◌, ◌==◌, ◌&&◌, Bool, true, false, ℕ, List, [], ◌∷◌, refl, ap, ◌∙◌}
use Rattle.std.proofs.lemmas.Bool.{and_parts, eqb-true, eq-eqb}
use lib.Pointwise.{pointwise}
use mathlib.Core.Bool.{beq}
use Rattle.gateway.specs.declared.settings.StationSettings.{StationSettings}
use Rattle.gateway.specs.contracts.settings.StationSettingsPartialEq.TheImpl.{eq-value}

same_flag : (a b : Bool) → beq a b ≡ true → a ≡ b
same_flag true true e = refl
same_flag true false e = cc
same_flag false true e = cc
same_flag false false e = refl

flag_self : (a : Bool) → beq a a ≡ true
flag_self true = refl
flag_self false = refl

same_one : (a b : StationSettings) → eq-value.it a b ≡ true → a ≡ b
same_one a b e =
    let parts = and_parts (a.address == b.address) _ e in
    let last = and_parts (a.ca == b.ca) _ parts.1 in
    let address : a.address ≡ b.address = eqb-true _ _ parts.0 in
    let ca : a.ca ≡ b.ca = eqb-true _ _ last.0 in
    let select : a.select ≡ b.select = same_flag a.select b.select last.1 in
    ap (λ (n : ℕ). let s : StationSettings =
    record { address = n; ca = a.ca; select = a.select } in s) address
    ∙ ap (λ (n : ℕ). let s : StationSettings =
    record { address = b.address; ca = n; select = a.select } in s) ca
    ∙ ap (λ (x : Bool). let s : StationSettings =
    record { address = b.address; ca = b.ca; select = x } in s) select

one_self : (a : StationSettings) → eq-value.it a a ≡ true
one_self a =
    let address = eq-eqb a.address a.address refl in
    let ca = eq-eqb a.ca a.ca refl in
    let select = flag_self a.select in
    rw (address, ca, select) refl

pub same_all : (xs ys : List StationSettings) → pointwise eq-value.it xs ys ≡ true → xs ≡ ys
same_all [] [] e = refl
same_all [] (y ∷ ys) e = absurd (cc)
same_all (x ∷ xs) [] e = absurd (cc)
same_all (x ∷ xs) (y ∷ ys) e =
    let parts = and_parts (eq-value.it x y) (pointwise eq-value.it xs ys) e in
    let first : x ≡ y = same_one x y parts.0 in
    let rest : xs ≡ ys = same_all xs ys parts.1 in
    cc

pub all_self : (xs : List StationSettings) → pointwise eq-value.it xs xs ≡ true
all_self [] = refl
all_self (x ∷ xs) = ap (λ (b : Bool). b && pointwise eq-value.it xs xs) (one_self x) ∙ all_self xs
