-- The octet of a control value has its fields.
use Rattle.std.specs.Prelude.{◌==◌}
use Rattle.std.proofs.Common.{◌≡◌, ℕ, ◌+◌, ◌*◌, ◌/◌, ◌%◌, ◌<◌, Bool, true, false, refl, arith}
use Rattle.std.proofs.lemmas.Bool.{eq-eqb, ne_eqb}
use Rattle.link.specs.declared.control.PrimaryFunction.TheVariants as primary
use Rattle.link.specs.declared.control.SecondaryFunction.TheVariants as secondary
use Rattle.link.specs.declared.control.Control.TheVariants as control
use Rattle.link.specs.Control.{PrimaryFunction, SecondaryFunction, Control, primary_code}
use Rattle.link.specs.Control.{secondary_code, HasFields, weight, primary_octet, secondary_octet}
use Rattle.link.specs.Control.{octet_of}

primary_small : (f : PrimaryFunction) → primary_code f < 16
primary_small primary.ResetLink = omega arith
primary_small primary.ResetProcess = omega arith
primary_small primary.Reserved2 = omega arith
primary_small primary.UserData = omega arith
primary_small primary.UserDataUnconfirmed = omega arith
primary_small primary.Reserved5 = omega arith
primary_small primary.Special6 = omega arith
primary_small primary.Special7 = omega arith
primary_small primary.AccessDemand = omega arith
primary_small primary.LinkStatus = omega arith
primary_small primary.Class1 = omega arith
primary_small primary.Class2 = omega arith
primary_small primary.Reserved12 = omega arith
primary_small primary.Reserved13 = omega arith
primary_small primary.Special14 = omega arith
primary_small primary.Special15 = omega arith

secondary_small : (f : SecondaryFunction) → secondary_code f < 16
secondary_small secondary.Confirm = omega arith
secondary_small secondary.Busy = omega arith
secondary_small secondary.Reserved2 = omega arith
secondary_small secondary.Reserved3 = omega arith
secondary_small secondary.Reserved4 = omega arith
secondary_small secondary.Reserved5 = omega arith
secondary_small secondary.Special6 = omega arith
secondary_small secondary.Special7 = omega arith
secondary_small secondary.UserData = omega arith
secondary_small secondary.NoData = omega arith
secondary_small secondary.Reserved10 = omega arith
secondary_small secondary.LinkStatus = omega arith
secondary_small secondary.Reserved12 = omega arith
secondary_small secondary.Special13 = omega arith
secondary_small secondary.NotFunctioning = omega arith
secondary_small secondary.NotImplemented = omega arith

weighed : (place : ℕ) (b : Bool) → weight place b ≡ place * weight 1 b
weighed place true = omega arith
weighed place false = omega arith

is_bit : (b : Bool) (n : ℕ) → n ≡ weight 1 b → (n == 1) ≡ b
is_bit true n e = eq-eqb n 1 e
is_bit false n e = ne_eqb n 1 (λ f. omega (arith, e, f))

small : (b : Bool) → weight 1 b < 2
small true = omega arith
small false = omega arith

primary_fields : (r fcb fcv : Bool) (code : ℕ) → code < 16 → (n : ℕ)
    → n ≡ primary_octet fcb fcv code + weight 128 r →
    ((n / 128 % 2 == 1) ≡ r) × ((n / 64 % 2 == 1) ≡ true) × ((n / 32 % 2 == 1) ≡ fcb)
    × ((n / 16 % 2 == 1) ≡ fcv)
    × (n % 16 ≡ code)
primary_fields r fcb fcv code lt n e =
    let is : n ≡ 64 + 32 * weight 1 fcb + 16 * weight 1 fcv + code + 128 * weight 1 r =
    omega (arith, e, weighed 32 fcb, weighed 16 fcv, weighed 128 r) in (
      is_bit r _ (omega (arith, is, lt, small r, small fcb, small fcv)),
      is_bit true _ (omega (arith, is, lt, small r, small fcb, small fcv)),
      is_bit fcb _ (omega (arith, is, lt, small r, small fcb, small fcv)),
      is_bit fcv _ (omega (arith, is, lt, small r, small fcb, small fcv)),
      omega (arith, is, lt, small r, small fcb, small fcv),
    )

secondary_fields : (r acd dfc : Bool) (code : ℕ) → code < 16 → (n : ℕ)
    → n ≡ secondary_octet acd dfc code + weight 128 r →
    ((n / 128 % 2 == 1) ≡ r) × ((n / 64 % 2 == 1) ≡ false) × ((n / 32 % 2 == 1) ≡ acd)
    × ((n / 16 % 2 == 1) ≡ dfc)
    × (n % 16 ≡ code)
secondary_fields r acd dfc code lt n e =
    let is : n ≡ 32 * weight 1 acd + 16 * weight 1 dfc + code + 128 * weight 1 r =
    omega (arith, e, weighed 32 acd, weighed 16 dfc, weighed 128 r) in (
      is_bit r _ (omega (arith, is, lt, small r, small acd, small dfc)),
      is_bit false _ (omega (arith, is, lt, small r, small acd, small dfc)),
      is_bit acd _ (omega (arith, is, lt, small r, small acd, small dfc)),
      is_bit dfc _ (omega (arith, is, lt, small r, small acd, small dfc)),
      omega (arith, is, lt, small r, small acd, small dfc),
    )

pub has_fields : (v : Control) → HasFields v (octet_of v)
has_fields (control.Primary r fcb fcv f) =
    primary_fields r fcb fcv (primary_code f) (primary_small f) _ refl
has_fields (control.Secondary r acd dfc f) =
    secondary_fields r acd dfc (secondary_code f) (secondary_small f) _ refl
