-- Whom words name.
use Rattle.std.proofs.Common.{◌≡◌, ℕ, ◌<◌, ◌⊎◌, ◌++◌, List, [], ◌∷◌, Some, None, inl, inr, refl}
use Rattle.std.proofs.Common.{sym}
use Rattle.std.proofs.Common.{ap, subst, arith, length, slice_index_or, zero, suc}
use Rattle.std.specs.Prelude.{Contains}
use Rattle.std.proofs.lemmas.List.Elements.{Contains-append_left, Contains-append_right}
use Rattle.std.proofs.lemmas.List.Elements.{Contains-push}
use Rattle.std.specs.declared.net.ip_addr.IpAddr.{IpAddr}
use Rattle.clap.specs.Words.{Text}
use Rattle.live.specs.AllowLists.{Allows}
use Rattle.live.specs.declared.allow_list.AllowList.{AllowList}
use Rattle.live.specs.declared.allow_list.AllowList.TheVariants.{Anyone, Only}
use Rattle.telegate.specs.AllowLists.{AreAddresses, IsAllowListOf, Writes}

-- an element of a list is its first, or one of the others
first_or : {X : Type 0} (first it : X) (others : List X) (k : ℕ) → k < length (first ∷ others)
    → slice_index_or (first ∷ others) k it ≡ it → (it ≡ first) ⊎ Contains others it
first_or first it others zero short e = inl (sym e)
first_or first it others (suc k) short e = inr (k, omega arith, e)

in_first : {X : Type 0} (first : X) (others : List X) → Contains (first ∷ others) first
in_first first others =
    Contains-append_left (first ∷ []) others first (Contains-push [] first)

-- a word that writes it
IsNamedBy : List Text → IpAddr → Type 0
IsNamedBy words address = (word : Text) × Contains words word × Writes word address

named_by : (word : Text) (words : List Text) (first address : IpAddr) (others : List IpAddr)
    → Writes word first → (Contains others address → IsNamedBy words address)
    → (address ≡ first) ⊎ Contains others address → IsNamedBy (word ∷ words) address
unfolding IsNamedBy
named_by word words first address others writes later (inl same) =
    (word, in_first word words, subst (λ (a : IpAddr). Writes word a) (sym same) writes)
named_by word words first address others writes later (inr other) =
    let it = later other in
    (it.0, Contains-append_right (word ∷ []) words it.0 it.1, it.2)

named_in : (words : List Text) (addresses : List IpAddr) (address : IpAddr)
    → AreAddresses words addresses → Contains addresses address → IsNamedBy words address
named_in [] [] address are (k, short, e) = absurd (omega (arith, short))
named_in [] (first ∷ others) address are c = absurd are
named_in (word ∷ words) [] address are c = absurd are
named_in (word ∷ words) (first ∷ others) address are c =
    named_by word words first address others are.0 (named_in words others address are.1)
    (first_or first address others c.0 c.1 c.2)

-- the address that it writes
IsIn : List IpAddr → Text → Type 0
IsIn addresses word = (address : IpAddr) × Writes word address × Contains addresses address

in_by : (first word : Text) (words : List Text) (address : IpAddr) (others : List IpAddr)
    → Writes first address → (Contains words word → IsIn others word)
    → (word ≡ first) ⊎ Contains words word → IsIn (address ∷ others) word
unfolding IsIn
in_by first word words address others writes later (inl same) =
    (address, subst (λ (w : Text). Writes w address) (sym same) writes, in_first address others)
in_by first word words address others writes later (inr other) =
    let it = later other in
    (it.0, it.1, Contains-append_right (address ∷ []) others it.0 it.2)

each_in : (words : List Text) (addresses : List IpAddr) (word : Text)
    → AreAddresses words addresses → Contains words word → IsIn addresses word
each_in [] [] word are (k, short, e) = absurd (omega (arith, short))
each_in [] (address ∷ others) word are c = absurd are
each_in (first ∷ words) [] word are c = absurd are
each_in (first ∷ words) (address ∷ others) word are c =
    in_by first word words address others are.0 (each_in words others word are.1)
    (first_or first word words c.0 c.1 c.2)

pub lets_anyone : (list : AllowList) (address : IpAddr) → IsAllowListOf None list
    → Allows list address
lets_anyone list address is = subst (λ (l : AllowList). Allows l address) (sym is) tt

pub lets_nobody : (list : AllowList) (address : IpAddr) → IsAllowListOf (Some []) list
    → Allows list address → ⊥
unfolding IsNamedBy
lets_nobody Anyone address is allows = absurd is
lets_nobody (Only addresses) address is allows =
    let it = named_in [] addresses.items address is allows in
    absurd (omega (arith, it.1.1))

pub lets_named : (words : List Text) (list : AllowList) (address : IpAddr)
    → IsAllowListOf (Some words) list → Allows list address
    → (word : Text) × Contains words word × Writes word address
unfolding IsNamedBy
lets_named words Anyone address is allows = absurd is
lets_named words (Only addresses) address is allows =
    named_in words addresses.items address is allows

pub lets_each : (words : List Text) (list : AllowList) (word : Text)
    → IsAllowListOf (Some words) list → Contains words word
    → (address : IpAddr) × Writes word address × Allows list address
unfolding IsIn
lets_each words Anyone word is c = absurd is
lets_each words (Only addresses) word is c = each_in words addresses.items word is c
