-- An assembler is taken up again with the octets that it had.
use Rattle.std.proofs.Common.{◌≡◌, ℕ, ◌+◌, ◌*◌, ◌/◌, ◌%◌, ◌^◌, ◌<◌, List, [], ◌∷◌, ◌++◌, length}
use Rattle.std.proofs.Common.{All, Option, Some, None, IfSome, refl, sym, subst, arith, inl, inr}
use Rattle.std.proofs.Math.Seq.{take-append_seam}
use Rattle.std.proofs.lemmas.List.Elements.{All-cons, All-nil, All-take}
use Rattle.apci.specs.declared.apdu.Front.TheVariants as front
use Rattle.apci.specs.declared.assembling.Received.{Received}
use Rattle.apci.specs.declared.assembling.Received.TheVariants as arrived
use Rattle.apci.specs.declared.assembling.State.{State}
use Rattle.apci.specs.declared.apdu.Apdu.{Apdu}
use Rattle.apci.specs.declared.apdu.Apdu.TheVariants as apdu
use Rattle.apci.specs.Spelling.{IsOctet, Fits, spelling, counter, function}
use Rattle.apci.specs.Reading.{IsMore}
use Rattle.apci.specs.Assembly.{Assembly, Receives, IsResumable}
use Rattle.apci.specs.Progress.{so_far, IsState}
use Rattle.apci.proofs.Apdus.{odd_function}
use Rattle.apci.proofs.EachOctet.{state_more}
use Rattle.apci.proofs.Exact.{one_front}

-- Octets from which an APDU may go on are received as no more than that.
received_open : (octets : List ℕ) (n : ℕ) (h : Received) (after : Assembly) → IsMore octets
    → Receives [] octets n h after
    → (after.so_far ≡ Some octets) × (after.whole ≡ None)
received_open octets n arrived.More after is receives = (receives.2, receives.3)
received_open octets n arrived.Whole after is receives =
    let bad : front.Whole receives.0 (0 + n) ≡ front.More =
    one_front octets front.More (front.Whole receives.0 (0 + n)) is receives.1 in
    absurd cc
received_open octets n (arrived.Never place why) after is receives =
    let bad : front.Never place why ≡ front.More =
    one_front octets front.More (front.Never place why) is receives.0 in
    absurd cc
received_open octets n arrived.Deaf after is receives = absurd receives

pub received_more : (so_far : Option (List ℕ)) (octets : List ℕ) (n : ℕ) (h : Received)
    (after : Assembly)
    → so_far ≡ Some [] → IfSome so_far (λ before. Receives before octets n h after) → IsMore octets
    → (after.so_far ≡ Some octets) × (after.whole ≡ None)
received_more so_far octets n h after e receives is =
    received_open octets n h after is
    (subst (λ (x : Option (List ℕ)). IfSome x (λ before. Receives before octets n h after)) e
    receives)

-- the octets of an APDU are octets
low_octet : (n : ℕ) → n % 128 * 2 < 256
low_octet n = omega arith

high_octet : (n : ℕ) → n < 2 ^ 15 → n / 128 < 256
high_octet n lt = omega arith

with_counter : (n : ℕ) (x : List ℕ) → n < 2 ^ 15 → All IsOctet x → All IsOctet (counter n ++ x)
with_counter n x lt all =
    All-cons IsOctet (n % 128 * 2) (n / 128 ∷ x) (low_octet n)
    (All-cons IsOctet (n / 128) x (high_octet n lt) all)

spelling_fits : (a : Apdu) → Fits a → All IsOctet (spelling a)
spelling_fits (apdu.I ns nr asdu) fits =
    let x : List ℕ = counter ns ++ counter nr ++ asdu.items in
    let len : length x < 256 = omega (arith, fits.4) in
    All-cons IsOctet 0x68 (length x ∷ x) (omega arith)
    (All-cons IsOctet (length x) x len (with_counter ns (counter nr ++ asdu.items) fits.0
    (with_counter nr asdu.items fits.1 fits.2)))
spelling_fits (apdu.S nr) fits =
    All-cons IsOctet 0x68 (4 ∷ 1 ∷ 0 ∷ counter nr) (omega arith)
    (All-cons IsOctet 4 (1 ∷ 0 ∷ counter nr) (omega arith)
    (All-cons IsOctet 1 (0 ∷ counter nr) (omega arith)
    (All-cons IsOctet 0 (counter nr) (omega arith) (with_counter nr [] fits (All-nil IsOctet)))))
spelling_fits (apdu.U f) fits =
    All-cons IsOctet 0x68 (4 ∷ function f ∷ 0 ∷ 0 ∷ 0 ∷ []) (omega arith)
    (All-cons IsOctet 4 (function f ∷ 0 ∷ 0 ∷ 0 ∷ []) (omega arith)
    (All-cons IsOctet (function f) (0 ∷ 0 ∷ 0 ∷ []) (odd_function f).2
    (All-cons IsOctet 0 (0 ∷ 0 ∷ []) (omega arith)
    (All-cons IsOctet 0 (0 ∷ []) (omega arith)
    (All-cons IsOctet 0 [] (omega arith) (All-nil IsOctet))))))

more_octets : (x : List ℕ) → IsMore x → All IsOctet x
more_octets x (inl p) =
    let A : List ℕ → Type 0 = λ y. All IsOctet y in
    let all = subst A (sym p.line.spelled) (spelling_fits p.apdu p.line.fits) in
    subst A (take-append_seam x (p.next ∷ p.rest))
    (All-take IsOctet (length x) (x ++ p.next ∷ p.rest) all)
more_octets x (inr u) =
    let A : List ℕ → Type 0 = λ y. All IsOctet y in
    let low : u.len < 256 = omega (arith, u.high) in
    subst A (sym u.whole)
    (All-cons IsOctet 0x68 (u.len ∷ []) (omega arith)
    (All-cons IsOctet u.len [] low (All-nil IsOctet)))

resumable_at : (s : State) (asdu : List ℕ) (o : Option (List ℕ)) → IsState s asdu → so_far s asdu
    ≡ o → IfSome o IsResumable
resumable_at s asdu None h e = tt
resumable_at s asdu (Some x) h e =
    let more = state_more s asdu x h e in record { more = more; octets_fit = more_octets x more }

pub resumable : (s : State) (asdu : List ℕ) → IsState s asdu → IfSome (so_far s asdu) IsResumable
resumable s asdu h = resumable_at s asdu (so_far s asdu) h refl
