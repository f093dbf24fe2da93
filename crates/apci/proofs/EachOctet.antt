-- What each octet gives, and what the octets so far are.
use Rattle.std.proofs.Common.{◌≡◌, ℕ, ◌+◌, ◌*◌, ◌%◌, ◌/◌, ◌^◌, ◌<◌, ◌≤◌, List, [], ◌∷◌, ◌++◌}
use Rattle.std.proofs.Common.{length, get_or, take, All, Some, Option, refl, sym, ap, subst}
use Rattle.std.proofs.Common.{append_assoc, ◌∙◌, arith, inl}
use Rattle.std.specs.Prelude.{IfSome}
use Rattle.std.proofs.lemmas.List.{take_more}
use Rattle.std.proofs.lemmas.List.Elements.{All-cons, All-nil}
use Rattle.apci.specs.declared.apdu.Apdu.{Apdu}
use Rattle.apci.specs.declared.apdu.Apdu.TheVariants as apdu
use Rattle.apci.specs.declared.apdu.Why.{Why}
use Rattle.apci.specs.declared.apdu.Why.TheVariants.{Control}
use Rattle.apci.specs.declared.apdu.Front.TheVariants.{Whole, Never}
use Rattle.apci.specs.declared.assembling.State.{State}
use Rattle.apci.specs.declared.assembling.State.TheVariants as state
use Rattle.apci.specs.declared.assembling.OctetStep.{OctetStep}
use Rattle.apci.specs.declared.assembling.OctetStep.TheVariants as steps
use Rattle.apci.specs.Spelling.{counter, function, IsOctet}
use Rattle.apci.specs.Reading.{IsMore, IsDecidedAt, IsFront}
use Rattle.apci.specs.Progress.{so_far, IsState, Gives}
use Rattle.apci.proofs.Fronts.{nothing, start_alone, length_more, i_more, i_asdu, i_third, s_1, s_2}
use Rattle.apci.proofs.Fronts.{s_3, u_1, u_2, u_3}
use Rattle.apci.proofs.Stream.{received_apdu, received_never, decided_by}

-- the octets of a counter
low_octet : (n : ℕ) → n % 128 * 2 < 256
low_octet n = omega arith

even_low : (n : ℕ) → n % 128 * 2 % 2 ≡ 0
even_low n = omega arith

high_octet : (n : ℕ) → n < 2 ^ 15 → n / 128 < 256
high_octet n lt = omega arith

one_octet : (o : ℕ) → o < 256 → All IsOctet (o ∷ [])
one_octet o lt = All-cons IsOctet o [] lt (All-nil IsOctet)

pub third_wrong : (len ns o : ℕ) → 13 ≤ len → len ≤ 253 → ns < 2 ^ 15 → o < 256 → o % 2 ≡ 1
    → IsFront (0x68 ∷ len ∷ (counter ns ++ o ∷ [])) (Never 4 Control)
third_wrong len ns o long short fits octet odd =
    i_third len (ns % 128 * 2) (ns / 128 ∷ o ∷ []) long short (even_low ns) (low_octet ns)
    (All-cons IsOctet (ns / 128) (o ∷ []) (high_octet ns fits) (one_octet o octet)) (omega arith)
    odd

-- the octets so far are the beginning of an APDU
pub state_more : (s : State) (asdu x : List ℕ) → IsState s asdu → so_far s asdu ≡ Some x → IsMore x
state_more state.Deaf asdu x h e = absurd cc
state_more state.Start asdu x h e = (let x_is : [] ≡ x = cc in subst IsMore x_is (inl nothing))
state_more state.Length asdu x h e = (let x_is : 0x68 ∷ [] ≡ x = cc in
    subst IsMore x_is (inl start_alone))
state_more (state.Control len) asdu x h e = (let x_is : 0x68 ∷ len ∷ [] ≡ x = cc in
    subst IsMore x_is (length_more len h.1 h.2))
state_more (state.ISecond len low) asdu x h e =
    let x_is : 0x68 ∷ len ∷ low ∷ [] ≡ x = cc in
    subst IsMore x_is
    (inl (i_more len low [] h.1.0 h.1.1 h.2.1 h.2.0 (All-nil IsOctet) (λ lt. absurd (omega arith))
    (omega (arith, h.1.0))))
state_more (state.IThird len ns) asdu x h e =
    let x_is : 0x68 ∷ len ∷ counter ns ≡ x = cc in
    subst IsMore x_is
    (inl (i_more len (ns % 128 * 2) (ns / 128 ∷ []) h.1.0 h.1.1 (even_low ns) (low_octet ns)
    (one_octet (ns / 128) (high_octet ns h.2)) (λ lt. absurd (omega arith)) (omega (arith, h.1.0))))
state_more (state.IFourth len ns low) asdu x h e =
    let x_is : 0x68 ∷ len ∷ (counter ns ++ low ∷ []) ≡ x = cc in
    subst IsMore x_is
    (inl (i_more len (ns % 128 * 2) (ns / 128 ∷ low ∷ []) h.1.0 h.1.1 (even_low ns) (low_octet ns)
    (All-cons IsOctet (ns / 128) (low ∷ []) (high_octet ns h.2) (one_octet low h.3.0)) (λ lt. h.3.1)
    (omega (arith, h.1.0))))
state_more (state.Asdu len ns nr) asdu x h e =
    let x_is : 0x68 ∷ len ∷ (counter ns ++ counter nr ++ asdu) ≡ x = cc in
    subst IsMore x_is
    (inl (i_asdu len (ns % 128 * 2) (ns / 128) (nr % 128 * 2) (nr / 128) asdu h.0.0 h.0.1
    (even_low ns)
    (even_low nr)
    (All-cons IsOctet (ns % 128 * 2) (ns / 128 ∷ nr % 128 * 2 ∷ nr / 128 ∷ asdu) (low_octet ns)
    (All-cons IsOctet (ns / 128) (nr % 128 * 2 ∷ nr / 128 ∷ asdu) (high_octet ns h.1)
    (All-cons IsOctet (nr % 128 * 2) (nr / 128 ∷ asdu) (low_octet nr)
    (All-cons IsOctet (nr / 128) asdu (high_octet nr h.2) h.3)))) h.4))
state_more state.SSecond asdu x h e = (let x_is : 0x68 ∷ 4 ∷ 1 ∷ [] ≡ x = cc in
    subst IsMore x_is (inl s_1))
state_more state.SThird asdu x h e = (let x_is : 0x68 ∷ 4 ∷ 1 ∷ 0 ∷ [] ≡ x = cc in
    subst IsMore x_is (inl s_2))
state_more (state.SFourth low) asdu x h e = (let x_is : 0x68 ∷ 4 ∷ 1 ∷ 0 ∷ low ∷ [] ≡ x = cc in
    subst IsMore x_is (inl (s_3 low h.1.0 h.1.1)))
state_more (state.USecond f) asdu x h e = (let x_is : 0x68 ∷ 4 ∷ function f ∷ [] ≡ x = cc in
    subst IsMore x_is (inl (u_1 f)))
state_more (state.UThird f) asdu x h e = (let x_is : 0x68 ∷ 4 ∷ function f ∷ 0 ∷ [] ≡ x = cc in
    subst IsMore x_is (inl (u_2 f)))
state_more (state.UFourth f) asdu x h e = (let x_is : 0x68 ∷ 4 ∷ function f ∷ 0 ∷ 0 ∷ [] ≡ x = cc in
    subst IsMore x_is (inl (u_3 f)))
state_more (state.Information ns nr) asdu x h e = (let x_is : [] ≡ x = cc in
    subst IsMore x_is (inl nothing))
state_more (state.Short a) asdu x h e = (let x_is : [] ≡ x = cc in subst IsMore x_is (inl nothing))

-- one that isn't deaf has octets so far
pub receives : (s : State) (asdu : List ℕ) → (s ≡ state.Deaf → ⊥) → (x : List ℕ)
    × (so_far s asdu ≡ Some x)
receives state.Deaf asdu apart = absurd (apart refl)
receives state.Start asdu apart = ([], refl)
receives state.Length asdu apart = (_, refl)
receives (state.Control len) asdu apart = (_, refl)
receives (state.ISecond len low) asdu apart = (_, refl)
receives (state.IThird len ns) asdu apart = (_, refl)
receives (state.IFourth len ns low) asdu apart = (_, refl)
receives (state.Asdu len ns nr) asdu apart = (_, refl)
receives state.SSecond asdu apart = (_, refl)
receives state.SThird asdu apart = (_, refl)
receives (state.SFourth low) asdu apart = (_, refl)
receives (state.USecond f) asdu apart = (_, refl)
receives (state.UThird f) asdu apart = (_, refl)
receives (state.UFourth f) asdu apart = (_, refl)
receives (state.Information ns nr) asdu apart = (_, refl)
receives (state.Short a) asdu apart = (_, refl)

-- ---- an octet of a piece

pub gives_at : (s : State) (asdu before piece : List ℕ) (i o : ℕ) (step : OctetStep)
    → so_far s asdu ≡ Some (before ++ take i piece) → o ≡ get_or piece i 0
    → IfSome (so_far s asdu) (λ octets. Gives (octets ++ o ∷ []) asdu o s step)
    → Gives ((before ++ take i piece) ++ get_or piece i 0 ∷ []) asdu o s step
gives_at s asdu before piece i o step joined at h =
    let h' : Gives ((before ++ take i piece) ++ o ∷ []) asdu o s step =
    subst (λ (x : Option (List ℕ)). IfSome x (λ y. Gives (y ++ o ∷ []) asdu o s step)) joined h in
    subst (λ (n : ℕ). Gives ((before ++ take i piece) ++ n ∷ []) asdu o s step) at h'

-- the octets up to and with one
one_more : (before piece : List ℕ) (i : ℕ) → i < length piece
    → (before ++ take i piece) ++ get_or piece i 0 ∷ [] ≡ before ++ take (i + 1) piece
one_more before piece i lt = append_assoc before (take i piece) (get_or piece i 0 ∷ [])
    ∙ ap (λ (l : List ℕ). before ++ l) (sym (take_more piece i 0 lt))

-- the fronts of the octets with this one are those of the whole piece
whole_received : (s : State) (asdu before piece : List ℕ) (i : ℕ) (a : Apdu) (n : ℕ)
    → IsState s asdu
    → so_far s asdu ≡ Some (before ++ take i piece) → i < length piece
    → IsFront ((before ++ take i piece) ++ get_or piece i 0 ∷ []) (Whole a n)
    → IsFront (before ++ piece) (Whole a (length before + (i + 1)))
whole_received s asdu before piece i a n h joined lt front =
    received_apdu before piece (before ++ take i piece) ((before ++ take i piece)
    ++ get_or piece i 0
    ∷ []) i a n refl lt
    (state_more s asdu (before ++ take i piece) h joined) refl front

pub i_received : (s : State) (asdu before piece : List ℕ) (i o : ℕ) (step : OctetStep) (ns nr : ℕ)
    → IsState s asdu
    → so_far s asdu ≡ Some (before ++ take i piece) → i < length piece → o ≡ get_or piece i 0
    → IfSome (so_far s asdu) (λ octets. Gives (octets ++ o ∷ []) asdu o s step)
    → step ≡ steps.I ns nr
    → IsFront (before ++ piece) (Whole (apdu.I ns nr (record { items = asdu ++ o ∷ [] }))
    (length before + (i + 1)))
    × (length asdu < 249)
i_received s asdu before piece i o step ns nr state joined lt at h is =
    let x : List ℕ = (before ++ take i piece) ++ get_or piece i 0 ∷ [] in
    let g : Gives x asdu o s (steps.I ns nr) = subst (Gives x asdu o s) is
    (gives_at s asdu before piece i o step joined at h) in (
      whole_received s asdu before piece i (apdu.I ns nr (record { items = asdu ++ o ∷ [] }))
          (length x) state joined lt g.0,
      g.1,
    )

pub never_received : (s : State) (asdu before piece : List ℕ) (i o : ℕ) (step : OctetStep)
    (place : ℕ)
    (why : Why)
    → so_far s asdu ≡ Some (before ++ take i piece) → i < length piece → o ≡ get_or piece i 0
    → IfSome (so_far s asdu) (λ octets. Gives (octets ++ o ∷ []) asdu o s step)
    → step ≡ steps.Never place why
    → IsFront (before ++ piece) (Never place why)
never_received s asdu before piece i o step place why joined lt at h is =
    let x : List ℕ = (before ++ take i piece) ++ get_or piece i 0 ∷ [] in
    let g : Gives x asdu o s (steps.Never place why) =
    subst (Gives x asdu o s) is (gives_at s asdu before piece i o step joined at h) in
    received_never before piece (before ++ take i piece) x i place why refl lt refl g

-- the octet that decides is the one looked at last
pub decided_here : (s : State) (asdu before piece : List ℕ) (i o : ℕ) (step : OctetStep) (place : ℕ)
    (why : Why)
    → IsState s asdu → so_far s asdu ≡ Some (before ++ take i piece) → i < length piece
    → o ≡ get_or piece i 0
    → IfSome (so_far s asdu) (λ octets. Gives (octets ++ o ∷ []) asdu o s step)
    → step ≡ steps.Never place why
    → (decides : ℕ) × IsDecidedAt (before ++ piece) decides × (decides ≡ length before + i)
decided_here s asdu before piece i o step place why state joined lt at h is =
    let x : List ℕ = before ++ take i piece in
    let y : List ℕ = x ++ get_or piece i 0 ∷ [] in
    let g : Gives y asdu o s (steps.Never place why) =
    subst (Gives y asdu o s) is (gives_at s asdu before piece i o step joined at h) in
    let d = decided_by before piece x i g.0 refl lt (state_more s asdu x state joined) g.1 in
    (g.0, d.0, d.1)
