-- What an assembler receives is the computed front.
use Rattle.std.proofs.Common.{◌≡◌, ℕ, ◌+◌, ◌<◌, List, [], ◌∷◌, ◌++◌, length, take, ◌⊎◌, refl, sym}
use Rattle.std.proofs.Common.{subst, arith, inl, inr, Option, Some, None, IfSome, IfNone, ap, ◌∙◌}
use Rattle.std.proofs.lemmas.List.{take_all}
use Rattle.ft12.specs.declared.frame.LinkSize.{LinkSize}
use Rattle.ft12.specs.declared.frame.Frame.{Frame}
use Rattle.ft12.specs.declared.frame.Frame.TheVariants.{Single}
use Rattle.ft12.specs.declared.frame.Why.{Why}
use Rattle.ft12.specs.declared.frame.Front.{Front}
use Rattle.ft12.specs.declared.frame.Front.TheVariants.{Whole, More, Never}
use Rattle.ft12.specs.declared.assembling.Received.{Received}
use Rattle.ft12.specs.declared.assembling.Received.TheVariants as arrived
use Rattle.ft12.specs.Assembly.{Receives, ReceivesInner}
use Rattle.ft12.specs.Reading.{IsFront}
use Rattle.ft12.specs.Spelling.{spelling, Fits}
use Rattle.ft12.specs.Fronts.{front_of}
use Rattle.link.specs.Exchanges.{whole_of}
use Rattle.link.specs.Primary.{open_octets}
use Rattle.link.specs.Holding.{frame_after, so_far_after, MayEnd}

abbrev pub IsComputed : Type 0
IsComputed = (size : LinkSize) (octets : List ℕ) (front : Front) → IsFront size octets front
    → front ≡ front_of size octets

-- what is said of a piece that was fed
pub record IsFed (size : LinkSize) (so_far : Option (List ℕ)) (piece : List ℕ) (n : ℕ)
    (outcome_for : Received)
    (after : Option (List ℕ)) : Type 0 where
  pub listening : IfSome so_far (λ (before : List ℕ). Receives size before piece n outcome_for
      after)
  pub deaf : IfNone so_far ((n ≡ length piece) × (outcome_for ≡ arrived.Deaf) × (after ≡ None))

-- the frame that was received
abbrev pub frame_of : Received → Option Frame
frame_of (arrived.Frame frame) = Some frame
frame_of arrived.More = None
frame_of (arrived.Never place why) = None
frame_of arrived.Deaf = None

pub fed_so : IsComputed → (size : LinkSize) (so_far : Option (List ℕ)) (piece : List ℕ) (n : ℕ)
    (outcome_for : Received)
    (after : Option (List ℕ)) →
    IsFed size so_far piece n outcome_for after →
    (frame_of outcome_for ≡ frame_after (front_of size) so_far piece)
    × (after ≡ so_far_after (front_of size) so_far piece)
fed_so law size None piece n outcome_for after fed = (ap frame_of fed.deaf.1, fed.deaf.2)
fed_so law size (Some before) piece n (arrived.Frame frame) after fed =
    let is = law size (before ++ piece) (Whole frame (length before + n)) fed.listening.0 in
    (ap whole_of is, fed.listening.1 ∙ ap (λ (f : Front). open_octets (before ++ piece) f) is)
fed_so law size (Some before) piece n arrived.More after fed =
    let is = law size (before ++ piece) More fed.listening.0 in
    (ap whole_of is, fed.listening.2 ∙ ap (λ (f : Front). open_octets (before ++ piece) f) is)
fed_so law size (Some before) piece n (arrived.Never place why) after fed =
    let is = law size (before ++ piece) (Never place why) fed.listening.0 in
    (ap whole_of is, fed.listening.2 ∙ ap (λ (f : Front). open_octets (before ++ piece) f) is)
fed_so law size (Some before) piece n arrived.Deaf after fed = absurd fed.listening

-- no frame was received
pub quiet : (outcome_for : Received) → (outcome_for ≡ arrived.More)
    ⊎ ((place : ℕ) × (why : Why) × (outcome_for ≡ arrived.Never place why))
    ⊎ (outcome_for ≡ arrived.Deaf) → frame_of outcome_for ≡ None
quiet outcome_for (inl more) = ap frame_of more
quiet outcome_for (inr (inl never)) = ap frame_of never.2
quiet outcome_for (inr (inr deaf)) = ap frame_of deaf

-- all octets of a piece were taken, and no frame ends in them
pub inner_fed : IsComputed → (size : LinkSize) (so_far : Option (List ℕ)) (piece : List ℕ)
    (n before looked : ℕ)
    (after : Option (List ℕ)) →
    IfSome so_far (λ (b : List ℕ). ReceivesInner size b piece n before looked after) →
    IfNone so_far ((n ≡ length piece) × (after ≡ None) × (looked ≡ before)) → n ≡ length piece →
    (frame_after (front_of size) so_far piece ≡ None)
    × (after ≡ so_far_after (front_of size) so_far piece)
inner_fed law size None piece n before looked after outcome_for deaf all = (refl, deaf.1)
inner_fed law size (Some b) piece n before looked None outcome_for deaf all =
    let is = law size (b ++ piece) (Never outcome_for.0 outcome_for.1) outcome_for.2 in
    (sym (ap whole_of is), ap (λ (f : Front). open_octets (b ++ piece) f) is)
inner_fed law size (Some b) piece n before looked (Some after) outcome_for deaf all =
    let same : after ≡ b ++ piece = outcome_for.1 ∙ ap (λ (m : ℕ). b ++ take m piece) all
    ∙ ap (λ (l : List ℕ). b ++ l) (take_all (length piece) piece (omega arith)) in
    let is =
    law size (b ++ piece) More (subst (λ (l : List ℕ). IsFront size l More) same outcome_for.0) in
    (sym (ap whole_of is), ap Some same ∙ ap (λ (f : Front). open_octets (b ++ piece) f) is)

-- octets of a piece are left, since the end octet is due
pub inner_due : IsComputed → (size : LinkSize) (so_far : Option (List ℕ)) (piece : List ℕ)
    (n before looked : ℕ)
    (after : Option (List ℕ)) →
    IfSome so_far (λ (b : List ℕ). ReceivesInner size b piece n before looked after) →
    IfNone so_far ((n ≡ length piece) × (after ≡ None) × (looked ≡ before)) → n < length piece →
    MayEnd (front_of size) after
inner_due law size None piece n before looked after outcome_for deaf lt =
    absurd (omega (arith, deaf.0))
inner_due law size (Some b) piece n before looked None outcome_for deaf lt =
    absurd (omega (arith, outcome_for.3))
inner_due law size (Some b) piece n before looked (Some after) outcome_for deaf lt =
    let due = outcome_for.3 lt in (
      0x16,
      due.0,
      sym (ap whole_of (law size (after ++ 0x16 ∷ []) (Whole due.0 (length after + 1)) due.1)),
    )

-- octets of a piece are left, since the first of them is the single character
pub single_due : ((size : LinkSize) (frame : Frame) (more : List ℕ) → Fits size frame →
    front_of size (spelling size frame ++ more) ≡ Whole frame (length (spelling size frame))) →
    (size : LinkSize) (so_far : Option (List ℕ)) → so_far ≡ Some [] → MayEnd (front_of size) so_far
single_due spelled size so_far none =
    rw none (0xE5, Single, ap whole_of (spelled size Single [] cc))
