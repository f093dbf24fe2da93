-- A station hears each whole frame.
use Rattle.std.proofs.Common.{◌≡◌, ◌<◌, ℕ, Bool, List, [], ◌∷◌, ◌++◌, Option, Some}
use Rattle.std.proofs.Common.{None, sym, subst, ◌∙◌, inl, inr, if◌then◌else◌}
use Rattle.std.proofs.lemmas.List.{append-nil}
use Rattle.ft12.specs.declared.frame.LinkSize.{LinkSize}
use Rattle.ft12.specs.Spelling.{IsLineFrame}
use Rattle.link.specs.Answers.{Frame}
use Rattle.link.specs.Requests.{reading_of}
use Rattle.link.specs.Secondary.{Secondary, Served, ReceivesOctets}
use Rattle.link.specs.Secondary.{received_reading}
use Rattle.link.specs.Life.{Receive, called}
use Rattle.link.specs.Tidings.{IsSecondaryFrame}

abbrev pub OneFrame : Type 0
OneFrame =
    (size : LinkSize) (f g : Frame) (x rest : List ℕ) → IsLineFrame size f x →
    IsLineFrame size g (x ++ rest) → (f ≡ g) × (rest ≡ [])

-- The station answers a call that receives the frame so, and this is what the call leaves.
abbrev pub IsCall : Secondary → Frame → Option Frame → Secondary → Type 0
IsCall s frame answer new =
    (granted : Bool) × (new ≡ called s (Receive granted (Some frame)))
    × (answer ≡ (received_reading granted s (reading_of s.address frame)).turn.answer)

pub hears : OneFrame → (s new : Secondary) (frame : Frame) (octets : List ℕ)
    (answer : Option Frame) → IsLineFrame s.size frame octets →
    ReceivesOctets s octets answer new → IsCall s frame answer new
hears one s new frame octets answer line (inl (other, there, received)) =
    subst (λ (f : Frame). IsCall s f answer new)
    (one s.size other frame octets [] there
    (subst (λ (x : List ℕ). IsLineFrame s.size frame x) (sym (append-nil octets)) line)).0
    (received.0, received.2, received.1)
hears one s new frame octets answer line (inr (no_frame, silent, same)) =
    absurd (no_frame frame line)

pub hears_nothing : (s new : Secondary) (octets : List ℕ) (answer : Option Frame) →
    ((frame : Frame) → IsLineFrame s.size frame octets → ⊥) → ReceivesOctets s octets answer new →
    (answer ≡ None) × (new ≡ s)
hears_nothing s new octets answer no_frame (inl (frame, there, received)) =
    absurd (no_frame frame there)
hears_nothing s new octets answer no_frame (inr (none, silent, same)) = (silent, same)

-- ---- answers are a secondary station's

abbrev pub AreItsOwn : (address : ℕ) → Option Frame → Type 0
AreItsOwn address None = Unit {0}
AreItsOwn address (Some frame) = IsSecondaryFrame address frame

-- What a request makes of the station: it has the address still, and its answers are its own.
record KeepsToItself (s : Secondary) (by : Served) : Type 0 where
  address : by.state.address ≡ s.address
  answer : AreItsOwn s.address by.turn.answer
  last : AreItsOwn s.address by.state.last

-- The station has this address, and its latest answer is its own.
abbrev IsAt : (address : ℕ) → Secondary → Type 0
IsAt address s = (s.address ≡ address) × AreItsOwn address s.last

there : (address : ℕ) (s : Secondary) → IsAt address s → AreItsOwn s.address s.last
there address s at = subst (λ (a : ℕ). AreItsOwn a s.last) (sym at.0) at.1
