-- A request of a primary station that went out, and is out no more (IEC 60870-5-2, unbalanced
-- transmission procedures).
use Rattle.std.specs.Prelude.{◌≡◌, ◌⊎◌, ℕ, Bool, List, [], ◌∷◌, Some, None}
use Rattle.link.specs.Carried.{reseated}
use Rattle.link.specs.Exchanges.{Sending}
use Rattle.link.specs.Primary.{Primary, start, sending}
use Rattle.link.specs.declared.settings.LinkSettings.{LinkSettings}
use Rattle.link.specs.Runs.{Call, Next, GivesUp, Doubts, called, called_all}
use Rattle.link.specs.Turns.{CommandsWaiting}
use Rattle.link.specs.declared.seat.ResumedStation.{ResumedStation}

-- A line that begins: its stations are new, or go on with other settings.
abbrev pub Begins : Primary → Type 0
Begins p =
    ((settings : LinkSettings) × (addresses : List ℕ) × (p ≡ start settings addresses))
    ⊎ ((settings : LinkSettings) × (seats : List ResumedStation) × (before : Primary)
    × (p ≡ reseated settings seats before))

-- Octets of the line come, and moments. The next request may be asked for, too, while one is
-- outstanding. No link is given up, and there is no restart.
abbrev pub ArePassing : Primary → List Call → Type 0
ArePassing p [] = Unit {0}
ArePassing p (Next now may_poll waiting ∷ calls) =
    (p.outstanding ≡ None → ⊥) × ArePassing (called p (Next now may_poll waiting)) calls
ArePassing p (GivesUp station ∷ calls) = ⊥
ArePassing p (Doubts ∷ calls) = ⊥
ArePassing p (call ∷ calls) = ArePassing (called p call) calls

-- Whatever was called before, this request goes out from p. Then calls lead to q, in which it is
-- outstanding no more: it was answered, or had no answer in time.
pub record IsOutNoMore (p q : Primary) (s : Sending) : Type 0 where
  pub line : Primary
  pub begins : Begins line
  pub first : List Call
  pub before : called_all line first ≡ p
  pub now : ℕ
  pub may_poll : Bool
  pub waiting : CommandsWaiting
  pub goes : sending p may_poll waiting ≡ Some s
  pub meanwhile : List Call
  pub passing : ArePassing (called p (Next now may_poll waiting)) meanwhile
  pub behind : called_all (called p (Next now may_poll waiting)) meanwhile ≡ q
  pub over : q.outstanding ≡ None
