-- What the crates below say of octets and stations, as the lemmas use it.
use Rattle.std.specs.Prelude.{◌≡◌, ℕ, ◌+◌, ◌<◌, ◌^◌, List, [], ◌++◌, length}
use Rattle.ft12.specs.declared.frame.LinkSize.{LinkSize}
use Rattle.ft12.specs.declared.frame.Frame.{Frame}
use Rattle.ft12.specs.declared.frame.Front.TheVariants.{Whole, More}
use Rattle.ft12.specs.Fronts.{front_of}
use Rattle.ft12.specs.Reading.{IsFront}
use Rattle.ft12.specs.Spelling.{IsLineFrame, Fits, spelling}
use Rattle.ft12.specs.Spoiling.{spoilt}
use Rattle.link.specs.Outstation.{OutstationRun, all_done}
use Rattle.link.specs.Delivery.{reports, commands}
use Rattle.link.specs.Secondary.{Secondary, outstation_of}
use Rattle.link.specs.Life.{Call, after, requests_received, turns_in, given1, given2, reported1}
use Rattle.link.specs.Life.{reported2, u64_saturate}

-- whatever it is called for, a station keeps its size of addresses
abbrev pub KeepsSize : Type 0
KeepsSize = (s : Secondary) (calls : List Call) → (after s calls).size ≡ s.size

pub record Laws : Type 0 where
  -- of octets
  pub right : (size : LinkSize) (octets : List ℕ) → IsFront size octets (front_of size octets)
  pub nothing : (size : LinkSize) → front_of size [] ≡ More
  pub whole : (size : LinkSize) (octets more : List ℕ) (frame : Frame) (n : ℕ)
      → front_of size octets ≡ Whole frame n
      → front_of size (octets ++ more) ≡ Whole frame n
  pub spelled : (size : LinkSize) (frame : Frame) (more : List ℕ) → Fits size frame
      → front_of size (spelling size frame ++ more) ≡ Whole frame (length (spelling size frame))
  pub spoils : (size : LinkSize) (f g : Frame) (x rest : List ℕ) (place n : ℕ)
      → IsLineFrame size f x
      → place < length x → IsFront size (spoilt place x ++ rest) (Whole g n) → ⊥
  -- of stations
  pub run : (s : Secondary) (calls : List Call) → OutstationRun s.address (outstation_of s)
      (requests_received s.address calls) (turns_in s calls) (outstation_of (after s calls))
  pub class1 : (s : Secondary) (calls : List Call) → s.given < 2 ^ 64
      → given1 (requests_received s.address calls) (turns_in s calls) ++ (after s calls).class1
      ≡ s.class1
      ++ reported1 calls
  pub class2 : (s : Secondary) (calls : List Call) → s.given < 2 ^ 64
      → given2 (requests_received s.address calls) (turns_in s calls) ++ (after s calls).class2
      ≡ s.class2
      ++ reported2 calls
  pub accepted : (s : Secondary) (calls : List Call) → s.given < 2 ^ 64
      → s.accepted ++ commands (all_done (turns_in s calls)) ≡ (after s calls).accepted
  pub given : (s : Secondary) (calls : List Call) → s.given < 2 ^ 64
      → (after s calls).given
      ≡ u64_saturate (s.given + length (reports (all_done (turns_in s calls))))
  pub address : (s : Secondary) (calls : List Call) → (after s calls).address ≡ s.address
  pub size : KeepsSize
