-- A file beside a new log in which nothing was ever begun.
use Rattle.std.proofs.Common.{◌⊎◌, inl, inr, ℕ, List}
use Rattle.segments.specs.Crash.{IsShut}
use Rattle.segments.specs.Crashes.{AreOlder, StaysBacked}
use Rattle.segments.specs.Starts.{IsBlank}
use Rattle.segments.proofs.Crashes.{shut_older}
use Rattle.segments.proofs.Fronts.{not_shut}

-- it was shut, or stays as it was
abbrev pub IsShutOrSame : (seen : List ℕ) → (old new : List ℕ → Type 0) → Type 0
IsShutOrSame seen old new = (IsBlank seen × IsShut new) ⊎ ((c : List ℕ) → new c → old c)

pub still_backed : (seen : List ℕ) (old new : List ℕ → Type 0) (spare : List ℕ) → old seen
    → IsShutOrSame seen old new → StaysBacked old spare → StaysBacked new spare
still_backed seen old new spare is (inl shut) backed c left head text fits found =
    let there = backed seen is head text fits found in
    absurd (not_shut seen there.head there.found.first (inl shut.0.0))
still_backed seen old new spare is (inr less) backed c left head text fits found =
    backed c (less c left) head text fits found

pub still_older : (seen : List ℕ) (old new : List ℕ → Type 0) (number : ℕ)
    → IsShutOrSame seen old new → AreOlder old number → AreOlder new number
still_older seen old new number (inl shut) older = shut_older new number shut.1
still_older seen old new number (inr less) older = λ c left. older c (less c left)
