-- The number of the first log of a run.
use Rattle.std.proofs.Common.{◌≡◌, ◌⊎◌, inl, inr, ℕ, ◌+◌, ◌-◌, ◌<◌, ◌≤◌, ◌^◌, List, IsTrue, subst}
use Rattle.sqlite_disk.specs.Disk.{Holds}
use Rattle.sqlite_disk.specs.declared.Disk.{Ghosts}
use Rattle.segments.specs.Head.{Fits, head_of}
use Rattle.segments.specs.Starts.{IsAbove, IsNext}
use Rattle.segments.specs.declared.head.SegmentHead.{SegmentHead}
use Rattle.state.specs.Origins.{IsNumbered}
use Rattle.state.specs.declared.opened.Opened.{Opened}
use Rattle.state.specs.declared.opened.Opened.TheVariants as opens

-- what segments says of a number that is above those of a file, and of one that is the next
abbrev pub IsNew : Type 0
IsNew = (number : ℕ) (file : List ℕ) (head : SegmentHead) → IsAbove number file → Fits head
    → Holds file 0 (head_of head) → head.number < 2 ^ 64 - 1 → head.number < number

abbrev pub LeavesNoneOut : Type 0
LeavesNoneOut = (number : ℕ) (newest other : List ℕ) → IsNext number newest other → 2 < number
    → (head : SegmentHead) × Fits head
    × (Holds newest 0 (head_of head) ⊎ Holds other 0 (head_of head)) × (number ≤ head.number + 1)

module _ {D : Type 0} {g : Ghosts D} where
  both : (number : ℕ) (opened : Opened D g) (newest other : D) → IsNumbered number opened
      → opened ≡ opens.Both newest other → IsNumbered {D = D} {g = g} number
      (opens.Both newest other)
  both number opened newest other numbered is =
      subst (λ (o : Opened D g). IsNumbered number o) is numbered

  pub above : IsNew → (number : ℕ) (opened : Opened D g) (newest other file : D)
      (head : SegmentHead) → IsNumbered number opened → opened ≡ opens.Both newest other
      → IsTrue (g.is_clean newest) → IsTrue (g.is_clean other)
      → (file ≡ newest) ⊎ (file ≡ other) → Fits head → Holds (g.seen file) 0 (head_of head)
      → head.number < 2 ^ 64 - 1 → head.number < number
  above new number opened newest other file head numbered is one two (inl first) fits holds few =
      new number (g.seen newest) head (both number opened newest other numbered is one two).0 fits
      (subst (λ (d : D). Holds (g.seen d) 0 (head_of head)) first holds) few
  above new number opened newest other file head numbered is one two (inr second) fits holds few =
      new number (g.seen other) head (both number opened newest other numbered is one two).1 fits
      (subst (λ (d : D). Holds (g.seen d) 0 (head_of head)) second holds) few

  pub next : LeavesNoneOut → (number : ℕ) (opened : Opened D g) (newest other : D)
      → IsNumbered number opened → opened ≡ opens.Both newest other
      → IsTrue (g.is_clean newest) → IsTrue (g.is_clean other) → 2 < number
      → (head : SegmentHead) × Fits head × (Holds (g.seen newest) 0 (head_of head)
      ⊎ Holds (g.seen other) 0 (head_of head)) × (number ≤ head.number + 1)
  next none number opened newest other numbered is one two =
      none number (g.seen newest) (g.seen other)
      (both number opened newest other numbered is one two).2

  pub aside : (number : ℕ) (opened : Opened D g) → IsNumbered number opened
      → opened ≡ opens.Neither → number ≡ 2
  aside number opened numbered is = subst (λ (o : Opened D g). IsNumbered number o) is numbered
