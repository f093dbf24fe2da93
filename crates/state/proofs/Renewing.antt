-- What a renewal of a log leaves of both files.
use Rattle.std.proofs.Common.{◌≡◌, inl, inr, ℕ, Bool, true, List, ◌∷◌, subst}
use Rattle.sqlite_disk.specs.declared.Disk.{Ghosts}
use Rattle.segments.specs.Crash.{AreMixing, IsShut}
use Rattle.segments.specs.Crashes.{AreShutOr, HasWhole}
use Rattle.segments.specs.Head.{head_for}
use Rattle.segments.proofs.Fronts.{not_shut}
use Rattle.statetext.specs.Text.{lines_in}
use Rattle.state.specs.Logs.{AreAmid, AreFilesOf, IsAmid, IsReadWell}
use Rattle.state.specs.Logs.{leaves_amid, leaves_behind}
use Rattle.state.proofs.Fresh.{fresh_whole}
use Rattle.state.specs.declared.opened.Opened.{Opened}
use Rattle.state.specs.declared.opened.Opened.TheVariants as opens

-- The file in which the next log is begun

pub kept_amid : (before outcomes : List ℕ → Type 0) (number : ℕ) (settings : List ℕ)
    (lines : List (List ℕ)) → AreShutOr outcomes before
    → AreAmid before number settings lines outcomes
kept_amid before outcomes number settings lines kept file left = elim (kept file left) [
  | inl shut ↦ inl shut
  | inr was ↦ inr (inl was)
]

pub shut_amid : (before outcomes : List ℕ → Type 0) (number : ℕ) (settings : List ℕ)
    (lines : List (List ℕ)) → IsShut outcomes → AreAmid before number settings lines outcomes
shut_amid before outcomes number settings lines shut file left =
    inl (inr (shut file left), λ blank. absurd (blank.1 (shut file left)))

pub whole_amid : (before outcomes : List ℕ → Type 0) (number : ℕ) (settings : List ℕ)
    (lines : List (List ℕ)) (body : List ℕ) → lines_in body ≡ settings ∷ lines
    → AreShutOr outcomes (HasWhole number body) → AreAmid before number settings lines outcomes
whole_amid before outcomes number settings lines body says kept file left =
    elim (kept file left) [
      | inl shut ↦ inl (
        shut.0,
        λ blank. let (was, whole, none) = shut.1 blank in
            let fresh = fresh_whole number body was whole settings lines says in
            absurd (not_shut was (head_for number fresh.body) fresh.found.first (inl none.0)),
      )
      | inr whole ↦ inr (inr (fresh_whole number body file whole settings lines says))
    ]

-- Both files

less_amid : (before more : List ℕ → Type 0) (number : ℕ) (settings : List ℕ)
    (lines : List (List ℕ)) (file : List ℕ) → ((c : List ℕ) → before c → more c)
    → IsAmid before number settings lines file → IsAmid more number settings lines file
less_amid before more number settings lines file stays (inl shut) = inl (
  shut.0,
  λ blank. let (was, is, none) = shut.1 blank in (was, stays was is, none),
)
less_amid before more number settings lines file stays (inr (inl was)) = inr (inl (stays file was))
less_amid before more number settings lines file stays (inr (inr new)) = inr (inr new)

module _ {D : Type 0} {g : Ghosts D} where
  pub amid_so : (old new : Opened D g) (newest spare : D) (is_sound : Bool) (number : ℕ)
      (settings : List ℕ) (lines : List (List ℕ)) → AreFilesOf old newest spare is_sound number
      → (is_sound ≡ true → AreMixing g → (file other : List ℕ) → leaves_behind new file other
      → g.may_leave newest file × IsAmid (g.may_leave spare) number settings lines other)
      → AreMixing g → IsReadWell old → (file other : List ℕ) → leaves_behind new file other
      → leaves_amid old number settings lines file other
  amid_so opens.Neither new newest spare is_sound number settings lines own amid mixing well file
      other left = tt
  amid_so (opens.Both one two) new newest spare is_sound number settings lines own amid mixing well
      file other left = tt
  amid_so (opens.Current c) new newest spare is_sound number settings lines
      (same, sound, less, stays) amid mixing well file other left =
      let (here, there) = amid sound mixing file other left in (
        well,
        less,
        subst (λ (d : D). g.may_leave d file) same here,
        less_amid (g.may_leave spare) (g.may_leave c.spare) number settings lines other stays there,
      )

  -- if the files were opened anew
  pub none_behind : (old new : Opened D g) (number : ℕ) (settings : List ℕ)
      (lines : List (List ℕ)) (file other : List ℕ) → new ≡ opens.Neither
      → leaves_behind new file other → leaves_amid old number settings lines file other
  none_behind old new number settings lines file other none left =
      absurd (subst (λ (o : Opened D g). leaves_behind o file other) none left)
