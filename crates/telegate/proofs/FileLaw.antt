-- Which file can't be read if a command ends with 3.
use Rattle.std.proofs.Common.{◌≡◌, ◌⊎◌, ℕ, List, [], ◌∷◌, ◌++◌, Option, Some, inl, inr}
use Rattle.std.proofs.Common.{arith, subst}
use Rattle.clap.specs.Words.{Text}
use Rattle.telegate.specs.Shell.{IsFirstUnread, IsNotRead, IsUnread, status_unread}
use Rattle.telegate.specs.Wishes.{site_files}
use Rattle.telegate.specs.declared.host.Unread.{Unread}
use Rattle.telegate.specs.declared.host.Unread.TheVariants.{Unreadable, NoMemory}

module _ (has : Text → List ℕ → Type 0) (lacks : Text → Type 0) where
  first_by : (files : List Text) (name : Text) (why : Unread) → 3 ≡ status_unread why
      → IsUnread has lacks files name why → IsFirstUnread has lacks files name
  first_by files name Unreadable status unread = unread
  first_by files name NoMemory status unread = absurd (omega (arith, status))

  one_lacks : (file name : Text) → IsFirstUnread has lacks (file ∷ []) name → lacks file
  one_lacks file name (inl first) = first.1
  one_lacks file name (inr later) = absurd later.1

  -- the only file
  pub only_lacks : (file : Text) → IsNotRead has lacks (file ∷ []) 3 → lacks file
  only_lacks file h =
      one_lacks file h.name (first_by (file ∷ []) h.name h.why h.status h.unread)

  two_lack : (one other name : Text) → IsFirstUnread has lacks (one ∷ other ∷ []) name
      → lacks one ⊎ lacks other
  two_lack one other name (inl first) = inl first.1
  two_lack one other name (inr later) =
      inr (one_lacks other name later.1)

  -- the first of two, or the second
  pub site_lacks : (site : Option Text) (name config : Text) → site ≡ Some name
      → IsNotRead has lacks (site_files site ++ config ∷ []) 3 → lacks name ⊎ lacks config
  site_lacks site name config is h =
      let k = subst (λ (s : Option Text). IsNotRead has lacks (site_files s ++ config ∷ []) 3) is h
      in two_lack name config k.name
      (first_by (name ∷ config ∷ []) k.name k.why k.status k.unread)
