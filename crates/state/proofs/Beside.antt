-- What stands beside a log that was begun.
use Rattle.std.proofs.Common.{◌≡◌, inl, inr, Bool, true, false, IsTrue, refl, subst}
use Rattle.segments.specs.Starts.{IsSound}
use Rattle.sqlite_disk.specs.declared.Disk.{Ghosts}
use Rattle.state.specs.Logs.{IsLeftBeside, SpareIs, WasOpen, WasOpened}
use Rattle.state.specs.declared.opened.Opened.{Opened}
use Rattle.state.specs.declared.opened.Opened.TheVariants as opens

module _ {D : Type 0} {g : Ghosts D} where
  -- the file of the newest log, which was opened
  pub left_opened : (opened : D → D → Type 0) (before after : Opened D g) (file : D)
      (is_sound : Bool) → WasOpened g opened file
      → (is_sound ≡ true → SpareIs {D = D} {g = g} file after)
      → (is_sound ≡ false → IsTrue (g.is_clean file) → IsSound (g.seen file) → ⊥)
      → IsLeftBeside opened before after
  left_opened opened before after file true was is others = record {
    file = file;
    was = inr was;
    is = inl (is refl);
  }
  left_opened opened before after file false was is others = record {
    file = file;
    was = inr was;
    is = inr (others refl);
  }

  -- the same, if it was open
  pub left_open : (opened : D → D → Type 0) (before after : Opened D g) (file : D)
      (is_sound : Bool) → WasOpen before file
      → (is_sound ≡ true → SpareIs {D = D} {g = g} file after)
      → (is_sound ≡ false → IsTrue (g.is_clean file) → IsSound (g.seen file) → ⊥)
      → IsLeftBeside opened before after
  left_open opened before after file true was is others = record {
    file = file;
    was = inl was;
    is = inl (is refl);
  }
  left_open opened before after file false was is others = record {
    file = file;
    was = inl was;
    is = inr (others refl);
  }

  -- if neither file is open, none was
  pub none_open : {P : Type 0} (before : Opened D g) (file : D) → before ≡ opens.Neither
      → WasOpen before file → P
  none_open before file is was =
      absurd (subst (λ (o : Opened D g). WasOpen o file) is was)
