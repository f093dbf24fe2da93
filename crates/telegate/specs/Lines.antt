-- The line of a process (this gateway's own profile).
use Rattle.std.specs.Prelude.{Bool, true, false}
use Rattle.telegate.specs.declared.site.ProcessLine.{ProcessLine}
use Rattle.telegate.specs.declared.site.ProcessLine.TheVariants.{Once, Again}

-- what the one says that is reached once, or the one that is reached again
abbrev pub of_line : {L A T : Type 0} → (L → T) → (A → T) → ProcessLine L A → T
of_line once again (Once line) = once line
of_line once again (Again line) = again line

-- it is reached again when it ends
abbrev pub is_again : {L A : Type 0} → ProcessLine L A → Bool
is_again (Once line) = false
is_again (Again line) = true
