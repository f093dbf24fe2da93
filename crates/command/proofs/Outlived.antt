-- What stands on a line over a change of settings has no connection.
use Rattle.std.proofs.Common.{◌≡◌, ℕ, zero, suc, List, [], ◌∷◌, map, get_or, Option, Some, None}
use Rattle.std.proofs.Common.{refl, ◌∙◌}
use Rattle.command.specs.declared.waiting.Line.{Line}
use Rattle.command.specs.declared.waiting.Line.TheVariants.{Free, Holds, CutOff}
use Rattle.command.specs.Carried.{line_carried}
use Rattle.command.specs.State.{cut_off, refusal_of}

cut_refuses_none : (line : Line) → refusal_of (cut_off line) ≡ None
cut_refuses_none Free = refl
cut_refuses_none (Holds received) = refl
cut_refuses_none CutOff = refl

one_refuses_none : (lines : List Line) (place : Option ℕ) → refusal_of (line_carried lines place)
    ≡ None
one_refuses_none lines None = refl
one_refuses_none lines (Some k) = cut_refuses_none (get_or lines k Free)

pub lines_refuse_none : (lines : List Line) (before : List (Option ℕ)) (k : ℕ)
    → refusal_of (get_or (map (line_carried lines) before) k Free) ≡ None
lines_refuse_none lines [] k = refl
lines_refuse_none lines (place ∷ before) zero = one_refuses_none lines place
lines_refuse_none lines (place ∷ before) (suc k) = lines_refuse_none lines before k
