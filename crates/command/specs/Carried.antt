-- Commands of a gateway that goes on with other settings (profile).
use Rattle.std.specs.Prelude.{ℕ, List, map, get_or, Option, Some, None}
use Rattle.asdu.specs.declared.sizes.Sizes.{Sizes}
use Rattle.command.specs.declared.station.StationInfo.{StationInfo}
use Rattle.command.specs.declared.waiting.Line.{Line}
use Rattle.command.specs.declared.waiting.Line.TheVariants.{Free}
use Rattle.command.specs.State.{State, new_state, cut_off}

-- what stands on the line of a station that had this place, if it had one: its connection has ended
abbrev pub line_carried : List Line → (before : Option ℕ) → Line
line_carried lines None = Free
line_carried lines (Some k) = cut_off (get_or lines k Free)

-- With these settings, and of each station the place that it had: what stands on its line stays
-- there. Nothing waits, nothing is selected, and no answer is left.
abbrev pub carried : List StationInfo → Sizes → (select_ms max_age_ms : ℕ) →
    (before : List (Option ℕ)) → State → State
carried stations sizes select_ms max_age_ms before s =
    record (new_state stations sizes select_ms max_age_ms) {
      lines = map (line_carried s.lines) before;
    }
