-- What the laws of a station's lines speak of (this gateway's own profile).
use Rattle.std.specs.Prelude.{◌≡◌, ℕ, List, [], ◌∷◌, Option, Some}
use Rattle.asdu.specs.Refusals.{refusal}
use Rattle.asdu.specs.declared.sizes.Sizes.{Sizes}
use Rattle.runlog.specs.Limits.{none_left}
use Rattle.runlog.specs.Orders.{octet}
use Rattle.runlog.specs.Traffic.{first_line, new_traffic, reported}
use Rattle.runlog.specs.declared.content.Skip.{Skip}
use Rattle.runlog.specs.declared.note.LogLine.{LogLine}
use Rattle.runlog.specs.declared.note.Note.TheVariants as note
use Rattle.runlog.specs.declared.traffic.Traffic.{Traffic}

-- the line that is logged if this is the only station
abbrev pub first_alone : (now : ℕ) → Traffic → Option LogLine
first_alone now t = (first_line now (t ∷ [])).1

-- a report that is refused for this reason is logged so, whatever else it holds
abbrev pub IsSkippedAs : (n : ℕ) → Skip → Type 0
IsSkippedAs n why = (address now : ℕ) (s : Sizes) (report : List ℕ) → refusal s report ≡ Some n
    → first_alone now (reported s now report (new_traffic address))
    ≡ Some (record {
      moment = now;
      note = note.Skipped address (octet report 0) why;
      left_out = none_left;
    })
