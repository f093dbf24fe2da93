-- What the standard's own tables say of the types and their names (IEC 60870-5-101, 7.2.1 and 7.3),
-- what elements show (7.2.6), and time tags worked by hand.
use Rattle.std.specs.Prelude.{◌≡◌, ℕ, ℤ, ◌-ℤ◌, ◌%◌, ◌&&◌, ◌||◌}
use Rattle.std.specs.Prelude.{◌==◌, if◌then◌else◌, List, [], ◌∷◌, ◌++◌, ◌<◌}
use Rattle.std.specs.Prelude.{◌+◌, ◌*◌}
use Rattle.elements.specs.TimeTag.{verdict_of}
use Rattle.elements.specs.declared.tag.Verdict.{Verdict}
use Rattle.elements.specs.declared.tag.Verdict.TheVariants.{Good, NoSuchDay, WrongWeekday}

-- ---- Types

pub record Judged : Type 0 where
  pub octets : List ℕ
  pub verdict : Verdict

abbrev pub is_judged : List ℕ → Verdict → Judged
is_judged octets verdict = record { octets = octets; verdict = verdict }

abbrev pub IsJudgedSo : Judged → Type 0
IsJudgedSo e = verdict_of e.octets ≡ e.verdict

abbrev pub tag_examples : List Judged
tag_examples =
    -- Thursday 2024-02-29 12:34:56.789 UTC
    is_judged (0xD5 ∷ 0xDD ∷ 0x22 ∷ 0x0C ∷ 0x9D ∷ 0x02 ∷ 0x18 ∷ []) (Good 1709210096789)
    -- Saturday 2000-01-01 00:00, and the last millisecond of Thursday 2099-12-31
    ∷ is_judged (0x00 ∷ 0x00 ∷ 0x00 ∷ 0x00 ∷ 0xC1 ∷ 0x01 ∷ 0x00 ∷ []) (Good 946684800000)
    ∷ is_judged (0x5F ∷ 0xEA ∷ 0x3B ∷ 0x17 ∷ 0x9F ∷ 0x0C ∷ 0x63 ∷ []) (Good 4102444799999)
    -- no 29th of February in 2023, a Friday; in 2024 it was no Friday
    ∷ is_judged (0xD5 ∷ 0xDD ∷ 0xA2 ∷ 0x0C ∷ 0xBD ∷ 0x02 ∷ 0x17 ∷ []) NoSuchDay
    ∷ is_judged (0xD5 ∷ 0xDD ∷ 0xA2 ∷ 0x0C ∷ 0xBD ∷ 0x02 ∷ 0x18 ∷ []) WrongWeekday
    ∷ []
