-- What is counted of the reports that aren't passed on (profile).
use Rattle.std.specs.Io.Iter.{u64_saturate}
use Rattle.std.specs.Prelude.{ℕ, ◌+◌, ◌==◌, Bool, not, ◌&&◌, ◌||◌, List, [], ◌∷◌, if◌then◌else◌}
use Rattle.elements.specs.Types.{row}
use Rattle.elements.specs.declared.types.TypeId.{TypeId}
use Rattle.asdu.specs.declared.sizes.Sizes.{Sizes}
use Rattle.asdu.specs.InformationObjects.{InformationObject, objects_of, is_passed_on}
use Rattle.gateway.specs.declared.counts.Tally.{Tally}

abbrev pub nothing_counted : Tally
nothing_counted = record { skipped = 0; mirrors = 0; lost = 0 }

-- a number of 64 bits that stays at its greatest
abbrev pub one_more : ℕ → ℕ
one_more n = u64_saturate (n + 1)

abbrev pub one_skipped : Tally → Tally
one_skipped c = record { skipped = one_more c.skipped; mirrors = c.mirrors; lost = c.lost }

abbrev pub one_mirrored : Tally → Tally
one_mirrored c = record { skipped = c.skipped; mirrors = one_more c.mirrors; lost = c.lost }

abbrev pub one_lost : Tally → Tally
one_lost c = record { skipped = c.skipped; mirrors = c.mirrors; lost = one_more c.lost }

-- A station answers a command by the same type, and on this line none has a time tag (profile):
-- types 45 to 49 and 100.
abbrev pub is_answer_type : TypeId → Bool
is_answer_type t = not (row t).monitor && not (row t).tagged

-- By the first object of the report: one that can't be read has none. Those of monitor types are
-- passed on, save for a negative 'unknown type'; answers to commands are none of the queue's.
-- the types by which commands are answered, by their numbers (IEC 60870-5-101, 7.2.1.1): single,
-- double and step command, normalized and scaled set point, interrogation
abbrev pub is_answer_code : ℕ → Bool
is_answer_code code =
    code == 45 || code == 46 || code == 47 || code == 48 || code == 49 || code == 100

abbrev pub counted_by : List InformationObject → Tally → Tally
counted_by [] c = one_skipped c
counted_by (o ∷ objects) c =
    if is_answer_type o.kind then c else (if is_passed_on o.kind o.cause then c else one_skipped c)

abbrev pub counted : Sizes → List ℕ → Tally → Tally
counted sizes report c = counted_by (objects_of sizes report) c
