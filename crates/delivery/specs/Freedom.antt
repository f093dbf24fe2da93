-- What the standard leaves to an outstation (IEC 60870-5-2, 5.1.2 and the procedures of a secondary
-- station): RES, ACD and DFC of each answer, and whether a positive answer is the single character.
use Rattle.std.specs.Prelude.{◌≡◌, ◌≢◌, ◌⊎◌, ◌/◌, ◌%◌, ℕ, Bool, Some}
use Rattle.ft12.specs.declared.frame.Frame.{Frame}
use Rattle.link.specs.Outstation.{Outstation}

-- behind a service that it served: the service's frame count bit, and the answer
abbrev pub behind : (fcb : Bool) → Frame → Outstation
behind fcb frame = record { bit = Some fcb; last = Some frame }
