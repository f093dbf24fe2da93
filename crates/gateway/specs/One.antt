-- That a log has one course.
use Rattle.std.specs.Prelude.{◌≡◌, ◌⊎◌, List}
use Rattle.apci.specs.declared.apdu.Apdu.{Apdu}
use Rattle.gateway.specs.Log.{Log, latest}
use Rattle.gateway.specs.Walls.{wall_on}
use Rattle.gateway.specs.Reports.{Setup}
use Rattle.gateway.specs.Course.{Course, with_frames, AreTaken}

-- One course goes on to the other by frames that may be taken: both connections, histories, works
-- and counts are the same but for them.
abbrev pub GoesOn : Setup → Log → (before after : Course) → Type 0
GoesOn p log c d = (frames : List Apdu)
    × (d ≡ with_frames p frames (latest log) (wall_on log (latest log)) c)
    × AreTaken p log (latest log) frames c

-- Two courses differ only in how far the octets of the latest event were judged.
abbrev pub AreOne : Setup → Log → Course → Course → Type 0
AreOne p log c d = GoesOn p log c d ⊎ GoesOn p log d c
