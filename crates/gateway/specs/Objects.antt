-- Monitor objects in ASDUs of the line and of the connection, and the pieces that a report needs.
use Rattle.std.specs.Prelude.{ℕ, ◌==◌, not, Bool, List, [], length, slice_index, Option, Some, None}
use Rattle.std.specs.Prelude.{if◌then◌else◌}
use Rattle.elements.specs.declared.types.TypeId.{TypeId}
use Rattle.elements.specs.Types.{type_of}
use Rattle.asdu.specs.declared.sizes.Sizes.{Sizes}
use Rattle.asdu.specs.Sizes.{tcp}
use Rattle.asdu.specs.InformationObjects.{InformationObject, monitor_objects_of}
use Rattle.asdu.specs.Fields.{value_at}
use Rattle.asdu.specs.Translation.{parts, report_pieces}

-- the objects of an ASDU that are passed on to the control centre (profile: of monitor types, but
-- for a negative 'unknown type')
abbrev pub monitor_objects : Sizes → List ℕ → List InformationObject
monitor_objects sizes asdu = monitor_objects_of sizes asdu

-- the same of an ASDU on the connection
abbrev pub objects : List ℕ → List InformationObject
objects asdu = monitor_objects tcp asdu

abbrev pub has_objects : List ℕ → Bool
has_objects asdu = not (length (objects asdu) == 0)

-- how many pieces a report needs, if it adds to the objects taken
abbrev pub parts_of : Sizes → List ℕ → ℕ
parts_of sizes report = if length (monitor_objects sizes report) == 0 then 0 else parts sizes report

abbrev pub typed_pieces : Sizes → Option TypeId → List ℕ → List (List ℕ)
typed_pieces sizes None report = []
typed_pieces sizes (Some t) report = report_pieces (value_at sizes t report)

-- the pieces by which a report is passed on, octet by octet: none if no object of it is
abbrev pub pieces_of_report : Sizes → List ℕ → List (List ℕ)
pieces_of_report sizes report =
    if length (monitor_objects sizes report) == 0 then []
    else typed_pieces sizes (type_of (slice_index report 0)) report
