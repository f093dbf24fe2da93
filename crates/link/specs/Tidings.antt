-- What a secondary station shows of the reports that wait (IEC 60870-5-2, 5.1: ACD and DFC; the
-- procedures of a secondary station), over whole lives: the reports that it was given, those that
-- it gave out, and its answers. That DFC is never set is its own choice.
use Rattle.std.specs.Prelude.{◌≡◌, ◌≢◌, ◌<◌, ℕ, [], ◌∷◌, ◌++◌}
use Rattle.link.specs.Answers.{Frame, Single, Fixed, Data}

-- The frame is the single character, or has this address, with bits 7 and 6 of its control octet
-- clear.
abbrev pub IsSecondaryFrame : (address : ℕ) → Frame → Type 0
IsSecondaryFrame address Single = Unit {0}
IsSecondaryFrame address (Fixed control there) = (there ≡ address) × (control < 64)
IsSecondaryFrame address (Data control there body) = (there ≡ address) × (control < 64)
