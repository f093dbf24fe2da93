-- Which functions of a secondary station answer which request, by their numbers, and what the
-- caller learns of each (IEC 60870-5-2, 5.1.2: the function codes of a secondary station, and its
-- procedures of unbalanced transmission; what E5 stands for is this gateway's own profile). A
-- function that isn't in the row of a request is no answer to it.
use Rattle.std.specs.Prelude.{ℕ, Bool, ◌==◌, List, [], ◌∷◌, if◌then◌else◌}
use Rattle.link.specs.Answers.{Class1, Class2, Asked, Status, Reset, Counted}
use Rattle.link.specs.Requests.{Reading, Unknown, Asks}
use Rattle.link.specs.declared.outcome.Outcome.TheVariants as outcome

-- What the functions of a primary station ask of a station, by their numbers, in frames of fixed
-- length. Without a valid frame count bit: reset of the remote link is 0, the status of the link 9.
abbrev pub plain_row : List (ℕ × Asked)
plain_row = (0, Reset) ∷ (9, Status) ∷ []

-- With one: data of class 1 are 10, and of class 2 are 11.
abbrev pub counted_row : (fcb : Bool) → List (ℕ × Asked)
counted_row fcb = (10, Counted fcb Class1) ∷ (11, Counted fcb Class2) ∷ []

-- A function that isn't in the row is one that the station doesn't know.
abbrev pub reading_in : (function : ℕ) → List (ℕ × Asked) → Reading
reading_in function [] = Unknown
reading_in function (entry ∷ entries) =
    if function == entry.0 then Asks entry.1 else reading_in function entries
