-- The gateway's own answers, as they are handed over (IEC 60870-5-101, 7.2.3: causes 44 to 47, and
-- negative confirmations).
use Rattle.std.specs.Prelude.{◌≡◌, ◌≤◌, ℕ, zero, suc, List, [], ◌∷◌, Option, Some, None}
use Rattle.asdu.specs.declared.sizes.Sizes.{Sizes}
use Rattle.asdu.specs.Asdu.{AsduValue, IsAsdu}
use Rattle.asdu.specs.Translation.{parts}
use Rattle.command.specs.History.{History, Judged, Refused, Mirrored, Offered}

-- these answers are that one, or none if there is none
abbrev pub AreOnly : Option (List ℕ) → List (List ℕ) → Type 0
AreOnly None given = given ≡ []
AreOnly (Some answer) given = given ≡ answer ∷ []

-- `given` was handed over right behind these, the oldest first. Behind an ASDU that was judged, and
-- behind a command that found its station busy, it is the answer to that alone, once. Behind a
-- station's answer it is that (`IsHeeded`), and behind anything else nothing is handed over.
abbrev pub GivesAnswers : (given : List (List ℕ)) → History → Type 0
GivesAnswers given [] = given ≡ []
GivesAnswers given (Judged now wall asdu answer ∷ h) = AreOnly answer given × GivesAnswers [] h
GivesAnswers given (Refused k answer ∷ h) = AreOnly answer given × GivesAnswers [] h
GivesAnswers given (Mirrored now v ∷ h) = GivesAnswers [] h
GivesAnswers given (Offered octets kept ∷ h) = GivesAnswers (octets ∷ given) h
GivesAnswers given (_ ∷ h) = (given ≡ []) × GivesAnswers [] h

-- So many ASDUs are no more than carry the answer of a station (7.2.2): the answer that came has at
-- least as many parts, if there is one of them.
abbrev pub IsAtMost : Sizes → AsduValue → (given : ℕ) → Type 0
IsAtMost sizes v zero = Unit {0}
IsAtMost sizes v (suc n) =
    (report : List ℕ) × IsAsdu sizes v report × (suc n ≤ parts sizes report)

-- `given` ASDUs were handed over right behind these. Behind a station's answer that are at most its
-- own, however long nothing else becomes of commands.
abbrev pub GivesNoMore : Sizes → (given : ℕ) → History → Type 0
GivesNoMore sizes given [] = Unit {0}
GivesNoMore sizes given (Mirrored now v ∷ h) = IsAtMost sizes v given × GivesNoMore sizes 0 h
GivesNoMore sizes given (Offered octets kept ∷ h) = GivesNoMore sizes (suc given) h
GivesNoMore sizes given (_ ∷ h) = GivesNoMore sizes 0 h
