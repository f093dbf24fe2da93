-- What became of an errand, in words and as an exit status (this gateway's own profile).
use Rattle.std.specs.Prelude.{ℕ, ◌%◌, ◌==◌, if◌then◌else◌, codes, List}
use Rattle.session.specs.declared.kinds.Close.{Close}
use Rattle.session.specs.declared.kinds.Close.TheVariants as close
use Rattle.centre.specs.declared.errand.Loss.{Loss}
use Rattle.centre.specs.declared.errand.Loss.TheVariants.{Gone, Untaken, Closed}
use Rattle.centre.specs.declared.errand.Outcome.{Outcome}
use Rattle.centre.specs.declared.errand.Outcome.TheVariants.{Confirmed, Terminated, Refused, Silent}
use Rattle.centre.specs.declared.errand.Outcome.TheVariants.{Lost}

-- a refusal by this cause octet
abbrev pub refused_words : ℕ → List ℕ
refused_words cause =
    if cause % 64 == 44 then codes "refused: unknown type"
    else (if cause % 64 == 45 then codes "refused: unknown cause"
    else (if cause % 64 == 46 then codes "refused: unknown common address"
    else (if cause % 64 == 47 then codes "refused: unknown object address"
    else codes "refused: negative confirmation")))

abbrev pub closed_words : Close → List ℕ
closed_words close.Grammar = codes "connection lost: octets that begin no APDU"
closed_words close.SendNumber = codes "connection lost: a wrong N(S)"
closed_words close.ReceiveNumber = codes "connection lost: a wrong N(R)"
closed_words close.Stopped = codes "connection lost: an I frame while data transfer is stopped"
closed_words close.Timeout = codes "connection lost: no reply within t1"
closed_words close.OwnAnswers = codes "connection lost"
closed_words close.Replaced = codes "connection lost"

abbrev pub lost_words : Loss → List ℕ
lost_words Gone = codes "connection lost: the gateway ended it"
lost_words Untaken = codes "connection lost: the gateway takes nothing"
lost_words (Closed why) = closed_words why

abbrev pub outcome_words : Outcome → List ℕ
outcome_words Confirmed = codes "confirmed"
outcome_words Terminated = codes "confirmed and terminated"
outcome_words (Refused cause) = refused_words cause
outcome_words Silent = codes "no reply in time"
outcome_words (Lost why) = lost_words why

-- 0 confirmed, 1 refused, 3 no reply or no connection
abbrev pub status_of : Outcome → ℕ
status_of Confirmed = 0
status_of Terminated = 0
status_of (Refused cause) = 1
status_of Silent = 3
status_of (Lost why) = 3
