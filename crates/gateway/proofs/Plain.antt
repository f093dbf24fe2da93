-- What is kept of a frame's answer has no objects of the queue's.
use Rattle.std.proofs.Common.{◌≡◌, ℕ, ◌<◌, ◌≤◌, ◌==◌, false, not, All}
use Rattle.std.proofs.Common.{List, [], length, Option, Some, None, refl, ap, sym, subst, arith}
use Rattle.std.specs.Prelude.{slice_index}
use Rattle.std.proofs.lemmas.List.Elements.{All-get_or}
use Rattle.asdu.specs.Sizes.{tcp}
use Rattle.asdu.specs.InformationObjects.{InformationObject, monitor_objects_of}
use Rattle.apci.specs.Spelling.{IsOctet, Fits}
use Rattle.apci.specs.declared.apdu.Apdu.{Apdu}
use Rattle.apci.specs.declared.apdu.Apdu.TheVariants.{I, S, U}
use Rattle.command.specs.State as tasks
use Rattle.command.specs.Judging.{judged}
use Rattle.command.specs.CommandLaws.{CommandLaws}
use Rattle.gateway.specs.Serial.{listed, received_commands}
use Rattle.gateway.specs.Objects.{has_objects}
use Rattle.gateway.specs.Agrees.{ArePlain}
use Rattle.gateway.proofs.Working.{kept_plain}

octet_at : (asdu : List ℕ) → 9 ≤ length asdu → All IsOctet asdu → slice_index asdu 2 < 256
octet_at asdu long octets = All-get_or IsOctet asdu 2 0 (omega (arith, long)) octets

listed_plain : (o : Option (List ℕ)) → ((a : List ℕ) → o ≡ Some a → has_objects a ≡ false)
    → ArePlain (listed o)
listed_plain None h = tt
listed_plain (Some a) h = (h a refl, tt)

pub no_monitor : (a : List ℕ) → monitor_objects_of tcp a ≡ [] → has_objects a ≡ false
no_monitor a e = ap (λ (os : List InformationObject). not (length os == 0)) e

pub received_plain : (laws : CommandLaws) (f : Apdu) (now : ℕ) (wall : Option ℕ) (s : tasks.State)
    → Fits f
    → ArePlain s.answers → ArePlain (received_commands f now wall s).answers
received_plain laws (I ns nr asdu) now wall s fits h =
    kept_plain (listed (judged asdu.items now wall s).0) (judged asdu.items now wall s).1
    (listed_plain (judged asdu.items now wall s).0 (λ a e. no_monitor a
    (laws.judged_plain asdu.items now wall s a fits.3 (octet_at asdu.items fits.3 fits.2) e)))
    (subst ArePlain (sym (laws.judged_answers asdu.items now wall s)) h)
received_plain laws (S nr) now wall s fits h = h
received_plain laws (U u) now wall s fits h = h
