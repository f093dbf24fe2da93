-- APDUs without an ASDU, as APDUs (IEC 60870-5-104, 5.2 and 5.3: the S and U formats).
use Rattle.apci.specs.declared.apdu.Apdu.{Apdu}
use Rattle.apci.specs.declared.apdu.Apdu.TheVariants as apdu
use Rattle.apci.specs.declared.apdu.Short.{Short}
use Rattle.apci.specs.declared.apdu.Short.TheVariants as short

abbrev pub apdu_of : Short → Apdu
apdu_of (short.S nr) = apdu.S nr
apdu_of (short.U function) = apdu.U function
