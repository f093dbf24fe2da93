-- What is read of a line fits a packet.
use Rattle.std.specs.Prelude.{◌≤◌, length}
use Rattle.gateway.specs.Entries.{FitsPort}
use Rattle.gateway.specs.declared.entries.StoredEntry.{StoredEntry}
use Rattle.gateway.specs.declared.entries.StoredEntry.TheVariants as logged

-- it has 1,024 octets at most
abbrev pub FitsPacket : StoredEntry → Type 0
FitsPacket (logged.Came entry) = FitsPort entry
FitsPacket (logged.Line now octets) = length octets.items ≤ 1024
FitsPacket (logged.Tcp now octets) = length octets.items ≤ 1024
FitsPacket entry = Unit {0}
