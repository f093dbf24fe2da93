use Rattle.std.proofs.Common.{rules}
use Rattle.std.proofs.lemmas.Fmt.{hex_byte}
use Rattle.runlog.proofs.spoiling.write_octet.Goals as goal

pub returns : goal.returns
returns g c = search (rules, hex_byte)
