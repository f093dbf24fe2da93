-- What the worked examples of a simulated line speak of: the control centre on an open connection,
-- a command, and the texts of scripts.
use Rattle.std.specs.Prelude.{ℕ, true, List, [], ◌∷◌}
use Rattle.ft12.specs.declared.frame.LinkSize.TheVariants.{One}
use Rattle.gateway.specs.Log.{Log, Came, Went, Opened, TcpIn, TcpOut}
use Rattle.sim.specs.declared.centre.Centre.{Centre}
use Rattle.sim.specs.declared.directive.Directive.{Directive}
use Rattle.sim.specs.Lives.{Plan}

-- data transfer runs on its connection, with these counts of I frames
abbrev pub started : (sent received acknowledged : ℕ) → Centre
started sent received acknowledged = record {
  is_open = true;
  is_started = true;
  sent = sent;
  received = received;
  acknowledged = acknowledged;
}

-- an open connection on which data transfer runs, with an I frame each way
abbrev pub busy : Log
busy =
    Came 4 (TcpIn (0x68 ∷ 0x0E ∷ 0x00 ∷ [])) ∷ Went 3 (TcpOut (0x68 ∷ 0x0E ∷ 0x00 ∷ []))
    ∷ Came 2 (TcpIn (0x68 ∷ 0x04 ∷ 0x07 ∷ [])) ∷ Came 1 Opened ∷ []

-- an activation of a single command, in the sizes of IEC 60870-5-104
abbrev pub command : List ℕ
command = 0x2D ∷ 0x01 ∷ 0x06 ∷ 0x00 ∷ 0x01 ∷ 0x00 ∷ 0x0A ∷ 0x00 ∷ 0x00 ∷ 0x01 ∷ []

-- a plan of a line with one-octet addresses, of this script
abbrev pub with_script : Plan → List Directive → Plan
with_script plan directives = record plan { size = One; directives = directives }
