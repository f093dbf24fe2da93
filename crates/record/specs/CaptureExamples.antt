-- What the worked examples of a capture speak of: requests, and packets of the line.
use Rattle.std.specs.Prelude.{ℕ, true, false, List, [], ◌∷◌}
use Rattle.record.specs.Wires.{Line, Serial}

-- the reset of the link of station 1, and a poll of its class 2 (FT1.2; functions 0 and 11)
abbrev pub reset : List ℕ
reset = 0x10 ∷ 0x40 ∷ 0x01 ∷ 0x41 ∷ 0x16 ∷ []

abbrev pub poll : List ℕ
poll = 0x10 ∷ 0x7B ∷ 0x01 ∷ 0x7C ∷ 0x16 ∷ []

-- the line behind this request, if these octets began a frame since
abbrev pub behind : Line → (request pending : List ℕ) → Line
behind line request pending = record line { pending = pending; request = request }

-- a packet of octets that the line took, and one of octets that it brought, with a comment
abbrev pub sent : (octets comment : List ℕ) → Serial
sent octets comment = record { is_request = true; octets = octets; comment = comment }

abbrev pub brought : (octets comment : List ℕ) → Serial
brought octets comment = record { is_request = false; octets = octets; comment = comment }
