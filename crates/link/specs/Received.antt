-- A request, and the octets of a command that stand beside it.
use Rattle.std.specs.Prelude.{ℕ, List}
use Rattle.link.specs.Answers.{Service, Class1, Class2, Command, Asked, Status, Reset, Counted}

-- the service, with these octets if it is a command
abbrev pub service_with : List ℕ → Service → Service
service_with octets Class1 = Class1
service_with octets Class2 = Class2
service_with octets (Command others) = Command octets

-- the request, with these octets if it is a command
abbrev pub with_data : List ℕ → Asked → Asked
with_data octets Status = Status
with_data octets Reset = Reset
with_data octets (Counted fcb service) = Counted fcb (service_with octets service)
