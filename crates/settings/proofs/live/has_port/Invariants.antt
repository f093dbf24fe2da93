use Rattle.std.proofs.Common.{◌≡◌, drop}
use Rattle.settings.specs.Live.{has_port}
use Rattle.settings.proofs.live.has_port.Given as goal

-- no colon so far stands before a port
abbrev pub invariant-loop-at : goal.invariant-loop-at
invariant-loop-at l = has_port (drop l.at l.text) ≡ has_port l.text
