-- The lines of a run's actions, of which some were taken off the page.
use Rattle.std.specs.Prelude.{ℕ, List}
use Rattle.gateway.specs.Log.{Log}

-- the log, the part of it whose lines were taken off, and the lines that stand on the page
pub record Printed : Type 0 where
  pub log : Log
  pub poured : Log
  pub lines : List ℕ
