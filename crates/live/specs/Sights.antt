-- What is shown of the ends of a live run (this gateway's own profile).
use Rattle.std.specs.Prelude.{◌≡◌, Some, option_map}
use Rattle.live.specs.Ends.{LiveEnds, Peer}
use Rattle.live.specs.declared.watched.EndsSight.{EndsSight}

-- Whether the line is there, as it says itself; whose connection is open, why the latest one that
-- was cut was cut, whom the listener refused, as it says itself, and how many octets of the line
-- were late.
pub record ShowsEnds (ends : LiveEnds) (sight : EndsSight) : Type 0 where
  pub line : ends.presence ≡ Some sight.line
  pub peer : sight.peer ≡ option_map (λ (p : Peer). p.address) ends.connection
  pub why : sight.why_cut ≡ ends.why_cut
  pub refused : sight.refused ≡ ends.refusals.said
  pub late : sight.late_octets ≡ ends.late
