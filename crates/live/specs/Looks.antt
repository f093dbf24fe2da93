-- One look at one source, by what it found (this gateway's own profile).
use Rattle.std.specs.Prelude.{◌≡◌, ℕ, List, Option, Some, None, IfSome}
use Rattle.std.specs.declared.net.ip_addr.IpAddr.{IpAddr}
use Rattle.live.specs.AllowLists.{AreStrangers}
use Rattle.live.specs.Ends.{LiveEnds, Peer, IsAllowedPeer, Answers, found_at, looked_at, next_round}
use Rattle.live.specs.declared.found.SourceEvent.{SourceEvent}
use Rattle.live.specs.declared.found.SourceEvent.TheVariants as found
use Rattle.live.specs.declared.source.EventSource.{EventSource}
use Rattle.live.specs.declared.ends.Got.{Got}
use Rattle.live.specs.declared.ends.Got.TheVariants.{Octets, Quiet, Gone}

-- what a stream must have answered for this to be found
abbrev pub got_for : Option SourceEvent → Got
got_for None = Quiet
got_for (Some found.Open) = Quiet
got_for (Some (found.Bytes len)) = Octets len
got_for (Some found.Cut) = Gone
got_for (Some (found.Line len)) = Octets len
got_for (Some found.Fault) = Gone

-- who must have connected: whose connection is there now
abbrev pub peer_for : Option SourceEvent → Option Peer → Option Peer
peer_for (Some found.Open) connection = connection
peer_for _ connection = None

-- the answers that this was found by, if these were refused
abbrev pub answers_for : Option SourceEvent → (refused : List IpAddr) → LiveEnds → Answers
answers_for f refused new = record {
  peer = peer_for f new.connection;
  refused = refused;
  connection = got_for f;
  line = got_for f;
  presence = new.presence;
}

-- such answers of a source give what was found, and the ends after it
pub record LooksAt (source : EventSource) (begun : ℕ) (old : LiveEnds) (f : Option SourceEvent)
    (buf : List ℕ)
    (new : LiveEnds) : Type 0 where
  pub refused : List IpAddr
  pub strangers : AreStrangers old.allow_list refused
  pub peer : IfSome (answers_for f refused new).peer (IsAllowedPeer old.allow_list)
  pub found : f ≡ found_at source (answers_for f refused new) old
  pub ends : new ≡ looked_at source begun (answers_for f refused new) buf old

-- and the next round begins after the source, if something was found
pub record LooksInRound (source : EventSource) (begun : ℕ) (old : LiveEnds) (f : Option SourceEvent)
    (buf : List ℕ)
    (new : LiveEnds) : Type 0 where
  pub refused : List IpAddr
  pub strangers : AreStrangers old.allow_list refused
  pub peer : IfSome (answers_for f refused new).peer (IsAllowedPeer old.allow_list)
  pub found : f ≡ found_at source (answers_for f refused new) old
  pub ends : new ≡ next_round source f (looked_at source begun (answers_for f refused new) buf old)
