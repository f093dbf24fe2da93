-- What an action leaves of the ends as it was, but for the connection.
use Rattle.std.proofs.Common.{◌≡◌, ℕ, true, false, Bool, List, [], Option, Some, None, refl, sym}
use Rattle.std.proofs.Common.{ap, ◌∙◌}
use Rattle.gateway.specs.Log.{Output, LineOut, TcpOut, Closed, GapOut}
use Rattle.session.specs.declared.kinds.Close.{Close}
use Rattle.session.specs.declared.kinds.Close.TheVariants as close
use Rattle.live.specs.declared.ends.CutCause.TheVariants as cause
use Rattle.live.specs.Ends.{LiveEnds, Peer, written_open, closed_by, after_action}

-- the ends but for the connection, what is held of it, a cut that is due, and why it is cut
abbrev pub beside : LiveEnds → LiveEnds
beside e = record e { connection = None; held = []; is_cut_due = false; why_cut = cause.Gone }

pub written_beside : (b : Bool) (octets : List ℕ) (taken : Bool) (p : Option Peer) (e : LiveEnds)
    → beside (written_open b octets taken p e) ≡ beside e
written_beside true octets taken p e = refl
written_beside false octets taken None e = refl
written_beside false octets taken (Some peer) e = refl

pub closed_beside : (c : Close) (e : LiveEnds) → beside (closed_by c e) ≡ beside e
closed_beside close.Replaced e = refl
closed_beside other e = refl

-- A part that isn't of the connection is as it was, if it is so behind a request to the line.
pub action_beside : {A : Type 0} (part : LiveEnds → A) → ((e : LiveEnds) → part (beside e) ≡ part e)
    → ((moment : ℕ) (octets : List ℕ) (written : ℕ) (taken : Bool) (late : ℕ) (e : LiveEnds)
    → part (after_action moment (LineOut octets) written taken late e) ≡ part e)
    → (moment : ℕ) (action : Output) (written : ℕ) (taken : Bool) (late : ℕ) (e : LiveEnds)
    → part (after_action moment action written taken late e) ≡ part e
action_beside part apart line moment (LineOut octets) written taken late e =
    line moment octets written taken late e
action_beside part apart line moment (TcpOut octets) written taken late e =
    let after = written_open e.is_cut_due octets taken e.connection e in
    sym (apart after)
    ∙ (ap part (written_beside e.is_cut_due octets taken e.connection e) ∙ apart e)
action_beside part apart line moment (Closed cause) written taken late e =
    sym (apart (closed_by cause e)) ∙ (ap part (closed_beside cause e) ∙ apart e)
action_beside part apart line moment (GapOut station session) written taken late e = refl
