-- What is shown of the ends of a run.
use Rattle.std.proofs.Common.{◌≡◌, ◌≢◌, ℕ, true, false, List, Some, None, IfSome, sym}
use Rattle.std.proofs.Common.{ap, ◌∙◌}
use Rattle.std.specs.Prelude.{option_map}
use Rattle.gateway.specs.Log.{Closed}
use Rattle.gateway.specs.declared.ports.Next.{Next}
use Rattle.session.specs.declared.kinds.Close.{Close}
use Rattle.session.specs.declared.kinds.Close.TheVariants as close
use Rattle.live.specs.Ends.{LiveEnds, LogsPut, LogsTurn, Peer}
use Rattle.live.specs.Late.{IsLate, dropped_of}
use Rattle.live.specs.Law.{is_cut}
use Rattle.live.specs.OctetStreams.{StreamHistory}
use Rattle.live.specs.Runs.{IsInRun}
use Rattle.live.specs.Sights.{ShowsEnds}
use Rattle.live.specs.declared.ends.CutCause.TheVariants as cause
use Rattle.live.specs.declared.ends.Presence.{Presence}
use Rattle.live.specs.declared.watched.EndsSight.{EndsSight}
use Rattle.live.proofs.Closes.{shut}
use Rattle.live.proofs.Reasons.{reasoned, shut_behind}
use Rattle.live.proofs.Runs.{passed_so}

pub line_shown : (ends : LiveEnds) (sight : EndsSight) (presence : Presence)
    → ShowsEnds ends sight → ends.presence ≡ Some presence → sight.line ≡ presence
line_shown ends sight presence shows is =
    let same : Some sight.line ≡ Some presence = sym shows.line ∙ is in cc

late_by : (h : StreamHistory) (late shown : ℕ) → IsLate late (option_map dropped_of h)
    → shown ≡ late → IfSome h (λ happened. shown ≡ dropped_of happened)
late_by None late shown is same = tt
late_by (Some happened) late shown is same = same ∙ is

pub late_shown : (ends : LiveEnds) (sight : EndsSight) → IsInRun ends → ShowsEnds ends sight
    → IfSome ends.line (λ happened. sight.late_octets ≡ dropped_of happened)
late_shown ends sight run shows =
    late_by ends.line ends.late sight.late_octets (passed_so ends run).late shows.late

nobody_shown : (ends : LiveEnds) (sight : EndsSight) → ShowsEnds ends sight
    → ends.connection ≡ None → sight.peer ≡ None
nobody_shown ends sight shows none =
    shows.peer ∙ ap (λ c. option_map (λ (p : Peer). p.address) c) none

pub cut_shown : (old new : LiveEnds) (event : Next) (buf : List ℕ) (sight : EndsSight)
    → LogsTurn old event buf new → is_cut event ≡ true → ShowsEnds new sight → sight.peer ≡ None
cut_shown old new event buf sight l cut shows =
    nobody_shown new sight shows (shut_behind old new event buf l cut).0

pub shut_shown : (old new : LiveEnds) (moment : ℕ) (cause : Close) (sight : EndsSight)
    → LogsPut old moment (Closed cause) new → cause ≢ close.Replaced → ShowsEnds new sight
    → sight.peer ≡ None
shut_shown old new moment cause sight l other shows =
    nobody_shown new sight shows (shut old new moment cause l other).0

pub gone_shown : (old new : LiveEnds) (event : Next) (buf : List ℕ) (sight : EndsSight)
    → LogsTurn old event buf new → is_cut event ≡ true → old.is_cut_due ≡ false
    → ShowsEnds new sight → sight.why_cut ≡ cause.Gone
gone_shown old new event buf sight l cut free shows =
    shows.why ∙ ((reasoned old new event buf l).gone cut free).0

pub due_shown : (old new : LiveEnds) (event : Next) (buf : List ℕ) (before sight : EndsSight)
    → LogsTurn old event buf new → is_cut event ≡ true → old.is_cut_due ≡ true
    → ShowsEnds old before → ShowsEnds new sight → sight.why_cut ≡ before.why_cut
due_shown old new event buf before sight l cut due was shows =
    shows.why ∙ ((reasoned old new event buf l).due cut due ∙ sym was.why)
