-- The late octets are those that the line dropped.
use Rattle.std.proofs.Common.{◌≡◌, ℕ, Bool, List, Option, Some, None, refl, sym, ap, subst, ◌∙◌}
use Rattle.std.specs.Prelude.{option_map}
use Rattle.gateway.specs.Log.{Output, LineOut, TcpOut, Closed, GapOut}
use Rattle.live.specs.OctetStreams.{Dropped, Wrote, StreamHistory, IsNew, looked, noted}
use Rattle.live.specs.Ends.{LiveEnds, Peer, Answers, PutsOut, as_logged, looked_at, accepted, more}
use Rattle.live.specs.Ends.{turned_away}
use Rattle.live.specs.Ends.{written_open, closed_by, after_action}
use Rattle.live.specs.Late.{dropped_of, IsLate, CountsLate}
use Rattle.live.specs.Passed.{LiveRun, Begun, Turned, Put}
use Rattle.live.proofs.Apart.{Apart}
use Rattle.live.proofs.Rounds.{Aside, turn_still}
use Rattle.live.specs.declared.source.EventSource.{EventSource}
use Rattle.live.specs.declared.source.EventSource.TheVariants.{Listener, Connection, Line}
use Rattle.live.specs.declared.ends.Got.{Got}
use Rattle.live.specs.declared.ends.Got.TheVariants.{Octets, Quiet, Gone}
use Rattle.live.proofs.Beside.{written_beside, closed_beside}

-- how many octets are late, and how many the line dropped, if it notes that
abbrev late_of : LiveEnds → ℕ × Option ℕ
late_of e = (e.late, option_map dropped_of e.line)

-- looks leave both
got_drops : (h : StreamHistory) (got : Got) (buf : List ℕ)
    → option_map dropped_of (noted h (looked got buf)) ≡ option_map dropped_of h
got_drops None got buf = refl
got_drops (Some before) (Octets len) buf = refl
got_drops (Some before) Quiet buf = refl
got_drops (Some before) Gone buf = refl

late_at_listener : (v : Option Peer) (e : LiveEnds) → late_of (accepted v e) ≡ late_of e
late_at_listener None e = refl
late_at_listener (Some peer) e = refl

late_looked : (s : EventSource) (t : ℕ) (a : Answers) (buf : List ℕ) (e : LiveEnds)
    → late_of (looked_at s t a buf e) ≡ late_of e
late_looked Listener t a buf e = late_at_listener a.peer (turned_away a.refused e)
late_looked Connection t a buf e = refl
late_looked Line t a buf e = ap (λ (d : Option ℕ). (e.late, d)) (got_drops e.line a.line buf)

late_aside : Aside late_of
late_aside =
    let apart : Apart late_of = record {
      looked = late_looked;
      moved = λ s e. refl;
      ended = λ e s. refl;
      given = λ e s. refl;
      kept = λ e held. refl;
    } in
    record { apart = apart; read = λ now e. refl }

-- an action
asked_late : (late n : ℕ) (octets : List ℕ) (taken : Bool) (h : StreamHistory)
    → IsLate n (option_map dropped_of h)
    → IsLate (more late n) (option_map dropped_of (noted (noted h (Dropped late))
    (Wrote octets taken)))
asked_late late n octets taken None logged = tt
asked_late late n octets taken (Some before) logged = ap (more late) logged

-- if both are as they were
noted_still : (old new : LiveEnds) → late_of new ≡ late_of old → CountsLate old → CountsLate new
noted_still old new same logged =
    let P : ℕ × Option ℕ → Type 0 = λ p. IsLate p.0 p.1 in subst P (sym same) logged

action_late : (moment : ℕ) (action : Output) (written : ℕ) (taken : Bool) (late : ℕ) (e : LiveEnds)
    → CountsLate e → CountsLate (after_action moment action written taken late e)
action_late moment (LineOut octets) written taken late e logged =
    asked_late late e.late octets taken e.line logged
action_late moment (TcpOut octets) written taken late e logged =
    noted_still e (written_open e.is_cut_due octets taken e.connection e)
    (ap late_of (written_beside e.is_cut_due octets taken e.connection e)) logged
action_late moment (Closed cause) written taken late e logged =
    noted_still e (closed_by cause e) (ap late_of (closed_beside cause e)) logged
action_late moment (GapOut station session) written taken late e logged = logged

put_late : (old new : LiveEnds) (moment : ℕ) (action : Output) → PutsOut old moment action new
    → CountsLate old → CountsLate new
put_late old new moment action p logged =
    let P : LiveEnds → Type 0 = λ e. CountsLate e in
    subst P (sym p.done) (action_late moment action p.written p.taken p.late old logged)

new_late : (e : LiveEnds) (h : StreamHistory) → IsNew h → e.late ≡ 0
    → IsLate e.late (option_map dropped_of h)
new_late e None is_new none = tt
new_late e (Some before) is_new none = none ∙ ap dropped_of (sym is_new)

-- and so a run
pub late : (start end : LiveEnds) → start.late ≡ 0 → IsNew start.line → LiveRun start end
    → CountsLate end
late start _ none is_new Begun = new_late start start.line is_new none
late start _ none is_new (Turned before end event buf run l) =
    noted_still before (as_logged before.log end)
    (turn_still late_of late_aside (λ e now shown. refl) before (as_logged before.log end) event buf
    l.turns (λ e. refl))
    (late start before none is_new run)
late start _ none is_new (Put before end moment action run l) =
    put_late before (as_logged before.log end) moment action l.puts
    (late start before none is_new run)
