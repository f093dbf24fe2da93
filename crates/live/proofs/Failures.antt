-- The line fails if its stream is gone.
use Rattle.std.proofs.Common.{◌≡◌, ℕ, ◌+◌, ◌-◌, Bool, List, Option, Some, None, IfSome, refl, sym}
use Rattle.std.proofs.Common.{ap}
use Rattle.std.proofs.Common.{subst, arith, ◌∙◌}
use Rattle.std.specs.Prelude.{option_map}
use Rattle.gateway.specs.Log.{Output, LineOut, TcpOut, Closed, GapOut}
use Rattle.live.specs.OctetStreams.{Dropped, Happening, Wrote, StreamHistory, IsNew, looked, noted}
use Rattle.live.specs.Ends.{LiveEnds, Peer, Answers, as_logged, looked_at, accepted}
use Rattle.live.specs.Ends.{turned_away}
use Rattle.live.specs.Ends.{failed_by, after_action}
use Rattle.live.specs.Late.{gone_of}
use Rattle.live.specs.Passed.{LiveRun, Begun, Turned, Put}
use Rattle.live.proofs.Apart.{Apart}
use Rattle.live.proofs.Rounds.{Aside, turn_still}
use Rattle.live.specs.declared.source.EventSource.{EventSource}
use Rattle.live.specs.declared.source.EventSource.TheVariants.{Listener, Connection, Line}
use Rattle.live.specs.declared.ends.Got.{Got}
use Rattle.live.specs.declared.ends.Got.TheVariants.{Octets, Quiet, Gone}
use Rattle.live.proofs.Beside.{written_beside, closed_beside}

-- how many failures there are more than looks that found the line gone, and the other way round
abbrev between : ℕ → ℕ → ℕ × ℕ
between m n = (m - n, n - m)

abbrev none_between : ℕ × ℕ
none_between = (0, 0)

apart_by : ℕ → StreamHistory → Option (ℕ × ℕ)
apart_by failed h = option_map (λ (happened : List Happening). between failed (gone_of happened)) h

abbrev apart_of : LiveEnds → Option (ℕ × ℕ)
apart_of e = apart_by e.failed e.line

-- looks leave that
both_more : (m n : ℕ) → between (m + 1) (n + 1) ≡ between m n
both_more m n =
    let one : (m + 1) - (n + 1) ≡ m - n = omega arith in
    let other : (n + 1) - (m + 1) ≡ n - m = omega arith in
    rw (one, other) refl

got_apart : (failed : ℕ) (h : StreamHistory) (got : Got) (buf : List ℕ)
    → apart_by (failed_by got failed) (noted h (looked got buf)) ≡ apart_by failed h
unfolding apart_by
got_apart failed None got buf = refl
got_apart failed (Some before) (Octets len) buf = refl
got_apart failed (Some before) Quiet buf = refl
got_apart failed (Some before) Gone buf =
    ap (λ (p : ℕ × ℕ). Some p) (both_more failed (gone_of before))

apart_at_listener : (v : Option Peer) (e : LiveEnds) → apart_of (accepted v e) ≡ apart_of e
apart_at_listener None e = refl
apart_at_listener (Some peer) e = refl

apart_looked : (s : EventSource) (t : ℕ) (a : Answers) (buf : List ℕ) (e : LiveEnds)
    → apart_of (looked_at s t a buf e) ≡ apart_of e
apart_looked Listener t a buf e = apart_at_listener a.peer (turned_away a.refused e)
apart_looked Connection t a buf e = refl
apart_looked Line t a buf e = got_apart e.failed e.line a.line buf

apart_aside : Aside apart_of
apart_aside =
    let apart : Apart apart_of = record {
      looked = apart_looked;
      moved = λ s e. refl;
      ended = λ e s. refl;
      given = λ e s. refl;
      kept = λ e held. refl;
    } in
    record { apart = apart; read = λ now e. refl }

-- so does an action
asked_apart : (failed late : ℕ) (octets : List ℕ) (taken : Bool) (h : StreamHistory)
    → apart_by failed (noted (noted h (Dropped late)) (Wrote octets taken)) ≡ apart_by failed h
unfolding apart_by
asked_apart failed late octets taken None = refl
asked_apart failed late octets taken (Some before) = refl

action_apart : (moment : ℕ) (action : Output) (written : ℕ) (taken : Bool) (late : ℕ)
    (e : LiveEnds) → apart_of (after_action moment action written taken late e) ≡ apart_of e
action_apart moment (LineOut octets) written taken late e =
    asked_apart e.failed late octets taken e.line
action_apart moment (TcpOut octets) written taken late e =
    ap apart_of (written_beside e.is_cut_due octets taken e.connection e)
action_apart moment (Closed cause) written taken late e = ap apart_of (closed_beside cause e)
action_apart moment (GapOut station session) written taken late e = refl

-- and a run
run_apart : (start end : LiveEnds) → LiveRun start end → apart_of end ≡ apart_of start
run_apart start _ Begun = refl
run_apart start _ (Turned before end event buf run l) =
    turn_still apart_of apart_aside (λ e now shown. refl) before (as_logged before.log end) event
    buf
    l.turns (λ e. refl)
    ∙ run_apart start before run
run_apart start _ (Put before end moment action run l) =
    (ap apart_of l.puts.done
    ∙ action_apart moment action l.puts.written l.puts.taken l.puts.late before)
    ∙ run_apart start before run

new_apart : (failed : ℕ) (h : StreamHistory) → failed ≡ 0 → IsNew h
    → IfSome (apart_by failed h) (λ p. p ≡ none_between)
unfolding apart_by
new_apart failed None none is_new = tt
new_apart failed (Some before) none is_new = rw (none, is_new) refl

level : (m n : ℕ) → between m n ≡ none_between → m ≡ n
level m n same =
    let one : m - n ≡ 0 = ap (λ (p : ℕ × ℕ). p.0) same in
    let other : n - m ≡ 0 = ap (λ (p : ℕ × ℕ). p.1) same in
    omega (arith, one, other)

level_by : (failed : ℕ) (h : StreamHistory) → IfSome (apart_by failed h) (λ p. p ≡ none_between)
    → IfSome h (λ happened. failed ≡ gone_of happened)
unfolding apart_by
level_by failed None same = tt
level_by failed (Some happened) same = level failed (gone_of happened) same

pub failed_where_gone : (start end : LiveEnds) → start.failed ≡ 0 → IsNew start.line
    → LiveRun start end → IfSome end.line (λ happened. end.failed ≡ gone_of happened)
failed_where_gone start end none is_new run =
    let P : Option (ℕ × ℕ) → Type 0 = λ p. IfSome p (λ q. q ≡ none_between) in
    level_by end.failed end.line (subst P (sym (run_apart start end run))
    (new_apart start.failed start.line none is_new))
