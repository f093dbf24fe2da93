-- The log has what passed at the streams.
use Rattle.std.proofs.Common.{◌≡◌, ℕ, ◌+◌, List, [], ◌∷◌, ◌++◌, length, take, true, false, not}
use Rattle.std.proofs.Common.{Bool, Option, Some, None, IfSome, refl, sym, ap, subst, ◌∙◌, inl, inr}
use Rattle.gateway.specs.declared.ports.Next.{Next}
use Rattle.gateway.specs.Log.{Log, Went, LineOut, TcpOut, Closed, GapOut, Output}
use Rattle.gateway.specs.Ports.{logged_by}
use Rattle.session.specs.declared.kinds.Close.{Close}
use Rattle.session.specs.declared.kinds.Close.TheVariants as close
use Rattle.live.specs.OctetStreams.{Happening, Gave, WasQuiet, WasGone, Dropped, Wrote}
use Rattle.live.specs.OctetStreams.{StreamHistory, IsNew, noted, Attempts, attempted}
use Rattle.live.specs.Timing.{is_behind, told_at}
use Rattle.live.specs.Ends.{brings_frame}
use Rattle.live.specs.Ends.{LiveEnds, Peer, IsAllowedPeer, Answers, QuietRounds, NoRound, OneRound}
use Rattle.live.specs.Ends.{LooksOn, Turns, PutsOut, as_logged, looking, event_at, taken_by}
use Rattle.live.specs.Ends.{clock_read_at, turn_by, sources_by, held_by, IsFront, round, look}
use Rattle.live.specs.Ends.{unless_found, next_round, looked_at, after, nothing_more, accepted}
use Rattle.live.specs.Ends.{turned_away}
use Rattle.live.specs.Ends.{of_peer, of_open, of_line, read_from, peer_read, written_open}
use Rattle.live.specs.Ends.{closed_by}
use Rattle.live.specs.Ends.{after_action}
use Rattle.std.proofs.lemmas.List.{append-nil}
use Rattle.live.specs.Passed.{given, line_in, line_out, centre_in, centre_out, LogsLine}
use Rattle.live.specs.Passed.{LogsWritten, LogsStream, LogsCentre, LogsListener, LogsEnds}
use Rattle.live.specs.Passed.{IsFreshRun, HasNoAttempts, opened_in, LiveRun, Begun, Turned, Put}
use Rattle.live.specs.declared.allow_list.AllowList.{AllowList}
use Rattle.live.specs.declared.found.SourceEvent.{SourceEvent}
use Rattle.live.specs.declared.found.SourceEvent.TheVariants as found
use Rattle.live.specs.declared.source.EventSource.{EventSource}
use Rattle.live.specs.declared.source.EventSource.TheVariants.{Listener, Connection, Line}
use Rattle.live.specs.declared.ends.Got.{Got}
use Rattle.live.specs.declared.ends.Got.TheVariants.{Octets, Quiet, Gone}
use Rattle.live.proofs.Beside.{beside, written_beside}

-- one more happening at the line
line_quiet : (i : List ℕ) (o : List (List ℕ)) (h : StreamHistory) → LogsLine i o h
    → LogsLine i o (noted h WasQuiet)
line_quiet i o None t = tt
line_quiet i o (Some before) t = t

line_gone : (i : List ℕ) (o : List (List ℕ)) (h : StreamHistory) → LogsLine i o h
    → LogsLine i o (noted h WasGone)
line_gone i o None t = tt
line_gone i o (Some before) t = t

line_gave : (i : List ℕ) (o : List (List ℕ)) (octets : List ℕ) (h : StreamHistory) → LogsLine i o h
    → LogsLine (i ++ octets) o (noted h (Gave octets))
line_gave i o octets None t = tt
line_gave i o octets (Some before) t = (ap (λ x. x ++ octets) t.0, t.1)

line_dropped : (i : List ℕ) (o : List (List ℕ)) (count : ℕ) (h : StreamHistory) → LogsLine i o h
    → LogsLine i o (noted h (Dropped count))
line_dropped i o count None t = tt
line_dropped i o count (Some before) t = t

line_wrote : (i : List ℕ) (o : List (List ℕ)) (octets : List ℕ) (taken : Bool) (h : StreamHistory)
    → LogsLine i o h
    → LogsLine i (octets ∷ o) (noted h (Wrote octets taken))
line_wrote i o octets taken None t = tt
line_wrote i o octets taken (Some before) t = (t.0, ap (λ x. octets ∷ x) t.1)

-- and at the stream of the connection
stream_quiet : (d : Bool) (k i : List ℕ) (o : List (List ℕ)) (h : StreamHistory)
    → LogsStream d k i o h
    → LogsStream d k i o (noted h WasQuiet)
stream_quiet d k i o None t = tt
stream_quiet d k i o (Some before) t = t

stream_gave : (d : Bool) (k i : List ℕ) (o : List (List ℕ)) (octets : List ℕ) (h : StreamHistory)
    → k ≡ []
    → LogsStream d k i o h → LogsStream d k (i ++ octets) o (noted h (Gave octets))
stream_gave d k i o octets None none t = tt
stream_gave d k i o octets (Some before) none t =
    let all : i ≡ given before = sym (append-nil i) ∙ (ap (λ x. i ++ x) (sym none) ∙ t.0) in (
      ap (λ x. (i ++ octets) ++ x) none ∙ (append-nil (i ++ octets) ∙ ap (λ x. x ++ octets) all),
      t.1,
    )

stream_wrote : (k i : List ℕ) (o : List (List ℕ)) (octets : List ℕ) (taken : Bool)
    (h : StreamHistory)
    → LogsStream false k i o h
    → LogsStream (not taken) k i (octets ∷ o) (noted h (Wrote octets taken))
stream_wrote k i o octets taken None t = tt
stream_wrote k i o octets true (Some before) t =
    (t.0, (ap (λ x. octets ∷ x) t.1.0, ap (λ x. octets ∷ x) t.1.1))
stream_wrote k i o octets false (Some before) t =
    (t.0, ([], octets, ap (λ x. octets ∷ x) t.1.0, ap (λ x. octets ∷ x) (sym t.1.0 ∙ t.1.1)))

-- octets that were held are given, or octets that came are held
stream_given : (d : Bool) (k octets i : List ℕ) (o : List (List ℕ)) (h : StreamHistory) → octets ≡ k
    → LogsStream d k i o h → LogsStream d [] (i ++ octets) o h
stream_given d k octets i o None same t = tt
stream_given d k octets i o (Some before) same t =
    (append-nil (i ++ octets) ∙ (ap (λ x. i ++ x) same ∙ t.0), t.1)

stream_held : (d : Bool) (k octets i : List ℕ) (o : List (List ℕ)) (h : StreamHistory) → k ≡ []
    → LogsStream d k (i ++ octets) o h → LogsStream d octets i o h
stream_held d k octets i o None none t = tt
stream_held d k octets i o (Some before) none t =
    (sym (append-nil (i ++ octets)) ∙ (ap (λ x. (i ++ octets) ++ x) (sym none) ∙ t.0), t.1)

centre_given : (d : Bool) (k octets i : List ℕ) (o : List (List ℕ)) (c : Option Peer) → octets ≡ k
    → LogsCentre d k i o c → LogsCentre d [] (i ++ octets) o c
centre_given d k octets i o None same t = tt
centre_given d k octets i o (Some peer) same t = stream_given d k octets i o peer.stream same t

centre_held : (d : Bool) (k octets i : List ℕ) (o : List (List ℕ)) (c : Option Peer) → k ≡ []
    → LogsCentre d k (i ++ octets) o c → LogsCentre d octets i o c
centre_held d k octets i o None none t = tt
centre_held d k octets i o (Some peer) none t = stream_held d k octets i o peer.stream none t

-- a new stream, if no cut is due
written_none : (d : Bool) → d ≡ false → LogsWritten d [] [] []
written_none true due = absurd (cc)
written_none false due = (refl, refl)

stream_new : (d : Bool) (h : StreamHistory) → d ≡ false → IsNew h → LogsStream d [] [] [] h
stream_new d None due fresh = tt
stream_new d (Some before) due fresh =
    let P : List Happening → Type 0 = λ b. LogsStream d [] [] [] (Some b) in
    subst P (sym fresh) (refl, written_none d due)

line_new : (h : StreamHistory) → IsNew h → LogsLine [] [] h
line_new None fresh = tt
line_new (Some before) fresh =
    let P : List Happening → Type 0 = λ b. LogsLine [] [] (Some b) in
    subst P (sym fresh) (refl, refl)

-- one more look at the listener
listener_shut : (n : ℕ) (v : Attempts) → LogsListener n v → LogsListener n (attempted v false)
listener_shut n None t = tt
listener_shut n (Some before) t = t

listener_opened : (n : ℕ) (v : Attempts) → LogsListener n v
    → LogsListener (n + 1) (attempted v true)
listener_opened n None t = tt
listener_opened n (Some before) t = ap (λ x. x + 1) t

listener_new : (v : Attempts) → HasNoAttempts v → LogsListener 0 v
listener_new None fresh = tt
listener_new (Some before) fresh =
    let P : List Bool → Type 0 = λ b. LogsListener 0 (Some b) in subst P (sym fresh) refl

-- octets of the connection are found only if none are held
IsUnheld : Option SourceEvent → (held : List ℕ) → Type 0
IsUnheld None held = Unit {0}
IsUnheld (Some found.Open) held = Unit {0}
IsUnheld (Some (found.Bytes len)) held = held ≡ []
IsUnheld (Some found.Cut) held = Unit {0}
IsUnheld (Some (found.Line len)) held = Unit {0}
IsUnheld (Some found.Fault) held = Unit {0}

-- what was found, given as of any moment
LogsFound : ℕ → List ℕ → Log → Option SourceEvent × LiveEnds → Type 0
LogsFound now buf log p = LogsEnds (logged_by (event_at now p.0) buf ++ log) p.1
    × IsUnheld p.0 p.1.held

-- what goes on from ends that the log has
LogsOn : ℕ → List ℕ → Log → (List ℕ → Bool → Type 0) → (LiveEnds → Option SourceEvent × LiveEnds)
    → Type 0
LogsOn now buf log Holds others =
    (e : LiveEnds) → Holds e.held e.is_cut_due → LogsEnds log e → LogsFound now buf log (others e)

nothing_logs : (n : ℕ) (buf : List ℕ) (log : Log) (Holds : List ℕ → Bool → Type 0)
    → LogsOn n buf log Holds nothing_more
unfolding LogsOn LogsFound IsUnheld
nothing_logs n buf log Holds e none h = (h, tt)

-- nothing is held, and no cut is due
IsNone : List ℕ → Bool → Type 0
IsNone held due = (held ≡ []) × (due ≡ false)

at_listener : (n : ℕ) (buf : List ℕ) (log : Log) (g : AllowList) (v : Option Peer) (e : LiveEnds)
    (others : LiveEnds
    → Option SourceEvent × LiveEnds) → LogsOn n buf log IsNone others → IfSome v (IsAllowedPeer g)
    → IsNone e.held e.is_cut_due
    → LogsEnds log e →
    LogsFound n buf log (unless_found (of_peer v) (next_round Listener (of_peer v) (accepted v e))
    others)
unfolding LogsOn LogsFound IsUnheld IsNone
at_listener n buf log g None e others on allowed none h =
    on (accepted None e) none (h.0, h.1, listener_shut (opened_in log) e.listener h.2)
at_listener n buf log g (Some peer) e others on allowed none h = (
  (
    h.0,
    stream_new e.is_cut_due peer.stream none.1 allowed.is_new,
    listener_opened (opened_in log) e.listener
        h.2,
  ),
  tt,
)

at_connection : (n : ℕ) (buf : List ℕ) (log : Log) (c : Option Peer) (got : Got) (e : LiveEnds)
    (others : LiveEnds
    → Option SourceEvent × LiveEnds) → LogsOn n buf log IsNone others → IsNone e.held e.is_cut_due
    → LogsLine (line_in log) (line_out log) e.line
    → LogsCentre e.is_cut_due e.held (centre_in log) (centre_out log) c
    → LogsListener (opened_in log) e.listener →
    LogsFound n buf log (unless_found (of_open c got) (next_round Connection (of_open c got)
    (peer_read c got buf e)) others)
unfolding LogsOn LogsFound IsUnheld IsNone
at_connection n buf log None got e others on none l h d =
    on (record e { connection = None }) none (l, tt, d)
at_connection n buf log (Some peer) (Octets len) e others on none l h d = (
  (l, stream_gave e.is_cut_due e.held (centre_in log) (centre_out log) _ peer.stream none.0 h, d),
  none.0,
)
at_connection n buf log (Some peer) Quiet e others on none l h d =
    on (record e { connection = read_from (Some peer) Quiet buf }) none
    (l, stream_quiet e.is_cut_due e.held (centre_in log) (centre_out log) peer.stream h, d)
at_connection n buf log (Some peer) Gone e others on none l h d = ((l, tt, d), tt)

at_line : (n : ℕ) (buf : List ℕ) (log : Log) (Holds : List ℕ → Bool → Type 0) (t : ℕ) (a : Answers)
    (got : Got)
    (e : LiveEnds) (others : LiveEnds → Option SourceEvent × LiveEnds)
    → LogsOn n buf log Holds others
    → Holds e.held e.is_cut_due
    → LogsEnds log e
    → a.line ≡ got
    → LogsFound n buf log
    (unless_found (of_line got) (next_round Line (of_line got) (looked_at Line t
    (record a { line = got }) buf e)) others)
unfolding LogsOn LogsFound IsUnheld
at_line n buf log Holds t a (Octets len) e others on held h is =
    ((line_gave (line_in log) (line_out log) _ e.line h.0, h.1, h.2), tt)
at_line n buf log Holds t a Quiet e others on held h is =
    on (looked_at Line t (record a { line = Quiet }) buf e) held
    (line_quiet (line_in log) (line_out log) e.line h.0, h.1, h.2)
at_line n buf log Holds t a Gone e others on held h is =
    ((line_gone (line_in log) (line_out log) e.line h.0, h.1, h.2), tt)

look_logs : (n : ℕ) (buf : List ℕ) (log : Log) (g : AllowList) (s : EventSource) (t : ℕ)
    (a : Answers)
    (others : LiveEnds
    → Option SourceEvent × LiveEnds) → IfSome a.peer (IsAllowedPeer g)
    → LogsOn n buf log IsNone others
    → LogsOn n buf log IsNone (λ e. look s t a buf e others)
unfolding LogsOn IsNone
look_logs n buf log g Listener t a others allowed on e none h =
    at_listener n buf log g a.peer (turned_away a.refused e) others on allowed none h
look_logs n buf log g Connection t a others allowed on e none h =
    at_connection n buf log e.connection a.connection e others on none h.0 h.1 h.2
look_logs n buf log g Line t a others allowed on e none h =
    at_line n buf log IsNone t a a.line e others on none h refl

round_logs : (n : ℕ) (buf : List ℕ) (log : Log) (g : AllowList) (t : ℕ) (a : Answers) (e : LiveEnds)
    → IfSome a.peer (IsAllowedPeer g) → IsNone e.held e.is_cut_due → LogsEnds log e
    → LogsFound n buf log (round t a buf e)
unfolding LogsOn IsNone
round_logs n buf log g t a e allowed none h =
    let third = look_logs n buf log g (after (after e.first)) t a nothing_more allowed
    (nothing_logs n buf log IsNone) in
    let second = look_logs n buf log g (after e.first) t a
    (λ x. look (after (after e.first)) t a buf x nothing_more) allowed third in
    look_logs n buf log g e.first t a
    (λ x. look (after e.first) t a buf x (λ y. look (after (after e.first)) t a buf y nothing_more))
    allowed second
    e none h

held_logs : (n : ℕ) (buf : List ℕ) (log : Log) (g : AllowList) (held : List ℕ) (t : ℕ) (a : Answers)
    (e : LiveEnds)
    → IfSome a.peer (IsAllowedPeer g) → e.held ≡ held → e.is_cut_due ≡ false
    → take (length held) buf
    ≡ held
    → LogsEnds log e → LogsFound n buf log (held_by held t a buf e)
unfolding LogsFound IsUnheld IsNone
held_logs n buf log g [] t a e allowed same due front h =
    round_logs n buf log g t a e allowed (same, due) h
held_logs n buf log g (octet ∷ octets) t a e allowed same due front h = (
  (
    h.0,
    centre_given e.is_cut_due e.held (take (length (octet ∷ octets)) buf) (centre_in log)
        (centre_out log) e.connection
        (front ∙ sym same) h.1,
    h.2,
  ),
  refl,
)

sources_log : (n : ℕ) (buf : List ℕ) (log : Log) (g : AllowList) (b : Bool) (t : ℕ) (a : Answers)
    (e : LiveEnds)
    → IfSome a.peer (IsAllowedPeer g) → e.is_cut_due ≡ false → IsFront false b e.held buf
    → LogsEnds log e
    → LogsFound n buf log (sources_by b t a buf e)
unfolding LogsOn
sources_log n buf log g true t a e allowed due front h =
    let any : List ℕ → Bool → Type 0 = λ held is_due. Unit {0} in
    at_line n buf log any t a a.line e nothing_more (nothing_logs n buf log any) tt h refl
sources_log n buf log g false t a e allowed due front h =
    held_logs n buf log g e.held t a e allowed refl due front h

turn_logs : (n : ℕ) (buf : List ℕ) (log : Log) (g : AllowList) (d : Bool) (t : ℕ) (a : Answers)
    (e : LiveEnds)
    → IfSome a.peer (IsAllowedPeer g) → e.is_cut_due ≡ d
    → IsFront d (is_behind e.timing t) e.held buf
    → LogsEnds log e
    → LogsFound n buf log (turn_by d t a buf e)
unfolding LogsFound IsUnheld
turn_logs n buf log g true t a e allowed due front h = ((h.0, tt, h.2), tt)
turn_logs n buf log g false t a e allowed due front h =
    sources_log n buf log g (is_behind e.timing t) t a e allowed due front h

-- octets that come too late are held
taken_logs : (n : ℕ) (buf : List ℕ) (log : Log) (b : Bool) (f : Option SourceEvent) (e : LiveEnds)
    → LogsFound n buf log (f, e)
    → LogsEnds (logged_by (event_at n (taken_by b buf f e).0) buf ++ log) (taken_by b buf f e).1
unfolding LogsFound IsUnheld
taken_logs n buf log false f e h = h.0
taken_logs n buf log true None e h = h.0
taken_logs n buf log true (Some found.Open) e h = h.0
taken_logs n buf log true (Some (found.Bytes len)) e h = (
  h.0.0,
  centre_held e.is_cut_due e.held (take len buf) (centre_in log) (centre_out log) e.connection h.1
      h.0.1,
  h.0.2,
)
taken_logs n buf log true (Some found.Cut) e h = h.0
taken_logs n buf log true (Some (found.Line len)) e h = h.0
taken_logs n buf log true (Some found.Fault) e h = h.0

-- rounds that found nothing
quiet_logs : (n : ℕ) (log : Log) (start : LiveEnds) (first count begun : ℕ) (e : LiveEnds)
    → QuietRounds start first count begun e
    → LogsEnds log start → LogsEnds log e
unfolding LogsFound IsUnheld
quiet_logs n log start first _ _ _ NoRound h = h
quiet_logs n log start first _ _ _ (OneRound count begun now before found buf q t undue) h =
    let Q : Option SourceEvent × LiveEnds → Type 0 = λ p. LogsFound n buf log p in
    let given : LogsFound n buf log (None, found) = subst Q (sym t.turned)
    (turn_logs n buf log before.allow_list before.is_cut_due begun t.answers before t.peer refl
    t.front
    (quiet_logs n log start first count begun before q h)) in
    given.0

looks_log : (n : ℕ) (log : Log) (first : ℕ) (old : LiveEnds) (now : ℕ) (f : Option SourceEvent)
    (buf : List ℕ) (new : LiveEnds)
    → LooksOn first old now f buf new → LogsEnds log old → LogsFound n buf log (f, new)
unfolding LogsFound
looks_log n log first old now f buf new l h =
    let Q : Option SourceEvent × LiveEnds → Type 0 = λ p. LogsFound n buf log p in
    let P : LiveEnds → Type 0 = λ e. LogsFound n buf log (f, e) in
    let found : LogsFound n buf log (f, l.found) = subst Q (sym l.turn.turned)
    (turn_logs n buf log l.before.allow_list l.before.is_cut_due l.begun l.turn.answers l.before
    l.turn.peer refl l.turn.front
    (quiet_logs n log old first l.count l.begun l.before l.quiet h)) in
    subst P (sym l.done) found

turn_logged : (old new : LiveEnds) (event : Next) (buf : List ℕ) (log : Log)
    → Turns old event buf new
    → LogsEnds log old
    → LogsEnds (logged_by event buf ++ log) new
unfolding LogsFound
turn_logged old new event buf log (inl t) h =
    let P : Next → Type 0 = λ e. LogsEnds (logged_by e buf ++ log) new in
    let Q : LiveEnds → Type 0 = λ e. LogsEnds log e in
    subst P (sym t.given.given) (subst Q (sym t.given.ends) h)
turn_logged old new event buf log (inr t) h =
    let n = told_at new.timing (brings_frame t.given.taken buf) t.now in
    let P : Next → Type 0 = λ e. LogsEnds (logged_by e buf ++ log) new in
    let R : Option SourceEvent × LiveEnds
    → Type 0 = λ p. LogsEnds (logged_by (event_at n p.0) buf ++ log)
    p.1 in
    let found = looks_log n log t.first (looking (clock_read_at t.first old)) t.now t.f buf t.found
    t.looks h in
    let taken = taken_logs n buf log (is_behind t.found.timing t.now) t.f t.found found in
    subst P (sym t.given.given) (subst R (sym t.given.ends) taken)

-- what is put out
due_stream : (k i : List ℕ) (o : List (List ℕ)) (octets : List ℕ) (h : StreamHistory)
    → LogsStream true k i o h
    → LogsStream true k i (octets ∷ o) h
due_stream k i o octets None h = tt
due_stream k i o octets (Some before) h =
    (h.0, (octets ∷ h.1.0, h.1.1, ap (λ x. octets ∷ x) h.1.2, h.1.3))

due_any : (k i : List ℕ) (o : List (List ℕ)) (octets : List ℕ) (c : Option Peer)
    → LogsCentre true k i o c
    → LogsCentre true k i (octets ∷ o) c
due_any k i o octets None h = tt
due_any k i o octets (Some peer) h = due_stream k i o octets peer.stream h

written_held : (octets : List ℕ) (taken d : Bool) (c : Option Peer) (e : LiveEnds)
    → (written_open d octets taken c e).held ≡ e.held
written_held octets taken true c e = refl
written_held octets taken false None e = refl
written_held octets taken false (Some peer) e = refl

written_logs : (i : List ℕ) (o : List (List ℕ)) (octets : List ℕ) (taken d : Bool)
    (c : Option Peer) (e : LiveEnds)
    → e.is_cut_due ≡ d → e.connection ≡ c → LogsCentre d e.held i o c
    → LogsCentre (written_open d octets taken c e).is_cut_due e.held i (octets ∷ o)
    (written_open d octets taken c e).connection
written_logs i o octets taken true c e due is h =
    let P : Bool → Type 0 = λ b. LogsCentre b e.held i (octets ∷ o) e.connection in
    let Q : Option Peer → Type 0 = λ k. LogsCentre true e.held i (octets ∷ o) k in
    subst P (sym due) (subst Q (sym is) (due_any e.held i o octets c h))
written_logs i o octets taken false None e due is h =
    let Q : Option Peer → Type 0 = λ k. LogsCentre e.is_cut_due e.held i (octets ∷ o) k in
    subst Q (sym is) tt
written_logs i o octets taken false (Some peer) e due is h =
    stream_wrote e.held i o octets taken peer.stream h

closed_logs : (log : Log) (c : Close) (e : LiveEnds) → LogsEnds log e → LogsEnds log (closed_by c e)
closed_logs log close.Grammar e h = (h.0, tt, h.2)
closed_logs log close.SendNumber e h = (h.0, tt, h.2)
closed_logs log close.ReceiveNumber e h = (h.0, tt, h.2)
closed_logs log close.Stopped e h = (h.0, tt, h.2)
closed_logs log close.Timeout e h = (h.0, tt, h.2)
closed_logs log close.OwnAnswers e h = (h.0, tt, h.2)
closed_logs log close.Replaced e h = h

action_logs : (log : Log) (moment : ℕ) (action : Output) (written : ℕ) (taken : Bool) (late : ℕ)
    (e : LiveEnds)
    → LogsEnds log e
    → LogsEnds (Went moment action ∷ log) (after_action moment action written taken late e)
action_logs log moment (LineOut octets) written taken late e h =
    let dropped = line_dropped (line_in log) (line_out log) late e.line h.0 in (
      line_wrote (line_in log) (line_out log) octets taken (noted e.line (Dropped late)) dropped,
      h.1,
      h.2,
    )
action_logs log moment (TcpOut octets) written taken late e h =
    let P : StreamHistory → Type 0 = λ l. LogsLine (line_in log) (line_out log) l in
    let D : Attempts → Type 0 = λ v. LogsListener (opened_in log) v in
    let after = written_open e.is_cut_due octets taken e.connection e in
    let beside_it : beside after ≡ beside e =
    written_beside e.is_cut_due octets taken e.connection e in
    let K : List ℕ → Type 0 =
    λ k. LogsCentre after.is_cut_due k (centre_in log) (octets ∷ centre_out log)
    after.connection in (
      subst P (sym (ap (λ (x : LiveEnds). x.line) beside_it)) h.0,
      subst K (sym (written_held octets taken e.is_cut_due e.connection e))
          (written_logs (centre_in log) (centre_out log) octets taken e.is_cut_due e.connection e
          refl refl h.1),
      subst D (sym (ap (λ (x : LiveEnds). x.listener) beside_it)) h.2,
    )
action_logs log moment (Closed cause) written taken late e h = closed_logs log cause e h
action_logs log moment (GapOut station session) written taken late e h = h

put_logged : (old new : LiveEnds) (moment : ℕ) (action : Output) (log : Log)
    → PutsOut old moment action new
    → LogsEnds log old → LogsEnds (Went moment action ∷ log) new
put_logged old new moment action log p h =
    let Q : LiveEnds → Type 0 = λ e. LogsEnds (Went moment action ∷ log) e in
    subst Q (sym p.done) (action_logs log moment action p.written p.taken p.late old h)

fresh_logs : (e : LiveEnds) → IsFreshRun e → LogsEnds e.log e
fresh_logs e fresh =
    let P : Log → Type 0 = λ l. LogsEnds l e in
    let Q : Option Peer → Type 0 = λ c. LogsCentre e.is_cut_due e.held [] [] c in
    subst P (sym fresh.log) (
      line_new e.line fresh.line,
      subst Q (sym fresh.connection) tt,
      listener_new e.listener
          fresh.listener,
    )

pub passed : (start end : LiveEnds) → IsFreshRun start → LiveRun start end → LogsEnds end.log end
passed start _ fresh Begun = fresh_logs start fresh
passed start _ fresh (Turned before end event buf run l) =
    let P : Log → Type 0 = λ k. LogsEnds k end in
    subst P (sym l.logged) (turn_logged before (as_logged before.log end) event buf before.log
    l.turns
    (passed start before fresh run))
passed start _ fresh (Put before end moment action run l) =
    let P : Log → Type 0 = λ k. LogsEnds k end in
    subst P (sym l.logged) (put_logged before (as_logged before.log end) moment action before.log
    l.puts
    (passed start before fresh run))
