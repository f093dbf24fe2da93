-- Only allowed addresses connect.
use Rattle.std.proofs.Common.{◌≡◌, ℕ, true, false, Bool, List, [], ◌∷◌, Option, Some, None, IfSome}
use Rattle.std.proofs.Common.{option_map, refl, sym, ap, subst, inl, inr, ◌∙◌}
use Rattle.std.specs.declared.net.ip_addr.IpAddr.{IpAddr}
use Rattle.gateway.specs.Log.{Log, Output, LineOut, TcpOut, Closed, GapOut}
use Rattle.session.specs.declared.kinds.Close.TheVariants as close
use Rattle.gateway.specs.declared.ports.Next.{Next}
use Rattle.gateway.specs.declared.ports.Next.TheVariants as next
use Rattle.live.specs.Timing.{is_behind, told_at}
use Rattle.live.specs.Ends.{brings_frame}
use Rattle.live.specs.Ends.{LiveEnds, Peer, IsAllowedPeer, Answers, QuietRounds, NoRound, OneRound}
use Rattle.live.specs.Ends.{LooksOn}
use Rattle.live.specs.Ends.{Turns, LogsTurn, as_logged, looking, event_at, taken_by, clock_read_at}
use Rattle.live.specs.Ends.{turn_by, sources_by, held_by, round, look, unless_found, next_round}
use Rattle.live.specs.Ends.{looked_at, after, nothing_more, accepted, of_peer, of_open, of_line}
use Rattle.live.specs.Ends.{turned_away}
use Rattle.live.specs.Ends.{read_from, peer_read, written_open, LogsPut}
use Rattle.live.specs.Cuts.{shuts_nothing}
use Rattle.live.specs.Law.{IsOfAllowedPeer, peer_of, KeepsOut}
use Rattle.live.proofs.Apart.{allow_list_of}
use Rattle.live.proofs.Rounds.{allow_list_aside, quiet_kept}
use Rattle.live.specs.declared.found.SourceEvent.{SourceEvent}
use Rattle.live.specs.declared.found.SourceEvent.TheVariants as found
use Rattle.live.specs.declared.allow_list.AllowList.{AllowList}
use Rattle.live.specs.declared.source.EventSource.{EventSource}
use Rattle.live.specs.declared.source.EventSource.TheVariants.{Listener, Connection, Line}
use Rattle.live.specs.declared.ends.Got.{Got}
use Rattle.live.specs.declared.ends.Got.TheVariants.{Octets, Quiet, Gone}

-- the connection of this address is open still, or none still is
abbrev pub IsSame : (before : Option IpAddr) → Option Peer → Type 0
IsSame before connection = option_map (λ (p : Peer). p.address) connection ≡ before

-- what was found, and the connection after it
IsKeptOut : AllowList → Option IpAddr → Option SourceEvent → Option Peer → Type 0
IsKeptOut allow_list before None connection = IsSame before connection
IsKeptOut allow_list before (Some found.Open) connection = IsOfAllowedPeer allow_list connection
IsKeptOut allow_list before (Some (found.Bytes len)) connection = IsSame before connection
IsKeptOut allow_list before (Some found.Cut) connection = connection ≡ None
IsKeptOut allow_list before (Some (found.Line len)) connection = IsSame before connection
IsKeptOut allow_list before (Some found.Fault) connection = IsSame before connection

Out : AllowList → Option IpAddr → Option SourceEvent × LiveEnds → Type 0
Out allow_list before p = IsKeptOut allow_list before p.0 p.1.connection

-- what goes on from ends that kept them out does so
KeepsOn : AllowList → Option IpAddr → (LiveEnds → Option SourceEvent × LiveEnds) → Type 0
KeepsOn allow_list before others = (e : LiveEnds) → IsSame before e.connection
    → Out allow_list before (others e)

nothing_out : (g : AllowList) (b : Option IpAddr) → KeepsOn g b nothing_more
unfolding KeepsOn Out IsKeptOut
nothing_out g b e h = h

at_listener : (g : AllowList) (b : Option IpAddr) (v : Option Peer) (e : LiveEnds)
    (others : LiveEnds
    → Option SourceEvent × LiveEnds)
    → KeepsOn g b others → IfSome v (IsAllowedPeer g) → IsSame b e.connection →
    Out g b (unless_found (of_peer v) (next_round Listener (of_peer v) (accepted v e)) others)
unfolding KeepsOn Out IsKeptOut
at_listener g b None e others on allowed h = on (accepted None e) h
at_listener g b (Some peer) e others on allowed h = allowed.allows

at_connection : (g : AllowList) (b : Option IpAddr) (c : Option Peer) (got : Got) (buf : List ℕ)
    (e : LiveEnds) (others : LiveEnds
    → Option SourceEvent × LiveEnds) → KeepsOn g b others → IsSame b c →
    Out g b (unless_found (of_open c got) (next_round Connection (of_open c got)
    (peer_read c got buf e)) others)
unfolding KeepsOn Out IsKeptOut
at_connection g b None got buf e others on h = on (record e { connection = None }) h
at_connection g b (Some peer) (Octets len) buf e others on h = h
at_connection g b (Some peer) Quiet buf e others on h =
    on (record e { connection = read_from (Some peer) Quiet buf }) h
at_connection g b (Some peer) Gone buf e others on h = refl

at_line : (g : AllowList) (b : Option IpAddr) (got : Got) (e : LiveEnds) (others : LiveEnds
    → Option SourceEvent
    × LiveEnds)
    → KeepsOn g b others → IsSame b e.connection →
    Out g b (unless_found (of_line got) (next_round Line (of_line got) e) others)
unfolding KeepsOn Out IsKeptOut
at_line g b (Octets len) e others on h = h
at_line g b Quiet e others on h = on e h
at_line g b Gone e others on h = h

look_out : (g : AllowList) (b : Option IpAddr) (s : EventSource) (t : ℕ) (a : Answers)
    (buf : List ℕ)
    (others : LiveEnds
    → Option SourceEvent × LiveEnds)
    → IfSome a.peer (IsAllowedPeer g) → KeepsOn g b others
    → KeepsOn g b (λ e. look s t a buf e others)
unfolding KeepsOn
look_out g b Listener t a buf others allowed on e h =
    at_listener g b a.peer (turned_away a.refused e) others on allowed h
look_out g b Connection t a buf others allowed on e h = at_connection g b e.connection a.connection
    buf e others on h
look_out g b Line t a buf others allowed on e h = at_line g b a.line (looked_at Line t a buf e)
    others
    on h

round_out : (g : AllowList) (b : Option IpAddr) (t : ℕ) (a : Answers) (buf : List ℕ) (e : LiveEnds)
    → IfSome a.peer (IsAllowedPeer g)
    → IsSame b e.connection → Out g b (round t a buf e)
unfolding KeepsOn
round_out g b t a buf e allowed h =
    let third = look_out g b (after (after e.first)) t a buf nothing_more allowed
    (nothing_out g b) in
    let second = look_out g b (after e.first) t a buf
    (λ x. look (after (after e.first)) t a buf x nothing_more) allowed third in
    look_out g b e.first t a buf
    (λ x. look (after e.first) t a buf x (λ y. look (after (after e.first)) t a buf y nothing_more))
    allowed second e h

held_out : (g : AllowList) (b : Option IpAddr) (h : List ℕ) (t : ℕ) (a : Answers) (buf : List ℕ)
    (e : LiveEnds)
    → IfSome a.peer (IsAllowedPeer g) → IsSame b e.connection → Out g b (held_by h t a buf e)
unfolding Out IsKeptOut
held_out g b [] t a buf e allowed h = round_out g b t a buf e allowed h
held_out g b (octet ∷ octets) t a buf e allowed h = h

sources_out : (g : AllowList) (b : Option IpAddr) (is_late : Bool) (t : ℕ) (a : Answers)
    (buf : List ℕ)
    (e : LiveEnds)
    → IfSome a.peer (IsAllowedPeer g) → IsSame b e.connection
    → Out g b (sources_by is_late t a buf e)
unfolding KeepsOn
sources_out g b true t a buf e allowed h = look_out g b Line t a buf nothing_more allowed
    (nothing_out g b) e h
sources_out g b false t a buf e allowed h = held_out g b e.held t a buf e allowed h

turn_out : (g : AllowList) (b : Option IpAddr) (is_due : Bool) (t : ℕ) (a : Answers) (buf : List ℕ)
    (e : LiveEnds)
    → IfSome a.peer (IsAllowedPeer g) → IsSame b e.connection
    → Out g b (turn_by is_due t a buf e)
unfolding Out IsKeptOut
turn_out g b true t a buf e allowed h = refl
turn_out g b false t a buf e allowed h = sources_out g b (is_behind e.timing t) t a buf e allowed h

taken_out : (g : AllowList) (b : Option IpAddr) (is_late : Bool) (buf : List ℕ)
    (f : Option SourceEvent)
    (e : LiveEnds)
    → IsKeptOut g b f e.connection → Out g b (taken_by is_late buf f e)
unfolding Out IsKeptOut
taken_out g b false buf f e h = h
taken_out g b true buf None e h = h
taken_out g b true buf (Some found.Open) e h = h
taken_out g b true buf (Some (found.Bytes len)) e h = h
taken_out g b true buf (Some found.Cut) e h = h
taken_out g b true buf (Some (found.Line len)) e h = h
taken_out g b true buf (Some found.Fault) e h = h

given_out : (old new : LiveEnds) (now : ℕ) (f : Option SourceEvent)
    → IsKeptOut old.allow_list (peer_of old) f new.connection
    → KeepsOut old (event_at now f) new
unfolding IsKeptOut
given_out old new now None h = h
given_out old new now (Some found.Open) h = h
given_out old new now (Some (found.Bytes len)) h = h
given_out old new now (Some found.Cut) h = h
given_out old new now (Some (found.Line len)) h = h
given_out old new now (Some found.Fault) h = h

-- rounds that found nothing leave the connection
quiet_out : (b : Option IpAddr) (start : LiveEnds) (first count begun : ℕ) (e : LiveEnds)
    → QuietRounds start first count begun e
    → IsSame b start.connection → IsSame b e.connection
unfolding Out IsKeptOut
quiet_out b start first _ _ _ NoRound h = h
quiet_out b start first _ _ _ (OneRound count begun now before found buf q t undue) h =
    let Q : Option SourceEvent × LiveEnds → Type 0 = λ p. Out before.allow_list b p in
    subst Q (sym t.turned) (turn_out before.allow_list b before.is_cut_due begun t.answers buf
    before
    t.peer
    (quiet_out b start first count begun before q h))

looks_out : (b : Option IpAddr) (first : ℕ) (old : LiveEnds) (now : ℕ) (f : Option SourceEvent)
    (buf : List ℕ)
    (new : LiveEnds)
    → LooksOn first old now f buf new → IsSame b old.connection
    → IsKeptOut old.allow_list b f new.connection
unfolding Out
looks_out b first old now f buf new l h =
    let Q : Option SourceEvent × LiveEnds → Type 0 = λ p. Out l.before.allow_list b p in
    let G : AllowList → Type 0 = λ g. IsKeptOut g b f l.found.connection in
    let P : LiveEnds → Type 0 = λ e. IsKeptOut old.allow_list b f e.connection in
    let same = quiet_kept allow_list_of allow_list_aside old first l.count l.begun l.before
    l.quiet in
    let turned = turn_out l.before.allow_list b l.before.is_cut_due l.begun l.turn.answers buf
    l.before
    l.turn.peer
    (quiet_out b old first l.count l.begun l.before l.quiet h) in
    let found : IsKeptOut l.before.allow_list b f l.found.connection =
    subst Q (sym l.turn.turned) turned in
    subst P (sym l.done) (subst G same found)

kept_out_by : (old new : LiveEnds) (event : Next) (buf : List ℕ) → Turns old event buf new
    → KeepsOut old event new
unfolding Out
kept_out_by old new event buf (inl t) =
    let P : Next → Type 0 = λ e. KeepsOut old e new in
    subst P (sym t.given.given) (ap peer_of t.given.ends)
kept_out_by old new event buf (inr t) =
    let Q : Option SourceEvent × LiveEnds → Type 0 = λ p. Out old.allow_list (peer_of old) p in
    let P : Next → Type 0 = λ e. KeepsOut old e new in
    let found = looks_out (peer_of old) t.first (looking (clock_read_at t.first old)) t.now t.f buf
    t.found t.looks
    refl in
    let taken = taken_out old.allow_list (peer_of old) (is_behind t.found.timing t.now) buf t.f
    t.found
    found in
    let given : IsKeptOut old.allow_list (peer_of old) t.given.taken new.connection =
    subst Q (sym t.given.ends) taken in
    let n = told_at new.timing (brings_frame t.given.taken buf) t.now in
    subst P (sym t.given.given) (given_out old new n t.given.taken given)

-- the log is no matter
logged_out : (log : Log) (old new : LiveEnds) (event : Next)
    → KeepsOut old event (as_logged log new)
    → KeepsOut old event new
logged_out log old new (next.Line now len) h = h
logged_out log old new (next.Open now) h = h
logged_out log old new (next.Bytes now len) h = h
logged_out log old new (next.Cut now) h = h
logged_out log old new (next.Tick now) h = h
logged_out log old new (next.Wall now number) h = h
logged_out log old new next.Done h = h
logged_out log old new next.Fault h = h

pub kept_out : (old new : LiveEnds) (event : Next) (buf : List ℕ) → LogsTurn old event buf new
    → KeepsOut old event new
kept_out old new event buf l =
    logged_out old.log old new event (kept_out_by old (as_logged old.log new) event buf l.turns)

-- an action that shuts nothing leaves it
written_out : (d : Bool) (octets : List ℕ) (taken : Bool) (c : Option Peer) (e : LiveEnds)
    → e.connection ≡ c → peer_of (written_open d octets taken c e) ≡ peer_of e
written_out true octets taken c e is = refl
written_out false octets taken None e is = refl
written_out false octets taken (Some peer) e is =
    sym (ap (option_map (λ (p : Peer). p.address)) is)

pub put_out : (old new : LiveEnds) (moment : ℕ) (action : Output) → LogsPut old moment action new
    → shuts_nothing action ≡ true → peer_of new ≡ peer_of old
put_out old new moment (LineOut octets) l stays = ap peer_of l.puts.done
put_out old new moment (TcpOut octets) l stays =
    ap peer_of l.puts.done
    ∙ written_out old.is_cut_due octets l.puts.taken old.connection old refl
put_out old new moment (Closed close.Replaced) l stays = ap peer_of l.puts.done
put_out old new moment (Closed close.Grammar) l stays = absurd (cc)
put_out old new moment (Closed close.SendNumber) l stays = absurd (cc)
put_out old new moment (Closed close.ReceiveNumber) l stays = absurd (cc)
put_out old new moment (Closed close.Stopped) l stays = absurd (cc)
put_out old new moment (Closed close.Timeout) l stays = absurd (cc)
put_out old new moment (Closed close.OwnAnswers) l stays = absurd (cc)
put_out old new moment (GapOut station session) l stays = ap peer_of l.puts.done
