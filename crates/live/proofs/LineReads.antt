-- A round that found nothing looked at the line.
use Rattle.std.proofs.Common.{◌≡◌, ℕ, true, false, Bool, List, [], ◌∷◌, Option, Some, None, sym, ap}
use Rattle.std.proofs.Common.{refl, subst}
use Rattle.live.specs.Timing.{is_behind, line_looked_at}
use Rattle.live.specs.Ends.{LiveEnds, Peer, Answers, IsTurn, turn_by, sources_by, held_by, look}
use Rattle.live.specs.Ends.{unless_found, next_round, looked_at, after, nothing_more, accepted}
use Rattle.live.specs.Ends.{turned_away}
use Rattle.live.specs.Ends.{of_peer, of_open, of_line, read_from, peer_read}
use Rattle.live.specs.declared.found.SourceEvent.{SourceEvent}
use Rattle.live.specs.declared.source.EventSource.{EventSource}
use Rattle.live.specs.declared.source.EventSource.TheVariants.{Listener, Connection, Line}
use Rattle.live.specs.declared.timing.Timing.{Timing}
use Rattle.live.specs.declared.ends.Got.{Got}
use Rattle.live.specs.declared.ends.Got.TheVariants.{Octets, Quiet, Gone}

IsLineReadBy : (begun : ℕ) → Timing → Option SourceEvent → Timing → Type 0
IsLineReadBy begun k None t = t ≡ line_looked_at begun k
IsLineReadBy begun k (Some f) t = Unit {0}

IsLineRead : (begun : ℕ) → Timing → Option SourceEvent × LiveEnds → Type 0
IsLineRead begun k p = IsLineReadBy begun k p.0 p.1.timing

-- what goes on from ends of this timing
IsLineReadOn : (begun : ℕ) → Timing → Timing → (LiveEnds → Option SourceEvent × LiveEnds) → Type 0
IsLineReadOn begun k t others = (e : LiveEnds) → e.timing ≡ t → IsLineRead begun k (others e)

read_already : (begun : ℕ) (k : Timing) → IsLineReadOn begun k (line_looked_at begun k) nothing_more
unfolding IsLineReadOn IsLineRead IsLineReadBy
read_already begun k e same = same

listener_reads : (begun : ℕ) (k t : Timing) (v : Option Peer) (e : LiveEnds) (others : LiveEnds
    → Option SourceEvent
    × LiveEnds)
    → IsLineReadOn begun k t others → e.timing ≡ t
    → IsLineRead begun k (unless_found (of_peer v) (next_round Listener (of_peer v) (accepted v e))
    others)
unfolding IsLineReadOn IsLineRead IsLineReadBy
listener_reads begun k t None e others on same = on (accepted None e) same
listener_reads begun k t (Some peer) e others on same = tt

connection_reads : (begun : ℕ) (k t : Timing) (c : Option Peer) (got : Got) (buf : List ℕ)
    (e : LiveEnds)
    (others : LiveEnds → Option SourceEvent × LiveEnds) → IsLineReadOn begun k t others → e.timing
    ≡ t
    → IsLineRead begun k (unless_found (of_open c got) (next_round Connection (of_open c got)
    (peer_read c got buf e)) others)
unfolding IsLineReadOn IsLineRead IsLineReadBy
connection_reads begun k t None got buf e others on same = on (record e { connection = None }) same
connection_reads begun k t (Some peer) (Octets len) buf e others on same = tt
connection_reads begun k t (Some peer) Quiet buf e others on same =
    on (record e { connection = read_from (Some peer) Quiet buf }) same
connection_reads begun k t (Some peer) Gone buf e others on same = tt

line_reads : (begun : ℕ) (k : Timing) (got : Got) (e : LiveEnds) (others : LiveEnds
    → Option SourceEvent × LiveEnds)
    → IsLineReadOn begun k (line_looked_at begun k) others → e.timing ≡ line_looked_at begun k
    → IsLineRead begun k (unless_found (of_line got) (next_round Line (of_line got) e) others)
unfolding IsLineReadOn IsLineRead IsLineReadBy
line_reads begun k (Octets len) e others on same = tt
line_reads begun k Quiet e others on same = on e same
line_reads begun k Gone e others on same = tt

at_line : (begun : ℕ) (k : Timing) (a : Answers) (buf : List ℕ) (others : LiveEnds
    → Option SourceEvent
    × LiveEnds)
    → IsLineReadOn begun k (line_looked_at begun k) others
    → IsLineReadOn begun k k (λ e. look Line begun a buf e others)
unfolding IsLineReadOn
at_line begun k a buf others on e same =
    line_reads begun k a.line (looked_at Line begun a buf e) others on
    (ap (line_looked_at begun) same)

at_listener : (begun : ℕ) (k t : Timing) (a : Answers) (buf : List ℕ) (others : LiveEnds
    → Option SourceEvent
    × LiveEnds)
    → IsLineReadOn begun k t others
    → IsLineReadOn begun k t (λ e. look Listener begun a buf e others)
unfolding IsLineReadOn
at_listener begun k t a buf others on e same =
    listener_reads begun k t a.peer (turned_away a.refused e) others on same

at_connection : (begun : ℕ) (k t : Timing) (a : Answers) (buf : List ℕ) (others : LiveEnds
    → Option SourceEvent × LiveEnds)
    → IsLineReadOn begun k t others
    → IsLineReadOn begun k t (λ e. look Connection begun a buf e others)
unfolding IsLineReadOn
at_connection begun k t a buf others on e same =
    connection_reads begun k t e.connection a.connection buf e others on same

-- a round that begins at this source
round_of : EventSource → ℕ → Answers → (buf : List ℕ) → LiveEnds → Option SourceEvent × LiveEnds
round_of s begun a buf e =
    look s begun a buf e
    (λ x. look (after s) begun a buf x (λ y. look (after (after s)) begun a buf y nothing_more))

round_reads : (s : EventSource) (begun : ℕ) (a : Answers) (buf : List ℕ) (e : LiveEnds)
    → IsLineRead begun e.timing (round_of s begun a buf e)
unfolding IsLineReadOn round_of
round_reads Listener begun a buf e =
    let k = e.timing in
    let third = at_line begun k a buf nothing_more (read_already begun k) in
    let second = at_connection begun k k a buf (λ y. look Line begun a buf y nothing_more) third in
    at_listener begun k k a buf
    (λ x. look Connection begun a buf x (λ y. look Line begun a buf y nothing_more)) second e refl
round_reads Connection begun a buf e =
    let k = e.timing in
    let third = at_listener begun k (line_looked_at begun k) a buf nothing_more
    (read_already begun k) in
    let second = at_line begun k a buf (λ y. look Listener begun a buf y nothing_more) third in
    at_connection begun k k a buf
    (λ x. look Line begun a buf x (λ y. look Listener begun a buf y nothing_more)) second e refl
round_reads Line begun a buf e =
    let k = e.timing in
    let third = at_connection begun k (line_looked_at begun k) a buf nothing_more
    (read_already begun k) in
    let second =
    at_listener begun k (line_looked_at begun k) a buf
    (λ y. look Connection begun a buf y nothing_more)
    third in
    at_line begun k a buf
    (λ x. look Listener begun a buf x (λ y. look Connection begun a buf y nothing_more)) second e
    refl

held_reads : (held : List ℕ) (begun : ℕ) (a : Answers) (buf : List ℕ) (e : LiveEnds)
    → IsLineRead begun e.timing (held_by held begun a buf e)
unfolding IsLineRead IsLineReadBy round_of
held_reads [] begun a buf e = round_reads e.first begun a buf e
held_reads (octet ∷ octets) begun a buf e = tt

sources_read : (b : Bool) (begun : ℕ) (a : Answers) (buf : List ℕ) (e : LiveEnds)
    → IsLineRead begun e.timing (sources_by b begun a buf e)
unfolding IsLineReadOn
sources_read true begun a buf e =
    at_line begun e.timing a buf nothing_more (read_already begun e.timing) e refl
sources_read false begun a buf e = held_reads e.held begun a buf e

turn_reads : (d : Bool) (begun : ℕ) (a : Answers) (buf : List ℕ) (e : LiveEnds)
    → IsLineRead begun e.timing (turn_by d begun a buf e)
unfolding IsLineRead IsLineReadBy
turn_reads true begun a buf e = tt
turn_reads false begun a buf e = sources_read (is_behind e.timing begun) begun a buf e

pub quiet_reads : (begun : ℕ) (e n : LiveEnds) (buf : List ℕ) → IsTurn begun e None buf n
    → n.timing ≡ line_looked_at begun e.timing
unfolding IsLineRead IsLineReadBy
quiet_reads begun e n buf t =
    let P : Option SourceEvent × LiveEnds → Type 0 = λ p. IsLineRead begun e.timing p in
    subst P (sym t.turned) (turn_reads e.is_cut_due begun t.answers buf e)
