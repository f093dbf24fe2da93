-- The moments that events, requests and looks at the line bear are those of the clock.
use Rattle.std.proofs.Common.{◌≡◌, ℕ, ◌+◌, ◌-◌, ◌<◌, ◌≤◌, ◌⊎◌, true, false, Bool, List, [], ◌∷◌}
use Rattle.std.proofs.Common.{Option, Some, None, refl, sym, ap, subst, arith, if◌then◌else◌, ◌∙◌}
use Rattle.std.proofs.Common.{inl, inr}
use Rattle.gateway.specs.Log.{Output, LineOut, TcpOut, Closed, GapOut}
use Rattle.gateway.specs.declared.ports.Next.{Next}
use Rattle.live.specs.Timing.{Moments, moment_at, moment_by, is_waited_out, goes_on, eve}
use Rattle.live.specs.Timing.{line_looked_at, is_behind, told_at}
use Rattle.live.specs.Ends.{brings_frame}
use Rattle.live.specs.Walls.{is_wall}
use Rattle.live.specs.Law.{AtMoment, AtClock, AtRounds, AsksNothing, IsEve, IsOneOf}
use Rattle.live.specs.Ends.{LiveEnds, Peer, Answers, IsTurn}
use Rattle.live.specs.Ends.{Turns, LogsTurn, LogsPut, as_logged}
use Rattle.live.specs.Ends.{turn_by, sources_by, held_by, round}
use Rattle.live.specs.Ends.{look, unless_found, next_round, looked_at, found_at, after}
use Rattle.live.specs.Ends.{nothing_more, accepted, turned_away}
use Rattle.live.proofs.Apart.{walled_of}
use Rattle.live.proofs.Beside.{action_beside, written_beside, closed_beside}
use Rattle.live.proofs.Law.{at_moment, at_clock, clock_read}
use Rattle.live.proofs.Ticks.{at_rounds, looked_timing, wall_of as no_wall_of}
use Rattle.live.proofs.Walls.{of_ends}
use Rattle.live.specs.declared.found.SourceEvent.{SourceEvent}
use Rattle.live.specs.declared.source.EventSource.{EventSource}
use Rattle.live.specs.declared.source.EventSource.TheVariants.{Listener, Connection, Line}
use Rattle.live.specs.declared.timing.Timing.{Timing}
use Rattle.live.specs.declared.timing.WrittenRequest.{WrittenRequest}

given_by : (old new : LiveEnds) (event : Next) (buf : List ℕ) → Turns old event buf new
    → is_wall event ≡ true → AtClock new.clock (λ now. new.walled.given ≡ Some now)
given_by old new event buf (inl t) wall =
    let clock = ap (λ (e : LiveEnds). e.clock) t.given.ends in
    let given = ap (λ (e : LiveEnds). e.walled.given) t.given.ends in
    let C : Moments → Type 0 = λ c. AtClock c (λ now. new.walled.given ≡ Some now) in
    subst C (sym clock) (at_clock old.clock t.begun (λ now. new.walled.given ≡ Some now) given)
given_by old new event buf (inr t) wall =
    let no : false ≡ true = sym (of_ends old new event buf t) ∙ wall in absurd (cc)

pub given : (old new : LiveEnds) (event : Next) (buf : List ℕ) → LogsTurn old event buf new
    → is_wall event ≡ true → AtClock new.clock (λ now. new.walled.given ≡ Some now)
given old new event buf l wall = given_by old (as_logged old.log new) event buf l.turns wall

pub put_walled : (old new : LiveEnds) (moment : ℕ) (action : Output)
    → LogsPut old moment action new → new.walled ≡ old.walled
put_walled old new moment action l =
    ap walled_of l.puts.done
    ∙ action_beside walled_of (λ e. refl) (λ moment octets written taken late e. refl) moment action
    l.puts.written l.puts.taken l.puts.late old

-- the moment of an event
eve_by : (h g : Bool) (t : Timing) (r : WrittenRequest) (now : ℕ) → is_waited_out t r ≡ h
    → goes_on t r now ≡ g
    → let m = if h then now else (if g then now else eve t r) in
    (m ≡ now) ⊎ IsEve t (Some r) m now
eve_by true g t r now looked on = inl refl
eve_by false true t r now looked on = inl refl
eve_by false false t r now looked on =
    let soon : t.looked - r.written < t.answer_ms = grind (arith, looked) in
    let some : 0 < t.answer_ms = omega (arith, soon) in
    let over : t.answer_ms ≤ now - r.moment = grind (arith, on) in
    let late : r.moment + t.answer_ms ≤ now = omega (arith, some, over) in
    let last : eve t r + 1 ≡ r.moment + t.answer_ms = omega (arith, some) in
    inr (soon, late, last)

held_at : (t : Timing) (q : Option WrittenRequest) (now : ℕ)
    → (moment_by t q now ≡ now) ⊎ IsEve t q (moment_by t q now) now
held_at t None now = inl refl
held_at t (Some r) now = eve_by (is_waited_out t r) (goes_on t r now) t r now refl refl

told_by : (b : Bool) (t : Timing) (now : ℕ) → let m = if b then now else moment_at t now in
    (m ≡ now) ⊎ IsEve t t.request m now
told_by true t now = inl refl
told_by false t now = held_at t t.request now

told : (g : Bool) (t : Timing) (now : ℕ)
    → (told_at t g now ≡ now) ⊎ IsEve t t.request (told_at t g now) now
told true t now = told_by (is_behind t now) t now
told false t now = held_at t t.request now

held_by_turn : (old new : LiveEnds) (event : Next) (buf : List ℕ) → Turns old event buf new
    → AtMoment event (λ moment. AtClock new.clock (λ now.
    (moment ≡ now) ⊎ IsEve new.timing new.timing.request moment now))
held_by_turn old new event buf (inl t) =
    let P : Next → Type 0 = λ e. AtMoment e (λ moment. AtClock new.clock (λ now.
    (moment ≡ now) ⊎ IsEve new.timing new.timing.request moment now)) in
    let m = moment_at old.timing t.begun in
    let C : Moments → Type 0 =
    λ c. AtClock c (λ now. (m ≡ now) ⊎ IsEve new.timing new.timing.request m now) in
    let same : new.timing ≡ old.timing = ap (λ (e : LiveEnds). e.timing) t.given.ends in
    let T : Timing → Type 0 = λ k. (m ≡ t.begun) ⊎ IsEve k k.request m t.begun in
    let clock = ap (λ (e : LiveEnds). e.clock) t.given.ends in
    subst P (sym t.given.given) (subst C (sym clock) (at_clock old.clock t.begun
    (λ now. (m ≡ now) ⊎ IsEve new.timing new.timing.request m now)
    (subst T (sym same) (held_at old.timing old.timing.request t.begun))))
held_by_turn old new event buf (inr t) =
    let m = told_at new.timing (brings_frame t.given.taken buf) t.now in
    let P : Next → Type 0 = λ e. AtMoment e (λ moment. AtClock new.clock (λ now.
    (moment ≡ now) ⊎ IsEve new.timing new.timing.request moment now)) in
    let C : Moments → Type 0 =
    λ c. AtClock c (λ now. (m ≡ now) ⊎ IsEve new.timing new.timing.request m now) in
    let clock = clock_read t.now (is_behind t.found.timing t.now) buf t.f t.looks.found t.found new
    t.given.taken
    t.looks.done t.given.ends in
    subst P (sym t.given.given) (at_moment m t.given.taken (λ moment. AtClock new.clock (λ now.
    (moment ≡ now) ⊎ IsEve new.timing new.timing.request moment now))
    (subst C (sym clock) (at_clock t.looks.found.clock t.now
    (λ now. (m ≡ now) ⊎ IsEve new.timing new.timing.request m now)
    (told (brings_frame t.given.taken buf) new.timing t.now))))

pub held : (old new : LiveEnds) (event : Next) (buf : List ℕ) → LogsTurn old event buf new
    → AtMoment event (λ moment. AtClock new.clock (λ now.
    (moment ≡ now) ⊎ IsEve new.timing new.timing.request moment now))
held old new event buf l = held_by_turn old (as_logged old.log new) event buf l.turns

pub others : (old new : LiveEnds) (moment : ℕ) (action : Output) → LogsPut old moment action new
    → AsksNothing action → new.timing ≡ old.timing
others old new moment (LineOut octets) l asks = absurd (asks)
others old new moment (TcpOut octets) l asks =
    ap (λ (e : LiveEnds). e.timing) l.puts.done
    ∙ ap (λ (e : LiveEnds). e.timing)
    (written_beside old.is_cut_due octets l.puts.taken old.connection old)
others old new moment (Closed cause) l asks =
    ap (λ (e : LiveEnds). e.timing) l.puts.done
    ∙ ap (λ (e : LiveEnds). e.timing) (closed_beside cause old)
others old new moment (GapOut station session) l asks =
    ap (λ (e : LiveEnds). e.timing) l.puts.done

-- one look, and what goes on from it, reads the line at this moment or leaves the timing as it was
Reads : Timing → (begun : ℕ) → Timing → Type 0
Reads k begun t = (t ≡ k) ⊎ (t ≡ line_looked_at begun k)

reads_again : (k : Timing) (begun : ℕ) (t : Timing) → Reads k begun t
    → Reads k begun (line_looked_at begun t)
unfolding Reads
reads_again k begun t (inl same) = inr (ap (line_looked_at begun) same)
reads_again k begun t (inr read) = inr (ap (line_looked_at begun) read)

accepted_reads : (k : Timing) (b : ℕ) (v : Option Peer) (e : LiveEnds) → Reads k b e.timing
    → Reads k b (accepted v e).timing
accepted_reads k b None e h = h
accepted_reads k b (Some peer) e h = h

looked_reads : (k : Timing) (s : EventSource) (b : ℕ) (a : Answers) (buf : List ℕ) (e : LiveEnds)
    → Reads k b e.timing → Reads k b (looked_at s b a buf e).timing
looked_reads k Listener b a buf e h =
    accepted_reads k b a.peer (turned_away a.refused e) h
looked_reads k Connection b a buf e h = h
looked_reads k Line b a buf e h = reads_again k b e.timing h

next_reads : (k : Timing) (b : ℕ) (s : EventSource) (f : Option SourceEvent) (e : LiveEnds)
    → Reads k b e.timing → Reads k b (next_round s f e).timing
next_reads k b s None e h = h
next_reads k b s (Some f) e h = h

ReadsOn : Timing → ℕ → (LiveEnds → Option SourceEvent × LiveEnds) → Type 0
ReadsOn k b others = (e : LiveEnds) → Reads k b e.timing → Reads k b (others e).1.timing

unless_reads : (k : Timing) (b : ℕ) (f : Option SourceEvent) (e : LiveEnds)
    (others : LiveEnds → Option SourceEvent × LiveEnds)
    → Reads k b e.timing → ReadsOn k b others → Reads k b (unless_found f e others).1.timing
unfolding ReadsOn
unless_reads k b None e others h on = on e h
unless_reads k b (Some f) e others h on = h

look_reads : (k : Timing) (s : EventSource) (b : ℕ) (a : Answers) (buf : List ℕ)
    (others : LiveEnds → Option SourceEvent × LiveEnds) → ReadsOn k b others
    → ReadsOn k b (λ e. look s b a buf e others)
unfolding ReadsOn
look_reads k s b a buf others on e h =
    let f = found_at s a e in
    unless_reads k b f (next_round s f (looked_at s b a buf e)) others
    (next_reads k b s f (looked_at s b a buf e) (looked_reads k s b a buf e h)) on

nothing_reads : (k : Timing) (b : ℕ) → ReadsOn k b nothing_more
unfolding ReadsOn
nothing_reads k b e h = h

round_reads : (k : Timing) (b : ℕ) (a : Answers) (buf : List ℕ) (e : LiveEnds)
    → Reads k b e.timing → Reads k b (round b a buf e).1.timing
unfolding ReadsOn
round_reads k b a buf e h =
    let third = look_reads k (after (after e.first)) b a buf nothing_more (nothing_reads k b) in
    let second = look_reads k (after e.first) b a buf
    (λ x. look (after (after e.first)) b a buf x nothing_more) third in
    look_reads k e.first b a buf
    (λ x. look (after e.first) b a buf x (λ y. look (after (after e.first)) b a buf y nothing_more))
    second e h

held_reads : (k : Timing) (held : List ℕ) (b : ℕ) (a : Answers) (buf : List ℕ) (e : LiveEnds)
    → Reads k b e.timing → Reads k b (held_by held b a buf e).1.timing
held_reads k [] b a buf e h = round_reads k b a buf e h
held_reads k (octet ∷ octets) b a buf e h = h

sources_reads : (k : Timing) (d : Bool) (b : ℕ) (a : Answers) (buf : List ℕ) (e : LiveEnds)
    → Reads k b e.timing → Reads k b (sources_by d b a buf e).1.timing
unfolding ReadsOn
sources_reads k true b a buf e h = look_reads k Line b a buf nothing_more (nothing_reads k b) e h
sources_reads k false b a buf e h = held_reads k e.held b a buf e h

turn_reads : (k : Timing) (d : Bool) (b : ℕ) (a : Answers) (buf : List ℕ) (e : LiveEnds)
    → Reads k b e.timing → Reads k b (turn_by d b a buf e).1.timing
turn_reads k true b a buf e h = h
turn_reads k false b a buf e h = sources_reads k (is_behind e.timing b) b a buf e h

one_reads : (b : ℕ) (e n : LiveEnds) (f : Option SourceEvent) (buf : List ℕ)
    → IsTurn b e f buf n → Reads e.timing b n.timing
unfolding Reads
one_reads b e n f buf t =
    let Q : Option SourceEvent × LiveEnds → Type 0 = λ p. Reads e.timing b p.1.timing in
    subst Q (sym t.turned) (turn_reads e.timing e.is_cut_due b t.answers buf e (inl refl))

-- when the line was looked at last, behind the last round
last_looked : (old begun : ℕ) (quiet : List ℕ) (k t : Timing)
    → (k.looked ≡ old) ⊎ IsOneOf quiet k.looked → Reads k begun t
    → (t.looked ≡ old) ⊎ IsOneOf (begun ∷ quiet) t.looked
unfolding Reads
last_looked old begun quiet k t (inl was) (inl same) =
    inl (ap (λ (k : Timing). k.looked) same ∙ was)
last_looked old begun quiet k t (inr was) (inl same) =
    let P : ℕ → Type 0 = λ n. IsOneOf quiet n in
    inr (inr (subst P (sym (ap (λ (k : Timing). k.looked) same)) was))
last_looked old begun quiet k t was (inr read) =
    inr (inl (ap (λ (k : Timing). k.looked) read))

looks_by : (old new : LiveEnds) (event : Next) (buf : List ℕ) → Turns old event buf new
    → is_wall event ≡ false → AtRounds old.clock new.clock (λ begun quiet now.
    (new.timing.looked ≡ old.timing.looked) ⊎ IsOneOf (begun ∷ quiet) new.timing.looked)
looks_by old new event buf (inl t) dark =
    let wrong : true ≡ false = no_wall_of old event new t dark in absurd (cc)
looks_by old new event buf (inr t) dark =
    at_rounds old event buf new t (λ begun quiet now.
    (new.timing.looked ≡ old.timing.looked) ⊎ IsOneOf (begun ∷ quiet) new.timing.looked)
    (λ before b. let P : Timing → Type 0 =
    λ k. (k.looked ≡ old.timing.looked) ⊎ IsOneOf (t.looks.begun ∷ b.quiet) k.looked in
    subst P (sym (looked_timing old event buf new t))
    (last_looked old.timing.looked t.looks.begun b.quiet t.looks.before.timing
    t.looks.found.timing b.looked
    (one_reads t.looks.begun t.looks.before t.looks.found t.f buf t.looks.turn)))

pub looks : (old new : LiveEnds) (event : Next) (buf : List ℕ) → LogsTurn old event buf new
    → is_wall event ≡ false → AtRounds old.clock new.clock (λ begun quiet now.
    (new.timing.looked ≡ old.timing.looked) ⊎ IsOneOf (begun ∷ quiet) new.timing.looked)
looks old new event buf l dark = looks_by old (as_logged old.log new) event buf l.turns dark

still_by : (old new : LiveEnds) (event : Next) (buf : List ℕ) → Turns old event buf new
    → is_wall event ≡ true → new.timing ≡ old.timing
still_by old new event buf (inl t) wall = ap (λ (e : LiveEnds). e.timing) t.given.ends
still_by old new event buf (inr t) wall =
    let no : false ≡ true = sym (of_ends old new event buf t) ∙ wall in absurd (cc)

pub still : (old new : LiveEnds) (event : Next) (buf : List ℕ) → LogsTurn old event buf new
    → is_wall event ≡ true → new.timing ≡ old.timing
still old new event buf l wall = still_by old (as_logged old.log new) event buf l.turns wall
