-- The laws of the port over live ends.
use Rattle.std.proofs.Common.{◌≡◌, ℕ, ◌+◌, ◌-◌, ◌<◌, ◌≤◌, true, false, Bool, List, [], ◌∷◌, Option}
use Rattle.std.proofs.Common.{Some, None, refl, sym, ap, subst, arith, nat_lt, if◌then◌else◌, ◌∙◌}
use Rattle.std.proofs.Common.{inl, inr, ◌⊎◌, take}
use Rattle.gateway.specs.declared.ports.Next.{Next}
use Rattle.live.specs.Timing.{Moments, read_at, moment_at, moment_by, is_waited_out, goes_on}
use Rattle.live.specs.Timing.{is_behind, eve, told_at}
use Rattle.live.specs.Ends.{LiveEnds, Peer, Answers, IsTurn, QuietRounds, NoRound, OneRound}
use Rattle.live.specs.Ends.{LooksOn, brings_frame}
use Rattle.live.specs.Streams.{ends_frame}
use Rattle.live.specs.Ends.{Turns, LogsTurn, as_logged, looking, event_at, taken_by, clock_read_at}
use Rattle.live.specs.Ends.{turn_by, sources_by, held_by, round, look, unless_found, next_round}
use Rattle.live.specs.Ends.{looked_at, found_at, after, nothing_more, accepted, turned_away}
use Rattle.live.proofs.Apart.{clock_of, clock_apart, taken_same}
use Rattle.live.specs.declared.source.EventSource.{EventSource}
use Rattle.live.specs.declared.source.EventSource.TheVariants.{Listener, Connection, Line}
use Rattle.live.specs.Law.{AtMoment, AtBytes, AtClock, is_frame}
use Rattle.live.specs.declared.found.SourceEvent.{SourceEvent}
use Rattle.live.specs.declared.found.SourceEvent.TheVariants as found
use Rattle.live.specs.declared.timing.Timing.{Timing}
use Rattle.live.specs.declared.timing.WrittenRequest.{WrittenRequest}

-- an event has the moment that it is given
pub at_moment : (now : ℕ) (f : Option SourceEvent) (Holds : ℕ → Type 0) → Holds now
    → AtMoment (event_at now f) Holds
at_moment now None Holds h = h
at_moment now (Some found.Open) Holds h = h
at_moment now (Some (found.Bytes len)) Holds h = h
at_moment now (Some found.Cut) Holds h = h
at_moment now (Some (found.Line len)) Holds h = h
at_moment now (Some found.Fault) Holds h = tt

-- by whether the line is waited out, and whether the exchange goes on
waited_by : (h g : Bool) (t : Timing) (r : WrittenRequest) (now : ℕ) → is_waited_out t r ≡ h
    → goes_on t r now ≡ g
    → 0 < t.answer_ms →
    r.moment + t.answer_ms ≤ (if h then now else (if g then now else eve t r)) → t.answer_ms
    ≤ t.looked - r.written
waited_by true g t r now looked on some late = grind (arith, looked)
waited_by false true t r now looked on some late = grind (arith, on)
waited_by false false t r now looked on some late = omega (arith, some, late)

by_request : (t : Timing) (q : Option WrittenRequest) (r : WrittenRequest) (now : ℕ) → q ≡ Some r
    → 0 < t.answer_ms
    → r.moment + t.answer_ms ≤ moment_by t q now → t.answer_ms ≤ t.looked - r.written
by_request t q r now asked some late = waited_by (is_waited_out t r) (goes_on t r now) t r now refl
    refl some
    (let P : Option WrittenRequest → Type 0 = λ q. r.moment + t.answer_ms ≤ moment_by t q now in
    subst P asked late)

-- the line was waited out by this moment of the event, or that brings a frame
IsReadBy : Timing → WrittenRequest → Next → (buf : List ℕ) → (moment : ℕ) → Type 0
IsReadBy t r event buf moment = r.moment + t.answer_ms ≤ moment
    → (t.answer_ms ≤ t.looked - r.written) ⊎ (is_frame event buf ≡ true)

frame_read : (g : Bool) (t : Timing) (r : WrittenRequest) (now len : ℕ) (buf : List ℕ)
    → ends_frame (take len buf) ≡ g → t.request ≡ Some r → 0 < t.answer_ms
    → r.moment + t.answer_ms ≤ told_at t g now
    → (t.answer_ms ≤ t.looked - r.written) ⊎ (ends_frame (take len buf) ≡ true)
frame_read true t r now len buf ends asked some late = inr ends
frame_read false t r now len buf ends asked some late =
    inl (by_request t t.request r now asked some late)

event_read : (t : Timing) (r : WrittenRequest) (now : ℕ) (f : Option SourceEvent) (buf : List ℕ)
    → t.request ≡ Some r → 0 < t.answer_ms
    → let e = event_at (told_at t (brings_frame f buf) now) f in AtMoment e (IsReadBy t r e buf)
unfolding IsReadBy
event_read t r now None buf asked some =
    λ late. inl (by_request t t.request r now asked some late)
event_read t r now (Some found.Open) buf asked some =
    λ late. inl (by_request t t.request r now asked some late)
event_read t r now (Some (found.Bytes len)) buf asked some =
    λ late. inl (by_request t t.request r now asked some late)
event_read t r now (Some found.Cut) buf asked some =
    λ late. inl (by_request t t.request r now asked some late)
event_read t r now (Some (found.Line len)) buf asked some =
    λ late. frame_read (ends_frame (take len buf)) t r now len buf refl asked some late
event_read t r now (Some found.Fault) buf asked some = tt

waited_out_by : (old new : LiveEnds) (event : Next) (buf : List ℕ) (r : WrittenRequest)
    → Turns old event buf new
    → new.timing.request ≡ Some r
    → 0 < new.timing.answer_ms → AtMoment event (IsReadBy new.timing r event buf)
unfolding IsReadBy
waited_out_by old new event buf r (inl t) asked some =
    let P : Next → Type 0 = λ e. AtMoment e (IsReadBy new.timing r e buf) in
    let Q : Timing → Type 0 = λ k. r.moment + new.timing.answer_ms ≤ moment_at k t.begun
    → new.timing.answer_ms ≤ new.timing.looked - r.written in
    let same : new.timing ≡ old.timing = ap (λ (e : LiveEnds). e.timing) t.given.ends in
    let read = subst Q same (by_request new.timing new.timing.request r t.begun asked some) in
    subst P (sym t.given.given) (λ late. inl (read late))
waited_out_by old new event buf r (inr t) asked some =
    let P : Next → Type 0 = λ e. AtMoment e (IsReadBy new.timing r e buf) in
    subst P (sym t.given.given) (event_read new.timing r t.now t.given.taken buf asked some)

pub waited_out : (old new : LiveEnds) (event : Next) (buf : List ℕ) (r : WrittenRequest)
    → LogsTurn old event buf new
    → new.timing.request ≡ Some r → 0 < new.timing.answer_ms →
    AtMoment event (λ moment. r.moment + new.timing.answer_ms ≤ moment
    → (new.timing.answer_ms ≤ new.timing.looked - r.written) ⊎ (is_frame event buf ≡ true))
unfolding IsReadBy
waited_out old new event buf r l = waited_out_by old (as_logged old.log new) event buf r l.turns

-- the clock has given this last
pub at_clock : (given : Moments) (now : ℕ) (Holds : ℕ → Type 0) → Holds now
    → AtClock (read_at given now) Holds
at_clock None now Holds h = tt
at_clock (Some before) now Holds h = h

-- the clock has given this
pub clock_read : (now : ℕ) (b : Bool) (buf : List ℕ) (f : Option SourceEvent)
    (old found new : LiveEnds)
    (taken : Option SourceEvent)
    → found ≡ clock_read_at now old → (taken, new) ≡ taken_by b buf f found → new.clock
    ≡ read_at old.clock now
clock_read now b buf f old found new taken done is =
    ap (λ (p : Option SourceEvent × LiveEnds). clock_of p.1) is
    ∙ (taken_same clock_of clock_apart b buf f found ∙ ap clock_of done)

-- what a control centre sent is at most 50 ms behind the clock
InTime : ℕ → (buf : List ℕ) → Option SourceEvent × LiveEnds → Type 0
InTime now buf p = AtClock p.1.clock (λ n.
    AtBytes (event_at (told_at p.1.timing (brings_frame p.0 buf) now) p.0) (λ m. n ≤ m + 50))

level_bound : (now m : ℕ) → nat_lt 50 (now - m) ≡ false → now ≤ m + 50
level_bound now m level = grind (arith, level)

timely : (b : Bool) (buf : List ℕ) (f : Option SourceEvent) (e : LiveEnds) (now : ℕ)
    → is_behind e.timing now
    ≡ b
    → InTime now buf (taken_by b buf f (clock_read_at now e))
unfolding InTime
timely true buf None e now behind = at_clock e.clock now (λ n. Unit {0}) tt
timely true buf (Some found.Open) e now behind = at_clock e.clock now (λ n. Unit {0}) tt
timely true buf (Some (found.Bytes len)) e now behind = at_clock e.clock now (λ n. Unit {0}) tt
timely true buf (Some found.Cut) e now behind = at_clock e.clock now (λ n. Unit {0}) tt
timely true buf (Some (found.Line len)) e now behind = at_clock e.clock now (λ n. Unit {0}) tt
timely true buf (Some found.Fault) e now behind = at_clock e.clock now (λ n. Unit {0}) tt
timely false buf None e now behind = at_clock e.clock now (λ n. Unit {0}) tt
timely false buf (Some found.Open) e now behind = at_clock e.clock now (λ n. Unit {0}) tt
timely false buf (Some (found.Bytes len)) e now behind =
    at_clock e.clock now (λ n. n ≤ moment_at e.timing now + 50)
    (level_bound now (moment_at e.timing now) behind)
timely false buf (Some found.Cut) e now behind = at_clock e.clock now (λ n. Unit {0}) tt
timely false buf (Some (found.Line len)) e now behind = at_clock e.clock now (λ n. Unit {0}) tt
timely false buf (Some found.Fault) e now behind = at_clock e.clock now (λ n. Unit {0}) tt

in_time_by : (old new : LiveEnds) (event : Next) (buf : List ℕ) → Turns old event buf new
    → AtClock new.clock (λ now. AtBytes event (λ moment. now ≤ moment + 50))
unfolding InTime
in_time_by old new event buf (inl t) =
    let P : Next → Type 0 =
    λ e. AtClock new.clock (λ now. AtBytes e (λ moment. now ≤ moment + 50)) in
    let R : Moments → Type 0 = λ c. AtClock c (λ now. Unit {0}) in
    let given = ap (λ (e : LiveEnds). e.clock) t.given.ends in
    subst P (sym t.given.given)
    (subst R (sym given) (at_clock old.clock t.begun (λ n. Unit {0}) tt))
in_time_by old new event buf (inr t) =
    let P : Next → Type 0 =
    λ e. AtClock new.clock (λ now. AtBytes e (λ moment. now ≤ moment + 50)) in
    let Q : Option SourceEvent × LiveEnds → Type 0 = λ p. InTime t.now buf p in
    let R : LiveEnds → Type 0 =
    λ e. InTime t.now buf (taken_by (is_behind e.timing t.now) buf t.f e) in
    subst P (sym t.given.given) (subst Q (sym t.given.ends) (subst R (sym t.looks.done)
    (timely (is_behind t.looks.found.timing t.now) buf t.f t.looks.found t.now refl)))

pub in_time : (old new : LiveEnds) (event : Next) (buf : List ℕ) → LogsTurn old event buf new
    → AtClock new.clock (λ now. AtBytes event (λ moment. now ≤ moment + 50))
in_time old new event buf l = in_time_by old (as_logged old.log new) event buf l.turns

-- a frame of the line is at most 50 ms behind the clock
told_level : (b : Bool) (now m : ℕ) → nat_lt 50 (now - m) ≡ b → now ≤ (if b then now else m) + 50
told_level true now m behind = omega (arith)
told_level false now m level = level_bound now m level

frame_level : (g : Bool) (t : Timing) (now : ℕ) → g ≡ true → now ≤ told_at t g now + 50
frame_level true t now ends = told_level (is_behind t now) now (moment_at t now) refl
frame_level false t now ends = absurd (cc)

event_level : (t : Timing) (now : ℕ) (f : Option SourceEvent) (buf : List ℕ)
    → let e = event_at (told_at t (brings_frame f buf) now) f in
    is_frame e buf ≡ true → AtMoment e (λ moment. now ≤ moment + 50)
event_level t now None buf ends = absurd (cc)
event_level t now (Some found.Open) buf ends = absurd (cc)
event_level t now (Some (found.Bytes len)) buf ends = absurd (cc)
event_level t now (Some found.Cut) buf ends = absurd (cc)
event_level t now (Some (found.Line len)) buf ends =
    frame_level (ends_frame (take len buf)) t now ends
event_level t now (Some found.Fault) buf ends = absurd (cc)

caught_up_by : (old new : LiveEnds) (event : Next) (buf : List ℕ) → Turns old event buf new
    → is_frame event buf ≡ true
    → AtClock new.clock (λ now. AtMoment event (λ moment. now ≤ moment + 50))
caught_up_by old new event buf (inl t) ends =
    let no : false ≡ true = sym (ap (λ e. is_frame e buf) t.given.given) ∙ ends in absurd (cc)
caught_up_by old new event buf (inr t) ends =
    let e = event_at (told_at new.timing (brings_frame t.given.taken buf) t.now) t.given.taken in
    let P : Next → Type 0 =
    λ e. AtClock new.clock (λ now. AtMoment e (λ moment. now ≤ moment + 50)) in
    let R : Moments → Type 0 =
    λ c. AtClock c (λ now. AtMoment e (λ moment. now ≤ moment + 50)) in
    let clock = clock_read t.now (is_behind t.found.timing t.now) buf t.f t.looks.found t.found new
    t.given.taken t.looks.done t.given.ends in
    let is : is_frame e buf ≡ true = sym (ap (λ e. is_frame e buf) t.given.given) ∙ ends in
    subst P (sym t.given.given) (subst R (sym clock) (at_clock t.looks.found.clock t.now
    (λ now. AtMoment e (λ moment. now ≤ moment + 50))
    (event_level new.timing t.now t.given.taken buf is)))

pub caught_up : (old new : LiveEnds) (event : Next) (buf : List ℕ) → LogsTurn old event buf new
    → is_frame event buf ≡ true
    → AtClock new.clock (λ now. AtMoment event (λ moment. now ≤ moment + 50))
caught_up old new event buf l ends =
    caught_up_by old (as_logged old.log new) event buf l.turns ends

-- the latest request and how long an answer is awaited are the same
Keeps : Timing → Timing → Type 0
Keeps a b = (b.request ≡ a.request) × (b.answer_ms ≡ a.answer_ms)

accepted_keeps : (k : Timing) (v : Option Peer) (e : LiveEnds) → Keeps k e.timing
    → Keeps k (accepted v e).timing
accepted_keeps k None e h = h
accepted_keeps k (Some peer) e h = h

looked_keeps : (k : Timing) (s : EventSource) (t : ℕ) (a : Answers) (buf : List ℕ) (e : LiveEnds)
    → Keeps k e.timing
    → Keeps k (looked_at s t a buf e).timing
unfolding Keeps
looked_keeps k Listener t a buf e h = accepted_keeps k a.peer (turned_away a.refused e) h
looked_keeps k Connection t a buf e h = h
looked_keeps k Line t a buf e h = h

next_keeps : (k : Timing) (s : EventSource) (f : Option SourceEvent) (e : LiveEnds)
    → Keeps k e.timing
    → Keeps k (next_round s f e).timing
next_keeps k s None e h = h
next_keeps k s (Some f) e h = h

-- what goes on from ends that keep them keeps them
IsKeeping : Timing → (LiveEnds → Option SourceEvent × LiveEnds) → Type 0
IsKeeping k others = (e : LiveEnds) → Keeps k e.timing → Keeps k (others e).1.timing

unless_keeps : (k : Timing) (f : Option SourceEvent) (e : LiveEnds) (others : LiveEnds
    → Option SourceEvent × LiveEnds)
    → Keeps k e.timing
    → IsKeeping k others → Keeps k (unless_found f e others).1.timing
unfolding IsKeeping
unless_keeps k None e others h on = on e h
unless_keeps k (Some f) e others h on = h

look_keeps : (k : Timing) (s : EventSource) (t : ℕ) (a : Answers) (buf : List ℕ) (others : LiveEnds
    → Option SourceEvent × LiveEnds)
    → IsKeeping k others
    → IsKeeping k (λ e. look s t a buf e others)
unfolding IsKeeping
look_keeps k s t a buf others on e h =
    let f = found_at s a e in
    unless_keeps k f (next_round s f (looked_at s t a buf e)) others
    (next_keeps k s f (looked_at s t a buf e) (looked_keeps k s t a buf e h)) on

nothing_keeps : (k : Timing) → IsKeeping k nothing_more
unfolding IsKeeping
nothing_keeps k e h = h

round_keeps : (k : Timing) (t : ℕ) (a : Answers) (buf : List ℕ) (e : LiveEnds) → Keeps k e.timing
    → Keeps k (round t a buf e).1.timing
unfolding IsKeeping
round_keeps k t a buf e h =
    let third = look_keeps k (after (after e.first)) t a buf nothing_more (nothing_keeps k) in
    let second = look_keeps k (after e.first) t a buf
    (λ x. look (after (after e.first)) t a buf x nothing_more) third in
    look_keeps k e.first t a buf
    (λ x. look (after e.first) t a buf x (λ y. look (after (after e.first)) t a buf y nothing_more))
    second e h

held_keeps : (k : Timing) (held : List ℕ) (t : ℕ) (a : Answers) (buf : List ℕ) (e : LiveEnds)
    → Keeps k e.timing
    → Keeps k (held_by held t a buf e).1.timing
held_keeps k [] t a buf e h = round_keeps k t a buf e h
held_keeps k (octet ∷ octets) t a buf e h = h

sources_keeps : (k : Timing) (b : Bool) (t : ℕ) (a : Answers) (buf : List ℕ) (e : LiveEnds)
    → Keeps k e.timing
    → Keeps k (sources_by b t a buf e).1.timing
unfolding IsKeeping
sources_keeps k true t a buf e h = look_keeps k Line t a buf nothing_more (nothing_keeps k) e h
sources_keeps k false t a buf e h = held_keeps k e.held t a buf e h

turn_keeps : (k : Timing) (d : Bool) (t : ℕ) (a : Answers) (buf : List ℕ) (e : LiveEnds)
    → Keeps k e.timing
    → Keeps k (turn_by d t a buf e).1.timing
turn_keeps k true t a buf e h = h
turn_keeps k false t a buf e h = sources_keeps k (is_behind e.timing t) t a buf e h

taken_keeps : (k : Timing) (b : Bool) (buf : List ℕ) (f : Option SourceEvent) (e : LiveEnds)
    → Keeps k e.timing
    → Keeps k (taken_by b buf f e).1.timing
taken_keeps k false buf f e h = h
taken_keeps k true buf None e h = h
taken_keeps k true buf (Some found.Open) e h = h
taken_keeps k true buf (Some (found.Bytes len)) e h = h
taken_keeps k true buf (Some found.Cut) e h = h
taken_keeps k true buf (Some (found.Line len)) e h = h
taken_keeps k true buf (Some found.Fault) e h = h

one_keeps : (k : Timing) (begun : ℕ) (e n : LiveEnds) (f : Option SourceEvent) (buf : List ℕ)
    → IsTurn begun e f buf n
    → Keeps k e.timing → Keeps k n.timing
one_keeps k begun e n f buf t h =
    let Q : Option SourceEvent × LiveEnds → Type 0 = λ p. Keeps k p.1.timing in
    subst Q (sym t.turned) (turn_keeps k e.is_cut_due begun t.answers buf e h)

quiet_keeps : (k : Timing) (start : LiveEnds) (first count begun : ℕ) (e : LiveEnds)
    → QuietRounds start first count begun e
    → Keeps k start.timing → Keeps k e.timing
quiet_keeps k start first _ _ _ NoRound h = h
quiet_keeps k start first _ _ _ (OneRound count begun now before found buf q t undue) h =
    one_keeps k begun before found None buf t (quiet_keeps k start first count begun before q h)

looks_keep : (k : Timing) (first : ℕ) (old : LiveEnds) (now : ℕ) (f : Option SourceEvent)
    (buf : List ℕ)
    (new : LiveEnds)
    → LooksOn first old now f buf new → Keeps k old.timing → Keeps k new.timing
looks_keep k first old now f buf new l h =
    let P : LiveEnds → Type 0 = λ e. Keeps k e.timing in
    subst P (sym l.done) (one_keeps k l.begun l.before l.found f buf l.turn
    (quiet_keeps k old first l.count l.begun l.before l.quiet h))

kept_by : (old new : LiveEnds) (event : Next) (buf : List ℕ) → Turns old event buf new
    → (new.timing.request ≡ old.timing.request) × (new.timing.answer_ms ≡ old.timing.answer_ms)
unfolding Keeps
kept_by old new event buf (inl t) =
    let same : new.timing ≡ old.timing = ap (λ (e : LiveEnds). e.timing) t.given.ends in
    (ap (λ (k : Timing). k.request) same, ap (λ (k : Timing). k.answer_ms) same)
kept_by old new event buf (inr t) =
    let Q : Option SourceEvent × LiveEnds → Type 0 = λ p. Keeps old.timing p.1.timing in
    let found = looks_keep old.timing t.first (looking (clock_read_at t.first old)) t.now t.f buf
    t.found
    t.looks (refl, refl)
    in
    subst Q (sym t.given.ends) (taken_keeps old.timing (is_behind t.found.timing t.now) buf t.f
    t.found found)

pub kept : (old new : LiveEnds) (event : Next) (buf : List ℕ) → LogsTurn old event buf new
    → (new.timing.request ≡ old.timing.request) × (new.timing.answer_ms ≡ old.timing.answer_ms)
kept old new event buf l = kept_by old (as_logged old.log new) event buf l.turns
