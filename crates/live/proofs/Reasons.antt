-- Why a connection was cut.
use Rattle.std.proofs.Common.{◌≡◌, ℕ, true, false, Bool, List, [], ◌∷◌, Option, Some, None, refl}
use Rattle.std.proofs.Common.{sym, ap, subst, inl, inr, ◌∙◌, is_some}
use Rattle.gateway.specs.declared.ports.Next.{Next}
use Rattle.live.specs.Timing.{is_behind, told_at}
use Rattle.live.specs.Ends.{brings_frame}
use Rattle.live.specs.Ends.{LiveEnds, Peer, Answers, QuietRounds, NoRound, OneRound, LooksOn, Turns}
use Rattle.live.specs.Ends.{LogsTurn, as_logged, looking, event_at, taken_by, clock_read_at}
use Rattle.live.specs.Ends.{turn_by, sources_by, held_by, round, look, unless_found, next_round}
use Rattle.live.specs.Ends.{looked_at, after, nothing_more, accepted, of_peer, of_open, of_line}
use Rattle.live.specs.Ends.{turned_away}
use Rattle.live.specs.Ends.{read_from, peer_read}
use Rattle.live.specs.Law.{IsFoundGone, is_cut, notes_of}
use Rattle.live.specs.OctetStreams.{Happening, StreamHistory, WasGone, looked, noted}
use Rattle.live.specs.Walls.{is_wall}
use Rattle.live.specs.declared.found.SourceEvent.{SourceEvent}
use Rattle.live.specs.declared.found.SourceEvent.TheVariants as found
use Rattle.live.specs.declared.source.EventSource.{EventSource}
use Rattle.live.specs.declared.source.EventSource.TheVariants.{Listener, Connection, Line}
use Rattle.live.specs.declared.ends.CutCause.{CutCause}
use Rattle.live.specs.declared.ends.CutCause.TheVariants as cause
use Rattle.live.specs.declared.ends.Got.{Got}
use Rattle.live.specs.declared.ends.Got.TheVariants.{Octets, Quiet, Gone}

-- no connection is open, nothing of one is held, and no cut is due
abbrev pub IsShut : LiveEnds → Type 0
IsShut e = (e.connection ≡ None) × (e.held ≡ []) × (e.is_cut_due ≡ false)

-- a stream that notes what happens at it does so still
noted_still : (stream : StreamHistory) (h : Happening) → is_some (noted stream h) ≡ is_some stream
noted_still None h = refl
noted_still (Some before) h = refl

still : (n : Option Bool) (stream : StreamHistory) (h : Happening) → Some (is_some stream) ≡ n
    → Some (is_some (noted stream h)) ≡ n
still n stream h is = ap (λ b. Some b) (noted_still stream h) ∙ is

gone_at : (stream : StreamHistory)
    → IsFoundGone (Some (is_some stream)) (Some (noted stream WasGone))
gone_at None = tt
gone_at (Some before) = (before, refl)

pub gone_so : (n : Option Bool) (stream : StreamHistory) → Some (is_some stream) ≡ n
    → IsFoundGone n (Some (noted stream WasGone))
gone_so n stream is =
    let P : Option Bool → Type 0 = λ n. IsFoundGone n (Some (noted stream WasGone)) in
    subst P is (gone_at stream)

-- What was found, whether a cut was due or not, if the reason was this one, of a connection that
-- notes so; and the ends after it.
IsReasoned : Bool → CutCause → Option Bool → Option SourceEvent → LiveEnds → Type 0
IsReasoned true w n None e = ⊥
IsReasoned true w n (Some found.Open) e = ⊥
IsReasoned true w n (Some (found.Bytes len)) e = ⊥
IsReasoned true w n (Some found.Cut) e = (e.why_cut ≡ w) × IsShut e
IsReasoned true w n (Some (found.Line len)) e = ⊥
IsReasoned true w n (Some found.Fault) e = ⊥
IsReasoned false w n None e =
    (e.is_cut_due ≡ false) × (e.why_cut ≡ w) × (notes_of e.connection ≡ n)
IsReasoned false w n (Some found.Open) e = (e.is_cut_due ≡ false) × (e.why_cut ≡ w)
IsReasoned false w n (Some (found.Bytes len)) e =
    (e.is_cut_due ≡ false) × (e.why_cut ≡ w) × (notes_of e.connection ≡ n)
IsReasoned false w n (Some found.Cut) e =
    (e.why_cut ≡ cause.Gone) × IsShut e × IsFoundGone n e.gone
IsReasoned false w n (Some (found.Line len)) e = (e.is_cut_due ≡ false) × (e.why_cut ≡ w)
IsReasoned false w n (Some found.Fault) e = (e.is_cut_due ≡ false) × (e.why_cut ≡ w)

Reasoned : Bool → CutCause → Option Bool → Option SourceEvent × LiveEnds → Type 0
Reasoned d w n p = IsReasoned d w n p.0 p.1

-- no cut is due, the reason is this one, nothing is held, and the connection notes so
abbrev IsFree : CutCause → Option Bool → LiveEnds → Type 0
IsFree w n e =
    (e.is_cut_due ≡ false) × (e.why_cut ≡ w) × (e.held ≡ []) × (notes_of e.connection ≡ n)

-- what goes on from such ends
KeepsOn : CutCause → Option Bool → (LiveEnds → Option SourceEvent × LiveEnds) → Type 0
KeepsOn w n others = (e : LiveEnds) → IsFree w n e → Reasoned false w n (others e)

nothing_reasoned : (w : CutCause) (n : Option Bool) → KeepsOn w n nothing_more
unfolding KeepsOn Reasoned IsReasoned
nothing_reasoned w n e h = (h.0, h.1, h.3)

at_listener : (w : CutCause) (n : Option Bool) (v : Option Peer) (e : LiveEnds)
    (others : LiveEnds → Option SourceEvent × LiveEnds)
    → KeepsOn w n others → IsFree w n e →
    Reasoned false w n
    (unless_found (of_peer v) (next_round Listener (of_peer v) (accepted v e)) others)
unfolding KeepsOn Reasoned IsReasoned
at_listener w n None e others on h = on (accepted None e) h
at_listener w n (Some peer) e others on h = (h.0, h.1)

at_connection : (w : CutCause) (n : Option Bool) (c : Option Peer) (got : Got) (buf : List ℕ)
    (e : LiveEnds) (others : LiveEnds → Option SourceEvent × LiveEnds)
    → KeepsOn w n others → IsFree w n e → notes_of c ≡ n →
    Reasoned false w n (unless_found (of_open c got) (next_round Connection (of_open c got)
    (peer_read c got buf e)) others)
unfolding KeepsOn Reasoned IsReasoned
at_connection w n None got buf e others on h is =
    on (record e { connection = None }) (h.0, h.1, h.2, is)
at_connection w n (Some peer) (Octets len) buf e others on h is =
    (h.0, h.1, still n peer.stream (looked (Octets len) buf) is)
at_connection w n (Some peer) Quiet buf e others on h is =
    on (record e { connection = read_from (Some peer) Quiet buf })
    (h.0, h.1, h.2, still n peer.stream (looked Quiet buf) is)
at_connection w n (Some peer) Gone buf e others on h is =
    (refl, (refl, h.2, h.0), gone_so n peer.stream is)

at_line : (w : CutCause) (n : Option Bool) (got : Got) (e : LiveEnds)
    (others : LiveEnds → Option SourceEvent × LiveEnds)
    → KeepsOn w n others → IsFree w n e →
    Reasoned false w n (unless_found (of_line got) (next_round Line (of_line got) e) others)
unfolding KeepsOn Reasoned IsReasoned
at_line w n (Octets len) e others on h = (h.0, h.1)
at_line w n Quiet e others on h = on e h
at_line w n Gone e others on h = (h.0, h.1)

-- of the line alone, whatever is held
line_alone : (w : CutCause) (n : Option Bool) (got : Got) (e : LiveEnds)
    → (e.is_cut_due ≡ false) × (e.why_cut ≡ w) × (notes_of e.connection ≡ n) →
    Reasoned false w n (unless_found (of_line got) (next_round Line (of_line got) e) nothing_more)
unfolding Reasoned IsReasoned
line_alone w n (Octets len) e h = (h.0, h.1)
line_alone w n Quiet e h = h
line_alone w n Gone e h = (h.0, h.1)

look_reasoned : (w : CutCause) (n : Option Bool) (s : EventSource) (t : ℕ) (a : Answers)
    (buf : List ℕ)
    (others : LiveEnds → Option SourceEvent × LiveEnds)
    → KeepsOn w n others → KeepsOn w n (λ e. look s t a buf e others)
unfolding KeepsOn
look_reasoned w n Listener t a buf others on e h =
    at_listener w n a.peer (turned_away a.refused e) others on h
look_reasoned w n Connection t a buf others on e h =
    at_connection w n e.connection a.connection buf e others on h h.3
look_reasoned w n Line t a buf others on e h =
    at_line w n a.line (looked_at Line t a buf e) others on h

round_reasoned : (w : CutCause) (n : Option Bool) (t : ℕ) (a : Answers) (buf : List ℕ)
    → KeepsOn w n (λ e. round t a buf e)
unfolding KeepsOn
round_reasoned w n t a buf e h =
    let third = look_reasoned w n (after (after e.first)) t a buf nothing_more
    (nothing_reasoned w n) in
    let second = look_reasoned w n (after e.first) t a buf
    (λ x. look (after (after e.first)) t a buf x nothing_more) third in
    look_reasoned w n e.first t a buf
    (λ x. look (after e.first) t a buf x (λ y. look (after (after e.first)) t a buf y nothing_more))
    second e h

held_reasoned : (w : CutCause) (n : Option Bool) (held : List ℕ) (t : ℕ) (a : Answers)
    (buf : List ℕ) (e : LiveEnds)
    → (e.is_cut_due ≡ false) × (e.why_cut ≡ w) × (notes_of e.connection ≡ n) → e.held ≡ held
    → Reasoned false w n (held_by held t a buf e)
unfolding KeepsOn Reasoned IsReasoned
held_reasoned w n [] t a buf e h none = round_reasoned w n t a buf e (h.0, h.1, none, h.2)
held_reasoned w n (octet ∷ octets) t a buf e h some = h

sources_reasoned : (w : CutCause) (n : Option Bool) (is_late : Bool) (t : ℕ) (a : Answers)
    (buf : List ℕ)
    (e : LiveEnds)
    → (e.is_cut_due ≡ false) × (e.why_cut ≡ w) × (notes_of e.connection ≡ n)
    → Reasoned false w n (sources_by is_late t a buf e)
sources_reasoned w n true t a buf e h = line_alone w n a.line (looked_at Line t a buf e) h
sources_reasoned w n false t a buf e h = held_reasoned w n e.held t a buf e h refl

turn_reasoned : (d : Bool) (t : ℕ) (a : Answers) (buf : List ℕ) (e : LiveEnds)
    → e.is_cut_due ≡ d → Reasoned d e.why_cut (notes_of e.connection) (turn_by d t a buf e)
unfolding KeepsOn Reasoned IsReasoned
turn_reasoned true t a buf e due = (refl, (refl, refl, refl))
turn_reasoned false t a buf e due =
    sources_reasoned e.why_cut (notes_of e.connection) (is_behind e.timing t) t a buf e
    (due, refl, refl)

none_found : (d : Bool) (w : CutCause) (n : Option Bool) (e : LiveEnds) → IsReasoned d w n None e
    → (e.is_cut_due ≡ d) × (e.why_cut ≡ w) × (notes_of e.connection ≡ n)
unfolding IsReasoned
none_found true w n e h = absurd h
none_found false w n e h = h

-- rounds that found nothing leave both as they were
quiet_reasoned : (start : LiveEnds) (first count begun : ℕ) (e : LiveEnds)
    → QuietRounds start first count begun e
    → (e.is_cut_due ≡ start.is_cut_due) × (e.why_cut ≡ start.why_cut)
    × (notes_of e.connection ≡ notes_of start.connection)
unfolding Reasoned
quiet_reasoned start first _ _ _ NoRound = (refl, refl, refl)
quiet_reasoned start first _ _ _ (OneRound count begun now before found buf q t undue) =
    let d = before.is_cut_due in
    let n = notes_of before.connection in
    let Q : Option SourceEvent × LiveEnds → Type 0 = λ p. Reasoned d before.why_cut n p in
    let turned : IsReasoned d before.why_cut n None found =
    subst Q (sym t.turned) (turn_reasoned d begun t.answers buf before refl) in
    let here = none_found d before.why_cut n found turned in
    let old = quiet_reasoned start first count begun before q in
    (here.0 ∙ old.0, here.1 ∙ old.1, here.2 ∙ old.2)

-- what the clock gave is no matter
read_reasoned : (d : Bool) (w : CutCause) (n : Option Bool) (f : Option SourceEvent) (e : LiveEnds)
    (now : ℕ)
    → IsReasoned d w n f e → IsReasoned d w n f (clock_read_at now e)
unfolding IsReasoned
read_reasoned true w n None e now h = absurd h
read_reasoned true w n (Some found.Open) e now h = absurd h
read_reasoned true w n (Some (found.Bytes len)) e now h = absurd h
read_reasoned true w n (Some found.Cut) e now h = h
read_reasoned true w n (Some (found.Line len)) e now h = absurd h
read_reasoned true w n (Some found.Fault) e now h = absurd h
read_reasoned false w n None e now h = h
read_reasoned false w n (Some found.Open) e now h = h
read_reasoned false w n (Some (found.Bytes len)) e now h = h
read_reasoned false w n (Some found.Cut) e now h = h
read_reasoned false w n (Some (found.Line len)) e now h = h
read_reasoned false w n (Some found.Fault) e now h = h

looks_reasoned : (first : ℕ) (old : LiveEnds) (now : ℕ) (f : Option SourceEvent) (buf : List ℕ)
    (new : LiveEnds) → LooksOn first old now f buf new
    → IsReasoned old.is_cut_due old.why_cut (notes_of old.connection) f new
unfolding Reasoned
looks_reasoned first old now f buf new l =
    let b = l.before in
    let d = b.is_cut_due in
    let n = notes_of b.connection in
    let m = notes_of old.connection in
    let kept = quiet_reasoned old first l.count l.begun b l.quiet in
    let Q : Option SourceEvent × LiveEnds → Type 0 = λ p. Reasoned d b.why_cut n p in
    let turned : IsReasoned d b.why_cut n f l.found =
    subst Q (sym l.turn.turned) (turn_reasoned d l.begun l.turn.answers buf b refl) in
    let D : Bool → Type 0 = λ x. IsReasoned x b.why_cut n f l.found in
    let W : CutCause → Type 0 = λ w. IsReasoned old.is_cut_due w n f l.found in
    let N : Option Bool → Type 0 = λ x. IsReasoned old.is_cut_due old.why_cut x f l.found in
    let P : LiveEnds → Type 0 = λ e. IsReasoned old.is_cut_due old.why_cut m f e in
    let here = subst N kept.2 (subst W kept.1 (subst D kept.0 turned)) in
    subst P (sym l.done)
    (read_reasoned old.is_cut_due old.why_cut m f l.found now here)

taken_reasoned : (d : Bool) (w : CutCause) (n : Option Bool) (is_late : Bool) (buf : List ℕ)
    (f : Option SourceEvent) (e : LiveEnds)
    → IsReasoned d w n f e → Reasoned d w n (taken_by is_late buf f e)
unfolding Reasoned IsReasoned
taken_reasoned d w n false buf f e h = h
taken_reasoned d w n true buf None e h = h
taken_reasoned d w n true buf (Some found.Open) e h = h
taken_reasoned true w n true buf (Some (found.Bytes len)) e h = h
taken_reasoned false w n true buf (Some (found.Bytes len)) e h = h
taken_reasoned d w n true buf (Some found.Cut) e h = h
taken_reasoned d w n true buf (Some (found.Line len)) e h = h
taken_reasoned d w n true buf (Some found.Fault) e h = h

-- an event, whether a cut was due or not, if the reason was this; and the ends after it
pub record HasReason (d : Bool) (w : CutCause) (n : Option Bool) (event : Next) (e : LiveEnds)
    : Type 0 where
  pub gone : is_cut event ≡ true → d ≡ false → (e.why_cut ≡ cause.Gone) × IsFoundGone n e.gone
  pub due : is_cut event ≡ true → d ≡ true → e.why_cut ≡ w
  pub others : is_cut event ≡ false → e.why_cut ≡ w
  pub shut : is_cut event ≡ true → IsShut e
  pub next : d ≡ true → is_wall event ≡ false → is_cut event ≡ true

no_cut : (d : Bool) (w : CutCause) (n : Option Bool) (event : Next) (e : LiveEnds) → is_cut event
    ≡ false
    → e.why_cut ≡ w → (d ≡ true → is_wall event ≡ false → ⊥) → HasReason d w n event e
no_cut d w n event e none same undue = record {
  gone = λ cut free. let wrong : false ≡ true = sym none ∙ cut in absurd (cc);
  due = λ cut due. same;
  others = λ other. same;
  shut = λ cut. let wrong : false ≡ true = sym none ∙ cut in absurd (cc);
  next = λ due dark. absurd (undue due dark);
}

-- no cut was due
free_one : (w : CutCause) (n : Option Bool) (event : Next) (e : LiveEnds) → is_cut event ≡ false
    → e.why_cut ≡ w → HasReason false w n event e
free_one w n event e none same =
    no_cut false w n event e none same (λ due dark. let wrong : false ≡ true = due in absurd (cc))

given_reasoned : (d : Bool) (w : CutCause) (n : Option Bool) (now : ℕ) (f : Option SourceEvent)
    (e : LiveEnds)
    → IsReasoned d w n f e → HasReason d w n (event_at now f) e
unfolding IsReasoned
given_reasoned true w n now None e h = absurd h
given_reasoned true w n now (Some found.Open) e h = absurd h
given_reasoned true w n now (Some (found.Bytes len)) e h = absurd h
given_reasoned true w n now (Some found.Cut) e h = record {
  gone = λ cut free. let wrong : true ≡ false = free in absurd (cc);
  due = λ cut due. h.0;
  others = λ other. h.0;
  shut = λ cut. h.1;
  next = λ due dark. refl;
}
given_reasoned true w n now (Some (found.Line len)) e h = absurd h
given_reasoned true w n now (Some found.Fault) e h = absurd h
given_reasoned false w n now None e h = free_one w n _ e refl h.1
given_reasoned false w n now (Some found.Open) e h = free_one w n _ e refl h.1
given_reasoned false w n now (Some (found.Bytes len)) e h = free_one w n _ e refl h.1
given_reasoned false w n now (Some found.Cut) e h = record {
  gone = λ cut free. (h.0, h.2);
  due = λ cut due. let wrong : false ≡ true = due in absurd (cc);
  others = λ other. let wrong : true ≡ false = other in absurd (cc);
  shut = λ cut. h.1;
  next = λ due dark. refl;
}
given_reasoned false w n now (Some (found.Line len)) e h = free_one w n _ e refl h.1
given_reasoned false w n now (Some found.Fault) e h = free_one w n _ e refl h.1

-- no event makes a cut due
due_before : (d : Bool) (w : CutCause) (n : Option Bool) (f : Option SourceEvent) (e : LiveEnds)
    → IsReasoned d w n f e → e.is_cut_due ≡ true → d ≡ true
unfolding IsReasoned
due_before true w n f e h due = refl
due_before false w n None e h due = sym h.0 ∙ due
due_before false w n (Some found.Open) e h due = sym h.0 ∙ due
due_before false w n (Some (found.Bytes len)) e h due = sym h.0 ∙ due
due_before false w n (Some found.Cut) e h due = sym h.1.2 ∙ due
due_before false w n (Some (found.Line len)) e h due = sym h.0 ∙ due
due_before false w n (Some found.Fault) e h due = sym h.0 ∙ due

turns_due : (old new : LiveEnds) (event : Next) (buf : List ℕ) → Turns old event buf new
    → new.is_cut_due ≡ true → old.is_cut_due ≡ true
unfolding Reasoned
turns_due old new event buf (inl t) due =
    sym (ap (λ (e : LiveEnds). e.is_cut_due) t.given.ends) ∙ due
turns_due old new event buf (inr t) due =
    let d = old.is_cut_due in
    let n = notes_of old.connection in
    let Q : Option SourceEvent × LiveEnds → Type 0 = λ p. Reasoned d old.why_cut n p in
    let found = looks_reasoned t.first (looking (clock_read_at t.first old)) t.now t.f buf t.found
    t.looks in
    let given : IsReasoned d old.why_cut n t.given.taken new =
    subst Q (sym t.given.ends)
    (taken_reasoned d old.why_cut n (is_behind t.found.timing t.now) buf t.f t.found found) in
    due_before d old.why_cut n t.given.taken new given due

pub was_due : (old new : LiveEnds) (event : Next) (buf : List ℕ) → LogsTurn old event buf new
    → new.is_cut_due ≡ true → old.is_cut_due ≡ true
was_due old new event buf l due = turns_due old (as_logged old.log new) event buf l.turns due

turns_reasoned : (old new : LiveEnds) (event : Next) (buf : List ℕ) → Turns old event buf new
    → HasReason old.is_cut_due old.why_cut (notes_of old.connection) event new
unfolding Reasoned
turns_reasoned old new event buf (inl t) =
    no_cut old.is_cut_due old.why_cut (notes_of old.connection) event new (ap is_cut t.given.given)
    (ap (λ (e : LiveEnds). e.why_cut) t.given.ends)
    (λ due dark. let wrong : true ≡ false = sym (ap is_wall t.given.given) ∙ dark in absurd (cc))
turns_reasoned old new event buf (inr t) =
    let d = old.is_cut_due in
    let n = notes_of old.connection in
    let Q : Option SourceEvent × LiveEnds → Type 0 = λ p. Reasoned d old.why_cut n p in
    let P : Next → Type 0 = λ e. HasReason d old.why_cut n e new in
    let found = looks_reasoned t.first (looking (clock_read_at t.first old)) t.now t.f buf t.found
    t.looks in
    let given : IsReasoned d old.why_cut n t.given.taken new =
    subst Q (sym t.given.ends)
    (taken_reasoned d old.why_cut n (is_behind t.found.timing t.now) buf t.f t.found found) in
    subst P (sym t.given.given)
    (given_reasoned d old.why_cut n (told_at new.timing (brings_frame t.given.taken buf) t.now)
    t.given.taken new given)

-- the log is no matter
pub reasoned : (old new : LiveEnds) (event : Next) (buf : List ℕ) → LogsTurn old event buf new
    → HasReason old.is_cut_due old.why_cut (notes_of old.connection) event new
reasoned old new event buf l =
    let here = turns_reasoned old (as_logged old.log new) event buf l.turns in
    record {
      gone = here.gone;
      due = here.due;
      others = here.others;
      shut = here.shut;
      next = here.next;
    }

pub shut_behind : (old new : LiveEnds) (event : Next) (buf : List ℕ) → LogsTurn old event buf new
    → is_cut event ≡ true → IsShut new
shut_behind old new event buf l cut = (reasoned old new event buf l).shut cut
