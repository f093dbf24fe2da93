-- A turn from its looks. Each source answers at its look; a turn is stated by the answers of all
-- three.
use Rattle.std.proofs.Common.{◌≡◌, ℕ, ◌+◌, arith, ◌==◌, is_some, true, false, Bool, List, []}
use Rattle.std.proofs.Common.{◌∷◌, length, take, Option, Some, None, IfSome, refl, sym, ap, subst}
use Rattle.std.proofs.Common.{◌∙◌, inl, inr}
use Rattle.std.specs.declared.net.ip_addr.IpAddr.{IpAddr}
use Rattle.live.specs.AllowLists.{AreStrangers}
use Rattle.live.specs.declared.allow_list.AllowList.{AllowList}
use Rattle.live.specs.Timing.{is_behind, moment_at, is_awaited, told_at}
use Rattle.live.specs.Ends.{brings_frame}
use Rattle.live.specs.Ends.{LiveEnds, Peer, IsAllowedPeer, accepted, Answers, after, found_at}
use Rattle.live.specs.Ends.{turned_away}
use Rattle.live.specs.Ends.{looked_at}
use Rattle.live.specs.Ends.{peer_read, next_round, unless_found, look, nothing_more, round, turn}
use Rattle.live.specs.Ends.{turn_by, held_by, sources_by, IsFront, taken_by, clock_read_at, looking}
use Rattle.live.specs.Ends.{IsTurn, GivesEvent, GivesWall, QuietRounds, OneRound, LooksOn}
use Rattle.live.specs.Ends.{is_tick_due}
use Rattle.live.specs.Ends.{faults_in, Turns, TurnsToWall, TurnsToEnds, event_at}
use Rattle.gateway.specs.declared.ports.Next.{Next}
use Rattle.live.specs.Looks.{LooksInRound, answers_for}
use Rattle.live.specs.Walls.{is_wall_due}
use Rattle.live.proofs.Plain.{no_strangers}
use Rattle.live.specs.declared.found.SourceEvent.{SourceEvent}
use Rattle.live.specs.declared.found.SourceEvent.TheVariants.{Cut, Bytes}
use Rattle.live.specs.declared.ends.Got.TheVariants.{Quiet}
use Rattle.live.specs.declared.source.EventSource.{EventSource}
use Rattle.live.specs.declared.source.EventSource.TheVariants.{Listener, Connection, Line}

-- the answers of the three sources of a round that begins here
joined : EventSource → Answers → Answers → Answers → Answers
joined Listener a b c =
    record {
      peer = a.peer;
      refused = a.refused;
      connection = b.connection;
      line = c.line;
      presence = c.presence;
    }
joined Connection a b c =
    record {
      peer = c.peer;
      refused = c.refused;
      connection = a.connection;
      line = b.line;
      presence = b.presence;
    }
joined Line a b c =
    record {
      peer = b.peer;
      refused = b.refused;
      connection = c.connection;
      line = a.line;
      presence = a.presence;
    }

joined_peer : (g : AllowList) (s : EventSource) (a b c : Answers) → IfSome a.peer (IsAllowedPeer g)
    → IfSome b.peer (IsAllowedPeer g)
    → IfSome c.peer (IsAllowedPeer g) → IfSome (joined s a b c).peer (IsAllowedPeer g)
unfolding joined
joined_peer g Listener a b c x y z = x
joined_peer g Connection a b c x y z = z
joined_peer g Line a b c x y z = y

joined_strangers : (g : AllowList) (s : EventSource) (a b c : Answers) → AreStrangers g a.refused
    → AreStrangers g b.refused
    → AreStrangers g c.refused → AreStrangers g (joined s a b c).refused
unfolding joined
joined_strangers g Listener a b c x y z = x
joined_strangers g Connection a b c x y z = z
joined_strangers g Line a b c x y z = y

-- looks leave who may connect as it was
accepted_same : (v : Option Peer) (e : LiveEnds) → (accepted v e).allow_list ≡ e.allow_list
accepted_same None e = refl
accepted_same (Some peer) e = refl

looked_same : (s : EventSource) (t : ℕ) (a : Answers) (buf : List ℕ) (e : LiveEnds)
    → (looked_at s t a buf e).allow_list ≡ e.allow_list
looked_same Listener t a buf e = accepted_same a.peer (turned_away a.refused e)
looked_same Connection t a buf e = refl
looked_same Line t a buf e = refl

-- so does a look that finds nothing
same_allow_list : (s : EventSource) (t : ℕ) (old new : LiveEnds) (buf : List ℕ)
    → LooksInRound s t old None buf new
    → new.allow_list ≡ old.allow_list
same_allow_list s t old new buf l = ap (λ (e : LiveEnds). e.allow_list) l.ends
    ∙ looked_same s t (answers_for None l.refused new) buf old

-- and what is in the buffer then is no matter
quiet_from : (c : Option Peer) (buf other : List ℕ) (e : LiveEnds) → peer_read c Quiet buf e
    ≡ peer_read c Quiet other e
quiet_from None buf other e = refl
quiet_from (Some peer) buf other e = refl

quiet_at : (s : EventSource) (t : ℕ) (r : List IpAddr) (old new : LiveEnds) (buf other : List ℕ)
    → looked_at s t (answers_for None r new) buf old
    ≡ looked_at s t (answers_for None r new) other old
quiet_at Listener t r old new buf other = refl
quiet_at Connection t r old new buf other = quiet_from old.connection buf other old
quiet_at Line t r old new buf other = refl

quiet : (s : EventSource) (t : ℕ) (old new : LiveEnds) (buf other : List ℕ)
    → LooksInRound s t old None buf new
    → LooksInRound s t old None other new
quiet s t old new buf other l =
    record {
      refused = l.refused;
      strangers = l.strangers;
      peer = l.peer;
      found = l.found;
      ends = l.ends ∙ quiet_at s t l.refused old new buf other;
    }

found_1 : (s : EventSource) (a b c : Answers) (e : LiveEnds) → found_at s (joined s a b c) e
    ≡ found_at s a e
unfolding joined
found_1 Listener a b c e = refl
found_1 Connection a b c e = refl
found_1 Line a b c e = refl

ends_1 : (s : EventSource) (n : ℕ) (a b c : Answers) (buf : List ℕ) (e : LiveEnds)
    → looked_at s n (joined s a b c) buf e ≡ looked_at s n a buf e
unfolding joined
ends_1 Listener n a b c buf e = refl
ends_1 Connection n a b c buf e = refl
ends_1 Line n a b c buf e = refl

found_2 : (s : EventSource) (a b c : Answers) (e : LiveEnds) → found_at (after s) (joined s a b c) e
    ≡ found_at (after s) b e
unfolding joined
found_2 Listener a b c e = refl
found_2 Connection a b c e = refl
found_2 Line a b c e = refl

ends_2 : (s : EventSource) (n : ℕ) (a b c : Answers) (buf : List ℕ) (e : LiveEnds)
    → looked_at (after s) n (joined s a b c) buf e ≡ looked_at (after s) n b buf e
unfolding joined
ends_2 Listener n a b c buf e = refl
ends_2 Connection n a b c buf e = refl
ends_2 Line n a b c buf e = refl

found_3 : (s : EventSource) (a b c : Answers) (e : LiveEnds)
    → found_at (after (after s)) (joined s a b c) e
    ≡ found_at (after (after s)) c e
unfolding joined
found_3 Listener a b c e = refl
found_3 Connection a b c e = refl
found_3 Line a b c e = refl

ends_3 : (s : EventSource) (n : ℕ) (a b c : Answers) (buf : List ℕ) (e : LiveEnds)
    → looked_at (after (after s)) n (joined s a b c) buf e ≡ looked_at (after (after s)) n c buf e
unfolding joined
ends_3 Listener n a b c buf e = refl
ends_3 Connection n a b c buf e = refl
ends_3 Line n a b c buf e = refl

-- a look with these answers
look_of : (s : EventSource) (t : ℕ) (a : Answers) (buf : List ℕ) (e n : LiveEnds)
    (f : Option SourceEvent)
    (others : LiveEnds
    → Option SourceEvent × LiveEnds)
    → f ≡ found_at s a e → n ≡ next_round s f (looked_at s t a buf e)
    → look s t a buf e others ≡ unless_found f n others
look_of s t a buf e n f others found ends = rw (ends, ← found) refl

-- what the buffer begins with
front_by : (a b : Bool) (h buf : List ℕ) → take (length h) buf ≡ h → IsFront a b h buf
front_by true b h buf x = tt
front_by false true h buf x = tt
front_by false false h buf x = x

none_of : (h : List ℕ) → (length h == 0) ≡ true → h ≡ []
none_of [] empty = refl
none_of (x ∷ h) empty = absurd (grind (arith, empty))

front_none : (a b : Bool) (h buf : List ℕ) → h ≡ [] → IsFront a b h buf
front_none a b h buf none =
    let P : List ℕ → Type 0 = λ h. take (length h) buf ≡ h in
    front_by a b h buf (subst P (sym none) refl)

-- of no look
abbrev no_answers : Answers
no_answers = record {
  peer = None;
  refused = [];
  connection = Quiet;
  line = Quiet;
  presence = None;
}

-- the cut that is due
pub due_turn : (t : ℕ) (buf : List ℕ) (old new : LiveEnds) → old.is_cut_due ≡ true
    → new ≡ record old {
      connection = None;
      held = [];
      first = after Connection;
      is_cut_due =
          false;
    }
    → IsTurn t old (Some Cut) buf new
due_turn t buf old new due done = record {
  answers = no_answers;
  peer = tt;
  strangers = no_strangers old.allow_list;
  front = let P : Bool → Type 0 = λ d. IsFront d (is_behind old.timing t) old.held buf in
      subst P (sym due) tt;
  turned = rw (due, done) refl;
}

look_1 : (s : EventSource) (t : ℕ) (a b c : Answers) (buf : List ℕ) (e n : LiveEnds)
    (f : Option SourceEvent)
    (others : LiveEnds
    → Option SourceEvent × LiveEnds)
    → f ≡ found_at s a e → n ≡ next_round s f (looked_at s t a buf e)
    → look s t (joined s a b c) buf e others ≡ unless_found f n others
look_1 s t a b c buf e n f others found ends = look_of s t (joined s a b c) buf e n f others (found
    ∙ sym (found_1 s a b c e)) (ends ∙ ap (next_round s f) (sym (ends_1 s t a b c buf e)))

look_2 : (s : EventSource) (t : ℕ) (a b c : Answers) (buf : List ℕ) (e n : LiveEnds)
    (f : Option SourceEvent)
    (others : LiveEnds
    → Option SourceEvent × LiveEnds)
    → f ≡ found_at (after s) b e → n ≡ next_round (after s) f (looked_at (after s) t b buf e)
    → look (after s) t (joined s a b c) buf e others ≡ unless_found f n others
look_2 s t a b c buf e n f others found ends = look_of (after s) t (joined s a b c) buf e n f others
    (found
    ∙ sym (found_2 s a b c e)) (ends ∙ ap (next_round (after s) f) (sym (ends_2 s t a b c buf e)))

look_3 : (s : EventSource) (t : ℕ) (a b c : Answers) (buf : List ℕ) (e n : LiveEnds)
    (f : Option SourceEvent)
    (others : LiveEnds
    → Option SourceEvent × LiveEnds)
    → f ≡ found_at (after (after s)) c e
    → n ≡ next_round (after (after s)) f (looked_at (after (after s)) t c buf e)
    → look (after (after s)) t (joined s a b c) buf e others ≡ unless_found f n others
look_3 s t a b c buf e n f others found ends = look_of (after (after s)) t (joined s a b c) buf e n
    f others (found
    ∙ sym (found_3 s a b c e)) (ends
    ∙ ap (next_round (after (after s)) f) (sym (ends_3 s t a b c buf e)))

-- no cut is due, no moment too far behind, and nothing is held
plain : (t : ℕ) (answers : Answers) (buf : List ℕ) (old : LiveEnds) → old.is_cut_due ≡ false
    → is_behind old.timing t ≡ false → (length old.held == 0) ≡ true
    → turn t answers buf old ≡ round t answers buf old
plain t answers buf old due level none = ap (λ b. turn_by b t answers buf old) due
    ∙ (ap (λ b. sources_by b t answers buf old) level
    ∙ ap (λ h. held_by h t answers buf old) (none_of old.held none))

-- octets that are held
held_some : (h : List ℕ) (t : ℕ) (a : Answers) (buf : List ℕ) (e : LiveEnds) → (length h == 0)
    ≡ false
    → (Some (Bytes (length h)), record e { held = []; first = after Connection })
    ≡ held_by h t a buf e
held_some [] t a buf e some = absurd (cc)
held_some (x ∷ h) t a buf e some = refl

pub held_turn : (t : ℕ) (buf : List ℕ) (old new : LiveEnds) (f : SourceEvent) → old.is_cut_due
    ≡ false
    → is_behind old.timing t ≡ false → (length old.held == 0) ≡ false → f ≡ Bytes (length old.held)
    → take (length old.held) buf ≡ old.held
    → new ≡ record old { held = []; first = after Connection }
    → IsTurn t old (Some f) buf new
held_turn t buf old new f due level some is front done =
    let a = no_answers in
    record {
      answers = a;
      peer = tt;
      strangers = no_strangers old.allow_list;
      front = front_by old.is_cut_due (is_behind old.timing t) old.held buf front;
      turned = rw (is, done) (held_some old.held t a buf old some
          ∙ sym (ap (λ b. turn_by b t a buf old) due ∙ ap (λ b. sources_by b t a buf old) level));
    }

last_look : (f : Option SourceEvent) (n : LiveEnds) → unless_found f n nothing_more ≡ (f, n)
last_look None n = refl
last_look (Some f) n = refl

-- the line alone is looked at
pub line_turn : (t : ℕ) (buf : List ℕ) (old new : LiveEnds) (f : Option SourceEvent)
    → old.is_cut_due ≡ false
    → is_behind old.timing t ≡ true → LooksInRound Line t old f buf new → IsTurn t old f buf new
line_turn t buf old new f due behind l =
    let a = answers_for f l.refused new in
    record {
      answers = a;
      peer = l.peer;
      strangers = l.strangers;
      front = let P : Bool → Type 0 = λ d. IsFront d (is_behind old.timing t) old.held buf in
          let Q : Bool → Type 0 = λ b. IsFront false b old.held buf in
          subst P (sym due) (subst Q (sym behind) tt);
      turned = sym (ap (λ b. turn_by b t a buf old) due ∙ (ap (λ b. sources_by b t a buf old) behind
          ∙ (look_of Line t a buf old new f nothing_more l.found l.ends ∙ last_look f new)));
    }

-- the first look finds something
pub first_turn : (t : ℕ) (buf : List ℕ) (old new : LiveEnds) (f : SourceEvent) → old.is_cut_due
    ≡ false
    → is_behind old.timing t ≡ false → (length old.held == 0) ≡ true
    → LooksInRound old.first t old (Some f) buf new
    → IsTurn t old (Some f) buf new
first_turn t buf old new f due level none l =
    let a = answers_for (Some f) l.refused new in
    record {
      answers = joined old.first a a a;
      peer = joined_peer old.allow_list old.first a a a l.peer l.peer l.peer;
      strangers = joined_strangers old.allow_list old.first a a a l.strangers l.strangers
          l.strangers;
      front = front_none old.is_cut_due (is_behind old.timing t) old.held buf
          (none_of old.held none);
      turned = sym (plain t (joined old.first a a a) buf old due level none
          ∙ look_1 old.first t a a a buf old new (Some f) _ l.found l.ends);
    }

-- the second look finds something
pub second_turn : (t : ℕ) (before buf : List ℕ) (old mid new : LiveEnds) (f : SourceEvent)
    → old.is_cut_due
    ≡ false
    → is_behind old.timing t ≡ false → (length old.held == 0) ≡ true
    → LooksInRound old.first t old None before mid
    → LooksInRound (after old.first) t mid (Some f) buf new → IsTurn t old (Some f) buf new
unfolding quiet
second_turn t before buf old mid new f due level none first m =
    let a = answers_for None first.refused mid in
    let b = answers_for (Some f) m.refused new in
    let l = quiet old.first t old mid before buf first in
    let same = same_allow_list old.first t old mid buf l in
    let P : AllowList → Type 0 = λ g. IfSome b.peer (IsAllowedPeer g) in
    let R : AllowList → Type 0 = λ g. AreStrangers g b.refused in
    let second = subst P same m.peer in
    let away = subst R same m.strangers in
    record {
      answers = joined old.first a b b;
      peer = joined_peer old.allow_list old.first a b b l.peer second second;
      strangers = joined_strangers old.allow_list old.first a b b l.strangers away away;
      front = front_none old.is_cut_due (is_behind old.timing t) old.held buf
          (none_of old.held none);
      turned = sym (plain t (joined old.first a b b) buf old due level none
          ∙ (look_1 old.first t a b b buf old mid None _ l.found l.ends
          ∙ look_2 old.first t a b b buf mid new (Some f) _ m.found m.ends));
    }

-- the third look decides the turn
pub third_turn : (t : ℕ) (before then buf : List ℕ) (old mid more new : LiveEnds)
    (f : Option SourceEvent)
    → old.is_cut_due ≡ false → is_behind old.timing t ≡ false → (length old.held == 0) ≡ true
    → LooksInRound old.first t old None before mid → LooksInRound (after old.first) t mid None
    then more
    → LooksInRound (after (after old.first)) t more f buf new
    → IsTurn t old f buf new
unfolding quiet
third_turn t before then buf old mid more new f due level none first second n =
    let a = answers_for None first.refused mid in
    let b = answers_for None second.refused more in
    let c = answers_for f n.refused new in
    let l = quiet old.first t old mid before buf first in
    let m = quiet (after old.first) t mid more then buf second in
    let same = same_allow_list old.first t old mid buf l in
    let P : AllowList → Type 0 = λ g. IfSome b.peer (IsAllowedPeer g) in
    let Q : AllowList → Type 0 = λ g. IfSome c.peer (IsAllowedPeer g) in
    let R : AllowList → Type 0 = λ g. AreStrangers g b.refused in
    let S : AllowList → Type 0 = λ g. AreStrangers g c.refused in
    let last = same_allow_list (after old.first) t mid more buf m ∙ same in
    record {
      answers = joined old.first a b c;
      peer = joined_peer old.allow_list old.first a b c l.peer (subst P same m.peer)
          (subst Q last n.peer);
      strangers = joined_strangers old.allow_list old.first a b c l.strangers
          (subst R same m.strangers) (subst S last n.strangers);
      front = front_none old.is_cut_due (is_behind old.timing t) old.held buf
          (none_of old.held none);
      turned = sym (plain t (joined old.first a b c) buf old due level none
          ∙ (look_1 old.first t a b c buf old mid None _ l.found l.ends
          ∙ (look_2 old.first t a b c buf mid more None _ m.found m.ends
          ∙ (look_3 old.first t a b c buf more new f _ n.found n.ends ∙ last_look f new))));
    }

-- octets that came too far behind the clock
pub given_held : (now : ℕ) (old new : LiveEnds) (len : ℕ) (event : Next) (buf : List ℕ)
    → is_behind old.timing now ≡ true
    → new ≡ record old { held = take len buf } → event ≡ event_at (moment_at new.timing now) None
    → GivesEvent now old (Some (Bytes len)) event buf new
given_held now old new len event buf behind done given =
    let nothing : Option SourceEvent = None in record {
      taken = nothing;
      ends = ap (λ e. (nothing, e)) done
          ∙ sym (ap (λ b. taken_by b buf (Some (Bytes len)) old) behind);
      given = given;
    }

-- octets that came in time
pub given_level : (now : ℕ) (old : LiveEnds) (f : Option SourceEvent) (event : Next) (buf : List ℕ)
    → is_behind old.timing now ≡ false
    → event ≡ event_at (told_at old.timing (brings_frame f buf) now) f
    → GivesEvent now old f event buf old
given_level now old f event buf level given = record {
  taken = f;
  ends = sym (ap (λ b. taken_by b buf f old) level);
  given = given;
}

-- one more that found nothing
quiet_more_by : (start before found : LiveEnds) (first count begun now : ℕ) (f : Option SourceEvent)
    (buf : List ℕ)
    → QuietRounds start first count begun before → IsTurn begun before f buf found → is_some f
    ≡ false
    → is_tick_due first (is_awaited start.timing) now found ≡ false
    → QuietRounds start first (count + 1) now (clock_read_at now found)
quiet_more_by start before found first count begun now None buf quiet turn nothing undue =
    OneRound count begun now before found buf quiet turn undue
quiet_more_by start before found first count begun now (Some f) buf quiet turn nothing undue =
    absurd (cc)

-- a tick is due or not, by what the port has at hand
due_of : (start found new : LiveEnds) (first now : ℕ) (was is_due : Bool)
    → was ≡ is_awaited start.timing
    → new ≡ clock_read_at now found → is_due ≡ is_tick_due first was now new
    → is_tick_due first (is_awaited start.timing) now found ≡ is_due
due_of start found new first now was is_due awaited done is =
    sym (is ∙ (ap (λ (e : LiveEnds). is_tick_due first was now e) done
    ∙ ap (λ w. is_tick_due first w now found) awaited))

pub quiet_more : (start before found new : LiveEnds) (first count begun now : ℕ)
    (f : Option SourceEvent)
    (buf : List ℕ)
    (was is_due : Bool) → QuietRounds start first count begun before
    → IsTurn begun before f buf found
    → is_some f ≡ false → was ≡ is_awaited start.timing → new ≡ clock_read_at now found
    → is_due ≡ is_tick_due first was now new → is_due ≡ false
    → QuietRounds start first (count + 1) now new
quiet_more start before found new first count begun now f buf was is_due quiet turn nothing awaited
    done is undue =
    let P : LiveEnds → Type 0 = λ e. QuietRounds start first (count + 1) now e in
    subst P (sym done) (quiet_more_by start before found first count begun now f buf quiet turn
    nothing
    (due_of start found new first now was is_due awaited done is ∙ undue))

-- and if nothing was, nothing failed
pub none_failed : (f : Option SourceEvent) (old new : ℕ) → is_some f ≡ false
    → new ≡ old + faults_in f
    → new ≡ old
none_failed None old new nothing is = omega (arith, is)
none_failed (Some f) old new nothing is = absurd (cc)

-- a turn, with its event
pub turned : (old found new : LiveEnds) (first now : ℕ) (f : Option SourceEvent) (event : Next)
    (buf : List ℕ)
    →
    is_wall_due old.walled first ≡ false
    → LooksOn first (looking (clock_read_at first old)) now f buf found →
    GivesEvent now found f event buf new → Turns old event buf new
turned old found new first now f event buf due looks given =
    let t : TurnsToEnds old event buf new =
    record {
      first = first;
      due = due;
      now = now;
      f = f;
      found = found;
      looks = looks;
      given =
          given;
    } in
    inr t

-- the wall clock, which is due
pub turned_to_wall : (old new : LiveEnds) (begun : ℕ) (event : Next) (buf : List ℕ)
    → is_wall_due old.walled begun ≡ true →
    GivesWall begun (clock_read_at begun old) event new → Turns old event buf new
turned_to_wall old new begun event buf due given =
    let t : TurnsToWall old event new = record { begun = begun; due = due; given = given } in
    inl t
