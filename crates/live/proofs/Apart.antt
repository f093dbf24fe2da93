-- What the looks of a turn leave as it was: what is fixed, the log, the clock, and when the wall
-- clock was given.
use Rattle.std.proofs.Common.{◌≡◌, ℕ, true, false, Bool, List, [], ◌∷◌, Option, Some, None, refl}
use Rattle.std.proofs.Common.{ap, ◌∙◌}
use Rattle.gateway.specs.Log.{Log}
use Rattle.live.specs.Timing.{Moments, is_behind}
use Rattle.live.specs.Ends.{LiveEnds, Peer, Answers, taken_by, turn_by, sources_by, held_by, round}
use Rattle.live.specs.Ends.{look, unless_found, next_round, looked_at, found_at, after}
use Rattle.live.specs.Ends.{nothing_more, accepted, turned_away, Fixture, fixed_of}
use Rattle.live.specs.declared.found.SourceEvent.{SourceEvent}
use Rattle.live.specs.declared.found.SourceEvent.TheVariants as found
use Rattle.live.specs.declared.source.EventSource.{EventSource}
use Rattle.live.specs.declared.source.EventSource.TheVariants.{Listener, Connection, Line}
use Rattle.live.specs.declared.allow_list.AllowList.{AllowList}
use Rattle.live.specs.declared.walled.Walled.{Walled}

-- a part of the ends that no look touches
pub record Apart {A : Type 0} (part : LiveEnds → A) : Type 0 where
  pub looked : (s : EventSource) (t : ℕ) (a : Answers) (buf : List ℕ) (e : LiveEnds)
      → part (looked_at s t a buf e) ≡ part e
  pub moved : (s : EventSource) (e : LiveEnds) → part (record e { first = s }) ≡ part e
  pub ended : (e : LiveEnds) (s : EventSource)
      → part (record e { connection = None; held = []; first = s; is_cut_due = false })
      ≡ part e
  pub given : (e : LiveEnds) (s : EventSource) → part (record e { held = []; first = s }) ≡ part e
  pub kept : (e : LiveEnds) (held : List ℕ) → part (record e { held = held }) ≡ part e

-- what goes on leaves it as it is
IsSilent : {A : Type 0} → (LiveEnds → A) → (LiveEnds → Option SourceEvent × LiveEnds) → Type 0
IsSilent part others = (e : LiveEnds) → part (others e).1 ≡ part e

next_same : {A : Type 0} (part : LiveEnds → A) → Apart part
    → (s : EventSource) (f : Option SourceEvent) (e : LiveEnds)
    → part (next_round s f e) ≡ part e
next_same part p s None e = refl
next_same part p s (Some f) e = p.moved (after s) e

unless_same : {A : Type 0} (part : LiveEnds → A) (f : Option SourceEvent) (e : LiveEnds)
    (others : LiveEnds
    → Option SourceEvent × LiveEnds)
    → IsSilent part others → part (unless_found f e others).1 ≡ part e
unfolding IsSilent
unless_same part None e others on = on e
unless_same part (Some f) e others on = refl

look_same : {A : Type 0} (part : LiveEnds → A) → Apart part
    → (s : EventSource) (t : ℕ) (a : Answers) (buf : List ℕ)
    (others : LiveEnds → Option SourceEvent × LiveEnds) → IsSilent part others
    → IsSilent part (λ e. look s t a buf e others)
unfolding IsSilent
look_same part p s t a buf others on e =
    let f = found_at s a e in
    unless_same part f (next_round s f (looked_at s t a buf e)) others on
    ∙ (next_same part p s f (looked_at s t a buf e) ∙ p.looked s t a buf e)

nothing_same : {A : Type 0} (part : LiveEnds → A) → IsSilent part nothing_more
unfolding IsSilent
nothing_same part e = refl

round_same : {A : Type 0} (part : LiveEnds → A) → Apart part
    → (t : ℕ) (a : Answers) (buf : List ℕ) (e : LiveEnds)
    → part (round t a buf e).1 ≡ part e
unfolding IsSilent
round_same part p t a buf e =
    let third = look_same part p (after (after e.first)) t a buf nothing_more (nothing_same part) in
    let second = look_same part p (after e.first) t a buf
    (λ x. look (after (after e.first)) t a buf x nothing_more) third in
    look_same part p e.first t a buf
    (λ x. look (after e.first) t a buf x (λ y. look (after (after e.first)) t a buf y nothing_more))
    second e

held_same : {A : Type 0} (part : LiveEnds → A) → Apart part
    → (h : List ℕ) (t : ℕ) (a : Answers) (buf : List ℕ) (e : LiveEnds)
    → part (held_by h t a buf e).1 ≡ part e
held_same part p [] t a buf e = round_same part p t a buf e
held_same part p (octet ∷ octets) t a buf e = p.given e (after Connection)

sources_same : {A : Type 0} (part : LiveEnds → A) → Apart part
    → (b : Bool) (t : ℕ) (a : Answers) (buf : List ℕ) (e : LiveEnds)
    → part (sources_by b t a buf e).1 ≡ part e
unfolding IsSilent
sources_same part p true t a buf e = look_same part p Line t a buf nothing_more (nothing_same part)
    e
sources_same part p false t a buf e = held_same part p e.held t a buf e

pub turn_same : {A : Type 0} (part : LiveEnds → A) → Apart part
    → (d : Bool) (t : ℕ) (a : Answers) (buf : List ℕ) (e : LiveEnds)
    → part (turn_by d t a buf e).1 ≡ part e
turn_same part p true t a buf e = p.ended e (after Connection)
turn_same part p false t a buf e = sources_same part p (is_behind e.timing t) t a buf e

pub taken_same : {A : Type 0} (part : LiveEnds → A) → Apart part
    → (b : Bool) (buf : List ℕ) (f : Option SourceEvent) (e : LiveEnds)
    → part (taken_by b buf f e).1 ≡ part e
taken_same part p false buf f e = refl
taken_same part p true buf None e = refl
taken_same part p true buf (Some found.Open) e = refl
taken_same part p true buf (Some (found.Bytes len)) e = p.kept e _
taken_same part p true buf (Some found.Cut) e = refl
taken_same part p true buf (Some (found.Line len)) e = refl
taken_same part p true buf (Some found.Fault) e = refl

-- What is taken from such a part is one too.
pub apart_by : {A B : Type 0} (part : LiveEnds → A) → Apart part → (f : A → B)
    → Apart (λ e. f (part e))
apart_by part p f = record {
  looked = λ s t a buf e. ap f (p.looked s t a buf e);
  moved = λ s e. ap f (p.moved s e);
  ended = λ e s. ap f (p.ended e s);
  given = λ e s. ap f (p.given e s);
  kept = λ e held. ap f (p.kept e held);
}

-- what no look touches
abbrev pub untouched : LiveEnds → Fixture × Log × Walled × Moments
untouched e = (fixed_of e, e.log, e.walled, e.clock)

at_listener : (v : Option Peer) (e : LiveEnds) → untouched (accepted v e) ≡ untouched e
at_listener None e = refl
at_listener (Some peer) e = refl

untouched_looked : (s : EventSource) (t : ℕ) (a : Answers) (buf : List ℕ) (e : LiveEnds)
    → untouched (looked_at s t a buf e) ≡ untouched e
untouched_looked Listener t a buf e = at_listener a.peer (turned_away a.refused e)
untouched_looked Connection t a buf e = refl
untouched_looked Line t a buf e = refl

untouched_apart : Apart untouched
untouched_apart = record {
  looked = untouched_looked;
  moved = λ s e. refl;
  ended = λ e s. refl;
  given = λ e s. refl;
  kept = λ e held. refl;
}

pub fixed_apart : Apart fixed_of
fixed_apart = apart_by untouched untouched_apart (λ u. u.0)

abbrev pub allow_list_of : LiveEnds → AllowList
allow_list_of e = e.allow_list

pub allow_list_apart : Apart allow_list_of
allow_list_apart = apart_by untouched untouched_apart (λ u. u.0.allow_list)

abbrev pub log_of : LiveEnds → Log
log_of e = e.log

pub log_apart : Apart log_of
log_apart = apart_by untouched untouched_apart (λ u. u.1)

abbrev pub walled_of : LiveEnds → Walled
walled_of e = e.walled

pub walled_apart : Apart walled_of
walled_apart = apart_by untouched untouched_apart (λ u. u.2)

abbrev pub clock_of : LiveEnds → Moments
clock_of e = e.clock

pub clock_apart : Apart clock_of
clock_apart = apart_by untouched untouched_apart (λ u. u.3)
