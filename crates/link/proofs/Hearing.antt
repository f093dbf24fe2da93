-- An answer is heard, in whatever pieces it comes.
use Rattle.std.proofs.Common.{◌≡◌, ℕ, Bool, false, List, [], ◌∷◌, ◌++◌, Option, Some, None, refl}
use Rattle.std.proofs.Common.{ap, sym, subst, ◌∙◌}
use Rattle.std.proofs.Common.{append_assoc}
use Rattle.ft12.specs.declared.frame.Front.{Front}
use Rattle.ft12.specs.declared.frame.Front.TheVariants.{Whole, More, Never}
use Rattle.ft12.specs.declared.frame.Why.{Why}
use Rattle.link.specs.Answers.{Frame, Answer, answer_of}
use Rattle.link.specs.Exchanges.{Sending, whole_of}
use Rattle.link.specs.Hearing.{received_all}
use Rattle.link.specs.Turns.{Chosen, CommandsWaiting, station_at}
use Rattle.link.specs.Primary.{Primary, Outstanding, received, received_from}
use Rattle.link.specs.Primary.{received_after, received_outcome, outcome_from, outcome_after}
use Rattle.link.specs.Primary.{outcome_at, outcome_of, turn_gap, with_gap, with_octets, awaits}
use Rattle.link.specs.Primary.{said_by, took, open_octets, choice, after_choice, asked, asked_from}
use Rattle.link.specs.Primary.{sending, sending_by, sending_from}
use Rattle.link.specs.declared.outcome.Outcome.TheVariants as outcome

module _ (front : List ℕ → Front) (p : Primary) (o : Outstanding) where
  -- what octets say behind these
  learnt : (before octets : List ℕ) → p.outstanding ≡ Some o → o.arrived ≡ Some before
      → received_outcome front p octets ≡ outcome_at p o (whole_of (front (before ++ octets)))
  learnt before octets out arrived =
      ap (λ (x : Option Outstanding). outcome_from front p x octets) out
      ∙ ap (λ (x : Option (List ℕ)). outcome_after front p o x octets) arrived

  -- and what they leave
  left : (before octets : List ℕ) → p.outstanding ≡ Some o → o.arrived ≡ Some before
      → received front p octets ≡ took p (with_octets octets o)
      (open_octets (before ++ octets) (front (before ++ octets)))
      (whole_of (front (before ++ octets)))
  left before octets out arrived =
      ap (λ (x : Option Outstanding). received_from front p x octets) out
      ∙ ap (λ (x : Option (List ℕ)). received_after front p (with_octets octets o) x octets) arrived

  pub whole : (octets : List ℕ) (frame : Frame) (n : ℕ) → p.outstanding ≡ Some o
      → o.arrived ≡ Some [] → front octets ≡ Whole frame n
      → received_outcome front p octets ≡ with_gap (turn_gap p) (outcome_of p.turn o.request
      (answer_of (station_at p.stations p.turn).address o.request frame))
  whole octets frame n out arrived is =
      learnt [] octets out arrived ∙ ap (λ (f : Front). outcome_at p o (whole_of f)) is

  pub over : (octets : List ℕ) (frame : Frame) (n : ℕ) (answer : Answer) → p.outstanding ≡ Some o
      → o.arrived ≡ Some [] → front octets ≡ Whole frame n
      → answer_of (station_at p.stations p.turn).address o.request frame ≡ Some answer
      → (received front p octets).outstanding ≡ None
  over octets frame n answer out arrived is says =
      ap (λ (q : Primary). q.outstanding) (left [] octets out arrived
      ∙ ap (λ (f : Front). took p (with_octets octets o) (open_octets octets f) (whole_of f)) is
      ∙ ap (λ (a : Option Answer). said_by p (with_octets octets o) frame a) says)

  pub part : (before octets : List ℕ) → p.outstanding ≡ Some o → o.arrived ≡ Some before
      → front (before ++ octets) ≡ More → received_outcome front p octets ≡ outcome.None
  part before octets out arrived more =
      learnt before octets out arrived ∙ ap (λ (f : Front). outcome_at p o (whole_of f)) more

  -- the octets so far make no difference to what a frame says
  alike : (so_far : Option (List ℕ)) (more : List ℕ) (found : Option Frame)
      → outcome_at (awaits p (with_octets more o) so_far) o found ≡ outcome_at p o found
  alike so_far more None = refl
  alike so_far more (Some frame) = refl

pub pieces : (front : List ℕ → Front) (p : Primary) (o : Outstanding)
    (before first second : List ℕ) → p.outstanding ≡ Some o → o.arrived ≡ Some before
    → front (before ++ first) ≡ More
    → received_outcome front (received front p first) second
    ≡ received_outcome front p (first ++ second)
pieces front p o before first second out arrived more =
    let q : Primary = awaits p (with_octets first o) (Some (before ++ first)) in
    let behind : received front p first ≡ q =
    left front p o before first out arrived
    ∙ ap (λ (f : Front). took p (with_octets first o) (open_octets (before ++ first) f)
    (whole_of f)) more in
    ap (λ (x : Primary). received_outcome front x second) behind
    ∙ alike front p o (Some (before ++ first)) first
    (whole_of (front ((before ++ first) ++ second)))
    ∙ ap (λ (xs : List ℕ). outcome_at p o (whole_of (front xs)))
    (append_assoc before first second)
    ∙ sym (learnt front p o before (first ++ second) out arrived)

-- a request that is awaited from this moment on, with no octets so far
abbrev awaiting : Sending → (now : ℕ) → Outstanding
awaiting s now = record {
  request = s.request;
  since = now;
  arrived = Some [];
  has_octets = false;
}

abbrev IsAwaitedIn : Primary → Sending → (now : ℕ) → Type 0
IsAwaitedIn q s now = (q.turn ≡ s.station) × (q.outstanding ≡ Some (awaiting s now))

pub goes_out : (p : Primary) (now : ℕ) (may_poll : Bool) (waiting : CommandsWaiting)
    (s : Sending) → sending p may_poll waiting ≡ Some s →
    IsAwaitedIn (asked p now may_poll waiting) s now
goes_out p now may_poll waiting s is = go p.outstanding is
  where
    by : (c : Option Chosen) → sending_by c ≡ Some s → IsAwaitedIn (after_choice p now c) s now
    by None e = cc
    by (Some c) e =
        let same : record { station = c.station; request = c.wanted.request } ≡ s = cc in
        subst (λ (m : Sending). IsAwaitedIn (after_choice p now (Some c)) m now) same (refl, refl)

    go : (o : Option Outstanding) → sending_from p o may_poll waiting ≡ Some s →
        IsAwaitedIn (asked_from p o now may_poll waiting) s now
    go None e = by (choice p may_poll waiting) e
    go (Some o) e = cc

-- Nothing is heard any more of the request.
record IsDeaf (p : Primary) : Type 0 where
  o : Outstanding
  out : p.outstanding ≡ Some o
  deaf : o.arrived ≡ None

deaf_hears : (front : List ℕ → Front) (p : Primary) (octets : List ℕ) → IsDeaf p →
    received_outcome front p octets ≡ outcome.None
deaf_hears front p octets d =
    ap (λ (x : Option Outstanding). outcome_from front p x octets) d.out
    ∙ ap (λ (x : Option (List ℕ)). outcome_after front p d.o x octets) d.deaf

deaf_stays : (front : List ℕ → Front) (p : Primary) (octets : List ℕ) → IsDeaf p →
    IsDeaf (received front p octets)
deaf_stays front p octets d = record {
  o = record (with_octets octets d.o) { arrived = None };
  out =
      ap (λ (q : Primary). q.outstanding)
      (ap (λ (x : Option Outstanding). received_from front p x octets) d.out
      ∙ ap (λ (x : Option (List ℕ)). received_after front p (with_octets octets d.o) x octets)
      d.deaf);
  deaf = refl;
}

deaf_for_all : (front : List ℕ → Front) (p : Primary) (later : List (List ℕ))
    (last : List ℕ) → IsDeaf p →
    received_outcome front (received_all front p later) last ≡ outcome.None
deaf_for_all front p [] last d = deaf_hears front p last d
deaf_for_all front p (piece ∷ pieces) last d =
    deaf_for_all front (received front p piece) pieces last (deaf_stays front p piece d)

module _ (front : List ℕ → Front) (p : Primary) (o : Outstanding)
    (before first last : List ℕ) (later : List (List ℕ)) where
  abbrev NothingIsHeard : Type 0
  NothingIsHeard =
      (received_outcome front p first ≡ outcome.None)
      × (received_outcome front (received_all front (received front p first) later) last
      ≡ outcome.None)

  pub noise : (place : ℕ) (why : Why) → p.outstanding ≡ Some o → o.arrived ≡ Some before →
      front (before ++ first) ≡ Never place why → NothingIsHeard
  noise place why out arrived is = (
    learnt front p o before first out arrived
        ∙ ap (λ (f : Front). outcome_at p o (whole_of f)) is,
    deaf_for_all front (received front p first) later last (record {
      o = record (with_octets first o) { arrived = None };
      out =
          ap (λ (q : Primary). q.outstanding) (left front p o before first out arrived
          ∙ ap (λ (f : Front). took p (with_octets first o) (open_octets (before ++ first) f)
          (whole_of f)) is);
      deaf = refl;
    }),
  )

  pub other : (frame : Frame) (n : ℕ) → p.outstanding ≡ Some o → o.arrived ≡ Some before →
      front (before ++ first) ≡ Whole frame n →
      answer_of (station_at p.stations p.turn).address o.request frame ≡ None → NothingIsHeard
  other frame n out arrived is says = (
    learnt front p o before first out arrived
        ∙ ap (λ (f : Front). outcome_at p o (whole_of f)) is
        ∙ ap (λ (a : Option Answer). with_gap (turn_gap p) (outcome_of p.turn o.request a)) says,
    deaf_for_all front (received front p first) later last (record {
      o = record (with_octets first o) { arrived = None };
      out =
          ap (λ (q : Primary). q.outstanding) (left front p o before first out arrived
          ∙ ap (λ (f : Front). took p (with_octets first o) (open_octets (before ++ first) f)
          (whole_of f)) is
          ∙ ap (λ (a : Option Answer). said_by p (with_octets first o) frame a) says);
      deaf = refl;
    }),
  )
