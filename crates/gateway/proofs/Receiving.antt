-- A whole frame is taken, or the octets left are the beginning of one.
use Rattle.std.proofs.Common.{◌≡◌, ℕ, Bool, true, false, List, [], ◌∷◌, ◌++◌, length, refl, ap, sym}
use Rattle.std.proofs.Common.{◌∙◌, subst, append_assoc, inl, inr, Option, Some, None}
use Rattle.std.proofs.lemmas.List.{append-nil}
use Rattle.std.proofs.lemmas.Bool.{false≢true}
use Rattle.apci.specs.declared.apdu.Apdu.{Apdu}
use Rattle.apci.specs.Spelling.{spelling, Fits}
use Rattle.apci.specs.Reading.{IsMore}
use Rattle.session.specs.Session as session
use Rattle.session.specs.Session.{refuses}
use Rattle.gateway.specs.Log.{Log}
use Rattle.gateway.specs.Streams.{spelled}
use Rattle.gateway.specs.Frames.{fault_of}
use Rattle.gateway.specs.Connections.{present, past}
use Rattle.gateway.specs.Reports.{Setup}
use Rattle.gateway.specs.Serial as serial
use Rattle.gateway.specs.Serial.{Serial, has_place}
use Rattle.gateway.specs.Walls.{wall_of, wall_on}
use Rattle.gateway.specs.State.{State, wall_now, with_octets, framed}
use Rattle.gateway.specs.Course.{Course, here_of, came_frames, with_frame, HasAnswered}
use Rattle.gateway.specs.Phases.{Phase, Taking, Judged, Idle, IsPast, IsLeftIn, after_frame}
use Rattle.gateway.specs.Agrees.{IsAt, Agrees, IsClear, IsUndue, pending}
use Rattle.gateway.proofs.Alike.{received_serial}
use Rattle.gateway.proofs.Working.{received_placed}
use Rattle.gateway.proofs.Plain.{received_plain}
use Rattle.gateway.proofs.Talking.{talk_received, confirmed_by}
use Rattle.gateway.proofs.Tied.{tied_taken}
use Rattle.gateway.proofs.Frames.{taken_stays, nothing_waits}
use Rattle.gateway.proofs.Phases.{flushed_by, undue_by}

-- the works when a frame is taken, by whether its answer finds a place
received_stands : (p : Setup) (s : State) (log : Log) (f : Apdu) (c : Course) (kept : Bool)
    (wall : Option ℕ)
    → wall_now s ≡ wall → has_place f s.moment (wall_now s) s.serial.commands ≡ kept
    → IsAt p log Taking s c
    → IsAt p log (after_frame kept) (framed f s) (with_frame p f s.moment wall c)
received_stands p s log f c true wall same place h = record {
  does = ap (serial.judged f s.moment (wall_now s)) h.does
      ∙ ap (λ x. serial.judged f s.moment x c.works.serial) same
      ∙ sym (received_serial f s.moment wall c.works);
  asks = h.asks;
  phase_is = h.phase_is;
  placed =
      λ o. received_placed f s.moment wall c.works
      (ap (λ x. has_place f s.moment x c.works.serial.commands)
      (sym same) ∙ ap (λ (z : Serial). has_place f s.moment (wall_now s) z.commands) (sym h.does)
      ∙ place) ∙ h.placed o;
  answered = tt;
}
received_stands p s log f c false wall same place h = record {
  does = ap (serial.judged f s.moment (wall_now s)) h.does
      ∙ ap (λ x. serial.judged f s.moment x c.works.serial) same
      ∙ sym (received_serial f s.moment wall c.works);
  asks = h.asks;
  phase_is = h.phase_is.1;
  placed = tt;
  answered = tt;
}

received_left : (kept : Bool) (log : Log) (rest : List ℕ) {o : Option (List ℕ)}
    → IsPast log (length rest) → o ≡ Some []
    → IsLeftIn (after_frame kept) log (pending o) rest
received_left true log rest past e = subst (λ x. IsPast log (length (pending x ++ rest))) (sym e)
    past
received_left false log rest past e = tt

-- a whole frame without fault is taken
pub after_received : (p : Setup) (s : State) (log : Log) (unjudged rest : List ℕ) (f : Apdu)
    (a : Agrees p s log unjudged Taking) → session.is_open s.centre.session ≡ true → IsClear s
    → IsUndue s log unjudged
    → IsPast log (length rest) → s.centre.so_far ≡ Some [] → Fits f → a.here.so_far ++ unjudged
    ≡ spelling f ++ rest
    → refuses s.centre.session f ≡ false
    → fault_of (length a.course.sent) (came_frames a.course.talk) f ≡ None →
    (kept : Bool) → has_place f s.moment (wall_now s) s.serial.commands ≡ kept
    → Agrees p (framed f s) log rest (after_frame kept)
after_received p s log unjudged rest f a on ready undue past so fits whole passes faultless kept
    place =
    let joined : (present log).received ≡ spelled (f ∷ came_frames a.course.talk) ++ rest =
    a.here.joined
    ∙ ap (λ x. spelled (came_frames a.course.talk) ++ x) whole
    ∙ sym (append_assoc (spelled (came_frames a.course.talk)) (spelling f) rest) in
    let stays = taken_stays f s.moment s.centre.session in
    record {
      k = stays.k ∙ a.k;
      sizes = a.sizes;
      places = a.places;
      clock = a.clock;
      wall = a.wall;
      settled = a.settled;
      found = a.found;
      line = a.line;
      course = with_frame p f s.moment (wall_on log s.moment) a.course;
      talk = talk_received p s.centre.session log a.course s.moment f rest a.talk
          a.stands.phase_is.0
          a.clock on
          ready.confirmed fits passes (a.stands.placed (sym a.here.link ∙ on))
          (flushed_by p s log unjudged Taking a ready.spent)
          (undue_by p s log unjudged Taking a undue) joined;
      stands = received_stands p s log f a.course kept (wall_on log s.moment)
          (ap (λ w. wall_of w s.moment) a.wall) place a.stands;
      gaps = a.gaps;
      plain = received_plain a.talk.command_laws f s.moment (wall_now s) s.serial.commands fits
          a.plain;
      here = record {
        link = stays.connected ∙ a.here.link;
        none = λ off. absurd (false≢true (sym off ∙ sym a.here.link ∙ on));
        put = a.here.put;
        handed = a.here.handed;
        sent = a.here.sent;
        so_far = [];
        assembler = so;
        taken = a.here.taken;
        waits = nothing_waits;
        joined = joined;
        fit = (fits, a.here.fit);
        pass = (faultless, a.here.pass);
        tied = tied_taken f s.moment (here_of a.course) s.centre.session s.centre.queue.sent on
            a.here.tied passes;
        numbered = a.here.numbered;
      };
      left = received_left kept log rest past so;
      carries = a.carries;
      before = a.before;
    }

pub received_course : (p : Setup) (s : State) (log : Log) (unjudged rest : List ℕ) (f : Apdu)
    (a : Agrees p s log unjudged Taking) (on : session.is_open s.centre.session ≡ true)
    (ready : IsClear s)
    (undue : IsUndue s log unjudged) (past : IsPast log (length rest)) (so : s.centre.so_far
    ≡ Some []) (fits : Fits f)
    (whole : a.here.so_far ++ unjudged ≡ spelling f ++ rest) (passes : refuses s.centre.session f
    ≡ false)
    (faultless : fault_of (length a.course.sent) (came_frames a.course.talk) f ≡ None) (kept : Bool)
    (place : has_place f s.moment (wall_now s) s.serial.commands ≡ kept) →
    (after_received p s log unjudged rest f a on ready undue past so fits whole passes faultless
    kept
    place).course
    ≡ with_frame p f s.moment (wall_on log s.moment) a.course
unfolding after_received
received_course p s log unjudged rest f a on ready undue past so fits whole passes faultless kept
    place = refl

-- the same of another assembler's state
pub with_so_far : (p : Setup) (s : State) (log : Log) (unjudged rest so_far : List ℕ)
    (phase : Phase)
    (a : Agrees p s log unjudged phase) → IsMore so_far
    → (present log).received ≡ spelled (came_frames a.course.talk) ++ (so_far ++ rest)
    → IsLeftIn phase log so_far rest
    → Agrees p (with_octets (Some so_far) s) log rest phase
with_so_far p s log unjudged rest so_far phase a waits joined left = record {
  k = a.k;
  sizes = a.sizes;
  places = a.places;
  clock = a.clock;
  wall = a.wall;
  settled = a.settled;
  found = a.found;
  line = a.line;
  course = a.course;
  talk = a.talk;
  stands = record {
    does = a.stands.does;
    asks = a.stands.asks;
    phase_is = a.stands.phase_is;
    placed = a.stands.placed;
    answered = a.stands.answered;
  };
  gaps = a.gaps;
  plain = a.plain;
  here = record {
    link = a.here.link;
    none = a.here.none;
    put = a.here.put;
    handed = a.here.handed;
    sent = a.here.sent;
    so_far = so_far;
    assembler = refl;
    taken = refl;
    waits = waits;
    joined = joined;
    fit = a.here.fit;
    pass = a.here.pass;
    tied = a.here.tied;
    numbered = a.here.numbered;
  };
  left = left;
  carries = a.carries;
  before = a.before;
}

-- the octets left are the beginning of a frame
pub after_more : (p : Setup) (s t : State) (log : Log) (unjudged : List ℕ)
    (a : Agrees p s log unjudged Taking)
    → IsMore (a.here.so_far ++ unjudged) → t ≡ with_octets (Some (a.here.so_far ++ unjudged)) s
    → Agrees p t log [] Taking
after_more p s t log unjudged a waits e =
    subst (λ x. Agrees p x log [] Taking) (sym e)
    (with_so_far p s log unjudged [] (a.here.so_far ++ unjudged) Taking a waits (a.here.joined
    ∙ ap (λ x. spelled (came_frames a.course.talk) ++ x)
    (sym (append-nil (a.here.so_far ++ unjudged)))) tt)

-- What goes out behind the frames taken has gone out.
answered_by : (p : Setup) (s : State) (log : Log) (unjudged : List ℕ) (phase : Phase)
    (a : Agrees p s log unjudged phase) → IsClear s → IsUndue s log unjudged
    → HasAnswered p log a.course
answered_by p s log unjudged phase a clear undue = elim (undue_by p s log unjudged phase a undue) [
  | inl none ↦ inl none
  | inr none ↦ inr (record {
    confirmed = sym (confirmed_by p s.centre.session log a.course a.talk) ∙ clear.confirmed;
    flushed = flushed_by p s log unjudged phase a clear.spent;
    undue = none;
  })
]

-- The event is taken.
pub now_idle : (p : Setup) (s : State) (log : Log) → IsClear s → IsUndue s log []
    → Agrees p s log [] Taking
    → Agrees p s log [] Idle
now_idle p s log clear undue a = record {
  k = a.k;
  sizes = a.sizes;
  places = a.places;
  clock = a.clock;
  wall = a.wall;
  settled = a.settled;
  found = a.found;
  line = a.line;
  course = a.course;
  talk = a.talk;
  stands = record {
    does = a.stands.does;
    asks = a.stands.asks;
    phase_is = a.stands.phase_is.1;
    placed = a.stands.placed;
    answered = answered_by p s log [] Taking a clear undue;
  };
  gaps = a.gaps;
  plain = a.plain;
  here = a.here;
  left = refl;
  carries = a.carries;
  before = a.before;
}

-- What follows from a frame has gone out.
pub now_taking : (p : Setup) (s : State) (log : Log) (unjudged : List ℕ)
    → Agrees p s log unjudged Judged
    → Agrees p s log unjudged Taking
now_taking p s log unjudged a = record {
  k = a.k;
  sizes = a.sizes;
  places = a.places;
  clock = a.clock;
  wall = a.wall;
  settled = a.settled;
  found = a.found;
  line = a.line;
  course = a.course;
  talk = a.talk;
  stands = record {
    does = a.stands.does;
    asks = a.stands.asks;
    phase_is = a.stands.phase_is;
    placed = a.stands.placed;
    answered = tt;
  };
  gaps = a.gaps;
  plain = a.plain;
  here = a.here;
  left = tt;
  carries = a.carries;
  before = a.before;
}
