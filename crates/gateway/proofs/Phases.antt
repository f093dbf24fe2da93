-- What the agreement of state and log shows of the phase that a step is in.
use Rattle.std.proofs.Common.{◌≡◌, ℕ, ◌≤◌, ◌&&◌, Bool, true, false, nat_lt, List, [], ◌∷◌}
use Rattle.std.proofs.Common.{◌++◌, length, refl, ap, sym, ◌∙◌, subst, arith, length-append, None}
use Rattle.std.proofs.Common.{inl, inr}
use Rattle.std.specs.List.{flat_map}
use Rattle.std.specs.Prelude.{◌⊎◌}
use Rattle.std.proofs.lemmas.Bool.{lt-ltb}
use Rattle.gateway.specs.Objects.{objects}
use Rattle.gateway.specs.Log.{Log, Went, TcpOut, latest}
use Rattle.gateway.specs.Streams.{spelled}
use Rattle.gateway.specs.Frames.{acknowledged_count, objects_of_frames}
use Rattle.gateway.specs.Connections.{present}
use Rattle.gateway.specs.Reports.{Setup}
use Rattle.gateway.specs.Serial.{Serial}
use Rattle.gateway.specs.State.{State}
use Rattle.gateway.specs.Works.{has_lacked_place, Works}
use Rattle.command.specs.History as happened
use Rattle.gateway.specs.Course.{came_frames, room_in, HasSentAll, IsFlushed, IsUntouched, HasBegun}
use Rattle.gateway.specs.Course.{IsTouched, HasAsked}
use Rattle.gateway.specs.Phases.{Phase, Fresh, Taking, Judged, Idle, Crowded, Timed, Asked, IsPast}
use Rattle.gateway.specs.Phases.{IsLeftIn, IsFlushing, IsPhase, works_in, IsAsked, IsPlaced}
use Rattle.gateway.specs.Behind.{EndsFrame}
use Rattle.session.specs.History as talk
use Rattle.session.specs.History.{History, frame_due}
use Rattle.gateway.specs.Agrees.{Agrees, IsSpent, IsUndue, IsAnswered, pending}
use Rattle.gateway.proofs.Working.{answers_in}
use Rattle.gateway.proofs.Talking.{at, all_taken, may_by, due_by}

-- Works in a phase, of another state and course

pub same_does : (phase : Phase) (at : ℕ) (room other : Bool) (w : Works) (s : Serial) → other ≡ room
    → s ≡ (works_in phase at room w).serial → s ≡ (works_in phase at other w).serial
same_does phase at room other w s same d = d ∙ ap (λ r. (works_in phase at r w).serial) (sym same)

pub same_asks : (phase : Phase) (at : ℕ) (room other : Bool) (w : Works) → other ≡ room
    → IsAsked phase at room w
    → IsAsked phase at other w
same_asks phase at room other w same h = subst (λ r. IsAsked phase at r w) (sym same) h

-- behind a frame that came one ends in the event's octets
abbrev pub EndsIn : Phase → Log → Type 0
EndsIn Judged log = EndsFrame log
EndsIn phase log = Unit {0}

pub ends_in : (p : Setup) (s : State) (log : Log) (unjudged : List ℕ) (phase : Phase)
    (a : Agrees p s log unjudged phase) → EndsIn phase log
ends_in p s log unjudged phase a = by_phase phase a.left
  where
    ends : IsPast log (length (pending s.centre.so_far ++ unjudged)) → EndsFrame log
    ends h = record {
      frames = came_frames a.course.talk;
      rest = a.here.so_far ++ unjudged;
      fit = a.here.fit;
      joined = a.here.joined;
      ends = omega (
        arith,
        h,
        ap (λ x. length (pending x ++ unjudged)) a.here.assembler,
        ap length a.here.joined,
        length-append (spelled (came_frames a.course.talk)) (a.here.so_far ++ unjudged),
      );
    }

    by_phase : (phase : Phase) → IsLeftIn phase log (pending s.centre.so_far) unjudged
        → EndsIn phase log
    by_phase Fresh h = tt
    by_phase Taking h = tt
    by_phase Judged h = ends h
    by_phase Idle h = tt
    by_phase Crowded h = tt
    by_phase Timed h = tt
    by_phase Asked h = tt

pub phase_out : (phase : Phase) (log : Log) (now : ℕ) (octets : List ℕ) → IsFlushing phase
    → EndsIn phase log → IsPhase phase log → IsPhase phase (Went now (TcpOut octets) ∷ log)
phase_out Fresh log now octets flushing ends h = absurd flushing
phase_out Taking log now octets flushing ends h = absurd flushing
phase_out Idle log now octets flushing ends h = absurd flushing
phase_out Crowded log now octets flushing ends h = absurd flushing
phase_out Judged log now octets flushing ends h = (h.0, (ends, h.1))
phase_out Timed log now octets flushing ends h = absurd flushing
phase_out Asked log now octets flushing ends h = tt

pub left_out : (phase : Phase) (log : Log) (now : ℕ) (octets so_far unjudged : List ℕ)
    → IsLeftIn phase log so_far unjudged
    → IsLeftIn phase (Went now (TcpOut octets) ∷ log) so_far unjudged
left_out Fresh log now octets so_far unjudged h = h
left_out Taking log now octets so_far unjudged h = h
left_out Judged log now octets so_far unjudged h = h
left_out Idle log now octets so_far unjudged h = h
left_out Crowded log now octets so_far unjudged h = h
left_out Timed log now octets so_far unjudged h = h
left_out Asked log now octets so_far unjudged h = h

-- what found a place before found one still
pub placed_on : (phase : Phase) (log new : Log) (h g : happened.History)
    → ((present new).is_open ≡ true → (present log).is_open ≡ true) → has_lacked_place g
    ≡ has_lacked_place h
    → IsPlaced phase log h → IsPlaced phase new g
placed_on Crowded log new h g on same k = tt
placed_on Judged log new h g on same k = λ o. same ∙ k (on o)
placed_on Fresh log new h g on same k = λ o. same ∙ k (on o)
placed_on Taking log new h g on same k = λ o. same ∙ k (on o)
placed_on Idle log new h g on same k = λ o. same ∙ k (on o)
placed_on Timed log new h g on same k = λ o. same ∙ k (on o)
placed_on Asked log new h g on same k = λ o. same ∙ k (on o)

-- when a frame may go out, each own answer found a place
pub placed_in : (phase : Phase) (log : Log) (h : happened.History) → IsFlushing phase
    → IsPlaced phase log h
    → (present log).is_open ≡ true → has_lacked_place h ≡ false
placed_in Fresh log h flushing placed on = absurd flushing
placed_in Taking log h flushing placed on = absurd flushing
placed_in Judged log h flushing placed on = placed on
placed_in Idle log h flushing placed on = absurd flushing
placed_in Crowded log h flushing placed on = absurd flushing
placed_in Timed log h flushing placed on = absurd flushing
placed_in Asked log h flushing placed on = placed on

-- when a connection has just ended, nothing has lacked a place
pub placed_cut : (phase : Phase) (log : Log) (h : happened.History)
    → IsPlaced phase log (happened.Ended ∷ h)
placed_cut Crowded log h = tt
placed_cut Judged log h = λ o. refl
placed_cut Fresh log h = λ o. refl
placed_cut Taking log h = λ o. refl
placed_cut Idle log h = λ o. refl
placed_cut Timed log h = λ o. refl
placed_cut Asked log h = λ o. refl

pub acknowledged_within : (p : Setup) (s : State) (log : Log) (unjudged : List ℕ) (phase : Phase)
    (a : Agrees p s log unjudged phase) → acknowledged_count (came_frames a.course.talk)
    ≤ length a.course.sent
acknowledged_within p s log unjudged phase a = omega (arith, a.here.tied.unconfirmed.count)

-- if nothing can be sent any more, all has gone out
pub sent_all : (p : Setup) (s : State) (log : Log) (unjudged : List ℕ) (phase : Phase)
    (a : Agrees p s log unjudged phase)
    → (s.centre.queue.unsent ≡ []) × (s.serial.commands.answers ≡ []) → HasSentAll p log a.course
sent_all p s log unjudged phase a all = record {
  objects = omega (
    arith,
    a.carries.front,
    ap length a.carries.joined,
    length-append a.carries.gone (objects_of_frames a.course.sent
        ++ flat_map objects s.centre.queue.unsent),
    length-append (objects_of_frames a.course.sent) (flat_map objects s.centre.queue.unsent),
    ap (λ xs. length (flat_map objects xs)) all.0,
  );
  answers = sym (ap (λ (z : Serial). z.commands.answers) a.stands.does
      ∙ answers_in phase (latest log) (room_in p log a.course) a.course.works) ∙ all.1;
}

pub flushed_by : (p : Setup) (s : State) (log : Log) (unjudged : List ℕ) (phase : Phase)
    (a : Agrees p s log unjudged phase) → IsSpent s → IsFlushed p log a.course
flushed_by p s log unjudged phase a spent started room =
    sent_all p s log unjudged phase a (spent (may_by p s.centre.session log a.course a.talk
    ∙ can (talk.is_started a.course.talk) started))
  where
    can : (b : Bool) → b ≡ true
        → (b && nat_lt (length (talk.still_unacknowledged a.course.talk)) p.session.k) ≡ true
    can true h = lt-ltb (length (talk.still_unacknowledged a.course.talk)) p.session.k room
    can false h = cc

-- a frame of the event is taken, or there is none
pub begun_by : (p : Setup) (s : State) (log : Log) (unjudged : List ℕ) (phase : Phase)
    (a : Agrees p s log unjudged phase) → IsFlushing phase → HasBegun log a.course
begun_by p s log unjudged phase a flushing = by_phase phase flushing a.left
  where
    reads : pending s.centre.so_far ≡ a.here.so_far
    reads = ap pending a.here.assembler

    none_left : unjudged ≡ [] → HasBegun log a.course
    none_left e = inr (all_taken log a.course a.here.so_far (a.here.joined
        ∙ ap (λ x. spelled (came_frames a.course.talk) ++ (a.here.so_far ++ x)) e) a.here.waits)

    some_left : IsPast log (length (pending s.centre.so_far ++ unjudged)) → HasBegun log a.course
    some_left h = inl (omega (
      arith,
      h,
      ap (λ x. length (x ++ unjudged)) reads,
      ap length a.here.joined,
      length-append (spelled (came_frames a.course.talk)) (a.here.so_far ++ unjudged),
    ))

    by_phase : (phase : Phase) → IsFlushing phase
        → IsLeftIn phase log (pending s.centre.so_far) unjudged
        → HasBegun log a.course
    by_phase Fresh f h = absurd f
    by_phase Taking f h = absurd f
    by_phase Judged f h = some_left h
    by_phase Idle f h = absurd f
    by_phase Crowded f h = absurd f
    by_phase Timed f h = absurd f
    by_phase Asked f h = none_left h

-- none is taken yet, or nothing else is due
pub undue_by : (p : Setup) (s : State) (log : Log) (unjudged : List ℕ) (phase : Phase)
    (a : Agrees p s log unjudged phase)
    → IsUndue s log unjudged → IsUntouched log a.course
    ⊎ (frame_due p.session.w p.session.t2 p.session.t3 (latest log) a.course.talk ≡ None)
undue_by p s log unjudged phase a (inl h) =
    inl (omega (
      arith,
      h,
      ap (λ x. length (pending x ++ unjudged)) a.here.assembler,
      ap length a.here.joined,
      length-append (spelled (came_frames a.course.talk)) (a.here.so_far ++ unjudged),
    ))
undue_by p s log unjudged phase a (inr h) =
    inr (subst (λ m. frame_due p.session.w p.session.t2 p.session.t3 m a.course.talk ≡ None) a.clock
    (sym (due_by p s.centre.session log a.course a.talk s.moment) ∙ h))

-- A frame may go out behind one of the event, or once the request is asked for.
pub turn_by : (p : Setup) (s : State) (log : Log) (unjudged : List ℕ) (phase : Phase)
    (a : Agrees p s log unjudged phase) → IsFlushing phase
    → IsTouched log a.course ⊎ HasAsked p log a.course
turn_by p s log unjudged phase a flushing =
    by_phase phase flushing a.left a.stands.asks a.stands.answered
  where
    by_phase : (phase : Phase) → IsFlushing phase
        → IsLeftIn phase log (pending s.centre.so_far) unjudged
        → IsAsked phase (latest log) (room_in p log a.course) a.course.works
        → IsAnswered phase p log a.course → IsTouched log a.course ⊎ HasAsked p log a.course
    by_phase Fresh f left asks answered = absurd f
    by_phase Taking f left asks answered = absurd f
    by_phase Judged f left asks answered = inl (omega (
      arith,
      left,
      ap (λ x. length (pending x ++ unjudged)) a.here.assembler,
      ap length a.here.joined,
      length-append (spelled (came_frames a.course.talk)) (a.here.so_far ++ unjudged),
    ))
    by_phase Idle f left asks answered = absurd f
    by_phase Crowded f left asks answered = absurd f
    by_phase Timed f left asks answered = absurd f
    by_phase Asked f left asks answered =
        inr (record { logged = asks.2; in_time = answered; none = asks.0 })
