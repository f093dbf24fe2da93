-- A log has one course.
use Rattle.std.proofs.Common.{◌≡◌, ℕ, zero, suc, ◌<◌, ◌≤◌, Bool, true, false, not, List, [], ◌∷◌}
use Rattle.std.proofs.Common.{◌++◌, length, take, drop, refl, ap, sym, ◌∙◌, subst, arith}
use Rattle.std.proofs.Common.{append_assoc, length-append, inl, inr, Option, Some, None}
use Rattle.std.specs.Prelude.{◌⊎◌, ◌==◌, if◌then◌else◌}
use Rattle.std.proofs.lemmas.List.{append_cancel_left, length-take, length-drop, nil_from_length}
use Rattle.std.proofs.lemmas.Bool.{cases_lt}
use Rattle.apci.specs.declared.apdu.Apdu.{Apdu}
use Rattle.apci.specs.declared.apdu.Apdu.TheVariants.{I, S, U}
use Rattle.apci.specs.Spelling.{spelling}
use Rattle.asdu.specs.InformationObjects.{InformationObject}
use Rattle.session.specs.declared.kinds.Close.{Close}
use Rattle.session.specs.declared.kinds.Close.TheVariants.{Grammar, SendNumber, ReceiveNumber}
use Rattle.session.specs.declared.kinds.Close.TheVariants.{Stopped, Timeout, OwnAnswers, Replaced}
use Rattle.session.specs.Rules.{KeepsRules}
use Rattle.session.specs.History.{confirmation_of, frame_due}
use Rattle.command.specs.State.{first_answer}
use Rattle.gateway.specs.Objects.{objects, has_objects}
use Rattle.gateway.specs.Log.{Log, Input, LineIn, Opened, TcpIn, CutOff, Ticked, WallIs, Restarted}
use Rattle.gateway.specs.Log.{Came, Went, LineOut, TcpOut, Closed, GapOut, latest}
use Rattle.gateway.specs.Streams.{spelled}
use Rattle.gateway.specs.Frames.{Connection}
use Rattle.gateway.specs.Connections.{no_channel, present, is_replaced, ends, IsConnection}
use Rattle.gateway.specs.Walls.{wall_on}
use Rattle.gateway.specs.Reports.{Setup, taken_objects}
use Rattle.gateway.specs.Serial.{next_request}
use Rattle.gateway.specs.Works.{has_lacked_place, begun_works, gapless_works, settled_works}
use Rattle.gateway.specs.Works.{done_works, asked_works}
use Rattle.gateway.specs.Course.{Course, here_of, came_frames, with_frame, with_frames, with_works}
use Rattle.gateway.specs.Course.{logged_sent, with_sent, room_in, closed_course, sent_objects}
use Rattle.gateway.specs.Course.{IsFlushed, IsUntouched, HasBegun, HasTakenAll, MayTake, AreTaken}
use Rattle.gateway.specs.Course.{TakesFrames, IsNext, HandsOver, IsCause, IsLeft, Comes, SendsNext}
use Rattle.gateway.specs.Course.{Runs}
use Rattle.gateway.specs.One.{GoesOn, AreOne}
use Rattle.link.specs.LineLaws.{LineLaws}
use Rattle.gateway.proofs.Unique.{AreUnique, whole_front, never_more, one_reading}
use Rattle.gateway.proofs.Order.{no_frames}
use Rattle.gateway.proofs.Talking.{may_at}
use Rattle.gateway.proofs.OnePassing.{AsduLaws, learns_one}

pub record Laws : Type 0 where
  pub unique : AreUnique
  pub asdus : AsduLaws
  pub line : LineLaws

-- Frames taken

frames_came : (p : Setup) (fs : List Apdu) (now : ℕ) (wall : Option ℕ) (c : Course)
    → came_frames (with_frames p fs now wall c).talk ≡ fs ++ came_frames c.talk
frames_came p [] now wall c = refl
frames_came p (f ∷ fs) now wall c = ap (λ xs. f ∷ xs) (frames_came p fs now wall c)

frames_on : (p : Setup) (hs fs : List Apdu) (now : ℕ) (wall : Option ℕ) (c : Course)
    → with_frames p (hs ++ fs) now wall c ≡ with_frames p hs now wall (with_frames p fs now wall c)
frames_on p [] fs now wall c = refl
frames_on p (h ∷ hs) fs now wall c = ap (with_frame p h now wall) (frames_on p hs fs now wall c)

-- a frame that may be taken stands first in what is left
pub may_front : (p : Setup) (log : Log) (now : ℕ) (f : Apdu) (c : Course) (rest : List ℕ)
    → (present log).received ≡ spelled (came_frames c.talk) ++ rest → (may : MayTake p log now f c)
    → rest ≡ spelling f ++ may.rest
may_front p log now f c rest e may =
    append_cancel_left (spelled (came_frames c.talk)) rest (spelling f ++ may.rest) (sym e
    ∙ may.joined
    ∙ append_assoc (spelled (came_frames c.talk)) (spelling f) may.rest)

pub none_whole : AreUnique → (p : Setup) (log : Log) (now : ℕ) (f : Apdu) (c : Course)
    → HasTakenAll (present log) c.talk → MayTake p log now f c → ⊥
none_whole u p log now f c all may =
    never_more u all.rest f (length (spelling f)) (whole_front f may.rest all.rest may.fits
    (may_front p log now f c all.rest all.joined may)) all.more

one_frame : AreUnique → (p : Setup) (log : Log) (now : ℕ) (f g : Apdu) (c : Course)
    → MayTake p log now f c
    → MayTake p log now g c → f ≡ g
one_frame u p log now f g c h k =
    (u.cancel f g h.rest k.rest (append_cancel_left (spelled (came_frames c.talk))
    (spelling f ++ h.rest) (spelling g
    ++ k.rest)
    (sym (append_assoc (spelled (came_frames c.talk)) (spelling f) h.rest) ∙ sym h.joined ∙ k.joined
    ∙ append_assoc (spelled (came_frames c.talk)) (spelling g) k.rest))).0

as_many : AreUnique → (p : Setup) (log : Log) (now : ℕ) (fs gs : List Apdu) (c : Course)
    → length fs ≡ length gs
    → AreTaken p log now fs c → AreTaken p log now gs c → fs ≡ gs
as_many u p log now [] [] c e h k = refl
as_many u p log now [] (g ∷ gs) c e h k = absurd (omega (arith, e))
as_many u p log now (f ∷ fs) [] c e h k = absurd (omega (arith, e))
as_many u p log now (f ∷ fs) (g ∷ gs) c e h k =
    let same : fs ≡ gs = as_many u p log now fs gs c (omega (arith, e)) h.1 k.1 in
    let one : f ≡ g = one_frame u p log now f g (with_frames p gs now (wall_on log now) c)
    (subst (λ xs. MayTake p log now f (with_frames p xs now (wall_on log now) c)) same h.0) k.0 in
    ap (λ x. x ∷ fs) one ∙ ap (λ xs. g ∷ xs) same

-- when more are taken, the first are the same
record IsMoreOf (p : Setup) (log : Log) (now : ℕ) (fs gs : List Apdu) (c : Course) : Type 0 where
  hs : List Apdu
  is : gs ≡ hs ++ fs
  each : AreTaken p log now hs (with_frames p fs now (wall_on log now) c)

more_of : AreUnique → (p : Setup) (log : Log) (now : ℕ) (fs gs : List Apdu) (c : Course)
    → length fs ≤ length gs
    → AreTaken p log now fs c → AreTaken p log now gs c → IsMoreOf p log now fs gs c
more_of u p log now fs [] c le h k =
    record { hs = []; is = sym (nil_from_length fs (omega (arith, le))); each = tt }
more_of u p log now fs (g ∷ gs) c le h k = elim (cases_lt (length fs) (suc (length gs))) [
  | inl lt ↦ fewer (more_of u p log now fs gs c (omega (arith, lt)) h k.1)
  | inr ge ↦
      record {
        hs = [];
        is = sym (as_many u p log now fs (g ∷ gs) c (omega (arith, le, ge)) h k);
        each = tt;
      }
]
  where
    fewer : IsMoreOf p log now fs gs c → IsMoreOf p log now fs (g ∷ gs) c
    fewer m = record {
      hs = g ∷ m.hs;
      is = ap (λ xs. g ∷ xs) m.is;
      each = (
        subst (MayTake p log now g) (ap (λ xs. with_frames p xs now (wall_on log now) c) m.is
            ∙ frames_on p m.hs fs now (wall_on log now) c) k.0,
        m.each,
      );
    }

-- frames are taken of one course in one way
takes_one : AreUnique → (p : Setup) (log : Log) (now : ℕ) (b c d : Course) (fs gs : List Apdu)
    → c ≡ with_frames p fs now (wall_on log now) b → d ≡ with_frames p gs now (wall_on log now) b
    → AreTaken p log now fs b → AreTaken p log now gs b → length fs ≤ length gs →
    (hs : List Apdu) × (d ≡ with_frames p hs now (wall_on log now) c) × AreTaken p log now hs c
takes_one u p log now b c d fs gs e g h k le =
    let m = more_of u p log now fs gs b le h k in (
      m.hs,
      g ∙ ap (λ xs. with_frames p xs now (wall_on log now) b) m.is
          ∙ frames_on p m.hs fs now (wall_on log now) b
          ∙ ap (with_frames p m.hs now (wall_on log now)) (sym e),
      subst (AreTaken p log now m.hs) (sym e) m.each,
    )

one_taking : AreUnique → (p : Setup) (log : Log) (now : ℕ) (b c d : Course)
    → TakesFrames p log now b c
    → TakesFrames p log now b d →
    ((hs : List Apdu) × (d ≡ with_frames p hs now (wall_on log now) c) × AreTaken p log now hs c)
    ⊎ ((hs : List Apdu) × (c ≡ with_frames p hs now (wall_on log now) d) × AreTaken p log now hs d)
one_taking u p log now b c d h k = elim (cases_lt (length h.frames) (length k.frames)) [
  | inl lt ↦
      inl (takes_one u p log now b c d h.frames k.frames h.taken k.taken h.each k.each
      (omega (arith, lt)))
  | inr ge ↦ inr (takes_one u p log now b d c k.frames h.frames k.taken h.taken k.each h.each ge)
]

-- When no frame may be taken

-- the first of these frames may be taken there
first_may : (p : Setup) (log : Log) (now : ℕ) (fs : List Apdu) (c : Course)
    → AreTaken p log now fs c
    → (fs ≡ []) ⊎ ((f : Apdu) × MayTake p log now f c)
first_may p log now [] c h = inl refl
first_may p log now (f ∷ []) c h = inr (f, h.0)
first_may p log now (f ∷ g ∷ fs) c h = elim (first_may p log now (g ∷ fs) c h.1)
    [ inl e ↦ inl (absurd (never e)) | inr may ↦ inr may ]
  where
    never : g ∷ fs ≡ [] → ⊥
    never e = cc

pub stays : (p : Setup) (log : Log) (c d : Course) → GoesOn p log c d
    → ((f : Apdu) → MayTake p log (latest log) f c → ⊥) → d ≡ c
stays p log c d g none = elim (first_may p log (latest log) g.0 c g.2) [
  | inl e ↦ g.1
      ∙ ap (λ fs. with_frames p fs (latest log) (wall_on log (latest log)) c) e
  | inr may ↦ absurd (none may.0 may.1)
]

-- if both hold what leaves no frame to be taken, they are the same
settled_one : (p : Setup) (log : Log) (c d : Course) (Holds : Course → Type 0)
    → ((x : Course) → Holds x → (f : Apdu) → MayTake p log (latest log) f x → ⊥) → Holds c → Holds d
    → AreOne p log c d
    → c ≡ d
settled_one p log c d Holds never h k (inl g) = sym (stays p log c d g (never c h))
settled_one p log c d Holds never h k (inr g) = stays p log d c g (never d k)

all_one : AreUnique → (p : Setup) (log : Log) (c d : Course) → HasTakenAll (present log) c.talk
    → HasTakenAll (present log) d.talk → AreOne p log c d → c ≡ d
all_one u p log c d = settled_one p log c d (λ x. HasTakenAll (present log) x.talk)
    (λ x all f may. none_whole u p log (latest log) f x all may)

-- while something may go out none is taken

some_objects : (n : ℕ) → not (n == 0) ≡ true → 0 < n
some_objects zero e = cc
some_objects (suc n) e = omega arith

-- a report that is next isn't sent yet
pub not_sent_all : (n : ℕ) (os taken : List InformationObject) → not (length os == 0) ≡ true
    → os ≡ take (length os) (drop n taken) → n ≡ length taken → ⊥
not_sent_all n os taken some next all =
    omega (
      arith,
      some_objects (length os) some,
      ap length next,
      length-take (length os) (drop n taken),
      length-drop n taken,
      all,
    )

by_due : AreUnique → (p : Setup) (log : Log) (c : Course) (f g : Apdu)
    → MayTake p log (latest log) f c →
    (confirmation_of c.talk ≡ Some g)
    ⊎ (frame_due p.session.w p.session.t2 p.session.t3 (latest log) c.talk ≡ Some g)
    → (confirmation_of c.talk ≡ Some g) ⊎ ((confirmation_of c.talk ≡ None) × IsFlushed p log c
    × HasBegun log c) → ⊥
by_due u p log c f g may (inl e) next = let no : None ≡ Some g = sym may.rules.0.0.confirmed ∙ e in
    cc
by_due u p log c f g may (inr due) (inl e) = let no : None ≡ Some g = sym may.rules.0.0.confirmed
    ∙ e in cc
by_due u p log c f g may (inr due) (inr next) = elim may.undue
    [ inl first ↦ untouched first next.2 | inr none ↦ clash none ]
  where
    clash : frame_due p.session.w p.session.t2 p.session.t3 (latest log) c.talk ≡ None → ⊥
    clash none = let no : None ≡ Some g = sym none ∙ due in cc

    untouched : IsUntouched log c → HasBegun log c → ⊥
    untouched first (inl past) = omega (arith, first, past)
    untouched first (inr all) = none_whole u p log (latest log) f c all may

pub hands_none : AreUnique → (p : Setup) (log : Log) (c : Course) (g f : Apdu)
    → KeepsRules p.session (logged_sent g (latest log) c.talk) → IsNext p log g c
    → MayTake p log (latest log) f c → ⊥
hands_none u p log c (I ns nr asdu) f rules next may = by_objects (has_objects asdu.items) refl
  where
    by_objects : (b : Bool) → has_objects asdu.items ≡ b → ⊥
    by_objects true e = not_sent_all (sent_objects c) (objects asdu.items) (taken_objects p log) e
        (next.report e)
        (may.flushed rules.0.started rules.0.window).objects
    by_objects false e =
        let no : None ≡ Some asdu.items =
        ap first_answer (sym (may.flushed rules.0.started rules.0.window).answers)
        ∙ next.own e in cc
hands_none u p log c (S nr) f rules next may = by_due u p log c f (S nr) may rules.0 next
hands_none u p log c (U function) f rules next may =
    by_due u p log c f (U function) may rules.0 next

-- The cause of a close stands at one place

-- the open connection isn't one that was closed
pub present_plain : (log : Log) → (present log).lacked_place ≡ false
present_plain [] = refl
present_plain (Came now (LineIn octets) ∷ log) = present_plain log
present_plain (Came now Opened ∷ log) = refl
present_plain (Came now (TcpIn octets) ∷ log) = by_open (present log).is_open ∙ present_plain log
  where
    by_open : (b : Bool)
        → (if b then record {
          is_open = true;
          sent = (present log).sent;
          received =
              (present log).received ++ octets;
          lacked_place = (present log).lacked_place;
        } else present log).lacked_place
        ≡ (present log).lacked_place
    by_open true = refl
    by_open false = refl
present_plain (Came now CutOff ∷ log) = refl
present_plain (Came now Ticked ∷ log) = present_plain log
present_plain (Came now (WallIs number) ∷ log) = present_plain log
present_plain (Came now Restarted ∷ log) = refl
present_plain (Went now (LineOut octets) ∷ log) = present_plain log
present_plain (Went now (GapOut station session) ∷ log) = present_plain log
present_plain (Went now (TcpOut octets) ∷ log) = present_plain log
present_plain (Went now (Closed cause) ∷ log) = by_cause (ends cause) (present_plain log)
  where
    by_cause : (b : Bool) → (present log).lacked_place ≡ false
        → (if b then no_channel else present log).lacked_place ≡ false
    by_cause true h = refl
    by_cause false h = h

no_more : (fs came : List Apdu) → fs ++ came ≡ came → fs ≡ []
no_more fs came e = nil_from_length fs (omega (arith, ap length e, length-append fs came))

as_received : (p : Setup) (log : Log) (c d : Course) → GoesOn p log c d → came_frames c.talk
    ≡ came_frames d.talk
    → d ≡ c
as_received p log c d g e =
    g.1 ∙ ap (λ fs. with_frames p fs (latest log) (wall_on log (latest log)) c)
    (no_more g.0 (came_frames c.talk)
    (sym (frames_came p g.0 (latest log) (wall_on log (latest log)) c)
    ∙ ap (λ (x : Course). came_frames x.talk) (sym g.1) ∙ sym e))

-- what is next is next behind the same frames
next_one : AreUnique → (p : Setup) (log : Log) (c d : Course) (cause : Close)
    → IsConnection (present log) (here_of c) (Some cause)
    → IsConnection (present log) (here_of d) (Some cause)
    → AreOne p log c d → c ≡ d
next_one u p log c d cause h k one =
    let same : came_frames c.talk ≡ came_frames d.talk =
    ap (λ (x : Connection). x.received_frames)
    (one_reading u (present log) (here_of c) (here_of d) (Some cause) (Some cause)
    (present_plain log) h k).0 in
    elim one [
      | inl g ↦ sym (as_received p log c d g same)
      | inr g ↦
          as_received p log d c g (sym same)
    ]

replaced_nothing : (log : Log) → is_replaced log ≡ true → (present log).received ≡ []
replaced_nothing [] e = cc
replaced_nothing (Came now (LineIn octets) ∷ log) e = cc
replaced_nothing (Came now Opened ∷ log) e = refl
replaced_nothing (Came now (TcpIn octets) ∷ log) e = cc
replaced_nothing (Came now CutOff ∷ log) e = cc
replaced_nothing (Came now Ticked ∷ log) e = cc
replaced_nothing (Came now (WallIs number) ∷ log) e = cc
replaced_nothing (Came now Restarted ∷ log) e = cc
replaced_nothing (Went now action ∷ log) e = cc

pub replaced_none : (p : Setup) (log : Log) (now : ℕ) (f : Apdu) (c : Course) → is_replaced log
    ≡ true
    → MayTake p log now f c → ⊥
replaced_none p log now f c e may =
    let no : f ∷ came_frames c.talk ≡ [] = no_frames (f ∷ came_frames c.talk) may.rest
    (sym (replaced_nothing log e)
    ∙ may.joined) in
    cc

cause_one : AreUnique → (p : Setup) (log : Log) (c d : Course) (cause : Close)
    → IsCause p log cause c
    → IsCause p log cause d → AreOne p log c d → c ≡ d
cause_one u p log c d Grammar h k one = next_one u p log c d Grammar h.next k.next one
cause_one u p log c d SendNumber h k one = next_one u p log c d SendNumber h.next k.next one
cause_one u p log c d ReceiveNumber h k one = next_one u p log c d ReceiveNumber h.next k.next one
cause_one u p log c d Stopped h k one = next_one u p log c d Stopped h.next k.next one
cause_one u p log c d Timeout h k one = all_one u p log c d h.all k.all one
cause_one u p log c d OwnAnswers h k one =
    settled_one p log c d (λ x. has_lacked_place x.works.history ≡ true)
    (λ x full f may. clash x full may.placed) h k one
  where
    clash : (x : Course) → has_lacked_place x.works.history ≡ true
        → has_lacked_place x.works.history ≡ false → ⊥
    clash x full placed = let no : true ≡ false = sym full ∙ placed in cc
cause_one u p log c d Replaced h k one = settled_one p log c d (λ x. is_replaced log ≡ true)
    (λ x e f may. replaced_none p log (latest log) f x e may) h k one

-- An entry more

same_one : (p : Setup) (log : Log) (c d : Course) → c ≡ d → AreOne p log c d
same_one p log c d e = inl ([], sym e, tt)

each_at : LineLaws → (p : Setup) (log : Log) (now other moment : ℕ) (octets : List ℕ)
    (fs : List Apdu) (c : Course)
    → AreTaken p (Came now (TcpIn octets) ∷ log) moment fs c
    → AreTaken p (Came other (TcpIn octets) ∷ log) moment fs c
each_at laws p log now other moment octets [] c h = tt
each_at laws p log now other moment octets (f ∷ fs) c h = (
  may_at laws p log now other moment octets f (with_frames p fs moment (wall_on log moment) c) h.0,
  each_at laws p log now other moment octets fs c h.1,
)

comes_one : Laws → (p : Setup) (log : Log) (now : ℕ) (event : Input) (l c d : Course)
    → Comes p log (latest (Came now event ∷ log)) event l c
    → Comes p log (latest (Came now event ∷ log)) event l d
    → AreOne p (Came now event ∷ log) c d
comes_one laws p log now (LineIn octets) l c d h k =
    let z : h.0 ≡ k.0 = learns_one laws.asdus p _ _ _ _ h.0 k.0 h.1 k.1 in
    same_one p (Came now (LineIn octets) ∷ log) c d (h.2
    ∙ ap (λ x. with_works (begun_works _ x) l) z ∙ sym k.2)
comes_one laws p log now (TcpIn octets) l c d h k =
    let at : ℕ = latest (Came now (TcpIn octets) ∷ log) in
    elim (one_taking laws.unique p (Came at (TcpIn octets) ∷ log) at
    (with_works (begun_works at l.works) l) c d h k) [
      | inl g ↦ inl (g.0, g.1, each_at laws.line p log at now at octets g.0 c g.2)
      | inr g ↦ inr (g.0, g.1, each_at laws.line p log at now at octets g.0 d g.2)
    ]
comes_one laws p log now (WallIs number) l c d h k = same_one p (Came now (WallIs number) ∷ log) c d
    (h ∙ sym k)
comes_one laws p log now Ticked l c d h k = same_one p (Came now Ticked ∷ log) c d (h ∙ sym k)
comes_one laws p log now Opened l c d h k = same_one p (Came now Opened ∷ log) c d (h ∙ sym k)
comes_one laws p log now CutOff l c d h k = same_one p (Came now CutOff ∷ log) c d (h ∙ sym k)
comes_one laws p log now Restarted l c d h k = same_one p (Came now Restarted ∷ log) c d
    (h.1 ∙ sym k.1)

-- what the step before leaves
left_one : (p : Setup) (log : Log) (b c x y : Course) → b ≡ c → IsLeft p log b x → IsLeft p log c y
    → x ≡ y
left_one p log b c x y e h k =
    h.is ∙ ap (λ (z : Course).
    let made : Course = record {
      talk = z.talk;
      sent = z.sent;
      earlier = z.earlier;
      works =
          done_works (latest log) (room_in p log z) z.works;
    } in made) e ∙ sym k.is

-- the same request
sends_one : (p : Setup) (log : Log) (octets : List ℕ) (b e c d : Course) → b ≡ e
    → SendsNext p log octets b c
    → SendsNext p log octets e d → c ≡ d
sends_one p log octets b e c d same h k =
    let next : Some h.request ≡ Some k.request = sym h.next
    ∙ ap (λ (x : Course). next_request (room_in p log x)
    (settled_works (latest log) x.works).serial) same
    ∙ k.next in
    let request : h.request ≡ k.request = cc in
    h.is ∙ ap (λ (x : Course). with_works (asked_works (latest log) (room_in p log x) h.request
    (settled_works (latest log) x.works)) x) same
    ∙ ap
    (λ r. with_works (asked_works (latest log) (room_in p log e) r
    (settled_works (latest log) e.works)) e) request
    ∙ sym k.is

-- the same frame
hands_one : AreUnique → (p : Setup) (log : Log) (octets : List ℕ) (b e c d : Course) → b ≡ e
    → HandsOver p log octets (latest log) b c → HandsOver p log octets (latest log) e d → c ≡ d
hands_one u p log octets b e c d same h k =
    let frame : h.frame ≡ k.frame =
    (u.cancel h.frame k.frame [] [] (ap (λ xs. xs ++ []) (sym h.spelled_so ∙ k.spelled_so))).0 in
    h.put ∙ ap (λ x. with_sent h.frame (latest log) x) same
    ∙ ap (λ f. with_sent f (latest log) e) frame ∙ sym k.put

-- A log has one course.
pub one_course : Laws → (p : Setup) (log : Log) (c d : Course) → Runs p log c → Runs p log d
    → AreOne p log c d
one_course laws p [] c d h k = same_one p [] c d (h ∙ sym k)
one_course laws p (Came now event ∷ log) c d h k =
    let before : h.0 ≡ k.0 =
    all_one laws.unique p log h.0 k.0 h.3 k.3 (one_course laws p log h.0 k.0 h.2 k.2) in
    comes_one laws p log now event k.1 c d
    (subst (λ x. Comes p log (latest (Came now event ∷ log)) event x c)
    (left_one p log h.0 k.0 h.1 k.1 before h.4 k.4) h.5) k.5
one_course laws p (Went now (LineOut octets) ∷ log) c d h k =
    let before : h.0 ≡ k.0 = all_one laws.unique p log h.0 k.0 h.2.all k.2.all
    (one_course laws p log h.0 k.0 h.1 k.1) in
    same_one p (Went now (LineOut octets) ∷ log) c d (sends_one p log octets h.0 k.0 c d before h.2
    k.2)
one_course laws p (Went now (GapOut station session) ∷ log) c d h k =
    let before : h.0 ≡ k.0 = all_one laws.unique p log h.0 k.0 h.2.all k.2.all
    (one_course laws p log h.0 k.0 h.1 k.1) in
    same_one p (Went now (GapOut station session) ∷ log) c d (h.2.is
    ∙ ap (λ (x : Course). with_works (gapless_works x.works) x) before ∙ sym k.2.is)
one_course laws p (Went now (TcpOut octets) ∷ log) c d h k =
    let before : h.0 ≡ k.0 = settled_one p log h.0 k.0 (λ x. (y : Course)
    × HandsOver p log octets (latest log) x y)
    (λ x hand f may. hands_none laws.unique p log x hand.1.frame f hand.1.rules hand.1.next may)
    (h.1, h.3)
    (k.1, k.3) (one_course laws p log h.0 k.0 h.2 k.2) in
    let after : h.1 ≡ k.1 = hands_one laws.unique p log octets h.0 k.0 h.1 k.1 before h.3 k.3 in
    one_taking laws.unique p (Went now (TcpOut octets) ∷ log) (latest log) k.1 c d
    (subst (λ x. TakesFrames p (Went now (TcpOut octets) ∷ log) (latest log) x c) after h.4) k.4
one_course laws p (Went now (Closed cause) ∷ log) c d h k =
    let before : h.0 ≡ k.0 = cause_one laws.unique p log h.0 k.0 cause h.3 k.3
    (one_course laws p log h.0 k.0 h.1 k.1) in
    same_one p (Went now (Closed cause) ∷ log) c d (h.2
    ∙ ap (closed_course p cause (present log).is_open (latest log)) before ∙ sym k.2)

-- if all that came is taken, there is just one
pub one_whole : Laws → (p : Setup) (log : Log) (c d : Course) → Runs p log c → Runs p log d
    → HasTakenAll (present log) c.talk → HasTakenAll (present log) d.talk → c ≡ d
one_whole laws p log c d h k all whole =
    all_one laws.unique p log c d all whole (one_course laws p log c d h k)
