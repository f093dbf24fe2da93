-- What comes next is decided: two actions that may both be next are the same.
use Rattle.std.proofs.Common.{◌≡◌, ℕ, ◌<◌, Bool, true, false, not, List, [], ◌∷◌, ◌++◌, length}
use Rattle.std.proofs.Common.{refl, ap, sym, ◌∙◌, subst, arith, inl, inr, Option, Some, None}
use Rattle.std.specs.Prelude.{◌⊎◌}
use Rattle.apci.specs.declared.apdu.Apdu.{Apdu}
use Rattle.apci.specs.declared.apdu.Apdu.TheVariants.{I, S, U}
use Rattle.apci.specs.Spelling.{counter, spelling}
use Rattle.ft12.specs.Spelling as line
use Rattle.link.specs.Exchanges.{Sending}
use Rattle.link.specs.Requests.{request_frame}
use Rattle.session.specs.declared.kinds.Close.{Close}
use Rattle.session.specs.declared.kinds.Close.TheVariants.{Grammar, SendNumber, ReceiveNumber}
use Rattle.session.specs.declared.kinds.Close.TheVariants.{Stopped, Timeout, OwnAnswers, Replaced}
use Rattle.session.specs.Rules.{KeepsRules, MaySend}
use Rattle.session.specs.History.{confirmation_of, frame_due}
use Rattle.command.specs.State.{first_answer}
use Rattle.gateway.specs.declared.gaps.Gap.{Gap}
use Rattle.gateway.specs.Objects.{objects, has_objects}
use Rattle.gateway.specs.Log.{Log, LogEntry, Output, Came, Went, LineOut, TcpOut, Closed, GapOut}
use Rattle.gateway.specs.Log.{latest}
use Rattle.gateway.specs.Connections.{present, received_before, ends}
use Rattle.gateway.specs.Streams.{spelled}
use Rattle.gateway.specs.Reports.{Setup, address_at, taken_objects}
use Rattle.gateway.specs.Works.{has_lacked_place}
use Rattle.gateway.specs.Course.{Course, came_frames, logged_sent, sent_objects, IsFlushed}
use Rattle.gateway.specs.Course.{IsUntouched, HasBegun, HasNothingDue, HasAnswered, HasAsked}
use Rattle.gateway.specs.Course.{MayTake, IsNextData, IsNext, HandsOver, StandsNext, IsCause}
use Rattle.gateway.specs.Course.{SendsNext, ReportsGap, Runs}
use Rattle.gateway.specs.Traffic.{replaces, GoesOut, ActsRightly, RestsBetweenSteps}
use Rattle.gateway.proofs.OneCourse.{Laws, none_whole, hands_none, not_sent_all, stays, one_course}
use Rattle.gateway.proofs.OneCause.{cause_none, kinds, same_kind, all_and_next}

-- What a log is known to keep

pub record Stands (p : Setup) (log : Log) : Type 0 where
  pub course : Course
  pub runs : Runs p log course
  pub acts : ActsRightly p log
  pub rests : RestsBetweenSteps p log

-- what an action needs of the course before it
abbrev pub Needs : Setup → Log → Output → Course → Type 0
Needs p log (LineOut octets) b = (d : Course) × SendsNext p log octets b d
Needs p log (TcpOut octets) b = (d : Course) × HandsOver p log octets (latest log) b d
Needs p log (GapOut station session) b = (d : Course) × ReportsGap p log station session b d
Needs p log (Closed cause) b = IsCause p log cause b × (b.works.is_due ≡ true)

pub behind : (p : Setup) (log : Log) (now : ℕ) (action : Output) (c : Course)
    → Runs p (Went now action ∷ log) c
    → (b : Course) × Runs p log b × Needs p log action b
behind p log now (LineOut octets) c r = (r.0, r.1, (c, r.2))
behind p log now (TcpOut octets) c r = (r.0, r.2, (r.1, r.3))
behind p log now (GapOut station session) c r = (r.0, r.1, (c, r.2))
behind p log now (Closed cause) c r = (r.0, r.1, (r.3, r.4))

pub fewer : (p : Setup) (entry : LogEntry) (log : Log) → Stands p (entry ∷ log) → Stands p log
fewer p (Came now event) log s = record {
  course = s.runs.0;
  runs = s.runs.2;
  acts = s.acts;
  rests = s.rests.1;
}
fewer p (Went now action) log s =
    let b = behind p log now action s.course s.runs in
    record { course = b.0; runs = b.1; acts = s.acts.1; rests = s.rests }

-- One action

pub no_both : (A : Type 0) (o : Option A) (x : A) → o ≡ None → o ≡ Some x → ⊥
no_both A o x none some = let no : None ≡ Some x = sym none ∙ some in cc

pub not_both : (b : Bool) → b ≡ true → b ≡ false → ⊥
not_both b on off = let never : true ≡ false = sym on ∙ off in cc

same_some : (A : Type 0) (o : Option A) (x y : A) → o ≡ Some x → o ≡ Some y → x ≡ y
same_some A o x y e f = let same : Some x ≡ Some y = sym e ∙ f in cc

pub settled : Laws → (p : Setup) (log : Log) (action : Output) (b : Course) → Runs p log b
    → Needs p log action b → (f : Apdu) → MayTake p log (latest log) f b → ⊥
settled laws p log (LineOut octets) b r n f may = none_whole laws.unique p log (latest log) f b
    n.1.all may
settled laws p log (TcpOut octets) b r n f may = hands_none laws.unique p log b n.1.frame f
    n.1.rules n.1.next may
settled laws p log (GapOut station session) b r n f may = none_whole laws.unique p log (latest log)
    f b n.1.all may
settled laws p log (Closed cause) b r n f may = cause_none laws.unique p log cause b r n.0 f may

pub one_before : Laws → (p : Setup) (log : Log) (b d : Course) → Runs p log b → Runs p log d
    → ((f : Apdu) → MayTake p log (latest log) f b → ⊥)
    → ((f : Apdu) → MayTake p log (latest log) f d → ⊥) → b ≡ d
one_before laws p log b d r s none never = elim (one_course laws p log b d r s) [
  | inl g ↦ sym (stays p log b d g none)
  | inr g ↦ stays p log d b g never
]

-- an I frame by its numbers and its ASDU
abbrev as_octets : (ns nr : ℕ) → List ℕ → List ℕ
as_octets ns nr items =
    0x68 ∷ length (counter ns ++ (counter nr ++ items)) ∷ (counter ns ++ (counter nr ++ items))

module _ (laws : Laws) (p : Setup) (log : Log) (b : Course) where
  -- the request
  same_request : (x y : List ℕ) (c d : Course) → SendsNext p log x b c → SendsNext p log y b d
      → x ≡ y
  same_request x y c d h k =
      h.spelled_so
      ∙ ap (λ (r : Sending). line.spelling p.link.size
      (request_frame (address_at p.addresses r.station) r.request))
      (same_some Sending _ h.request k.request h.next k.next)
      ∙ sym k.spelled_so

  -- the gap
  same_gap : (i j m n : ℕ) (c d : Course) → ReportsGap p log i m b c → ReportsGap p log j n b d
      → GapOut i m ≡ GapOut j n
  same_gap i j m n c d h k =
      ap (λ (g : Gap). GapOut g.station g.session) (same_some Gap _ _ _ h.gap k.gap)

  -- what is due: a confirmation, or else a frame behind all others
  abbrev IsDue : Apdu → Type 0
  IsDue f = (confirmation_of b.talk ≡ Some f)
      ⊎ ((confirmation_of b.talk ≡ None)
      × (frame_due p.session.w p.session.t2 p.session.t3 (latest log) b.talk ≡ Some f)
      × IsFlushed p log b × HasBegun log b)

  pub due : (f : Apdu)
      → (confirmation_of b.talk ≡ Some f)
      ⊎ (frame_due p.session.w p.session.t2 p.session.t3 (latest log) b.talk ≡ Some f)
      → (confirmation_of b.talk ≡ Some f)
      ⊎ ((confirmation_of b.talk ≡ None) × IsFlushed p log b × HasBegun log b) → IsDue f
  due f (inl e) next = inl e
  due f (inr e) (inl k) = inl k
  due f (inr e) (inr k) = inr (k.0, e, k.1, k.2)

  same_due : (f g : Apdu) → IsDue f → IsDue g → f ≡ g
  same_due f g (inl e) (inl k) = same_some Apdu _ f g e k
  same_due f g (inl e) (inr k) = absurd (no_both Apdu _ f k.0 e)
  same_due f g (inr e) (inl k) = absurd (no_both Apdu _ g e.0 k)
  same_due f g (inr e) (inr k) = same_some Apdu _ f g e.1 k.1

  -- while data may go out, no data is left or it isn't flushed
  data_left : (ns nr : ℕ) (asdu : List ℕ) → MaySend p.session ns nr b.talk
      → IsNextData p log asdu b → IsFlushed p log b → ⊥
  data_left ns nr asdu may next flushed = by_objects (has_objects asdu) refl
    where
      by_objects : (x : Bool) → has_objects asdu ≡ x → ⊥
      by_objects true e = not_sent_all (sent_objects b) (objects asdu) (taken_objects p log) e
          (next.report e) (flushed may.started may.window).objects
      by_objects false e = no_both (List ℕ) (first_answer []) asdu refl
          (ap first_answer (sym (flushed may.started may.window).answers) ∙ next.own e)

  data_and_due : (ns nr : ℕ) (asdu : List ℕ) (f : Apdu) → MaySend p.session ns nr b.talk
      → IsNextData p log asdu b → IsDue f → ⊥
  data_and_due ns nr asdu f may next (inl e) = no_both Apdu _ f next.confirmed e
  data_and_due ns nr asdu f may next (inr k) = data_left ns nr asdu may next k.2

  abbrev first_of : List (List ℕ) → List ℕ
  first_of [] = []
  first_of (x ∷ xs) = x

  same_data : (x y : List ℕ) → IsNextData p log x b → IsNextData p log y b → x ≡ y
  same_data x y h k = by_objects (has_objects x) (has_objects y) refl refl
    where
      by_objects : (i j : Bool) → has_objects x ≡ i → has_objects y ≡ j → x ≡ y
      by_objects true true e f = ap first_of (sym (h.piece e) ∙ k.piece f)
      by_objects true false e f = absurd (no_both (List ℕ) (first_answer []) y refl
          (ap first_answer (sym (h.none e)) ∙ k.own f))
      by_objects false true e f = absurd (no_both (List ℕ) (first_answer []) x refl
          (ap first_answer (sym (k.none f)) ∙ h.own e))
      by_objects false false e f = same_some (List ℕ) _ x y (h.own e) (k.own f)

  same_frame : (f g : Apdu) → KeepsRules p.session (logged_sent f (latest log) b.talk)
      → KeepsRules p.session (logged_sent g (latest log) b.talk) → IsNext p log f b
      → IsNext p log g b
      → spelling f ≡ spelling g
  same_frame (I ns nr x) (I ms mr y) h k i j =
      ap (λ n. as_octets n nr x.items) (h.0.send_number ∙ sym k.0.send_number)
      ∙ ap (λ n. as_octets ms n x.items) (h.0.receive_number ∙ sym k.0.receive_number)
      ∙ ap (as_octets ms mr) (same_data x.items y.items i j)
  same_frame (I ns nr x) (S mr) h k i j = absurd (data_and_due ns nr x.items (S mr) h.0 i
      (due (S mr) k.0 j))
  same_frame (I ns nr x) (U u) h k i j = absurd (data_and_due ns nr x.items (U u) h.0 i
      (due (U u) k.0 j))
  same_frame (S nr) (I ms mr y) h k i j = absurd (data_and_due ms mr y.items (S nr) k.0 j
      (due (S nr) h.0 i))
  same_frame (U u) (I ms mr y) h k i j = absurd (data_and_due ms mr y.items (U u) k.0 j
      (due (U u) h.0 i))
  same_frame (S nr) (S mr) h k i j =
      ap spelling (same_due (S nr) (S mr) (due (S nr) h.0 i) (due (S mr) k.0 j))
  same_frame (S nr) (U u) h k i j =
      ap spelling (same_due (S nr) (U u) (due (S nr) h.0 i) (due (U u) k.0 j))
  same_frame (U u) (S mr) h k i j =
      ap spelling (same_due (U u) (S mr) (due (U u) h.0 i) (due (S mr) k.0 j))
  same_frame (U u) (U v) h k i j =
      ap spelling (same_due (U u) (U v) (due (U u) h.0 i) (due (U v) k.0 j))

  same_octets : (x y : List ℕ) (c d : Course) → HandsOver p log x (latest log) b c
      → HandsOver p log y (latest log) b d → x ≡ y
  same_octets x y c d h k = h.spelled_so
      ∙ same_frame h.frame k.frame h.rules k.rules h.next k.next ∙ sym k.spelled_so

  -- Two kinds of actions exclude each other.

  touched_not : length (received_before log) < length (spelled (came_frames b.talk))
      → IsUntouched log b → ⊥
  touched_not some none = omega (arith, some, none)

  -- if nothing is due, no frame goes out
  pub none_due : (f : Apdu) → IsDue f → HasNothingDue p log b → ⊥
  none_due f (inl e) quiet = no_both Apdu _ f quiet.confirmed e
  none_due f (inr k) quiet = no_both Apdu _ f quiet.undue k.1

  pub none_goes : (f : Apdu) → KeepsRules p.session (logged_sent f (latest log) b.talk)
      → IsNext p log f b
      → HasNothingDue p log b → ⊥
  none_goes (I ns nr x) h i quiet = data_left ns nr x.items h.0 i quiet.flushed
  none_goes (S nr) h i quiet = none_due (S nr) (due (S nr) h.0 i) quiet
  none_goes (U u) h i quiet = none_due (U u) (due (U u) h.0 i) quiet

  hand_and : (x : List ℕ) (c : Course) → HandsOver p log x (latest log) b c → HasAnswered p log b
      → (HasAsked p log b → ⊥) → ⊥
  hand_and x c h (inr quiet) never = none_goes h.frame h.rules h.next quiet
  hand_and x c h (inl none) never = elim h.turn
      [ inl some ↦ touched_not some none | inr asked ↦ never asked ]

  line_and_tcp : (x y : List ℕ) (c d : Course) → SendsNext p log x b c
      → HandsOver p log y (latest log) b d → ⊥
  line_and_tcp x y c d h k = hand_and y d k h.answered
      (λ asked. no_both Sending _ h.request (asked.none h.due) h.next)

  line_and_gap : (x : List ℕ) (i m : ℕ) (c d : Course) → SendsNext p log x b c
      → ReportsGap p log i m b d → ⊥
  line_and_gap x i m c d h k = no_both Gap _ _ h.logged k.gap

  gap_and_tcp : (i m : ℕ) (y : List ℕ) (c d : Course) → ReportsGap p log i m b c
      → HandsOver p log y (latest log) b d → ⊥
  gap_and_tcp i m y c d h k =
      hand_and y d k h.answered (λ asked. no_both Gap _ _ asked.logged h.gap)

  -- What closes the connection is there for no other action.

  pub open_placed : ((present log).is_open ≡ true → has_lacked_place b.works.history ≡ false)
      → (present log).is_open ≡ true → has_lacked_place b.works.history ≡ true → ⊥
  open_placed placed on full = not_both _ full (placed on)

  abbrev IsClosing : Close → Type 0
  IsClosing cause = IsCause p log cause b × (ends cause ≡ true) × ((present log).is_open ≡ true)

  line_and_close : (x : List ℕ) (c : Course) (cause : Close) → SendsNext p log x b c
      → IsClosing cause → ⊥
  line_and_close x c cause h k = elim (kinds p log cause b k.1 k.0) [
    | inl full ↦ open_placed h.placed k.2 full.1
    | inr (inl late) ↦ not_both _ late.1.late h.in_time
    | inr (inr next) ↦ all_and_next laws.unique p log cause b h.all next
  ]

  gap_and_close : (i m : ℕ) (c : Course) (cause : Close) → ReportsGap p log i m b c
      → IsClosing cause → ⊥
  gap_and_close i m c cause h k = elim (kinds p log cause b k.1 k.0) [
    | inl full ↦ open_placed h.placed k.2 full.1
    | inr (inl late) ↦ no_both Gap _ _ late.1.logged h.gap
    | inr (inr next) ↦ all_and_next laws.unique p log cause b h.all next
  ]

  due_and_next : (f : Apdu) (cause : Close) → IsDue f → StandsNext p log cause b → ⊥
  due_and_next f cause (inl e) next = no_both Apdu _ f next.confirmed e
  due_and_next f cause (inr k) next = elim next.undue [
    | inr none ↦ no_both Apdu _ f none k.1
    | inl none ↦ elim k.3 [
      | inl some ↦ touched_not some none
      | inr all ↦ all_and_next laws.unique p log cause b all next
    ]
  ]

  stands_and_tcp : (f : Apdu) (cause : Close)
      → KeepsRules p.session (logged_sent f (latest log) b.talk)
      → IsNext p log f b → StandsNext p log cause b → ⊥
  stands_and_tcp (I ns nr x) cause h i next = data_left ns nr x.items h.0 i next.flushed
  stands_and_tcp (S nr) cause h i next = due_and_next (S nr) cause (due (S nr) h.0 i) next
  stands_and_tcp (U u) cause h i next = due_and_next (U u) cause (due (U u) h.0 i) next

  tcp_and_close : (x : List ℕ) (c : Course) (cause : Close) → HandsOver p log x (latest log) b c
      → IsClosing cause → ⊥
  tcp_and_close x c cause h k = elim (kinds p log cause b k.1 k.0) [
    | inl full ↦ not_both _ full.1 h.placed
    | inr (inl late) ↦ hand_and x c h late.1.answered
        (λ asked. not_both _ late.1.late asked.in_time)
    | inr (inr next) ↦ stands_and_tcp h.frame cause h.rules h.next next
  ]

-- One action is next

-- the cause ends the connection, and it is open
pub closing : (p : Setup) (log : Log) (now : ℕ) (cause : Close) (b : Course)
    → GoesOut p log now (Closed cause) → ends cause ≡ true → IsCause p log cause b
    → IsCause p log cause b × (ends cause ≡ true) × ((present log).is_open ≡ true)
closing p log now cause b g last why = (why, last, (g.may last).0)

-- all causes but one end it
pub one_replaces : (cause : Close) → ends cause ≡ not (replaces (Closed cause))
one_replaces Grammar = refl
one_replaces SendNumber = refl
one_replaces ReceiveNumber = refl
one_replaces Stopped = refl
one_replaces Timeout = refl
one_replaces OwnAnswers = refl
one_replaces Replaced = refl

is_replacing : (cause : Close) → replaces (Closed cause) ≡ true → cause ≡ Replaced
is_replacing Grammar e = cc
is_replacing SendNumber e = cc
is_replacing ReceiveNumber e = cc
is_replacing Stopped e = cc
is_replacing Timeout e = cc
is_replacing OwnAnswers e = cc
is_replacing Replaced e = refl

module _ (laws : Laws) (p : Setup) (log : Log) (b : Course) (now moment : ℕ) where
  -- beside another action a close ends the open connection
  beside : (cause : Close) (e : Output) → replaces e ≡ false → GoesOut p log now (Closed cause)
      → GoesOut p log moment e → IsCause p log cause b → IsClosing laws p log b cause
  beside cause e plain g k why =
      closing p log now cause b g
      (one_replaces cause ∙ ap not (g.replaced ∙ sym k.replaced ∙ plain)) why

  aside : (cause : Close) (e : Output) → replaces e ≡ false → GoesOut p log moment (Closed cause)
      → GoesOut p log now e → IsCause p log cause b → IsClosing laws p log b cause
  aside cause e plain g k why =
      closing p log moment cause b g
      (one_replaces cause ∙ ap not (g.replaced ∙ sym k.replaced ∙ plain)) why

  both_close : (x y : Close) → GoesOut p log now (Closed x) → GoesOut p log moment (Closed y)
      → IsCause p log x b → IsCause p log y b → x ≡ y
  both_close x y g k why other = by_kind (replaces (Closed x)) refl
    where
      by_kind : (r : Bool) → replaces (Closed x) ≡ r → x ≡ y
      by_kind true e = is_replacing x e
          ∙ sym (is_replacing y (k.replaced ∙ sym g.replaced ∙ e))
      by_kind false e =
          let first : ends x ≡ true = one_replaces x ∙ ap not e in
          let second : ends y ≡ true = one_replaces y
          ∙ ap not (k.replaced ∙ sym g.replaced ∙ e) in
          same_kind laws.unique p log x y b (kinds p log x b first why)
          (kinds p log y b second other)

  same_action : (a e : Output) → GoesOut p log now a → GoesOut p log moment e → Needs p log a b
      → Needs p log e b → a ≡ e
  same_action (LineOut x) (LineOut y) g k n m =
      ap LineOut (same_request laws p log b x y n.0 m.0 n.1 m.1)
  same_action (LineOut x) (TcpOut y) g k n m =
      absurd (line_and_tcp laws p log b x y n.0 m.0 n.1 m.1)
  same_action (LineOut x) (GapOut i s) g k n m =
      absurd (line_and_gap laws p log b x i s n.0 m.0 n.1 m.1)
  same_action (LineOut x) (Closed y) g k n m =
      absurd (line_and_close laws p log b x n.0 y n.1 (aside y (LineOut x) refl k g m.0))
  same_action (TcpOut x) (LineOut y) g k n m =
      absurd (line_and_tcp laws p log b y x m.0 n.0 m.1 n.1)
  same_action (TcpOut x) (TcpOut y) g k n m =
      ap TcpOut (same_octets laws p log b x y n.0 m.0 n.1 m.1)
  same_action (TcpOut x) (GapOut i s) g k n m =
      absurd (gap_and_tcp laws p log b i s x m.0 n.0 m.1 n.1)
  same_action (TcpOut x) (Closed y) g k n m =
      absurd (tcp_and_close laws p log b x n.0 y n.1 (aside y (TcpOut x) refl k g m.0))
  same_action (GapOut i s) (LineOut y) g k n m =
      absurd (line_and_gap laws p log b y i s m.0 n.0 m.1 n.1)
  same_action (GapOut i s) (TcpOut y) g k n m =
      absurd (gap_and_tcp laws p log b i s y n.0 m.0 n.1 m.1)
  same_action (GapOut i s) (GapOut j t) g k n m =
      same_gap laws p log b i j s t n.0 m.0 n.1 m.1
  same_action (GapOut i s) (Closed y) g k n m =
      absurd (gap_and_close laws p log b i s n.0 y n.1 (aside y (GapOut i s) refl k g m.0))
  same_action (Closed x) (LineOut y) g k n m =
      absurd (line_and_close laws p log b y m.0 x m.1 (beside x (LineOut y) refl g k n.0))
  same_action (Closed x) (TcpOut y) g k n m =
      absurd (tcp_and_close laws p log b y m.0 x m.1 (beside x (TcpOut y) refl g k n.0))
  same_action (Closed x) (GapOut i s) g k n m =
      absurd (gap_and_close laws p log b i s m.0 x m.1 (beside x (GapOut i s) refl g k n.0))
  same_action (Closed x) (Closed y) g k n m = ap Closed (both_close x y g k n.0 m.0)

pub one_action : Laws → (p : Setup) (log : Log) (now moment : ℕ) (a e : Output)
    → Stands p (Went now a ∷ log) → Stands p (Went moment e ∷ log) → Went now a ≡ Went moment e
one_action laws p log now moment a e s t =
    let b = behind p log now a s.course s.runs in
    let d = behind p log moment e t.course t.runs in
    let before : b.0 ≡ d.0 =
    one_before laws p log b.0 d.0 b.1 d.1 (settled laws p log a b.0 b.1 b.2)
    (settled laws p log e d.0 d.1 d.2) in
    ap (λ n. Went n a) (s.acts.0.moment ∙ sym t.acts.0.moment)
    ∙ ap (Went moment) (same_action laws p log d.0 now moment a e s.acts.0 t.acts.0
    (subst (Needs p log a) before b.2) d.2)
