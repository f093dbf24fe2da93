-- What the course judged are the ASDUs of the I frames that came, when they came.
use Rattle.std.specs.Prelude.{get_or}
use Rattle.std.proofs.Common.{◌≡◌, ℕ, zero, suc, ◌-◌, ◌<◌, ◌≤◌, Bool, true, false, Option, List, []}
use Rattle.std.proofs.Common.{◌∷◌, ◌++◌}
use Rattle.std.proofs.Common.{length, map, refl, ap, sym, subst, ◌∙◌, append_assoc, length-append}
use Rattle.std.proofs.Common.{arith, if◌then◌else◌}
use Rattle.std.proofs.lemmas.List.{append-nil, map-append, append_cancel_left}
use Rattle.apci.specs.declared.apdu.Apdu.{Apdu}
use Rattle.apci.specs.declared.apdu.Apdu.TheVariants.{I, S, U}
use Rattle.apci.specs.Spelling.{Fits, spelling}
use Rattle.session.specs.declared.kinds.Close.{Close}
use Rattle.session.specs.declared.kinds.Close.TheVariants.{Grammar, SendNumber, ReceiveNumber}
use Rattle.session.specs.declared.kinds.Close.TheVariants.{Stopped, Timeout, OwnAnswers, Replaced}
use Rattle.session.specs.History as talk
use Rattle.gateway.specs.Log.{Restarted}
use Rattle.gateway.specs.Log.{Log, Came, Went, Opened, LineIn, TcpIn, CutOff, Ticked, WallIs}
use Rattle.gateway.specs.Log.{LineOut, TcpOut, Closed, GapOut, latest}
use Rattle.gateway.specs.Streams.{spelled}
use Rattle.gateway.specs.Frames.{Connection}
use Rattle.gateway.specs.Connections.{present, received_before}
use Rattle.gateway.specs.Reports.{Setup}
use Rattle.gateway.specs.Serial.{answer_outcome, is_first_command}
use Rattle.gateway.specs.Walls.{wall_on}
use Rattle.gateway.specs.Works.{Works, octets_works, begun_works, settled_works, unasked_works}
use Rattle.gateway.specs.Works.{done_works, link_given_up_works, commands_given_up_works_upto}
use Rattle.link.specs.Carried.{awaits_command}
use Rattle.gateway.specs.Course.{Course, HasTakenAll, AreTaken, came_frames, here_of, with_frames}
use Rattle.gateway.specs.Course.{ended_course, closed_course, works_at, with_works, IsLeft, room_in}
use Rattle.gateway.specs.Course.{Runs}
use Rattle.delivery.specs.Arrivals.{Arrival, present_logs, past_logs, over_logs, arrivals_in}
use Rattle.delivery.specs.Arrivals.{arrivals_by, arrivals}
use Rattle.delivery.specs.Commands.{judged_in, as_judged}
use Rattle.gateway.proofs.Waiting.{AnswersStay}
use Rattle.delivery.proofs.Works.{learnt_of, judged_by, received_judged, sent_judged}
use Rattle.delivery.proofs.Works.{settled_judged}
use Rattle.delivery.proofs.Works.{put_judged}
use Rattle.delivery.proofs.Frames.{joined_by, logged_came, none_came}
use Rattle.delivery.proofs.Given.{Timed}
use Rattle.delivery.proofs.Arriving.{HaveOneFront, ends_behind, logs_as_octets, wall_in, came_now}
use Rattle.delivery.proofs.Arriving.{spelled_grows, arrivals_stay}

abbrev judged_as : List Arrival → List Timed
judged_as xs = map as_judged xs

-- A frame comes, with an octet whose wall is this one.
came_more : (frame : Apdu) (older : List Apdu) (logs : List Log) (wall : Option ℕ)
    → wall_in (get_or logs (length (spelled (frame ∷ older)) - 1) []) ≡ wall →
    judged_as (arrivals_in (frame ∷ older) logs) ≡ judged_as (arrivals_in older logs)
    ++ judged_by frame wall
came_more (I ns nr asdu) older logs wall is =
    let at : Log = get_or logs (length (spelled (I ns nr asdu ∷ older)) - 1) [] in
    map-append as_judged (arrivals_in older logs) (record { asdu = asdu.items; log = at } ∷ [])
    ∙ ap (λ (o : Option ℕ). judged_as (arrivals_in older logs) ++ (asdu.items, o) ∷ []) is
came_more (S nr) older logs wall is = sym (append-nil (judged_as (arrivals_in older logs)))
came_more (U u) older logs wall is = sym (append-nil (judged_as (arrivals_in older logs)))

-- where the frames so far, and the beginning of one, end
pub record IsReceived (log : Log) (frames : List Apdu) : Type 0 where
  pub rest : List ℕ
  pub joined : (present log).received ≡ spelled frames ++ rest

-- a frame that may be taken next has come with the latest event
abbrev IsLate : Log → List Apdu → Type 0
IsLate log frames = (frame : Apdu) (rest : List ℕ) → Fits frame
    → (present log).received ≡ spelled (frame ∷ frames) ++ rest
    → length (received_before log) < length (spelled (frame ∷ frames))

no_octets : (log : Log) (frames : List Apdu) → (present log).received ≡ [] → IsLate log frames
no_octets log frames none frame rest fits joined =
    let count = ap (λ (l : List ℕ). length l) (sym none ∙ joined) in
    absurd (omega (
      arith,
      count,
      length-append (spelled (frame ∷ frames)) rest,
      spelled_grows frame
          frames,
    ))

module _ (one : HaveOneFront) where
  -- behind an event all whole frames were taken before
  late_after : (log : Log) (h : talk.History) (octets : List ℕ) (frame : Apdu) (rest : List ℕ)
      → HasTakenAll (present log) h → Fits frame →
      (present log).received ++ octets ≡ spelled (frame ∷ came_frames h) ++ rest
      → length (present log).received < length (spelled (frame ∷ came_frames h))
  late_after log h octets frame rest all fits joined =
      let came : List ℕ = spelled (came_frames h) in
      let behind : came ++ (all.rest ++ octets) ≡ came ++ (spelling frame ++ rest) =
      sym (append_assoc came all.rest octets) ∙ ap (λ (l : List ℕ). l ++ octets) (sym all.joined)
      ∙ joined
      ∙ append_assoc came (spelling frame) rest in
      let short : length all.rest < length (spelling frame) =
      ends_behind one frame all.rest octets rest fits all.more
      (append_cancel_left came (all.rest ++ octets) (spelling frame ++ rest) behind) in
      omega (
        arith,
        short,
        ap (λ (l : List ℕ). length l) all.joined,
        length-append came all.rest,
        length-append came (spelling frame),
      )

  -- octets of no connection are none
  late_same : (log : Log) (h : talk.History) (frame : Apdu) (rest : List ℕ)
      → HasTakenAll (present log) h → Fits frame →
      (present log).received ≡ spelled (frame ∷ came_frames h) ++ rest
      → length (present log).received < length (spelled (frame ∷ came_frames h))
  late_same log h frame rest all fits joined = late_after log h [] frame rest all fits
      (append-nil (present log).received ∙ joined)

  late_octets : (now : ℕ) (octets : List ℕ) (log : Log) (h : talk.History)
      → HasTakenAll (present log) h
      → IsLate (Came now (TcpIn octets) ∷ log) (came_frames h)
  late_octets now octets log h all frame rest fits joined = go (present log).is_open joined
    where
      go : (b : Bool) → (joined_by b (present log) octets).received
          ≡ spelled (frame ∷ came_frames h) ++ rest
          → length (present log).received < length (spelled (frame ∷ came_frames h))
      go true e = late_after log h octets frame rest all fits e
      go false e = late_same log h frame rest all fits e

module _ (one : HaveOneFront) (stay : AnswersStay) (p : Setup) where
  abbrev judged_of : Works → List Timed
  judged_of w = judged_in w.history

  abbrev IsJudged : Log → Course → Type 0
  IsJudged log c = judged_of c.works ≡ judged_as (arrivals log (here_of c ∷ c.earlier))

  -- what was judged, what came, and what comes next
  pub record IsSo (log : Log) (c : Course) : Type 0 where
    pub judged : IsJudged log c
    pub received : IsReceived log (came_frames c.talk)
    pub late : IsLate log (came_frames c.talk)

  -- the arrivals of the connections before and of the open one
  parted : (log : Log) (c : Course) → judged_as (arrivals log (here_of c ∷ c.earlier))
      ≡ judged_as (arrivals_by c.earlier (past_logs log))
      ++ judged_as (arrivals_in (came_frames c.talk) (present_logs log))
  parted log c = map-append as_judged (arrivals_by c.earlier (past_logs log))
      (arrivals_in (came_frames c.talk) (present_logs log))

  -- Frames are taken.

  late_next : (log : Log) (frame : Apdu) (older : List Apdu) (rest : List ℕ)
      → (present log).received ≡ spelled (frame ∷ older) ++ rest → Fits frame → IsLate log older
      → IsLate log (frame ∷ older)
  late_next log frame older rest joined fits late next more fine e =
      omega (arith, late frame rest fits joined, spelled_grows next (frame ∷ older))

  taken_late : (log : Log) (now : ℕ) (frames : List Apdu) (c : Course) (at : Log) → present at
      ≡ present log
      → received_before at ≡ received_before log → AreTaken p at now frames c
      → IsLate log (came_frames c.talk)
      → IsLate log (came_frames (with_frames p frames now (wall_on at now) c).talk)
  taken_late log now [] c at same before taken late = late
  taken_late log now (frame ∷ older) c at same before taken late =
      late_next log frame (came_frames (with_frames p older now (wall_on at now) c).talk)
      taken.0.rest
      (ap (λ x. x.received) (sym same) ∙ taken.0.joined) taken.0.fits
      (taken_late log now older c at same before taken.1 late)

  frames_judged : (log at : Log) (now : ℕ) (frames : List Apdu) (c : Course) → present at
      ≡ present log
      → received_before at ≡ received_before log → wall_on at now ≡ wall_in log
      → AreTaken p at now frames c →
      IsLate log (came_frames c.talk) → IsJudged log c
      → IsJudged log (with_frames p frames now (wall_on at now) c)
  frames_judged log at now [] c same before wall taken late h = h
  frames_judged log at now (frame ∷ older) c same before wall taken late h =
      let d : Course = with_frames p older now (wall_on at now) c in
      let came : List Apdu = came_frames d.talk in
      let joined : (present log).received ≡ spelled (frame ∷ came) ++ taken.0.rest =
      ap (λ x. x.received) (sym same)
      ∙ taken.0.joined in
      let low : length (received_before log) < length (spelled (frame ∷ came)) =
      taken_late log now older c at same before taken.1 late frame taken.0.rest taken.0.fits
      joined in
      let high : length (spelled (frame ∷ came)) ≤ length (present log).received =
      omega (
        arith,
        ap (λ (l : List ℕ). length l) joined,
        length-append (spelled (frame ∷ came)) taken.0.rest,
      ) in
      let shown : wall_in (get_or (present_logs log) (length (spelled (frame ∷ came)) - 1) [])
      ≡ wall_on at now =
      came_now log (length (spelled (frame ∷ came)) - 1) (omega (arith, low))
      (omega (arith, low, high))
      ∙ sym wall in
      let ih : IsJudged log d = frames_judged log at now older c same before wall taken.1 late h in
      received_judged frame now (wall_on at now) d.works
      ∙ ap (λ (l : List Timed). l ++ judged_by frame (wall_on at now)) (ih ∙ parted log d)
      ∙ append_assoc (judged_as (arrivals_by d.earlier (past_logs log)))
      (judged_as (arrivals_in came (present_logs log))) (judged_by frame (wall_on at now))
      ∙ ap (λ (l : List Timed). judged_as (arrivals_by d.earlier (past_logs log)) ++ l)
      (sym (came_more frame came (present_logs log) (wall_on at now) shown))
      ∙ sym (parted log (with_frames p (frame ∷ older) now (wall_on at now) c))

  -- what may be taken next, and what came, after frames are taken
  frames_so : (log at : Log) (now : ℕ) (frames : List Apdu) (c : Course) → present at ≡ present log
      → received_before at ≡ received_before log → wall_on at now ≡ wall_in log
      → AreTaken p at now frames c →
      (rest : List ℕ) → (present at).received ≡ spelled
      (came_frames (with_frames p frames now (wall_on at now) c).talk) ++ rest →
      IsLate log (came_frames c.talk) → IsJudged log c
      → IsSo log (with_frames p frames now (wall_on at now) c)
  frames_so log at now frames c same before wall taken rest joined late h = record {
    judged = frames_judged log at now frames c same before wall taken late h;
    received = record { rest = rest; joined = ap (λ x. x.received) (sym same) ∙ joined };
    late = taken_late log now frames c at same before taken late;
  }

  -- the same frames, and the same judgements
  same_so : (log new : Log) (c d : Course) → came_frames d.talk ≡ came_frames c.talk
      → d.earlier ≡ c.earlier
      → judged_of d.works ≡ judged_of c.works →
      (present new).received ≡ (present log).received → present_logs new ≡ present_logs log
      → past_logs new ≡ past_logs log → IsLate new (came_frames c.talk) → IsSo log c → IsSo new d
  same_so log new c d came earlier judged same logs past late s = record {
    judged = judged ∙ s.judged
        ∙ ap (λ (fs : List Apdu). judged_as (arrivals_by c.earlier (past_logs log)
        ++ arrivals_in fs (present_logs log))) (sym came)
        ∙ ap (λ (cs : List Connection). judged_as (arrivals_by cs (past_logs log)
        ++ arrivals_in (came_frames d.talk) (present_logs log))) (sym earlier)
        ∙ ap (λ (l : List Log). judged_as (arrivals_by d.earlier (past_logs log)
        ++ arrivals_in (came_frames d.talk) l)) (sym logs)
        ∙ ap (λ (l : List (List Log)). judged_as (arrivals_by d.earlier l
        ++ arrivals_in (came_frames d.talk) (present_logs new))) (sym past);
    received = record {
      rest = s.received.rest;
      joined = same ∙ s.received.joined
          ∙ ap (λ (fs : List Apdu). spelled fs ++ s.received.rest) (sym came);
    };
    late = subst (IsLate new) (sym came) late;
  }

  -- the end of a connection, if one is open
  ended_so : (log new : Log) (c d : Course) → came_frames d.talk ≡ []
      → d.earlier ≡ (if (present log).is_open then here_of c ∷ c.earlier else c.earlier)
      → judged_of d.works ≡ judged_of c.works →
      ((present log).is_open ≡ false → came_frames c.talk ≡ []) → (present new).received ≡ []
      → past_logs new ≡ over_logs (present log).is_open (present_logs log) (past_logs log)
      → IsSo log c → IsSo new d
  ended_so log new c d came earlier judged none empty past s = record {
    judged = judged ∙ s.judged ∙ over (present log).is_open refl
        ∙ ap (λ (cs : List Connection). judged_as (arrivals_by cs
        (over_logs (present log).is_open (present_logs log) (past_logs log)))) (sym earlier)
        ∙ ap (λ (l : List (List Log)). judged_as (arrivals_by d.earlier l)) (sym past)
        ∙ ap judged_as (sym (append-nil (arrivals_by d.earlier (past_logs new))))
        ∙ ap (λ (fs : List Apdu). judged_as (arrivals_by d.earlier (past_logs new)
        ++ arrivals_in fs (present_logs new))) (sym came);
    received = record {
      rest = [];
      joined = empty
          ∙ ap (λ (fs : List Apdu). spelled fs ++ []) (sym came);
    };
    late = no_octets new (came_frames d.talk) empty;
  }
    where
      over : (b : Bool) → (present log).is_open ≡ b
          → judged_as (arrivals log (here_of c ∷ c.earlier))
          ≡ judged_as (arrivals_by (if b then here_of c ∷ c.earlier else c.earlier)
          (over_logs b (present_logs log) (past_logs log)))
      over true is = refl
      over false is = ap (λ (fs : List Apdu). judged_as (arrivals_by c.earlier (past_logs log)
          ++ arrivals_in fs (present_logs log))) (none is)
          ∙ ap judged_as (append-nil (arrivals_by c.earlier (past_logs log)))

  -- The step before is done.

  done_judged : (at : ℕ) (room : Bool) (w : Works) → judged_of (done_works at room w) ≡ judged_of w
  done_judged at room w = go w.is_due
    where
      go : (b : Bool) → judged_of (if b then unasked_works at room (settled_works at w) else w)
          ≡ judged_of w
      go true = settled_judged at w
      go false = refl

  -- giving up judges nothing
  given_judged : (count : ℕ) (w : Works)
      → judged_of (commands_given_up_works_upto count w) ≡ judged_of w
  given_judged zero w = refl
  given_judged (suc k) w = go (commands_given_up_works_upto k w)
      (awaits_command (commands_given_up_works_upto k w).serial.line k) ∙ given_judged k w
    where
      go : (z : Works) (b : Bool)
          → judged_of (if b then link_given_up_works k z else z) ≡ judged_of z
      go z true = refl
      go z false = refl

  left_judged : (log : Log) (before after : Course) → IsLeft p log before after
      → judged_of after.works ≡ judged_of before.works
  left_judged log before after left = ap (λ (c : Course). judged_of c.works) left.is
      ∙ done_judged (latest log) (room_in p log before) before.works

  left_so : (log : Log) (before after : Course) → IsLeft p log before after → IsSo log before
      → IsSo log after
  left_so log before after left s =
      same_so log log before after (ap (λ (c : Course). came_frames c.talk) left.is)
      (ap (λ (c : Course). c.earlier) left.is) (left_judged log before after left) refl refl refl
      s.late s

  -- an event that brings no octets of the connection
  quiet_so : (log new : Log) (before left d : Course) → HasTakenAll (present log) before.talk
      → IsLeft p log before left → came_frames d.talk ≡ came_frames left.talk → d.earlier
      ≡ left.earlier
      → judged_of d.works ≡ judged_of left.works →
      (present new).received ≡ (present log).received → received_before new ≡ (present log).received
      → present_logs new ≡ present_logs log → past_logs new ≡ past_logs log → IsSo log before
      → IsSo new d
  quiet_so log new before left d all leaves came earlier judged same earlier_octets logs past s =
      same_so log new left d came earlier judged same logs past
      (λ frame rest fits joined.
      let before_is : came_frames left.talk ≡ came_frames before.talk =
      ap (λ (c : Course). came_frames c.talk) leaves.is in
      let there : (present log).received ≡ spelled (frame ∷ came_frames before.talk) ++ rest =
      sym same ∙ joined
      ∙ ap (λ (fs : List Apdu). spelled (frame ∷ fs) ++ rest) before_is in
      let behind : length (present log).received
      < length (spelled (frame ∷ came_frames before.talk)) =
      late_same one log before.talk frame rest all fits there in
      omega (
        arith,
        behind,
        ap (λ (l : List ℕ). length l) earlier_octets,
        ap (λ (fs : List Apdu). length (spelled (frame ∷ fs))) before_is,
      ))
      (left_so log before left leaves s)

  -- octets of the connection come
  octets_judged : (now : ℕ) (octets : List ℕ) (log : Log) (c : Course) → IsSo log c
      → IsJudged (Came now (TcpIn octets) ∷ log) c
  octets_judged now octets log c s = s.judged
      ∙ ap (λ (xs : List Arrival). judged_as (arrivals_by c.earlier (past_logs log) ++ xs))
      (sym (go (present log).is_open))
    where
      each : List Log
      each = map (λ (octet : ℕ). let l : Log = Came now (TcpIn octets) ∷ log in l) octets

      within : length (spelled (came_frames c.talk)) ≤ length (present_logs log)
      within = omega (
        arith,
        logs_as_octets log,
        ap (λ (l : List ℕ). length l) s.received.joined,
        length-append (spelled (came_frames c.talk)) s.received.rest,
      )

      go : (b : Bool) → arrivals_in (came_frames c.talk) (if b then present_logs log ++ each
          else present_logs log)
          ≡ arrivals_in (came_frames c.talk) (present_logs log)
      go true = arrivals_stay (came_frames c.talk) (present_logs log) each within
      go false = refl

  closed_so : (cause : Close) (now : ℕ) (log : Log) (c : Course)
      → ((present log).is_open ≡ false → came_frames c.talk ≡ []) → IsSo log c →
      IsSo (Went now (Closed cause) ∷ log) (closed_course p cause (present log).is_open (latest log)
      c)
  closed_so Grammar now log c none s = ended_so log (Went now (Closed Grammar) ∷ log) c
      (ended_course (present log).is_open c.works c) refl refl refl none refl refl s
  closed_so SendNumber now log c none s = ended_so log (Went now (Closed SendNumber) ∷ log) c
      (ended_course (present log).is_open c.works c) refl refl refl none refl refl s
  closed_so ReceiveNumber now log c none s = ended_so log (Went now (Closed ReceiveNumber) ∷ log) c
      (ended_course (present log).is_open c.works c) refl refl refl none refl refl s
  closed_so Stopped now log c none s = ended_so log (Went now (Closed Stopped) ∷ log) c
      (ended_course (present log).is_open c.works c) refl refl refl none refl refl s
  closed_so Timeout now log c none s =
      ended_so log (Went now (Closed Timeout) ∷ log) c
      (ended_course (present log).is_open (works_at Timeout (latest log) c.works) c) refl refl
      (settled_judged (latest log) c.works) none refl refl s
  closed_so OwnAnswers now log c none s = ended_so log (Went now (Closed OwnAnswers) ∷ log) c
      (ended_course (present log).is_open c.works c) refl refl refl none refl refl s
  closed_so Replaced now log c none s = record {
    judged = s.judged;
    received =
        record { rest = s.received.rest; joined = s.received.joined };
    late = s.late;
  }

  all_so : (log : Log) (c : Course) → Runs p log c → IsSo log c
  all_so [] c r = subst (IsSo []) (sym r) (record {
    judged = refl;
    received =
        record { rest = []; joined = refl };
    late = no_octets [] [] refl;
  })
  all_so (Came now (LineIn octets) ∷ log) c r =
      let at : ℕ = latest (Came now (LineIn octets) ∷ log) in
      let learnt = learnt_of stay p at _ (answer_outcome octets r.1.works.serial)
      (octets_works octets r.1.works) r.5.0 r.5.1 in
      quiet_so log (Came now (LineIn octets) ∷ log) r.0 r.1 c r.3 r.4
      (ap (λ (x : Course). came_frames x.talk) r.5.2)
      (ap (λ (x : Course). x.earlier) r.5.2)
      (ap (λ (x : Course). judged_of x.works) r.5.2 ∙ learnt.judged) refl refl refl refl
      (all_so log r.0 r.2)
  all_so (Came now (TcpIn octets) ∷ log) c r =
      let new : Log = Came now (TcpIn octets) ∷ log in
      let at : ℕ = latest new in
      let begun : Course = with_works (begun_works at r.1.works) r.1 in
      let left : IsSo log r.1 = left_so log r.0 r.1 r.4 (all_so log r.0 r.2) in
      let same : came_frames r.0.talk ≡ came_frames r.1.talk =
      sym (ap (λ (x : Course). came_frames x.talk) r.4.is) in
      subst (IsSo new) (sym r.5.taken)
      (frames_so new (Came at (TcpIn octets) ∷ log) at r.5.frames begun refl refl refl r.5.each
      r.5.rest
      (r.5.joined ∙ ap (λ (x : Course). spelled (came_frames x.talk) ++ r.5.rest) r.5.taken)
      (subst (IsLate new) same (late_octets one now octets log r.0.talk r.3))
      (octets_judged now octets log r.1 left))
  all_so (Came now Ticked ∷ log) c r =
      quiet_so log (Came now Ticked ∷ log) r.0 r.1 c r.3 r.4
      (ap (λ (x : Course). came_frames x.talk) r.5)
      (ap (λ (x : Course). x.earlier) r.5) (ap (λ (x : Course). judged_of x.works) r.5) refl refl
      refl refl
      (all_so log r.0 r.2)
  all_so (Came now (WallIs number) ∷ log) c r =
      quiet_so log (Came now (WallIs number) ∷ log) r.0 r.1 c r.3 r.4
      (ap (λ (x : Course). came_frames x.talk) r.5)
      (ap (λ (x : Course). x.earlier) r.5) (ap (λ (x : Course). judged_of x.works) r.5) refl refl
      refl refl
      (all_so log r.0 r.2)
  all_so (Came now Restarted ∷ log) c r =
      ended_so log (Came now Restarted ∷ log) r.1 c (ap (λ (x : Course). came_frames x.talk) r.5.1)
      (ap (λ (x : Course). x.earlier) r.5.1)
      (ap (λ (x : Course). judged_of x.works) r.5.1
      ∙ given_judged (length r.1.works.serial.line.stations) r.1.works)
      (λ closed. ap (λ (x : Course). came_frames x.talk) r.4.is
      ∙ none_came p log r.0 r.2 closed) refl refl (left_so log r.0 r.1 r.4 (all_so log r.0 r.2))
  all_so (Came now Opened ∷ log) c r =
      ended_so log (Came now Opened ∷ log) r.1 c (ap (λ (x : Course). came_frames x.talk) r.5)
      (ap (λ (x : Course). x.earlier) r.5) (ap (λ (x : Course). judged_of x.works) r.5)
      (λ closed. ap (λ (x : Course). came_frames x.talk) r.4.is
      ∙ none_came p log r.0 r.2 closed) refl refl (left_so log r.0 r.1 r.4 (all_so log r.0 r.2))
  all_so (Came now CutOff ∷ log) c r =
      ended_so log (Came now CutOff ∷ log) r.1 c (ap (λ (x : Course). came_frames x.talk) r.5)
      (ap (λ (x : Course). x.earlier) r.5) (ap (λ (x : Course). judged_of x.works) r.5)
      (λ closed. ap (λ (x : Course). came_frames x.talk) r.4.is
      ∙ none_came p log r.0 r.2 closed) refl refl (left_so log r.0 r.1 r.4 (all_so log r.0 r.2))
  all_so (Went now (LineOut octets) ∷ log) c r =
      let before : IsSo log r.0 = all_so log r.0 r.1 in
      let ready : Works = settled_works (latest log) r.0.works in
      same_so log (Went now (LineOut octets) ∷ log) r.0 c
      (ap (λ (x : Course). came_frames x.talk) r.2.is)
      (ap (λ (x : Course). x.earlier) r.2.is)
      (ap (λ (x : Course). judged_of x.works) r.2.is ∙ put_judged
      (is_first_command ready.serial.line r.2.request) r.2.request.station ready
      ∙ settled_judged (latest log) r.0.works)
      refl refl refl before.late before
  all_so (Went now (GapOut station session) ∷ log) c r =
      let before : IsSo log r.0 = all_so log r.0 r.1 in
      same_so log (Went now (GapOut station session) ∷ log) r.0 c
      (ap (λ (x : Course). came_frames x.talk) r.2.is)
      (ap (λ (x : Course). x.earlier) r.2.is) (ap (λ (x : Course). judged_of x.works) r.2.is)
      refl refl refl before.late before
  all_so (Went now (TcpOut octets) ∷ log) c r =
      let new : Log = Went now (TcpOut octets) ∷ log in
      let before : IsSo log r.0 = all_so log r.0 r.2 in
      let sent : IsSo new r.1 =
      same_so log new r.0 r.1 (ap (λ (x : Course). came_frames x.talk) r.3.put
      ∙ logged_came r.3.frame (latest log) r.0.talk) (ap (λ (x : Course). x.earlier) r.3.put)
      (ap (λ (x : Course). judged_of x.works) r.3.put ∙ sent_judged r.3.frame r.0.works) refl refl
      refl before.late
      before in
      subst (IsSo new) (sym r.4.taken)
      (frames_so new new (latest log) r.4.frames r.1 refl refl refl r.4.each r.4.rest
      (r.4.joined ∙ ap (λ (x : Course). spelled (came_frames x.talk) ++ r.4.rest) r.4.taken)
      sent.late sent.judged)
  all_so (Went now (Closed cause) ∷ log) c r =
      subst (IsSo (Went now (Closed cause) ∷ log)) (sym r.2)
      (closed_so cause now log r.0 (none_came p log r.0 r.1) (all_so log r.0 r.1))

  pub judged_all : (log : Log) (c : Course) → Runs p log c → IsJudged log c
  judged_all log c r = (all_so log c r).judged
