-- What keeps the promises keeps them at each moment: each beginning of its log does.
use Rattle.std.proofs.Common.{◌≡◌, ℕ, ◌+◌, ◌%◌, ◌==◌, Bool, true, false, not, List, [], ◌∷◌, ◌++◌}
use Rattle.std.proofs.Common.{length, take, drop, length-append, Option, Some, None, refl, ap, sym}
use Rattle.std.proofs.Common.{subst, ◌∙◌, arith, if◌then◌else◌, zero-add}
use Rattle.std.specs.List.{flat_map}
use Rattle.std.proofs.lemmas.Bool.{eqb-true}
use Rattle.std.proofs.lemmas.Grind.{flat_map-append}
use Rattle.std.proofs.lemmas.List.{append-nil, drop-drop, nil_from_length}
use Rattle.std.proofs.Math.Seq.{take-add}
use Rattle.apci.specs.declared.apdu.Apdu.{Apdu}
use Rattle.apci.specs.declared.apdu.Apdu.TheVariants.{I, S, U}
use Rattle.asdu.specs.InformationObjects.{InformationObject}
use Rattle.link.specs.Exchanges.{Exchanges, received_current, timed_current}
use Rattle.link.specs.Exchanges.{reports_of_exchanges}
use Rattle.link.specs.Matching.{report_in}
use Rattle.link.specs.Primary.{Primary, received_outcome}
use Rattle.ft12.specs.Fronts.{front_of}
use Rattle.session.specs.declared.kinds.Close.{Close}
use Rattle.session.specs.declared.kinds.Close.TheVariants.{Grammar, SendNumber, ReceiveNumber}
use Rattle.session.specs.declared.kinds.Close.TheVariants.{Stopped, Timeout, OwnAnswers, Replaced}
use Rattle.session.specs.declared.kinds.Taken.{Taken}
use Rattle.session.specs.declared.kinds.Taken.TheVariants.{Nothing, Asdu, Close as Closes}
use Rattle.session.specs.History as talk
use Rattle.session.specs.History.{History, sent_frames, verdict_on}
use Rattle.session.specs.Rules.{KeepsRules}
use Rattle.session.specs.Runs as session
use Rattle.session.specs.Session.{is_close}
use Rattle.gateway.specs.Objects.{objects, has_objects, monitor_objects}
use Rattle.gateway.specs.Log.{Log, Input, Came, Went, Opened, LineIn, TcpIn, CutOff, Ticked, WallIs}
use Rattle.gateway.specs.Log.{Restarted, LineOut, TcpOut, Closed, GapOut, latest}
use Rattle.gateway.specs.Streams.{spelled, AllFit}
use Rattle.gateway.specs.Frames.{Connection, Sent, IsNumberedFrom, objects_of_frames, AreInOrder}
use Rattle.gateway.specs.Frames.{first_unacknowledged}
use Rattle.gateway.specs.Connections.{Channel, present, past, closed_by, Passes, IsBegun}
use Rattle.gateway.specs.Connections.{IsConnection, AreConnections}
use Rattle.gateway.specs.Reports.{Setup, address_at, exchanges_of, reports_in, taken_objects}
use Rattle.gateway.specs.Reports.{sending_in}
use Rattle.gateway.specs.Course.{Course, came_frames, here_of, with_frames, with_sent}
use Rattle.gateway.specs.Course.{closed_course}
use Rattle.gateway.specs.Course.{logged_sent, HasTakenAll, IsCause, IsNext, TakesFrames, Comes}
use Rattle.gateway.specs.Course.{Runs}
use Rattle.gateway.specs.Conversation.{KeepsRulesThroughout}
use Rattle.gateway.specs.Traffic.{IsFaithful, ActsRightly}
use Rattle.gateway.proofs.Called.{taken_fit}
use Rattle.gateway.proofs.Frames.{pass_grows}
use Rattle.gateway.proofs.Handing.{has_gone_out}
use Rattle.gateway.proofs.Objects.{orders_grow}
use Rattle.gateway.proofs.OneCause.{counted}
use Rattle.gateway.proofs.Stations.{keeps_links, taken_grows}
use Rattle.gateway.proofs.Unconfirmed.{numbered_more}
use Rattle.gateway.proofs.Waiting.{AnswersStay}
use Rattle.delivery.specs.Joined.{IsSetUp}
use Rattle.delivery.specs.Received.{close_by}
use Rattle.delivery.proofs.Closing.{rests_before}
use Rattle.delivery.proofs.Faults.{same_fault}
use Rattle.delivery.proofs.Joining.{joins}
use Rattle.delivery.specs.LinkLaws.{LinkLaws}
use Rattle.delivery.proofs.Replacing.{acts_before}
use Rattle.delivery.proofs.Ruled.{ruled}

-- ---- What came

no_close : (t : Taken) → is_close t ≡ false → close_by t ≡ None
no_close (Closes cause) e = cc
no_close Asdu e = refl
no_close Nothing e = refl

-- each frame that came, if a history keeps the rules, came without fault
without_fault : (settings : session.Settings) (h : History) → KeepsRules settings h
    → Passes (length (sent_frames h)) (came_frames h)
without_fault settings [] k = tt
without_fault settings (talk.Opened now ∷ h) k = without_fault settings h k.1
without_fault settings (talk.Came frame now ∷ h) k = (
  same_fault h frame ∙ no_close (verdict_on frame h) k.0.1,
  without_fault settings h k.1,
)
without_fault settings (talk.Refused now ∷ h) k = without_fault settings h k.1
without_fault settings (talk.Sent ns nr kind now ∷ h) k =
    pass_grows (length (sent_frames h))
    (length (sent_frames h ++ record { kind = kind; moment = now } ∷ []))
    (omega (arith, length-append (sent_frames h) (record { kind = kind; moment = now } ∷ [])))
    (came_frames h) (without_fault settings h k.1)
without_fault settings (talk.Went frame now ∷ h) k = without_fault settings h k.1

-- The frames that were taken stand at the front of the octets received.
record HasRead (octets : List ℕ) (h : History) : Type 0 where
  rest : List ℕ
  joined : octets ≡ spelled (came_frames h) ++ rest
  fit : AllFit (came_frames h)

no_octets : HasRead [] []
no_octets = record { rest = []; joined = refl; fit = tt }

module _ (p : Setup) where
  all_fit : (frames : List Apdu) (now : ℕ) (wall : Option ℕ) (c : Course) → AllFit frames
      → AllFit (came_frames c.talk) → AllFit (came_frames (with_frames p frames now wall c).talk)
  all_fit [] now wall c fit h = h
  all_fit (frame ∷ frames) now wall c fit h = (fit.0, all_fit frames now wall c fit.1 h)

  abbrev Reads : Log → Course → Type 0
  Reads log c = HasRead (present log).received c.talk

  taken : (log : Log) (now : ℕ) (before after : Course) → TakesFrames p log now before after
      → AllFit (came_frames before.talk) → Reads log after
  taken log now before after k fit =
      record {
        rest = k.rest;
        joined = k.joined;
        fit = subst (λ (c : Course). AllFit (came_frames c.talk)) (sym k.taken)
            (all_fit k.frames now _ before (taken_fit p log now k.frames before k.each) fit);
      }

  came_sent : (frame : Apdu) (now : ℕ) (c : Course)
      → came_frames (with_sent frame now c).talk ≡ came_frames c.talk
  came_sent (I ns nr asdu) now c = refl
  came_sent (S nr) now c = refl
  came_sent (U function) now c = refl

  read_closed : (log : Log) (now : ℕ) (cause : Close) (is_open : Bool) (at : ℕ) (c : Course)
      → Reads log c → Reads (Went now (Closed cause) ∷ log) (closed_course p cause is_open at c)
  read_closed log now Grammar is_open at c h = no_octets
  read_closed log now SendNumber is_open at c h = no_octets
  read_closed log now ReceiveNumber is_open at c h = no_octets
  read_closed log now Stopped is_open at c h = no_octets
  read_closed log now Timeout is_open at c h = no_octets
  read_closed log now OwnAnswers is_open at c h = no_octets
  read_closed log now Replaced is_open at c h = h

  read_come : (log : Log) (now at : ℕ) (event : Input) (left c : Course)
      → Comes p log at event left c → Reads log left → Reads (Came now event ∷ log) c
  read_come log now at (LineIn octets) left c k h = subst (Reads log) (sym k.2) h
  read_come log now at (TcpIn octets) left c k h = taken _ at _ c k h.fit
  read_come log now at Ticked left c k h = subst (Reads log) (sym k) h
  read_come log now at (WallIs number) left c k h = subst (Reads log) (sym k) h
  read_come log now at Opened left c k h =
      subst (Reads (Came now Opened ∷ log)) (sym k) (record { rest = []; joined = refl; fit = tt })
  read_come log now at CutOff left c k h =
      subst (Reads (Came now CutOff ∷ log)) (sym k) no_octets
  read_come log now at Restarted left c k h =
      subst (Reads (Came now Restarted ∷ log)) (sym k.1) no_octets

  reads : (log : Log) (c : Course) → Runs p log c → Reads log c
  reads [] c r = subst (Reads []) (sym r) no_octets
  reads (Came now event ∷ log) c r =
      read_come log now _ event r.1 c r.5 (subst (Reads log) (sym r.4.is) (reads log r.0 r.2))
  reads (Went now (LineOut octets) ∷ log) c r = subst (Reads log) (sym r.2.is) (reads log r.0 r.1)
  reads (Went now (GapOut station session) ∷ log) c r =
      subst (Reads log) (sym r.2.is) (reads log r.0 r.1)
  reads (Went now (TcpOut octets) ∷ log) c r =
      taken (Went now (TcpOut octets) ∷ log) (latest log) r.1 c r.4
      (subst (λ (d : Course). AllFit (came_frames d.talk)) (sym r.3.put)
      (subst AllFit (sym (came_sent r.3.frame (latest log) r.0)) (reads log r.0 r.2).fit))
  reads (Went now (Closed cause) ∷ log) c r =
      subst (Reads (Went now (Closed cause) ∷ log)) (sym r.2)
      (read_closed log now cause (present log).is_open (latest log) r.0 (reads log r.0 r.1))

  -- ---- The connections

  begun : (log : Log) (c : Course) → Runs p log c → IsBegun (present log) (here_of c)
  begun log c r =
      let out = has_gone_out p log c r in
      let read = reads log c r in
      record {
        put = out.frames;
        handed = out.handed;
        sent = out.i_frames;
        rest = read.rest;
        joined = read.joined;
        fit = read.fit;
        pass = subst (λ (n : ℕ). Passes n (came_frames c.talk)) (sym (counted p log c r))
            (without_fault p.session c.talk (ruled p log c r));
      }

  -- one that has taken all that came
  quiet : (octets : Channel) (c : Course) → IsBegun octets (here_of c)
      → HasTakenAll octets c.talk → IsConnection octets (here_of c) None
  quiet octets c b all =
      record {
        put = b.put;
        handed = b.handed;
        sent = b.sent;
        rest = all.rest;
        joined = all.joined;
        fit = b.fit;
        pass = b.pass;
        behind = all.more;
      }

  -- one that was closed for want of a place for an own answer
  lacking : (octets : Channel) (c : Course) → IsBegun octets (here_of c)
      → IsConnection (closed_by OwnAnswers octets) (here_of c) (Some OwnAnswers)
  lacking octets c b =
      record {
        put = b.put;
        handed = b.handed;
        sent = b.sent;
        rest = b.rest;
        joined = b.joined;
        fit = b.fit;
        pass = b.pass;
        behind = refl;
      }

  -- the connection that was open, if any, joins those that are over
  joins_past : (is_open : Bool) (octets : Channel) (older : List Channel) (c : Connection)
      (before : List Connection) (fault : Option Close) → IsConnection octets c fault
      → AreConnections older before
      → AreConnections (if is_open then octets ∷ older else older)
      (if is_open then c ∷ before else before)
  joins_past true octets older c before fault is are = (fault, is, are)
  joins_past false octets older c before fault is are = are

  frames_earlier : (frames : List Apdu) (now : ℕ) (wall : Option ℕ) (c : Course)
      → (with_frames p frames now wall c).earlier ≡ c.earlier
  frames_earlier [] now wall c = refl
  frames_earlier (frame ∷ frames) now wall c = frames_earlier frames now wall c

  abbrev AreOver : Log → Course → Type 0
  AreOver log c = AreConnections (past log) c.earlier

  over_closed : (log : Log) (now : ℕ) (cause : Close) (c : Course) → Runs p log c
      → IsCause p log cause c → AreOver log c
      → AreOver (Went now (Closed cause) ∷ log)
      (closed_course p cause (present log).is_open (latest log) c)
  over_closed log now Grammar c r k h =
      joins_past (present log).is_open (present log) (past log) _ _ _ k.next h
  over_closed log now SendNumber c r k h =
      joins_past (present log).is_open (present log) (past log) _ _ _ k.next h
  over_closed log now ReceiveNumber c r k h =
      joins_past (present log).is_open (present log) (past log) _ _ _ k.next h
  over_closed log now Stopped c r k h =
      joins_past (present log).is_open (present log) (past log) _ _ _ k.next h
  over_closed log now Timeout c r k h =
      joins_past (present log).is_open (present log) (past log) _ _ _
      (quiet (present log) c (begun log c r) k.all) h
  over_closed log now OwnAnswers c r k h =
      joins_past (present log).is_open (closed_by OwnAnswers (present log)) (past log) _ _ _
      (lacking (present log) c (begun log c r)) h
  over_closed log now Replaced c r k h = h

  over_come : (log : Log) (now at : ℕ) (event : Input) (left c : Course)
      → IsBegun (present log) (here_of left) → HasTakenAll (present log) left.talk
      → Comes p log at event left c → AreOver log left → AreOver (Came now event ∷ log) c
  over_come log now at (LineIn octets) left c b all k h = subst (AreOver log) (sym k.2) h
  over_come log now at (TcpIn octets) left c b all k h =
      subst (AreConnections (past log))
      (sym (ap (λ (d : Course). d.earlier) k.taken ∙ frames_earlier k.frames at _ _)) h
  over_come log now at Ticked left c b all k h = subst (AreOver log) (sym k) h
  over_come log now at (WallIs number) left c b all k h = subst (AreOver log) (sym k) h
  over_come log now at Opened left c b all k h =
      subst (AreOver (Came now Opened ∷ log)) (sym k)
      (joins_past (present log).is_open (present log) (past log) _ _ _
      (quiet (present log) left b all) h)
  over_come log now at CutOff left c b all k h =
      subst (AreOver (Came now CutOff ∷ log)) (sym k)
      (joins_past (present log).is_open (present log) (past log) _ _ _
      (quiet (present log) left b all) h)
  over_come log now at Restarted left c b all k h =
      subst (AreOver (Came now Restarted ∷ log)) (sym k.1)
      (joins_past (present log).is_open (present log) (past log) _ _ _
      (quiet (present log) left b all) h)

  are_over : (log : Log) (c : Course) → Runs p log c → AreOver log c
  are_over [] c r = subst (AreOver []) (sym r) tt
  are_over (Came now event ∷ log) c r =
      over_come log now _ event r.1 c
      (subst (λ (d : Course). IsBegun (present log) (here_of d)) (sym r.4.is) (begun log r.0 r.2))
      (subst (λ (d : Course). HasTakenAll (present log) d.talk) (sym r.4.is) r.3) r.5
      (subst (AreOver log) (sym r.4.is) (are_over log r.0 r.2))
  are_over (Went now (LineOut octets) ∷ log) c r =
      subst (AreOver log) (sym r.2.is) (are_over log r.0 r.1)
  are_over (Went now (GapOut station session) ∷ log) c r =
      subst (AreOver log) (sym r.2.is) (are_over log r.0 r.1)
  are_over (Went now (TcpOut octets) ∷ log) c r =
      subst (AreConnections (past log))
      (sym (ap (λ (d : Course). d.earlier) r.4.taken ∙ frames_earlier r.4.frames (latest log) _ r.1
      ∙ ap (λ (d : Course). d.earlier) r.3.put)) (are_over log r.0 r.2)
  are_over (Went now (Closed cause) ∷ log) c r =
      subst (AreOver (Went now (Closed cause) ∷ log)) (sym r.2)
      (over_closed log now cause r.0 r.1 r.3 (are_over log r.0 r.1))

  -- ---- The objects that were sent

  -- in order, as far as this much was taken
  abbrev AreSentOf : List InformationObject → Course → Type 0
  AreSentOf taken c = AreInOrder taken (here_of c ∷ c.earlier)

  sent_again : (objs : List InformationObject) (c d : Course) → d.sent ≡ c.sent
      → d.earlier ≡ c.earlier → AreSentOf objs c → AreSentOf objs d
  sent_again objs c d sent earlier h = (
    record {
      run =
          subst (λ (before : List Connection). objects_of_frames d.sent
          ≡ take (length (objects_of_frames d.sent)) (drop (first_unacknowledged before) objs))
          (sym earlier)
          (subst (λ (fs : List Sent). objects_of_frames fs
          ≡ take (length (objects_of_frames fs)) (drop (first_unacknowledged c.earlier) objs))
          (sym sent) h.0.run);
      numbered = subst (IsNumberedFrom 0) (sym sent) h.0.numbered;
    },
    subst (AreInOrder objs) (sym earlier) h.1,
  )

  -- a connection on which nothing was sent yet
  none_sent : (objs : List InformationObject) (received : List Apdu) (before : List Connection)
      → AreInOrder objs before
      → AreInOrder objs (record { sent_frames = []; received_frames = received } ∷ before)
  none_sent objs received before h = (record { run = refl; numbered = tt }, h)

  ended : (objs : List InformationObject) (is_open : Bool) (c : Course) → AreSentOf objs c
      → AreInOrder objs (if is_open then here_of c ∷ c.earlier else c.earlier)
  ended objs true c h = h
  ended objs false c h = h.1

  closed_sent : (objs : List InformationObject) (cause : Close) (is_open : Bool) (at : ℕ)
      (c : Course) → AreSentOf objs c → AreSentOf objs (closed_course p cause is_open at c)
  closed_sent objs Grammar is_open at c h = none_sent objs [] _ (ended objs is_open c h)
  closed_sent objs SendNumber is_open at c h = none_sent objs [] _ (ended objs is_open c h)
  closed_sent objs ReceiveNumber is_open at c h = none_sent objs [] _ (ended objs is_open c h)
  closed_sent objs Stopped is_open at c h = none_sent objs [] _ (ended objs is_open c h)
  closed_sent objs Timeout is_open at c h = none_sent objs [] _ (ended objs is_open c h)
  closed_sent objs OwnAnswers is_open at c h = none_sent objs [] _ (ended objs is_open c h)
  closed_sent objs Replaced is_open at c h = h

  frames_sent : (frames : List Apdu) (now : ℕ) (wall : Option ℕ) (c : Course)
      → (with_frames p frames now wall c).sent ≡ c.sent
  frames_sent [] now wall c = refl
  frames_sent (frame ∷ frames) now wall c = frames_sent frames now wall c

  come_sent : (objs : List InformationObject) (log : Log) (at : ℕ) (event : Input)
      (left c : Course) → Comes p log at event left c → AreSentOf objs left → AreSentOf objs c
  come_sent objs log at (LineIn octets) left c k h =
      sent_again objs left c (ap (λ (d : Course). d.sent) k.2) (ap (λ (d : Course). d.earlier) k.2)
      h
  come_sent objs log at (TcpIn octets) left c k h =
      sent_again objs left c
      (ap (λ (d : Course). d.sent) k.taken ∙ frames_sent k.frames at _ _)
      (ap (λ (d : Course). d.earlier) k.taken ∙ frames_earlier k.frames at _ _) h
  come_sent objs log at Ticked left c k h =
      sent_again objs left c (ap (λ (d : Course). d.sent) k) (ap (λ (d : Course). d.earlier) k) h
  come_sent objs log at (WallIs number) left c k h =
      sent_again objs left c (ap (λ (d : Course). d.sent) k) (ap (λ (d : Course). d.earlier) k) h
  come_sent objs log at Opened left c k h =
      subst (AreSentOf objs) (sym k) (none_sent objs [] _ (ended objs (present log).is_open left h))
  come_sent objs log at CutOff left c k h =
      subst (AreSentOf objs) (sym k) (none_sent objs [] _ (ended objs (present log).is_open left h))
  come_sent objs log at Restarted left c k h =
      subst (AreSentOf objs) (sym k.1)
      (none_sent objs [] _ (ended objs (present log).is_open left h))

  -- What goes out is the next of what was taken.

  is_so : (b : Bool) → not b ≡ false → b ≡ true
  is_so true e = refl
  is_so false e = cc

  no_objects : (os : List InformationObject) → not (length os == 0) ≡ false → os ≡ []
  no_objects os e =
      nil_from_length os (omega (arith, eqb-true (length os) 0 (is_so (length os == 0) e)))

  run_on : (objs run next : List InformationObject) (start : ℕ)
      → run ≡ take (length run) (drop start objs)
      → next ≡ take (length next) (drop (start + length run) objs)
      → run ++ next ≡ take (length (run ++ next)) (drop start objs)
  run_on objs run next start h k =
      ap (λ (xs : List InformationObject). xs ++ next) h
      ∙ ap (λ (xs : List InformationObject). take (length run) (drop start objs) ++ xs)
      (k ∙ ap (take (length next)) (sym (drop-drop (length run) start objs)))
      ∙ sym (take-add (length run) (length next) (drop start objs))
      ∙ ap (λ (n : ℕ). take n (drop start objs)) (sym (length-append run next))

  one_more : (objs : List InformationObject) (fs : List Sent) (f : Sent) (start : ℕ)
      → objects_of_frames fs ≡ take (length (objects_of_frames fs)) (drop start objs)
      → objects f.asdu
      ≡ take (length (objects f.asdu)) (drop (start + length (objects_of_frames fs)) objs)
      → objects_of_frames (fs ++ f ∷ [])
      ≡ take (length (objects_of_frames (fs ++ f ∷ []))) (drop start objs)
  one_more objs fs f start h k =
      subst (λ (xs : List InformationObject). xs ≡ take (length xs) (drop start objs))
      (sym (flat_map-append (λ (x : Sent). objects x.asdu) fs (f ∷ [])
      ∙ ap (λ (xs : List InformationObject). objects_of_frames fs ++ xs)
      (append-nil (objects f.asdu))))
      (run_on objs (objects_of_frames fs) (objects f.asdu) start h k)

  next_sent : (log : Log) (frame : Apdu) (now : ℕ) (c : Course) → Runs p log c
      → KeepsRules p.session (logged_sent frame now c.talk) → IsNext p log frame c
      → AreSentOf (taken_objects p log) c → AreSentOf (taken_objects p log) (with_sent frame now c)
  next_sent log (S nr) now c r rules next h = h
  next_sent log (U function) now c r rules next h = h
  next_sent log (I ns nr asdu) now c r rules next h = (
    record {
      run = one_more (taken_objects p log) c.sent f (first_unacknowledged c.earlier) h.0.run
          (by_objects (has_objects asdu.items) refl);
      numbered = numbered_more 0 c.sent f
          (rules.0.send_number
          ∙ ap (λ (n : ℕ). n % 32768) (sym (counted p log c r) ∙ sym (zero-add (length c.sent))))
          h.0.numbered;
    },
    h.1,
  )
    where
      f : Sent
      f = record { ns = ns; nr = nr; asdu = asdu.items }

      by_objects : (b : Bool) → has_objects asdu.items ≡ b → objects asdu.items
          ≡ take (length (objects asdu.items))
          (drop (first_unacknowledged c.earlier + length (objects_of_frames c.sent))
          (taken_objects p log))
      by_objects true e = next.report e
      by_objects false e =
          let none : objects asdu.items ≡ [] = no_objects (objects asdu.items) e in
          none ∙ ap (λ (os : List InformationObject). take (length os)
          (drop (first_unacknowledged c.earlier + length (objects_of_frames c.sent))
          (taken_objects p log))) (sym none)

  module _ (laws : LinkLaws) (stay : AnswersStay) (set : IsSetUp p) where
    -- What is taken grows.

    same_taken : (log new : Log) → reports_in p new ≡ reports_in p log
        → taken_objects p new ≡ taken_objects p log ++ []
    same_taken log new same =
        taken_grows p log new [] (same ∙ sym (append-nil (reports_in p log)))

    timed : (log : Log) (at : ℕ) (new : Log) → exchanges_of p new ≡ record {
      ended = (exchanges_of p log).ended;
      current =
          timed_current p.link.answer_ms at (exchanges_of p log).current;
    } → taken_objects p new ≡ taken_objects p log ++ []
    timed log at new is =
        same_taken log new
        (ap (reports_of_exchanges (front_of p.link.size) (address_at p.addresses)) is
        ∙ laws.due_reports p.link.size (address_at p.addresses) p.link.answer_ms at
        (exchanges_of p log))

    grows : (log : Log) (now : ℕ) (event : Input) (c : Course) → Runs p log c → ActsRightly p log
        → (more : List InformationObject)
        × (taken_objects p (Came now event ∷ log) ≡ taken_objects p log ++ more)
    grows log now (LineIn octets) c r acts =
        let e : Exchanges = exchanges_of p log in
        let q : Primary = c.works.serial.line in
        let reports = report_in (received_outcome (front_of q.settings.size) q octets) in (
          flat_map (λ (report : ℕ × List ℕ). monitor_objects p.sizes report.1) reports,
          taken_grows p log (Came now (LineIn octets) ∷ log) reports
              (laws.due_reports p.link.size (address_at p.addresses) p.link.answer_ms
              (latest (Came now (LineIn octets) ∷ log))
              (record { ended = e.ended; current = received_current octets e.current })
              ∙ laws.octets_report p.link p.addresses q e octets
              (joins laws stay p set log c r acts).matches),
        )
    grows log now (TcpIn octets) c r acts = (
      [],
      timed log (latest (Came now (TcpIn octets) ∷ log)) (Came now (TcpIn octets) ∷ log)
          refl,
    )
    grows log now Ticked c r acts =
        ([], timed log (latest (Came now Ticked ∷ log)) (Came now Ticked ∷ log) refl)
    grows log now (WallIs number) c r acts = (
      [],
      timed log (latest (Came now (WallIs number) ∷ log)) (Came now (WallIs number) ∷ log)
          refl,
    )
    grows log now Opened c r acts =
        ([], timed log (latest (Came now Opened ∷ log)) (Came now Opened ∷ log) refl)
    grows log now CutOff c r acts =
        ([], timed log (latest (Came now CutOff ∷ log)) (Came now CutOff ∷ log) refl)
    grows log now Restarted c r acts = (
      [],
      same_taken log (Came now Restarted ∷ log)
          (laws.given_reports p.link p.link.size p.addresses (address_at p.addresses)
          (exchanges_of p log)),
    )

    asked_same : (log : Log) (now : ℕ) (octets : List ℕ)
        → taken_objects p (Went now (LineOut octets) ∷ log) ≡ taken_objects p log
    asked_same log now octets =
        same_taken log (Went now (LineOut octets) ∷ log)
        (laws.next_reports p.link.size (address_at p.addresses) now (sending_in p octets)
        (exchanges_of p log))
        ∙ append-nil (taken_objects p log)

    in_order : (log : Log) (c : Course) → Runs p log c → ActsRightly p log
        → AreSentOf (taken_objects p log) c
    in_order [] c r acts =
        subst (AreSentOf (taken_objects p [])) (sym r) (none_sent (taken_objects p []) [] [] tt)
    in_order (Came now event ∷ log) c r acts =
        let more = grows log now event r.0 r.2 acts in
        subst (λ (objs : List InformationObject). AreSentOf objs c) (sym more.1)
        (come_sent (taken_objects p log ++ more.0) log _ event r.1 c r.5
        (subst (AreSentOf (taken_objects p log ++ more.0)) (sym r.4.is)
        (orders_grow (taken_objects p log) more.0 (here_of r.0 ∷ r.0.earlier)
        (in_order log r.0 r.2 acts))))
    in_order (Went now (LineOut octets) ∷ log) c r acts =
        subst (λ (objs : List InformationObject). AreSentOf objs c)
        (sym (asked_same log now octets))
        (subst (AreSentOf (taken_objects p log)) (sym r.2.is) (in_order log r.0 r.1 acts.1))
    in_order (Went now (GapOut station session) ∷ log) c r acts =
        subst (AreSentOf (taken_objects p log)) (sym r.2.is) (in_order log r.0 r.1 acts.1)
    in_order (Went now (TcpOut octets) ∷ log) c r acts =
        sent_again (taken_objects p log) r.1 c
        (ap (λ (d : Course). d.sent) r.4.taken ∙ frames_sent r.4.frames (latest log) _ r.1)
        (ap (λ (d : Course). d.earlier) r.4.taken
        ∙ frames_earlier r.4.frames (latest log) _ r.1)
        (subst (AreSentOf (taken_objects p log)) (sym r.3.put)
        (next_sent log r.3.frame (latest log) r.0 r.2 r.3.rules r.3.next
        (in_order log r.0 r.2 acts.1)))
    in_order (Went now (Closed cause) ∷ log) c r acts =
        subst (AreSentOf (taken_objects p log)) (sym r.2)
        (closed_sent (taken_objects p log) cause (present log).is_open (latest log) r.0
        (in_order log r.0 r.1 acts.1))

    -- ---- A beginning of a log

    course_before : (newer log : Log) (c : Course) → Runs p (newer ++ log) c
        → (before : Course) × Runs p log before
    course_before [] log c r = (c, r)
    course_before (Came now event ∷ newer) log c r = course_before newer log r.0 r.2
    course_before (Went now (LineOut octets) ∷ newer) log c r = course_before newer log r.0 r.1
    course_before (Went now (GapOut station session) ∷ newer) log c r =
        course_before newer log r.0 r.1
    course_before (Went now (TcpOut octets) ∷ newer) log c r = course_before newer log r.0 r.2
    course_before (Went now (Closed cause) ∷ newer) log c r = course_before newer log r.0 r.1

    rules_before : (newer log : Log) → KeepsRulesThroughout p (newer ++ log)
        → KeepsRulesThroughout p log
    rules_before [] log h = h
    rules_before (entry ∷ newer) log h = rules_before newer log h.1

    pub faithful_before : (newer log : Log) → IsFaithful p (newer ++ log) → IsFaithful p log
    faithful_before newer log f =
        let before = course_before newer log f.course f.course_runs in
        let acts : ActsRightly p log = acts_before p newer log f.acts in
        record {
          course = before.0;
          course_runs = before.1;
          begun = begun log before.0 before.1;
          are = are_over log before.0 before.1;
          orders = in_order log before.0 before.1 acts;
          links = keeps_links p before.0.works.serial.line log
              (joins laws stay p set log before.0 before.1 acts).matches;
          times = rules_before newer log f.times;
          acts = acts;
          rests = rests_before p newer log f.rests;
        }
