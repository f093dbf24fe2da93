-- The order of actions within a step. After a request none is due in the step. After a close for
-- the causes 1
-- to 6 no connection is open. After the close of a connection that was replaced the new one has
-- only just
-- been opened, so that nothing is due on it.
use Rattle.std.proofs.Common.{◌≡◌, ℕ, ◌<◌, ◌-◌, ◌||◌, nat_le, Bool, true, false, List, [], ◌∷◌}
use Rattle.std.proofs.Common.{◌++◌, Option, Some, None, refl, sym, ap, subst, ◌∙◌, arith, inl, inr}
use Rattle.std.specs.Prelude.{◌⊎◌, if◌then◌else◌}
use Rattle.std.specs.List.{list_any}
use Rattle.std.proofs.lemmas.Bool.{lt-leb}
use Rattle.apci.specs.declared.apdu.Apdu.{Apdu}
use Rattle.apci.specs.declared.apdu.Apdu.TheVariants.{I, S, U}
use Rattle.apci.specs.declared.apdu.Uf.TheVariants.{TestAct}
use Rattle.apci.specs.Spelling.{spelling}
use Rattle.session.specs.History as talk
use Rattle.session.specs.History.{History, confirmation_of, frame_due, has_timed_out}
use Rattle.session.specs.History.{acknowledgement_of}
use Rattle.session.specs.Rules.{KeepsRules}
use Rattle.session.specs.Runs as session
use Rattle.session.specs.declared.kinds.Close.{Close}
use Rattle.session.specs.declared.kinds.Close.TheVariants.{Grammar, SendNumber, ReceiveNumber}
use Rattle.session.specs.declared.kinds.Close.TheVariants.{Stopped, Timeout, OwnAnswers, Replaced}
use Rattle.gateway.specs.Objects.{has_objects}
use Rattle.gateway.specs.Log.{Log, LineIn, Opened, TcpIn, CutOff, Ticked, WallIs, Restarted, Output}
use Rattle.gateway.specs.Log.{LineOut, TcpOut, Closed, GapOut, Came, Went, latest}
use Rattle.gateway.specs.Streams.{spelled, IsRefused}
use Rattle.gateway.specs.Frames.{Connection}
use Rattle.gateway.specs.Connections.{is_replaced, Channel, new_channel, present, BeginsWithFault}
use Rattle.gateway.specs.Connections.{IsConnection}
use Rattle.gateway.specs.Reports.{Setup}
use Rattle.gateway.specs.Works.{Works, has_lacked_place, answered_works, sent_works, settled_works}
use Rattle.gateway.specs.Serial.{Serial, is_first_command}
use Rattle.gateway.specs.Course.{Course, came_frames, with_frames, logged_sent, closed_course}
use Rattle.gateway.specs.Course.{IsCause, Runs}
use Rattle.gateway.specs.Conversation.{KeepsRulesSoFar, KeepsRulesThroughout}
use Rattle.gateway.specs.Traffic.{HasCause, replaces, GoesOut, ActsRightly}
use Rattle.gateway.specs.Order.{step_actions, is_request, is_close, is_late, MayFollow, KeepsOrder}
use Rattle.gateway.proofs.Alike.{settled_due}
use Rattle.gateway.proofs.Working.{gap_settled, settled_placed, put_placed}

-- One request

pub frames_due : (p : Setup) (frames : List Apdu) (at : ℕ) (wall : Option ℕ) (c : Course)
    → (with_frames p frames at wall c).works.is_due ≡ c.works.is_due
frames_due p [] at wall c = refl
frames_due p (f ∷ fs) at wall c = frames_due p fs at wall c

pub sent_due : (f : Apdu) (w : Works) → (sent_works f w).is_due ≡ w.is_due
sent_due (I ns nr asdu) w = by_objects (has_objects asdu.items)
  where
    by_objects : (b : Bool) → (if b then w else answered_works w).is_due ≡ w.is_due
    by_objects true = refl
    by_objects false = refl
sent_due (S nr) w = refl
sent_due (U u) w = refl

pub closed_due : (p : Setup) (cause : Close) (is_open : Bool) (at : ℕ) (c : Course)
    → (closed_course p cause is_open at c).works.is_due ≡ c.works.is_due
closed_due p Grammar is_open at c = refl
closed_due p SendNumber is_open at c = refl
closed_due p ReceiveNumber is_open at c = refl
closed_due p Stopped is_open at c = refl
closed_due p Timeout is_open at c = settled_due at c.works
closed_due p OwnAnswers is_open at c = refl
closed_due p Replaced is_open at c = refl

-- once a request is out, the step has none that is due
none_due : (p : Setup) (log : Log) (c : Course) → Runs p log c
    → list_any is_request (step_actions log) ≡ true
    → c.works.is_due ≡ false
none_due p [] c r h = cc
none_due p (Came now event ∷ log) c r h = cc
none_due p (Went now (LineOut octets) ∷ log) c r h = ap (λ (d : Course). d.works.is_due) r.2.is
none_due p (Went now (GapOut station session) ∷ log) c r h =
    ap (λ (d : Course). d.works.is_due) r.2.is
    ∙ none_due p log r.0 r.1 h
none_due p (Went now (TcpOut octets) ∷ log) c r h =
    ap (λ (d : Course). d.works.is_due) r.4.taken ∙ frames_due p r.4.frames (latest log) _ r.1
    ∙ ap (λ (d : Course). d.works.is_due) r.3.put ∙ sent_due r.3.frame r.0.works
    ∙ none_due p log r.0 r.2 h
none_due p (Went now (Closed cause) ∷ log) c r h =
    ap (λ (d : Course). d.works.is_due) r.2
    ∙ closed_due p cause (present log).is_open (latest log) r.0
    ∙ none_due p log r.0 r.1 h

-- The gap of an event goes out before the timers

-- frames that come, and one that goes out, change nothing of the line's side but commands
pub frames_others : (p : Setup) (frames : List Apdu) (at : ℕ) (wall : Option ℕ) (c : Course)
    → (with_frames p frames at wall c).works.serial
    ≡ record c.works.serial { commands = (with_frames p frames at wall c).works.serial.commands }
frames_others p [] at wall c = refl
frames_others p (f ∷ fs) at wall c =
    ap (λ (s : Serial). let more : Serial = record s {
      commands = (with_frames p (f ∷ fs) at wall c).works.serial.commands;
    } in more) (frames_others p fs at wall c)

pub sent_others : (f : Apdu) (w : Works)
    → (sent_works f w).serial ≡ record w.serial { commands = (sent_works f w).serial.commands }
sent_others (I ns nr asdu) w = by_objects (has_objects asdu.items)
  where
    by_objects : (b : Bool) → (if b then w else answered_works w).serial
        ≡ record w.serial { commands = (if b then w else answered_works w).serial.commands }
    by_objects true = refl
    by_objects false = refl
sent_others (S nr) w = refl
sent_others (U u) w = refl

closed_gap : (p : Setup) (cause : Close) (is_open : Bool) (at : ℕ) (c : Course) → c.works.serial.gap
    ≡ None
    → (closed_course p cause is_open at c).works.serial.gap ≡ None
closed_gap p Grammar is_open at c h = h
closed_gap p SendNumber is_open at c h = h
closed_gap p ReceiveNumber is_open at c h = h
closed_gap p Stopped is_open at c h = h
closed_gap p Timeout is_open at c h = gap_settled at c.works ∙ h
closed_gap p OwnAnswers is_open at c h = h
closed_gap p Replaced is_open at c h = h

logged_before : (p : Setup) (log : Log) (cause : Close) (c : Course) → IsCause p log cause c
    → (list_any is_late (step_actions log) ≡ true → c.works.serial.gap ≡ None)
    → list_any is_late (Closed cause ∷ step_actions log) ≡ true → c.works.serial.gap ≡ None
logged_before p log Grammar c why logged h = logged h
logged_before p log SendNumber c why logged h = logged h
logged_before p log ReceiveNumber c why logged h = logged h
logged_before p log Stopped c why logged h = logged h
logged_before p log Timeout c why logged h = why.logged
logged_before p log OwnAnswers c why logged h = logged h
logged_before p log Replaced c why logged h = logged h

-- once the timers have closed a connection, the step has no gap left to report
late_logged : (p : Setup) (log : Log) (c : Course) → Runs p log c
    → list_any is_late (step_actions log) ≡ true
    → c.works.serial.gap ≡ None
late_logged p [] c r h = cc
late_logged p (Came now event ∷ log) c r h = cc
late_logged p (Went now (LineOut octets) ∷ log) c r h =
    ap (λ (d : Course). d.works.serial.gap) r.2.is
    ∙ gap_settled (latest log) r.0.works ∙ r.2.logged
late_logged p (Went now (GapOut station session) ∷ log) c r h =
    ap (λ (d : Course). d.works.serial.gap) r.2.is
late_logged p (Went now (TcpOut octets) ∷ log) c r h =
    ap (λ (d : Course). d.works.serial.gap) r.4.taken
    ∙ ap (λ (s : Serial). s.gap) (frames_others p r.4.frames (latest log) _ r.1)
    ∙ ap (λ (d : Course). d.works.serial.gap) r.3.put
    ∙ ap (λ (s : Serial). s.gap) (sent_others r.3.frame r.0.works) ∙ late_logged p log r.0 r.2 h
late_logged p (Went now (Closed cause) ∷ log) c r h =
    ap (λ (d : Course). d.works.serial.gap) r.2
    ∙ closed_gap p cause (present log).is_open (latest log) r.0
    (logged_before p log cause r.0 r.3 (λ late. late_logged p log r.0 r.1 late) h)

-- A connection that has just been opened

-- the connection has been opened in this step, and so far nothing was said on it
record OnlyOpened (p : Setup) (log : Log) : Type 0 where
  channel : present log ≡ new_channel
  settled : is_replaced log ≡ false
  said : (c : Course) → Runs p log c → c.talk ≡ talk.Opened (latest log) ∷ []
  placed : (c : Course) → Runs p log c → has_lacked_place c.works.history ≡ false

replaced_one : (p : Setup) (log : Log) (now : ℕ) → is_replaced log ≡ true
    → OnlyOpened p (Went now (Closed Replaced) ∷ log)
replaced_one p [] now h = absurd (cc)
replaced_one p (Went moment action ∷ log) now h = absurd (cc)
replaced_one p (Came moment (LineIn octets) ∷ log) now h = absurd (cc)
replaced_one p (Came moment (TcpIn octets) ∷ log) now h = absurd (cc)
replaced_one p (Came moment CutOff ∷ log) now h = absurd (cc)
replaced_one p (Came moment Ticked ∷ log) now h = absurd (cc)
replaced_one p (Came moment (WallIs number) ∷ log) now h = absurd (cc)
replaced_one p (Came moment Restarted ∷ log) now h = absurd (cc)
replaced_one p (Came moment Opened ∷ log) now h = record {
  channel = refl;
  settled = refl;
  said = λ c r. ap (λ (d : Course). d.talk) (r.2 ∙ r.1.5);
  placed = λ c r. ap (λ (d : Course). has_lacked_place d.works.history) (r.2 ∙ r.1.5);
}

request_after : (p : Setup) (log : Log) (now : ℕ) (octets : List ℕ) → OnlyOpened p log
    → OnlyOpened p (Went now (LineOut octets) ∷ log)
request_after p log now octets h = record {
  channel = h.channel;
  settled = refl;
  said = λ c r. ap (λ (d : Course). d.talk) r.2.is ∙ h.said r.0 r.1;
  placed = λ c r. ap (λ (d : Course). has_lacked_place d.works.history) r.2.is
      ∙ put_placed (is_first_command (settled_works (latest log) r.0.works).serial.line r.2.request)
      r.2.request.station
      (settled_works (latest log) r.0.works)
      ∙ settled_placed (latest log) r.0.works
      ∙ h.placed r.0 r.1;
}

gap_after : (p : Setup) (log : Log) (now station session : ℕ) → OnlyOpened p log
    → OnlyOpened p (Went now (GapOut station session) ∷ log)
gap_after p log now station session h = record {
  channel = h.channel;
  settled = refl;
  said = λ c r. ap (λ (d : Course). d.talk) r.2.is ∙ h.said r.0 r.1;
  placed = λ c r. ap (λ (d : Course). has_lacked_place d.works.history) r.2.is ∙ h.placed r.0 r.1;
}

-- no octets hold no frames

no_front : (xs ys : List ℕ) → [] ≡ xs ++ ys → xs ≡ []
no_front [] ys e = refl
no_front (x ∷ xs) ys e = cc

no_rest : (xs ys : List ℕ) → [] ≡ xs ++ ys → ys ≡ []
no_rest [] ys e = sym e
no_rest (x ∷ xs) ys e = cc

pub no_frames : (frames : List Apdu) (rest : List ℕ) → [] ≡ spelled frames ++ rest → frames ≡ []
no_frames [] rest e = refl
no_frames (f ∷ fs) rest e =
    let none : spelled fs ++ spelling f ≡ [] = no_front (spelled fs ++ spelling f) rest e in
    let last : spelling f ≡ [] = no_rest (spelled fs) (spelling f) (sym none) in
    cc

none_taken : (p : Setup) (frames : List Apdu) (at : ℕ) (wall : Option ℕ) (before after : Course)
    → after ≡ with_frames p frames at wall before → came_frames after.talk ≡ [] → after ≡ before
none_taken p [] at wall b a e none = e
none_taken p (f ∷ fs) at wall b a e none =
    let some : f ∷ came_frames (with_frames p fs at wall b).talk ≡ [] =
    ap (λ (d : Course). came_frames d.talk) (sym e)
    ∙ none in
    cc

-- and nothing is due

idle : (w t2 t3 at : ℕ) → 0 < w → 0 < t3 → frame_due w t2 t3 at (talk.Opened at ∷ []) ≡ None
idle w t2 t3 at some long =
    let h : History = talk.Opened at ∷ [] in
    let untested : nat_le t3 (at - at) ≡ false = lt-leb t3 (at - at) (omega arith) in
    ap (λ b. if b || false then Some (acknowledgement_of h) else
    (if nat_le t3 (at - at) then Some (U TestAct) else None)) (lt-leb w 0 some)
    ∙ ap (λ b. if b then Some (U TestAct) else None) untested

undue : (p : session.Settings) (at : ℕ) (f : Apdu) → 0 < p.w → 0 < p.t3
    → (confirmation_of (talk.Opened at ∷ []) ≡ Some f)
    ⊎ (frame_due p.w p.t2 p.t3 at (talk.Opened at ∷ []) ≡ Some f) → ⊥
undue p at f some long (inl e) = cc
undue p at f some long (inr e) =
    let no : ◌≡◌ {A = Option Apdu} None (Some f) = sym (idle p.w p.t2 p.t3 at some long) ∙ e in cc

unruly : (p : session.Settings) (at : ℕ) (f : Apdu) → 0 < p.w → 0 < p.t3
    → KeepsRules p (logged_sent f at (talk.Opened at ∷ [])) → ⊥
unruly p at (I ns nr asdu) some long r = let no : false ≡ true = r.0.started in cc
unruly p at (S nr) some long r = undue p at (S nr) some long r.0
unruly p at (U u) some long r = undue p at (U u) some long r.0

-- so nothing goes to TCP
unsaid : (p : Setup) (log : Log) (now : ℕ) (octets : List ℕ) → 0 < p.session.w → 0 < p.session.t3
    → OnlyOpened p log
    → KeepsRulesSoFar p (Went now (TcpOut octets) ∷ log) → ⊥
unsaid p log now octets some long h k =
    let r = k.runs in
    let none : came_frames k.course.talk ≡ [] = no_frames (came_frames k.course.talk) r.4.rest
    (ap (λ (c : Channel). c.received) (sym h.channel) ∙ r.4.joined) in
    let is : k.course ≡ r.1 = none_taken p r.4.frames (latest log) _ r.1 k.course r.4.taken none in
    let said : k.course.talk ≡ logged_sent r.3.frame (latest log) (talk.Opened (latest log) ∷ []) =
    ap (λ (d : Course). d.talk) (is ∙ r.3.put)
    ∙ ap (logged_sent r.3.frame (latest log)) (h.said r.0 r.2) in
    unruly p.session (latest log) r.3.frame some long (subst (KeepsRules p.session) said k.rules)

-- and nothing closes it

unrefused : (rest : List ℕ) → rest ≡ [] → IsRefused rest → ⊥
unrefused [] e r = omega (arith, r.2.1.within)
unrefused (x ∷ xs) e r = cc

faultless : (sent : ℕ) (received : List Apdu) (cause : Close) (rest : List ℕ) → rest ≡ []
    → BeginsWithFault sent received cause rest → ⊥
faultless sent received cause rest e b =
    let no : spelling b.frame ++ b.more ≡ [] = sym b.joined ∙ e in
    cc

-- no octets of it are left
nothing_behind : (p : Setup) (log : Log) (c : Connection) (fault : Option Close) → OnlyOpened p log
    → (k : IsConnection (present log) c fault) → k.rest ≡ []
nothing_behind p log c fault h k = no_rest (spelled c.received_frames) k.rest
    (ap (λ (d : Channel). d.received) (sym h.channel) ∙ k.joined)

unclosed : (p : Setup) (log : Log) (cause : Close) → OnlyOpened p log → replaces (Closed cause)
    ≡ is_replaced log
    → HasCause p cause log → ⊥
unclosed p log Grammar h replaced why =
    let k = (why refl).1.2.next in
    unrefused k.rest (nothing_behind p log _ (Some Grammar) h k) k.behind
unclosed p log SendNumber h replaced why =
    let k = (why refl).1.2.next in
    faultless _ _ SendNumber k.rest (nothing_behind p log _ (Some SendNumber) h k) k.behind
unclosed p log ReceiveNumber h replaced why =
    let k = (why refl).1.2.next in
    faultless _ _ ReceiveNumber k.rest (nothing_behind p log _ (Some ReceiveNumber) h k) k.behind
unclosed p log Stopped h replaced why =
    let k = (why refl).1.2.next in
    faultless _ _ Stopped k.rest (nothing_behind p log _ (Some Stopped) h k) k.behind
unclosed p log Timeout h replaced why =
    let k = (why refl).1 in
    let no : false ≡ true = ap (has_timed_out p.session.t1 (latest log)) (sym (h.said k.0 k.1))
    ∙ k.2.late in
    cc
unclosed p log OwnAnswers h replaced why =
    let k = (why refl).1 in
    let no : false ≡ true = sym (h.placed k.0 k.1) ∙ k.2 in
    cc
unclosed p log Replaced h replaced why =
    let no : true ≡ false = replaced ∙ h.settled in
    cc

-- After a close

-- no connection is open, or it has only been opened
abbrev IsUnsaid : Setup → Log → Type 0
IsUnsaid p log = ((present log).is_open ≡ false) ⊎ OnlyOpened p log

closed_now : (p : Setup) (log : Log) (now : ℕ) (cause : Close) → replaces (Closed cause)
    ≡ is_replaced log
    → IsUnsaid p (Went now (Closed cause) ∷ log)
closed_now p log now Grammar e = inl refl
closed_now p log now SendNumber e = inl refl
closed_now p log now ReceiveNumber e = inl refl
closed_now p log now Stopped e = inl refl
closed_now p log now Timeout e = inl refl
closed_now p log now OwnAnswers e = inl refl
closed_now p log now Replaced e = inr (replaced_one p log now (sym e))

still_unsaid : (p : Setup) (log : Log) (now : ℕ) (octets : List ℕ) → IsUnsaid p log
    → IsUnsaid p (Went now (LineOut octets) ∷ log)
still_unsaid p log now octets (inl off) = inl off
still_unsaid p log now octets (inr h) = inr (request_after p log now octets h)

still_after_gap : (p : Setup) (log : Log) (now station session : ℕ) → IsUnsaid p log
    → IsUnsaid p (Went now (GapOut station session) ∷ log)
still_after_gap p log now station session (inl off) = inl off
still_after_gap p log now station session (inr h) = inr (gap_after p log now station session h)

after_close : (p : Setup) (log : Log) → ActsRightly p log → KeepsOrder log
    → list_any is_close (step_actions log) ≡ true → IsUnsaid p log
after_close p [] acts order h = absurd (cc)
after_close p (Came now event ∷ log) acts order h = absurd (cc)
after_close p (Went now (LineOut octets) ∷ log) acts order h =
    still_unsaid p log now octets (after_close p log acts.1 order.1 h)
after_close p (Went now (GapOut station session) ∷ log) acts order h =
    still_after_gap p log now station session (after_close p log acts.1 order.1 h)
after_close p (Went now (TcpOut octets) ∷ log) acts order h = let no : false ≡ true = sym order.0
    ∙ h in absurd (cc)
after_close p (Went now (Closed cause) ∷ log) acts order h =
    closed_now p log now cause acts.0.replaced

-- a step's close is no event
settled_after : (log : Log) → list_any is_close (step_actions log) ≡ true → is_replaced log ≡ false
settled_after [] h = refl
settled_after (Came now event ∷ log) h = absurd (cc)
settled_after (Went now action ∷ log) h = refl

no_octets : (p : Setup) (log : Log) (now : ℕ) (octets : List ℕ) → 0 < p.session.w → 0 < p.session.t3
    → IsUnsaid p log
    → KeepsRulesSoFar p (Went now (TcpOut octets) ∷ log) → GoesOut p log now (TcpOut octets) → ⊥
no_octets p log now octets some long (inl off) k g = let no : false ≡ true = sym off ∙ g.may.0 in cc
no_octets p log now octets some long (inr h) k g = unsaid p log now octets some long h k

shut : (p : Setup) (log : Log) (cause : Close) → (present log).is_open ≡ false → is_replaced log
    ≡ false
    → replaces (Closed cause) ≡ is_replaced log → HasCause p cause log → ⊥
shut p log Grammar off settled replaced why = let no : false ≡ true = sym off ∙ (why refl).0 in cc
shut p log SendNumber off settled replaced why = let no : false ≡ true = sym off ∙ (why refl).0 in
    cc
shut p log ReceiveNumber off settled replaced why = let no : false ≡ true = sym off
    ∙ (why refl).0 in cc
shut p log Stopped off settled replaced why = let no : false ≡ true = sym off ∙ (why refl).0 in cc
shut p log Timeout off settled replaced why = let no : false ≡ true = sym off ∙ (why refl).0 in cc
shut p log OwnAnswers off settled replaced why = let no : false ≡ true = sym off ∙ (why refl).0 in
    cc
shut p log Replaced off settled replaced why = let no : true ≡ false = replaced ∙ settled in cc

no_close : (p : Setup) (log : Log) (now : ℕ) (cause : Close) → is_replaced log ≡ false
    → IsUnsaid p log
    → GoesOut p log now (Closed cause) → ⊥
no_close p log now cause settled (inl off) g = shut p log cause off settled g.replaced g.may
no_close p log now cause settled (inr h) g = unclosed p log cause h g.replaced g.may

-- Each action

none_and_some : {A : Type 0} {x : A} → ◌≡◌ {A = Option A} None (Some x) → ⊥
none_and_some e = cc

not_true : (b : Bool) → (b ≡ true → ⊥) → b ≡ false
not_true true h = absurd (h refl)
not_true false h = refl

may_follow : (p : Setup) (log : Log) (now : ℕ) (action : Output) → 0 < p.session.w
    → 0 < p.session.t3
    → KeepsRulesSoFar p (Went now action ∷ log) → GoesOut p log now action → ActsRightly p log
    → KeepsOrder log
    → MayFollow log action
may_follow p log now (LineOut octets) some long k g acts order = (
  not_true (list_any is_request (step_actions log)) (λ h.
      let no : false ≡ true = sym (none_due p log k.runs.0 k.runs.1 h) ∙ k.runs.2.due in
      absurd (cc)),
  g.early,
)
may_follow p log now (GapOut station session) some long k g acts order = (
  not_true (list_any is_late (step_actions log)) (λ h.
      none_and_some (sym (late_logged p log k.runs.0 k.runs.1 h) ∙ k.runs.2.gap)),
  not_true (list_any is_request (step_actions log)) (λ h.
      let no : false ≡ true = sym (none_due p log k.runs.0 k.runs.1 h) ∙ k.runs.2.due in
      absurd (cc)),
  g.early,
)
may_follow p log now (TcpOut octets) some long k g acts order =
    not_true (list_any is_close (step_actions log)) (λ h. no_octets p log now octets some long
    (after_close p log acts order h) k g)
may_follow p log now (Closed cause) some long k g acts order = (
  not_true (list_any is_close (step_actions log))
      (λ h. no_close p log now cause (settled_after log h)
      (after_close p log acts order h) g),
  not_true (list_any is_request (step_actions log)) (λ h.
      let no : false ≡ true = sym (none_due p log k.runs.0 k.runs.1 h) ∙ k.runs.4 in absurd (cc)),
  g.early,
)

pub keeps_order : (p : Setup) → 0 < p.session.w → 0 < p.session.t3 → (log : Log)
    → KeepsRulesThroughout p log
    → ActsRightly p log → KeepsOrder log
keeps_order p some long [] times acts = tt
keeps_order p some long (Came now event ∷ log) times acts = keeps_order p some long log times.1 acts
keeps_order p some long (Went now action ∷ log) times acts =
    let order : KeepsOrder log = keeps_order p some long log times.1 acts.1 in
    (may_follow p log now action some long times.0 acts.0 acts.1 order, order)
