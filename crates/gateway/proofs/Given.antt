-- What is due is given.
use Rattle.std.proofs.Common.{◌≡◌, ℕ, Bool, true, false, List, [], ◌∷◌, ◌++◌, Option, Some, None}
use Rattle.std.proofs.Common.{refl, ap, sym, ◌∙◌, subst, inl, inr, append_assoc}
use Rattle.std.specs.Prelude.{if◌then◌else◌, option_map}
use Rattle.asdu.specs.Asdu.{AsduValue, IsAsdu}
use Rattle.apci.specs.declared.apdu.Apdu.{Apdu}
use Rattle.apci.specs.declared.apdu.Apdu.TheVariants.{I, S, U}
use Rattle.link.specs.Exchanges.{Sending}
use Rattle.link.specs.declared.outcome.Outcome.{Outcome}
use Rattle.link.specs.declared.outcome.Outcome.TheVariants as outcome
use Rattle.session.specs.declared.kinds.Close.{Close}
use Rattle.session.specs.declared.kinds.Close.TheVariants.{Grammar, SendNumber, ReceiveNumber}
use Rattle.session.specs.declared.kinds.Close.TheVariants.{Stopped, Timeout, OwnAnswers, Replaced}
use Rattle.command.specs.declared.waiting.Waiting.{Waiting}
use Rattle.command.specs.State.{has_answer_place, first_answer, oldest_for, line_of}
use Rattle.command.specs.State.{refusal_of}
use Rattle.command.specs.Judging.{judged}
use Rattle.command.specs.Mirrors as mirrors
use Rattle.command.specs.History.{History, Mirrored, Offered, mirror_tag}
use Rattle.command.specs.Calls.{Run, Judge, Busy, Mirror, Own, after_call, after_answer}
use Rattle.command.specs.Calls.{after_sending}
use Rattle.command.specs.CommandLaws.{CommandLaws}
use Rattle.gateway.specs.Objects.{has_objects}
use Rattle.gateway.specs.Log.{Log, LineIn, Opened, TcpIn, CutOff, Ticked, WallIs, Restarted, Came}
use Rattle.gateway.specs.Log.{Went, LineOut, TcpOut, Closed, GapOut, latest}
use Rattle.gateway.specs.Connections.{present}
use Rattle.gateway.specs.Reports.{Setup}
use Rattle.gateway.specs.Serial.{listed, is_first_command, answer_outcome}
use Rattle.gateway.specs.Works.{Works, octets_works, tasks_of, kept_own, is_command_report}
use Rattle.gateway.specs.Works.{IsPassedOn}
use Rattle.gateway.specs.Works.{LearnsReport, LearnsOf, received_works, sent_works, answered_works}
use Rattle.gateway.specs.Works.{unless_silent_works, settled_works, unasked_works}
use Rattle.gateway.specs.Works.{done_works}
use Rattle.gateway.specs.Works.{put_first, asked_works}
use Rattle.gateway.specs.Course.{Course, came_frames, with_frames, closed_course, IsLeft, room_in}
use Rattle.gateway.specs.Course.{Runs}
use Rattle.gateway.specs.Frames.{transfers}
use Rattle.gateway.specs.Given.{due_in, with_piece, passed_on, IsNextPiece, IsOwed, GivesWhatIsDue}
use Rattle.gateway.specs.Given.{AreHandedOver, IsGivenOn, GivesAnswer, KeepsAnswerBack}
use Rattle.gateway.specs.Tags.{AreTagged}
use Rattle.elements.specs.declared.tag.Cp56.{Cp56}
use Rattle.gateway.proofs.Restarting.{kept_over}
use Rattle.gateway.proofs.Reached.{left_reached}

module _ (p : Setup) where
  -- nothing is left due
  abbrev pub AreGiven : History → Type 0
  AreGiven h = GivesWhatIsDue p.sizes h × (due_in h ≡ None)

  -- Own answers

  -- the answer that an entry leaves due is handed over
  one_kept : (o : Option (List ℕ)) (r : Run) → GivesWhatIsDue p.sizes r.history
      → due_in r.history ≡ o
      → AreGiven (kept_own (listed o) r).history
  one_kept None r g e = (g, e)
  one_kept (Some x) r g e = by_room (has_answer_place r.state)
    where
      next : Run
      next = after_call (Own x) r

      owed : IsOwed p.sizes (due_in r.history) r.history x
      owed = subst (λ (o : Option (List ℕ)). IsOwed p.sizes o r.history x) (sym e) refl

      by_room : (b : Bool) → AreGiven (if b then next else next).history
      by_room true = ((owed, g), refl)
      by_room false = ((owed, g), refl)

  -- so are the pieces of a station's answer, each the next one
  pieces_kept : (v : AsduValue) (report : List ℕ) (plain pieces done xs : List (List ℕ))
      (tag : Option Cp56) (r : Run) → IsPassedOn p.sizes v report plain → AreTagged tag plain pieces
      → pieces ≡ done ++ xs → AreGiven r.history → passed_on r.history ≡ Some (v, done)
      → AreGiven (kept_own xs r).history
  pieces_kept v report plain pieces done [] tag r passed tagged are g on = g
  pieces_kept v report plain pieces done (x ∷ xs) tag r passed tagged are g on =
      by_room (has_answer_place r.state) refl
      (λ all. pieces_kept v report plain pieces (done ++ x ∷ []) xs tag next passed tagged
      (are ∙ sym (append_assoc done (x ∷ []) xs)) ((owed, g.0), refl)
      (ap (λ (b : Bool). passed_on (Offered x b ∷ r.history)) all ∙ ap (with_piece x) on))
    where
      next : Run
      next = after_call (Own x) r

      is_next : IsNextPiece p.sizes (passed_on r.history) x
      is_next = subst (λ (o : Option (AsduValue × List (List ℕ))). IsNextPiece p.sizes o x) (sym on)
          (record {
            report = report;
            plain = plain;
            passed = passed;
            tag = tag;
            pieces = pieces;
            tagged = tagged;
            rest = xs;
            are = are;
          })

      owed : IsOwed p.sizes (due_in r.history) r.history x
      owed = subst (λ (o : Option (List ℕ)). IsOwed p.sizes o r.history x) (sym g.1) is_next

      by_room : (b : Bool) → has_answer_place r.state ≡ b
          → (has_answer_place r.state ≡ true → AreGiven (kept_own xs next).history)
          → AreGiven (if b then kept_own xs next else next).history
      by_room true all more = more all
      by_room false all more = ((owed, g.0), refl)

  -- What came of an exchange

  learnt_report : (at : ℕ) (transferring b : Bool) (report : List ℕ) (w z : Works)
      → LearnsReport p at transferring b report w z → AreGiven w.history → AreGiven z.history
  learnt_report at true true report w z learns g =
      let v : AsduValue = learns.0 in
      subst (λ (w : Works). AreGiven w.history) (sym learns.5)
      (pieces_kept v report learns.1 learns.2 [] learns.2
      (mirrors.tag_for v v.infos w.serial.commands) (after_call (Mirror v at) (tasks_of w)) learns.3
      learns.4 refl ((g.1, g.0), refl) refl)
  learnt_report at false true report w z learns g =
      subst (λ (w : Works). AreGiven w.history) (sym learns.5) ((g.1, g.0), refl)
  learnt_report at transferring false report w z learns g =
      subst (λ (w : Works). AreGiven w.history) (sym learns) g

  learnt : (at : ℕ) (transferring : Bool) (o : Outcome) (w z : Works)
      → LearnsOf p at transferring o w z
      → AreGiven w.history → AreGiven z.history
  learnt at transferring (outcome.Report station asdu) w z learns g =
      learnt_report at transferring (is_command_report p.sizes asdu.items) asdu.items w z learns g
  learnt at transferring (outcome.Accepted station) w z learns g =
      subst (λ (w : Works). AreGiven w.history) (sym learns) ((g.1, g.0), refl)
  learnt at transferring (outcome.Busy station) w z learns g =
      let o : Option (List ℕ) = refusal_of (line_of station w.serial.commands) in
      subst (λ (w : Works). AreGiven w.history) (sym learns)
      (one_kept o (after_call (Busy station) (tasks_of w)) (g.1, g.0) refl)
  learnt at transferring (outcome.Down station) w z learns g =
      subst (λ (w : Works). AreGiven w.history) (sym learns) ((g.1, g.0), refl)
  learnt at transferring outcome.None w z learns g =
      subst (λ (w : Works). AreGiven w.history) (sym learns) g
  learnt at transferring (outcome.Started station) w z learns g =
      subst (λ (w : Works). AreGiven w.history) (sym learns) g
  learnt at transferring (outcome.StartedGap station session) w z learns g =
      subst (λ (w : Works). AreGiven w.history) (sym learns) g
  learnt at transferring (outcome.Empty station) w z learns g =
      subst (λ (w : Works). AreGiven w.history) (sym learns) g

  -- Frames

  arrived : (f : Apdu) (now : ℕ) (wall : Option ℕ) (w : Works) → AreGiven w.history
      → AreGiven (received_works f now wall w).history
  arrived (I ns nr asdu) now wall w g =
      one_kept (judged asdu.items now wall w.serial.commands).0
      (after_call (Judge asdu.items now wall) (tasks_of w)) (g.1, g.0) refl
  arrived (S nr) now wall w g = g
  arrived (U u) now wall w g = g

  frames : (fs : List Apdu) (now : ℕ) (wall : Option ℕ) (d : Course)
      → AreGiven d.works.history
      → AreGiven (with_frames p fs now wall d).works.history
  frames [] now wall d g = g
  frames (f ∷ fs) now wall d g = arrived f now wall (with_frames p fs now wall d).works
      (frames fs now wall d g)

  answered : (w : Works) → AreGiven w.history → AreGiven (answered_works w).history
  answered w g = by_first (first_answer w.serial.commands.answers)
    where
      by_first : (o : Option (List ℕ)) → AreGiven (after_answer o (tasks_of w)).history
      by_first None = g
      by_first (Some x) = ((g.1, g.0), refl)

  sent : (f : Apdu) (w : Works) → AreGiven w.history → AreGiven (sent_works f w).history
  sent (I ns nr asdu) w g = by_objects (has_objects asdu.items)
    where
      by_objects : (b : Bool) → AreGiven (if b then w else answered_works w).history
      by_objects true = g
      by_objects false = answered w g
  sent (S nr) w g = g
  sent (U u) w g = g

  -- A step

  settled : (at : ℕ) (w : Works) → AreGiven w.history → AreGiven (settled_works at w).history
  settled at w g = by_silent w.serial.silent
    where
      by_silent : (o : Option ℕ) → AreGiven (unless_silent_works o w).history
      by_silent None = g
      by_silent (Some k) = ((g.1, g.0), refl)

  done : (at : ℕ) (room : Bool) (w : Works) → AreGiven w.history
      → AreGiven (done_works at room w).history
  done at room w g = by_due w.is_due
    where
      by_due : (b : Bool) → AreGiven (if b then unasked_works at room (settled_works at w)
          else w).history
      by_due true = settled at w g
      by_due false = g

  put : (b : Bool) (k : ℕ) (w : Works) → AreGiven w.history
      → AreGiven (put_first b k (tasks_of w)).history
  put false k w g = g
  put true k w g = by_oldest (oldest_for k w.serial.commands)
    where
      by_oldest : (o : Option Waiting) → AreGiven (after_sending o k (tasks_of w)).history
      by_oldest None = g
      by_oldest (Some x) = ((g.1, g.0), refl)

  asked : (at : ℕ) (room : Bool) (x : Sending) (w : Works) → AreGiven w.history
      → AreGiven (asked_works at room x w).history
  asked at room x w g = put (is_first_command w.serial.line x) x.station w g

  closed : (cause : Close) (is_open : Bool) (at : ℕ) (d : Course)
      → AreGiven d.works.history
      → AreGiven (closed_course p cause is_open at d).works.history
  closed Grammar is_open at d g = ((g.1, g.0), refl)
  closed SendNumber is_open at d g = ((g.1, g.0), refl)
  closed ReceiveNumber is_open at d g = ((g.1, g.0), refl)
  closed Stopped is_open at d g = ((g.1, g.0), refl)
  closed Timeout is_open at d g = let s = settled at d.works g in ((s.1, s.0), refl)
  closed OwnAnswers is_open at d g = ((g.1, g.0), refl)
  closed Replaced is_open at d g = g

  left : (log : Log) (before after : Course) → IsLeft p log before after
      → AreGiven before.works.history
      → AreGiven after.works.history
  left log before after l g = subst (λ (d : Course). AreGiven d.works.history) (sym l.is)
      (done (latest log) (room_in p log before) before.works g)

  pub so_far : (log : Log) (d : Course) → Runs p log d → AreGiven d.works.history
  so_far [] d r = subst (λ (e : Course). AreGiven e.works.history) (sym r) (tt, refl)
  so_far (Came now (LineIn octets) ∷ log) d r =
      subst (λ (e : Course). AreGiven e.works.history) (sym r.5.2)
      (learnt _ _ _ _ r.5.0 r.5.1 (left log r.0 r.1 r.4 (so_far log r.0 r.2)))
  so_far (Came now (TcpIn octets) ∷ log) d r =
      subst (λ (e : Course). AreGiven e.works.history) (sym r.5.taken)
      (frames r.5.frames _ _ _ (left log r.0 r.1 r.4 (so_far log r.0 r.2)))
  so_far (Came now Ticked ∷ log) d r = subst (λ (e : Course). AreGiven e.works.history) (sym r.5)
      (left log r.0 r.1 r.4 (so_far log r.0 r.2))
  so_far (Came now (WallIs number) ∷ log) d r = subst (λ (e : Course). AreGiven e.works.history)
      (sym r.5)
      (left log r.0 r.1 r.4 (so_far log r.0 r.2))
  so_far (Came now Opened ∷ log) d r =
      let g = left log r.0 r.1 r.4 (so_far log r.0 r.2) in
      subst (λ (e : Course). AreGiven e.works.history) (sym r.5) ((g.1, g.0), refl)
  so_far (Came now CutOff ∷ log) d r =
      let g = left log r.0 r.1 r.4 (so_far log r.0 r.2) in
      subst (λ (e : Course). AreGiven e.works.history) (sym r.5) ((g.1, g.0), refl)
  so_far (Came now Restarted ∷ log) d r =
      let g = kept_over (λ (w : Works). AreGiven w.history) (λ station w g. ((g.1, g.0), refl))
      (λ w g. g) r.1.works (left log r.0 r.1 r.4 (so_far log r.0 r.2)) in
      subst (λ (e : Course). AreGiven e.works.history) (sym r.5.1) ((g.1, g.0), refl)
  so_far (Went now (LineOut octets) ∷ log) d r =
      subst (λ (e : Course). AreGiven e.works.history) (sym r.2.is)
      (asked (latest log) (room_in p log r.0) r.2.request (settled_works (latest log) r.0.works)
      (settled (latest log) r.0.works (so_far log r.0 r.1)))
  so_far (Went now (GapOut station session) ∷ log) d r =
      subst (λ (e : Course). AreGiven e.works.history) (sym r.2.is) (so_far log r.0 r.1)
  so_far (Went now (TcpOut octets) ∷ log) d r =
      subst (λ (e : Course). AreGiven e.works.history) (sym r.4.taken)
      (frames r.4.frames _ _ r.1 (subst (λ (e : Course). AreGiven e.works.history) (sym r.3.put)
      (sent r.3.frame r.0.works (so_far log r.0 r.2))))
  so_far (Went now (Closed cause) ∷ log) d r =
      subst (λ (e : Course). AreGiven e.works.history) (sym r.2)
      (closed cause (present log).is_open (latest log) r.0 (so_far log r.0 r.1))

-- and they are handed over one after another
pub handed_over : (xs : List (List ℕ)) (r : Run)
    → AreHandedOver xs r.history (kept_own xs r).history
handed_over [] r = refl
handed_over (x ∷ xs) r = by_room (has_answer_place r.state) refl (handed_over xs next)
  where
    next : Run
    next = after_call (Own x) r

    by_room : (b : Bool) → has_answer_place r.state ≡ b
        → AreHandedOver xs next.history (kept_own xs next).history
        → AreHandedOver (x ∷ xs) r.history (if b then kept_own xs next else next).history
    by_room true all more =
        inr
        (subst (λ (b : Bool). AreHandedOver xs (Offered x b ∷ r.history) (kept_own xs next).history)
        all more)
    by_room false none more = inl (ap (λ (b : Bool). Offered x b ∷ r.history) none)

-- A station's answer

-- the tag that a station's answer gets is that of the newest command that it may answer
abbrev HasNewestTags : Setup → Works → Type 0
HasNewestTags p w = (v : AsduValue)
    → option_map (λ tag. tag.0) (mirrors.tag_for v v.infos w.serial.commands)
    ≡ mirror_tag p.sizes p.stations p.select_ms p.max_age_ms v v.infos w.history

left_tags : (p : Setup) → CommandLaws → (log : Log) (before after : Course) → Runs p log before
    → IsLeft p log before after → HasNewestTags p after.works
left_tags p laws log before after r l =
    laws.tags p.stations p.sizes p.select_ms p.max_age_ms (tasks_of after.works)
    (left_reached p log before after r l)

report_given : (p : Setup) (at : ℕ) (b : Bool) (report : List ℕ) (w z : Works) → b ≡ true
    → LearnsReport p at true b report w z → HasNewestTags p w
    → IsGivenOn p at report w.history z.history
report_given p at false report w z of learns tags = cc
report_given p at true report w z of learns tags =
    let v : AsduValue = learns.0 in
    let pieces : List (List ℕ) = learns.2 in
    record {
      value = v;
      plain = learns.1;
      passed = learns.3;
      tag = mirrors.tag_for v v.infos w.serial.commands;
      newest = tags v;
      pieces = pieces;
      tagged = learns.4;
      given = subst (λ (u : Works). AreHandedOver pieces (Mirrored at v ∷ w.history) u.history)
          (sym learns.5)
          (handed_over pieces (after_call (Mirror v at) (tasks_of w)));
    }

answer_given : (p : Setup) (at : ℕ) (o : Outcome) (w z : Works) → LearnsOf p at true o w z
    → HasNewestTags p w
    → GivesAnswer p at o w.history z.history
answer_given p at (outcome.Report station asdu) w z learns tags = λ of.
    report_given p at (is_command_report p.sizes asdu.items) asdu.items w z of learns tags
answer_given p at (outcome.Accepted station) w z learns tags = tt
answer_given p at (outcome.Busy station) w z learns tags = tt
answer_given p at (outcome.Down station) w z learns tags = tt
answer_given p at outcome.None w z learns tags = tt
answer_given p at (outcome.Started station) w z learns tags = tt
answer_given p at (outcome.StartedGap station session) w z learns tags = tt
answer_given p at (outcome.Empty station) w z learns tags = tt

-- while data transfer is stopped
report_kept_back : (p : Setup) (at : ℕ) (b : Bool) (report : List ℕ) (w z : Works) → b ≡ true
    → LearnsReport p at false b report w z
    → (v : AsduValue) × IsAsdu p.sizes v report × (z.history ≡ Mirrored at v ∷ w.history)
report_kept_back p at false report w z of learns = cc
report_kept_back p at true report w z of learns =
    (learns.0, learns.3.value, ap (λ (u : Works). u.history) learns.5)

kept_back : (p : Setup) (at : ℕ) (o : Outcome) (w z : Works) → LearnsOf p at false o w z
    → KeepsAnswerBack p at o w.history z.history
kept_back p at (outcome.Report station asdu) w z learns = λ of.
    report_kept_back p at (is_command_report p.sizes asdu.items) asdu.items w z of learns
kept_back p at (outcome.Accepted station) w z learns = tt
kept_back p at (outcome.Busy station) w z learns = tt
kept_back p at (outcome.Down station) w z learns = tt
kept_back p at outcome.None w z learns = tt
kept_back p at (outcome.Started station) w z learns = tt
kept_back p at (outcome.StartedGap station session) w z learns = tt
kept_back p at (outcome.Empty station) w z learns = tt

pub stations_given : CommandLaws → (p : Setup) (log : Log) (at : ℕ) (octets : List ℕ) (d : Course)
    → Runs p (Came at (LineIn octets) ∷ log) d
    → (before : Course) × (left : Course) × Runs p log before × IsLeft p log before left
    × (transfers (came_frames left.talk) ≡ true
    → GivesAnswer p (latest (Came at (LineIn octets) ∷ log))
    (answer_outcome octets left.works.serial)
    left.works.history d.works.history)
    × (transfers (came_frames left.talk) ≡ false
    → KeepsAnswerBack p (latest (Came at (LineIn octets) ∷ log))
    (answer_outcome octets left.works.serial)
    left.works.history d.works.history)
stations_given laws p log at octets d r =
    let now : ℕ = latest (Came at (LineIn octets) ∷ log) in
    let w : Works = octets_works octets r.1.works in
    let o : Outcome = answer_outcome octets r.1.works.serial in (
      r.0,
      r.1,
      r.2,
      r.4,
      λ on.
          subst (λ (e : Course). GivesAnswer p now o r.1.works.history e.works.history) (sym r.5.2)
          (answer_given p now o w r.5.0 (subst (λ (b : Bool). LearnsOf p now b o w r.5.0) on r.5.1)
          (left_tags p laws log r.0 r.1 r.2 r.4)),
      λ off.
          subst (λ (e : Course). KeepsAnswerBack p now o r.1.works.history e.works.history)
          (sym r.5.2)
          (kept_back p now o w r.5.0 (subst (λ (b : Bool). LearnsOf p now b o w r.5.0) off r.5.1)),
    )
