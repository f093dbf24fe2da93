-- What is empty between two steps.
use Rattle.std.proofs.Common.{◌≡◌, ℕ, Bool, true, false, [], ◌∷◌, None, refl, sym, ap, ◌∙◌}
use Rattle.std.specs.Prelude.{if◌then◌else◌}
use Rattle.session.specs.declared.kinds.Close.{Close}
use Rattle.session.specs.declared.kinds.Close.TheVariants.{Grammar, SendNumber, ReceiveNumber}
use Rattle.session.specs.declared.kinds.Close.TheVariants.{Stopped, Timeout, OwnAnswers, Replaced}
use Rattle.gateway.specs.Log.{Log, LineIn, Opened, TcpIn, CutOff, Ticked, WallIs, Restarted}
use Rattle.gateway.specs.Log.{LineOut, TcpOut, Closed, GapOut, Came, Went, latest}
use Rattle.gateway.specs.Connections.{present}
use Rattle.gateway.specs.Reports.{Setup}
use Rattle.gateway.specs.Serial.{Serial}
use Rattle.gateway.specs.Works.{Works, unasked_works, settled_works, done_works}
use Rattle.gateway.specs.Course.{Course, closed_course, room_in, Runs}
use Rattle.gateway.specs.Phases.{resting}
use Rattle.gateway.specs.State.{State, IsBetweenSteps}
use Rattle.gateway.specs.Agrees.{Agrees}
use Rattle.gateway.proofs.Order.{frames_due, sent_due, closed_due, frames_others, sent_others}
use Rattle.gateway.proofs.Restarting.{restarted_silent}
use Rattle.gateway.proofs.Learning.{at_rest_works, none_left}

-- Nothing but the timers touches the silence of a step

closed_silent : (p : Setup) (cause : Close) (is_open : Bool) (at : ℕ) (c : Course)
    → c.works.serial.silent ≡ None
    → (closed_course p cause is_open at c).works.serial.silent ≡ None
closed_silent p Grammar is_open at c h = h
closed_silent p SendNumber is_open at c h = h
closed_silent p ReceiveNumber is_open at c h = h
closed_silent p Stopped is_open at c h = h
closed_silent p Timeout is_open at c h = refl
closed_silent p OwnAnswers is_open at c h = h
closed_silent p Replaced is_open at c h = h

done_silent : (at : ℕ) (room : Bool) (w : Works)
    → (w.is_due ≡ false → w.serial.silent ≡ None) → (done_works at room w).serial.silent ≡ None
done_silent at room w h = by_due w.is_due h
  where
    by_due : (b : Bool) → (b ≡ false → w.serial.silent ≡ None)
        → (if b then unasked_works at room (settled_works at w) else w).serial.silent ≡ None
    by_due true h = refl
    by_due false h = h refl

-- and a request goes out behind the timers
none_silent : (p : Setup) (log : Log) (c : Course) → Runs p log c → c.works.is_due ≡ false
    → c.works.serial.silent ≡ None
none_silent p [] c r due = ap (λ (d : Course). d.works.serial.silent) r
none_silent p (Came now (LineIn octets) ∷ log) c r due =
    let no : true ≡ false = sym (ap (λ (d : Course). d.works.is_due) r.5.2) ∙ due in absurd (cc)
none_silent p (Came now (TcpIn octets) ∷ log) c r due =
    let no : true ≡ false = sym (ap (λ (d : Course). d.works.is_due) r.5.taken
    ∙ frames_due p r.5.frames _ _ _) ∙ due in absurd (cc)
none_silent p (Came now Ticked ∷ log) c r due =
    let no : true ≡ false = sym (ap (λ (d : Course). d.works.is_due) r.5) ∙ due in absurd (cc)
none_silent p (Came now (WallIs number) ∷ log) c r due =
    let no : true ≡ false = sym (ap (λ (d : Course). d.works.is_due) r.5) ∙ due in absurd (cc)
none_silent p (Came now Opened ∷ log) c r due =
    let no : true ≡ false = sym (ap (λ (d : Course). d.works.is_due) r.5) ∙ due in absurd (cc)
none_silent p (Came now CutOff ∷ log) c r due =
    let no : true ≡ false = sym (ap (λ (d : Course). d.works.is_due) r.5) ∙ due in absurd (cc)
none_silent p (Came now Restarted ∷ log) c r due =
    ap (λ (d : Course). d.works.serial.silent) r.5.1 ∙ restarted_silent r.1.works
    ∙ ap (λ (d : Course). d.works.serial.silent) r.4.is
    ∙ done_silent (latest log) (room_in p log r.0) r.0.works (none_silent p log r.0 r.2)
none_silent p (Went now (LineOut octets) ∷ log) c r due =
    ap (λ (d : Course). d.works.serial.silent) r.2.is
none_silent p (Went now (GapOut station session) ∷ log) c r due =
    ap (λ (d : Course). d.works.serial.silent) r.2.is
    ∙ none_silent p log r.0 r.1 (sym (ap (λ (d : Course). d.works.is_due) r.2.is) ∙ due)
none_silent p (Went now (TcpOut octets) ∷ log) c r due =
    ap (λ (d : Course). d.works.serial.silent) r.4.taken
    ∙ ap (λ (s : Serial). s.silent) (frames_others p r.4.frames _ _ r.1)
    ∙ ap (λ (d : Course). d.works.serial.silent) r.3.put
    ∙ ap (λ (s : Serial). s.silent) (sent_others r.3.frame r.0.works)
    ∙ none_silent p log r.0 r.2 (sym (ap (λ (d : Course). d.works.is_due) r.4.taken
    ∙ frames_due p r.4.frames _ _ r.1 ∙ ap (λ (d : Course). d.works.is_due) r.3.put
    ∙ sent_due r.3.frame r.0.works) ∙ due)
none_silent p (Went now (Closed cause) ∷ log) c r due =
    ap (λ (d : Course). d.works.serial.silent) r.2
    ∙ closed_silent p cause (present log).is_open (latest log) r.0
    (none_silent p log r.0 r.1 (sym (ap (λ (d : Course). d.works.is_due) r.2
    ∙ closed_due p cause (present log).is_open (latest log) r.0) ∙ due))

-- The end of a step

pub between_steps : (p : Setup) (s : State) (log : Log) → Agrees p s log [] (resting log)
    → IsBetweenSteps s
between_steps p s log a = record {
  silent = ap (λ (t : Serial). t.silent) (at_rest_works p s log a)
      ∙ done_silent (latest log) (room_in p log a.course) a.course.works
      (none_silent p log a.course a.talk.course_runs);
  gap = none_left p s log a;
  arrived = a.here.taken;
}
