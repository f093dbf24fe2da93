-- What the parts of a step make of the works of a course, beside its exchanges.
use Rattle.std.specs.Prelude.{◌==◌, option_map}
use Rattle.std.proofs.Common.{◌≡◌, ℕ, Bool, true, false, List, [], ◌∷◌, ◌++◌}
use Rattle.std.proofs.Common.{Option, Some, None, refl, ap, sym, subst, ◌∙◌}
use Rattle.std.proofs.Common.{if◌then◌else◌}
use Rattle.std.proofs.lemmas.List.{append-nil}
use Rattle.asdu.specs.declared.sizes.Sizes.{Sizes}
use Rattle.asdu.specs.Asdu.{AsduValue, IsAsdu}
use Rattle.apci.specs.declared.apdu.Apdu.{Apdu}
use Rattle.apci.specs.declared.apdu.Apdu.TheVariants.{I, S, U}
use Rattle.apci.specs.Spelling.{Fits}
use Rattle.link.specs.declared.service.Service.TheVariants.{Class1, Class2, Command}
use Rattle.link.specs.declared.service.Asked.{Asked}
use Rattle.link.specs.declared.service.Asked.TheVariants.{Status, Reset, Counted}
use Rattle.arrayvec.specs.ArrayVec.{ArrayVec}
use Rattle.link.specs.declared.outcome.Outcome.{Outcome}
use Rattle.link.specs.declared.outcome.Outcome.TheVariants as outcome
use Rattle.std.specs.Io.Iter.{u64_saturate}
use Rattle.link.specs.Primary.{is_command}
use Rattle.link.specs.Matching.{report_in}
use Rattle.command.specs.declared.waiting.Waiting.{Waiting}
use Rattle.command.specs.State.{State, octets_waiting, oldest_for}
use Rattle.command.specs.Judging.{judged}
use Rattle.command.specs.History.{History, Sent}
use Rattle.command.specs.Calls.{Judge, PutOnLine, Accept, Busy, Lose, Mirror, SendOwn, Run}
use Rattle.command.specs.Calls.{after_call, after_sending}
use Rattle.gateway.specs.Objects.{has_objects}
use Rattle.gateway.specs.Reports.{Setup}
use Rattle.gateway.specs.Serial.{refusals, reported, with_gap, listed, silent_by}
use Rattle.gateway.specs.Works.{Works, tasks_of, called, LearnsOf, LearnsReport, is_command_report}
use Rattle.gateway.specs.Works.{mirrored_works, accepted_works, refused_works, given_up_works}
use Rattle.gateway.specs.Works.{received_works, answered_works, sent_works, unless_silent_works}
use Rattle.gateway.specs.Works.{settled_works, put_first}
use Rattle.delivery.specs.Commands.{Lost, judged_in}
use Rattle.delivery.specs.Joined.{mirrored_in, command_reports, skipped_among, AreValues}
use Rattle.delivery.proofs.Skipping.{skip_one, skip_none, lost_skips}
use Rattle.gateway.proofs.Waiting.{AnswersStay}
use Rattle.delivery.proofs.History.{LineLogged, line_logged, line_ignores, mirrors_ignore}
use Rattle.delivery.proofs.History.{judged_ignore, keeping, sending_own, judging, WaitsFit}
use Rattle.delivery.proofs.History.{one_fits, kept_fit}
use Rattle.delivery.proofs.Exchanging.{logged_by}
use Rattle.delivery.proofs.Requests.{logged_asked, logged_due}

-- The history once all is logged

abbrev pub all_logged : Works → History
all_logged w = (unless_silent_works w.serial.silent w).history

-- when the step is done, nothing is still to be logged
abbrev pub IsAllLogged : Works → Type 0
IsAllLogged w = w.is_due ≡ false → w.serial.silent ≡ None

-- what is still to be logged makes no difference
pub logged_alike : (k : ℕ) (o : Option ℕ) (w z : Works) → line_logged k z.history
    ≡ line_logged k w.history
    → line_logged k (unless_silent_works o z).history
    ≡ line_logged k (unless_silent_works o w).history
logged_alike k None w z same = same
logged_alike k (Some j) w z same =
    ap (λ (l : LineLogged).
    let r : LineLogged = record {
      steps = if k == j then l.steps ++ Lost ∷ [] else l.steps;
      last = l.last;
      sent =
          l.sent;
    } in r) same

-- what the line's silence logs
pub silent_logged : (k : ℕ) (o : Outcome) (w : Works)
    → line_logged k (unless_silent_works (silent_by o) w).history
    ≡ line_logged k (logged_due o w.history)
silent_logged k outcome.None w = refl
silent_logged k (outcome.Started station) w = refl
silent_logged k (outcome.StartedGap station session) w = refl
silent_logged k (outcome.Empty station) w = refl
silent_logged k (outcome.Accepted station) w = refl
silent_logged k (outcome.Busy station) w = refl
silent_logged k (outcome.Down station) w = refl
silent_logged k (outcome.Report station asdu) w = refl

-- Reports of command types

pub reports_more : (sizes : Sizes) (rs : List (ℕ × List ℕ)) (r : ℕ × List ℕ)
    → command_reports sizes (rs ++ r ∷ []) ≡ command_reports sizes rs
    ++ (if is_command_report sizes r.1 then r.1 ∷ [] else [])
reports_more sizes [] r = refl
reports_more sizes (x ∷ rs) r = go (is_command_report sizes x.1) (reports_more sizes rs r)
  where
    go : (b : Bool) → command_reports sizes (rs ++ r ∷ []) ≡ command_reports sizes rs
        ++ (if is_command_report sizes r.1 then r.1 ∷ [] else []) →
        (if b then x.1 ∷ command_reports sizes (rs ++ r ∷ [])
        else command_reports sizes (rs ++ r ∷ []))
        ≡ (if b then x.1 ∷ command_reports sizes rs else command_reports sizes rs)
        ++ (if is_command_report sizes r.1 then r.1 ∷ [] else [])
    go true ih = ap (λ (l : List (List ℕ)). x.1 ∷ l) ih
    go false ih = ih

values_more : (sizes : Sizes) (vs : List AsduValue) (rs : List (List ℕ)) (v : AsduValue)
    (r : List ℕ)
    → AreValues sizes vs rs → IsAsdu sizes v r → AreValues sizes (vs ++ v ∷ []) (rs ++ r ∷ [])
values_more sizes [] [] v r h k = (k, tt)
values_more sizes [] (y ∷ rs) v r h k = absurd h
values_more sizes (x ∷ vs) [] v r h k = absurd h
values_more sizes (x ∷ vs) (y ∷ rs) v r h k = (h.0, values_more sizes vs rs v r h.1 k)

-- What is learnt of an answer

pub record IsLearnt (p : Setup) (o : Outcome) (w z : Works) : Type 0 where
  pub line : z.serial.line ≡ w.serial.line
  pub silent : z.serial.silent ≡ w.serial.silent
  pub logged : (k : ℕ) → line_logged k z.history ≡ line_logged k (logged_by o w.history)
  pub fits : WaitsFit p w.serial.commands → WaitsFit p z.serial.commands
  pub mirrors : (rs : List (ℕ × List ℕ))
      → AreValues p.sizes (mirrored_in w.history) (command_reports p.sizes rs)
      → AreValues p.sizes (mirrored_in z.history) (command_reports p.sizes (rs ++ report_in o))
  pub judged : judged_in z.history ≡ judged_in w.history
  pub skips : (rs : List (ℕ × List ℕ)) → w.serial.counts.skipped
      ≡ u64_saturate (skipped_among p.sizes rs)
      → z.serial.counts.skipped ≡ u64_saturate (skipped_among p.sizes (rs ++ report_in o))

-- without a report
same_skips : (sizes : Sizes) (n m : ℕ) (rs : List (ℕ × List ℕ)) → n ≡ m
    → m ≡ u64_saturate (skipped_among sizes rs)
    → n ≡ u64_saturate (skipped_among sizes (rs ++ []))
same_skips sizes n m rs same h = same ∙ h
    ∙ ap (λ (l : List (ℕ × List ℕ)). u64_saturate (skipped_among sizes l))
    (sym (append-nil rs))

no_report : (sizes : Sizes) (vs : List AsduValue) (rs : List (ℕ × List ℕ))
    → AreValues sizes vs (command_reports sizes rs)
    → AreValues sizes vs (command_reports sizes (rs ++ []))
no_report sizes vs rs h =
    subst (λ (l : List (ℕ × List ℕ)). AreValues sizes vs (command_reports sizes l))
    (sym (append-nil rs)) h

same_learnt : (p : Setup) (o : Outcome) (w z : Works) → report_in o ≡ []
    → ((h : History) → logged_by o h ≡ h) → z ≡ w
    → IsLearnt p o w z
same_learnt p o w z none quiet is = record {
  line = ap (λ (x : Works). x.serial.line) is;
  silent = ap (λ (x : Works). x.serial.silent) is;
  logged = λ k. ap (λ (x : Works). line_logged k x.history) is
      ∙ ap (λ (h : History). line_logged k h) (sym (quiet w.history));
  fits = λ f. subst (λ (x : Works). WaitsFit p x.serial.commands) (sym is) f;
  mirrors = λ rs h. subst (λ (x : Works). AreValues p.sizes (mirrored_in x.history)
      (command_reports p.sizes (rs ++ report_in o))) (sym is)
      (subst (λ (l : List (ℕ × List ℕ)). AreValues p.sizes (mirrored_in w.history)
      (command_reports p.sizes (rs ++ l)))
      (sym none) (no_report p.sizes (mirrored_in w.history) rs h));
  judged = ap (λ (x : Works). judged_in x.history) is;
  skips = λ rs h. same_skips p.sizes z.serial.counts.skipped w.serial.counts.skipped rs
      (ap (λ (x : Works). x.serial.counts.skipped) is) h
      ∙ ap (λ (l : List (ℕ × List ℕ)). u64_saturate (skipped_among p.sizes (rs ++ l))) (sym none);
}

gap_learnt : (p : Setup) (station session : ℕ) (w : Works)
    → IsLearnt p (outcome.StartedGap station session) w
    (record w { serial = with_gap station session w.serial })
gap_learnt p station session w = record {
  line = refl;
  silent = refl;
  logged = λ k. refl;
  fits = λ f. f;
  mirrors = λ rs h. no_report p.sizes (mirrored_in w.history) rs h;
  judged = refl;
  skips = λ rs h. same_skips p.sizes w.serial.counts.skipped w.serial.counts.skipped rs refl h;
}

accepted_learnt : (stay : AnswersStay) (p : Setup) (station : ℕ) (w : Works)
    → IsLearnt p (outcome.Accepted station) w (accepted_works station w)
accepted_learnt stay p station w = record {
  line = refl;
  silent = refl;
  logged = λ k. refl;
  fits = λ f. one_fits stay p (Accept station) (tasks_of w) tt f;
  mirrors = λ rs h. no_report p.sizes (mirrored_in w.history) rs h;
  judged = refl;
  skips = λ rs h. same_skips p.sizes w.serial.counts.skipped w.serial.counts.skipped rs refl h;
}

busy_learnt : (stay : AnswersStay) (p : Setup) (station : ℕ) (w : Works)
    → IsLearnt p (outcome.Busy station) w (refused_works station w)
busy_learnt stay p station w =
    let own : List (List ℕ) = refusals station w.serial in
    let matches : Run = after_call (Busy station) (tasks_of w) in
    record {
      line = refl;
      silent = refl;
      logged = λ k. keeping (line_logged k) (line_ignores k) own matches;
      fits = λ f. kept_fit stay p own matches (one_fits stay p (Busy station) (tasks_of w) tt f);
      mirrors =
          λ rs h. subst (λ (vs : List AsduValue). AreValues p.sizes vs
          (command_reports p.sizes (rs ++ [])))
          (sym (keeping mirrored_in mirrors_ignore own matches))
          (no_report p.sizes (mirrored_in w.history) rs h);
      judged = keeping judged_in judged_ignore own matches;
      skips = λ rs h. same_skips p.sizes w.serial.counts.skipped w.serial.counts.skipped rs refl h;
    }

down_learnt : (stay : AnswersStay) (p : Setup) (station : ℕ) (w : Works)
    → IsLearnt p (outcome.Down station) w (given_up_works station w)
down_learnt stay p station w = record {
  line = refl;
  silent = refl;
  logged = λ k. refl;
  fits = λ f. one_fits stay p (Lose station) (tasks_of w) tt f;
  mirrors = λ rs h. no_report p.sizes (mirrored_in w.history) rs h;
  judged = refl;
  skips = λ rs h. same_skips p.sizes (given_up_works station w).serial.counts.skipped
      w.serial.counts.skipped rs
      (lost_skips station w.serial) h;
}

module _ (stay : AnswersStay) (p : Setup) (at : ℕ) (station : ℕ) (asdu : ArrayVec ℕ)
    (w : Works) where
  abbrev said : Outcome
  said = outcome.Report station asdu

  plain_report : is_command_report p.sizes asdu.items ≡ false
      → IsLearnt p said w (record w { serial = reported p.sizes asdu.items w.serial })
  plain_report other = record {
    line = refl;
    silent = refl;
    logged = λ k. refl;
    fits = λ f. f;
    mirrors = λ rs h. subst (λ (l : List (List ℕ)). AreValues p.sizes (mirrored_in w.history) l)
        (sym (reports_more p.sizes rs (station, asdu.items)
        ∙ ap (λ (b : Bool). command_reports p.sizes rs ++ (if b then asdu.items ∷ [] else [])) other
        ∙ append-nil (command_reports p.sizes rs))) h;
    judged = refl;
    skips = λ rs h. skip_one p.sizes station asdu.items w.serial.counts rs other h;
  }

  more_mirrored : (v : AsduValue) (rs : List (ℕ × List ℕ)) → is_command_report p.sizes asdu.items
      ≡ true
      → IsAsdu p.sizes v asdu.items →
      AreValues p.sizes (mirrored_in w.history) (command_reports p.sizes rs)
      → AreValues p.sizes (mirrored_in (called (Mirror v at) w).history)
      (command_reports p.sizes (rs ++ (station, asdu.items) ∷ []))
  more_mirrored v rs command value h =
      subst (λ (l : List (List ℕ)). AreValues p.sizes (mirrored_in w.history ++ v ∷ []) l)
      (sym (reports_more p.sizes rs (station, asdu.items)
      ∙ ap (λ (b : Bool). command_reports p.sizes rs ++ (if b then asdu.items ∷ [] else []))
      command))
      (values_more p.sizes (mirrored_in w.history) (command_reports p.sizes rs) v asdu.items h
      value)

  command_report : (running : Bool) (v : AsduValue) (pieces : List (List ℕ))
      → is_command_report p.sizes asdu.items ≡ true → IsAsdu p.sizes v asdu.items
      → IsLearnt p said w (mirrored_works at running v pieces w)
  command_report true v pieces command value =
      let matches : Run = after_call (Mirror v at) (tasks_of w) in
      record {
        line = refl;
        silent = refl;
        logged = λ k. keeping (line_logged k) (line_ignores k) pieces matches;
        fits = λ f. kept_fit stay p pieces matches (one_fits stay p (Mirror v at) (tasks_of w) tt
            f);
        mirrors = λ rs h. subst (λ (vs : List AsduValue). AreValues p.sizes vs
            (command_reports p.sizes (rs ++ (station, asdu.items) ∷ [])))
            (sym (keeping mirrored_in mirrors_ignore pieces matches))
            (more_mirrored v rs command value h);
        judged = keeping judged_in judged_ignore pieces matches;
        skips = λ rs h. h ∙ ap u64_saturate (sym (skip_none p.sizes station asdu.items rs command));
      }
  command_report false v pieces command value = record {
    line = refl;
    silent = refl;
    logged = λ k. refl;
    fits = λ f. one_fits stay p (Mirror v at) (tasks_of w) tt f;
    mirrors = λ rs h. more_mirrored v rs command value h;
    judged = refl;
    skips = λ rs h. h ∙ ap u64_saturate (sym (skip_none p.sizes station asdu.items rs command));
  }

  report_learnt : (running b : Bool) (z : Works) → is_command_report p.sizes asdu.items ≡ b
      → LearnsReport p at running b asdu.items w z → IsLearnt p said w z
  report_learnt running true z is h = subst (λ (x : Works). IsLearnt p said w x) (sym h.5)
      (command_report running h.0 h.2 is h.3.value)
  report_learnt running false z is h = subst (λ (x : Works). IsLearnt p said w x) (sym h)
      (plain_report is)

pub learnt_of : (stay : AnswersStay) (p : Setup) (at : ℕ) (running : Bool) (o : Outcome)
    (w z : Works)
    → LearnsOf p at running o w z → IsLearnt p o w z
learnt_of stay p at running outcome.None w z h = same_learnt p outcome.None w z refl (λ h. refl) h
learnt_of stay p at running (outcome.Started station) w z h =
    same_learnt p (outcome.Started station) w z refl (λ h. refl) h
learnt_of stay p at running (outcome.StartedGap station session) w z h =
    subst (λ (x : Works). IsLearnt p (outcome.StartedGap station session) w x) (sym h)
    (gap_learnt p station session w)
learnt_of stay p at running (outcome.Empty station) w z h =
    same_learnt p (outcome.Empty station) w z refl (λ h. refl) h
learnt_of stay p at running (outcome.Accepted station) w z h =
    subst (λ (x : Works). IsLearnt p (outcome.Accepted station) w x) (sym h)
    (accepted_learnt stay p station w)
learnt_of stay p at running (outcome.Busy station) w z h =
    subst (λ (x : Works). IsLearnt p (outcome.Busy station) w x) (sym h)
    (busy_learnt stay p station w)
learnt_of stay p at running (outcome.Down station) w z h =
    subst (λ (x : Works). IsLearnt p (outcome.Down station) w x) (sym h)
    (down_learnt stay p station w)
learnt_of stay p at running (outcome.Report station asdu) w z h =
    report_learnt stay p at station asdu w running (is_command_report p.sizes asdu.items) z refl h

-- What changes nothing of the line

-- the same is logged of the line, of stations' answers and of what waits
pub record IsQuiet (p : Setup) (w z : Works) : Type 0 where
  pub logged : (k : ℕ) → line_logged k (all_logged z) ≡ line_logged k (all_logged w)
  pub left : IsAllLogged w → IsAllLogged z
  pub mirrors : mirrored_in z.history ≡ mirrored_in w.history
  pub fits : WaitsFit p w.serial.commands → WaitsFit p z.serial.commands
  pub skips : z.serial.counts.skipped ≡ w.serial.counts.skipped

pub received_quiet : (stay : AnswersStay) (p : Setup) (frame : Apdu) (now : ℕ) (wall : Option ℕ)
    (w : Works) → Fits frame
    → IsQuiet p w (received_works frame now wall w)
received_quiet stay p (I ns nr asdu) now wall w fits =
    let s : State = w.serial.commands in
    record {
      logged = λ k. logged_alike k w.serial.silent w (received_works (I ns nr asdu) now wall w)
          (judging (line_logged k) (line_ignores k) ns nr asdu now wall w);
      left = λ h. h;
      mirrors = judging mirrored_in mirrors_ignore ns nr asdu now wall w;
      fits = λ f. kept_fit stay p (listed (judged asdu.items now wall s).0)
          (after_call (Judge asdu.items now wall) (tasks_of w))
          (one_fits stay p (Judge asdu.items now wall) (tasks_of w) fits.2 f);
      skips = refl;
    }
received_quiet stay p (S nr) now wall w fits = record {
  logged = λ k. refl;
  left = λ h. h;
  mirrors = refl;
  fits =
      λ f. f;
  skips = refl;
}
received_quiet stay p (U u) now wall w fits = record {
  logged = λ k. refl;
  left = λ h. h;
  mirrors = refl;
  fits =
      λ f. f;
  skips = refl;
}

pub received_line : (frame : Apdu) (now : ℕ) (wall : Option ℕ) (w : Works)
    → (received_works frame now wall w).serial.line ≡ w.serial.line
received_line frame now wall w = refl

-- the ASDU of an I frame, and what the wall clock shows
abbrev pub judged_by : Apdu → Option ℕ → List (List ℕ × Option ℕ)
judged_by (I ns nr asdu) wall = (asdu.items, wall) ∷ []
judged_by frame wall = []

pub received_judged : (frame : Apdu) (now : ℕ) (wall : Option ℕ) (w : Works)
    → judged_in (received_works frame now wall w).history ≡ judged_in w.history
    ++ judged_by frame wall
received_judged (I ns nr asdu) now wall w = judging judged_in judged_ignore ns nr asdu now wall w
received_judged (S nr) now wall w = sym (append-nil (judged_in w.history))
received_judged (U u) now wall w = sym (append-nil (judged_in w.history))

pub sent_quiet : (stay : AnswersStay) (p : Setup) (frame : Apdu) (w : Works)
    → IsQuiet p w (sent_works frame w)
sent_quiet stay p (I ns nr asdu) w = go (has_objects asdu.items)
  where
    go : (b : Bool) → IsQuiet p w (if b then w else answered_works w)
    go true = record {
      logged = λ k. refl;
      left = λ h. h;
      mirrors = refl;
      fits = λ f. f;
      skips =
          refl;
    }
    go false = record {
      logged = λ k. logged_alike k w.serial.silent w (answered_works w)
          (sending_own (line_logged k) (line_ignores k) w);
      left = λ h. h;
      mirrors =
          sending_own mirrored_in mirrors_ignore w;
      fits = λ f. one_fits stay p SendOwn (tasks_of w) tt f;
      skips = refl;
    }
sent_quiet stay p (S nr) w = record {
  logged = λ k. refl;
  left = λ h. h;
  mirrors = refl;
  fits =
      λ f. f;
  skips = refl;
}
sent_quiet stay p (U u) w = record {
  logged = λ k. refl;
  left = λ h. h;
  mirrors = refl;
  fits =
      λ f. f;
  skips = refl;
}

pub sent_line : (frame : Apdu) (w : Works) → (sent_works frame w).serial.line ≡ w.serial.line
sent_line (I ns nr asdu) w = go (has_objects asdu.items)
  where
    go : (b : Bool) → (if b then w else answered_works w).serial.line ≡ w.serial.line
    go true = refl
    go false = refl
sent_line (S nr) w = refl
sent_line (U u) w = refl

pub sent_judged : (frame : Apdu) (w : Works) → judged_in (sent_works frame w).history
    ≡ judged_in w.history
sent_judged (I ns nr asdu) w = go (has_objects asdu.items)
  where
    go : (b : Bool) → judged_in (if b then w else answered_works w).history ≡ judged_in w.history
    go true = refl
    go false = sending_own judged_in judged_ignore w
sent_judged (S nr) w = refl
sent_judged (U u) w = refl

pub settled_quiet : (stay : AnswersStay) (p : Setup) (at : ℕ) (w : Works)
    → IsQuiet p w (settled_works at w)
settled_quiet stay p at w = record {
  logged = λ k. refl;
  left = λ h due. refl;
  mirrors = answers w.serial.silent;
  fits =
      fit w.serial.silent;
  skips = count w.serial.silent;
}
  where
    answers : (o : Option ℕ) → mirrored_in (unless_silent_works o w).history ≡ mirrored_in w.history
    answers None = refl
    answers (Some station) = refl

    fit : (o : Option ℕ) → WaitsFit p w.serial.commands
        → WaitsFit p (unless_silent_works o w).serial.commands
    fit None f = f
    fit (Some station) f = one_fits stay p (Lose station) (tasks_of w) tt f

    count : (o : Option ℕ) → (unless_silent_works o w).serial.counts.skipped
        ≡ w.serial.counts.skipped
    count None = refl
    count (Some station) = lost_skips station w.serial

pub settled_line : (at : ℕ) (w : Works) → (settled_works at w).serial.line ≡ w.serial.line
settled_line at w = go w.serial.silent
  where
    go : (o : Option ℕ) → (unless_silent_works o w).serial.line ≡ w.serial.line
    go None = refl
    go (Some station) = refl

pub settled_judged : (at : ℕ) (w : Works) → judged_in (settled_works at w).history
    ≡ judged_in w.history
settled_judged at w = go w.serial.silent
  where
    go : (o : Option ℕ) → judged_in (unless_silent_works o w).history ≡ judged_in w.history
    go None = refl
    go (Some station) = refl

-- A command goes out

pub put_logged : (first : Bool) (station : ℕ) (request : Asked) (w : Works) (k : ℕ)
    → (first ≡ true → is_command request ≡ true) →
    ((fcb : Bool) (asdu : List ℕ) → request ≡ Counted fcb (Command asdu) → first ≡ true
    → octets_waiting station w.serial.commands ≡ Some asdu) →
    line_logged k (put_first first station (tasks_of w)).history
    ≡ line_logged k (logged_asked first station request w.history)
put_logged false station request w k command waits = refl
put_logged true station Status w k command waits = let no : is_command Status ≡ true =
    command refl in
    cc
put_logged true station Reset w k command waits = let no : is_command Reset ≡ true = command refl in
    cc
put_logged true station (Counted fcb Class1) w k command waits =
    let no : is_command (Counted fcb Class1) ≡ true = command refl in cc
put_logged true station (Counted fcb Class2) w k command waits =
    let no : is_command (Counted fcb Class2) ≡ true = command refl in cc
put_logged true station (Counted fcb (Command asdu)) w k command waits =
    go (oldest_for station w.serial.commands) (waits fcb asdu refl refl)
  where
    go : (o : Option Waiting) → option_map (λ (w : Waiting). w.octets) o ≡ Some asdu
        → line_logged k (after_sending o station (tasks_of w)).history
        ≡ line_logged k (Sent station asdu ∷ w.history)
    go None e = cc
    go (Some x) e = let same : x.octets ≡ asdu = cc in
        ap (λ (l : List ℕ). line_logged k (Sent station l ∷ w.history)) same

pub put_mirrors : (first : Bool) (station : ℕ) (w : Works)
    → mirrored_in (put_first first station (tasks_of w)).history ≡ mirrored_in w.history
put_mirrors false station w = refl
put_mirrors true station w = go (oldest_for station w.serial.commands)
  where
    go : (o : Option Waiting) → mirrored_in (after_sending o station (tasks_of w)).history
        ≡ mirrored_in w.history
    go None = refl
    go (Some x) = refl

pub put_judged : (first : Bool) (station : ℕ) (w : Works)
    → judged_in (put_first first station (tasks_of w)).history
    ≡ judged_in w.history
put_judged false station w = refl
put_judged true station w = go (oldest_for station w.serial.commands)
  where
    go : (o : Option Waiting) → judged_in (after_sending o station (tasks_of w)).history
        ≡ judged_in w.history
    go None = refl
    go (Some x) = refl

pub put_fits : (stay : AnswersStay) (p : Setup) (first : Bool) (station : ℕ) (w : Works)
    → WaitsFit p w.serial.commands
    → WaitsFit p (put_first first station (tasks_of w)).state
put_fits stay p false station w f = f
put_fits stay p true station w f = one_fits stay p (PutOnLine station) (tasks_of w) tt f
