-- What is counted as an answer that wasn't passed on came while data transfer was stopped.
use Rattle.std.proofs.Common.{◌≡◌, ℕ, ◌+◌, ◌-◌, Bool, true, false, List, [], ◌∷◌, ◌++◌, length}
use Rattle.std.proofs.Common.{Option, Some, None, refl, ap, sym, ◌∙◌, arith, if◌then◌else◌}
use Rattle.std.proofs.lemmas.List.{append-nil}
use Rattle.std.specs.Io.Iter.{u64_saturate}
use Rattle.arrayvec.specs.ArrayVec.{ArrayVec}
use Rattle.asdu.specs.declared.sizes.Sizes.{Sizes}
use Rattle.asdu.specs.InformationObjects.{InformationObject, objects_of, is_passed_on}
use Rattle.apci.specs.declared.apdu.Apdu.{Apdu}
use Rattle.apci.specs.declared.apdu.Apdu.TheVariants.{I, S, U}
use Rattle.link.specs.declared.outcome.Outcome.{Outcome}
use Rattle.link.specs.declared.outcome.Outcome.TheVariants as outcome
use Rattle.link.specs.Matching.{report_in}
use Rattle.session.specs.declared.kinds.Close.{Close}
use Rattle.session.specs.declared.kinds.Close.TheVariants.{Grammar, SendNumber, ReceiveNumber}
use Rattle.session.specs.declared.kinds.Close.TheVariants.{Stopped, Timeout, OwnAnswers, Replaced}
use Rattle.session.specs.History.{is_started}
use Rattle.gateway.specs.declared.counts.Tally.{Tally}
use Rattle.gateway.specs.Counting.{one_skipped, is_answer_type, counted_by}
use Rattle.gateway.specs.Objects.{has_objects}
use Rattle.gateway.specs.Log.{Log, Came, Went, Opened, LineIn, TcpIn, CutOff, Ticked, WallIs}
use Rattle.gateway.specs.Log.{Restarted, LineOut, TcpOut, Closed, GapOut, latest}
use Rattle.gateway.specs.Connections.{present}
use Rattle.gateway.specs.Reports.{Setup, exchanges_of, reports_in, address_at}
use Rattle.gateway.specs.Serial.{answer_outcome}
use Rattle.gateway.specs.Traffic.{ActsRightly}
use Rattle.gateway.specs.Works.{Works, is_command_report, LearnsOf, LearnsReport, octets_works}
use Rattle.gateway.specs.Works.{received_works, sent_works, answered_works, unless_silent_works}
use Rattle.gateway.specs.Works.{settled_works, unasked_works, done_works, restarted_works}
use Rattle.gateway.specs.Course.{Course, came_frames, with_frames, closed_course, IsLeft, room_in}
use Rattle.gateway.specs.Course.{Runs}
use Rattle.gateway.specs.Frames.{transfers}
use Rattle.gateway.proofs.OneCause.{came_transfers}
use Rattle.gateway.proofs.Restarting.{kept_over}
use Rattle.gateway.proofs.Waiting.{AnswersStay}
use Rattle.delivery.specs.Joined.{IsSetUp, command_reports}
use Rattle.delivery.specs.Counts.{answers_on, CameStopped}
use Rattle.delivery.specs.LinkLaws.{LinkLaws}
use Rattle.delivery.proofs.Skipping.{lost_mirrors}
use Rattle.delivery.proofs.Works.{reports_more}
use Rattle.delivery.proofs.Joining.{joins, left_joins}

abbrev mirrors_of : Works → ℕ
mirrors_of w = w.serial.counts.mirrors

-- ---- What is counted elsewhere

skipped_elsewhere : (objects : List InformationObject) (t : Tally)
    → (counted_by objects t).mirrors ≡ t.mirrors
skipped_elsewhere [] t = refl
skipped_elsewhere (o ∷ objects) t = go (is_answer_type o.kind) (is_passed_on o.kind o.cause)
  where
    go : (a b : Bool) → (if a then t else (if b then t else one_skipped t)).mirrors ≡ t.mirrors
    go true b = refl
    go false true = refl
    go false false = refl

silent_elsewhere : (o : Option ℕ) (w : Works) → mirrors_of (unless_silent_works o w) ≡ mirrors_of w
silent_elsewhere None w = refl
silent_elsewhere (Some k) w = lost_mirrors k w.serial

settled_elsewhere : (at : ℕ) (w : Works) → mirrors_of (settled_works at w) ≡ mirrors_of w
settled_elsewhere at w = silent_elsewhere w.serial.silent w

done_elsewhere : (at : ℕ) (room : Bool) (w : Works)
    → mirrors_of (done_works at room w) ≡ mirrors_of w
done_elsewhere at room w = go w.is_due
  where
    go : (b : Bool)
        → mirrors_of (if b then unasked_works at room (settled_works at w) else w) ≡ mirrors_of w
    go true = settled_elsewhere at w
    go false = refl

left_elsewhere : (p : Setup) (log : Log) (before after : Course) → IsLeft p log before after
    → mirrors_of after.works ≡ mirrors_of before.works
left_elsewhere p log before after l =
    ap (λ (c : Course). mirrors_of c.works) l.is
    ∙ done_elsewhere (latest log) (room_in p log before) before.works

frames_elsewhere : (p : Setup) (fs : List Apdu) (now : ℕ) (wall : Option ℕ) (c : Course)
    → mirrors_of (with_frames p fs now wall c).works ≡ mirrors_of c.works
frames_elsewhere p [] now wall c = refl
frames_elsewhere p (f ∷ fs) now wall c = frames_elsewhere p fs now wall c

sent_elsewhere : (f : Apdu) (w : Works) → mirrors_of (sent_works f w) ≡ mirrors_of w
sent_elsewhere (I ns nr asdu) w = go (has_objects asdu.items)
  where
    go : (b : Bool) → mirrors_of (if b then w else answered_works w) ≡ mirrors_of w
    go true = refl
    go false = refl
sent_elsewhere (S nr) w = refl
sent_elsewhere (U u) w = refl

restarted_elsewhere : (w : Works) → mirrors_of (restarted_works w) ≡ mirrors_of w
restarted_elsewhere w =
    kept_over (λ (z : Works). mirrors_of z ≡ mirrors_of w)
    (λ station v e. lost_mirrors station v.serial ∙ e)
    (λ v e. e) w refl

closed_elsewhere : (p : Setup) (cause : Close) (is_open : Bool) (at : ℕ) (c : Course)
    → mirrors_of (closed_course p cause is_open at c).works ≡ mirrors_of c.works
closed_elsewhere p Grammar is_open at c = refl
closed_elsewhere p SendNumber is_open at c = refl
closed_elsewhere p ReceiveNumber is_open at c = refl
closed_elsewhere p Stopped is_open at c = refl
closed_elsewhere p Timeout is_open at c = settled_elsewhere at c.works
closed_elsewhere p OwnAnswers is_open at c = refl
closed_elsewhere p Replaced is_open at c = refl

-- ---- What an answer of a station brings

abbrev answers_among : Sizes → List (ℕ × List ℕ) → ℕ
answers_among sizes rs = length (command_reports sizes rs)

-- so many, with what an exchange brought
abbrev counted_on : Sizes → (running : Bool) → (n : ℕ) → (rs more : List (ℕ × List ℕ)) → ℕ
counted_on sizes running n rs more =
    if running then n else n + (answers_among sizes more - answers_among sizes rs)

one_longer : (xs : List (List ℕ)) (x : List ℕ) → length (xs ++ x ∷ []) ≡ length xs + 1
one_longer [] x = refl
one_longer (y ∷ xs) x = let ih = one_longer xs x in omega (arith, ih)

-- none more
same_on : (sizes : Sizes) (running : Bool) (n : ℕ) (rs more : List (ℕ × List ℕ))
    → answers_among sizes more ≡ answers_among sizes rs → counted_on sizes running n rs more ≡ n
same_on sizes true n rs more same = refl
same_on sizes false n rs more same = omega (arith, same)

no_more : (sizes : Sizes) (running : Bool) (n : ℕ) (rs : List (ℕ × List ℕ))
    → counted_on sizes running n rs (rs ++ []) ≡ n
no_more sizes running n rs =
    same_on sizes running n rs (rs ++ []) (ap (answers_among sizes) (append-nil rs))

-- one more
more_on : (sizes : Sizes) (n : ℕ) (rs more : List (ℕ × List ℕ))
    → answers_among sizes more ≡ answers_among sizes rs + 1
    → counted_on sizes false n rs more ≡ n + 1
more_on sizes n rs more one = omega (arith, one)

saturated_more : (m n : ℕ) → m ≡ u64_saturate n → u64_saturate (m + 1) ≡ u64_saturate (n + 1)
saturated_more m n e = omega (arith, e)

module _ (p : Setup) (at : ℕ) (w : Works) (rs : List (ℕ × List ℕ)) (n : ℕ)
    (is : mirrors_of w ≡ u64_saturate n) where
  same_count : (running : Bool) (z : Works) → mirrors_of z ≡ mirrors_of w
      → mirrors_of z ≡ u64_saturate (counted_on p.sizes running n rs (rs ++ []))
  same_count running z e = e ∙ is ∙ ap u64_saturate (sym (no_more p.sizes running n rs))

  reported : (station : ℕ) (asdu : ArrayVec ℕ) (running b : Bool) (z : Works)
      → is_command_report p.sizes asdu.items ≡ b → LearnsReport p at running b asdu.items w z
      → mirrors_of z
      ≡ u64_saturate (counted_on p.sizes running n rs (rs ++ (station, asdu.items) ∷ []))
  reported station asdu running false z plain learns =
      ap mirrors_of learns
      ∙ skipped_elsewhere (objects_of p.sizes asdu.items) w.serial.counts
      ∙ is
      ∙ ap u64_saturate (sym (same_on p.sizes running n rs (rs ++ (station, asdu.items) ∷ [])
      (ap length (reports_more p.sizes rs (station, asdu.items)
      ∙ ap (λ (c : Bool). command_reports p.sizes rs ++ (if c then asdu.items ∷ [] else [])) plain
      ∙ append-nil (command_reports p.sizes rs)))))
  reported station asdu true true z command learns = ap mirrors_of learns.5 ∙ is
  reported station asdu false true z command learns =
      ap mirrors_of learns.5 ∙ saturated_more (mirrors_of w) n is
      ∙ ap u64_saturate (sym (more_on p.sizes n rs (rs ++ (station, asdu.items) ∷ [])
      (ap length (reports_more p.sizes rs (station, asdu.items)
      ∙ ap (λ (c : Bool).
      command_reports p.sizes rs ++ (if c then asdu.items ∷ [] else [])) command)
      ∙ one_longer (command_reports p.sizes rs) asdu.items)))

  learnt : (running : Bool) (o : Outcome) (z : Works) → LearnsOf p at running o w z
      → mirrors_of z ≡ u64_saturate (counted_on p.sizes running n rs (rs ++ report_in o))
  learnt running (outcome.Report station asdu) z learns =
      reported station asdu running (is_command_report p.sizes asdu.items) z refl learns
  learnt running (outcome.Accepted station) z learns = same_count running z (ap mirrors_of learns)
  learnt running (outcome.Busy station) z learns = same_count running z (ap mirrors_of learns)
  learnt running (outcome.Down station) z learns = same_count running z
      (ap mirrors_of learns
      ∙ lost_mirrors station w.serial)
  learnt running outcome.None z learns = same_count running z (ap mirrors_of learns)
  learnt running (outcome.Started station) z learns = same_count running z (ap mirrors_of learns)
  learnt running (outcome.StartedGap station session) z learns =
      same_count running z (ap mirrors_of learns)
  learnt running (outcome.Empty station) z learns = same_count running z (ap mirrors_of learns)

-- ---- Each log

-- so many came so
abbrev IsCounted : Setup → Log → ℕ → Type 0
IsCounted p log mirrors = (n : ℕ) × CameStopped p log n × (mirrors ≡ u64_saturate n)

counted_alike : (p : Setup) (log : Log) (a b : ℕ) → a ≡ b → IsCounted p log b → IsCounted p log a
counted_alike p log a b e c = (c.0, c.1, e ∙ c.2)

module _ (laws : LinkLaws) (stay : AnswersStay) (p : Setup) (set : IsSetUp p) where
  pub mirrors_counted : (log : Log) (c : Course) → Runs p log c → ActsRightly p log
      → IsCounted p log (mirrors_of c.works)
  mirrors_counted [] c r acts = (0, refl, ap (λ (d : Course). mirrors_of d.works) r)
  mirrors_counted (Came now (LineIn octets) ∷ log) c r acts =
      let so : IsCounted p log (mirrors_of r.0.works) = mirrors_counted log r.0 r.2 acts in
      let left = left_joins laws stay p log r.0 r.1 (exchanges_of p log) r.4
      (joins laws stay p set log r.0 r.2 acts) in
      let talk_same : r.1.talk ≡ r.0.talk = ap (λ (d : Course). d.talk) r.4.is in
      let running : transfers (came_frames r.1.talk) ≡ is_started r.0.talk =
      came_transfers r.1.talk ∙ ap is_started talk_same in
      let more : reports_in p (Came now (LineIn octets) ∷ log)
      ≡ reports_in p log ++ report_in (answer_outcome octets r.1.works.serial) =
      laws.due_reports p.link.size (address_at p.addresses) p.link.answer_ms
      (latest (Came now (LineIn octets) ∷ log)) _
      ∙ laws.octets_report p.link p.addresses r.1.works.serial.line (exchanges_of p log) octets
      left.1.matches in
      let n : ℕ = if is_started r.0.talk then so.0
      else so.0 + (answers_on p (Came now (LineIn octets) ∷ log) - answers_on p log) in (
        n,
        (r.0, so.0, r.2, r.3, so.1, refl),
        ap (λ (d : Course). mirrors_of d.works) r.5.2
            ∙ learnt p (latest (Came now (LineIn octets) ∷ log)) (octets_works octets r.1.works)
            (reports_in p log) so.0 (left_elsewhere p log r.0 r.1 r.4 ∙ so.2)
            (transfers (came_frames r.1.talk)) (answer_outcome octets r.1.works.serial) r.5.0 r.5.1
            ∙ ap (λ (b : Bool). u64_saturate (counted_on p.sizes b so.0 (reports_in p log)
            (reports_in p log ++ report_in (answer_outcome octets r.1.works.serial)))) running
            ∙ ap (λ (rs : List (ℕ × List ℕ)). u64_saturate (counted_on p.sizes
            (is_started r.0.talk) so.0 (reports_in p log) rs)) (sym more),
      )
  mirrors_counted (Came now (TcpIn octets) ∷ log) c r acts =
      counted_alike p log _ _ (ap (λ (d : Course). mirrors_of d.works) r.5.taken
      ∙ frames_elsewhere p r.5.frames _ _ _ ∙ left_elsewhere p log r.0 r.1 r.4)
      (mirrors_counted log r.0 r.2 acts)
  mirrors_counted (Came now Ticked ∷ log) c r acts =
      counted_alike p log _ _ (ap (λ (d : Course). mirrors_of d.works) r.5
      ∙ left_elsewhere p log r.0 r.1 r.4) (mirrors_counted log r.0 r.2 acts)
  mirrors_counted (Came now (WallIs number) ∷ log) c r acts =
      counted_alike p log _ _ (ap (λ (d : Course). mirrors_of d.works) r.5
      ∙ left_elsewhere p log r.0 r.1 r.4) (mirrors_counted log r.0 r.2 acts)
  mirrors_counted (Came now Opened ∷ log) c r acts =
      counted_alike p log _ _ (ap (λ (d : Course). mirrors_of d.works) r.5
      ∙ left_elsewhere p log r.0 r.1 r.4) (mirrors_counted log r.0 r.2 acts)
  mirrors_counted (Came now CutOff ∷ log) c r acts =
      counted_alike p log _ _ (ap (λ (d : Course). mirrors_of d.works) r.5
      ∙ left_elsewhere p log r.0 r.1 r.4) (mirrors_counted log r.0 r.2 acts)
  mirrors_counted (Came now Restarted ∷ log) c r acts =
      counted_alike p log _ _ (ap (λ (d : Course). mirrors_of d.works) r.5.1
      ∙ restarted_elsewhere r.1.works
      ∙ left_elsewhere p log r.0 r.1 r.4) (mirrors_counted log r.0 r.2 acts)
  mirrors_counted (Went now (LineOut octets) ∷ log) c r acts =
      counted_alike p log _ _ (ap (λ (d : Course). mirrors_of d.works) r.2.is
      ∙ settled_elsewhere (latest log) r.0.works) (mirrors_counted log r.0 r.1 acts.1)
  mirrors_counted (Went now (GapOut station session) ∷ log) c r acts =
      counted_alike p log _ _ (ap (λ (d : Course). mirrors_of d.works) r.2.is)
      (mirrors_counted log r.0 r.1 acts.1)
  mirrors_counted (Went now (TcpOut octets) ∷ log) c r acts =
      counted_alike p log _ _ (ap (λ (d : Course). mirrors_of d.works) r.4.taken
      ∙ frames_elsewhere p r.4.frames _ _ _
      ∙ ap (λ (d : Course). mirrors_of d.works) r.3.put ∙ sent_elsewhere r.3.frame r.0.works)
      (mirrors_counted log r.0 r.2 acts.1)
  mirrors_counted (Went now (Closed cause) ∷ log) c r acts =
      counted_alike p log _ _ (ap (λ (d : Course). mirrors_of d.works) r.2
      ∙ closed_elsewhere p cause (present log).is_open (latest log) r.0)
      (mirrors_counted log r.0 r.1 acts.1)
