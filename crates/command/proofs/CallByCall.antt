-- What each call makes of the commands that wait, of what stands on a line, and of the own answers.
use Rattle.std.proofs.Common.{◌≡◌, ℕ, suc, ◌≤◌, ◌⊎◌, inl, inr, ◌&&◌, ◌||◌, Bool, true}
use Rattle.std.proofs.Common.{false, not, List, [], ◌∷◌, ◌++◌, length, drop, refl, sym, ap}
use Rattle.std.proofs.Common.{◌∙◌, arith}
use Rattle.std.specs.Prelude.{◌==◌, Option, Some, None, if◌then◌else◌, is_none, nat_lt, option_map}
use Rattle.std.proofs.lemmas.Bool.{eq-eqb, lt-ltb}
use Rattle.asdu.specs.declared.sizes.Sizes.{Sizes}
use Rattle.command.specs.declared.station.StationInfo.{StationInfo}
use Rattle.command.specs.declared.waiting.Waiting.{Waiting}
use Rattle.command.specs.declared.waiting.Line.{Line}
use Rattle.command.specs.declared.waiting.Line.TheVariants as line
use Rattle.command.specs.Octets.{answer}
use Rattle.command.specs.Standard.{negative_of, is_for_station}
use Rattle.std.specs.Option.{option_map_or}
use Rattle.std.specs.Prelude.{slice_get}
use Rattle.command.specs.Judging.{judged}
use Rattle.command.specs.State.{oldest_for, first_answer, line_of, refusal_of, kept}
use Rattle.command.specs.History.{Judged, first, is_for, forwarded_to, sent_count, next_for}
use Rattle.command.specs.History.{on_line}
use Rattle.command.specs.Calls.{Call, Judge, PutOnLine, Accept, Busy, Lose, Mirror, Own, SendOwn}
use Rattle.command.specs.Calls.{Cut, Due, Run, run, after_sending, after_answer}
use Rattle.command.specs.Confirming.{clears_line}
use Rattle.command.specs.CallByCall.{is_cut, is_put, is_judge, is_own, GoInTurn, IsAnsweredBusy}
use Rattle.command.specs.CallByCall.{WaitInTurn}
use Rattle.command.proofs.Confirming.{kept_by}
use Rattle.command.proofs.Progress.{no_entry, no_truth}
use Rattle.command.proofs.Keeps.{held}
use Rattle.command.proofs.Runs.{run_holds}
use Rattle.command.proofs.Sendings.{none_waits}
use Rattle.command.proofs.Staying.{judging_leaves_answers, mirroring_leaves_answers}
use Rattle.command.proofs.Staying.{sending_leaves_answers}

past : (before behind : List (List ℕ)) (xs : List ℕ)
    → drop (length before) (before ++ xs ∷ behind) ≡ xs ∷ behind
past [] behind xs = refl
past (ys ∷ before) behind xs = past before behind xs

module _ (stations : List StationInfo) (sizes : Sizes) (ms age : ℕ) where
  abbrev after : List Call → Run
  after calls = run stations sizes ms age calls

  abbrev next_at : ℕ → List Call → Option (List ℕ)
  next_at k calls = next_for sizes stations ms age k (after calls).history

  -- if something is to go out, something waits
  is_there : (k : ℕ) (calls : List Call) (xs : List ℕ) → next_at k calls ≡ Some xs
      → oldest_for k (after calls).state ≡ None → ⊥
  is_there k calls xs next none =
      let nothing : next_at k calls ≡ None =
      ap first ((run_holds sizes stations ms age calls).keeps.queue.in_turn k
      ∙ none_waits k (after calls).state.waiting none) in
      no_entry (sym nothing ∙ next)

  module _ (calls : List Call) where
    abbrev to_station : ℕ → List Call → List (List ℕ)
    to_station k cs = forwarded_to sizes stations ms age k (after cs).history

    abbrev gone_to : ℕ → List Call → ℕ
    gone_to k cs = sent_count sizes stations ms age k (after cs).history

    pub go_in_turn : (k : ℕ) → GoInTurn stations sizes ms age calls k
    go_in_turn k = record {
      last = λ station xs now wall there its forwarded.
          ap (λ (a : Option (List ℕ)). forwarded_to sizes stations ms age k
          (Judged now wall xs a ∷ (after calls).history)) forwarded
          ∙ ap (λ (b : Bool). if b then to_station k calls ++ xs ∷ [] else to_station k calls)
          (ap (λ (o : Option StationInfo). option_map_or (is_for_station xs) o false) there ∙ its);
      not_its = λ xs now wall its.
          by xs now wall (no_station xs (slice_get stations k) its)
          (judged xs now wall (after calls).state).0;
      refused = λ xs a now wall is.
          ap (λ (b : Option (List ℕ)). forwarded_to sizes stations ms age k
          (Judged now wall xs b ∷ (after calls).history)) is;
      stays = stays;
      next = λ before behind xs are gone.
          ap (λ (n : ℕ). first (drop n (to_station k calls))) gone
          ∙ (ap (λ (fw : List (List ℕ)). first (drop (length before) fw)) are
          ∙ ap first (past before behind xs));
      goes = goes;
      waits = waits;
      cut = (refl, refl);
    }
      where
        no_station : (xs : List ℕ) (o : Option StationInfo)
            → ((station : StationInfo) → o ≡ Some station → is_for_station xs station ≡ false)
            → option_map_or (is_for_station xs) o false ≡ false
        no_station xs None never = refl
        no_station xs (Some station) never = never station refl

        by : (xs : List ℕ) (now : ℕ) (wall : Option ℕ)
            → is_for sizes stations ms age k xs ≡ false
            → (a : Option (List ℕ))
            → forwarded_to sizes stations ms age k (Judged now wall xs a ∷ (after calls).history)
            ≡ to_station k calls
        by xs now wall its (Some a) = refl
        by xs now wall its None =
            ap (λ (b : Bool). if b then to_station k calls ++ xs ∷ [] else to_station k calls) its

        stays : (call : Call) → (is_judge call || is_cut call) ≡ false
            → to_station k (call ∷ calls) ≡ to_station k calls
        stays (Judge xs now wall) off = no_truth off
        stays (PutOnLine j) off = at (oldest_for j (after calls).state)
          where
            at : (o : Option Waiting)
                → forwarded_to sizes stations ms age k (after_sending o j (after calls)).history
                ≡ to_station k calls
            at None = refl
            at (Some w) = refl
        stays (Accept j) off = refl
        stays (Busy j) off = refl
        stays (Lose j) off = refl
        stays (Mirror v now) off = refl
        stays (Own octets) off = refl
        stays SendOwn off = at (first_answer (after calls).state.answers)
          where
            at : (o : Option (List ℕ))
                → forwarded_to sizes stations ms age k (after_answer o (after calls)).history
                ≡ to_station k calls
            at None = refl
            at (Some octets) = refl
        stays Cut off = no_truth off
        stays (Due now) off = refl

        goes : (xs : List ℕ) → next_at k calls ≡ Some xs
            → gone_to k (PutOnLine k ∷ calls) ≡ suc (gone_to k calls)
        goes xs next = at (oldest_for k (after calls).state) refl
          where
            at : (o : Option Waiting) → oldest_for k (after calls).state ≡ o
                → sent_count sizes stations ms age k (after_sending o k (after calls)).history
                ≡ suc (gone_to k calls)
            at None none = absurd (is_there k calls xs next none)
            at (Some w) some =
                ap (λ (b : Bool). if b then suc (gone_to k calls) else gone_to k calls)
                (eq-eqb k k refl)

        waits : (call : Call) → (is_put k call || is_cut call) ≡ false
            → gone_to k (call ∷ calls) ≡ gone_to k calls
        waits (Judge xs now wall) off = refl
        waits (PutOnLine j) off = at (oldest_for j (after calls).state)
          where
            one : (b : Bool) → (b || false) ≡ false → b ≡ false
            one true e = no_truth e
            one false e = refl

            at : (o : Option Waiting)
                → sent_count sizes stations ms age k (after_sending o j (after calls)).history
                ≡ gone_to k calls
            at None = refl
            at (Some w) =
                ap (λ (b : Bool). if b then suc (gone_to k calls) else gone_to k calls)
                (one (k == j) off)
        waits (Accept j) off = refl
        waits (Busy j) off = refl
        waits (Lose j) off = refl
        waits (Mirror v now) off = refl
        waits (Own octets) off = refl
        waits SendOwn off = at (first_answer (after calls).state.answers)
          where
            at : (o : Option (List ℕ))
                → sent_count sizes stations ms age k (after_answer o (after calls)).history
                ≡ gone_to k calls
            at None = refl
            at (Some octets) = refl
        waits Cut off = no_truth off
        waits (Due now) off = refl

    -- ---- own answers

    pub wait_in_turn : WaitInTurn stations sizes ms age calls
    wait_in_turn = record {
      kept = λ octets few.
          ap (λ (b : Bool). (if b then kept octets (after calls).state
          else (after calls).state).answers)
          (lt-ltb (length (after calls).state.answers) 16 few);
      full = λ octets many. full octets (nat_lt (length (after calls).state.answers) 16) refl many;
      goes = λ octets rest are.
          ap (λ (o : Option (List ℕ)). (after_answer o (after calls)).state.answers)
          (ap first_answer are)
          ∙ ap (λ (all : List (List ℕ)). drop 1 all) are;
      stays = stays;
      cut = refl;
    }
      where
        full : (octets : List ℕ) (b : Bool)
            → nat_lt (length (after calls).state.answers) 16 ≡ b
            → 16 ≤ length (after calls).state.answers
            → (if b then kept octets (after calls).state else (after calls).state).answers
            ≡ (after calls).state.answers
        full octets true is many = absurd (grind (arith, is, many))
        full octets false is many = refl

        stays : (call : Call) → (is_own call || is_cut call) ≡ false
            → (after (call ∷ calls)).state.answers ≡ (after calls).state.answers
        stays (Judge xs now wall) off = judging_leaves_answers xs now wall (after calls).state
        stays (PutOnLine j) off =
            at (oldest_for j (after calls).state) refl
          where
            at : (o : Option Waiting) → oldest_for j (after calls).state ≡ o
                → (after_sending o j (after calls)).state.answers ≡ (after calls).state.answers
            at None none = refl
            at (Some w) some = sending_leaves_answers j (after calls).state
        stays (Accept j) off = refl
        stays (Busy j) off = refl
        stays (Lose j) off = refl
        stays (Mirror v now) off = mirroring_leaves_answers v now (after calls).state
        stays (Own octets) off = no_truth off
        stays SendOwn off = no_truth off
        stays Cut off = no_truth off
        stays (Due now) off = refl

  -- ---- what stands on a line

  abbrev on : ℕ → List Call → Option (List ℕ)
  on k calls = on_line sizes stations ms age k (after calls).history

  refusal_by : (x : Line) (o : Option (List ℕ)) → held x ≡ o
      → refusal_of x ≡ option_map (λ (xs : List ℕ). answer (negative_of xs) xs) o
  refusal_by line.Free o e =
      ap (λ (p : Option (List ℕ)). option_map (λ (xs : List ℕ). answer (negative_of xs) xs) p) e
  refusal_by (line.Holds received) o e =
      ap (λ (p : Option (List ℕ)). option_map (λ (xs : List ℕ). answer (negative_of xs) xs) p) e
  refusal_by line.CutOff o e =
      ap (λ (p : Option (List ℕ)). option_map (λ (xs : List ℕ). answer (negative_of xs) xs) p) e

  refusal_at : (k : ℕ) (calls : List Call) (o : Option (List ℕ)) → on k calls ≡ o
      → refusal_of (line_of k (after calls).state)
      ≡ option_map (λ (xs : List ℕ). answer (negative_of xs) xs) o
  refusal_at k calls o e =
      refusal_by (line_of k (after calls).state) o
      ((run_holds sizes stations ms age calls).keeps.on_lines.held k ∙ e)

  put : (k : ℕ) (calls : List Call) (xs : List ℕ) → next_at k calls ≡ Some xs
      → on k (PutOnLine k ∷ calls) ≡ Some xs
  put k calls xs next = at (oldest_for k (after calls).state) refl
    where
      at : (o : Option Waiting) → oldest_for k (after calls).state ≡ o
          → on_line sizes stations ms age k (after_sending o k (after calls)).history ≡ Some xs
      at None none = absurd (is_there k calls xs next none)
      at (Some w) some =
          ap (λ (b : Bool). if b then next_at k calls else on k calls) (eq-eqb k k refl) ∙ next

  second_off : (a b : Bool) → (a || b) ≡ false → b ≡ false
  second_off true b e = no_truth e
  second_off false b e = e

  stands : (k : ℕ) (xs : List ℕ) (call : Call) (calls : List Call)
      → (is_cut call || clears_line stations sizes ms age k call calls) ≡ false
      → on k calls ≡ Some xs → on k (call ∷ calls) ≡ Some xs
  stands k xs (Judge ys now wall) calls off at = at
  stands k xs (PutOnLine j) calls off at = by (oldest_for j (after calls).state) refl
    where
      by : (o : Option Waiting) → oldest_for j (after calls).state ≡ o
          → on_line sizes stations ms age k (after_sending o j (after calls)).history ≡ Some xs
      by None none = at
      by (Some w) some = here (k == j) refl
        where
          here : (b : Bool) → (k == j) ≡ b
              → (if b then next_at k calls else on k calls) ≡ Some xs
          here true is =
              no_truth (sym (ap (λ (o : Option Waiting). (k == j) && not (is_none (option_map
              (λ (w : Waiting). w.octets) o))) some ∙ ap (λ (b : Bool). b && true) is) ∙ off)
          here false is = at
  stands k xs (Accept j) calls off at =
      ap (λ (b : Bool). if b then None else on k calls) off ∙ at
  stands k xs (Busy j) calls off at =
      ap (λ (b : Bool). if b then None else on k calls) off ∙ at
  stands k xs (Lose j) calls off at =
      ap (λ (b : Bool). if b then None else on k calls) off ∙ at
  stands k xs (Mirror v now) calls off at = at
  stands k xs (Own octets) calls off at = at
  stands k xs SendOwn calls off at = by (first_answer (after calls).state.answers)
    where
      by : (o : Option (List ℕ))
          → on_line sizes stations ms age k (after_answer o (after calls)).history ≡ Some xs
      by None = at
      by (Some octets) = at
  stands k xs Cut calls off at = no_truth off
  stands k xs (Due now) calls off at = at

  drops : (b : Bool) (o : Option (List ℕ)) → o ≡ None → (if b then None else o) ≡ None
  drops true o e = refl
  drops false o e = e

  stays_free : (k : ℕ) (call : Call) (calls : List Call) → is_put k call ≡ false
      → on k calls ≡ None → on k (call ∷ calls) ≡ None
  stays_free k (Judge ys now wall) calls off at = at
  stays_free k (PutOnLine j) calls off at = by (oldest_for j (after calls).state)
    where
      by : (o : Option Waiting)
          → on_line sizes stations ms age k (after_sending o j (after calls)).history ≡ None
      by None = at
      by (Some w) = ap (λ (b : Bool). if b then next_at k calls else on k calls) off ∙ at
  stays_free k (Accept j) calls off at = drops (k == j) (on k calls) at
  stays_free k (Busy j) calls off at = drops (k == j) (on k calls) at
  stays_free k (Lose j) calls off at = drops (k == j) (on k calls) at
  stays_free k (Mirror v now) calls off at = at
  stays_free k (Own octets) calls off at = at
  stays_free k SendOwn calls off at = by (first_answer (after calls).state.answers)
    where
      by : (o : Option (List ℕ))
          → on_line sizes stations ms age k (after_answer o (after calls)).history ≡ None
      by None = at
      by (Some octets) = at
  stays_free k Cut calls off at = refl
  stays_free k (Due now) calls off at = at

  freed : (k : ℕ) (call : Call) (calls : List Call)
      → (call ≡ Accept k) ⊎ ((call ≡ Busy k) ⊎ ((call ≡ Lose k) ⊎ (call ≡ Cut)))
      → on k (call ∷ calls) ≡ None
  freed k call calls (inl is) =
      ap (λ (c : Call). on k (c ∷ calls)) is
      ∙ ap (λ (b : Bool). if b then None else on k calls) (eq-eqb k k refl)
  freed k call calls (inr (inl is)) =
      ap (λ (c : Call). on k (c ∷ calls)) is
      ∙ ap (λ (b : Bool). if b then None else on k calls) (eq-eqb k k refl)
  freed k call calls (inr (inr (inl is))) =
      ap (λ (c : Call). on k (c ∷ calls)) is
      ∙ ap (λ (b : Bool). if b then None else on k calls) (eq-eqb k k refl)
  freed k call calls (inr (inr (inr is))) = ap (λ (c : Call). on k (c ∷ calls)) is

  pub is_answered_busy : (calls : List Call) (k : ℕ) → IsAnsweredBusy stations sizes ms age calls k
  is_answered_busy calls k = record {
    answered = λ xs on_line next goes.
        refusal_at k on_line (Some xs)
        (kept_by (λ call before. is_cut call || clears_line stations sizes ms age k call before)
        (λ cs. on k cs ≡ Some xs) (stands k xs) (PutOnLine k ∷ calls) on_line goes
        (put k calls xs next));
    silent = λ call free is goes.
        refusal_at k free None
        (kept_by (λ other before. is_put k other) (λ cs. on k cs ≡ None) (stays_free k)
        (call ∷ calls) free goes (freed k call calls is));
  }
