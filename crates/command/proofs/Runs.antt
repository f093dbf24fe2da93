-- Every list of calls.
use Rattle.std.proofs.Common.{◌≡◌, ℕ, zero, suc, ◌+◌, ◌<◌, ◌≤◌, Bool, true, false, List, [], ◌∷◌}
use Rattle.std.proofs.Common.{◌++◌, length, drop, refl, sym, subst, ap, ◌∙◌, arith, append_assoc}
use Rattle.std.specs.Prelude.{◌==◌, Option, Some, None, if◌then◌else◌, option_map, nat_lt}
use Rattle.std.proofs.lemmas.List.{length-append, length-drop, length-set, length-map}
use Rattle.std.proofs.lemmas.Bool.{eqb-true}
use Rattle.asdu.specs.declared.sizes.Sizes.{Sizes}
use Rattle.command.specs.declared.station.StationInfo.{StationInfo}
use Rattle.command.specs.declared.waiting.Waiting.{Waiting}
use Rattle.command.specs.declared.waiting.Line.{Line}
use Rattle.command.specs.declared.waiting.Line.TheVariants as line
use Rattle.command.specs.declared.selection.Sign.TheVariants as sign
use Rattle.command.specs.Octets.{answer, negative}
use Rattle.command.specs.Selection.{advanced}
use Rattle.command.specs.State as state
use Rattle.command.specs.State.{State, oldest, without_oldest, line_of, refusal_of, is_used}
use Rattle.command.specs.State.{has_answer_place, cut_off, free_line, first_answer, offered}
use Rattle.command.specs.State.{answered}
use Rattle.command.specs.History.{Sent, Accepted, Refused, GivenUp, Offered, Ended, History, first}
use Rattle.command.specs.History.{sent_count, forwarded_to, next_for, next_octets, on_line}
use Rattle.command.specs.History.{is_on_line, own_kept, own_sent}
use Rattle.command.specs.Calls.{Call, Judge, PutOnLine, Accept, Busy, Lose, Mirror, Own, SendOwn}
use Rattle.command.specs.Calls.{Cut, Due, Run, after_call, run, after_sending, after_answer}
use Rattle.command.proofs.Sendings.{waiting_for, oldest_is_first, oldest_at, others_wait}
use Rattle.command.proofs.Sendings.{without_all, octets_for, IsShaped, none_waits}
use Rattle.command.proofs.Tied.{flip, Tied, all_kept, all_mapped, sending, acceptance, refused}
use Rattle.command.proofs.Tied.{given_up, in_time, other_logged, answer_logged}
use Rattle.command.proofs.Keeps.{held, KeepsQueue, Keeps, Same}
use Rattle.command.proofs.Lines.{done_held, done_used, put_held, put_used, cut_held, cut_used}
use Rattle.command.proofs.Lines.{free_held, free_used}
use Rattle.command.proofs.Judged.{judging_keeps}
use Rattle.command.proofs.Mirroring.{mirroring}

-- ---- small facts

-- the oldest that waits is sent: one more is counted, and the others are left
next_count : (n : ℕ) (fw ws : List (List ℕ)) (x : List ℕ) → n ≤ length fw → drop n fw ≡ x ∷ ws
    → suc n ≤ length fw
next_count n fw ws x h e = let more : length (drop n fw) ≡ suc (length ws) =
    ap (λ (ys : List (List ℕ)). length ys) e
    in omega (arith, more, length-drop n fw)

next_left : (n : ℕ) (fw ws : List (List ℕ)) (x : List ℕ) → drop n fw ≡ x ∷ ws → drop (suc n) fw ≡ ws
next_left zero [] ws x e = cc
next_left zero (y ∷ ys) ws x e = cc
next_left (suc n) [] ws x e = cc
next_left (suc n) (y ∷ ys) ws x e = next_left n ys ws x e

-- the answer of a line
line_answer : (x : Line) → refusal_of x ≡ option_map (λ (xs : List ℕ). answer (negative xs) xs)
    (held x)
line_answer line.Free = refl
line_answer (line.Holds xs) = refl
line_answer line.CutOff = refl

first_left : (answers : List (List ℕ)) (octets : List ℕ) → first_answer answers ≡ Some octets
    → answers ≡ octets ∷ drop 1 answers
first_left [] octets e = cc
first_left (x ∷ xs) octets e = (let is : x ≡ octets = cc in ap (λ (y : List ℕ). y ∷ xs) is)

room_left : (kept sent answers : List (List ℕ)) → kept ≡ sent ++ answers
    → nat_lt (length answers) 16 ≡ nat_lt (length kept) (length sent + 16)
room_left kept sent answers e =
    let n : length kept ≡ length sent + length answers = ap (λ (ys : List (List ℕ)). length ys) e
    ∙ length-append sent answers in
    rw n (grind arith)

pub next_is_of : (sizes : Sizes) (stations : List StationInfo) (ms age : ℕ) (waiting : List Waiting)
    (h : History)
    (k : ℕ) (w : Waiting) → KeepsQueue sizes stations ms age waiting h → oldest k waiting ≡ Some w
    → next_for sizes stations ms age k h ≡ Some w.received
next_is_of sizes stations ms age waiting h k w q is = ap first (q.in_turn k)
    ∙ ap first (oldest_is_first k w waiting is)

next_octets_is : (sizes : Sizes) (stations : List StationInfo) (ms age : ℕ) (waiting : List Waiting)
    (h : History)
    (k : ℕ) (w : Waiting) → KeepsQueue sizes stations ms age waiting h → oldest k waiting ≡ Some w
    → next_octets sizes stations ms age k h ≡ Some w.octets
next_octets_is sizes stations ms age waiting h k w q is =
    let found : (w.station ≡ k) × IsShaped sizes stations w =
    oldest_at k w waiting (IsShaped sizes stations) q.shaped is in
    ap (λ (o : Option (List ℕ)). option_map (octets_for sizes stations k) o)
    (next_is_of sizes stations ms age waiting h k w q is)
    ∙ ap (λ (xs : List ℕ). Some xs) (ap (λ (n : ℕ). octets_for sizes stations n w.received)
    (sym found.0)
    ∙ sym found.1.octets)

module _ (s : State) (h : History) (ks : Keeps s.sizes s.stations s.select_ms s.max_age_ms s.waiting
    s.lines
    s.selections s.answers h) where
  abbrev pub Goal : State → History → Type 0
  Goal t g = Same s t × Keeps s.sizes s.stations s.select_ms s.max_age_ms t.waiting t.lines
      t.selections t.answers g

  stays : Same s s
  stays = record { sizes = refl; stations = refl; select_ms = refl; max_age_ms = refl }

  -- ---- the line

  count_at : (k : ℕ) (w : Waiting) → oldest k s.waiting ≡ Some w → (j : ℕ) (b : Bool) → (j == k) ≡ b
      →
      (if b then suc (sent_count s.sizes s.stations s.select_ms s.max_age_ms j h)
      else sent_count s.sizes s.stations
      s.select_ms s.max_age_ms j h)
      ≤ length (forwarded_to s.sizes s.stations s.select_ms s.max_age_ms j h)
  count_at k w is j true e =
      let at : j ≡ k = eqb-true j k e in
      let front : drop (sent_count s.sizes s.stations s.select_ms s.max_age_ms j h)
      (forwarded_to s.sizes s.stations s.select_ms s.max_age_ms j h) ≡ w.received
      ∷ waiting_for j (without_oldest k s.waiting) =
      ks.queue.in_turn j ∙ subst (λ n. waiting_for n s.waiting ≡ w.received
      ∷ waiting_for n (without_oldest k s.waiting)) (sym at) (oldest_is_first k w s.waiting is) in
      next_count (sent_count s.sizes s.stations s.select_ms s.max_age_ms j h)
      (forwarded_to s.sizes s.stations s.select_ms s.max_age_ms j h)
      (waiting_for j (without_oldest k s.waiting)) w.received (ks.queue.count j) front
  count_at k w is j false e = ks.queue.count j

  turn_at : (k : ℕ) (w : Waiting) → oldest k s.waiting ≡ Some w → (j : ℕ) (b : Bool) → (j == k) ≡ b
      →
      drop (if b then suc (sent_count s.sizes s.stations s.select_ms s.max_age_ms j h)
      else sent_count s.sizes
      s.stations s.select_ms s.max_age_ms j h) (forwarded_to s.sizes s.stations s.select_ms
      s.max_age_ms j h)
      ≡ waiting_for j (without_oldest k s.waiting)
  turn_at k w is j true e =
      let at : j ≡ k = eqb-true j k e in
      let front : drop (sent_count s.sizes s.stations s.select_ms s.max_age_ms j h)
      (forwarded_to s.sizes s.stations s.select_ms s.max_age_ms j h) ≡ w.received
      ∷ waiting_for j (without_oldest k s.waiting) =
      ks.queue.in_turn j ∙ subst (λ n. waiting_for n s.waiting ≡ w.received
      ∷ waiting_for n (without_oldest k s.waiting)) (sym at) (oldest_is_first k w s.waiting is) in
      next_left (sent_count s.sizes s.stations s.select_ms s.max_age_ms j h)
      (forwarded_to s.sizes s.stations s.select_ms s.max_age_ms j h)
      (waiting_for j (without_oldest k s.waiting)) w.received front
  turn_at k w is j false e = ks.queue.in_turn j ∙ sym (others_wait j k s.waiting (flip j k false e))

  put_out : (k : ℕ) (w : Waiting) → oldest k s.waiting ≡ Some w
      → Goal (state.sent k s) (Sent k w.octets ∷ h)
  put_out k w is =
      let found : (w.station ≡ k) × IsShaped s.sizes s.stations w =
      oldest_at k w s.waiting (IsShaped s.sizes s.stations) ks.queue.shaped is in
      let less : k < length s.lines = subst (λ n. n < length s.lines) found.0
      (subst (λ n. w.station < n) (sym ks.on_lines.number) found.1.there) in
      subst (λ o. Goal (state.put_out o k s) (Sent k w.octets ∷ h)) (sym is) (
        record { sizes = refl; stations = refl; select_ms = refl; max_age_ms = refl },
        record {
          queue = record {
            count = λ j. count_at k w is j (j == k) refl;
            in_turn = λ j. turn_at k w is j (j == k) refl;
            shaped = without_all k s.waiting (IsShaped s.sizes s.stations) ks.queue.shaped;
            sends = (
              next_octets_is s.sizes s.stations s.select_ms s.max_age_ms s.waiting h k w ks.queue
                  is,
              ks.queue.sends,
            );
          };
          on_lines = record {
            number = length-set s.lines k (line.Holds w.received) ∙ ks.on_lines.number;
            held =
                λ j. put_held s.lines k j w.received (next_for s.sizes s.stations s.select_ms
                s.max_age_ms j h)
                (on_line s.sizes s.stations s.select_ms s.max_age_ms j h) less
                (λ at. subst (λ n. next_for s.sizes s.stations s.select_ms s.max_age_ms n h
                ≡ Some w.received) (sym at)
                (next_is_of s.sizes s.stations s.select_ms s.max_age_ms s.waiting h k w ks.queue
                is))
                (ks.on_lines.held j) (j == k) refl;
            used = λ j. put_used s.lines k j w.received
                (is_on_line s.sizes s.stations s.select_ms s.max_age_ms j h) less
                (ks.on_lines.used j) (j == k) refl;
          };
          own = record { in_turn = ks.own.in_turn; kept = ks.own.kept };
          tied = all_kept (advanced s.select_ms (sign.Sending k))
              (Tied s.sizes s.stations s.select_ms s.max_age_ms h) _
              (sending s.sizes s.stations s.select_ms s.max_age_ms h w.octets k) s.selections
              ks.tied;
          executes = ks.executes;
          rightly = ks.rightly;
        },
      )

  sends : (k : ℕ) (o : Option Waiting) → oldest k s.waiting ≡ o
      → Goal (after_sending o k (record { state = s; history = h })).state
      (after_sending o k (record { state = s; history = h })).history
  sends k None e = (stays, ks)
  sends k (Some w) e = put_out k w e

  accepts : (k : ℕ) → Goal (state.accepted k s) (Accepted k ∷ h)
  accepts k = (
    record { sizes = refl; stations = refl; select_ms = refl; max_age_ms = refl },
    record {
      queue = record {
        count = ks.queue.count;
        in_turn = ks.queue.in_turn;
        shaped = ks.queue.shaped;
        sends =
            ks.queue.sends;
      };
      on_lines = record {
        number = length-set s.lines k line.Free ∙ ks.on_lines.number;
        held = λ j. done_held s.lines k j (on_line s.sizes s.stations s.select_ms s.max_age_ms j h)
            (ks.on_lines.held j) (j == k) refl;
        used = λ j. done_used s.lines k j (is_on_line s.sizes s.stations s.select_ms s.max_age_ms j
            h)
            (ks.on_lines.used j) (j == k) refl;
      };
      own = record { in_turn = ks.own.in_turn; kept = ks.own.kept };
      tied = all_kept (advanced s.select_ms (sign.Acceptance k))
          (Tied s.sizes s.stations s.select_ms s.max_age_ms h) _
          (acceptance s.sizes s.stations s.select_ms s.max_age_ms h k) s.selections ks.tied;
      executes = ks.executes;
      rightly = ks.rightly;
    },
  )

  refuses : (k : ℕ) → Goal (state.given_up k s) (Refused k (refusal_of (line_of k s)) ∷ h)
  refuses k = (
    record { sizes = refl; stations = refl; select_ms = refl; max_age_ms = refl },
    record {
      queue = record {
        count = ks.queue.count;
        in_turn = ks.queue.in_turn;
        shaped = ks.queue.shaped;
        sends =
            ks.queue.sends;
      };
      on_lines = record {
        number = length-set s.lines k line.Free ∙ ks.on_lines.number;
        held = λ j. done_held s.lines k j (on_line s.sizes s.stations s.select_ms s.max_age_ms j h)
            (ks.on_lines.held j) (j == k) refl;
        used = λ j. done_used s.lines k j (is_on_line s.sizes s.stations s.select_ms s.max_age_ms j
            h)
            (ks.on_lines.used j) (j == k) refl;
      };
      own = record { in_turn = ks.own.in_turn; kept = ks.own.kept };
      tied = all_kept (advanced s.select_ms (sign.Loss k))
          (Tied s.sizes s.stations s.select_ms s.max_age_ms h) _
          (refused s.sizes s.stations s.select_ms s.max_age_ms h k (refusal_of (line_of k s)))
          s.selections ks.tied;
      executes = ks.executes;
      rightly = (
        line_answer (line_of k s)
            ∙ ap (λ (o : Option (List ℕ)). option_map (λ (xs : List ℕ). answer (negative xs) xs) o)
            (ks.on_lines.held k),
        ks.rightly,
      );
    },
  )

  loses : (k : ℕ) → Goal (state.given_up k s) (GivenUp k (is_used (line_of k s)) ∷ h)
  loses k = (
    record { sizes = refl; stations = refl; select_ms = refl; max_age_ms = refl },
    record {
      queue = record {
        count = ks.queue.count;
        in_turn = ks.queue.in_turn;
        shaped = ks.queue.shaped;
        sends =
            ks.queue.sends;
      };
      on_lines = record {
        number = length-set s.lines k line.Free ∙ ks.on_lines.number;
        held = λ j. done_held s.lines k j (on_line s.sizes s.stations s.select_ms s.max_age_ms j h)
            (ks.on_lines.held j) (j == k) refl;
        used = λ j. done_used s.lines k j (is_on_line s.sizes s.stations s.select_ms s.max_age_ms j
            h)
            (ks.on_lines.used j) (j == k) refl;
      };
      own = record { in_turn = ks.own.in_turn; kept = ks.own.kept };
      tied = all_kept (advanced s.select_ms (sign.Loss k))
          (Tied s.sizes s.stations s.select_ms s.max_age_ms h) _
          (given_up s.sizes s.stations s.select_ms s.max_age_ms h k (is_used (line_of k s)))
          s.selections ks.tied;
      executes = ks.executes;
      rightly = (ks.on_lines.used k, ks.rightly);
    },
  )

  -- ---- own answers

  keeps : (octets : List ℕ) (b : Bool) → has_answer_place s ≡ b
      → Goal (if b then state.kept octets s else s) (Offered octets b ∷ h)
  keeps octets true e = (
    record { sizes = refl; stations = refl; select_ms = refl; max_age_ms = refl },
    record {
      queue = record {
        count = ks.queue.count;
        in_turn = ks.queue.in_turn;
        shaped = ks.queue.shaped;
        sends =
            ks.queue.sends;
      };
      on_lines = record {
        number = ks.on_lines.number;
        held = ks.on_lines.held;
        used =
            ks.on_lines.used;
      };
      own = record {
        in_turn = ap (λ ys. ys ++ octets ∷ []) ks.own.in_turn
            ∙ append_assoc (own_sent h) s.answers (octets ∷ []);
        kept = (sym e ∙ room_left (own_kept h) (own_sent h) s.answers ks.own.in_turn, ks.own.kept);
      };
      tied =
          all_mapped _ _ (λ z t. other_logged s.sizes s.stations s.select_ms s.max_age_ms h octets
          true z t)
          s.selections ks.tied;
      executes = ks.executes;
      rightly = ks.rightly;
    },
  )
  keeps octets false e = (
    stays,
    record {
      queue = record {
        count = ks.queue.count;
        in_turn = ks.queue.in_turn;
        shaped = ks.queue.shaped;
        sends =
            ks.queue.sends;
      };
      on_lines = record {
        number = ks.on_lines.number;
        held = ks.on_lines.held;
        used =
            ks.on_lines.used;
      };
      own = record {
        in_turn = ks.own.in_turn;
        kept = (sym e ∙ room_left (own_kept h) (own_sent h) s.answers ks.own.in_turn, ks.own.kept);
      };
      tied =
          all_mapped _ _ (λ z t. other_logged s.sizes s.stations s.select_ms s.max_age_ms h octets
          false z t)
          s.selections ks.tied;
      executes = ks.executes;
      rightly = ks.rightly;
    },
  )

  gives : (o : Option (List ℕ)) → first_answer s.answers ≡ o
      → Goal (after_answer o (record { state = s; history = h })).state
      (after_answer o (record { state = s; history = h })).history
  gives None e = (stays, ks)
  gives (Some octets) e = (
    record { sizes = refl; stations = refl; select_ms = refl; max_age_ms = refl },
    record {
      queue = record {
        count = ks.queue.count;
        in_turn = ks.queue.in_turn;
        shaped = ks.queue.shaped;
        sends =
            ks.queue.sends;
      };
      on_lines = record {
        number = ks.on_lines.number;
        held = ks.on_lines.held;
        used =
            ks.on_lines.used;
      };
      own = record {
        in_turn = ks.own.in_turn ∙ (ap (λ ys. own_sent h ++ ys) (first_left s.answers octets e)
            ∙ sym (append_assoc (own_sent h) (octets ∷ []) (drop 1 s.answers)));
        kept = ks.own.kept;
      };
      tied =
          all_mapped _ _ (λ z t. answer_logged s.sizes s.stations s.select_ms s.max_age_ms h octets
          z t) s.selections
          ks.tied;
      executes = ks.executes;
      rightly = ks.rightly;
    },
  )

  -- ---- the end, and time

  times : (now : ℕ) → Goal (state.timed now s) h
  times now = (
    record { sizes = refl; stations = refl; select_ms = refl; max_age_ms = refl },
    record {
      queue = ks.queue;
      on_lines = ks.on_lines;
      own = ks.own;
      tied = all_kept (advanced s.select_ms (sign.Time now))
          (Tied s.sizes s.stations s.select_ms s.max_age_ms h) _
          (in_time s.sizes s.stations s.select_ms s.max_age_ms h now) s.selections ks.tied;
      executes = ks.executes;
      rightly = ks.rightly;
    },
  )

  ends : Goal (state.closed s) (Ended ∷ h)
  ends = (
    record { sizes = refl; stations = refl; select_ms = refl; max_age_ms = refl },
    record {
      queue = record {
        count = λ k. omega arith;
        in_turn = λ k. refl;
        shaped = tt;
        sends =
            ks.queue.sends;
      };
      on_lines = record {
        number = length-map s.lines cut_off ∙ ks.on_lines.number;
        held = λ k. cut_held s.lines k;
        used = λ k. cut_used s.lines k ∙ ks.on_lines.used k;
      };
      own = record { in_turn = refl; kept = ks.own.kept };
      tied = tt;
      executes = ks.executes;
      rightly = ks.rightly;
    },
  )

  pub stepping : (call : Call) → Goal (after_call call (record { state = s; history = h })).state
      (after_call call (record { state = s; history = h })).history
  stepping (Judge xs now wall) = judging_keeps s h xs now wall ks
  stepping (PutOnLine k) = sends k (oldest k s.waiting) refl
  stepping (Accept k) = accepts k
  stepping (Busy k) = refuses k
  stepping (Lose k) = loses k
  stepping (Mirror v now) = mirroring s h v now ks
  stepping (Own octets) = keeps octets (has_answer_place s) refl
  stepping SendOwn = gives (first_answer s.answers) refl
  stepping Cut = ends
  stepping (Due now) = times now

-- what holds of a run with these settings
pub record Holds (sizes : Sizes) (stations : List StationInfo) (select_ms max_age_ms : ℕ)
    (r : Run) : Type 0 where
  pub same_sizes : r.state.sizes ≡ sizes
  pub same_stations : r.state.stations ≡ stations
  pub same_time : r.state.select_ms ≡ select_ms
  pub same_age : r.state.max_age_ms ≡ max_age_ms
  pub keeps : Keeps sizes stations select_ms max_age_ms r.state.waiting r.state.lines
      r.state.selections
      r.state.answers r.history

-- what holds with the settings holds with those that are kept, and the other way round
carry : (P : Sizes → List StationInfo → ℕ → ℕ → Type 0) (a b : Sizes) (c d : List StationInfo)
    (m n x y : ℕ) → a ≡ b
    → c ≡ d → m ≡ n → x ≡ y → P a c m x → P b d n y
carry P a b c d m n x y e f g i p = subst (λ z. P b d n z) i
    (subst (λ z. P b d z x) g (subst (λ z. P b z m x) f (subst (λ z. P z c m x) e p)))

module _ (P : Sizes → List StationInfo → ℕ → ℕ → Type 0) {sizes : Sizes}
    {stations : List StationInfo} {ms age : ℕ}
    (r : Run) (h : Holds sizes stations ms age r) where
  pub owned : P sizes stations ms age
      → P r.state.sizes r.state.stations r.state.select_ms r.state.max_age_ms
  owned p = carry P sizes r.state.sizes stations r.state.stations ms r.state.select_ms age
      r.state.max_age_ms
      (sym h.same_sizes) (sym h.same_stations) (sym h.same_time) (sym h.same_age) p

  pub given_back : P r.state.sizes r.state.stations r.state.select_ms r.state.max_age_ms
      → P sizes stations ms age
  given_back p = carry P r.state.sizes sizes r.state.stations stations r.state.select_ms ms
      r.state.max_age_ms age
      h.same_sizes h.same_stations h.same_time h.same_age p

step_holds : (sizes : Sizes) (stations : List StationInfo) (ms age : ℕ) (call : Call) (r : Run)
    → Holds sizes stations ms age r → Holds sizes stations ms age (after_call call r)
step_holds sizes stations ms age call r h =
    let own : Keeps r.state.sizes r.state.stations r.state.select_ms r.state.max_age_ms
    r.state.waiting r.state.lines
    r.state.selections r.state.answers r.history =
    owned (λ sizes stations ms age. Keeps sizes stations ms age r.state.waiting r.state.lines
    r.state.selections
    r.state.answers r.history) r h h.keeps in
    let next : Goal r.state r.history own (after_call call r).state (after_call call r).history =
    stepping r.state r.history own call in
    record {
      same_sizes = next.0.sizes ∙ h.same_sizes;
      same_stations = next.0.stations ∙ h.same_stations;
      same_time = next.0.select_ms ∙ h.same_time;
      same_age = next.0.max_age_ms ∙ h.same_age;
      keeps =
          given_back (λ sizes stations ms age. Keeps sizes stations ms age
          (after_call call r).state.waiting
          (after_call call r).state.lines (after_call call r).state.selections
          (after_call call r).state.answers
          (after_call call r).history) r h next.1;
    }

start_holds : (sizes : Sizes) (stations : List StationInfo) (ms age : ℕ)
    → Holds sizes stations ms age (record {
      state = state.new_state stations sizes ms age;
      history =
          [];
    })
start_holds sizes stations ms age = record {
  same_sizes = refl;
  same_stations = refl;
  same_time = refl;
  same_age = refl;
  keeps = record {
    queue = record { count = λ k. omega arith; in_turn = λ k. refl; shaped = tt; sends = tt };
    on_lines = record {
      number = length-map stations free_line;
      held = λ k. free_held stations k;
      used =
          λ k. free_used stations k;
    };
    own = record { in_turn = refl; kept = tt };
    tied = tt;
    executes = tt;
    rightly = tt;
  };
}

pub run_holds : (sizes : Sizes) (stations : List StationInfo) (ms age : ℕ) (calls : List Call)
    → Holds sizes stations ms age (run stations sizes ms age calls)
run_holds sizes stations ms age [] = start_holds sizes stations ms age
run_holds sizes stations ms age (call ∷ earlier) = step_holds sizes stations ms age call
    (run stations sizes ms age earlier) (run_holds sizes stations ms age earlier)

-- what waits is the next
waits_at : (sizes : Sizes) (stations : List StationInfo) (ms age : ℕ) (waiting : List Waiting)
    (h : History) (k : ℕ)
    → KeepsQueue sizes stations ms age waiting h → (o : Option Waiting) → oldest k waiting ≡ o →
    option_map (λ (w : Waiting). w.octets) o ≡ next_octets sizes stations ms age k h
waits_at sizes stations ms age waiting h k q None e =
    let left : drop (sent_count sizes stations ms age k h) (forwarded_to sizes stations ms age k h)
    ≡ [] = q.in_turn k
    ∙ none_waits k waiting e in
    sym (ap (λ (o : List (List ℕ)). option_map (octets_for sizes stations k) (first o)) left)
waits_at sizes stations ms age waiting h k q (Some w) e =
    sym (next_octets_is sizes stations ms age waiting h k w q e)

pub waits : (sizes : Sizes) (stations : List StationInfo) (ms age : ℕ) (calls : List Call) (k : ℕ)
    → option_map (λ (w : Waiting). w.octets)
    (oldest k (run stations sizes ms age calls).state.waiting)
    ≡ next_octets sizes stations ms age k (run stations sizes ms age calls).history
waits sizes stations ms age calls k =
    waits_at sizes stations ms age (run stations sizes ms age calls).state.waiting
    (run stations sizes ms age calls).history k (run_holds sizes stations ms age calls).keeps.queue
    (oldest k (run stations sizes ms age calls).state.waiting) refl
