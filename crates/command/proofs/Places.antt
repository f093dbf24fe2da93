-- Places come back: what waits is what was forwarded less what went out.
use Rattle.std.proofs.Common.{◌≡◌, ℕ, suc, ◌+◌, ◌≤◌, ◌&&◌, ◌||◌, Bool, true, false, List, []}
use Rattle.std.proofs.Common.{◌∷◌, length, count_by, refl, sym, subst, ap, ◌∙◌, arith}
use Rattle.std.specs.Prelude.{◌==◌, Option, Some, None, if◌then◌else◌, nat_lt, nat_le}
use Rattle.std.proofs.lemmas.List.{length-append}
use Rattle.asdu.specs.declared.sizes.Sizes.{Sizes}
use Rattle.command.specs.declared.content.Command.{Command}
use Rattle.command.specs.declared.station.StationInfo.{StationInfo}
use Rattle.command.specs.declared.waiting.Waiting.{Waiting}
use Rattle.command.specs.Octets.{negative}
use Rattle.command.specs.Command.{command_at}
use Rattle.command.specs.Stations.{is_addressed}
use Rattle.command.specs.State as state
use Rattle.command.specs.State.{State, oldest, without_oldest, put_out, has_answer_place}
use Rattle.command.specs.State.{first_answer}
use Rattle.command.specs.Judging as judging
use Rattle.command.specs.Judging.{Judgement, copies, fault, ends_selection, lacks_selection}
use Rattle.command.specs.Judging.{lacks_place, makes_selection}
use Rattle.command.specs.Mirrors as mirrors
use Rattle.command.specs.Rules.{no_place}
use Rattle.command.specs.Standard.{selects}
use Rattle.command.specs.Standard.{must_be_selected, is_for_station}
use Rattle.command.specs.History.{Judged, History, forwarded_in_all, sent_in_all}
use Rattle.command.specs.Passing.{FindsPlaces}
use Rattle.command.specs.Calls.{Call, Judge, PutOnLine, Accept, Busy, Lose, Mirror, Own, SendOwn}
use Rattle.command.specs.Calls.{Cut, Due, Run, after_call, run, after_sending, after_answer}
use Rattle.command.proofs.Kept.{copies_count}
use Rattle.command.proofs.Ruled.{counts_read}
use Rattle.command.proofs.Runs.{run_holds}
use Rattle.command.proofs.Staying.{mirroring_leaves_waiting}

-- ---- judging

-- what is forwarded waits for each of its stations
abbrev added : Option (List ℕ) → ℕ → ℕ
added None n = n
added (Some a) n = 0

abbrev for_all : List ℕ → State → ℕ
for_all xs s = count_by (is_for_station xs) s.stations

abbrev Adds : List ℕ → State → Judgement → Type 0
Adds xs s j = length j.1.waiting ≡ length s.waiting + added j.0 (for_all xs s)

none_added : (n : ℕ) → n ≡ n + 0
none_added n = omega arith

queued_adds : (xs : List ℕ) (t : State) → length (judging.queued xs t).waiting ≡ length t.waiting
    + for_all xs t
queued_adds xs t = length-append t.waiting (copies t.sizes xs 0 t.stations)
    ∙ ap (λ (n : ℕ). length t.waiting + n) (copies_count t.sizes xs 0 t.stations
    ∙ counts_read xs t.stations)

forwarded_adds : (xs : List ℕ) (c : Command) (now : ℕ) (t : State)
    → length (judging.forwarded xs c now t).waiting ≡ length t.waiting + for_all xs t
forwarded_adds xs c now t = go (makes_selection t.stations c)
  where
    go : (b : Bool) → length (judging.queued xs (if b then judging.selected c now t else t)).waiting
        ≡ length t.waiting + for_all xs t
    go true = queued_adds xs (judging.selected c now t)
    go false = queued_adds xs t

placed_adds : (xs : List ℕ) (c : Command) (now : ℕ) (t : State)
    → Adds xs t (judging.placed xs c now t)
placed_adds xs c now t = go (lacks_place c t)
  where
    go : (b : Bool)
        → Adds xs t (if b then judging.refused (negative xs) xs t
        else (None, judging.forwarded xs c now t))
    go true = none_added (length t.waiting)
    go false = forwarded_adds xs c now t

judged_adds : (xs : List ℕ) (now : ℕ) (wall : Option ℕ) (s : State)
    → Adds xs s (judging.judged xs now wall s)
judged_adds xs now wall s = on_fault (fault s.sizes s.stations s.max_age_ms wall xs)
  where
    on_ends : (b : Bool) →
        Adds xs s (judging.placed xs (command_at xs) now
        (if b then judging.without_selection (command_at xs) s else s))
    on_ends true = placed_adds xs (command_at xs) now (judging.without_selection (command_at xs) s)
    on_ends false = placed_adds xs (command_at xs) now s

    on_lack : (b : Bool) →
        Adds xs s (if b
        then judging.refused (negative xs) xs (judging.without_selection (command_at xs) s)
        else judging.placed xs (command_at xs) now (if ends_selection (command_at xs)
        then judging.without_selection
        (command_at xs) s else s))
    on_lack true = none_added (length s.waiting)
    on_lack false = on_ends (ends_selection (command_at xs))

    on_fault : (f : Option ℕ) → Adds xs s (judging.by_fault f xs now s)
    on_fault (Some cause) = none_added (length s.waiting)
    on_fault None = on_lack (lacks_selection (command_at xs) now s)

-- ---- at most 64 wait

abbrev IsFew : State → Type 0
IsFew s = length s.waiting ≤ 64

room_is : (n m : ℕ) (b : Bool) → (nat_lt 64 (n + m) || b) ≡ false → n + m ≤ 64
room_is n m b e = by (nat_lt 64 (n + m)) refl e
  where
    by : (a : Bool) → nat_lt 64 (n + m) ≡ a → (a || b) ≡ false → n + m ≤ 64
    by false is e = grind (arith, is)
    by true is e = absurd (let no : ⊥ = cc in no)

placed_few : (xs : List ℕ) (now : ℕ) (t : State) → IsFew t
    → IsFew (judging.placed xs (command_at xs) now t).1
placed_few xs now t few = go (lacks_place (command_at xs) t) refl
  where
    selecting : Bool
    selecting =
        makes_selection t.stations (command_at xs)
        && nat_le 16 (length (judging.others (command_at xs) t))

    go : (b : Bool) → lacks_place (command_at xs) t ≡ b → IsFew (if b
        then judging.refused (negative xs) xs t
        else (None, judging.forwarded xs (command_at xs) now t)).1
    go true e = few
    go false e =
        let room : length t.waiting + count_by (is_addressed (command_at xs)) t.stations ≤ 64 =
        room_is (length t.waiting) (count_by (is_addressed (command_at xs)) t.stations) selecting
        e in
        let read : count_by (is_addressed (command_at xs)) t.stations ≡ for_all xs t =
        counts_read xs t.stations in
        let long : length (judging.forwarded xs (command_at xs) now t).waiting ≡ length t.waiting
        + for_all xs t =
        forwarded_adds xs (command_at xs) now t in
        omega (arith, room, read, long)

judged_few : (xs : List ℕ) (now : ℕ) (wall : Option ℕ) (s : State) → IsFew s
    → IsFew (judging.judged xs now wall s).1
judged_few xs now wall s few = on_fault (fault s.sizes s.stations s.max_age_ms wall xs)
  where
    on_ends : (b : Bool) → IsFew (judging.placed xs (command_at xs) now
        (if b then judging.without_selection (command_at xs) s else s)).1
    on_ends true = placed_few xs now (judging.without_selection (command_at xs) s) few
    on_ends false = placed_few xs now s few

    on_lack : (b : Bool) →
        IsFew (if b
        then judging.refused (negative xs) xs (judging.without_selection (command_at xs) s)
        else judging.placed xs (command_at xs) now (if ends_selection (command_at xs)
        then judging.without_selection
        (command_at xs) s else s)).1
    on_lack true = few
    on_lack false = on_ends (ends_selection (command_at xs))

    on_fault : (f : Option ℕ) → IsFew (judging.by_fault f xs now s).1
    on_fault (Some cause) = few
    on_fault None = on_lack (lacks_selection (command_at xs) now s)

-- ---- first sendings

one_fewer : (k : ℕ) (ws : List Waiting) (w : Waiting) → oldest k ws ≡ Some w
    → suc (length (without_oldest k ws)) ≡ length ws
one_fewer k [] w e = cc
one_fewer k (x ∷ ws) w e = go (one_fewer k ws w) (x.station == k) e
  where
    go : (oldest k ws ≡ Some w → suc (length (without_oldest k ws)) ≡ length ws) → (b : Bool)
        → (if b then Some x else oldest k ws) ≡ Some w
        → suc (length (if b then ws else x ∷ without_oldest k ws)) ≡ length (x ∷ ws)
    go later true e = refl
    go later false e = ap suc (later e)

sent_fewer : (k : ℕ) (s : State) (w : Waiting) → oldest k s.waiting ≡ Some w
    → suc (length (state.sent k s).waiting) ≡ length s.waiting
sent_fewer k s w e =
    ap (λ (o : Option Waiting). suc (length (put_out o k s).waiting)) e ∙ one_fewer k s.waiting w e

-- ---- every list of calls

-- what waits and what went out is what was forwarded, and at most 64 wait
pub record CountsPlaces (stations : List StationInfo) (r : Run) : Type 0 where
  pub waiting : length r.state.waiting + sent_in_all r.history ≡ forwarded_in_all stations r.history
  pub few : length r.state.waiting ≤ 64

one_judged : (stations : List StationInfo) (xs : List ℕ) (now : ℕ) (wall : Option ℕ) (s : State)
    (h : History)
    (a : Option (List ℕ)) (n : ℕ)
    → n ≡ length s.waiting + added a (count_by (is_for_station xs) stations)
    → length s.waiting + sent_in_all h ≡ forwarded_in_all stations h
    → n + sent_in_all (Judged now wall xs a ∷ h)
    ≡ forwarded_in_all stations (Judged now wall xs a ∷ h)
one_judged stations xs now wall s h None n is before = omega (arith, is, before)
one_judged stations xs now wall s h (Some a) n is before = omega (arith, is, before)

module _ (stations : List StationInfo) (r : Run) (same : r.state.stations ≡ stations)
    (c : CountsPlaces stations r) where
  judges : (xs : List ℕ) (now : ℕ) (wall : Option ℕ)
      → CountsPlaces stations (after_call (Judge xs now wall) r)
  judges xs now wall = record {
    waiting =
        let j : Judgement = judging.judged xs now wall r.state in
        one_judged stations xs now wall r.state r.history j.0 (length j.1.waiting)
        (judged_adds xs now wall r.state
        ∙ ap (λ (sts : List StationInfo). length r.state.waiting
        + added j.0 (count_by (is_for_station xs) sts)) same)
        c.waiting;
    few = judged_few xs now wall r.state c.few;
  }

  puts : (k : ℕ) (o : Option Waiting) → oldest k r.state.waiting ≡ o
      → CountsPlaces stations (after_sending o k r)
  puts k None e = c
  puts k (Some w) e =
      let fewer : suc (length (state.sent k r.state).waiting) ≡ length r.state.waiting =
      sent_fewer k r.state w e in
      record { waiting = omega (arith, fewer, c.waiting); few = omega (arith, fewer, c.few) }

  mirrors_it : (waiting : List Waiting) → waiting ≡ r.state.waiting
      → (length waiting + sent_in_all r.history
      ≡ forwarded_in_all stations r.history) × (length waiting ≤ 64)
  mirrors_it waiting is = (
    ap (λ (ws : List Waiting). length ws + sent_in_all r.history) is ∙ c.waiting,
    subst (λ (ws : List Waiting). length ws ≤ 64) (sym is) c.few,
  )

  offers : (octets : List ℕ) (b : Bool)
      → (length (if b then state.kept octets r.state else r.state).waiting + sent_in_all r.history
      ≡ forwarded_in_all stations r.history)
      × (length (if b then state.kept octets r.state else r.state).waiting ≤ 64)
  offers octets true = (c.waiting, c.few)
  offers octets false = (c.waiting, c.few)

  gives : (o : Option (List ℕ)) → CountsPlaces stations (after_answer o r)
  gives None = c
  gives (Some octets) = record { waiting = c.waiting; few = c.few }

  counts_on : (call : Call) → CountsPlaces stations (after_call call r)
  counts_on (Judge xs now wall) = judges xs now wall
  counts_on (PutOnLine k) = puts k (oldest k r.state.waiting) refl
  counts_on (Accept k) = record { waiting = c.waiting; few = c.few }
  counts_on (Busy k) = record { waiting = c.waiting; few = c.few }
  counts_on (Lose k) = record { waiting = c.waiting; few = c.few }
  counts_on (Mirror v now) =
      let both = mirrors_it (mirrors.mirrored v now r.state).waiting
      (mirroring_leaves_waiting v now r.state) in
      record { waiting = both.0; few = both.1 }
  counts_on (Own octets) =
      let both = offers octets (has_answer_place r.state) in
      record { waiting = both.0; few = both.1 }
  counts_on SendOwn = gives (first_answer r.state.answers)
  counts_on Cut = record { waiting = refl; few = omega arith }
  counts_on (Due now) = record { waiting = c.waiting; few = c.few }

pub run_counts : (stations : List StationInfo) (sizes : Sizes) (ms age : ℕ) (calls : List Call)
    → CountsPlaces stations (run stations sizes ms age calls)
run_counts stations sizes ms age [] = record { waiting = refl; few = omega arith }
run_counts stations sizes ms age (call ∷ earlier) =
    counts_on stations (run stations sizes ms age earlier)
    (run_holds sizes stations ms age earlier).same_stations
    (run_counts stations sizes ms age earlier) call

-- ---- a command that has a place

pub or_off : (a b : Bool) → a ≡ false → b ≡ false → (a || b) ≡ false
or_off a b e f = rw (e, f) refl

pub and_off : (a b c : Bool) → (a && b) ≡ false → (a && b && c) ≡ false
and_off a b c e = rw e refl

module _ (stations : List StationInfo) (sizes : Sizes) (ms age : ℕ) (calls : List Call)
    (xs : List ℕ) where
  abbrev after : State
  after = (run stations sizes ms age calls).state

  pub has_waiting_room : FindsPlaces stations xs (run stations sizes ms age calls).history
      → nat_lt 64 (length after.waiting + count_by (is_for_station xs) after.stations) ≡ false
  has_waiting_room room =
      let counts = run_counts stations sizes ms age calls in
      let same : after.stations ≡ stations =
      (run_holds sizes stations ms age calls).same_stations in
      let fits : length after.waiting + count_by (is_for_station xs) stations ≤ 64 =
      omega (arith, room, counts.waiting) in
      let few : nat_lt 64 (length after.waiting + count_by (is_for_station xs) stations) ≡ false =
      grind (arith, fits) in
      ap (λ (sts : List StationInfo). nat_lt 64 (length after.waiting
      + count_by (is_for_station xs) sts)) same
      ∙ few

  pub has_room : FindsPlaces stations xs (run stations sizes ms age calls).history
      → (must_be_selected stations xs && selects xs) ≡ false → (no_place xs after).applies ≡ false
  has_room room unselected =
      or_off (nat_lt 64 (length after.waiting + count_by (is_for_station xs) after.stations))
      (must_be_selected after.stations xs && selects xs
      && nat_le 16 (length (judging.others (command_at xs) after)))
      (has_waiting_room room)
      (and_off (must_be_selected after.stations xs) (selects xs)
      (nat_le 16 (length (judging.others (command_at xs) after)))
      (ap (λ (sts : List StationInfo). must_be_selected sts xs && selects xs)
      (run_holds sizes stations ms age calls).same_stations ∙ unselected))
