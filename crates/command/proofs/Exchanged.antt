-- An execute that is forwarded to a station that asks for selects has its select before it: what is
-- selected by the history is so by the calls.
use Rattle.std.proofs.Common.{◌≡◌, ℕ, ◌-◌, ◌≤◌, inl, inr, ◌&&◌, ◌||◌, Bool, true}
use Rattle.std.proofs.Common.{false, not, List, [], ◌∷◌, length, refl, sym, subst, ap, ◌∙◌, arith}
use Rattle.std.proofs.Common.{rules}
use Rattle.std.specs.Prelude.{Option, Some, None, if◌then◌else◌, is_none}
use Rattle.std.proofs.lemmas.Bool.{and_parts, ltb-true}
use Rattle.asdu.specs.declared.sizes.Sizes.{Sizes}
use Rattle.command.specs.declared.station.StationInfo.{StationInfo}
use Rattle.command.specs.declared.waiting.Waiting.{Waiting}
use Rattle.command.specs.Standard.{is_deactivating, selects, executes, have_one_target, station_of}
use Rattle.command.specs.Standard.{must_be_selected, cause_of_fault}
use Rattle.command.specs.Standard.{refuses_command}
use Rattle.command.specs.Judging.{judged}
use Rattle.command.specs.State.{oldest_for, first_answer}
use Rattle.command.specs.History.{Judged, Sent, Accepted, Refused, GivenUp, Mirrored}
use Rattle.command.specs.History.{Offered, Answered, Ended, History, Select, forwarded_to}
use Rattle.command.specs.History.{sent_count, is_of_target, begins_selection, standing}
use Rattle.command.specs.History.{IsSelected}
use Rattle.command.specs.History.{ExecutesAreSelected}
use Rattle.command.specs.History.{GivesOwnAnswers}
use Rattle.command.specs.Calls.{Call, Judge, PutOnLine, Accept, Busy, Lose, Mirror, Own, SendOwn}
use Rattle.command.specs.Calls.{Cut, Due, Run, run, after_sending, after_answer}
use Rattle.command.specs.Confirming.{GoOn, ends_selection}
use Rattle.command.specs.Confirming.{IsExchanged}
use Rattle.command.proofs.Wholes.{run_selected}
use Rattle.command.proofs.Runs.{run_holds}
use Rattle.command.proofs.Progress.{and_false, no_entry, no_truth, stays_or, Sending, Acceptance}
use Rattle.command.proofs.Progress.{Confirmation, sending, acceptance, confirmation}

module _ (stations : List StationInfo) (sizes : Sizes) (ms age : ℕ) where
  abbrev after : List Call → Run
  after calls = run stations sizes ms age calls

  abbrev before : List Call → History
  before calls = (after calls).history

  -- an execute that is forwarded is selected
  forwarded_is_selected : (calls : List Call) (xs : List ℕ) (now : ℕ) (wall : Option ℕ)
      → must_be_selected stations xs ≡ true → executes xs ≡ true
      → (judged xs now wall (after calls).state).0 ≡ None
      → IsSelected sizes stations ms age xs now (after calls).history
  forwarded_is_selected calls xs now wall guarded executing none =
      (subst (λ (o : Option (List ℕ)). ExecutesAreSelected sizes stations ms age
      (Judged now wall xs o ∷ (after calls).history)) none
      (run_selected stations sizes ms age (Judge xs now wall ∷ calls))).0 guarded executing

  -- ---- the select that stands has the target

  standing_is_one : (xs : List ℕ) (h : History) (z : Select)
      → standing sizes stations ms age xs h ≡ Some z → have_one_target xs z.octets ≡ true
  standing_is_one xs [] z e = absurd (no_entry e)
  standing_is_one xs (Judged now wall ys a ∷ h) z e = by (standing_is_one xs h z)
      (is_of_target sizes stations ms age xs wall ys) refl
      (begins_selection sizes stations ms age a ys) (is_deactivating ys || executes ys) e
    where
      newer : Select
      newer = record {
        octets = ys;
        came = now;
        place = length (forwarded_to sizes stations ms age (station_of stations ys) h);
      }

      by : (standing sizes stations ms age xs h ≡ Some z → have_one_target xs z.octets ≡ true)
          → (n : Bool) → is_of_target sizes stations ms age xs wall ys ≡ n → (m d : Bool)
          → (if not n then standing sizes stations ms age xs h else
          (if m then Some newer else (if d then None else standing sizes stations ms age xs h)))
          ≡ Some z
          → have_one_target xs z.octets ≡ true
      by rest false i m d f = rest f
      by rest true i true d f =
          let same : newer ≡ z = search (rules, f) in
          subst (λ (y : Select). have_one_target xs y.octets ≡ true) same
          (and_parts (is_none (cause_of_fault sizes stations age wall ys))
          (have_one_target xs ys) i).1
      by rest true i false true f = absurd (no_entry f)
      by rest true i false false f = rest f
  standing_is_one xs (Sent j octets ∷ h) z e = standing_is_one xs h z e
  standing_is_one xs (Accepted j ∷ h) z e = standing_is_one xs h z e
  standing_is_one xs (Refused j a ∷ h) z e = standing_is_one xs h z e
  standing_is_one xs (GivenUp j b ∷ h) z e = standing_is_one xs h z e
  standing_is_one xs (Mirrored now v ∷ h) z e =
      by (standing_is_one xs h z) (refuses_command xs v) e
    where
      by : (standing sizes stations ms age xs h ≡ Some z → have_one_target xs z.octets ≡ true)
          → (b : Bool) → (if b then None else standing sizes stations ms age xs h) ≡ Some z
          → have_one_target xs z.octets ≡ true
      by rest true f = absurd (no_entry f)
      by rest false f = rest f
  standing_is_one xs (Offered octets b ∷ h) z e = standing_is_one xs h z e
  standing_is_one xs (Answered octets ∷ h) z e = standing_is_one xs h z e
  standing_is_one xs (Ended ∷ h) z e = absurd (no_entry e)

  -- ---- where it came

  pub faultless : (calls : List Call) (ys : List ℕ) (came : ℕ) (wall : Option ℕ)
      (a : Option (List ℕ))
      → a ≡ None
      → GivesOwnAnswers sizes stations ms age (Judged came wall ys a ∷ before calls)
      → cause_of_fault sizes stations age wall ys ≡ None
  faultless calls ys came wall a is given =
      (subst (λ b. GivesOwnAnswers sizes stations ms age (Judged came wall ys b ∷ before calls)) is
      given).0

  module _ (xs : List ℕ) where
    record Begun (z : Select) (calls : List Call) : Type 0 where
      wall : Option ℕ
      earlier : List Call
      selecting : selects z.octets ≡ true
      forwarded : (judged z.octets z.came wall (after earlier).state).0 ≡ None
      place : z.place
          ≡ length (forwarded_to sizes stations ms age (station_of stations z.octets)
          (before earlier))
      goes_on : GoOn (ends_selection stations sizes ms age xs)
          (Judge z.octets z.came wall ∷ earlier) calls

    begun_later : (z : Select) (call : Call) (calls : List Call)
        → ends_selection stations sizes ms age xs call calls ≡ false
        → Begun z calls → Begun z (call ∷ calls)
    begun_later z call calls test s = record {
      wall = s.wall;
      earlier = s.earlier;
      selecting = s.selecting;
      forwarded = s.forwarded;
      place = s.place;
      goes_on = inr (test, s.goes_on);
    }

    abbrev stood : List Call → Option Select
    stood calls = standing sizes stations ms age xs (before calls)

    is_none_is : {A : Type 0} → (o : Option A) → is_none o ≡ true → o ≡ None
    is_none_is None e = refl
    is_none_is (Some x) e = absurd (search (rules, e))

    begun : (calls : List Call) (z : Select) → stood calls ≡ Some z → Begun z calls
    begun [] z e = absurd (no_entry e)
    begun (Judge ys m wall ∷ calls) z e =
        by a refl (is_none (cause_of_fault sizes stations age wall ys)) refl
        (have_one_target xs ys) refl (must_be_selected stations ys && selects ys) refl
        (is_deactivating ys || executes ys) refl (begun calls z) e
      where
        a : Option (List ℕ)
        a = (judged ys m wall (after calls).state).0

        newer : Select
        newer = record {
          octets = ys;
          came = m;
          place = length (forwarded_to sizes stations ms age (station_of stations ys)
              (before calls));
        }

        given : GivesOwnAnswers sizes stations ms age (Judged m wall ys a ∷ before calls)
        given = (run_holds sizes stations ms age (Judge ys m wall ∷ calls)).keeps.rightly

        passes : (o : Option (List ℕ)) (s : Bool) → a ≡ o → (a ≡ None → s ≡ false)
            → (is_none o && s) ≡ false
        passes None s is never = never is
        passes (Some b) s is never = refl

        later : (is_none a && (must_be_selected stations ys && selects ys)
            && have_one_target xs ys) ≡ false
            → ((is_none (cause_of_fault sizes stations age wall ys) && have_one_target xs ys)
            && (is_deactivating ys || executes ys)) ≡ false
            → (stood calls ≡ Some z → Begun z calls) → stood calls ≡ Some z
            → Begun z (Judge ys m wall ∷ calls)
        later new used rest f =
            begun_later z (Judge ys m wall) calls
            (stays_or (is_none a && (must_be_selected stations ys && selects ys)
            && have_one_target xs ys)
            ((is_none (cause_of_fault sizes stations age wall ys) && have_one_target xs ys)
            && (is_deactivating ys || executes ys)) new used)
            (rest f)

        by : (o : Option (List ℕ)) → a ≡ o
            → (p : Bool) → is_none (cause_of_fault sizes stations age wall ys) ≡ p
            → (t : Bool) → have_one_target xs ys ≡ t
            → (b : Bool) → (must_be_selected stations ys && selects ys) ≡ b
            → (d : Bool) → (is_deactivating ys || executes ys) ≡ d
            → (stood calls ≡ Some z → Begun z calls)
            → (if not (p && t) then stood calls
            else (if is_none o && b then Some newer
            else (if d then None else stood calls))) ≡ Some z
            → Begun z (Judge ys m wall ∷ calls)
        by o ao p ip false it b ib d id rest f =
            later (ap (λ (t : Bool). is_none a
            && (must_be_selected stations ys && selects ys) && t) it
            ∙ and_false (is_none a && (must_be_selected stations ys && selects ys)))
            (ap (λ (t : Bool). (is_none (cause_of_fault sizes stations age wall ys) && t)
            && (is_deactivating ys || executes ys)) it
            ∙ off (is_none (cause_of_fault sizes stations age wall ys))
            (is_deactivating ys || executes ys)) rest (pick p f)
          where
            off : (x y : Bool) → ((x && false) && y) ≡ false
            off true y = refl
            off false y = refl

            pick : (q : Bool) → (if not (q && false) then stood calls
                else (if is_none o && b then Some newer
                else (if d then None else stood calls))) ≡ Some z → stood calls ≡ Some z
            pick true g = g
            pick false g = g
        by None ao false ip true it b ib d id rest f =
            no_truth (sym (ap is_none (faultless calls ys m wall a ao given)) ∙ ip)
        by (Some w) ao false ip true it b ib d id rest f =
            later (ap (λ (o : Option (List ℕ)). is_none o
            && (must_be_selected stations ys && selects ys) && have_one_target xs ys) ao)
            (ap (λ (q : Bool). (q && have_one_target xs ys)
            && (is_deactivating ys || executes ys)) ip) rest f
        by None ao true ip true it true ib d id rest f =
            let same : newer ≡ z = search (rules, f) in
            let parts : _ = and_parts (must_be_selected stations ys) (selects ys) ib in
            subst (λ (y : Select). Begun y (Judge ys m wall ∷ calls)) same (record {
              wall = wall;
              earlier = calls;
              selecting = parts.1;
              forwarded = ao;
              place = refl;
              goes_on = inl refl;
            })
        by None ao true ip true it false ib true id rest f = absurd (no_entry f)
        by None ao true ip true it false ib false id rest f =
            later (ap (λ (q : Bool). is_none a && q && have_one_target xs ys) ib
            ∙ no_new (is_none a) (have_one_target xs ys))
            (ap (λ (q : Bool). (is_none (cause_of_fault sizes stations age wall ys)
            && have_one_target xs ys) && q) id
            ∙ and_false (is_none (cause_of_fault sizes stations age wall ys)
            && have_one_target xs ys)) rest f
          where
            no_new : (x y : Bool) → (x && false && y) ≡ false
            no_new true y = refl
            no_new false y = refl
        by (Some w) ao true ip true it b ib true id rest f = absurd (no_entry f)
        by (Some w) ao true ip true it b ib false id rest f =
            later (ap (λ (o : Option (List ℕ)). is_none o
            && (must_be_selected stations ys && selects ys) && have_one_target xs ys) ao)
            (ap (λ (q : Bool). (is_none (cause_of_fault sizes stations age wall ys)
            && have_one_target xs ys) && q) id
            ∙ and_false (is_none (cause_of_fault sizes stations age wall ys)
            && have_one_target xs ys)) rest f
    begun (PutOnLine j ∷ calls) z e =
        begun_later z (PutOnLine j) calls refl
        (by (oldest_for j (after calls).state) (begun calls z) e)
      where
        by : (o : Option Waiting) → (stood calls ≡ Some z → Begun z calls)
            → standing sizes stations ms age xs (after_sending o j (after calls)).history ≡ Some z
            → Begun z calls
        by None rest f = rest f
        by (Some w) rest f = rest f
    begun (Accept j ∷ calls) z e = begun_later z (Accept j) calls refl (begun calls z e)
    begun (Busy j ∷ calls) z e = begun_later z (Busy j) calls refl (begun calls z e)
    begun (Lose j ∷ calls) z e = begun_later z (Lose j) calls refl (begun calls z e)
    begun (Mirror v m ∷ calls) z e = by (refuses_command xs v) refl (begun calls z) e
      where
        by : (b : Bool) → refuses_command xs v ≡ b → (stood calls ≡ Some z → Begun z calls)
            → (if b then None else stood calls) ≡ Some z → Begun z (Mirror v m ∷ calls)
        by true is rest f = absurd (no_entry f)
        by false is rest f = begun_later z (Mirror v m) calls is (rest f)
    begun (Own octets ∷ calls) z e = begun_later z (Own octets) calls refl (begun calls z e)
    begun (SendOwn ∷ calls) z e =
        begun_later z SendOwn calls refl
        (by (first_answer (after calls).state.answers) (begun calls z) e)
      where
        by : (o : Option (List ℕ)) → (stood calls ≡ Some z → Begun z calls)
            → standing sizes stations ms age xs (after_answer o (after calls)).history ≡ Some z
            → Begun z calls
        by None rest f = rest f
        by (Some octets) rest f = rest f
    begun (Cut ∷ calls) z e = absurd (no_entry e)
    begun (Due m ∷ calls) z e = begun_later z (Due m) calls refl (begun calls z e)

  pub is_exchanged : (calls : List Call) (xs : List ℕ) (now : ℕ)
      → IsSelected sizes stations ms age xs now (before calls)
      → IsExchanged stations sizes ms age calls xs now
  is_exchanged calls xs now is = record {
    select = z.octets;
    came = z.came;
    wall = b.wall;
    earlier = b.earlier;
    selecting = b.selecting;
    is_its = record {
      target = standing_is_one xs (before calls) z is.stands;
      received = is.received;
      element = is.element;
      test = is.test;
    };
    forwarded = b.forwarded;
    waiting = s.waiting;
    waits = s.waits;
    in_turn = s.in_turn ∙ b.place;
    on_line = t.on_line;
    stands = s.stands;
    accepted = c.accepted;
    awaits = t.awaits;
    answer = c.answer;
    con = is.moment;
    confirms = c.confirms;
    confirmed_in_time = ltb-true (is.moment - z.came) ms c.in_time;
    lasts = c.lasts;
    in_time = is.in_time;
  }
    where
      z : Select
      z = is.select

      b : Begun xs z calls
      b = begun xs calls z is.stands

      base : List Call
      base = Judge z.octets z.came b.wall ∷ b.earlier

      unsent : sent_count sizes stations ms age (station_of stations z.octets) (before base)
          ≤ z.place
      unsent =
          let few : _ = (run_holds sizes stations ms age b.earlier).keeps.queue.count
          (station_of stations z.octets) in
          let at : _ = b.place in
          omega (arith, few, at)

      c : Confirmation stations sizes ms age xs z base is.moment calls
      c = confirmation stations sizes ms age xs z base unsent is.moment calls b.goes_on is.confirmed

      t : Acceptance stations sizes ms age xs z base c.accepted
      t = acceptance stations sizes ms age xs z base unsent c.accepted c.goes_on c.taken

      s : Sending stations sizes ms age xs z base t.on_line
      s = sending stations sizes ms age xs z base unsent t.on_line t.goes_on t.there

  pub executes_are_exchanged : (calls : List Call) (xs : List ℕ) (now : ℕ) (wall : Option ℕ)
      → must_be_selected stations xs ≡ true → executes xs ≡ true
      → (judged xs now wall (after calls).state).0 ≡ None
      → IsExchanged stations sizes ms age calls xs now
  executes_are_exchanged calls xs now wall guarded executing passes =
      is_exchanged calls xs now
      (forwarded_is_selected calls xs now wall guarded executing passes)
