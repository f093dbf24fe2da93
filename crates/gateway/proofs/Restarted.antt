-- A restart keeps the agreement of state and log: it gives up each command without an answer, and
-- ends the connection.
use Rattle.std.proofs.Common.{◌≡◌, ℕ, false, true, List, [], ◌++◌, ◌∷◌, None, max}
use Rattle.std.proofs.Common.{min}
use Rattle.std.proofs.Common.{refl, ap, sym, subst, ◌∙◌, le_refl}
use Rattle.std.specs.List.{flat_map}
use Rattle.std.proofs.Math.Nat.{max-eq_left, min-eq_left}
use Rattle.ft12.specs.declared.frame.LinkSize.{LinkSize}
use Rattle.ft12.specs.Fronts.{front_of}
use Rattle.link.specs.declared.settings.LinkSettings.{LinkSettings}
use Rattle.link.specs.Exchanges.{Exchanges, reports_of_exchanges}
use Rattle.link.specs.Gaps.{gaps_at}
use Rattle.link.specs.Primary.{Primary}
use Rattle.link.specs.Matching.{Matches}
use Rattle.link.specs.Carried as line
use Rattle.link.specs.Carried.{commands_given_up}
use Rattle.session.specs.Session as session
use Rattle.events.specs.Queue as queue
use Rattle.gateway.specs.Log.{Log, Restarted, Came, latest, last_moment}
use Rattle.gateway.specs.Frames.{AreInOrder}
use Rattle.gateway.specs.Gaps.{gaps_reported, gap_for}
use Rattle.gateway.specs.Objects.{monitor_objects, pieces_of_report}
use Rattle.gateway.specs.Connections.{no_channel, present}
use Rattle.gateway.specs.Reports.{Setup, address_at, exchanges_of, reports_in, parts_of_all}
use Rattle.gateway.specs.Serial.{Serial, cut}
use Rattle.gateway.specs.Carried.{without_commands, restarted}
use Rattle.gateway.specs.State.{State}
use Rattle.gateway.specs.Works.{restarted_works}
use Rattle.gateway.specs.Course.{Course, ended_course, room_in, Runs}
use Rattle.gateway.specs.Phases.{Fresh, resting}
use Rattle.gateway.specs.Traffic.{HasRested}
use Rattle.gateway.specs.Agrees.{Agrees, Talks, Carries, IsClear}
use Rattle.gateway.proofs.Restarting.{restarted_serial, restarted_due, restarted_gap, done_due}
use Rattle.gateway.proofs.Talking.{kept_talk, talk_cut, all_taken}
use Rattle.gateway.proofs.Closing.{Ended, ended, fresh, stands_now}
use Rattle.gateway.proofs.Moments.{latest_is_greatest}
use Rattle.gateway.proofs.Learning.{left_of, at_rest_works, is_left, none_left}
use Rattle.gateway.proofs.Carrying.{IsForOne, line_is, gap}

-- what giving up commands leaves of the line's exchanges, as `giving_up_is_logged` says it
pub record IsLogged : Type 0 where
  pub matches : (settings : LinkSettings) (addresses : List ℕ) (q : Primary) (e : Exchanges)
      → Matches settings addresses q e
      → Matches settings addresses (line.without_commands q)
      (commands_given_up settings (front_of settings.size) addresses e)
  pub doubted : (settings : LinkSettings) (addresses : List ℕ) (q : Primary) (e : Exchanges)
      → Matches settings addresses q e → Matches settings addresses (line.doubted q) e
  pub reports : (settings : LinkSettings) (size : LinkSize) (addresses : List ℕ) (address : ℕ → ℕ)
      (e : Exchanges)
      → reports_of_exchanges (front_of size) address
      (commands_given_up settings (front_of size) addresses e)
      ≡ reports_of_exchanges (front_of size) address e
  pub gaps : (settings : LinkSettings) (size : LinkSize) (addresses : List ℕ) (e : Exchanges)
      (station : ℕ)
      → gaps_at (front_of size) addresses station
      (commands_given_up settings (front_of size) addresses e)
      ≡ gaps_at (front_of size) addresses station e

module _ (logged : IsLogged) (law : IsForOne) (p : Setup) (s : State) (log : Log)
    (rest : HasRested p log) (a : Agrees p s log [] (resting log)) where
  abbrev new : Log
  new = Came s.moment Restarted ∷ log

  abbrev left : Course
  left = left_of p log a.course

  -- the course without a connection
  abbrev over : Course
  over = ended_course (present log).is_open (restarted_works left.works) left

  does : (restarted s).serial ≡ over.works.serial
  does = ap (λ (t : Serial). cut (without_commands t)) (at_rest_works p s log a)
      ∙ sym (ap cut (restarted_serial left.works))

  -- it is the moment of the step before
  same_moment : latest new ≡ latest log
  same_moment = ap (λ m. max (latest log) (min m last_moment)) a.clock
      ∙ ap (max (latest log)) (min-eq_left (latest_is_greatest p log a.before.acts).counts)
      ∙ max-eq_left (le_refl (latest log))

  runs : Runs p new over
  runs = (
    a.course,
    left,
    a.talk.course_runs,
    all_taken log a.course a.here.so_far a.here.joined a.here.waits,
    is_left p s log a,
    (same_moment, refl),
  )

  talk : Talks p (session.closed s.centre.session) new over
  talk = talk_cut p s.centre.session s.centre.session log new a.course over a.talk refl refl runs

  reported : reports_in p new ≡ reports_in p log
  reported = logged.reports p.link p.link.size p.addresses (address_at p.addresses)
      (exchanges_of p log)

  none_due : over.works.is_due ≡ false
  none_due = restarted_due left.works
      ∙ done_due (latest log) (room_in p log a.course) a.course.works

  no_gap : over.works.serial.gap ≡ None
  no_gap = restarted_gap left.works
      ∙ sym (ap (λ (t : Serial). t.gap) (at_rest_works p s log a)) ∙ none_left p s log a

  -- what the connection leaves
  end : Ended p s log a.course (present log)
  end = ended p s log [] (resting log) a (present log) None refl
      (stands_now p s log (resting log) a)

  pub after_restart : Agrees p (restarted s) new [] Fresh
  after_restart = record {
    k = a.k;
    sizes = a.sizes;
    places = a.places;
    clock = a.clock ∙ sym same_moment;
    wall = a.wall;
    settled = refl;
    found = a.found;
    line = subst (λ q. Matches p.link p.addresses q (exchanges_of p new)) (sym (line_is s.serial))
        (logged.doubted p.link p.addresses _ _
        (logged.matches p.link p.addresses s.serial.line (exchanges_of p log) a.line));
    course = over;
    talk = talk;
    stands = record {
      does = does;
      asks = (none_due, no_gap);
      phase_is = tt;
      placed = λ on. refl;
      answered = tt;
    };
    gaps = λ i. ap (λ g. gaps_reported i log ++ gap_for i g) (gap s.serial) ∙ a.gaps i
        ∙ sym (logged.gaps p.link p.link.size p.addresses (exchanges_of p log) i);
    plain = tt;
    here = fresh (restarted s).centre no_channel a.here.tied.small refl (λ h. refl) refl refl refl
        refl refl refl refl refl refl;
    left = refl;
    carries = subst (λ (rs : List (ℕ × List ℕ)).
        Carries (flat_map (λ r. monitor_objects p.sizes r.1) rs) (parts_of_all p.sizes rs)
        (flat_map (λ r. pieces_of_report p.sizes r.1) rs) over.earlier []
        (queue.rewound s.centre.queue).unsent) (sym reported) end.carries;
    before = record {
      are = end.are;
      orders = subst (λ (rs : List (ℕ × List ℕ)).
          AreInOrder (flat_map (λ r. monitor_objects p.sizes r.1) rs) over.earlier)
          (sym reported) end.orders;
      times = (kept_talk p _ _ _ talk, a.before.times);
      acts = a.before.acts;
      rests = (rest, a.before.rests);
    };
  }

-- no confirmation is due, and nothing may be sent
pub clear_after : (s : State) → IsClear (restarted s)
clear_after s = record {
  confirmed = refl;
  spent = λ may. let no : false ≡ true = may in cc;
}
