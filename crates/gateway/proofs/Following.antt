-- Each step follows its log, if a port gives one.
use Rattle.std.proofs.Common.{◌≡◌, ℕ, ◌+◌, Bool, true, false, List, [], ◌∷◌}
use Rattle.std.proofs.Common.{length, refl, ap, sym, ◌∙◌, subst, arith, Option, Some, None}
use Rattle.std.proofs.Common.{length-append}
use Rattle.std.specs.Prelude.{IfSome, option_map}
use Rattle.std.specs.Bool.{OnTrue}
use Rattle.session.specs.Ends.{IsConfirmed}
use Rattle.gateway.specs.Log.{Log, LogEntry, events_of, Input, Restarted, latest}
use Rattle.gateway.specs.Log.{Came, with_news}
use Rattle.gateway.specs.Connections.{present}
use Rattle.gateway.specs.Reports.{Setup}
use Rattle.gateway.specs.Course.{Course, room_in, Runs}
use Rattle.gateway.specs.Phases.{Fresh, Asked, IsFresh, resting}
use Rattle.link.specs.LineLaws.{LineLaws}
use Rattle.gateway.specs.Runs.{events_logged, MoreEvents}
use Rattle.gateway.specs.State.{State}
use Rattle.gateway.specs.Agrees.{Agrees, Tracks, Leaves}
use Rattle.gateway.specs.Agrees.{Follows, HasCome, Rests, IsClear, IsSpent}
use Rattle.gateway.proofs.Restarting.{restarted_due, done_due}
use Rattle.gateway.proofs.Learning.{done_fresh}

-- Runs

-- if nothing has come, or not since a restart, nothing is due
pub fresh_due : (p : Setup) (log : Log) (c : Course) → IsFresh log → Runs p log c
    → c.works.is_due ≡ false
fresh_due p [] c fresh r = ap (λ (d : Course). d.works.is_due) r
fresh_due p (Came now Restarted ∷ log) c fresh r = ap (λ (d : Course). d.works.is_due) r.5.1
    ∙ restarted_due r.1.works ∙ ap (λ (d : Course). d.works.is_due) r.4.is
    ∙ done_due (latest log) (room_in p log r.0) r.0.works
fresh_due p (entry ∷ log) c fresh r = absurd fresh

-- and no connection is open
pub fresh_shut : (log : Log) → IsFresh log → (present log).is_open ≡ true → ⊥
fresh_shut [] fresh on = let no : false ≡ true = on in cc
fresh_shut (Came now Restarted ∷ log) fresh on = let no : false ≡ true = on in cc
fresh_shut (entry ∷ log) fresh on = fresh

-- so what is done behind a step is done there, too
started : (p : Setup) (s : State) (log : Log) → IsFresh log → Agrees p s log [] Asked
    → Agrees p s log [] Fresh
started p s log fresh a =
    let none : a.course.works.is_due ≡ false =
    fresh_due p log a.course fresh a.talk.course_runs in
    record {
      k = a.k;
      sizes = a.sizes;
      places = a.places;
      clock = a.clock;
      wall = a.wall;
      settled = a.settled;
      found = a.found;
      line = a.line;
      course = a.course;
      here = a.here;
      left = a.left;
      talk = a.talk;
      stands = record {
        does = a.stands.does
            ∙ done_fresh (latest log) (room_in p log a.course) a.course.works none;
        asks = (none, a.stands.asks.2);
        phase_is = fresh;
        placed = a.stands.placed;
        answered = tt;
      };
      gaps = a.gaps;
      plain = a.plain;
      carries = a.carries;
      before = a.before;
    }

at_rest : (p : Setup) (s : State) (log : Log) → Agrees p s log [] Asked
    → Agrees p s log [] (resting log)
at_rest p s [] a = started p s [] tt a
at_rest p s (Came now Restarted ∷ log) a = started p s (Came now Restarted ∷ log) tt a
at_rest p s (entry ∷ log) a = a

pub follows : (laws : LineLaws) (p : Setup) (logged : Option Log) (s : State) → IsClear s
    → Tracks p s logged [] Asked
    → Follows p s logged
follows laws p None s last h = tt
follows laws p (Some log) s last a = (at_rest p s log a, last)

pub step_follows : (laws : LineLaws) (p : Setup) (result : Bool) (logged : Option Log) (s : State)
    → OnTrue result (IsConfirmed s.centre.session) → OnTrue result (IsSpent s)
    → Leaves result p s logged [] Asked
    → OnTrue result (Follows p s logged)
step_follows laws p true logged s last spent h =
    follows laws p logged s (record { confirmed = last; spent = spent }) h
step_follows laws p false logged s last spent h = tt

-- an event that a port gave has come
pub come : (p : Setup) (logged after : Option Log) (s : State) (now : ℕ) (event : Input)
    (news : List LogEntry)
    → after ≡ with_news logged news → news ≡ Came now event ∷ [] → Follows p s logged
    → Rests p logged
    → IfSome after (HasCome p s now event)
come p None after s now event news e is h rest = subst (λ l. IfSome l (HasCome p s now event))
    (sym e) tt
come p (Some log) after s now event news e is h rest =
    subst (λ l. IfSome l (HasCome p s now event)) (sym (e ∙ ap (λ n. with_news (Some log) n) is))
    (record { before = log; is = refl; agrees = h.0; clear = h.1; rested = rest })

-- and is one event more
pub more_events : (n now : ℕ) (event : Input) (news : List LogEntry)
    (first logged after last : Option Log)
    → MoreEvents n first logged → after ≡ with_news logged news → news ≡ Came now event ∷ []
    → events_logged last ≡ events_logged after → MoreEvents (n + 1) first last
more_events n now event news first logged after last h e is same =
    ap (option_map length) (same ∙ ap events_logged (e ∙ ap (with_news logged) is))
    ∙ by_logs first logged h
  where
    by_logs : (first logged : Option Log) → MoreEvents n first logged
        → option_map length (events_logged (with_news logged (Came now event ∷ [])))
        ≡ option_map (λ (events : List LogEntry). length events + (n + 1)) (events_logged first)
    by_logs None None h = refl
    by_logs None (Some log) h = cc
    by_logs (Some log) None h = cc
    by_logs (Some first) (Some log) h =
        let count : ℕ = length (events_of log) in
        let was : count ≡ length (events_of first) + n = ap value h in
        ap Some (omega (arith, length-append (events_of log) (Came now event ∷ []), was))
      where
        value : Option ℕ → ℕ
        value None = 0
        value (Some k) = k
