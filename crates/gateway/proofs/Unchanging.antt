-- A gateway keeps its settings.
use Rattle.std.proofs.Common.{◌≡◌, [], sym, ap, subst, ◌∙◌}
use Rattle.std.proofs.lemmas.List.{length-map}
use Rattle.session.specs.Runs.{Run as SessionRun, run}
use Rattle.session.specs.Restored.{HasSettings as HasSessionSettings}
use Rattle.session.specs.Session.{Session}
use Rattle.session.proofs.Keeps.{run_keeps}
use Rattle.command.specs.CommandLaws.{CommandLaws}
use Rattle.command.specs.Restored.{HasSettings as HaveCommandSettings}
use Rattle.gateway.specs.declared.settings.StationSettings.{StationSettings}
use Rattle.gateway.specs.Config.{Settings}
use Rattle.gateway.specs.Setups.{setup_of}
use Rattle.gateway.specs.Log.{Log}
use Rattle.gateway.specs.Reports.{Setup}
use Rattle.gateway.specs.Serial.{Serial}
use Rattle.gateway.specs.Works.{Works, tasks_of}
use Rattle.gateway.specs.Course.{Course}
use Rattle.gateway.specs.Phases.{resting}
use Rattle.gateway.specs.State.{State}
use Rattle.gateway.specs.Agrees.{Agrees, Talks}
use Rattle.gateway.specs.Restored.{HasSettings}
use Rattle.gateway.proofs.Reached.{IsReached, left_reached}
use Rattle.gateway.proofs.Learning.{left_of, at_rest_works, is_left}

commands_set : CommandLaws → (p : Setup) (w : Works) → IsReached p w
    → HaveCommandSettings p.stations p.sizes p.select_ms p.max_age_ms w.serial.commands
commands_set laws p w h = record {
  same_stations = laws.stations p.stations p.sizes p.select_ms p.max_age_ms (tasks_of w) h;
  same_sizes = laws.sizes p.stations p.sizes p.select_ms p.max_age_ms (tasks_of w) h;
  same_select_ms = laws.select_ms p.stations p.sizes p.select_ms p.max_age_ms (tasks_of w) h;
  same_max_age_ms = laws.max_age_ms p.stations p.sizes p.select_ms p.max_age_ms (tasks_of w) h;
}

session_set : (p : Setup) (s : Session) (log : Log) (c : Course) → Talks p s log c
    → HasSessionSettings s p.session.k p.session.w p.session.t1 p.session.t2 p.session.t3
session_set p s log c k =
    let set = (run_keeps p.session k.calls k.timely.range).set in
    let same : (run p.session k.calls).session ≡ s = ap (λ (r : SessionRun). r.session) k.called in
    subst (λ (x : Session). HasSessionSettings x p.session.k p.session.w p.session.t1 p.session.t2
    p.session.t3) same
    (record { k_is = set.0; w_is = set.1; t1_is = set.2; t2_is = set.3; t3_is = set.4 })

works_set : CommandLaws → (p : Setup) (s : State) (log : Log) → Agrees p s log [] (resting log)
    → HaveCommandSettings p.stations p.sizes p.select_ms p.max_age_ms s.serial.commands
works_set laws p s log a =
    let left : Course = left_of p log a.course in
    subst (λ (x : Serial). HaveCommandSettings p.stations p.sizes p.select_ms p.max_age_ms
    x.commands)
    (sym (at_rest_works p s log a))
    (commands_set laws p left.works (left_reached p log a.course left a.talk.course_runs
    (is_left p s log a)))

pub settings_kept : CommandLaws → (c : Settings) (s : State) (log : Log)
    → Agrees (setup_of c) s log [] (resting log)
    → HasSettings c s
settings_kept laws c s log a = record {
  serial = record {
    line = a.line.settings_are;
    stations = a.line.count ∙ length-map c.stations (λ (x : StationSettings). x.address);
    commands = works_set laws (setup_of c) s log a;
  };
  centre = record {
    session = session_set (setup_of c) s.centre.session log a.course a.talk;
    places = a.places;
  };
  sizes = a.sizes;
}
