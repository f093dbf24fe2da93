use Rattle.std.proofs.Common.{◌≡◌, ◌∙◌, [], ◌∷◌, refl, sym, ap, subst}
use Rattle.session.specs.Session.{is_open}
use Rattle.link.specs.Turns.{station_at}
use Rattle.link.specs.Carried.{awaits_command}
use Rattle.gateway.specs.Serial.{Serial}
use Rattle.gateway.specs.State.{State, with_serial, disconnected, IsBetweenSteps}
use Rattle.gateway.specs.Carried.{restarted}
use Rattle.gateway.specs.Log.{Restarted, Came}
use Rattle.gateway.specs.Phases.{Fresh}
use Rattle.gateway.specs.Agrees.{Agrees, IsClear}
use Rattle.gateway.proofs.Carrying as carrying
use Rattle.gateway.proofs.Carrying.{IsForOne}
use Rattle.gateway.proofs.Restarted.{IsLogged, after_restart, clear_after}
use Rattle.gateway.proofs.engine.Gateway.restart.Goals as goal

law : (c : goal.After-disconnect) → IsForOne
law c = record {
  done = c.giving_up_is_for_one_station.ensures.done;
  itself = c.giving_up_is_for_one_station.ensures.itself;
  others = c.giving_up_is_for_one_station.ensures.others;
  awaited = c.giving_up_is_for_one_station.ensures.awaited;
  number = c.giving_up_is_for_one_station.ensures.number;
  doubts = c.restarts_change_no_link.ensures.station;
  still = c.restarts_change_no_link.ensures.awaited;
  as_many = c.restarts_change_no_link.ensures.number;
}

logged : (c : goal.After-disconnect) → IsLogged
logged c = record {
  matches = c.giving_up_is_logged.ensures.all;
  doubted = c.giving_up_is_logged.ensures.doubted;
  reports = c.giving_up_is_logged.ensures.reports;
  gaps = c.giving_up_is_logged.ensures.gaps;
}

is : (c : goal.After-disconnect) → c.disconnect.new.self ≡ restarted c.args.self.now
is c = c.disconnect.ensures ∙ ap disconnected c.give_up_commands.ensures

pub returns-clause-state : goal.returns-clause-state
returns-clause-state c = is c

pub returns-clause-shut : goal.returns-clause-shut
returns-clause-shut c = ap (λ (s : State). is_open s.centre.session) (is c)

pub returns-clause-waiting : goal.returns-clause-waiting
returns-clause-waiting c = ap (λ (s : State). s.serial.commands.waiting) (is c)

pub returns-clause-selections : goal.returns-clause-selections
returns-clause-selections c = ap (λ (s : State). s.serial.commands.selections) (is c)

pub returns-clause-answers : goal.returns-clause-answers
returns-clause-answers c = ap (λ (s : State). s.serial.commands.answers) (is c)

pub returns-clause-done : goal.returns-clause-done
returns-clause-done c = λ k lt.
    ap (λ (s : State). awaits_command s.serial.line k) (is c)
    ∙ carrying.done (law c) c.args.self.now.serial k lt

pub returns-clause-down : goal.returns-clause-down
returns-clause-down c = λ k lt e.
    ap (λ (s : State). station_at s.serial.line.stations k) (is c)
    ∙ carrying.down (law c) c.args.self.now.serial k lt e

pub returns-clause-others : goal.returns-clause-others
returns-clause-others c = λ k lt e.
    ap (λ (s : State). station_at s.serial.line.stations k) (is c)
    ∙ carrying.others (law c) c.args.self.now.serial k lt e

pub returns-clause-unchanged : goal.returns-clause-unchanged
returns-clause-unchanged c = λ none.
    is c ∙ ap (λ (t : Serial). disconnected (with_serial t c.args.self.now))
    (carrying.kept (law c) c.args.self.now.serial none)

pub returns-clause-follows : goal.returns-clause-follows
returns-clause-follows c = λ p log h rest.
    let s : State = c.args.self.now in
    subst (λ (t : State). Agrees p t (Came s.moment Restarted ∷ log) [] Fresh × IsClear t)
    (sym (is c)) (after_restart (logged c) (law c) p s log rest h.0, clear_after s)

pub returns-clause-between : goal.returns-clause-between
returns-clause-between c = λ between.
    let s : State = c.args.self.now in
    subst IsBetweenSteps (sym (is c)) (record {
      silent = carrying.silent s.serial ∙ between.silent;
      gap = carrying.gap s.serial ∙ between.gap;
      arrived = refl;
    })
