use Rattle.std.proofs.Common.{◌+◌, ℕ, List, option_map, min, sym, ap, ◌∙◌}
use Rattle.gateway.specs.Log.{Opened, CutOff, Ticked, WallIs, LineIn, TcpIn, last_moment}
use Rattle.gateway.specs.declared.settings.LineSettings.{LineSettings}
use Rattle.sim.specs.Calls.{line_event}
use Rattle.sim.specs.Played.{Simulated}
use Rattle.sim.proofs.Keeping.{entry_is}
use Rattle.sim.proofs.sim.Sim.next_entry.Goals as goal

pub returns-in-Wall-clause-event : goal.returns-in-Wall-clause-event
returns-in-Wall-clause-event c =
    entry_is c.args.self.now _ (WallIs c.in-Wall.number) c.after.result c.self.view_is
    (c.in-Wall.ensures _) c.after.ensures

pub returns-in-Cut-clause-event : goal.returns-in-Cut-clause-event
returns-in-Cut-clause-event c = entry_is c.args.self.now _ CutOff c.after-in-Cut.result
    c.self.view_is
    (c.in-Cut.ensures _) c.after-in-Cut.ensures

pub returns-in-Open-clause-event : goal.returns-in-Open-clause-event
returns-in-Open-clause-event c = entry_is c.args.self.now _ Opened c.after-in-Open.result
    c.self.view_is
    (c.in-Open.ensures _) c.after-in-Open.ensures

pub returns-in_ok-octets-in-Apdu-clause-event : goal.returns-in_ok-octets-in-Apdu-clause-event
returns-in_ok-octets-in-Apdu-clause-event c = entry_is c.args.self.now _
    (TcpIn c.in_ok-octets-in-Apdu.octets.items) c.after-in-Apdu.result c.self.view_is
    (ap (λ (l : List ℕ). TcpIn l) (c.in_ok-octets-in-Apdu.ensures.items ∙ c.deref.ensures.0)
    ∙ c.in-Apdu.ensures _) c.after-in-Apdu.ensures

pub returns-in_ok-octets-in-Some-clause-event : goal.returns-in_ok-octets-in-Some-clause-event
returns-in_ok-octets-in-Some-clause-event c = entry_is c.args.self.now _
    (LineIn c.in_ok-octets-in-Some.octets.items) c.after-in-Some.result c.self.view_is
    (ap (λ (l : List ℕ). LineIn l) (c.in_ok-octets-in-Some.ensures.items
    ∙ c.deref-in-Some.ensures.0)
    ∙ sym (ap (λ w. line_event (option_map (λ v. v.items) w)) c.in-Some.is)
    ∙ c.in-Line.ensures _) c.after-in-Some.ensures

pub returns-in-None-clause-event : goal.returns-in-None-clause-event
returns-in-None-clause-event c = entry_is c.args.self.now _ Ticked c.after-in-None.result
    c.self.view_is
    (sym (ap (λ w. line_event (option_map (λ v. v.items) w)) c.in-None.is) ∙ c.in-Line.ensures _)
    (c.after-in-None.ensures ∙ ap (λ (n : ℕ). min (c.args.self.now.standing.moment + n) last_moment)
    (ap (λ (l : LineSettings). l.answer_ms) c.line.ensures
    ∙ ap (λ (v : Simulated). v.plan.answer_ms) c.self.view_is))
