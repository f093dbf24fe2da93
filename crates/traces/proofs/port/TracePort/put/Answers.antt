use Rattle.std.proofs.Common.{Some, ap, sym, ◌∙◌, ◌++◌, ◌∷◌, reverse}
use Rattle.gateway.specs.Log.{Log, Went, events_of}
use Rattle.gateway.specs.Ports.{output_of}
use Rattle.traces.specs.Traced.{Traced, coming, whole_script}
use Rattle.traces.proofs.TracedLemmas.{log_put, lines_put, on_success}
use Rattle.traces.proofs.port.TracePort.put.Goals as goal

-- the line went out whole, and the action is stored
pub invariant_of-self-2 : goal.invariant_of-self-2
invariant_of-self-2 g c =
    let a = c.self.inside in
    let text = c.as_bytes.ensures.value ∙ c.in-Ok.ensures.line in
    record {
      fits = c.self.invariant.fits;
      lines = λ good. lines_put _ (g.W.Write.contents a.out) _ a.log.items c.prepare.new.log.items _
          c.in-Ok.logged _
          c.args.now (output_of c.args.action.now) (c.self.invariant.lines good)
          (on_success _ _ (sym c.is_err.ensures.value ∙ c.if-is_err.false)
          c.write_all.ensures.bytes) text
          c.in-Ok.ensures.logged c.in-Ok.ensures.log c.push_reserved.ensures.items;
      sound = c.self.invariant.sound;
    }

pub returns-clause-logged : goal.returns-clause-logged
returns-clause-logged g c =
    let a = c.self.inside in
    let went = Went c.args.now (output_of c.args.action.now) in
    ap Some (log_put a.log.items c.prepare.new.log.items _ c.in-Ok.logged went
    c.in-Ok.ensures.logged
    c.in-Ok.ensures.log
    c.push_reserved.ensures.items ∙ ap (λ (t : Traced). went ∷ t.log) c.self.view_is)

pub returns-clause-script : goal.returns-clause-script
returns-clause-script g c =
    let a = c.self.inside in
    let went = Went c.args.now (output_of c.args.action.now) in
    let log = log_put a.log.items c.prepare.new.log.items _ c.in-Ok.logged went
    c.in-Ok.ensures.logged
    c.in-Ok.ensures.log
    c.push_reserved.ensures.items in
    ap (λ (l : Log). events_of l ++ coming a.is_started (reverse a.entries.items)) log
    ∙ ap whole_script c.self.view_is
