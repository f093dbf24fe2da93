use Rattle.std.proofs.Common.{ap, sym, ◌∙◌}
use Rattle.telegate.specs.Faults.{status_of_end}
use Rattle.telegate.proofs.Performed.{performs_as}
use Rattle.telegate.proofs.performing.perform.Goals as goal

pub returns-in-Show101 : goal.returns-in-Show101
returns-in-Show101 g c = performs_as c.in-Show101.is
    (record { answer = c.show101.result; answered = c.show101.ensures; given = c.give.ensures })

pub returns-in-Show104 : goal.returns-in-Show104
returns-in-Show104 g c = performs_as c.in-Show104.is
    (record {
      answer = c.show104.result;
      answered = c.show104.ensures;
      given =
          c.give-in-Show104.ensures;
    })

pub returns-in-Ok : goal.returns-in-Ok
returns-in-Ok g c = performs_as c.in-Sim.is (record {
  result = c.simulate.result;
  ran = c.simulate.ensures.answer;
  status = sym (ap status_of_end c.in-Ok.is);
})

pub returns-in-Err : goal.returns-in-Err
returns-in-Err g c = performs_as c.in-Sim.is (record {
  result = c.simulate.result;
  ran = c.simulate.ensures.answer;
  status = c.write_fault.ensures ∙ sym (ap status_of_end c.in-Err.is);
})
