use Rattle.std.proofs.Common.{rules, refl}
use Rattle.gateway.specs.Centre.{next_frame}
use Rattle.gateway.proofs.engine.serial.SerialSide.write_own.Goals as goal

pub returns-clause-some : goal.returns-clause-some
returns-clause-some c =
    let asdu = c.in_ok-asdu.asdu.now in
    rw (← c.self.view_is) (record {
      frame = next_frame c.args.centre.now.session asdu;
      holds = record {
        may = search rules;
        asdu = asdu;
        first = c.in_ok-asdu.ensures.some;
        frame = refl;
        fits = c.write_own-count.ensures.fits;
        fewer = search rules;
        sent = c.write_own-count.ensures.state;
      };
      spelled = c.write_own-count.ensures.frame;
    })
