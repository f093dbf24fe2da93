use Rattle.std.proofs.Common.{rules, refl, ap, subst, ◌∙◌, drop}
use Rattle.apci.specs.declared.apdu.Apdu.TheVariants.{I}
use Rattle.apci.specs.Spelling.{spelling, Fits}
use Rattle.gateway.specs.Centre.{next_frame}
use Rattle.gateway.proofs.engine.centre.CentreSide.write_report.Goals as goal

pub returns-clause-some : goal.returns-clause-some
returns-clause-some c =
    let s = c.self.inside in
    let asdu = c.in_ok-asdu.asdu.now in
    let numbers = c.sent-ns.ensures.numbers in
    rw (← c.self.view_is) (record {
      frame = next_frame s.session asdu;
      holds = record {
        may = search rules;
        asdu = asdu;
        rest = drop 1 s.queue.unsent;
        first = c.in_ok-asdu.ensures.some;
        frame = refl;
        fits = subst (λ p. Fits (I p.0 p.1 (record { items = asdu }))) numbers
            c.write_information-count.ensures.fits;
        after = search rules;
      };
      spelled = c.write_information-count.ensures.spelled
          ∙ ap (λ p. spelling (I p.0 p.1 (record { items = asdu }))) numbers;
    })
