use Rattle.session.specs.History.{is_started}
use Rattle.std.proofs.Common.{◌∙◌, Bool, Some, None, refl, ap}
use Rattle.std.specs.Prelude.{if◌then◌else◌}
use Rattle.gateway.proofs.OneCause.{came_transfers}
use Rattle.delivery.proofs.Heeded.{Laws, heeded}
use Rattle.delivery.proofs.passed_on.answers_of_stations_are_heeded.Goals as goal

pub returns-clause-types : goal.returns-clause-types
returns-clause-types c = (refl, (refl, (refl, (refl, (refl, (refl, tt))))))

pub returns-clause-heard : goal.returns-clause-heard
returns-clause-heard c = λ station asdu code.
    ap (λ (b : Bool). if b then Some asdu.items else None) code

pub returns-clause-heeded : goal.returns-clause-heeded
returns-clause-heeded c = λ p log at octets d r.
    let laws : Laws = record {
      types = c.answers_have_the_types_of_commands.ensures.types;
      objects = c.objects_are_those_of_the_asdu.ensures.objects;
      kind = c.octets_stand_where_the_standard_has_them.ensures.kind;
      one = c.each_answer_is_given_once.ensures.one;
      more = c.each_answer_is_given_once.ensures.more;
    } in
    let due = c.what_is_due_is_given.ensures.stations p log at octets d r in (
      due.0,
      due.1,
      due.2,
      due.3,
      heeded laws p (is_started due.1.talk) _ _ due.1.works.history d.works.history
          (λ on. due.4 (came_transfers due.1.talk ∙ on))
          (λ off. due.5 (came_transfers due.1.talk ∙ off)),
    )
