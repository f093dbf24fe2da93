use Rattle.delivery.proofs.Through.{let_through}
use Rattle.delivery.proofs.selecting.selects_let_their_execute_through.Goals as goal

pub returns : goal.returns
returns c = λ p log course newer later between stood waited earlier now came con wall clock xs ys
    octets answer confirmation runs is t executing faultless asks places.
    let keeps = c.courses_keep_commands.ensures p log course runs in
    let_through p course.works.history keeps.passes keeps.answered newer later between stood waited
    earlier now came con wall clock xs ys octets answer confirmation is t executing faultless asks
    places
