use Rattle.settings.specs.Site.{names_of}
use Rattle.telegate.specs.Wishes.{said_by}
use Rattle.telegate.proofs.Wished.{can_be, unfit}
use Rattle.telegate.proofs.wishes.judge_site.Goals as goal

pub returns-in-Ok-wishes_of : goal.returns-in-Ok-wishes_of
returns-in-Ok-wishes_of c =
    can_be (said_by c.none.result) c.args.octets.now c.in-Ok.site (names_of c.in-Ok.site.names)
    c.in-Ok-wishes_of._wishes c.none.ensures c.in-Ok.ensures c.in-Ok-wishes_of.ensures.wishes

pub returns-in-Ok : goal.returns-in-Ok
returns-in-Ok c =
    unfit (said_by c.none.result) c.args.octets.now c.in-Ok.site c.in-Err-wishes_of.fault
    c.none.ensures
    c.in-Ok.ensures c.in-Err-wishes_of.ensures.fault
