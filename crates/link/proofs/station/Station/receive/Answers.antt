use Rattle.std.proofs.Common.{sym, subst, ◌∙◌, ◌≡◌, None, length}
use Rattle.ft12.specs.declared.frame.Front.TheVariants.{Whole}
use Rattle.link.specs.Secondary.{Secondary, ReceivesOctets}
use Rattle.link.proofs.Frames.{not_received}
use Rattle.link.proofs.station.Station.receive.Goals as goal

pub returns-in_default-clause-arrived : goal.returns-in_default-clause-arrived
returns-in_default-clause-arrived c =
    subst (λ (s : Secondary). ReceivesOctets s c.args.octets.now None s) c.self.view_is
    (not_received _ c.args.octets.now c.front.result c.front.ensures.only
    (λ frame e. c.in_default.not-Whole frame (length c.args.octets.now) (sym e)))

pub returns-then-len-octets-clause-arrived : goal.returns-then-len-octets-clause-arrived
returns-then-len-octets-clause-arrived c =
    subst (λ (s : Secondary). ReceivesOctets s c.args.octets.now None s) c.self.view_is
    (not_received _ c.args.octets.now c.front.result c.front.ensures.only
    (λ frame e. let same : Whole frame (length c.args.octets.now)
    ≡ Whole c.in-Whole.frame c.in-Whole.len =
    e ∙ c.in-Whole.is in
    c.if-len-octets.true cc))
