use Rattle.std.proofs.Common.{sym, subst}
use Rattle.link.specs.Requests.{FitsFrame}
use Rattle.link.specs.Secondary.{Secondary}
use Rattle.link.proofs.Frames.{data_fits}
use Rattle.link.proofs.station.Station.give.Goals as goal

pub keep-requires : goal.keep-requires
keep-requires c =
    let r : FitsFrame c.self.inside.size c.args.report =
    subst (λ (s : Secondary). FitsFrame s.size c.args.report) (sym c.self.view_is) c.requires in
    let e = c.into_octets.ensures.octets in
    data_fits c.self.inside.size c.control.result c.self.inside.address c.into_octets.result.items
    c.control.type_inv
    c.self.invariant.address c.into_octets.ensures.small
    (subst (FitsFrame c.self.inside.size) (sym e) r)
