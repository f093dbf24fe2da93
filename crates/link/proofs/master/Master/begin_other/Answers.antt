use Rattle.std.proofs.Common.{◌≡◌, subst, rules}
use Rattle.link.specs.Turns.{Wanted, station_at, wished}
use Rattle.link.specs.Requests.{FitsAsked}
use Rattle.link.specs.Primary.{Primary}
use Rattle.link.specs.Holding.{IsFitting}
use Rattle.link.proofs.Fitting.{station_fits, held_fits}
use Rattle.link.proofs.master.Master.begin_other.Goals as goal

pub begin-requires : goal.begin-requires
begin-requires g c =
    let fits = subst (λ (p : Primary). IsFitting p) c.self.view_is c.self.invariant.fits in
    let size = c.args.self.now.settings.size in
    let stations = c.args.self.now.stations in (
      c.requires.in_range,
      (station_fits size stations c.args.station c.requires.in_range fits.stations).address,
      c.wanted-wanted.ensures.fits size (held_fits size stations c.args.station
          c.nth_station.result.now c.requires.in_range fits.stations (search rules)),
    )

pub returns-clause-fits : goal.returns-clause-fits
returns-clause-fits g c =
    let fits = subst (λ (p : Primary). IsFitting p) c.self.view_is c.self.invariant.fits in
    let size = c.args.self.now.settings.size in
    let is : c.wanted-wanted.result
    ≡ wished (station_at c.args.self.now.stations c.args.station)
    (g.U.LinkUser.waiting c.args.user.now c.args.station) c.args.wish = search rules in
    subst (λ (w : Wanted). FitsAsked size w.request) is
    (c.wanted-wanted.ensures.fits size (held_fits size c.args.self.now.stations c.args.station
    c.nth_station.result.now c.requires.in_range fits.stations (search rules)))
