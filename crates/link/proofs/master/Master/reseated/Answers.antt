use Rattle.std.proofs.Common.{◌≡◌, ◌∙◌, ◌++◌, ◌∷◌, [], List, get_or, None, sym, ap, subst, rules}
use Rattle.std.specs.List.{All}
use Rattle.std.proofs.lemmas.List.Elements.{All-append, All-cons, All-nil}
use Rattle.link.specs.Turns.{StationState}
use Rattle.link.specs.Primary.{Primary}
use Rattle.link.specs.Holding.{FitsStation}
use Rattle.link.specs.declared.seat.ResumedStation.{ResumedStation}
use Rattle.link.specs.Carried.{seated}
use Rattle.link.proofs.GivenUp.{one_more}
use Rattle.link.proofs.master.Master.reseated.Goals as goal

pub loop-seat-preserved : goal.loop-seat-preserved
loop-seat-preserved c =
    let P : StationState → Type 0 = FitsStation c.args.settings.size in
    let d = c.push.ensures.items in
    let e = c.map_err.ensures in
    let items : c.push.new.self.items ≡ c.loop-seat.stations.items ++ c.seated-station.result ∷ [] =
    search rules in
    let before : All (FitsStation c.self.inside.settings.size) c.deref.result.now =
    subst (λ (l : List StationState). All (FitsStation c.self.inside.settings.size) l)
    (sym c.deref.ensures.value)
    c.self.invariant.fits.stations in
    let i = c.loop-seat.seat-index in
    let there : c.deref.result.now ≡ c.args.self.now.stations =
    c.deref.ensures.value ∙ ap (λ (p : Primary). p.stations) c.self.view_is in
    let seat : ResumedStation = get_or c.args.seats.now i (record { address = 0; before = None }) in
    record {
      stations = items
          ∙ one_more (λ (s : ResumedStation). seated c.args.settings.retries s.address
          c.args.self.now.stations s.before)
          c.args.seats.now i (record { address = 0; before = None }) c.loop-seat.stations.items
          c.seated-station.result c.loop-seat-test.true
          c.loop-seat.invariant.stations
          (c.seated-station.ensures.same
          ∙ ap (λ (l : List StationState). seated c.args.settings.retries seat.address l
          seat.before) there);
      fit = subst (λ (l : List StationState). All P l) (sym items)
          (All-append P c.loop-seat.stations.items (c.seated-station.result ∷ [])
          c.loop-seat.invariant.fit
          (All-cons P c.seated-station.result []
          (c.seated-station.ensures.fits c.self.inside.settings.size c.args.settings.size before
          (c.requires.fit i (record { address = 0; before = None }) c.loop-seat-test.true))
          (All-nil P)));
    }
