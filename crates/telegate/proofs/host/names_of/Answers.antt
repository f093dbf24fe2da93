use Rattle.std.proofs.Common.{List, ℕ, ap, ◌∙◌}
use Rattle.std.specs.Prelude.{string_bytes}
use Rattle.settings.specs.declared.site.names.StationName.{StationName}
use Rattle.telegate.proofs.Called.{one_more}
use Rattle.telegate.proofs.host.names_of.Goals as goal

pub loop-station-preserved : goal.loop-station-preserved
loop-station-preserved c =
    one_more _ _ _ c.loop-station.station-index c.station-item.result
    c.loop-station.called.items c.push.new.self.items _ c.loop-station-test.true
    c.in_ok-push.ensures.items c.loop-station.invariant
    (ap (λ (name : List ℕ). (c.station-item.result.link, name)) c.as_str.ensures.value
    ∙ ap (λ (s : StationName). (s.link, string_bytes s.name)) c.station-item.is)
