-- What the settings set a gateway to, and the events of a run over stored entries.
use Rattle.std.specs.Prelude.{Bool, true, false, map}
use Rattle.gateway.specs.declared.settings.Silence.{Silence}
use Rattle.gateway.specs.declared.settings.Silence.TheVariants.{Hold, Reset}
use Rattle.link.specs.declared.settings.LinkSettings.{LinkSettings}
use Rattle.gateway.specs.declared.settings.LineSettings.{LineSettings}
use Rattle.session.specs.Runs as session
use Rattle.gateway.specs.declared.settings.TcpSettings.{TcpSettings}
use Rattle.command.specs.declared.station.StationInfo.{StationInfo}
use Rattle.gateway.specs.declared.settings.StationSettings.{StationSettings}
use Rattle.gateway.specs.Config.{Settings}
use Rattle.gateway.specs.Reports.{Setup}

abbrev pub holds : Silence → Bool
holds Hold = true
holds Reset = false

abbrev pub link_of : LineSettings → LinkSettings
link_of l = record {
  size = l.link;
  answer_ms = l.answer_ms;
  retries = l.retries;
  hold = holds l.silence;
  burst = l.burst;
}

abbrev pub session_of : TcpSettings → session.Settings
session_of t = record { k = t.k; w = t.w; t1 = t.t1_ms; t2 = t.t2_ms; t3 = t.t3_ms }

abbrev pub info_of : StationSettings → StationInfo
info_of s = record { ca = s.ca; select = s.select }

abbrev pub setup_of : Settings → Setup
setup_of c = record {
  link = link_of c.line;
  addresses = map (λ s. s.address) c.stations;
  sizes = c.line.sizes;
  places = c.line.queue;
  session = session_of c.tcp;
  stations = map info_of c.stations;
  select_ms = c.tcp.select_ms;
  max_age_ms = c.tcp.max_age_ms;
}
