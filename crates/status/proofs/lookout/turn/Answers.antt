use Rattle.std.proofs.Common.{List, ◌∙◌, ap, map, subst, sym, take}
use Rattle.runlog.specs.declared.note.LogLine.{LogLine}
use Rattle.status.specs.Shown.{AreEvents, AreRows, chosen_as, viewed_as}
use Rattle.status.specs.declared.lookout.known.Known.{Known}
use Rattle.status.specs.declared.lookout.setting.ChosenSetting.{ChosenSetting}
use Rattle.status.specs.declared.snapshot.EventView.{EventView}
use Rattle.status.specs.declared.snapshot.Setting.{Setting}
use Rattle.status.specs.declared.snapshot.StationView.{StationView}
use Rattle.status.proofs.lookout.turn.Goals as goal

pub returns : goal.returns
returns g c = (
  record c.snapshot_of.result {
    stations = c.as_slice-3.result;
    settings = c.as_slice-4.result;
    latest = c.as_slice-5.result;
  },
  record {
    numbers = record {
      version = c.snapshot_of.ensures.version;
      now_ms = c.snapshot_of.ensures.now_ms;
      started = c.snapshot_of.ensures.started;
      wall = c.snapshot_of.ensures.wall;
      name = c.snapshot_of.ensures.name;
      there = c.snapshot_of.ensures.there;
      was = c.snapshot_of.ensures.was;
      since = c.snapshot_of.ensures.since;
      cause = c.snapshot_of.ensures.cause;
      centre = c.snapshot_of.ensures.centre;
      taken = c.snapshot_of.ensures.taken;
      places = c.snapshot_of.ensures.places;
      oldest = c.snapshot_of.ensures.oldest;
      hour = c.snapshot_of.ensures.hour;
      keeping = c.snapshot_of.ensures.keeping;
      lost_by = c.snapshot_of.ensures.lost_by;
      syncs = c.snapshot_of.ensures.syncs;
    };
    rows = subst
        (λ (rows : List StationView). AreRows 32 c.args.shown.now.known.items
        c.args.watch.now.stations c.args.watch.now.traffic rows)
        (sym c.as_slice-3.ensures.value)
        (subst
        (λ (known : List Known). AreRows 32 known c.args.watch.now.stations
        c.args.watch.now.traffic c.rows_of-rows.result.items)
        c.as_slice.ensures.value c.rows_of-rows.ensures);
    latest = subst (λ (l : List EventView). AreEvents (take 20 c.args.watch.now.latest) l)
        (sym c.as_slice-5.ensures.value)
        (subst (λ (l : List LogLine). AreEvents (take 20 l) c.events_of-latest.result.items)
        c.latest.ensures c.events_of-latest.ensures);
    settings = ap (λ (l : List Setting). map viewed_as l) c.as_slice-4.ensures.value
        ∙ c.settings_of-settings.ensures
        ∙ ap (λ (l : List ChosenSetting). take 16 (map chosen_as l)) c.as_slice-2.ensures.value;
  },
  c.turn.ensures.turned,
)
