use Rattle.std.proofs.Common.{◌∙◌, ap, map}
use Rattle.traces.specs.Event.{event_of}
use Rattle.state.proofs.Repeated.{announced_first}
use Rattle.state.proofs.replaying.announce_line.Goals as goal

pub returns-in-len1-up : goal.returns-in-len1-up
returns-in-len1-up c =
    announced_first c.args.line.now c.as_slice.result.now c.entry-item.result c.announce.result
    c.announce.new.buf
    c.in-len1-up.len_at_least c.entry-item.is c.requires
    (ap (map event_of) c.as_slice.ensures.value ∙ c.in-Ok.ensures.entries.1) c.announce.ensures
