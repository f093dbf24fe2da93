use Rattle.std.proofs.Common.{List, ℕ, subst}
use Rattle.std.specs.Io.KnownBytes.{Appends}
use Rattle.telegate.specs.Closing.{closing_lines}
use Rattle.telegate.proofs.size_laws.frames_are_read_in_the_sizes_of_the_settings.Goals as goal

pub returns-clause-replays : goal.returns-clause-replays
returns-clause-replays c config octets is_coloured closing old new h =
    let run = h.end.run in (
      h.settings,
      h.read_config,
      run.log,
      run.lines,
      closing_lines closing.left closing.counts run.state,
      run.written,
      subst (λ (t : List ℕ). Appends old new t) run.joined h.end.printed,
    )

pub returns-clause-sims : goal.returns-clause-sims
returns-clause-sims c config script is_coloured old new h =
    (h.settings, h.read_config, h.so.log, h.so.words, h.so.closing, h.so.written, h.so.printed)

pub returns-clause-captures : goal.returns-clause-captures
returns-clause-captures c config octets old new h = (h.settings, h.read_config, h.so)

pub returns-clause-wrong : goal.returns-clause-wrong
returns-clause-wrong c config octets old new line h = (h.settings, h.read_config, h.so)
