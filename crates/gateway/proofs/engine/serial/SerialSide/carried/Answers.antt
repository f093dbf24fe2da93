use Rattle.std.proofs.Common.{◌∙◌, List, None, map, ap}
use Rattle.link.specs.Primary.{Primary}
use Rattle.link.specs.declared.seat.ResumedStation.{ResumedStation}
use Rattle.link.specs.Carried.{reseated}
use Rattle.command.specs.State as tasks
use Rattle.command.specs.Carried as commands
use Rattle.gateway.specs.Config.{Settings}
use Rattle.gateway.specs.Setups.{link_of, info_of}
use Rattle.gateway.specs.Serial.{Serial}
use Rattle.gateway.specs.declared.counts.Tally.{Tally}
use Rattle.gateway.specs.Carried.{seats, places, newcomers_marked}
use Rattle.gateway.proofs.engine.serial.SerialSide.carried.Goals as goal

-- the parts, put together
abbrev with_parts : Primary → tasks.State → Tally → Serial
with_parts line commands counts =
    record { line = line; commands = commands; counts = counts; silent = None; gap = None }

-- the line, and commands, with these settings and stations
abbrev line_with : Settings → List ResumedStation → Primary → Primary
line_with now seats line = newcomers_marked seats (reseated (link_of now.line) seats line)

abbrev commands_with : Settings → List ResumedStation → tasks.State → tasks.State
commands_with now seats s = commands.carried (map info_of now.stations) now.line.sizes
    now.tcp.select_ms
    now.tcp.max_age_ms (places seats) s

pub returns : goal.returns
returns c =
    let now = c.args.now.now in
    let all : List ResumedStation = seats c.args.before.now now in
    let inside = c.side.inside in
    let there = c.deref.ensures.value ∙ c.in_ok-seats.ensures.all in
    let there_too = c.deref-2.ensures.value ∙ c.in_ok-seats.ensures.all in
    ap (λ (p : Primary). with_parts p c.in_ok-commands.commands inside.counts)
    (c.in_ok-line.ensures ∙ ap (λ (l : List ResumedStation). line_with now l inside.line) there)
    ∙ ap (λ (t : tasks.State). with_parts (line_with now all inside.line) t inside.counts)
    (c.in_ok-commands.ensures
    ∙ ap (λ (l : List ResumedStation). commands_with now l inside.commands)
    there_too)
    ∙ ap (λ (s : Serial). with_parts (line_with now all s.line) (commands_with now all s.commands)
    s.counts)
    (c.side.view_is ∙ c.start_links.ensures)
