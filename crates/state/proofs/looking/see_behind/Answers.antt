use Rattle.std.proofs.Common.{◌≡◌, ◌∙◌, List, ℕ, Ok, ap, ap₂, drop, subst, sym}
use Rattle.segments.specs.Room.{damage_in, log_in}
use Rattle.gateway.specs.declared.settings.LineSettings.{LineSettings}
use Rattle.settings.specs.Settings.{IsReadOfText}
use Rattle.statetext.specs.Text.{lines_in}
use Rattle.state.specs.Beginnings.{IsRead}
use Rattle.state.specs.GivenUps.{given_up_by}
use Rattle.state.specs.Replays.{whole_lines}
use Rattle.state.specs.Sights.{AreCounted}
use Rattle.state.proofs.UnreadLemmas.{err_of}
use Rattle.state.proofs.looking.see_behind.Goals as goal

pub returns-clause-log : goal.returns-clause-log
returns-clause-log g c =
    let lines : List (List ℕ) =
    lines_in (drop c.args.opening.lines.at c.args.opening.lines.text.items) in
    let same : log_in c.replayed.new.start.at (g.D.Disk.seen c.replayed.new.start.newest)
    ≡ log_in c.args.start.now.at (g.D.Disk.seen c.args.start.now.newest) =
    ap₂ log_in c.replayed.ensures.same c.replayed.ensures.seen in
    let damage : damage_in c.replayed.new.start.at (g.D.Disk.seen c.replayed.new.start.newest)
    ≡ damage_in c.args.start.now.at (g.D.Disk.seen c.args.start.now.newest) =
    ap₂ damage_in c.replayed.ensures.same c.replayed.ensures.seen in
    record {
      number = c.requires.number;
      begins = c.args.start.now.at;
      lines = lines;
      head = c.requires.head;
      said = c.in_ok-arrived.ensures.said;
      wrote = c.in_ok-wrote.wrote;
      readable = subst (λ (text : List ℕ). IsReadOfText text (Ok c.in_ok-wrote.wrote))
          c.deref.ensures.value c.in_ok-wrote.ensures.read;
      counted = subst (λ (events : List ℕ). AreCounted (whole_lines events)
          c.in_ok-count.count.logged c.in_ok-count.count.all) same c.in_ok-count.ensures.counted;
      gap = c.in_ok-arrived.arrived.gap;
      whole = c.in_ok-arrived.arrived.before.entries;
      read = subst (λ (events : List ℕ). IsRead c.in_ok-wrote.wrote g.K.Lineage.log lines events
          c.in_ok-arrived.arrived.gap c.in_ok-arrived.arrived.before.entries
          c.in_ok-arrived.arrived.gateway) same
          (c.in_ok-arrived.ensures.read (c.requires.honest _));
      damaged = c.in_ok-arrived.ensures.damage (c.requires.honest _) ∙ damage;
      named = c.in-Ok.ensures
          ∙ ap (λ (l : LineSettings). given_up_by l.sizes c.in_ok-arrived.arrived.gateway)
          c.line.ensures;
    }

pub returns-in_err-wrote-clause-wrong : goal.returns-in_err-wrote-clause-wrong
returns-in_err-wrote-clause-wrong g c =
    err_of _ c.from_residual.result c.in_err-wrote.field-0.0 c.from_residual.ensures.1
    (λ wrong wrote read states. c.in_err-wrote.ensures.wrong wrong wrote
    (subst (λ (text : List ℕ). IsReadOfText text (Ok wrote)) (sym c.deref.ensures.value) read))

pub returns-in_err-count-clause-wrong : goal.returns-in_err-count-clause-wrong
returns-in_err-count-clause-wrong g c =
    err_of _ c.from_residual-in_err-count.result c.in_err-count.field-0.0
    c.from_residual-in_err-count.ensures.1
    (λ wrong wrote read states. c.in_err-count.ensures.fault wrong)
