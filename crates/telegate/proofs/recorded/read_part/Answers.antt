use Rattle.std.proofs.Common.{◌≡◌, Bool, true, List, ℕ, Option, ap, sym, subst, ◌∙◌}
use Rattle.record.specs.Lines.{event_lines}
use Rattle.traces.specs.Trace.{lines_of}
use Rattle.std.specs.Option.{option_copied}
use Rattle.telegate.specs.Parts.{IsPartRead}
use Rattle.telegate.proofs.PartLemmas.{trace_part}
use Rattle.telegate.proofs.RecordLemmas.{read_none, read_some}
use Rattle.telegate.proofs.recorded.read_part.Goals as goal
use Rattle.telegate.proofs.recorded.read_part.Goals.{in-Some+in_ok-put_events, in_default}

pub returns-then-not-as_record : goal.returns-then-not-as_record
returns-then-not-as_record c =
    subst (λ (b : Bool). IsPartRead b c.args.lines.now c.args.is_last c.args.lines.now)
    (sym c.if-not-as_record.true) (trace_part c.args.lines.now c.args.is_last)

pub returns : goal.returns
returns c =
    let lines : List ℕ = c.args.lines.now in
    let last : Bool = c.args.is_last in
    let found : Option (List ℕ) = option_copied c.part_of.result in
    let read : IsPartRead true lines last c.match-part_of.part.items =
    elim c.match-part_of.branch [
      | in-Some+in_ok-put_events w ↦
          read_some lines c.match-part_of.part.items last found c.part_of.ensures.last
          c.part_of.ensures.other w.in-Some.lines.now (ap option_copied w.in-Some.is)
          (subst (λ v. lines_of v.items ≡ event_lines (lines_of w.in-Some.lines.now))
          (sym w.part-is) w.in_ok-put_events.ensures)
      | in_default w ↦
          read_none lines c.match-part_of.part.items last found c.part_of.ensures.last
          c.part_of.ensures.other (ap option_copied w.in_default.is)
          (ap (λ v. v.items) w.part-is ∙ c.clear.ensures.items)
    ] in
    subst (λ (xs : List ℕ). IsPartRead c.args.as_record lines last xs)
    (sym c.as_slice.ensures.value)
    (subst (λ (b : Bool). IsPartRead b lines last c.match-part_of.part.items)
    (sym c.if-not-as_record.false) read)
