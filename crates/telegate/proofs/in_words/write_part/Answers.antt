use Rattle.std.proofs.Common.{◌≡◌, true, Some, None, sym, subst, ap, inl, inr, ◌∙◌, ◌++◌}
use Rattle.gateway.specs.Accounts.{IsAccounted}
use Rattle.gateway.specs.Agrees.{Follows}
use Rattle.gateway.specs.Log.{events_of}
use Rattle.gateway.specs.Traffic.{HasRested}
use Rattle.words.specs.Scribing.{Climbing, Scribing}
use Rattle.words.specs.Ladders.{IsLadder}
use Rattle.words.specs.declared.ladder.rungs.Style.{Style}
use Rattle.traces.specs.Progress.{Progress, coming_in, script_of, is_through}
use Rattle.traces.specs.Trace.{first_wrong, lines_of}
use Rattle.telegate.specs.Printed.{IsPoured}
use Rattle.telegate.proofs.PartLemmas.{part_run, standing_of, turns_left}
use Rattle.traces.proofs.Poured.{poured_begun}
use Rattle.telegate.proofs.RunLemmas.{at_finish}
use Rattle.telegate.proofs.InWordsLemmas.{writing_stopped}
use Rattle.telegate.proofs.in_words.write_part.Goals as goal

pub new-ladder-requires : goal.new-ladder-requires
new-ladder-requires g c = record {
  log = ap (λ (t : Progress). Some t.log) c.over.ensures ∙ ap Some (sym c.requires.written.log_is);
  healthy = ap (λ (t : Progress). t.failed) c.over.ensures ∙ c.requires.clear.healthy;
}

pub drive_in_words-end-requires : goal.drive_in_words-end-requires
drive_in_words-end-requires g c = record {
  port = ap (λ (l : Climbing Progress). l.port.failed) c.new-ladder.ensures
      ∙ ap (λ (t : Progress). t.failed) c.over.ensures ∙ c.requires.clear.healthy;
  own = ap (λ (l : Climbing Progress). l.failed) c.new-ladder.ensures;
}

pub unreachable-requires : goal.unreachable-requires
unreachable-requires g c =
    let start = c.new-ladder.result.port in
    let port = c.drive_in_words-end.new.ladder.port in
    let fresh = ap (λ (l : Climbing Progress). l.port) c.new-ladder.ensures ∙ c.over.ensures in
    let whole : events_of port.log ++ coming_in port ≡ script_of port.part =
    subst (λ (t : Progress). events_of t.log ++ coming_in t ≡ script_of t.part) c.port.ensures
    c.page-text_is_read.ensures.whole in
    turns_left c.args.pause c.args.lines.now c.args.gateway.now start port fresh
    c.drive_in_words-end.ensures.course whole
    c.in-Some.turns c.in-Some.ensures (c.drive_in_words-end.ensures.turns c.in-Turns.is)

pub returns-in-Finished-clause-run : goal.returns-in-Finished-clause-run
returns-in-Finished-clause-run g c =
    let start = c.new-ladder.result.port in
    let port = c.drive_in_words-end.new.ladder.port in
    let state = c.drive_in_words-end.new.gateway in
    let end = c.drive_in_words-end.result.0 in
    let fresh = ap (λ (l : Climbing Progress). l.port) c.new-ladder.ensures ∙ c.over.ensures in
    let whole : events_of port.log ++ coming_in port ≡ script_of port.part =
    subst (λ (t : Progress). events_of t.log ++ coming_in t ≡ script_of t.part) c.port.ensures
    c.page-text_is_read.ensures.whole in
    let right = subst (λ (t : Progress). is_through t ≡ true → first_wrong 1 (lines_of t.part.text)
    ≡ None) c.port.ensures
    c.page-text_is_read.ensures.right in
    part_run c.args.pause c.args.lines.now c.args.gateway.now start port fresh
    c.drive_in_words-end.ensures.course whole
    state c.pause-in-Finished.result (c.pause-in-Finished.ensures
    ∙ ap standing_of c.leave-port.ensures.port)
    (c.drive_in_words-end.ensures.finished c.in-Finished.is) right
    (λ p begins rested. record {
      faithful = c.drive_in_words-end.ensures.faithful p begins rested;
      rests = at_finish end (HasRested p port.log) c.in-Finished.is
          (c.drive_in_words-end.ensures.rests p begins rested);
      follows = at_finish end (Follows p state (Some port.log)) c.in-Finished.is
          (c.drive_in_words-end.ensures.kept p begins rested);
      accounts = at_finish end (IsAccounted p state port.log) c.in-Finished.is
          (c.drive_in_words-end.ensures.accounts p begins rested);
    })
    (at_finish end (port.failed ≡ 0) c.in-Finished.is c.drive_in_words-end.ensures.healthy)
    (at_finish end (Some port.log ≡ Some port.poured) c.in-Finished.is
    c.drive_in_words-end.ensures.cleared)

pub returns-in-Device-clause-begun : goal.returns-in-Device-clause-begun
returns-in-Device-clause-begun g c = elim c.drive_in_words-end.ensures.so_far [
  | inl same ↦ inl same
  | inr kept ↦ inr (λ before poured.
      let style = c.args.scribe.style in
      let start = c.new-ladder.result.port in
      let ladder = c.drive_in_words-end.new.ladder in
      let port = ladder.port in
      let scribe = ladder.scribe in
      let new = g.W.Write.contents c.drive_in_words-end.new.out in
      let old = g.W.Write.contents c.args.out.now in
      let fresh = ap (λ (l : Climbing Progress). l.port) c.new-ladder.ensures ∙ c.over.ensures in
      let whole : events_of port.log ++ coming_in port ≡ script_of port.part =
      subst (λ (t : Progress). events_of t.log ++ coming_in t ≡ script_of t.part) c.port.ensures
      c.page-text_is_read.ensures.whole in
      let log : Some port.log ≡ Some scribe.log = c.page-page_is_clear.ensures.log in
      let behind = c.page-page_is_clear.ensures.behind in
      let same : port.log ≡ scribe.log = cc in
      let style_is : scribe.style ≡ style = c.drive_in_words-end.ensures.style
      ∙ ap (λ (l : Climbing Progress). l.scribe.style) c.new-ladder.ensures in
      let written = subst (λ (s : Scribing). IsPoured c.args.was_whole before old s.logged)
      (sym (ap (λ (l : Climbing Progress). l.scribe) c.new-ladder.ensures)) poured in
      writing_stopped style c.args.pause c.args.lines.now c.args.gateway.now start port fresh
      c.drive_in_words-end.ensures.course whole scribe.poured behind.0 scribe.logged before new
      (same
      ∙ behind.1) kept
      (subst (λ (s : Style). IsLadder s scribe.poured scribe.logged) style_is
      c.page-page_is_clear.ensures.poured)
      (poured_begun c.drive_in_words-end.result.1 before new scribe.logged
      (c.drive_in_words-end.ensures.logged before written)))
]
