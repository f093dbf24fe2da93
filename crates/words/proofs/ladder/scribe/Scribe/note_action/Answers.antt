use Rattle.std.proofs.Common.{[], ◌∷◌, ◌≡◌, ◌&&◌, List, ℕ, string_bytes, sym, subst, ◌∙◌}
use Rattle.std.specs.Result.{is_ok}
use Rattle.gateway.specs.Log.{Log}
use Rattle.gateway.specs.Log.{Went}
use Rattle.gateway.specs.Ports.{output_of}
use Rattle.words.specs.Scribing.{IsScribing, Scribing}
use Rattle.words.proofs.Pages.{and_else, and_then, noted_on}
use Rattle.words.proofs.ladder.scribe.Scribe.note_action.Goals as goal
use Rattle.words.proofs.ladder.scribe.Scribe.note_action.Goals.{then-self, else-self}

pub invariant_of-self : goal.invariant_of-self
invariant_of-self c =
    let was = c.self.inside in
    let s : Scribing = record {
      style = was.style;
      remembered = was.memory;
      log = was.history.entries;
      poured = was.poured.entries;
      logged = was.taken.octets;
      page = string_bytes was.page.text;
      is_noted = was.is_noted;
    } in
    let news : Log = Went c.args.now (output_of c.args.action.now) ∷ [] in
    let page : List ℕ = string_bytes c.push_action-noted.new.text in
    let taken : c.if-self.self ≡ (was.is_noted && is_ok c.push_action-noted.result) =
    elim c.if-self.branch [
      | then-self w ↦ and_then was.is_noted (is_ok c.push_action-noted.result) c.if-self.self
          w.if-self.true
          (w.self-is ∙ w.is_ok-self-inside.ensures.value)
      | else-self w ↦ and_else was.is_noted (is_ok c.push_action-noted.result) c.if-self.self
          w.if-self.false w.self-is
    ] in
    subst (λ (l : Log). IsScribing (record s {
      remembered = c.push_action-noted.new.memory;
      log = l;
      page = page;
      is_noted = c.if-self.self;
    })) (sym c.went-self-inside.ensures)
    (noted_on s news c.push_action-noted.new.memory page c.push_action-noted.result c.if-self.self
    taken
    c.push_action-noted.ensures c.self.invariant)
