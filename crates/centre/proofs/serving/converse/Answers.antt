use Rattle.std.proofs.Common.{List, ℕ, [], ◌++◌, subst}
use Rattle.std.specs.Io.KnownBytes.{Appends}
use Rattle.std.proofs.KnownBytes.{Appends-nil, Appends-trans}
use Rattle.centre.specs.Courses.{Not_yet, Round}
use Rattle.centre.proofs.serving.converse.Goals as goal

pub rounds-init : goal.rounds-init
rounds-init g c = record { text = []; goes = Not_yet; printed = Appends-nil _ }

pub rounds-preserved : goal.rounds-preserved
rounds-preserved g c = record {
  text = c.rounds.invariant.text ++ _;
  goes = Round _ _ _ _ c.rounds.invariant.goes c.in_ok-text.ensures;
  printed = subst (λ (xs : List ℕ). Appends (g.W.Write.contents c.args.out.now)
      (g.W.Write.contents c.print.new.out) (c.rounds.invariant.text ++ xs)) c.as_bytes.ensures.value
      (Appends-trans _ _ _ _ _ c.rounds.invariant.printed c.in-Ok.ensures.all);
}
