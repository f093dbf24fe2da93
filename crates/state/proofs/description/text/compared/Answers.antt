use Rattle.std.proofs.Common.{◌≡◌, ℕ, Bool, List, [], ◌++◌, Option, ap, subst, ◌∙◌}
use Rattle.gateway.specs.Config.{Settings}
use Rattle.state.specs.declared.looking.Seen.{Seen}
use Rattle.state.specs.StateText.{AreGiven, IsCompared, IsSaidBy, compared_lines}
use Rattle.state.proofs.description.text.compared.Goals as goal

told_by : (are_wanted : Bool) (given : Option (List ℕ)) (s : Seen) (kept now : Option Settings)
    (settings empty text : List ℕ) → settings ≡ s.settings.items → IsSaidBy settings kept
    → AreGiven given now → empty ≡ []
    → text ≡ empty ++ compared_lines are_wanted kept now s.gateway
    → IsCompared are_wanted given s text
told_by are_wanted given s kept now settings empty text same said is_now none is = record {
  kept = kept;
  now = now;
  kept_is = subst (λ w. IsSaidBy w kept) same said;
  now_is = is_now;
  is = is ∙ ap (λ w. w ++ compared_lines are_wanted kept now s.gateway) none;
}

pub returns : goal.returns
returns c =
    told_by c.args.are_wanted _ c.args.seen.now c.in_ok-kept.kept c.in_ok-now.now _ _ _
    c.deref.ensures.value c.in_ok-kept.ensures c.in_ok-now.ensures c.new-text.ensures.bytes
    c.in_ok-push_compared.ensures
