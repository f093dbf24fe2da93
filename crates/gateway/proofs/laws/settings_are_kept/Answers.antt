use Rattle.gateway.proofs.Unchanging.{settings_kept}
use Rattle.gateway.proofs.laws.settings_are_kept.Goals as goal

pub returns : goal.returns
returns c = λ s x log h. settings_kept c.commands_keep_the_rules.ensures s x log h.0
