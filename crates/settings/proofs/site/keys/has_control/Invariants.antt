use Rattle.std.proofs.Common.{◌≡◌, drop}
use Rattle.settings.specs.SiteKeys.{has_control}
use Rattle.settings.proofs.site.keys.has_control.Given as goal

-- no control character begins so far
abbrev pub invariant-loop-at : goal.invariant-loop-at
invariant-loop-at l = has_control (drop l.at l.text) ≡ has_control l.text
