-- What a start makes of a state that was kept (profile).
use Rattle.std.specs.Prelude.{true, false}
use Rattle.state.specs.declared.start.Found.{Found}
use Rattle.state.specs.declared.start.Found.TheVariants as found
use Rattle.state.specs.declared.start.Beginning.{Beginning}
use Rattle.state.specs.declared.start.Beginning.TheVariants as beginnings

-- by what was found in the directory
abbrev pub beginning_of : Found → Beginning
beginning_of found.Nothing = beginnings.Anew
beginning_of found.Unread = beginnings.PutAside
beginning_of found.Stale = beginnings.LinksReset
-- other rules lead from the events elsewhere, but what the head has holds
beginning_of (found.OtherRules true) = beginnings.LinksReset
beginning_of (found.OtherRules false) = beginnings.GoesOn
beginning_of found.Whole = beginnings.GoesOn
