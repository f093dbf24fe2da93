use Rattle.std.proofs.Common.{ap, true, false}
use Rattle.live.specs.declared.watched.Notice.TheVariants.{KeptAgain, NotKept}
use Rattle.status.specs.Labels.{keeping_text}
use Rattle.status.proofs.SightLaws.{began, named, reported, settings, unreported, version}
use Rattle.status.proofs.lookout.sight_laws.line_state_and_settings_are_shown_as_they_are.Goals as goal

pub returns-clause-named : goal.returns-clause-named
returns-clause-named c d names keeps looks last s k = named d names keeps looks last s k

pub returns-clause-began : goal.returns-clause-began
returns-clause-began c d names keeps looks last s k = began d names keeps looks last s k

pub returns-clause-lost : goal.returns-clause-lost
returns-clause-lost c d names keeps looks last s k before later l is cause at each =
    ap keeping_text
    (reported d names keeps looks last s k before later l (NotKept cause) is at each)

pub returns-clause-kept : goal.returns-clause-kept
returns-clause-kept c d names keeps looks last s k before later l is at each =
    ap keeping_text (reported d names keeps looks last s k before later l KeptAgain is at each)

pub returns-clause-to_be_kept : goal.returns-clause-to_be_kept
returns-clause-to_be_kept c d names looks last s k each =
    ap keeping_text (unreported d names true looks last s k each)

pub returns-clause-not_to_be_kept : goal.returns-clause-not_to_be_kept
returns-clause-not_to_be_kept c d names looks last s k each =
    ap keeping_text (unreported d names false looks last s k each)

pub returns-clause-settings : goal.returns-clause-settings
returns-clause-settings c d names keeps looks last s k = settings d names keeps looks last s k

pub returns-clause-version : goal.returns-clause-version
returns-clause-version c d names keeps looks last s k = version d names keeps looks last s k
