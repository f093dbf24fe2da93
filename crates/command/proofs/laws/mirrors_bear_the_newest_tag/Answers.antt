use Rattle.command.proofs.Tagged.{run_tags}
use Rattle.command.proofs.NewestTags.{tags_read, newest_borne, sendings_noted}
use Rattle.command.proofs.laws.mirrors_bear_the_newest_tag.Goals as goal

pub returns-clause-among : goal.returns-clause-among
returns-clause-among c = λ stations sizes select_ms max_age_ms calls v. run_tags stations sizes
    select_ms max_age_ms calls v

pub returns-clause-borne : goal.returns-clause-borne
returns-clause-borne c = λ stations sizes select_ms max_age_ms h.
    newest_borne sizes stations select_ms max_age_ms h

pub returns-clause-noted : goal.returns-clause-noted
returns-clause-noted c = λ stations sizes select_ms max_age_ms calls.
    sendings_noted sizes stations select_ms max_age_ms calls

pub returns-clause-tags : goal.returns-clause-tags
returns-clause-tags c = tags_read
