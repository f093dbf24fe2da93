use Rattle.link.proofs.Stationed.{hears, hears_nothing}
use Rattle.link.proofs.laws.life.stations_hear_whole_frames.Goals as goal

pub returns-clause-whole : goal.returns-clause-whole
returns-clause-whole c = hears c.no_spelling_begins_another.ensures

pub returns-clause-other : goal.returns-clause-other
returns-clause-other c = hears_nothing
