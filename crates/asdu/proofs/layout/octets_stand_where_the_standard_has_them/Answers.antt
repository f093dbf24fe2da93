use Rattle.asdu.proofs.OctetPlaces.{octets, apart, apart_length, together, together_length}
use Rattle.asdu.proofs.layout.octets_stand_where_the_standard_has_them.Goals as goal

pub returns-clause-octets : goal.returns-clause-octets
returns-clause-octets c = octets

pub returns-clause-apart : goal.returns-clause-apart
returns-clause-apart c = apart

pub returns-clause-apart_length : goal.returns-clause-apart_length
returns-clause-apart_length c = apart_length

pub returns-clause-together : goal.returns-clause-together
returns-clause-together c = together

pub returns-clause-together_length : goal.returns-clause-together_length
returns-clause-together_length c = together_length
