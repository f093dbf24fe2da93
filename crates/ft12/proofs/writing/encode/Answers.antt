use Rattle.std.proofs.Common.{rules}
use Rattle.ft12.proofs.Rooms.{longest}
use Rattle.ft12.proofs.writing.encode.Goals as goal

pub encode_ref-requires : goal.encode_ref-requires
encode_ref-requires c = rw c.lent.ensures.frame (search rules, (c.requires, longest _ _ c.requires))
