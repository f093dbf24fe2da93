use Rattle.std.proofs.Common.{◌≡◌, subst, not}
use Rattle.gateway.specs.Centre.{Centre}
use Rattle.gateway.specs.Polls.{has_room}
use Rattle.gateway.proofs.Sound.{room_of}
use Rattle.gateway.proofs.engine.centre.CentreSide.has_room.Goals as goal

pub returns : goal.returns
returns c = subst (λ (x : Centre). not c.is_full.result ≡ has_room x.queue) c.self.view_is
    (room_of c.is_full.result c.self.inside.queue c.is_full.ensures)
