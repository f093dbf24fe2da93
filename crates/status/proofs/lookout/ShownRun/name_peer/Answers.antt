use Rattle.std.proofs.Common.{List, sym, subst, ℕ}
use Rattle.status.specs.Looking.{IsPeerText, NoMemory}
use Rattle.status.proofs.lookout.ShownRun.name_peer.Goals as goal

pub returns-then-is_err-clause-peer : goal.returns-then-is_err-clause-peer
returns-then-is_err-clause-peer c =
    subst (λ (l : List ℕ). IsPeerText c.args.watch.now.connection.peer l)
    (sym c.clear-then-is_err.ensures.bytes) NoMemory
