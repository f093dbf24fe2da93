use Rattle.segments.proofs.written.Written.next.Given as goal

abbrev pub ghost-known : goal.ghost-known
ghost-known g a = g.contents
