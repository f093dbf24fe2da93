use Rattle.std.proofs.Common.{map, take}
use Rattle.telegate.specs.AllowLists.{AreAddresses}
use Rattle.telegate.proofs.allow_list.allow_list_of.Given as goal

abbrev pub invariant-loop-word : goal.invariant-loop-word
invariant-loop-word g l = AreAddresses (map g.S.AsStr.text (take l.word-index l.words))
    l.addresses.items
