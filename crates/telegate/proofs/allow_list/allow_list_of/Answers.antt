use Rattle.std.proofs.Common.{rules, ◌≡◌, [], ◌∷◌, ◌++◌, ◌∙◌, ap, subst}
use Rattle.clap.specs.Words.{Text}
use Rattle.telegate.specs.AllowLists.{Writes, WritesNone}
use Rattle.telegate.proofs.Addresses.{more, refused}
use Rattle.telegate.proofs.allow_list.allow_list_of.Goals as goal

pub returns-in_default-address_of-clause-fault : goal.returns-in_default-address_of-clause-fault
returns-in_default-address_of-clause-fault g c =
    refused g.S.AsStr.text c.args.words c.in-Some.words c.loop-word.word-index
    c.word-item.result c.in-Some.is
    c.loop-word-test.true
    (subst WritesNone (c.as_str.ensures ∙ ap g.S.AsStr.text c.word-item.is)
    c.in_default-address_of.ensures)

pub loop-word-preserved : goal.loop-word-preserved
loop-word-preserved g c =
    let pushed : c.push.new.self.items ≡ c.loop-word.addresses.items ++ c.in-Some-address_of.address
    ∷ [] =
    search (rules, c.push.ensures, c.is_err.ensures, c.if-is_err.false) in
    rw pushed (more g.S.AsStr.text c.in-Some.words.now c.loop-word.word-index
    c.word-item.result
    c.loop-word.addresses.items c.in-Some-address_of.address c.loop-word-test.true
    c.loop-word.invariant
    (subst (λ (t : Text). Writes t c.in-Some-address_of.address)
    (c.as_str.ensures ∙ ap g.S.AsStr.text c.word-item.is) c.in-Some-address_of.ensures))
