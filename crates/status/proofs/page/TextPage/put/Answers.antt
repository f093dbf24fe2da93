use Rattle.std.proofs.Common.{sym, ◌∙◌, ap, length, take, ◌+◌, ◌++◌, List, ℕ, arith}
use Rattle.std.proofs.lemmas.List.{with_items_is}
use Rattle.status.specs.TextPage.{put}
use Rattle.status.proofs.Sheets.{seen, put_none, put_cut, put_whole}
use Rattle.status.proofs.page.TextPage.put.Goals as goal

pub returns-then-self : goal.returns-then-self
returns-then-self c =
    sym c.self.view_is ∙ put_none c.self.inside.is_cut c.self.inside.octets.items c.args.octets.now
    c.self.inside.end c.if-self.true
    ∙ ap (put c.args.octets.now) c.self.view_is

pub returns-then-len-self : goal.returns-then-len-self
returns-then-len-self c =
    put_cut c.self.inside.is_cut c.self.inside.octets.items c.args.octets.now c.self.inside.end
    c.if-self.false
    c.self.invariant (omega arith)
    ∙ ap (put c.args.octets.now) c.self.view_is

pub returns : goal.returns
returns c =
    ap (λ (ys : List ℕ). seen c.self.inside.is_cut (c.self.inside.end + length c.args.octets.now)
    ys)
    (with_items_is c.self.inside.octets c.write_behind.new.room (omega arith))
    ∙ put_whole c.self.inside.is_cut c.self.inside.octets.items c.args.octets.now
    c.write_behind.new.room c.self.inside.end c.if-self.false
    c.self.invariant (omega arith) (omega arith)
    (c.write_behind.ensures ∙ ap (λ (l : List ℕ). take c.self.inside.end l ++ c.args.octets.now)
    c.deref_mut.ensures.value)
    ∙ ap (put c.args.octets.now) c.self.view_is
