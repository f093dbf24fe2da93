use Rattle.std.proofs.Common.{rules, ◌≡◌, ℕ, List, ◌++◌, length, string_bytes, sym, subst, ap}
use Rattle.std.proofs.Common.{◌∙◌}
use Rattle.words.specs.Pipes.{IsApduEnd}
use Rattle.words.specs.Described.{IsTcpDescribed}
use Rattle.words.proofs.Describing.{IsLoggedUpTo, none_left, rest_is, logged_all, logged_on}
use Rattle.words.proofs.described.describe_apdus.Goals as goal

pub apdus-preserved : goal.apdus-preserved
apdus-preserved c =
    let left = c.apdus.left.now in
    let end = c.apdu_end-end.result in
    let text : List ℕ = string_bytes c.in_ok-shown.shown.lines in
    subst (λ (xs : List ℕ). IsLoggedUpTo IsApduEnd (IsTcpDescribed c.args.words) c.args.octets.now
    (string_bytes c.push_str.new.self) xs c.both-condition.result)
    (sym (rest_is end left c.apdu_end-end.ensures.within))
    (logged_on IsApduEnd (IsTcpDescribed c.args.words) c.args.octets.now
    (string_bytes c.apdus.lines) left text (string_bytes c.push_str.new.self) end c.apdus.condition
    c.in_ok-shown.shown.condition c.both-condition.result c.apdus.invariant
    c.apdu_end-end.ensures.some
    c.apdu_end-end.ensures.end
    c.in_ok-shown.ensures
    (c.in_ok-push_str.ensures.bytes ∙ ap (λ (xs : List ℕ). string_bytes c.apdus.lines ++ xs)
    c.as_str.ensures.value)
    c.both-condition.ensures)

pub returns : goal.returns
returns c =
    let none : length c.apdus.left.now ≡ 0 = search rules in
    logged_all IsApduEnd (IsTcpDescribed c.args.words) c.args.octets.now
    (string_bytes c.apdus.lines) c.apdus.left.now c.apdus.condition c.apdus.invariant
    (none_left c.apdus.left.now none)
