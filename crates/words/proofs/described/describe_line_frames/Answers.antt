use Rattle.std.proofs.Common.{rules, ◌≡◌, ℕ, List, ◌++◌, length, string_bytes, sym, subst, ap}
use Rattle.std.proofs.Common.{◌∙◌}
use Rattle.words.specs.Pipes.{IsLineEnd}
use Rattle.words.specs.Described.{IsLineDescribed}
use Rattle.words.proofs.Describing.{IsLoggedUpTo, none_left, rest_is, logged_all, logged_on}
use Rattle.words.proofs.described.describe_line_frames.Goals as goal

pub frames-preserved : goal.frames-preserved
frames-preserved c =
    let left = c.frames.left.now in
    let end = c.line_end-end.result in
    let text : List ℕ = string_bytes c.in_ok-shown.shown.lines in
    subst (λ (xs : List ℕ). IsLoggedUpTo (IsLineEnd c.args.sizes.link)
    (IsLineDescribed c.args.words c.args.sizes) c.args.octets.now
    (string_bytes c.push_str.new.self) xs c.both-condition.result)
    (sym (rest_is end left c.line_end-end.ensures.within))
    (logged_on (IsLineEnd c.args.sizes.link) (IsLineDescribed c.args.words c.args.sizes)
    c.args.octets.now
    (string_bytes c.frames.lines) left text (string_bytes c.push_str.new.self) end
    c.frames.condition
    c.in_ok-shown.shown.condition c.both-condition.result c.frames.invariant
    c.line_end-end.ensures.some
    c.line_end-end.ensures.end
    c.in_ok-shown.ensures
    (c.in_ok-push_str.ensures.bytes ∙ ap (λ (xs : List ℕ). string_bytes c.frames.lines ++ xs)
    c.as_str.ensures.value)
    c.both-condition.ensures)

pub returns : goal.returns
returns c =
    let none : length c.frames.left.now ≡ 0 = search rules in
    logged_all (IsLineEnd c.args.sizes.link) (IsLineDescribed c.args.words c.args.sizes)
    c.args.octets.now
    (string_bytes c.frames.lines) c.frames.left.now c.frames.condition c.frames.invariant
    (none_left c.frames.left.now none)
