use Rattle.std.proofs.Common.{◌≡◌, ℕ, ◌+◌, ◌*◌, ◌<◌, ◌≤◌, ◌^◌, true, take, length, slice_index}
use Rattle.std.proofs.Common.{Some, ap, sym, ◌∙◌, arith, rules}
use Rattle.std.proofs.lemmas.Bool.{le-leb}
use Rattle.std.proofs.lemmas.List.{take_more}
use Rattle.std.specs.Char.{is_ascii_digit}
use Rattle.traces.specs.Fields.{digits_after}
use Rattle.traces.proofs.NumberLemmas.{below_limit, digits_more, ended_near, small_more}
use Rattle.traces.proofs.decimal.number_within.Goals as goal

pub overflow_mul-value : goal.overflow_mul-value
overflow_mul-value c =
    let small : c.loop-i.value < 10 ^ 15 = below_limit _ c.loop-i.i c.loop-i.invariant.small
    (omega arith) in
    omega arith

pub overflow_add-value : goal.overflow_add-value
overflow_add-value c =
    let small : c.loop-i.value < 10 ^ 15 = below_limit _ c.loop-i.i c.loop-i.invariant.small
    (omega arith) in
    omega arith

pub loop-i-preserved : goal.loop-i-preserved
loop-i-preserved c =
    let text = c.args.text.now in
    let i = c.loop-i.i in
    let lt : i < length text = search rules in
    let small : c.digit_of-digit.result ≤ 9 = omega arith in
    let digit : is_ascii_digit (slice_index text i) ≡ true =
    c.digit_of-digit.ensures.digit ∙ le-leb c.digit_of-digit.result 9 small in
    let more = digits_more 0 c.loop-i.value (take i text) (slice_index text i)
    c.loop-i.invariant.read digit in
    record {
      read = ap (digits_after 0) (take_more text i 0 lt) ∙ more
          ∙ ap (λ (d : ℕ). Some (c.loop-i.value * 10 + d))
          (sym (c.digit_of-digit.ensures.value small));
      small = small_more c.loop-i.value _ i c.loop-i.invariant.small (omega arith);
    }

pub returns : goal.returns
returns c =
    let text = c.args.text.now in
    let near = c.args.near in
    let same : c.loop-i.i ≡ near = omega arith in
    let read : digits_after 0 (take near text) ≡ Some c.loop-i.value =
    rw same at c.loop-i.invariant.read in
    rw c.ended-2.ensures
    (ended_near text near c.loop-i.value (search rules) (λ lt. omega (arith, lt)) (omega arith)
    read)
