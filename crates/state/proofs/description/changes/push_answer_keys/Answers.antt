use Rattle.std.proofs.Common.{◌≡◌, ℕ, List, ◌++◌, append_assoc, string_bytes}
use Rattle.std.specs.Prelude.{codes}
use Rattle.std.proofs.lemmas.Result.{IfOk-equal}
use Rattle.state.specs.ChangedSettings.{number_line}
use Rattle.state.proofs.description.changes.push_answer_keys.Goals as goal

both : (line : ℕ → ℕ → List ℕ) (k l n m : ℕ) (old front between : List ℕ) → k ≡ l → n ≡ m
    → between ≡ old ++ front → between ++ line k n ≡ old ++ (front ++ line l m)
both line k l n m old front between a b is =
    let e = append_assoc old front (line l m) in cc

pub returns : goal.returns
returns c =
    let kept = c.args.kept.now in
    let now = c.args.now.now in
    IfOk-equal c.push_number-2.result _ _ _ c.push_number-2.ensures
    (both (number_line (codes "line.retries")) c.into.result kept.retries c.into-2.result
    now.retries (string_bytes c.args.text.now)
    (number_line (codes "line.answer_ms") kept.answer_ms now.answer_ms)
    (string_bytes c.push_number.new.text) c.into.ensures c.into-2.ensures
    c.in_ok-push_number.ensures)
