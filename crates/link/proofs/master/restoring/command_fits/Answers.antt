use Rattle.std.proofs.Common.{◌==◌, ◌∙◌, ap, subst, length, List, ℕ, ◌≤◌, ◌<◌}
use Rattle.std.specs.List.{All}
use Rattle.link.proofs.Fits.{user_data}
use Rattle.link.proofs.master.restoring.command_fits.Goals as goal

pub returns : goal.returns
returns c =
    let S : List ℕ → Type 0 = λ x. length x ≤ 12 in
    let A : List ℕ → Type 0 = λ x. All (λ n. n < 256) x in
    user_data c.args.size c.args.command.now c.is_empty.result
    (c.is_empty.ensures ∙ ap (λ (x : List ℕ). length x == 0) c.octets.ensures.octets)
    (subst S c.octets.ensures.octets c.octets.ensures.small)
    (subst A c.octets.ensures.octets c.octets.ensures.bytes)
