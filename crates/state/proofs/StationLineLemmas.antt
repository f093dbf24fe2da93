-- The lines of stations.
use Rattle.std.proofs.Common.{◌≡◌, ℕ, ◌+◌, suc, List, [], ◌∷◌, ◌++◌, length, ap, sym, ◌∙◌}
use Rattle.std.proofs.Common.{append_assoc, arith}
use Rattle.link.specs.Primary.{Primary}
use Rattle.link.specs.declared.turn.StationState.{StationState}
use Rattle.state.specs.StationLines.{station_line, station_lines}

lines_from : (p : Primary) (k at : ℕ) (before behind : List StationState) (s : StationState)
    → at ≡ k + length before
    → station_lines p k (before ++ s ∷ behind)
    ≡ station_lines p k before ++ station_line p at s ++ station_lines p (at + 1) behind
lines_from p k at [] behind s is =
    let same : k ≡ at = omega (arith, is) in
    let next : suc k ≡ at + 1 = omega (arith, is) in
    ap (λ n. station_line p n s ++ station_lines p (suc k) behind) same
    ∙ ap (λ n. station_line p at s ++ station_lines p n behind) next
lines_from p k at (x ∷ before) behind s is =
    let later = lines_from p (suc k) at before behind s (omega (arith, is)) in
    ap (λ ls. station_line p k x ++ ls) later
    ∙ sym (append_assoc (station_line p k x) (station_lines p (suc k) before ++ station_line p at s)
    (station_lines p (at + 1) behind))
    ∙ ap (λ ls. ls ++ station_lines p (at + 1) behind)
    (sym (append_assoc (station_line p k x) (station_lines p (suc k) before)
    (station_line p at s)))

pub lines_are : (p : Primary) (before behind : List StationState) (s : StationState)
    → station_lines p 0 (before ++ s ∷ behind)
    ≡ station_lines p 0 before ++ station_line p (length before) s
    ++ station_lines p (length before + 1) behind
lines_are p before behind s =
    lines_from p 0 (length before) before behind s (omega arith)
