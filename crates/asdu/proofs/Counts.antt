-- How many pieces an ASDU of a line needs.
use Rattle.std.proofs.Common.{◌≡◌, ℕ, ◌+◌, ◌*◌, ◌<◌, ◌≤◌, Bool, true, false, arith}
use Rattle.std.proofs.Math.Nat.{mul-le-mul_left, lt_of_mul-lt-mul_right}
use Rattle.std.specs.Int.{div_ceil}
use Rattle.std.proofs.lemmas.Grind.{div_ceil_times}
use Rattle.elements.specs.declared.types.TypeId.{TypeId}
use Rattle.elements.specs.declared.types.TypeId.TheVariants.{MSpNa1, MDpNa1, MStNa1, MBoNa1, MMeNa1}
use Rattle.elements.specs.declared.types.TypeId.TheVariants.{MMeNb1, MMeNc1, MItNa1, MSpTb1, MDpTb1}
use Rattle.elements.specs.declared.types.TypeId.TheVariants.{MStTb1, MBoTb1, MMeTd1, MMeTe1, MMeTf1}
use Rattle.elements.specs.declared.types.TypeId.TheVariants.{MItTb1, MEiNa1, CScNa1, CDcNa1, CRcNa1}
use Rattle.elements.specs.declared.types.TypeId.TheVariants.{CSeNa1, CSeNb1, CIcNa1, CScTa1, CDcTa1}
use Rattle.elements.specs.declared.types.TypeId.TheVariants.{CRcTa1, CSeTa1, CSeTb1}
use Rattle.asdu.specs.Asdu.{content_len}
use Rattle.asdu.specs.Refusals.{body_len}
use Rattle.asdu.specs.Translation.{piece_size}

located-three : (t : TypeId) (n : ℕ) → n * (1 + content_len t) ≤ 249 → n ≤ 3 * piece_size t false
located-three MSpNa1 n h = omega arith
located-three MDpNa1 n h = omega arith
located-three MStNa1 n h = omega arith
located-three MBoNa1 n h = omega arith
located-three MMeNa1 n h = omega arith
located-three MMeNb1 n h = omega arith
located-three MMeNc1 n h = omega arith
located-three MItNa1 n h = omega arith
located-three MSpTb1 n h = omega arith
located-three MDpTb1 n h = omega arith
located-three MStTb1 n h = omega arith
located-three MBoTb1 n h = omega arith
located-three MMeTd1 n h = omega arith
located-three MMeTe1 n h = omega arith
located-three MMeTf1 n h = omega arith
located-three MItTb1 n h = omega arith
located-three MEiNa1 n h = omega arith
located-three CScNa1 n h = omega arith
located-three CDcNa1 n h = omega arith
located-three CRcNa1 n h = omega arith
located-three CSeNa1 n h = omega arith
located-three CSeNb1 n h = omega arith
located-three CIcNa1 n h = omega arith
located-three CScTa1 n h = omega arith
located-three CDcTa1 n h = omega arith
located-three CRcTa1 n h = omega arith
located-three CSeTa1 n h = omega arith
located-three CSeTb1 n h = omega arith

counted-three : (t : TypeId) (n : ℕ) → n ≤ 127 → n * content_len t ≤ 249 → n ≤ 3 * piece_size t true
counted-three MSpNa1 n most h = omega arith
counted-three MDpNa1 n most h = omega arith
counted-three MStNa1 n most h = omega arith
counted-three MBoNa1 n most h = omega arith
counted-three MMeNa1 n most h = omega arith
counted-three MMeNb1 n most h = omega arith
counted-three MMeNc1 n most h = omega arith
counted-three MItNa1 n most h = omega arith
counted-three MSpTb1 n most h = omega arith
counted-three MDpTb1 n most h = omega arith
counted-three MStTb1 n most h = omega arith
counted-three MBoTb1 n most h = omega arith
counted-three MMeTd1 n most h = omega arith
counted-three MMeTe1 n most h = omega arith
counted-three MMeTf1 n most h = omega arith
counted-three MItTb1 n most h = omega arith
counted-three MEiNa1 n most h = omega arith
counted-three CScNa1 n most h = omega arith
counted-three CDcNa1 n most h = omega arith
counted-three CRcNa1 n most h = omega arith
counted-three CSeNa1 n most h = omega arith
counted-three CSeNb1 n most h = omega arith
counted-three CIcNa1 n most h = omega arith
counted-three CScTa1 n most h = omega arith
counted-three CDcTa1 n most h = omega arith
counted-three CRcTa1 n most h = omega arith
counted-three CSeTa1 n most h = omega arith
counted-three CSeTb1 n most h = omega arith

content_len-high : (t : TypeId) → content_len t ≤ 12
content_len-high MSpNa1 = omega arith
content_len-high MDpNa1 = omega arith
content_len-high MStNa1 = omega arith
content_len-high MBoNa1 = omega arith
content_len-high MMeNa1 = omega arith
content_len-high MMeNb1 = omega arith
content_len-high MMeNc1 = omega arith
content_len-high MItNa1 = omega arith
content_len-high MSpTb1 = omega arith
content_len-high MDpTb1 = omega arith
content_len-high MStTb1 = omega arith
content_len-high MBoTb1 = omega arith
content_len-high MMeTd1 = omega arith
content_len-high MMeTe1 = omega arith
content_len-high MMeTf1 = omega arith
content_len-high MItTb1 = omega arith
content_len-high MEiNa1 = omega arith
content_len-high CScNa1 = omega arith
content_len-high CDcNa1 = omega arith
content_len-high CRcNa1 = omega arith
content_len-high CSeNa1 = omega arith
content_len-high CSeNb1 = omega arith
content_len-high CIcNa1 = omega arith
content_len-high CScTa1 = omega arith
content_len-high CDcTa1 = omega arith
content_len-high CRcTa1 = omega arith
content_len-high CSeTa1 = omega arith
content_len-high CSeTb1 = omega arith

-- a piece has an object
pub piece_size-some : (t : TypeId) (b : Bool) → 1 ≤ piece_size t b
piece_size-some t false = let high = content_len-high t in
    let three = located-three t 1 (omega arith) in omega arith
piece_size-some t true =
    let high = content_len-high t in let three = counted-three t 1 (omega arith) (omega arith) in
    omega arith

-- three pieces are enough
pub three_pieces : (t : TypeId) (w : ℕ) (b : Bool) (n header : ℕ) → 4 ≤ header → 1 ≤ w → n ≤ 127
    → header + body_len t w b n ≤ 253 → n ≤ 3 * piece_size t b
three_pieces t w false n header h w1 most fits =
    let wider : 1 + content_len t ≤ w + content_len t = omega arith in
    let more : n * (1 + content_len t) ≤ n * (w + content_len t) = mul-le-mul_left n wider in
    located-three t n (omega arith)
three_pieces t w true n header h w1 most fits = counted-three t n most (omega arith)

-- a number of pieces that is enough, and not too large
pub div_ceil-is : (k m n : ℕ) → 0 < m → n ≤ k * m → k * m < n + m → k ≡ div_ceil n m
div_ceil-is k m n some low high =
    let there = div_ceil_times n m some in
    let up : k * m < (div_ceil n m + 1) * m = omega (arith, there.0) in
    let down : div_ceil n m * m < (k + 1) * m = omega (arith, there.1) in
    let a : k < div_ceil n m + 1 = lt_of_mul-lt-mul_right m up in
    let b : div_ceil n m < k + 1 = lt_of_mul-lt-mul_right m down in
    omega arith
