use Rattle.std.proofs.Common.{◌≡◌, ◌+◌, ◌/◌, ◌%◌, ◌==◌, ℕ, Bool, false, [], ◌++◌, codes, arith}
use Rattle.std.proofs.Common.{if◌then◌else◌, refl, ap}
use Rattle.std.proofs.lemmas.Bool.Decides.{nat_tests}
use Rattle.std.specs.Fmt.{decimal}
use Rattle.link.specs.Control.{fcb_bit, fcv_bit, acd_bit, dfc_bit, function_code}
use Rattle.words.proofs.Opened.{frames_open}
use Rattle.words.specs.Lines.{asked_words, answered_words, control_words}
use Rattle.words.proofs.laws.frames_are_told_field_by_field.Goals as goal

by_bit : (c a r : ℕ) → c / 64 % 2 ≡ r → control_words c a
    ≡ (if r == 1 then asked_words (function_code c) a (fcb_bit c) (fcv_bit c)
    else answered_words (function_code c) a (acd_bit c) (dfc_bit c))
unfolding frames_open
by_bit c a r h =
    ap (λ (n : ℕ). if n == 1 then asked_words (function_code c) a (fcb_bit c) (fcv_bit c)
    else answered_words (function_code c) a (acd_bit c) (dfc_bit c)) h

pub returns-clause-asked : goal.returns-clause-asked
unfolding frames_open
returns-clause-asked c = λ octet a h. by_bit octet a 1 h

pub returns-clause-answered : goal.returns-clause-answered
unfolding frames_open
returns-clause-answered c = λ octet a h. by_bit octet a 0 h

pub returns-clause-functions : goal.returns-clause-functions
unfolding frames_open
returns-clause-functions c = (refl, refl, refl, refl)

pub returns-clause-frames : goal.returns-clause-frames
unfolding frames_open
returns-clause-frames c = λ s octet a first octets. (refl, refl, refl)

pub returns-clause-fronts : goal.returns-clause-fronts
unfolding frames_open
returns-clause-fronts c = λ s n len place frame why. (refl, refl, refl)

pub returns-clause-rest : goal.returns-clause-rest
unfolding frames_open
returns-clause-rest c = λ n.
    let some : (n + 1 == 0) ≡ false = grind (arith, nat_tests) in
    (ap (λ (b : Bool). if b then [] else codes "  rest " ++ decimal (n + 1)) some, refl)
