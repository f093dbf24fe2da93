-- The values of information elements in words (IEC 60870-5-101, 7.2.6).
use Rattle.std.specs.Prelude.{ℕ, ℤ, ◌+◌, ◌-◌, ◌*◌, ◌/◌, ◌%◌, ◌^◌, ◌==◌, ◌&&◌, Bool, nat_lt, nat_le}
use Rattle.std.specs.Prelude.{if◌then◌else◌, codes, List, [], ◌∷◌, ◌++◌, slice_index, unsigned_abs}
use Rattle.std.specs.Int.{is_negative}
use Rattle.std.specs.Fmt.{decimal, signed_decimal}
use Rattle.hex.specs.Hex.{encode_upper}
use Rattle.elements.specs.declared.types.TypeId.{TypeId}
use Rattle.elements.specs.declared.types.TypeId.TheVariants.{MSpNa1, MDpNa1, MStNa1, MBoNa1, MMeNa1}
use Rattle.elements.specs.declared.types.TypeId.TheVariants.{MMeNb1, MMeNc1, MItNa1, MSpTb1, MDpTb1}
use Rattle.elements.specs.declared.types.TypeId.TheVariants.{MStTb1, MBoTb1, MMeTd1, MMeTe1, MMeTf1}
use Rattle.elements.specs.declared.types.TypeId.TheVariants.{MItTb1, MEiNa1, CScNa1, CDcNa1, CRcNa1}
use Rattle.elements.specs.declared.types.TypeId.TheVariants.{CSeNa1, CSeNb1, CIcNa1, CScTa1, CDcTa1}
use Rattle.elements.specs.declared.types.TypeId.TheVariants.{CRcTa1, CSeTa1, CSeTb1}
use Rattle.elements.specs.Layouts.{short_at, word_at}
use Rattle.elements.specs.Types.{value_shown}
use Rattle.words.specs.declared.forms.ElementForm.{ElementForm}
use Rattle.words.specs.declared.forms.ElementForm.TheVariants as form
use Rattle.words.specs.Numbers.{mark, millionths, minus, pointed}
use Rattle.words.specs.Quality.{point_quality, quality}

-- ---- Which element a type has (7.3)

abbrev pub form_of : TypeId → ElementForm
form_of MSpNa1 = form.Single
form_of MSpTb1 = form.Single
form_of MDpNa1 = form.Double
form_of MDpTb1 = form.Double
form_of MStNa1 = form.Step
form_of MStTb1 = form.Step
form_of MBoNa1 = form.Bits
form_of MBoTb1 = form.Bits
form_of MMeNa1 = form.Normalised
form_of MMeTd1 = form.Normalised
form_of MMeNb1 = form.Scaled
form_of MMeTe1 = form.Scaled
form_of MMeNc1 = form.Float
form_of MMeTf1 = form.Float
form_of MItNa1 = form.Counter
form_of MItTb1 = form.Counter
form_of MEiNa1 = form.Initialised
form_of CScNa1 = form.SingleCommand
form_of CScTa1 = form.SingleCommand
form_of CDcNa1 = form.DoubleCommand
form_of CDcTa1 = form.DoubleCommand
form_of CRcNa1 = form.StepCommand
form_of CRcTa1 = form.StepCommand
form_of CSeNa1 = form.NormalisedSetPoint
form_of CSeTa1 = form.NormalisedSetPoint
form_of CSeNb1 = form.ScaledSetPoint
form_of CSeTb1 = form.ScaledSetPoint
form_of CIcNa1 = form.Interrogation

-- how many octets it has
abbrev pub form_size : ElementForm → ℕ
form_size form.Single = 1
form_size form.Double = 1
form_size form.Step = 2
form_size form.Bits = 5
form_size form.Normalised = 3
form_size form.Scaled = 3
form_size form.Float = 5
form_size form.Counter = 5
form_size form.Initialised = 1
form_size form.SingleCommand = 1
form_size form.DoubleCommand = 1
form_size form.StepCommand = 1
form_size form.NormalisedSetPoint = 3
form_size form.ScaledSetPoint = 3
form_size form.Interrogation = 1

-- ---- Monitored values

-- SIQ: SPI in bit 0
abbrev pub on_or_off : ℕ → List ℕ
on_or_off n = if n == 0 then codes "off" else codes "on"

unfoldable pub single_words : List ℕ → List ℕ
single_words xs = on_or_off (slice_index xs 0 % 2) ++ point_quality (slice_index xs 0)

-- DIQ: DPI in bits 1 and 0
abbrev pub double_state : ℕ → List ℕ
double_state n =
    if n == 0 then codes "intermediate"
    else (if n == 1 then codes "off" else (if n == 2 then codes "on" else codes "bad"))

unfoldable pub double_words : List ℕ → List ℕ
double_words xs = double_state (slice_index xs 0 % 4) ++ point_quality (slice_index xs 0)

-- VTI: the position, and the transient state in bit 7
unfoldable pub position_words : ℤ → ℕ → List ℕ
position_words z n = codes "position " ++ (signed_decimal z ++ mark 7 n (codes ", transient"))

unfoldable pub step_words : ℤ → List ℕ → List ℕ
step_words z xs = position_words z (slice_index xs 0) ++ quality (slice_index xs 1)

-- BSI: the high octet first
abbrev pub high_first : List ℕ → List ℕ
high_first xs =
    slice_index xs 3 ∷ slice_index xs 2 ∷ slice_index xs 1 ∷ slice_index xs 0 ∷ []

unfoldable pub bits_words : List ℕ → List ℕ
bits_words xs = codes "0x" ++ (encode_upper (high_first xs) ++ quality (slice_index xs 4))

-- z / 2 ^ k, with six digits behind the point
unfoldable pub fraction_text : Bool → (n k : ℕ) → List ℕ
fraction_text is_negative n k = minus is_negative ++ pointed (millionths n k)

-- NVA: a fraction in units of 1/32768, and these units
unfoldable pub normalised_text : ℤ → List ℕ
normalised_text z =
    fraction_text (is_negative z) (unsigned_abs z) 15
    ++ (codes " (" ++ (signed_decimal z ++ codes ")"))

unfoldable pub normalised_words : List ℕ → List ℕ
normalised_words xs = normalised_text (short_at xs) ++ quality (slice_index xs 2)

-- SVA
unfoldable pub scaled_words : ℤ → List ℕ → List ℕ
scaled_words z xs = signed_decimal z ++ quality (slice_index xs 2)

-- R32-IEEE STD 754: the sign in bit 31, the exponent in bits 30 to 23, the fraction in bits 22 to 0
abbrev pub exponent : ℕ → ℕ
exponent n = n / 2 ^ 23 % 256

abbrev pub fraction : ℕ → ℕ
fraction n = n % 2 ^ 23

-- an exponent of 255: infinite, or no number
abbrev pub no_number : ℕ → List ℕ
no_number n = if n == 0 then codes "infinite" else codes "not a number"

-- The size of a number. An exponent of 0 has no leading 1. From 150 on the number is whole. Below
-- 100 it is far less than half a millionth.
unfoldable pub size_text : (exponent fraction : ℕ) → List ℕ
size_text e f =
    if e == 255 then no_number f
    else (if nat_le 150 e then decimal ((f + 2 ^ 23) * 2 ^ (e - 150))
    else (if nat_lt e 100 then pointed 0
    else pointed (millionths (f + 2 ^ 23) (150 - e))))

unfoldable pub float_text : ℕ → List ℕ
float_text n = minus (nat_le (2 ^ 31) n) ++ size_text (exponent n) (fraction n)

unfoldable pub float_words : List ℕ → List ℕ
float_words xs = float_text (word_at xs) ++ quality (slice_index xs 4)

-- BCR: the sequence number in bits 4 to 0, CY in bit 5, CA in bit 6, IV in bit 7
unfoldable pub counter_marks : ℕ → List ℕ
counter_marks q =
    mark 5 q (codes ", carry") ++ (mark 6 q (codes ", adjusted") ++ mark 7 q (codes ", invalid"))

unfoldable pub sequence_text : ℕ → List ℕ
sequence_text q = codes ", sequence " ++ decimal (q % 32)

unfoldable pub counter_words : ℤ → List ℕ → List ℕ
counter_words z xs =
    signed_decimal z
    ++ (sequence_text (slice_index xs 4) ++ counter_marks (slice_index xs 4))

-- COI: the cause in bits 6 to 0, changed parameters in bit 7
unfoldable pub initialisation : ℕ → List ℕ
initialisation n =
    if n == 0 then codes "local power on"
    else (if n == 1 then codes "local manual reset"
    else (if n == 2 then codes "remote reset" else codes "COI " ++ decimal n))

unfoldable pub initialised_words : List ℕ → List ℕ
initialised_words xs =
    initialisation (slice_index xs 0 % 128)
    ++ mark 7 (slice_index xs 0) (codes ", parameters changed")

-- ---- Commands

-- S/E, bit 7 of a qualifier
abbrev pub select_text : ℕ → List ℕ
select_text q = if nat_le 128 q then codes ", select" else codes ", execute"

-- QU, bits 6 to 2 (7.2.6.26)
unfoldable pub qu_text : ℕ → List ℕ
qu_text n =
    if n == 0 then []
    else (if n == 1 then codes ", short pulse"
    else (if n == 2 then codes ", long pulse"
    else (if n == 3 then codes ", persistent" else codes ", QU " ++ decimal n)))

unfoldable pub qualifier : ℕ → List ℕ
qualifier q = select_text q ++ qu_text (q / 4 % 32)

-- SCO, DCO, RCO: the state in bit 0, or in bits 1 and 0
abbrev pub double_command_state : ℕ → List ℕ
double_command_state n =
    if n == 1 then codes "off" else (if n == 2 then codes "on" else codes "not permitted")

abbrev pub step_command_state : ℕ → List ℕ
step_command_state n =
    if n == 1 then codes "lower" else (if n == 2 then codes "higher" else codes "not permitted")

unfoldable pub single_command : List ℕ → List ℕ
single_command xs = on_or_off (slice_index xs 0 % 2) ++ qualifier (slice_index xs 0)

unfoldable pub double_command : List ℕ → List ℕ
double_command xs = double_command_state (slice_index xs 0 % 4) ++ qualifier (slice_index xs 0)

unfoldable pub step_command : List ℕ → List ℕ
step_command xs = step_command_state (slice_index xs 0 % 4) ++ qualifier (slice_index xs 0)

-- QOS: QL in bits 6 to 0 (7.2.6.39)
unfoldable pub ql_text : ℕ → List ℕ
ql_text n = if n == 0 then [] else codes ", QL " ++ decimal n

unfoldable pub set_point_qualifier : ℕ → List ℕ
set_point_qualifier q = select_text q ++ ql_text (q % 128)

unfoldable pub normalised_set_point : List ℕ → List ℕ
normalised_set_point xs =
    normalised_text (short_at xs) ++ set_point_qualifier (slice_index xs 2)

unfoldable pub scaled_set_point : ℤ → List ℕ → List ℕ
scaled_set_point z xs = signed_decimal z ++ set_point_qualifier (slice_index xs 2)

-- QOI (7.2.6.22)
unfoldable pub interrogation : ℕ → List ℕ
interrogation n =
    if n == 20 then codes "station"
    else (if nat_le 21 n && nat_le n 36 then codes "group " ++ decimal (n - 20)
    else codes "QOI " ++ decimal n)

abbrev pub interrogation_words : List ℕ → List ℕ
interrogation_words xs = interrogation (slice_index xs 0)

-- ---- All elements

-- an element with this value, of these octets
unfoldable pub words_of : ElementForm → ℤ → List ℕ → List ℕ
words_of form.Single z xs = single_words xs
words_of form.Double z xs = double_words xs
words_of form.Step z xs = step_words z xs
words_of form.Bits z xs = bits_words xs
words_of form.Normalised z xs = normalised_words xs
words_of form.Scaled z xs = scaled_words z xs
words_of form.Float z xs = float_words xs
words_of form.Counter z xs = counter_words z xs
words_of form.Initialised z xs = initialised_words xs
words_of form.SingleCommand z xs = single_command xs
words_of form.DoubleCommand z xs = double_command xs
words_of form.StepCommand z xs = step_command xs
words_of form.NormalisedSetPoint z xs = normalised_set_point xs
words_of form.ScaledSetPoint z xs = scaled_set_point z xs
words_of form.Interrogation z xs = interrogation_words xs

unfoldable pub value_words : TypeId → List ℕ → List ℕ
value_words t xs = words_of (form_of t) (value_shown t xs) xs
