-- What a request's frame asks for is the request.
use Rattle.std.specs.Prelude.{◌==◌}
use Rattle.std.proofs.Common.{◌≡◌, ℕ, ◌<◌, List, [], ◌∷◌, ◌++◌, length, Bool, true, false, Some}
use Rattle.std.proofs.Common.{None, option_and_then, refl, sym, ap, ◌∙◌, arith, if◌then◌else◌}
use Rattle.std.proofs.lemmas.Bool.{eq-eqb}
use Rattle.ft12.specs.declared.frame.LinkSize.{LinkSize}
use Rattle.ft12.specs.declared.frame.LinkSize.TheVariants.{One, Two}
use Rattle.ft12.specs.declared.frame.Front.{Front}
use Rattle.ft12.specs.declared.frame.Front.TheVariants.{Whole}
use Rattle.ft12.specs.Spelling.{spelling, user, Fits}
use Rattle.ft12.specs.Fronts.{front_of}
use Rattle.link.specs.Answers.{Frame, Class1, Class2, Command, Asked, Status, Reset, Counted}
use Rattle.link.specs.Exchanges.{whole_of}
use Rattle.link.specs.Requests.{request_frame, FitsAddress, FitsAsked, FitsFrame, asked_in}
use Rattle.link.specs.Requests.{asked_by, Reading, Foreign, Asks, short_reading, data_reading}
use Rattle.link.specs.Requests.{request_at, request_in}

short_back : (c address : ℕ) (request : Asked) → short_reading c ≡ Asks request →
    asked_by address (if address == address then short_reading c else Foreign)
    ≡ Some (address, request)
short_back c address request is =
    ap (λ (b : Bool). asked_by address (if b then short_reading c else Foreign))
    (eq-eqb address address refl)
    ∙ ap (λ (r : Reading). asked_by address r) is

data_back : (c address : ℕ) (asdu : List ℕ) (request : Asked) → data_reading c asdu ≡ Asks request →
    asked_by address (if address == address then data_reading c asdu else Foreign)
    ≡ Some (address, request)
data_back c address asdu request is =
    ap (λ (b : Bool). asked_by address (if b then data_reading c asdu else Foreign))
    (eq-eqb address address refl)
    ∙ ap (λ (r : Reading). asked_by address r) is

asked_back : (size : LinkSize) (address : ℕ) (request : Asked) → FitsAsked size request
    → asked_in (request_frame address request) ≡ Some (address, request)
asked_back size address Status fits = short_back 0x49 address Status refl
asked_back size address Reset fits = short_back 0x40 address Reset refl
asked_back size address (Counted true Class1) fits = short_back 0x7A address (Counted true Class1)
    refl
asked_back size address (Counted false Class1) fits = short_back 0x5A address (Counted false Class1)
    refl
asked_back size address (Counted true Class2) fits = short_back 0x7B address (Counted true Class2)
    refl
asked_back size address (Counted false Class2) fits = short_back 0x5B address (Counted false Class2)
    refl
asked_back size address (Counted fcb (Command [])) fits = absurd (omega (arith, fits.some))
asked_back size address (Counted true (Command (octet ∷ octets))) fits =
    data_back 0x73 address (octet ∷ octets) (Counted true (Command (octet ∷ octets))) refl
asked_back size address (Counted false (Command (octet ∷ octets))) fits =
    data_back 0x53 address (octet ∷ octets) (Counted false (Command (octet ∷ octets))) refl

length-user : (size : LinkSize) (c a : ℕ) (body : List ℕ) → FitsFrame size body
    → length (user size c a body) < 256
length-user One c a body fits = omega (arith, fits)
length-user Two c a body fits = omega (arith, fits)

-- a request's frame has a spelling
pub request_fits : (size : LinkSize) (address : ℕ) (request : Asked) → FitsAddress size address
    → FitsAsked size request → Fits size (request_frame address request)
request_fits size address Status within fits = record { control = omega arith; address = within }
request_fits size address Reset within fits = record { control = omega arith; address = within }
request_fits size address (Counted true Class1) within fits =
    record { control = omega arith; address = within }
request_fits size address (Counted false Class1) within fits =
    record { control = omega arith; address = within }
request_fits size address (Counted true Class2) within fits =
    record { control = omega arith; address = within }
request_fits size address (Counted false Class2) within fits =
    record { control = omega arith; address = within }
request_fits size address (Counted true (Command asdu)) within fits = (
  record { control = omega arith; address = within },
  fits.octets,
  length-user size 0x73 address
      asdu fits.fits,
)
request_fits size address (Counted false (Command asdu)) within fits = (
  record { control = omega arith; address = within },
  fits.octets,
  length-user size 0x53 address
      asdu fits.fits,
)

nil : (xs : List ℕ) → xs ++ [] ≡ xs
nil [] = refl
nil (x ∷ xs) = ap (λ (ys : List ℕ). x ∷ ys) (nil xs)

-- what is said of the front of a spelling
abbrev pub IsSpelled : Type 0
IsSpelled = (size : LinkSize) (frame : Frame) (more : List ℕ) → Fits size frame →
    front_of size (spelling size frame ++ more) ≡ Whole frame (length (spelling size frame))

-- the front of a request's octets
request_front : IsSpelled → (size : LinkSize) (address : ℕ) (request : Asked)
    → FitsAddress size address
    → FitsAsked size request →
    front_of size (spelling size (request_frame address request))
    ≡ Whole (request_frame address request) (length (spelling size (request_frame address request)))
request_front spelled size address request within fits =
    ap (λ (x : List ℕ). front_of size x) (sym (nil (spelling size (request_frame address request))))
    ∙ spelled size (request_frame address request) []
    (request_fits size address request within fits)

pub front_back : IsSpelled → (size : LinkSize) (address : ℕ) (request : Asked)
    → FitsAddress size address
    → FitsAsked size request →
    option_and_then asked_in
    (whole_of (front_of size (spelling size (request_frame address request))))
    ≡ Some (address, request)
front_back spelled size address request within fits =
    ap (λ (f : Front). option_and_then asked_in (whole_of f))
    (request_front spelled size address request within fits)
    ∙ asked_back size address request fits

pub read_back : IsSpelled → (size : LinkSize) (address : ℕ) (request : Asked)
    → FitsAddress size address
    → FitsAsked size request →
    request_in size (spelling size (request_frame address request)) ≡ Some (address, request)
read_back spelled size address request within fits =
    go (spelling size (request_frame address request)) (request_front spelled size address request
    within fits)
  where
    go : (x : List ℕ) → front_of size x ≡ Whole (request_frame address request) (length x)
        → request_in size x ≡ Some (address, request)
    go x is =
        ap (λ (f : Front). request_at (length x) f) is
        ∙ ap (λ (b : Bool). if b then asked_in (request_frame address request) else None)
        (eq-eqb (length x) (length x) refl)
        ∙ asked_back size address request fits
