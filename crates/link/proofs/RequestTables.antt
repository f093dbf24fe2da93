-- The tables of requests hold at each address, and for each octet.
use Rattle.std.specs.Prelude.{◌==◌}
use Rattle.std.proofs.Common.{◌≡◌, ℕ, ◌/◌, ◌%◌, ◌&&◌, Bool, true, false, List, [], ◌∷◌, refl, ap}
use Rattle.std.proofs.Common.{arith, ◌∙◌, ◌⊎◌, inl, inr, if◌then◌else◌}
use Rattle.std.proofs.lemmas.Bool.{eq-eqb, ne_eqb}
use Rattle.arrayvec.specs.ArrayVec.{ArrayVec}
use Rattle.link.specs.Control.{is_primary}
use Rattle.link.specs.Answers.{Single, Fixed, Data, Class1, Class2, Command, Status, Reset}
use Rattle.link.specs.Answers.{Counted}
use Rattle.link.specs.Requests.{request_frame, short_by, short_reading, data_by, data_reading}
use Rattle.link.specs.Requests.{plain_reading, comes_to, reading_of, Reading}
use Rattle.link.specs.Requests.{Foreign, Unknown, Asks}
use Rattle.link.specs.Secondary.{data_frame}
use Rattle.link.specs.Tables.{plain_row, counted_row, reading_in}

pub frames : (address : ℕ) (fcb : Bool) (asdu : List ℕ) →
    (request_frame address Status ≡ Fixed 0x49 address)
    × (request_frame address Reset ≡ Fixed 0x40 address)
    × (request_frame address (Counted fcb Class1) ≡ Fixed (if fcb then 0x7A else 0x5A) address)
    × (request_frame address (Counted fcb Class2) ≡ Fixed (if fcb then 0x7B else 0x5B) address)
    × (request_frame address (Counted fcb (Command asdu))
    ≡ data_frame (if fcb then 0x73 else 0x53) address asdu)
frames address true asdu = (refl, refl, refl, refl, refl)
frames address false asdu = (refl, refl, refl, refl, refl)

self_comes : (station octet : ℕ) → octet / 64 % 2 ≡ 1 → comes_to station octet station ≡ true
self_comes station octet e = rw (e, eq-eqb station station refl) refl

swapped : (a b : Bool) (x y : Reading) (both : a ≡ true → b ≡ true → ⊥)
    → (if a then x else if b then y else Unknown) ≡ (if b then y else if a then x else Unknown)
swapped true true x y both = absurd (both refl refl)
swapped true false x y both = refl
swapped false b x y both = refl

apart : (code : ℕ) → (code == 9) ≡ true → (code == 0) ≡ true → ⊥
apart code a b = grind arith

plain_by : (code : ℕ) → plain_reading code ≡ reading_in code plain_row
plain_by code = swapped (code == 9) (code == 0) (Asks Status) (Asks Reset) (apart code)

pub plain : (station octet : ℕ) → octet / 64 % 2 ≡ 1 → octet / 16 % 2 ≡ 0
    → reading_of station (Fixed octet station) ≡ reading_in (octet % 16) plain_row
plain station octet prm fcv =
    ap (λ (b : Bool). if b then short_reading octet else Foreign) (self_comes station octet prm)
    ∙ ap (λ (n : ℕ). short_by (octet / 32 % 2 == 1) (n == 1) (octet % 16)) fcv
    ∙ plain_by (octet % 16)

pub counted : (station octet : ℕ) → octet / 64 % 2 ≡ 1 → octet / 16 % 2 ≡ 1
    → reading_of station (Fixed octet station)
    ≡ reading_in (octet % 16) (counted_row (octet / 32 % 2 == 1))
counted station octet prm fcv =
    ap (λ (b : Bool). if b then short_reading octet else Foreign) (self_comes station octet prm)
    ∙ ap (λ (n : ℕ). short_by (octet / 32 % 2 == 1) (n == 1) (octet % 16)) fcv

pub user_data : (station octet : ℕ) (body : ArrayVec ℕ) → octet / 64 % 2 ≡ 1
    → octet / 16 % 2 ≡ 1 → octet % 16 ≡ 3 → (body.items ≡ [] → ⊥)
    → reading_of station (Data octet station body)
    ≡ Asks (Counted (octet / 32 % 2 == 1) (Command body.items))
user_data station octet body prm fcv code some =
    ap (λ (b : Bool). if b then data_reading octet body.items else Foreign)
    (self_comes station octet prm)
    ∙ ap (λ (n : ℕ). data_by (octet / 32 % 2 == 1) (n == 1) (octet % 16) body.items) fcv
    ∙ ap (λ (n : ℕ). data_by (octet / 32 % 2 == 1) true n body.items) code
    ∙ go body.items some
  where
    go : (octets : List ℕ) → (octets ≡ [] → ⊥) → data_by (octet / 32 % 2 == 1) true 3 octets
        ≡ Asks (Counted (octet / 32 % 2 == 1) (Command octets))
    go [] none = absurd (none refl)
    go (first ∷ others) none = refl

and_no : (b : Bool) → (b && false) ≡ false
and_no true = refl
and_no false = refl

no_data : (fcb : Bool) (code : ℕ) (octets : List ℕ) (fcv : Bool) → (fcv && (code == 3)) ≡ false
    → data_by fcb fcv code octets ≡ Unknown
no_data fcb code [] fcv other = refl
no_data fcb code (first ∷ others) fcv other =
    ap (λ (b : Bool). if b then Asks (Counted fcb (Command (first ∷ others))) else Unknown) other

other_by : (octet : ℕ) (octets : List ℕ)
    → (octet / 16 % 2 ≡ 0) ⊎ ((octet % 16 ≡ 3 → ⊥) ⊎ (octets ≡ []))
    → data_reading octet octets ≡ Unknown
other_by octet octets (inl fcv) =
    ap (λ (n : ℕ). data_by (octet / 32 % 2 == 1) (n == 1) (octet % 16) octets) fcv
    ∙ no_data (octet / 32 % 2 == 1) (octet % 16) octets false refl
other_by octet octets (inr (inl code)) =
    no_data (octet / 32 % 2 == 1) (octet % 16) octets (octet / 16 % 2 == 1)
    (ap (λ (b : Bool). (octet / 16 % 2 == 1) && b) (ne_eqb (octet % 16) 3 code)
    ∙ and_no (octet / 16 % 2 == 1))
other_by octet octets (inr (inr none)) =
    ap (λ (os : List ℕ). data_by (octet / 32 % 2 == 1) (octet / 16 % 2 == 1) (octet % 16) os) none

pub other_data : (station octet : ℕ) (body : ArrayVec ℕ) → octet / 64 % 2 ≡ 1
    → (octet / 16 % 2 ≡ 0) ⊎ ((octet % 16 ≡ 3 → ⊥) ⊎ (body.items ≡ []))
    → reading_of station (Data octet station body) ≡ Unknown
other_data station octet body prm other =
    ap (λ (b : Bool). if b then data_reading octet body.items else Foreign)
    (self_comes station octet prm)
    ∙ other_by octet body.items other

not_to : (station octet address : ℕ) → (octet / 64 % 2 ≡ 0) ⊎ (address ≡ station → ⊥)
    → comes_to station octet address ≡ false
not_to station octet address (inl e) = rw e refl
not_to station octet address (inr other) =
    ap (λ (b : Bool). is_primary octet && b) (ne_eqb address station other)
    ∙ and_no (is_primary octet)

pub foreign : (station octet address : ℕ) (body : ArrayVec ℕ)
    → (octet / 64 % 2 ≡ 0) ⊎ (address ≡ station → ⊥) →
    (reading_of station (Fixed octet address) ≡ Foreign)
    × (reading_of station (Data octet address body) ≡ Foreign)
    × (reading_of station Single ≡ Foreign)
foreign station octet address body e = (
  ap (λ (b : Bool). if b then short_reading octet else Foreign) (not_to station octet address e),
  ap (λ (b : Bool). if b then data_reading octet body.items else Foreign)
      (not_to station octet address e),
  refl,
)
