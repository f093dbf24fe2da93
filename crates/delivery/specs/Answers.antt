-- A station's answer to a command, as it goes to the control centre octet by octet (IEC
-- 60870-5-101, 7.1 and 7.2, in the sizes of IEC 60870-5-104, 5.1 and 7).
use Rattle.std.specs.Prelude.{◌≡◌, ℕ, ◌+◌, ◌%◌, ◌≤◌, ◌==◌, ◌&&◌, ◌||◌, nat_le, if◌then◌else◌, Bool}
use Rattle.std.specs.Prelude.{true}
use Rattle.std.specs.Prelude.{false, List, [], ◌∷◌, ◌++◌, drop, slice_index, Option, Some, None}
use Rattle.asdu.specs.declared.sizes.CauseSize.{CauseSize}
use Rattle.asdu.specs.declared.sizes.CauseSize.TheVariants as causes
use Rattle.asdu.specs.declared.sizes.CaSize.{CaSize}
use Rattle.asdu.specs.declared.sizes.CaSize.TheVariants as cas
use Rattle.asdu.specs.declared.sizes.IoaSize.{IoaSize}
use Rattle.asdu.specs.declared.sizes.IoaSize.TheVariants as ioas
use Rattle.asdu.specs.declared.sizes.Sizes.{Sizes}
use Rattle.asdu.specs.Asdu.{AsduValue, IsAsdu}
use Rattle.asdu.specs.Layout.{common_address_place, objects_place, address_octets}
use Rattle.command.specs.History.{History, Mirrored, Offered, mirror_tag}
use Rattle.link.specs.declared.outcome.Outcome.{Outcome}
use Rattle.link.specs.declared.outcome.Outcome.TheVariants as outcome
use Rattle.gateway.specs.Counting.{is_answer_code}
use Rattle.gateway.specs.Reports.{Setup}
use Rattle.gateway.specs.Works.{IsPassedOn}

-- the cause octet as it came, with P/N and the test bit, and the originator, which is 0 if causes
-- of the line have one octet (7.2.3)
abbrev pub cause_in_two : CauseSize → List ℕ → List ℕ
cause_in_two causes.One xs = slice_index xs 2 ∷ 0 ∷ []
cause_in_two causes.Two xs = slice_index xs 2 ∷ slice_index xs 3 ∷ []

-- the common address that stands at a place, in two octets, the low octet first (7.2.4)
abbrev pub common_address_in_two : CaSize → (place : ℕ) → List ℕ → List ℕ
common_address_in_two cas.One place xs = slice_index xs place ∷ 0 ∷ []
common_address_in_two cas.Two place xs =
    slice_index xs place ∷ slice_index xs (place + 1) ∷ []

-- the object's address that stands at a place, in three octets, the low octet first (7.2.5)
abbrev pub object_address_in_three : IoaSize → (place : ℕ) → List ℕ → List ℕ
object_address_in_three ioas.One place xs = slice_index xs place ∷ 0 ∷ 0 ∷ []
object_address_in_three ioas.Two place xs =
    slice_index xs place ∷ slice_index xs (place + 1) ∷ 0 ∷ []
object_address_in_three ioas.Three place xs =
    slice_index xs place ∷ slice_index xs (place + 1) ∷ slice_index xs (place + 2) ∷ []

-- The answer that came on a line of these sizes, as it goes to the control centre: its type, SQ and
-- number, its cause and originator, its common address, its object's address, and all octets behind
-- that: those of the element, and of the time tag if there is one.
abbrev pub answer_form : Sizes → List ℕ → List ℕ
answer_form sizes xs =
    slice_index xs 0 ∷ slice_index xs 1
    ∷ (cause_in_two sizes.cause xs
    ++ (common_address_in_two sizes.ca (common_address_place sizes.cause) xs
    ++ (object_address_in_three sizes.ioa (objects_place sizes.cause sizes.ca) xs
    ++ drop (objects_place sizes.cause sizes.ca + address_octets sizes.ioa) xs)))

-- ---- What becomes of it

-- With a time tag its type is 13 above, and the seven octets of the tag stand last (IEC
-- 60870-5-104, 8: types 58 to 62). Only types 45 to 49 have one.
abbrev pub form_with : Option (List ℕ) → List ℕ → List ℕ
form_with None xs = xs
form_with (Some tag) xs =
    if nat_le 45 (slice_index xs 0) && nat_le (slice_index xs 0) 49
    then (slice_index xs 0 + 13) ∷ (drop 1 xs ++ tag) else xs

-- Of a station's answer with one object one ASDU is handed over, right behind what it did to
-- selections, and nothing more. It is the answer in the sizes of IEC 60870-5-104, with the tag of
-- the newest command of its type and addresses that went to the line on the connection, if that
-- came with one. Either it has a place, or it has none (which closes the connection: profile).
pub record IsGivenOnce (p : Setup) (at : ℕ) (report : List ℕ) (before after : History) : Type 0
  where
    pub value : AsduValue
    pub read : IsAsdu p.sizes value report
    pub kept : Bool
    pub given : after ≡ Offered (form_with
        (mirror_tag p.sizes p.stations p.select_ms p.max_age_ms value value.infos before)
        (answer_form p.sizes report)) kept ∷ Mirrored at value ∷ before

-- these ASDUs were handed over one after another behind what became of commands before, each with a
-- place
abbrev pub all_given : List (List ℕ) → History → History
all_given [] h = h
all_given (x ∷ xs) h = all_given xs (Offered x true ∷ h)

-- These ASDUs are handed over, each once and in their order: all of them, or up to the first that
-- has no place.
pub data AreGiven (pieces : List (List ℕ)) (before after : History) : Type 0 where
  All : after ≡ all_given pieces before → AreGiven pieces before after
  UpTo : (done : List (List ℕ)) → (x : List ℕ) → (rest : List (List ℕ)) →
      pieces ≡ done ++ x ∷ rest → after ≡ Offered x false ∷ all_given done before →
      AreGiven pieces before after

-- Of an answer with more objects such ASDUs are handed over as carry it.
pub record IsGivenInPieces (p : Setup) (at : ℕ) (report : List ℕ) (before after : History)
    : Type 0
  where
    pub value : AsduValue
    pub pieces : List (List ℕ)
    pub passed : IsPassedOn p.sizes value report pieces
    pub given : AreGiven pieces (Mirrored at value ∷ before) after

-- what a station said, if its type is a command's: 45 to 49, and 100 (7.2.1.1)
abbrev pub answer_in : Outcome → Option (List ℕ)
answer_in (outcome.Report station asdu) =
    if is_answer_code (slice_index asdu.items 0) then Some asdu.items else None
answer_in other = None

-- What becomes of a station's answer: while data transfer runs it is given to the control centre,
-- and while it is stopped only its selections are looked at (IEC 60870-5-104, 5.3; profile).
pub record IsHeeded (p : Setup) (is_started : Bool) (at : ℕ) (report : List ℕ)
    (before after : History) : Type 0 where
  pub one : is_started ≡ true → slice_index report 1 % 128 ≡ 1 →
      IsGivenOnce p at report before after
  pub more : is_started ≡ true → 2 ≤ slice_index report 1 % 128 →
      IsGivenInPieces p at report before after
  pub stopped : is_started ≡ false →
      (value : AsduValue) × IsAsdu p.sizes value report × (after ≡ Mirrored at value ∷ before)

-- ---- How many objects an ASDU has

-- Of types 48 and 49 (set points) an object's element has three octets, and of the other commands
-- one (IEC 60870-5-101, 7.3.2).
abbrev pub is_set_point : ℕ → Bool
is_set_point octet = octet == 48 || octet == 49

-- The most objects of a command's type that 249 octets and a number of seven bits take: with SQ 1
-- the address stands once, before all elements, and with SQ 0 before each (7.2.2).
abbrev pub most_objects : (type qualifier : ℕ) → ℕ
most_objects type qualifier =
    if is_set_point type then (if nat_le 128 qualifier then 80 else 40)
    else (if nat_le 128 qualifier then 127 else 60)
