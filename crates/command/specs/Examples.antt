-- Examples worked by hand from the standard: which octets say what, what becomes of a command, and
-- what ends a selection. Each stands beside its negatives.
use Rattle.std.specs.Prelude.{◌≡◌, ℕ, zero, suc, ◌+◌, Bool, true, false, not, List, [], ◌∷◌, Option}
use Rattle.std.specs.Prelude.{Some, None, option_map, filter, map, replicate}
use Rattle.elements.specs.declared.types.TypeId.{TypeId}
use Rattle.elements.specs.declared.types.TypeId.TheVariants.{CScNa1, CDcNa1, CSeNa1, CSeNb1}
use Rattle.asdu.specs.Asdu.{AsduValue}
use Rattle.asdu.specs.declared.sizes.CauseSize.TheVariants as causes
use Rattle.asdu.specs.declared.sizes.CaSize.TheVariants as cas
use Rattle.asdu.specs.declared.sizes.IoaSize.TheVariants as ioas
use Rattle.asdu.specs.declared.sizes.Sizes.{Sizes}
use Rattle.command.specs.declared.station.StationInfo.{StationInfo}
use Rattle.command.specs.Standard.{is_process_type, has_tag, plain_type, element_part, tag_if_any}
use Rattle.command.specs.Standard.{is_activation, is_deactivating, selects, executes, may_operate}
use Rattle.command.specs.Standard.{is_test, is_positive_confirmation, is_negative_confirmation}
use Rattle.command.specs.Judging.{judged}
use Rattle.command.specs.State.{octets_waiting}
use Rattle.command.specs.Mirrors.{tag_for}
use Rattle.command.specs.Calls.{Call, Judge, PutOnLine, Accept, Busy, Lose, Mirror, Cut, Due, run}

-- ---- Calls

-- an ASDU comes at this moment, and no moment of the wall is known
abbrev pub judge : List ℕ → ℕ → Call
judge xs now = Judge xs now None

-- ---- Octets

-- the numbers from n down to 0, behind those given
abbrev pub down_from : ℕ → List ℕ → List ℕ
down_from zero above = 0 ∷ above
down_from (suc n) above = down_from n (suc n ∷ above)

-- the octets that pass a test
abbrev pub octets_that : (ℕ → Bool) → List ℕ
octets_that p = filter p (down_from 255 [])

-- ---- ASDUs

-- 2024-02-29, a Thursday, at 12:34:56.789 UTC: 1709210096789 ms since 1970-01-01
abbrev pub good : List ℕ
good = 213 ∷ 221 ∷ 34 ∷ 12 ∷ 157 ∷ 2 ∷ 24 ∷ []

-- a command to object 10: type, cause octet, common address, element
abbrev pub asdu : ℕ → ℕ → ℕ → List ℕ → List ℕ
asdu kind cause ca element = kind ∷ 1 ∷ cause ∷ 0 ∷ ca ∷ 0 ∷ 10 ∷ 0 ∷ 0 ∷ element

-- what a station answers of object 10: type, cause octet, common address, element
abbrev pub mirror : TypeId → ℕ → ℕ → List ℕ → AsduValue
mirror kind cause ca element = record {
  kind = kind;
  sequence = false;
  cause = cause;
  originator = 0;
  ca = ca;
  infos = record { address = 10; element = element; tag = None } ∷ [];
}

abbrev pub station : ℕ → Bool → StationInfo
station ca select = record { ca = ca; select = select }

-- stations 1 and 2 ask for selects, station 3 doesn't
abbrev pub stations : List StationInfo
stations = station 1 true ∷ station 2 true ∷ station 3 false ∷ []

-- on the line one octet of cause, one of common address, two of object address
abbrev pub sizes : Sizes
sizes = record { cause = causes.One; ca = cas.One; ioa = ioas.Two }

-- ---- Which octets say what (7.2.3, 7.2.6.15 to 7.2.6.17, 7.2.6.22, 7.3.2)

pub record OctetExamples : Type 0 where
  pub process_types : octets_that is_process_type ≡ 45 ∷ 46 ∷ 47 ∷ 48 ∷ 49 ∷ []
  pub activations : octets_that (λ cause. is_activation (asdu 45 cause 1 (1 ∷ [])))
      ≡ 6 ∷ 70 ∷ 134 ∷ 198 ∷ []
  pub deactivations : octets_that (λ cause. is_deactivating (asdu 45 cause 1 (1 ∷ [])))
      ≡ 8 ∷ 72 ∷ 136 ∷ 200 ∷ []
  pub positive : octets_that is_positive_confirmation ≡ 7 ∷ 135 ∷ []
  pub negative : octets_that is_negative_confirmation ≡ 71 ∷ 199 ∷ []
  pub no_tests : octets_that (λ cause. not (is_test cause)) ≡ down_from 127 []
  pub tagged_types : octets_that has_tag ≡ 58 ∷ 59 ∷ 60 ∷ 61 ∷ 62 ∷ []
  pub plain_types : map plain_type (57 ∷ 58 ∷ 59 ∷ 60 ∷ 61 ∷ 62 ∷ 63 ∷ 100 ∷ [])
      ≡ 57 ∷ 45 ∷ 46 ∷ 47 ∷ 48 ∷ 49 ∷ 63 ∷ 100 ∷ []
  pub executing_types : octets_that (λ kind. executes (asdu kind 6 1 (1 ∷ 1 ∷ 1 ∷ good)))
      ≡ 45 ∷ 46 ∷ 47 ∷ 48 ∷ 49 ∷ 58 ∷ 59 ∷ 60 ∷ 61 ∷ 62 ∷ []
  pub executing_causes : octets_that (λ cause. executes (asdu 45 cause 1 (1 ∷ [])))
      ≡ 6 ∷ 70 ∷ 134 ∷ 198 ∷ []
  pub executing_elements : octets_that (λ octet. executes (asdu 45 6 1 (octet ∷ [])))
      ≡ down_from 127 []
  pub executing_set_points : octets_that (λ octet. executes (asdu 48 6 1 (255 ∷ 255 ∷ octet ∷ [])))
      ≡ down_from 127 []
  pub selecting_types : octets_that (λ kind. selects (asdu kind 6 1 (1 ∷ 1 ∷ 128 ∷ [])))
      ≡ 45 ∷ 46 ∷ 47 ∷ 48 ∷ 49 ∷ []
  pub selecting_tagged : octets_that (λ kind. selects (asdu kind 6 1 (1 ∷ 1 ∷ 128 ∷ good)))
      ≡ 58 ∷ 59 ∷ 60 ∷ 61 ∷ 62 ∷ []
  pub elements : element_part (asdu 61 6 1 (52 ∷ 18 ∷ 5 ∷ good)) ≡ 52 ∷ 18 ∷ 5 ∷ []
  pub tags : tag_if_any (asdu 58 6 1 (1 ∷ good)) ≡ Some good
  pub no_tag : tag_if_any (asdu 45 6 1 (1 ∷ good)) ≡ None
  pub selecting_causes : octets_that (λ cause. selects (asdu 45 cause 1 (129 ∷ [])))
      ≡ 6 ∷ 70 ∷ 134 ∷ 198 ∷ []
  pub not_selecting : octets_that (λ octet. not (selects (asdu 45 6 1 (octet ∷ []))))
      ≡ down_from 127 []
  pub interrogations : octets_that (λ octet. may_operate (asdu 100 6 1 (octet ∷ [])))
      ≡ 20 ∷ 21 ∷ 22 ∷ 23 ∷ 24 ∷ 25 ∷ 26 ∷ 27 ∷ 28 ∷ 29 ∷ 30 ∷ 31 ∷ 32 ∷ 33 ∷ 34 ∷ 35 ∷ 36 ∷ []
  pub double_states : filter (λ octet. may_operate (asdu 46 6 1 (octet ∷ []))) (down_from 11 [])
      ≡ 1 ∷ 2 ∷ 5 ∷ 6 ∷ 9 ∷ 10 ∷ []
  pub step_states : filter (λ octet. may_operate (asdu 47 6 1 (octet ∷ []))) (down_from 11 [])
      ≡ 1 ∷ 2 ∷ 5 ∷ 6 ∷ 9 ∷ 10 ∷ []
  pub single_states : filter (λ octet. may_operate (asdu 45 6 1 (octet ∷ []))) (down_from 3 [])
      ≡ 0 ∷ 1 ∷ 2 ∷ 3 ∷ []

-- ---- What an ASDU gets

-- the ASDU that comes at this moment, and at this one of the wall, after these calls, the newest
-- first, gets this answer or is forwarded
pub record Example : Type 0 where
  pub calls : List Call
  pub moment : ℕ
  pub wall : Option ℕ
  pub comes : List ℕ
  pub answer : Option (List ℕ)

abbrev pub IsRight : Example → Type 0
IsRight e =
    (judged e.comes e.moment e.wall (run stations sizes 10000 10000 e.calls).state).0 ≡ e.answer

abbrev pub example_at : Option ℕ → List Call → ℕ → List ℕ → Option (List ℕ) → Example
example_at wall calls moment comes answer = record {
  calls = calls;
  moment = moment;
  wall = wall;
  comes = comes;
  answer = answer;
}

abbrev pub example : List Call → ℕ → List ℕ → Option (List ℕ) → Example
example calls moment comes answer = example_at None calls moment comes answer

-- ---- The rules, in their order

-- nothing came before
abbrev pub alone : List ℕ → Option (List ℕ) → Example
alone comes answer = example [] 1 comes answer

-- a command to this object address of three octets
abbrev pub of_object : ℕ → ℕ → ℕ → ℕ → ℕ → List ℕ
of_object kind cause low middle high = kind ∷ 1 ∷ cause ∷ 0 ∷ 3 ∷ 0 ∷ low ∷ middle ∷ high ∷ 1 ∷ []

abbrev pub rule_examples : List Example
rule_examples =
    -- 1: types 44, 50 and 103, with the test bit; before the cause, which is unknown too
    alone (asdu 44 6 3 (1 ∷ [])) (Some (asdu 44 (64 + 44) 3 (1 ∷ [])))
    ∷ alone (asdu 50 6 3 (1 ∷ [])) (Some (asdu 50 (64 + 44) 3 (1 ∷ [])))
    ∷ alone (asdu 103 134 3 (1 ∷ [])) (Some (asdu 103 (128 + 64 + 44) 3 (1 ∷ [])))
    ∷ alone (asdu 103 5 9 (1 ∷ [])) (Some (asdu 103 (64 + 44) 9 (1 ∷ [])))
    -- 2: causes 5, 7 and 10; before the address, which is unknown too
    ∷ alone (asdu 45 5 3 (1 ∷ [])) (Some (asdu 45 (64 + 45) 3 (1 ∷ [])))
    ∷ alone (asdu 45 7 3 (1 ∷ [])) (Some (asdu 45 (64 + 45) 3 (1 ∷ [])))
    ∷ alone (asdu 45 10 9 (1 ∷ [])) (Some (asdu 45 (64 + 45) 9 (1 ∷ [])))
    -- 3: no such station; the global address with another type than 100; before the object, which
    -- is unknown too
    ∷ alone (asdu 45 6 9 (1 ∷ [])) (Some (asdu 45 (64 + 46) 9 (1 ∷ [])))
    ∷ alone (45 ∷ 1 ∷ 6 ∷ 0 ∷ 255 ∷ 255 ∷ 10 ∷ 0 ∷ 0 ∷ 1 ∷ []) (Some (45 ∷ 1 ∷ (64 + 46) ∷ 0 ∷ 255
    ∷ 255 ∷ 10 ∷ 0 ∷ 0 ∷ 1 ∷ []))
    ∷ alone (100 ∷ 1 ∷ 6 ∷ 0 ∷ 3 ∷ 1 ∷ 0 ∷ 0 ∷ 0 ∷ 20 ∷ []) (Some (100 ∷ 1 ∷ (64 + 46) ∷ 0 ∷ 3 ∷ 1
    ∷ 0 ∷ 0 ∷ 0 ∷ 20 ∷ []))
    ∷ alone (asdu 100 6 9 (20 ∷ [])) (Some (asdu 100 (64 + 46) 9 (20 ∷ [])))
    ∷ alone (100 ∷ 1 ∷ 6 ∷ 0 ∷ 255 ∷ 255 ∷ 0 ∷ 0 ∷ 0 ∷ 20 ∷ []) None
    -- 4: an interrogation of object 10; a command to object 0, to the last that the line can name,
    -- and past it; before the form, which is wrong too
    ∷ alone (asdu 100 6 3 (20 ∷ [])) (Some (asdu 100 (64 + 47) 3 (20 ∷ [])))
    ∷ alone (of_object 45 6 0 0 0) (Some (of_object 45 (64 + 47) 0 0 0))
    ∷ alone (of_object 45 6 255 255 0) None
    ∷ alone (of_object 45 6 0 0 1) (Some (of_object 45 (64 + 47) 0 0 1))
    ∷ alone (45 ∷ 2 ∷ 6 ∷ 0 ∷ 3 ∷ 0 ∷ 0 ∷ 0 ∷ 0 ∷ 1 ∷ []) (Some (45 ∷ 2 ∷ (64 + 47) ∷ 0 ∷ 3 ∷ 0 ∷ 0
    ∷ 0 ∷ 0 ∷ 1 ∷ []))
    -- 5: SQ 1, two objects, an octet too few and one too many
    ∷ alone (45 ∷ 129 ∷ 6 ∷ 0 ∷ 3 ∷ 0 ∷ 10 ∷ 0 ∷ 0 ∷ 1 ∷ []) (Some (45 ∷ 129 ∷ (64 + 7) ∷ 0 ∷ 3 ∷ 0
    ∷ 10 ∷ 0 ∷ 0 ∷ 1 ∷ []))
    ∷ alone (45 ∷ 2 ∷ 6 ∷ 0 ∷ 3 ∷ 0 ∷ 10 ∷ 0 ∷ 0 ∷ 1 ∷ []) (Some (45 ∷ 2 ∷ (64 + 7) ∷ 0 ∷ 3 ∷ 0 ∷
    10 ∷ 0 ∷ 0 ∷ 1 ∷ []))
    ∷ alone (asdu 45 6 3 []) (Some (asdu 45 (64 + 7) 3 []))
    ∷ alone (asdu 45 8 3 (1 ∷ 0 ∷ [])) (Some (asdu 45 (64 + 9) 3 (1 ∷ 0 ∷ [])))
    ∷ alone (asdu 48 6 3 (1 ∷ 2 ∷ [])) (Some (asdu 48 (64 + 7) 3 (1 ∷ 2 ∷ [])))
    ∷ alone (asdu 48 6 3 (1 ∷ 2 ∷ 3 ∷ [])) None
    ∷ alone (asdu 49 6 3 (1 ∷ 2 ∷ 3 ∷ [])) None
    -- 6: the states of a double and of a step command, the qualifiers of an interrogation
    ∷ alone (asdu 46 6 3 (0 ∷ [])) (Some (asdu 46 (64 + 7) 3 (0 ∷ [])))
    ∷ alone (asdu 46 6 3 (1 ∷ [])) None
    ∷ alone (asdu 46 6 3 (2 ∷ [])) None
    ∷ alone (asdu 46 8 3 (3 ∷ [])) (Some (asdu 46 (64 + 9) 3 (3 ∷ [])))
    ∷ alone (asdu 47 6 3 (132 ∷ [])) (Some (asdu 47 (64 + 7) 3 (132 ∷ [])))
    ∷ alone (asdu 47 6 3 (6 ∷ [])) None
    ∷ alone (100 ∷ 1 ∷ 6 ∷ 0 ∷ 3 ∷ 0 ∷ 0 ∷ 0 ∷ 0 ∷ 19 ∷ []) (Some (100 ∷ 1 ∷ (64 + 7) ∷ 0 ∷ 3 ∷ 0 ∷
    0 ∷ 0 ∷ 0 ∷ 19 ∷ []))
    ∷ alone (100 ∷ 1 ∷ 6 ∷ 0 ∷ 3 ∷ 0 ∷ 0 ∷ 0 ∷ 0 ∷ 36 ∷ []) None
    ∷ alone (100 ∷ 1 ∷ 8 ∷ 0 ∷ 3 ∷ 0 ∷ 0 ∷ 0 ∷ 0 ∷ 37 ∷ []) (Some (100 ∷ 1 ∷ (64 + 9) ∷ 0 ∷ 3 ∷ 0 ∷
    0 ∷ 0 ∷ 0 ∷ 37 ∷ []))
    -- 7: executes of each type without a select, to a station that asks for it and to one that
    -- doesn't; selects and deactivations need none
    ∷ alone (asdu 45 6 1 (1 ∷ [])) (Some (asdu 45 71 1 (1 ∷ [])))
    ∷ alone (asdu 46 6 1 (1 ∷ [])) (Some (asdu 46 71 1 (1 ∷ [])))
    ∷ alone (asdu 47 6 1 (1 ∷ [])) (Some (asdu 47 71 1 (1 ∷ [])))
    ∷ alone (asdu 48 6 1 (52 ∷ 18 ∷ 0 ∷ [])) (Some (asdu 48 71 1 (52 ∷ 18 ∷ 0 ∷ [])))
    ∷ alone (asdu 49 134 1 (52 ∷ 18 ∷ 127 ∷ [])) (Some (asdu 49 199 1 (52 ∷ 18 ∷ 127 ∷ [])))
    ∷ alone (asdu 45 6 3 (1 ∷ [])) None
    ∷ alone (asdu 45 6 1 (129 ∷ [])) None
    ∷ alone (asdu 49 6 1 (52 ∷ 18 ∷ 128 ∷ [])) None
    ∷ alone (asdu 45 8 1 (1 ∷ [])) None
    -- 8: 64 commands wait, and 63; 16 selections of other objects are kept, one of which is of this
    -- object
    ∷ example (replicate 64 (judge (asdu 45 6 3 (1 ∷ [])) 1)) 2 (asdu 45 6 3 (1 ∷ [])) (Some (asdu
    45 71 3 (1 ∷ [])))
    ∷ example (replicate 63 (judge (asdu 45 6 3 (1 ∷ [])) 1)) 2 (asdu 45 6 3 (1 ∷ [])) None
    ∷ example (map (λ (n : ℕ). judge (45 ∷ 1 ∷ 6 ∷ 0 ∷ 1 ∷ 0 ∷ n ∷ 1 ∷ 0 ∷ 129 ∷ []) 1) (down_from
    15 [])) 2 (asdu 45 6 1 (129 ∷ [])) (Some (asdu 45 71 1 (129 ∷ [])))
    ∷ example (map (λ (n : ℕ). judge (45 ∷ 1 ∷ 6 ∷ 0 ∷ 1 ∷ 0 ∷ n ∷ 1 ∷ 0 ∷ 129 ∷ []) 1) (down_from
    15 [])) 2 (45 ∷ 1 ∷ 6 ∷ 0 ∷ 1 ∷ 0 ∷ 7 ∷ 1 ∷ 0 ∷ 129 ∷ []) None
    ∷ example (map (λ (n : ℕ). judge (45 ∷ 1 ∷ 6 ∷ 0 ∷ 1 ∷ 0 ∷ n ∷ 1 ∷ 0 ∷ 129 ∷ []) 1) (down_from
    14 [])) 2 (asdu 45 6 1 (129 ∷ [])) None
    ∷ []

-- ---- Selections

-- a command came at 50, went out, was accepted, and the station answered it so at 80
abbrev pub selected : List ℕ → AsduValue → List Call
selected select answer = Mirror answer 80 ∷ Accept 0 ∷ PutOnLine 0 ∷ judge select 50 ∷ []

-- the select of a single command, on, of station 1, and the positive confirmation
abbrev pub confirmed : List Call
confirmed = selected (asdu 45 6 1 (129 ∷ [])) (mirror CScNa1 7 1 (129 ∷ []))

-- the same select and confirmation at these moments
abbrev pub confirmed_at_moments : (came con : ℕ) → List Call
confirmed_at_moments came con =
    Mirror (mirror CScNa1 7 1 (129 ∷ [])) con ∷ Accept 0 ∷ PutOnLine 0
    ∷ judge (asdu 45 6 1 (129 ∷ [])) came ∷ []

-- its execute, and the negative answer to it
abbrev pub execute : List ℕ
execute = asdu 45 6 1 (1 ∷ [])

abbrev pub refused : Option (List ℕ)
refused = Some (asdu 45 71 1 (1 ∷ []))

abbrev pub selection_examples : List Example
selection_examples =
    example confirmed 90 execute None
    -- the qualifier QU differs, and is the same
    ∷ example (selected (asdu 45 6 1 (133 ∷ [])) (mirror CScNa1 7 1 (133 ∷ []))) 90 execute refused
    ∷ example (selected (asdu 45 6 1 (133 ∷ [])) (mirror CScNa1 7 1 (133 ∷ []))) 90 (asdu 45 6 1 (5
    ∷ [])) None
    -- on and off
    ∷ example confirmed 90 (asdu 45 6 1 (0 ∷ [])) (Some (asdu 45 71 1 (0 ∷ [])))
    -- another type, common address or object address
    ∷ example confirmed 90 (asdu 46 6 1 (1 ∷ [])) (Some (asdu 46 71 1 (1 ∷ [])))
    ∷ example confirmed 90 (asdu 45 6 2 (1 ∷ [])) (Some (asdu 45 71 2 (1 ∷ [])))
    ∷ example confirmed 90 (45 ∷ 1 ∷ 6 ∷ 0 ∷ 1 ∷ 0 ∷ 10 ∷ 1 ∷ 0 ∷ 1 ∷ []) (Some (45 ∷ 1 ∷ 71 ∷ 0 ∷
    1 ∷ 0 ∷ 10 ∷ 1 ∷ 0 ∷ 1 ∷ []))
    -- set points: the low octet, the high octet and the qualifier differ, and none does
    ∷ example (selected (asdu 49 6 1 (128 ∷ 1 ∷ 128 ∷ [])) (mirror CSeNb1 7 1 (128 ∷ 1 ∷ 128 ∷
    []))) 90 (asdu 49 6 1 (129 ∷ 1 ∷ 0 ∷ [])) (Some (asdu 49 71 1 (129 ∷ 1 ∷ 0 ∷ [])))
    ∷ example (selected (asdu 49 6 1 (128 ∷ 1 ∷ 128 ∷ [])) (mirror CSeNb1 7 1 (128 ∷ 1 ∷ 128 ∷
    []))) 90 (asdu 49 6 1 (128 ∷ 2 ∷ 0 ∷ [])) (Some (asdu 49 71 1 (128 ∷ 2 ∷ 0 ∷ [])))
    ∷ example (selected (asdu 48 6 1 (128 ∷ 1 ∷ 128 ∷ [])) (mirror CSeNa1 7 1 (128 ∷ 1 ∷ 128 ∷
    []))) 90 (asdu 48 6 1 (128 ∷ 1 ∷ 1 ∷ [])) (Some (asdu 48 71 1 (128 ∷ 1 ∷ 1 ∷ [])))
    ∷ example (selected (asdu 48 6 1 (128 ∷ 1 ∷ 128 ∷ [])) (mirror CSeNa1 7 1 (128 ∷ 1 ∷ 128 ∷
    []))) 90 (asdu 48 6 1 (128 ∷ 1 ∷ 0 ∷ [])) None
    -- the test bit of select and execute: of the one alone, of the other alone, of both
    ∷ example confirmed 90 (asdu 45 134 1 (1 ∷ [])) (Some (asdu 45 199 1 (1 ∷ [])))
    ∷ example (selected (asdu 45 134 1 (129 ∷ [])) (mirror CScNa1 135 1 (129 ∷ []))) 90 execute
    refused
    ∷ example (selected (asdu 45 134 1 (129 ∷ [])) (mirror CScNa1 135 1 (129 ∷ []))) 90 (asdu 45
    134 1 (1 ∷ [])) None
    -- P/N of the execute is not compared (this gateway's own profile)
    ∷ example confirmed 90 (asdu 45 70 1 (1 ∷ [])) None
    -- the confirmation: of the other test bit; of cause 6, 9 and 10; negative, without and with the
    -- test bit
    ∷ example (selected (asdu 45 6 1 (129 ∷ [])) (mirror CScNa1 135 1 (129 ∷ []))) 90 execute None
    ∷ example (selected (asdu 45 6 1 (129 ∷ [])) (mirror CScNa1 6 1 (129 ∷ []))) 90 execute refused
    ∷ example (selected (asdu 45 6 1 (129 ∷ [])) (mirror CScNa1 9 1 (129 ∷ []))) 90 execute refused
    ∷ example (selected (asdu 45 6 1 (129 ∷ [])) (mirror CScNa1 10 1 (129 ∷ []))) 90 execute refused
    ∷ example (selected (asdu 45 6 1 (129 ∷ [])) (mirror CScNa1 71 1 (129 ∷ []))) 90 execute refused
    ∷ example (selected (asdu 45 6 1 (129 ∷ [])) (mirror CScNa1 199 1 (129 ∷ []))) 90 execute
    refused
    -- of another element, type or common address; of two objects
    ∷ example (selected (asdu 45 6 1 (129 ∷ [])) (mirror CScNa1 7 1 (1 ∷ []))) 90 execute refused
    ∷ example (selected (asdu 45 6 1 (129 ∷ [])) (mirror CDcNa1 7 1 (129 ∷ []))) 90 execute refused
    ∷ example (selected (asdu 45 6 1 (129 ∷ [])) (mirror CScNa1 7 2 (129 ∷ []))) 90 execute refused
    ∷ example (selected (asdu 45 6 1 (129 ∷ [])) (record (mirror CScNa1 7 1 (129 ∷ [])) {
      infos =
          record { address = 10; element = 129 ∷ []; tag = None } ∷ record {
            address = 11;
            element =
                129 ∷ [];
            tag = None;
          } ∷ [];
    })) 90 execute refused
    -- ---- what ends it: a negative confirmation, alone and of several objects, and one of another
    -- object
    ∷ example (Mirror (mirror CScNa1 71 1 (129 ∷ [])) 85 ∷ confirmed) 90 execute refused
    ∷ example (Mirror (mirror CScNa1 199 1 (0 ∷ [])) 85 ∷ confirmed) 90 execute refused
    ∷ example (Mirror (record (mirror CScNa1 71 1 (129 ∷ [])) {
      infos = record {
        address = 9;
        element = 129 ∷ [];
        tag = None;
      } ∷ record { address = 10; element = 129 ∷ []; tag = None }
          ∷ [];
    }) 85 ∷ confirmed) 90 execute refused
    ∷ example (Mirror (record (mirror CScNa1 71 1 (129 ∷ [])) {
      infos = record {
        address = 9;
        element = 129 ∷ [];
        tag = None;
      } ∷ [];
    }) 85 ∷ confirmed) 90 execute None
    ∷ example (Mirror (mirror CScNa1 71 2 (129 ∷ [])) 85 ∷ confirmed) 90 execute None
    -- a deactivation and an execute of its target, of another target, and one that is malformed
    ∷ example (judge (asdu 45 8 1 (1 ∷ [])) 85 ∷ confirmed) 90 execute refused
    ∷ example (judge (asdu 45 8 1 (129 ∷ [])) 85 ∷ confirmed) 90 execute refused
    ∷ example (judge execute 85 ∷ confirmed) 90 execute refused
    ∷ example (judge (asdu 45 6 1 (0 ∷ [])) 85 ∷ confirmed) 90 execute refused
    ∷ example (judge (asdu 46 8 1 (1 ∷ [])) 85 ∷ confirmed) 90 execute None
    ∷ example (judge (asdu 45 8 2 (1 ∷ [])) 85 ∷ confirmed) 90 execute None
    ∷ example (judge (asdu 45 8 1 (1 ∷ 0 ∷ [])) 85 ∷ confirmed) 90 execute None
    -- another select of its target, until that one is confirmed
    ∷ example (judge (asdu 45 6 1 (129 ∷ [])) 85 ∷ confirmed) 90 execute refused
    ∷ example (Mirror (mirror CScNa1 7 1 (129 ∷ [])) 86 ∷ judge (asdu 45 6 1 (129 ∷ [])) 85 ∷
    confirmed) 90 execute refused
    ∷ example (Mirror (mirror CScNa1 7 1 (129 ∷ [])) 86 ∷ Accept 0 ∷ PutOnLine 0 ∷ judge (asdu 45 6
    1 (129 ∷ [])) 85 ∷ confirmed) 90 execute None
    -- the older of two selects that wait was accepted and confirmed
    ∷ example (Mirror (mirror CScNa1 7 1 (129 ∷ [])) 80 ∷ Accept 0 ∷ PutOnLine 0
    ∷ judge (asdu 45 6 1 (129 ∷ [])) 60 ∷ judge (asdu 45 6 1 (129 ∷ [])) 50 ∷ []) 90 execute refused
    -- the end of the connection
    ∷ example (Cut ∷ confirmed) 90 execute refused
    -- the select was never accepted: it waits still, is on the line, was busy, was lost
    ∷ example (Mirror (mirror CScNa1 7 1 (129 ∷ [])) 80 ∷ judge (asdu 45 6 1 (129 ∷ [])) 50 ∷ [])
    90 execute refused
    ∷ example (Mirror (mirror CScNa1 7 1 (129 ∷ [])) 80 ∷ PutOnLine 0 ∷ judge (asdu 45 6 1 (129 ∷
    [])) 50 ∷ []) 90 execute refused
    ∷ example (Mirror (mirror CScNa1 7 1 (129 ∷ [])) 80 ∷ Busy 0 ∷ PutOnLine 0 ∷ judge (asdu 45 6 1
    (129 ∷ [])) 50 ∷ []) 90 execute refused
    ∷ example (Mirror (mirror CScNa1 7 1 (129 ∷ [])) 80 ∷ Lose 0 ∷ PutOnLine 0 ∷ judge (asdu 45 6 1
    (129 ∷ [])) 50 ∷ []) 90 execute refused
    ∷ example (Mirror (mirror CScNa1 7 1 (129 ∷ [])) 80 ∷ Accept 1 ∷ PutOnLine 0 ∷ judge (asdu 45 6
    1 (129 ∷ [])) 50 ∷ []) 90 execute refused
    -- nothing stands on the line when the station accepts
    ∷ example (Mirror (mirror CScNa1 7 1 (129 ∷ [])) 80 ∷ Accept 0 ∷ Busy 0 ∷ PutOnLine 0
    ∷ judge (asdu 45 6 1 (129 ∷ [])) 50 ∷ []) 90 execute refused
    ∷ example (Mirror (mirror CScNa1 7 1 (129 ∷ [])) 80 ∷ Accept 0 ∷ Lose 0 ∷ PutOnLine 0
    ∷ judge (asdu 45 6 1 (129 ∷ [])) 50 ∷ []) 90 execute refused
    -- another command goes out between acceptance and confirmation
    ∷ example (Mirror (mirror CScNa1 7 1 (129 ∷ [])) 80 ∷ PutOnLine 0
    ∷ judge (asdu 46 6 1 (129 ∷ [])) 60 ∷ Accept 0 ∷ PutOnLine 0
    ∷ judge (asdu 45 6 1 (129 ∷ [])) 50 ∷ []) 90 execute None
    -- what another station does is no matter
    ∷ example (Busy 1 ∷ Lose 2 ∷ PutOnLine 1 ∷ Accept 0 ∷ confirmed) 90 execute None
    -- its time: since the confirmation, and from the select to the confirmation
    ∷ example confirmed 10079 execute None
    ∷ example confirmed 10080 execute refused
    ∷ example (Due 10079 ∷ confirmed) 10079 execute None
    ∷ example (Due 10080 ∷ confirmed) 10079 execute refused
    ∷ example (Mirror (mirror CScNa1 7 1 (129 ∷ [])) 10049 ∷ Accept 0 ∷ PutOnLine 0 ∷ judge (asdu
    45 6 1 (129 ∷ [])) 50 ∷ []) 20048 execute None
    ∷ example (Mirror (mirror CScNa1 7 1 (129 ∷ [])) 10050 ∷ Accept 0 ∷ PutOnLine 0 ∷ judge (asdu
    45 6 1 (129 ∷ [])) 50 ∷ []) 10051 execute refused
    ∷ []

-- ---- What goes to the line

-- after these calls, the newest first, this waits for the station of this number
pub record LineExample : Type 0 where
  pub calls : List Call
  pub number : ℕ
  pub waits : Option (List ℕ)

abbrev pub WaitsSo : LineExample → Type 0
WaitsSo e = octets_waiting e.number (run stations sizes 10000 10000 e.calls).state ≡ e.waits

abbrev pub waiting : List Call → ℕ → Option (List ℕ) → LineExample
waiting calls number waits = record { calls = calls; number = number; waits = waits }

-- the global interrogation, with an originator
abbrev pub for_all : List ℕ
for_all = 100 ∷ 1 ∷ 6 ∷ 7 ∷ 255 ∷ 255 ∷ 0 ∷ 0 ∷ 0 ∷ 20 ∷ []

abbrev pub line_examples : List LineExample
line_examples =
    -- each station gets it with its own common address
    waiting (judge for_all 1 ∷ []) 0 (Some (100 ∷ 1 ∷ 6 ∷ 1 ∷ 0 ∷ 0 ∷ 20 ∷ []))
    ∷ waiting (judge for_all 1 ∷ []) 2 (Some (100 ∷ 1 ∷ 6 ∷ 3 ∷ 0 ∷ 0 ∷ 20 ∷ []))
    ∷ waiting (judge for_all 1 ∷ []) 3 None
    ∷ waiting (PutOnLine 0 ∷ judge for_all 1 ∷ []) 0 None
    ∷ waiting (PutOnLine 0 ∷ judge for_all 1 ∷ []) 1 (Some (100 ∷ 1 ∷ 6 ∷ 2 ∷ 0 ∷ 0 ∷ 20 ∷ []))
    ∷ waiting (Cut ∷ judge for_all 1 ∷ []) 0 None
    -- a set point, and the older of two
    ∷ waiting (judge (asdu 49 134 3 (52 ∷ 18 ∷ 5 ∷ [])) 1 ∷ []) 2 (Some (49 ∷ 1 ∷ 134 ∷ 3 ∷ 10 ∷ 0
    ∷ 52 ∷ 18 ∷ 5 ∷ []))
    ∷ waiting (judge (asdu 49 134 3 (52 ∷ 18 ∷ 5 ∷ [])) 1 ∷ []) 0 None
    ∷ waiting (judge (asdu 45 6 3 (1 ∷ [])) 2 ∷ judge (asdu 45 6 3 (0 ∷ [])) 1 ∷ []) 2 (Some (45 ∷
    1 ∷ 6 ∷ 3 ∷ 10 ∷ 0 ∷ 0 ∷ []))
    ∷ waiting (PutOnLine 2 ∷ judge (asdu 45 6 3 (1 ∷ [])) 2 ∷ judge (asdu 45 6 3 (0 ∷ [])) 1 ∷ [])
    2 (Some (45 ∷ 1 ∷ 6 ∷ 3 ∷ 10 ∷ 0 ∷ 1 ∷ []))
    -- with a tag: the plain type, without it
    ∷ waiting (Judge (asdu 61 134 3 (52 ∷ 18 ∷ 5 ∷ good)) 1 (Some 1709210096789) ∷ []) 2 (Some (48
    ∷ 1 ∷ 134 ∷ 3 ∷ 10 ∷ 0 ∷ 52 ∷ 18 ∷ 5 ∷ []))
    ∷ []

-- ---- Time tags

-- the instant of `good`
abbrev pub instant : ℕ
instant = 1709210096789

-- this tag, in place of `good`
abbrev pub tagged : ℕ → ℕ → ℕ → List ℕ → List ℕ
tagged kind cause ca tag = asdu kind cause ca (1 ∷ tag)

-- a command of type 58 to station 3 comes at this moment of the wall
abbrev pub at_wall : ℕ → List ℕ → Option (List ℕ) → Example
at_wall wall comes answer = example_at (Some wall) [] 1 comes answer

abbrev pub negative : List ℕ → Option (List ℕ)
negative tag = Some (tagged 58 71 3 tag)

-- the select and the execute of type 58 to station 1
abbrev pub tagged_select : List ℕ
tagged_select = asdu 58 6 1 (129 ∷ good)

abbrev pub tagged_execute : List ℕ
tagged_execute = asdu 58 6 1 (1 ∷ good)

-- the select was confirmed, by its type on the line
abbrev pub tagged_confirmed : List Call
tagged_confirmed =
    Mirror (mirror CScNa1 7 1 (129 ∷ [])) 80 ∷ Accept 0 ∷ PutOnLine 0
    ∷ Judge tagged_select 50 (Some instant) ∷ []

abbrev pub tagged_refused : Option (List ℕ)
tagged_refused = Some (asdu 58 71 1 (1 ∷ good))

abbrev pub tag_examples : List Example
tag_examples =
    -- the wall isn't known; the tag is at most 10000 ms before it, and behind it
    example [] 1 (tagged 58 6 3 good) (negative good)
    ∷ at_wall instant (tagged 58 6 3 good) None
    ∷ at_wall (instant + 10000) (tagged 58 6 3 good) None
    ∷ at_wall (instant + 10001) (tagged 58 6 3 good) (negative good)
    ∷ at_wall 1709210086789 (tagged 58 6 3 good) None
    ∷ at_wall 1709210086788 (tagged 58 6 3 good) (negative good)
    -- 60000 ms of a minute; 30 February; a Friday; IV; no day of the week; SU
    ∷ at_wall instant (tagged 58 6 3 (96 ∷ 234 ∷ 34 ∷ 12 ∷ 157 ∷ 2 ∷ 24 ∷ [])) (negative (96 ∷ 234
    ∷ 34 ∷ 12 ∷ 157 ∷ 2 ∷ 24 ∷ []))
    ∷ at_wall 1709296496789 (tagged 58 6 3 (213 ∷ 221 ∷ 34 ∷ 12 ∷ 30 ∷ 2 ∷ 24 ∷ [])) (negative (213
    ∷ 221 ∷ 34 ∷ 12 ∷ 30 ∷ 2 ∷ 24 ∷ []))
    ∷ at_wall instant (tagged 58 6 3 (213 ∷ 221 ∷ 34 ∷ 12 ∷ 189 ∷ 2 ∷ 24 ∷ [])) (negative (213 ∷ 221
    ∷ 34 ∷ 12 ∷ 189 ∷ 2 ∷ 24 ∷ []))
    ∷ at_wall instant (tagged 58 6 3 (213 ∷ 221 ∷ 162 ∷ 12 ∷ 157 ∷ 2 ∷ 24 ∷ [])) (negative (213
    ∷ 221 ∷ 162 ∷ 12 ∷ 157 ∷ 2 ∷ 24 ∷ []))
    ∷ at_wall instant (tagged 58 6 3 (213 ∷ 221 ∷ 34 ∷ 12 ∷ 29 ∷ 2 ∷ 24 ∷ [])) None
    ∷ at_wall instant (tagged 58 6 3 (213 ∷ 221 ∷ 34 ∷ 140 ∷ 157 ∷ 2 ∷ 24 ∷ [])) None
    -- a deactivation is of any age; a command without a tag needs no wall
    ∷ example [] 1 (tagged 58 8 3 good) None
    ∷ at_wall 0 (asdu 45 6 3 (1 ∷ [])) None
    -- the rules before: type, cause, station, object; a state that is not permitted; lengths of
    -- another type; SQ 1 and two objects
    ∷ at_wall instant (tagged 57 6 3 good) (Some (tagged 57 (64 + 44) 3 good))
    ∷ at_wall instant (tagged 63 6 3 good) (Some (tagged 63 (64 + 44) 3 good))
    ∷ at_wall instant (tagged 58 5 3 good) (Some (tagged 58 (64 + 45) 3 good))
    ∷ at_wall instant (tagged 58 6 9 good) (Some (tagged 58 (64 + 46) 9 good))
    ∷ at_wall instant (58 ∷ 1 ∷ 6 ∷ 0 ∷ 3 ∷ 0 ∷ 0 ∷ 0 ∷ 0 ∷ 1 ∷ good) (Some (58 ∷ 1 ∷ (64 + 47) ∷ 0
    ∷ 3 ∷ 0 ∷ 0 ∷ 0 ∷ 0 ∷ 1 ∷ good))
    ∷ at_wall instant (asdu 59 6 3 (0 ∷ good)) (Some (asdu 59 71 3 (0 ∷ good)))
    ∷ at_wall instant (asdu 59 6 3 (1 ∷ good)) None
    ∷ at_wall instant (asdu 60 8 3 (3 ∷ good)) (Some (asdu 60 (64 + 9) 3 (3 ∷ good)))
    ∷ at_wall instant (asdu 60 6 3 (130 ∷ good)) None
    ∷ at_wall instant (asdu 61 6 3 (52 ∷ 18 ∷ 0 ∷ good)) None
    ∷ at_wall instant (asdu 62 6 3 (1 ∷ good)) (Some (asdu 62 71 3 (1 ∷ good)))
    ∷ at_wall instant (asdu 58 6 3 (1 ∷ [])) (Some (asdu 58 71 3 (1 ∷ [])))
    ∷ at_wall instant (asdu 45 6 3 (1 ∷ good)) (Some (asdu 45 71 3 (1 ∷ good)))
    ∷ at_wall instant (58 ∷ 129 ∷ 6 ∷ 0 ∷ 3 ∷ 0 ∷ 10 ∷ 0 ∷ 0 ∷ 1 ∷ good) (Some (58 ∷ 129 ∷ 71 ∷ 0
    ∷ 3 ∷ 0 ∷ 10 ∷ 0 ∷ 0 ∷ 1 ∷ good))
    ∷ at_wall instant (58 ∷ 2 ∷ 6 ∷ 0 ∷ 3 ∷ 0 ∷ 10 ∷ 0 ∷ 0 ∷ 1 ∷ good) (Some (58 ∷ 2 ∷ 71 ∷ 0 ∷ 3
    ∷ 0 ∷ 10 ∷ 0 ∷ 0 ∷ 1 ∷ good))
    -- an execute of type 62 without a select
    ∷ at_wall instant (asdu 62 6 1 (52 ∷ 18 ∷ 0 ∷ good)) (Some (asdu 62 71 1 (52 ∷ 18 ∷ 0 ∷ good)))
    -- a select serves executes of the type that it was received with, whatever their tags
    ∷ example_at (Some instant) tagged_confirmed 90 tagged_execute None
    ∷ example_at (Some instant) tagged_confirmed 90 (asdu 58 6 1 (1 ∷ 213 ∷ 221 ∷ 34 ∷ 12 ∷ 29 ∷ 2
    ∷ 24 ∷ [])) None
    ∷ example_at (Some instant) tagged_confirmed 90 execute refused
    ∷ example_at (Some instant) confirmed 90 tagged_execute tagged_refused
    -- a stale execute ends no selection; a deactivation and an execute of the plain type do
    ∷ example_at (Some instant) (Judge tagged_execute 85 None ∷ tagged_confirmed) 90 tagged_execute
    None
    ∷ example_at (Some instant) (judge (asdu 45 8 1 (1 ∷ [])) 85 ∷ tagged_confirmed) 90
    tagged_execute tagged_refused
    ∷ example_at (Some instant) (judge execute 85 ∷ tagged_confirmed) 90 tagged_execute
    tagged_refused
    -- the wall went back in between
    ∷ example_at (Some (instant + 10001)) tagged_confirmed 90 tagged_execute tagged_refused
    ∷ []

-- ---- Tags of mirrors

-- after these calls, the newest first, a station's answer is passed on with this tag
pub record MirrorExample : Type 0 where
  pub calls : List Call
  pub answer : AsduValue
  pub tag : Option (List ℕ)

abbrev pub BearsIt : MirrorExample → Type 0
BearsIt e =
    option_map (λ tag. tag.0)
    (tag_for e.answer e.answer.infos (run stations sizes 10000 10000 e.calls).state) ≡ e.tag

abbrev pub bears : List Call → AsduValue → Option (List ℕ) → MirrorExample
bears calls answer tag = record { calls = calls; answer = answer; tag = tag }

-- a command comes and goes out to station 3
abbrev pub goes : List ℕ → List Call → List Call
goes xs earlier = PutOnLine 2 ∷ Judge xs 1 (Some instant) ∷ earlier

-- so many others go out
abbrev pub others : ℕ → List ℕ → List Call → List Call
others zero xs earlier = earlier
others (suc n) xs earlier = goes xs (others n xs earlier)

abbrev pub one_tagged : List Call
one_tagged = goes (tagged 58 6 3 good) []

abbrev pub other : List ℕ
other = asdu 46 6 3 (1 ∷ [])

abbrev pub mirror_examples : List MirrorExample
mirror_examples =
    -- it waits, it went out, the station answers twice, negatively, and the connection ended
    bears (Judge (tagged 58 6 3 good) 1 (Some instant) ∷ []) (mirror CScNa1 7 3 (1 ∷ [])) None
    ∷ bears one_tagged (mirror CScNa1 7 3 (1 ∷ [])) (Some good)
    ∷ bears (Mirror (mirror CScNa1 7 3 (1 ∷ [])) 2 ∷ one_tagged) (mirror CScNa1 10 3 (1 ∷ [])) (Some
    good)
    ∷ bears one_tagged (mirror CScNa1 199 3 (0 ∷ [])) (Some good)
    ∷ bears (Cut ∷ one_tagged) (mirror CScNa1 7 3 (1 ∷ [])) None
    -- of another type or common address, of another object, of two objects
    ∷ bears one_tagged (mirror CDcNa1 7 3 (1 ∷ [])) None
    ∷ bears one_tagged (mirror CScNa1 7 2 (1 ∷ [])) None
    ∷ bears one_tagged (record (mirror CScNa1 7 3 []) {
      infos = record { address = 11; element = 1 ∷ []; tag = None } ∷ [];
    }) None
    ∷ bears one_tagged (record (mirror CScNa1 7 3 []) {
      infos =
          record { address = 10; element = 1 ∷ []; tag = None }
          ∷ record { address = 10; element = 1 ∷ []; tag = None } ∷ [];
    }) None
    -- the newest of its type and addresses: without a tag, and with another one
    ∷ bears (goes (asdu 45 6 3 (1 ∷ [])) one_tagged) (mirror CScNa1 7 3 (1 ∷ [])) None
    ∷ bears (goes (tagged 58 8 3 (1 ∷ 2 ∷ 3 ∷ 4 ∷ 5 ∷ 6 ∷ 7 ∷ [])) one_tagged) (mirror CScNa1 7 3 (1
    ∷ [])) (Some (1 ∷ 2 ∷ 3 ∷ 4 ∷ 5 ∷ 6 ∷ 7 ∷ []))
    ∷ bears (goes (tagged 58 6 3 good) (goes (asdu 45 6 3 (1 ∷ [])) [])) (mirror CScNa1 7 3 (1 ∷
    [])) (Some good)
    -- the sixteenth and the seventeenth sending; interrogations don't count
    ∷ bears (others 15 other one_tagged) (mirror CScNa1 7 3 (1 ∷ [])) (Some good)
    ∷ bears (others 16 other one_tagged) (mirror CScNa1 7 3 (1 ∷ [])) None
    ∷ bears (others 16 (100 ∷ 1 ∷ 6 ∷ 0 ∷ 3 ∷ 0 ∷ 0 ∷ 0 ∷ 0 ∷ 20 ∷ []) one_tagged) (mirror CScNa1
    7 3 (1 ∷ [])) (Some good)
    ∷ []
