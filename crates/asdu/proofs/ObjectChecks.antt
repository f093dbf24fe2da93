-- The definitions, computed for short ASDUs.
use Rattle.std.proofs.Common.{◌≡◌, ℕ, List, [], ◌∷◌, Some, None, refl}
use Rattle.elements.specs.declared.types.TypeId.TheVariants.{MSpNa1, MMeNa1, MSpTb1}
use Rattle.elements.specs.Types.{type_of}
use Rattle.asdu.specs.declared.sizes.CauseSize.TheVariants as causes
use Rattle.asdu.specs.declared.sizes.CaSize.TheVariants as cas
use Rattle.asdu.specs.declared.sizes.IoaSize.TheVariants as ioas
use Rattle.asdu.specs.declared.sizes.Sizes.{Sizes}
use Rattle.asdu.specs.Sizes.{tcp}
use Rattle.asdu.specs.Refusals.{refusal}
use Rattle.asdu.specs.InformationObjects.{InformationObject, objects_of, monitor_objects_of}
use Rattle.asdu.specs.Translation.{parts}

abbrev small : Sizes
small = record { cause = causes.One; ca = cas.One; ioa = ioas.One }

abbrev point : ℕ → ℕ → List ℕ → InformationObject
point cause a octets = record {
  kind = MSpNa1;
  cause = cause;
  originator = 0;
  ca = 1;
  address = a;
  element =
      octets;
  tag = None;
}

abbrev measured : ℕ → List ℕ → InformationObject
measured a octets = record {
  kind = MMeNa1;
  cause = 3;
  originator = 7;
  ca = 513;
  address = a;
  element = octets;
  tag =
      None;
}

abbrev tagged_point : List ℕ → List ℕ → InformationObject
tagged_point octets tag = record {
  kind = MSpTb1;
  cause = 3;
  originator = 0;
  ca = 1;
  address = 100;
  element =
      octets;
  tag = Some tag;
}

two_points : objects_of small (1 ∷ 2 ∷ 3 ∷ 1 ∷ 100 ∷ 1 ∷ 50 ∷ 240 ∷ []) ≡ point 3 100 (1 ∷ [])
    ∷ point 3 50 (240 ∷ [])
    ∷ []
unfolding objects_of type_of
two_points = refl

two_in_sequence : objects_of tcp (9 ∷ 130 ∷ 3 ∷ 7 ∷ 1 ∷ 2 ∷ 10 ∷ 0 ∷ 0 ∷ 0 ∷ 128 ∷ 0 ∷ 255 ∷ 255
    ∷ 128 ∷ [])
    ≡ measured 10 (0 ∷ 128 ∷ 0 ∷ []) ∷ measured 11 (255 ∷ 255 ∷ 128 ∷ []) ∷ []
unfolding objects_of type_of
two_in_sequence = refl

one_tagged : objects_of small (30 ∷ 1 ∷ 3 ∷ 1 ∷ 100 ∷ 129 ∷ 213 ∷ 221 ∷ 34 ∷ 12 ∷ 157 ∷ 2 ∷ 23 ∷ [])
    ≡ tagged_point (129 ∷ []) (213 ∷ 221 ∷ 34 ∷ 12 ∷ 157 ∷ 2 ∷ 23 ∷ []) ∷ []
unfolding objects_of type_of
one_tagged = refl

-- a negative 'unknown type' has its objects, and none is passed on
unknown_type : objects_of small (1 ∷ 1 ∷ 108 ∷ 1 ∷ 100 ∷ 1 ∷ []) ≡ point 108 100 (1 ∷ []) ∷ []
unfolding objects_of type_of
unknown_type = refl

not_passed_on : monitor_objects_of small (1 ∷ 1 ∷ 108 ∷ 1 ∷ 100 ∷ 1 ∷ []) ≡ []
unfolding monitor_objects_of objects_of type_of
not_passed_on = refl

tested_not_passed_on : monitor_objects_of small (1 ∷ 1 ∷ 236 ∷ 1 ∷ 100 ∷ 1 ∷ []) ≡ []
unfolding monitor_objects_of objects_of type_of
tested_not_passed_on = refl

passed_on : monitor_objects_of small (1 ∷ 1 ∷ 109 ∷ 1 ∷ 100 ∷ 1 ∷ []) ≡ point 109 100 (1 ∷ []) ∷ []
unfolding monitor_objects_of objects_of type_of
passed_on = refl

-- commands, an octet too many, and a type that isn't known
command : monitor_objects_of small (45 ∷ 1 ∷ 7 ∷ 1 ∷ 100 ∷ 1 ∷ []) ≡ []
unfolding monitor_objects_of objects_of type_of
command = refl

too_long : objects_of small (1 ∷ 1 ∷ 3 ∷ 1 ∷ 100 ∷ 1 ∷ 0 ∷ []) ≡ []
unfolding objects_of type_of
too_long = refl

unknown : refusal small (63 ∷ 1 ∷ 6 ∷ 1 ∷ 100 ∷ 1 ∷ []) ≡ Some 2
unfolding type_of
unknown = refl

-- the last address is past one octet
past_size : refusal small (1 ∷ 130 ∷ 3 ∷ 1 ∷ 255 ∷ 1 ∷ 1 ∷ []) ≡ Some 5
unfolding type_of
past_size = refl

one_part : parts small (1 ∷ 2 ∷ 3 ∷ 1 ∷ 100 ∷ 1 ∷ 50 ∷ 240 ∷ []) ≡ 1
unfolding parts type_of
one_part = refl

no_part : parts small (1 ∷ 2 ∷ 3 ∷ 1 ∷ 100 ∷ 1 ∷ 50 ∷ []) ≡ 0
unfolding parts type_of
no_part = refl
