-- How a command stands on the line.
use Rattle.std.proofs.Common.{◌≡◌, ℕ, true, List, ◌∷◌, ◌++◌, slice_index, refl, sym, ap, ◌∙◌}
use Rattle.byteorder.specs.Endian.{little_bytes}
use Rattle.asdu.specs.Asdu.{originator_octets}
use Rattle.asdu.specs.Sizes.{ca_len, ioa_len}
use Rattle.asdu.specs.declared.sizes.Sizes.{Sizes}
use Rattle.command.specs.declared.station.StationInfo.{StationInfo}
use Rattle.command.specs.Command.{is_command_type, command_at, element_octets}
use Rattle.command.specs.Judging.{is_single}
use Rattle.command.specs.History.{line_octets}
use Rattle.command.specs.LineForms.{LinesAreSpelled}
use Rattle.command.specs.Numbers.{command_with, one_octet, set_point, one_octet_tagged}
use Rattle.command.specs.Numbers.{set_point_tagged}
use Rattle.command.proofs.Spelled.{is_spelled}
use Rattle.command.proofs.ReadAlike.{object_read}
use Rattle.command.specs.Standard.{object_address}

form : (sizes : Sizes) (station : StationInfo) (xs : List ℕ)
    → is_command_type (slice_index xs 0) ≡ true → is_single xs ≡ true
    → line_octets sizes xs station
    ≡ (command_at xs).kind ∷ 1 ∷ slice_index xs 2
    ∷ (originator_octets sizes.cause (slice_index xs 3)
    ++ (little_bytes (ca_len sizes.ca) station.ca
    ++ (little_bytes (ioa_len sizes.ioa) (object_address xs)
    ++ element_octets (command_at xs).element)))
form sizes station xs known single =
    sym (is_spelled sizes station.ca xs known single)
    ∙ ap (λ (o : ℕ). (command_at xs).kind ∷ 1 ∷ slice_index xs 2
    ∷ (originator_octets sizes.cause (slice_index xs 3)
    ++ (little_bytes (ca_len sizes.ca) station.ca
    ++ (little_bytes (ioa_len sizes.ioa) o
    ++ element_octets (command_at xs).element)))) (object_read xs)

pub lines_are_spelled : LinesAreSpelled
lines_are_spelled = record {
  single = λ x sizes station n.
      form sizes station (command_with 45 n (one_octet x)) refl refl;
  double = λ x sizes station n.
      form sizes station (command_with 46 n (one_octet x)) refl refl;
  step = λ x sizes station n.
      form sizes station (command_with 47 n (one_octet x)) refl refl;
  normalised = λ a b x sizes station n.
      form sizes station (command_with 48 n (set_point a b x)) refl refl;
  scaled = λ a b x sizes station n.
      form sizes station (command_with 49 n (set_point a b x)) refl refl;
  tagged_single = λ t x sizes station n.
      form sizes station (command_with 58 n (one_octet_tagged t x)) refl refl;
  tagged_double = λ t x sizes station n.
      form sizes station (command_with 59 n (one_octet_tagged t x)) refl refl;
  tagged_step = λ t x sizes station n.
      form sizes station (command_with 60 n (one_octet_tagged t x)) refl refl;
  tagged_normalised = λ t a b x sizes station n.
      form sizes station (command_with 61 n (set_point_tagged t a b x)) refl refl;
  tagged_scaled = λ t a b x sizes station n.
      form sizes station (command_with 62 n (set_point_tagged t a b x)) refl refl;
  interrogation = λ x sizes station n.
      form sizes station (command_with 100 n (one_octet x)) refl refl;
}
