-- Each piece of a report that was taken needs one place.
use Rattle.std.proofs.Common.{◌≡◌, ℕ, ◌+◌, ◌==◌, Bool, true, false, Option, Some, None, List, []}
use Rattle.std.proofs.Common.{◌∷◌, length, drop, refl, ap, sym, ◌∙◌, length-append}
use Rattle.std.proofs.lemmas.List.{length-map}
use Rattle.std.specs.Prelude.{slice_index, if◌then◌else◌}
use Rattle.std.specs.Int.{div_ceil}
use Rattle.std.specs.List.{flat_map}
use Rattle.elements.specs.Types.{type_of}
use Rattle.elements.specs.declared.types.TypeId.{TypeId}
use Rattle.asdu.specs.declared.sizes.Sizes.{Sizes}
use Rattle.asdu.specs.Sizes.{ioa_len, header_len}
use Rattle.asdu.specs.Asdu.{AsduValue}
use Rattle.asdu.specs.Fields.{value_at, number_at, is_sequence}
use Rattle.asdu.specs.InformationObjects.{InformationObject}
use Rattle.asdu.specs.Refusals.{is_read}
use Rattle.asdu.specs.Translation.{parts, typed_parts, piece_size, piece_with, in_chunks}
use Rattle.asdu.specs.Translation.{report_pieces}
use Rattle.asdu.proofs.Chunks.{length-chunks}
use Rattle.asdu.proofs.Related.{no_monitor_objects}
use Rattle.asdu.proofs.Spelling.{length-infos_at}
use Rattle.gateway.specs.Objects.{monitor_objects, parts_of, typed_pieces, pieces_of_report}
use Rattle.gateway.specs.Reports.{parts_of_all}

counted : (v : AsduValue)
    → length (report_pieces v) ≡ div_ceil (length v.infos) (piece_size v.kind v.sequence)
unfolding report_pieces
counted v = length-map (in_chunks (piece_size v.kind v.sequence) v.infos) (piece_with v)
    ∙ length-chunks (piece_size v.kind v.sequence) _ v.infos

typed : (s : Sizes) (o : Option TypeId) (xs : List ℕ)
    → typed_parts o xs ≡ length (typed_pieces s o xs)
typed s None xs = refl
typed s (Some t) xs = sym (counted (value_at s t xs)
    ∙ ap (λ (n : ℕ). div_ceil n (piece_size t (is_sequence xs)))
    (length-infos_at t (ioa_len s.ioa) (is_sequence xs) (number_at xs) (drop (header_len s) xs)))

of_read : (s : Sizes) (xs : List ℕ) → is_read s xs ≡ true
    → parts s xs ≡ length (typed_pieces s (type_of (slice_index xs 0)) xs)
unfolding parts
of_read s xs h = rw h (typed s (type_of (slice_index xs 0)) xs)

one : (s : Sizes) (xs : List ℕ) → parts_of s xs ≡ length (pieces_of_report s xs)
one s xs = by_empty (length (monitor_objects s xs) == 0) refl
  where
    no_more : true ≡ false → ⊥
    no_more e = cc

    by_read : (b : Bool) → is_read s xs ≡ b → (length (monitor_objects s xs) == 0) ≡ false
        → parts s xs ≡ length (typed_pieces s (type_of (slice_index xs 0)) xs)
    by_read true h e = of_read s xs h
    by_read false h e = absurd (no_more (
        sym (ap (λ (os : List InformationObject). length os == 0) (no_monitor_objects s xs h)) ∙ e))

    by_empty : (b : Bool) → (length (monitor_objects s xs) == 0) ≡ b
        → (if b then 0 else parts s xs)
        ≡ length (if b then [] else typed_pieces s (type_of (slice_index xs 0)) xs)
    by_empty true e = refl
    by_empty false e = by_read (is_read s xs) refl e

pub all_places : (s : Sizes) (reports : List (ℕ × List ℕ))
    → parts_of_all s reports ≡ length (flat_map (λ report. pieces_of_report s report.1) reports)
all_places s [] = refl
all_places s (report ∷ reports) =
    ap (λ (n : ℕ). n + parts_of_all s reports) (one s report.1)
    ∙ ap (λ (n : ℕ). length (pieces_of_report s report.1) + n) (all_places s reports)
    ∙ sym (length-append (pieces_of_report s report.1)
    (flat_map (λ report. pieces_of_report s report.1) reports))
