-- What is counted as skipped are the reports that are skipped.
use Rattle.std.specs.Prelude.{◌==◌, slice_index, map}
use Rattle.std.proofs.Common.{◌≡◌, ℕ, suc, ◌&&◌, Bool, true, false, not, Option, Some, None, List}
use Rattle.std.proofs.Common.{[], ◌∷◌, ◌++◌, length, refl, ap, sym, ◌∙◌, arith, rules}
use Rattle.std.proofs.Common.{if◌then◌else◌}
use Rattle.std.proofs.lemmas.Bool.{eqb-true}
use Rattle.elements.specs.declared.types.TypeId.{TypeId}
use Rattle.elements.specs.Types.{type_of}
use Rattle.asdu.specs.declared.sizes.Sizes.{Sizes}
use Rattle.asdu.specs.Asdu.{AsduValue, Info}
use Rattle.asdu.specs.Fields.{value_at}
use Rattle.asdu.specs.Refusals.{is_read}
use Rattle.asdu.specs.InformationObjects.{InformationObject, object_in, typed_objects, objects_of}
use Rattle.asdu.specs.InformationObjects.{is_passed_on, is_typed_passed_on, only_if}
use Rattle.asdu.specs.InformationObjects.{monitor_objects_of}
use Rattle.std.specs.Io.Iter.{u64_saturate}
use Rattle.gateway.specs.declared.counts.Tally.{Tally}
use Rattle.gateway.specs.Objects.{monitor_objects}
use Rattle.gateway.specs.Serial.{Serial, loss_counted}
use Rattle.gateway.specs.Counting.{one_more, one_skipped, is_answer_type, counted_by}
use Rattle.gateway.specs.Counting.{counted}
use Rattle.gateway.specs.Works.{is_command_by, is_command_report}
use Rattle.delivery.specs.Joined.{is_skipped, skipped_among}

-- one more, if there is nothing to be passed on
abbrev skips_if : Bool → ℕ → ℕ
skips_if b n = if b then one_more n else n

no_objects : (passed : Bool) (n : ℕ) → one_more n ≡ skips_if (length (only_if passed []) == 0) n
no_objects true n = refl
no_objects false n = refl

some_object : (n : ℕ) → (suc n == 0) ≡ false
some_object n = go (suc n == 0) refl
  where
    go : (b : Bool) → (suc n == 0) ≡ b → b ≡ false
    go true e = let no : suc n ≡ 0 = eqb-true (suc n) 0 e in absurd (omega (arith, no))
    go false e = refl

by_first : (answers passed : Bool) (c : Tally) (o : InformationObject) (os : List InformationObject)
    → answers ≡ false →
    (if answers then c else (if passed then c else one_skipped c)).skipped
    ≡ skips_if (length (only_if passed (o ∷ os)) == 0) c.skipped
by_first true passed c o os h = cc
by_first false true c o os h =
    ap (λ (b : Bool). skips_if b c.skipped) (sym (some_object (length os)))
by_first false false c o os h = refl

by_infos : (v : AsduValue) (infos : List Info) (c : Tally) → is_command_by (map (object_in v) infos)
    ≡ false →
    (counted_by (map (object_in v) infos) c).skipped ≡ skips_if
    (length (only_if (is_passed_on v.kind v.cause) (map (object_in v) infos)) == 0) c.skipped
by_infos v [] c h = no_objects (is_passed_on v.kind v.cause) c.skipped
by_infos v (i ∷ infos) c h = by_first (is_answer_type v.kind) (is_passed_on v.kind v.cause) c
    (object_in v i)
    (map (object_in v) infos) h

by_parts : (sizes : Sizes) (xs : List ℕ) (reads : Bool) (t : Option TypeId) (c : Tally)
    → is_command_by (if reads then typed_objects sizes t xs else []) ≡ false →
    (counted_by (if reads then typed_objects sizes t xs else []) c).skipped
    ≡ skips_if (length (only_if (is_typed_passed_on t (slice_index xs 2))
    (if reads then typed_objects sizes t xs else [])) == 0) c.skipped
by_parts sizes xs false t c h = no_objects (is_typed_passed_on t (slice_index xs 2)) c.skipped
by_parts sizes xs true None c h = refl
by_parts sizes xs true (Some t) c h = by_infos (value_at sizes t xs) (value_at sizes t xs).infos c h

counting : (sizes : Sizes) (xs : List ℕ) (c : Tally) → is_command_report sizes xs ≡ false
    → (counted sizes xs c).skipped ≡ skips_if (length (monitor_objects sizes xs) == 0) c.skipped
unfolding objects_of monitor_objects_of
counting sizes xs c h = by_parts sizes xs (is_read sizes xs) (type_of (slice_index xs 0)) c h

-- ---- One more report

abbrev skipped_by : (skips : Bool) → ℕ → ℕ
skipped_by true n = suc n
skipped_by false n = n

skipped_more : (sizes : Sizes) (rs : List (ℕ × List ℕ)) (r : ℕ × List ℕ)
    → skipped_among sizes (rs ++ r ∷ [])
    ≡ skipped_by (is_skipped sizes r.1) (skipped_among sizes rs)
skipped_more sizes [] r = go (is_skipped sizes r.1)
  where
    go : (b : Bool) → (if b then suc 0 else 0) ≡ skipped_by b 0
    go true = refl
    go false = refl
skipped_more sizes (x ∷ rs) r = go (is_skipped sizes x.1) (is_skipped sizes r.1)
    (skipped_more sizes rs r)
  where
    go : (b c : Bool) → skipped_among sizes (rs ++ r ∷ []) ≡ skipped_by c (skipped_among sizes rs) →
        (if b then suc (skipped_among sizes (rs ++ r ∷ [])) else skipped_among sizes (rs ++ r ∷ []))
        ≡ skipped_by c (if b then suc (skipped_among sizes rs) else skipped_among sizes rs)
    go true true ih = ap suc ih
    go true false ih = ap suc ih
    go false true ih = ih
    go false false ih = ih

one_saturated : (n : ℕ) → one_more (u64_saturate n) ≡ u64_saturate (suc n)
one_saturated n = omega arith

-- a report that is no answer to a command
pub skip_one : (sizes : Sizes) (station : ℕ) (report : List ℕ) (c : Tally) (rs : List (ℕ × List ℕ))
    → is_command_report sizes report ≡ false → c.skipped ≡ u64_saturate (skipped_among sizes rs) →
    (counted sizes report c).skipped
    ≡ u64_saturate (skipped_among sizes (rs ++ (station, report) ∷ []))
skip_one sizes station report c rs plain h = go (length (monitor_objects sizes report) == 0)
    (is_command_report sizes report) plain (counting sizes report c plain)
    (skipped_more sizes rs (station, report))
  where
    go : (none command : Bool) → command ≡ false → (counted sizes report c).skipped
        ≡ skips_if none c.skipped
        → skipped_among sizes (rs ++ (station, report) ∷ [])
        ≡ skipped_by (none && not command) (skipped_among sizes rs) →
        (counted sizes report c).skipped
        ≡ u64_saturate (skipped_among sizes (rs ++ (station, report) ∷ []))
    go none true is count more = cc
    go true false is count more = count ∙ ap one_more h ∙ one_saturated (skipped_among sizes rs)
        ∙ ap u64_saturate (sym more)
    go false false is count more = count ∙ h ∙ ap u64_saturate (sym more)

-- one that is
pub skip_none : (sizes : Sizes) (station : ℕ) (report : List ℕ) (rs : List (ℕ × List ℕ))
    → is_command_report sizes report ≡ true → skipped_among sizes (rs ++ (station, report) ∷ [])
    ≡ skipped_among sizes rs
skip_none sizes station report rs command = go (length (monitor_objects sizes report) == 0)
    (is_command_report sizes report) command (skipped_more sizes rs (station, report))
  where
    go : (none command : Bool) → command ≡ true → skipped_among sizes (rs ++ (station, report) ∷ [])
        ≡ skipped_by (none && not command) (skipped_among sizes rs)
        → skipped_among sizes (rs ++ (station, report) ∷ []) ≡ skipped_among sizes rs
    go true true is more = more
    go false true is more = more
    go none false is more = cc

-- a command that is given up counts elsewhere
pub lost_skips : (station : ℕ) (s : Serial) → (loss_counted station s).skipped ≡ s.counts.skipped
lost_skips station s = grind rules

pub lost_mirrors : (station : ℕ) (s : Serial) → (loss_counted station s).mirrors ≡ s.counts.mirrors
lost_mirrors station s = grind rules
