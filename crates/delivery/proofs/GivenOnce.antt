-- A station's answer is given once, with the tag of its command, in ASDUs of as many objects as
-- fit.
use Rattle.std.specs.Prelude.{◌&&◌, nat_le, slice_index, option_map, if◌then◌else◌}
use Rattle.std.proofs.Common.{◌≡◌, ℕ, ◌+◌, ◌%◌, ◌<◌, ◌≤◌, ◌⊎◌, inl, inr, Bool, true, false}
use Rattle.std.proofs.Common.{Option, Some, None, List, [], ◌∷◌, ◌++◌, drop, refl, ap}
use Rattle.std.proofs.Common.{subst, ◌∙◌}
use Rattle.std.proofs.lemmas.Bool.{leb-true, leb-false}
use Rattle.elements.specs.declared.tag.Cp56.{Cp56}
use Rattle.command.specs.History.{History, Mirrored, Offered, mirror_tag}
use Rattle.gateway.specs.Given.{AreHandedOver, IsGivenOn}
use Rattle.gateway.specs.Reports.{Setup}
use Rattle.gateway.specs.Tags.{AreTagged}
use Rattle.delivery.specs.Answers.{answer_form, form_with, AreGiven, IsGivenOnce}
use Rattle.delivery.specs.Answers.AreGiven.{All, UpTo}

-- ---- Each once

pub given : (pieces : List (List ℕ)) (before after : History) → AreHandedOver pieces before after
    → AreGiven pieces before after
given [] before after h = All h
given (x ∷ xs) before after (inl e) = UpTo [] x xs refl e
given (x ∷ xs) before after (inr h) = more (given xs (Offered x true ∷ before) after h)
  where
    more : AreGiven xs (Offered x true ∷ before) after → AreGiven (x ∷ xs) before after
    more (All e) = All e
    more (UpTo done y rest are e) = UpTo (x ∷ done) y rest (ap (λ l. x ∷ l) are) e

-- ---- With its tag

-- what holds of an answer with one object: with a tag and types 45 to 49, with a tag and another
-- type, and without
abbrev pub TaggedLaw : Type 0
TaggedLaw = (tag : Cp56) (x : List ℕ) (pieces : List (List ℕ))
    → AreTagged (Some tag) (x ∷ []) pieces
    → 45 ≤ slice_index x 0 → slice_index x 0 ≤ 49 → slice_index x 1 % 128 ≡ 1
    → pieces ≡ ((slice_index x 0 + 13) ∷ (drop 1 x ++ tag.0)) ∷ []

abbrev pub OthersLaw : Type 0
OthersLaw = (tag : Cp56) (x : List ℕ) (pieces : List (List ℕ))
    → AreTagged (Some tag) (x ∷ []) pieces
    → (slice_index x 0 < 45) ⊎ (49 < slice_index x 0) → pieces ≡ x ∷ []

module _ (tagged : TaggedLaw) (others : OthersLaw) where
  with_tag : (tag : Cp56) (x : List ℕ) (pieces : List (List ℕ)) → slice_index x 1 % 128 ≡ 1
      → AreTagged (Some tag) (x ∷ []) pieces → pieces ≡ form_with (Some tag.0) x ∷ []
  with_tag tag x pieces one h =
      by_type (nat_le 45 (slice_index x 0)) (nat_le (slice_index x 0) 49) refl refl
    where
      by_type : (low high : Bool) → nat_le 45 (slice_index x 0) ≡ low
          → nat_le (slice_index x 0) 49 ≡ high
          → pieces ≡ (if low && high then (slice_index x 0 + 13) ∷ (drop 1 x ++ tag.0) else x) ∷ []
      by_type true true l g = tagged tag x pieces h (leb-true 45 (slice_index x 0) l)
          (leb-true (slice_index x 0) 49 g) one
      by_type true false l g = others tag x pieces h (inr (leb-false (slice_index x 0) 49 g))
      by_type false high l g = others tag x pieces h (inl (leb-false 45 (slice_index x 0) l))

  pub one_form : (tag : Option Cp56) (x : List ℕ) (pieces : List (List ℕ))
      → slice_index x 1 % 128 ≡ 1 → AreTagged tag (x ∷ []) pieces
      → pieces ≡ form_with (option_map (λ t. t.0) tag) x ∷ []
  one_form None x pieces one h = h
  one_form (Some tag) x pieces one h = with_tag tag x pieces one h

-- The one ASDU is handed over, with a place or without.
by_place : (p : Setup) (at : ℕ) (report octets : List ℕ) (before after : History)
    (g : IsGivenOn p at report before after) → octets ≡ form_with
    (mirror_tag p.sizes p.stations p.select_ms p.max_age_ms g.value g.value.infos before)
    (answer_form p.sizes report)
    → AreHandedOver (octets ∷ []) (Mirrored at g.value ∷ before) after
    → IsGivenOnce p at report before after
by_place p at report octets before after g is (inl e) = record {
  value = g.value;
  read = g.passed.value;
  kept = false;
  given = e ∙ ap (λ x. Offered x false ∷ Mirrored at g.value ∷ before) is;
}
by_place p at report octets before after g is (inr e) = record {
  value = g.value;
  read = g.passed.value;
  kept = true;
  given = e ∙ ap (λ x. Offered x true ∷ Mirrored at g.value ∷ before) is;
}

pub given_once : (p : Setup) (at : ℕ) (report : List ℕ) (before after : History)
    (g : IsGivenOn p at report before after)
    → g.pieces ≡ form_with
    (mirror_tag p.sizes p.stations p.select_ms p.max_age_ms g.value g.value.infos before)
    (answer_form p.sizes report) ∷ []
    → IsGivenOnce p at report before after
given_once p at report before after g e =
    by_place p at report _ before after g refl
    (subst (λ (l : List (List ℕ)). AreHandedOver l (Mirrored at g.value ∷ before) after) e g.given)

-- ---- Several objects

-- all of several objects have no tag
abbrev pub ManyLaw : Type 0
ManyLaw = (tag : Cp56) (x : List ℕ) (pieces : List (List ℕ)) → AreTagged (Some tag) (x ∷ []) pieces
    → 2 ≤ slice_index x 1 % 128 → pieces ≡ x ∷ []

pub untagged : ManyLaw → (tag : Option Cp56) (plain pieces : List (List ℕ))
    → ((x : List ℕ) → plain ≡ x ∷ [] → 2 ≤ slice_index x 1 % 128)
    → AreTagged tag plain pieces → pieces ≡ plain
untagged law None plain pieces many h = h
untagged law (Some tag) [] pieces many h = h
untagged law (Some tag) (x ∷ []) pieces many h = law tag x pieces h (many x refl)
untagged law (Some tag) (x ∷ y ∷ plain) pieces many h = h
