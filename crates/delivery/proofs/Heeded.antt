-- A station's answer to a command is known by its type, and given on while data transfer runs.
use Rattle.std.specs.Prelude.{slice_index, map, if◌then◌else◌}
use Rattle.std.proofs.Common.{◌≡◌, ℕ, ◌%◌, ◌≤◌, Bool, true, false, Some, None, List, []}
use Rattle.std.proofs.Common.{◌∷◌, length, refl, ap, sym, subst, ◌∙◌, arith}
use Rattle.elements.specs.Types.{row}
use Rattle.elements.specs.declared.types.TypeId.{TypeId}
use Rattle.asdu.specs.declared.sizes.Sizes.{Sizes}
use Rattle.asdu.specs.Asdu.{AsduValue, Info, IsAsdu}
use Rattle.asdu.specs.InformationObjects.{InformationObject, object_in}
use Rattle.command.specs.History.{History, Mirrored}
use Rattle.link.specs.declared.outcome.Outcome.{Outcome}
use Rattle.link.specs.declared.outcome.Outcome.TheVariants as outcome
use Rattle.gateway.specs.Counting.{is_answer_type, is_answer_code}
use Rattle.gateway.specs.Given.{GivesAnswer, KeepsAnswerBack, IsGivenOn}
use Rattle.gateway.specs.Reports.{Setup}
use Rattle.gateway.specs.Works.{is_command_by, is_command_report}
use Rattle.delivery.specs.Answers.{answer_in, IsGivenOnce, IsGivenInPieces, IsHeeded}
use Rattle.delivery.proofs.Answers.{ObjectsLaw}

-- what is proved of types, of places, and of answers that are given on
pub record Laws : Type 0 where
  pub types : (t : TypeId) → is_answer_type t ≡ is_answer_code (row t).code
  pub objects : ObjectsLaw
  pub kind : (s : Sizes) (u : AsduValue) (xs : List ℕ) → IsAsdu s u xs
      → slice_index xs 0 ≡ (row u.kind).code
  pub one : (p : Setup) (at : ℕ) (report : List ℕ) (before after : History)
      → IsGivenOn p at report before after → slice_index report 1 % 128 ≡ 1
      → IsGivenOnce p at report before after
  pub more : (p : Setup) (at : ℕ) (report : List ℕ) (before after : History)
      → IsGivenOn p at report before after → 2 ≤ slice_index report 1 % 128
      → IsGivenInPieces p at report before after

module _ (laws : Laws) (p : Setup) where
  first : (v : AsduValue) (is : List Info) → 1 ≤ length is
      → is_answer_code (row v.kind).code ≡ true → is_command_by (map (object_in v) is) ≡ true
  first v [] some code = absurd (omega (arith, some))
  first v (i ∷ is) some code = laws.types v.kind ∙ code

  command_report : (v : AsduValue) (report : List ℕ) → IsAsdu p.sizes v report
      → is_answer_code (slice_index report 0) ≡ true → is_command_report p.sizes report ≡ true
  command_report v report is code =
      ap (λ (os : List InformationObject). is_command_by os) (laws.objects p.sizes v report is)
      ∙ first v v.infos is.value.some
      (subst (λ (n : ℕ). is_answer_code n ≡ true) (laws.kind p.sizes v report is) code)

  heeded_report : (running : Bool) (at : ℕ) (report : List ℕ) (before after : History)
      (v : AsduValue) → IsAsdu p.sizes v report → is_answer_code (slice_index report 0) ≡ true
      → (running ≡ true → is_command_report p.sizes report ≡ true
      → IsGivenOn p at report before after)
      → (running ≡ false → is_command_report p.sizes report ≡ true
      → (value : AsduValue) × IsAsdu p.sizes value report
      × (after ≡ Mirrored at value ∷ before))
      → IsHeeded p running at report before after
  heeded_report running at report before after v is code gives keeps =
      let of = command_report v report is code in
      record {
        one = λ runs n. laws.one p at report before after (gives runs of) n;
        more = λ runs n. laws.more p at report before after (gives runs of) n;
        stopped = λ stops. keeps stops of;
      }

  same_some : (xs ys : List ℕ) → Some xs ≡ Some ys → xs ≡ ys
  same_some xs ys e = cc

  pub heeded : (running : Bool) (at : ℕ) (o : Outcome) (before after : History)
      → (running ≡ true → GivesAnswer p at o before after)
      → (running ≡ false → KeepsAnswerBack p at o before after) → (report : List ℕ)
      (v : AsduValue) → answer_in o ≡ Some report → IsAsdu p.sizes v report
      → IsHeeded p running at report before after
  heeded running at (outcome.Report station asdu) before after gives keeps report v e is =
      by_code (is_answer_code (slice_index asdu.items 0)) refl e
    where
      so : is_answer_code (slice_index asdu.items 0) ≡ true → asdu.items ≡ report
          → IsHeeded p running at report before after
      so code same = subst (λ (xs : List ℕ). IsHeeded p running at xs before after) same
          (heeded_report running at asdu.items before after v
          (subst (λ (xs : List ℕ). IsAsdu p.sizes v xs) (sym same) is) code gives keeps)

      by_code : (b : Bool) → is_answer_code (slice_index asdu.items 0) ≡ b
          → (if b then Some asdu.items else None) ≡ Some report
          → IsHeeded p running at report before after
      by_code true code e = so code (same_some asdu.items report e)
      by_code false code e = absurd (nothing report e)
        where
          nothing : (xs : List ℕ) → None ≡ Some xs → ⊥
          nothing xs e = cc
  heeded running at (outcome.Accepted station) before after gives keeps report v e is = cc
  heeded running at (outcome.Busy station) before after gives keeps report v e is = cc
  heeded running at (outcome.Down station) before after gives keeps report v e is = cc
  heeded running at outcome.None before after gives keeps report v e is = cc
  heeded running at (outcome.Started station) before after gives keeps report v e is = cc
  heeded running at (outcome.StartedGap station session) before after gives keeps report v e is = cc
  heeded running at (outcome.Empty station) before after gives keeps report v e is = cc
