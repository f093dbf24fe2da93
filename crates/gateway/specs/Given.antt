-- What is due to the control centre is given: by what became of commands, an answer of the
-- gateway's own is handed over as soon as it is due, and a station's answer by all pieces that
-- carry it (IEC 60870-5-101, 7.2.3; that a full list of answers ends the connection is profile).
use Rattle.std.specs.Prelude.{◌≡◌, ◌⊎◌, ℕ, true, false, List, [], ◌∷◌, ◌++◌, Option, Some}
use Rattle.std.specs.Prelude.{None, option_map}
use Rattle.asdu.specs.declared.sizes.Sizes.{Sizes}
use Rattle.asdu.specs.Asdu.{AsduValue, IsAsdu}
use Rattle.elements.specs.declared.tag.Cp56.{Cp56}
use Rattle.link.specs.declared.outcome.Outcome.{Outcome}
use Rattle.link.specs.declared.outcome.Outcome.TheVariants as outcome
use Rattle.command.specs.History.{History, Judged, Refused, Mirrored, Offered, mirror_tag}
use Rattle.gateway.specs.Reports.{Setup}
use Rattle.gateway.specs.Tags.{AreTagged}
use Rattle.gateway.specs.Works.{IsPassedOn, is_command_report}

-- the answer that the latest of these leaves due: that of an ASDU that isn't forwarded, or of a
-- command that a busy station had
abbrev pub due_in : History → Option (List ℕ)
due_in (Judged now wall asdu answer ∷ h) = answer
due_in (Refused k answer ∷ h) = answer
due_in h = None

-- one more piece of a station's answer was kept
abbrev pub with_piece : List ℕ → Option (AsduValue × List (List ℕ)) →
    Option (AsduValue × List (List ℕ))
with_piece octets None = None
with_piece octets (Some passed) = Some (passed.0, passed.1 ++ octets ∷ [])

-- a station's answer, if nothing else came since, and the pieces of it that were kept
abbrev pub passed_on : History → Option (AsduValue × List (List ℕ))
passed_on (Mirrored now v ∷ h) = Some (v, [])
passed_on (Offered octets true ∷ h) = with_piece octets (passed_on h)
passed_on h = None

-- The octets are the next of the pieces that carry a station's answer, behind these.
pub record IsPieceOf (sizes : Sizes) (v : AsduValue) (done : List (List ℕ))
    (octets : List ℕ) : Type 0 where
  pub report : List ℕ
  pub plain : List (List ℕ)
  pub passed : IsPassedOn sizes v report plain
  pub tag : Option Cp56
  pub pieces : List (List ℕ)
  pub tagged : AreTagged tag plain pieces
  pub rest : List (List ℕ)
  pub are : pieces ≡ done ++ octets ∷ rest

abbrev pub IsNextPiece : Sizes → Option (AsduValue × List (List ℕ)) → List ℕ → Type 0
IsNextPiece sizes None octets = ⊥
IsNextPiece sizes (Some passed) octets = IsPieceOf sizes passed.0 passed.1 octets

-- what is handed over next is what is due; if nothing is, it is the next piece of a station's
-- answer
abbrev pub IsOwed : Sizes → Option (List ℕ) → History → List ℕ → Type 0
IsOwed sizes (Some answer) h octets = octets ≡ answer
IsOwed sizes None h octets = IsNextPiece sizes (passed_on h) octets

-- Each answer that is due is handed over before anything else becomes of commands, once; and
-- nothing else is handed over but the pieces of stations' answers, each once and in their order.
abbrev pub GivesWhatIsDue : Sizes → History → Type 0
GivesWhatIsDue sizes [] = Unit {0}
GivesWhatIsDue sizes (Offered octets kept ∷ h) =
    IsOwed sizes (due_in h) h octets × GivesWhatIsDue sizes h
GivesWhatIsDue sizes (_ ∷ h) = (due_in h ≡ None) × GivesWhatIsDue sizes h

-- The pieces are handed over one after another, behind what became of commands before: all of them,
-- or up to the first that finds no place.
abbrev pub AreHandedOver : (pieces : List (List ℕ)) → (before after : History) → Type 0
AreHandedOver [] before after = after ≡ before
AreHandedOver (x ∷ xs) before after =
    (after ≡ Offered x false ∷ before) ⊎ AreHandedOver xs (Offered x true ∷ before) after

-- A station's answer to a command is passed on by all pieces that carry it, with the tag of the
-- command that it answers.
pub record IsGivenOn (p : Setup) (at : ℕ) (report : List ℕ) (before after : History) : Type 0 where
  pub value : AsduValue
  pub plain : List (List ℕ)
  pub passed : IsPassedOn p.sizes value report plain
  pub tag : Option Cp56
  pub newest : option_map (λ t. t.0) tag
      ≡ mirror_tag p.sizes p.stations p.select_ms p.max_age_ms value value.infos before
  pub pieces : List (List ℕ)
  pub tagged : AreTagged tag plain pieces
  pub given : AreHandedOver pieces (Mirrored at value ∷ before) after

-- if an exchange brings a station's answer to a command, that is given on
abbrev pub GivesAnswer : Setup → (at : ℕ) → Outcome → (before after : History) → Type 0
GivesAnswer p at (outcome.Report station asdu) before after =
    is_command_report p.sizes asdu.items ≡ true → IsGivenOn p at asdu.items before after
GivesAnswer p at other before after = Unit {0}

-- while data transfer is stopped, a station's answer to a command isn't passed on
abbrev pub KeepsAnswerBack : Setup → (at : ℕ) → Outcome → (before after : History) → Type 0
KeepsAnswerBack p at (outcome.Report station asdu) before after =
    is_command_report p.sizes asdu.items ≡ true →
    (value : AsduValue) × IsAsdu p.sizes value asdu.items × (after ≡ Mirrored at value ∷ before)
KeepsAnswerBack p at other before after = Unit {0}
