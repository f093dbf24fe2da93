-- By which rule an ASDU from the control centre is refused, for those who report it; and what a
-- judgement looks at besides the settings.
use Rattle.std.specs.Prelude.{ℕ, ◌+◌, ◌-◌, Bool, not, ◌&&◌, ◌||◌, ◌==◌, nat_lt, nat_le}
use Rattle.std.specs.Prelude.{if◌then◌else◌, List, [], ◌∷◌, ◌++◌, length, map, count_by, Option}
use Rattle.std.specs.Prelude.{Some, None}
use Rattle.std.specs.List.{filter_map, list_any}
use Rattle.elements.specs.TimeTag.{verdict_of}
use Rattle.elements.specs.declared.tag.Verdict.{Verdict}
use Rattle.elements.specs.declared.tag.Verdict.TheVariants.{Good}
use Rattle.command.specs.Command.{command_at, is_permitted, is_execute}
use Rattle.command.specs.Selection.{advanced, lets_through, target_of}
use Rattle.command.specs.Tags.{tag_octets}
use Rattle.command.specs.Stations.{is_addressed, is_guarded, station_number}
use Rattle.command.specs.State.{State}
use Rattle.command.specs.Judging.{is_single, fault, ends_selection, without_selection}
use Rattle.command.specs.Judging.{lacks_selection, lacks_place, makes_selection}
use Rattle.command.specs.declared.content.Command.{Command}
use Rattle.command.specs.declared.refusal.Refusal.{Refusal}
use Rattle.command.specs.declared.refusal.Refusal.TheVariants as refusal
use Rattle.command.specs.declared.selection.Selection.{Selection}
use Rattle.command.specs.declared.selection.SelectStage.{SelectStage}
use Rattle.command.specs.declared.selection.SelectStage.TheVariants.{Queued}
use Rattle.command.specs.declared.selection.Sign.TheVariants as sign

-- ---- The rule

-- a time tag that isn't recent
abbrev pub tag_rule : Option ℕ → Verdict → Refusal
tag_rule (Some wall) (Good instant) =
    if nat_le instant wall then refusal.TagOld (wall - instant)
    else refusal.TagAhead (instant - wall)
tag_rule None (Good instant) = refusal.WallUnknown
tag_rule wall verdict = refusal.TagInvalid

-- the form of the command, then its age
abbrev pub form_rule : Option ℕ → List ℕ → Refusal
form_rule wall xs =
    if not (is_single xs) then refusal.NotOneObject
    else (if not (is_permitted (command_at xs)) then refusal.NotPermitted
    else tag_rule wall (verdict_of (tag_octets xs)))

-- by the cause of the answer to a fault of the ASDU alone (IEC 60870-5-101, 7.2.3: 44 to 47)
abbrev pub fault_rule : (cause : ℕ) → Option ℕ → List ℕ → Refusal
fault_rule cause wall xs =
    if cause == 44 then refusal.TypeUnknown
    else (if cause == 45 then refusal.CauseUnknown
    else (if cause == 46 then refusal.AddressUnknown
    else (if cause == 47 then refusal.ObjectUnknown
    else form_rule wall xs)))

abbrev pub place_rule : Command → State → Option Refusal
place_rule c s = if lacks_place c s then Some refusal.NoPlace else None

-- a command without a fault
abbrev pub admission_rule : Command → ℕ → State → Option Refusal
admission_rule c now s =
    if lacks_selection c now s then Some refusal.NotSelected
    else place_rule c (if ends_selection c then without_selection c s else s)

abbrev pub rule_by : Option ℕ → List ℕ → ℕ → Option ℕ → State → Option Refusal
rule_by (Some cause) xs now wall s = Some (fault_rule cause wall xs)
rule_by None xs now wall s = admission_rule (command_at xs) now s

-- the rule by which the ASDU is refused, the first that applies, or none if it is forwarded
abbrev pub refusal_of : List ℕ → ℕ → Option ℕ → State → Option Refusal
refusal_of xs now wall s =
    rule_by (fault s.sizes s.stations s.max_age_ms wall xs) xs now wall s

-- ---- What a judgement looks at

-- how many commands wait, and the selections
pub record Seen : Type 0 where
  pub waiting : ℕ
  pub selections : List Selection

abbrev pub settled_stage : SelectStage → SelectStage
settled_stage (Queued ahead) = Queued 0
settled_stage stage = stage

-- behind how many commands a select waits is left out: until it is sent it lets nothing through
abbrev pub settled : Selection → Selection
settled z = record z { stage = settled_stage z.stage }

abbrev pub glance_of : State → Seen
glance_of s = record { waiting = length s.waiting; selections = map settled s.selections }

-- The same rules by what was seen: the settings are those of the state

abbrev pub seen_others : State → Command → Seen → List Selection
seen_others s c g = filter_map (advanced s.select_ms (sign.Over (target_of c))) g.selections

abbrev pub seen_lacks_selection : State → Command → ℕ → Seen → Bool
seen_lacks_selection s c now g =
    is_guarded s.stations c && is_execute c
    && not (list_any (lets_through s.select_ms c now) g.selections)

abbrev pub seen_lacks_place : State → Command → Seen → Bool
seen_lacks_place s c g =
    nat_lt 64 (g.waiting + count_by (is_addressed c) s.stations)
    || (makes_selection s.stations c && nat_le 16 (length (seen_others s c g)))

abbrev pub seen_selection : State → Command → ℕ → Selection
seen_selection s c now = record {
  station = station_number c.ca s.stations;
  command = c;
  came = now;
  stage = Queued 0;
}

-- it is forwarded
abbrev pub seen_forwarded : State → Command → ℕ → Seen → Seen
seen_forwarded s c now g = record {
  waiting = g.waiting + count_by (is_addressed c) s.stations;
  selections = if makes_selection s.stations c
      then seen_others s c g ++ seen_selection s c now ∷ []
      else g.selections;
}

abbrev pub seen_placed : State → Command → ℕ → Seen → Option Refusal × Seen
seen_placed s c now g =
    if seen_lacks_place s c g then (Some refusal.NoPlace, g)
    else (None, seen_forwarded s c now g)

abbrev pub seen_ended : State → Command → Seen → Seen
seen_ended s c g = if ends_selection c then record g { selections = seen_others s c g } else g

abbrev pub seen_admitted : State → Command → ℕ → Seen → Option Refusal × Seen
seen_admitted s c now g =
    if seen_lacks_selection s c now g then (Some refusal.NotSelected, seen_ended s c g)
    else seen_placed s c now (seen_ended s c g)

abbrev pub seen_by : Option ℕ → List ℕ → ℕ → Option ℕ → State → Seen → Option Refusal × Seen
seen_by (Some cause) xs now wall s g = (Some (fault_rule cause wall xs), g)
seen_by None xs now wall s g = seen_admitted s (command_at xs) now g

abbrev pub seen_judged : State → List ℕ → ℕ → Option ℕ → Seen → Option Refusal × Seen
seen_judged s xs now wall g =
    seen_by (fault s.sizes s.stations s.max_age_ms wall xs) xs now wall s g
