-- The words for commands, and for what becomes of them (texts of this gateway's own profile; the
-- names of types are those of IEC 60870-5-101, 7.2.1).
use Rattle.std.specs.Prelude.{ℕ, ◌/◌, List, [], ◌++◌, Option, Some, None, codes}
use Rattle.std.specs.Fmt.{decimal}
use Rattle.std.specs.Option.{option_and}
use Rattle.elements.specs.Names as standard
use Rattle.elements.specs.Types.{type_of}
use Rattle.command.specs.declared.refusal.Refusal.{Refusal}
use Rattle.command.specs.declared.refusal.Refusal.TheVariants as refusal
use Rattle.runlog.specs.declared.order.OrderKind.{OrderKind}
use Rattle.runlog.specs.declared.order.OrderKind.TheVariants as act
use Rattle.runlog.specs.declared.order.Value.{Value}
use Rattle.runlog.specs.declared.order.Value.TheVariants as value
use Rattle.runlog.specs.declared.order.Order.{Order}
use Rattle.runlog.specs.declared.fate.Reason.{Reason}
use Rattle.runlog.specs.declared.fate.Reason.TheVariants as reason
use Rattle.runlog.specs.declared.fate.CommandFate.{CommandFate}
use Rattle.runlog.specs.declared.fate.CommandFate.TheVariants as fate

-- the standard's name of the type that an octet names, if this gateway carries the type
abbrev pub name_of : ℕ → Option (List ℕ)
name_of octet = option_and (type_of octet) (standard.type_name octet)

-- the name of the type, or else its number
abbrev pub type_words_by : Option (List ℕ) → ℕ → List ℕ
type_words_by (Some name) octet = name
type_words_by None octet = codes "type " ++ decimal octet

abbrev pub type_words : ℕ → List ℕ
type_words octet = type_words_by (name_of octet) octet

-- the name of the type behind a blank, or else nothing
abbrev pub type_name_by : Option (List ℕ) → List ℕ
type_name_by (Some name) = codes " " ++ name
type_name_by None = []

abbrev pub type_name : ℕ → List ℕ
type_name octet = type_name_by (name_of octet)

abbrev pub act_words : OrderKind → List ℕ
act_words act.Select = codes " select"
act_words act.Execute = codes " execute"
act_words act.Activate = codes " activate"
act_words act.Deactivate = codes " deactivate"
act_words act.Other = []

abbrev pub value_words : Value → List ℕ
value_words value.Off = codes " off"
value_words value.On = codes " on"
value_words value.Lower = codes " lower"
value_words value.Higher = codes " higher"
value_words (value.Number n) = codes " " ++ decimal n
value_words (value.Below n) = codes " -" ++ decimal n
value_words value.Unknown = []

-- a command: its type, what it wants, its common address and its object, and its value
abbrev pub order_words : Order → List ℕ
order_words o =
    codes "command " ++ type_words o.kind ++ act_words o.act
    ++ (codes " " ++ decimal o.ca ++ codes "/" ++ decimal o.object) ++ value_words o.value

-- by which rule a command is refused
abbrev pub rule_words : Refusal → List ℕ
rule_words refusal.TypeUnknown = codes "type not known"
rule_words refusal.CauseUnknown = codes "cause not known"
rule_words refusal.AddressUnknown = codes "common address not known"
rule_words refusal.ObjectUnknown = codes "object not known"
rule_words refusal.NotOneObject = codes "not one object"
rule_words refusal.NotPermitted = codes "qualifier not permitted"
rule_words (refusal.TagOld ms) = codes "time tag " ++ decimal (ms / 1000) ++ codes " s old"
rule_words (refusal.TagAhead ms) =
    codes "time tag " ++ decimal (ms / 1000) ++ codes " s in the future"
rule_words refusal.TagInvalid = codes "time tag invalid"
rule_words refusal.WallUnknown = codes "time of day not known yet"
rule_words refusal.NotSelected = codes "not selected"
rule_words refusal.NoPlace = codes "no place"

abbrev pub reason_words : Reason → List ℕ
reason_words (reason.Rule rule) = rule_words rule
reason_words reason.Closed = codes "its connection was closed"

-- what became of a command at its station
abbrev pub fate_words : CommandFate → ℕ → List ℕ
fate_words fate.Sent station = codes " sent to station " ++ decimal station
fate_words fate.Confirmed station = codes " confirmed by station " ++ decimal station
fate_words fate.Denied station = codes " refused by station " ++ decimal station
fate_words fate.Terminated station = codes " terminated by station " ++ decimal station
fate_words fate.Busy station =
    codes " not taken: station " ++ decimal station ++ codes " is busy"
fate_words fate.GivenUp station =
    codes " given up: no reply from station " ++ decimal station
