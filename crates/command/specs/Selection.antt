-- A selection, and what becomes of it (IEC 60870-5-101, 7.2.6.26 and 7.2.6.39: S/E; how long a
-- selection lasts and what ends it is this gateway's own profile).
use Rattle.std.specs.Prelude.{ℕ, ◌-◌, Bool, true, false, not, ◌&&◌, ◌==◌, nat_lt, nat_le}
use Rattle.std.specs.Prelude.{if◌then◌else◌, Option, Some, None}
use Rattle.command.specs.declared.content.Command.{Command}
use Rattle.command.specs.declared.content.CommandElement.{CommandElement}
use Rattle.command.specs.declared.content.CommandElement.TheVariants.{Octet, SetPoint}
use Rattle.command.specs.declared.content.Target.{Target}
use Rattle.command.specs.declared.selection.Selection.{Selection}
use Rattle.command.specs.declared.selection.SelectStage.{SelectStage}
use Rattle.command.specs.declared.selection.SelectStage.TheVariants.{Queued, Sent, Accepted, Live}
use Rattle.command.specs.declared.selection.Sign.{Sign}
use Rattle.command.specs.declared.selection.Sign.TheVariants as sign
use Rattle.command.specs.Command.{without_select}

-- type on the line, and addresses
abbrev pub target_of : Command → Target
target_of c = record { kind = c.kind; ca = c.ca; address = c.address }

abbrev pub same_target : Target → Target → Bool
same_target a b = a.kind == b.kind && a.ca == b.ca && a.address == b.address

abbrev pub same_element : CommandElement → CommandElement → Bool
same_element (Octet x) (Octet y) = x == y
same_element (SetPoint a b c) (SetPoint x y z) = a == x && b == y && c == z
same_element (Octet x) (SetPoint a b c) = false
same_element (SetPoint a b c) (Octet x) = false

-- equal test bits of two cause octets
abbrev pub same_test : ℕ → ℕ → Bool
same_test a b = if nat_le 128 a then nat_le 128 b else not (nat_le 128 b)

abbrev pub with_stage : SelectStage → Selection → Selection
with_stage stage z = record z { stage = stage }

-- A command goes to its station for the first time. A select that was on the line has then been
-- replaced there without an answer: its selection is over.
abbrev pub after_sending : SelectStage → Selection → Option Selection
after_sending (Queued ahead) z =
    if ahead == 0 then Some (with_stage Sent z) else Some (with_stage (Queued (ahead - 1)) z)
after_sending Sent z = None
after_sending Accepted z = Some z
after_sending (Live since) z = Some z

-- the station accepted the command on the line
abbrev pub after_acceptance : SelectStage → Selection → Option Selection
after_acceptance (Queued ahead) z = Some z
after_acceptance Sent z = Some (with_stage Accepted z)
after_acceptance Accepted z = Some z
after_acceptance (Live since) z = Some z

-- the station was busy, or the command on the line was given up
abbrev pub after_loss : SelectStage → Selection → Option Selection
after_loss (Queued ahead) z = Some z
after_loss Sent z = None
after_loss Accepted z = Some z
after_loss (Live since) z = Some z

abbrev pub is_accepted : SelectStage → Bool
is_accepted (Queued ahead) = false
is_accepted Sent = false
is_accepted Accepted = true
is_accepted (Live since) = true

-- the moment from which it lasts: when its select came, and then when the con came
abbrev pub lasts_from : Selection → SelectStage → ℕ
lasts_from z (Queued ahead) = z.came
lasts_from z Sent = z.came
lasts_from z Accepted = z.came
lasts_from z (Live since) = since

-- its time has passed
abbrev pub has_passed : ℕ → ℕ → Selection → Bool
has_passed select_ms now z = nat_le select_ms (now - lasts_from z z.stage)

-- what a sign leaves of a selection
abbrev pub advanced : ℕ → Sign → Selection → Option Selection
advanced select_ms (sign.Sending station) z =
    if z.station == station then after_sending z.stage z else Some z
advanced select_ms (sign.Acceptance station) z =
    if z.station == station then after_acceptance z.stage z else Some z
advanced select_ms (sign.Loss station) z =
    if z.station == station then after_loss z.stage z else Some z
advanced select_ms (sign.Over target) z =
    if same_target (target_of z.command) target then None else Some z
advanced select_ms (sign.Con target element now) z =
    if same_target (target_of z.command) target && same_element z.command.element element
    && is_accepted z.stage && nat_lt (now - z.came) select_ms
    then Some (with_stage (Live now) z)
    else Some z
advanced select_ms (sign.Time now) z =
    if has_passed select_ms now z then None else Some z

-- the sign may change it: it is of its station, which hasn't accepted it yet, or of its target, or
-- its time has passed
abbrev pub heeds : ℕ → Sign → Selection → Bool
heeds select_ms (sign.Sending station) z = z.station == station && not (is_accepted z.stage)
heeds select_ms (sign.Acceptance station) z = z.station == station && not (is_accepted z.stage)
heeds select_ms (sign.Loss station) z = z.station == station && not (is_accepted z.stage)
heeds select_ms (sign.Over target) z = same_target (target_of z.command) target
heeds select_ms (sign.Con target element now) z = same_target (target_of z.command) target
heeds select_ms (sign.Time now) z = has_passed select_ms now z

-- it is confirmed, less than select_ms ago
abbrev pub is_live : ℕ → ℕ → SelectStage → Bool
is_live select_ms now (Live since) = nat_lt (now - since) select_ms
is_live select_ms now (Queued ahead) = false
is_live select_ms now Sent = false
is_live select_ms now Accepted = false

-- A live selection lets this execute through: type, received type, addresses, element apart from
-- S/E, and test bit are equal.
abbrev pub lets_through : ℕ → Command → ℕ → Selection → Bool
lets_through select_ms c now z =
    same_target (target_of z.command) (target_of c)
    && same_element (without_select z.command.element) c.element
    && same_test z.command.cause c.cause && z.command.received == c.received
    && is_live select_ms now z.stage
