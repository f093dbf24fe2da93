-- The time tags of commands (IEC 60870-5-104, 8; how old a command may be, and how many are kept,
-- is this gateway's own profile).
use Rattle.std.specs.Prelude.{ℕ, ◌-◌, ◌%◌, Bool, false, not, ◌&&◌, ◌==◌, nat_le, if◌then◌else◌}
use Rattle.std.specs.Prelude.{List, [], ◌∷◌, ◌++◌, length, drop, slice_index, Option, Some, None}
use Rattle.circular_buffer.specs.Buffer.{keep_last}
use Rattle.elements.specs.TimeTag.{verdict_of}
use Rattle.elements.specs.declared.tag.Cp56.{Cp56}
use Rattle.elements.specs.declared.tag.Verdict.{Verdict}
use Rattle.elements.specs.declared.tag.Verdict.TheVariants.{Good}
use Rattle.command.specs.Command.{is_process_command, is_tagged, line_kind, command_at}
use Rattle.command.specs.Selection.{target_of, same_target}
use Rattle.command.specs.declared.content.Target.{Target}
use Rattle.command.specs.declared.tags.Sending.{Sending}

-- the seven octets at the end
abbrev pub tag_octets : List ℕ → List ℕ
tag_octets xs = drop (length xs - 7) xs

-- the tag of a command, if its type has one
abbrev pub tag_at : List ℕ → Option Cp56
tag_at xs = if is_tagged (slice_index xs 0) then Some (record { 0 = tag_octets xs }) else None

-- the verdict is good, and its instant at most so many ms before or behind the wall
abbrev pub is_recent : ℕ → Option ℕ → Verdict → Bool
is_recent most (Some wall) (Good instant) =
    nat_le (wall - instant) most && nat_le (instant - wall) most
is_recent most wall verdict = false

-- an activation with a tag that isn't recent
abbrev pub is_stale : ℕ → Option ℕ → List ℕ → Bool
is_stale most wall xs =
    is_tagged (slice_index xs 0) && slice_index xs 2 % 64 == 6
    && not (is_recent most wall (verdict_of (tag_octets xs)))

-- ---- first sendings

abbrev pub sending_of : List ℕ → Sending
sending_of xs = record { target = target_of (command_at xs); tag = tag_at xs }

-- with that of a command that goes out now, oldest first: of types 45 to 49 the latest sixteen
abbrev pub with_sending : List ℕ → List Sending → List Sending
with_sending xs sendings =
    if is_process_command (line_kind (slice_index xs 0))
    then keep_last 16 (sendings ++ sending_of xs ∷ [])
    else sendings

-- the tag of the newest with this target; before the first of them there was `found`
abbrev pub newest_tag : Target → Option Cp56 → List Sending → Option Cp56
newest_tag target found [] = found
newest_tag target found (z ∷ zs) =
    newest_tag target (if same_target z.target target then z.tag else found) zs
