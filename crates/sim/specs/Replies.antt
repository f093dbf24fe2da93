-- What a station's application replies to a command (IEC 60870-5-101, 7.2.3 and 7.3.2).
use Rattle.std.specs.Prelude.{◌≡◌, ℕ, ◌+◌, ◌-◌, ◌%◌, ◌==◌, ◌&&◌, ◌||◌, not, nat_le, Bool, true}
use Rattle.std.specs.Prelude.{false}
use Rattle.std.specs.Prelude.{if◌then◌else◌, List, [], ◌∷◌, length, slice_index, slice_set, Option}
use Rattle.std.specs.Prelude.{Some, None}
use Rattle.elements.specs.declared.types.TypeId.{TypeId}
use Rattle.elements.specs.declared.types.TypeId.TheVariants.{CIcNa1}
use Rattle.asdu.specs.Asdu.{AsduValue, Info, IsAsdu, IsNoAsdu}
use Rattle.asdu.specs.Tagging.{is_plain_command, is_tagged_command}
use Rattle.asdu.specs.declared.sizes.Sizes.{Sizes}
use Rattle.ft12.specs.declared.frame.LinkSize.{LinkSize}
use Rattle.sim.specs.Directives.{longest_report}

-- single, double and step commands and set points, with a time tag or without one
abbrev pub is_process_command : TypeId → Bool
is_process_command kind = is_plain_command kind || is_tagged_command kind

abbrev pub is_interrogation : TypeId → Bool
is_interrogation CIcNa1 = true
is_interrogation kind = false

-- what a station replies to
abbrev pub is_command : TypeId → Bool
is_command kind = is_process_command kind || is_interrogation kind

abbrev pub last_octet : List ℕ → ℕ
last_octet octets = slice_index octets (length octets - 1)

-- SCO, DCO, RCO and QOS: the last octet of the element (7.2.6.15 to 7.2.6.17, 7.2.6.39)
abbrev pub qualifier : List Info → ℕ
qualifier [] = 0
qualifier (i ∷ is) = last_octet i.element

-- S/E, bit 7 of that octet, is 1
abbrev pub is_select : AsduValue → Bool
is_select v = is_process_command v.kind && nat_le 128 (qualifier v.infos)

-- the octet of this cause, which has the test bit of the ASDU: bit 7
abbrev pub cause_by : (cause : ℕ) → AsduValue → ℕ
cause_by cause v = if nat_le 128 v.cause then 128 + cause else cause

-- P/N, bit 6 of the octet
abbrev pub negative_by : (refuses : Bool) → ℕ
negative_by refuses = if refuses then 64 else 0

-- an activation (6) is confirmed by cause 7, a deactivation (8) by cause 9
abbrev pub confirmation_of : (refuses : Bool) → AsduValue → Option ℕ
confirmation_of refuses v =
    if v.cause % 64 == 6 then Some (cause_by (negative_by refuses + 7) v)
    else if v.cause % 64 == 8 then Some (cause_by (negative_by refuses + 9) v)
    else None

-- an activation that isn't refused, and is no select, is terminated (10)
abbrev pub termination_of : (refuses : Bool) → AsduValue → Option ℕ
termination_of refuses v =
    if refuses || not (v.cause % 64 == 6) || is_select v then None else Some (cause_by 10 v)

-- the cause of the reply that is next: first the confirmation, and then the termination
abbrev pub cause_of_reply : (refuses is_confirmed : Bool) → AsduValue → Option ℕ
cause_of_reply refuses is_confirmed v =
    if is_command v.kind
    then (if is_confirmed then termination_of refuses v else confirmation_of refuses v)
    else None

-- in these sizes the octets are such an ASDU, or they are none, and nothing is replied
pub record IsCauseOfReply (sizes : Sizes) (refuses is_confirmed : Bool) (command : List ℕ)
    (cause : Option ℕ) : Type 0 where
  pub read : (v : AsduValue) → IsAsdu sizes v command →
      cause ≡ cause_of_reply refuses is_confirmed v
  pub unread : IsNoAsdu sizes command → cause ≡ None

-- it is a command that a frame has room for, as each is that came over the line
abbrev pub fits_line : LinkSize → List ℕ → Bool
fits_line size command = nat_le 3 (length command) && nat_le (length command) (longest_report size)

abbrev pub replied_with : List ℕ → (cause : Option ℕ) → Option (List ℕ)
replied_with command None = None
replied_with command (Some cause) = Some (slice_set command 2 cause)

-- The reply that is next to a command is the same ASDU with its cause, in the third octet (7.2.3).
abbrev pub IsReply : LinkSize → Sizes → (refuses is_confirmed : Bool) → List ℕ
    → (reply : Option (List ℕ)) → Type 0
IsReply size sizes refuses is_confirmed command reply =
    (cause : Option ℕ) × IsCauseOfReply sizes refuses is_confirmed command cause
    × (reply ≡ (if fits_line size command then replied_with command cause else None))
