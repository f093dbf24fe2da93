-- What a station's answer to a command does to selections, and which tag it is passed on with (IEC
-- 60870-5-101, 7.2.3: cause 7 is an activation con).
use Rattle.std.specs.Prelude.{ℕ, ◌%◌, Bool, true, false, not, ◌&&◌, ◌==◌, nat_le, if◌then◌else◌}
use Rattle.std.specs.Prelude.{List, [], ◌∷◌, Option, Some, None}
use Rattle.elements.specs.Types.{row}
use Rattle.elements.specs.declared.tag.Cp56.{Cp56}
use Rattle.asdu.specs.Asdu.{AsduValue, Info}
use Rattle.command.specs.declared.content.Target.{Target}
use Rattle.command.specs.declared.content.CommandElement.{CommandElement}
use Rattle.command.specs.declared.content.CommandElement.TheVariants.{Octet, SetPoint}
use Rattle.command.specs.declared.selection.Sign.TheVariants as sign
use Rattle.command.specs.State.{State, heeded}
use Rattle.command.specs.Tags.{newest_tag}

-- an activation con with this P/N
abbrev pub is_con : Bool → ℕ → Bool
is_con negated cause = cause % 64 == 7 && (if nat_le 64 (cause % 128) then negated else not negated)

abbrev pub element_of : List ℕ → Option CommandElement
element_of [] = None
element_of (x ∷ []) = Some (Octet x)
element_of (x ∷ y ∷ []) = None
element_of (x ∷ y ∷ z ∷ []) = Some (SetPoint x y z)
element_of (x ∷ y ∷ z ∷ u ∷ us) = None

-- type and addresses of an object
abbrev pub target_at : AsduValue → Info → Target
target_at v i = record { kind = (row v.kind).code; ca = v.ca; address = i.address }

-- the selection of each object is over
abbrev pub all_over : AsduValue → List Info → State → State
all_over v [] s = s
all_over v (i ∷ is) s = all_over v is (heeded (sign.Over (target_at v i)) s)

abbrev pub confirmed : Option CommandElement → Target → ℕ → State → State
confirmed None target now s = s
confirmed (Some element) target now s = heeded (sign.Con target element now) s

-- a con of one object; with several it says nothing of selections
abbrev pub one_confirmed : AsduValue → List Info → ℕ → State → State
one_confirmed v [] now s = s
one_confirmed v (i ∷ []) now s = confirmed (element_of i.element) (target_at v i) now s
one_confirmed v (i ∷ j ∷ is) now s = s

abbrev pub mirrored : AsduValue → ℕ → State → State
mirrored v now s =
    if is_con true v.cause then all_over v v.infos s
    else (if is_con false v.cause then one_confirmed v v.infos now s
    else s)

-- the tag of the newest first sending of its type and addresses, if the answer has one object
abbrev pub tag_for : AsduValue → List Info → State → Option Cp56
tag_for v [] s = None
tag_for v (i ∷ []) s = newest_tag (target_at v i) None s.sendings
tag_for v (i ∷ j ∷ is) s = None
