-- What lines are read as is what they were put of.
use Rattle.std.proofs.Common.{◌≡◌, ℕ, ◌≤◌, ◌==◌, ◌&&◌, nat_le, Bool, true, false}
use Rattle.std.proofs.Common.{if◌then◌else◌, List, [], ◌∷◌, ◌++◌, length, take, drop, Option, Some}
use Rattle.std.proofs.Common.{None, refl, sym, ap, ◌∙◌, arith, eqb-true, option_map, map}
use Rattle.std.proofs.Common.{append_assoc, Result, Ok, Err, MatchResult, IfOk}
use Rattle.std.proofs.lemmas.List.{take-append-drop, length-take-le, map-append}
use Rattle.asdu.specs.declared.sizes.Sizes.{Sizes}
use Rattle.checkpoint.specs.declared.StateFault.{StateFault}
use Rattle.checkpoint.specs.declared.StateFault.TheVariants.{Wrong}
use Rattle.command.specs.Restored.{commands_lines, state_with, are_long}
use Rattle.command.specs.State.{State}
use Rattle.command.specs.declared.restoring.Parts.{Parts}
use Rattle.command.specs.declared.station.StationInfo.{StationInfo}
use Rattle.arrayvec.specs.ArrayVec.{ArrayVec}
use Rattle.elements.specs.declared.tag.Cp56.{Cp56}
use Rattle.command.specs.Saved.{octets_in, is_received, is_for_line, received_in, for_line_in}
use Rattle.command.specs.Saved.{waiting_numbers, waiting_with, waiting_in, line_numbers, bare_line}
use Rattle.command.specs.Saved.{line_with, line_in, stage_number, stage_detail, stage_in}
use Rattle.command.specs.Saved.{selection_numbers, are_fields, element_in, command_with}
use Rattle.command.specs.Saved.{selection_with, selection_in, tag_numbers, sending_numbers, is_tag}
use Rattle.command.specs.Saved.{tag_in, target_in, sending_with, sending_in, are_octets}
use Rattle.command.specs.Command.{element_octets}
use Rattle.command.proofs.SavedBack.{both, lists_of}
use Rattle.command.specs.declared.content.Command.{Command}
use Rattle.command.specs.declared.content.CommandElement.{CommandElement}
use Rattle.command.specs.declared.content.CommandElement.TheVariants.{Octet, SetPoint}
use Rattle.command.specs.declared.content.Target.{Target}
use Rattle.command.specs.declared.selection.Selection.{Selection}
use Rattle.command.specs.declared.selection.SelectStage.{SelectStage}
use Rattle.command.specs.declared.selection.SelectStage.TheVariants.{Queued, Sent, Accepted, Live}
use Rattle.command.specs.declared.tags.Sending.{Sending}
use Rattle.command.specs.declared.waiting.Line.{Line}
use Rattle.command.specs.declared.waiting.Line.TheVariants.{Free, Holds, CutOff}
use Rattle.command.specs.declared.waiting.Waiting.{Waiting}

-- what is given only on a condition
where_it_holds : {X : Type 0} (b : Bool) (x y : X) → (if b then Some x else None) ≡ Some y → x ≡ y
where_it_holds true x y e = cc
where_it_holds false x y e = absurd cc

-- ---- A command that waits

waiting_by : (station count : ℕ) (ns : List ℕ) (w : Waiting) (b : Bool) (r o : Option (List ℕ))
    → nat_le count (length ns) ≡ b → received_in (take count ns) ≡ r
    → for_line_in (drop count ns) ≡ o
    → (if b then waiting_with station r o else None) ≡ Some w
    → station ∷ count ∷ ns ≡ waiting_numbers w
waiting_by station count ns w false r o few came goes e = absurd cc
waiting_by station count ns w true None o few came goes e = absurd cc
waiting_by station count ns w true (Some xs) None few came goes e = absurd cc
waiting_by station count ns w true (Some xs) (Some ys) few came goes e =
    let le : count ≤ length ns = grind (arith, few) in
    let front : take count ns ≡ xs = where_it_holds (is_received (take count ns)) _ xs came in
    let back : drop count ns ≡ ys = where_it_holds (is_for_line (drop count ns)) _ ys goes in
    let number : count ≡ length xs =
    sym (length-take-le count ns le) ∙ ap (λ (zs : List ℕ). length zs) front in
    let whole : ns ≡ xs ++ ys =
    sym (take-append-drop count ns) ∙ (ap (λ (zs : List ℕ). zs ++ drop count ns) front
    ∙ ap (λ (zs : List ℕ). xs ++ zs) back) in
    ap (λ (n : ℕ). station ∷ n ∷ ns) number
    ∙ (ap (λ (zs : List ℕ). station ∷ length xs ∷ zs) whole
    ∙ ap waiting_numbers (let same : record { station = station; received = xs; octets = ys } ≡ w =
    cc in same))

pub waiting_only : (ns : List ℕ) (w : Waiting) → waiting_in ns ≡ Some w → ns ≡ waiting_numbers w
waiting_only [] w e = absurd cc
waiting_only (station ∷ []) w e = absurd cc
waiting_only (station ∷ count ∷ ns) w e =
    waiting_by station count ns w (nat_le count (length ns)) (received_in (take count ns))
    (for_line_in (drop count ns)) refl refl refl e

-- ---- What stands on a line

bare_only : (kind : ℕ) (line l : Line) (ns : List ℕ) → kind ∷ [] ≡ line_numbers line
    → bare_line line ns ≡ Some l → kind ∷ ns ≡ line_numbers l
bare_only kind line l [] is e = is ∙ ap line_numbers (let same : line ≡ l = cc in same)
bare_only kind line l (n ∷ ns) is e = absurd cc

held_only : (ns : List ℕ) (o : Option (List ℕ)) (l : Line) → received_in ns ≡ o
    → line_with o ≡ Some l → 1 ∷ ns ≡ line_numbers l
held_only ns None l is e = absurd cc
held_only ns (Some xs) l is e =
    ap (λ (ys : List ℕ). 1 ∷ ys) (where_it_holds (is_received ns) ns xs is)
    ∙ ap line_numbers (let same : Holds xs ≡ l = cc in same)

line_kind : (kind : ℕ) (ns : List ℕ) (l : Line) (p q r : Bool) → (kind == 0) ≡ p → (kind == 1) ≡ q
    → (kind == 2) ≡ r
    → (if p then bare_line Free ns
    else (if q then line_with (received_in ns)
    else (if r then bare_line CutOff ns
    else None))) ≡ Some l
    → kind ∷ ns ≡ line_numbers l
line_kind kind ns l true q r is no_one no_two e =
    bare_only kind Free l ns (ap (λ (n : ℕ). n ∷ []) (eqb-true kind 0 is)) e
line_kind kind ns l false true r is one no_two e =
    ap (λ (n : ℕ). n ∷ ns) (eqb-true kind 1 one) ∙ held_only ns (received_in ns) l refl e
line_kind kind ns l false false true is one two e =
    bare_only kind CutOff l ns (ap (λ (n : ℕ). n ∷ []) (eqb-true kind 2 two)) e
line_kind kind ns l false false false is one two e = absurd cc

pub line_only : (ns : List ℕ) (l : Line) → line_in ns ≡ Some l → ns ≡ line_numbers l
line_only [] l e = absurd cc
line_only (kind ∷ ns) l e =
    line_kind kind ns l (kind == 0) (kind == 1) (kind == 2) refl refl refl e

-- ---- A selection

element_only : (ns : List ℕ) (element : CommandElement) → element_in ns ≡ Some element
    → ns ≡ element_octets element
element_only [] element e = absurd cc
element_only (x ∷ []) element e =
    ap element_octets (where_it_holds _ (Octet x) element e)
element_only (x ∷ y ∷ []) element e = absurd cc
element_only (x ∷ y ∷ z ∷ []) element e =
    ap element_octets (where_it_holds _ (SetPoint x y z) element e)
element_only (x ∷ y ∷ z ∷ u ∷ us) element e = absurd cc

-- the numbers of a stage
abbrev stage_numbers : SelectStage → List ℕ
stage_numbers s = stage_number s ∷ stage_detail s ∷ []

stage_kind : (n d : ℕ) (s : SelectStage) (p q r t : Bool) → (n == 0) ≡ p
    → (n == 1 && d == 0) ≡ q → (n == 2 && d == 0) ≡ r → (n == 3) ≡ t
    → (if p then Some (Queued d)
    else (if q then Some Sent
    else (if r then Some Accepted
    else (if t then Some (Live d)
    else None)))) ≡ Some s
    → n ∷ d ∷ [] ≡ stage_numbers s
stage_kind n d s true q r t is one two three e =
    ap (λ (m : ℕ). m ∷ d ∷ []) (eqb-true n 0 is)
    ∙ ap stage_numbers (let same : Queued d ≡ s = cc in same)
stage_kind n d s false true r t is one two three e =
    let h = both (n == 1) (d == 0) one in
    ap (λ (m : ℕ). m ∷ d ∷ []) (eqb-true n 1 h.0)
    ∙ (ap (λ (m : ℕ). 1 ∷ m ∷ []) (eqb-true d 0 h.1)
    ∙ ap stage_numbers (let same : Sent ≡ s = cc in same))
stage_kind n d s false false true t is one two three e =
    let h = both (n == 2) (d == 0) two in
    ap (λ (m : ℕ). m ∷ d ∷ []) (eqb-true n 2 h.0)
    ∙ (ap (λ (m : ℕ). 2 ∷ m ∷ []) (eqb-true d 0 h.1)
    ∙ ap stage_numbers (let same : Accepted ≡ s = cc in same))
stage_kind n d s false false false true is one two three e =
    ap (λ (m : ℕ). m ∷ d ∷ []) (eqb-true n 3 three)
    ∙ ap stage_numbers (let same : Live d ≡ s = cc in same)
stage_kind n d s false false false false is one two three e = absurd cc

stage_only : (n d : ℕ) (s : SelectStage) → stage_in n d ≡ Some s → n ∷ d ∷ [] ≡ stage_numbers s
stage_only n d s e =
    stage_kind n d s (n == 0) (n == 1 && d == 0) (n == 2 && d == 0) (n == 3) refl refl refl refl e

-- a select of these fields
abbrev made : (kind received cause originator ca address : ℕ) → CommandElement → Command
made kind received cause originator ca address element = record {
  kind = kind;
  received = received;
  cause = cause;
  originator = originator;
  ca = ca;
  address = address;
  element = element;
}

selection_by : (station came kind received cause originator ca address n d : ℕ) (ns : List ℕ)
    (z : Selection) (f : Option CommandElement) (c : Option Command) (s : Option SelectStage)
    → element_in ns ≡ f → command_with kind received cause originator ca address f ≡ c
    → stage_in n d ≡ s → selection_with station came c s ≡ Some z
    → station ∷ came ∷ kind ∷ received ∷ cause ∷ originator ∷ ca ∷ address ∷ n ∷ d ∷ ns
    ≡ selection_numbers z
selection_by station came kind received cause originator ca address n d ns z f None s is are at e =
    absurd cc
selection_by station came kind received cause originator ca address n d ns z f (Some c) None is are
    at e = absurd cc
selection_by station came kind received cause originator ca address n d ns z None (Some c) (Some s)
    is are at e = absurd cc
selection_by station came kind received cause originator ca address n d ns z (Some x) (Some c)
    (Some s) is are at e =
    let same : made kind received cause originator ca address x ≡ c =
    where_it_holds (are_fields kind received cause originator ca address) _ c are in
    ap (λ (l : List ℕ). station ∷ came ∷ kind ∷ received ∷ cause ∷ originator ∷ ca ∷ address
    ∷ (l ++ ns)) (stage_only n d s at)
    ∙ (ap (λ (l : List ℕ). station ∷ came ∷ kind ∷ received ∷ cause ∷ originator ∷ ca ∷ address
    ∷ stage_number s ∷ stage_detail s ∷ l) (element_only ns x is)
    ∙ (ap (λ (k : Command). selection_numbers
    (record { station = station; command = k; came = came; stage = s })) same
    ∙ ap selection_numbers
    (let whole : record { station = station; command = c; came = came; stage = s } ≡ z = cc in
    whole)))

pub selection_only : (ns : List ℕ) (z : Selection) → selection_in ns ≡ Some z
    → ns ≡ selection_numbers z
selection_only [] z e = absurd cc
selection_only (a ∷ []) z e = absurd cc
selection_only (a ∷ b ∷ []) z e = absurd cc
selection_only (a ∷ b ∷ c ∷ []) z e = absurd cc
selection_only (a ∷ b ∷ c ∷ d ∷ []) z e = absurd cc
selection_only (a ∷ b ∷ c ∷ d ∷ f ∷ []) z e = absurd cc
selection_only (a ∷ b ∷ c ∷ d ∷ f ∷ g ∷ []) z e = absurd cc
selection_only (a ∷ b ∷ c ∷ d ∷ f ∷ g ∷ h ∷ []) z e = absurd cc
selection_only (a ∷ b ∷ c ∷ d ∷ f ∷ g ∷ h ∷ i ∷ []) z e = absurd cc
selection_only (a ∷ b ∷ c ∷ d ∷ f ∷ g ∷ h ∷ i ∷ j ∷ []) z e = absurd cc
selection_only (a ∷ b ∷ c ∷ d ∷ f ∷ g ∷ h ∷ i ∷ j ∷ k ∷ ns) z e =
    selection_by a b c d f g h i j k ns z (element_in ns)
    (command_with c d f g h i (element_in ns)) (stage_in j k) refl refl refl e

-- ---- A first sending

tag_only : (ns : List ℕ) (t : Option Cp56) → tag_in ns ≡ Some t → ns ≡ tag_numbers t
tag_only [] t e = ap tag_numbers (let none : None ≡ t = cc in none)
tag_only (n ∷ ns) t e = ap tag_numbers (where_it_holds (is_tag (n ∷ ns)) _ t e)

sending_by : (kind ca address : ℕ) (ns : List ℕ) (z : Sending) (o : Option Target)
    (t : Option (Option Cp56)) → target_in kind ca address ≡ o → tag_in ns ≡ t
    → sending_with o t ≡ Some z → kind ∷ ca ∷ address ∷ ns ≡ sending_numbers z
sending_by kind ca address ns z None t is at e = absurd cc
sending_by kind ca address ns z (Some o) None is at e = absurd cc
sending_by kind ca address ns z (Some o) (Some t) is at e =
    let same : record { kind = kind; ca = ca; address = address } ≡ o =
    where_it_holds _ _ o is in
    ap (λ (l : List ℕ). kind ∷ ca ∷ address ∷ l) (tag_only ns t at)
    ∙ (ap (λ (k : Target). sending_numbers (record { target = k; tag = t })) same
    ∙ ap sending_numbers (let whole : record { target = o; tag = t } ≡ z = cc in whole))

pub sending_only : (ns : List ℕ) (z : Sending) → sending_in ns ≡ Some z → ns ≡ sending_numbers z
sending_only [] z e = absurd cc
sending_only (a ∷ []) z e = absurd cc
sending_only (a ∷ b ∷ []) z e = absurd cc
sending_only (a ∷ b ∷ c ∷ ns) z e =
    sending_by a b c ns z (target_in a b c) (tag_in ns) refl refl e

-- ---- An own answer

pub answer_only : (ns : List ℕ) (r : Option (ArrayVec ℕ)) (a : ArrayVec ℕ)
    → option_map (λ (octets : ArrayVec ℕ). octets.items) r ≡ octets_in 249 ns → r ≡ Some a
    → ns ≡ a.items
answer_only ns r a is e =
    where_it_holds (nat_le (length ns) 249 && are_octets ns) ns a.items
    (sym is ∙ ap (option_map (λ (octets : ArrayVec ℕ). octets.items)) e)

-- ---- Lists

-- the items so far, and the next one behind them
pub one_more_read : {X : Type 0} (numbers : X → List ℕ) (old new : List X) (x : X)
    (all before after : List (List ℕ)) → all ≡ map numbers old ++ before
    → new ≡ old ++ x ∷ [] → before ≡ numbers x ∷ after → all ≡ map numbers new ++ after
one_more_read numbers old new x all before after is more next =
    is ∙ (ap (λ (ys : List (List ℕ)). map numbers old ++ ys) next
    ∙ (sym (append_assoc (map numbers old) (numbers x ∷ []) after)
    ∙ ap (λ (ys : List (List ℕ)). ys ++ after)
    (sym (map-append numbers old (x ∷ [])) ∙ ap (map numbers) (sym more))))

-- the lists of a state, one after another
pub all_lists : (a b c d e all u v w x y : List (List ℕ)) → all ≡ a ++ u → u ≡ b ++ v → v ≡ c ++ w
    → w ≡ d ++ x → x ≡ e ++ y → all ≡ (a ++ (b ++ (c ++ (d ++ e)))) ++ y
all_lists a b c d e all u v w x y ia ib ic id ie =
    ia ∙ (ap (λ (z : List (List ℕ)). a ++ z)
    (ib ∙ ap (λ (z : List (List ℕ)). b ++ z)
    (ic ∙ ap (λ (z : List (List ℕ)). c ++ z)
    (id ∙ ap (λ (z : List (List ℕ)). d ++ z) ie)))
    ∙ sym (lists_of a b c d e y))

pub exact_again : (r : Result State StateFault) (stations : List StationInfo) (sizes : Sizes)
    (select_ms max_age_ms : ℕ) (parts : Parts) (all left : List (List ℕ))
    → MatchResult r (λ c. c ≡ state_with stations sizes select_ms max_age_ms parts)
    (λ e. e ≡ Wrong → are_long parts.answers.items ≡ false)
    → all ≡ commands_lines (state_with stations sizes select_ms max_age_ms parts) ++ left
    → IfOk r (λ c. all ≡ commands_lines c ++ left)
exact_again (Ok c) stations sizes select_ms max_age_ms parts all left made is =
    is ∙ ap (λ (s : State). commands_lines s ++ left) (sym made)
exact_again (Err e) stations sizes select_ms max_age_ms parts all left made is = _
