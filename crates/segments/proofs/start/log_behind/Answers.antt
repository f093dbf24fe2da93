use Rattle.std.proofs.Common.{◌≡◌, ◌∙◌, ◌+◌, ◌-◌, ◌||◌, ℕ, Bool, List, Some, None, ap, drop}
use Rattle.std.proofs.Common.{false, true, length, not, sym}
use Rattle.std.proofs.lemmas.List.{length-drop}
use Rattle.std.specs.List.{concat}
use Rattle.std.specs.Prelude.{if◌then◌else◌}
use Rattle.statetext.specs.Sealed.{end_in, is_damaged_in, writes_in}
use Rattle.statetext.specs.Sum.{remainder_after}
use Rattle.segments.specs.Head.{head_of}
use Rattle.segments.specs.Room.{before_zero, is_room}
use Rattle.segments.proofs.Crashes.{damage_older, damage_sealed, lines_older, lines_sealed}
use Rattle.segments.proofs.start.log_behind.Goals as goal
use Rattle.segments.proofs.start.log_behind.Goals.{then-read, else-read}

pub returns-then-not-head-clause-lines : goal.returns-then-not-head-clause-lines
returns-then-not-head-clause-lines c = λ file holds is.
    c.cut_at_zero.ensures ∙ ap before_zero is
    ∙ sym (lines_older c.args.at file c.args.head.now holds c.if-not-head.true)

pub returns-then-not-head-clause-damage : goal.returns-then-not-head-clause-damage
returns-then-not-head-clause-damage c = λ file holds is.
    sym (damage_older c.args.at file c.args.head.now holds c.if-not-head.true)

pub returns-clause-lines : goal.returns-clause-lines
returns-clause-lines c = λ file holds is.
    let head : List ℕ = head_of c.args.head.now in
    let sum : c.add.new.self.remainder ≡ remainder_after 0xffffffff head =
    c.add.ensures ∙ ap (λ (r : ℕ). remainder_after r c.deref.result.now) c.new-sum.ensures
    ∙ ap (remainder_after 0xffffffff) (c.deref.ensures.value ∙ c.in-Ok.ensures.text) in
    c.in-Ok-read_sealed.ensures.lines head sum
    ∙ ap (λ (l : List ℕ). concat (writes_in head l)) (c.as_slice-room.ensures.value ∙ is)
    ∙ sym (lines_sealed c.args.at file c.args.head.now holds c.if-not-head.false)

first_so : (b d x : Bool) → b ≡ true → b ≡ d → b ≡ (d || x)
first_so b d x is same = is ∙ ap (λ (y : Bool). y || x) (sym is ∙ same)

second_so : (b d x : Bool) → b ≡ false → b ≡ d → x ≡ (d || x)
second_so b d x is same = ap (λ (y : Bool). y || x) (sym is ∙ same)

pub returns-clause-damage : goal.returns-clause-damage
returns-clause-damage c = λ file holds is.
    let head : List ℕ = head_of c.args.head.now in
    let at : ℕ = c.args.at in
    let read = c.in-Ok-read_sealed.read in
    let sum : c.add.new.self.remainder ≡ remainder_after 0xffffffff head =
    c.add.ensures ∙ ap (λ (r : ℕ). remainder_after r c.deref.result.now) c.new-sum.ensures
    ∙ ap (remainder_after 0xffffffff) (c.deref.ensures.value ∙ c.in-Ok.ensures.text) in
    let same = c.as_slice-room.ensures.value ∙ is in
    let damaged : read.is_damaged ≡ is_damaged_in head (drop at file) =
    c.in-Ok-read_sealed.ensures.damaged head sum ∙ ap (is_damaged_in head) same in
    let end : read.end ≡ end_in head (drop at file) =
    c.in-Ok-read_sealed.ensures.end head sum ∙ ap (end_in head) same in
    let either : c.if-read.is_damaged
    ≡ (is_damaged_in head (drop at file) || not (is_room (length file - at))) =
    elim c.if-read.branch [
      | then-read w ↦ w.is_damaged-is
          ∙ first_so read.is_damaged (is_damaged_in head (drop at file))
          (not (is_room (length file - at))) w.if-read.true damaged
      | else-read w ↦ w.is_damaged-is
          ∙ ap (λ (b : Bool). not b) (w.is_room.ensures
          ∙ ap is_room (ap length same ∙ length-drop at file))
          ∙ second_so read.is_damaged (is_damaged_in head (drop at file))
          (not (is_room (length file - at))) w.if-read.false damaged
    ] in
    c.damage_at.ensures ∙ ap (λ (b : Bool). if b then Some (at + read.end) else None) either
    ∙ ap (λ (n : ℕ). if is_damaged_in head (drop at file) || not (is_room (length file - at))
    then Some (at + n) else None) end
    ∙ sym (damage_sealed at file c.args.head.now holds c.if-not-head.false)
