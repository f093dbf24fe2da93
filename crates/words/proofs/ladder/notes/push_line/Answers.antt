use Rattle.std.proofs.Common.{rules, ◌≡◌, ◌<◌, ℕ, List, length, string_bytes, sym, subst}
use Rattle.words.proofs.Noting.{FramesTo, frames_end, frames_on, none_left, rest_is}
use Rattle.words.proofs.ladder.notes.push_line.Goals as goal

pub frames-preserved : goal.frames-preserved
frames-preserved c =
    let first = c.args.memory.now in
    let text : List ℕ = string_bytes c.args.text.now in
    let left = c.frames.left.now in
    let n = c.receive_line-taken.result.0 in
    let some : 0 < length left = search rules in
    subst (λ (xs : List ℕ). FramesTo c.args.style.now c.args.now first c.args.octets.now text
    c.receive_line-taken.new.self xs
    (string_bytes c.push_received.new.text))
    (sym (rest_is n left c.receive_line-taken.ensures.within))
    (frames_on c.args.style.now c.args.now first c.args.octets.now text c.frames.memory
    c.receive_line-taken.new.self left
    (string_bytes c.frames.text) (string_bytes c.push_received.new.text) n
    c.receive_line-taken.result.1
    c.is_late-is_late.result c.receive_line-taken.new.self.line c.frames.invariant
    c.is_late-is_late.ensures
    (c.receive_line-taken.ensures.progress some) c.receive_line-taken.ensures.arrived
    c.receive_line-taken.ensures.remembered
    c.in_ok-push_received.ensures)

pub returns : goal.returns
returns c =
    let none : length c.frames.left.now ≡ 0 = search rules in
    frames_end c.args.style.now c.args.now c.args.memory.now c.args.octets.now
    (string_bytes c.args.text.now)
    c.frames.memory c.frames.left.now (string_bytes c.frames.text) c.frames.invariant
    (none_left c.frames.left.now none)
