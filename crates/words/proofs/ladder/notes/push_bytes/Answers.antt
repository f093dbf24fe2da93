use Rattle.std.proofs.Common.{rules, ◌≡◌, ◌<◌, ℕ, List, length, string_bytes, sym, subst}
use Rattle.words.proofs.Noting.{ApdusTo, apdus_end, apdus_on, none_left, rest_is}
use Rattle.words.proofs.ladder.notes.push_bytes.Goals as goal

pub apdus-preserved : goal.apdus-preserved
apdus-preserved c =
    let first = c.args.memory.now in
    let text : List ℕ = string_bytes c.args.text.now in
    let left = c.apdus.left.now in
    let n = c.receive_connection-taken.result.0 in
    let some : 0 < length left = search rules in
    subst (λ (xs : List ℕ). ApdusTo c.args.style.now c.args.now first c.args.octets.now text
    c.receive_connection-taken.new.self
    xs (string_bytes c.push_apdu_received.new.text))
    (sym (rest_is n left c.receive_connection-taken.ensures.within))
    (apdus_on c.args.style.now c.args.now first c.args.octets.now text c.apdus.memory
    c.receive_connection-taken.new.self left
    (string_bytes c.apdus.text) (string_bytes c.push_apdu_received.new.text) n
    c.receive_connection-taken.result.1
    c.receive_connection-taken.result.2 c.receive_connection-taken.new.self.centre c.apdus.invariant
    (c.receive_connection-taken.ensures.progress some) c.receive_connection-taken.ensures.arrived
    c.receive_connection-taken.ensures.remembered c.in_ok-push_apdu_received.ensures)

pub returns : goal.returns
returns c =
    let none : length c.apdus.left.now ≡ 0 = search rules in
    apdus_end c.args.style.now c.args.now c.args.memory.now c.args.octets.now
    (string_bytes c.args.text.now)
    c.apdus.memory c.apdus.left.now (string_bytes c.apdus.text) c.apdus.invariant
    (none_left c.apdus.left.now none)
