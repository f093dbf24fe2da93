use Rattle.std.proofs.Common.{◌≡◌, ◌∷◌, ◌++◌, string_bytes, false, true, rules}
use Rattle.settings.specs.Unknown.{knows, prefix}
use Rattle.settings.proofs.UnknownLemmas.{step_known, step_new}
use Rattle.settings.proofs.unknown.push_unknown.Goals as goal

pub loop-key-preserved : goal.loop-key-preserved
loop-key-preserved c =
    let it : c.loop-key.key-iterator ≡ c.in-Some.key.now ∷ c.next.new.self =
    search (rules, c.in-Some.ensures.steps) in
    let is_known : knows c.args.section (string_bytes c.in-Some.key.now) ≡ true =
    search (rules, c.if-not-knows.ensures) in
    step_known c.args.section c.in-Some.key.now c.loop-key.paths.items c.next.new.self
    c.loop-key.key-iterator _ it
    is_known c.loop-key.invariant

pub loop-key-preserved-in_ok-push : goal.loop-key-preserved-in_ok-push
loop-key-preserved-in_ok-push c =
    let it : c.loop-key.key-iterator ≡ c.in-Some.key.now ∷ c.next.new.self =
    search (rules, c.in-Some.ensures.steps) in
    let is_new : knows c.args.section (string_bytes c.in-Some.key.now) ≡ false =
    search (rules, c.if-not-knows.ensures) in
    let raw : string_bytes c.in_ok-format.field-0 ≡ c.prefix-before.result.now
    ++ string_bytes c.in-Some.key.now =
    c.in_ok-format.ensures.ok in
    let before : c.prefix-before.result.now ≡ prefix c.args.section = c.prefix-before.ensures in
    let text : string_bytes c.in_ok-format.field-0 ≡ prefix c.args.section
    ++ string_bytes c.in-Some.key.now =
    rw before at raw in
    let step = step_new c.args.section c.in-Some.key.now c.in_ok-format.field-0
    c.loop-key.paths.items c.next.new.self
    c.loop-key.key-iterator _ it is_new text c.loop-key.invariant in
    rw c.in_ok-push.ensures.items step
