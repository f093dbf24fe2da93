use Rattle.std.proofs.Common.{◌++◌, ◌∙◌, [], drop, ap, Some}
use Rattle.apci.specs.Spelling.{spelling}
use Rattle.apci.specs.Borrowed.{owned}
use Rattle.gateway.specs.Centre.{Centre}
use Rattle.gateway.specs.State.{with_centre, with_octets}
use Rattle.gateway.proofs.Judgements.{logged_fed, logged_more, garbled_closes, nothing_left}
use Rattle.gateway.proofs.engine.Gateway.take_front.Goals as goal

pub returns-in-Some-clause-kept : goal.returns-in-Some-clause-kept
returns-in-Some-clause-kept g c = λ p h.
    let f = c.in-Some.ensures in
    let s = c.args.self.now in
    let rest = drop c.in-Some.count c.args.octets.now in
    c.take_apdu.ensures.kept p rest
    (logged_fed p _ s s c.args.octets.now (spelling (owned c.in-Some.apdu) ++ rest) []
    c.in-Some.count f.1 f.0.1 f.0.2 f.0.3 (nothing_left s f.1 f.2) h)

pub take_received-requires-clause-arrived : goal.take_received-requires-clause-arrived
take_received-requires-clause-arrived g c =
    let f = c.in-Whole.ensures.finds in (f.2.0, ap (λ (x : Centre). x.arrived) f.2.2, f.2.1.0)

pub returns-in-Whole-clause-kept : goal.returns-in-Whole-clause-kept
returns-in-Whole-clause-kept g c = λ p h.
    let f = c.in-Whole.ensures.finds in
    let s = c.args.self.now in
    let rest = drop c.in-Whole.count c.args.octets.now in
    c.take_received.ensures.kept p f.2.0 rest (ap (λ (x : Centre). x.arrived) f.2.2)
    (logged_fed p _ s (with_octets (Some []) c.feed.new.self) c.args.octets.now
    (spelling f.2.0 ++ rest) f.0
    c.in-Whole.count f.1 f.2.1.1 f.2.1.2 f.2.1.3
    (ap (with_octets (Some [])) (c.in-Whole.ensures.rest
    ∙ ap (λ (x : Centre). with_centre x s) f.2.2)) h)

pub returns-in-Refused-clause-kept : goal.returns-in-Refused-clause-kept
returns-in-Refused-clause-kept g c = λ p h.
    let f = c.in-Refused.ensures.finds in
    c.shut.ensures.kept p (garbled_closes p _ c.args.self.now c.feed.new.self c.args.octets.now f.0
    c.requires.open f.1
    f.2.0 (c.in-Refused.ensures.rest ∙ ap (λ (x : Centre). with_centre x c.args.self.now) f.2.1) h)
    c.args.octets.now

pub returns-in-More-clause-kept : goal.returns-in-More-clause-kept
returns-in-More-clause-kept g c = λ p h.
    let f = c.in-More.ensures.finds in
    logged_more p _ c.args.self.now c.feed.new.self c.args.octets.now f.0 f.1 f.2.0
    (c.in-More.ensures.rest
    ∙ ap (λ (x : Centre). with_centre x c.args.self.now) f.2.1) h
