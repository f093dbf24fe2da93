use Rattle.std.proofs.Common.{ap, false, is_some, refl, rules, sym, true, ◌∙◌}
use Rattle.live.proofs.Sorted.{accepted_newest, accepted_nobody, newest_allowed, newest_plain}
use Rattle.live.proofs.Sorted.{map_none, opens_as, refused_by}
use Rattle.live.proofs.sockets.CentreListenerListener.accept.Goals as goal

pub returns-in_err-address-clause-refused : goal.returns-in_err-address-clause-refused
returns-in_err-address-clause-refused g c = refused_by _ _ _ _ _ _ c.take_waiting.ensures.takes

pub returns-in_err-stream-clause-refused : goal.returns-in_err-stream-clause-refused
returns-in_err-stream-clause-refused g c = refused_by _ _ _ _ _ _ c.take_waiting.ensures.takes

pub returns-clause-allowed : goal.returns-clause-allowed
returns-clause-allowed g c =
    newest_allowed _ _ _ _ _ _ c.in_ok-address.address c.in_ok-address.stream (search rules)
    c.take_waiting.ensures.takes

pub returns-clause-refused : goal.returns-clause-refused
returns-clause-refused g c = refused_by _ _ _ _ _ _ c.take_waiting.ensures.takes

pub returns-clause-plain : goal.returns-clause-plain
returns-clause-plain g c =
    newest_plain _ _ _ _ _ _ c.in_ok-address.address c.in_ok-address.stream (search rules)
    c.take_waiting.ensures.takes

pub returns-in_err-address-clause-takes : goal.returns-in_err-address-clause-takes
returns-in_err-address-clause-takes g c =
    accepted_nobody _ _ _ _ _ _ _ _ _ c.in_err-address.was c.take_waiting.ensures.takes
    c.take_waiting.ensures.unopened (map_none _ _ c.from_residual.ensures)

pub returns-in_err-stream-clause-takes : goal.returns-in_err-stream-clause-takes
returns-in_err-stream-clause-takes g c =
    accepted_newest _ _ _ _ _ _ _ c.in_ok-address.address c.in_ok-address.stream _ _ _ _ false
    (search rules) c.take_waiting.ensures.takes c.open.ensures.unasked
    c.take_waiting.ensures.unopened
    (opens_as _ _ c.open.result _ c.open.ensures.opens
    (sym c.ok.ensures.variant ∙ ap (λ o. is_some o) c.in_err-stream.was))
    (map_none _ _ c.from_residual-in_err-stream.ensures)

pub returns-clause-takes : goal.returns-clause-takes
returns-clause-takes g c =
    accepted_newest _ _ _ _ _ _ _ c.in_ok-address.address c.in_ok-address.stream _ _ _ _ true
    (search rules) c.take_waiting.ensures.takes c.open.ensures.unasked
    c.take_waiting.ensures.unopened
    (opens_as _ _ c.open.result _ c.open.ensures.opens
    (sym c.ok.ensures.variant ∙ ap (λ o. is_some o) c.in_ok-stream.was)) refl
