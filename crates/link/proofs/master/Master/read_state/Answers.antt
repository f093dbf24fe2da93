use Rattle.std.proofs.Common.{◌≡◌, List, [], ℕ, sym, ap, subst, ◌∙◌}
use Rattle.std.specs.Prelude.{◌⊎◌}
use Rattle.ft12.specs.Reading.{IsProperBeginning}
use Rattle.link.specs.Procedure.{LinkSettings}
use Rattle.link.specs.Primary.{Primary}
use Rattle.link.specs.Holding.{IsFitting}
use Rattle.link.specs.Restored.{answered_with, awaited_from, head_from}
use Rattle.link.proofs.RestoredBack.{next_line, found_is, head_back, awaited_back, received_begins}
use Rattle.link.proofs.RestoredBack.{restored_same, some_awaited_same, some_head_same, none_some}
use Rattle.link.proofs.RestoredBack.{not_none}
use Rattle.link.proofs.ReadExactly.{state_exact}
use Rattle.link.proofs.master.Master.read_state.Goals as goal

pub returns-in_default-awaited_from-clause-back : goal.returns-in_default-awaited_from-clause-back
returns-in_default-awaited_from-clause-back g c = λ p rest sav set count e.
    let a = next_line _ _ _ _ _ e c.in_ok-next.ensures.some in
    let b = next_line _ _ _ _ _ a.1 c.in_ok-next-2.ensures.some in
    let d = next_line _ _ _ _ _ b.1 c.in_ok-next-3.ensures.some in
    let i = c.in-Some-found.is in
    let m = rw i at c.in-Ok.ensures in
    let h = found_is c.in-Some-found.deaf c.in-Some-found.octets.items p.outstanding sav.octets
    (m ∙ ap answered_with (c.as_slice-2.ensures.value ∙ b.0)) in
    let w = c.awaited_from.ensures ∙ ap (λ (x : List ℕ). awaited_from c.in-Some-found.deaf x)
    (c.as_slice-3.ensures.value ∙ d.0)
    ∙ awaited_back p.outstanding sav.outstanding c.in-Some-found.deaf h.0 in
    absurd (c.in_default-awaited_from.not-Some _ w)

pub returns-in-Some-restored-clause-back : goal.returns-in-Some-restored-clause-back
returns-in-Some-restored-clause-back g c = λ p rest sav set count e.
    let a = next_line _ _ _ _ _ e c.in_ok-next.ensures.some in
    let b = next_line _ _ _ _ _ a.1 c.in_ok-next-2.ensures.some in
    let d = next_line _ _ _ _ _ b.1 c.in_ok-next-3.ensures.some in
    let i = c.in-Some-found.is in
    let m = rw i at c.in-Ok.ensures in
    let h = found_is c.in-Some-found.deaf c.in-Some-found.octets.items p.outstanding sav.octets
    (m ∙ ap answered_with (c.as_slice-2.ensures.value ∙ b.0)) in
    let w = c.awaited_from.ensures ∙ ap (λ (x : List ℕ). awaited_from c.in-Some-found.deaf x)
    (c.as_slice-3.ensures.value ∙ d.0)
    ∙ awaited_back p.outstanding sav.outstanding c.in-Some-found.deaf h.0 in
    let q = c.head_from.ensures ∙ ap head_from (c.as_slice.ensures.value ∙ a.0)
    ∙ head_back p sav.phase in
    let k = c.in-Ok-read_stations.ensures.back p.stations rest count sav.stations d.1 in
    let o = some_awaited_same _ _ (sym c.in-Some-awaited_from.is ∙ w) in
    let hd = some_head_same _ _ (sym c.in-Some.is ∙ q) in
    let z = restored_same p c.args.settings c.in-Some.head c.in-Some-awaited_from.outstanding
    c.as_slice-4.result.now
    c.in-Ok-read_stations.stations.items set hd o (c.as_slice-4.ensures.value ∙ h.1) k.0 in
    (c.in-Some-restored.ensures.made ∙ z, k.1)

pub returns-clause-back : goal.returns-clause-back
returns-clause-back g c = λ p rest sav set count e.
    let a = next_line _ _ _ _ _ e c.in_ok-next.ensures.some in
    let b = next_line _ _ _ _ _ a.1 c.in_ok-next-2.ensures.some in
    let d = next_line _ _ _ _ _ b.1 c.in_ok-next-3.ensures.some in
    let i = c.in-Some-found.is in
    let m = rw i at c.in-Ok.ensures in
    let h = found_is c.in-Some-found.deaf c.in-Some-found.octets.items p.outstanding sav.octets
    (m ∙ ap answered_with (c.as_slice-2.ensures.value ∙ b.0)) in
    let w = c.awaited_from.ensures ∙ ap (λ (x : List ℕ). awaited_from c.in-Some-found.deaf x)
    (c.as_slice-3.ensures.value ∙ d.0)
    ∙ awaited_back p.outstanding sav.outstanding c.in-Some-found.deaf h.0 in
    let q = c.head_from.ensures ∙ ap head_from (c.as_slice.ensures.value ∙ a.0)
    ∙ head_back p sav.phase in
    let k = c.in-Ok-read_stations.ensures.back p.stations rest count sav.stations d.1 in
    let o = some_awaited_same _ _ (sym c.in-Some-awaited_from.is ∙ w) in
    let hd = some_head_same _ _ (sym c.in-Some.is ∙ q) in
    let z = restored_same p c.args.settings c.in-Some.head c.in-Some-awaited_from.outstanding
    c.as_slice-4.result.now
    c.in-Ok-read_stations.stations.items set hd o (c.as_slice-4.ensures.value ∙ h.1) k.0 in
    let F : Primary → Type 0 = λ x. IsFitting x in
    let B : LinkSettings → Type 0 = λ s. IsProperBeginning s.size c.as_slice-4.result.now
    ⊎ (c.as_slice-4.result.now ≡ []) in
    let X : List ℕ → Type 0 = λ x. IsProperBeginning p.settings.size x ⊎ (x ≡ []) in
    let begins =
    subst B set (subst X (sym (c.as_slice-4.ensures.value ∙ h.1))
    (received_begins p p.outstanding sav.arrived)) in
    let some = c.restored.ensures.taken (subst F (sym z) sav.fitting) begins in
    absurd (none_some _ c.in-None.is some)

pub returns-in_default-found-clause-back : goal.returns-in_default-found-clause-back
returns-in_default-found-clause-back g c = λ p rest sav set count e.
    let a = next_line _ _ _ _ _ e c.in_ok-next.ensures.some in
    let b = next_line _ _ _ _ _ a.1 c.in_ok-next-2.ensures.some in
    let m = rw c.in_default-found.is at c.in-Ok.ensures in
    absurd (not_none p.outstanding sav.octets (m ∙ ap answered_with (c.as_slice-2.ensures.value
    ∙ b.0)))

pub returns-in-Some-restored-clause-exact : goal.returns-in-Some-restored-clause-exact
returns-in-Some-restored-clause-exact g c =
    let heard = rw c.in-Some-found.is at c.in-Ok.ensures in
    state_exact _ c.args.settings c.in-Some.head c.in-Some-awaited_from.outstanding
    c.in-Some-found.deaf c.in-Some-found.octets.items c.as_slice-4.result.now _ _ _
    c.in-Ok-read_stations.stations.items _ _ _ _ _ c.in-Some-restored.ensures.made
    c.as_slice-4.ensures.value c.in_ok-next.ensures.some c.in_ok-next-2.ensures.some
    c.in_ok-next-3.ensures.some
    (ap head_from (sym c.as_slice.ensures.value) ∙ sym c.head_from.ensures ∙ c.in-Some.is)
    (ap answered_with (sym c.as_slice-2.ensures.value) ∙ sym heard)
    (ap (λ (x : List ℕ). awaited_from c.in-Some-found.deaf x) (sym c.as_slice-3.ensures.value)
    ∙ sym c.awaited_from.ensures ∙ c.in-Some-awaited_from.is)
    c.in-Ok-read_stations.ensures.exact
