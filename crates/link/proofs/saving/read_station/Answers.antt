use Rattle.std.proofs.Common.{◌∷◌, ◌∙◌}
use Rattle.link.proofs.Saved.{first_line, second_line, third_line, no_link, no_bare}
use Rattle.link.proofs.Saved.{joined, some_same}
use Rattle.link.proofs.ReadExactly.{station_exact}
use Rattle.link.proofs.saving.read_station.Goals as goal

pub returns-in_default-link_from-clause-back : goal.returns-in_default-link_from-clause-back
returns-in_default-link_from-clause-back g c = λ s third rest fits e.
    let a = first_line s (third ∷ rest) _ _ _ e c.in_ok-next.ensures.some in
    let b = second_line s (third ∷ rest) _ _ _ a.1 c.in_ok-next-2.ensures.some in
    let h = no_link s _ _ fits (c.as_slice-2.ensures.value ∙ b.0) c.link_from.ensures in
    absurd (c.in_default-link_from.not-Some _ h)

pub returns-clause-back : goal.returns-clause-back
returns-clause-back g c = λ s third rest fits e.
    let a = first_line s (third ∷ rest) _ _ _ e c.in_ok-next.ensures.some in
    let b = second_line s (third ∷ rest) _ _ _ a.1 c.in_ok-next-2.ensures.some in
    let f = no_bare s _ _ fits (c.as_slice.ensures.value ∙ a.0) c.flags_from.ensures in
    let h = no_link s _ _ fits (c.as_slice-2.ensures.value ∙ b.0) c.link_from.ensures in (
      some_same _ s (joined s _ _ _ _ f h c.in-Some.is c.in-Some-link_from.is),
      third_line rest _ _ third _ b.1 c.in_ok-next-3.ensures.some,
    )

pub returns-clause-exact : goal.returns-clause-exact
returns-clause-exact g c = (
  _,
  station_exact _ _ _ _ _ _ _ _ _ _ _ _ _ c.flags_from.ensures c.as_slice.ensures.value
      c.in-Some.is c.link_from.ensures c.as_slice-2.ensures.value c.in-Some-link_from.is
      c.in_ok-next.ensures.some c.in_ok-next-2.ensures.some c.in_ok-next-3.ensures.some,
)
