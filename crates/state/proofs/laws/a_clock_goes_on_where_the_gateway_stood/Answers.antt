use Rattle.std.proofs.Common.{ap, ◌∙◌, inl, inr}
use Rattle.state.specs.Beginnings.{moment_at}
use Rattle.state.specs.declared.start.Beginning.{Beginning}
use Rattle.state.proofs.laws.a_clock_goes_on_where_the_gateway_stood.Goals as goal

pub returns-clause-goes_on : goal.returns-clause-goes_on
returns-clause-goes_on g c = λ wanted log mark opened o begun how. elim how [
  | inl is ↦ begun.moment ∙ ap (λ (x : Beginning). moment_at x o.gateway.moment) is
  | inr is ↦ begun.moment ∙ ap (λ (x : Beginning). moment_at x o.gateway.moment) is
]

pub returns-clause-anew : goal.returns-clause-anew
returns-clause-anew g c = λ wanted log mark opened o begun how. elim how [
  | inl is ↦ begun.moment ∙ ap (λ (x : Beginning). moment_at x o.gateway.moment) is
  | inr is ↦ begun.moment ∙ ap (λ (x : Beginning). moment_at x o.gateway.moment) is
]
