use Rattle.std.proofs.Common.{◌≡◌, ◌∙◌, ◌∷◌, [], ℕ, Bool, IfErr, List, Option, ap, true}
use Rattle.std.specs.Borrow.{Bor}
use Rattle.clap.specs.Words.{Text}
use Rattle.telegate.specs.Asked.{Asked, SiteCall, StateIn, asked_for, ends_asked, scribes_asked}
use Rattle.telegate.specs.Kept.{IsKeptFault}
use Rattle.telegate.proofs.KeptLemmas.{end_is_kept}
use Rattle.telegate.proofs.RanLemmas.{starts_by}
use Rattle.telegate.proofs.RunLemmas.{as_err}
use Rattle.telegate.proofs.living.run_kept.Goals as goal

pub returns-in_err-ends-clause-fault : goal.returns-in_err-ends-clause-fault
returns-in_err-ends-clause-fault g c =
    as_err (λ r. IfErr r IsKeptFault) c.from_residual-in_err-ends.result c.in_err-ends.field-0.0
    c.from_residual-in_err-ends.ensures.1
    (end_is_kept c.in_err-ends.field-0.0 c.in_err-ends.ensures.fault)

-- what was asked for, if the clock begins at this moment
clocked : (again : Bool) (at moment : ℕ) (calls : List SiteCall) (status : Option (Bor Text))
    (first scribed begun ended : Asked) → at ≡ moment → ended ≡ ends_asked again at begun
    → begun ≡ asked_for calls scribed → scribed ≡ scribes_asked status first
    → ended ≡ ends_asked again moment (asked_for calls (scribes_asked status first))
clocked again at moment calls status first scribed begun ended same ends begins scribes =
    ends
    ∙ (ap (λ (m : ℕ). ends_asked again m begun) same
    ∙ ap (ends_asked again moment) (begins ∙ ap (asked_for calls) scribes))

pub returns-clause-lived : goal.returns-clause-lived
returns-clause-lived g c =
    record {
      origin = c.in_ok-begun.begun.origin;
      begun = (
        starts_by _ _ _ _ _ _ (ap (λ (a : Asked). a.lineage) c.in_ok-scribes.ensures.asked)
            c.in_ok-begun.ensures.starts,
        c.run_from.ensures.served,
      );
      clock =
          clocked c.args.wishes.redial c.first_moment-moment.result _
          (StateIn c.args.directory.now true ∷ []) c.args.wishes.status _ _ _ _
          c.first_moment-moment.ensures c.in_ok-ends.ensures.asked
          c.in_ok-begun.ensures.asked c.in_ok-scribes.ensures.asked;
      on = c.run_from.ensures.lived;
    }
