-- What is told at one look after another of those who can't be accepted.
use Rattle.std.proofs.Common.{◌≡◌, List, [], ◌∷◌, ◌++◌, Bool, true, false, Some, None}
use Rattle.std.proofs.Common.{Ok, Err, refl, sym, ap, ◌∙◌}
use Rattle.std.specs.Prelude.{All}
use Rattle.std.specs.IoError.{error_kind}
use Rattle.std.proofs.lemmas.List.{append_assoc}
use Rattle.std.proofs.lemmas.List.Elements.{All-head, All-tail}
use Rattle.std.specs.declared.io.Error.{Error}
use Rattle.live.specs.Arrivals.{Arrival, Arrivals, arrived}
use Rattle.live.specs.Telling.{IsNoComer, Telling, Tells, is_shut_by, told_at, told_by}
use Rattle.live.specs.Telling.{told_unless, told_where}

-- no call, and calls behind others
pub tells_nothing : (calls : Arrivals) (t : Telling) → Tells calls t calls t
tells_nothing None t = record { answers = []; asked = refl; told = refl }
tells_nothing (Some all) t = record { answers = []; asked = refl; told = refl }

arrived_twice : (more answers : List Arrival) (calls : Arrivals)
    → arrived more (arrived answers calls) ≡ arrived (more ++ answers) calls
arrived_twice more answers None = refl
arrived_twice more answers (Some all) = ap (λ xs. Some xs) (sym (append_assoc more answers all))

told_twice : (more answers : List Arrival) (t : Telling)
    → told_by more (told_by answers t) ≡ told_by (more ++ answers) t
told_twice [] answers t = refl
told_twice (answer ∷ more) answers t = ap (told_at answer) (told_twice more answers t)

pub tells_more : (a b c : Arrivals) (s t u : Telling) → Tells a s b t → Tells b t c u
    → Tells a s c u
tells_more a b c s t u first later = record {
  answers = later.answers ++ first.answers;
  asked = later.asked ∙ (ap (arrived later.answers) first.asked
      ∙ arrived_twice later.answers first.answers a);
  told = later.told ∙ (ap (told_by later.answers) first.told
      ∙ told_twice later.answers first.answers s);
}

-- nothing is told again while nobody comes
no_more_by : (b : Bool) (t : Telling) (fault : Error) → t.is_shut ≡ true
    → told_where b fault t ≡ t
no_more_by true t fault shut = ap (λ x. told_unless x fault t) shut
no_more_by false t fault shut = refl

no_more_at : (t : Telling) (answer : Arrival) → t.is_shut ≡ true → IsNoComer answer
    → told_at answer t ≡ t
no_more_at t (Ok comer) shut none = absurd none
no_more_at t (Err fault) shut none = no_more_by (is_shut_by (error_kind fault)) t fault shut

pub no_more : (t : Telling) (answers : List Arrival) → t.is_shut ≡ true → All IsNoComer answers
    → told_by answers t ≡ t
no_more t [] shut none = refl
no_more t (answer ∷ answers) shut none =
    let before = no_more t answers shut (All-tail IsNoComer answer answers none) in
    ap (told_at answer) before
    ∙ no_more_at t answer shut (All-head IsNoComer answer answers none)

pub in_turn : (t : Telling) (later answers : List Arrival)
    → told_by (later ++ answers) t ≡ told_by later (told_by answers t)
in_turn t later answers = sym (told_twice later answers t)

-- a look tells by all of its answers
same_calls : (answers old new : List Arrival) → Some new ≡ arrived answers (Some old)
    → new ≡ answers ++ old
same_calls answers old new e = cc

pub at_look : (old new : List Arrival) (before after : Telling)
    → Tells (Some old) before (Some new) after → (answers : List Arrival)
    × (new ≡ answers ++ old) × (after ≡ told_by answers before)
at_look old new before after tells =
    (tells.answers, same_calls tells.answers old new tells.asked, tells.told)
