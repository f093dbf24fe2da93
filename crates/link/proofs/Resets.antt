-- In a visit a reset comes directly after a status that was answered.
use Rattle.std.proofs.Common.{◌≡◌, ℕ, List, [], ◌∷◌, ◌++◌, Option, Some, None, refl, ap, subst}
use Rattle.std.specs.Prelude.{option_and_then}
use Rattle.ft12.specs.declared.frame.Frame.{Frame}
use Rattle.link.specs.Answers.{Asked, Status, Reset, Answer, Ready, answer_of}
use Rattle.link.specs.Exchanges.{Exchange, answer_to}
use Rattle.link.specs.Procedure.{LinkSettings, Link, Down, Available, Next, Held, MaySend, after}
use Rattle.link.specs.Procedure.{after_outcome}
use Rattle.link.specs.Requests.{RequestKind}
use Rattle.link.specs.Visits.{Left, whole_visit, MayFollow, IsVisitFrom, IsVisit, EndsReady}
use Rattle.link.proofs.Beginning.{known_after, unknown_after}
use Rattle.link.proofs.Marks.{known_mark}

-- after which exchange the status of a link is known
known_by : (settings : LinkSettings) (station : ℕ) (x : Exchange) (link : Link)
    → after settings station x link ≡ Available →
    (x.request ≡ Status) × (answer_to station x ≡ Some Ready)
known_by settings station x link known =
    go (answer_to station x) refl (known_mark x.given_up _ known)
  where
    said : (front : Option Frame) (answer : Answer)
        → option_and_then (answer_of station x.request) front ≡ Some answer
        →
        after_outcome settings (Some answer) x.request x.closed link ≡ Available
        → (x.request ≡ Status)
        × (answer ≡ Ready)
    said None answer is k = cc
    said (Some frame) answer is k =
        let known = known_after station x.request frame answer link is k in
        (known.0, known.1)

    go : (m : Option Answer) → answer_to station x ≡ m
        → after_outcome settings m x.request x.closed link ≡ Available
        →
        (x.request ≡ Status) × (m ≡ Some Ready)
    go None is k = absurd (unknown_after settings x.request x.closed link k)
    go (Some answer) is k =
        let both = said x.front answer is k in
        (both.0, ap (λ (a : Answer). Some a) both.1)

reset_needs : (link : Link) → MaySend link Reset → link ≡ Available
reset_needs Down may = absurd may
reset_needs Available may = refl
reset_needs (Next fcb) may = absurd may
reset_needs (Held fcb service missed) may = absurd may

later_resets : (settings : LinkSettings) (station : ℕ) (link : Link) (left : Left) (y : Exchange)
    (ys later : List Exchange) (x : Exchange) →
    IsVisitFrom settings station link left (y ∷ ys ++ x ∷ later) → x.request ≡ Reset
    → EndsReady station (y ∷ ys)
later_resets settings station link left y [] later x v is =
    let next = after settings station y link in
    let known =
    known_by settings station y link
    (reset_needs next (subst (λ (r : Asked). MaySend next r) is v.1.2.0))
    in
    record { earlier = []; status = y; are = refl; asked = known.0; answered = known.1 }
later_resets settings station link left y (z ∷ zs) later x v is =
    let rest = later_resets settings station (after settings station y link) v.1.0 z zs later x
    v.1.2 is in
    record {
      earlier = y ∷ rest.earlier;
      status = rest.status;
      are = ap (λ (xs : List Exchange). y ∷ xs) rest.are;
      asked = rest.asked;
      answered = rest.answered;
    }

not_none : (xs : List RequestKind) (k : RequestKind) (ys : List RequestKind) → xs ++ k ∷ ys ≡ [] → ⊥
not_none [] k ys e = cc
not_none (x ∷ xs) k ys e = cc

-- none begins a visit
not_first : (settings : LinkSettings) (link : Link) (x : Exchange) (later : Left)
    → MaySend link Reset →
    MayFollow settings link (whole_visit settings link) x.request later → ⊥
not_first settings Down x later may follow = may
not_first settings Available x later may follow = not_none follow.0.0 _ later.plan follow.0.1
not_first settings (Next fcb) x later may follow = may
not_first settings (Held fcb service missed) x later may follow = may

pub visit_resets : (settings : LinkSettings) (station : ℕ) (link : Link)
    (before later : List Exchange) (x : Exchange) →
    IsVisit settings station link (before ++ x ∷ later) → x.request ≡ Reset
    → EndsReady station before
visit_resets settings station link [] later x v is =
    absurd (not_first settings link x v.1.0 (subst (λ (r : Asked). MaySend link r) is v.0) v.1.1)
visit_resets settings station link (y ∷ ys) later x v is =
    later_resets settings station link (whole_visit settings link) y ys later x v is
