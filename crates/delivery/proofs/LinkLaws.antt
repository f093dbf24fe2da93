-- What follows from the laws of `link` for an exchange of a line.
use Rattle.std.specs.Prelude.{◌==◌, ◌||◌, option_and_then}
use Rattle.std.proofs.Common.{◌≡◌, ℕ, Bool, true, false, List, [], ◌∷◌, ◌++◌}
use Rattle.std.proofs.Common.{inl, inr, Option, Some, None, refl, ap, sym, ◌∙◌, if◌then◌else◌}
use Rattle.std.proofs.lemmas.List.{append-nil}
use Rattle.std.proofs.lemmas.Bool.{eqb-true}
use Rattle.ft12.specs.declared.frame.Frame.{Frame}
use Rattle.ft12.specs.declared.frame.Front.{Front}
use Rattle.ft12.specs.declared.frame.LinkSize.{LinkSize}
use Rattle.ft12.specs.Fronts.{front_of}
use Rattle.link.specs.declared.service.Asked.{Asked}
use Rattle.link.specs.declared.settings.LinkSettings.{LinkSettings}
use Rattle.link.specs.Answers.{answer_of}
use Rattle.link.specs.Exchanges.{Exchange, OpenExchange}
use Rattle.link.specs.Exchanges.{answer_to, received_octets}
use Rattle.link.specs.Exchanges.{view, whole_of}
use Rattle.link.specs.declared.outcome.Outcome.{Outcome}
use Rattle.link.specs.declared.outcome.Outcome.TheVariants as outcome
use Rattle.link.specs.Primary.{started, with_gap}
use Rattle.link.specs.Matching.{IsReceived, IsOver}
use Rattle.command.specs.History.{History}
use Rattle.delivery.proofs.History.{line_logged}
use Rattle.delivery.proofs.Exchanging.{alone, other_place, IsLogged, stays_logged, logged_by}

-- of commands a gap logs nothing
started_matches : (gap : Option ℕ) (station : ℕ) (h : History) → logged_by (started station gap) h
    ≡ h
started_matches None station h = refl
started_matches (Some session) station h = refl

pub gap_matches_nothing : (gap : Option ℕ) (o : Outcome) (h : History)
    → logged_by (with_gap gap o) h
    ≡ logged_by o h
gap_matches_nothing gap (outcome.Started station) h = started_matches gap station h
gap_matches_nothing gap (outcome.StartedGap station session) h = refl
gap_matches_nothing gap (outcome.Report station asdu) h = refl
gap_matches_nothing gap (outcome.Accepted station) h = refl
gap_matches_nothing gap (outcome.Busy station) h = refl
gap_matches_nothing gap (outcome.Down station) h = refl
gap_matches_nothing gap (outcome.Empty station) h = refl
gap_matches_nothing gap outcome.None h = refl

-- an exchange with a station is the latest, or with another one
pub at_last : (s : LinkSettings) (a k : ℕ) (xs : List Exchange) (station : ℕ) (x y : Exchange)
    (h new : History) →
    (station ≡ k → IsLogged s a (xs ++ x ∷ []) k h → IsLogged s a (xs ++ y ∷ []) k new)
    → ((k == station) ≡ false → line_logged k new ≡ line_logged k h) →
    IsLogged s a (xs ++ alone k (record { station = station; exchange = x })) k h
    → IsLogged s a (xs ++ alone k (record { station = station; exchange = y })) k new
at_last s a k xs station x y h new hit miss t = go (station == k) refl t
  where
    go : (b : Bool) → (station == k) ≡ b → IsLogged s a (xs ++ (if b then x ∷ [] else [])) k h
        → IsLogged s a (xs ++ (if b then y ∷ [] else [])) k new
    go true e t = hit (eqb-true station k e) t
    go false e t = stays_logged s a (xs ++ []) k h new (miss (other_place station k e)) t

-- An event's octets

or_true : (b : Bool) → (b || true) ≡ true
or_true true = refl
or_true false = refl

pub or_false : (b : Bool) → (b || false) ≡ b
or_false true = refl
or_false false = refl

-- an exchange that isn't given up
pub as_open : (request : Asked) (front : Option Frame) (closed given b : Bool) → closed ≡ b
    → given ≡ false →
    ◌≡◌ {A = Exchange}
    (record { request = request; front = front; closed = closed; given_up = given })
    (record { request = request; front = front; closed = b; given_up = false })
as_open request front closed given b is stands =
    ap (λ (c : Bool). let x : Exchange = record {
      request = request;
      front = front;
      closed = c;
      given_up = given;
    } in x) is
    ∙ ap (λ (g : Bool). let x : Exchange = record {
      request = request;
      front = front;
      closed = b;
      given_up = g;
    } in x) stands

pub same_when_over : (front : List ℕ → Front) (a : ℕ) (octets : List ℕ) (x : OpenExchange)
    → IsOver front a x
    → answer_to a (view front x).exchange
    ≡ answer_to a (view front (received_octets octets x)).exchange
same_when_over front a octets x (inl closed) =
    sym (ap (λ (b : Bool). option_and_then (answer_of a x.request)
    (whole_of (front (if b || x.given_up then x.octets else x.octets ++ octets)))) closed)
same_when_over front a octets x (inr (inl given)) =
    sym (ap (λ (b : Bool). option_and_then (answer_of a x.request)
    (whole_of (front (if x.closed || b then x.octets else x.octets ++ octets)))) given
    ∙ ap (λ (b : Bool). option_and_then (answer_of a x.request)
    (whole_of (front (if b then x.octets else x.octets ++ octets)))) (or_true x.closed))
same_when_over front a octets x (inr (inr over)) = go (x.closed || x.given_up)
  where
    before : option_and_then (answer_of a x.request) (whole_of (front x.octets)) ≡ Some over.0
    before = ap (λ (l : List ℕ). option_and_then (answer_of a x.request) (whole_of (front l)))
        (sym (append-nil x.octets)) ∙ over.1 []

    go : (b : Bool) → option_and_then (answer_of a x.request) (whole_of (front x.octets))
        ≡ option_and_then (answer_of a x.request)
        (whole_of (front (if b then x.octets else x.octets ++ octets)))
    go true = refl
    go false = before ∙ sym (over.1 octets)

pub nothing_said : (front : List ℕ → Front) (a : ℕ) (x : OpenExchange) (o : Option (List ℕ))
    → IsReceived front a x o
    → option_and_then (answer_of a x.request) (whole_of (front x.octets)) ≡ None
nothing_said front a x (Some octets) h =
    ap (λ f. option_and_then (answer_of a x.request) (whole_of f)) h.1
nothing_said front a x None h =
    ap (λ xs. option_and_then (answer_of a x.request) (whole_of (front xs)))
    (sym (append-nil x.octets)) ∙ h []

-- no frame stands at the front of no octets
pub no_front : (size : LinkSize) → whole_of (front_of size []) ≡ None
unfolding front_of
no_front size = refl
