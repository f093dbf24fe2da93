-- Exchanges behind which the link to their station was given up.
use Rattle.std.specs.Prelude.{◌==◌}
use Rattle.std.proofs.Common.{◌≡◌, ℕ, ◌+◌, ◌&&◌, ◌||◌, not, cond, Bool, true, false, List, [], ◌∷◌}
use Rattle.std.proofs.Common.{◌++◌, ◌⊎◌, inl, inr, Option, Some, None, refl, sym, ap, ◌∙◌}
use Rattle.std.proofs.Common.{if◌then◌else◌}
use Rattle.std.proofs.lemmas.Bool.{cases_eq, eqb-true}
use Rattle.std.proofs.lemmas.List.Sums.{sum_by-cons}
use Rattle.ft12.specs.declared.frame.Front.{Front}
use Rattle.link.specs.Answers.{Service}
use Rattle.link.specs.Exchanges.{Exchange, OpenExchange, Exchanges, answer_to, as_list, all_of}
use Rattle.link.specs.Exchanges.{view}
use Rattle.link.specs.Exchanges.{views, with_station, marked, has_one_with, latest_marked}
use Rattle.link.specs.Exchanges.{given_up_from, given_up_at, report_by, reports_of, is_spoilt}
use Rattle.link.specs.Exchanges.{spoilt_count}
use Rattle.link.specs.Marks.{given_up_behind, latest_given_up}
use Rattle.link.specs.Procedure.{LinkSettings, Link, Down, Available, after, link_after, is_up}
use Rattle.link.specs.Procedure.{KeepsFrameCountBit}
use Rattle.link.specs.Delivery.{pending_by, pending_after, is_reset}
use Rattle.link.specs.Gaps.{resets_in, gap_by, gaps_from, exchanges_at}
use Rattle.link.specs.Flags.{Flags, flags_by, flags_after}

-- ---- links

-- what holds of a link, and of one that is down, holds whether it is given up or not
pub by_mark : (P : Link → Type 0) (given : Bool) (link : Link) → P link → P Down
    → P (if given then Down else link)
by_mark P true link here down = down
by_mark P false link here down = here

pub up_mark : (given : Bool) (link : Link) → is_up (if given then Down else link) ≡ true
    → (given ≡ false) × (is_up link ≡ true)
up_mark true link up = cc
up_mark false link up = (refl, up)

pub down_mark : (given : Bool) (link : Link) → is_up link ≡ false
    → is_up (if given then Down else link) ≡ false
down_mark given link down = by_mark (λ (l : Link). is_up l ≡ false) given link down refl

pub known_mark : (given : Bool) (link : Link) → (if given then Down else link) ≡ Available
    → link ≡ Available
known_mark true link known = cc
known_mark false link known = known

-- ---- the latest of a list is given up

-- the link is down behind it
pub given_links : (settings : LinkSettings) (a : ℕ) (link : Link) (xs : List Exchange)
    → (xs ≡ [] → link ≡ Down) → link_after settings a link (latest_given_up xs) ≡ Down
given_links settings a link [] down = down refl
given_links settings a link (x ∷ []) down = refl
given_links settings a link (x ∷ (y ∷ ys)) down =
    given_links settings a (after settings a x link) (y ∷ ys) (λ e. cc)

pub given_keeps : (settings : LinkSettings) (a : ℕ) (link : Link) (xs : List Exchange)
    → KeepsFrameCountBit settings a link xs
    → KeepsFrameCountBit settings a link (latest_given_up xs)
given_keeps settings a link [] keeps = tt
given_keeps settings a link (x ∷ []) keeps = (keeps.0, tt)
given_keeps settings a link (x ∷ (y ∷ ys)) keeps =
    (keeps.0, given_keeps settings a (after settings a x link) (y ∷ ys) keeps.1)

-- all else looks past it
pub given_flags : (a : ℕ) (flags : Flags) (xs : List Exchange)
    → flags_after a flags (latest_given_up xs) ≡ flags_after a flags xs
given_flags a flags [] = refl
given_flags a flags (x ∷ []) = refl
given_flags a flags (x ∷ (y ∷ ys)) =
    given_flags a (flags_by (answer_to a x) x.front flags) (y ∷ ys)

pub given_pending : (a : ℕ) (pending : Option Service) (xs : List Exchange)
    → pending_after a pending (latest_given_up xs) ≡ pending_after a pending xs
given_pending a pending [] = refl
given_pending a pending (x ∷ []) = refl
given_pending a pending (x ∷ (y ∷ ys)) =
    given_pending a (pending_by x.request (answer_to a x) pending) (y ∷ ys)

pub given_resets : (a : ℕ) (xs : List Exchange) → resets_in a (latest_given_up xs) ≡ resets_in a xs
given_resets a [] = refl
given_resets a (x ∷ []) = refl
given_resets a (x ∷ (y ∷ ys)) =
    ap (λ (n : ℕ). (if is_reset x.request (answer_to a x) then 1 else 0) + n)
    (given_resets a (y ∷ ys))

pub given_gaps : (a : ℕ) (before xs : List Exchange)
    → gaps_from a before (latest_given_up xs) ≡ gaps_from a before xs
given_gaps a before [] = refl
given_gaps a before (x ∷ []) = refl
given_gaps a before (x ∷ (y ∷ ys)) =
    ap (λ (l : List ℕ). gap_by a before x ++ l) (given_gaps a (before ++ x ∷ []) (y ∷ ys))

-- ---- a line

-- whether one of these is with the station, its exchanges show
has_none : (front : List ℕ → Front) (k : ℕ) (xs : List OpenExchange) → has_one_with k xs ≡ false
    → with_station k (views front xs) ≡ []
has_none front k [] none = refl
has_none front k (x ∷ xs) none = go (x.station == k) none (λ e. has_none front k xs e)
  where
    go : (b : Bool) → (b || has_one_with k xs) ≡ false →
        (has_one_with k xs ≡ false → with_station k (views front xs) ≡ []) →
        (if b then (view front x).exchange ∷ with_station k (views front xs)
        else with_station k (views front xs)) ≡ []
    go true e ih = cc
    go false e ih = ih e

record HasFirst (xs : List Exchange) : Type 0 where
  pub first : Exchange
  pub rest : List Exchange
  pub are : xs ≡ first ∷ rest

has_some : (front : List ℕ → Front) (k : ℕ) (xs : List OpenExchange) → has_one_with k xs ≡ true
    → HasFirst (with_station k (views front xs))
has_some front k [] some = cc
has_some front k (x ∷ xs) some = go (x.station == k) some (λ e. has_some front k xs e)
  where
    go : (b : Bool) → (b || has_one_with k xs) ≡ true →
        (has_one_with k xs ≡ true → HasFirst (with_station k (views front xs))) →
        HasFirst (if b then (view front x).exchange ∷ with_station k (views front xs)
        else with_station k (views front xs))
    go true e ih = record {
      first = (view front x).exchange;
      rest = with_station k (views front xs);
      are = refl;
    }
    go false e ih = ih e

more_given : (x : Exchange) (xs : List Exchange) → HasFirst xs
    → x ∷ latest_given_up xs ≡ latest_given_up (x ∷ xs)
more_given x xs h =
    ap (λ (l : List Exchange). x ∷ latest_given_up l) h.are
    ∙ sym (ap (λ (l : List Exchange). latest_given_up (x ∷ l)) h.are)

-- the exchanges with the station itself
pub with_marked : (front : List ℕ → Front) (k : ℕ) (xs : List OpenExchange)
    → with_station k (views front (latest_marked k xs))
    ≡ latest_given_up (with_station k (views front xs))
with_marked front k [] = refl
with_marked front k (x ∷ xs) =
    go (x.station == k) (has_one_with k xs) refl refl (with_marked front k xs)
  where
    go : (b h : Bool) → (x.station == k) ≡ b → has_one_with k xs ≡ h →
        with_station k (views front (latest_marked k xs))
        ≡ latest_given_up (with_station k (views front xs)) →
        with_station k (views front (if b && not h then marked x ∷ xs
        else x ∷ latest_marked k xs))
        ≡ latest_given_up (if b then (view front x).exchange ∷ with_station k (views front xs)
        else with_station k (views front xs))
    go true false here none ih =
        ap (λ (c : Bool). if c then given_up_behind (view front x).exchange
        ∷ with_station k (views front xs)
        else with_station k (views front xs)) here
        ∙ ap (λ (l : List Exchange). given_up_behind (view front x).exchange ∷ l)
        (has_none front k xs none)
        ∙ ap (λ (l : List Exchange). latest_given_up ((view front x).exchange ∷ l))
        (sym (has_none front k xs none))
    go true true here some ih =
        ap (λ (c : Bool). if c
        then (view front x).exchange ∷ with_station k (views front (latest_marked k xs))
        else with_station k (views front (latest_marked k xs))) here
        ∙ ap (λ (l : List Exchange). (view front x).exchange ∷ l) ih
        ∙ more_given (view front x).exchange (with_station k (views front xs))
        (has_some front k xs some)
    go false h other one ih =
        ap (λ (c : Bool). if c
        then (view front x).exchange ∷ with_station k (views front (latest_marked k xs))
        else with_station k (views front (latest_marked k xs))) other
        ∙ ih

-- and with each other
pub with_others : (front : List ℕ → Front) (k i : ℕ) (xs : List OpenExchange) → (i ≡ k → ⊥)
    → with_station i (views front (latest_marked k xs)) ≡ with_station i (views front xs)
with_others front k i [] other = refl
with_others front k i (x ∷ xs) other =
    go (x.station == k) (has_one_with k xs) (x.station == i) refl refl
    (with_others front k i xs other)
  where
    go : (b h d : Bool) → (x.station == k) ≡ b → (x.station == i) ≡ d →
        with_station i (views front (latest_marked k xs)) ≡ with_station i (views front xs) →
        with_station i (views front (if b && not h then marked x ∷ xs
        else x ∷ latest_marked k xs))
        ≡ (if d then (view front x).exchange ∷ with_station i (views front xs)
        else with_station i (views front xs))
    go true false true here there ih =
        absurd (other (sym (eqb-true x.station i there) ∙ eqb-true x.station k here))
    go true false false here there ih =
        ap (λ (c : Bool). if c then given_up_behind (view front x).exchange
        ∷ with_station i (views front xs)
        else with_station i (views front xs)) there
    go true true d here there ih =
        ap (λ (c : Bool). if c
        then (view front x).exchange ∷ with_station i (views front (latest_marked k xs))
        else with_station i (views front (latest_marked k xs))) there
        ∙ ap (λ (l : List Exchange). if d then (view front x).exchange ∷ l else l)
        ih
    go false h d here there ih =
        ap (λ (c : Bool). if c
        then (view front x).exchange ∷ with_station i (views front (latest_marked k xs))
        else with_station i (views front (latest_marked k xs))) there
        ∙ ap (λ (l : List Exchange). if d then (view front x).exchange ∷ l else l)
        ih

-- What looks past the mark looks past it at each station.
pub past_mark : {A : Type 0} (f : List Exchange → A)
    → ((xs : List Exchange) → f (latest_given_up xs) ≡ f xs) → (front : List ℕ → Front) (k i : ℕ)
    (xs : List OpenExchange)
    → f (with_station i (views front (latest_marked k xs))) ≡ f (with_station i (views front xs))
past_mark {A} f same front k i xs = go (cases_eq i k)
  where
    go : (i ≡ k) ⊎ (i ≡ k → ⊥) →
        f (with_station i (views front (latest_marked k xs)))
        ≡ f (with_station i (views front xs))
    go (inl at) =
        ap (λ (j : ℕ). f (with_station j (views front (latest_marked k xs)))) at
        ∙ ap f (with_marked front k xs) ∙ same (with_station k (views front xs))
        ∙ ap (λ (j : ℕ). f (with_station j (views front xs))) (sym at)
    go (inr other) = ap f (with_others front k i xs other)

pub marked_reports : (front : List ℕ → Front) (address : ℕ → ℕ) (k : ℕ) (xs : List OpenExchange)
    → reports_of address (views front (latest_marked k xs))
    ≡ reports_of address (views front xs)
marked_reports front address k [] = refl
marked_reports front address k (x ∷ xs) =
    go ((x.station == k) && not (has_one_with k xs)) (marked_reports front address k xs)
  where
    go : (b : Bool) → reports_of address (views front (latest_marked k xs))
        ≡ reports_of address (views front xs) →
        reports_of address (views front (if b then marked x ∷ xs else x ∷ latest_marked k xs))
        ≡ reports_of address (views front (x ∷ xs))
    go true ih = refl
    go false ih =
        ap (λ (l : List (ℕ × List ℕ)). report_by x.station
        (answer_to (address x.station) (view front x).exchange) ++ l)
        ih

pub marked_spoilt : (front : List ℕ → Front) (address : ℕ → ℕ) (k : ℕ) (xs : List OpenExchange)
    → spoilt_count front address (latest_marked k xs) ≡ spoilt_count front address xs
marked_spoilt front address k [] = refl
marked_spoilt front address k (x ∷ xs) =
    go ((x.station == k) && not (has_one_with k xs)) (marked_spoilt front address k xs)
  where
    go : (b : Bool) → spoilt_count front address (latest_marked k xs)
        ≡ spoilt_count front address xs →
        spoilt_count front address (if b then marked x ∷ xs else x ∷ latest_marked k xs)
        ≡ spoilt_count front address (x ∷ xs)
    go true ih = sum_by-cons _ (marked x) xs ∙ sym (sum_by-cons _ x xs)
    go false ih =
        sum_by-cons _ x (latest_marked k xs)
        ∙ ap (λ (n : ℕ). cond (is_spoilt front (address x.station) x) 1 0 + n)
        ih
        ∙ sym (sum_by-cons _ x xs)

-- ---- which one it is

one_more : (k : ℕ) (xs : List OpenExchange) (x : OpenExchange)
    → has_one_with k (xs ++ x ∷ []) ≡ (has_one_with k xs || (x.station == k))
one_more k [] x = go (x.station == k)
  where
    go : (b : Bool) → (b || false) ≡ b
    go true = refl
    go false = refl
one_more k (y ∷ ys) x = go (y.station == k) (one_more k ys x)
  where
    go : (b : Bool) → has_one_with k (ys ++ x ∷ []) ≡ (has_one_with k ys || (x.station == k))
        → (b || has_one_with k (ys ++ x ∷ []))
        ≡ ((b || has_one_with k ys) || (x.station == k))
    go true ih = refl
    go false ih = ih

or_true : (b : Bool) → (b || true) ≡ true
or_true true = refl
or_true false = refl

or_false : (b : Bool) → (b || false) ≡ b
or_false true = refl
or_false false = refl

and_false : (b : Bool) → (b && false) ≡ false
and_false true = refl
and_false false = refl

-- the last one, if it is with the station
pub marked_last : (k : ℕ) (xs : List OpenExchange) (x : OpenExchange) → (x.station == k) ≡ true
    → latest_marked k (xs ++ x ∷ []) ≡ xs ++ marked x ∷ []
marked_last k [] x here = ap (λ (b : Bool). if b && true then marked x ∷ [] else x ∷ []) here
marked_last k (y ∷ ys) x here =
    ap (λ (h : Bool). if (y.station == k) && not h then marked y ∷ (ys ++ x ∷ [])
    else y ∷ latest_marked k (ys ++ x ∷ []))
    (one_more k ys x ∙ ap (λ (b : Bool). has_one_with k ys || b) here ∙ or_true _)
    ∙ ap (λ (b : Bool). if b then marked y ∷ (ys ++ x ∷ [])
    else y ∷ latest_marked k (ys ++ x ∷ [])) (and_false (y.station == k))
    ∙ ap (λ (l : List OpenExchange). y ∷ l) (marked_last k ys x here)

-- or else one before it
pub marked_before : (k : ℕ) (xs : List OpenExchange) (x : OpenExchange) → (x.station == k) ≡ false
    → latest_marked k (xs ++ x ∷ []) ≡ latest_marked k xs ++ x ∷ []
marked_before k [] x other = ap (λ (b : Bool). if b && true then marked x ∷ [] else x ∷ []) other
marked_before k (y ∷ ys) x other =
    ap (λ (h : Bool). if (y.station == k) && not h then marked y ∷ (ys ++ x ∷ [])
    else y ∷ latest_marked k (ys ++ x ∷ []))
    (one_more k ys x ∙ ap (λ (b : Bool). has_one_with k ys || b) other ∙ or_false _)
    ∙ go ((y.station == k) && not (has_one_with k ys)) (marked_before k ys x other)
  where
    go : (b : Bool) → latest_marked k (ys ++ x ∷ []) ≡ latest_marked k ys ++ x ∷ [] →
        (if b then marked y ∷ (ys ++ x ∷ []) else y ∷ latest_marked k (ys ++ x ∷ []))
        ≡ (if b then marked y ∷ ys else y ∷ latest_marked k ys) ++ x ∷ []
    go true ih = refl
    go false ih = ap (λ (l : List OpenExchange). y ∷ l) ih

nil : (xs : List OpenExchange) → xs ++ [] ≡ xs
nil [] = refl
nil (x ∷ xs) = ap (λ (ys : List OpenExchange). x ∷ ys) (nil xs)

pub all_marked : (k : ℕ) (e : Exchanges) → all_of (given_up_at k e) ≡ latest_marked k (all_of e)
all_marked k e = go e.current
  where
    go : (c : Option OpenExchange)
        → all_of (given_up_from k e.ended c) ≡ latest_marked k (e.ended ++ as_list c)
    go None = nil (latest_marked k e.ended) ∙ ap (latest_marked k) (sym (nil e.ended))
    go (Some x) = by_place (x.station == k) refl
      where
        by_place : (b : Bool) → (x.station == k) ≡ b →
            all_of (if b then record { ended = e.ended; current = Some (marked x) }
            else record { ended = latest_marked k e.ended; current = Some x })
            ≡ latest_marked k (e.ended ++ x ∷ [])
        by_place true here = sym (marked_last k e.ended x here)
        by_place false other = sym (marked_before k e.ended x other)

pub itself : (front : List ℕ → Front) (k : ℕ) (e : Exchanges)
    → exchanges_at front k (given_up_at k e) ≡ latest_given_up (exchanges_at front k e)
itself front k e =
    ap (λ (xs : List OpenExchange). with_station k (views front xs)) (all_marked k e)
    ∙ with_marked front k (all_of e)

pub others : (front : List ℕ → Front) (k j : ℕ) (e : Exchanges) → (j ≡ k → ⊥)
    → exchanges_at front j (given_up_at k e) ≡ exchanges_at front j e
others front k j e other =
    ap (λ (xs : List OpenExchange). with_station j (views front xs)) (all_marked k e)
    ∙ with_others front k j (all_of e) other
