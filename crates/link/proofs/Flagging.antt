-- The flags of the stations, call by call: one more exchange at the end.
use Rattle.std.specs.Prelude.{◌==◌}
use Rattle.std.proofs.Common.{◌≡◌, ◌≢◌, ℕ, ◌<◌, slice_index, Bool, true, false, List, [], ◌∷◌, ◌++◌}
use Rattle.std.proofs.Common.{length, slice_set, Option, Some, None, option_and_then, refl, sym, ap}
use Rattle.std.proofs.Common.{subst, ◌∙◌, if◌then◌else◌}
use Rattle.std.proofs.lemmas.List.{get_or-set_same, get_or-set_other}
use Rattle.std.proofs.lemmas.Bool.{eqb-true, eqb-false}
use Rattle.ft12.specs.declared.frame.Front.{Front}
use Rattle.link.specs.Answers.{Frame, Asked, Answer, answer_of}
use Rattle.link.specs.Exchanges.{Exchange, OpenExchange, answer_to, with_station, view, views}
use Rattle.link.specs.Exchanges.{whole_of}
use Rattle.link.specs.Flags.{Flags, clear, flags_in, flags_by, flags_after}
use Rattle.link.specs.Turns.{StationState, no_station, station_at}
use Rattle.link.specs.Matching.{AreFlags, flags_of}
use Rattle.link.proofs.Links.{with_one}

nil : (xs : List Exchange) → xs ++ [] ≡ xs
nil [] = refl
nil (y ∷ ys) = ap (λ (zs : List Exchange). y ∷ zs) (nil ys)

flags_push : (a : ℕ) (flags : Flags) (xs : List Exchange) (x : Exchange) →
    flags_after a flags (xs ++ x ∷ []) ≡ flags_by (answer_to a x) x.front (flags_after a flags xs)
flags_push a flags [] x = refl
flags_push a flags (y ∷ ys) x = flags_push a (flags_by (answer_to a y) y.front flags) ys x

-- the flags of one station by these exchanges
abbrev pub flags_in_all : (front : List ℕ → Front) → (a i : ℕ) → List OpenExchange → Flags
flags_in_all front a i xs = flags_after a clear (with_station i (views front xs))

one_flags : (front : List ℕ → Front) (a : ℕ) (ended : List OpenExchange) (x : OpenExchange) (i : ℕ)
    →
    flags_in_all front a i (ended ++ x ∷ [])
    ≡ (if x.station == i then flags_by (answer_to a (view front x).exchange)
    (whole_of (front x.octets))
    (flags_in_all front a i ended)
    else flags_in_all front a i ended)
one_flags front a ended x i = ap (λ (es : List Exchange). flags_after a clear es)
    (with_one front ended x i)
    ∙ go (x.station == i)
  where
    go : (b : Bool) →
        flags_after a clear (with_station i (views front ended)
        ++ (if b then (view front x).exchange ∷ [] else []))
        ≡ (if b then flags_by (answer_to a (view front x).exchange) (whole_of (front x.octets))
        (flags_in_all front a i ended)
        else flags_in_all front a i ended)
    go true = flags_push a clear (with_station i (views front ended)) (view front x).exchange
    go false = ap (λ (es : List Exchange). flags_after a clear es)
        (nil (with_station i (views front ended)))

-- an exchange that isn't answered
pub unanswered_flags : (front : List ℕ → Front) (addresses : List ℕ) (ended : List OpenExchange)
    (x : OpenExchange) →
    answer_to (slice_index addresses x.station) (view front x).exchange ≡ None → (i : ℕ) →
    flags_in_all front (slice_index addresses i) i (ended ++ x ∷ [])
    ≡ flags_in_all front (slice_index addresses i) i ended
unanswered_flags front addresses ended x none i = one_flags front (slice_index addresses i) ended x
    i
    ∙ go (x.station == i) refl
  where
    go : (b : Bool) → (x.station == i) ≡ b →
        (if b then flags_by (answer_to (slice_index addresses i) (view front x).exchange)
        (whole_of (front x.octets))
        (flags_in_all front (slice_index addresses i) i ended)
        else flags_in_all front (slice_index addresses i) i ended)
        ≡ flags_in_all front (slice_index addresses i) i ended
    go false e = refl
    go true e =
        ap (λ (m : Option Answer). flags_by m (whole_of (front x.octets))
        (flags_in_all front (slice_index addresses i) i ended))
        (subst (λ (j : ℕ). answer_to (slice_index addresses j) (view front x).exchange ≡ None)
        (eqb-true x.station i e) none)

-- an exchange that shows the same
pub alike_flags : (front : List ℕ → Front) (addresses : List ℕ) (ended : List OpenExchange)
    (x y : OpenExchange)
    → y.station ≡ x.station →
    y.request ≡ x.request → whole_of (front y.octets) ≡ whole_of (front x.octets) → (i : ℕ) →
    flags_in_all front (slice_index addresses i) i (ended ++ y ∷ [])
    ≡ flags_in_all front (slice_index addresses i) i (ended ++ x ∷ [])
alike_flags front addresses ended x y station request shows i =
    let a = slice_index addresses i in
    let before = flags_in_all front a i ended in
    one_flags front a ended y i
    ∙ ap (λ (j : ℕ). if j == i
    then flags_by (option_and_then (answer_of a y.request) (whole_of (front y.octets)))
    (whole_of (front y.octets)) before else before) station
    ∙ ap (λ (r : Asked). if x.station == i
    then flags_by (option_and_then (answer_of a r) (whole_of (front y.octets)))
    (whole_of (front y.octets)) before else before) request
    ∙ ap (λ (f : Option Frame). if x.station == i then flags_by
    (option_and_then (answer_of a x.request) f) f before else before) shows
    ∙ sym (one_flags front a ended x i)

-- an exchange of the station whose turn it is, answered by a frame
pub answered_flags : (front : List ℕ → Front) (addresses : List ℕ) (stations : List StationState)
    (turn : ℕ)
    (ended : List OpenExchange)
    (x : OpenExchange) (s : StationState) (answer : Answer) (frame : Frame) → turn < length stations
    → AreFlags front addresses stations ended →
    x.station ≡ turn → answer_to (slice_index addresses x.station) (view front x).exchange
    ≡ Some answer
    → whole_of (front x.octets) ≡ Some frame →
    flags_in frame ≡ flags_of s
    → AreFlags front addresses (slice_set stations turn s) (ended ++ x ∷ [])
answered_flags front addresses stations turn ended x s answer frame fits flags at said shows same
    i =
    one_flags front (slice_index addresses i) ended x i ∙ go (x.station == i) refl
  where
    go : (b : Bool) → (x.station == i) ≡ b →
        (if b then flags_by (answer_to (slice_index addresses i) (view front x).exchange)
        (whole_of (front x.octets))
        (flags_in_all front (slice_index addresses i) i ended)
        else flags_in_all front (slice_index addresses i) i ended)
        ≡ flags_of (station_at (slice_set stations turn s) i)
    go false e =
        let other : i ≢ turn = λ (q : i ≡ turn). eqb-false x.station i e (at ∙ sym q) in
        flags i ∙ ap flags_of (sym (get_or-set_other stations turn i s no_station other))
    go true e =
        let here : turn ≡ i = sym at ∙ eqb-true x.station i e in
        ap (λ (m : Option Answer). flags_by m (whole_of (front x.octets))
        (flags_in_all front (slice_index addresses i) i ended))
        (subst (λ (j : ℕ). answer_to (slice_index addresses j) (view front x).exchange
        ≡ Some answer)
        (eqb-true x.station i e) said)
        ∙ ap (λ (f : Option Frame). flags_by (Some answer) f
        (flags_in_all front (slice_index addresses i) i ended))
        shows
        ∙ same ∙ ap flags_of (sym (get_or-set_same stations turn s no_station fits))
        ∙ ap (λ (j : ℕ). flags_of (station_at (slice_set stations turn s) j)) here
