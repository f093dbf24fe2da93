-- The exchanges of one station among those of a line.
use Rattle.std.specs.Prelude.{◌==◌}
use Rattle.std.proofs.Common.{◌≡◌, ◌≢◌, ℕ, ◌<◌, ◌≤◌, ◌⊎◌, slice_index, Bool, true, false, List, []}
use Rattle.std.proofs.Common.{◌∷◌, ◌++◌, length, slice_set, refl, sym, ap, subst, ◌∙◌, inl, inr}
use Rattle.std.proofs.Common.{if◌then◌else◌}
use Rattle.std.proofs.lemmas.List.{get_or-set_same, get_or-set_other, set_past}
use Rattle.std.proofs.lemmas.Bool.{cases_lt, cases_eq, eqb-true, eqb-false}
use Rattle.ft12.specs.declared.frame.Front.{Front}
use Rattle.link.specs.Answers.{Asked}
use Rattle.link.specs.Exchanges.{Exchange, LineExchange, with_station, OpenExchange, view, views}
use Rattle.link.specs.Procedure.{LinkSettings, Link, Down, after, MaySend, KeepsFrameCountBit}
use Rattle.link.specs.Procedure.{link_after}
use Rattle.link.specs.Turns.{StationState, no_station, station_at}
use Rattle.link.specs.Matching.{AreKept, AreLinks}

-- a field that one station keeps, all keep
pub set_view : {A : Type 0} (f : StationState → A) (stations : List StationState) (k : ℕ)
    (s : StationState)
    → f s ≡ f (station_at stations k) →
    (i : ℕ) → f (station_at (slice_set stations k s) i) ≡ f (station_at stations i)
set_view {A} f stations k s same i = go (cases_lt k (length stations)) (cases_eq i k)
  where
    go : (k < length stations) ⊎ (length stations ≤ k) → (i ≡ k) ⊎ (i ≡ k → ⊥)
        → f (station_at (slice_set stations k s) i) ≡ f (station_at stations i)
    go (inr past) e = ap (λ (l : List StationState). f (station_at l i))
        (set_past stations k s past)
    go (inl fits) (inr other) = ap f (get_or-set_other stations k i s no_station other)
    go (inl fits) (inl at) =
        ap (λ (j : ℕ). f (station_at (slice_set stations k s) j)) at
        ∙ ap f (get_or-set_same stations k s no_station fits) ∙ same
        ∙ ap (λ (j : ℕ). f (station_at stations j)) (sym at)

-- one station is another
pub set_at : (stations : List StationState) (k i : ℕ) (s : StationState) →
    (i ≡ k) × (station_at (slice_set stations k s) i ≡ s)
    ⊎ (station_at (slice_set stations k s) i ≡ station_at stations i)
set_at stations k i s = go (cases_lt k (length stations)) (cases_eq i k)
  where
    go : (k < length stations) ⊎ (length stations ≤ k) → (i ≡ k) ⊎ (i ≡ k → ⊥) →
        (i ≡ k) × (station_at (slice_set stations k s) i ≡ s)
        ⊎ (station_at (slice_set stations k s) i ≡ station_at stations i)
    go (inr past) e =
        inr (ap (λ (l : List StationState). station_at l i) (set_past stations k s past))
    go (inl fits) (inr other) = inr (get_or-set_other stations k i s no_station other)
    go (inl fits) (inl here) = inl (
      here,
      ap (λ (j : ℕ). station_at (slice_set stations k s) j) here
          ∙ get_or-set_same stations k s no_station fits,
    )

pub with_station-append : (i : ℕ) (es fs : List LineExchange)
    → with_station i (es ++ fs) ≡ with_station i es ++ with_station i fs
with_station-append i [] fs = refl
with_station-append i (e ∷ es) fs = go (e.station == i) (with_station-append i es fs)
  where
    go : (b : Bool) → with_station i (es ++ fs) ≡ with_station i es ++ with_station i fs →
        (if b then e.exchange ∷ with_station i (es ++ fs) else with_station i (es ++ fs))
        ≡ (if b then e.exchange ∷ with_station i es else with_station i es) ++ with_station i fs
    go true ih = ap (λ (xs : List Exchange). e.exchange ∷ xs) ih
    go false ih = ih

-- one more exchange at the end
pub keeps_split : (settings : LinkSettings) (station : ℕ) (link : Link) (xs : List Exchange)
    (x : Exchange)
    → KeepsFrameCountBit settings station link (xs ++ x ∷ []) →
    KeepsFrameCountBit settings station link xs × MaySend (link_after settings station link xs)
    x.request
keeps_split settings station link [] x k = (tt, k.0)
keeps_split settings station link (y ∷ ys) x k =
    let rest = keeps_split settings station (after settings station y link) ys x k.1 in
    ((k.0, rest.0), rest.1)

keeps_join : (settings : LinkSettings) (station : ℕ) (link : Link) (xs : List Exchange)
    (x : Exchange)
    → KeepsFrameCountBit settings station link xs →
    MaySend (link_after settings station link xs) x.request
    → KeepsFrameCountBit settings station link (xs ++ x ∷ [])
keeps_join settings station link [] x k may = (may, tt)
keeps_join settings station link (y ∷ ys) x k may = (
  k.0,
  keeps_join settings station (after settings station y link) ys x k.1 may,
)

pub link_after-push : (settings : LinkSettings) (station : ℕ) (link : Link) (xs : List Exchange)
    (x : Exchange) →
    link_after settings station link (xs ++ x ∷ [])
    ≡ after settings station x (link_after settings station link xs)
link_after-push settings station link [] x = refl
link_after-push settings station link (y ∷ ys) x =
    link_after-push settings station (after settings station y link) ys x

pub views-append : (front : List ℕ → Front) (xs ys : List OpenExchange)
    → views front (xs ++ ys) ≡ views front xs ++ views front ys
views-append front [] ys = refl
views-append front (x ∷ xs) ys = ap (λ (es : List LineExchange). view front x ∷ es)
    (views-append front xs ys)

-- the exchanges with station i, one more being the last
pub with_one : (front : List ℕ → Front) (xs : List OpenExchange) (x : OpenExchange) (i : ℕ) →
    with_station i (views front (xs ++ x ∷ [])) ≡ with_station i (views front xs)
    ++ (if x.station == i then (view front x).exchange ∷ [] else [])
with_one front xs x i = ap (λ (es : List LineExchange). with_station i es)
    (views-append front xs (x ∷ []))
    ∙ with_station-append i (views front xs) (view front x ∷ [])

pub nil : (xs : List Exchange) → xs ++ [] ≡ xs
nil [] = refl
nil (y ∷ ys) = ap (λ (zs : List Exchange). y ∷ zs) (nil ys)

-- Another end of the last exchange leaves the procedure kept.
keeps_other : (settings : LinkSettings) (station : ℕ) (xs : List Exchange) (x y : Exchange)
    (b : Bool)
    → y.request ≡ x.request →
    KeepsFrameCountBit settings station Down (xs ++ (if b then x ∷ [] else []))
    → KeepsFrameCountBit settings station Down (xs ++ (if b then y ∷ [] else []))
keeps_other settings station xs x y false same k = k
keeps_other settings station xs x y true same k =
    let parts = keeps_split settings station Down xs x k in
    keeps_join settings station Down xs y parts.0 (subst
    (λ (r : Asked). MaySend (link_after settings station Down xs) r) (sym same) parts.1)

-- the last exchange grew
pub grown_keeps : (front : List ℕ → Front) (settings : LinkSettings) (addresses : List ℕ)
    (ended : List OpenExchange)
    (x y : OpenExchange) →
    y.station ≡ x.station → y.request ≡ x.request
    → AreKept front settings addresses (ended ++ x ∷ [])
    → AreKept front settings addresses (ended ++ y ∷ [])
grown_keeps front settings addresses ended x y station request keeps i =
    let a = slice_index addresses i in
    let before = subst (λ (l : List Exchange). KeepsFrameCountBit settings a Down l)
    (with_one front ended x i)
    (keeps i) in
    subst (λ (l : List Exchange). KeepsFrameCountBit settings a Down l)
    (sym (with_one front ended y i))
    (subst (λ (j : ℕ). KeepsFrameCountBit settings a Down (with_station i (views front ended)
    ++ (if j == i then (view front y).exchange ∷ [] else []))) (sym station)
    (keeps_other settings a (with_station i (views front ended)) (view front x).exchange
    (view front y).exchange
    (x.station == i) request before))

-- an exchange begins
pub begun_keeps : (front : List ℕ → Front) (settings : LinkSettings) (addresses : List ℕ)
    (stations : List StationState) (xs : List OpenExchange) (x : OpenExchange) →
    AreKept front settings addresses xs → AreLinks front settings addresses stations xs
    → MaySend (station_at stations x.station).link x.request →
    AreKept front settings addresses (xs ++ x ∷ [])
begun_keeps front settings addresses stations xs x keeps links may i =
    subst (λ (l : List Exchange). KeepsFrameCountBit settings (slice_index addresses i) Down l)
    (sym (with_one front xs x i)) (go (x.station == i) refl)
  where
    go : (b : Bool) → (x.station == i) ≡ b →
        KeepsFrameCountBit settings (slice_index addresses i) Down (with_station i (views front xs)
        ++ (if b then (view front x).exchange ∷ [] else []))
    go false e =
        subst (λ (l : List Exchange). KeepsFrameCountBit settings (slice_index addresses i) Down l)
        (sym (nil (with_station i (views front xs)))) (keeps i)
    go true e =
        keeps_join settings (slice_index addresses i) Down (with_station i (views front xs))
        (view front x).exchange
        (keeps i)
        (subst (λ (l : Link). MaySend l x.request) (sym (links i))
        (subst (λ (j : ℕ). MaySend (station_at stations j).link x.request) (eqb-true x.station i e)
        may))

-- the links after the exchange of the station whose turn it is ended
pub ended_links : (front : List ℕ → Front) (settings : LinkSettings) (addresses : List ℕ)
    (stations : List StationState) (turn : ℕ) (ended : List OpenExchange)
    (x : OpenExchange) (s : StationState) → turn < length stations
    → AreLinks front settings addresses stations ended →
    x.station ≡ turn → s.link ≡ after settings (slice_index addresses turn) (view front x).exchange
    (station_at stations turn).link →
    AreLinks front settings addresses (slice_set stations turn s) (ended ++ x ∷ [])
ended_links front settings addresses stations turn ended x s fits links at link i =
    ap (λ (l : List Exchange). link_after settings (slice_index addresses i) Down l)
    (with_one front ended x i)
    ∙ go (x.station == i) refl
  where
    go : (b : Bool) → (x.station == i) ≡ b →
        link_after settings (slice_index addresses i) Down (with_station i (views front ended)
        ++ (if b then (view front x).exchange ∷ [] else []))
        ≡ (station_at (slice_set stations turn s) i).link
    go false e =
        let other : i ≢ turn = λ (q : i ≡ turn). eqb-false x.station i e (at ∙ sym q) in
        ap (λ (l : List Exchange). link_after settings (slice_index addresses i) Down l)
        (nil (with_station i (views front ended)))
        ∙ links i
        ∙ ap (λ (t : StationState). t.link)
        (sym (get_or-set_other stations turn i s no_station other))
    go true e =
        let here : turn ≡ i = sym at ∙ eqb-true x.station i e in
        link_after-push settings (slice_index addresses i) Down (with_station i (views front ended))
        (view front x).exchange
        ∙ ap (λ (l : Link). after settings (slice_index addresses i) (view front x).exchange l)
        (links i)
        ∙ sym (ap (λ (j : ℕ). after settings (slice_index addresses j) (view front x).exchange
        (station_at stations j).link) here)
        ∙ sym link
        ∙ ap (λ (t : StationState). t.link) (sym (get_or-set_same stations turn s no_station fits))
        ∙ ap (λ (j : ℕ). (station_at (slice_set stations turn s) j).link) here

-- an exchange that ended alike
pub alike_links : (front : List ℕ → Front) (settings : LinkSettings) (addresses : List ℕ)
    (ended : List OpenExchange)
    (x y : OpenExchange) → y.station ≡ x.station →
    ((link : Link) → after settings (slice_index addresses x.station) (view front y).exchange link
    ≡ after settings (slice_index addresses x.station) (view front x).exchange link) →
    (i : ℕ)
    → link_after settings (slice_index addresses i) Down
    (with_station i (views front (ended ++ y ∷ [])))
    ≡ link_after settings (slice_index addresses i) Down
    (with_station i (views front (ended ++ x ∷ [])))
alike_links front settings addresses ended x y station alike i =
    ap (λ (l : List Exchange). link_after settings (slice_index addresses i) Down l)
    (with_one front ended y i)
    ∙ ap (λ (j : ℕ). link_after settings (slice_index addresses i) Down
    (with_station i (views front ended)
    ++ (if j == i then (view front y).exchange ∷ [] else []))) station
    ∙ go (x.station == i) refl
    ∙ ap (λ (l : List Exchange). link_after settings (slice_index addresses i) Down l)
    (sym (with_one front ended x i))
  where
    go : (b : Bool) → (x.station == i) ≡ b →
        link_after settings (slice_index addresses i) Down (with_station i (views front ended)
        ++ (if b then (view front y).exchange ∷ [] else []))
        ≡ link_after settings (slice_index addresses i) Down (with_station i (views front ended)
        ++ (if b then (view front x).exchange ∷ [] else []))
    go false e = refl
    go true e =
        link_after-push settings (slice_index addresses i) Down (with_station i (views front ended))
        (view front y).exchange
        ∙ subst (λ (j : ℕ). after settings (slice_index addresses j) (view front y).exchange
        (link_after settings (slice_index addresses i) Down (with_station i (views front ended)))
        ≡ after settings (slice_index addresses j) (view front x).exchange
        (link_after settings (slice_index addresses i) Down (with_station i (views front ended))))
        (eqb-true x.station i e) (alike _)
        ∙ sym (link_after-push settings (slice_index addresses i) Down
        (with_station i (views front ended))
        (view front x).exchange)
