-- The rows of the stations, one behind another.
use Rattle.std.proofs.Common.{◌≡◌, ℕ, zero, suc, ◌+◌, ◌-◌, ◌<◌, ◌≤◌, List, [], ◌∷◌, ◌++◌, length}
use Rattle.std.proofs.Common.{drop}
use Rattle.std.proofs.Common.{get_or, refl, sym, ap, subst, ◌∙◌, append_assoc, arith}
use Rattle.std.proofs.lemmas.Bool.Decides.{nat_tests}
use Rattle.std.proofs.lemmas.List.{append-nil, drop_all, drop_more, length-append}
use Rattle.std.specs.Prelude.{◌==◌, true, false}
use Rattle.runlog.specs.declared.stations.StationWatch.{StationWatch}
use Rattle.runlog.specs.declared.traffic.Traffic.{Traffic}
use Rattle.status.specs.declared.snapshot.StationView.{StationView}
use Rattle.status.specs.Shown.{AreRows, IsStationRow}
use Rattle.status.specs.declared.lookout.known.Known.{Known}

-- What rows come behind these, of the stations that are left, makes them the rows of all.
abbrev pub GoesOn : List Known → List StationWatch → List Traffic → (rows : List StationView)
    → (i : ℕ) → List StationWatch → List Traffic → Type 0
GoesOn known watches traffics rows i ws ts = (more : List StationView)
    → AreRows (32 - i) (drop i known) ws ts more → AreRows 32 known watches traffics (rows ++ more)

no_place : (known : List Known) (ws : List StationWatch) (ts : List Traffic) (n : ℕ) → n ≡ 0
    → AreRows n known ws ts []
no_place known ws ts zero is = refl
no_place known ws ts (suc n) is = cc

none_known : (known : List Known) (ws : List StationWatch) (ts : List Traffic) (n : ℕ)
    → known ≡ [] → AreRows n known ws ts []
none_known known ws ts zero is = refl
none_known [] ws ts (suc n) is = refl
none_known (k ∷ known) ws ts (suc n) is = cc

none_watched : (known : List Known) (ws : List StationWatch) (ts : List Traffic) (n : ℕ)
    → ws ≡ [] → AreRows n known ws ts []
none_watched known ws ts zero is = refl
none_watched [] ws ts (suc n) is = refl
none_watched (k ∷ known) [] ts (suc n) is = refl
none_watched (k ∷ known) (w ∷ ws) ts (suc n) is = cc

none_counted : (known : List Known) (ws : List StationWatch) (ts : List Traffic) (n : ℕ)
    → ts ≡ [] → AreRows n known ws ts []
none_counted known ws ts zero is = refl
none_counted [] ws ts (suc n) is = refl
none_counted (k ∷ known) [] ts (suc n) is = refl
none_counted (k ∷ known) (w ∷ ws) [] (suc n) is = refl
none_counted (k ∷ known) (w ∷ ws) (t ∷ ts) (suc n) is = cc

module _ (known : List Known) (watches : List StationWatch) (traffics : List Traffic)
    (rows : List StationView) (i : ℕ) (ws : List StationWatch) (ts : List Traffic)
    (goes : GoesOn known watches traffics rows i ws ts) where
  whole : AreRows (32 - i) (drop i known) ws ts [] → AreRows 32 known watches traffics rows
  whole none = subst (AreRows 32 known watches traffics) (append-nil rows) (goes [] none)

  pub over_full : 32 ≤ i → AreRows 32 known watches traffics rows
  over_full le = whole (no_place (drop i known) ws ts (32 - i) (omega arith))

  pub over_known : length known ≤ i → AreRows 32 known watches traffics rows
  over_known le = whole (none_known (drop i known) ws ts (32 - i) (drop_all i known le))

  pub over_watched : ws ≡ [] → AreRows 32 known watches traffics rows
  over_watched none = whole (none_watched (drop i known) ws ts (32 - i) none)

  pub over_counted : ts ≡ [] → AreRows 32 known watches traffics rows
  over_counted none = whole (none_counted (drop i known) ws ts (32 - i) none)

  pub one_more : (k : Known) (w : StationWatch) (others : List StationWatch) (t : Traffic)
      (later : List Traffic) (row : StationView) → i < length known → i < 32
      → k ≡ get_or known i k → ws ≡ w ∷ others → ts ≡ t ∷ later → IsStationRow k w t row
      → GoesOn known watches traffics (rows ++ row ∷ []) (i + 1) others later
  one_more k w others t later row lt room at is_w is_t here more rest =
      let places : 32 - i ≡ suc (32 - (i + 1)) = omega arith in
      let split : drop i known ≡ k ∷ drop (i + 1) known =
      drop_more known i k lt ∙ ap (λ (x : Known). x ∷ drop (i + 1) known) (sym at) in
      subst (AreRows 32 known watches traffics) (sym (append_assoc rows (row ∷ []) more))
      (goes (row ∷ more) (rw (places, split, is_w, is_t) (here, rest)))

pub none_of : {A : Type 0} (xs : List A) → length xs ≡ 0 → xs ≡ []
none_of [] is = refl
none_of (x ∷ xs) is = absurd (omega (arith, is))

pub counted_more : {A : Type 0} (xs new : List A) (x : A) (i : ℕ) → new ≡ xs ++ x ∷ []
    → length xs ≡ i → length new ≡ i + 1
counted_more xs new x i is counted =
    let long : length (xs ++ x ∷ []) ≡ length xs + 1 = length-append xs (x ∷ []) in
    ap length is ∙ omega (arith, long, counted)

pub not_full : (n i : ℕ) → false ≡ (n == 32) → n ≤ 32 → n ≡ i → i < 32
not_full n i is le same = grind (arith, nat_tests)

pub is_full : (n i : ℕ) → true ≡ (n == 32) → n ≡ i → 32 ≤ i
is_full n i is same = grind (arith, nat_tests)

pub not_sixteen : (n i : ℕ) → false ≡ (n == 16) → n ≤ 16 → n ≡ i → i + 1 ≤ 16
not_sixteen n i is le same = grind (arith, nat_tests)
