-- What goes out is what was forwarded, in turn.
use Rattle.std.proofs.Common.{◌≡◌, ℕ, zero, suc, ◌+◌, ◌<◌, Bool, true, false, List, [], ◌∷◌, ◌++◌}
use Rattle.std.proofs.Common.{length, refl, sym, subst, ap, ◌∙◌, arith, rules}
use Rattle.std.specs.Prelude.{◌==◌, Option, Some, None, if◌then◌else◌, slice_get}
use Rattle.std.specs.Option.{option_map_or}
use Rattle.std.specs.List.{AllByRecursion}
use Rattle.std.proofs.lemmas.Bool.{eqb-true}
use Rattle.asdu.specs.declared.sizes.Sizes.{Sizes}
use Rattle.command.specs.declared.station.StationInfo.{StationInfo}
use Rattle.command.specs.declared.waiting.Waiting.{Waiting}
use Rattle.command.specs.Command.{command_at, command_octets}
use Rattle.command.specs.Stations.{is_addressed}
use Rattle.command.specs.State.{oldest, without_oldest}
use Rattle.command.specs.Judging.{copies, fault, waiting_count}
use Rattle.command.specs.History.{line_octets}
use Rattle.command.specs.Standard.{is_for_station}
use Rattle.command.proofs.Spelled.{forwarded_octets}
use Rattle.command.proofs.ReadAlike.{stations_read}

-- `n == n`
pub same : (n : ℕ) → (n == n) ≡ true
same n = grind arith

differ : (n m : ℕ) → n < m → (n == m) ≡ false
differ n m h = grind (arith, h)

differ_up : (n m : ℕ) → m < n → (n == m) ≡ false
differ_up n m h = grind (arith, h)

-- the ASDUs of the commands that wait for station k, oldest first
abbrev pub waiting_for : ℕ → List Waiting → List (List ℕ)
waiting_for k [] = []
waiting_for k (w ∷ ws) = if w.station == k then w.received ∷ waiting_for k ws else waiting_for k ws

put : (k : ℕ) (w : Waiting) (ws : List Waiting) (rest : List (List ℕ)) (b : Bool) → (w.station == k)
    ≡ b →
    (if b then w.received ∷ (waiting_for k ws ++ rest) else waiting_for k ws ++ rest)
    ≡ waiting_for k (w ∷ ws) ++ rest
put k w ws rest true e = rw e refl
put k w ws rest false e = rw e refl

pub waiting_for-append : (k : ℕ) (xs ys : List Waiting)
    → waiting_for k (xs ++ ys) ≡ waiting_for k xs ++ waiting_for k ys
waiting_for-append k [] ys = refl
waiting_for-append k (x ∷ xs) ys =
    rw (waiting_for-append k xs ys) (put k x xs (waiting_for k ys) (x.station == k) refl)

-- ---- copies

-- the copies with numbers above k are not for station k
above_step : (sizes : Sizes) (xs : List ℕ) (k i : ℕ) (st : StationInfo) (sts : List StationInfo)
    → k < i
    → waiting_for k (copies sizes xs (i + 1) sts) ≡ [] → (b : Bool)
    → is_addressed (command_at xs) st ≡ b
    → waiting_for k (copies sizes xs i (st ∷ sts)) ≡ []
above_step sizes xs k i st sts h hyp true e = rw (e, differ_up i k h) hyp
above_step sizes xs k i st sts h hyp false e = rw e hyp

copies_above : (sizes : Sizes) (xs : List ℕ) (k i : ℕ) (sts : List StationInfo) → k < i
    → waiting_for k (copies sizes xs i sts) ≡ []
copies_above sizes xs k i [] h = refl
copies_above sizes xs k i (st ∷ sts) h =
    let more : k < i + 1 = omega (arith, h) in
    above_step sizes xs k i st sts h (copies_above sizes xs k (i + 1) sts more)
    (is_addressed (command_at xs) st) refl

abbrev pub if_for : Bool → List ℕ → List (List ℕ)
if_for b xs = if b then xs ∷ [] else []

abbrev pub is_for_at : List ℕ → Option StationInfo → Bool
is_for_at xs station = option_map_or (is_for_station xs) station false

here : (sizes : Sizes) (xs : List ℕ) (i : ℕ) (st : StationInfo) (sts : List StationInfo) (b : Bool)
    → is_addressed (command_at xs) st ≡ b → waiting_for i (copies sizes xs i (st ∷ sts))
    ≡ if_for b xs
here sizes xs i st sts true e =
    let less : i < i + 1 = omega arith in
    rw (e, same i, copies_above sizes xs i (i + 1) sts less) refl
here sizes xs i st sts false e =
    let less : i < i + 1 = omega arith in
    rw (e, copies_above sizes xs i (i + 1) sts less) refl

there : (sizes : Sizes) (xs : List ℕ) (i j : ℕ) (st : StationInfo) (sts : List StationInfo)
    (rest : List (List ℕ))
    → i < j → waiting_for j (copies sizes xs (i + 1) sts) ≡ rest → (b : Bool)
    → is_addressed (command_at xs) st ≡ b →
    waiting_for j (copies sizes xs i (st ∷ sts)) ≡ rest
there sizes xs i j st sts rest less hyp true a = rw (a, differ i j less) hyp
there sizes xs i j st sts rest less hyp false a = rw a hyp

-- a command's copy for station i + k, if the first station here has number i
pub copies_for : (sizes : Sizes) (xs : List ℕ) (k i j : ℕ) (sts : List StationInfo) → j ≡ i + k
    → waiting_for j (copies sizes xs i sts) ≡ if_for (is_for_at xs (slice_get sts k)) xs
copies_for sizes xs k i j [] e = refl
copies_for sizes xs zero i j (st ∷ sts) e =
    let at : i ≡ j = omega (arith, e) in
    subst (λ n. waiting_for n (copies sizes xs i (st ∷ sts)) ≡ if_for (is_for_station xs st) xs) at
    (here sizes xs i st sts (is_for_station xs st) (stations_read xs st))
copies_for sizes xs (suc k) i j (st ∷ sts) e =
    let on : j ≡ (i + 1) + k = omega (arith, e) in
    let less : i < j = omega (arith, e) in
    there sizes xs i j st sts _ less (copies_for sizes xs k (i + 1) j sts on)
    (is_addressed (command_at xs) st) refl

-- ---- the octets of what waits

-- what the station gets of the ASDU
abbrev pub octets_for : Sizes → List StationInfo → ℕ → List ℕ → List ℕ
octets_for sizes stations k xs = option_map_or (line_octets sizes xs) (slice_get stations k) []

-- it waits for one of the stations, in the form in which that station gets it
pub record IsShaped (sizes : Sizes) (stations : List StationInfo) (w : Waiting) : Type 0 where
  pub there : w.station < length stations
  pub octets : w.octets ≡ octets_for sizes stations w.station w.received

abbrev pub AreShaped : Sizes → List StationInfo → List Waiting → Type 0
AreShaped sizes stations ws = AllByRecursion (IsShaped sizes stations) ws

pub shaped-append : (sizes : Sizes) (stations : List StationInfo) (xs ys : List Waiting)
    → AreShaped sizes stations xs
    → AreShaped sizes stations ys → AreShaped sizes stations (xs ++ ys)
shaped-append sizes stations [] ys a b = b
shaped-append sizes stations (x ∷ xs) ys a b = (a.0, shaped-append sizes stations xs ys a.1 b)

abbrev copy : Sizes → List ℕ → ℕ → StationInfo → Waiting
copy sizes xs i st = record {
  station = i;
  received = xs;
  octets =
      command_octets sizes st.ca (command_at xs);
}

copies_step : (sizes : Sizes) (stations : List StationInfo) (xs : List ℕ) (i : ℕ) (st : StationInfo)
    (rest : List Waiting) (b : Bool) → IsShaped sizes stations (copy sizes xs i st)
    → AreShaped sizes stations rest
    → AreShaped sizes stations (if b then copy sizes xs i st ∷ rest else rest)
copies_step sizes stations xs i st rest true s r = (s, r)
copies_step sizes stations xs i st rest false s r = r

pub copies_shaped : (sizes : Sizes) (stations : List StationInfo) (age : ℕ) (wall : Option ℕ)
    (xs : List ℕ)
    → fault sizes stations age wall xs ≡ None → (i : ℕ) (sts : List StationInfo) →
    i + length sts ≡ length stations → ((k : ℕ) → slice_get stations (i + k) ≡ slice_get sts k)
    → AreShaped sizes stations (copies sizes xs i sts)
copies_shaped sizes stations age wall xs f i [] e at = tt
copies_shaped sizes stations age wall xs f i (st ∷ sts) e at =
    let less : i < length stations = omega (arith, e) in
    let sum : (i + 1) + length sts ≡ length stations = omega (arith, e) in
    let none : i + 0 ≡ i = omega arith in
    let found : slice_get stations i ≡ Some st = subst (λ n. slice_get stations n ≡ Some st) none
    (at 0) in
    let octets : command_octets sizes st.ca (command_at xs) ≡ octets_for sizes stations i xs =
    forwarded_octets sizes stations age wall xs st.ca f
    ∙ ap (λ (o : Option StationInfo). option_map_or (line_octets sizes xs) o []) (sym found) in
    copies_step sizes stations xs i st (copies sizes xs (i + 1) sts)
    (is_addressed (command_at xs) st)
    (record { there = less; octets = octets })
    (copies_shaped sizes stations age wall xs f (i + 1) sts sum (λ k. let e : (i + 1) + k
    ≡ i + suc k = omega arith in
    subst (λ n. slice_get stations n ≡ slice_get sts k) (sym e) (at (suc k))))

-- ---- the oldest

some_of : (x y : Waiting) → Some x ≡ Some y → x ≡ y
some_of x y h = search (rules, h)

none_is_not_some : (w : Waiting) → None ≡ Some w → ⊥
none_is_not_some w h = search (rules, h)

-- the oldest for k is the first of what waits for it
oldest_step : (k : ℕ) (w x : Waiting) (ws : List Waiting) (b : Bool) → (x.station == k) ≡ b
    → oldest k (x ∷ ws) ≡ Some w →
    (oldest k ws ≡ Some w → waiting_for k ws ≡ w.received ∷ waiting_for k (without_oldest k ws)) →
    waiting_for k (x ∷ ws) ≡ w.received ∷ waiting_for k (without_oldest k (x ∷ ws))
oldest_step k w x ws true e h hyp =
    let is : Some x ≡ Some w = subst (λ b. (if b then Some x else oldest k ws) ≡ Some w) e h in
    let same_one : x ≡ w = some_of x w is in
    rw e (ap (λ (z : Waiting). z.received ∷ waiting_for k ws) same_one)
oldest_step k w x ws false e h hyp =
    rw (e, e) (hyp (subst (λ b. (if b then Some x else oldest k ws) ≡ Some w) e h))

pub oldest_is_first : (k : ℕ) (w : Waiting) (ws : List Waiting) → oldest k ws ≡ Some w
    → waiting_for k ws ≡ w.received ∷ waiting_for k (without_oldest k ws)
oldest_is_first k w [] h = absurd (none_is_not_some w h)
oldest_is_first k w (x ∷ ws) h = oldest_step k w x ws (x.station == k) refl h
    (oldest_is_first k w ws)

-- it is one of those that wait, and for k
at_step : (k : ℕ) (w x : Waiting) (ws : List Waiting) (P : Waiting → Type 0) (b : Bool)
    → (x.station == k) ≡ b
    → oldest k (x ∷ ws) ≡ Some w → P x → (oldest k ws ≡ Some w → (w.station ≡ k) × P w)
    → (w.station ≡ k) × P w
at_step k w x ws P true e h p hyp =
    let is : Some x ≡ Some w = subst (λ b. (if b then Some x else oldest k ws) ≡ Some w) e h in
    let same_one : x ≡ w = some_of x w is in
    (ap (λ (z : Waiting). z.station) (sym same_one) ∙ eqb-true x.station k e, subst P same_one p)
at_step k w x ws P false e h p hyp =
    hyp (subst (λ b. (if b then Some x else oldest k ws) ≡ Some w) e h)

pub oldest_at : (k : ℕ) (w : Waiting) (ws : List Waiting) (P : Waiting → Type 0)
    → AllByRecursion P ws
    → oldest k ws ≡ Some w → (w.station ≡ k) × P w
oldest_at k w [] P a h = absurd (none_is_not_some w h)
oldest_at k w (x ∷ ws) P a h = at_step k w x ws P (x.station == k) refl h a.0
    (oldest_at k w ws P a.1)

without_step : (k : ℕ) (x : Waiting) (ws : List Waiting) (P : Waiting → Type 0) (b : Bool) → P x
    → AllByRecursion P ws
    → AllByRecursion P (without_oldest k ws)
    → AllByRecursion P (if b then ws else x ∷ without_oldest k ws)
without_step k x ws P true p a r = a
without_step k x ws P false p a r = (p, r)

pub without_all : (k : ℕ) (ws : List Waiting) (P : Waiting → Type 0) → AllByRecursion P ws
    → AllByRecursion P (without_oldest k ws)
without_all k [] P a = tt
without_all k (x ∷ ws) P a = without_step k x ws P (x.station == k) a.0 a.1 (without_all k ws P a.1)

-- what waits for the others stays
others_step : (k j : ℕ) (x : Waiting) (ws : List Waiting) (b : Bool) → (x.station == j) ≡ b
    → (j == k) ≡ false
    → waiting_for k (without_oldest j ws) ≡ waiting_for k ws →
    waiting_for k (without_oldest j (x ∷ ws)) ≡ waiting_for k (x ∷ ws)
others_step k j x ws true e d hyp =
    let at : x.station ≡ j = eqb-true x.station j e in
    let off : (x.station == k) ≡ false = subst (λ n. (n == k) ≡ false) (sym at) d in
    rw (e, off) refl
others_step k j x ws false e d hyp = rw (e, hyp) refl

pub others_wait : (k j : ℕ) (ws : List Waiting) → (j == k) ≡ false
    → waiting_for k (without_oldest j ws) ≡ waiting_for k ws
others_wait k j [] d = refl
others_wait k j (x ∷ ws) d = others_step k j x ws (x.station == j) refl d (others_wait k j ws d)

-- none is oldest if nothing waits
none_step : (k : ℕ) (x : Waiting) (ws : List Waiting) (b : Bool) → (x.station == k) ≡ b
    → oldest k (x ∷ ws) ≡ None
    → (oldest k ws ≡ None → waiting_for k ws ≡ []) → waiting_for k (x ∷ ws) ≡ []
none_step k x ws true e h hyp =
    absurd (none_is_not_some x (sym (subst (λ b. (if b then Some x else oldest k ws) ≡ None) e h)))
none_step k x ws false e h hyp =
    rw e (hyp (subst (λ b. (if b then Some x else oldest k ws) ≡ None) e h))

pub none_waits : (k : ℕ) (ws : List Waiting) → oldest k ws ≡ None → waiting_for k ws ≡ []
none_waits k [] h = refl
none_waits k (x ∷ ws) h = none_step k x ws (x.station == k) refl h (none_waits k ws)

-- how many wait
count_step : (k : ℕ) (w : Waiting) (ws : List Waiting) (b : Bool) → (w.station == k) ≡ b
    → length (waiting_for k ws) ≡ waiting_count k ws → length (waiting_for k (w ∷ ws))
    ≡ waiting_count k (w ∷ ws)
count_step k w ws true e h = rw e (let more : suc (length (waiting_for k ws)) ≡ waiting_count k ws
    + 1 =
    omega (arith, h) in more)
count_step k w ws false e h = rw e h

pub count_is : (k : ℕ) (ws : List Waiting) → length (waiting_for k ws) ≡ waiting_count k ws
count_is k [] = refl
count_is k (w ∷ ws) = count_step k w ws (w.station == k) refl (count_is k ws)
