-- The turns of the loop over the APDUs that came.
use Rattle.std.proofs.Common.{◌≡◌, ℕ, suc, ◌+◌, ◌-◌, ◌<◌, ◌≤◌, ◌&&◌, Bool, true, false, List}
use Rattle.std.proofs.Common.{length, take, drop, nat_le, refl, sym, ap, ◌∙◌, arith, length-drop}
use Rattle.std.proofs.lemmas.List.{take_all, drop-drop}
use Rattle.std.specs.Prelude.{Option}
use Rattle.std.specs.declared.net.ip_addr.IpAddr.{IpAddr}
use Rattle.gateway.specs.State.{State}
use Rattle.runlog.specs.Inbox.{Orders, all_noted, apdu_noted, apdu_len, begins_apdu, is_whole}

one_less : (n i : ℕ) → i < n → n - i ≡ suc (n - (i + 1))
one_less n i less = omega arith

-- a whole APDU is noted, and those behind it are next
pub noted_more : (n i : ℕ) (s : State) (is_closed : Bool) (peer : Option IpAddr) (xs : List ℕ)
    (c : Orders)
    → i < n → is_whole xs ≡ true
    → all_noted (n - i) s is_closed peer xs c
    ≡ all_noted (n - (i + 1)) s is_closed peer (drop (apdu_len xs) xs)
    (apdu_noted s is_closed peer (take (apdu_len xs) xs) c)
noted_more n i s is_closed peer xs c less whole = rw (one_less n i less) (rw whole refl)

-- no whole one is at the front
pub noted_last : (n i : ℕ) (s : State) (is_closed : Bool) (peer : Option IpAddr) (xs : List ℕ)
    (c : Orders)
    → i < n → is_whole xs ≡ false → all_noted (n - i) s is_closed peer xs c ≡ (c, xs)
noted_last n i s is_closed peer xs c less part = rw (one_less n i less) (rw part refl)

second_of : (a b : Bool) → (a && b) ≡ true → b ≡ true
second_of true true e = refl
second_of true false e = absurd (let no : ⊥ = cc in no)
second_of false b e = absurd (let no : ⊥ = cc in no)

fits_of : (n m : ℕ) → nat_le n m ≡ true → n ≤ m
fits_of n m e = grind (arith, e)

-- a whole APDU is not longer than what has come
pub whole_fits : (xs : List ℕ) → is_whole xs ≡ true → apdu_len xs ≤ length xs
whole_fits xs whole =
    fits_of (apdu_len xs) (length xs)
    (second_of (begins_apdu xs) (nat_le (apdu_len xs) (length xs))
    (second_of (nat_le 2 (length xs)) (begins_apdu xs && nat_le (apdu_len xs) (length xs)) whole))

-- ---- the turns, if what is left is a slice of what came

rest_of : ℕ → List ℕ → List ℕ
rest_of done octets = take (length octets - done) (drop done octets)

rest_is : (done : ℕ) (octets : List ℕ) → rest_of done octets ≡ drop done octets
unfolding rest_of
rest_is done octets = take_all (length octets - done) (drop done octets)
    (omega (arith, length-drop done octets))

-- nothing whole is at the front any more
pub turn_last : (octets : List ℕ) (done i : ℕ) (s : State) (is_closed : Bool) (peer : Option IpAddr)
    (c : Orders)
    (all : Orders × List ℕ) → i < length octets
    → is_whole (take (length octets - done) (drop done octets)) ≡ false
    → all_noted (length octets - i) s is_closed peer (drop done octets) c ≡ all
    → (c, drop done octets) ≡ all
unfolding rest_of
turn_last octets done i s is_closed peer c all less part is =
    let front : is_whole (drop done octets) ≡ false =
    ap is_whole (sym (rest_is done octets)) ∙ part in
    sym (noted_last (length octets) i s is_closed peer (drop done octets) c less front) ∙ is

-- one more APDU is noted
pub turn_more : (octets : List ℕ) (done i len : ℕ) (s : State) (is_closed : Bool)
    (peer : Option IpAddr)
    (old new : Orders) (all : Orders × List ℕ) → i < length octets
    → is_whole (take (length octets - done) (drop done octets)) ≡ true
    → len ≡ apdu_len (take (length octets - done) (drop done octets))
    → new ≡ apdu_noted s is_closed peer (take len (take (length octets - done) (drop done octets)))
    old
    → all_noted (length octets - i) s is_closed peer (drop done octets) old ≡ all
    → all_noted (length octets - (i + 1)) s is_closed peer (drop (done + len) octets) new ≡ all
unfolding rest_of
turn_more octets done i len s is_closed peer old new all less whole len_is noted is =
    let same : take (length octets - done) (drop done octets) ≡ drop done octets =
    rest_is done octets in
    let front : is_whole (drop done octets) ≡ true = ap is_whole (sym same) ∙ whole in
    let len_of : len ≡ apdu_len (drop done octets) = len_is ∙ ap apdu_len same in
    let apdu : take len (take (length octets - done) (drop done octets))
    ≡ take (apdu_len (drop done octets)) (drop done octets) =
    ap (λ (m : ℕ). take m (take (length octets - done) (drop done octets))) len_of
    ∙ ap (λ (xs : List ℕ). take (apdu_len (drop done octets)) xs) same in
    let behind : drop (done + len) octets ≡ drop (apdu_len (drop done octets)) (drop done octets) =
    ap (λ (m : ℕ). drop (done + m) octets) len_of
    ∙ sym (drop-drop (apdu_len (drop done octets)) done octets) in
    ap (λ (xs : List ℕ). all_noted (length octets - (i + 1)) s is_closed peer xs new) behind
    ∙ (ap (λ (o : Orders). all_noted (length octets - (i + 1)) s is_closed peer
    (drop (apdu_len (drop done octets)) (drop done octets)) o)
    (noted ∙ ap (λ (xs : List ℕ). apdu_noted s is_closed peer xs old) apdu)
    ∙ (sym (noted_more (length octets) i s is_closed peer (drop done octets) old less front) ∙ is))

-- and it is not longer than what has come
pub turn_within : (octets : List ℕ) (done len : ℕ) → done ≤ length octets
    → is_whole (take (length octets - done) (drop done octets)) ≡ true
    → len ≡ apdu_len (take (length octets - done) (drop done octets)) → done + len ≤ length octets
unfolding rest_of
turn_within octets done len within whole len_is =
    let same : take (length octets - done) (drop done octets) ≡ drop done octets =
    rest_is done octets in
    let fits : apdu_len (drop done octets) ≤ length (drop done octets) =
    whole_fits (drop done octets) (ap is_whole (sym same) ∙ whole) in
    let len_of : len ≡ apdu_len (drop done octets) = len_is ∙ ap apdu_len same in
    omega (arith, fits, len_of, length-drop done octets, within)
