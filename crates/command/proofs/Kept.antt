-- Lists of what is kept: small steps that the loops take.
use Rattle.std.proofs.Common.{◌≡◌, ℕ, zero, suc, ◌+◌, ◌<◌, ◌≤◌, Bool, true, false, List, [], ◌∷◌}
use Rattle.std.proofs.Common.{◌++◌, length, map, drop, get_or, count_by, cond, refl, sym, subst, ap}
use Rattle.std.proofs.Common.{append_assoc, ◌∙◌, arith}
use Rattle.std.proofs.lemmas.List.{append-nil, at_drop_more, drop_all}
use Rattle.std.proofs.lemmas.List.Sums.{sum_by-cons, sum_by-drop_more}
use Rattle.std.specs.Prelude.{Some, slice_get}
use Rattle.arrayvec.specs.ArrayVec.{ArrayVec}
use Rattle.asdu.specs.declared.sizes.Sizes.{Sizes}
use Rattle.command.specs.Command.{command_at}
use Rattle.command.specs.Stations.{is_addressed}
use Rattle.command.specs.Judging.{copies}
use Rattle.command.specs.declared.station.StationInfo.{StationInfo}
use Rattle.command.specs.declared.waiting.Waiting.{Waiting}
use Rattle.command.specs.declared.waiting.Line.{Line}
use Rattle.command.specs.declared.waiting.Line.TheVariants.{Free}
use Rattle.command.specs.State.{free_line, first_answer}
use Rattle.command.specs.Fields.{octets_of, AreAsdus}

-- ---- free lines

lines_left : (i : ℕ) (xs : List StationInfo) → i < length xs
    → map free_line (drop i xs) ≡ Free ∷ map free_line (drop (i + 1) xs)
lines_left i [] h = absurd (omega (arith, h))
lines_left zero (x ∷ xs) h = refl
lines_left (suc i) (x ∷ xs) h =
    let e : suc i + 1 ≡ suc (i + 1) = omega arith in
    let less : i < length xs = omega (arith, h) in
    rw e (lines_left i xs less)

pub lines_step : (done : List Line) (i : ℕ) (xs : List StationInfo) (all : List Line)
    → done ++ map free_line (drop i xs) ≡ all → i < length xs →
    (done ++ Free ∷ []) ++ map free_line (drop (i + 1) xs) ≡ all
lines_step done i xs all h less =
    let e : map free_line (drop i xs) ≡ Free ∷ map free_line (drop (i + 1) xs) =
    lines_left i xs less in
    append_assoc done (Free ∷ []) (map free_line (drop (i + 1) xs))
    ∙ (ap (λ ys. done ++ ys) (sym e) ∙ h)

-- ---- copies of a command

first_copy : (sizes : Sizes) (octets : List ℕ) (i : ℕ) (st : StationInfo) (sts : List StationInfo)
    (b : Bool)
    → is_addressed (command_at octets) st ≡ b
    → copies sizes octets i (st ∷ sts) ≡ copies sizes octets i (st ∷ [])
    ++ copies sizes octets (i + 1) sts
first_copy sizes octets i st sts true e = rw e refl
first_copy sizes octets i st sts false e = rw e refl

-- the copy for the next of the stations that are left is appended
pub copies_more : (sizes : Sizes) (octets : List ℕ) (sts : List StationInfo) (i : ℕ)
    (d : StationInfo)
    (old new all : List Waiting) → i < length sts
    → new ≡ old ++ copies sizes octets i (get_or sts i d ∷ [])
    → old ++ copies sizes octets i (drop i sts) ≡ all
    → new ++ copies sizes octets (i + 1) (drop (i + 1) sts) ≡ all
copies_more sizes octets sts i d old new all less is whole =
    let st : StationInfo = get_or sts i d in
    let left : List StationInfo = drop (i + 1) sts in
    let step : copies sizes octets i (drop i sts)
    ≡ copies sizes octets i (st ∷ []) ++ copies sizes octets (i + 1) left =
    at_drop_more (copies sizes octets i) sts i d less ∙ first_copy sizes octets i st left _ refl in
    ap (λ ys. ys ++ copies sizes octets (i + 1) left) is
    ∙ (append_assoc old (copies sizes octets i (st ∷ [])) (copies sizes octets (i + 1) left)
    ∙ (ap (λ ys. old ++ ys) (sym step) ∙ whole))

-- one for each station that it is for
pub copies_count : (sizes : Sizes) (octets : List ℕ) (i : ℕ) (sts : List StationInfo)
    → length (copies sizes octets i sts) ≡ count_by (is_addressed (command_at octets)) sts
copies_count sizes octets i [] = refl
copies_count sizes octets i (st ∷ sts) =
    by (is_addressed (command_at octets) st) refl (copies_count sizes octets (i + 1) sts)
    (sum_by-cons (λ x. cond (is_addressed (command_at octets) x) 1 0) st sts)
  where
    by : (b : Bool) → is_addressed (command_at octets) st ≡ b
        → length (copies sizes octets (i + 1) sts) ≡ count_by (is_addressed (command_at octets)) sts
        → count_by (is_addressed (command_at octets)) (st ∷ sts)
        ≡ cond (is_addressed (command_at octets) st) 1 0
        + count_by (is_addressed (command_at octets)) sts
        → length (copies sizes octets i (st ∷ sts)) ≡ count_by (is_addressed (command_at octets))
        (st ∷ sts)
    by true e rest cons =
        let long : length (copies sizes octets i (st ∷ sts))
        ≡ suc (length (copies sizes octets (i + 1) sts)) =
        rw e refl in
        let one : ◌≡◌ {A = ℕ} (cond (is_addressed (command_at octets) st) 1 0) 1 = rw e refl in
        omega (arith, long, one, cons, rest)
    by false e rest cons =
        let long : length (copies sizes octets i (st ∷ sts))
        ≡ length (copies sizes octets (i + 1) sts) =
        rw e refl in
        let none : ◌≡◌ {A = ℕ} (cond (is_addressed (command_at octets) st) 1 0) 0 = rw e refl in
        omega (arith, long, none, cons, rest)

-- and there is room for the others
pub room_more : (p : StationInfo → Bool) (sts : List StationInfo) (i : ℕ) (d : StationInfo)
    (old new room left : ℕ)
    → i < length sts → new ≡ old + count_by p (get_or sts i d ∷ []) → left ≡ room
    → old + count_by p (drop i sts) ≤ room → new + count_by p (drop (i + 1) sts) ≤ left
room_more p sts i d old new room left less is same fits =
    let one : cond (p (get_or sts i d)) 1 0 ≡ count_by p (get_or sts i d ∷ []) = omega arith in
    let step : count_by p (drop i sts) ≡ cond (p (get_or sts i d)) 1 0
    + count_by p (drop (i + 1) sts) =
    sum_by-drop_more (λ x. cond (p x) 1 0) sts i d less in
    omega (arith, one, step, is, same, fits)

-- no station is left
pub copies_end : (sizes : Sizes) (octets : List ℕ) (sts : List StationInfo) (i : ℕ)
    (new all : List Waiting)
    → length sts ≤ i → new ++ copies sizes octets i (drop i sts) ≡ all → new ≡ all
copies_end sizes octets sts i new all end whole =
    sym (append-nil new) ∙ (ap (λ ys. new ++ copies sizes octets i ys) (sym (drop_all i sts end))
    ∙ whole)

-- ---- own answers

pub first_some : (xs : List (ArrayVec ℕ)) (p : ArrayVec ℕ) → slice_get xs 0 ≡ Some p
    → first_answer (octets_of xs) ≡ Some p.items
first_some [] p h = cc
first_some (x ∷ xs) p h = (let same : x ≡ p = cc in ap (λ (y : ArrayVec ℕ). Some y.items) same)

pub first_fits : (xs : List (ArrayVec ℕ)) (p : ArrayVec ℕ) → AreAsdus xs → slice_get xs 0 ≡ Some p
    → (9 ≤ length p.items) × (length p.items ≤ 249)
first_fits [] p h e = cc
first_fits (x ∷ xs) p h e =
    (let same : x ≡ p = cc in
    subst (λ (y : ArrayVec ℕ). (9 ≤ length y.items) × (length y.items ≤ 249)) same h.0)
