-- What was put as lines of numbers reads back.
use Rattle.std.proofs.Common.{◌≡◌, ℕ, zero, suc, ◌+◌, ◌<◌, ◌≤◌, ◌&&◌, nat_le, Bool, true, false}
use Rattle.std.proofs.Common.{List, [], ◌∷◌, ◌++◌, length, take, drop, get_or, map, Some, Result}
use Rattle.std.proofs.Common.{Ok, Err, MatchResult, refl, sym, ap, ◌∙◌, arith, append_assoc}
use Rattle.std.specs.List.{list_all}
use Rattle.std.proofs.lemmas.List.{take_more, drop_more, length-map}
use Rattle.command.specs.Saved.{is_received, is_for_line, waiting_numbers, is_savable_waiting}
use Rattle.command.specs.Saved.{waiting_in, are_octets, is_answer, is_savable_answer}
use Rattle.command.specs.Restored.{HasSettings, ArePartsOf, IsSavable, state_with, is_long}
use Rattle.command.specs.Restored.{are_long}
use Rattle.command.specs.Fields.{octets_of, AreAsdus}
use Rattle.command.specs.State.{State}
use Rattle.asdu.specs.declared.sizes.Sizes.{Sizes}
use Rattle.checkpoint.specs.declared.StateFault.{StateFault}
use Rattle.checkpoint.specs.declared.StateFault.TheVariants.{Wrong}
use Rattle.command.specs.declared.restoring.Parts.{Parts}
use Rattle.command.specs.declared.selection.Selection.{Selection}
use Rattle.command.specs.declared.station.StationInfo.{StationInfo}
use Rattle.command.specs.declared.tags.Sending.{Sending}
use Rattle.command.specs.declared.waiting.Line.{Line}
use Rattle.arrayvec.specs.ArrayVec.{ArrayVec}
use Rattle.command.specs.declared.waiting.Waiting.{Waiting}

-- ---- An item at a place

pub both : (a b : Bool) → (a && b) ≡ true → (a ≡ true) × (b ≡ true)
both true true e = (refl, refl)
both true false e = absurd (let no : ⊥ = cc in no)
both false b e = absurd (let no : ⊥ = cc in no)

all_at : {X : Type 0} (p : X → Bool) (xs : List X) (i : ℕ) (d : X) → i < length xs → list_all p xs
    ≡ true
    → p (get_or xs i d) ≡ true
all_at p [] i d lt all = absurd (omega (arith, lt))
all_at p (x ∷ xs) zero d lt all = (both (p x) (list_all p xs) all).0
all_at p (x ∷ xs) (suc i) d lt all =
    let rest : list_all p xs ≡ true = (both (p x) (list_all p xs) all).1 in
    all_at p xs i d (omega (arith, lt)) rest

pub at_place : {X : Type 0} (p : X → Bool) (xs : List X) (i : ℕ) → i < length xs → list_all p xs
    ≡ true
    → (x : X) × (p x ≡ true) × (take (i + 1) xs ≡ take i xs ++ x ∷ [])
    × (drop i xs ≡ x ∷ drop (i + 1) xs)
at_place p [] i lt all = absurd (omega (arith, lt))
at_place p (y ∷ ys) i lt all = (
  get_or (y ∷ ys) i y,
  all_at p (y ∷ ys) i y lt all,
  take_more (y ∷ ys) i y lt,
  drop_more
      (y ∷ ys) i y lt,
)

-- the next item is read behind those that were
pub next_read : {X : Type 0} (old new some more : List X) (x y : X) → new ≡ old ++ y ∷ []
    → old ≡ some → y ≡ x
    → more ≡ some ++ x ∷ [] → new ≡ more
next_read old new some more x y is same read next =
    is ∙ (ap (λ (ys : List _). ys ++ y ∷ []) same
    ∙ (ap (λ (z : _). some ++ z ∷ []) read ∙ sym next))

-- ---- A command that waits

taken : (xs ys : List ℕ) → take (length xs) (xs ++ ys) ≡ xs
taken [] ys = refl
taken (x ∷ xs) ys = ap (λ (zs : List ℕ). x ∷ zs) (taken xs ys)

dropped : (xs ys : List ℕ) → drop (length xs) (xs ++ ys) ≡ ys
dropped [] ys = refl
dropped (x ∷ xs) ys = dropped xs ys

reaches : (xs ys : List ℕ) → nat_le (length xs) (length (xs ++ ys)) ≡ true
reaches [] ys = grind arith
reaches (x ∷ xs) ys = let h = reaches xs ys in grind (arith, h)

pub waiting_back : (w : Waiting) → is_savable_waiting w ≡ true → waiting_in (waiting_numbers w)
    ≡ Some w
waiting_back w e =
    let h = both (is_received w.received) (is_for_line w.octets) e in
    rw (
      reaches w.received w.octets,
      taken w.received w.octets,
      dropped w.received w.octets,
      h.0,
      h.1,
    ) refl

-- ---- Own answers

pub answers_of : List (List ℕ) → List (ArrayVec ℕ)
answers_of octets = map (λ o. record { items = o }) octets

pub answers_back : (octets : List (List ℕ)) → octets_of (answers_of octets) ≡ octets
unfolding answers_of
answers_back [] = refl
answers_back (o ∷ os) = ap (λ (rest : List (List ℕ)). o ∷ rest) (answers_back os)

pub answers_count : (octets : List (List ℕ)) → length (answers_of octets) ≡ length octets
unfolding answers_of
answers_count octets = length-map octets (λ (o : List ℕ). record { items = o })

answer_is_savable : (o : List ℕ) → is_answer o ≡ true → is_savable_answer (record { items = o })
    ≡ true
answer_is_savable o e = (both (is_savable_answer (record { items = o })) (nat_le 9 (length o)) e).0

pub answers_savable : (octets : List (List ℕ)) → list_all is_answer octets ≡ true
    → list_all is_savable_answer (answers_of octets) ≡ true
unfolding answers_of
answers_savable [] all = refl
answers_savable (o ∷ os) all =
    let h = both (is_answer o) (list_all is_answer os) all in
    let first = answer_is_savable o h.0 in
    let others = answers_savable os h.1 in
    rw (first, others) refl

-- ---- The whole

-- the lists of a state, one after another
pub lists_of : (a b c d e rest : List (List ℕ))
    → (a ++ (b ++ (c ++ (d ++ e)))) ++ rest ≡ a ++ (b ++ (c ++ (d ++ (e ++ rest))))
lists_of a b c d e rest =
    append_assoc a (b ++ (c ++ (d ++ e))) rest ∙ ap (λ (xs : List (List ℕ)). a ++ xs)
    (append_assoc b (c ++ (d ++ e)) rest ∙ ap (λ (xs : List (List ℕ)). b ++ xs)
    (append_assoc c (d ++ e) rest ∙ ap (λ (xs : List (List ℕ)). c ++ xs) (append_assoc d e rest)))

pub asdus_by : (answers : List (ArrayVec ℕ)) → are_long answers ≡ true → AreAsdus answers
asdus_by [] all = tt
asdus_by (a ∷ more) all =
    let h = both (is_long a.items) (are_long more) all in
    let ends = both (nat_le 9 (length a.items)) (nat_le (length a.items) 249) h.0 in
    ((grind (arith, ends), grind (arith, ends)), asdus_by more h.1)

long_by : (octets : List ℕ) → is_answer octets ≡ true → is_long octets ≡ true
long_by octets e =
    by (nat_le (length octets) 249) (are_octets octets) (nat_le 9 (length octets)) e
  where
    by : (a b d : Bool) → ((a && b) && d) ≡ true → (d && a) ≡ true
    by true true true e = refl
    by true true false e = absurd (let no : ⊥ = cc in no)
    by true false d e = absurd (let no : ⊥ = cc in no)
    by false b d e = absurd (let no : ⊥ = cc in no)

-- the answers of a state that can be saved are long enough
pub long_answers : (answers : List (ArrayVec ℕ)) (octets : List (List ℕ)) → octets_of answers
    ≡ octets
    → list_all is_answer octets ≡ true → are_long answers ≡ true
long_answers [] octets is all = refl
long_answers (a ∷ more) [] is all = absurd (let no : ⊥ = cc in no)
long_answers (a ∷ more) (o ∷ os) is all =
    let h = both (is_answer o) (list_all is_answer os) all in
    let same : a.items ≡ o = cc in
    let others : octets_of more ≡ os = cc in
    let first : is_long a.items ≡ true = ap is_long same ∙ long_by o h.0 in
    let rest = long_answers more os others h.1 in
    rw (first, rest) refl

-- the answers of which each line was put, and each is long enough
pub answers_by : (answers : List (ArrayVec ℕ)) → list_all is_savable_answer answers ≡ true
    → AreAsdus answers
    → list_all is_answer (octets_of answers) ≡ true
answers_by [] all are = refl
answers_by (a ∷ more) all are =
    let h = both (is_savable_answer a) (list_all is_savable_answer more) all in
    let long : nat_le 9 (length a.items) ≡ true = grind (arith, are.0.0) in
    let first : is_answer a.items ≡ true = rw (h.0, long) refl in
    let rest = answers_by more h.1 are.1 in
    rw (first, rest) refl

-- the state that was made of the parts of a state is that state
mk : List StationInfo → Sizes → ℕ → ℕ → List Waiting → List Line → List Selection → List Sending
    → List (List ℕ)
    → State
mk stations sizes select_ms max_age_ms waiting lines selections sendings answers = record {
  stations = stations;
  sizes = sizes;
  select_ms = select_ms;
  max_age_ms = max_age_ms;
  waiting = waiting;
  lines = lines;
  selections = selections;
  sendings = sendings;
  answers = answers;
}

same_state : (stations : List StationInfo) (sizes : Sizes) (select_ms max_age_ms : ℕ) (s : State)
    (parts : Parts)
    → ArePartsOf s parts → HasSettings stations sizes select_ms max_age_ms s
    → state_with stations sizes select_ms max_age_ms parts ≡ s
unfolding mk
same_state stations sizes select_ms max_age_ms s parts are has =
    let st = sym has.same_stations in
    let sz = sym has.same_sizes in
    let se = sym has.same_select_ms in
    let ma = sym has.same_max_age_ms in
    let ws = are.waiting in
    let ls = are.lines in
    let zs = are.selections in
    let ds = are.sendings in
    let os = are.answers in
    let made : mk stations sizes select_ms max_age_ms parts.waiting.items parts.lines.items
    parts.selections.items
    parts.sendings.items (octets_of parts.answers.items)
    ≡ mk s.stations s.sizes s.select_ms s.max_age_ms s.waiting s.lines s.selections s.sendings
    s.answers =
    rw (st, sz, se, ma, ws, ls, zs, ds, os) refl in
    made

pub made_again : (r : Result State StateFault) (stations : List StationInfo) (sizes : Sizes)
    (select_ms max_age_ms : ℕ)
    (s : State) (parts : Parts) (now rest : List (List ℕ))
    → MatchResult r (λ c. c ≡ state_with stations sizes select_ms max_age_ms parts)
    (λ e. e ≡ Wrong → are_long parts.answers.items ≡ false)
    → IsSavable s → HasSettings stations sizes select_ms max_age_ms s → ArePartsOf s parts
    → now ≡ rest
    → MatchResult r (λ c. (c ≡ s) × (now ≡ rest)) (λ e. e ≡ Wrong → ⊥)
made_again (Ok c) stations sizes select_ms max_age_ms s parts now rest made savable has are left =
    (made ∙ same_state stations sizes select_ms max_age_ms s parts are has, left)
made_again (Err e) stations sizes select_ms max_age_ms s parts now rest made savable has are left =
    λ wrong.
    let no : false ≡ true =
    sym (made wrong) ∙ long_answers parts.answers.items s.answers are.answers savable.answers in
    let never : ⊥ = cc in never

pub few_octets : (answers : List (ArrayVec ℕ)) → length answers ≤ 16 → length (octets_of answers)
    ≤ 16
few_octets answers few =
    let same : length (octets_of answers) ≡ length answers =
    length-map answers (λ (a : ArrayVec ℕ). a.items) in
    omega (arith, same, few)
