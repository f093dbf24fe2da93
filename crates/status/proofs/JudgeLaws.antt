-- What a judgement means.
use Rattle.std.proofs.Common.{◌≡◌, ◌≢◌, ◌-◌, ◌*◌, ◌≤◌, Bool, true, false, ◌||◌, List}
use Rattle.std.proofs.Common.{[]}
use Rattle.std.proofs.Common.{◌∷◌, Option, Some, None, ap, refl, sym, ◌∙◌, arith}
use Rattle.std.proofs.lemmas.Bool.{ltb-false, le-ltb}
use Rattle.std.proofs.Math.Nat.{div-mul-le_self}
use Rattle.std.proofs.lemmas.Nat.{le-div}
use Rattle.std.specs.List.{AllByRecursion, list_any}
use Rattle.std.specs.Option.{is_none}
use Rattle.std.specs.Prelude.{◌/◌, ◌==◌, ◌&&◌, if◌then◌else◌, length, nat_le, nat_lt, not}
use Rattle.status.specs.Judge.{are_all_silent, cannot_keep, does_not_answer, is_critical, is_full}
use Rattle.status.specs.Judge.{is_lost, may_answer}
use Rattle.status.specs.Judge.{is_silent, is_warning, judgement_of}
use Rattle.status.specs.Law.{Answers, IsWell}
use Rattle.status.specs.declared.judging.Judgement.TheVariants.{Ok, Warning, Critical}
use Rattle.status.specs.declared.snapshot.Keeping.{Keeping}
use Rattle.status.specs.declared.snapshot.Keeping.TheVariants.{Off, Kept, NotKept}
use Rattle.status.specs.declared.snapshot.LinkState.{LinkState}
use Rattle.status.specs.declared.snapshot.LinkState.TheVariants as stands
use Rattle.status.specs.declared.snapshot.Snapshot.{Snapshot}
use Rattle.status.specs.declared.snapshot.StationView.{StationView}

neither : (a b : Bool) → (a || b) ≡ false → (a ≡ false) × (b ≡ false)
neither true b is = cc
neither false b is = (refl, is)

judged_ok : (a b : Bool) → (if a then Critical else if b then Warning else Ok) ≡ Ok
    → (a ≡ false) × (b ≡ false)
judged_ok true b is = cc
judged_ok false true is = cc
judged_ok false false is = (refl, refl)

is_there : (b : Bool) → not b ≡ false → b ≡ true
is_there true is = refl
is_there false is = cc

some_peer : {A : Type 0} (o : Option A) → is_none o ≡ false → o ≢ None
some_peer None is none = cc
some_peer (Some x) is none = cc

is_kept : (k : Keeping) → cannot_keep k ≡ false → k ≢ NotKept
is_kept Off is lost = cc
is_kept Kept is lost = cc
is_kept NotKept is lost = cc

answers : (station : StationView) → is_silent station ≡ false → Answers station
answers station is = record {
  not_silent = λ same. absurd (true_false (sym (ap does_not_answer same) ∙ is));
  not_down = λ same. absurd (true_false (sym (ap does_not_answer same) ∙ is));
}
  where
    true_false : true ≡ false → ⊥
    true_false e = cc

all_answer : (stations : List StationView) → list_any is_silent stations ≡ false
    → AllByRecursion Answers stations
all_answer [] is = tt
all_answer (station ∷ stations) is =
    let parts = neither (is_silent station) (list_any is_silent stations) is in
    (answers station parts.0, all_answer stations parts.1)

pub ok_is_well : (s : Snapshot) → judgement_of s ≡ Ok → IsWell s
ok_is_well s is =
    let judged = judged_ok (is_critical s) (is_warning s) is in
    let all = neither (is_lost s.line s.now_ms || is_none s.centre.peer || is_full s.queue
    || cannot_keep s.keeping) (are_all_silent s.stations.now) judged.0 in
    let full = neither (is_lost s.line s.now_ms || is_none s.centre.peer || is_full s.queue)
    (cannot_keep s.keeping) all.0 in
    let gone = neither (is_lost s.line s.now_ms || is_none s.centre.peer) (is_full s.queue)
    full.0 in
    let lost = neither (is_lost s.line s.now_ms) (is_none s.centre.peer) gone.0 in
    let half = neither (not s.line.is_there || nat_lt (s.queue.places / 2) s.queue.taken)
    (list_any is_silent s.stations.now) judged.1 in
    let away = neither (not s.line.is_there) (nat_lt (s.queue.places / 2) s.queue.taken) half.0 in
    let free : 3 ≤ s.queue.places - s.queue.taken =
    ltb-false (s.queue.places - s.queue.taken) 3 gone.1 in
    let most : s.queue.taken ≤ s.queue.places / 2 =
    ltb-false (s.queue.places / 2) s.queue.taken away.1 in
    let twice : s.queue.places / 2 * 2 ≤ s.queue.places = div-mul-le_self s.queue.places 2 in
    record {
      line = is_there s.line.is_there away.0;
      centre = some_peer s.centre.peer lost.1;
      free = omega arith;
      half = omega arith;
      kept = is_kept s.keeping full.1;
      stations = all_answer s.stations.now half.1;
    }

both_false : (a b : Bool) → a ≡ false → b ≡ false → (a || b) ≡ false
both_false true b is other = cc
both_false false b is other = other

not_away : (there away : Bool) → there ≡ true → (not there && away) ≡ false
not_away true away is = refl
not_away false away is = cc

no_peer : {A : Type 0} (o : Option A) → o ≢ None → is_none o ≡ false
no_peer None some = absurd (some refl)
no_peer (Some x) some = refl

not_lost : (k : Keeping) → k ≢ NotKept → cannot_keep k ≡ false
not_lost Off kept = refl
not_lost Kept kept = refl
not_lost NotKept kept = absurd (kept refl)

not_silent : (l : LinkState) → l ≢ stands.Silent → l ≢ stands.Down → does_not_answer l ≡ false
not_silent stands.NotAsked silent down = refl
not_silent stands.Asked silent down = refl
not_silent stands.Up silent down = refl
not_silent stands.Silent silent down = absurd (silent refl)
not_silent stands.Down silent down = absurd (down refl)

none_silent : (stations : List StationView) → AllByRecursion Answers stations
    → list_any is_silent stations ≡ false
none_silent [] all = refl
none_silent (station ∷ stations) (here, all) =
    both_false (is_silent station) (list_any is_silent stations)
    (not_silent station.standing here.not_silent here.not_down) (none_silent stations all)

and_false : (b : Bool) → (b && false) ≡ false
and_false true = refl
and_false false = refl

not_all_silent : (stations : List StationView) → AllByRecursion Answers stations
    → are_all_silent stations ≡ false
not_all_silent [] all = refl
not_all_silent (station ∷ stations) (here, all) =
    ap (λ b. not (length (station ∷ stations) == 0) && not (not b || list_any may_answer stations))
    (not_silent station.standing here.not_silent here.not_down)
    ∙ and_false (not (length (station ∷ stations) == 0))

pub well_is_ok : (s : Snapshot) → IsWell s → judgement_of s ≡ Ok
well_is_ok s well =
    let free : 3 ≤ s.queue.places - s.queue.taken = let is = well.free in omega arith in
    let half : s.queue.taken * 2 ≤ s.queue.places = well.half in
    let most : s.queue.taken ≤ s.queue.places / 2 =
    le-div s.queue.taken s.queue.places 2 (omega arith) half in
    let lost : is_lost s.line s.now_ms ≡ false =
    not_away s.line.is_there (nat_le 60000 (s.now_ms - s.line.since_ms)) well.line in
    let gone : (is_lost s.line s.now_ms || is_none s.centre.peer) ≡ false =
    both_false (is_lost s.line s.now_ms) (is_none s.centre.peer) lost
    (no_peer s.centre.peer well.centre) in
    let full : (is_lost s.line s.now_ms || is_none s.centre.peer || is_full s.queue) ≡ false =
    both_false (is_lost s.line s.now_ms || is_none s.centre.peer) (is_full s.queue) gone
    (le-ltb (s.queue.places - s.queue.taken) 3 free) in
    let kept : (is_lost s.line s.now_ms || is_none s.centre.peer || is_full s.queue
    || cannot_keep s.keeping) ≡ false =
    both_false (is_lost s.line s.now_ms || is_none s.centre.peer || is_full s.queue)
    (cannot_keep s.keeping) full (not_lost s.keeping well.kept) in
    let critical : is_critical s ≡ false =
    both_false (is_lost s.line s.now_ms || is_none s.centre.peer || is_full s.queue
    || cannot_keep s.keeping) (are_all_silent s.stations.now) kept
    (not_all_silent s.stations.now well.stations) in
    let away : (not s.line.is_there || nat_lt (s.queue.places / 2) s.queue.taken) ≡ false =
    both_false (not s.line.is_there) (nat_lt (s.queue.places / 2) s.queue.taken)
    (ap not well.line) (le-ltb (s.queue.places / 2) s.queue.taken most) in
    let warning : is_warning s ≡ false =
    both_false (not s.line.is_there || nat_lt (s.queue.places / 2) s.queue.taken)
    (list_any is_silent s.stations.now) away (none_silent s.stations.now well.stations) in
    ap (λ (b : Bool). if b then Critical else if is_warning s then Warning else Ok) critical
    ∙ ap (λ (b : Bool). if b then Warning else Ok) warning
