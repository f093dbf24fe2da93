-- The ends are looked at between two events that give the wall clock.
use Rattle.std.proofs.Common.{◌≡◌, ◌≢◌, ℕ, ◌+◌, ◌-◌, ◌<◌, ◌≤◌, nat_le, ◌&&◌, ◌||◌, not, Bool}
use Rattle.std.proofs.Common.{true}
use Rattle.std.proofs.Common.{false, List, Option, Some, None, IfSome, arith, refl, sym, ap, subst}
use Rattle.std.proofs.Common.{◌∙◌, inl, inr}
use Rattle.gateway.specs.declared.ports.Next.{Next}
use Rattle.live.specs.Timing.{Moments, read_at, told_at, is_behind, is_awaited}
use Rattle.live.specs.Walls.{is_wall, is_wall_due, is_due_since}
use Rattle.live.specs.Law.{AtBegun, AtClock}
use Rattle.live.proofs.Apart.{walled_of, walled_apart, clock_of, clock_apart, taken_same}
use Rattle.live.proofs.Rounds.{walled_aside, turn_kept, quiet_kept, looks_kept}
use Rattle.live.specs.Ends.{brings_frame}
use Rattle.live.specs.Ends.{LiveEnds, QuietRounds, NoRound, OneRound, Turns, LogsTurn, as_logged}
use Rattle.live.specs.Ends.{TurnsToWall, TurnsToEnds, event_at, looking, clock_read_at}
use Rattle.live.specs.declared.found.SourceEvent.{SourceEvent}
use Rattle.live.specs.declared.found.SourceEvent.TheVariants as found
use Rattle.live.specs.declared.walled.Walled.{Walled}

-- what was found is no wall clock
no_wall : (now : ℕ) (f : Option SourceEvent) → is_wall (event_at now f) ≡ false
no_wall now None = refl
no_wall now (Some found.Open) = refl
no_wall now (Some (found.Bytes len)) = refl
no_wall now (Some found.Cut) = refl
no_wall now (Some (found.Line len)) = refl
no_wall now (Some found.Fault) = refl

pub of_ends : (old new : LiveEnds) (event : Next) (buf : List ℕ) → TurnsToEnds old event buf new
    → is_wall event ≡ false
of_ends old new event buf t = ap is_wall t.given.given
    ∙ no_wall (told_at new.timing (brings_frame t.given.taken buf) t.now) t.given.taken

-- once it was given it isn't due before the ends have been looked at
undue : (a b c d : LiveEnds) (first second : Next) → b.walled ≡ c.walled → TurnsToWall a first b
    → TurnsToWall c second d
    → false ≡ true
undue a b c d first second same t u =
    let given = sym same ∙ ap (λ (e : LiveEnds). e.walled) t.given.ends in
    sym (ap (λ (w : Walled). is_wall_due w u.begun) given) ∙ u.due

-- an event that isn't the wall clock comes of looks, before which it wasn't due
since : (given : Option ℕ) (begun : ℕ) → is_due_since given true begun ≡ false
    → IfSome given (λ t. begun < t + 1000)
since None begun undue = tt
since (Some t) begun undue = grind (arith, undue)

some_since : (given : Option ℕ) (begun : ℕ) → is_due_since given true begun ≡ false → given ≢ None
some_since None begun undue = λ none. absurd (cc)
some_since (Some t) begun undue = λ none. absurd (cc)

pub looked_walled : (old new : LiveEnds) (event : Next) (buf : List ℕ)
    → TurnsToEnds old event buf new
    → new.walled ≡ record old.walled { has_looked = true }
looked_walled old new event buf t =
    ap (λ (p : Option SourceEvent × LiveEnds). walled_of p.1) t.given.ends
    ∙ (taken_same walled_of walled_apart (is_behind t.found.timing t.now) buf t.f t.found
    ∙ looks_kept walled_of walled_aside t.first (looking (clock_read_at t.first old)) t.now t.f buf
    t.found t.looks)

-- it isn't due either when the last round begins
due_last : (a b c : Bool) → (a || (b || c)) ≡ false → c ≡ false
due_last true b c undue = absurd (cc)
due_last false true c undue = absurd (cc)
due_last false false c undue = undue

quiet_undue : (start : LiveEnds) (first count begun : ℕ) (e : LiveEnds)
    → QuietRounds start first count begun e
    → is_wall_due start.walled first ≡ false → is_wall_due start.walled begun ≡ false
quiet_undue start first _ _ _ NoRound undue = undue
quiet_undue start first _ _ _ (OneRound count begun now before found buf q t undue) before_undue =
    let same : found.walled ≡ start.walled =
    turn_kept walled_of walled_apart begun before found None buf t
    ∙ quiet_kept walled_of walled_aside start first count begun before q in
    ap (λ (w : Walled). is_wall_due w now) (sym same)
    ∙ due_last (nat_le 100 (now - first)) (is_awaited start.timing && not (is_awaited found.timing))
    (is_wall_due found.walled now) undue

-- so behind one such event it is due by when it was given alone
undue_since : (a b c d : LiveEnds) (first second : Next) (buf more : List ℕ) → b.walled ≡ c.walled
    → TurnsToEnds a first buf b → (u : TurnsToEnds c second more d)
    → is_due_since b.walled.given true u.looks.begun ≡ false
undue_since a b c d first second buf more same t u =
    let was = looked_walled a b first buf t in
    let looked : b.walled.has_looked ≡ true = ap (λ (w : Walled). w.has_looked) was in
    let at_first : is_due_since b.walled.given true u.first ≡ false =
    ap (λ h. is_due_since b.walled.given h u.first) (sym looked)
    ∙ (ap (λ (w : Walled). is_wall_due w u.first) same ∙ u.due) in
    let start = looking (clock_read_at u.first c) in
    let given = ap (λ (w : Walled). w.given) same in
    ap (λ k. is_due_since k true u.looks.begun) given
    ∙ quiet_undue start u.first u.looks.count u.looks.begun u.looks.before u.looks.quiet
    (ap (λ k. is_due_since k true u.first) (sym given) ∙ at_first)

pub wall_of : (a b : LiveEnds) (first : Next) (buf : List ℕ) → TurnsToWall a first b → is_wall first
    ≡ true
wall_of a b first buf t = ap is_wall t.given.given

at_begun : (given : Moments) (begun now : ℕ) (Holds : ℕ → Type 0) → Holds begun
    → AtBegun (read_at (read_at given begun) now) Holds
at_begun None begun now Holds h = tt
at_begun (Some before) begun now Holds h = h

-- the clock gave when the last round began before it gave the moment of the event
ReadAt : (begun : ℕ) → Moments → Type 0
ReadAt begun given = (before : Moments) × (given ≡ read_at before begun)

quiet_read_at : (start : LiveEnds) (first count begun : ℕ) (e : LiveEnds)
    → QuietRounds start first count begun e → ReadAt first start.clock
    → ReadAt begun e.clock
unfolding ReadAt
quiet_read_at start first _ _ _ NoRound given = given
quiet_read_at start first _ _ _ (OneRound count begun now before found buf q t undue) given =
    (found.clock, refl)

begun_clock : (old new : LiveEnds) (event : Next) (buf : List ℕ) (t : TurnsToEnds old event buf new)
    (Holds : ℕ → Type 0)
    → Holds t.looks.begun → AtBegun new.clock Holds
unfolding ReadAt
begun_clock old new event buf t Holds h =
    let l = t.looks in
    let start = looking (clock_read_at t.first old) in
    let begun = quiet_read_at start t.first l.count l.begun l.before l.quiet (old.clock, refl) in
    let given : new.clock ≡ read_at (read_at begun.0 l.begun) t.now =
    ap (λ (p : Option SourceEvent × LiveEnds). clock_of p.1) t.given.ends
    ∙ (taken_same clock_of clock_apart (is_behind t.found.timing t.now) buf t.f t.found
    ∙ (ap clock_of l.done ∙ ap (λ c. read_at c t.now)
    (turn_kept clock_of clock_apart l.begun l.before l.found t.f buf l.turn ∙ begun.1))) in
    let P : Moments → Type 0 = λ c. AtBegun c Holds in
    subst P (sym given) (at_begun begun.0 l.begun t.now Holds h)

second_by : (a b c d : LiveEnds) (first second : Next) (buf more : List ℕ) → b.walled ≡ c.walled
    → Turns a first buf b
    → Turns c second more d → is_wall first ≡ false → is_wall second ≡ false
    → AtBegun d.clock (λ begun. IfSome b.walled.given (λ t. begun < t + 1000))
    × (b.walled.given ≢ None)
second_by a b c d first second buf more same (inl t) u dark other =
    let wrong : false ≡ true = sym dark ∙ wall_of a b first buf t in absurd (cc)
second_by a b c d first second buf more same (inr t) (inl u) dark other =
    let wrong : false ≡ true = sym other ∙ wall_of c d second more u in absurd (cc)
second_by a b c d first second buf more same (inr t) (inr u) dark other =
    let undue = undue_since a b c d first second buf more same t u in
    let Holds : ℕ → Type 0 = λ begun. IfSome b.walled.given (λ t. begun < t + 1000) in (
      begun_clock c d second more u Holds (since b.walled.given u.looks.begun undue),
      some_since b.walled.given u.looks.begun undue,
    )

pub each_second : (a b c : LiveEnds) (first second : Next) (buf more : List ℕ)
    → LogsTurn a first buf b
    → LogsTurn b second more c → is_wall first ≡ false → is_wall second ≡ false
    → AtBegun c.clock (λ begun. IfSome b.walled.given (λ t. begun < t + 1000))
each_second a b c first second buf more l m dark other =
    (second_by a (as_logged a.log b) b (as_logged b.log c) first second buf more refl l.turns
    m.turns dark other).0

pub was_given : (a b c : LiveEnds) (first second : Next) (buf more : List ℕ)
    → LogsTurn a first buf b
    → LogsTurn b second more c → is_wall first ≡ false → is_wall second ≡ false → b.walled.given
    ≢ None
was_given a b c first second buf more l m dark other =
    (second_by a (as_logged a.log b) b (as_logged b.log c) first second buf more refl l.turns
    m.turns dark other).1

-- it is given, and due, a second behind the time before
due_by : (given : Option ℕ) (has_looked : Bool) (now : ℕ)
    → is_due_since given has_looked now ≡ true → IfSome given (λ t. t + 1000 ≤ now)
due_by None has_looked now due = tt
due_by (Some t) false now due = absurd (cc)
due_by (Some t) true now due = grind (arith, due)

pub second_due : (w : Walled) (now : ℕ) → is_wall_due w now ≡ true
    → IfSome w.given (λ t. t + 1000 ≤ now)
second_due w now due = due_by w.given w.has_looked now due

at_clock : (given : Moments) (now : ℕ) (Holds : ℕ → Type 0) → Holds now
    → AtClock (read_at given now) Holds
at_clock None now Holds h = tt
at_clock (Some before) now Holds h = h

again_by : (old new : LiveEnds) (event : Next) (buf : List ℕ) → Turns old event buf new
    → is_wall event ≡ true
    → AtClock new.clock (λ now. IfSome old.walled.given (λ t. t + 1000 ≤ now))
again_by old new event buf (inl t) wall =
    let Holds : ℕ → Type 0 = λ now. IfSome old.walled.given (λ t. t + 1000 ≤ now) in
    let P : Moments → Type 0 = λ c. AtClock c Holds in
    subst P (sym (ap clock_of t.given.ends))
    (at_clock old.clock t.begun Holds (second_due old.walled t.begun t.due))
again_by old new event buf (inr t) wall =
    let no : false ≡ true = sym (of_ends old new event buf t) ∙ wall in absurd (cc)

pub second_apart : (old new : LiveEnds) (event : Next) (buf : List ℕ) → LogsTurn old event buf new
    → is_wall event ≡ true
    → AtClock new.clock (λ now. IfSome old.walled.given (λ t. t + 1000 ≤ now))
second_apart old new event buf l wall = again_by old (as_logged old.log new) event buf l.turns wall
