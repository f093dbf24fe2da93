-- When rounds of looks begin, and why they end in a tick.
use Rattle.std.proofs.Common.{◌≡◌, ℕ, ◌+◌, ◌-◌, ◌<◌, nat_le, ◌⊎◌, ◌&&◌, ◌||◌, not, true, false}
use Rattle.std.proofs.Common.{Bool, List, [], ◌∷◌, ◌++◌, Option, Some, None, refl, sym, ap}
use Rattle.std.proofs.Common.{subst, arith, ◌∙◌, inl, inr}
use Rattle.std.specs.Prelude.{All}
use Rattle.std.proofs.lemmas.List.Elements.{All-cons, All-nil}
use Rattle.gateway.specs.declared.ports.Next.{Next}
use Rattle.live.specs.Timing.{Moments, read_at, is_awaited, is_awaited_by, is_behind}
use Rattle.live.specs.Timing.{line_looked_at}
use Rattle.live.specs.Walls.{is_wall, is_wall_due}
use Rattle.live.specs.Law.{SomeRounds, AtRounds, first_of}
use Rattle.live.specs.Law.{IsOneOf}
use Rattle.live.specs.Ends.{LiveEnds, Turns, LogsTurn, as_logged, TurnsToWall, TurnsToEnds}
use Rattle.live.specs.Ends.{QuietRounds}
use Rattle.live.specs.Ends.{NoRound, OneRound, taken_by, looking}
use Rattle.live.specs.Ends.{clock_read_at}
use Rattle.live.proofs.Apart.{clock_of, clock_apart, taken_same}
use Rattle.live.proofs.Rounds.{turn_kept}
use Rattle.live.proofs.LineReads.{quiet_reads}
use Rattle.live.specs.declared.found.SourceEvent.{SourceEvent}
use Rattle.live.specs.declared.found.SourceEvent.TheVariants as found
use Rattle.live.specs.declared.timing.Timing.{Timing}
use Rattle.live.specs.declared.timing.WrittenRequest.{WrittenRequest}

-- what the rounds that found nothing say of the moments at which they began
pub record Begins (start : LiveEnds) (first count begun : ℕ) (e : LiveEnds) (before : List ℕ) : Type
    0 where
  pub quiet : List ℕ
  pub given : e.clock ≡ Some (begun ∷ (quiet ++ before))
  pub first_is : first_of begun quiet ≡ first
  pub brief : All (λ m. m < first + 100) (begun ∷ quiet)
  pub asked : e.timing.request ≡ start.timing.request
  pub waits : e.timing.answer_ms ≡ start.timing.answer_ms
  pub looked : (e.timing.looked ≡ start.timing.looked) ⊎ IsOneOf quiet e.timing.looked
  pub in_time : (r : WrittenRequest) → start.timing.request ≡ Some r → is_awaited start.timing
      ≡ true
      → All (λ m. m - r.written < start.timing.answer_ms) quiet

-- what no tick being due says
not_long : (a b c : Bool) → (a || (b || c)) ≡ false → a ≡ false
not_long true b c undue = undue
not_long false b c undue = refl

not_late : (a w h c : Bool) → (a || (w && not h || c)) ≡ false → w ≡ true → h ≡ true
not_late true w h c undue was = absurd (cc)
not_late false true true c undue was = refl
not_late false true false c undue was = absurd (cc)
not_late false false h c undue was = absurd (cc)

brief_by : (first now : ℕ) → nat_le 100 (now - first) ≡ false → now < first + 100
brief_by first now short = grind (arith, short)

awaited_by : (t : Timing) (q : Option WrittenRequest) (r : WrittenRequest) → q ≡ Some r
    → is_awaited_by t q ≡ true
    → t.looked - r.written < t.answer_ms
awaited_by t q r asked was =
    let P : Option WrittenRequest → Type 0 = λ q. is_awaited_by t q ≡ true in
    let on : is_awaited_by t (Some r) ≡ true = subst P asked was in
    grind (arith, on)

begins : (start : LiveEnds) (first count begun : ℕ) (e : LiveEnds) (before : List ℕ)
    → QuietRounds start first count begun e
    → start.clock ≡ Some (first ∷ before) → Begins start first count begun e before
begins start first _ _ _ before NoRound given =
    let short : first < first + 100 = omega arith in
    record {
      quiet = [];
      given = given;
      first_is = refl;
      brief = All-cons (λ m. m < first + 100) first [] short (All-nil (λ m. m < first + 100));
      asked = refl;
      waits = refl;
      looked = inl refl;
      in_time = λ r is was. All-nil (λ m. m - r.written < start.timing.answer_ms);
    }
begins start first _ _ _ before (OneRound count begun now earlier found buf q t undue) given =
    let b = begins start first count begun earlier before q given in
    let looked : found.timing ≡ line_looked_at begun earlier.timing =
    quiet_reads begun earlier found buf t in
    let short =
    not_long (nat_le 100 (now - first)) (is_awaited start.timing && not (is_awaited found.timing))
    (is_wall_due found.walled now) undue in
    record {
      quiet = begun ∷ b.quiet;
      given = ap (λ c. read_at c now) (turn_kept clock_of clock_apart begun earlier found None buf t
          ∙ b.given);
      first_is = b.first_is;
      brief = All-cons (λ m. m < first + 100) now (begun ∷ b.quiet) (brief_by first now short)
          b.brief;
      asked = ap (λ (k : Timing). k.request) looked ∙ b.asked;
      waits = ap (λ (k : Timing). k.answer_ms) looked ∙ b.waits;
      looked = inr (inl (ap (λ (k : Timing). k.looked) looked));
      in_time = λ r is was.
          let still = not_late (nat_le 100 (now - first)) (is_awaited start.timing)
          (is_awaited found.timing)
          (is_wall_due found.walled now) undue was in
          let P : Timing → Type 0 = λ k. is_awaited k ≡ true in
          let k = line_looked_at begun earlier.timing in
          let soon : begun - r.written < earlier.timing.answer_ms =
          awaited_by k k.request r (b.asked ∙ is) (subst P looked still) in
          let Q : ℕ → Type 0 = λ n. begun - r.written < n in
          All-cons (λ m. m - r.written < start.timing.answer_ms) begun b.quiet
          (subst Q b.waits soon)
          (b.in_time r is was);
    }

-- the rounds of a turn
abbrev pub BeginsOf : (old : LiveEnds) (event : Next) (buf : List ℕ) (new : LiveEnds)
    → TurnsToEnds old event buf new → List ℕ → Type 0
BeginsOf old event buf new t before =
    Begins (looking (clock_read_at t.first old)) t.first t.looks.count t.looks.begun t.looks.before
    before

at_rounds_by : (old : LiveEnds) (event : Next) (buf : List ℕ) (new : LiveEnds)
    (t : TurnsToEnds old event buf new)
    (Holds : ℕ → List ℕ → ℕ → Type 0) (c : Moments) → old.clock ≡ c
    → ((before : List ℕ) → (b : BeginsOf old event buf new t before)
    → Holds t.looks.begun b.quiet t.now)
    → AtRounds c new.clock Holds
at_rounds_by old event buf new t Holds None is all = tt
at_rounds_by old event buf new t Holds (Some before) is all =
    let l = t.looks in
    let b = begins (looking (clock_read_at t.first old)) t.first l.count l.begun l.before before
    l.quiet
    (ap (λ c. read_at c t.first) is) in
    let given : new.clock ≡ Some (t.now ∷ (l.begun ∷ (b.quiet ++ before))) =
    ap (λ (p : Option SourceEvent × LiveEnds). clock_of p.1) t.given.ends
    ∙ (taken_same clock_of clock_apart (is_behind t.found.timing t.now) buf t.f t.found
    ∙ (ap clock_of l.done ∙ ap (λ c. read_at c t.now)
    (turn_kept clock_of clock_apart l.begun l.before l.found t.f buf l.turn ∙ b.given))) in
    let P : Moments → Type 0 = λ c. AtRounds (Some before) c Holds in
    let rounds : SomeRounds before (t.now ∷ (l.begun ∷ (b.quiet ++ before))) Holds =
    record {
      begun = l.begun;
      quiet = b.quiet;
      now = t.now;
      moments = refl;
      holds =
          all before b;
    } in
    subst P (sym given) rounds

pub at_rounds : (old : LiveEnds) (event : Next) (buf : List ℕ) (new : LiveEnds)
    (t : TurnsToEnds old event buf new)
    (Holds : ℕ → List ℕ → ℕ → Type 0)
    → ((before : List ℕ) → (b : BeginsOf old event buf new t before)
    → Holds t.looks.begun b.quiet t.now)
    → AtRounds old.clock new.clock Holds
at_rounds old event buf new t Holds all = at_rounds_by old event buf new t Holds old.clock refl all

pub wall_of : (old : LiveEnds) (event : Next) (new : LiveEnds) → TurnsToWall old event new
    → is_wall event
    ≡ false → true ≡ false
wall_of old event new t dark = sym (ap is_wall t.given.given) ∙ dark

-- the looks of an event begin within 100 ms
briefly_by : (old new : LiveEnds) (event : Next) (buf : List ℕ) → Turns old event buf new
    → is_wall event ≡ false
    → AtRounds old.clock new.clock (λ begun quiet now. All (λ m. m < first_of begun quiet + 100)
    (begun ∷ quiet))
briefly_by old new event buf (inl t) dark =
    let wrong : true ≡ false = wall_of old event new t dark in absurd (cc)
briefly_by old new event buf (inr t) dark =
    at_rounds old event buf new t (λ begun quiet now. All (λ m. m < first_of begun quiet + 100)
    (begun ∷ quiet))
    (λ before b. let P : ℕ → Type 0 =
    λ first. All (λ m. m < first + 100) (t.looks.begun ∷ b.quiet) in
    subst P (sym b.first_is) b.brief)

pub briefly : (old new : LiveEnds) (event : Next) (buf : List ℕ) → LogsTurn old event buf new
    → is_wall event ≡ false
    → AtRounds old.clock new.clock (λ begun quiet now. All (λ m. m < first_of begun quiet + 100)
    (begun ∷ quiet))
briefly old new event buf l dark = briefly_by old (as_logged old.log new) event buf l.turns dark

-- an exchange that is over gives an event
awaited_at : (t : Timing) (q : Option WrittenRequest) (r : WrittenRequest) → q ≡ Some r
    → t.looked - r.written
    < t.answer_ms
    → is_awaited_by t q ≡ true
awaited_at t q r asked soon =
    let P : Option WrittenRequest → Type 0 = λ q. is_awaited_by t q ≡ true in
    let on : is_awaited_by t (Some r) ≡ true = grind (arith, soon) in
    subst P (sym asked) on

over_by : (old new : LiveEnds) (event : Next) (buf : List ℕ) (r : WrittenRequest)
    → Turns old event buf new
    → is_wall event ≡ false → old.timing.request ≡ Some r → old.timing.looked - r.written
    < old.timing.answer_ms
    → AtRounds old.clock new.clock (λ begun quiet now. All (λ m. m - r.written
    < old.timing.answer_ms) quiet)
over_by old new event buf r (inl t) dark asked soon =
    let wrong : true ≡ false = wall_of old event new t dark in absurd (cc)
over_by old new event buf r (inr t) dark asked soon =
    at_rounds old event buf new t
    (λ begun quiet now. All (λ m. m - r.written < old.timing.answer_ms) quiet)
    (λ before b. b.in_time r asked (awaited_at old.timing old.timing.request r asked soon))

pub over : (old new : LiveEnds) (event : Next) (buf : List ℕ) (r : WrittenRequest)
    → LogsTurn old event buf new
    → is_wall event ≡ false → old.timing.request ≡ Some r → old.timing.looked - r.written
    < old.timing.answer_ms
    → AtRounds old.clock new.clock (λ begun quiet now. All (λ m. m - r.written
    < old.timing.answer_ms) quiet)
over old new event buf r l dark asked soon =
    over_by old (as_logged old.log new) event buf r l.turns dark asked soon

-- why a tick is due
taken_timing : (b : Bool) (buf : List ℕ) (f : Option SourceEvent) (e : LiveEnds)
    → (taken_by b buf f e).1.timing ≡ e.timing
taken_timing false buf f e = refl
taken_timing true buf None e = refl
taken_timing true buf (Some found.Open) e = refl
taken_timing true buf (Some (found.Bytes len)) e = refl
taken_timing true buf (Some found.Cut) e = refl
taken_timing true buf (Some (found.Line len)) e = refl
taken_timing true buf (Some found.Fault) e = refl

-- what the looks left, as it is behind the event
pub looked_timing : (old : LiveEnds) (event : Next) (buf : List ℕ) (new : LiveEnds)
    → (t : TurnsToEnds old event buf new)
    → new.timing ≡ t.looks.found.timing
looked_timing old event buf new t =
    ap (λ (p : Option SourceEvent × LiveEnds). p.1.timing) t.given.ends
    ∙ (taken_timing (is_behind t.found.timing t.now) buf t.f t.found
    ∙ ap (λ (e : LiveEnds). e.timing) t.looks.done)
