-- When a stream that is away is tried again, and what is known of it.
use Rattle.std.proofs.Common.{◌≡◌, ◌≢◌, ℕ, ◌+◌, ◌-◌, ◌<◌, ◌≤◌, Bool, true, false, List, ◌∷◌}
use Rattle.std.proofs.Common.{Option, Some, None, IfSome, refl, sym, ap, subst, arith, ◌∙◌}
use Rattle.std.specs.Prelude.{is_some, nat_le, option_map}
use Rattle.live.specs.OctetStreams.{StreamHistory, IsNew, noted, Wrote, Dropped}
use Rattle.live.specs.Redial.{Redial, is_due, clock_read_at, begun_by, tried_by, is_due_by}
use Rattle.live.specs.Redial.{IsRedialled, IsPut, HasDropped, answered, put_by, dropped_by}
use Rattle.live.specs.Redial.{waited, IfReached, looked_by, Asked, DialCall, DialCalls, Dialed}
use Rattle.live.specs.Redial.{BeginsTry, closed_by, known_reached}
use Rattle.live.specs.OctetStreams.{WasQuiet}
use Rattle.live.specs.Silence.{asked_at, begun_anew, borne_longer, counted_by, is_over, no_silence}
use Rattle.live.specs.declared.silence.Silence.{Silence}
use Rattle.live.specs.Law.{AtClock, IsFoundGone}
use Rattle.live.specs.Timing.{read_at}
use Rattle.live.proofs.Reasons.{gone_so}
use Rattle.live.proofs.Tries.{away_by, away_clock}
use Rattle.live.specs.declared.redial.Dialled.{Dialled}
use Rattle.live.specs.declared.redial.Dialled.TheVariants.{Reached, Pending, Failed}
use Rattle.live.specs.declared.ends.Got.{Got}
use Rattle.live.specs.declared.ends.Got.TheVariants.{Octets, Quiet, Gone}
use Rattle.live.specs.declared.ends.Presence.TheVariants.{Away, Receiving, Silent}

-- a look at a stream that is away, by the try that it makes
away_to : (old new : Redial) (got : Got) (buf : List ℕ) → (l : IsRedialled old got buf new)
    → old.stream ≡ None
    → new
    ≡ waited (tried_by old.is_trying l.now l.answer
    (clock_read_at l.now (record old { stream = None })))
away_to old new got buf l away =
    ap (λ (p : Got × Redial). p.1) (away_by old new got buf l away)
    ∙ ap
    (λ s. waited (tried_by old.is_trying l.now l.answer
    (clock_read_at l.now (record old { stream = s }))))
    away

-- one that begins
begun_to : (old new : Redial) (got : Got) (buf : List ℕ) → (l : IsRedialled old got buf new)
    → old.stream ≡ None → old.is_trying ≡ false
    → is_due_by false old.tried old.wait l.now ≡ true
    → new
    ≡ waited (begun_by true l.now l.answer (clock_read_at l.now (record old { stream = None })))
begun_to old new got buf l away idle due =
    let r = clock_read_at l.now (record old { stream = None }) in
    away_to old new got buf l away ∙ (ap (λ b. waited (tried_by b l.now l.answer r)) idle
    ∙ ap (λ b. waited (begun_by b l.now l.answer r))
    (ap (λ b. is_due_by b old.tried old.wait l.now) idle ∙ due))

tried_kept : (call : Bool → DialCall) (answer : Dialled StreamHistory) (r : Redial)
    → (answered call answer r).tried ≡ r.tried
tried_kept call (Reached stream) r = refl
tried_kept call Pending r = refl
tried_kept call (Failed cause) r = refl

called_so : (call : Bool → DialCall) (answer : Dialled StreamHistory) (c : DialCalls) (r : Redial)
    → (let n = answered call answer (record r { stream = None; calls = c }) in
    IfSome c (λ before. n.calls ≡ Some (call (is_some n.stream) ∷ before)))
called_so call answer None r = tt
called_so call (Reached stream) (Some before) r = refl
called_so call Pending (Some before) r = refl
called_so call (Failed cause) (Some before) r = refl

begins_so : (now : ℕ) (answer : Dialled StreamHistory) (old : Redial)
    → BeginsTry now old
    (begun_by true now answer (clock_read_at now (record old { stream = None })))
begins_so now answer old =
    let r = record (clock_read_at now old) { tried = Some now } in
    (tried_kept Dialed answer (record r { stream = None }), called_so Dialed answer old.calls r)

begins_due : (old new : Redial) (got : Got) (buf : List ℕ) → (l : IsRedialled old got buf new)
    → old.stream ≡ None → old.is_trying ≡ false
    → is_due_by false old.tried old.wait l.now ≡ true → BeginsTry l.now old new
begins_due old new got buf l away idle due =
    subst (BeginsTry l.now old) (sym (begun_to old new got buf l away idle due))
    (begins_so l.now l.answer old)

pub begins_at_once : (old new : Redial) (got : Got) (buf : List ℕ) → IsRedialled old got buf new
    → old.stream ≡ None → old.is_trying ≡ false → old.tried ≡ None
    → AtClock new.clock (λ now. BeginsTry now old new)
begins_at_once old new got buf l away idle untried =
    away_clock old new got buf l (λ now. BeginsTry now old new) away
    (begins_due old new got buf l away idle
    (ap (λ t. is_due_by false t old.wait l.now) untried))

pub begins_later : (old new : Redial) (got : Got) (buf : List ℕ) (last : ℕ)
    → IsRedialled old got buf new
    → old.stream ≡ None → old.is_trying ≡ false → old.tried ≡ Some last
    → AtClock new.clock (λ now. old.wait ≤ now - last → BeginsTry now old new)
begins_later old new got buf last l away idle tried =
    away_clock old new got buf l (λ now. old.wait ≤ now - last → BeginsTry now old new) away
    (λ passed. let due : nat_le old.wait (l.now - last) ≡ true = grind (arith, passed) in
    begins_due old new got buf l away idle
    (ap (λ t. is_due_by false t old.wait l.now) tried ∙ due))

pub waits_undue : (old new : Redial) (got : Got) (buf : List ℕ) (last : ℕ)
    → IsRedialled old got buf new
    → old.stream ≡ None → old.is_trying ≡ false → old.tried ≡ Some last
    → AtClock new.clock (λ now. now - last < old.wait → new ≡ waited (clock_read_at now old))
waits_undue old new got buf last l away idle tried =
    away_clock old new got buf l
    (λ now. now - last < old.wait → new ≡ waited (clock_read_at now old)) away
    (λ short. let undue : nat_le old.wait (l.now - last) ≡ false = grind (arith, short) in
    let r = clock_read_at l.now old in
    ap (λ (p : Got × Redial). p.1) (away_by old new got buf l away)
    ∙ (ap (λ b. waited (tried_by b l.now l.answer r)) idle
    ∙ ap (λ b. waited (begun_by b l.now l.answer r))
    (ap (λ b. is_due_by b old.tried old.wait l.now) idle
    ∙ (ap (λ t. is_due_by false t old.wait l.now) tried ∙ undue))))

-- the dialler is asked about one that goes on
AsksOn : (old new : Redial) → Type 0
AsksOn old new = (new.tried ≡ old.tried)
    × IfSome old.calls (λ before. new.calls ≡ Some (Asked (is_some new.stream) ∷ before))

pub asks_on : (old new : Redial) (got : Got) (buf : List ℕ) → IsRedialled old got buf new
    → old.stream ≡ None → old.is_trying ≡ true → (new.tried ≡ old.tried)
    × IfSome old.calls (λ before. new.calls ≡ Some (Asked (is_some new.stream) ∷ before))
unfolding AsksOn
asks_on old new got buf l away trying =
    let r = clock_read_at l.now old in
    let asked : new ≡ waited (answered Asked l.answer (record r { stream = None })) =
    away_to old new got buf l away
    ∙ ap (λ b. waited (tried_by b l.now l.answer (record r { stream = None }))) trying in
    subst (AsksOn old) (sym asked)
    (tried_kept Asked l.answer (record r { stream = None }), called_so Asked l.answer old.calls r)

pub puts_away : (old new : Redial) (octets : List ℕ) (is_taken : Bool)
    → IsPut old octets is_taken new → old.stream ≡ None → (is_taken ≡ false) × (new ≡ old)
puts_away old new octets is_taken p away =
    let is = p.put ∙ ap (λ s. put_by s octets p.taken p.now old) away in
    (ap (λ (q : Bool × Redial). q.0) is, ap (λ (q : Bool × Redial). q.1) is)

pub drops_away : (old new : Redial) (count : ℕ) → HasDropped old count new → old.stream ≡ None
    → (count ≡ 0) × (new ≡ old)
drops_away old new count d away =
    let is = d.dropped ∙ ap (λ s. dropped_by s d.waiting old) away in
    (ap (λ (q : ℕ × Redial). q.0) is, ap (λ (q : ℕ × Redial). q.1) is)

-- and one that is there
pub puts_there : (old new : Redial) (octets : List ℕ) (is_taken : Bool) (h : StreamHistory)
    → (p : IsPut old octets is_taken new) → old.stream ≡ Some h
    → new ≡ record old {
      clock = read_at old.clock p.now;
      stream = Some (noted h (Wrote octets is_taken));
      silence = asked_at p.now old.silence;
    }
puts_there old new octets is_taken h p there =
    let is = p.put ∙ ap (λ s. put_by s octets p.taken p.now old) there in
    ap (λ (q : Bool × Redial). q.1) is
    ∙ ap (λ b. record old {
      clock = read_at old.clock p.now;
      stream = Some (noted h (Wrote octets b));
      silence = asked_at p.now old.silence;
    })
    (sym (ap (λ (q : Bool × Redial). q.0) is))

pub drops_there : (old new : Redial) (count : ℕ) (h : StreamHistory) → HasDropped old count new
    → old.stream ≡ Some h → new ≡ record old { stream = Some (noted h (Dropped count)) }
drops_there old new count h d there =
    let is = d.dropped ∙ ap (λ s. dropped_by s d.waiting old) there in
    ap (λ (q : ℕ × Redial). q.1) is
    ∙ ap (λ n. record old { stream = Some (noted h (Dropped n)) })
    (sym (ap (λ (q : ℕ × Redial). q.0) is))

-- nothing has happened at one that is reached
answered_new : (call : Bool → DialCall) (answer : Dialled StreamHistory) (r : Redial)
    → IfReached answer IsNew
    → IfSome (answered call answer (record r { stream = None })).stream IsNew
answered_new call (Reached stream) r fresh = fresh
answered_new call Pending r fresh = tt
answered_new call (Failed cause) r fresh = tt

begun_new : (due : Bool) (now : ℕ) (answer : Dialled StreamHistory) (r : Redial)
    → IfReached answer IsNew
    → IfSome (begun_by due now answer (record r { stream = None })).stream IsNew
begun_new true now answer r fresh = answered_new Dialed answer (record r { tried = Some now }) fresh
begun_new false now answer r fresh = tt

tried_new : (b : Bool) (now : ℕ) (answer : Dialled StreamHistory) (r : Redial)
    → IfReached answer IsNew
    → IfSome (tried_by b now answer (clock_read_at now (record r { stream = None }))).stream IsNew
tried_new true now answer r fresh = answered_new Asked answer (clock_read_at now r) fresh
tried_new false now answer r fresh =
    begun_new (is_due (clock_read_at now (record r { stream = None })) now) now answer
    (clock_read_at now r) fresh

pub reached_new : (old new : Redial) (got : Got) (buf : List ℕ) → IsRedialled old got buf new
    → old.stream ≡ None → IfSome new.stream IsNew
reached_new old new got buf l away =
    let P : Redial → Type 0 = λ r. IfSome r.stream IsNew in
    subst P (sym (away_to old new got buf l away))
    (tried_new old.is_trying l.now l.answer old l.is_new)

-- how long after it the next one begins, and what is known
Waits : (was new : Redial) → Type 0
Waits was new = IfSome new.stream (λ s. (was.wait ≤ 15000 → new.wait ≡ was.wait + was.wait)
    × (15000 ≤ was.wait → new.wait ≡ 30000))
    × (new.stream ≡ None → new.wait ≡ was.wait)
    × IfSome new.stream (λ s. (new.presence ≡ known_reached was.presence)
    × (new.silence ≡ begun_anew was.silence))

answered_waits : (call : Bool → DialCall) (answer : Dialled StreamHistory) (r : Redial)
    → Waits r (answered call answer (record r { stream = None }))
unfolding Waits
answered_waits call (Reached stream) r = (
  (λ short. grind (arith, short), λ long. grind (arith, long)),
  λ gone. absurd (cc),
  (refl, refl),
)
answered_waits call Pending r = (tt, λ gone. refl, tt)
answered_waits call (Failed cause) r = (tt, λ gone. refl, tt)

begun_waits : (due : Bool) (now : ℕ) (answer : Dialled StreamHistory) (r : Redial)
    → Waits r (begun_by due now answer (record r { stream = None }))
unfolding Waits
begun_waits true now answer r = answered_waits Dialed answer (record r { tried = Some now })
begun_waits false now answer r = (tt, λ gone. refl, tt)

tried_waits : (b : Bool) (now : ℕ) (answer : Dialled StreamHistory) (r : Redial)
    → Waits r (tried_by b now answer (clock_read_at now (record r { stream = None })))
unfolding Waits
tried_waits true now answer r = answered_waits Asked answer (clock_read_at now r)
tried_waits false now answer r =
    begun_waits (is_due (clock_read_at now (record r { stream = None })) now) now answer
    (clock_read_at now r)

away_waits : (old new : Redial) (got : Got) (buf : List ℕ) → IsRedialled old got buf new
    → old.stream ≡ None → Waits old new
unfolding Waits
away_waits old new got buf l away =
    subst (Waits old) (sym (away_to old new got buf l away))
    (tried_waits old.is_trying l.now l.answer old)

pub reached_waits : (old new : Redial) (got : Got) (buf : List ℕ) → IsRedialled old got buf new
    → old.stream ≡ None → IfSome new.stream (λ s. (old.wait ≤ 15000
    → new.wait ≡ old.wait + old.wait) × (15000 ≤ old.wait → new.wait ≡ 30000))
unfolding Waits
reached_waits old new got buf l away = (away_waits old new got buf l away).0

pub still_waits : (old new : Redial) (got : Got) (buf : List ℕ) → IsRedialled old got buf new
    → old.stream ≡ None → new.stream ≡ None → new.wait ≡ old.wait
unfolding Waits
still_waits old new got buf l away none = (away_waits old new got buf l away).1 none

-- what one that is there finds, and how it is left
IsLeft : (h : StreamHistory) → (old new : Redial) → Type 0
IsLeft h old new =
    (new.presence ≢ Silent → (new.presence ≡ Away None) × IsFoundGone (Some (is_some h)) new.gone)
    × (new.presence ≡ Silent → (is_over old.silence ≡ true)
    × (new.gone ≡ Some (noted h WasQuiet)) × (new.silence ≡ borne_longer old.silence))

Finds : (got : Got) → (h : StreamHistory) → (old new : Redial) → Type 0
Finds (Octets len) h old new = (new.wait ≡ 1000) × (new.presence ≡ Receiving)
    × (new.silence ≡ no_silence) × (new.stream ≢ None)
Finds Quiet h old new = (new.wait ≡ old.wait)
    × (new.stream ≡ None → IsLeft h old new)
    × (new.stream ≢ None → new.presence ≡ old.presence)
    × (is_over old.silence ≡ true → new.stream ≡ None)
Finds Gone h old new = ⊥

quiet_so : (b : Bool) (g h : StreamHistory) (r : Redial) → is_over r.silence ≡ b
    → Some g ≡ Some h
    → Finds Quiet h r (closed_by b (record r { stream = Some (noted g WasQuiet); gone = r.gone }))
unfolding Finds IsLeft
quiet_so true g h r over same = (
  refl,
  λ none. (
    λ other. absurd (other refl),
    λ silent. (over, ap (λ s. option_map (λ x. noted x WasQuiet) s) same, refl),
  ),
  λ some. absurd (some refl),
  λ is. refl,
)
quiet_so false g h r not_over same = (
  refl,
  λ none. absurd (cc),
  λ some. refl,
  λ is. absurd (cc),
)

there_so : (s : Option StreamHistory) (now : ℕ) (answer : Dialled StreamHistory) (found : Got)
    (buf : List ℕ) (h : StreamHistory) (r : Redial) → s ≡ Some h
    → (let p = looked_by s now answer found buf r in Finds p.0 h r p.1)
unfolding Finds IsLeft
there_so None now answer found buf h r there = absurd (cc)
there_so (Some g) now answer (Octets len) buf h r there = (refl, refl, refl, λ none. absurd (cc))
there_so (Some g) now answer Quiet buf h r there = quiet_so (is_over r.silence) g h r refl there
there_so (Some g) now answer Gone buf h r there = (
  refl,
  λ none. (
    λ other. (refl, gone_so (Some (is_some h)) g (ap (λ s. option_map (λ x. is_some x) s) there)),
    λ silent. absurd (cc),
  ),
  λ some. absurd (some refl),
  λ is. refl,
)

there_of : (old new : Redial) (got : Got) (buf : List ℕ) (h : StreamHistory)
    → IsRedialled old got buf new → old.stream ≡ Some h → Finds got h old new
there_of old new got buf h l there =
    let P : Got × Redial → Type 0 = λ p. Finds p.0 h old p.1 in
    subst P (sym l.looked) (there_so old.stream l.now l.answer l.found buf h old there)

octets_by : (s : Option StreamHistory) (old new : Redial) (len : ℕ) (buf : List ℕ)
    → old.stream ≡ s → IsRedialled old (Octets len) buf new
    → (h : StreamHistory) × Finds (Octets len) h old new
octets_by None old new len buf is l =
    let quiet : Octets len ≡ Quiet =
    ap (λ (p : Got × Redial). p.0) (away_by old new (Octets len) buf l is) in absurd (cc)
octets_by (Some h) old new len buf is l = (h, there_of old new (Octets len) buf h l is)

pub octets_wait : (old new : Redial) (len : ℕ) (buf : List ℕ)
    → IsRedialled old (Octets len) buf new → new.wait ≡ 1000
unfolding Finds
octets_wait old new len buf l = (octets_by old.stream old new len buf refl l).1.0

pub octets_end_silence : (old new : Redial) (len : ℕ) (buf : List ℕ)
    → IsRedialled old (Octets len) buf new → new.silence ≡ no_silence
unfolding Finds
octets_end_silence old new len buf l = (octets_by old.stream old new len buf refl l).1.2

pub quiet_waits : (old new : Redial) (buf : List ℕ) (h : StreamHistory)
    → IsRedialled old Quiet buf new → old.stream ≡ Some h → new.wait ≡ old.wait
unfolding Finds
quiet_waits old new buf h l there = (there_of old new Quiet buf h l there).0

left_by : (got : Got) (h : StreamHistory) (old new : Redial) → new.stream ≡ None
    → Finds got h old new → IsLeft h old new
unfolding Finds
left_by (Octets len) h old new none k = absurd (k.3 none)
left_by Quiet h old new none k = k.1 none
left_by Gone h old new none k = absurd k

pub closed_silent : (old new : Redial) (got : Got) (buf : List ℕ) (h : StreamHistory)
    → IsRedialled old got buf new → old.stream ≡ Some h → new.stream ≡ None
    → new.presence ≡ Silent
    → (is_over old.silence ≡ true) × (new.gone ≡ Some (noted h WasQuiet))
    × (new.silence ≡ borne_longer old.silence)
unfolding IsLeft
closed_silent old new got buf h l there none silent =
    (left_by got h old new none (there_of old new got buf h l there)).1 silent

pub over_closed : (old new : Redial) (buf : List ℕ) (h : StreamHistory)
    → IsRedialled old Quiet buf new → old.stream ≡ Some h → is_over old.silence ≡ true
    → new.stream ≡ None
unfolding Finds
over_closed old new buf h l there over = (there_of old new Quiet buf h l there).3 over

put_wait : (s : Option StreamHistory) (octets : List ℕ) (taken : Bool) (now : ℕ) (r : Redial)
    → (put_by s octets taken now r).1.wait ≡ r.wait
put_wait None octets taken now r = refl
put_wait (Some h) octets taken now r = refl

pub put_waits : (old new : Redial) (octets : List ℕ) (is_taken : Bool)
    → IsPut old octets is_taken new → new.wait ≡ old.wait
put_waits old new octets is_taken p =
    ap (λ (q : Bool × Redial). q.1.wait) p.put ∙ put_wait old.stream octets p.taken p.now old

drop_wait : (s : Option StreamHistory) (count : ℕ) (r : Redial)
    → (dropped_by s count r).1.wait ≡ r.wait
drop_wait None count r = refl
drop_wait (Some h) count r = refl

pub drop_waits : (old new : Redial) (count : ℕ) → HasDropped old count new → new.wait ≡ old.wait
drop_waits old new count d =
    ap (λ (q : ℕ × Redial). q.1.wait) d.dropped ∙ drop_wait old.stream d.waiting old

-- what a request adds to the silence
pub asked_first : (s : Silence) (now : ℕ) → s.asked ≡ None → s.counted ≤ 240000
    → (asked_at now s).counted ≡ s.counted
asked_first s now none le =
    ap (λ o. counted_by s.counted o now) none
    ∙ (let e : counted_by s.counted None now ≡ s.counted = grind (arith, le) in e)

pub asked_later : (s : Silence) (now last : ℕ) → s.asked ≡ Some last
    → ((asked_at now s).counted ≤ s.counted + 5000)
    × ((asked_at now s).counted ≤ s.counted + (now - last))
asked_later s now last is =
    let e : (asked_at now s).counted ≡ counted_by s.counted (Some last) now =
    ap (λ o. counted_by s.counted o now) is in
    let most : counted_by s.counted (Some last) now ≤ s.counted + 5000 = grind arith in
    let more : counted_by s.counted (Some last) now ≤ s.counted + (now - last) = grind arith in
    let P : ℕ → Type 0 = λ n. (n ≤ s.counted + 5000) × (n ≤ s.counted + (now - last)) in
    subst P (sym e) (most, more)
