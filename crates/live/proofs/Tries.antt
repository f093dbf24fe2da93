-- A stream that is reached again.
use Rattle.std.proofs.Common.{◌≡◌, ℕ, ◌+◌, Bool, true, false, Some, None, List}
use Rattle.std.proofs.Common.{Option}
use Rattle.std.proofs.Common.{IfSome, refl, sym, ap, subst, ◌∙◌}
use Rattle.live.specs.Timing.{Moments, read_at}
use Rattle.live.specs.OctetStreams.{StreamHistory, IsNew, Attempts, looked, noted}
use Rattle.live.specs.Redial.{Redial, ended, IfReached, dialled_map, is_due, clock_read_at, settled}
use Rattle.live.specs.Redial.{begun_by, tried_by, looked_by, IsTryAnswered, IsTriedOn, IsRedialled}
use Rattle.live.specs.Redial.{answered, closed_by, gone_by, is_closed, known_by, quieted}
use Rattle.live.specs.Redial.{Asked, DialCall, DialCalls, Dialed, Pauses, dial_noted, is_reached}
use Rattle.live.specs.Redial.{paused, waited}
use Rattle.live.specs.Ends.{read_open}
use Rattle.live.specs.Silence.{is_over}
use Rattle.live.specs.Law.{AtClock}
use Rattle.live.specs.declared.ends.Got.{Got}
use Rattle.live.specs.declared.redial.Dialled.{Dialled}
use Rattle.live.specs.declared.redial.Dialled.TheVariants.{Reached, Pending, Failed}
use Rattle.live.specs.declared.ends.Got.TheVariants.{Octets, Quiet, Gone}

ended_map : {A : Type 0} (f : A → StreamHistory) (t : Attempts) (d : Dialled A)
    → ended t (dialled_map f d)
    ≡ ended t d
ended_map f t (Reached stream) = refl
ended_map f t Pending = refl
ended_map f t (Failed cause) = refl

new_map : {A : Type 0} (f : A → StreamHistory) (d : Dialled A)
    → IfReached d (λ stream. IsNew (f stream))
    → IfReached (dialled_map f d) IsNew
new_map f (Reached stream) fresh = fresh
new_map f Pending fresh = tt
new_map f (Failed cause) fresh = tt

reached_map : {A : Type 0} (f : A → StreamHistory) (d : Dialled A)
    → is_reached (dialled_map f d) ≡ is_reached d
reached_map f (Reached stream) = refl
reached_map f Pending = refl
reached_map f (Failed cause) = refl

-- what has become of a try
answered_so : {A : Type 0} (f : A → StreamHistory) (call : Bool → DialCall) (d : Dialled A)
    (tries : Attempts) (calls : DialCalls) (pauses : Pauses) (old new : Redial)
    → IfReached d (λ stream. IsNew (f stream)) → tries ≡ ended old.tries d
    → calls ≡ dial_noted old.calls (call (is_reached d)) → pauses ≡ old.pauses
    → new
    ≡ settled (dialled_map f d) (record old { tries = tries; calls = calls; pauses = pauses })
    → IsTryAnswered call old new
answered_so f call d tries calls pauses old new fresh given told unpaused done = record {
  answer = dialled_map f d;
  is_new = new_map f d fresh;
  done = done
      ∙ (ap (λ p. settled (dialled_map f d)
      (record old { tries = tries; calls = calls; pauses = p })) unpaused)
      ∙ (ap (λ t. settled (dialled_map f d) (record old { tries = t; calls = calls })) (given
      ∙ sym (ended_map f old.tries d))
      ∙ ap (λ c. settled (dialled_map f d)
      (record old { tries = ended old.tries (dialled_map f d); calls = c })) (told
      ∙ ap (λ b. dial_noted old.calls (call b)) (sym (reached_map f d))));
}

pub answered_from : {A : Type 0} (f : A → StreamHistory) (call : Bool → DialCall) (d : Dialled A)
    (tries : Attempts) (calls : DialCalls) (pauses : Pauses) (seen old new : Redial)
    → seen ≡ old → IfReached d (λ stream. IsNew (f stream)) → tries ≡ ended seen.tries d
    → calls ≡ dial_noted seen.calls (call (is_reached d)) → pauses ≡ seen.pauses
    → new
    ≡ settled (dialled_map f d) (record seen { tries = tries; calls = calls; pauses = pauses })
    → IsTryAnswered call old new
answered_from f call d tries calls pauses seen old new same fresh given told unpaused done =
    let P : Redial → Type 0 = λ r. IsTryAnswered call r new in
    subst P same (answered_so f call d tries calls pauses seen new fresh given told unpaused done)

-- the try that goes on, of which it was asked
pub tried_asked : (now : ℕ) (old new : Redial) → old.is_trying ≡ true → IsTryAnswered Asked old new
    → IsTriedOn now old new
tried_asked now old new trying a = record {
  answer = a.answer;
  is_new = a.is_new;
  done = a.done ∙ sym (ap (λ b. tried_by b now a.answer old) trying);
}

-- one that begins
pub tried_due : (now : ℕ) (old new : Redial) → old.is_trying ≡ false → is_due old now ≡ true
    → IsTryAnswered Dialed (record old { tried = Some now }) new → IsTriedOn now old new
tried_due now old new trying due a = record {
  answer = a.answer;
  is_new = a.is_new;
  done = a.done
      ∙ sym (ap (λ b. tried_by b now a.answer old) trying
      ∙ ap (λ b. begun_by b now a.answer old) due);
}

-- and if none is due
pub tried_not : (now : ℕ) (old new : Redial) → old.is_trying ≡ false → is_due old now ≡ false
    → new ≡ old
    → IsTriedOn now old new
tried_not now old new trying due same = record {
  answer = Pending;
  is_new = tt;
  done = same ∙ sym (ap (λ b. tried_by b now Pending old) trying
      ∙ ap (λ b. begun_by b now Pending old) due);
}

pub looked_away : (now : ℕ) (buf : List ℕ) (old mid last new : Redial) → old.stream ≡ None
    → mid ≡ clock_read_at now old
    → IsTriedOn now mid last → new ≡ waited last → IsRedialled old Quiet buf new
looked_away now buf old mid last new away given t once =
    let P : Redial → Type 0 = λ r. IsTriedOn now r last in
    let u = subst P given t in record {
      now = now;
      answer = u.answer;
      is_new = u.is_new;
      found = Quiet;
      looked = ap (λ r. (Quiet, r)) (once ∙ ap waited u.done)
          ∙ sym (ap (λ w. looked_by w now u.answer Quiet buf old) away);
    }

-- what a look finds, and the stream after it
abbrev finds : Got → Redial → Got × Redial
finds got r = (got, r)

settled_clock : (d : Dialled StreamHistory) (r : Redial) → (settled d r).clock ≡ r.clock
settled_clock (Reached stream) r = refl
settled_clock Pending r = refl
settled_clock (Failed cause) r = refl

-- a look at a stream that is away, by the try that it makes
pub away_by : (old new : Redial) (got : Got) (buf : List ℕ) → (l : IsRedialled old got buf new)
    → old.stream ≡ None
    → finds got new
    ≡ finds Quiet (waited (tried_by old.is_trying l.now l.answer (clock_read_at l.now old)))
away_by old new got buf l away =
    l.looked ∙ ap (λ s. looked_by s l.now l.answer l.found buf old) away

pub away_quiet : (old new : Redial) (got : Got) (buf : List ℕ) → IsRedialled old got buf new
    → old.stream ≡ None → got ≡ Quiet
away_quiet old new got buf l away = ap (λ (p : Got × Redial). p.0) (away_by old new got buf l away)

-- the clock was read
settled_at : (call : Bool → DialCall) (answer : Dialled StreamHistory) (r : Redial)
    → (answered call answer r).clock ≡ r.clock
settled_at call answer r = settled_clock answer (record r {
  tries = ended r.tries answer;
  calls = dial_noted r.calls (call (is_reached answer));
})

begun_clock : (b : Bool) (now : ℕ) (answer : Dialled StreamHistory) (r : Redial)
    → (begun_by b now answer r).clock ≡ r.clock
begun_clock false now answer r = refl
begun_clock true now answer r = settled_at Dialed answer (record r { tried = Some now })

tried_clock : (b : Bool) (now : ℕ) (answer : Dialled StreamHistory) (r : Redial)
    → (tried_by b now answer r).clock ≡ r.clock
tried_clock true now answer r = settled_at Asked answer r
tried_clock false now answer r = begun_clock (is_due r now) now answer r

at_clock_read : (c : Moments) (now : ℕ) (Holds : ℕ → Type 0) → Holds now
    → AtClock (read_at c now) Holds
at_clock_read None now Holds h = tt
at_clock_read (Some before) now Holds h = h

pub away_clock : (old new : Redial) (got : Got) (buf : List ℕ) (l : IsRedialled old got buf new)
    (Holds : ℕ → Type 0) → old.stream ≡ None → Holds l.now → AtClock new.clock Holds
away_clock old new got buf l Holds away h =
    let read = clock_read_at l.now old in
    let is : new.clock ≡ read_at old.clock l.now =
    ap (λ (p : Got × Redial). p.1.clock) (away_by old new got buf l away)
    ∙ tried_clock old.is_trying l.now l.answer read in
    let P : Moments → Type 0 = λ c. AtClock c Holds in
    subst P (sym is) (at_clock_read old.clock l.now Holds h)

-- and the dialler has waited once
answered_pauses : (call : Bool → DialCall) (answer : Dialled StreamHistory) (r : Redial)
    → (answered call answer r).pauses ≡ r.pauses
answered_pauses call (Reached stream) r = refl
answered_pauses call Pending r = refl
answered_pauses call (Failed cause) r = refl

begun_pauses : (b : Bool) (now : ℕ) (answer : Dialled StreamHistory) (r : Redial)
    → (begun_by b now answer r).pauses ≡ r.pauses
begun_pauses false now answer r = refl
begun_pauses true now answer r = answered_pauses Dialed answer (record r { tried = Some now })

tried_pauses : (b : Bool) (now : ℕ) (answer : Dialled StreamHistory) (r : Redial)
    → (tried_by b now answer r).pauses ≡ r.pauses
tried_pauses true now answer r = answered_pauses Asked answer r
tried_pauses false now answer r = begun_pauses (is_due r now) now answer r

one_more : (before now : Pauses) → now ≡ paused before
    → IfSome before (λ count. now ≡ Some (count + 1))
one_more None now is = tt
one_more (Some count) now is = is

pub away_pauses : (old new : Redial) (got : Got) (buf : List ℕ) → IsRedialled old got buf new
    → old.stream ≡ None → IfSome old.pauses (λ count. new.pauses ≡ Some (count + 1))
away_pauses old new got buf l away =
    one_more old.pauses new.pauses
    (ap (λ (p : Got × Redial). p.1.pauses) (away_by old new got buf l away)
    ∙ ap paused (tried_pauses old.is_trying l.now l.answer (clock_read_at l.now old)))

-- a look at one that is there
closed_there : (b : Bool) (h : StreamHistory) (r : Redial) → r.stream ≡ Some h
    → IfSome (closed_by b r).stream (λ s. s ≡ h)
closed_there true h r is = tt
closed_there false h r is =
    let P : Option StreamHistory → Type 0 = λ o. IfSome o (λ s. s ≡ h) in subst P (sym is) refl

there_at : (found : Got) (buf : List ℕ) (h : StreamHistory) (old : Redial)
    → IfSome (closed_by (is_closed found old.silence) (known_by found (record old {
      stream = read_open h found buf;
      gone = gone_by h found old.gone;
    }))).stream
    (λ s. s ≡ noted h (looked (quieted found) buf))
there_at (Octets len) buf h old = refl
there_at Quiet buf h old = closed_there (is_over old.silence) (noted h (looked Quiet buf))
    (record old { stream = Some (noted h (looked Quiet buf)); gone = old.gone }) refl
there_at Gone buf h old = tt

there_by : (found got : Got) (buf : List ℕ) (h : StreamHistory) (old new : Redial)
    → finds got new
    ≡ finds (quieted found) (closed_by (is_closed found old.silence) (known_by found (record old {
      stream = read_open h found buf;
      gone = gone_by h found old.gone;
    })))
    → IfSome new.stream (λ s. s ≡ noted h (looked got buf))
there_by found got buf h old new is =
    let Q : Got × Redial → Type 0 = λ p. IfSome p.1.stream (λ s. s ≡ noted h (looked p.0 buf)) in
    subst Q (sym is) (there_at found buf h old)

pub looks_there : (old new : Redial) (got : Got) (buf : List ℕ) (h : StreamHistory)
    → IsRedialled old got buf new → old.stream ≡ Some h
    → IfSome new.stream (λ s. s ≡ noted h (looked got buf))
looks_there old new got buf h l there =
    there_by l.found got buf h old new
    (l.looked ∙ ap (λ s. looked_by s l.now l.answer l.found buf old) there)

-- then nothing is asked of the dialler
abbrev IsAlone : (old new : Redial) → Type 0
IsAlone old new = (new.calls ≡ old.calls) × (new.tries ≡ old.tries)
    × (new.pauses ≡ old.pauses) × (new.tried ≡ old.tried) × (new.is_trying ≡ old.is_trying)

alone_closed : (b : Bool) (old r : Redial) → IsAlone old r → IsAlone old (closed_by b r)
alone_closed true old r is = is
alone_closed false old r is = is

alone_at : (found : Got) (stream gone : Option StreamHistory) (old : Redial)
    → IsAlone old (known_by found (record old { stream = stream; gone = gone }))
alone_at (Octets len) stream gone old = (refl, refl, refl, refl, refl)
alone_at Quiet stream gone old = (refl, refl, refl, refl, refl)
alone_at Gone stream gone old = (refl, refl, refl, refl, refl)

pub looks_alone : (old new : Redial) (got : Got) (buf : List ℕ) (h : StreamHistory)
    → IsRedialled old got buf new → old.stream ≡ Some h
    → (new.calls ≡ old.calls) × (new.tries ≡ old.tries) × (new.pauses ≡ old.pauses)
    × (new.tried ≡ old.tried) × (new.is_trying ≡ old.is_trying)
looks_alone old new got buf h l there =
    let is = l.looked ∙ ap (λ s. looked_by s l.now l.answer l.found buf old) there in
    let P : Got × Redial → Type 0 = λ p. IsAlone old p.1 in
    subst P (sym is)
    (alone_closed (is_closed l.found old.silence) old
    (known_by l.found
    (record old { stream = read_open h l.found buf; gone = gone_by h l.found old.gone }))
    (alone_at l.found (read_open h l.found buf) (gone_by h l.found old.gone) old))
