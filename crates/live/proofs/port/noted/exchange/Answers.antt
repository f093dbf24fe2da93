use Rattle.std.proofs.Common.{◌≡◌, ℕ, ◌+◌, ◌-◌, ◌<◌, ◌≤◌, Bool, true, List, [], ◌∷◌, ◌++◌, Some}
use Rattle.std.proofs.Common.{None, is_some, refl, sym, ap, subst, ◌∙◌, ◌⊎◌}
use Rattle.gateway.specs.Log.{Log, LineOut}
use Rattle.gateway.specs.Ports.{logged_by}
use Rattle.gateway.specs.declared.ports.Next.{Next}
use Rattle.gateway.specs.declared.ports.Next.TheVariants as next
use Rattle.live.specs.Ends.{LiveEnds, LogsTurn, LogsPut}
use Rattle.live.specs.Law.{AtMoment, AtRounds, SomeRounds, first_of, is_frame}
use Rattle.std.specs.Prelude.{All}
use Rattle.live.specs.Timing.{Moments}
use Rattle.live.specs.Passed.{IsFreshRun, LiveRun, Begun, Turned, Put, LogsEnds, LogsLine}
use Rattle.live.specs.Passed.{LogsListener}
use Rattle.live.specs.Passed.{NotesStill, opened_in, accepted_in, line_in, line_out, given, handed}
use Rattle.live.specs.OctetStreams.{Happening, StreamHistory, Attempts}
use Rattle.live.specs.declared.timing.WrittenRequest.{WrittenRequest}
use Rattle.live.specs.declared.timing.Timing.{Timing}
use Rattle.live.proofs.port.noted.exchange.Goals as goal

-- an event of a look brings no request
given_out : (event : Next) (buf : List ℕ) (log : Log) → line_out (logged_by event buf ++ log)
    ≡ line_out log
given_out (next.Line now len) buf log = refl
given_out (next.Open now) buf log = refl
given_out (next.Bytes now len) buf log = refl
given_out (next.Cut now) buf log = refl
given_out (next.Tick now) buf log = refl
given_out (next.Wall now number) buf log = refl
given_out next.Done buf log = refl
given_out next.Fault buf log = refl

-- the ends of such a run
record Ran (start first asked end : LiveEnds) (moment : ℕ) (request : List ℕ) : Type 0 where
  event : Next
  buf : List ℕ
  looked : LogsTurn start event buf first
  put : LogsPut first moment (LineOut request) asked
  answer : Next
  rest : List ℕ
  came : LogsTurn asked answer rest end

abbrev ran : (start first asked end : LiveEnds) (moment : ℕ) (request : List ℕ) (event : Next)
    (buf : List ℕ)
    → LogsTurn start event buf first → LogsPut first moment (LineOut request) asked
    → (answer : Next) (rest : List ℕ)
    → LogsTurn asked answer rest end → Ran start first asked end moment request
ran start first asked end moment request event buf looked put answer rest came =
    record {
      event = event;
      buf = buf;
      looked = looked;
      put = put;
      answer = answer;
      rest =
          rest;
      came = came;
    }

run_of : (start first asked end : LiveEnds) (moment : ℕ) (request : List ℕ)
    → Ran start first asked end moment request
    → LiveRun start end
run_of start first asked end moment request r =
    Turned asked end r.answer r.rest
    (Put first asked moment (LineOut request) (Turned start first r.event r.buf Begun r.looked)
    r.put)
    r.came

-- one request went out
out_of : (start first asked end : LiveEnds) (moment : ℕ) (request : List ℕ)
    → Ran start first asked end moment request
    → start.log ≡ [] → line_out end.log ≡ request ∷ []
out_of start first asked end moment request r none =
    ap line_out r.came.logged ∙ (given_out r.answer r.rest asked.log
    ∙ (ap line_out r.put.logged ∙ ap (λ l. request ∷ l) (ap line_out r.looked.logged
    ∙ (given_out r.event r.buf start.log ∙ ap line_out none))))

some_of : (h : StreamHistory) → is_some h ≡ true → (happened : List Happening) × (h ≡ Some happened)
some_of None some = absurd (cc)
some_of (Some happened) some = (happened, refl)

line_of : (start first asked end : LiveEnds) (moment : ℕ) (request : List ℕ)
    → Ran start first asked end moment request
    → IsFreshRun start → start.line ≡ Some [] → LogsEnds end.log end → NotesStill start end
    → (happened : List Happening) × (end.line ≡ Some happened) × (line_in end.log ≡ given happened)
    × (handed happened ≡ request ∷ [])
line_of start first asked end moment request r fresh line logged still =
    let h = some_of end.line (still.line ∙ ap is_some line) in
    let P : StreamHistory → Type 0 = λ l. LogsLine (line_in end.log) (line_out end.log) l in
    let given = subst P h.1 logged.0 in
    (h.0, h.1, given.0, sym given.1 ∙ out_of start first asked end moment request r fresh.log)

seen_of : (v : Attempts) → is_some v ≡ true → (attempts : List Bool) × (v ≡ Some attempts)
seen_of None some = absurd (cc)
seen_of (Some attempts) some = (attempts, refl)

listener_of : (start end : LiveEnds) → start.listener ≡ Some [] → LogsEnds end.log end
    → NotesStill start end
    → (attempts : List Bool) × (end.listener ≡ Some attempts)
    × (opened_in end.log ≡ accepted_in attempts)
listener_of start end listener logged still =
    let v = seen_of end.listener (still.listener ∙ ap is_some listener) in
    let P : Attempts → Type 0 = λ d. LogsListener (opened_in end.log) d in
    (v.0, v.1, subst P v.1 logged.2)

-- the clock's moments
abbrev Within : Moments → Moments → Type 0
Within old new =
    AtRounds old new (λ begun quiet now. All (λ m. m < first_of begun quiet + 100) (begun ∷ quiet))

abbrev Within100 : Moments → Type 0
Within100 new =
    (before after : List ℕ) × (new ≡ Some after)
    × SomeRounds before after (λ begun quiet now. All (λ m. m < first_of begun quiet + 100)
    (begun ∷ quiet))

within : (old new : Moments) → is_some old ≡ true → Within old new → Within100 new
within None new some w = absurd (cc)
within (Some before) None some w = absurd w
within (Some before) (Some after) some w = (before, after, refl, w)

pub returns-clause-line : goal.returns-clause-line
returns-clause-line g c =
    let r = ran _ _ _ _ _ _ _ _ c.next-first.ensures.turns c.put-went.ensures.puts _ _
    c.next.ensures.turns in
    let run = run_of _ _ _ _ _ _ r in
    line_of _ _ _ _ _ _ r c.requires.fresh c.requires.line
    (c.the_log_has_what_passed.ensures _ _ c.requires.fresh run)
    (c.what_is_noted_is_noted_to_the_end.ensures _ _ run)

-- the law of exchanges, and that looks ask nothing
abbrev Unread : Type 0
Unread = (old new : LiveEnds) (event : Next) (buf : List ℕ) (r : WrittenRequest)
    → LogsTurn old event buf new
    → new.timing.request ≡ Some r → 0 < new.timing.answer_ms →
    AtMoment event (λ moment. r.moment + new.timing.answer_ms ≤ moment
    → (new.timing.answer_ms ≤ new.timing.looked - r.written) ⊎ (is_frame event buf ≡ true))

abbrev Asks : Type 0
Asks = (old new : LiveEnds) (event : Next) (buf : List ℕ) → LogsTurn old event buf new
    → (new.timing.request ≡ old.timing.request) × (new.timing.answer_ms ≡ old.timing.answer_ms)

unread_of : (start first asked end : LiveEnds) (moment : ℕ) (request : List ℕ)
    → (r : Ran start first asked end moment request) → 0 < start.timing.answer_ms → Unread → Asks
    → (written : ℕ) × AtMoment r.answer (λ at. moment + end.timing.answer_ms ≤ at
    → (end.timing.answer_ms ≤ end.timing.looked - written)
    ⊎ (is_frame r.answer r.rest ≡ true))
unread_of start first asked end moment request r some unread asks =
    let p = r.put.puts in
    let written = p.written in
    let timed = ap (λ (e : LiveEnds). e.timing) p.done in
    let kept = asks asked end r.answer r.rest r.came in
    let q : WrittenRequest = record { moment = moment; written = written } in
    let asked_so : end.timing.request ≡ Some q = kept.0 ∙ ap (λ (k : Timing). k.request) timed in
    let same : end.timing.answer_ms ≡ start.timing.answer_ms =
    kept.1
    ∙ (ap (λ (k : Timing). k.answer_ms) timed ∙ (asks start first r.event r.buf r.looked).1) in
    let P : ℕ → Type 0 = λ n. 0 < n in
    (written, unread asked end r.answer r.rest q r.came asked_so (subst P (sym same) some))

pub returns-clause-unread : goal.returns-clause-unread
returns-clause-unread g c =
    let r = ran _ _ _ _ _ _ _ _ c.next-first.ensures.turns c.put-went.ensures.puts _ _
    c.next.ensures.turns in
    unread_of _ _ _ _ _ _ r c.requires.waits c.no_exchange_ends_unread.ensures
    c.looks_ask_nothing.ensures

pub returns-clause-listener : goal.returns-clause-listener
returns-clause-listener g c =
    let r = ran _ _ _ _ _ _ _ _ c.next-first.ensures.turns c.put-went.ensures.puts _ _
    c.next.ensures.turns in
    let run = run_of _ _ _ _ _ _ r in
    listener_of _ _ c.requires.listener (c.the_log_has_what_passed.ensures _ _ c.requires.fresh run)
    (c.what_is_noted_is_noted_to_the_end.ensures _ _ run)

pub returns-clause-clock : goal.returns-clause-clock
returns-clause-clock g c = λ dark.
    let start = c.args.port.now in
    let first = c.next-first.new.self in
    let asked = c.put-went.new.self in
    let run : LiveRun start asked =
    Put first asked c.args.moment (LineOut c.args.request.now)
    (Turned start first c.next-first.result c.next-first.new.buf Begun c.next-first.ensures.turns)
    c.put-went.ensures.puts in
    within asked.clock c.next.new.self.clock
    ((c.what_is_noted_is_noted_to_the_end.ensures start asked run).clock
    ∙ ap is_some c.requires.clock)
    (c.looks_for_an_event_begin_within_100_ms.ensures asked c.next.new.self c.next.result
    c.next.new.buf
    c.next.ensures.turns dark)
