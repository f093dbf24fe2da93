-- The exchanges of the line, and what the course logs of them, as the line goes on.
use Rattle.std.specs.Prelude.{◌==◌, ◌&&◌, ◌||◌, not, nat_le, option_and_then}
use Rattle.std.proofs.Common.{◌≡◌, ℕ, ◌+◌, eq-eqb, Bool, true, false, List, [], ◌∷◌, ◌++◌, inl, inr}
use Rattle.std.proofs.Common.{Option, Some, None, refl, ap, sym, subst, ◌∙◌, if◌then◌else◌}
use Rattle.std.proofs.lemmas.List.{append-nil}
use Rattle.std.proofs.lemmas.Bool.{eqb-true}
use Rattle.ft12.specs.declared.frame.Frame.{Frame}
use Rattle.ft12.specs.declared.frame.Front.{Front}
use Rattle.ft12.specs.Fronts.{front_of}
use Rattle.link.specs.declared.settings.LinkSettings.{LinkSettings}
use Rattle.link.specs.declared.procedure.Link.{Link}
use Rattle.link.specs.declared.procedure.Link.TheVariants.{Down}
use Rattle.link.specs.Answers.{answer_of}
use Rattle.link.specs.Exchanges.{Exchange, OpenExchange, Exchanges, Sending, all_of, answer_to}
use Rattle.link.specs.Exchanges.{begun_by, received_octets, received_current, timed, timed_current}
use Rattle.link.specs.Exchanges.{view, views, whole_of, with_station}
use Rattle.link.specs.Procedure.{MaySend, KeepsFrameCountBit, is_held, link_after, after_silence}
use Rattle.link.specs.Runs.{silence_outcome}
use Rattle.link.specs.Turns.{station_at}
use Rattle.link.specs.Gaps.{gap_at}
use Rattle.link.specs.declared.outcome.Outcome.{Outcome}
use Rattle.link.specs.declared.outcome.Outcome.TheVariants as outcome
use Rattle.link.specs.Runs.{FitsLine}
use Rattle.link.specs.Turns.{CommandsWaiting}
use Rattle.link.specs.Primary.{Outstanding, Primary, sending, sending_from, received_outcome}
use Rattle.link.specs.Primary.{outcome_from, outcome_of, due_outcome, due_outcome_from, is_command}
use Rattle.link.specs.Matching.{Matches, IsCurrent, IsAwaited, IsOver, AreLinks, past}
use Rattle.command.specs.History.{History}
use Rattle.gateway.specs.Reports.{Setup, address_at}
use Rattle.link.specs.declared.procedure.Silence.{Silence}
use Rattle.delivery.specs.Commands.{goes_down, unmissed}
use Rattle.delivery.proofs.Steps.{last_may, front_keeps, pends, answers_proper, missed_after}
use Rattle.delivery.proofs.Steps.{counts, answered_alike}
use Rattle.delivery.proofs.History.{line_logged}
use Rattle.delivery.proofs.Exchanging.{exchanges_at, at_append, alone, other_place, IsLogged}
use Rattle.delivery.proofs.Exchanging.{stays_logged, alike_logged, logged_by, received_one}
use Rattle.delivery.proofs.Exchanging.{received_far}
use Rattle.delivery.proofs.Requests.{logged_asked, asked_one, asked_far, logged_due, closed_one}
use Rattle.delivery.proofs.Requests.{closed_far}
use Rattle.delivery.specs.LinkLaws.{LinkLaws}
use Rattle.delivery.proofs.LinkLaws.{gap_matches_nothing, at_last, or_false, as_open}
use Rattle.delivery.proofs.LinkLaws.{same_when_over, nothing_said, no_front}

module _ (laws : LinkLaws) (p : Setup) (q : Primary) (e : Exchanges)
    (matches : Matches p.link p.addresses q e) where
  abbrev front : List ℕ → Front
  front = front_of p.link.size

  abbrev address : ℕ → ℕ
  address i = address_at p.addresses i

  split : (k : ℕ) (c : OpenExchange)
      → exchanges_at front k (record { ended = e.ended; current = Some c })
      ≡ with_station k (views front e.ended) ++ alone k (view front c)
  split k c = at_append front k e.ended (c ∷ [])

  pub received_logged : (octets : List ℕ) (k : ℕ) (h new : History) →
      line_logged k new
      ≡ line_logged k (logged_by (received_outcome (front_of q.settings.size) q octets) h) →
      IsLogged p.link (address k) (exchanges_at front k e) k h
      → IsLogged p.link (address k) (exchanges_at front k
      (record { ended = e.ended; current = received_current octets e.current })) k new
  received_logged octets k h new same t = go q.outstanding e.current refl refl matches.current t
    where
      said : line_logged k new ≡ line_logged k (logged_by (received_outcome front q octets) h)
      said = same
          ∙ ap
          (λ (s : LinkSettings). line_logged k
          (logged_by (received_outcome (front_of s.size) q octets)
          h))
          matches.settings_are

      silent : q.outstanding ≡ None → line_logged k new ≡ line_logged k h
      silent out = said
          ∙ ap (λ (o : Option Outstanding). line_logged k (logged_by (outcome_from front q o octets)
          h))
          out

      over : (x : OpenExchange) → q.outstanding ≡ None → IsOver front (address x.station) x
          → IsLogged p.link (address k)
          (exchanges_at front k (record { ended = e.ended; current = Some x })) k h →
          IsLogged p.link (address k) (exchanges_at front k
          (record { ended = e.ended; current = Some (received_octets octets x) })) k new
      over x out was t = subst (λ (l : List Exchange). IsLogged p.link (address k) l k new)
          (sym (split k (received_octets octets x)))
          (at_last p.link (address k) k (with_station k (views front e.ended)) x.station
          (view front x).exchange
          (view front (received_octets octets x)).exchange h new
          (λ here logged. alike_logged p.link (address k) k (with_station k (views front e.ended))
          x.request
          (view front x).exchange.front (view front (received_octets octets x)).exchange.front
          x.closed
          x.closed x.given_up h new
          (subst (λ (i : ℕ). answer_to (address i) (view front x).exchange
          ≡ answer_to (address i) (view front (received_octets octets x)).exchange) here
          (same_when_over front (address x.station) octets x was))
          refl (silent out) logged)
          (λ far. silent out) (subst (λ (l : List Exchange). IsLogged p.link (address k) l k h)
          (split k x) t))

      awaited : (o : Outstanding) (x : OpenExchange) → e.current ≡ Some x
          → IsAwaited front (address q.turn) q.turn o x
          → IsLogged p.link (address k)
          (exchanges_at front k (record { ended = e.ended; current = Some x })) k h →
          IsLogged p.link (address k) (exchanges_at front k
          (record { ended = e.ended; current = Some (received_octets octets x) })) k new
      awaited o x is w t =
          let none : answer_to (address x.station) (view front x).exchange ≡ None =
          ap (λ (i : ℕ). answer_to (address i) (view front x).exchange) w.station
          ∙ nothing_said front (address q.turn) x o.arrived w.arrived in
          let logged : line_logged k new
          ≡ line_logged k
          (logged_by (outcome_of x.station x.request
          (answer_to (address x.station) (view front (received_octets octets x)).exchange)) h) =
          said
          ∙ ap (λ o. line_logged k (logged_by o h)) (laws.answered p.link p.addresses q e octets x
          matches
          is (
            none,
            w.waits,
            w.stands,
          ))
          ∙ ap (line_logged k) (gap_matches_nothing (gap_at front p.addresses x.station e) _ h) in
          subst (λ (l : List Exchange). IsLogged p.link (address k) l k new)
          (sym (split k (received_octets octets x)))
          (at_last p.link (address k) k (with_station k (views front e.ended)) x.station
          (view front x).exchange
          (view front (received_octets octets x)).exchange h new
          (λ here before. subst (λ (y : Exchange). IsLogged p.link (address k)
          (with_station k (views front e.ended) ++ y ∷ []) k new)
          (sym (as_open x.request (view front (received_octets octets x)).exchange.front x.closed
          x.given_up false w.waits w.stands))
          (received_one p.link (address k) k (with_station k (views front e.ended)) x.request
          (view front x).exchange.front (view front (received_octets octets x)).exchange.front
          (answer_to (address k) (view front (received_octets octets x)).exchange) h new
          (subst (λ (i : ℕ). answer_to (address i) (view front x).exchange ≡ None) here none) refl
          (answers_proper (address k) x.request
          (view front (received_octets octets x)).exchange.front)
          (subst (λ (i : ℕ). line_logged k new ≡ line_logged k
          (logged_by
          (outcome_of i x.request
          (answer_to (address i) (view front (received_octets octets x)).exchange))
          h)) here logged)
          (subst (λ (y : Exchange). IsLogged p.link (address k)
          (with_station k (views front e.ended)
          ++ y ∷ []) k h)
          (as_open x.request (view front x).exchange.front x.closed x.given_up false w.waits
          w.stands) before)))
          (λ far. logged ∙ received_far k x.station x.request
          (answer_to (address x.station) (view front (received_octets octets x)).exchange) h far)
          (subst (λ (l : List Exchange). IsLogged p.link (address k) l k h) (split k x) t))

      go : (o : Option Outstanding) (c : Option OpenExchange) → q.outstanding ≡ o → e.current ≡ c
          → IsCurrent front p.addresses q.turn q.outstanding e.current →
          IsLogged p.link (address k)
          (exchanges_at front k (record { ended = e.ended; current = c }))
          k h
          → IsLogged p.link (address k) (exchanges_at front k
          (record { ended = e.ended; current = received_current octets c })) k new
      go None None out is w t = stays_logged p.link (address k)
          (exchanges_at front k (record { ended = e.ended; current = None })) k h new (silent out) t
      go None (Some x) out is w t =
          over x out (subst (IsCurrent front p.addresses q.turn None) is
          (subst (λ (o : Option Outstanding). IsCurrent front p.addresses q.turn o e.current) out
          w)) t
      go (Some o) None out is w t =
          absurd (subst (IsCurrent front p.addresses q.turn (Some o)) is
          (subst (λ (o : Option Outstanding). IsCurrent front p.addresses q.turn o e.current) out
          w))
      go (Some o) (Some x) out is w t = awaited o x is
          (subst (IsCurrent front p.addresses q.turn (Some o)) is
          (subst (λ (o : Option Outstanding). IsCurrent front p.addresses q.turn o e.current) out
          w)) t

  -- A request goes out

  abbrev fresh_of : Sending → Exchange
  fresh_of s =
      record { request = s.request; front = whole_of (front []); closed = false; given_up = false }

  pub asked_logged : (may : Bool) (waiting : CommandsWaiting) (s : Sending) (at k : ℕ)
      (h new : History) → FitsLine q may waiting → sending q may waiting ≡ Some s
      →
      line_logged k new ≡ line_logged k (logged_asked (is_command s.request
      && not (is_held (station_at q.stations s.station).link)) s.station s.request h) →
      IsLogged p.link (address k) (exchanges_at front k e) k h
      → IsLogged p.link (address k) (exchanges_at front k (begun_by at (Some s) e)) k new
  asked_logged may waiting s at k h new fits is same t =
      subst (λ (l : List Exchange). IsLogged p.link (address k) l k new) (sym added)
      (at_end (s.station == k) refl)
    where
      added : exchanges_at front k (begun_by at (Some s) e) ≡ exchanges_at front k e
          ++ alone k (record { station = s.station; exchange = (fresh_of s) })
      added = at_append front k (all_of e) (record {
        station = s.station;
        request = s.request;
        since = at;
        octets =
            [];
        closed = false;
        given_up = false;
      } ∷ [])

      free : (o : Option Outstanding) → q.outstanding ≡ o → q.outstanding ≡ None
      free None out = out
      free (Some o) out = let no : None ≡ Some s =
          sym (ap (λ (x : Option Outstanding). sending_from q x may waiting) out) ∙ is
          in cc

      link_is : link_after p.link (address k) Down (exchanges_at front k e)
          ≡ (station_at q.stations k).link
      link_is =
          subst (λ (o : Option Outstanding). AreLinks front p.link p.addresses q.stations
          (past o e))
          (free q.outstanding refl) matches.links k

      hit : s.station ≡ k → (s.station == k) ≡ true
          → IsLogged p.link (address k) (exchanges_at front k e ++ (fresh_of s)
          ∷ []) k new
      hit here test =
          let link : Link = link_after p.link (address k) Down (exchanges_at front k e) in
          let all : exchanges_at front k (begun_by at (Some s) e) ≡ exchanges_at front k e
          ++ (fresh_of s) ∷ [] = added
          ∙ ap (λ (b : Bool). exchanges_at front k e ++ (if b then (fresh_of s) ∷ [] else []))
          test in
          let kept : KeepsFrameCountBit p.link (address k) Down
          (exchanges_at front k (begun_by at (Some s) e)) =
          subst (λ (o : Option Sending). KeepsFrameCountBit p.link (address k) Down
          (exchanges_at front k (begun_by at o e))) is
          ((laws.next p.link p.addresses q e at may waiting fits matches).keeps k) in
          let may_send : MaySend link s.request =
          last_may p.link (address k) Down (exchanges_at front k e)
          (fresh_of s) (subst (KeepsFrameCountBit p.link (address k) Down) all kept) in
          let held : (station_at q.stations s.station).link ≡ link =
          ap (λ (i : ℕ). (station_at q.stations i).link) here ∙ sym link_is in
          asked_one p.link (address k) k (exchanges_at front k e) s.request (whole_of (front []))
          link h new
          (ap (λ (o : Option Frame). option_and_then (answer_of (address k) s.request) o)
          (no_front p.link.size))
          may_send (pends p.link (address k) Down None (exchanges_at front k e) (matches.keeps k)
          tt)
          (same ∙ ap (λ (l : Link). line_logged k (logged_asked (is_command s.request
          && not (is_held l)) s.station s.request h)) held
          ∙ ap
          (λ (i : ℕ). line_logged k (logged_asked (is_command s.request && not (is_held link)) i
          s.request h)) here) t

      at_end : (b : Bool) → (s.station == k) ≡ b
          → IsLogged p.link (address k) (exchanges_at front k e
          ++ alone k (record { station = s.station; exchange = (fresh_of s) })) k new
      at_end true test =
          subst (λ (b : Bool). IsLogged p.link (address k) (exchanges_at front k e
          ++ (if b then (fresh_of s) ∷ [] else [])) k new) (sym test)
          (hit (eqb-true s.station k test) test)
      at_end false test =
          subst (λ (b : Bool). IsLogged p.link (address k) (exchanges_at front k e
          ++ (if b then (fresh_of s) ∷ [] else [])) k new) (sym test)
          (subst (λ (l : List Exchange). IsLogged p.link (address k) l k new)
          (sym (append-nil (exchanges_at front k e)))
          (stays_logged p.link (address k) (exchanges_at front k e) k h new (same
          ∙ asked_far (is_command s.request && not (is_held (station_at q.stations s.station).link))
          k s.station
          s.request h (other_place s.station k test)) t))

  -- A moment ends an exchange

  -- one that is over stays as it is
  alike_down : (a : ℕ) (n : Silence) (at : ℕ) (x : OpenExchange) → IsOver front a x →
      goes_down p.link n x.request x.closed (answer_to a (view front x).exchange)
      ≡ goes_down p.link n x.request (timed p.link.answer_ms at x).closed
      (answer_to a (view front x).exchange)
  alike_down a n at x (inl closed) =
      ap (λ (b : Bool). goes_down p.link n x.request b (answer_to a (view front x).exchange))
      (closed
      ∙ sym (ap (λ (b : Bool). b || (not x.given_up && nat_le (x.since + p.link.answer_ms) at))
      closed))
  alike_down a n at x (inr (inl given)) =
      ap (λ (b : Bool). goes_down p.link n x.request b (answer_to a (view front x).exchange))
      (sym (ap (λ (g : Bool). x.closed || (not g && nat_le (x.since + p.link.answer_ms) at)) given
      ∙ or_false x.closed))
  alike_down a n at x (inr (inr over)) =
      let said : answer_to a (view front x).exchange ≡ Some over.0 =
      ap (λ (l : List ℕ). option_and_then (answer_of a x.request) (whole_of (front l)))
      (sym (append-nil x.octets)) ∙ over.1 [] in
      ap (goes_down p.link n x.request x.closed) said ∙ answered_alike p.link n x.request x.closed
      (timed p.link.answer_ms at x).closed over.0 ∙ ap
      (goes_down p.link n x.request (timed p.link.answer_ms at x).closed) (sym said)

  abbrev timed_exchanges : ℕ → Option OpenExchange → Exchanges
  timed_exchanges at c = record { ended = e.ended; current = timed_current p.link.answer_ms at c }

  pub timed_logged : (at k : ℕ) (h new : History) → line_logged k new
      ≡ line_logged k (logged_due (due_outcome q at) h) →
      IsLogged p.link (address k) (exchanges_at front k e) k h
      → IsLogged p.link (address k) (exchanges_at front k (timed_exchanges at e.current)) k new
  timed_logged at k h new same t = go q.outstanding e.current refl refl matches.current t
    where
      idle : q.outstanding ≡ None → line_logged k new ≡ line_logged k h
      idle out = same
          ∙ ap (λ (o : Option Outstanding). line_logged k (logged_due (due_outcome_from q o at) h))
          out

      over : (x : OpenExchange) → q.outstanding ≡ None → IsOver front (address x.station) x
          → IsLogged p.link (address k)
          (exchanges_at front k (record { ended = e.ended; current = Some x })) k h →
          IsLogged p.link (address k) (exchanges_at front k (timed_exchanges at (Some x))) k new
      over x out was t = subst (λ (l : List Exchange). IsLogged p.link (address k) l k new)
          (sym (split k (timed p.link.answer_ms at x)))
          (at_last p.link (address k) k (with_station k (views front e.ended)) x.station
          (view front x).exchange
          (view front (timed p.link.answer_ms at x)).exchange h new
          (λ here logged. alike_logged p.link (address k) k (with_station k (views front e.ended))
          x.request
          (view front x).exchange.front (view front x).exchange.front x.closed
          (timed p.link.answer_ms at x).closed x.given_up h new refl
          (alike_down (address k)
          (missed_after (address k) unmissed (with_station k (views front e.ended))) at x
          (subst (λ (i : ℕ). IsOver front (address i) x) here was)) (idle out) logged)
          (λ far. idle out) (subst (λ (l : List Exchange). IsLogged p.link (address k) l k h)
          (split k x) t))

      none_yet : (o : Outstanding) (x : OpenExchange) → IsAwaited front (address q.turn) q.turn o x
          → answer_to (address x.station) (view front x).exchange ≡ None
      none_yet o x w = ap (λ (i : ℕ). answer_to (address i) (view front x).exchange) w.station
          ∙ nothing_said front (address q.turn) x o.arrived w.arrived

      awaited : (o : Outstanding) (x : OpenExchange) (b : Bool)
          → (timed p.link.answer_ms at x).closed ≡ b
          → e.current ≡ Some x → IsAwaited front (address q.turn) q.turn o x →
          IsLogged p.link (address k) (with_station k (views front e.ended)
          ++ alone k (view front x))
          k h
          → IsLogged p.link (address k) (with_station k (views front e.ended)
          ++ alone k (view front (timed p.link.answer_ms at x))) k new
      awaited o x false is cur w t =
          let early : due_outcome q at ≡ outcome.None =
          (laws.early p.link p.addresses q e at x matches cur (none_yet o x w, w.waits, w.stands)
          is).1 in
          let still : line_logged k new ≡ line_logged k h = same
          ∙ ap (λ (o : Outcome). line_logged k (logged_due o h)) early in
          subst (λ (b : Bool). IsLogged p.link (address k) (with_station k (views front e.ended)
          ++ alone k (record {
            station = x.station;
            exchange = record {
              request = x.request;
              front = (view front x).exchange.front;
              closed = b;
              given_up = x.given_up;
            };
          })) k new)
          (w.waits ∙ sym is) (stays_logged p.link (address k) (with_station k (views front e.ended)
          ++ alone k (view front x)) k h new still t)
      awaited o x true is cur w t =
          let due : line_logged k new
          ≡ line_logged k
          (logged_due (silence_outcome x.station
          (link_after p.link (address x.station) Down
          (with_station x.station (views front e.ended)))
          (after_silence p.link x.request true (link_after p.link (address x.station) Down
          (with_station x.station (views front e.ended))))) h) =
          same ∙ ap (λ (o : Outcome). line_logged k (logged_due o h))
          (laws.silent p.link p.addresses q e at x matches cur (none_yet o x w, w.waits, w.stands)
          is) in
          at_last p.link (address k) k (with_station k (views front e.ended)) x.station
          (view front x).exchange
          (view front (timed p.link.answer_ms at x)).exchange h new
          (λ here before. subst (λ (y : Exchange). IsLogged p.link (address k)
          (with_station k (views front e.ended) ++ y ∷ []) k new)
          (sym (as_open x.request (view front x).exchange.front
          (timed p.link.answer_ms at x).closed x.given_up true is w.stands))
          (hit here (subst (λ (i : ℕ). line_logged k new
          ≡ line_logged k
          (logged_due
          (silence_outcome i
          (link_after p.link (address i) Down (with_station i (views front e.ended)))
          (after_silence p.link x.request true (link_after p.link (address i) Down
          (with_station i (views front e.ended))))) h)) here due)
          (subst (λ (y : Exchange). IsLogged p.link (address k)
          (with_station k (views front e.ended)
          ++ y ∷ []) k h)
          (as_open x.request (view front x).exchange.front x.closed x.given_up false w.waits
          w.stands) before)))
          (λ far. due ∙ closed_far k x.station (link_after p.link (address x.station) Down
          (with_station x.station (views front e.ended)))
          (after_silence p.link x.request true (link_after p.link (address x.station) Down
          (with_station x.station (views front e.ended)))) h far) t
        where
          hit : x.station ≡ k → line_logged k new ≡ line_logged k
              (logged_due
              (silence_outcome k
              (link_after p.link (address k) Down (with_station k (views front e.ended)))
              (after_silence p.link x.request true (link_after p.link (address k) Down
              (with_station k (views front e.ended))))) h) →
              IsLogged p.link (address k) (with_station k (views front e.ended)
              ++ record {
                request = x.request;
                front = (view front x).exchange.front;
                closed = false;
                given_up = false;
              } ∷ []) k h →
              IsLogged p.link (address k) (with_station k (views front e.ended)
              ++ record {
                request = x.request;
                front = (view front x).exchange.front;
                closed = true;
                given_up = false;
              } ∷ []) k new
          hit here logged before =
              let ended : List Exchange = with_station k (views front e.ended) in
              let all : exchanges_at front k e ≡ ended ++ (view front x).exchange ∷ [] =
              ap (λ (c : Option OpenExchange). exchanges_at front k
              (record { ended = e.ended; current = c })) cur
              ∙ split k x
              ∙ ap (λ (b : Bool). ended ++ (if b then (view front x).exchange ∷ [] else []))
              (eq-eqb x.station k here) in
              let kept : KeepsFrameCountBit p.link (address k) Down
              (ended ++ (view front x).exchange ∷ []) =
              subst (KeepsFrameCountBit p.link (address k) Down) all (matches.keeps k) in
              closed_one p.link (address k) k ended x.request (view front x).exchange.front
              (link_after p.link (address k) Down ended) h new
              (subst (λ (i : ℕ). answer_to (address i) (view front x).exchange ≡ None) here
              (none_yet o x w))
              (last_may p.link (address k) Down ended (view front x).exchange kept)
              (counts p.link (address k) Down unmissed ended
              (front_keeps p.link (address k) Down ended
              (view front x).exchange kept) tt) logged before

      go : (o : Option Outstanding) (c : Option OpenExchange) → q.outstanding ≡ o → e.current ≡ c
          → IsCurrent front p.addresses q.turn q.outstanding e.current →
          IsLogged p.link (address k)
          (exchanges_at front k (record { ended = e.ended; current = c }))
          k h
          → IsLogged p.link (address k) (exchanges_at front k (timed_exchanges at c)) k new
      go None None out is w t = stays_logged p.link (address k)
          (exchanges_at front k (record { ended = e.ended; current = None })) k h new (idle out) t
      go None (Some x) out is w t =
          over x out (subst (IsCurrent front p.addresses q.turn None) is
          (subst (λ (o : Option Outstanding). IsCurrent front p.addresses q.turn o e.current) out
          w)) t
      go (Some o) None out is w t =
          absurd (subst (IsCurrent front p.addresses q.turn (Some o)) is
          (subst (λ (o : Option Outstanding). IsCurrent front p.addresses q.turn o e.current) out
          w))
      go (Some o) (Some x) out is w t =
          subst (λ (l : List Exchange). IsLogged p.link (address k) l k new)
          (sym (split k (timed p.link.answer_ms at x)))
          (awaited o x (timed p.link.answer_ms at x).closed refl is
          (subst (IsCurrent front p.addresses q.turn (Some o)) is
          (subst (λ (o : Option Outstanding). IsCurrent front p.addresses q.turn o e.current) out
          w))
          (subst (λ (l : List Exchange). IsLogged p.link (address k) l k h) (split k x) t))
