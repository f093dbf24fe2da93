-- What holds of a primary station and of the exchanges of its line, call by call: all that the
-- crates above go by, in one record.
use Rattle.std.specs.Prelude.{◌≡◌, ℕ, ◌<◌, ◌++◌, Bool, true, false, List}
use Rattle.std.specs.Prelude.{All, length, slice_index, Option, Some, None}
use Rattle.ft12.specs.declared.frame.LinkSize.{LinkSize}
use Rattle.ft12.specs.Fronts.{front_of}
use Rattle.ft12.specs.Spelling.{spelling}
use Rattle.link.specs.Answers.{Asked, Counted, Command}
use Rattle.link.specs.Exchanges.{Exchanges, OpenExchange, Sending, IsOutstanding, no_exchanges}
use Rattle.link.specs.Exchanges.{answer_to, received_octets, received_current, timed_current}
use Rattle.link.specs.Exchanges.{begun_by}
use Rattle.link.specs.Exchanges.{view, reports_of_exchanges}
use Rattle.link.specs.Gaps.{gap_at, gaps_at}
use Rattle.link.specs.Holding.{IsFitting}
use Rattle.link.specs.Leave.{IsLeftToPolls}
use Rattle.link.specs.Primary.{Primary, start as new_primary, asked, sending, request_of}
use Rattle.link.specs.Primary.{outcome_of, with_gap, received, received_outcome, timed_out}
use Rattle.link.specs.Procedure.{LinkSettings, is_up, is_held, holds_command}
use Rattle.link.specs.Requests.{request_frame, request_in, FitsAddress, FitsAsked}
use Rattle.link.specs.Matching.{Matches, report_in, gap_in_outcome, IsFittingSending}
use Rattle.link.specs.Runs.{AreUserData, FitsLine}
use Rattle.link.specs.Turns.{CommandsWaiting, station_at}

pub record LineLaws : Type 0 where
  -- The state of a primary says of the exchanges what they are: from the start on, by each call.
  pub start : (settings : LinkSettings) (addresses : List ℕ) →
      0 < length addresses → All (FitsAddress settings.size) addresses →
      Matches settings addresses (new_primary settings addresses) no_exchanges
  pub octets : (settings : LinkSettings) (addresses : List ℕ) (q : Primary) (e : Exchanges)
      (octets : List ℕ) → Matches settings addresses q e →
      Matches settings addresses (received (front_of q.settings.size) q octets)
      (record { ended = e.ended; current = received_current octets e.current })
  pub due : (settings : LinkSettings) (addresses : List ℕ) (q : Primary) (e : Exchanges) (at : ℕ) →
      Matches settings addresses q e →
      Matches settings addresses (timed_out q at)
      (record { ended = e.ended; current = timed_current settings.answer_ms at e.current })
  pub next : (settings : LinkSettings) (addresses : List ℕ) (q : Primary) (e : Exchanges)
      (now : ℕ) (may_poll : Bool) (waiting : CommandsWaiting) → FitsLine q may_poll waiting →
      Matches settings addresses q e →
      Matches settings addresses (asked q now may_poll waiting)
      (begun_by now (sending q may_poll waiting) e)
  -- The reports of the exchanges grow by those that the outcomes bear.
  pub octets_report : (settings : LinkSettings) (addresses : List ℕ) (q : Primary) (e : Exchanges)
      (octets : List ℕ) → Matches settings addresses q e →
      reports_of_exchanges (front_of settings.size) (λ i. slice_index addresses i)
      (record { ended = e.ended; current = received_current octets e.current })
      ≡ reports_of_exchanges (front_of settings.size) (λ i. slice_index addresses i) e
      ++ report_in (received_outcome (front_of q.settings.size) q octets)
  pub due_reports : (size : LinkSize) (address : ℕ → ℕ) (answer_ms at : ℕ) (e : Exchanges) →
      reports_of_exchanges (front_of size) address
      (record { ended = e.ended; current = timed_current answer_ms at e.current })
      ≡ reports_of_exchanges (front_of size) address e
  pub next_reports : (size : LinkSize) (address : ℕ → ℕ) (now : ℕ) (s : Option Sending)
      (e : Exchanges) →
      reports_of_exchanges (front_of size) address (begun_by now s e)
      ≡ reports_of_exchanges (front_of size) address e
  -- So do the sessions of each station that ended with a gap.
  pub octets_gap : (settings : LinkSettings) (addresses : List ℕ) (q : Primary) (e : Exchanges)
      (octets : List ℕ) (station : ℕ) → Matches settings addresses q e →
      gaps_at (front_of settings.size) addresses station
      (record { ended = e.ended; current = received_current octets e.current })
      ≡ gaps_at (front_of settings.size) addresses station e
      ++ gap_in_outcome station (received_outcome (front_of q.settings.size) q octets)
  pub due_gaps : (size : LinkSize) (addresses : List ℕ) (answer_ms at : ℕ) (e : Exchanges)
      (station : ℕ) →
      gaps_at (front_of size) addresses station
      (record { ended = e.ended; current = timed_current answer_ms at e.current })
      ≡ gaps_at (front_of size) addresses station e
  pub next_gaps : (size : LinkSize) (addresses : List ℕ) (now : ℕ) (s : Option Sending)
      (e : Exchanges) (station : ℕ) →
      gaps_at (front_of size) addresses station (begun_by now s e)
      ≡ gaps_at (front_of size) addresses station e
  -- The outcome of octets is that of the outstanding exchange's answer, if they complete it.
  pub answer : (settings : LinkSettings) (addresses : List ℕ) (q : Primary) (e : Exchanges)
      (octets : List ℕ) (x : OpenExchange) → Matches settings addresses q e → e.current ≡ Some x →
      IsOutstanding (slice_index addresses x.station) (view (front_of settings.size) x).exchange →
      received_outcome (front_of settings.size) q octets
      ≡ with_gap (gap_at (front_of settings.size) addresses x.station e)
      (outcome_of x.station x.request (answer_to (slice_index addresses x.station)
      (view (front_of settings.size) (received_octets octets x)).exchange))
  -- A request fits the line, is spelled as the standard has it and read back, and goes out alone.
  pub fit : (settings : LinkSettings) (addresses : List ℕ) (q : Primary) (e : Exchanges)
      (may_poll : Bool) (waiting : CommandsWaiting) (s : Sending) → FitsLine q may_poll waiting →
      Matches settings addresses q e → sending q may_poll waiting ≡ Some s →
      IsFittingSending settings addresses s
  pub carried : (settings : LinkSettings) (addresses : List ℕ) (q : Primary) (e : Exchanges)
      (may_poll : Bool) (waiting : CommandsWaiting) → AreUserData settings.size waiting →
      Matches settings addresses q e → FitsLine q may_poll waiting
  pub spelled : (settings : LinkSettings) (addresses : List ℕ) (q : Primary) (e : Exchanges)
      (s : Sending) → Matches settings addresses q e →
      (request_of q s).octets.items
      ≡ spelling settings.size (request_frame (slice_index addresses s.station) s.request)
  pub alone : (settings : LinkSettings) (addresses : List ℕ) (q : Primary) (e : Exchanges)
      (may_poll : Bool) (waiting : CommandsWaiting) (s : Sending) (x : OpenExchange) →
      Matches settings addresses q e →
      sending q may_poll waiting ≡ Some s → e.current ≡ Some x →
      IsOutstanding (slice_index addresses x.station) (view (front_of settings.size) x).exchange →
      ⊥
  pub back : (size : LinkSize) (address : ℕ) (request : Asked) →
      FitsAddress size address → FitsAsked size request →
      request_in size (spelling size (request_frame address request)) ≡ Some (address, request)
  -- If nothing is sent, nothing is left to be asked but data, and that for want of leave.
  pub over : (q : Primary) (now : ℕ) (may_poll : Bool) (waiting : CommandsWaiting) →
      sending q may_poll waiting ≡ None →
      sending (asked q now may_poll waiting) may_poll waiting ≡ None
  pub leave : (q : Primary) (may_poll : Bool) (waiting : CommandsWaiting) → IsFitting q →
      q.outstanding ≡ None → sending q may_poll waiting ≡ None → may_poll ≡ false
  pub up : (q : Primary) (may_poll : Bool) (waiting : CommandsWaiting) → IsFitting q →
      q.outstanding ≡ None → sending q may_poll waiting ≡ None →
      (i : ℕ) → i < length q.stations → is_up (station_at q.stations i).link ≡ true
  pub free : (q : Primary) (may_poll : Bool) (waiting : CommandsWaiting) → IsFitting q →
      q.outstanding ≡ None → sending q may_poll waiting ≡ None →
      (i : ℕ) → i < length q.stations → holds_command (station_at q.stations i).link ≡ false
  pub left : (q : Primary) (may_poll : Bool) (waiting : CommandsWaiting) → IsFitting q →
      q.outstanding ≡ None → sending q may_poll waiting ≡ None →
      (i : ℕ) → i < length q.stations →
      IsLeftToPolls (station_at q.stations i) (waiting i) (station_at q.stations i).link
  -- A command that goes out for the first time is the one that waits for its station.
  pub begun : (q : Primary) (may_poll : Bool) (waiting : CommandsWaiting) (s : Sending)
      (fcb : Bool) (asdu : List ℕ) →
      sending q may_poll waiting ≡ Some s → s.request ≡ Counted fcb (Command asdu) →
      is_held (station_at q.stations s.station).link ≡ false → waiting s.station ≡ Some asdu
