-- What `link` says of a primary station and of the exchanges of its line, in one record
-- (IEC 60870-5-2, unbalanced transmission procedures).
use Rattle.std.specs.Prelude.{◌≡◌, ◌≢◌, ◌<◌, ℕ, Bool, true, false, List, ◌++◌, All, length}
use Rattle.std.specs.Prelude.{slice_index, Option, Some}
use Rattle.ft12.specs.declared.frame.Front.{Front}
use Rattle.ft12.specs.declared.frame.LinkSize.{LinkSize}
use Rattle.ft12.specs.Fronts.{front_of}
use Rattle.ft12.specs.Spelling.{spelling}
use Rattle.link.specs.declared.service.Asked.{Asked}
use Rattle.link.specs.declared.service.Asked.TheVariants.{Counted}
use Rattle.link.specs.declared.service.Service.TheVariants.{Command}
use Rattle.link.specs.declared.settings.LinkSettings.{LinkSettings}
use Rattle.link.specs.declared.procedure.Link.TheVariants.{Down}
use Rattle.link.specs.Exchanges.{OpenExchange, Exchanges, Sending, IsOutstanding}
use Rattle.link.specs.Exchanges.{no_exchanges, answer_to, begun_by, received_octets}
use Rattle.link.specs.Exchanges.{received_current, timed, timed_current, view, views}
use Rattle.link.specs.Exchanges.{with_station, reports_of_exchanges, given_up_at}
use Rattle.link.specs.Procedure.{link_after, after_silence, is_held}
use Rattle.link.specs.Runs.{AreUserData, FitsLine, silence_outcome}
use Rattle.link.specs.Requests.{request_frame, request_in, FitsAddress, FitsAsked}
use Rattle.link.specs.Carried.{awaits_command, awaits_command_in, given_up, commands_given_up}
use Rattle.link.specs.Carried.{doubted}
use Rattle.link.specs.Gaps.{gap_at, exchanges_at as line_exchanges}
use Rattle.link.specs.Marks.{latest_given_up}
use Rattle.link.specs.declared.outcome.Outcome.TheVariants as outcome
use Rattle.link.specs.Primary.{Primary, start, asked, sending, received, received_outcome}
use Rattle.link.specs.Primary.{outcome_of, with_gap, timed_out, due_outcome}
use Rattle.link.specs.Turns.{CommandsWaiting, station_at}
use Rattle.link.specs.Matching.{Matches, report_in, IsFittingSending}

-- the laws of `link`, each under a word of its own
pub record LinkLaws : Type 0 where
  pub begins : (settings : LinkSettings) (addresses : List ℕ) → 0 < length addresses
      → All (FitsAddress settings.size) addresses
      → Matches settings addresses (start settings addresses) no_exchanges
  pub octets : (settings : LinkSettings) (addresses : List ℕ) (q : Primary) (e : Exchanges)
      (octets : List ℕ)
      → Matches settings addresses q e →
      Matches settings addresses (received (front_of q.settings.size) q octets)
      (record { ended = e.ended; current = received_current octets e.current })
  pub due : (settings : LinkSettings) (addresses : List ℕ) (q : Primary) (e : Exchanges) (at : ℕ)
      → Matches settings addresses q e →
      Matches settings addresses (timed_out q at) (record {
        ended = e.ended;
        current =
            timed_current settings.answer_ms at e.current;
      })
  pub next : (settings : LinkSettings) (addresses : List ℕ) (q : Primary) (e : Exchanges) (now : ℕ)
      (may_poll : Bool) (waiting : CommandsWaiting)
      → FitsLine q may_poll waiting → Matches settings addresses q e →
      Matches settings addresses (asked q now may_poll waiting)
      (begun_by now (sending q may_poll waiting) e)
  pub octets_report : (settings : LinkSettings) (addresses : List ℕ) (q : Primary) (e : Exchanges)
      (octets : List ℕ)
      → Matches settings addresses q e →
      reports_of_exchanges (front_of settings.size) (λ i. slice_index addresses i)
      (record { ended = e.ended; current = received_current octets e.current })
      ≡ reports_of_exchanges (front_of settings.size) (λ i. slice_index addresses i) e
      ++ report_in (received_outcome (front_of q.settings.size) q octets)
  pub due_reports : (size : LinkSize) (address : ℕ → ℕ) (answer_ms at : ℕ) (e : Exchanges) →
      reports_of_exchanges (front_of size) address (record {
        ended = e.ended;
        current =
            timed_current answer_ms at e.current;
      })
      ≡ reports_of_exchanges (front_of size) address e
  pub next_reports : (size : LinkSize) (address : ℕ → ℕ) (now : ℕ) (s : Option Sending)
      (e : Exchanges) →
      reports_of_exchanges (front_of size) address (begun_by now s e)
      ≡ reports_of_exchanges (front_of size) address e
  pub fit : (settings : LinkSettings) (addresses : List ℕ) (q : Primary) (e : Exchanges)
      (may_poll : Bool) (waiting : CommandsWaiting)
      (s : Sending) → FitsLine q may_poll waiting → Matches settings addresses q e →
      sending q may_poll waiting ≡ Some s → IsFittingSending settings addresses s
  pub carried : (settings : LinkSettings) (addresses : List ℕ) (q : Primary) (e : Exchanges)
      (may_poll : Bool) (waiting : CommandsWaiting) → AreUserData settings.size waiting
      → Matches settings addresses q e → FitsLine q may_poll waiting
  pub back : (size : LinkSize) (address : ℕ) (request : Asked) → FitsAddress size address
      → FitsAsked size request →
      request_in size (spelling size (request_frame address request)) ≡ Some (address, request)
  pub answered : (settings : LinkSettings) (addresses : List ℕ) (q : Primary) (e : Exchanges)
      (octets : List ℕ)
      (x : OpenExchange) →
      Matches settings addresses q e → e.current ≡ Some x →
      IsOutstanding (slice_index addresses x.station) (view (front_of settings.size) x).exchange →
      received_outcome (front_of settings.size) q octets
      ≡ with_gap (gap_at (front_of settings.size) addresses x.station e)
      (outcome_of x.station x.request (answer_to (slice_index addresses x.station)
      (view (front_of settings.size) (received_octets octets x)).exchange))
  pub silent : (settings : LinkSettings) (addresses : List ℕ) (q : Primary) (e : Exchanges) (at : ℕ)
      (x : OpenExchange)
      →
      Matches settings addresses q e → e.current ≡ Some x
      → IsOutstanding (slice_index addresses x.station) (view (front_of settings.size) x).exchange →
      (timed settings.answer_ms at x).closed ≡ true →
      due_outcome q at ≡ silence_outcome x.station
      (link_after settings (slice_index addresses x.station) Down
      (with_station x.station (views (front_of settings.size) e.ended)))
      (after_silence settings x.request true (link_after settings (slice_index addresses x.station)
      Down
      (with_station x.station (views (front_of settings.size) e.ended))))
  pub awaits : (settings : LinkSettings) (addresses : List ℕ) (q : Primary) (e : Exchanges) (k : ℕ)
      → Matches settings addresses q e
      → awaits_command q k ≡ awaits_command_in settings (front_of settings.size) addresses k e
  pub given_up : (settings : LinkSettings) (addresses : List ℕ) (q : Primary) (e : Exchanges)
      (k : ℕ) → k < length q.stations → Matches settings addresses q e
      → Matches settings addresses (given_up k q) (given_up_at k e)
  pub doubted : (settings : LinkSettings) (addresses : List ℕ) (q : Primary) (e : Exchanges)
      → Matches settings addresses q e → Matches settings addresses (doubted q) e
  pub given_reports : (settings : LinkSettings) (size : LinkSize) (addresses : List ℕ)
      (address : ℕ → ℕ) (e : Exchanges)
      → reports_of_exchanges (front_of size) address
      (commands_given_up settings (front_of size) addresses e)
      ≡ reports_of_exchanges (front_of size) address e
  pub begun : (q : Primary) (may_poll : Bool) (waiting : CommandsWaiting) (s : Sending) (fcb : Bool)
      (asdu : List ℕ) → sending q may_poll waiting ≡ Some s → s.request ≡ Counted fcb (Command asdu)
      → is_held (station_at q.stations s.station).link ≡ false → waiting s.station ≡ Some asdu
  pub itself : (front : List ℕ → Front) (k : ℕ) (e : Exchanges)
      → line_exchanges front k (given_up_at k e) ≡ latest_given_up (line_exchanges front k e)
  pub others : (front : List ℕ → Front) (k j : ℕ) (e : Exchanges) → j ≢ k
      → line_exchanges front j (given_up_at k e) ≡ line_exchanges front j e
  pub early : (settings : LinkSettings) (addresses : List ℕ) (q : Primary) (e : Exchanges) (at : ℕ)
      (x : OpenExchange) →
      Matches settings addresses q e → e.current ≡ Some x
      → IsOutstanding (slice_index addresses x.station) (view (front_of settings.size) x).exchange →
      (timed settings.answer_ms at x).closed ≡ false → (timed_out q at ≡ q)
      × (due_outcome q at ≡ outcome.None)
