-- The line at rest, as its log shows it (IEC 60870-5-2, unbalanced transmission procedures).
use Rattle.std.specs.Prelude.{◌≡◌, ℕ, ◌<◌, ◌⊎◌, true, false, List, length, Some, None}
use Rattle.ft12.specs.Fronts.{front_of}
use Rattle.link.specs.Exchanges.{OpenExchange, IsOutstanding, view}
use Rattle.link.specs.Flags.{clear, flags_after}
use Rattle.link.specs.Leave.{holds_poll}
use Rattle.link.specs.declared.procedure.Link.TheVariants.{Down}
use Rattle.link.specs.Procedure.{IsUp, link_after, holds_command}
use Rattle.command.specs.State.{octets_waiting}
use Rattle.gateway.specs.Log.{Log, latest}
use Rattle.gateway.specs.Frames.{Connection}
use Rattle.gateway.specs.Reports.{Setup, address_at, exchanges_of, exchanges_with, parts_of_all}
use Rattle.gateway.specs.Reports.{reports_in}
use Rattle.gateway.specs.Works.{Works, done_works}
use Rattle.gateway.specs.Course.{has_places, Course, room_in}

-- an exchange is outstanding
pub record IsWaiting (p : Setup) (log : Log) : Type 0 where
  pub exchange : OpenExchange
  pub latest_is : (exchanges_of p log).current ≡ Some exchange
  pub waits : IsOutstanding (address_at p.addresses exchange.station)
      (view (front_of p.link.size) exchange).exchange

-- the step's timers and its request are done
abbrev pub done_in : Setup → Log → Course → Works
done_in p log c = done_works (latest log) (room_in p log c) c.works

-- No command waits for the station, or it is one that takes none, as its exchanges show: DFC stood
-- in its latest answer, or an unanswered poll is held.
abbrev pub IsServed : Setup → Log → Works → ℕ → Type 0
IsServed p log w i =
    (octets_waiting i w.serial.commands ≡ None)
    ⊎ ((flags_after (address_at p.addresses i) clear (exchanges_with p i log)).dfc ≡ true)
    ⊎ (holds_poll (link_after p.link (address_at p.addresses i) Down (exchanges_with p i log))
    ≡ true)

-- There is no room for data, and nothing else to be asked: each station is up, none holds a
-- command, and no command waits that may go.
pub record LacksOnlyRoom (p : Setup) (log : Log) (c : Course)
    (connections : List Connection) : Type 0 where
  pub full : has_places p (parts_of_all p.sizes (reports_in p log)) connections ≡ false
  pub up : (i : ℕ) → i < length p.addresses →
      IsUp p.link (address_at p.addresses i) (exchanges_with p i log)
  pub free : (i : ℕ) → i < length p.addresses →
      holds_command (link_after p.link (address_at p.addresses i) Down (exchanges_with p i log))
      ≡ false
  pub served : (i : ℕ) → i < length p.addresses → IsServed p log (done_in p log c) i

abbrev pub IsLineAtRest : Setup → Log → Course → List Connection → Type 0
IsLineAtRest p log c connections = IsWaiting p log ⊎ LacksOnlyRoom p log c connections
