-- What is awaited of a request (IEC 60870-5-2, 5.1), and what is counted of a station (this
-- gateway's own profile, docs/STATUS.md).
use Rattle.std.specs.Prelude.{◌≡◌, ℕ, Option}
use Rattle.link.specs.declared.service.Asked.{Asked as Request}
use Rattle.link.specs.declared.service.Asked.TheVariants as request
use Rattle.link.specs.declared.service.Service.{Service}
use Rattle.link.specs.declared.service.Service.TheVariants.{Class1, Class2, Command}
use Rattle.runlog.specs.declared.exchange.AwaitedAnswer.{AwaitedAnswer}
use Rattle.runlog.specs.declared.exchange.AwaitedAnswer.TheVariants as awaited
use Rattle.runlog.specs.declared.traffic.Traffic.{Traffic}

abbrev pub awaited_of_service : Service → AwaitedAnswer
awaited_of_service Class1 = awaited.Poll
awaited_of_service Class2 = awaited.Poll
awaited_of_service (Command asdu) = awaited.Command

abbrev pub awaited_for : Request → AwaitedAnswer
awaited_for request.Status = awaited.Status
awaited_for request.Reset = awaited.Reset
awaited_for (request.Counted fcb service) = awaited_of_service service

-- so much is counted of this station now, and it is the one that it was
pub record IsCounted (reports : ℕ) (last_report : Option ℕ) (skipped commands : ℕ)
    (before now : Traffic)
    : Type 0 where
  pub address : now.address ≡ before.address
  pub reported : now.reports ≡ reports
  pub at : now.last_report ≡ last_report
  pub skips : now.skipped ≡ skipped
  pub orders : now.commands ≡ commands
