-- The requests that went out on a line, and the exchanges that begin with them.
use Rattle.std.specs.Prelude.{ℕ, List, [], ◌∷◌, ◌++◌, Option, Some, None}
use Rattle.link.specs.Answers.{Asked}
use Rattle.link.specs.Exchanges.{OpenExchange, Sending}
use Rattle.link.specs.Primary.{Primary, sending}
use Rattle.link.specs.Runs.{Call, Next, called}

-- a request, with the index of its station and the moment at which it went out
pub record Sent : Type 0 where
  pub station : ℕ
  pub request : Asked
  pub at : ℕ

abbrev pub sent_by : (now : ℕ) → Option Sending → List Sent
sent_by now None = []
sent_by now (Some s) = record { station = s.station; request = s.request; at = now } ∷ []

abbrev pub sent_at : Primary → Call → List Sent
sent_at p (Next now may_poll waiting) = sent_by now (sending p may_poll waiting)
sent_at p call = []

-- the requests that go out at these calls
abbrev pub sent : Primary → List Call → List Sent
sent p [] = []
sent p (call ∷ calls) = sent_at p call ++ sent (called p call) calls

-- the request with which an exchange begins
abbrev pub first_of : OpenExchange → Sent
first_of x = record { station = x.station; request = x.request; at = x.since }
