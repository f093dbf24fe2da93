-- Sendings of a service that had no answer in time (this gateway's own profile).
use Rattle.std.specs.Prelude.{◌≡◌, ℕ, Bool, false}
use Rattle.link.specs.Answers.{Service, Counted}
use Rattle.link.specs.Exchanges.{Exchange, IsUnanswered}

-- The service was sent, and had no answer in time.
pub record IsMissed (station : ℕ) (fcb : Bool) (service : Service) (x : Exchange) : Type 0 where
  pub request : x.request ≡ Counted fcb service
  pub unanswered : IsUnanswered station x
  pub stands : x.given_up ≡ false
