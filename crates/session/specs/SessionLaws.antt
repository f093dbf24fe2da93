-- What holds of a session after every list of calls, for crates that keep one.
use Rattle.std.specs.Prelude.{◌≡◌, ℕ, ◌&&◌, nat_lt, length}
use Rattle.session.specs.Session.{may_send, confirmed, pulled, timed_out}
use Rattle.session.specs.History.{is_started, still_unacknowledged, confirmation_of, frame_due}
use Rattle.session.specs.History.{has_timed_out}
use Rattle.session.specs.Laws.{AfterEachRun}
use Rattle.session.specs.Rules.{KeepsRules}

pub record SessionLaws : Type 0 where
  -- each entry of the history keeps clause 5 with what came before it
  pub rules : AfterEachRun (λ p s h. KeepsRules p h)
  -- the confirmation that is due goes out (5.3)
  pub confirm : AfterEachRun (λ p s h. (confirmed s).0 ≡ confirmation_of h)
  -- an I frame may go out exactly if data transfer runs and fewer than k are unacknowledged (5.3,
  -- 5.5)
  pub may_send : AfterEachRun (λ p s h.
      may_send s ≡ (is_started h && nat_lt (length (still_unacknowledged h)) p.k))
  -- t1 has run out exactly if a sent frame or a test waits so long (5.2)
  pub t1 : AfterEachRun (λ p s h. (now : ℕ) → timed_out now s ≡ has_timed_out p.t1 now h)
  -- the S frame or TESTFR act that is due goes out (5.2, 5.5)
  pub dues : AfterEachRun (λ p s h. (now : ℕ) → (pulled now s).0 ≡ frame_due p.w p.t2 p.t3 now h)
