-- When a log is begun anew, and when the keeper reports that none is kept (profile).
use Rattle.std.specs.Prelude.{ℕ, ◌-◌, nat_le, Bool, true, false, if◌then◌else◌}
use Rattle.std.specs.Prelude.{Option}
use Rattle.std.specs.Prelude.{Some, None, [], ◌∷◌}
use Rattle.gateway.specs.Log.{Log}
use Rattle.state.specs.Deeds.{moment_of}
use Rattle.std.specs.declared.io.ErrorKind.{ErrorKind}
use Rattle.live.specs.declared.watched.Notice.{Notice}
use Rattle.live.specs.declared.watched.Notice.TheVariants.{NotKept, KeptAgain}
use Rattle.state.specs.declared.renewal.Patience.{Patience}

-- the moment of the latest event, if this was it before these
abbrev pub moment_after : Log → ℕ → ℕ
moment_after [] moment = moment
moment_after (event ∷ log) moment = moment_of event

-- so many ms have passed since, if it was at all
abbrev pub has_passed : (ms : ℕ) → (since : Option ℕ) → (now : ℕ) → Bool
has_passed ms None now = true
has_passed ms (Some since) now = nat_le ms (now - since)

-- if the state isn't kept, a new log is tried at once and then each 10 s
abbrev pub is_try_due : Patience → Bool
is_try_due p = has_passed 10000 p.tried p.moment

-- A new log was tried: one that couldn't be begun counts from the latest event, and behind one that
-- was begun nothing counts.
abbrev pub after_try : (is_lost : Bool) → Patience → Patience
after_try true p = record p { tried = Some p.moment }
after_try false p = record p { tried = None }

-- once it was reported
abbrev pub again : Option ℕ → Option Notice
again None = None
again (Some logged) = Some KeptAgain

-- that the state isn't kept is reported at once and then each minute, with this cause; that it is
-- kept again, once
abbrev pub notice_of : (is_given_up : Bool) → (cause : Option ErrorKind) → Patience → Option Notice
notice_of true cause p =
    if has_passed 60000 p.logged p.moment then Some (NotKept cause) else None
notice_of false cause p = again p.logged

abbrev pub after_notice : Option Notice → Patience → Patience
after_notice None p = p
after_notice (Some (NotKept cause)) p = record p { logged = Some p.moment }
after_notice (Some KeptAgain) p = record p { logged = None }
