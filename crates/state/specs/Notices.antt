-- What a keeper has tried and reported while the state wasn't kept, over the calls on it (profile).
use Rattle.std.specs.Prelude.{ℕ, Bool, List, [], ◌∷◌, Option, Some, None}
use Rattle.std.specs.declared.io.ErrorKind.{ErrorKind}
use Rattle.gateway.specs.Log.{LogEntry}
use Rattle.live.specs.declared.watched.Notice.{Notice}
use Rattle.state.specs.Deeds.{moment_of}
use Rattle.state.specs.Renewals.{after_notice, after_try, moment_after, notice_of}
use Rattle.state.specs.declared.renewal.Patience.{Patience}

pub data Call : Type 0 where
  -- an event comes
  Heard : (event : LogEntry) → Call
  -- a new log is tried; whether the state isn't kept behind that
  Tried : (is_lost : Bool) → Call
  -- it is asked what is to be reported, and whether the state isn't kept, for this cause
  Asked : (is_lost : Bool) → (cause : Option ErrorKind) → Call

-- what it remembers behind these calls, the newest of which comes first
abbrev pub patience_behind : List Call → Patience
patience_behind [] = record { moment = 0; tried = None; logged = None }
patience_behind (Heard event ∷ calls) = record (patience_behind calls) {
  moment = moment_after (event ∷ []) (patience_behind calls).moment;
}
patience_behind (Tried is_lost ∷ calls) = after_try is_lost (patience_behind calls)
patience_behind (Asked is_lost cause ∷ calls) =
    after_notice (notice_of is_lost cause (patience_behind calls)) (patience_behind calls)

-- the moment of the latest event
abbrev pub latest : List Call → ℕ
latest [] = 0
latest (Heard event ∷ calls) = moment_of event
latest (Tried is_lost ∷ calls) = latest calls
latest (Asked is_lost cause ∷ calls) = latest calls

abbrev pub with_notice : Option Notice → ℕ → List (ℕ × Notice) → List (ℕ × Notice)
with_notice None now notices = notices
with_notice (Some notice) now notices = (now, notice) ∷ notices

-- what was reported at these calls, each with the moment of the latest event, the newest first
abbrev pub told : List Call → List (ℕ × Notice)
told [] = []
told (Heard event ∷ calls) = told calls
told (Tried is_lost ∷ calls) = told calls
told (Asked is_lost cause ∷ calls) =
    with_notice (notice_of is_lost cause (patience_behind calls)) (latest calls) (told calls)

-- the new logs that were tried, and whether the state wasn't kept behind that
abbrev pub tries : List Call → List (ℕ × Bool)
tries [] = []
tries (Heard event ∷ calls) = tries calls
tries (Tried is_lost ∷ calls) = (latest calls, is_lost) ∷ tries calls
tries (Asked is_lost cause ∷ calls) = tries calls
