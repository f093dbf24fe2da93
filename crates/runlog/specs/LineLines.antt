-- Words of the laws of what is logged of the line (this gateway's own profile).
use Rattle.std.specs.Prelude.{◌≡◌, ℕ, Option, Some, None}
use Rattle.runlog.specs.declared.ends.LineLogged.{LineLogged}
use Rattle.runlog.specs.declared.ends.LineWatch.{LineWatch}
use Rattle.runlog.specs.Limits.{none_left}
use Rattle.runlog.specs.declared.limit.Limit.{Limit}
use Rattle.runlog.specs.declared.note.LogLine.{LogLine}
use Rattle.runlog.specs.declared.note.Note.{Note}

-- a line was logged at this moment, and none of its kind was left out since
abbrev pub logged_at : ℕ → Limit
logged_at now = record { logged = Some now; left_out = none_left }

-- It is logged that the line is away, and known from then on. The limit of such lines begins anew,
-- and the other one stays.
pub record IsLoggedAway (now : ℕ) (what : Note) (so : LineLogged) (w : LineWatch)
    (told : LineWatch × Option LogLine) : Type 0 where
  pub line : told.1
      ≡ Some (record { moment = now; note = what; left_out = w.away.left_out })
  pub so_far : told.0.logged ≡ so
  pub limit : told.0.away ≡ logged_at now
  pub other : told.0.there ≡ w.there

-- Nothing is logged, and what was logged stays.
pub record IsNotLogged (w : LineWatch) (told : LineWatch × Option LogLine) : Type 0 where
  pub line : told.1 ≡ None
  pub so_far : told.0.logged ≡ w.logged
  pub away : told.0.away ≡ w.away
  pub there : told.0.there ≡ w.there
