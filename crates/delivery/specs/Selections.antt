-- Selections over a log (IEC 60870-5-101, 7.2.6: S/E; how long a selection lasts is this gateway's
-- own profile).
use Rattle.std.specs.Prelude.{◌≡◌, ◌<◌, ℕ, [], ◌∷◌, ◌++◌}
use Rattle.command.specs.History.{History, Judged, Mirrored}
use Rattle.gateway.specs.Log.{Log, latest}

-- What came from the control centre and what stations answered bears this moment.
abbrev pub AreAt : ℕ → History → Type 0
AreAt at [] = Unit {0}
AreAt at (Judged now wall xs answer ∷ h) = (now ≡ at) × AreAt at h
AreAt at (Mirrored now v ∷ h) = (now ≡ at) × AreAt at h
AreAt at (_ ∷ h) = AreAt at h

-- What is logged with each entry of the log bears the moment of that entry's step.
abbrev pub LogsAtMoments : Log → History → Type 0
LogsAtMoments [] h = AreAt 0 h
LogsAtMoments (entry ∷ log) h =
    (new : History) × (older : History) × (h ≡ new ++ older) × AreAt (latest (entry ∷ log)) new
    × LogsAtMoments log older
