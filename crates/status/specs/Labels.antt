-- The words for how things stand (this gateway's own profile).
use Rattle.std.specs.Prelude.{ℕ, ◌/◌, List, Option, Some, None, codes, if◌then◌else◌}
use Rattle.runlog.specs.declared.severity.Severity.{Severity}
use Rattle.runlog.specs.declared.severity.Severity.TheVariants as severity
use Rattle.status.specs.Judge.{is_up}
use Rattle.status.specs.declared.judging.Judgement.{Judgement}
use Rattle.status.specs.declared.judging.Judgement.TheVariants as judgement
use Rattle.status.specs.declared.snapshot.Keeping.{Keeping}
use Rattle.status.specs.declared.snapshot.Keeping.TheVariants.{Off, Kept, NotKept}
use Rattle.status.specs.declared.snapshot.StationView.{StationView}
use Rattle.status.specs.declared.words.Count.{Count}
use Rattle.status.specs.declared.words.Count.TheVariants as count
use Rattle.status.specs.declared.snapshot.LinkState.{LinkState}
use Rattle.status.specs.declared.snapshot.LinkState.TheVariants.{NotAsked, Asked, Up, Silent}
use Rattle.status.specs.declared.snapshot.LinkState.TheVariants.{Down}

abbrev pub standing_text : LinkState → List ℕ
standing_text NotAsked = codes "not requested"
standing_text Asked = codes "requested"
standing_text Up = codes "up"
standing_text Silent = codes "no reply"
standing_text Down = codes "down"

-- the same with spaces behind it up to the longest text
abbrev pub wide_text : LinkState → List ℕ
wide_text NotAsked = codes "not requested"
wide_text Asked = codes "requested    "
wide_text Up = codes "up           "
wide_text Silent = codes "no reply     "
wide_text Down = codes "down         "

-- a moment in whole seconds
abbrev pub seconds_of : Option ℕ → ℕ
seconds_of (Some ms) = ms / 1000
seconds_of None = 0

-- what is counted of a station
abbrev pub value_of : Count → StationView → ℕ
value_of count.Up s = if is_up s then 1 else 0
value_of count.Reports s = s.reports
value_of count.Skipped s = s.skipped
value_of count.Gaps s = s.gaps
value_of count.Commands s = s.commands
value_of count.LastReport s = seconds_of s.last_report_ms
value_of count.Requests s = s.requests.sent
value_of count.Repeats s = s.requests.repeats
value_of count.Unanswered s = s.requests.unanswered
value_of count.Spoilt s = s.spoilt
value_of count.Late s = s.late

abbrev pub severity_text : Severity → List ℕ
severity_text severity.Error = codes "error"
severity_text severity.Warning = codes "warning"
severity_text severity.Notice = codes "notice"
severity_text severity.Info = codes "info"

abbrev pub keeping_text : Keeping → List ℕ
keeping_text Off = codes "none"
keeping_text Kept = codes "kept"
keeping_text NotKept = codes "not kept"

-- the first word of a plugin's line (Nagios)
abbrev pub judgement_text : Judgement → List ℕ
judgement_text judgement.Ok = codes "OK"
judgement_text judgement.Warning = codes "WARNING"
judgement_text judgement.Critical = codes "CRITICAL"
