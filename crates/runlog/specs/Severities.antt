-- How severe a line is, by syslog's numbers (RFC 5424, 6.2.1); which line is how severe is this
-- gateway's own profile.
use Rattle.std.specs.Prelude.{ℕ}
use Rattle.live.specs.declared.watched.Notice.{Notice}
use Rattle.live.specs.declared.watched.Notice.TheVariants as notices
use Rattle.runlog.specs.declared.fate.CommandFate.{CommandFate}
use Rattle.runlog.specs.declared.fate.CommandFate.TheVariants as fate
use Rattle.runlog.specs.declared.note.Note.{Note}
use Rattle.runlog.specs.declared.note.Note.TheVariants as note
use Rattle.runlog.specs.declared.severity.Severity.{Severity}
use Rattle.runlog.specs.declared.severity.Severity.TheVariants.{Error, Warning, Notice as Noted}
use Rattle.runlog.specs.declared.severity.Severity.TheVariants.{Info}

abbrev pub number_of : Severity → ℕ
number_of Error = 3
number_of Warning = 4
number_of Noted = 5
number_of Info = 6

abbrev pub notice_severity : Notice → Severity
notice_severity (notices.NotKept cause) = Error
notice_severity notices.KeptAgain = Noted

abbrev pub fate_severity : CommandFate → Severity
fate_severity fate.Sent = Info
fate_severity fate.Confirmed = Info
fate_severity fate.Terminated = Info
fate_severity fate.Denied = Warning
fate_severity fate.Busy = Warning
fate_severity fate.GivenUp = Warning

-- An error wants somebody now: nothing is polled, or reports are lost or will be. A warning wants
-- somebody soon; a notice is of what seldom happens, and information of the daily round.
abbrev pub severity_of : Note → Severity
severity_of note.LineReached = Noted
severity_of note.LineReachedAgain = Noted
severity_of (note.LineLost cause) = Error
severity_of (note.LineNotThere cause) = Error
severity_of note.LineSilent = Error
severity_of (note.Listening address) = Info
severity_of (note.Opened peer) = Info
severity_of note.Started = Info
severity_of note.Stopped = Info
severity_of (note.Cut cause) = Warning
severity_of (note.Closed cause) = Warning
severity_of (note.RefusedPeers count last) = Warning
severity_of (note.Asked address) = Info
severity_of (note.Up address) = Noted
severity_of (note.Silent address) = Warning
severity_of (note.StillSilent address) = Warning
severity_of (note.Again address) = Noted
severity_of (note.Down address) = Warning
severity_of (note.Gap address) = Error
severity_of note.QueueFull = Error
severity_of note.QueueFree = Noted
severity_of (note.Counts tally) = Info
severity_of note.StateBegins = Noted
severity_of (note.StateGoesOn queued) = Noted
severity_of note.SettingsChanged = Noted
severity_of note.StateStale = Warning
severity_of note.StatePutAside = Error
severity_of (note.StateDamaged place) = Warning
severity_of (note.StateRefused why) = Error
severity_of (note.StateUnkept why) = Error
severity_of note.StateOnBtrfs = Warning
severity_of (note.SlowSync ms longest) = Warning
severity_of (note.GivenUp what kind ca object) = Warning
severity_of (note.State notice) = notice_severity notice
severity_of (note.Trouble why) = Error
severity_of (note.Ordered order peer) = Info
severity_of (note.Unsent order) = Warning
severity_of (note.Refused order peer why) = Warning
severity_of (note.Fate order station what) = fate_severity what
severity_of (note.Skipped station kind why) = Warning
severity_of (note.MirrorDropped address) = Warning
severity_of (note.Spoilt address what) = Warning
severity_of (note.Late address ms) = Warning
severity_of (note.LeftOut count) = Warning
