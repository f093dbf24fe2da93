-- The words of the log's lines (texts of this gateway's own profile).
use Rattle.std.specs.Prelude.{ℕ, ◌==◌, List, [], ◌++◌, Option, Some, None, codes, if◌then◌else◌}
use Rattle.std.specs.Fmt.{decimal}
use Rattle.std.specs.Net.Text.{ip_text, socket_text}
use Rattle.std.specs.declared.net.ip_addr.IpAddr.{IpAddr}
use Rattle.session.specs.declared.kinds.Close.{Close}
use Rattle.session.specs.declared.kinds.Close.TheVariants as close
use Rattle.live.specs.declared.ends.CutCause.{CutCause}
use Rattle.live.specs.declared.ends.CutCause.TheVariants as cut
use Rattle.live.specs.declared.watched.Notice.{Notice}
use Rattle.live.specs.declared.watched.Notice.TheVariants as notices
use Rattle.std.specs.declared.io.ErrorKind.{ErrorKind}
use Rattle.runlog.specs.Causes.{cause_words, line_cause_words}
use Rattle.runlog.specs.OrderWords.{order_words, reason_words, fate_words, type_name}
use Rattle.runlog.specs.Spoilings.{spoiling_words}
use Rattle.runlog.specs.declared.content.Skip.{Skip}
use Rattle.runlog.specs.declared.content.Skip.TheVariants as skip
use Rattle.runlog.specs.declared.spoiling.Spoiling.{Spoiling}
use Rattle.runlog.specs.declared.note.LogLine.{LogLine}
use Rattle.runlog.specs.declared.note.RunCounts.{RunCounts}
use Rattle.runlog.specs.declared.note.Obstacle.{Obstacle}
use Rattle.runlog.specs.declared.note.Remnant.{Remnant}
use Rattle.runlog.specs.declared.note.Remnant.TheVariants as remnant
use Rattle.runlog.specs.declared.note.Trouble.{Trouble}
use Rattle.runlog.specs.declared.note.Trouble.TheVariants as trouble
use Rattle.runlog.specs.declared.note.Note.{Note}
use Rattle.runlog.specs.declared.note.Note.TheVariants as note

abbrev pub peer_words : Option IpAddr → List ℕ
peer_words None = []
peer_words (Some address) = codes " by " ++ ip_text address

abbrev pub connected_words : Option IpAddr → List ℕ
connected_words None = codes "connected"
connected_words (Some address) = codes "connected: " ++ ip_text address

-- why the gateway closes a connection (IEC 60870-5-104, 5.1 to 5.3, and this gateway's own causes)
abbrev pub close_words : Close → List ℕ
close_words close.Grammar = codes "octets that begin no APDU"
close_words close.SendNumber = codes "an N(S) that isn't the next one"
close_words close.ReceiveNumber = codes "an N(R) of frames that weren't sent"
close_words close.Stopped = codes "an I frame while data transfer is stopped"
close_words close.Timeout = codes "no acknowledgement for t1"
close_words close.OwnAnswers = codes "an own answer found no place"
close_words close.Replaced = codes "a new connection takes its place"

abbrev pub cut_words : CutCause → List ℕ
cut_words cut.Gone = codes "peer closed"
cut_words cut.NotTaken = codes "it didn't take what was written"
cut_words cut.Restarted = codes "the gateway was started again"

abbrev pub trouble_words : Trouble → List ℕ
trouble_words trouble.LineRefused = codes "line refused"
trouble_words trouble.NameUnknown = codes "name unknown"
trouble_words trouble.LineUnreached = codes "line not reached"
trouble_words trouble.PortInUse = codes "port in use"
trouble_words trouble.PortForbidden = codes "port not allowed"
trouble_words trouble.PortUnusable = codes "port can't be listened at"
trouble_words trouble.StateInUse = codes "state in use by another process"
trouble_words trouble.StateUnusable = codes "state can't be kept there"
trouble_words trouble.StatusUnusable = codes "status port can't be used"

-- what the system said, if it said anything
abbrev pub said_words : Option ErrorKind → List ℕ
said_words None = []
said_words (Some cause) = cause_words cause ++ codes ": "

abbrev pub not_kept_words : Option ErrorKind → List ℕ
not_kept_words cause =
    codes "state isn't kept: " ++ said_words cause
    ++ codes "what is polled now is lost if the gateway stops"

abbrev pub notice_words : Notice → List ℕ
notice_words (notices.NotKept cause) = not_kept_words cause
notice_words notices.KeptAgain = codes "state is kept again"

abbrev pub counts_words : RunCounts → List ℕ
counts_words t =
    (codes "counts skipped " ++ decimal t.counts.skipped
    ++ codes " mirrors " ++ decimal t.counts.mirrors
    ++ codes " lost " ++ decimal t.counts.lost ++ codes " spoilt " ++ decimal t.counts.spoilt)
    ++ (codes " queue " ++ decimal t.taken ++ codes " of " ++ decimal t.places
    ++ codes " connections " ++ decimal t.connections)

abbrev pub last_words : Option IpAddr → List ℕ
last_words None = []
last_words (Some address) = codes ", the last at " ++ ip_text address

abbrev pub rejected_words : ℕ → List ℕ
rejected_words count = (decimal count ++ codes " rejected ") ++ codes "(not in the allow list)"

abbrev pub refused_peers_words : ℕ → Option IpAddr → List ℕ
refused_peers_words count last = rejected_words count ++ last_words last

-- why a report isn't passed on
abbrev pub skip_words : Skip → List ℕ
skip_words skip.TooShort = codes "too short"
skip_words skip.TypeUnknown = codes "type not known"
skip_words skip.NoObjects = codes "no objects"
skip_words skip.OtherLength = codes "length doesn't fit the sizes in [line]"
skip_words skip.PastSize = codes "object address past its size"
skip_words skip.Negative = codes "it says that a type is unknown"

abbrev pub skipped_words : (station kind : ℕ) → Skip → List ℕ
skipped_words station kind why =
    (codes "station " ++ decimal station ++ codes " report skipped, type " ++ decimal kind)
    ++ type_name kind ++ codes ": " ++ skip_words why

-- why a start can't use the directory of its state
abbrev pub obstacle_words : Obstacle → List ℕ
obstacle_words why = why.place.now ++ codes ": " ++ cause_words why.cause

-- a sync of the state, and the longest since the run began, in ms
abbrev pub sync_words : (ms longest : ℕ) → List ℕ
sync_words ms longest =
    (codes "state: a sync took " ++ decimal ms ++ codes " ms, ")
    ++ (codes "the longest so far " ++ decimal longest ++ codes " ms")

abbrev pub damaged_words : (place : ℕ) → List ℕ
damaged_words place =
    codes "state: damaged, nothing is read from octet "
    ++ (decimal place ++ codes " of its log on")

abbrev pub remnant_words : Remnant → List ℕ
remnant_words remnant.Unanswered = codes "command without an answer"
remnant_words remnant.Waiting = codes "waiting command"
remnant_words remnant.Selection = codes "selection"
remnant_words remnant.OwnAnswer = codes "own answer"

-- a start gives up this of the connection before it
abbrev pub given_up_words : Remnant → (kind ca object : ℕ) → List ℕ
given_up_words what kind ca object =
    remnant_words what ++ (codes " of type " ++ decimal kind ++ codes " to " ++ decimal ca
    ++ codes "/" ++ decimal object) ++ codes ", given up at a start"

abbrev pub of_station : (address : ℕ) → (words : List ℕ) → List ℕ
of_station address words = codes "station " ++ decimal address ++ codes " " ++ words

abbrev pub spoilt_words : (address : ℕ) → Spoiling → List ℕ
spoilt_words address what =
    (codes "station " ++ decimal address ++ codes " answer spoilt: ") ++ spoiling_words what

abbrev pub late_words : (address ms : ℕ) → List ℕ
late_words address ms =
    (codes "answers of station " ++ decimal address ++ codes " come late, ")
    ++ (decimal ms ++ codes " ms behind their request: answer_ms is short")

-- the cause, if that is known
abbrev pub behind_colon : Option ErrorKind → List ℕ
behind_colon None = []
behind_colon (Some cause) = codes ": " ++ line_cause_words cause

abbrev pub line_words : (what : List ℕ) → Option ErrorKind → List ℕ
line_words what cause = what ++ behind_colon cause

abbrev pub words : Note → List ℕ
words note.LineReached = codes "line reached"
words note.LineReachedAgain = codes "line reached again"
words (note.LineLost cause) = line_words (codes "line lost") cause
words (note.LineNotThere cause) = line_words (codes "line not there") cause
words note.LineSilent =
    codes "line silent: requests went out and nothing came, it is dialled anew"
words (note.Listening address) = codes "listening at " ++ socket_text address
words (note.Opened peer) = connected_words peer
words note.Started = codes "connection started"
words note.Stopped = codes "connection stopped"
words (note.Cut cause) = codes "connection lost: " ++ cut_words cause
words (note.Closed cause) = codes "connection closed: " ++ close_words cause
words (note.RefusedPeers count last) = refused_peers_words count last
words (note.Asked address) = codes "station " ++ decimal address ++ codes " link status requested"
words (note.Up address) = codes "station " ++ decimal address ++ codes " up"
words (note.Silent address) = codes "station " ++ decimal address ++ codes " no reply"
words (note.StillSilent address) =
    of_station address (codes "still no reply: if it was restarted, restart telegate too")
words (note.Again address) = codes "station " ++ decimal address ++ codes " replies again"
words (note.Down address) = codes "station " ++ decimal address ++ codes " down"
words (note.Gap address) = codes "station " ++ decimal address
    ++ codes " gap: reports of it may be lost"
words note.QueueFull = codes "queue full"
words note.QueueFree = codes "queue free again"
words (note.Counts tally) = counts_words tally
words note.StateBegins = codes "state: begins anew"
words (note.StateGoesOn queued) = codes "state: resumed, " ++ decimal queued ++ codes " queued"
words note.SettingsChanged = codes "state: settings have changed"
words note.StateStale = codes "state is stale: each link is reset"
words note.StatePutAside = codes "state can't be read: put aside"
words (note.StateDamaged place) = damaged_words place
words (note.StateRefused why) =
    codes "state: its directory can't be used, the run goes on without it: " ++ obstacle_words why
words (note.StateUnkept why) = codes "state can't be kept there: " ++ obstacle_words why
words note.StateOnBtrfs = codes "state: its directory is on btrfs, which writes 90 KB a sync"
words (note.SlowSync ms longest) = sync_words ms longest
words (note.GivenUp what kind ca object) = given_up_words what kind ca object
words (note.State notice) = notice_words notice
words (note.Trouble why) = trouble_words why
words (note.Ordered order peer) = order_words order ++ peer_words peer
words (note.Unsent order) = order_words order ++ codes " not sent: its connection ended"
words (note.Refused order peer why) =
    order_words order ++ peer_words peer ++ codes " refused: " ++ reason_words why
words (note.Fate order station fate) = order_words order ++ fate_words fate station
words (note.Skipped station kind why) = skipped_words station kind why
words (note.MirrorDropped address) =
    of_station address (codes "answer to a command dropped: data transfer isn't running")
words (note.Spoilt address what) = spoilt_words address what
words (note.Late address ms) = late_words address ms
words (note.LeftOut count) = decimal count ++ codes " lines left out: nobody read them in time"

-- what was left out before it: how many, and the moment of the first of them
abbrev pub left_out_words : (count since : ℕ) → List ℕ
left_out_words count since =
    if count == 0 then []
    else (codes " (" ++ decimal count ++ codes " left out")
    ++ (codes " since " ++ decimal since ++ codes ")")

-- what the line says
abbrev pub said : LogLine → List ℕ
said l = words l.note ++ left_out_words l.left_out.count l.left_out.since

-- what stands behind the line's UTC time
abbrev pub line_text : LogLine → List ℕ
line_text l = decimal l.moment ++ codes " " ++ said l
