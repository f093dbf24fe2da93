-- What passes between the gateway and each station, as it is logged (IEC 60870-5-101, 7.2; which
-- lines follow is this gateway's own profile).
use Rattle.std.specs.Prelude.{ℕ, ◌%◌, ◌==◌, ◌||◌, nat_le, Bool, List, [], ◌∷◌, ◌++◌, map, Option}
use Rattle.std.specs.Prelude.{Some, None, slice_index, if◌then◌else◌}
use Rattle.asdu.specs.InformationObjects.{is_passed_on}
use Rattle.asdu.specs.Refusals.{refusal}
use Rattle.asdu.specs.declared.sizes.Sizes.{Sizes}
use Rattle.elements.specs.Types.{type_of}
use Rattle.elements.specs.declared.types.TypeId.{TypeId}
use Rattle.gateway.specs.Counting.{is_answer_type}
use Rattle.gateway.specs.declared.settings.StationSettings.{StationSettings}
use Rattle.link.specs.declared.answer.Answer.{Answer}
use Rattle.link.specs.declared.answer.Answer.TheVariants.{Report, Busy}
use Rattle.runlog.specs.Gathering.{nothing, added, minute_line_of}
use Rattle.runlog.specs.Limits.{one_more}
use Rattle.runlog.specs.Orders.{octet, order_of}
use Rattle.runlog.specs.Trails.{fate_told}
use Rattle.runlog.specs.declared.fate.CommandFate.{CommandFate}
use Rattle.runlog.specs.declared.fate.CommandFate.TheVariants as fate
use Rattle.runlog.specs.declared.fate.Mishap.{Mishap}
use Rattle.runlog.specs.declared.fate.Mishap.TheVariants as mishap
use Rattle.runlog.specs.declared.note.LogLine.{LogLine}
use Rattle.runlog.specs.declared.note.Note.TheVariants as note
use Rattle.runlog.specs.declared.order.Order.{Order}
use Rattle.runlog.specs.declared.content.Content.{Content}
use Rattle.runlog.specs.declared.content.Content.TheVariants as content
use Rattle.runlog.specs.declared.content.Skip.{Skip}
use Rattle.runlog.specs.declared.content.Skip.TheVariants as skip
use Rattle.runlog.specs.declared.traffic.Traffic.{Traffic}

-- ---- What a report holds

-- why octets are no ASDU, by the number that `asdu` gives
abbrev pub skip_by : ℕ → Skip
skip_by n =
    if n == 1 then skip.TooShort else if n == 2 then skip.TypeUnknown
    else if n == 3 then skip.NoObjects else if n == 4 then skip.OtherLength else skip.PastSize

-- an answer to a command, a report that goes on to the control centre, or one that is skipped
abbrev pub content_by : Option ℕ → Option TypeId → (cause : ℕ) → Content
content_by (Some n) kind cause = content.Skipped (skip_by n)
content_by None None cause = content.Skipped skip.TypeUnknown
content_by None (Some kind) cause =
    if is_answer_type kind then content.Reply
    else if is_passed_on kind cause then content.Report else content.Skipped skip.Negative

abbrev pub content_of : Sizes → List ℕ → Content
content_of sizes report =
    content_by (refusal sizes report) (type_of (slice_index report 0)) (slice_index report 2)

-- What a station answers a command: by its cause, of which 44 to 47 say that it is unknown, and by
-- P/N, bit 6 (7.2.3).
abbrev pub is_denied : (cause : ℕ) → Bool
is_denied cause = nat_le 44 (cause % 64) || nat_le 64 (cause % 128)

abbrev pub reply_of : (cause : ℕ) → Option CommandFate
reply_of cause =
    if is_denied cause then Some fate.Denied
    else if cause % 64 == 10 then Some fate.Terminated
    else if cause % 64 == 7 || cause % 64 == 9 then Some fate.Confirmed else None

-- ---- A station

abbrev pub new_traffic : (address : ℕ) → Traffic
new_traffic address = record {
  address = address;
  reports = 0;
  last_report = None;
  skipped = 0;
  commands = 0;
  order = None;
  spoilings = 0;
  late_answers = 0;
  skips = nothing;
  mirrors = nothing;
  spoilt = nothing;
  late = nothing;
}

abbrev pub new_traffics : List StationSettings → List Traffic
new_traffics settings = map (λ (s : StationSettings). new_traffic s.address) settings

-- a command went out for the first time
abbrev pub sent : Option Order → Traffic → Traffic
sent o t = record t { commands = one_more t.commands; order = o }

-- this befell the station
abbrev pub suffered : Mishap → (now : ℕ) → Traffic → Traffic
suffered mishap.GivenUp now t = t
suffered mishap.MirrorDropped now t =
    record t { mirrors = added (note.MirrorDropped t.address) now t.mirrors }
suffered (mishap.Spoilt by) now t = record t {
  spoilings = one_more t.spoilings;
  spoilt = added (note.Spoilt t.address by) now t.spoilt;
}
suffered (mishap.Late ms) now t = record t {
  late_answers = one_more t.late_answers;
  late = added (note.Late t.address ms) now t.late;
}

abbrev pub skip_noted : Skip → (kind now : ℕ) → Traffic → Traffic
skip_noted why kind now t = record t {
  skipped = one_more t.skipped;
  skips = added (note.Skipped t.address kind why) now t.skips;
}

abbrev pub content_noted : Content → (now : ℕ) → List ℕ → Traffic → Traffic
content_noted (content.Skipped why) now report t = skip_noted why (octet report 0) now t
content_noted what now report t = t

-- the station answered a poll with these user data
abbrev pub reported : Sizes → (now : ℕ) → List ℕ → Traffic → Traffic
reported sizes now report t =
    content_noted (content_of sizes report) now report
    (record t { reports = one_more t.reports; last_report = Some now })

-- ---- What becomes of commands there

abbrev pub content_told : Content → Sizes → (now : ℕ) → List ℕ → Traffic → List LogLine
    → List LogLine
content_told content.Reply sizes now report t lines =
    fate_told (reply_of (octet report 2)) (order_of sizes report) t.address now lines
content_told what sizes now report t lines = lines

-- by the cause octet and the command of the station's own answer, or that its link is busy
abbrev pub answer_told : Option Answer → Sizes → (now : ℕ) → Traffic → List LogLine → List LogLine
answer_told (Some (Report octets)) sizes now t lines =
    content_told (content_of sizes octets) sizes now octets t lines
answer_told (Some Busy) sizes now t lines =
    fate_told (Some fate.Busy) t.order t.address now lines
answer_told answer sizes now t lines = lines

-- that it was given up
abbrev pub mishap_told : Mishap → (now : ℕ) → Traffic → List LogLine → List LogLine
mishap_told mishap.GivenUp now t lines = fate_told (Some fate.GivenUp) t.order t.address now lines
mishap_told what now t lines = lines

-- ---- Its lines

abbrev pub or_else : {A : Type 0} → A × Option LogLine → (A → A × Option LogLine)
    → A × Option LogLine
or_else (a, Some line) f = (a, Some line)
or_else (a, None) f = f a

abbrev pub skips_line : ℕ → Traffic → Traffic × Option LogLine
skips_line now t = let logged = minute_line_of now t.skips in
    (record t { skips = logged.0 }, logged.1)

abbrev pub mirrors_line : ℕ → Traffic → Traffic × Option LogLine
mirrors_line now t =
    let logged = minute_line_of now t.mirrors in (record t { mirrors = logged.0 }, logged.1)

abbrev pub spoilt_line : ℕ → Traffic → Traffic × Option LogLine
spoilt_line now t = let logged = minute_line_of now t.spoilt in
    (record t { spoilt = logged.0 }, logged.1)

abbrev pub late_line : ℕ → Traffic → Traffic × Option LogLine
late_line now t = let logged = minute_line_of now t.late in (record t { late = logged.0 }, logged.1)

-- the first of its kinds, which are logged once a minute, that has a line to be logged now
abbrev pub traffic_line : ℕ → Traffic → Traffic × Option LogLine
traffic_line now t =
    or_else (skips_line now t) (λ t. or_else (mirrors_line now t) (λ t. or_else (spoilt_line now t)
    (late_line now)))

abbrev pub first_by : Traffic × Option LogLine → List Traffic → List Traffic × Option LogLine
    → List Traffic × Option LogLine
first_by (t, Some line) ts rest = (t ∷ ts, Some line)
first_by (t, None) ts rest = (t ∷ rest.0, rest.1)

-- the first station that has a line to be logged now
abbrev pub first_line : ℕ → List Traffic → List Traffic × Option LogLine
first_line now [] = ([], None)
first_line now (t ∷ ts) = first_by (traffic_line now t) ts (first_line now ts)

-- what stands behind others
abbrev pub behind : List Traffic → List Traffic × Option LogLine → List Traffic × Option LogLine
behind front logged = (front ++ logged.0, logged.1)
