-- The request that went out last, and what is received in answer to it (IEC 60870-5-2, 5.1).
use Rattle.std.specs.Prelude.{ℕ, ◌+◌, ◌-◌, ◌==◌, ◌&&◌, ◌||◌, min, nat_le, Bool, false, not, List}
use Rattle.std.specs.Prelude.{[], ◌++◌, length, take, position, Option, Some, None, is_some}
use Rattle.std.specs.Prelude.{option_and_then, if◌then◌else◌}
use Rattle.std.specs.List.{slice_range, starts_with}
use Rattle.ft12.specs.Fronts.{front_of}
use Rattle.ft12.specs.Spelling.{address_len}
use Rattle.ft12.specs.declared.frame.Frame.{Frame}
use Rattle.ft12.specs.declared.frame.Frame.TheVariants.{Single, Fixed, Data}
use Rattle.ft12.specs.declared.frame.Front.{Front}
use Rattle.ft12.specs.declared.frame.Front.TheVariants as front
use Rattle.ft12.specs.declared.frame.LinkSize.{LinkSize}
use Rattle.link.specs.Answers.{answer_of}
use Rattle.link.specs.declared.answer.Answer.{Answer}
use Rattle.link.specs.declared.answer.Answer.TheVariants.{Report}
use Rattle.link.specs.declared.service.Asked.{Asked}
use Rattle.link.specs.declared.service.Asked.TheVariants.{Status, Reset, Counted}
use Rattle.link.specs.declared.service.Service.TheVariants.{Class2, Command}
use Rattle.link.specs.Control.{is_primary, function_code, primary_code}
use Rattle.link.specs.declared.control.PrimaryFunction.TheVariants as function
use Rattle.asdu.specs.declared.sizes.Sizes.{Sizes}
use Rattle.runlog.specs.Orders.{octet}
use Rattle.runlog.specs.Spoilings.{first_of}
use Rattle.runlog.specs.Stations.{address_of, control_place}
use Rattle.runlog.specs.Traffic.{reported}
use Rattle.runlog.specs.declared.exchange.AwaitedAnswer.{AwaitedAnswer}
use Rattle.runlog.specs.declared.exchange.AwaitedAnswer.TheVariants as awaited
use Rattle.runlog.specs.declared.exchange.EarlierRequest.{EarlierRequest}
use Rattle.runlog.specs.declared.spoiling.Spoiling.{Spoiling}
use Rattle.runlog.specs.declared.spoiling.Spoiling.TheVariants.{Echo, Late, Frame as FrameOf}
use Rattle.runlog.specs.declared.spoiling.Spoiling.TheVariants.{Octets}
use Rattle.runlog.specs.declared.traffic.Traffic.{Traffic}

-- the place of the station that was asked last, if it is one of the settings; the same before the
-- latest event; when it was asked; how long an answer is awaited, in ms; the place of the station
-- that was asked before it, if that exchange had lasted so long; what is awaited of it; and the
-- octets that came since
pub record RequestWatch : Type 0 where
  pub place : Option ℕ
  pub before : Option ℕ
  pub since : ℕ
  pub answer_ms : ℕ
  pub overdue : Option ℕ
  pub awaited : AwaitedAnswer
  -- the request itself, and the one before it
  pub request : List ℕ
  pub earlier : EarlierRequest
  pub octets : List ℕ
  -- what stands in the place of an answer, if the latest octets that came bring none
  pub spoiling : Spoiling

abbrev pub new_exchange : (answer_ms : ℕ) → RequestWatch
new_exchange answer_ms = record {
  place = None;
  before = None;
  since = 0;
  answer_ms = answer_ms;
  overdue = None;
  awaited = awaited.Nothing;
  request = [];
  earlier = record { station = 0; what = awaited.Nothing; since = 0 };
  octets = [];
  spoiling = Echo;
}

-- an event begins
abbrev pub begun : RequestWatch → RequestWatch
begun e = record e { before = e.place }

-- by the control octet of a request: a poll for class 1 or 2, user data that are confirmed, the
-- status of the link, or its reset
abbrev pub awaited_by : (control : ℕ) → AwaitedAnswer
awaited_by control =
    if not (is_primary control) then awaited.Nothing
    else if function_code control == primary_code function.Class1
    || function_code control == primary_code function.Class2 then awaited.Poll
    else if function_code control == primary_code function.UserData then awaited.Command
    else if function_code control == primary_code function.LinkStatus then awaited.Status
    else if function_code control == primary_code function.ResetLink then awaited.Reset
    else awaited.Nothing

abbrev pub awaited_of : List ℕ → AwaitedAnswer
awaited_of request = awaited_by (octet request (control_place request))

-- an exchange is over without an answer once it has lasted for answer_ms (5.1)
abbrev pub is_over : (now : ℕ) → RequestWatch → Bool
is_over now e = nat_le e.answer_ms (now - e.since)

abbrev pub asked : LinkSize → (request : List ℕ) → Option ℕ → AwaitedAnswer → (now : ℕ)
    → RequestWatch → RequestWatch
asked size request place what now e = record e {
  place = place;
  since = now;
  overdue = if is_over now e then e.place else None;
  awaited = what;
  request = take 261 request;
  earlier =
      record { station = address_of size e.request; what = awaited_of e.request; since = e.since };
  octets = [];
}

-- how long after the request before it the latest one went out
abbrev pub lag : RequestWatch → ℕ
lag e = e.since - e.earlier.since

-- the place of the station with this link address
abbrev pub place_of : (address : ℕ) → List Traffic → Option ℕ
place_of address ts = position (λ (t : Traffic). t.address == address) ts

-- The user data of a request: they stand behind two lengths, 68, the control octet and the address,
-- and the length counts from the control octet on (IEC 60870-5-1, FT1.2).
abbrev pub user_data : LinkSize → List ℕ → List ℕ
user_data size request =
    let end = min (4 + octet request 1) (length request) in
    slice_range request (min (5 + address_len size) end) end

-- ---- What comes

-- a request of which this is awaited: neither the bit nor the class changes which answers fit
abbrev pub request_for : AwaitedAnswer → Option Asked
request_for awaited.Nothing = None
request_for awaited.Status = Some Status
request_for awaited.Reset = Some Reset
request_for awaited.Poll = Some (Counted false Class2)
request_for awaited.Command = Some (Counted false (Command []))

abbrev pub is_answer : (station : ℕ) → Option Asked → Frame → Bool
is_answer station None frame = false
is_answer station (Some request) frame = is_some (answer_of station request frame)

-- the frame answers this request, but comes when its exchange has ended (5.1)
abbrev pub is_late : EarlierRequest → Frame → (answer_ms now : ℕ) → Bool
is_late r frame answer_ms now =
    is_answer r.station (request_for r.what) frame && nat_le answer_ms (now - r.since)

-- What stands in the place of an answer. A station speaks when it is asked and at no other time
-- (IEC 60870-5-2, 5.1), so a frame that answers the request before comes late; another one bears a
-- link address, but for the single character (IEC 60870-5-1, 6.2.4.2).
abbrev pub frame_alone : Frame → (octets : List ℕ) → Spoiling
frame_alone Single octets = Octets (first_of octets)
frame_alone (Fixed control address) octets = FrameOf address
frame_alone (Data control address body) octets = FrameOf address

abbrev pub spoiling_by : Frame → (now : ℕ) → RequestWatch → Spoiling
spoiling_by frame now e =
    if is_late e.earlier frame e.answer_ms now then Late e.earlier.station (now - e.earlier.since)
    else frame_alone frame e.octets

abbrev pub spoiling_of : Front → (now : ℕ) → RequestWatch → Spoiling
spoiling_of (front.Whole frame n) now e = spoiling_by frame now e
spoiling_of front.More now e = Octets (first_of e.octets)
spoiling_of (front.Never place why) now e = Octets (first_of e.octets)

-- at this moment, by the octets of the request and those that came since
abbrev pub spoiling_at : LinkSize → (now : ℕ) → RequestWatch → Spoiling
spoiling_at size now e =
    if starts_with (λ a b. a == b) e.octets e.request then Echo
    else spoiling_of (front_of size e.octets) now e

-- as many octets as a frame has
abbrev pub heard : List ℕ → RequestWatch → RequestWatch
heard octets e = record e { octets = e.octets ++ take (261 - length e.octets) octets }

abbrev pub received : LinkSize → List ℕ → (now : ℕ) → RequestWatch → RequestWatch
received size octets now e =
    record (heard octets e) { spoiling = spoiling_at size now (heard octets e) }

-- the exchange is over
abbrev pub over : RequestWatch → RequestWatch
over e = record e { awaited = awaited.Nothing }

abbrev pub answered_by : (station : ℕ) → Asked → Front → Option (Option Answer)
answered_by station request (front.Whole frame n) = Some (answer_of station request frame)
answered_by station request front.More = None
answered_by station request (front.Never place why) = Some None

-- What is received of the station in answer: nothing yet; or an answer, or that none can come.
abbrev pub answer_by : AwaitedAnswer → LinkSize → (station : ℕ) → List ℕ → Option (Option Answer)
answer_by what size station octets =
    option_and_then (λ request. answered_by station request (front_of size octets))
    (request_for what)

abbrev pub answer_in : LinkSize → (station : ℕ) → RequestWatch → Option (Option Answer)
answer_in size station e = answer_by e.awaited size station e.octets

-- user data
abbrev pub traffic_after : Option Answer → Sizes → (now : ℕ) → Traffic → Traffic
traffic_after (Some (Report octets)) sizes now t = reported sizes now octets t
traffic_after answer sizes now t = t
