-- Commands on a station's line: what the exchanges of the log show of them, and what the gateway's
-- course logs of them (IEC 60870-5-2, unbalanced transmission procedures: SEND/CONFIRM; IEC
-- 60870-5-101, 7.2).
use Rattle.std.specs.Prelude.{◌≡◌, ℕ, suc, ◌==◌, ◌&&◌, ◌||◌, not, nat_lt, Bool, true, false}
use Rattle.std.specs.Prelude.{List, [], ◌∷◌, ◌++◌, map}
use Rattle.std.specs.Prelude.{slice_get, slice_index, Option, Some, None, if◌then◌else◌}
use Rattle.std.specs.Option.{option_map_or}
use Rattle.std.specs.List.{AllByRecursion}
use Rattle.std.specs.Int.{bytes_low_first}
use Rattle.asdu.specs.Asdu.{originator_octets}
use Rattle.asdu.specs.Sizes.{ca_len, ioa_len}
use Rattle.asdu.specs.declared.sizes.Sizes.{Sizes}
use Rattle.apci.specs.declared.apdu.Apdu.{Apdu}
use Rattle.apci.specs.declared.apdu.Apdu.TheVariants.{I}
use Rattle.link.specs.declared.service.Service.{Service}
use Rattle.link.specs.declared.service.Service.TheVariants.{Command}
use Rattle.link.specs.declared.service.Asked.{Asked}
use Rattle.link.specs.declared.service.Asked.TheVariants.{Status, Counted}
use Rattle.link.specs.declared.answer.Answer.{Answer}
use Rattle.link.specs.declared.answer.Answer.TheVariants as answer
use Rattle.link.specs.declared.settings.LinkSettings.{LinkSettings}
use Rattle.link.specs.Exchanges.{Exchange, answer_to}
use Rattle.link.specs.Delivery.{first_sending, pending_by}
use Rattle.link.specs.Procedure.{is_kept, once_more, short_silence}
use Rattle.link.specs.declared.procedure.Silence.{Silence}
use Rattle.link.specs.declared.procedure.Probed.TheVariants.{Never}
use Rattle.command.specs.Standard.{cause_of_fault, has_tag, is_activation, plain_type}
use Rattle.command.specs.Standard.{object_address, element_part}
use Rattle.command.specs.declared.station.StationInfo.{StationInfo}
use Rattle.command.specs.History.{History, Judged, Sent, Accepted, Refused, GivenUp, Ended, is_for}
use Rattle.gateway.specs.Log.{latest}
use Rattle.gateway.specs.Reports.{Setup}
use Rattle.gateway.specs.Walls.{wall_on}
use Rattle.delivery.specs.Arrivals.{Arrival, IsFreshOn}
use Rattle.delivery.specs.Merges.{IsSublist}

-- What becomes of a command on the line: it is sent for the first time, it is confirmed (function
-- 0, or the single character), or the link is busy (function 1); and the link goes down, with
-- whatever command stands on it.
pub data LineStep : Type 0 where
  Begun : (asdu : List ℕ) → LineStep
  Confirmed : (asdu : List ℕ) → LineStep
  Busy : (asdu : List ℕ) → LineStep
  Lost : LineStep

-- As the exchanges with a station show it

-- nothing was missed
abbrev pub unmissed : Silence
unmissed = short_silence 0 Never

-- what the answer to a request says of the command that it bears
abbrev pub said_of : Asked → Option Answer → List LineStep
said_of (Counted fcb (Command asdu)) (Some answer.Confirmed) = Confirmed asdu ∷ []
said_of (Counted fcb (Command asdu)) (Some answer.Busy) = Busy asdu ∷ []
said_of request said = []

-- How often in a row a counted request had no answer in time, with this exchange, if it was so
-- often before. A status that is answered meanwhile makes the count begin anew, and counts itself.
abbrev pub missed_by : Asked → (closed : Bool) → Option Answer → Silence → Silence
missed_by (Counted fcb service) closed None missed =
    if closed then short_silence (suc missed.missed) missed.probed else missed
missed_by Status closed (Some answer.Ready) missed = short_silence 0 (once_more missed.probed)
missed_by Status closed (Some said) missed = missed
missed_by request closed said missed = unmissed

-- A counted request had no answer in time, nor had any of its repeats, and then the link is to be
-- reset: without `hold`, or because the station answered two statuses meanwhile (profile).
abbrev pub is_silent : LinkSettings → (missed : Silence) → Asked → (closed : Bool) → Bool
is_silent settings missed (Counted fcb service) true =
    not (is_kept settings missed.probed) && nat_lt settings.retries (suc missed.missed)
is_silent settings missed request closed = false

-- The link goes down if the station answers that it can't serve (function 14 or 15), and if it is
-- silent.
abbrev pub goes_down : LinkSettings → (missed : Silence) → Asked → (closed : Bool) →
    Option Answer → Bool
goes_down settings missed request closed (Some answer.Unable) = true
goes_down settings missed request closed (Some said) = false
goes_down settings missed request closed None = is_silent settings missed request closed

-- An exchange: its command, if it isn't the repeat of an unanswered one, what the answer says of
-- it, and whether the link goes down. It does, too, if it is given up at a restart.
abbrev pub steps_at : LinkSettings → (station : ℕ) → (missed : Silence) → Option Service →
    Exchange → List LineStep
steps_at settings station missed pending x =
    map (λ asdu. Begun asdu) (first_sending pending x.request)
    ++ (said_of x.request (answer_to station x)
    ++ (if x.given_up || goes_down settings missed x.request x.closed (answer_to station x)
    then Lost ∷ [] else []))

-- exchanges with the station, one after another, the oldest first
abbrev pub steps_in : LinkSettings → (station : ℕ) → (missed : Silence) → Option Service →
    List Exchange → List LineStep
steps_in settings station missed pending [] = []
steps_in settings station missed pending (x ∷ xs) =
    steps_at settings station missed pending x
    ++ steps_in settings station (missed_by x.request x.closed (answer_to station x) missed)
    (pending_by x.request (answer_to station x) pending) xs

-- the commands among them that aren't the repeat of an unanswered one
abbrev pub first_sendings : (station : ℕ) → Option Service → List Exchange → List (List ℕ)
first_sendings station pending [] = []
first_sendings station pending (x ∷ xs) =
    first_sending pending x.request
    ++ first_sendings station (pending_by x.request (answer_to station x) pending) xs

-- the commands that were confirmed
abbrev pub confirmed_by : List LineStep → List (List ℕ)
confirmed_by [] = []
confirmed_by (Confirmed asdu ∷ steps) = asdu ∷ confirmed_by steps
confirmed_by (_ ∷ steps) = confirmed_by steps

-- As the course's history of commands has it

-- the command that was sent to station k last
abbrev pub last_sent : ℕ → History → List ℕ
last_sent k [] = []
last_sent k (Sent j octets ∷ h) = if k == j then octets else last_sent k h
last_sent k (_ ∷ h) = last_sent k h

-- what became of the commands to station k, and that what stood on its line was given up, the
-- oldest first
abbrev pub steps_logged : ℕ → History → List LineStep
steps_logged k [] = []
steps_logged k (Sent j octets ∷ h) =
    if k == j then steps_logged k h ++ Begun octets ∷ [] else steps_logged k h
steps_logged k (Accepted j ∷ h) =
    if k == j then steps_logged k h ++ Confirmed (last_sent k h) ∷ [] else steps_logged k h
steps_logged k (Refused j a ∷ h) =
    if k == j then steps_logged k h ++ Busy (last_sent k h) ∷ [] else steps_logged k h
steps_logged k (GivenUp j was ∷ h) =
    if k == j then steps_logged k h ++ Lost ∷ [] else steps_logged k h
steps_logged k (_ ∷ h) = steps_logged k h

-- the commands sent to station k for the first time, the oldest first
abbrev pub sent_to : ℕ → History → List (List ℕ)
sent_to k [] = []
sent_to k (Sent j octets ∷ h) = if k == j then sent_to k h ++ octets ∷ [] else sent_to k h
sent_to k (_ ∷ h) = sent_to k h

-- From the control centre

-- the ASDUs that were judged, each with what the wall clock showed, if that was known; the oldest
-- first
abbrev pub judged_in : History → List (List ℕ × Option ℕ)
judged_in [] = []
judged_in (Judged now wall xs a ∷ h) = judged_in h ++ (xs, wall) ∷ []
judged_in (_ ∷ h) = judged_in h

-- those of them that came since the latest connection was over
abbrev pub judged_here : History → List (List ℕ)
judged_here [] = []
judged_here (Judged now wall xs a ∷ h) = judged_here h ++ xs ∷ []
judged_here (Ended ∷ h) = []
judged_here (_ ∷ h) = judged_here h

-- the ASDUs of the I frames among frames received, the latest of which is first; the oldest first
abbrev pub asdus_in : List Apdu → List (List ℕ)
asdus_in [] = []
asdus_in (I ns nr asdu ∷ older) = asdus_in older ++ asdu.items ∷ []
asdus_in (_ ∷ older) = asdus_in older

-- the ASDUs judged that were forwarded to station k, on any connection
abbrev pub forwarded_in : Setup → ℕ → History → List (List ℕ × Option ℕ)
forwarded_in p k [] = []
forwarded_in p k (Judged now wall xs None ∷ h) =
    if is_for p.sizes p.stations p.select_ms p.max_age_ms k xs
    then forwarded_in p k h ++ (xs, wall) ∷ []
    else forwarded_in p k h
forwarded_in p k (_ ∷ h) = forwarded_in p k h

-- As the control centre sent it

-- an ASDU that came, with what the log says of the wall clock there
abbrev pub as_judged : Arrival → List ℕ × Option ℕ
as_judged x = (x.asdu, wall_on x.log (latest x.log))

-- The command is for station k, and nothing is wrong with it at the moment at which it came (IEC
-- 60870-5-101, 7.2.3: causes 44 to 47): an activation with a time tag (IEC 60870-5-104, 8) has a
-- good one, and by the wall clock it isn't too old.
pub record IsCommandTo (p : Setup) (k : ℕ) (x : Arrival) : Type 0 where
  pub addressed : is_for p.sizes p.stations p.select_ms p.max_age_ms k x.asdu ≡ true
  pub faultless : cause_of_fault p.sizes p.stations p.max_age_ms (wall_on x.log (latest x.log))
      x.asdu ≡ None
  pub fresh : has_tag (slice_index x.asdu 0) ≡ true → is_activation x.asdu ≡ true →
      IsFreshOn p.max_age_ms x.log x.asdu

-- The command as it goes to a line of these sizes, octet by octet (IEC 60870-5-101, 7.1 and 7.2):
-- its type, for types 58 to 62 (IEC 60870-5-104, 8) that of the command without a time tag, 45 to
-- 49; one object; the cause octet, and the originator if causes have two octets; the station's own
-- common address; the object address; and the element, without the tag.
abbrev pub line_form : Sizes → List ℕ → StationInfo → List ℕ
line_form sizes xs station =
    plain_type (slice_index xs 0) ∷ 1 ∷ slice_index xs 2
    ∷ (originator_octets sizes.cause (slice_index xs 3)
    ++ (bytes_low_first 0 (ca_len sizes.ca) station.ca
    ++ (bytes_low_first 0 (ioa_len sizes.ioa) (object_address xs) ++ element_part xs)))

-- the command as it is put on the line for station k
abbrev pub on_line_of : Setup → ℕ → List ℕ → List ℕ
on_line_of p k asdu = option_map_or (line_form p.sizes asdu) (slice_get p.stations k) []

-- These commands, as they were put on the line for station k, are some of the ASDUs that came, each
-- at most once, and in the order in which they came.
pub record AreCommandsOf (p : Setup) (k : ℕ) (came : List Arrival)
    (done : List (List ℕ)) : Type 0 where
  pub given : List Arrival
  pub received : IsSublist given came
  pub each : AllByRecursion (λ x. IsCommandTo p k x) given
  pub whole : done ≡ map (λ x. on_line_of p k x.asdu) given
