-- What can be seen of commands from outside, and what the rules make of it. Nothing here knows how
-- it is kept.
use Rattle.std.specs.Prelude.{◌≡◌, ℕ, suc, ◌+◌, ◌-◌, ◌<◌, ◌≤◌, Bool, true, false, not, ◌&&◌, ◌||◌}
use Rattle.std.specs.Prelude.{◌==◌, nat_lt, if◌then◌else◌, List, [], ◌∷◌, ◌++◌, length, count_by}
use Rattle.std.specs.Prelude.{take, drop, Option, Some, None, option_map, is_none, unwrap_or}
use Rattle.std.specs.Prelude.{slice_get, slice_index}
use Rattle.std.specs.Option.{option_map_or}
use Rattle.elements.specs.declared.types.TypeId.{TypeId}
use Rattle.elements.specs.Types.{type_of}
use Rattle.asdu.specs.Sizes.{tcp}
use Rattle.asdu.specs.Asdu.{AsduValue, Info, spelled}
use Rattle.asdu.specs.Fields.{value_at}
use Rattle.asdu.specs.Writing.{carried}
use Rattle.asdu.specs.Tagging.{untagged}
use Rattle.asdu.specs.declared.sizes.Sizes.{Sizes}
use Rattle.command.specs.Octets.{answer}
use Rattle.command.specs.Standard.{common_address, IsRefusal, operates, has_tag, tag_if_any}
use Rattle.command.specs.Standard.{is_activation, is_deactivating, selects, executes}
use Rattle.command.specs.Standard.{have_one_target, have_one_type, have_one_element}
use Rattle.command.specs.Standard.{have_one_test_bit, is_object_of, confirms_command}
use Rattle.command.specs.Standard.{refuses_command, is_for_station, must_be_selected, station_of}
use Rattle.command.specs.Standard.{negative_of, cause_of_fault, IsFresh}
use Rattle.command.specs.declared.station.StationInfo.{StationInfo}

pub data HistoryEntry : Type 0 where
  -- at this moment, and at this one of the wall, if that was known, an ASDU came from the control
  -- centre; it was answered so, or forwarded (no answer)
  Judged : ℕ → Option ℕ → List ℕ → Option (List ℕ) → HistoryEntry
  -- a command went to the station for the first time, with these octets
  Sent : ℕ → List ℕ → HistoryEntry
  -- the station accepted the command on its line
  Accepted : ℕ → HistoryEntry
  -- the station was busy, which is answered so or not at all
  Refused : ℕ → Option (List ℕ) → HistoryEntry
  -- the command on the station's line was given up; whether there was one
  GivenUp : ℕ → Bool → HistoryEntry
  -- at this moment a station answered a command
  Mirrored : ℕ → AsduValue → HistoryEntry
  -- an own answer was handed over; whether it was kept
  Offered : List ℕ → Bool → HistoryEntry
  -- an own answer went out
  Answered : List ℕ → HistoryEntry
  -- the connection ended
  Ended : HistoryEntry

-- the newest first
abbrev pub History : Type 0
History = List HistoryEntry

abbrev pub first : List (List ℕ) → Option (List ℕ)
first [] = None
first (xs ∷ xss) = Some xs

abbrev pub first_known : List (Option ℕ) → Option ℕ
first_known [] = None
first_known (wall ∷ walls) = wall

-- ---- Commands on their way

-- the ASDU without a time tag, in the sizes of the line, with this common address
abbrev pub typed_line_octets : Sizes → ℕ → Option TypeId → List ℕ → List ℕ
typed_line_octets sizes ca None xs = []
typed_line_octets sizes ca (Some t) xs =
    spelled sizes (carried sizes (record (untagged (value_at tcp t xs)) { ca = ca }))

abbrev pub line_octets : Sizes → List ℕ → StationInfo → List ℕ
line_octets sizes xs station = typed_line_octets sizes station.ca (type_of (slice_index xs 0)) xs

-- ---- First sendings

-- the ASDU that goes out, if it operates an object
abbrev pub if_operates : Option (List ℕ) → List (List ℕ)
if_operates None = []
if_operates (Some xs) = if operates xs then xs ∷ [] else []

-- the tag of the first of these that is of the object
abbrev pub tag_among : List (List ℕ) → AsduValue → Info → Option (List ℕ)
tag_among [] v i = None
tag_among (xs ∷ xss) v i = if is_object_of xs v i then tag_if_any xs else tag_among xss v i

-- ---- Selects

-- A select, as it came; when it came; and how many commands for its station were forwarded before
-- it on its connection.
pub record Select : Type 0 where
  pub octets : List ℕ
  pub came : ℕ
  pub place : ℕ

-- the command that stands on a line is that of this place
abbrev pub is_place : ℕ → Option ℕ → Bool
is_place place None = false
is_place place (Some n) = n == place

module _ (sizes : Sizes) (stations : List StationInfo) (select_ms max_age_ms : ℕ) where
  -- the ASDU is for station k
  abbrev pub is_for : ℕ → List ℕ → Bool
  is_for k xs = option_map_or (is_for_station xs) (slice_get stations k) false

  -- the ASDUs forwarded to station k on the open connection, oldest first
  abbrev pub forwarded_to : ℕ → History → List (List ℕ)
  forwarded_to k [] = []
  forwarded_to k (Judged now wall xs None ∷ h) =
      if is_for k xs then forwarded_to k h ++ xs ∷ [] else forwarded_to k h
  forwarded_to k (Ended ∷ h) = []
  forwarded_to k (_ ∷ h) = forwarded_to k h

  -- how many of them went out
  abbrev pub sent_count : ℕ → History → ℕ
  sent_count k [] = 0
  sent_count k (Sent j octets ∷ h) = if k == j then suc (sent_count k h) else sent_count k h
  sent_count k (Ended ∷ h) = 0
  sent_count k (_ ∷ h) = sent_count k h

  -- the oldest of them that didn't
  abbrev pub next_for : ℕ → History → Option (List ℕ)
  next_for k h = first (drop (sent_count k h) (forwarded_to k h))

  -- its octets on the line
  abbrev pub next_octets : ℕ → History → Option (List ℕ)
  next_octets k h =
      option_map (λ xs. option_map_or (line_octets sizes xs) (slice_get stations k) [])
      (next_for k h)

  -- Each first sending is the oldest command that was forwarded to its station on the open
  -- connection and didn't go out: in the order in which they came, each once, and only while their
  -- connection is open.
  abbrev pub ForwardsCommands : History → Type 0
  ForwardsCommands [] = Unit {0}
  ForwardsCommands (Sent k octets ∷ h) = (next_octets k h ≡ Some octets) × ForwardsCommands h
  ForwardsCommands (_ ∷ h) = ForwardsCommands h

  -- ---- Time tags

  -- what came with a tag as an activation is fresh at this moment of the wall
  abbrev pub IsFreshIfTagged : Option ℕ → List ℕ → Type 0
  IsFreshIfTagged wall xs =
      has_tag (slice_index xs 0) ≡ true → is_activation xs ≡ true → IsFresh max_age_ms wall xs

  -- the moments of the wall at which the ASDUs forwarded to station k came
  abbrev pub walls_of : ℕ → History → List (Option ℕ)
  walls_of k [] = []
  walls_of k (Judged now wall xs None ∷ h) =
      if is_for k xs then walls_of k h ++ wall ∷ [] else walls_of k h
  walls_of k (Ended ∷ h) = []
  walls_of k (_ ∷ h) = walls_of k h

  -- that of the oldest that didn't go out; none if it wasn't known, or nothing waits
  abbrev pub next_wall : ℕ → History → Option ℕ
  next_wall k h = first_known (drop (sent_count k h) (walls_of k h))

  -- Each command that goes out for the first time, if it is an activation that came with a tag, was
  -- fresh when it came.
  abbrev pub SendsFreshCommands : History → Type 0
  SendsFreshCommands [] = Unit {0}
  SendsFreshCommands (Sent k octets ∷ h) =
      ((xs : List ℕ) → next_for k h ≡ Some xs → IsFreshIfTagged (next_wall k h) xs)
      × SendsFreshCommands h
  SendsFreshCommands (_ ∷ h) = SendsFreshCommands h

  -- the ASDUs of types 45 to 49, and of these with a tag, that went out for the first time on the
  -- open connection, the newest first
  abbrev pub first_sendings : History → List (List ℕ)
  first_sendings [] = []
  first_sendings (Sent k octets ∷ h) = if_operates (next_for k h) ++ first_sendings h
  first_sendings (Ended ∷ h) = []
  first_sendings (_ ∷ h) = first_sendings h

  -- The tag with which a station's answer is passed on: that of the newest first sending of its
  -- type and addresses among the latest sixteen, if it has one object.
  abbrev pub mirror_tag : AsduValue → List Info → History → Option (List ℕ)
  mirror_tag v [] h = None
  mirror_tag v (i ∷ []) h = tag_among (take 16 (first_sendings h)) v i
  mirror_tag v (i ∷ j ∷ is) h = None

  -- ---- The line

  -- the ASDU whose command stands on the line of station k: it was put there on the open connection
  -- and isn't done
  abbrev pub on_line : ℕ → History → Option (List ℕ)
  on_line k [] = None
  on_line k (Sent j octets ∷ h) = if k == j then next_for k h else on_line k h
  on_line k (Accepted j ∷ h) = if k == j then None else on_line k h
  on_line k (Refused j a ∷ h) = if k == j then None else on_line k h
  on_line k (GivenUp j b ∷ h) = if k == j then None else on_line k h
  on_line k (Ended ∷ h) = None
  on_line k (_ ∷ h) = on_line k h

  -- a command stands on the line of station k, of this connection or of one before
  abbrev pub is_on_line : ℕ → History → Bool
  is_on_line k [] = false
  is_on_line k (Sent j octets ∷ h) = k == j || is_on_line k h
  is_on_line k (Accepted j ∷ h) = not (k == j) && is_on_line k h
  is_on_line k (Refused j a ∷ h) = not (k == j) && is_on_line k h
  is_on_line k (GivenUp j b ∷ h) = not (k == j) && is_on_line k h
  is_on_line k (_ ∷ h) = is_on_line k h

  -- ---- Answers

  -- the cause of the answer to an ASDU that isn't forwarded: that of its own fault, or else a
  -- negative one
  abbrev pub cause_given : Option ℕ → List ℕ → ℕ
  cause_given wall xs =
      unwrap_or (cause_of_fault sizes stations max_age_ms wall xs) (negative_of xs)

  -- the answer that a busy station's command gets: a negative one, if its connection is open
  abbrev pub busy_answer : ℕ → History → Option (List ℕ)
  busy_answer k h = option_map (λ xs. answer (negative_of xs) xs) (on_line k h)

  -- Each answer is the ASDU that came with its cause octet replaced, and nothing that has a fault
  -- of its own is forwarded.
  abbrev pub GivesOwnAnswers : History → Type 0
  GivesOwnAnswers [] = Unit {0}
  GivesOwnAnswers (Judged now wall xs (Some a) ∷ h) =
      (a ≡ answer (cause_given wall xs) xs) × GivesOwnAnswers h
  GivesOwnAnswers (Judged now wall xs None ∷ h) =
      (cause_of_fault sizes stations max_age_ms wall xs ≡ None) × GivesOwnAnswers h
  GivesOwnAnswers (Refused k a ∷ h) = (a ≡ busy_answer k h) × GivesOwnAnswers h
  GivesOwnAnswers (GivenUp k b ∷ h) = (b ≡ is_on_line k h) × GivesOwnAnswers h
  GivesOwnAnswers (_ ∷ h) = GivesOwnAnswers h

  -- Each ASDU that isn't forwarded gets one answer, and so does a command that a busy station had,
  -- if its connection is open: the whole ASDU that came, refused. No other has one.
  abbrev pub AnswersWholly : History → Type 0
  AnswersWholly [] = Unit {0}
  AnswersWholly (Judged now wall xs (Some a) ∷ h) =
      (9 ≤ length xs → slice_index xs 2 < 256 → IsRefusal (cause_given wall xs) xs a)
      × AnswersWholly h
  AnswersWholly (Refused k None ∷ h) = (on_line k h ≡ None) × AnswersWholly h
  AnswersWholly (Refused k (Some a) ∷ h) =
      ((xs : List ℕ) × (on_line k h ≡ Some xs)
      × (9 ≤ length xs → slice_index xs 2 < 256 → IsRefusal (negative_of xs) xs a))
      × AnswersWholly h
  AnswersWholly (_ ∷ h) = AnswersWholly h

  -- ---- Selections

  -- nothing is wrong with the command ys, which came at this wall moment, and its target is that of
  -- xs
  abbrev pub is_of_target : List ℕ → Option ℕ → List ℕ → Bool
  is_of_target xs wall ys =
      is_none (cause_of_fault sizes stations max_age_ms wall ys) && have_one_target xs ys

  -- it was forwarded, and selects at a station that asks for selects
  abbrev pub begins_selection : Option (List ℕ) → List ℕ → Bool
  begins_selection a ys = is_none a && (must_be_selected stations ys && selects ys)

  -- The select that stands for the target of xs: the latest that was forwarded on the open
  -- connection, if none of these came since: a deactivation or an execute of this target that
  -- nothing is wrong with (forwarded or not), and a station's negative confirmation of this target.
  abbrev pub standing : List ℕ → History → Option Select
  standing xs [] = None
  standing xs (Judged now wall ys a ∷ h) =
      if not (is_of_target xs wall ys) then standing xs h
      else (if begins_selection a ys
      then Some (record {
        octets = ys;
        came = now;
        place = length (forwarded_to (station_of stations ys) h);
      })
      else (if is_deactivating ys || executes ys then None else standing xs h))
  standing xs (Mirrored now v ∷ h) = if refuses_command xs v then None else standing xs h
  standing xs (Ended ∷ h) = None
  standing xs (_ ∷ h) = standing xs h

  -- the place of the command that stands on the line of station k, if its connection is open
  abbrev pub place_on_line : ℕ → History → Option ℕ
  place_on_line k [] = None
  place_on_line k (Sent j octets ∷ h) = if k == j then Some (sent_count k h) else place_on_line k h
  place_on_line k (Accepted j ∷ h) = if k == j then None else place_on_line k h
  place_on_line k (Refused j a ∷ h) = if k == j then None else place_on_line k h
  place_on_line k (GivenUp j b ∷ h) = if k == j then None else place_on_line k h
  place_on_line k (Ended ∷ h) = None
  place_on_line k (_ ∷ h) = place_on_line k h

  -- station k accepted the command of this place on the open connection
  abbrev pub is_accepted_at : ℕ → ℕ → History → Bool
  is_accepted_at k place [] = false
  is_accepted_at k place (Accepted j ∷ h) =
      (k == j && is_place place (place_on_line k h)) || is_accepted_at k place h
  is_accepted_at k place (Ended ∷ h) = false
  is_accepted_at k place (_ ∷ h) = is_accepted_at k place h

  -- when the select was confirmed: its latest confirmation that came in time, after the station
  -- accepted it
  abbrev pub confirmed_at : Select → History → Option ℕ
  confirmed_at z [] = None
  confirmed_at z (Mirrored now v ∷ h) =
      if (confirms_command z.octets v && nat_lt (now - z.came) select_ms)
      && is_accepted_at (station_of stations z.octets) z.place h
      then Some now
      else confirmed_at z h
  confirmed_at z (Ended ∷ h) = None
  confirmed_at z (_ ∷ h) = confirmed_at z h

  -- The execute xs, which comes now, is selected: a select of its type and addresses stands, with
  -- the type that it was received with, its test bit and its element apart from S/E; the station
  -- accepted it, and confirmed it less than select_ms ago.
  pub record IsSelected (xs : List ℕ) (now : ℕ) (h : History) : Type 0 where
    pub select : Select
    pub stands : standing xs h ≡ Some select
    pub received : have_one_type select.octets xs ≡ true
    pub element : have_one_element select.octets xs ≡ true
    pub test : have_one_test_bit select.octets xs ≡ true
    pub moment : ℕ
    pub confirmed : confirmed_at select h ≡ Some moment
    pub in_time : now - moment < select_ms

  -- each forwarded execute to a station that asks for selects is selected
  abbrev pub ExecutesAreSelected : History → Type 0
  ExecutesAreSelected [] = Unit {0}
  ExecutesAreSelected (Judged now wall xs None ∷ h) =
      (must_be_selected stations xs ≡ true → executes xs ≡ true → IsSelected xs now h)
      × ExecutesAreSelected h
  ExecutesAreSelected (_ ∷ h) = ExecutesAreSelected h

  -- each forwarded execute to this station is selected
  abbrev pub IsGuarded : StationInfo → History → Type 0
  IsGuarded station [] = Unit {0}
  IsGuarded station (Judged now wall xs None ∷ h) =
      (common_address xs ≡ station.ca → executes xs ≡ true → IsSelected xs now h)
      × IsGuarded station h
  IsGuarded station (_ ∷ h) = IsGuarded station h

-- ---- Places (profile: 64 commands may wait, one for each station that an ASDU is for)

-- how many commands were forwarded on the open connection, over all stations
abbrev pub forwarded_in_all : List StationInfo → History → ℕ
forwarded_in_all stations [] = 0
forwarded_in_all stations (Judged now wall xs None ∷ h) =
    forwarded_in_all stations h + count_by (is_for_station xs) stations
forwarded_in_all stations (Ended ∷ h) = 0
forwarded_in_all stations (_ ∷ h) = forwarded_in_all stations h

-- how many of them went out
abbrev pub sent_in_all : History → ℕ
sent_in_all [] = 0
sent_in_all (Sent k octets ∷ h) = suc (sent_in_all h)
sent_in_all (Ended ∷ h) = 0
sent_in_all (_ ∷ h) = sent_in_all h

-- ---- Own answers

-- those that were kept on the open connection, oldest first
abbrev pub own_kept : History → List (List ℕ)
own_kept [] = []
own_kept (Offered octets true ∷ h) = own_kept h ++ octets ∷ []
own_kept (Ended ∷ h) = []
own_kept (_ ∷ h) = own_kept h

-- those that went out on it
abbrev pub own_sent : History → List (List ℕ)
own_sent [] = []
own_sent (Answered octets ∷ h) = own_sent h ++ octets ∷ []
own_sent (Ended ∷ h) = []
own_sent (_ ∷ h) = own_sent h

-- an own answer is kept exactly if fewer than 16 are kept that didn't go out
abbrev pub KeepsOwnAnswers : History → Type 0
KeepsOwnAnswers [] = Unit {0}
KeepsOwnAnswers (Offered octets kept ∷ h) =
    (kept ≡ nat_lt (length (own_kept h)) (length (own_sent h) + 16)) × KeepsOwnAnswers h
KeepsOwnAnswers (_ ∷ h) = KeepsOwnAnswers h
