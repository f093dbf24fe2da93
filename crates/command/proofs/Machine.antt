-- The selects of a history by the machine's own functions. They are those of specs/History
-- (proofs/Bridge).
use Rattle.std.proofs.Common.{◌≡◌, ℕ, ◌-◌, ◌<◌, ◌&&◌, Bool, true, false, not, List, [], ◌∷◌, length}
use Rattle.std.specs.Prelude.{◌==◌, Option, Some, None, if◌then◌else◌, is_none, nat_lt}
use Rattle.std.specs.List.{list_any}
use Rattle.asdu.specs.Asdu.{AsduValue, Info}
use Rattle.asdu.specs.declared.sizes.Sizes.{Sizes}
use Rattle.command.specs.Command.{command_at, is_execute, without_select}
use Rattle.command.specs.Selection.{target_of, same_target, same_element, same_test}
use Rattle.command.specs.Stations.{is_guarded, station_number}
use Rattle.command.specs.Judging.{fault, makes_selection, ends_selection}
use Rattle.command.specs.Mirrors.{is_con, target_at, element_of}
use Rattle.command.specs.History.{Judged, Mirrored, Ended, History, forwarded_to, is_accepted_at}
use Rattle.command.specs.declared.content.Command.{Command}
use Rattle.command.specs.declared.content.CommandElement.{CommandElement}
use Rattle.command.specs.declared.content.Target.{Target}
use Rattle.command.specs.declared.station.StationInfo.{StationInfo}

-- ---- Selects and cons

-- a select, when it came, and how many commands for its station were forwarded before it on its
-- connection
pub record Select : Type 0 where
  pub command : Command
  pub came : ℕ
  pub place : ℕ

-- a negative con of this target
abbrev pub negates : Target → AsduValue → Bool
negates target v = is_con true v.cause && list_any (λ i. same_target target (target_at v i)) v.infos

abbrev pub is_element : CommandElement → Option CommandElement → Bool
is_element e None = false
is_element e (Some f) = same_element e f

abbrev pub names_one : Command → AsduValue → List Info → Bool
names_one c v [] = false
names_one c v (i ∷ []) = same_target (target_of c) (target_at v i)
    && is_element c.element (element_of i.element)
names_one c v (i ∷ j ∷ is) = false

-- a positive con of this select: of one object, of equal type, addresses and element
abbrev pub confirms : Command → AsduValue → Bool
confirms c v = not (is_con true v.cause) && is_con false v.cause && names_one c v v.infos

module _ (sizes : Sizes) (stations : List StationInfo) (select_ms max_age_ms : ℕ) where
  -- the command, which came at this wall moment, has no fault of its own, and is for this target
  abbrev pub names : Target → Option ℕ → List ℕ → Bool
  names target wall xs = is_none (fault sizes stations max_age_ms wall xs)
      && same_target target (target_of (command_at xs))

  abbrev pub station_of : Command → ℕ
  station_of c = station_number c.ca stations

  -- The select that stands for this target: the latest that was forwarded on the open connection.
  -- Since then came no execute or deactivation without a fault of its own, and no negative con.
  abbrev pub standing : Target → History → Option Select
  standing t [] = None
  standing t (Judged now wall xs a ∷ h) =
      if not (names t wall xs) then standing t h
      else (if is_none a && makes_selection stations (command_at xs)
      then Some (record {
        command = command_at xs;
        came = now;
        place =
            length (forwarded_to sizes stations select_ms max_age_ms (station_of (command_at xs))
            h);
      })
      else (if ends_selection (command_at xs) then None else standing t h))
  standing t (Mirrored now v ∷ h) = if negates t v then None else standing t h
  standing t (Ended ∷ h) = None
  standing t (_ ∷ h) = standing t h

  -- when the select was confirmed: its latest con that came in time, after the station accepted it
  abbrev pub confirmed_at : Select → History → Option ℕ
  confirmed_at z [] = None
  confirmed_at z (Mirrored now v ∷ h) =
      if (confirms z.command v && nat_lt (now - z.came) select_ms)
      && is_accepted_at sizes stations select_ms max_age_ms
      (station_of z.command) z.place h then Some now else confirmed_at z h
  confirmed_at z (Ended ∷ h) = None
  confirmed_at z (_ ∷ h) = confirmed_at z h

  -- This execute, which comes now, is selected: a select of its type and addresses stands, with its
  -- test bit and its
  -- element apart from S/E; the station accepted it, and confirmed it less than select_ms ago.
  pub record IsSelected (x : Command) (now : ℕ) (h : History) : Type 0 where
    pub select : Select
    pub stands : standing (target_of x) h ≡ Some select
    pub received : (select.command.received == x.received) ≡ true
    pub element : same_element (without_select select.command.element) x.element ≡ true
    pub test : same_test select.command.cause x.cause ≡ true
    pub moment : ℕ
    pub confirmed : confirmed_at select h ≡ Some moment
    pub in_time : now - moment < select_ms

  -- each forwarded execute to a station that asks for selects is selected
  abbrev pub ExecutesAreSelected : History → Type 0
  ExecutesAreSelected [] = Unit {0}
  ExecutesAreSelected (Judged now wall xs None ∷ h) =
      (is_guarded stations (command_at xs) ≡ true → is_execute (command_at xs) ≡ true
      → IsSelected (command_at xs) now h) × ExecutesAreSelected h
  ExecutesAreSelected (_ ∷ h) = ExecutesAreSelected h
