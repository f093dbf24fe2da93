-- The selects of a history by octets are those by the machine's own functions.
use Rattle.std.proofs.Common.{◌≡◌, ℕ, ◌-◌, ◌&&◌, ◌||◌, Bool, true, false, not, List, [], ◌∷◌}
use Rattle.std.proofs.Common.{length, refl, sym, subst, ap, ◌∙◌, rules}
use Rattle.std.specs.Prelude.{◌==◌, Option, Some, None, if◌then◌else◌, is_none, nat_lt, option_map}
use Rattle.std.proofs.lemmas.Bool.{and_parts}
use Rattle.asdu.specs.declared.sizes.Sizes.{Sizes}
use Rattle.command.specs.declared.station.StationInfo.{StationInfo}
use Rattle.command.specs.Standard.{is_deactivating, selects, executes, have_one_target}
use Rattle.command.specs.Standard.{have_one_element, have_one_test_bit, confirms_command}
use Rattle.command.specs.Standard.{must_be_selected, cause_of_fault}
use Rattle.command.specs.Standard as standard
use Rattle.command.specs.Command.{command_at, is_execute, without_select}
use Rattle.command.specs.Selection.{target_of, same_target, same_element, same_test}
use Rattle.command.specs.Judging.{makes_selection, ends_selection}
use Rattle.command.specs.History.{Judged, Sent, Accepted, Refused, GivenUp, Mirrored, Offered}
use Rattle.command.specs.History.{Answered, Ended, History, Select, forwarded_to, is_accepted_at}
use Rattle.command.specs.History.{is_of_target, begins_selection, standing, confirmed_at}
use Rattle.command.specs.History.{IsSelected, ExecutesAreSelected, GivesOwnAnswers}
use Rattle.command.proofs.Machine as machine
use Rattle.command.proofs.ReadAlike.{IsGood, good_read, targets_read, faults_read, guards_read}
use Rattle.command.proofs.ReadAlike.{selects_read, executes_read, elements_read, tests_read}
use Rattle.command.proofs.ReadAlike.{confirms_read, refuses_read, numbers_read}

abbrev pub machine_select : Select → machine.Select
machine_select z = record { command = command_at z.octets; came = z.came; place = z.place }

none_given : (o : Option ℕ) → is_none o ≡ true → o ≡ None
none_given None h = refl
none_given (Some n) h = absurd (search (rules, h))

module _ (sizes : Sizes) (stations : List StationInfo) (ms age : ℕ) where
  named_good : (xs : List ℕ) (wall : Option ℕ) (ys : List ℕ)
      → is_of_target sizes stations ms age xs wall ys ≡ true
      → IsGood ys
  named_good xs wall ys h = good_read sizes stations age wall ys
      (none_given (cause_of_fault sizes stations age wall ys)
      (and_parts (is_none (cause_of_fault sizes stations age wall ys)) (have_one_target xs ys) h).0)

  names_read : (xs : List ℕ) (wall : Option ℕ) (ys : List ℕ)
      → machine.names sizes stations ms age (target_of (command_at xs)) wall ys
      ≡ is_of_target sizes stations ms age xs wall ys
  names_read xs wall ys =
      ap (λ (o : Option ℕ). is_none o && same_target (target_of (command_at xs))
      (target_of (command_at ys)))
      (faults_read sizes stations age wall ys)
      ∙ ap (λ (b : Bool). is_none (cause_of_fault sizes stations age wall ys) && b)
      (targets_read xs ys)

  begins_read : (a : Option (List ℕ)) (ys : List ℕ) → IsGood ys
      → (is_none a && makes_selection stations (command_at ys))
      ≡ begins_selection sizes stations ms age a ys
  begins_read a ys g =
      ap (λ (b : Bool). is_none a && b) (rw (guards_read ys stations, selects_read ys g) refl)

  ends_read : (ys : List ℕ) → IsGood ys → ends_selection (command_at ys)
      ≡ (is_deactivating ys || executes ys)
  ends_read ys g = ap (λ (b : Bool). is_deactivating ys || b) (executes_read ys g)

  pub standing_read : (xs : List ℕ) (h : History) → machine.standing sizes stations ms age
      (target_of (command_at xs)) h
      ≡ option_map machine_select (standing sizes stations ms age xs h)
  standing_read xs [] = refl
  standing_read xs (Judged now wall ys a ∷ h) =
      ap (λ (n : Bool). if not n then machine.standing sizes stations ms age
      (target_of (command_at xs)) h else
      (if is_none a && makes_selection stations (command_at ys) then Some new else
      (if ends_selection (command_at ys) then None else machine.standing sizes stations ms age
      (target_of (command_at xs)) h))) (names_read xs wall ys)
      ∙ by (standing_read xs h) (is_of_target sizes stations ms age xs wall ys) refl
    where
      new : machine.Select
      new = record {
        command = command_at ys;
        came = now;
        place =
            length
            (forwarded_to sizes stations ms age (machine.station_of sizes stations ms age
            (command_at ys)) h);
      }

      newer : Select
      newer = record {
        octets = ys;
        came = now;
        place =
            length (forwarded_to sizes stations ms age (standard.station_of stations ys) h);
      }

      same_new : new ≡ machine_select newer
      same_new = ap (λ (k : ℕ).
          let z : machine.Select = record {
            command = command_at ys;
            came = now;
            place =
                length (forwarded_to sizes stations ms age k h);
          } in z) (numbers_read ys stations)

      chosen : machine.standing sizes stations ms age (target_of (command_at xs)) h
          ≡ option_map machine_select (standing sizes stations ms age xs h) → (m d : Bool)
          → (if m then Some new else (if d then None else machine.standing sizes stations ms age
          (target_of (command_at xs)) h)) ≡ option_map machine_select
          (if m then Some newer else (if d then None else standing sizes stations ms age xs h))
      chosen rest true d = ap (λ (z : machine.Select). Some z) same_new
      chosen rest false true = refl
      chosen rest false false = rest

      by : machine.standing sizes stations ms age (target_of (command_at xs)) h
          ≡ option_map machine_select (standing sizes stations ms age xs h) → (n : Bool)
          → is_of_target sizes stations ms age xs wall ys ≡ n →
          (if not n then machine.standing sizes stations ms age (target_of (command_at xs)) h
          else (if is_none a
          && makes_selection stations (command_at ys) then Some new else
          (if ends_selection (command_at ys) then None else machine.standing sizes stations ms age
          (target_of (command_at xs)) h)))
          ≡ option_map machine_select (if not n then standing sizes stations ms age xs h else
          (if begins_selection sizes stations ms age a ys then Some newer
          else (if is_deactivating ys
          || executes ys then None else standing sizes stations ms age xs h)))
      by rest false e = rest
      by rest true e =
          rw (begins_read a ys (named_good xs wall ys e), ends_read ys (named_good xs wall ys e))
          (chosen rest (begins_selection sizes stations ms age a ys) (is_deactivating ys
          || executes ys))
  standing_read xs (Sent j octets ∷ h) = standing_read xs h
  standing_read xs (Accepted j ∷ h) = standing_read xs h
  standing_read xs (Refused j a ∷ h) = standing_read xs h
  standing_read xs (GivenUp j b ∷ h) = standing_read xs h
  standing_read xs (Mirrored now v ∷ h) = rw (refuses_read xs v)
      (by (standing_read xs h) (standard.refuses_command xs v))
    where
      by : machine.standing sizes stations ms age (target_of (command_at xs)) h
          ≡ option_map machine_select (standing sizes stations ms age xs h) → (b : Bool) →
          (if b then None else machine.standing sizes stations ms age (target_of (command_at xs)) h)
          ≡ option_map machine_select (if b then None else standing sizes stations ms age xs h)
      by rest true = refl
      by rest false = rest
  standing_read xs (Offered octets b ∷ h) = standing_read xs h
  standing_read xs (Answered octets ∷ h) = standing_read xs h
  standing_read xs (Ended ∷ h) = refl

  no_select : {A : Type 0} (z : Select) → None ≡ Some z → A
  no_select z h = absurd (search (rules, h))

  select_is : (x y : Select) → Some x ≡ Some y → x ≡ y
  select_is x y h = search (rules, h)

  -- nothing is wrong with the select that stands
  pub standing_good : (xs : List ℕ) (h : History) (z : Select) → standing sizes stations ms age xs h
      ≡ Some z
      → IsGood z.octets
  standing_good xs [] z e = no_select z e
  standing_good xs (Judged now wall ys a ∷ h) z e = by (standing_good xs h z)
      (is_of_target sizes stations ms age xs wall ys) refl
      (begins_selection sizes stations ms age a ys)
      (is_deactivating ys || executes ys) e
    where
      newer : Select
      newer = record {
        octets = ys;
        came = now;
        place =
            length (forwarded_to sizes stations ms age (standard.station_of stations ys) h);
      }

      by : (standing sizes stations ms age xs h ≡ Some z → IsGood z.octets) → (n : Bool)
          → is_of_target sizes stations ms age xs wall ys ≡ n → (m d : Bool)
          → (if not n then standing sizes stations ms age xs h else
          (if m then Some newer else (if d then None else standing sizes stations ms age xs h)))
          ≡ Some z
          → IsGood z.octets
      by rest false i m d f = rest f
      by rest true i true d f = subst (λ (y : Select). IsGood y.octets) (select_is newer z f)
          (named_good xs wall ys i)
      by rest true i false true f = no_select z f
      by rest true i false false f = rest f
  standing_good xs (Sent j octets ∷ h) z e = standing_good xs h z e
  standing_good xs (Accepted j ∷ h) z e = standing_good xs h z e
  standing_good xs (Refused j a ∷ h) z e = standing_good xs h z e
  standing_good xs (GivenUp j b ∷ h) z e = standing_good xs h z e
  standing_good xs (Mirrored now v ∷ h) z e =
      by (standing_good xs h z) (standard.refuses_command xs v) e
    where
      by : (standing sizes stations ms age xs h ≡ Some z → IsGood z.octets) → (b : Bool)
          → (if b then None else standing sizes stations ms age xs h) ≡ Some z → IsGood z.octets
      by rest true f = no_select z f
      by rest false f = rest f
  standing_good xs (Offered octets b ∷ h) z e = standing_good xs h z e
  standing_good xs (Answered octets ∷ h) z e = standing_good xs h z e
  standing_good xs (Ended ∷ h) z e = no_select z e

  pub confirmed_read : (z : Select) → IsGood z.octets → (h : History)
      → machine.confirmed_at sizes stations ms age (machine_select z) h
      ≡ confirmed_at sizes stations ms age z h
  confirmed_read z g [] = refl
  confirmed_read z g (Judged now wall ys a ∷ h) = confirmed_read z g h
  confirmed_read z g (Sent j octets ∷ h) = confirmed_read z g h
  confirmed_read z g (Accepted j ∷ h) = confirmed_read z g h
  confirmed_read z g (Refused j a ∷ h) = confirmed_read z g h
  confirmed_read z g (GivenUp j b ∷ h) = confirmed_read z g h
  confirmed_read z g (Mirrored now v ∷ h) =
      ap (λ (b : Bool). if (b && nat_lt (now - z.came) ms)
      && is_accepted_at sizes stations ms age
      (machine.station_of sizes stations ms age (command_at z.octets))
      z.place h then Some now else machine.confirmed_at sizes stations ms age (machine_select z) h)
      (confirms_read z.octets g v)
      ∙ (ap (λ (k : ℕ). if (confirms_command z.octets v && nat_lt (now - z.came) ms)
      && is_accepted_at sizes stations ms age k z.place h then Some now
      else machine.confirmed_at sizes stations ms
      age (machine_select z) h) (numbers_read z.octets stations)
      ∙ ap (λ (o : Option ℕ). if (confirms_command z.octets v && nat_lt (now - z.came) ms)
      && is_accepted_at sizes stations ms age (standard.station_of stations z.octets) z.place h
      then Some now else
      o) (confirmed_read z g h))
  confirmed_read z g (Offered octets b ∷ h) = confirmed_read z g h
  confirmed_read z g (Answered octets ∷ h) = confirmed_read z g h
  confirmed_read z g (Ended ∷ h) = refl

  -- ---- a selected execute

  pub selected_by_octets : (xs : List ℕ) (now : ℕ) (h : History) → IsGood xs
      → is_execute (command_at xs) ≡ true
      → machine.IsSelected sizes stations ms age (command_at xs) now h
      → IsSelected sizes stations ms age xs now h
  selected_by_octets xs now h g x s = by (standing sizes stations ms age xs h) refl
      (sym (standing_read xs h)
      ∙ s.stands)
    where
      by : (o : Option Select) → standing sizes stations ms age xs h ≡ o
          → option_map machine_select o ≡ Some s.select
          → IsSelected sizes stations ms age xs now h
      by None e f = absurd (search (rules, f))
      by (Some z) e f =
          let is : machine_select z ≡ s.select = search (rules, f) in
          let right : IsGood z.octets = standing_good xs h z e in
          record {
            select = z;
            stands = e;
            received =
                subst (λ (y : machine.Select). (y.command.received == (command_at xs).received)
                ≡ true)
                (sym is) s.received;
            element = sym (elements_read z.octets xs right g x)
                ∙ subst (λ (y : machine.Select). same_element (without_select y.command.element)
                (command_at xs).element ≡ true) (sym is) s.element;
            test = sym (tests_read z.octets xs) ∙ subst
                (λ (y : machine.Select). same_test y.command.cause (command_at xs).cause ≡ true)
                (sym is) s.test;
            moment = s.moment;
            confirmed = sym (confirmed_read z right h)
                ∙ subst (λ (y : machine.Select). machine.confirmed_at sizes stations ms age y h
                ≡ Some s.moment)
                (sym is) s.confirmed;
            in_time = s.in_time;
          }

  pub selected_by_machine : (xs : List ℕ) (now : ℕ) (h : History) → IsGood xs
      → is_execute (command_at xs) ≡ true
      → IsSelected sizes stations ms age xs now h
      → machine.IsSelected sizes stations ms age (command_at xs) now h
  selected_by_machine xs now h g x s =
      let right : IsGood s.select.octets = standing_good xs h s.select s.stands in
      record {
        select = machine_select s.select;
        stands = standing_read xs h ∙ ap (λ (o : Option Select). option_map machine_select o)
            s.stands;
        received = s.received;
        element = elements_read s.select.octets xs right g x ∙ s.element;
        test = tests_read s.select.octets xs ∙ s.test;
        moment = s.moment;
        confirmed = confirmed_read s.select right h ∙ s.confirmed;
        in_time = s.in_time;
      }

  pub executes_selected : (h : History) → GivesOwnAnswers sizes stations ms age h
      → machine.ExecutesAreSelected sizes stations ms age h
      → ExecutesAreSelected sizes stations ms age h
  executes_selected [] g e = tt
  executes_selected (Judged now wall xs None ∷ h) g e = (
    λ guarded execute.
        let right : IsGood xs = good_read sizes stations age wall xs g.0 in
        let executing : is_execute (command_at xs) ≡ true = executes_read xs right ∙ execute in
        selected_by_octets xs now h right executing
        (e.0 (guards_read xs stations ∙ guarded) executing),
    executes_selected h g.1 e.1,
  )
  executes_selected (Judged now wall xs (Some a) ∷ h) g e = executes_selected h g.1 e
  executes_selected (Sent j octets ∷ h) g e = executes_selected h g e
  executes_selected (Accepted j ∷ h) g e = executes_selected h g e
  executes_selected (Refused j a ∷ h) g e = executes_selected h g.1 e
  executes_selected (GivenUp j b ∷ h) g e = executes_selected h g.1 e
  executes_selected (Mirrored now v ∷ h) g e = executes_selected h g e
  executes_selected (Offered octets b ∷ h) g e = executes_selected h g e
  executes_selected (Answered octets ∷ h) g e = executes_selected h g e
  executes_selected (Ended ∷ h) g e = executes_selected h g e
