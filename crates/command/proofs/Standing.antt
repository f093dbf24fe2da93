-- Each selection is the select that stands; after `due` it is in time.
use Rattle.std.proofs.Common.{◌≡◌, ℕ, ◌+◌, ◌-◌, ◌<◌, ◌≤◌, ◌&&◌, true, false, List, [], ◌∷◌}
use Rattle.std.proofs.Common.{refl, sym, subst, ap, ◌∙◌, arith, rules}
use Rattle.std.specs.Prelude.{◌==◌, Option, Some, None, if◌then◌else◌, nat_le, option_map}
use Rattle.std.specs.Prelude.{slice_index, unwrap_or}
use Rattle.std.proofs.lemmas.Bool.{and_parts, eqb-true}
use Rattle.asdu.specs.Sizes.{tcp}
use Rattle.asdu.specs.Fields.{ca_at, first_address}
use Rattle.asdu.specs.declared.sizes.Sizes.{Sizes}
use Rattle.command.specs.declared.content.Command.{Command}
use Rattle.command.specs.declared.content.Target.{Target}
use Rattle.command.specs.declared.station.StationInfo.{StationInfo}
use Rattle.command.specs.declared.selection.Selection.{Selection}
use Rattle.command.specs.declared.selection.SelectStage.{SelectStage}
use Rattle.command.specs.declared.selection.SelectStage.TheVariants as stage
use Rattle.command.specs.declared.selection.Sign.TheVariants as sign
use Rattle.command.specs.Standard.{plain_type, common_address, object_address}
use Rattle.command.specs.Standard as standard
use Rattle.command.specs.Command.{line_kind, command_at}
use Rattle.command.specs.Selection.{target_of, lasts_from}
use Rattle.command.specs.Stations.{station_number}
use Rattle.command.specs.Selections.{is_of, HasCome, IsSelect, IsStanding, IsInTime}
use Rattle.command.specs.History.{History, Select, sent_count, place_on_line, is_accepted_at}
use Rattle.command.specs.History.{standing, confirmed_at}
use Rattle.command.proofs.Machine as machine
use Rattle.command.proofs.ReadAlike.{IsGood, kind_read, address_read, object_read, numbers_read}
use Rattle.command.proofs.Bridge.{machine_select, standing_read, standing_good, confirmed_read}
use Rattle.command.proofs.Tied.{Tied, AtStage, station_at, select_of}

abbrev target : ℕ → ℕ → ℕ → Target
target kind ca address = record { kind = kind; ca = ca; address = address }

pub one_target : (xs : List ℕ) (y : Selection) → is_of xs y ≡ true → target_of y.command
    ≡ target_of (command_at xs)
one_target xs y h =
    let p : _ =
    and_parts (plain_type (slice_index xs 0) == y.command.kind && common_address xs == y.command.ca)
    (object_address xs == y.command.address) h in
    let q : _ = and_parts (plain_type (slice_index xs 0) == y.command.kind)
    (common_address xs == y.command.ca) p.0 in
    let kind : y.command.kind ≡ line_kind (slice_index xs 0) =
    sym (kind_read (slice_index xs 0) ∙ eqb-true (plain_type (slice_index xs 0)) y.command.kind
    q.0) in
    let ca : y.command.ca ≡ ca_at tcp xs =
    sym (address_read xs ∙ eqb-true (common_address xs) y.command.ca q.1) in
    let address : y.command.address ≡ first_address tcp xs =
    sym (object_read xs ∙ eqb-true (object_address xs) y.command.address p.1) in
    ap (λ (n : ℕ). target n y.command.ca y.command.address) kind
    ∙ (ap (λ (n : ℕ). target (line_kind (slice_index xs 0)) n y.command.address) ca
    ∙ ap (λ (n : ℕ). target (line_kind (slice_index xs 0)) (ca_at tcp xs) n) address)

module _ (sizes : Sizes) (stations : List StationInfo) (ms age : ℕ) (h : History) where
  come : (y : Selection) (t : Tied sizes stations ms age h y) (z : Select)
      → machine_select z ≡ select_of sizes stations ms age y t.place → IsGood z.octets
      → station_at sizes stations ms age y.command ≡ standard.station_of stations z.octets →
      (st : SelectStage)
      → AtStage sizes stations ms age st (station_at sizes stations ms age y.command)
      (select_of sizes stations ms age y t.place) h → HasCome sizes stations ms age st z h
  come y t z is g home (stage.Queued n) a =
      ap (λ (w : machine.Select). w.place) is
      ∙ (a ∙ ap (λ (k : ℕ). sent_count sizes stations ms age k h + n) home)
  come y t z is g home stage.Sent a =
      ap (λ (k : ℕ). place_on_line sizes stations ms age k h) (sym home)
      ∙ (a ∙ ap (λ (w : machine.Select). Some w.place) (sym is))
  come y t z is g home stage.Accepted a =
      ap (λ (k : ℕ). is_accepted_at sizes stations ms age k z.place h) (sym home)
      ∙ (ap (λ (w : machine.Select). is_accepted_at sizes stations ms age
      (station_at sizes stations ms age y.command) w.place h) is ∙ a)
  come y t z is g home (stage.Live since) a = (
    ap (λ (k : ℕ). is_accepted_at sizes stations ms age k z.place h) (sym home)
        ∙ (ap (λ (w : machine.Select). is_accepted_at sizes stations ms age
        (station_at sizes stations ms age y.command) w.place h) is ∙ a.0),
    sym (confirmed_read sizes stations ms age z g h) ∙
        (ap (λ (w : machine.Select). machine.confirmed_at sizes stations ms age w h) is ∙ a.1),
  )

  pub select_stands : (xs : List ℕ) (y : Selection) → Tied sizes stations ms age h y
      → IsStanding sizes stations ms age h xs y
  select_stands xs y t of = by (standing sizes stations ms age xs h) refl
      (sym (standing_read sizes stations ms age xs h) ∙
      (ap (λ (u : Target). machine.standing sizes stations ms age u h) (sym (one_target xs y of))
      ∙ t.stands))
    where
      by : (o : Option Select) → standing sizes stations ms age xs h ≡ o
          → option_map machine_select o ≡ Some (select_of sizes stations ms age y t.place) →
          (z : Select) × (standing sizes stations ms age xs h ≡ Some z)
          × IsSelect sizes stations ms age h y z
      by None e f = absurd (search (rules, f))
      by (Some z) e f =
          let is : machine_select z ≡ select_of sizes stations ms age y t.place =
          search (rules, f) in
          let command : y.command ≡ command_at z.octets =
          ap (λ (w : machine.Select). w.command) (sym is) in
          let home : station_at sizes stations ms age y.command
          ≡ standard.station_of stations z.octets =
          ap (λ (c : Command). station_number c.ca stations) command
          ∙ numbers_read z.octets stations in (
            z,
            e,
            record {
              command = command;
              came = ap (λ (w : machine.Select). w.came) (sym is);
              station = t.station ∙ home;
              has_come = come y t z is (standing_good sizes stations ms age xs h z e) home y.stage
                  t.at_stage;
            },
          )

abbrev IsYoung : ℕ → ℕ → Selection → Type 0
IsYoung ms now y = nat_le ms (now - lasts_from y y.stage) ≡ false

module _ (sizes : Sizes) (stations : List StationInfo) (ms age now : ℕ) (h : History)
    (later : (z : Select) (m : ℕ) (xs : List ℕ) → standing sizes stations ms age xs h ≡ Some z
    → confirmed_at sizes stations ms age z h ≡ Some m → z.came ≤ m) where
  young : (y : Selection) (z : Select) → IsSelect sizes stations ms age h y z → IsYoung ms now y
      → now - lasts_from y y.stage < ms
  young y z is e = grind (arith, e)

  since_came : (z : Select) (xs : List ℕ) → standing sizes stations ms age xs h ≡ Some z
      → now - z.came < ms
      → (o : Option ℕ) → confirmed_at sizes stations ms age z h ≡ o → now - unwrap_or o z.came < ms
  since_came z xs e quick None c = quick
  since_came z xs e quick (Some m) c = (let came : z.came ≤ m = later z m xs e c in
      omega (arith, came, quick))

  by_stage : (y : Selection) (z : Select) (xs : List ℕ) → standing sizes stations ms age xs h
      ≡ Some z
      → y.came ≡ z.came → (st : SelectStage) → HasCome sizes stations ms age st z h
      → now - lasts_from y st < ms
      → now - unwrap_or (confirmed_at sizes stations ms age z h) z.came < ms
  by_stage y z xs e same (stage.Queued n) a quick = since_came z xs e
      (subst (λ (x : ℕ). now - x < ms) same quick) _ refl
  by_stage y z xs e same stage.Sent a quick =
      since_came z xs e (subst (λ (x : ℕ). now - x < ms) same quick) _ refl
  by_stage y z xs e same stage.Accepted a quick =
      since_came z xs e (subst (λ (x : ℕ). now - x < ms) same quick) _ refl
  by_stage y z xs e same (stage.Live since) a quick =
      subst (λ (o : Option ℕ). now - unwrap_or o z.came < ms)
      (sym a.1) quick

  pub in_time : (xs : List ℕ) (y : Selection) → IsStanding sizes stations ms age h xs y
      → IsYoung ms now y
      → IsInTime sizes stations ms age now h xs y
  in_time xs y s e of =
      let found : (z : Select) × (standing sizes stations ms age xs h ≡ Some z)
      × IsSelect sizes stations ms age h y z = s of in (
        found.0,
        found.1,
        by_stage y found.0 xs found.1 found.2.came y.stage found.2.has_come
            (young y found.0 found.2 e),
      )
