-- Commands that were sent are ASDUs of the control centre's I frames.
use Rattle.std.specs.Prelude.{Some, None, slice_get}
use Rattle.std.specs.Option.{option_map_or}
use Rattle.std.specs.List.{AllByRecursion}
use Rattle.std.proofs.Common.{◌≡◌, ℕ, Option, List, [], ◌∷◌, map, refl, ap, subst, sym, ◌∙◌}
use Rattle.command.specs.History.{History, line_octets, ForwardsCommands, GivesOwnAnswers}
use Rattle.command.specs.declared.station.StationInfo.{StationInfo}
use Rattle.gateway.specs.Log.{Log, latest}
use Rattle.gateway.specs.Walls.{wall_on}
use Rattle.gateway.specs.Reports.{Setup, address_at, exchanges_with}
use Rattle.gateway.specs.Traffic.{IsFaithful}
use Rattle.gateway.specs.Course.{here_of}
use Rattle.delivery.specs.Merges.{IsSublist}
use Rattle.delivery.specs.Arrivals.{Arrival, arrivals}
use Rattle.delivery.specs.Commands.{first_sendings, forwarded_in, judged_in, as_judged, IsCommandTo}
use Rattle.delivery.specs.Commands.{line_form, on_line_of, AreCommandsOf}
use Rattle.delivery.specs.Joined.{IsJoined}
use Rattle.delivery.proofs.Sublists.{sub_of_sub, all_of_sub, IsImage, sub_of_map}
use Rattle.delivery.proofs.Given.{Timed, sent_form, IsForwarded, AreGiven, sent_are_given}
use Rattle.delivery.proofs.Given.{given_judged, given_commands}
use Rattle.delivery.proofs.Fresh.{fresh_command}
use Rattle.delivery.proofs.Plain.{plain_line}

module _ (p : Setup) (i : ℕ) where
  is_command : (x : Arrival) → IsForwarded p i (as_judged x) → IsCommandTo p i x
  is_command x h = record {
    addressed = h.addressed;
    faultless = h.faultless;
    fresh = fresh_command p.sizes p.stations p.max_age_ms x.log x.asdu h.faultless;
  }

  are_commands : (xs : List Arrival)
      → AllByRecursion (λ (x : Timed). IsForwarded p i x) (map as_judged xs)
      → AllByRecursion (λ (x : Arrival). IsCommandTo p i x) xs
  are_commands [] h = tt
  are_commands (x ∷ xs) h = (is_command x h.0, are_commands xs h.1)

  -- and goes to the line octet by octet
  same_line : (x : Arrival) → IsForwarded p i (as_judged x) → sent_form p i x.asdu
      ≡ on_line_of p i x.asdu
  same_line x h = go (slice_get p.stations i)
    where
      go : (o : Option StationInfo) → option_map_or (line_octets p.sizes x.asdu) o []
          ≡ option_map_or (line_form p.sizes x.asdu) o []
      go None = refl
      go (Some station) = plain_line p.sizes p.stations p.max_age_ms
          (wall_on x.log (latest x.log)) x.asdu station h.faultless

  same_lines : (xs : List Arrival)
      → AllByRecursion (λ (x : Timed). IsForwarded p i x) (map as_judged xs)
      → map (λ (x : Timed). sent_form p i x.0) (map as_judged xs)
      ≡ map (λ (x : Arrival). on_line_of p i x.asdu) xs
  same_lines [] h = refl
  same_lines (x ∷ xs) h = ap (λ (l : List (List ℕ)). sent_form p i x.asdu ∷ l) (same_lines xs h.1)
      ∙ ap (λ (l : List ℕ). l ∷ map (λ (x : Arrival). on_line_of p i x.asdu) xs) (same_line x h.0)

pub of_the_centre : (p : Setup) (log : Log) (i : ℕ) (f : IsFaithful p log) → IsJoined p log f.course
    →
    ForwardsCommands p.sizes p.stations p.select_ms p.max_age_ms f.course.works.history
    → GivesOwnAnswers p.sizes p.stations p.select_ms p.max_age_ms f.course.works.history →
    (done : List (List ℕ))
    → IsSublist done (first_sendings (address_at p.addresses i) None (exchanges_with p i log))
    → AreCommandsOf p i (arrivals log (here_of f.course ∷ f.course.earlier)) done
of_the_centre p log i f joined forwards gives done some =
    let h : History = f.course.works.history in
    let all : List Arrival = arrivals log (here_of f.course ∷ f.course.earlier) in
    let sent : AreGiven p i h = sent_are_given p i h forwards in
    let image : IsImage (λ (x : Timed). sent_form p i x.0) done sent.given =
    sub_of_map (λ (x : Timed). sent_form p i x.0) done sent.given
    (subst (IsSublist done) (sym (joined.sent i) ∙ sent.is) some) in
    let part : IsSublist image.left (forwarded_in p i h) =
    sub_of_sub image.left sent.given (forwarded_in p i h) image.part sent.some in
    let judged : IsSublist image.left (map as_judged all) =
    subst (IsSublist image.left) joined.judged
    (sub_of_sub image.left (forwarded_in p i h) (judged_in h) part (given_judged p i h)) in
    let came : IsImage as_judged image.left all = sub_of_map as_judged image.left all judged in
    let each : AllByRecursion (λ (x : Timed). IsForwarded p i x) image.left =
    all_of_sub (λ (x : Timed). IsForwarded p i x) image.left (forwarded_in p i h) part
    (given_commands p i h gives) in
    let right : AllByRecursion (λ (x : Timed). IsForwarded p i x) (map as_judged came.left) =
    subst (λ (xs : List Timed). AllByRecursion (λ (x : Timed). IsForwarded p i x) xs) came.is
    each in
    record {
      given = came.left;
      received = came.part;
      each = are_commands p i came.left right;
      whole = image.is ∙ ap (λ (xs : List Timed). map (λ (x : Timed). sent_form p i x.0) xs) came.is
          ∙ same_lines p i came.left right;
    }
