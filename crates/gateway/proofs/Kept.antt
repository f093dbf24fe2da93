-- The pieces of a report in the queue.
use Rattle.std.proofs.Common.{◌≡◌, ℕ, ◌≤◌, ◌==◌, Bool, true, false, not, List, [], ◌∷◌, ◌++◌}
use Rattle.std.proofs.Common.{length, map, refl, ap, sym, subst, ◌∙◌, arith}
use Rattle.std.specs.Prelude.{if◌then◌else◌, ◌&&◌, slice_index, Option, Some, None}
use Rattle.elements.specs.declared.types.TypeId.{TypeId}
use Rattle.elements.specs.Types.{type_of}
use Rattle.asdu.specs.Fields.{value_at}
use Rattle.asdu.specs.Refusals.{is_read}
use Rattle.std.specs.List.{flat_map, list_all, AllByRecursion}
use Rattle.std.proofs.lemmas.List.{append-nil}
use Rattle.arrayvec.specs.ArrayVec.{ArrayVec}
use Rattle.asdu.specs.declared.sizes.Sizes.{Sizes}
use Rattle.asdu.specs.Sizes.{tcp}
use Rattle.asdu.specs.InformationObjects.{InformationObject, object_in, value_objects}
use Rattle.asdu.specs.InformationObjects.{typed_objects, objects_of, monitor_objects_of}
use Rattle.asdu.specs.InformationObjects.{is_passed_on}
use Rattle.asdu.specs.Translation.{parts, report_pieces, IsPiece, IsLargest, AllButLast}
use Rattle.events.specs.Queue.{octets_of}
use Rattle.gateway.specs.Objects.{objects, has_objects, monitor_objects, parts_of, typed_pieces}
use Rattle.gateway.specs.Objects.{pieces_of_report}
use Rattle.asdu.specs.Asdu.{AsduValue, Info, IsAsdu}
use Rattle.gateway.specs.declared.counts.Tally.{Tally}
use Rattle.gateway.specs.Counting.{is_answer_type, counted, counted_by, one_skipped}
use Rattle.command.specs.Mirrors.{tag_for}
use Rattle.gateway.specs.Tags.{AreTagged}
use Rattle.gateway.proofs.Tagged.{MonitorLaw, tagged_unmonitored}
use Rattle.gateway.specs.Serial.{Serial, mirrored, mirror_fits, reported}
use Rattle.gateway.specs.Centre.{pushed}
use Rattle.gateway.specs.State.{State, with_serial, with_centre}
use Rattle.session.specs.Session.{is_transferring}
use Rattle.gateway.specs.Steps.{Keeps, Mirrors, LearnsReport}
use Rattle.gateway.specs.Works.{is_command_by, is_command_report, IsPassedOn}

some : (n : ℕ) → 1 ≤ n → not (n == 0) ≡ true
some n h = grind (arith, Rattle.std.proofs.lemmas.Bool.Decides.nat_tests)

all_whole : (ps : List (List ℕ)) → AllByRecursion (λ p. 1 ≤ length (objects p)) ps
    → list_all has_objects ps ≡ true
all_whole [] h = refl
all_whole (p ∷ ps) h = ap (λ b. b && list_all has_objects ps) (some (length (objects p)) h.0)
    ∙ all_whole ps h.1

length_map : (ps : List (ArrayVec ℕ)) → length (octets_of ps) ≡ length ps
length_map [] = refl
length_map (p ∷ ps) = omega (arith, length_map ps)

parts_some : (sizes : Sizes) (report : List ℕ) → 1 ≤ length (monitor_objects sizes report)
    → parts_of sizes report ≡ parts sizes report
parts_some sizes report h = ap (λ b. if b then 0 else parts sizes report)
    (none (length (monitor_objects sizes report)) h)
  where
    none : (n : ℕ) → 1 ≤ n → (n == 0) ≡ false
    none n h = grind (arith, Rattle.std.proofs.lemmas.Bool.Decides.nat_tests)

-- The pieces of a report that is read

-- its type is that of the ASDU that it is
type_read : (sizes : Sizes) (report : List ℕ) (u : AsduValue) (infos : List Info) → u.infos ≡ infos
    → 1 ≤ length infos
    → objects_of sizes report ≡ value_objects u → type_of (slice_index report 0) ≡ Some u.kind
unfolding objects_of
type_read sizes report u [] is some e = absurd (omega (arith, some))
type_read sizes report u (i ∷ infos) is some e =
    by_type (is_read sizes report) (type_of (slice_index report 0)) (e ∙ ap (map (object_in u)) is)
  where
    same_type : (t : TypeId) (v : AsduValue) (others : List Info) → v.kind ≡ t
        → map (object_in v) others ≡ map (object_in u) (i ∷ infos) → Some t ≡ Some u.kind
    same_type t v [] of e = cc
    same_type t v (j ∷ others) of e =
        let first : object_in v j ≡ object_in u i = cc in
        ap (λ (t : TypeId). Some t) (sym of ∙ ap (λ (o : InformationObject). o.kind) first)

    by_type : (b : Bool) (o : Option TypeId)
        → (if b then typed_objects sizes o report else []) ≡ map (object_in u) (i ∷ infos)
        → o ≡ Some u.kind
    by_type false o e = cc
    by_type true None e = cc
    by_type true (Some t) e = same_type t (value_at sizes t report) (value_at sizes t report).infos
        refl e

-- so its pieces are those of that ASDU
pub pieces_read : (s : State) (report octets : List ℕ) (sizes : Sizes) (kind : TypeId)
    → sizes ≡ s.sizes
    → octets ≡ report → objects_of s.sizes report ≡ value_objects (value_at sizes kind octets)
    → 1 ≤ length (value_at sizes kind octets).infos → 1 ≤ length (monitor_objects s.sizes report)
    → report_pieces (value_at sizes kind octets) ≡ pieces_of_report s.sizes report
pieces_read s report octets sizes kind same is objects some passed =
    let u : AsduValue = value_at sizes kind octets in
    let typed : type_of (slice_index report 0) ≡ Some kind =
    type_read s.sizes report u u.infos refl some objects in
    ap (λ (z : Sizes). report_pieces (value_at z kind octets)) same
    ∙ ap (λ (x : List ℕ). report_pieces (value_at s.sizes kind x)) is
    ∙ sym (ap (λ (o : Option TypeId). typed_pieces s.sizes o report) typed)
    ∙ sym (ap (λ b. if b then [] else typed_pieces s.sizes (type_of (slice_index report 0)) report)
    (none_not (length (monitor_objects s.sizes report)) passed))
  where
    none_not : (n : ℕ) → 1 ≤ n → (n == 0) ≡ false
    none_not n h = grind (arith, Rattle.std.proofs.lemmas.Bool.Decides.nat_tests)

-- a report that is passed on
pub keeps_report : (s t : State) (report : List ℕ) (ps : List (List ℕ))
    → flat_map objects ps ≡ monitor_objects s.sizes report
    → AllByRecursion (λ p. 1 ≤ length (objects p)) ps
    → length ps ≡ parts s.sizes report → ps ≡ pieces_of_report s.sizes report
    → 1 ≤ length (monitor_objects s.sizes report) → counted s.sizes report s.serial.counts
    ≡ s.serial.counts → t ≡ with_centre (pushed ps s.centre) s
    → Keeps s report t
keeps_report s t report ps joined each number spelled passed counts after = record {
  pieces = ps;
  objects_are = joined;
  whole = all_whole ps each;
  number = number ∙ sym (parts_some s.sizes report passed);
  spelled = spelled;
  after = after ∙ ap
      (λ (c : Tally).
      let made : State = record s {
        serial = record s.serial { counts = c };
        centre =
            pushed ps s.centre;
      } in made) (sym counts);
}

-- one that isn't
pub keeps_none : (s t : State) (report octets : List ℕ) (sizes : Sizes) → sizes ≡ s.sizes
    → octets ≡ report
    → monitor_objects_of sizes octets ≡ [] → t ≡ with_serial (reported s.sizes report s.serial) s
    → Keeps s report t
keeps_none s t report octets sizes same is none after =
    let nothing : monitor_objects s.sizes report ≡ [] =
    sym (ap (λ z. monitor_objects z octets) same ∙ ap (λ x. monitor_objects s.sizes x) is) ∙ none in
    record {
      pieces = [];
      objects_are = sym nothing;
      whole = refl;
      number =
          sym (ap (λ (os : List InformationObject). if length os == 0 then 0
          else parts s.sizes report) nothing);
      spelled =
          sym (ap (λ (os : List InformationObject). if length os == 0 then []
          else typed_pieces s.sizes
          (type_of (slice_index report 0)) report) nothing);
      after = after ∙ ap
          (λ (u : List (List ℕ)).
          let made : State = record s {
            serial = reported s.sizes report s.serial;
            centre =
                record s.centre {
                  queue = record {
                    sent = s.centre.queue.sent;
                    unsent = u;
                    places =
                        s.centre.queue.places;
                  };
                };
          } in made) (sym (append-nil s.centre.queue.unsent));
    }

-- How a report is counted: by its type and cause, if it is read.

read_counts : (infos : List Info) (u : AsduValue) (c : Tally) → u.infos ≡ infos → 1 ≤ length infos
    → counted_by (value_objects u) c
    ≡ (if is_answer_type u.kind then c else (if is_passed_on u.kind u.cause then c
    else one_skipped c))
read_counts [] u c is some = absurd (omega (arith, some))
read_counts (i ∷ infos) u c is some = ap (λ is. counted_by (map (object_in u) is) c) is

-- in the sizes and octets as the gateway has them
pub counted_as : (s : State) (report octets : List ℕ) (sizes : Sizes) (u : AsduValue)
    → sizes ≡ s.sizes
    → octets ≡ report → objects_of s.sizes report ≡ value_objects u → 1 ≤ length u.infos →
    counted s.sizes report s.serial.counts
    ≡ (if is_answer_type u.kind then s.serial.counts else
    (if is_passed_on u.kind u.cause then s.serial.counts else one_skipped s.serial.counts))
counted_as s report octets sizes u same is objects some =
    ap (λ os. counted_by os s.serial.counts) objects
    ∙ read_counts u.infos u s.serial.counts refl some

pub passed_counts : (answer passed : Bool) (c : Tally) → passed ≡ true
    → (if answer then c else (if passed then c else one_skipped c)) ≡ c
passed_counts true passed c on = refl
passed_counts false passed c on = ap (λ b. if b then c else one_skipped c) on

pub skipped_counts : (answer passed : Bool) (c : Tally) → answer ≡ false → passed ≡ false
    → (if answer then c else (if passed then c else one_skipped c)) ≡ one_skipped c
skipped_counts answer passed c on off =
    ap (λ b. if b then c else (if passed then c else one_skipped c)) on
    ∙ ap (λ b. if b then c else one_skipped c) off

-- Whether a report is an answer to a command

read_command : (infos : List Info) (u : AsduValue) → u.infos ≡ infos → 1 ≤ length infos
    → is_command_by (value_objects u) ≡ is_answer_type u.kind
read_command [] u is some = absurd (omega (arith, some))
read_command (i ∷ infos) u is some = ap (λ is. is_command_by (map (object_in u) is)) is

pub command_as : (sizes : Sizes) (report : List ℕ) (u : AsduValue) → objects_of sizes report
    ≡ value_objects u
    → 1 ≤ length u.infos → is_command_report sizes report ≡ is_answer_type u.kind
command_as sizes report u objects some = ap is_command_by objects ∙ read_command u.infos u refl some

pub passed_monitor : (monitor tagged passed a b : Bool) → (monitor && a && b) ≡ passed
    → passed ≡ true
    → (not monitor && not tagged) ≡ false
passed_monitor true tagged passed a b is on = refl
passed_monitor false tagged passed a b is on = let no : false ≡ true = is ∙ on in cc

pub learns_kept : (of_command : Bool) (s t : State) (report : List ℕ) (fits : Bool) → of_command
    ≡ false
    → Keeps s report t → fits ≡ true → LearnsReport of_command s report fits t
learns_kept false s t report fits is kept all = (kept, all)
learns_kept true s t report fits is kept all = cc

-- The pieces of a report of a command type

pieces_map : (v : AsduValue) (ps : List (ArrayVec ℕ)) → AllByRecursion (λ p. IsPiece v p.items) ps
    → AllByRecursion (λ piece. IsPiece v piece) (octets_of ps)
pieces_map v [] h = h
pieces_map v (p ∷ ps) h = (h.0, pieces_map v ps h.1)

joined_map : (ps : List (ArrayVec ℕ)) → flat_map (λ piece. objects_of tcp piece) (octets_of ps)
    ≡ flat_map (λ p. objects_of tcp p.items) ps
joined_map [] = refl
joined_map (p ∷ ps) = ap (λ xs. objects_of tcp p.items ++ xs) (joined_map ps)

full_map : (v : AsduValue) (ps : List (ArrayVec ℕ)) → AllButLast (λ p. IsLargest v p.items) ps
    → AllButLast (λ piece. IsLargest v piece) (octets_of ps)
full_map v [] h = tt
full_map v (p ∷ []) h = tt
full_map v (p ∷ q ∷ ps) h = (h.0, full_map v (q ∷ ps) h.1)

pub passed_on : (sizes : Sizes) (v : AsduValue) (report : List ℕ) (ps : List (ArrayVec ℕ))
    → IsAsdu sizes v report
    → flat_map (λ p. objects_of tcp p.items) ps ≡ objects_of sizes report
    → AllByRecursion (λ p. IsPiece v p.items) ps
    → AllButLast (λ p. IsLargest v p.items) ps →
    length ps ≡ parts sizes report → IsPassedOn sizes v report (octets_of ps)
passed_on sizes v report ps found joined each full number = record {
  value = found;
  joined = joined_map ps ∙ joined;
  each = pieces_map v ps each;
  full = full_map v ps full;
  number = length_map ps ∙ number;
}

-- none of them has an object of the queue's, if the report has none

first_none : (xs ys : List InformationObject) → xs ++ ys ≡ [] → xs ≡ []
first_none [] ys none = refl
first_none (x ∷ xs) ys none = cc

rest_none : (xs ys : List InformationObject) → xs ++ ys ≡ [] → ys ≡ []
rest_none [] ys none = none
rest_none (x ∷ xs) ys none = cc

plain_map : (ps : List (ArrayVec ℕ)) → flat_map (λ p. monitor_objects_of tcp p.items) ps ≡ []
    → AllByRecursion (λ piece. has_objects piece ≡ false) (octets_of ps)
plain_map [] none = tt
plain_map (p ∷ ps) none =
    let others : List InformationObject = flat_map (λ p. monitor_objects_of tcp p.items) ps in (
      ap (λ (os : List InformationObject). not (length os == 0))
          (first_none (objects p.items) others none),
      plain_map ps (rest_none (objects p.items) others none),
    )

pub mirrors : (s t : Serial) (at : ℕ) (transferring : Bool) (sizes : Sizes) (v : AsduValue)
    (report : List ℕ)
    (ps : List (ArrayVec ℕ)) (pieces : List (List ℕ)) (fits : Bool) → MonitorLaw
    → IsPassedOn sizes v report (octets_of ps)
    → AreTagged (tag_for v v.infos s.commands) (octets_of ps) pieces →
    flat_map (λ p. monitor_objects_of tcp p.items) ps ≡ monitor_objects_of sizes report
    → monitor_objects_of sizes report ≡ [] → t ≡ mirrored at transferring v pieces s
    → fits ≡ mirror_fits at transferring v pieces s → Mirrors sizes at transferring s report fits t
mirrors s t at transferring sizes v report ps pieces fits law passed tagged monitored none after
    all = record {
      v = v;
      plain = octets_of ps;
      pieces = pieces;
      passed = passed;
      tagged = tagged;
      none = none;
      unmonitored = tagged_unmonitored law (tag_for v v.infos s.commands) (octets_of ps) pieces
          tagged
          (plain_map ps (monitored ∙ none));
      after = after;
      all = all;
    }
