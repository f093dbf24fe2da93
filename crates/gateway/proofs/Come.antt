-- An event comes: the part of the line. What follows on the connection stands in Connecting.
use Rattle.std.proofs.Common.{◌≡◌, ℕ, ◌+◌, ◌==◌, Bool, true, false, List, [], ◌∷◌, ◌++◌, length}
use Rattle.std.proofs.Common.{max, min, refl, sym, ap, subst, ◌∙◌, arith}
use Rattle.std.specs.Prelude.{if◌then◌else◌, slice_index}
use Rattle.elements.specs.Types.{type_of}
use Rattle.std.specs.List.{flat_map, list_all}
use Rattle.std.proofs.lemmas.List.{append-nil}
use Rattle.asdu.specs.Asdu.{AsduValue}
use Rattle.asdu.specs.InformationObjects.{InformationObject}
use Rattle.asdu.specs.Translation.{parts}
use Rattle.ft12.specs.Fronts.{front_of}
use Rattle.link.specs.Exchanges.{received_current, timed_current}
use Rattle.link.specs.Gaps.{gaps_at}
use Rattle.link.specs.Primary.{Primary, timed_out}
use Rattle.link.specs.declared.outcome.Outcome.{Outcome}
use Rattle.link.specs.declared.outcome.Outcome.TheVariants as outcome
use Rattle.link.specs.Matching.{Matches, report_in, gap_in_outcome}
use Rattle.session.specs.Session.{is_transferring as is_transferring_of}
use Rattle.gateway.specs.Objects.{objects, has_objects, monitor_objects, parts_of, typed_pieces}
use Rattle.gateway.specs.Objects.{pieces_of_report}
use Rattle.gateway.specs.Log.{Log, Input, LineIn, Opened, TcpIn, CutOff, Ticked, WallIs, Restarted}
use Rattle.gateway.specs.Log.{Came, latest, last_moment}
use Rattle.gateway.specs.Ports.{IsOfPort}
use Rattle.gateway.specs.Gaps.{gaps_reported}
use Rattle.gateway.specs.Frames.{transfers}
use Rattle.gateway.specs.Connections.{present}
use Rattle.gateway.specs.Reports.{Setup, exchanges_of, taken_objects, taken_pieces, reports_in}
use Rattle.gateway.specs.Reports.{parts_of_all}
use Rattle.gateway.specs.Serial as serial
use Rattle.gateway.specs.Serial.{Serial, mirrored, arrived, answer_outcome}
use Rattle.gateway.specs.Centre.{Centre, pushed}
use Rattle.gateway.specs.State.{State, with_serial, at_moment, line_timed}
use Rattle.gateway.specs.Works.{Works, has_lacked_place, is_command_report, LearnsOf, octets_works}
use Rattle.gateway.specs.Works.{begun_works}
use Rattle.gateway.specs.Course.{Course, came_frames, room_in}
use Rattle.gateway.specs.Phases.{resting, IsPlaced}
use Rattle.link.specs.LineLaws.{LineLaws}
use Rattle.gateway.specs.Steps as steps
use Rattle.gateway.specs.Steps.{Keeps, Learns, ReceivesEvent}
use Rattle.gateway.specs.Agrees.{Agrees, GapsReported, ArePlain}
use Rattle.gateway.proofs.Working.{done_placed}
use Rattle.gateway.proofs.Reached.{IsReached, left_reached}
use Rattle.gateway.proofs.Stations.{LineGoesOn, taken_grows, pieces_grow, parts_grow, after_octets}
use Rattle.gateway.proofs.Stations.{after_moment}
use Rattle.gateway.proofs.Learning.{left_of, at_rest_works, is_left, none_left, all_logged, beside}
use Rattle.gateway.proofs.Learning.{Learnt, learnt}

-- The line's part of an event

-- What the line's part leaves of the queue and the connection: the pieces of the reports are kept.
pub record Kept (p : Setup) (s t : State) (reports : List (ℕ × List ℕ)) : Type 0 where
  pub line : t.serial.line ≡ s.serial.line
  pub sizes : t.sizes ≡ s.sizes
  pub moment : t.moment ≡ s.moment
  pub wall : t.wall ≡ s.wall
  pub pieces : List (List ℕ)
  pub centre : t.centre ≡ pushed pieces s.centre
  pub objects_are : flat_map objects pieces
      ≡ flat_map (λ (r : ℕ × List ℕ). monitor_objects p.sizes r.1) reports
  pub number : length pieces ≡ parts_of_all p.sizes reports
  pub spelled : pieces ≡ flat_map (λ (r : ℕ × List ℕ). pieces_of_report p.sizes r.1) reports
  pub whole : list_all has_objects pieces ≡ true

none_pushed : (c : Centre) → c ≡ pushed [] c
none_pushed c = ap
    (λ (u : List (List ℕ)).
    let made : Centre =
    record c { queue = record { sent = c.queue.sent; unsent = u; places = c.queue.places } } in
    made) (sym (append-nil c.queue.unsent))

-- nothing but the line's side changes
kept_nothing : (p : Setup) (s t : State) (x : Serial) → x.line ≡ s.serial.line → t ≡ with_serial x s
    → Kept p s t []
kept_nothing p s t x line is = subst (λ y. Kept p s y []) (sym is)
    (record {
      line = line;
      sizes = refl;
      moment = refl;
      wall = refl;
      pieces = [];
      centre =
          none_pushed s.centre;
      objects_are = refl;
      number = refl;
      spelled = refl;
      whole = refl;
    })

mirrored_line : (at : ℕ) (transferring : Bool) (v : AsduValue) (pieces : List (List ℕ)) (s : Serial)
    → (mirrored at transferring v pieces s).line ≡ s.line
mirrored_line at true v pieces s = refl
mirrored_line at false v pieces s = refl

-- an answer to a command has no objects of the queue's, and needs no place there
mirrored_kept : (p : Setup) (s t : State) (station : ℕ) (report : List ℕ) → t.serial.line
    ≡ s.serial.line
    → monitor_objects p.sizes report ≡ [] → t ≡ with_serial t.serial s
    → Kept p s t ((station, report) ∷ [])
mirrored_kept p s t station report line none is =
    let no_parts : parts_of p.sizes report + 0 ≡ 0 = omega (
      arith,
      ap (λ (os : List InformationObject). if length os == 0 then 0 else parts p.sizes report) none,
    ) in
    record {
      line = line;
      sizes = ap (λ (x : State). x.sizes) is;
      moment = ap (λ (x : State). x.moment) is;
      wall = ap (λ (x : State). x.wall) is;
      pieces = [];
      centre = ap (λ (x : State). x.centre) is ∙ none_pushed s.centre;
      objects_are = sym (append-nil _ ∙ none);
      number = sym no_parts;
      spelled = sym (append-nil _ ∙ ap (λ (os : List InformationObject). if length os == 0 then []
          else
          typed_pieces p.sizes (type_of (slice_index report 0)) report) none);
      whole = refl;
    }

kept_report : (p : Setup) (s t : State) (station : ℕ) (report : List ℕ) → s.sizes ≡ p.sizes
    → Keeps s report t
    → Kept p s t ((station, report) ∷ [])
kept_report p s t station report same k = subst (λ x. Kept p s x ((station, report) ∷ []))
    (sym k.after) (record {
      line = refl;
      sizes = refl;
      moment = refl;
      wall = refl;
      pieces = k.pieces;
      centre = refl;
      objects_are = k.objects_are ∙ ap (λ z. monitor_objects z report) same
          ∙ sym (append-nil (monitor_objects p.sizes report));
      number = omega (arith, k.number, ap (λ z. parts_of z report) same);
      spelled = k.spelled ∙ ap (λ z. pieces_of_report z report) same
          ∙ sym (append-nil (pieces_of_report p.sizes report));
      whole = k.whole;
    })

kept_of : (p : Setup) (s t : State) (station : ℕ) (report : List ℕ) (fits b : Bool)
    → s.sizes ≡ p.sizes
    → is_command_report p.sizes report ≡ b → steps.LearnsReport b s report fits t
    → Kept p s t ((station, report) ∷ [])
kept_of p s t station report fits true same of h =
    mirrored_kept p s t station report (ap (λ (x : Serial). x.line) h.0.after
    ∙ mirrored_line s.moment (is_transferring_of s.centre.session) h.0.v h.0.pieces s.serial)
    (sym (ap (λ z. monitor_objects z report) same) ∙ h.0.none) h.1
kept_of p s t station report fits false same of h = kept_report p s t station report same h.0

pub kept : (p : Setup) (s t : State) (o : Outcome) (fits : Bool) → s.sizes ≡ p.sizes
    → Learns s o fits t
    → Kept p s t (report_in o)
kept p s t (outcome.Report station report) fits same h =
    kept_of p s t station report.items fits (is_command_report p.sizes report.items) same refl
    (subst (λ z. steps.LearnsReport (is_command_report z report.items) s report.items fits t) same
    h)
kept p s t (outcome.Accepted i) fits same h = kept_nothing p s t (serial.accepted i s.serial) refl
    h.0
kept p s t (outcome.Busy i) fits same h = kept_nothing p s t (serial.refused i s.serial) refl h.0
kept p s t (outcome.Down i) fits same h = kept_nothing p s t (serial.given_up i s.serial) refl h.0
kept p s t outcome.None fits same h = kept_nothing p s t s.serial refl h.0
kept p s t (outcome.Started i) fits same h = kept_nothing p s t s.serial refl h.0
kept p s t (outcome.StartedGap i k) fits same h = kept_nothing p s t (serial.with_gap i k s.serial)
    refl h.0
kept p s t (outcome.Empty i) fits same h = kept_nothing p s t s.serial refl h.0

-- what the line's part of an event makes of the works
abbrev pub Worked : Setup → Log → (at : ℕ) → Input → Course → Works → Type 0
Worked p log at (LineIn octets) c z =
    (y : Works) × LearnsOf p at (transfers (came_frames c.talk))
    (answer_outcome octets c.works.serial)
    (octets_works octets c.works) y × (z ≡ begun_works at y)
Worked p log at event c z = z ≡ begun_works at c.works

-- the line's part has been done, and the log has the event
pub record Received (p : Setup) (s t : State) (old : Log) (now : ℕ) (event : Input) (left : Course)
    (fits : Bool) : Type 0 where
  pub pieces : List (List ℕ)
  pub centre : t.centre ≡ pushed pieces s.centre
  pub sizes : t.sizes ≡ s.sizes
  pub wall : t.wall ≡ s.wall
  pub clock : t.moment ≡ latest (Came now event ∷ old)
  pub line : Matches p.link p.addresses t.serial.line (exchanges_of p (Came now event ∷ old))
  pub z : Works
  pub worked : Worked p old (latest (Came now event ∷ old)) event left z
  pub does : t.serial ≡ z.serial
  pub due : z.is_due ≡ true
  pub full : fits ≡ false → has_lacked_place z.history ≡ true
  pub placed : fits ≡ true → has_lacked_place z.history ≡ has_lacked_place left.works.history
  pub gaps : GapsReported p (Came now event ∷ old) t.serial.gap
  pub plain : ArePlain t.serial.commands.answers
  pub more : List InformationObject
  pub taken : taken_objects p (Came now event ∷ old) ≡ taken_objects p old ++ more
  pub parts : parts_of_all p.sizes (reports_in p (Came now event ∷ old))
      ≡ parts_of_all p.sizes (reports_in p old) + length pieces
  pub objects_are : flat_map objects pieces ≡ more
  pub spelled : taken_pieces p (Came now event ∷ old) ≡ taken_pieces p old ++ pieces
  pub whole : list_all has_objects pieces ≡ true

module _ (p : Setup) (s t : State) (old : Log) (now : ℕ) (event : Input) (left : Course)
    (fits : Bool)
    (h : Received p s t old now event left fits) where
  pub received_session : t.centre.session ≡ s.centre.session
  received_session = ap (λ (c : Centre). c.session) h.centre

  pub received_places : t.centre.queue.places ≡ s.centre.queue.places
  received_places = ap (λ (c : Centre). c.queue.places) h.centre

  pub received_sent : t.centre.queue.sent ≡ s.centre.queue.sent
  received_sent = ap (λ (c : Centre). c.queue.sent) h.centre

  pub received_unsent : t.centre.queue.unsent ≡ s.centre.queue.unsent ++ h.pieces
  received_unsent = ap (λ (c : Centre). c.queue.unsent) h.centre

moments : (s : State) (log : Log) (now : ℕ) → s.moment ≡ latest log
    → (at_moment s now).moment ≡ max (latest log) (min now last_moment)
moments s log now e = ap (λ m. max m (min now last_moment)) e

received_line : (laws : LineLaws) (p : Setup) (s t : State) (log : Log) (now : ℕ) (octets : List ℕ)
    (fits : Bool)
    → (a : Agrees p s log [] (resting log)) → steps.Begins s now (LineIn octets) fits t
    → Received p s t log now (LineIn octets) (left_of p log a.course) fits
received_line laws p s t log now octets fits a b =
    let new : Log = Came now (LineIn octets) ∷ log in
    let at : ℕ = latest new in
    let q : Primary = (arrived octets s.serial).line in
    let o : Outcome = answer_outcome octets s.serial in
    let first : State = with_serial (arrived octets s.serial) (at_moment s now) in
    let clock : first.moment ≡ at = moments s log now a.clock in
    let left : Course = left_of p log a.course in
    let does : s.serial ≡ left.works.serial = at_rest_works p s log a in
    let transferring : Bool = transfers (came_frames left.talk) in
    let k : Kept p first b.middle (report_in o) = kept p first b.middle o fits a.sizes b.receives in
    let reached : IsReached p (beside first left.works.history left.works.is_due) =
    subst (λ (x : Serial). IsReached p (record left.works { serial = arrived octets x })) (sym does)
    (left_reached p log a.course left a.talk.course_runs (is_left p s log a)) in
    let l : Learnt p at transferring o first b.middle fits left.works.history left.works.is_due =
    learnt p at first left.works.history left.works.is_due a.talk.command_laws clock a.sizes reached
    (none_left p s log a) a.plain transferring o b.middle fits a.here.tied.transferring
    b.receives in
    let learns : LearnsOf p at transferring (answer_outcome octets left.works.serial)
    (octets_works octets left.works) l.z =
    subst (λ (x : Serial). LearnsOf p at transferring (answer_outcome octets x)
    (record left.works { serial = arrived octets x }) l.z) does l.learns in
    let on = subst (λ m. LineGoesOn p (timed_out q m) log new (report_in o)) (sym clock)
    (after_octets laws p s.serial.line log now octets a.line) in
    let moved : b.middle.moment ≡ at = k.moment ∙ clock in
    let timed : timed_out b.middle.serial.line b.middle.moment ≡ timed_out q at =
    ap (λ x. timed_out x b.middle.moment) k.line ∙ ap (timed_out q) moved in
    subst (λ x. Received p s x log now (LineIn octets) left fits) (sym b.times) (record {
      pieces = k.pieces;
      centre = k.centre;
      sizes = k.sizes;
      wall = k.wall;
      clock = moved;
      line = subst (λ x. Matches p.link p.addresses x (exchanges_of p new)) (ap (timed_out q) clock
          ∙ sym timed) on.matches;
      z = begun_works at l.z;
      worked = (l.z, learns, refl);
      does = ap (λ m. serial.timed m b.middle.serial) moved ∙ ap (serial.timed at) l.serial;
      due = refl;
      full = l.full;
      placed = l.placed;
      gaps = λ i. ap (λ g. gaps_reported i log ++ g) (l.gap i)
          ∙ ap (λ gs. gs ++ gap_in_outcome i o) (all_logged p s log a i)
          ∙ sym (laws.due_gaps p.link.size p.addresses p.link.answer_ms at
          (record {
            ended = (exchanges_of p log).ended;
            current =
                received_current octets (exchanges_of p log).current;
          }) i
          ∙ laws.octets_gap p.link p.addresses s.serial.line (exchanges_of p log) octets i a.line);
      plain = l.plain;
      more = flat_map (λ (r : ℕ × List ℕ). monitor_objects p.sizes r.1) (report_in o);
      taken = taken_grows p log new (report_in o) on.reported;
      parts = parts_grow p log new (report_in o) on.reported
          ∙ ap (λ n. parts_of_all p.sizes (reports_in p log) + n) (sym k.number);
      objects_are = k.objects_are;
      spelled = pieces_grow p log new (report_in o) on.reported
          ∙ ap (λ ps. taken_pieces p log ++ ps) (sym k.spelled);
      whole = k.whole;
    })

-- an event that isn't the line's
abbrev NotOfLine : ℕ → Input → Setup → Log → Type 0
NotOfLine now event p log = (middle t : State) (fits : Bool) → ReceivesEvent middle event fits t
    → (t ≡ middle) × (fits ≡ true)

only_time : (laws : LineLaws) (p : Setup) (s t : State) (log : Log) (now : ℕ) (event : Input)
    (fits : Bool)
    → (a : Agrees p s log [] (resting log)) → NotOfLine now event p log
    → ((at : ℕ) (c : Course) (z : Works) → z ≡ begun_works at c.works → Worked p log at event c z) →
    exchanges_of p (Came now event ∷ log) ≡ record {
      ended = (exchanges_of p log).ended;
      current =
          timed_current p.link.answer_ms (latest (Came now event ∷ log))
          (exchanges_of p log).current;
    }
    → steps.Begins s now event fits t → Received p s t log now event (left_of p log a.course) fits
only_time laws p s t log now event fits a other works is b =
    let new : Log = Came now event ∷ log in
    let at : ℕ = latest new in
    let clock = moments s log now a.clock in
    let left : Course = left_of p log a.course in
    let first : State = at_moment s now in
    let none = other first b.middle fits b.receives in
    let same : t ≡ line_timed first = b.times ∙ ap line_timed none.0 in
    let on = after_moment laws p s.serial.line log new at is a.line in
    let timed : timed_out s.serial.line first.moment ≡ timed_out s.serial.line at =
    ap (timed_out s.serial.line) clock in
    subst (λ x. Received p s x log now event left fits) (sym same) (record {
      pieces = [];
      centre = none_pushed s.centre;
      sizes = refl;
      wall = refl;
      clock = clock;
      line = subst (λ x. Matches p.link p.addresses x (exchanges_of p new)) (sym timed) on.matches;
      z = begun_works at left.works;
      worked = works at left (begun_works at left.works) refl;
      does = ap (λ m. serial.timed m s.serial) clock
          ∙ ap (serial.timed at) (at_rest_works p s log a);
      due = refl;
      full = λ off. let no : false ≡ true = sym off ∙ none.1 in cc;
      placed = λ on. refl;
      gaps = λ i. a.gaps i ∙ sym (ap (gaps_at (front_of p.link.size) p.addresses i) is
          ∙ laws.due_gaps p.link.size p.addresses p.link.answer_ms at (exchanges_of p log) i);
      plain = a.plain;
      more = [];
      taken = taken_grows p log new [] on.reported;
      parts = parts_grow p log new [] on.reported;
      objects_are = refl;
      spelled = pieces_grow p log new [] on.reported;
      whole = refl;
    })

-- the same for each event of a port
pub received_event : (laws : LineLaws) (p : Setup) (s t : State) (log : Log) (now : ℕ)
    (event : Input)
    (fits : Bool)
    → IsOfPort event → (a : Agrees p s log [] (resting log)) → steps.Begins s now event fits t
    → Received p s t log now event (left_of p log a.course) fits
received_event laws p s t log now (LineIn octets) fits of a b =
    received_line laws p s t log now octets fits a b
received_event laws p s t log now Opened fits of a b =
    only_time laws p s t log now Opened fits a (λ middle t fits h. h)
    (λ at c z is. is) refl b
received_event laws p s t log now (TcpIn octets) fits of a b =
    only_time laws p s t log now (TcpIn octets) fits a (λ middle t fits h. h) (λ at c z is. is) refl
    b
received_event laws p s t log now CutOff fits of a b =
    only_time laws p s t log now CutOff fits a (λ middle t fits h. h)
    (λ at c z is. is) refl b
received_event laws p s t log now (WallIs number) fits of a b =
    only_time laws p s t log now (WallIs number) fits a (λ middle t fits h. h) (λ at c z is. is)
    refl b
received_event laws p s t log now Ticked fits of a b =
    only_time laws p s t log now Ticked fits a (λ middle t fits h. h)
    (λ at c z is. is) refl b
received_event laws p s t log now Restarted fits of a b = absurd of

-- what found a place before the event
pub placed_before : (p : Setup) (s : State) (log : Log) (a : Agrees p s log [] (resting log))
    → (present log).is_open ≡ true → has_lacked_place (left_of p log a.course).works.history ≡ false
placed_before p s log a on = done_placed (latest log) (room_in p log a.course) a.course.works
    ∙ at_rest log on a.stands.placed
  where
    at_rest : (log : Log) → (present log).is_open ≡ true
        → IsPlaced (resting log) log a.course.works.history
        → has_lacked_place a.course.works.history ≡ false
    at_rest [] on h = h on
    at_rest (Came now Restarted ∷ log) on h = h on
    at_rest (entry ∷ log) on h = h on
