-- The line's part of the agreement as the log goes on.
use Rattle.std.proofs.Common.{◌≡◌, ℕ, ◌+◌, ◌<◌, length, Bool, false, List, [], ◌∷◌, ◌++◌, Option}
use Rattle.std.proofs.Common.{Some, None, refl, sym, ap, subst, ◌∙◌, inl, inr, arith}
use Rattle.std.specs.Prelude.{option_and_then, option_map}
use Rattle.std.specs.List.{flat_map}
use Rattle.std.proofs.lemmas.List.{append-nil}
use Rattle.std.proofs.lemmas.Grind.{flat_map-append}
use Rattle.ft12.specs.declared.frame.Front.{Front}
use Rattle.ft12.specs.Fronts.{front_of}
use Rattle.ft12.specs.Spelling as line
use Rattle.asdu.specs.declared.sizes.Sizes.{Sizes}
use Rattle.link.specs.Answers.{answer_of}
use Rattle.link.specs.Exchanges.{Exchanges, OpenExchange, Sending, begun_by, whole_of}
use Rattle.link.specs.Exchanges.{timed_current, received_current, reports_of_exchanges}
use Rattle.link.specs.declared.procedure.Link.TheVariants.{Down}
use Rattle.link.specs.Procedure.{is_up, holds_command, link_after}
use Rattle.link.specs.Requests.{request_frame, request_in}
use Rattle.link.specs.Turns.{CommandsWaiting, station_at}
use Rattle.link.specs.Primary.{Outstanding, Primary, asked, sending, received, received_outcome}
use Rattle.link.specs.Primary.{timed_out}
use Rattle.link.specs.Matching.{Matches, report_in, IsAwaited, IsReceived, IsSaid}
use Rattle.link.specs.Matching as logging
use Rattle.link.specs.Runs.{FitsLine}
use Rattle.gateway.specs.Objects.{monitor_objects, pieces_of_report}
use Rattle.gateway.specs.Log.{Log, LineIn, Came, Went, LineOut, latest}
use Rattle.gateway.specs.Frames.{Connection}
use Rattle.gateway.specs.Reports.{Setup, address_at, AreFound, sent_to, sending_in, exchanges_of}
use Rattle.gateway.specs.Reports.{exchanges_with, reports_in, taken_objects, taken_pieces}
use Rattle.gateway.specs.Reports.{parts_of_all, KeepsLinks}
use Rattle.gateway.specs.Course.{Course}
use Rattle.gateway.specs.Course.{has_places}
use Rattle.gateway.specs.Line.{IsWaiting, IsServed, done_in, LacksOnlyRoom, IsLineAtRest}
use Rattle.link.specs.LineLaws.{LineLaws}

-- the exchanges keep the procedure
pub keeps_links : (p : Setup) (q : Primary) (log : Log)
    → Matches p.link p.addresses q (exchanges_of p log)
    → KeepsLinks p log
keeps_links p q log h = λ i within. h.keeps i

pub taken_grows : (p : Setup) (old new : Log) (reports : List (ℕ × List ℕ))
    → reports_in p new ≡ reports_in p old ++ reports → taken_objects p new ≡ taken_objects p old
    ++ flat_map (λ (r : ℕ × List ℕ). monitor_objects p.sizes r.1) reports
taken_grows p old new reports e =
    ap (flat_map (λ r. monitor_objects p.sizes r.1)) e
    ∙ flat_map-append (λ (r : ℕ × List ℕ). monitor_objects p.sizes r.1) (reports_in p old) reports

pub pieces_grow : (p : Setup) (old new : Log) (reports : List (ℕ × List ℕ))
    → reports_in p new ≡ reports_in p old ++ reports → taken_pieces p new ≡ taken_pieces p old
    ++ flat_map (λ (r : ℕ × List ℕ). pieces_of_report p.sizes r.1) reports
pieces_grow p old new reports e =
    ap (flat_map (λ r. pieces_of_report p.sizes r.1)) e
    ∙ flat_map-append (λ (r : ℕ × List ℕ). pieces_of_report p.sizes r.1) (reports_in p old) reports

parts-append : (sizes : Sizes) (xs ys : List (ℕ × List ℕ))
    → parts_of_all sizes (xs ++ ys) ≡ parts_of_all sizes xs + parts_of_all sizes ys
parts-append sizes [] ys = omega arith
parts-append sizes (x ∷ xs) ys = omega (arith, parts-append sizes xs ys)

pub parts_grow : (p : Setup) (old new : Log) (reports : List (ℕ × List ℕ))
    → reports_in p new ≡ reports_in p old ++ reports → parts_of_all p.sizes (reports_in p new)
    ≡ parts_of_all p.sizes (reports_in p old) + parts_of_all p.sizes reports
parts_grow p old new reports e = ap (parts_of_all p.sizes) e
    ∙ parts-append p.sizes (reports_in p old) reports

-- The line's part of an event: its octets, if it has any, then its moment

pub record LineGoesOn (p : Setup) (q : Primary) (old new : Log) (reports : List (ℕ × List ℕ)) : Type
    0 where
  pub matches : Matches p.link p.addresses q (exchanges_of p new)
  pub reported : reports_in p new ≡ reports_in p old ++ reports

pub after_octets : (laws : LineLaws) (p : Setup) (q : Primary) (log : Log) (now : ℕ)
    (octets : List ℕ)
    → Matches p.link p.addresses q (exchanges_of p log) →
    LineGoesOn p (timed_out (received (front_of q.settings.size) q octets)
    (latest (Came now (LineIn octets) ∷ log)))
    log (Came now (LineIn octets) ∷ log)
    (report_in (received_outcome (front_of q.settings.size) q octets))
after_octets laws p q log now octets h =
    let e : Exchanges = exchanges_of p log in
    let arrived : Exchanges =
    record { ended = e.ended; current = received_current octets e.current } in
    let at : ℕ = latest (Came now (LineIn octets) ∷ log) in
    record {
      matches = laws.due p.link p.addresses (received (front_of q.settings.size) q octets) arrived
          at
          (laws.octets p.link p.addresses q e octets h);
      reported = laws.due_reports p.link.size (address_at p.addresses) p.link.answer_ms at arrived
          ∙ laws.octets_report p.link p.addresses q e octets h;
    }

-- a moment alone
pub after_moment : (laws : LineLaws) (p : Setup) (q : Primary) (log new : Log) (at : ℕ)
    → exchanges_of p new ≡ record {
      ended = (exchanges_of p log).ended;
      current =
          timed_current p.link.answer_ms at (exchanges_of p log).current;
    } → Matches p.link p.addresses q (exchanges_of p log) →
    LineGoesOn p (timed_out q at) log new []
after_moment laws p q log new at is h =
    let e : Exchanges = exchanges_of p log in
    record {
      matches = subst (Matches p.link p.addresses (timed_out q at)) (sym is)
          (laws.due p.link p.addresses q e at h);
      reported = ap (reports_of_exchanges (front_of p.link.size) (address_at p.addresses)) is
          ∙ laws.due_reports p.link.size (address_at p.addresses) p.link.answer_ms at e
          ∙ sym (append-nil (reports_in p log));
    }

-- A request goes out

-- the octets of a request
abbrev pub octets_of : Setup → Sending → List ℕ
octets_of p s =
    line.spelling p.link.size (request_frame (address_at p.addresses s.station) s.request)

-- a request that went out is read back from its octets
pub request_back : (laws : LineLaws) (p : Setup) (q : Primary) (log : Log) (may : Bool)
    (waiting : CommandsWaiting) (s : Sending) → FitsLine q may waiting
    → AreFound p.addresses → Matches p.link p.addresses q (exchanges_of p log)
    → sending q may waiting ≡ Some s
    → sending_in p (octets_of p s) ≡ Some s
request_back laws p q log may waiting s line found h is =
    let fits = laws.fit p.link p.addresses q (exchanges_of p log) may waiting s line h is in
    let reads : request_in p.link.size (octets_of p s)
    ≡ Some (address_at p.addresses s.station, s.request) =
    laws.back p.link.size (address_at p.addresses s.station) s.request fits.address fits.request in
    ap (option_and_then (sent_to p.addresses)) reads ∙ ap
    (option_map (λ (i : ℕ). let made : Sending = record { station = i; request = s.request } in
    made))
    (found s.station fits.station)

pub after_request : (laws : LineLaws) (p : Setup) (q : Primary) (log : Log) (now : ℕ) (may : Bool)
    (waiting : CommandsWaiting) (s : Sending) → FitsLine q may waiting
    → AreFound p.addresses → Matches p.link p.addresses q (exchanges_of p log)
    → sending q may waiting ≡ Some s →
    LineGoesOn p (asked q now may waiting) log (Went now (LineOut (octets_of p s)) ∷ log) []
after_request laws p q log now may waiting s line found h is =
    let new : Log = Went now (LineOut (octets_of p s)) ∷ log in
    let same : exchanges_of p new ≡ begun_by now (sending q may waiting) (exchanges_of p log) =
    ap (λ o. begun_by now o (exchanges_of p log))
    (request_back laws p q log may waiting s line found h is ∙ sym is) in
    record {
      matches = subst (Matches p.link p.addresses (asked q now may waiting)) (sym same)
          (laws.next p.link p.addresses q (exchanges_of p log) now may waiting line h);
      reported = ap (reports_of_exchanges (front_of p.link.size) (address_at p.addresses)) same
          ∙ laws.next_reports p.link.size (address_at p.addresses) now (sending q may waiting)
          (exchanges_of p log)
          ∙ sym (append-nil (reports_in p log));
    }

-- Nothing is left to be asked

asks_alone : (laws : LineLaws) (p : Setup) (q : Primary) (log : Log) (course : Course) (may : Bool)
    (waiting : CommandsWaiting)
    → Matches p.link p.addresses q (exchanges_of p log) → q.outstanding ≡ None
    → sending q may waiting ≡ None
    → (connections : List Connection)
    → (may ≡ false → has_places p (parts_of_all p.sizes (reports_in p log)) connections ≡ false)
    → ((i : ℕ) → i < length p.addresses → IsServed p log (done_in p log course) i)
    → LacksOnlyRoom p log course connections
asks_alone laws p q log course may waiting h out none connections full served =
    let link : (i : ℕ) → link_after p.link (address_at p.addresses i) Down (exchanges_with p i log)
    ≡ (station_at q.stations i).link = λ i.
    subst (λ (o : Option Outstanding). logging.AreLinks (front_of p.link.size) p.link p.addresses
    q.stations
    (logging.past o (exchanges_of p log))) out h.links i in
    record {
      full = full (laws.leave q may waiting h.fits out none);
      up = λ i within. ap is_up (link i)
          ∙ laws.up q may waiting h.fits out none i (omega (arith, within, h.count));
      free = λ i within. ap holds_command (link i)
          ∙ laws.free q may waiting h.fits out none i (omega (arith, within, h.count));
      served = served;
    }

nothing_said : (front : List ℕ → Front) (address : ℕ) (x : OpenExchange) (o : Option (List ℕ))
    → IsReceived front address x o
    → option_and_then (answer_of address x.request) (whole_of (front x.octets)) ≡ None
nothing_said front address x (Some octets) h =
    ap (λ f. option_and_then (answer_of address x.request) (whole_of f)) h.1
nothing_said front address x None h =
    ap (λ xs. option_and_then (answer_of address x.request) (whole_of (front xs)))
    (sym (append-nil x.octets)) ∙ h []

waits_for : (p : Setup) (q : Primary) (log : Log) (o : Outstanding)
    → Matches p.link p.addresses q (exchanges_of p log)
    → q.outstanding ≡ Some o → IsWaiting p log
waits_for p q log o h out = go (exchanges_of p log).current refl
  where
    current : logging.IsCurrent (front_of p.link.size) p.addresses q.turn (Some o)
        (exchanges_of p log).current
    current =
        subst (λ (x : Option Outstanding). logging.IsCurrent (front_of p.link.size) p.addresses
        q.turn x
        (exchanges_of p log).current) out h.current

    at_station : (x : OpenExchange)
        → IsAwaited (front_of p.link.size) (address_at p.addresses q.turn) q.turn o x
        → option_and_then (answer_of (address_at p.addresses x.station) x.request)
        (whole_of (front_of p.link.size x.octets)) ≡ None
    at_station x w =
        ap (λ i. option_and_then (answer_of (address_at p.addresses i) x.request)
        (whole_of (front_of p.link.size x.octets))) w.station
        ∙ nothing_said (front_of p.link.size) (address_at p.addresses q.turn) x o.arrived w.arrived

    go : (x : Option OpenExchange) → (exchanges_of p log).current ≡ x → IsWaiting p log
    go None is =
        absurd (subst (logging.IsCurrent (front_of p.link.size) p.addresses q.turn (Some o)) is
        current)
    go (Some x) is =
        let w : IsAwaited (front_of p.link.size) (address_at p.addresses q.turn) q.turn o x =
        subst (logging.IsCurrent (front_of p.link.size) p.addresses q.turn (Some o)) is current in
        record { exchange = x; latest_is = is; waits = (at_station x w, w.waits, w.stands) }

pub line_rests : (laws : LineLaws) (p : Setup) (q : Primary) (log : Log) (course : Course)
    (may : Bool) (waiting : CommandsWaiting)
    → Matches p.link p.addresses q (exchanges_of p log) → sending q may waiting ≡ None
    → (connections : List Connection)
    → (may ≡ false → has_places p (parts_of_all p.sizes (reports_in p log)) connections ≡ false)
    → (q.outstanding ≡ None → (i : ℕ) → i < length p.addresses
    → IsServed p log (done_in p log course) i) → IsLineAtRest p log course connections
line_rests laws p q log course may waiting h none connections full served = go q.outstanding refl
  where
    go : (o : Option Outstanding) → q.outstanding ≡ o → IsLineAtRest p log course connections
    go None out = inr (asks_alone laws p q log course may waiting h out none connections full
        (served out))
    go (Some o) out = inl (waits_for p q log o h out)
