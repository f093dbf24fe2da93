-- I frames with monitor objects bear whole pieces of the reports taken.
use Rattle.std.proofs.Common.{◌≡◌, ℕ, ◌+◌, Bool, true, false, cond, List, [], ◌∷◌, ◌++◌, length}
use Rattle.std.proofs.Common.{take, drop, Option, Some, None, refl, ap, sym, ◌∙◌, subst}
use Rattle.std.proofs.Common.{append_assoc, length-append}
use Rattle.std.specs.Prelude.{◌||◌, if◌then◌else◌, option_and_then}
use Rattle.std.specs.List.{flat_map}
use Rattle.std.proofs.lemmas.List.{append-nil, drop-drop}
use Rattle.std.proofs.Math.Seq.{take-add}
use Rattle.ft12.specs.declared.frame.Front.{Front}
use Rattle.ft12.specs.declared.frame.Front.TheVariants.{Whole, More, Never}
use Rattle.ft12.specs.declared.frame.Frame.{Frame}
use Rattle.ft12.specs.declared.frame.LinkSize.{LinkSize}
use Rattle.ft12.specs.Fronts.{front_of}
use Rattle.apci.specs.declared.apdu.Apdu.{Apdu}
use Rattle.apci.specs.declared.apdu.Apdu.TheVariants.{I, S, U}
use Rattle.link.specs.Answers.{answer_of}
use Rattle.link.specs.Exchanges.{Exchanges, OpenExchange, received_octets, received_current}
use Rattle.link.specs.Exchanges.{whole_of, views, report_by, reports_of}
use Rattle.link.specs.Exchanges.{reports_of_exchanges}
use Rattle.link.specs.LineLaws.{LineLaws}
use Rattle.session.specs.declared.kinds.Close.{Close}
use Rattle.session.specs.declared.kinds.Close.TheVariants.{Grammar, SendNumber, ReceiveNumber}
use Rattle.session.specs.declared.kinds.Close.TheVariants.{Stopped, Timeout, OwnAnswers, Replaced}
use Rattle.gateway.specs.Objects.{has_objects, pieces_of_report}
use Rattle.gateway.specs.Log.{Log, LineIn, Opened, TcpIn, CutOff, Ticked, WallIs, Restarted, Came}
use Rattle.gateway.specs.Log.{LogEntry, Went, LineOut, TcpOut, Closed, GapOut, latest}
use Rattle.gateway.specs.Frames.{Connection, acknowledged_reports, reports_among}
use Rattle.gateway.specs.Connections.{present}
use Rattle.gateway.specs.Agrees.{pieces_of}
use Rattle.gateway.specs.Reports.{Setup, address_at, sending_in, exchanges_of, reports_in}
use Rattle.gateway.specs.Reports.{taken_pieces}
use Rattle.gateway.specs.Works.{Works}
use Rattle.gateway.specs.Course.{Course, here_of, with_frames, with_sent, IsNext, ended_course}
use Rattle.gateway.specs.Course.{closed_course, works_at, IsLeft, Runs}
use Rattle.gateway.specs.GoingOut.{BearWholePieces}
use Rattle.gateway.proofs.Pieces.{pieces_of-append}
use Rattle.gateway.proofs.Objects.{run_grows, length-pieces_of}
use Rattle.gateway.proofs.Stations.{pieces_grow}
use Rattle.gateway.proofs.Restarted.{IsLogged}

-- What is at the front of octets stays there as more come.
abbrev pub StaysWhole : Type 0
StaysWhole = (size : LinkSize) (octets more : List ℕ) (frame : Frame) (n : ℕ)
    → front_of size octets ≡ Whole frame n → front_of size (octets ++ more) ≡ Whole frame n

pub record Laws : Type 0 where
  pub whole : StaysWhole
  pub line : LineLaws
  pub logged : IsLogged

-- Reports taken stay taken

module _ (whole : StaysWhole) (size : LinkSize) (address : ℕ → ℕ) where
  -- what is taken of an exchange with this frame at its front
  abbrev said : OpenExchange → Option Frame → List (ℕ × List ℕ)
  said x front =
      report_by x.station (option_and_then (answer_of (address x.station) x.request) front)

  abbrev one : OpenExchange → List (ℕ × List ℕ)
  one x = said x (whole_of (front_of size x.octets))

  one_more : (xs : List OpenExchange) (x : OpenExchange)
      → reports_of address (views (front_of size) (xs ++ x ∷ []))
      ≡ reports_of address (views (front_of size) xs) ++ (one x ++ [])
  one_more [] x = refl
  one_more (y ∷ ys) x =
      ap (λ rs. one y ++ rs) (one_more ys x)
      ∙ sym (append_assoc (one y) (reports_of address (views (front_of size) ys)) (one x ++ []))

  -- an exchange's octets grow
  received_one : (octets : List ℕ) (x : OpenExchange)
      → (more : List (ℕ × List ℕ)) × (one (received_octets octets x) ≡ one x ++ more)
  received_one octets x = by_front (front_of size x.octets) refl
    where
      stays : (b : Bool) (frame : Frame) (n : ℕ) → front_of size x.octets ≡ Whole frame n
          → front_of size (if b then x.octets else x.octets ++ octets) ≡ Whole frame n
      stays true frame n e = e
      stays false frame n e = whole size x.octets octets frame n e

      none : (front : Front) → front_of size x.octets ≡ front → whole_of front ≡ None
          → (more : List (ℕ × List ℕ)) × (one (received_octets octets x) ≡ one x ++ more)
      none front e lacks = (
        one (received_octets octets x),
        ap (λ rs. rs ++ one (received_octets octets x))
            (sym (ap (λ (f : Option Frame). said x f) (ap whole_of e ∙ lacks))),
      )

      by_front : (front : Front) → front_of size x.octets ≡ front
          → (more : List (ℕ × List ℕ)) × (one (received_octets octets x) ≡ one x ++ more)
      by_front (Whole frame n) e = (
        [],
        ap (λ (f : Front). said x (whole_of f))
            (stays (x.closed || x.given_up) frame n e ∙ sym e)
            ∙ sym (append-nil (one x)),
      )
      by_front More e = none More e refl
      by_front (Never place why) e = none (Never place why) e refl

  received_reports : (ended : List OpenExchange) (current : Option OpenExchange) (octets : List ℕ)
      → (more : List (ℕ × List ℕ))
      × (reports_of_exchanges (front_of size) address
      (record { ended = ended; current = received_current octets current })
      ≡ reports_of_exchanges (front_of size) address
      (record { ended = ended; current = current }) ++ more)
  received_reports ended None octets = ([], sym (append-nil _))
  received_reports ended (Some x) octets =
      let before : List (ℕ × List ℕ) = reports_of address (views (front_of size) ended) in
      let grown = received_one octets x in (
        grown.0,
        one_more ended (received_octets octets x)
            ∙ ap (λ rs. before ++ rs) (append-nil (one (received_octets octets x)) ∙ grown.1)
            ∙ sym (append_assoc before (one x) grown.0)
            ∙ ap (λ rs. rs ++ grown.0) (sym (one_more ended x
            ∙ ap (λ rs. before ++ rs) (append-nil (one x)))),
      )

-- by what they grow with an entry of the log
abbrev Grows : Setup → (old new : Log) → Type 0
Grows p old new = (more : List (ℕ × List ℕ)) × (reports_in p new ≡ reports_in p old ++ more)

none_more : (p : Setup) (old new : Log) → reports_in p new ≡ reports_in p old → Grows p old new
none_more p old new e = ([], e ∙ sym (append-nil (reports_in p old)))

grows : Laws → (p : Setup) (entry : LogEntry) (log : Log) → Grows p log (entry ∷ log)
grows laws p (Came now (LineIn octets)) log =
    let e : Exchanges = exchanges_of p log in
    let at : ℕ = latest (Came now (LineIn octets) ∷ log) in
    let arrived = received_reports laws.whole p.link.size (address_at p.addresses) e.ended e.current
    octets in (
      arrived.0,
      laws.line.due_reports p.link.size (address_at p.addresses) p.link.answer_ms at
          (record { ended = e.ended; current = received_current octets e.current })
          ∙ arrived.1,
    )
grows laws p (Came now Restarted) log = none_more p log (Came now Restarted ∷ log)
    (laws.logged.reports p.link p.link.size p.addresses (address_at p.addresses)
    (exchanges_of p log))
grows laws p (Came now Opened) log = none_more p log (Came now Opened ∷ log)
    (laws.line.due_reports p.link.size (address_at p.addresses) p.link.answer_ms
    (latest (Came now Opened ∷ log)) (exchanges_of p log))
grows laws p (Came now (TcpIn octets)) log = none_more p log (Came now (TcpIn octets) ∷ log)
    (laws.line.due_reports p.link.size (address_at p.addresses) p.link.answer_ms
    (latest (Came now (TcpIn octets) ∷ log)) (exchanges_of p log))
grows laws p (Came now CutOff) log = none_more p log (Came now CutOff ∷ log)
    (laws.line.due_reports p.link.size (address_at p.addresses) p.link.answer_ms
    (latest (Came now CutOff ∷ log)) (exchanges_of p log))
grows laws p (Came now Ticked) log = none_more p log (Came now Ticked ∷ log)
    (laws.line.due_reports p.link.size (address_at p.addresses) p.link.answer_ms
    (latest (Came now Ticked ∷ log)) (exchanges_of p log))
grows laws p (Came now (WallIs number)) log = none_more p log (Came now (WallIs number) ∷ log)
    (laws.line.due_reports p.link.size (address_at p.addresses) p.link.answer_ms
    (latest (Came now (WallIs number) ∷ log)) (exchanges_of p log))
grows laws p (Went now (LineOut octets)) log = none_more p log (Went now (LineOut octets) ∷ log)
    (laws.line.next_reports p.link.size (address_at p.addresses) now (sending_in p octets)
    (exchanges_of p log))
grows laws p (Went now (TcpOut octets)) log = none_more p log (Went now (TcpOut octets) ∷ log) refl
grows laws p (Went now (GapOut station session)) log =
    none_more p log (Went now (GapOut station session) ∷ log) refl
grows laws p (Went now (Closed cause)) log = none_more p log (Went now (Closed cause) ∷ log) refl

bear_more : (taken more : List (List ℕ)) (cs : List Connection) → BearWholePieces taken cs
    → BearWholePieces (taken ++ more) cs
bear_more taken more [] h = tt
bear_more taken more (c ∷ before) h = (
  run_grows (pieces_of c.sent_frames) taken more (acknowledged_reports before) h.0,
  bear_more taken more before h.1,
)

-- The course

abbrev AreBorne : List (List ℕ) → Course → Type 0
AreBorne taken d = BearWholePieces taken (here_of d ∷ d.earlier)

entered : Laws → (p : Setup) (entry : LogEntry) (log : Log) (d : Course)
    → AreBorne (taken_pieces p log) d → AreBorne (taken_pieces p (entry ∷ log)) d
entered laws p entry log d h =
    let g : Grows p log (entry ∷ log) = grows laws p entry log in
    let more : List (List ℕ) = flat_map (λ (r : ℕ × List ℕ). pieces_of_report p.sizes r.1) g.0 in
    subst (λ (taken : List (List ℕ)). AreBorne taken d)
    (sym (pieces_grow p log (entry ∷ log) g.0 g.1))
    (bear_more (taken_pieces p log) more (here_of d ∷ d.earlier) h)

frames : (taken : List (List ℕ)) (p : Setup) (fs : List Apdu) (now : ℕ) (wall : Option ℕ)
    (d : Course) → AreBorne taken d → AreBorne taken (with_frames p fs now wall d)
frames taken p [] now wall d h = h
frames taken p (f ∷ fs) now wall d h = frames taken p fs now wall d h

-- the next piece goes out
next_piece : (taken sent : List (List ℕ)) (a n : ℕ) (asdu : List ℕ) → n ≡ length sent
    → sent ≡ take (length sent) (drop a taken) → take 1 (drop (a + n) taken) ≡ asdu ∷ []
    → sent ++ asdu ∷ [] ≡ take (length (sent ++ asdu ∷ [])) (drop a taken)
next_piece taken sent a n asdu is run next =
    ap (λ xs. xs ++ asdu ∷ []) run
    ∙ ap (λ xs. take (length sent) (drop a taken) ++ xs) (sym next
    ∙ ap (take 1) (sym (drop-drop n a taken)) ∙ ap (λ m. take 1 (drop m (drop a taken))) is)
    ∙ sym (take-add (length sent) 1 (drop a taken))
    ∙ ap (λ m. take m (drop a taken)) (sym (length-append sent (asdu ∷ [])))

one_sent : (p : Setup) (log : Log) (ns nr : ℕ) (asdu : List ℕ) (d : Course)
    → (has_objects asdu ≡ true → take 1 (drop (acknowledged_reports d.earlier
    + reports_among d.sent) (taken_pieces p log)) ≡ asdu ∷ [])
    → AreBorne (taken_pieces p log) d
    → pieces_of (d.sent ++ record { ns = ns; nr = nr; asdu = asdu } ∷ [])
    ≡ take (length (pieces_of (d.sent ++ record { ns = ns; nr = nr; asdu = asdu } ∷ [])))
    (drop (acknowledged_reports d.earlier) (taken_pieces p log))
one_sent p log ns nr asdu d next h =
    subst (λ (xs : List (List ℕ)). xs ≡ take (length xs) (drop (acknowledged_reports d.earlier)
    (taken_pieces p log)))
    (sym (pieces_of-append d.sent (record { ns = ns; nr = nr; asdu = asdu } ∷ [])))
    (by_objects (has_objects asdu) next)
  where
    by_objects : (b : Bool)
        → (b ≡ true → take 1 (drop (acknowledged_reports d.earlier
        + reports_among d.sent) (taken_pieces p log)) ≡ asdu ∷ [])
        → pieces_of d.sent ++ cond b (asdu ∷ []) []
        ≡ take (length (pieces_of d.sent ++ cond b (asdu ∷ []) []))
        (drop (acknowledged_reports d.earlier) (taken_pieces p log))
    by_objects true next = next_piece (taken_pieces p log) (pieces_of d.sent)
        (acknowledged_reports d.earlier) (reports_among d.sent) asdu
        (sym (length-pieces_of d.sent)) h.0 (next refl)
    by_objects false next =
        subst (λ (xs : List (List ℕ)). xs ≡ take (length xs)
        (drop (acknowledged_reports d.earlier) (taken_pieces p log)))
        (sym (append-nil (pieces_of d.sent))) h.0

sent : (p : Setup) (log : Log) (f : Apdu) (now : ℕ) (d : Course) → IsNext p log f d
    → AreBorne (taken_pieces p log) d → AreBorne (taken_pieces p log) (with_sent f now d)
sent p log (I ns nr asdu) now d next h = (one_sent p log ns nr asdu.items d next.piece h, h.1)
sent p log (S nr) now d next h = h
sent p log (U u) now d next h = h

over : (taken : List (List ℕ)) (is_open : Bool) (w : Works) (d : Course) → AreBorne taken d
    → AreBorne taken (ended_course is_open w d)
over taken true w d h = (refl, h)
over taken false w d h = (refl, h.1)

closed : (taken : List (List ℕ)) (p : Setup) (cause : Close) (is_open : Bool) (at : ℕ) (d : Course)
    → AreBorne taken d → AreBorne taken (closed_course p cause is_open at d)
closed taken p Grammar is_open at d h = over taken is_open d.works d h
closed taken p SendNumber is_open at d h = over taken is_open d.works d h
closed taken p ReceiveNumber is_open at d h = over taken is_open d.works d h
closed taken p Stopped is_open at d h = over taken is_open d.works d h
closed taken p Timeout is_open at d h = over taken is_open (works_at Timeout at d.works) d h
closed taken p OwnAnswers is_open at d h = over taken is_open d.works d h
closed taken p Replaced is_open at d h = h

module _ (laws : Laws) (p : Setup) where
  -- once the step before an event is done
  left : (entry : LogEntry) (log : Log) (before after : Course) → IsLeft p log before after
      → AreBorne (taken_pieces p log) before → AreBorne (taken_pieces p (entry ∷ log)) after
  left entry log before after l h =
      entered laws p entry log after
      (subst (λ (d : Course). AreBorne (taken_pieces p log) d) (sym l.is) h)

  pub whole_pieces : (log : Log) (d : Course) → Runs p log d
      → BearWholePieces (taken_pieces p log) (here_of d ∷ d.earlier)
  whole_pieces [] d r = subst (λ (e : Course). AreBorne (taken_pieces p []) e) (sym r) (refl, tt)
  whole_pieces (Came now (LineIn octets) ∷ log) d r =
      subst (λ (e : Course). AreBorne (taken_pieces p (Came now (LineIn octets) ∷ log)) e)
      (sym r.5.2)
      (left (Came now (LineIn octets)) log r.0 r.1 r.4 (whole_pieces log r.0 r.2))
  whole_pieces (Came now (TcpIn octets) ∷ log) d r =
      let new : Log = Came now (TcpIn octets) ∷ log in
      subst (λ (e : Course). AreBorne (taken_pieces p new) e) (sym r.5.taken)
      (frames (taken_pieces p new) p r.5.frames _ _ _
      (left (Came now (TcpIn octets)) log r.0 r.1 r.4 (whole_pieces log r.0 r.2)))
  whole_pieces (Came now Ticked ∷ log) d r =
      subst (λ (e : Course). AreBorne (taken_pieces p (Came now Ticked ∷ log)) e) (sym r.5)
      (left (Came now Ticked) log r.0 r.1 r.4 (whole_pieces log r.0 r.2))
  whole_pieces (Came now (WallIs number) ∷ log) d r =
      subst (λ (e : Course). AreBorne (taken_pieces p (Came now (WallIs number) ∷ log)) e)
      (sym r.5)
      (left (Came now (WallIs number)) log r.0 r.1 r.4 (whole_pieces log r.0 r.2))
  whole_pieces (Came now Opened ∷ log) d r =
      let new : Log = Came now Opened ∷ log in
      subst (λ (e : Course). AreBorne (taken_pieces p new) e) (sym r.5)
      (over (taken_pieces p new) (present log).is_open r.1.works r.1
      (left (Came now Opened) log r.0 r.1 r.4 (whole_pieces log r.0 r.2)))
  whole_pieces (Came now CutOff ∷ log) d r =
      let new : Log = Came now CutOff ∷ log in
      subst (λ (e : Course). AreBorne (taken_pieces p new) e) (sym r.5)
      (over (taken_pieces p new) (present log).is_open r.1.works r.1
      (left (Came now CutOff) log r.0 r.1 r.4 (whole_pieces log r.0 r.2)))
  whole_pieces (Came now Restarted ∷ log) d r =
      let new : Log = Came now Restarted ∷ log in
      subst (λ (e : Course). AreBorne (taken_pieces p new) e) (sym r.5.1)
      (over (taken_pieces p new) (present log).is_open r.1.works r.1
      (left (Came now Restarted) log r.0 r.1 r.4 (whole_pieces log r.0 r.2)))
  whole_pieces (Went now (LineOut octets) ∷ log) d r =
      subst (λ (e : Course). AreBorne (taken_pieces p (Went now (LineOut octets) ∷ log)) e)
      (sym r.2.is)
      (entered laws p (Went now (LineOut octets)) log r.0 (whole_pieces log r.0 r.1))
  whole_pieces (Went now (GapOut station session) ∷ log) d r =
      subst (λ (e : Course). AreBorne (taken_pieces p log) e) (sym r.2.is)
      (whole_pieces log r.0 r.1)
  whole_pieces (Went now (TcpOut octets) ∷ log) d r =
      subst (λ (e : Course). AreBorne (taken_pieces p log) e) (sym r.4.taken)
      (frames (taken_pieces p log) p r.4.frames _ _ r.1
      (subst (λ (e : Course). AreBorne (taken_pieces p log) e) (sym r.3.put)
      (sent p log r.3.frame (latest log) r.0 r.3.next (whole_pieces log r.0 r.2))))
  whole_pieces (Went now (Closed cause) ∷ log) d r =
      subst (λ (e : Course). AreBorne (taken_pieces p log) e) (sym r.2)
      (closed (taken_pieces p log) p cause (present log).is_open (latest log) r.0
      (whole_pieces log r.0 r.1))
