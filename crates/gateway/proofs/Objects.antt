-- Where the objects taken are: acknowledged, sent, or unsent.
use Rattle.std.proofs.Common.{◌≡◌, ℕ, suc, ◌+◌, ◌-◌, ◌≤◌, Bool, true, false, not, ◌==◌, cond, List}
use Rattle.std.proofs.Common.{[], ◌∷◌, ◌++◌, length, take, drop, refl, ap, sym, subst, ◌∙◌, arith}
use Rattle.std.proofs.Common.{inl, inr, append_assoc}
use Rattle.std.specs.List.{flat_map, list_all}
use Rattle.std.proofs.lemmas.List.{length-drop, length-append, length-take, take_at, drop_at}
use Rattle.std.proofs.lemmas.List.{take-append-le, drop-append-le, take-append-drop, append-nil}
use Rattle.std.proofs.lemmas.List.{nil_from_length}
use Rattle.std.proofs.lemmas.List.Folds.{list_all-append}
use Rattle.std.proofs.lemmas.Grind.{flat_map-append}
use Rattle.std.proofs.lemmas.Bool.{cases_lt, and_parts, and_from}
use Rattle.std.proofs.lemmas.Bool.Decides.{nat_tests}
use Rattle.session.specs.Session.{Session}
use Rattle.gateway.specs.Objects.{objects, has_objects}
use Rattle.asdu.specs.InformationObjects.{InformationObject}
use Rattle.gateway.specs.Frames.{Connection, Sent, acknowledged_count, acknowledged_frames}
use Rattle.gateway.specs.Frames.{objects_of_frames, first_unacknowledged, acknowledged_reports}
use Rattle.gateway.specs.Frames.{reports_among, AreInOrder}
use Rattle.gateway.specs.Agrees.{Carries, Tied, pieces_of}
use Rattle.gateway.proofs.Pieces.{objects-pieces_of, all-pieces_of, pieces_of-append}

-- a run stays one as more is taken
pub run_grows : {A : Type 0} (run objs more : List A) (start : ℕ)
    → run ≡ take (length run) (drop start objs)
    → run ≡ take (length run) (drop start (objs ++ more))
run_grows run objs more start h =
    let within : length run ≤ length objs - start = omega (
      arith,
      ap length h,
      length-take (length run) (drop start objs),
      length-drop start objs,
    ) in
    elim (cases_lt (length objs) start) [
      | inl past ↦ (let none : run ≡ [] = nil_from_length run (omega arith) in rw none refl)
      | inr le ↦ h ∙ sym (ap (take (length run)) (drop-append-le start objs more le)
          ∙ take-append-le (length run) (drop start objs) more
          (omega (arith, length-drop start objs)))
    ]

pub orders_grow : (objs more : List InformationObject) (cs : List Connection) → AreInOrder objs cs
    → AreInOrder (objs ++ more) cs
orders_grow objs more [] h = tt
orders_grow objs more (c ∷ before) h = (
  record {
    run = run_grows (objects_of_frames c.sent_frames) objs more (first_unacknowledged before)
        h.0.run;
    numbered = h.0.numbered;
  },
  orders_grow objs more before h.1,
)

-- How many frames have objects

reports_by : (f : Sent) (n m : ℕ) (b : Bool) → cond b (suc (n + m)) (n + m) ≡ cond b (suc n) n + m
reports_by f n m true = omega arith
reports_by f n m false = refl

reports_among-append : (xs ys : List Sent) → reports_among (xs ++ ys) ≡ reports_among xs
    + reports_among ys
reports_among-append [] ys = omega arith
reports_among-append (x ∷ xs) ys =
    ap (λ n. cond (has_objects x.asdu) (suc n) n) (reports_among-append xs ys)
    ∙ reports_by x (reports_among xs) (reports_among ys) (has_objects x.asdu)

length_by : (f : Sent) (rest : List (List ℕ)) (n : ℕ) (b : Bool) → length rest ≡ n
    → length (cond b (f.asdu ∷ rest) rest) ≡ cond b (suc n) n
length_by f rest n true h = omega (arith, h)
length_by f rest n false h = h

pub length-pieces_of : (fs : List Sent) → length (pieces_of fs) ≡ reports_among fs
length-pieces_of [] = refl
length-pieces_of (f ∷ fs) = length_by f (pieces_of fs) (reports_among fs) (has_objects f.asdu)
    (length-pieces_of fs)

one_report : (f : Sent) → has_objects f.asdu ≡ true → reports_among (f ∷ []) ≡ 1
one_report f has = ap (λ b. cond b 1 0) has

-- What is carried

pub carries_more : (objs new : List InformationObject) (parts : ℕ) (all : List (List ℕ))
    (earlier : List Connection) (sent : List Sent)
    (unsent more : List (List ℕ)) → flat_map objects more ≡ new → list_all has_objects more ≡ true
    → Carries objs parts all earlier sent unsent →
    Carries (objs ++ new) (parts + length more) (all ++ more) earlier sent (unsent ++ more)
carries_more objs new parts all earlier sent unsent more e whole h =
    subst (λ xs. Carries (objs ++ xs) (parts + length more) (all ++ more) earlier sent
    (unsent ++ more)) e (record {
      whole = list_all-append has_objects unsent more ∙ and_from _ _ h.whole whole;
      gone = h.gone;
      front = h.front;
      joined =
          let said : List InformationObject = objects_of_frames sent in
          let left : List InformationObject = flat_map objects unsent in
          let added : List InformationObject = flat_map objects more in
          ap (λ xs. xs ++ added) h.joined ∙ append_assoc h.gone (said ++ left) added
          ∙ ap (λ xs. h.gone ++ xs) (append_assoc said left added
          ∙ ap (λ xs. said ++ xs) (sym (flat_map-append objects unsent more)));
      count = omega (arith, h.count, length-append unsent more);
      gone_pieces = h.gone_pieces;
      gone_count = h.gone_count;
      spelled = ap (λ xs. xs ++ more) h.spelled
          ∙ append_assoc h.gone_pieces (pieces_of sent ++ unsent) more
          ∙ ap (λ xs. h.gone_pieces ++ xs) (append_assoc (pieces_of sent) unsent more);
    })

-- the frame that carries the oldest unsent piece
pub carries_piece : (objs : List InformationObject) (parts : ℕ) (all : List (List ℕ))
    (earlier : List Connection) (sent : List Sent)
    (unsent rest : List (List ℕ)) (f : Sent) → unsent ≡ f.asdu ∷ rest → has_objects f.asdu ≡ true
    → Carries objs parts all earlier sent unsent →
    Carries objs parts all earlier (sent ++ f ∷ []) (drop 1 unsent)
carries_piece objs parts all earlier sent unsent rest f e has h = record {
  whole = subst (λ u. list_all has_objects (drop 1 u) ≡ true) (sym e)
      (and_parts (has_objects f.asdu) (list_all has_objects rest)
      (subst (λ u. list_all has_objects u ≡ true) e h.whole)).1;
  gone = h.gone;
  front = h.front;
  joined = h.joined ∙ ap (λ xs. h.gone ++ xs)
      (ap (λ u. objects_of_frames sent ++ flat_map objects u) e
      ∙ sym (append_assoc (objects_of_frames sent) (objects f.asdu) (flat_map objects rest))
      ∙ ap (λ xs. (objects_of_frames sent ++ xs) ++ flat_map objects rest)
      (sym (append-nil (objects f.asdu)))
      ∙ ap (λ xs. xs ++ flat_map objects rest)
      (sym (flat_map-append (λ (f : Sent). objects f.asdu) sent (f ∷ [])))
      ∙ ap (λ u. objects_of_frames (sent ++ f ∷ []) ++ flat_map objects (drop 1 u)) (sym e));
  count =
      let before : length unsent ≡ suc (length rest) = ap length e in
      let after : length (drop 1 unsent) ≡ length rest = ap (λ u. length (drop 1 u)) e in
      omega (arith, h.count, before, after, reports_among-append sent (f ∷ []), one_report f has);
  gone_pieces = h.gone_pieces;
  gone_count = h.gone_count;
  spelled = h.spelled ∙ ap (λ xs. h.gone_pieces ++ xs)
      (ap (λ u. pieces_of sent ++ u) e
      ∙ sym (append_assoc (pieces_of sent) (f.asdu ∷ []) rest)
      ∙ ap (λ xs. (pieces_of sent ++ xs) ++ rest) (sym (ap (λ b. cond b (f.asdu ∷ []) []) has))
      ∙ ap (λ xs. xs ++ rest) (sym (pieces_of-append sent (f ∷ [])))
      ∙ ap (λ u. pieces_of (sent ++ f ∷ []) ++ drop 1 u) (sym e));
}

-- its objects are the next of those taken
pub next_objects : (objs : List InformationObject) (parts : ℕ) (all : List (List ℕ))
    (earlier : List Connection) (sent : List Sent)
    (unsent rest : List (List ℕ)) (asdu : List ℕ) → unsent ≡ asdu ∷ rest
    → Carries objs parts all earlier sent unsent →
    objects asdu
    ≡ take (length (objects asdu))
    (drop (first_unacknowledged earlier + length (objects_of_frames sent))
    objs)
next_objects objs parts all earlier sent unsent rest asdu e h =
    let said : List InformationObject = objects_of_frames sent in
    let n : ℕ = first_unacknowledged earlier + length said in
    let is : objs ≡ (h.gone ++ said) ++ (objects asdu ++ flat_map objects rest) = h.joined
    ∙ ap (λ u. h.gone ++ (said ++ flat_map objects u)) e
    ∙ sym (append_assoc h.gone said (objects asdu ++ flat_map objects rest)) in
    sym (ap (λ xs. take (length (objects asdu)) (drop n xs)) is
    ∙ ap (take (length (objects asdu)))
    (drop_at (h.gone ++ said) (objects asdu ++ flat_map objects rest) n
    (omega (arith, length-append h.gone said, h.front)))
    ∙ take_at (objects asdu) (flat_map objects rest) (length (objects asdu)) refl)

-- and it is the next of the pieces
pub next_piece : (objs : List InformationObject) (parts : ℕ) (all : List (List ℕ))
    (earlier : List Connection)
    (sent : List Sent) (unsent rest : List (List ℕ)) (asdu : List ℕ) → unsent ≡ asdu ∷ rest
    → Carries objs parts all earlier sent unsent →
    take 1 (drop (acknowledged_reports earlier + reports_among sent) all) ≡ asdu ∷ []
next_piece objs parts all earlier sent unsent rest asdu e h =
    let said : List (List ℕ) = pieces_of sent in
    let n : ℕ = acknowledged_reports earlier + reports_among sent in
    let is : all ≡ (h.gone_pieces ++ said) ++ (asdu ∷ rest) = h.spelled
    ∙ ap (λ u. h.gone_pieces ++ (said ++ u)) e
    ∙ sym (append_assoc h.gone_pieces said (asdu ∷ rest)) in
    ap (λ xs. take 1 (drop n xs)) is
    ∙ ap (take 1) (drop_at (h.gone_pieces ++ said) (asdu ∷ rest) n
    (omega (arith, length-append h.gone_pieces said, h.gone_count, length-pieces_of sent)))

-- the frame of an own answer
no_objects : (asdu : List ℕ) → has_objects asdu ≡ false → objects asdu ≡ []
no_objects asdu h = nil_from_length (objects asdu) (zero_length (length (objects asdu)) h)
  where
    zero_length : (n : ℕ) → not (n == 0) ≡ false → n ≡ 0
    zero_length n h = grind (arith, nat_tests)

pub carries_own : (objs : List InformationObject) (parts : ℕ) (all : List (List ℕ))
    (earlier : List Connection) (sent : List Sent)
    (unsent : List (List ℕ)) (f : Sent) → has_objects f.asdu ≡ false
    → Carries objs parts all earlier sent unsent
    → Carries objs parts all earlier (sent ++ f ∷ []) unsent
carries_own objs parts all earlier sent unsent f none h = record {
  whole = h.whole;
  gone = h.gone;
  front = h.front;
  joined = h.joined ∙ ap (λ xs. h.gone ++ (xs ++ flat_map objects unsent))
      (sym (flat_map-append (λ (f : Sent). objects f.asdu) sent (f ∷ [])
      ∙ ap (λ os. objects_of_frames sent ++ (os ++ [])) (no_objects f.asdu none)
      ∙ append-nil (objects_of_frames sent)));
  count = omega (arith, h.count, reports_among-append sent (f ∷ []), none_reported);
  gone_pieces = h.gone_pieces;
  gone_count = h.gone_count;
  spelled = h.spelled ∙ ap (λ xs. h.gone_pieces ++ (xs ++ unsent))
      (sym (pieces_of-append sent (f ∷ [])
      ∙ ap (λ xs. pieces_of sent ++ xs) (ap (λ b. cond b (f.asdu ∷ []) []) none)
      ∙ append-nil (pieces_of sent)));
}
  where
    none_reported : reports_among (f ∷ []) ≡ 0
    none_reported = ap {B = ℕ} (λ b. cond b 1 0) none

pub first_whole : (objs : List InformationObject) (parts : ℕ) (all : List (List ℕ))
    (earlier : List Connection) (sent : List Sent)
    (unsent rest : List (List ℕ)) (asdu : List ℕ) → unsent ≡ asdu ∷ rest
    → Carries objs parts all earlier sent unsent
    → has_objects asdu ≡ true
first_whole objs parts all earlier sent unsent rest asdu e h =
    (and_parts (has_objects asdu) (list_all has_objects rest)
    (subst (λ u. list_all has_objects u ≡ true) e h.whole)).0

-- the sent objects: those of the acknowledged frames, and those that the queue keeps as sent
split_objects : (c : Connection) (s : Session) (pieces : List (List ℕ)) → Tied c s pieces
    → objects_of_frames c.sent_frames ≡ objects_of_frames (acknowledged_frames c)
    ++ flat_map objects pieces
split_objects c s pieces h =
    let n : ℕ = acknowledged_count c.received_frames in
    ap objects_of_frames (sym (take-append-drop n c.sent_frames))
    ∙ flat_map-append (λ (f : Sent). objects f.asdu) (take n c.sent_frames) (drop n c.sent_frames)
    ∙ ap (λ xs. objects_of_frames (take n c.sent_frames) ++ xs)
    (sym (objects-pieces_of (drop n c.sent_frames))
    ∙ ap (flat_map objects) (sym h.unconfirmed.pieces_are))

-- and so are the pieces
split_pieces : (c : Connection) (s : Session) (pieces : List (List ℕ)) → Tied c s pieces
    → pieces_of c.sent_frames ≡ pieces_of (acknowledged_frames c) ++ pieces
split_pieces c s pieces h =
    let n : ℕ = acknowledged_count c.received_frames in
    ap pieces_of (sym (take-append-drop n c.sent_frames))
    ∙ pieces_of-append (take n c.sent_frames) (drop n c.sent_frames)
    ∙ ap (λ xs. pieces_of (take n c.sent_frames) ++ xs) (sym h.unconfirmed.pieces_are)

-- and so with the frames
pub split_reports : (c : Connection) (s : Session) (pieces : List (List ℕ)) → Tied c s pieces
    → reports_among c.sent_frames ≡ reports_among (acknowledged_frames c) + length pieces
split_reports c s pieces h =
    let n : ℕ = acknowledged_count c.received_frames in
    ap reports_among (sym (take-append-drop n c.sent_frames))
    ∙ reports_among-append (take n c.sent_frames) (drop n c.sent_frames)
    ∙ ap (λ k. reports_among (take n c.sent_frames) + k)
    (sym (length-pieces_of (drop n c.sent_frames))
    ∙ ap length (sym h.unconfirmed.pieces_are))

-- what the open connection sent is a run
pub run_now : (objs : List InformationObject) (parts : ℕ) (all : List (List ℕ))
    (earlier : List Connection) (sent : List Sent)
    (unsent : List (List ℕ)) → Carries objs parts all earlier sent unsent
    → objects_of_frames sent
    ≡ take (length (objects_of_frames sent)) (drop (first_unacknowledged earlier) objs)
run_now objs parts all earlier sent unsent h =
    let said : List InformationObject = objects_of_frames sent in
    sym (ap (λ xs. take (length said) (drop (first_unacknowledged earlier) xs)) h.joined
    ∙ ap (take (length said)) (drop_at h.gone (said ++ flat_map objects unsent)
    (first_unacknowledged earlier) h.front)
    ∙ take_at said (flat_map objects unsent) (length said) refl)

-- the connection ends
pub carries_end : (objs : List InformationObject) (parts : ℕ) (all : List (List ℕ))
    (earlier : List Connection) (c : Connection)
    (s : Session) (pieces unsent : List (List ℕ)) → Tied c s pieces
    → Carries objs parts all earlier c.sent_frames unsent
    → Carries objs parts all (c ∷ earlier) [] (pieces ++ unsent)
carries_end objs parts all earlier c s pieces unsent tied h =
    let n : ℕ = acknowledged_count c.received_frames in
    let gone : List InformationObject = objects_of_frames (take n c.sent_frames) in
    record {
      whole = list_all-append has_objects pieces unsent
          ∙ and_from _ _ (ap (list_all has_objects) tied.unconfirmed.pieces_are
          ∙ all-pieces_of (drop n c.sent_frames)) h.whole;
      gone = h.gone ++ gone;
      front = omega (arith, length-append h.gone gone, h.front);
      joined = h.joined
          ∙ ap (λ xs. h.gone ++ (xs ++ flat_map objects unsent)) (split_objects c s pieces tied)
          ∙ ap (λ xs. h.gone ++ xs) (append_assoc gone (flat_map objects pieces)
          (flat_map objects unsent))
          ∙ sym (append_assoc h.gone gone (flat_map objects pieces ++ flat_map objects unsent))
          ∙ ap (λ xs. (h.gone ++ gone) ++ xs) (sym (flat_map-append objects pieces unsent));
      count = omega (arith, h.count, split_reports c s pieces tied, length-append pieces unsent);
      gone_pieces = h.gone_pieces ++ pieces_of (take n c.sent_frames);
      gone_count = omega (
        arith,
        length-append h.gone_pieces (pieces_of (take n c.sent_frames)),
        h.gone_count,
        length-pieces_of (take n c.sent_frames),
      );
      spelled = h.spelled
          ∙ ap (λ xs. h.gone_pieces ++ (xs ++ unsent)) (split_pieces c s pieces tied)
          ∙ ap (λ xs. h.gone_pieces ++ xs) (append_assoc (pieces_of (take n c.sent_frames)) pieces
          unsent)
          ∙ sym (append_assoc h.gone_pieces (pieces_of (take n c.sent_frames)) (pieces ++ unsent));
    }
