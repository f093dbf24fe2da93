-- Of whom octets ask something, and who answers.
use Rattle.std.proofs.Common.{◌≡◌, ℕ, zero, suc, ◌/◌, ◌%◌, ◌<◌, ◌&&◌, Bool, true, false, List, []}
use Rattle.std.proofs.Common.{◌∷◌, length, get_or, map, Option, Some, None, refl, sym, ap, subst}
use Rattle.std.proofs.Common.{◌∙◌, inl, inr, arith, if◌then◌else◌}
use Rattle.std.specs.Prelude.{◌==◌, option_map, option_and_then}
use Rattle.std.specs.List.{AllByRecursion}
use Rattle.std.proofs.lemmas.List.{append-nil, take_all}
use Rattle.std.proofs.lemmas.Bool.{eqb-true, eq-eqb, ne_eqb}
use Rattle.ft12.specs.declared.frame.LinkSize.{LinkSize}
use Rattle.ft12.specs.declared.frame.Frame.{Frame}
use Rattle.ft12.specs.declared.frame.Frame.TheVariants.{Single, Fixed, Data}
use Rattle.ft12.specs.declared.frame.Front.{Front}
use Rattle.ft12.specs.declared.frame.Front.TheVariants.{Whole, More, Never}
use Rattle.ft12.specs.Fronts.{front_of}
use Rattle.ft12.specs.Reading.{IsFront}
use Rattle.ft12.specs.Spelling.{IsLineFrame, spelling}
use Rattle.link.specs.declared.service.Asked.{Asked}
use Rattle.link.specs.declared.request.Reading.{Reading}
use Rattle.link.specs.declared.request.Reading.TheVariants.{Foreign, Unknown, Asks}
use Rattle.link.specs.Exchanges.{Sending}
use Rattle.link.specs.Requests.{short_reading, data_reading, reading_of, asked_by, asked_in}
use Rattle.link.specs.Requests.{request_at, request_in}
use Rattle.link.specs.Secondary.{Secondary, received_reading, served, ReceivesOctets}
use Rattle.gateway.specs.Reports.{Setup, address_at, index_of, AreFound, sent_to, sending_in}
use Rattle.sim.specs.Lives.{later, ReceivedByAll}
use Rattle.sim.proofs.Below.{Laws}
use Rattle.sim.proofs.ReceivingLemmas.{later_none}

-- What a frame asks

asked_parts : (frame : Frame) (b a : ℕ) (r : Asked) → asked_by b (reading_of b frame) ≡ Some (a, r)
    → (b ≡ a) × (reading_of b frame ≡ Asks r)
asked_parts frame b a r e = go (reading_of b frame) e
  where
    go : (m : Reading) → asked_by b m ≡ Some (a, r) → (b ≡ a) × (m ≡ Asks r)
    go Foreign f = let bad : ⊥ = cc in absurd bad
    go Unknown f = let bad : ⊥ = cc in absurd bad
    go (Asks q) f =
        let one : ℕ × Asked = (b, q) in
        let other : ℕ × Asked = (a, r) in
        let same : one ≡ other = cc in
        (ap (λ (x : ℕ × Asked). x.0) same, ap (λ (x : ℕ × Asked). Asks x.1) same)

pub asked_frame : (frame : Frame) (a : ℕ) (r : Asked) → asked_in frame ≡ Some (a, r)
    → reading_of a frame ≡ Asks r
asked_frame Single a r e = cc
asked_frame (Fixed c b) a r e = let parts = asked_parts (Fixed c b) b a r e in
    subst (λ (x : ℕ). reading_of x (Fixed c b) ≡ Asks r) parts.0 parts.1
asked_frame (Data c b body) a r e = let parts = asked_parts (Data c b body) b a r e in
    subst (λ (x : ℕ). reading_of x (Data c b body) ≡ Asks r) parts.0 parts.1

second_is : (x y : Bool) (m : Reading) (r : Asked) → (if x && y then m else Foreign) ≡ Asks r
    → y ≡ true
second_is true true m r e = refl
second_is true false m r e = cc
second_is false y m r e = cc

reading_asked : (frame : Frame) (a : ℕ) (r : Asked) → reading_of a frame ≡ Asks r → asked_in frame
    ≡ Some (a, r)
reading_asked Single a r e = cc
reading_asked (Fixed c b) a r e =
    let same : b ≡ a = eqb-true b a (second_is (c / 64 % 2 == 1) (b == a) (short_reading c) r e) in
    subst (λ (x : ℕ). asked_by x (reading_of x (Fixed c b)) ≡ Some (a, r)) (sym same)
    (ap (asked_by a) e)
reading_asked (Data c b body) a r e =
    let same : b ≡ a =
    eqb-true b a (second_is (c / 64 % 2 == 1) (b == a) (data_reading c body.items) r e) in
    subst (λ (x : ℕ). asked_by x (reading_of x (Data c b body)) ≡ Some (a, r)) (sym same)
    (ap (asked_by a) e)

not_second : (x : Bool) (m : Reading) → (if x && false then m else Foreign) ≡ Foreign
not_second true m = refl
not_second false m = refl

reading_other : (frame : Frame) (a b : ℕ) (r : Asked) → asked_in frame ≡ Some (a, r) → (b ≡ a → ⊥)
    → reading_of b frame ≡ Foreign
reading_other Single a b r e never = refl
reading_other (Fixed c z) a b r e never =
    let at : z ≡ a = (asked_parts (Fixed c z) z a r e).0 in
    ap (λ (q : Bool). if (c / 64 % 2 == 1) && q then short_reading c else Foreign)
    (ne_eqb z b (λ f. never (sym f ∙ at))) ∙ not_second (c / 64 % 2 == 1) (short_reading c)
reading_other (Data c z body) a b r e never =
    let at : z ≡ a = (asked_parts (Data c z body) z a r e).0 in
    ap (λ (q : Bool). if (c / 64 % 2 == 1) && q then data_reading c body.items else Foreign)
    (ne_eqb z b (λ f. never (sym f ∙ at)))
    ∙ not_second (c / 64 % 2 == 1) (data_reading c body.items)

-- What octets ask

pub front_whole : (laws : Laws) (size : LinkSize) (octets : List ℕ) (frame : Frame)
    → IsLineFrame size frame octets
    → front_of size octets ≡ Whole frame (length octets)
front_whole laws size octets frame line =
    ap (front_of size) (line.spelled ∙ sym (append-nil (spelling size frame)))
    ∙ laws.spelled size frame [] line.fits
    ∙ ap (λ (xs : List ℕ). Whole frame (length xs)) (sym line.spelled)

request_is : (laws : Laws) (size : LinkSize) (octets : List ℕ) (frame : Frame)
    → IsLineFrame size frame octets
    → request_in size octets ≡ asked_in frame
request_is laws size octets frame line =
    ap (λ (f : Front). request_at (length octets) f) (front_whole laws size octets frame line)
    ∙ ap (λ (b : Bool). if b then asked_in frame else None)
    (eq-eqb (length octets) (length octets) refl)

-- a request is read from a whole frame
pub record IsReadFrom (size : LinkSize) (octets : List ℕ) (a : ℕ) (r : Asked) : Type 0 where
  pub frame : Frame
  pub line : IsLineFrame size frame octets
  pub asked : asked_in frame ≡ Some (a, r)

whole_asks : (size : LinkSize) (octets : List ℕ) (a : ℕ) (r : Asked) (frame : Frame) (n : ℕ)
    → IsFront size octets (Whole frame n) → request_at (length octets) (Whole frame n) ≡ Some (a, r)
    → IsReadFrom size octets a r
whole_asks size octets a r frame n right e = go (n == length octets) refl e
  where
    go : (b : Bool) → (n == length octets) ≡ b → (if b then asked_in frame else None) ≡ Some (a, r)
        → IsReadFrom size octets a r
    go true same f =
        let at : n ≡ length octets = eqb-true n (length octets) same in
        record {
          frame = frame;
          line = subst (IsLineFrame size frame) (take_all n octets (omega arith)) right.0;
          asked = f;
        }
    go false same f = let bad : ⊥ = cc in absurd bad

pub read_from : (laws : Laws) (size : LinkSize) (octets : List ℕ) (a : ℕ) (r : Asked)
    → request_in size octets ≡ Some (a, r) → IsReadFrom size octets a r
read_from laws size octets a r e = go (front_of size octets) (laws.right size octets) e
  where
    go : (f : Front) → IsFront size octets f → request_at (length octets) f ≡ Some (a, r)
        → IsReadFrom size octets a r
    go (Whole frame n) right e = whole_asks size octets a r frame n right e
    go More right e = let bad : ⊥ = cc in absurd bad
    go (Never place why) right e = let bad : ⊥ = cc in absurd bad

-- What a station does with octets

-- that ask nothing of it
pub quiet : (laws : Laws) (size : LinkSize) (octets : List ℕ) (s t : Secondary)
    (first : Option Frame) → s.size ≡ size
    → ((r : Asked) → request_in size octets ≡ Some (s.address, r) → ⊥) →
    ReceivesOctets s octets first t → t ≡ s
quiet laws size octets s t first same never (inl h) = h.2.2 ∙ go (reading_of s.address h.0) refl
  where
    go : (m : Reading) → reading_of s.address h.0 ≡ m → (received_reading h.2.0 s m).state ≡ s
    go Foreign e = refl
    go Unknown e = refl
    go (Asks r) e = absurd
        (never r
        (request_is laws size octets h.0 (subst (λ (z : LinkSize). IsLineFrame z h.0 octets) same
        h.1)
        ∙ reading_asked h.0 s.address r e))
quiet laws size octets s t first same never (inr h) = h.2

-- that ask something of another
silent_other : (laws : Laws) (size : LinkSize) (octets : List ℕ) (a : ℕ) (r : Asked)
    (u v : Secondary)
    (first : Option Frame) → u.size ≡ size → request_in size octets ≡ Some (a, r)
    → (u.address ≡ a → ⊥) →
    ReceivesOctets u octets first v → first ≡ None
silent_other laws size octets a r u v first same e never (inl h) =
    let asked : asked_in h.0 ≡ Some (a, r) =
    sym (request_is laws size octets h.0 (subst (λ (z : LinkSize). IsLineFrame z h.0 octets) same
    h.1)) ∙ e in
    h.2.1 ∙ ap (λ (m : Reading). (received_reading h.2.0 u m).turn.answer)
    (reading_other h.0 a u.address r asked never)
silent_other laws size octets a r u v first same e never (inr h) = h.1

-- that ask something of it
pub receives_asked : (laws : Laws) (size : LinkSize) (octets : List ℕ) (r : Asked) (s t : Secondary)
    (first : Option Frame) → s.size ≡ size → request_in size octets ≡ Some (s.address, r) →
    ReceivesOctets s octets first t → (granted : Bool) × (first ≡ (served granted s r).turn.answer)
    × (t ≡ (served granted s r).state)
receives_asked laws size octets r s t first same e (inl h) =
    let asked : asked_in h.0 ≡ Some (s.address, r) = sym
    (request_is laws size octets h.0 (subst (λ (z : LinkSize). IsLineFrame z h.0 octets) same h.1))
    ∙ e in
    let reads : reading_of s.address h.0 ≡ Asks r = asked_frame h.0 s.address r asked in (
      h.2.0,
      h.2.1 ∙ ap (λ (m : Reading). (received_reading h.2.0 s m).turn.answer) reads,
      h.2.2
          ∙ ap (λ (m : Reading). (received_reading h.2.0 s m).state) reads,
    )
receives_asked laws size octets r s t first same e (inr h) =
    let read = read_from laws size octets s.address r e in
    absurd
    (h.0 read.frame (subst (λ (z : LinkSize). IsLineFrame z read.frame octets) (sym same)
    read.line))

-- All receive

pub received_at : (octets : List ℕ) (ss ts : List Secondary) (answer : Option Frame) (k : ℕ)
    (d : Secondary)
    → ReceivedByAll octets ss answer ts → k < length ss →
    (first : Option Frame) × ReceivesOctets (get_or ss k d) octets first (get_or ts k d)
received_at octets [] ts answer k d h lt = absurd (omega arith)
received_at octets (s ∷ ss) [] answer k d h lt = absurd h
received_at octets (s ∷ ss) (t ∷ ts) answer zero d h lt = (h.0, h.2)
received_at octets (s ∷ ss) (t ∷ ts) answer (suc k) d h lt =
    received_at octets ss ts h.1 k d h.3 (omega arith)

all_silent : (laws : Laws) (size : LinkSize) (octets : List ℕ) (a : ℕ) (r : Asked)
    (ss ts : List Secondary)
    (answer : Option Frame) (d : Secondary) → request_in size octets ≡ Some (a, r) →
    AllByRecursion (λ s. s.size ≡ size) ss → ((j : ℕ) → j < length ss → (get_or ss j d).address ≡ a
    → ⊥)
    → ReceivedByAll octets ss answer ts → answer ≡ None
all_silent laws size octets a r [] [] answer d e sizes never h = h
all_silent laws size octets a r [] (t ∷ ts) answer d e sizes never h = absurd h
all_silent laws size octets a r (s ∷ ss) [] answer d e sizes never h = absurd h
all_silent laws size octets a r (s ∷ ss) (t ∷ ts) answer d e sizes never h =
    let one : h.0 ≡ None = silent_other laws size octets a r s t h.0 sizes.0 e
    (never 0 (omega arith)) h.2 in
    let rest : h.1 ≡ None = all_silent laws size octets a r ss ts h.1 d e sizes.1
    (λ j lt. never (suc j) (omega arith)) h.3 in
    h.4 ∙ ap (λ (x : Option Frame). later x h.1) one ∙ later_none h.1 ∙ rest

-- the one that is asked answers, and no other
pub received_joint : (laws : Laws) (size : LinkSize) (octets : List ℕ) (a : ℕ) (r : Asked)
    (ss ts : List Secondary)
    (answer : Option Frame) (k : ℕ) (d : Secondary) → request_in size octets ≡ Some (a, r) →
    AllByRecursion (λ s. s.size ≡ size) ss
    → ((j : ℕ) → j < length ss → (j ≡ k → ⊥) → (get_or ss j d).address ≡ a → ⊥)
    → k < length ss → ReceivedByAll octets ss answer ts →
    (first : Option Frame) × ReceivesOctets (get_or ss k d) octets first (get_or ts k d)
    × (answer ≡ first)
received_joint laws size octets a r [] ts answer k d e sizes never lt h = absurd (omega arith)
received_joint laws size octets a r (s ∷ ss) [] answer k d e sizes never lt h = absurd h
received_joint laws size octets a r (s ∷ ss) (t ∷ ts) answer zero d e sizes never lt h =
    let rest : h.1 ≡ None = all_silent laws size octets a r ss ts h.1 d e sizes.1
    (λ j less. never (suc j) (omega arith) (λ f. omega arith)) h.3 in
    (h.0, h.2, h.4 ∙ ap (λ (x : Option Frame). later h.0 x) rest)
received_joint laws size octets a r (s ∷ ss) (t ∷ ts) answer (suc k) d e sizes never lt h =
    let one : h.0 ≡ None = silent_other laws size octets a r s t h.0 sizes.0 e
    (never 0 (omega arith) (λ f. omega arith)) h.2 in
    let rest = received_joint laws size octets a r ss ts h.1 k d e sizes.1
    (λ j less other. never (suc j) (omega arith) (λ f. other (omega arith))) (omega arith) h.3 in
    (rest.0, rest.1, h.4 ∙ ap (λ (x : Option Frame). later x h.1) one ∙ later_none h.1 ∙ rest.2)

-- Whom octets ask

pub address_in : (ss : List Secondary) (k : ℕ) (d : Secondary) → k < length ss
    → address_at (map (λ (s : Secondary). s.address) ss) k ≡ (get_or ss k d).address
address_in [] k d lt = absurd (omega arith)
address_in (s ∷ ss) zero d lt = refl
address_in (s ∷ ss) (suc k) d lt = address_in ss k d (omega arith)

index_at : (a : ℕ) (addresses : List ℕ) (i : ℕ) → index_of a addresses ≡ Some i
    → address_at addresses i ≡ a
index_at a [] i e = cc
index_at a (b ∷ bs) i e = go (b == a) refl (index_of a bs) (λ j. index_at a bs j) e
  where
    go : (q : Bool) → (b == a) ≡ q → (m : Option ℕ) → ((j : ℕ) → m ≡ Some j → address_at bs j ≡ a)
        → (if q then Some 0 else option_map suc m) ≡ Some i → address_at (b ∷ bs) i ≡ a
    go true same m ih f = let z : 0 ≡ i = cc in
        subst (λ (n : ℕ). address_at (b ∷ bs) n ≡ a) z (eqb-true b a same)
    go false same None ih f = cc
    go false same (Some j) ih f = let z : suc j ≡ i = cc in
        subst (λ (n : ℕ). address_at (b ∷ bs) n ≡ a) z (ih j refl)

-- the octets ask nothing of the station with this index
abbrev pub IsNotTo : Setup → List ℕ → ℕ → Type 0
IsNotTo p octets i = (r : Asked) → request_in p.link.size octets
    ≡ Some (address_at p.addresses i, r) → ⊥

pub data Whom (p : Setup) (octets : List ℕ) (i : ℕ) : Type 0 where
  nobody : sending_in p octets ≡ None → IsNotTo p octets i → Whom p octets i
  other : (s : Sending) → sending_in p octets ≡ Some s → (s.station == i) ≡ false
      → IsNotTo p octets i → Whom p octets i
  this : (r : Asked) → sending_in p octets ≡ Some (record { station = i; request = r })
      → request_in p.link.size octets ≡ Some (address_at p.addresses i, r) → Whom p octets i

-- a request to the address a is none to the station with an address that isn't found at a's place
elsewhere : (p : Setup) (octets : List ℕ) (i : ℕ) (x : ℕ × Asked) → AreFound p.addresses
    → i < length p.addresses
    → request_in p.link.size octets ≡ Some x → (index_of x.0 p.addresses ≡ Some i → ⊥)
    → IsNotTo p octets i
elsewhere p octets i x found lt e never r f =
    let to : ℕ × Asked = (address_at p.addresses i, r) in
    let same : x ≡ to = cc in
    never (ap (λ (y : ℕ × Asked). index_of y.0 p.addresses) same ∙ found i lt)

sent : (p : Setup) (octets : List ℕ) (x : ℕ × Asked) (m : Option ℕ) → request_in p.link.size octets
    ≡ Some x
    → index_of x.0 p.addresses ≡ m →
    sending_in p octets ≡ option_map (λ (i : ℕ). let made : Sending =
    record { station = i; request = x.1 } in made) m
sent p octets x m e f =
    ap (λ o. option_and_then (sent_to p.addresses) o) e
    ∙ ap (λ o. option_map (λ (i : ℕ). let made : Sending = record { station = i; request = x.1 } in
    made) o) f

found_asked : (p : Setup) (octets : List ℕ) (i j : ℕ) (x : ℕ × Asked) → AreFound p.addresses
    → i < length p.addresses
    → request_in p.link.size octets ≡ Some x → index_of x.0 p.addresses ≡ Some j → Whom p octets i
found_asked p octets i j x found lt e f = go (j == i) refl
  where
    go : (b : Bool) → (j == i) ≡ b → Whom p octets i
    go true same =
        let here : j ≡ i = eqb-true j i same in
        let at : x.0 ≡ address_at p.addresses i =
        sym (index_at x.0 p.addresses i (f ∙ ap (λ (n : ℕ). Some n) here)) in
        this x.1 (sent p octets x (Some i) e (f ∙ ap (λ (n : ℕ). Some n) here)) (e
        ∙ ap (λ (a : ℕ). Some (a, x.1)) at)
    go false same =
        other (record { station = j; request = x.1 }) (sent p octets x (Some j) e f) same
        (elsewhere p octets i x found lt e (λ g. let here : j ≡ i = cc in
        let yes : (j == i) ≡ true = eq-eqb j i here in cc))

asked_of : (p : Setup) (octets : List ℕ) (i : ℕ) (x : ℕ × Asked) → AreFound p.addresses
    → i < length p.addresses
    → request_in p.link.size octets ≡ Some x → Whom p octets i
asked_of p octets i x found lt e = go (index_of x.0 p.addresses) refl
  where
    go : (m : Option ℕ) → index_of x.0 p.addresses ≡ m → Whom p octets i
    go None f = nobody (sent p octets x None e f) (elsewhere p octets i x found lt e (λ g. cc))
    go (Some j) f = found_asked p octets i j x found lt e f

pub whom : (p : Setup) (octets : List ℕ) (i : ℕ) → AreFound p.addresses → i < length p.addresses
    → Whom p octets i
whom p octets i found lt = go (request_in p.link.size octets) refl
  where
    go : (m : Option (ℕ × Asked)) → request_in p.link.size octets ≡ m → Whom p octets i
    go None e = nobody (ap (λ o. option_and_then (sent_to p.addresses) o) e) (λ r f. cc)
    go (Some x) e = asked_of p octets i x found lt e
