-- What has come of the frames that were handed to TCP: the first of them, since no spelling begins
-- another.
use Rattle.std.proofs.Common.{◌≡◌, ℕ, suc, ◌≤◌, List, [], ◌∷◌, ◌++◌, length, take, drop}
use Rattle.std.proofs.Common.{refl, sym, ap, subst, ◌∙◌, append_assoc, length-append, arith}
use Rattle.std.proofs.lemmas.Grind.{flat_map-append}
use Rattle.std.proofs.lemmas.List.{append-nil}
use Rattle.asdu.specs.InformationObjects.{InformationObject}
use Rattle.apci.specs.declared.apdu.Apdu.{Apdu}
use Rattle.apci.specs.declared.apdu.Apdu.TheVariants.{I, S, U}
use Rattle.apci.specs.Spelling.{spelling}
use Rattle.gateway.specs.Objects.{objects}
use Rattle.gateway.specs.Streams.{spelled, AreFrames}
use Rattle.gateway.specs.Connections.{Channel, IsBegun, IsConnection, AreConnections}
use Rattle.gateway.specs.Frames.{Connection, Sent, data_frames, objects_of_frames}
use Rattle.gateway.specs.Frames.{IsInOrder, AreInOrder, IsNumberedFrom, first_unacknowledged}
use Rattle.gateway.specs.Frames.{acknowledged_count, acknowledged_frames}
use Rattle.delivery.specs.Received.{HasCome, HaveCome, IsRun, AreRuns, AcknowledgeWhatCame}
use Rattle.delivery.specs.Received.{received_on, IsOneRun}
use Rattle.delivery.proofs.Parts.{IsPart, part_begins, put_run, put_length, fewer}

-- Frames, the oldest first

abbrev pub up : List Apdu → List Apdu
up [] = []
up (frame ∷ older) = up older ++ frame ∷ []

abbrev pub spelled_up : List Apdu → List ℕ
spelled_up [] = []
spelled_up (frame ∷ newer) = spelling frame ++ spelled_up newer

abbrev pub data_up : List Apdu → List Sent
data_up [] = []
data_up (I ns nr asdu ∷ newer) = record { ns = ns; nr = nr; asdu = asdu.items } ∷ data_up newer
data_up (S nr ∷ newer) = data_up newer
data_up (U u ∷ newer) = data_up newer

spelled_both : (xs ys : List Apdu) → spelled_up (xs ++ ys) ≡ spelled_up xs ++ spelled_up ys
spelled_both [] ys = refl
spelled_both (x ∷ xs) ys = ap (λ (l : List ℕ). spelling x ++ l) (spelled_both xs ys)
    ∙ sym (append_assoc (spelling x) (spelled_up xs) (spelled_up ys))

data_both : (xs ys : List Apdu) → data_up (xs ++ ys) ≡ data_up xs ++ data_up ys
data_both [] ys = refl
data_both (I ns nr asdu ∷ xs) ys =
    ap (λ (l : List Sent). record { ns = ns; nr = nr; asdu = asdu.items } ∷ l) (data_both xs ys)
data_both (S nr ∷ xs) ys = data_both xs ys
data_both (U u ∷ xs) ys = data_both xs ys

spelled_is : (xs : List Apdu) → spelled xs ≡ spelled_up (up xs)
spelled_is [] = refl
spelled_is (x ∷ xs) = ap (λ (l : List ℕ). l ++ spelling x) (spelled_is xs)
    ∙ ap (λ (l : List ℕ). spelled_up (up xs) ++ l) (sym (append-nil (spelling x)))
    ∙ sym (spelled_both (up xs) (x ∷ []))

data_is : (xs : List Apdu) → data_frames xs ≡ data_up (up xs)
data_is [] = refl
data_is (I ns nr asdu ∷ xs) =
    ap (λ (l : List Sent). l ++ record { ns = ns; nr = nr; asdu = asdu.items } ∷ []) (data_is xs)
    ∙ sym (data_both (up xs) (I ns nr asdu ∷ []))
data_is (S nr ∷ xs) =
    data_is xs ∙ sym (append-nil (data_up (up xs))) ∙ sym (data_both (up xs) (S nr ∷ []))
data_is (U u ∷ xs) =
    data_is xs ∙ sym (append-nil (data_up (up xs))) ∙ sym (data_both (up xs) (U u ∷ []))

-- What is in a beginning of the octets

abbrev pub AreCancelled : Type 0
AreCancelled = (a b : Apdu) (x y : List ℕ) → spelling a ++ x ≡ spelling b ++ y → (a ≡ b) × (x ≡ y)

no_octets : (x : Apdu) (rest : List ℕ) → [] ≡ spelling x ++ rest → ⊥
no_octets x rest h =
    let count = ap (λ (l : List ℕ). length l) h in
    omega (arith, count, length-append (spelling x) rest)

frames_begin : AreCancelled → (us vs : List Apdu) (rest : List ℕ)
    → spelled_up vs ≡ spelled_up us ++ rest → IsPart us vs
frames_begin cancel [] vs rest h = record { more = vs; is = refl }
frames_begin cancel (u ∷ us) [] rest h =
    absurd (no_octets u (spelled_up us ++ rest)
    (h ∙ append_assoc (spelling u) (spelled_up us) rest))
frames_begin cancel (u ∷ us) (v ∷ vs) rest h =
    let same = cancel v u (spelled_up vs) (spelled_up us ++ rest)
    (h ∙ append_assoc (spelling u) (spelled_up us) rest) in
    let part : IsPart us vs = frames_begin cancel us vs rest same.1 in
    record {
      more = part.more;
      is = ap (λ (f : Apdu). f ∷ vs) same.0 ∙ ap (λ (l : List Apdu). u ∷ l) part.is;
    }

-- the frames that came are the first that were handed over
came_part : AreCancelled → (handed : List ℕ) (put : List Apdu) (came : List Sent)
    → HasCome handed came → AreFrames handed put → IsPart came (data_frames put)
came_part cancel handed put came h f =
    let read : spelled_up (up put) ≡ spelled_up (up h.frames) ++ (h.part ++ h.lost) =
    sym (spelled_is put) ∙ sym f.joined ∙ h.beginning
    ∙ ap (λ (l : List ℕ). l ++ h.lost)
    (h.joined ∙ ap (λ (l : List ℕ). l ++ h.part) (spelled_is h.frames))
    ∙ append_assoc (spelled_up (up h.frames)) h.part h.lost in
    let part : IsPart (up h.frames) (up put) =
    frames_begin cancel (up h.frames) (up put) (h.part ++ h.lost) read in
    record {
      more = data_up part.more;
      is = data_is put ∙ ap data_up part.is ∙ data_both (up h.frames) part.more
          ∙ ap (λ (l : List Sent). l ++ data_up part.more) (sym (data_is h.frames) ∙ sym h.read);
    }

sent_part : (came sent put : List Sent) → sent ≡ put → IsPart came put → IsPart came sent
sent_part came sent put is part = record { more = part.more; is = is ∙ part.is }

-- the connections' own frames begin with those that came
pub ArePartsOf : List Connection → List (List Sent) → Type 0
ArePartsOf [] [] = Unit {0}
ArePartsOf (c ∷ before) (came ∷ earlier) = IsPart came c.sent_frames × ArePartsOf before earlier
ArePartsOf _ _ = ⊥

past_parts : AreCancelled → (past : List Channel) (before : List Connection)
    (came : List (List Sent)) → AreConnections past before → HaveCome past came
    → ArePartsOf before came
unfolding ArePartsOf
past_parts cancel [] [] [] a h = tt
past_parts cancel [] [] (x ∷ came) a h = absurd h
past_parts cancel [] (c ∷ before) came a h = absurd a
past_parts cancel (octets ∷ past) [] came a h = absurd a
past_parts cancel (octets ∷ past) (c ∷ before) [] a h = absurd h
past_parts cancel (octets ∷ past) (c ∷ before) (x ∷ came) a h =
    let is : IsConnection octets c a.0 = a.1 in (
      sent_part x c.sent_frames (data_frames is.put) is.sent
          (came_part cancel octets.sent is.put x h.0 is.handed),
      past_parts cancel past before came a.2 h.1,
    )

pub all_parts : AreCancelled → (octets : Channel) (past : List Channel) (c : Connection)
    (before : List Connection) (came : List (List Sent)) → IsBegun octets c
    → AreConnections past before → HaveCome (octets ∷ past) came → ArePartsOf (c ∷ before) came
unfolding ArePartsOf
all_parts cancel octets past c before [] b a h = absurd h
all_parts cancel octets past c before (x ∷ came) b a h = (
  sent_part x c.sent_frames (data_frames b.put) b.sent
      (came_part cancel octets.sent b.put x h.0 b.handed),
  past_parts cancel past before came a h.1,
)

-- Runs

numbered_part : (n : ℕ) (came more : List Sent) → IsNumberedFrom n (came ++ more)
    → IsNumberedFrom n came
numbered_part n [] more h = tt
numbered_part n (f ∷ came) more h = (h.0, numbered_part (suc n) came more h.1)

part_run : (taken : List InformationObject) (c : Connection) (before : List Connection)
    (came : List Sent) → IsInOrder taken c before → IsPart came c.sent_frames
    → IsRun taken came before
part_run taken c before came o part =
    let rest = drop (first_unacknowledged before) taken in
    let both = ap objects_of_frames part.is
    ∙ flat_map-append (λ (f : Sent). objects f.asdu) came part.more in
    record {
      run = part_begins (objects_of_frames came) (objects_of_frames part.more) rest
          (subst (λ (l : List InformationObject). l ≡ take (length l) rest) both o.run);
      numbered = numbered_part 0 came part.more
          (subst (λ (l : List Sent). IsNumberedFrom 0 l) part.is o.numbered);
    }

pub are_runs : (taken : List InformationObject) (connections : List Connection)
    (came : List (List Sent)) → AreInOrder taken connections → ArePartsOf connections came
    → AreRuns taken connections came
unfolding ArePartsOf
are_runs taken [] [] o parts = tt
are_runs taken [] (x ∷ came) o parts = absurd parts
are_runs taken (c ∷ before) [] o parts = absurd parts
are_runs taken (c ∷ before) (x ∷ came) o parts =
    (part_run taken c before x o.0 parts.0, are_runs taken before came o.1 parts.1)

-- what a connection acknowledged has come, if it acknowledges only what came
acknowledged_came : (c : Connection) (came : List Sent) → IsPart came c.sent_frames
    → acknowledged_count c.received_frames ≤ length came
    → length (objects_of_frames (acknowledged_frames c)) ≤ length (objects_of_frames came)
acknowledged_came c came part le =
    let count = acknowledged_count c.received_frames in
    let fits = fewer (λ (f : Sent). objects f.asdu) count came part.more le in
    subst (λ (l : List Sent). length (objects_of_frames (take count l))
    ≤ length (objects_of_frames came)) (sym part.is) fits

pub one_run : (taken : List InformationObject) (connections : List Connection)
    (came : List (List Sent)) → AreInOrder taken connections → ArePartsOf connections came
    → AcknowledgeWhatCame connections came → IsOneRun taken connections came
unfolding ArePartsOf
one_run taken [] [] o parts ack = record { run = refl; acknowledged = omega arith }
one_run taken [] (x ∷ came) o parts ack = absurd parts
one_run taken (c ∷ before) [] o parts ack = absurd parts
one_run taken (c ∷ before) (x ∷ came) o parts ack =
    let all : IsOneRun taken before came = one_run taken before came o.1 parts.1 ack.1 in
    let here : IsRun taken x before = part_run taken c before x o.0 parts.0 in
    let place = first_unacknowledged before in
    let old = received_on before came in
    record {
      run = put_run place (objects_of_frames x) old taken all.acknowledged all.run here.run;
      acknowledged =
          let long = put_length place (objects_of_frames x) old taken all.acknowledged all.run
          here.run in
          omega (arith, long, acknowledged_came c x parts.0 ack.0);
    }
