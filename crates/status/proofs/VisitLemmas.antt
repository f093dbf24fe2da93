-- Who comes has a free seat, and what a visitor is sent is the answer to his request.
use Rattle.std.proofs.Common.{◌≡◌, ◌≢◌, ℕ, ◌+◌, ◌<◌, ◌≤◌, true, false, List, [], ◌∷◌, ◌++◌, length}
use Rattle.std.proofs.Common.{take, drop, set, map, suc, get_or, Option, Some, None, refl, sym, ap}
use Rattle.std.proofs.Common.{subst}
use Rattle.std.proofs.Common.{◌∙◌, arith, append_assoc, drop-cons, if◌then◌else◌}
use Rattle.std.proofs.Math.Seq.{take-suc, take-suc-set}
use Rattle.std.proofs.lemmas.List.{append-nil, drop-set-lt, drop_all, length-set, map-append}
use Rattle.std.proofs.lemmas.List.{set_split}
use Rattle.std.proofs.lemmas.List.{take_all, take-append-drop}
use Rattle.std.proofs.lemmas.List.Elements.{AllZip-push, length_all_zip}
use Rattle.std.specs.Option.{is_none}
use Rattle.std.specs.List.{AllByRecursion, AllZip, IsAmong}
use Rattle.status.specs.Answer.{body_in, body_sent, has_body, head_of}
use Rattle.status.specs.Seats.{IsAsked, IsKept, Turned, answer_on, cleared}
use Rattle.status.specs.Streams.{Calls, IsNew, Passed}
use Rattle.status.specs.TextPage.{Sheet, empty, put, shown}
use Rattle.status.specs.Visits.{Came, GivesMore, HasRequest, HasSeat, IsNewcomer, IsSeated, IsSent}
use Rattle.status.specs.Visits.{IsSentAway, IsTaken, IsVisit, Place, Stayed, answer_of, place}
use Rattle.status.specs.declared.request.Inquiry.{Inquiry}
use Rattle.status.specs.declared.request.Inquiry.TheVariants.{Nothing}
use Rattle.status.specs.declared.seat.Client.{Client}
use Rattle.status.specs.declared.seat.Desk.{Desk}
use Rattle.status.specs.declared.seat.VisitStage.{VisitStage}
use Rattle.status.specs.declared.seat.VisitStage.TheVariants.{Receiving, Answering, Leaving}
use Rattle.status.specs.declared.snapshot.Snapshot.{Snapshot}
use Rattle.status.proofs.SeatLemmas.{for_some, kept_new, some_same}

-- What passed

-- Seats one behind another

head_same : {A : Type 0} {a b : A} {xs ys : List A} → a ∷ xs ≡ b ∷ ys → a ≡ b
head_same e = cc

tail_same : {A : Type 0} {a b : A} {xs ys : List A} → a ∷ xs ≡ b ∷ ys → xs ≡ ys
tail_same e = cc

module _ {X : Type 0} (old xs : List X) (i : ℕ) (x y : X) (lt : i < length xs)
    (long : length xs ≡ length old) (same : drop i xs ≡ drop i old) where
  both : get_or xs i x ∷ drop (suc i) xs ≡ get_or old i x ∷ drop (suc i) old
  both =
      let within : i < length old = omega arith in
      sym (drop-cons xs i x lt) ∙ same ∙ drop-cons old i x within

  -- the next seat has had its turn
  pub zip_more : (R : X → X → Type 0) → AllZip R (take i old) (take i xs) → R (get_or xs i x) y
      → AllZip R (take (i + 1) old) (take (i + 1) (set xs i y))
  zip_more R before here =
      let next : suc i ≡ i + 1 = omega arith in
      let within : i < length old = omega arith in
      let front : take (i + 1) old ≡ take i old ++ get_or xs i x ∷ [] =
      ap (λ (n : ℕ). take n old) (sym next) ∙ take-suc old i x within
      ∙ ap (λ (z : X). take i old ++ z ∷ []) (sym (head_same both)) in
      let front' : take (i + 1) (set xs i y) ≡ take i xs ++ y ∷ [] =
      ap (λ (n : ℕ). take n (set xs i y)) (sym next) ∙ take-suc-set xs i y lt in
      subst (λ (l : List X). AllZip R l (take (i + 1) (set xs i y))) (sym front)
      (subst (λ (l : List X). AllZip R (take i old ++ get_or xs i x ∷ []) l) (sym front')
      (AllZip-push R (take i old) (take i xs) (get_or xs i x) y before here))

  -- those behind it haven't
  pub drop_more : drop (i + 1) (set xs i y) ≡ drop (i + 1) old
  drop_more =
      let next : suc i ≡ i + 1 = omega arith in
      drop-set-lt (i + 1) xs i y (omega arith) ∙ ap (λ (n : ℕ). drop n xs) (sym next)
      ∙ tail_same both ∙ ap (λ (n : ℕ). drop n old) next

-- all have had it
pub zip_done : {X : Type 0} (R : X → X → Type 0) (old xs : List X) (i : ℕ) → length xs ≤ i
    → length xs ≡ length old → AllZip R (take i old) (take i xs) → AllZip R old xs
zip_done {X} R old xs i le long all =
    subst (λ (l : List X). AllZip R l xs) (take_all i old (omega arith))
    (subst (λ (l : List X). AllZip R (take i old) l) (take_all i xs le) all)

-- what is seen of each
pub zip_seen : {X P : Type 0} (f : X → P) (R : P → P → Type 0) (xs ys : List X)
    → AllZip (λ x y. R (f x) (f y)) xs ys → AllZip R (map f xs) (map f ys)
zip_seen f R [] [] all = tt
zip_seen f R [] (y ∷ ys) all = absurd all
zip_seen f R (x ∷ xs) [] all = absurd all
zip_seen f R (x ∷ xs) (y ∷ ys) (here, all) = (here, zip_seen f R xs ys all)

-- Who has come

pub place_same : {G : Type 0} (a b : Option G) (d e : Desk) → a ≡ b → d ≡ e → place a d ≡ place b e
place_same {G} a b d e is same = ap (λ (o : Option G). place o d) is ∙ ap (place b) same

-- who comes with this stream
abbrev pub guest_of : {S : Type 0} → S → (now : ℕ) → Client S
guest_of stream now = record { stream = stream; since_ms = now; stage = Receiving; sent = 0 }

pub is_newcomer : {S : Type 0} (given taken : S → Passed) (stream : S) (now : ℕ)
    → IsNew (given stream) → IsNew (taken stream) → (g : Client S)
    → Some (guest_of stream now) ≡ Some g → IsNewcomer given taken now g
is_newcomer given taken stream now unread unwritten =
    for_some (IsNewcomer given taken now) (guest_of stream now)
    (record { unread = unread; unwritten = unwritten; since = refl; stage = refl; sent = refl })

pub is_nobody : {G : Type 0} (o : Option G) → true ≡ is_none o → o ≡ None
is_nobody None is = refl
is_nobody (Some g) is = cc

-- what is written back to a `Vec` in whole
written : {X : Type 0} (items ys : List X) (n : ℕ) → length ys ≡ length items → n ≡ length items
    → ys ≡ take n (ys ++ drop (length ys) items)
written {X} items ys n long is =
    sym (take_all n ys (omega arith)) ∙ ap (take n)
    (sym (append-nil ys)
    ∙ ap (λ (l : List X). ys ++ l) (sym (drop_all (length ys) items (omega arith))))

module _ {X G : Type 0} (f : X → Place G) (items xs : List X) (n i : ℕ) (same : xs ≡ items)
    (long : n ≡ length items) (taken : AllByRecursion IsTaken (map f (take i xs))) where
  -- the first free one is his
  pub has_seat : (x y : X) (g : G) (d : Desk) → i < length xs → f (get_or xs i x) ≡ place None d
      → f y ≡ place (Some g) (cleared d)
      → IsSeated (Some g) (map f items)
      (map f (take n (set xs i y ++ drop (length (set xs i y)) items)))
  has_seat x y g d lt free his =
      let split : xs ≡ take i xs ++ get_or xs i x ∷ drop (suc i) xs =
      sym (take-append-drop i xs) ∙ ap (λ (l : List X). take i xs ++ l) (drop-cons xs i x lt) in
      let parts : (z : X) → map f (take i xs ++ z ∷ drop (suc i) xs)
      ≡ map f (take i xs) ++ f z ∷ map f (drop (suc i) xs) =
      λ z. map-append f (take i xs) (z ∷ drop (suc i) xs) in
      let rest = λ (p : Place G). map f (take i xs) ++ p ∷ map f (drop (suc i) xs) in
      let size : length (set xs i y) ≡ length items = length-set xs i y ∙ ap length same in
      HasSeat g (map f (take i xs)) (map f (drop (suc i) xs)) d refl taken
      (ap (map f) (sym same ∙ split) ∙ parts (get_or xs i x) ∙ ap rest free)
      (ap (map f) (sym (written items (set xs i y) n size long) ∙ set_split xs i y lt)
      ∙ parts y ∙ ap rest his)

  -- none is free
  pub is_sent_away : (g : G) → length xs ≤ i
      → IsSeated (Some g) (map f items) (map f (take n (xs ++ drop (length xs) items)))
  is_sent_away g le =
      IsSentAway g refl
      (subst (λ (l : List X). AllByRecursion IsTaken (map f l)) (take_all i xs le ∙ same) taken)
      (ap (map f) (sym (written items xs n (ap length same) long) ∙ same))

-- each has had his turn
pub zip_written : {X P : Type 0} (f : X → P) (R : P → P → Type 0) (items xs ys : List X) (n : ℕ)
    → xs ≡ items → n ≡ length items → AllZip (λ x y. R (f x) (f y)) xs ys
    → AllZip R (map f items) (map f (take n (ys ++ drop (length ys) items)))
zip_written {X} f R items xs ys n same long all =
    let size : length ys ≡ length items =
    sym (length_all_zip (λ x y. R (f x) (f y)) xs ys all) ∙ ap length same in
    subst (λ (l : List X). AllZip R (map f items) (map f l)) (written items ys n size long)
    (subst (λ (l : List X). AllZip R (map f l) (map f ys)) same (zip_seen f R xs ys all))

-- What a visitor is sent

was_none : (t : Passed) (all : List ℕ) → IsNew t → t ≡ Some all → all ≡ []
was_none None all new is = cc
was_none (Some before) all new is = some_same (sym is) ∙ new

gave_before : (before after : Passed) (all : List ℕ) → GivesMore before after → after ≡ Some all
    → (first : List ℕ) × (more : List ℕ) × (before ≡ Some first) × (all ≡ first ++ more)
gave_before None after all (octets, is) same = absurd (none_some (sym is ∙ same))
  where
    none_some : {A : Type 0} {x : A} → None ≡ Some x → ⊥
    none_some e = cc
gave_before (Some first) after all (octets, is) same =
    (first, octets, refl, some_same (sym same ∙ is))

-- the answer on a desk is that of one of these moments
abbrev pub HasAnswer : List Snapshot → Desk → Type 0
HasAnswer moments d =
    (s : Snapshot) × (asked : Inquiry) × IsAmong moments s × IsAsked d.request.text asked
    × (asked ≢ Nothing) × (d.head ≡ head_of d.head.room d.body.room asked s)
    × (d.body ≡ body_sent d.body.room asked s)

among_more : (moments : List Snapshot) (m s : Snapshot) → IsAmong moments s
    → IsAmong (m ∷ moments) s
among_more moments m s (i, (lt, is)) = (suc i, (omega arith, is))

room_of_head : (head_room body_room : ℕ) (asked : Inquiry) (s : Snapshot)
    → (head_of head_room body_room asked s).room ≡ head_room
unfolding put
room_of_head head_room body_room asked s = refl

room_of_body : (room : ℕ) (asked : Inquiry) (s : Snapshot) → (body_sent room asked s).room ≡ room
unfolding put
room_of_body room asked s =
    elim (has_body asked) as
    (λ b. (if b then body_in room asked s else empty room).room ≡ room)
    [ true ↦ refl | false ↦ refl ]

more_moments : (moments : List Snapshot) (m : Snapshot) (d d' : Desk) → d' ≡ d → HasAnswer moments d
    → HasAnswer (m ∷ moments) d'
more_moments moments m d d' same (s, asked, among, is, not_none, head, body) =
    subst (HasAnswer (m ∷ moments)) (sym same)
    (s, asked, among_more moments m s among, is, not_none, head, body)

answer_step : (stage later : VisitStage) (moments : List Snapshot) (s : Snapshot) (d d' : Desk)
    → Turned stage later s d d' → later ≢ Receiving → (stage ≢ Receiving → HasAnswer moments d)
    → HasAnswer (s ∷ moments) d'
answer_step Receiving Receiving moments s d d' turned some before = absurd (some refl)
answer_step Receiving Answering moments s d d' (asked, is, not_none, head, body) some before =
    let head_room = ap (λ (p : Sheet). p.room) head
    ∙ room_of_head d.head.room d.body.room asked s in
    let body_room = ap (λ (p : Sheet). p.room) body ∙ room_of_body d.body.room asked s in (
      s,
      asked,
      (0, (omega arith, refl)),
      is,
      not_none,
      head ∙ ap (λ (n : ℕ). head_of n d.body.room asked s) (sym head_room)
          ∙ ap (λ (n : ℕ). head_of d'.head.room n asked s) (sym body_room),
      body ∙ ap (λ (n : ℕ). body_sent n asked s) (sym body_room),
    )
answer_step Receiving Leaving moments s d d' turned some before = absurd turned
answer_step Answering later moments s d d' same some before =
    more_moments moments s d d' same (before (λ e. cc))
answer_step Leaving later moments s d d' same some before =
    more_moments moments s d d' same (before (λ e. cc))

still_first : (d d' : Desk) (first octets more request rest : List ℕ) → d' ≡ d
    → octets ≡ first ++ more → first ≡ request ++ rest
    → d.request.text ≡ (put request (empty d.request.room)).text → HasRequest Leaving octets d'
still_first d d' first octets more request rest same is parts text =
    subst (HasRequest Leaving octets) (sym same) (
      request,
      rest ++ more,
      is ∙ ap (λ (l : List ℕ). l ++ more) parts ∙ append_assoc request rest more,
      λ stays. absurd (stays refl),
      text,
    )

request_step : (stage later : VisitStage) (s : Snapshot) (d d' : Desk) (first octets more : List ℕ)
    → Turned stage later s d d' → octets ≡ first ++ more → HasRequest stage first d
    → (later ≢ Leaving → d'.request.text ≡ (put octets (empty d'.request.room)).text)
    → HasRequest later octets d'
request_step stage Receiving s d d' first octets more turned is before kept =
    (octets, [], sym (append-nil octets), λ _. refl, kept (λ e. cc))
request_step stage Answering s d d' first octets more turned is before kept =
    (octets, [], sym (append-nil octets), λ _. refl, kept (λ e. cc))
request_step Receiving Leaving s d d' first octets more turned is before kept = absurd turned
request_step Answering Leaving s d d' first octets more same is (request, rest, parts, none, text)
    kept =
    still_first d d' first octets more request rest same is parts text
request_step Leaving Leaving s d d' first octets more same is (request, rest, parts, none, text)
    kept =
    still_first d d' first octets more request rest same is parts text

nothing_put : (room : ℕ) → Some [] ≡ (put [] (empty room)).text
unfolding put
nothing_put room = refl

module _ {S : Type 0} (given taken : S → Passed) (calls : S → Calls) where
  new_is_kept : (now : ℕ) (g : Client S) (d : Desk) → IsNewcomer given taken now g
      → IsKept (given g.stream) (taken g.stream) g.stage g.sent (cleared d)
  new_is_kept now g d new =
      subst (λ (v : VisitStage). IsKept (given g.stream) (taken g.stream) v g.sent (cleared d))
      (sym new.stage)
      (subst (λ (n : ℕ). IsKept (given g.stream) (taken g.stream) Receiving n (cleared d))
      (sym new.sent)
      (kept_new (given g.stream) (taken g.stream) d (cleared d) new.unread new.unwritten refl))

  kept_in : (moments : List Snapshot) (g : Client S) (d : Desk)
      → IsVisit given taken calls moments g d
      → IsKept (given g.stream) (taken g.stream) g.stage g.sent d
  kept_in moments _ _ (Came now g d new) = new_is_kept now g d new
  kept_in moments _ _ (Stayed before s old desk later desk' visit served) = served.kept

  has_answer : (moments : List Snapshot) (g : Client S) (d : Desk)
      → IsVisit given taken calls moments g d → g.stage ≢ Receiving → HasAnswer moments d
  has_answer moments _ _ (Came now g d new) some = absurd (some new.stage)
  has_answer moments _ _ (Stayed before s old desk later desk' visit served) some =
      answer_step old.stage later.stage before s desk desk' served.desk some
      (has_answer before old desk visit)

  -- Nothing while the request comes.
  pub nothing_yet : (moments : List Snapshot) (g : Client S) (d : Desk) (octets : List ℕ)
      → IsVisit given taken calls moments g d → taken g.stream ≡ Some octets
      → g.stage ≡ Receiving → octets ≡ []
  nothing_yet moments g d octets visit is here =
      let kept = kept_in moments g d visit in
      kept.begun octets is ∙ ap (λ (n : ℕ). take n (answer_on d)) (kept.unsent here)

  -- Then it is the answer.
  pub is_sent : (moments : List Snapshot) (g : Client S) (d : Desk) (octets : List ℕ)
      → IsVisit given taken calls moments g d → taken g.stream ≡ Some octets
      → g.stage ≢ Receiving → IsSent moments g.stage d octets
  is_sent moments g d octets visit is some =
      let kept = kept_in moments g d visit in
      let (s, asked, among, asks, not_none, head, body) = has_answer moments g d visit some in
      let same : answer_of d asked s ≡ answer_on d =
      ap (λ (p : Sheet). shown p ++ shown (body_sent d.body.room asked s)) (sym head)
      ∙ ap (λ (p : Sheet). shown d.head ++ shown p) (sym body) in
      let front : octets ≡ take g.sent (answer_on d) = kept.begun octets is in (
        s,
        asked,
        among,
        asks,
        not_none,
        (
          drop g.sent (answer_on d),
          same ∙ sym (take-append-drop g.sent (answer_on d))
              ∙ ap (λ (l : List ℕ). l ++ drop g.sent (answer_on d)) (sym front),
        ),
        λ leaves.
            front
            ∙ take_all g.sent (answer_on d) (let all = kept.whole leaves in omega arith)
            ∙ sym same,
      )

  -- The request on the desk is his.
  pub has_request : (moments : List Snapshot) (g : Client S) (d : Desk) (octets : List ℕ)
      → IsVisit given taken calls moments g d → given g.stream ≡ Some octets
      → HasRequest g.stage octets d
  has_request moments _ _ octets (Came now g d new) is = (
    [],
    [],
    was_none (given g.stream) octets new.unread is,
    λ _. refl,
    nothing_put
        d.request.room,
  )
  has_request moments _ _ octets (Stayed before s old desk later desk' visit served) is =
      let (first, more, was, parts) =
      gave_before (given old.stream) (given later.stream) octets served.gives is in
      request_step old.stage later.stage s desk desk' first octets more served.desk parts
      (has_request before old desk first visit was)
      (λ here. served.kept.receives here octets is)
