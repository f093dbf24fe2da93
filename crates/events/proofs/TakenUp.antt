-- A queue is taken up again from its lines.
use Rattle.std.proofs.Common.{◌≡◌, ℕ, ◌<◌, ◌≤◌, List, [], ◌∷◌, ◌++◌, length, get_or, refl, ap, sym}
use Rattle.std.proofs.Common.{subst, ◌∙◌, arith}
use Rattle.std.proofs.lemmas.List.{take-append-drop, length-take}
use Rattle.std.specs.List.{AllByRecursion}
use Rattle.std.specs.Prelude.{Result, Ok, Err, OnOk, IsErrAnd, Option, Some, None, IfNone}
use Rattle.arrayvec.specs.ArrayVec.{ArrayVec}
use Rattle.checkpoint.specs.Octets.{IsOctetLine}
use Rattle.events.specs.Pieces.{IsSendable, AreSendable, AreAsdus}
use Rattle.events.specs.Queue.{Queue, queue_of, octets_of, kept}
use Rattle.events.specs.Restored.{queue_lines, IsSavable, in_places, marked}
use Rattle.events.proofs.Marks.{kept-queue_of, queue_from, same_queue}

pub on_ok_all : {T E : Type 0} (r : Result T E) (P Q : Type 0) → (P → Q) → OnOk r P → OnOk r Q
on_ok_all (Ok x) P Q f p = f p
on_ok_all (Err e) P Q f p = tt

pub faulted : {T E : Type 0} (r : Result T E) (e f : E) → IsErrAnd r (λ x. x ≡ e) → r ≡ Err f
    → e ≡ f
faulted (Ok x) e f h is = absurd h
faulted (Err x) e f h is = let same : x ≡ f = cc in sym h ∙ same

-- a line that is one of those pieces isn't refused
pub wrongly_refused : {T : Type 0} (o : Option T) (octets line p : List ℕ)
    (coming left others : List (List ℕ)) → o ≡ None
    → IfNone o (IsSendable octets → ⊥) → octets ≡ line → coming ≡ line ∷ left → coming ≡ p ∷ others
    → IsSendable p → ⊥
wrongly_refused None octets line p coming left others none is same came next fits =
    let both : line ∷ left ≡ p ∷ others = sym came ∙ next in
    let head : line ≡ p = cc in
    is (subst IsSendable (sym (same ∙ head)) fits)
wrongly_refused (Some x) octets line p coming left others none is same came next fits = cc

-- ---- What is put

sendable : (xs : List (ArrayVec ℕ)) → AreAsdus xs → AreSendable (octets_of xs)
sendable [] h = tt
sendable (x ∷ xs) h = (h.0, sendable xs h.1)

pub savable : (xs : List (ArrayVec ℕ)) (m places : ℕ) (q : Queue) → queue_of xs m places ≡ q
    → AreAsdus xs
    → AllByRecursion IsOctetLine (kept q) → IsSavable q
savable xs m places q is asdus octets =
    let all : kept q ≡ octets_of xs = ap kept (sym is) ∙ kept-queue_of xs m places in
    record { sendable = subst AreSendable (sym all) (sendable xs asdus); octets = octets }

-- ---- What is read

-- if fewer were read than came, the next line is one of those
pub next_is : (read : List (List ℕ)) (coming pieces rest : List (List ℕ)) → length read
    < length pieces
    → read ++ coming ≡ pieces ++ rest → AreSendable pieces → AllByRecursion IsOctetLine pieces
    → (p : List ℕ) × (others : List (List ℕ)) × (coming ≡ p ∷ others) × IsSendable p × IsOctetLine p
next_is [] coming [] rest lt same fits octets = absurd (omega (arith, lt))
next_is [] coming (p ∷ ps) rest lt same fits octets = (p, ps ++ rest, same, fits.0, octets.0)
next_is (x ∷ read) coming [] rest lt same fits octets = absurd (omega (arith, lt))
next_is (x ∷ read) coming (p ∷ ps) rest lt same fits octets =
    let tail : read ++ coming ≡ ps ++ rest = cc in
    next_is read coming ps rest (omega (arith, lt)) tail fits.1 octets.1

-- the beginnings of two lists are equal if they are as long
same_fronts : (xs ys us vs : List (List ℕ)) → length xs ≡ length ys → xs ++ us ≡ ys ++ vs
    → (xs ≡ ys) × (us ≡ vs)
same_fronts [] [] us vs long same = (refl, same)
same_fronts [] (y ∷ ys) us vs long same = absurd (omega (arith, long))
same_fronts (x ∷ xs) [] us vs long same = absurd (omega (arith, long))
same_fronts (x ∷ xs) (y ∷ ys) us vs long same =
    let tail : xs ++ us ≡ ys ++ vs = cc in
    let head : x ≡ y = cc in
    let others = same_fronts xs ys us vs (omega (arith, long)) tail in
    (ap (λ z. z ∷ xs) head ∙ ap (λ zs. y ∷ zs) others.0, others.1)

-- what `read_state` says of a queue that it read
abbrev pub IsRead : ℕ → List (List ℕ) → List (List ℕ) → Queue → Type 0
IsRead places before after e = IsSavable e × (e ≡ in_places places e)
    × (before ≡ queue_lines e ++ after)

pub two_numbers : (ns : List ℕ) → 2 ≤ length ns → length ns < 3 → ns ≡ get_or ns 0 0 ∷ get_or ns 1 0
    ∷ []
two_numbers [] least most = absurd (omega (arith, least))
two_numbers (x ∷ []) least most = absurd (omega (arith, least))
two_numbers (x ∷ y ∷ []) least most = refl
two_numbers (x ∷ y ∷ z ∷ ns) least most = absurd (omega (arith, most))

-- so many pieces were read, the oldest of them marked, and the places are as many as are set
module _ (places many count sent : ℕ) (before middle after pieces : List (List ℕ)) (line : List ℕ)
    (e : Queue)
    (came : before ≡ line ∷ middle) (numbers : line ≡ count ∷ sent ∷ []) (lines : middle
    ≡ pieces ++ after)
    (number : length pieces ≡ count) (few : sent ≤ count)
    (is : e ≡ in_places places (marked sent (queue_from [] pieces many))) where
  all : kept e ≡ pieces
  all = ap kept is ∙ take-append-drop sent pieces

  sent_are : length e.sent ≡ sent
  sent_are =
      let here = ap (λ (q : Queue). length q.sent) is in
      let taken = length-take sent pieces in
      omega arith

  pub read_is : AreSendable pieces → AllByRecursion IsOctetLine pieces
      → IsRead places before after e
  read_is fits octets =
      let long = ap (λ (ps : List (List ℕ)). length ps) all in
      let there : e.places ≡ places = ap (λ (q : Queue). q.places) is in (
        record {
          sendable = subst AreSendable (sym all) fits;
          octets = subst (λ ps. AllByRecursion IsOctetLine ps) (sym all) octets;
        },
        ap (λ n. record { sent = e.sent; unsent = e.unsent; places = n }) there,
        came ∙ ap (λ l. l ∷ middle) (numbers ∙ ap (λ n. n ∷ sent ∷ []) (sym number ∙ sym long)
            ∙ ap (λ n. length (kept e) ∷ n ∷ []) (sym sent_are))
            ∙ ap (λ ls. (length (kept e) ∷ length e.sent ∷ []) ∷ ls) (lines
            ∙ ap (λ ps. ps ++ after) (sym all)),
      )

-- What is read is the one queue that has these lines.
pub back_is : (places : ℕ) (before after rest : List (List ℕ)) (e q : Queue)
    → e ≡ in_places places e
    → before ≡ queue_lines e ++ after → before ≡ queue_lines q ++ rest
    → (e ≡ in_places places q) × (after ≡ rest)
back_is places before after rest e q is lines given =
    let both : queue_lines e ++ after ≡ queue_lines q ++ rest = sym lines ∙ given in
    let long : length (kept e) ≡ length (kept q) = cc in
    let marks : length e.sent ≡ length q.sent = cc in
    let others : kept e ++ after ≡ kept q ++ rest = cc in
    let fronts = same_fronts (kept e) (kept q) after rest long others in
    let halves = same_fronts e.sent q.sent e.unsent q.unsent marks fronts.0 in
    (is ∙ same_queue _ _ _ _ _ halves.0 halves.1, fronts.1)

-- which has as many places as before if there are so many
pub same_is : (places : ℕ) (q : Queue) → q.places ≡ places → in_places places q ≡ q
same_is places q at = ap (queue_from q.sent q.unsent) (sym at)
