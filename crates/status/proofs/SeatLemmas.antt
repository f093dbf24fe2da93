-- What a visitor was written is a beginning of the answer.
use Rattle.std.proofs.Common.{◌≡◌, ℕ, ◌+◌, ◌-◌, ◌<◌, ◌≤◌, List, [], ◌∷◌, ◌++◌, length, take, drop}
use Rattle.std.proofs.Common.{◌^◌, Bool, true, false, not, set, suc, min, Some, None}
use Rattle.std.proofs.Common.{refl, sym, ap, subst, ◌∙◌, arith}
use Rattle.std.proofs.Common.{append_assoc, length-append, length-drop}
use Rattle.std.proofs.Math.Seq.{take-add, take-suc-set, drop-append-add}
use Rattle.std.proofs.lemmas.List.{take-append-le, drop-append-le, take-append-drop, append-nil}
use Rattle.std.proofs.lemmas.List.{take_rest, take_all, length-take-le}
use Rattle.std.proofs.lemmas.List.Elements.{All-append, All-cons, All-nil}
use Rattle.std.specs.List.{All}
use Rattle.status.specs.TextPage.{Sheet, empty, put, text_with}
use Rattle.status.specs.Seats.{Hands, IsCallIn, IsKept, IsNext, IsTurn, Looks, Receives}
use Rattle.status.specs.Seats.{answer_on, cleared}
use Rattle.status.specs.Streams.{Calls, Finished, Handed, IsNew, Looked, Passed, is_over}
use Rattle.status.specs.Streams.{more_passed}
use Rattle.status.specs.declared.seat.Desk.{Desk}
use Rattle.status.specs.declared.seat.VisitStage.{VisitStage}
use Rattle.status.specs.declared.seat.VisitStage.TheVariants.{Receiving, Answering, Leaving}
use Rattle.status.specs.declared.streams.StreamLook.{StreamLook}
use Rattle.status.specs.declared.streams.Took.{Took}
use Rattle.status.proofs.Sheets.{text_with_append}

-- one piece more
pub more_taken : (all : List ℕ) (sent count : ℕ) (piece : List ℕ) → IsNext all sent piece
    → count ≤ length piece
    → take (sent + count) all ≡ take sent all ++ take count piece
more_taken all sent count piece (rest, cut, goes) le =
    take-add sent count all
    ∙ ap (λ (l : List ℕ). take sent all ++ take count l) cut
    ∙ ap (λ (l : List ℕ). take sent all ++ l) (take-append-le count piece rest le)

-- there is so much to take
pub within_all : (all : List ℕ) (sent count : ℕ) (piece : List ℕ) → IsNext all sent piece
    → sent ≤ length all
    → count ≤ length piece → sent + count ≤ length all
within_all all sent count piece (rest, cut, goes) le fits =
    let size : length all - sent ≡ length piece + length rest =
    sym (length-drop sent all) ∙ ap length cut ∙ length-append piece rest in
    omega arith

-- the front of what is left goes out next
front_is_next : (all xs ys : List ℕ) (sent count : ℕ) → count ≤ length xs
    → (0 < length xs → 0 < count)
    → drop sent all ≡ xs ++ ys → (sent < length all → 0 < length xs)
    → IsNext all sent (take count xs)
front_is_next all xs ys sent count le some is goes = (
  drop count xs ++ ys,
  is ∙ ap (λ (l : List ℕ). l ++ ys) (sym (take-append-drop count xs))
      ∙ append_assoc (take count xs) (drop count xs) ys,
  λ lt. let size : length (take count xs) ≡ count = length-take-le count xs le in
      let more : 0 < count = some (goes lt) in omega arith,
)

-- in the head
pub next_in_head : (h b piece : List ℕ) (sent most : ℕ) → sent < length h → 0 < most
    → (let xs = take (length h - sent) (drop sent h) in piece ≡ take (min (length xs) most) xs)
    → IsNext (h ++ b) sent piece
next_in_head h b piece sent most lt some is =
    let cut : drop sent (h ++ b) ≡ drop sent h ++ b = drop-append-le sent h b (omega arith) in
    let size : length (drop sent h) ≡ length h - sent = length-drop sent h in
    let same = is ∙ ap (λ (l : List ℕ). take (min (length l) most) l) (take_rest h sent) in
    subst (IsNext (h ++ b) sent) (sym same)
    (front_is_next (h ++ b) (drop sent h) b sent (min (length (drop sent h)) most) (omega arith)
    (λ left. omega arith) cut (λ _. omega arith))

-- in the body
pub next_in_body : (h b piece : List ℕ) (sent most : ℕ) → length h ≤ sent → 0 < most
    → (let xs = take (length b - (sent - length h)) (drop (sent - length h) b) in
    piece ≡ take (min (length xs) most) xs)
    → IsNext (h ++ b) sent piece
next_in_body h b piece sent most le some is =
    let n = sent - length h in
    let split : length h + n ≡ sent = omega arith in
    let cut : drop sent (h ++ b) ≡ drop n b ++ [] =
    ap (λ (k : ℕ). drop k (h ++ b)) (sym split) ∙ drop-append-add h b n
    ∙ sym (append-nil (drop n b)) in
    let size : length (drop n b) ≡ length b - n = length-drop n b in
    let all : length (h ++ b) ≡ length h + length b = length-append h b in
    let same = is ∙ ap (λ (l : List ℕ). take (min (length l) most) l) (take_rest b n) in
    subst (IsNext (h ++ b) sent) (sym same)
    (front_is_next (h ++ b) (drop n b) [] sent (min (length (drop n b)) most) (omega arith)
    (λ left. omega arith) cut (λ less. omega arith))

-- What is known of a visitor, from one turn to the next

none_some : {A : Type 0} {x : A} → None ≡ Some x → ⊥
none_some e = cc

pub some_same : {A : Type 0} {x y : A} → Some x ≡ Some y → x ≡ y
some_same e = cc

-- what keeps none goes on so; what keeps them had the beginning of what it has now
was_before : (t : Passed) (octets all : List ℕ) → more_passed t octets ≡ Some all
    → (before : List ℕ) × (t ≡ Some before) × (all ≡ before ++ octets)
was_before None octets all is = absurd (none_some is)
was_before (Some before) octets all is = (before, refl, some_same (sym is))

answering_receiving : Answering ≡ Receiving → ⊥
answering_receiving e = cc

answering_leaving : Answering ≡ Leaving → ⊥
answering_leaving e = cc

leaving_receiving : Leaving ≡ Receiving → ⊥
leaving_receiving e = cc

received_more : (page page' : Sheet) (before octets : List ℕ)
    → page.text ≡ (put before (empty page.room)).text
    → page' ≡ put octets page → page'.text ≡ (put (before ++ octets) (empty page'.room)).text
unfolding put
received_more page page' before octets had puts =
    let room : page'.room ≡ page.room = ap (λ (s : Sheet). s.room) puts in
    let text : page'.text ≡ text_with page.room octets page.text =
    ap (λ (s : Sheet). s.text) puts in
    text ∙ ap (text_with page.room octets) had
    ∙ sym (text_with_append page.room before octets (Some []))
    ∙ ap (λ (r : ℕ). text_with r (before ++ octets) (Some [])) (sym room)

-- more of the request came
pub kept_received : (given taken given' taken' : Passed) (stage : VisitStage) (sent : ℕ) (d : Desk)
    (page' : Sheet)
    → IsKept given taken stage sent d → stage ≡ Receiving → Receives given d.request given' page'
    → taken' ≡ taken
    → let d' : Desk = record { request = page'; head = d.head; body = d.body } in
    IsKept given' taken' stage sent d'
kept_received given taken given' taken' stage sent d page' k is (octets, more, puts) same = record {
  receives = λ _ all is_all.
      let was = was_before given octets all (sym more ∙ is_all) in
      received_more d.request page' was.0 octets
      (k.receives (λ e. leaving_receiving (sym e ∙ is)) was.0 was.1) puts
      ∙ ap (λ (l : List ℕ). (put l (empty page'.room)).text) (sym was.2);
  unsent = k.unsent;
  begun = λ all is_all. k.begun all (sym same ∙ is_all);
  within = k.within;
  whole = k.whole;
}

-- the request has come whole, and the answer lies on the desk
pub kept_answered : (given taken : Passed) (stage : VisitStage) (sent : ℕ) (d d' : Desk)
    → IsKept given taken stage sent d → stage ≡ Receiving → d'.request ≡ d.request
    → IsKept given taken Answering sent d'
kept_answered given taken stage sent d d' k is asked =
    let none : sent ≡ 0 = k.unsent is in
    record {
      receives = λ _ all is_all.
          ap (λ (p : Sheet). p.text) asked
          ∙ k.receives (λ e. leaving_receiving (sym e ∙ is)) all is_all
          ∙ ap (λ (p : Sheet). (put all (empty p.room)).text) (sym asked);
      unsent = λ e. none;
      begun = λ all is_all. k.begun all is_all ∙ ap (λ (n : ℕ). take n (answer_on d)) none
          ∙ sym (ap (λ (n : ℕ). take n (answer_on d')) none);
      within = omega arith;
      whole = λ e. absurd (answering_leaving e);
    }

-- more of the answer was taken
pub kept_sent : (given taken given' taken' : Passed) (stage : VisitStage) (sent count : ℕ)
    (d : Desk)
    (piece : List ℕ)
    → IsKept given taken stage sent d → stage ≡ Answering → IsNext (answer_on d) sent piece
    → count ≤ length piece
    → taken' ≡ more_passed taken (take count piece) → given' ≡ given
    → IsKept given' taken' stage (sent + count) d
kept_sent given taken given' taken' stage sent count d piece k is next le more same = record {
  receives = λ here all is_all. k.receives here all (sym same ∙ is_all);
  unsent = λ e. absurd (answering_receiving (sym is ∙ e));
  begun = λ all is_all.
      let was = was_before taken (take count piece) all (sym more ∙ is_all) in
      was.2 ∙ ap (λ (l : List ℕ). l ++ take count piece) (k.begun was.0 was.1)
      ∙ sym (more_taken (answer_on d) sent count piece next le);
  within = within_all (answer_on d) sent count piece next k.within le;
  whole = λ e. absurd (answering_leaving (sym is ∙ e));
}

was_new : (t : Passed) (all : List ℕ) → IsNew t → t ≡ Some all → all ≡ []
was_new None all new is_all = absurd (none_some is_all)
was_new (Some before) all new is_all = some_same (sym is_all) ∙ new

-- somebody comes to a desk that is cleared
pub kept_new : (given taken : Passed) (d d' : Desk) → IsNew given → IsNew taken → d' ≡ cleared d
    → IsKept given taken Receiving 0 d'
unfolding put
kept_new given taken d d' new none is = record {
  receives = λ _ all is_all.
      ap (λ (e : Desk). e.request.text) is
      ∙ sym (ap (λ (l : List ℕ). (put l (empty d'.request.room)).text)
      (was_new given all new is_all));
  unsent = λ _. refl;
  begun = λ all is_all. was_new taken all none is_all;
  within = omega arith;
  whole = λ e. absurd (leaving_receiving (sym e));
}

pub for_some : {A : Type 0} (P : A → Type 0) (a : A) → P a → (x : A) → Some a ≡ Some x → P x
for_some P a p x is = subst P (some_same is) p

-- What holds of each

pub all_more : {X : Type 0} (P : X → Type 0) (xs : List X) (i : ℕ) (x : X) → i < length xs
    → All P (take i xs) → P x
    → All P (take (i + 1) (set xs i x))
all_more P xs i x lt before here =
    let next : suc i ≡ i + 1 = omega arith in
    subst (λ (n : ℕ). All P (take n (set xs i x))) next
    (subst (All P) (sym (take-suc-set xs i x lt))
    (All-append P (take i xs) (x ∷ []) before (All-cons P x [] here (All-nil P))))

pub all_done : {X : Type 0} (P : X → Type 0) (xs : List X) (i : ℕ) → length xs ≤ i
    → All P (take i xs) → All P xs
all_done P xs i le all = subst (All P) (take_all i xs le) all

-- The call of a turn

looked_finished : {A : Type 0} (found : StreamLook) → Looked found ≡ Finished → A
looked_finished found e = cc

not_over : (b stays : Bool) → stays ≡ not b → b ≡ true → stays ≡ false
not_over true stays is e = is
not_over false stays is e = cc

over : {A : Type 0} (b stays : Bool) → stays ≡ not b → stays ≡ false → b ≡ false → A
over true stays is gone e = cc
over false stays is gone e = cc

-- a look while the request comes
pub turn_received : (before after : Calls) (stage later : VisitStage) (stays : Bool) (d : Desk)
    → stage ≡ Receiving → Looks before after stays → IsTurn before after stage later stays d
turn_received before after stage later stays d at (found, calls, is) = record {
  call = Looked found;
  fits = subst (λ (v : VisitStage). IsCallIn v (Looked found)) (sym at) tt;
  called = calls;
  over = not_over (is_over (Looked found)) stays is;
  goes = λ gone here. over (is_over (Looked found)) stays is gone here;
  finished = looked_finished found;
  unfinished = λ _ other _. absurd (answering_receiving (sym other ∙ at));
  left = λ _ other. absurd (leaving_receiving (sym other ∙ at));
}

handed_finished : {A : Type 0} (taken : Took) → Handed taken ≡ Finished → A
handed_finished taken e = cc

-- octets were handed over
pub turn_handed : (before after : Calls) (stage later : VisitStage) (there stays : Bool) (d : Desk)
    → stage ≡ Answering → later ≡ stage → Hands before after there
    → (there ≡ false → stays ≡ false)
    → (there ≡ true → stays ≡ false → 2 ^ 64 ≤ length (answer_on d))
    → IsTurn before after stage later stays d
turn_handed before after stage later there stays d at same (taken, calls, is) gone long = record {
  call = Handed taken;
  fits = subst (λ (v : VisitStage). IsCallIn v (Handed taken)) (sym at) tt;
  called = calls;
  over = λ e. gone (not_over (is_over (Handed taken)) there is e);
  goes = λ ends e. long (still (is_over (Handed taken)) there is e) ends;
  finished = handed_finished taken;
  unfinished = λ _ _ _. same ∙ at;
  left = λ _ other. absurd (answering_leaving (sym at ∙ other));
}
  where
    still : (b there : Bool) → there ≡ not b → b ≡ false → there ≡ true
    still true there is e = cc
    still false there is e = is
