-- Each call keeps what was pushed and isn't acknowledged.
use Rattle.std.proofs.Common.{◌≡◌, ℕ, ◌+◌, ◌-◌, ◌≤◌, List, [], ◌∷◌, ◌++◌, length, take, drop, refl}
use Rattle.std.proofs.Common.{ap, sym, subst, ◌∙◌, arith}
use Rattle.std.proofs.lemmas.List.{append_assoc, take-append-drop, drop-append-le, drop-drop}
use Rattle.std.proofs.lemmas.List.{length-append, length-take, length-drop}
use Rattle.std.proofs.Math.Seq.{drop-append_seam}
use Rattle.events.specs.Queue.{Queue, kept, free_places, pushed, marked_sent, acknowledged}
use Rattle.events.specs.Runs.{Call, Push, MarkSent, Acknowledge, Rewind, run, MayCome, AreMade}
use Rattle.events.specs.Runs.{all_pushed, acknowledged_count, sent_count, KeepsAll}

-- what each call leaves, and that no more was acknowledged than was pushed
record Kept (places : ℕ) (calls : List Call) : Type 0 where
  pub places_are : (run places calls).places ≡ places
  pub pieces : kept (run places calls) ≡ drop (acknowledged_count calls) (all_pushed calls)
  pub few : acknowledged_count calls ≤ length (all_pushed calls)
  pub sent : length (run places calls).sent ≡ sent_count calls
  pub room : length (kept (run places calls)) ≤ places

push_pieces : (q : Queue) (xs pieces : List (List ℕ)) (n : ℕ) → n ≤ length xs → kept q ≡ drop n xs
    → kept (pushed pieces q) ≡ drop n (xs ++ pieces)
push_pieces q xs pieces n few here =
    sym (append_assoc q.sent q.unsent pieces) ∙ ap (λ (l : List (List ℕ)). l ++ pieces) here
    ∙ sym (drop-append-le n xs pieces few)

mark_pieces : (q : Queue) → kept (marked_sent q) ≡ kept q
mark_pieces q = append_assoc q.sent (take 1 q.unsent) (drop 1 q.unsent)
    ∙ ap (λ (l : List (List ℕ)). q.sent ++ l) (take-append-drop 1 q.unsent)

acknowledge_pieces : (q : Queue) (xs : List (List ℕ)) (n k : ℕ) → n ≤ length q.sent
    → kept q ≡ drop k xs
    → kept (acknowledged n q) ≡ drop (k + n) xs
acknowledge_pieces q xs n k le here =
    sym (drop-append-le n q.sent q.unsent le) ∙ ap (λ (l : List (List ℕ)). drop n l) here
    ∙ drop-drop n k xs

after : (places : ℕ) (call : Call) (earlier : List Call) → MayCome call (run places earlier)
    → Kept places earlier
    → Kept places (call ∷ earlier)
after places (Push pieces) earlier may k =
    let long = length-append (kept (run places earlier)) pieces in
    let assoc = append_assoc (run places earlier).sent (run places earlier).unsent pieces in
    let longer = length-append (all_pushed earlier) pieces in
    let there = k.places_are in
    let fits = k.room in
    record {
      places_are = k.places_are;
      pieces = push_pieces (run places earlier) (all_pushed earlier) pieces
          (acknowledged_count earlier) k.few k.pieces;
      few = let few = k.few in omega (arith, longer, few);
      sent = k.sent;
      room = subst (λ (l : List (List ℕ)). length l ≤ places) assoc
          (omega (arith, long, there, fits, may));
    }
after places MarkSent earlier may k =
    let one = length-append (run places earlier).sent (take 1 (run places earlier).unsent) in
    let taken = length-take 1 (run places earlier).unsent in
    let sent = k.sent in
    record {
      places_are = k.places_are;
      pieces = mark_pieces (run places earlier) ∙ k.pieces;
      few = k.few;
      sent = omega (arith, one, taken, sent, may);
      room = subst (λ (l : List (List ℕ)). length l ≤ places)
          (sym (mark_pieces (run places earlier))) k.room;
    }
after places (Acknowledge n) earlier may k =
    let shorter = length-drop n (run places earlier).sent in
    let sent = k.sent in
    let both = length-append (run places earlier).sent (run places earlier).unsent in
    let fewer = length-append (drop n (run places earlier).sent) (run places earlier).unsent in
    let pieces_are = ap (λ (l : List (List ℕ)). length l) k.pieces in
    let left = length-drop (acknowledged_count earlier) (all_pushed earlier) in
    let few = k.few in
    let fits = k.room in
    record {
      places_are = k.places_are;
      pieces = acknowledge_pieces (run places earlier) (all_pushed earlier) n
          (acknowledged_count earlier) may k.pieces;
      few = omega (arith, both, pieces_are, left, few, may);
      sent = omega (arith, shorter, sent);
      room = omega (arith, both, fewer, shorter, fits);
    }
after places Rewind earlier may k = record {
  places_are = k.places_are;
  pieces = k.pieces;
  few = k.few;
  sent = refl;
  room = k.room;
}

kept_by : (places : ℕ) (calls : List Call) → AreMade places calls → Kept places calls
kept_by places [] made = record {
  places_are = refl;
  pieces = refl;
  few = omega arith;
  sent =
      refl;
  room = omega arith;
}
kept_by places (call ∷ earlier) made =
    after places call earlier made.0 (kept_by places earlier made.1)

-- what isn't sent stands behind what is
behind_sent : (places : ℕ) (calls : List Call) → Kept places calls
    → (run places calls).unsent ≡ drop (acknowledged_count calls + sent_count calls)
    (all_pushed calls)
behind_sent places calls k =
    let q = run places calls in
    sym (drop-append_seam q.sent q.unsent) ∙ ap (λ n. drop n (kept q)) k.sent
    ∙ ap (drop (sent_count calls)) k.pieces
    ∙ drop-drop (sent_count calls) (acknowledged_count calls) (all_pushed calls)

all_free : (places : ℕ) (calls : List Call) → Kept places calls
    → free_places (run places calls)
    ≡ places - (length (all_pushed calls) - acknowledged_count calls)
all_free places calls k =
    let there = k.places_are in
    let pieces = ap (λ (ps : List (List ℕ)). length ps) k.pieces in
    let left = length-drop (acknowledged_count calls) (all_pushed calls) in
    omega arith

pub all_kept : (places : ℕ) (calls : List Call) → AreMade places calls → KeepsAll places calls
all_kept places calls made =
    let k = kept_by places calls made in
    record {
      pieces = k.pieces;
      sent = k.sent;
      unsent = behind_sent places calls k;
      room = k.room;
      free = all_free places calls k;
    }
