-- What holds of the gateway's parts together.
use Rattle.std.proofs.Common.{◌≡◌, ℕ, ◌<◌, ◌≤◌, Bool, true, false, not, ◌++◌, length, drop, inl}
use Rattle.std.proofs.Common.{inr, refl, ap, sym, ◌∙◌, subst, arith, length-append, length-drop}
use Rattle.std.proofs.Common.{Some}
use Rattle.std.specs.Prelude.{IsTrue, ◌↔◌, ◌⊎◌}
use Rattle.std.proofs.lemmas.Bool.{cases_lt, lt-ltb, le-ltb, false≢true}
use Rattle.link.specs.Exchanges.{Sending}
use Rattle.link.specs.Primary.{Primary, sending}
use Rattle.link.specs.Turns.{CommandsWaiting}
use Rattle.events.specs.Queue as queue
use Rattle.events.specs.Queue.{Queue, free_places}
use Rattle.link.specs.Leave.{is_poll_request, is_polling}
use Rattle.gateway.specs.Polls.{has_room}
use Rattle.gateway.specs.State.{HasPlaces}

-- without some of the pieces there are as many free places at least
pub less_kept : (n : ℕ) (q r : Queue) → r ≡ queue.acknowledged n q → free_places q ≤ free_places r
less_kept n q r e = omega (
  arith,
  ap (λ (x : Queue). x.places) e,
  ap (λ (x : Queue). length (x.sent ++ x.unsent)) e,
  length-append q.sent q.unsent,
  length-append (drop n q.sent) q.unsent,
  length-drop n q.sent,
)

pub room_means : (q : Queue) → has_room q ≡ true → 3 ≤ free_places q
room_means q h =
    elim (cases_lt (free_places q) 3) [
      | inl lt ↦ absurd
          (false≢true (sym (ap not (lt-ltb (free_places q) 3 lt)) ∙ h))
      | inr le ↦ le
    ]

pub no_room_means : (q : Queue) → has_room q ≡ false → free_places q < 3
no_room_means q h =
    elim (cases_lt (free_places q) 3) [
      | inl lt ↦ lt
      | inr le ↦ absurd
          (false≢true (sym h ∙ ap not (le-ltb (free_places q) 3 le)))
    ]

-- what the queue answers
pub room_of : (full : Bool) (q : Queue) → (IsTrue full ↔ (free_places q < 3))
    → not full ≡ has_room q
room_of full q is = go full is (cases_lt (free_places q) 3)
  where
    never : IsTrue false → ⊥
    never h = cc

    go : (full : Bool) → (IsTrue full ↔ (free_places q < 3)) → (free_places q < 3)
        ⊎ (3 ≤ free_places q)
        → not full ≡ has_room q
    go true is (inl lt) = sym (ap not (lt-ltb (free_places q) 3 lt))
    go true is (inr le) = absurd (omega (arith, is.0 (at refl), le))
      where
        at : true ≡ true → IsTrue true
        at e = e
    go false is (inl lt) = absurd (never (is.1 lt))
    go false is (inr le) = sym (ap not (le-ltb (free_places q) 3 le))

pub asked_sound : (l m : Primary) (q : Queue) (may : Bool) → may ≡ has_room q
    → (is_polling m ≡ true → (is_polling l ≡ true) ⊎ (may ≡ true)) → HasPlaces l q → HasPlaces m q
asked_sound l m q may is polls h = λ out. elim (polls out)
    [ inl was ↦ h was | inr leave ↦ room_means q (sym is ∙ leave) ]

-- a poll goes out only if there is room
pub poll_room : ((p : Primary) (waiting : CommandsWaiting) (s : Sending)
    → sending p false waiting ≡ Some s → is_poll_request s.request ≡ true
    → is_polling p ≡ true) → (l : Primary) (waiting : CommandsWaiting) (q : Queue) (x : Sending)
    → HasPlaces l q → sending l (has_room q) waiting ≡ Some x
    → is_poll_request x.request ≡ true → 3 ≤ free_places q
poll_room repeats l waiting q x h is poll = go (has_room q) refl
  where
    go : (b : Bool) → has_room q ≡ b → 3 ≤ free_places q
    go true room = room_means q room
    go false none =
        h (repeats l waiting x (subst (λ b. sending l b waiting ≡ Some x) none is) poll)
