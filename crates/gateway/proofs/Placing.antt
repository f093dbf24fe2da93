-- What finds places.
use Rattle.std.proofs.Common.{◌≡◌, ℕ, ◌≤◌, ◌<◌, Bool, true, false, not, nat_lt, List, [], ◌∷◌}
use Rattle.std.proofs.Common.{length}
use Rattle.std.proofs.Common.{refl, ap, sym, ◌∙◌, arith, inl, inr}
use Rattle.std.specs.Prelude.{◌↔◌, ◌==◌, if◌then◌else◌}
use Rattle.std.proofs.lemmas.Bool.{cases_lt, lt-ltb, le-ltb, false≢true}
use Rattle.asdu.specs.declared.sizes.Sizes.{Sizes}
use Rattle.asdu.specs.Translation.{parts}
use Rattle.session.specs.declared.kinds.Close.TheVariants.{OwnAnswers}
use Rattle.events.specs.Queue.{Queue, free_places}
use Rattle.command.specs.History.{History, Judged, Sent, Accepted, Refused, GivenUp, Mirrored}
use Rattle.command.specs.History.{Offered, Answered, Ended}
use Rattle.gateway.specs.Log.{Log, Went, Closed}
use Rattle.gateway.specs.Objects.{monitor_objects, parts_of}
use Rattle.gateway.specs.Polls.{has_room}
use Rattle.gateway.specs.Reports.{Setup}
use Rattle.gateway.specs.Works.{has_lacked_place}
use Rattle.gateway.specs.Course.{Course, Runs}
use Rattle.gateway.specs.Traffic.{IsFaithful}
use Rattle.gateway.specs.Stepping.{unplaced}

-- Own answers

pub all_placed : (h : History) → has_lacked_place h ≡ false → unplaced h ≡ 0
all_placed [] e = refl
all_placed (Judged now wall asdu answer ∷ h) e = all_placed h e
all_placed (Sent k octets ∷ h) e = all_placed h e
all_placed (Accepted k ∷ h) e = all_placed h e
all_placed (Refused k answer ∷ h) e = all_placed h e
all_placed (GivenUp k was ∷ h) e = all_placed h e
all_placed (Mirrored now v ∷ h) e = all_placed h e
all_placed (Offered octets true ∷ h) e = all_placed h e
all_placed (Offered octets false ∷ h) e = let wrong : true ≡ false = e in cc
all_placed (Answered octets ∷ h) e = all_placed h e
all_placed (Ended ∷ h) e = refl

one_lacks : (h : History) → has_lacked_place h ≡ true → 0 < unplaced h
one_lacks [] e = let wrong : false ≡ true = e in cc
one_lacks (Judged now wall asdu answer ∷ h) e = one_lacks h e
one_lacks (Sent k octets ∷ h) e = one_lacks h e
one_lacks (Accepted k ∷ h) e = one_lacks h e
one_lacks (Refused k answer ∷ h) e = one_lacks h e
one_lacks (GivenUp k was ∷ h) e = one_lacks h e
one_lacks (Mirrored now v ∷ h) e = one_lacks h e
one_lacks (Offered octets true ∷ h) e = one_lacks h e
one_lacks (Offered octets false ∷ h) e = omega arith
one_lacks (Answered octets ∷ h) e = one_lacks h e
one_lacks (Ended ∷ h) e = let wrong : false ≡ true = e in cc

pub lacking : (p : Setup) (log : Log) (now : ℕ) → IsFaithful p (Went now (Closed OwnAnswers) ∷ log)
    → (c : Course) × Runs p log c × (0 < unplaced c.works.history)
lacking p log now f =
    let why = (f.acts.0.may refl).1 in (why.0, why.1, one_lacks why.0.works.history why.2)

-- Places

at_least : (n k : ℕ) → (not (nat_lt n k) ≡ true) ↔ (k ≤ n)
at_least n k = (enough, free)
  where
    enough : not (nat_lt n k) ≡ true → k ≤ n
    enough h = elim (cases_lt n k) [
      | inl few ↦ absurd (false≢true (sym (ap not (lt-ltb n k few)) ∙ h))
      | inr many ↦ many
    ]

    free : k ≤ n → not (nat_lt n k) ≡ true
    free many = ap not (le-ltb n k many)

pub queue_room : (q : Queue) → (has_room q ≡ true) ↔ (3 ≤ free_places q)
queue_room q = at_least (free_places q) 3

pub log_room : (used needed : ℕ) → (not (nat_lt used needed) ≡ true) ↔ (needed ≤ used)
log_room used needed = at_least used needed

pub three_at_most : (s : Sizes) (report : List ℕ) → parts s report ≤ 3 → parts_of s report ≤ 3
three_at_most s report few = by_objects (length (monitor_objects s report) == 0)
  where
    by_objects : (b : Bool) → (if b then 0 else parts s report) ≤ 3
    by_objects true = omega arith
    by_objects false = few
