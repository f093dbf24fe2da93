-- How long an answer is awaited.
use Rattle.std.specs.Prelude.{◌==◌}
use Rattle.std.proofs.Common.{◌≡◌, ℕ, ◌+◌, ◌<◌, ◌≤◌, Bool, true, false, List, [], ◌∷◌, ◌++◌}
use Rattle.std.proofs.Common.{Option, Some, None, refl, sym, subst, arith, if◌then◌else◌}
use Rattle.ft12.specs.declared.frame.Frame.{Frame}
use Rattle.ft12.specs.declared.frame.Front.{Front}
use Rattle.ft12.specs.Fronts.{front_of}
use Rattle.link.specs.Answers.{Answer}
use Rattle.link.specs.Exchanges.{whole_of}
use Rattle.link.specs.Turns.{Chosen}
use Rattle.link.specs.Primary.{Outstanding, Primary, choice, after_choice, asked_from, sending_by}
use Rattle.link.specs.Primary.{sending_from, answer_at, said_by, open_octets, took, with_octets}
use Rattle.link.specs.Primary.{received_after, received_from, is_late, due_from, unanswered}
use Rattle.link.specs.Runs.{Call, Next, Octets, Due, GivesUp, called}
use Rattle.link.specs.Timing.{since_by, since_after, EndsInTime, AnswersHaveTheirTime}
use Rattle.link.specs.Turns.{CommandsWaiting}
use Rattle.link.specs.Runs.{Doubts}

-- What is outstanding went out at this moment.
abbrev pub IsSince : Option Outstanding → Option ℕ → Type 0
IsSince None since = Unit {0}
IsSince (Some o) since = since ≡ Some o.since

any_time : (since : Option ℕ) (o : Option Outstanding) → o ≡ None → IsSince o since
any_time since o none = subst (λ (x : Option Outstanding). IsSince x since) (sym none) tt

next_since : (p : Primary) (now : ℕ) (may_poll : Bool) (waiting : CommandsWaiting)
    (since : Option ℕ)
    → IsSince p.outstanding since
    → IsSince (asked_from p p.outstanding now may_poll waiting).outstanding
    (since_by (sending_from p p.outstanding may_poll waiting) now since)
next_since p now may_poll waiting since is = go p.outstanding refl
  where
    by : (c : Option Chosen) → p.outstanding ≡ None
        → IsSince (after_choice p now c).outstanding (since_by (sending_by c) now since)
    by None none = any_time since p.outstanding none
    by (Some c) none = refl

    go : (o : Option Outstanding) → p.outstanding ≡ o
        → IsSince (asked_from p o now may_poll waiting).outstanding
        (since_by (sending_from p o may_poll waiting) now since)
    go (Some o) e = is
    go None e = by (choice p may_poll waiting) e

said_since : (p : Primary) (o : Outstanding) (frame : Frame) (since : Option ℕ)
    → since ≡ Some o.since → (m : Option Answer) → IsSince (said_by p o frame m).outstanding since
said_since p o frame since is None = is
said_since p o frame since is (Some answer) = tt

took_since : (p : Primary) (o : Outstanding) (so_far : Option (List ℕ)) (since : Option ℕ)
    → since ≡ Some o.since → (f : Option Frame) → IsSince (took p o so_far f).outstanding since
took_since p o so_far since is None = is
took_since p o so_far since is (Some frame) =
    said_since p o frame since is (answer_at p o frame)

octets_since : (front : List ℕ → Front) (p : Primary) (octets : List ℕ) (since : Option ℕ)
    → (o : Option Outstanding) → p.outstanding ≡ o → IsSince o since
    → IsSince (received_from front p o octets).outstanding since
octets_since front p octets since None e is = any_time since p.outstanding e
octets_since front p octets since (Some o) e is = go o.arrived
  where
    go : (before : Option (List ℕ))
        → IsSince (received_after front p (with_octets octets o) before octets).outstanding since
    go None = is
    go (Some before) =
        took_since p (with_octets octets o)
        (open_octets (before ++ octets) (front (before ++ octets)))
        since is (whole_of (front (before ++ octets)))

due_since : (p : Primary) (at : ℕ) (since : Option ℕ) → (o : Option Outstanding)
    → p.outstanding ≡ o → IsSince o since → IsSince (due_from p o at).outstanding since
due_since p at since None e is = any_time since p.outstanding e
due_since p at since (Some o) e is = go (is_late p o at)
  where
    go : (b : Bool) → IsSince (if b then unanswered p o else p).outstanding since
    go true = tt
    go false = subst (λ (x : Option Outstanding). IsSince x since) (sym e) is

call_since : (p : Primary) (call : Call) (since : Option ℕ) → IsSince p.outstanding since
    → IsSince (called p call).outstanding (since_after p call since)
call_since p (Next now may_poll waiting) since is = next_since p now may_poll waiting since is
call_since p (Octets octets) since is =
    octets_since (front_of p.settings.size) p octets since p.outstanding refl is
call_since p (Due at) since is = due_since p at since p.outstanding refl is
call_since p (GivesUp station) since is = go (p.turn == station)
  where
    go : (b : Bool) → IsSince (if b then None else p.outstanding) since
    go true = tt
    go false = is
call_since p Doubts since is = is

some_same : {a b : ℕ} → Some a ≡ Some b → a ≡ b
some_same {a} {b} e = cc

-- A moment ends what is outstanding exactly if it is late enough.
ends : (p : Primary) (since at : ℕ) → (o : Option Outstanding) → p.outstanding ≡ o
    → IsSince o (Some since)
    → (at < since + p.settings.answer_ms → due_from p o at ≡ p)
    × (since + p.settings.answer_ms ≤ at → (due_from p o at).outstanding ≡ None)
ends p since at None e is = (λ early. refl, λ late. e)
ends p since at (Some o) e is =
    let same : since ≡ o.since = some_same is in (
      λ early. (let b : is_late p o at ≡ false = grind (arith, same) in rw b refl),
      λ late. (let b : is_late p o at ≡ true = grind (arith, same) in rw b refl),
    )

in_time : (p : Primary) (call : Call) (since : Option ℕ) → IsSince p.outstanding since
    → EndsInTime p since call
in_time p call None is = tt
in_time p (Due at) (Some since) is = ends p since at p.outstanding refl is
in_time p (Next now may_poll waiting) (Some since) is = tt
in_time p (Octets octets) (Some since) is = tt
in_time p (GivesUp station) (Some since) is = tt
in_time p Doubts (Some since) is = tt

pub all_in_time : (p : Primary) (since : Option ℕ) (calls : List Call)
    → IsSince p.outstanding since → AnswersHaveTheirTime p since calls
all_in_time p since [] is = tt
all_in_time p since (call ∷ calls) is = (
  in_time p call since is,
  all_in_time (called p call) (since_after p call since) calls (call_since p call since is),
)
