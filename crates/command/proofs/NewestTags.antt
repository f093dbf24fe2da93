-- The newest command's tag is borne, whatever its addresses are.
use Rattle.std.proofs.Common.{◌≡◌, ℕ, zero, suc, ◌<◌, ◌≤◌, ◌⊎◌, inl, inr, Bool, true, false, List}
use Rattle.std.proofs.Common.{[], ◌∷◌, ◌++◌, length, take, refl, sym, ap, ◌∙◌, arith}
use Rattle.std.proofs.Common.{rules}
use Rattle.std.specs.Prelude.{Option, Some, None, if◌then◌else◌}
use Rattle.asdu.specs.Asdu.{AsduValue, Info}
use Rattle.asdu.specs.declared.sizes.Sizes.{Sizes}
use Rattle.command.specs.declared.station.StationInfo.{StationInfo}
use Rattle.command.specs.declared.waiting.Waiting.{Waiting}
use Rattle.command.specs.Standard.{operates, tag_if_any, tag_of, is_object_of}
use Rattle.command.specs.Judging.{judged}
use Rattle.command.specs.State.{oldest, first_answer}
use Rattle.command.specs.History.{History, first, if_operates, next_for, tag_among, mirror_tag}
use Rattle.command.specs.History.{first_sendings}
use Rattle.command.specs.Calls.{Call, Judge, PutOnLine, Accept, Busy, Lose, Mirror, Own, SendOwn}
use Rattle.command.specs.Calls.{Cut, Due, run, after_sending, after_answer}
use Rattle.command.specs.NewestTags.{TagsAreRead, NoneHas, NewestIsBorne, SendingsAreNoted}
use Rattle.command.proofs.Numbers.{no_tag}
use Rattle.command.proofs.Sendings.{none_waits}
use Rattle.command.proofs.Runs.{run_holds}

pub tags_read : TagsAreRead
tags_read = record {
  single = λ t n x. refl;
  double = λ t n x. refl;
  step = λ t n x. refl;
  normalised = λ t n a b x. refl;
  scaled = λ t n a b x. refl;
  untagged = λ kind rest other.
      ap (λ (b : Bool). if b then Some (tag_of (kind ∷ rest)) else None) (no_tag kind other);
}

-- ---- among so many

chosen : (most : ℕ) (v : AsduValue) (i : Info) (since earlier : List (List ℕ)) (xs : List ℕ)
    → length since < most
    → NoneHas v i since
    → is_object_of xs v i ≡ true
    → tag_among (take most (since ++ xs ∷ earlier)) v i ≡ tag_if_any xs
chosen zero v i since earlier xs few others is = absurd (omega (arith, few))
chosen (suc most) v i [] earlier xs few others is =
    ap (λ (b : Bool). if b then tag_if_any xs else tag_among (take most earlier) v i) is
chosen (suc most) v i (ys ∷ since) earlier xs few others is =
    ap (λ (b : Bool). if b then tag_if_any ys
    else tag_among (take most (since ++ xs ∷ earlier)) v i) others.0
    ∙ chosen most v i since earlier xs (omega (arith, few)) others.1 is

none_chosen : (most : ℕ) (v : AsduValue) (i : Info) (since earlier : List (List ℕ))
    → (most ≤ length since) ⊎ (earlier ≡ [])
    → NoneHas v i since
    → tag_among (take most (since ++ earlier)) v i ≡ None
none_chosen zero v i since earlier many others = refl
none_chosen (suc most) v i [] earlier (inl many) others = absurd (omega (arith, many))
none_chosen (suc most) v i [] earlier (inr none) others =
    ap (λ (zs : List (List ℕ)). tag_among (take (suc most) zs) v i) none
none_chosen (suc most) v i (ys ∷ since) earlier many others =
    ap (λ (b : Bool). if b then tag_if_any ys
    else tag_among (take most (since ++ earlier)) v i) others.0
    ∙ none_chosen most v i since earlier (fewer many) others.1
  where
    fewer : (suc most ≤ suc (length since)) ⊎ (earlier ≡ [])
        → (most ≤ length since) ⊎ (earlier ≡ [])
    fewer (inl m) = inl (omega (arith, m))
    fewer (inr none) = inr none

module _ (sizes : Sizes) (stations : List StationInfo) (ms age : ℕ) where
  pub newest_borne : (h : History) → NewestIsBorne sizes stations ms age h
  newest_borne h = record {
    newest = λ v i since earlier xs one went few others is.
        ap (λ (is : List Info). mirror_tag sizes stations ms age v is h) one
        ∙ (ap (λ (zs : List (List ℕ)). tag_among (take 16 zs) v i) went
        ∙ chosen 16 v i since earlier xs few others is);
    no_such = λ v i since earlier one went many others.
        ap (λ (is : List Info). mirror_tag sizes stations ms age v is h) one
        ∙ (ap (λ (zs : List (List ℕ)). tag_among (take 16 zs) v i) went
        ∙ none_chosen 16 v i since earlier many others);
    no_object = λ v none. ap (λ (is : List Info). mirror_tag sizes stations ms age v is h) none;
    several = λ v i j more are.
        ap (λ (is : List Info). mirror_tag sizes stations ms age v is h) are;
  }

  -- ---- what went out

  abbrev history : List Call → History
  history calls = (run stations sizes ms age calls).history

  abbrev all : History → List (List ℕ)
  all h = first_sendings sizes stations ms age h

  sent : (calls : List Call) (k : ℕ) (xs : List ℕ)
      → next_for sizes stations ms age k (history calls) ≡ Some xs
      → all (history (PutOnLine k ∷ calls))
      ≡ (if operates xs then xs ∷ all (history calls) else all (history calls))
  sent calls k xs is = by (oldest k (run stations sizes ms age calls).state.waiting) refl
    where
      in_front : (b : Bool) → ((if b then xs ∷ [] else []) ++ all (history calls))
          ≡ (if b then xs ∷ all (history calls) else all (history calls))
      in_front true = refl
      in_front false = refl

      by : (o : Option Waiting) → oldest k (run stations sizes ms age calls).state.waiting ≡ o
          → all (after_sending o k (run stations sizes ms age calls)).history
          ≡ (if operates xs then xs ∷ all (history calls) else all (history calls))
      by None e =
          let none : next_for sizes stations ms age k (history calls) ≡ None =
          ap first ((run_holds sizes stations ms age calls).keeps.queue.in_turn k
          ∙ none_waits k (run stations sizes ms age calls).state.waiting e) in
          absurd (never (sym none ∙ is))
        where
          never : None ≡ Some xs → ⊥
          never f = search (rules, f)
      by (Some w) e =
          ap (λ (o : Option (List ℕ)). if_operates o ++ all (history calls)) is
          ∙ in_front (operates xs)

  stays : (calls : List Call) (call : Call) → (call ≡ Cut → ⊥)
      → ((k : ℕ) → call ≡ PutOnLine k → ⊥)
      → all (history (call ∷ calls)) ≡ all (history calls)
  stays calls (Judge xs now wall) goes_on other = refl
  stays calls (PutOnLine k) goes_on other = absurd (other k refl)
  stays calls (Accept k) goes_on other = refl
  stays calls (Busy k) goes_on other = refl
  stays calls (Lose k) goes_on other = refl
  stays calls (Mirror v now) goes_on other = refl
  stays calls (Own octets) goes_on other = refl
  stays calls SendOwn goes_on other =
      by (first_answer (run stations sizes ms age calls).state.answers)
    where
      by : (o : Option (List ℕ))
          → all (after_answer o (run stations sizes ms age calls)).history ≡ all (history calls)
      by None = refl
      by (Some octets) = refl
  stays calls Cut goes_on other = absurd (goes_on refl)
  stays calls (Due now) goes_on other = refl

  pub sendings_noted : (calls : List Call) → SendingsAreNoted sizes stations ms age calls
  sendings_noted calls = record {
    sent = sent calls;
    stays = stays calls;
    ends = refl;
  }
