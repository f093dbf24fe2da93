-- Texts that are printed part by part.
use Rattle.std.proofs.Common.{◌≡◌, ℕ, Bool, true, false, List, [], ◌++◌, Option, Some, None, sym}
use Rattle.std.proofs.Common.{ap, subst, ◌∙◌, append_assoc}
use Rattle.std.proofs.lemmas.List.{append-nil}
use Rattle.std.specs.Prelude.{Result, Ok, Err, OnOk, OnErr}
use Rattle.std.specs.Result.{is_ok}
use Rattle.std.specs.Io.KnownBytes.{Appends}
use Rattle.gateway.specs.Log.{Log}
use Rattle.traces.specs.Actions.{lines_of_actions}
use Rattle.traces.specs.Pouring.{IsBegun, IsPoured}

-- nothing was printed
pub appends_none : (known : Option (List ℕ)) → Appends known known []
appends_none None = tt
appends_none (Some octets) = sym (append-nil octets)

-- one text behind another
pub appends_more : (a b c : Option (List ℕ)) (xs ys : List ℕ) → Appends a b xs → Appends b c ys
    → Appends a c (xs ++ ys)
appends_more None b c xs ys p q = tt
appends_more (Some a) None c xs ys p q = absurd p
appends_more (Some a) (Some b) None xs ys p q = absurd q
appends_more (Some a) (Some b) (Some c) xs ys p q =
    q ∙ ap (λ zs. zs ++ ys) p ∙ append_assoc a xs ys

-- a text behind a beginning
pub begun_longer : (a b : Option (List ℕ)) (xs ys : List ℕ) → IsBegun a b xs
    → IsBegun a b (xs ++ ys)
begun_longer a b xs ys begun = (
  begun.0,
  (
    begun.1.0 ++ ys,
    sym (append_assoc begun.0 begun.1.0 ys)
        ∙ ap (λ zs. zs ++ ys) begun.1.1,
  ),
  begun.2,
)

pub begun_behind : (a b c : Option (List ℕ)) (xs ys : List ℕ) → Appends a b xs → IsBegun b c ys
    → IsBegun a c (xs ++ ys)
begun_behind a b c xs ys p begun = (
  xs ++ begun.0,
  (begun.1.0, append_assoc xs begun.0 begun.1.0 ∙ ap (λ zs. xs ++ zs) begun.1.1),
  appends_more a b c xs begun.0 p begun.2,
)

-- all of it is a beginning too
pub appends_begun : (a b : Option (List ℕ)) (xs : List ℕ) → Appends a b xs → IsBegun a b xs
appends_begun a b xs p = (xs, ([], append-nil xs), p)

pub poured_begun : (is_whole : Bool) (a b : Option (List ℕ)) (xs : List ℕ)
    → IsPoured is_whole a b xs
    → IsBegun a b xs
poured_begun true a b xs p = appends_begun a b xs p
poured_begun false a b xs p = p

-- a text that is known, or a beginning of it, goes behind one that was printed
pub poured_more : {E : Type 0} (before old new : Option (List ℕ)) (xs ys zs : List ℕ)
    (r : Result (Unit {0}) E)
    → Appends before old xs → xs ++ ys ≡ zs → OnOk r (Appends old new ys)
    → OnErr r (IsBegun old new ys)
    → IsPoured (is_ok r) before new zs
poured_more before old new xs ys zs (Ok done) p is all begun =
    subst (Appends before new) is (appends_more before old new xs ys p all)
poured_more before old new xs ys zs (Err e) p is all begun =
    subst (IsBegun before new) is (begun_behind before old new xs ys p begun)

-- of the same output
pub poured_as : {W : Type 0} (contents : W → Option (List ℕ)) (before : Option (List ℕ))
    (text : List ℕ)
    (taken is : Bool) (out w : W) → taken ≡ is → out ≡ w → IsPoured is before (contents w) text
    → IsPoured taken before (contents out) text
poured_as contents before text taken is out w e f p =
    subst (λ (b : Bool). IsPoured b before (contents out) text) (sym e)
    (subst (λ (x : _). IsPoured is before (contents x) text) (sym f) p)

-- all lines of the log
pub poured_all : (is_whole : Bool) (before after : Option (List ℕ)) (log poured : Log) → Some log
    ≡ Some poured
    → IsPoured is_whole before after (lines_of_actions poured)
    → IsPoured is_whole before after (lines_of_actions log)
poured_all is_whole before after log poured all p =
    let same : poured ≡ log = cc in
    subst (λ (l : Log). IsPoured is_whole before after (lines_of_actions l)) same p
