-- Lines of a script one by one.
use Rattle.std.proofs.Common.{◌≡◌, ℕ, ◌+◌, ◌<◌, ◌≤◌, List, [], ◌∷◌, ◌++◌, length, drop, get_or, map}
use Rattle.std.proofs.Common.{true, false, Bool, Bor, Some, None, refl, sym, ap, subst, ◌∙◌, arith}
use Rattle.std.proofs.Common.{append_assoc}
use Rattle.std.proofs.lemmas.List.{drop_more, drop_all, append-nil, map-append}
use Rattle.std.specs.List.{filter_map, list_any, AllByRecursion}
use Rattle.ft12.specs.declared.frame.LinkSize.{LinkSize}
use Rattle.traces.specs.Trace.{is_skipped}
use Rattle.sim.specs.declared.directive.Directive.{Directive}
use Rattle.sim.specs.Directives.{directive_in, FitsStations, IsWithinRanges}
use Rattle.sim.specs.Scripts.{said, first_wrong, clashes, clashes_with, AreTogether, ended_lines}
use Rattle.sim.specs.Scripts.{is_turns}

-- the lines of a list of references, from the ith on
abbrev pub lines_after : ℕ → List (Bor (List ℕ)) → List (List ℕ)
lines_after i ls = map (λ x. x.now) (drop i ls)

-- what is read so far, before what the lines from the ith on say
abbrev pub with_said : LinkSize → ℕ → List Directive → ℕ → List (Bor (List ℕ)) → List Directive
with_said size stations ds i ls = ds ++ filter_map (said size stations) (lines_after i ls)

-- a skipped line says nothing and isn't wrong
pub said_skip : (size : LinkSize) (n : ℕ) (ds : List Directive) (ls : List (Bor (List ℕ))) (i : ℕ)
    (d : Bor (List ℕ))
    → i < length ls → is_skipped (get_or ls i d).now ≡ true → with_said size n ds i ls
    ≡ with_said size n ds (i + 1) ls
said_skip size n ds ls i d lt e = rw (drop_more ls i d lt, e)

pub wrong_skip : (size : LinkSize) (n : ℕ) (ds : List Directive) (k : ℕ) (ls : List (Bor (List ℕ)))
    (i : ℕ)
    (d : Bor (List ℕ)) → i < length ls → is_skipped (get_or ls i d).now ≡ true
    → first_wrong size n ds k (lines_after i ls)
    ≡ first_wrong size n ds (k + 1) (lines_after (i + 1) ls)
wrong_skip size n ds k ls i d lt e = rw (drop_more ls i d lt, e, append-nil)

-- a line that goes with the others says what it says and isn't wrong
pub said_next : (size : LinkSize) (n : ℕ) (ds : List Directive) (x : Directive)
    (ls : List (Bor (List ℕ))) (i : ℕ)
    (d : Bor (List ℕ)) → i < length ls → is_skipped (get_or ls i d).now ≡ false
    → Some x ≡ directive_in size n (get_or ls i d).now
    → with_said size n ds i ls ≡ with_said size n (ds ++ x ∷ []) (i + 1) ls
said_next size n ds x ls i d lt e some = rw (drop_more ls i d lt, e, ← some, append_assoc)

pub wrong_next : (size : LinkSize) (n : ℕ) (ds : List Directive) (k : ℕ) (ls : List (Bor (List ℕ)))
    (i : ℕ)
    (d : Bor (List ℕ)) (x : Directive) → i < length ls → is_skipped (get_or ls i d).now ≡ false
    → Some x ≡ directive_in size n (get_or ls i d).now → clashes_with ds x ≡ false
    → first_wrong size n ds k (lines_after i ls) ≡ first_wrong size n (ds ++ x ∷ []) (k + 1)
    (lines_after (i + 1) ls)
wrong_next size n ds k ls i d x lt e some free = rw (drop_more ls i d lt, e, ← some, free)

-- another line is wrong
pub wrong_here : (size : LinkSize) (n : ℕ) (ds : List Directive) (k : ℕ) (ls : List (Bor (List ℕ)))
    (i : ℕ)
    (d : Bor (List ℕ)) → i < length ls → is_skipped (get_or ls i d).now ≡ false
    → None ≡ directive_in size n (get_or ls i d).now → first_wrong size n ds k (lines_after i ls)
    ≡ Some k
wrong_here size n ds k ls i d lt e none = rw (drop_more ls i d lt, e, ← none)

pub clash_here : (size : LinkSize) (n : ℕ) (ds : List Directive) (k : ℕ) (ls : List (Bor (List ℕ)))
    (i : ℕ)
    (d : Bor (List ℕ)) (x : Directive) → i < length ls → is_skipped (get_or ls i d).now ≡ false
    → Some x ≡ directive_in size n (get_or ls i d).now → clashes_with ds x ≡ true
    → first_wrong size n ds k (lines_after i ls) ≡ Some k
clash_here size n ds k ls i d x lt e some clash = rw (drop_more ls i d lt, e, ← some, clash)

-- after the last line
pub said_end : (size : LinkSize) (n : ℕ) (ds : List Directive) (ls : List (Bor (List ℕ))) (i : ℕ)
    → length ls ≤ i
    → with_said size n ds i ls ≡ ds
said_end size n ds ls i le = rw (drop_all i ls le, append-nil)

pub wrong_end : (size : LinkSize) (n : ℕ) (ds : List Directive) (k : ℕ) (ls : List (Bor (List ℕ)))
    (i : ℕ)
    → length ls ≤ i → list_any is_turns ds ≡ true → first_wrong size n ds k (lines_after i ls)
    ≡ None
wrong_end size n ds k ls i le e = rw (drop_all i ls le, e)

pub no_turns_end : (size : LinkSize) (n : ℕ) (ds : List Directive) (k : ℕ)
    (ls : List (Bor (List ℕ))) (i : ℕ)
    → length ls ≤ i → list_any is_turns ds ≡ false → first_wrong size n ds k (lines_after i ls)
    ≡ Some k
no_turns_end size n ds k ls i le e = rw (drop_all i ls le, e)

-- one more that goes with the others
any_more : (e : Directive) (ds : List Directive) (d : Directive) → list_any (clashes e) ds ≡ false
    → clashes e d ≡ false → list_any (clashes e) (ds ++ d ∷ []) ≡ false
any_more e [] d none free = rw free refl
any_more e (x ∷ ds) d none free = go (any_more e ds d) (clashes e x) refl
  where
    go : (list_any (clashes e) ds ≡ false → clashes e d ≡ false
        → list_any (clashes e) (ds ++ d ∷ []) ≡ false) →
        (b : Bool) → clashes e x ≡ b → list_any (clashes e) (x ∷ (ds ++ d ∷ [])) ≡ false
    go more true is = let never : true ≡ false = rw is at none in cc
    go more false is = let rest : list_any (clashes e) ds ≡ false = rw is at none in
        rw is (more rest free)

pub together_more : (ds : List Directive) (d : Directive) → AreTogether ds → clashes_with ds d
    ≡ false
    → AreTogether (ds ++ d ∷ [])
together_more [] d all free = (refl, tt)
together_more (e ∷ ds) d all free = go (together_more ds d all.1) (clashes e d) refl
  where
    go : (clashes_with ds d ≡ false → AreTogether (ds ++ d ∷ [])) → (b : Bool) → clashes e d ≡ b
        → AreTogether (e ∷ (ds ++ d ∷ []))
    go more true is = let never : true ≡ false = rw is at free in cc
    go more false is = let rest : clashes_with ds d ≡ false = rw is at free in
        (any_more e ds d all.0 is, more rest)

pub ranges_more : (ds : List Directive) (d : Directive) → AllByRecursion IsWithinRanges ds
    → IsWithinRanges d
    → AllByRecursion IsWithinRanges (ds ++ d ∷ [])
ranges_more [] d all is = (is, tt)
ranges_more (e ∷ ds) d all is = (all.0, ranges_more ds d all.1 is)

pub fits_more : (size : LinkSize) (n : ℕ) (ds : List Directive) (d : Directive)
    → AllByRecursion (FitsStations size n) ds → FitsStations size n d
    → AllByRecursion (FitsStations size n) (ds ++ d ∷ [])
fits_more size n [] d all is = (is, tt)
fits_more size n (e ∷ ds) d all is = (all.0, fits_more size n ds d all.1 is)

-- a last piece without anything is no line
pub ended_empty : (ls : List (List ℕ)) → ended_lines (ls ++ [] ∷ []) ≡ ls
ended_empty [] = refl
ended_empty ([] ∷ []) = refl
ended_empty ([] ∷ (x ∷ ls)) = ap (λ (l : List (List ℕ)). [] ∷ l) (ended_empty (x ∷ ls))
ended_empty ((b ∷ bs) ∷ ls) = ap (λ (l : List (List ℕ)). (b ∷ bs) ∷ l) (ended_empty ls)

pub ended_some : (ls : List (List ℕ)) (b : ℕ) (bs : List ℕ) → ended_lines (ls ++ (b ∷ bs) ∷ [])
    ≡ ls ++ (b ∷ bs) ∷ []
ended_some [] b bs = refl
ended_some ([] ∷ []) b bs = refl
ended_some ([] ∷ (x ∷ ls)) b bs = ap (λ (l : List (List ℕ)). [] ∷ l) (ended_some (x ∷ ls) b bs)
ended_some ((c ∷ cs) ∷ ls) b bs = ap (λ (l : List (List ℕ)). (c ∷ cs) ∷ l) (ended_some ls b bs)

-- the last of some pieces is taken off, and is nothing
pub ended_without : (old new : List (Bor (List ℕ))) (x : Bor (List ℕ)) → old ≡ new ++ x ∷ []
    → length x.now ≡ 0
    → map (λ l. l.now) new ≡ ended_lines (map (λ l. l.now) old)
ended_without old new x e none = go x.now refl
  where
    go : (l : List ℕ) → x.now ≡ l → map (λ l. l.now) new ≡ ended_lines (map (λ l. l.now) old)
    go [] is = rw (e, map-append, is) (sym (ended_empty (map (λ l. l.now) new)))
    go (b ∷ bs) is = let some : length x.now ≡ length (b ∷ bs) = ap length is in
        absurd (omega arith)

-- it is something
pub ended_with : (old new : List (Bor (List ℕ))) (x : Bor (List ℕ)) → old ≡ new ++ x ∷ []
    → (length x.now ≡ 0 → ⊥)
    → map (λ l. l.now) (new ++ x ∷ []) ≡ ended_lines (map (λ l. l.now) old)
ended_with old new x e some = go x.now refl
  where
    go : (l : List ℕ) → x.now ≡ l → map (λ l. l.now) (new ++ x ∷ [])
        ≡ ended_lines (map (λ l. l.now) old)
    go [] is = absurd (some (ap length is))
    go (b ∷ bs) is = rw (e, map-append, is) (sym (ended_some (map (λ l. l.now) new) b bs))

-- What is read so far, and what the lines that are left say, are what all lines say; and the first
-- wrong line
-- is among those left.
pub record ReadSoFar (size : LinkSize) (n : ℕ) (ls : List (Bor (List ℕ))) (i : ℕ)
    (ds : List Directive) : Type 0 where
  pub said_so : with_said size n ds i ls ≡ filter_map (said size n) (map (λ l. l.now) ls)
  pub wrong_so : first_wrong size n ds (i + 1) (lines_after i ls)
      ≡ first_wrong size n [] 1 (map (λ l. l.now) ls)
  pub together : AreTogether ds
  pub ranges : AllByRecursion IsWithinRanges ds
  pub fits : AllByRecursion (FitsStations size n) ds

pub read_skip : (size : LinkSize) (n : ℕ) (ds : List Directive) (ls : List (Bor (List ℕ))) (i : ℕ)
    (d : Bor (List ℕ))
    → i < length ls → is_skipped (get_or ls i d).now ≡ true → ReadSoFar size n ls i ds
    → ReadSoFar size n ls (i + 1) ds
read_skip size n ds ls i d lt e so = record {
  said_so = sym (said_skip size n ds ls i d lt e) ∙ so.said_so;
  wrong_so = sym (wrong_skip size n ds (i + 1) ls i d lt e) ∙ so.wrong_so;
  together = so.together;
  ranges = so.ranges;
  fits = so.fits;
}

pub read_more : (size : LinkSize) (n : ℕ) (ds new : List Directive) (x : Directive)
    (ls : List (Bor (List ℕ))) (i : ℕ)
    (d : Bor (List ℕ)) → i < length ls → is_skipped (get_or ls i d).now ≡ false →
    Some x ≡ directive_in size n (get_or ls i d).now → clashes_with ds x ≡ false → IsWithinRanges x
    → FitsStations size n x → new ≡ ds ++ x ∷ [] →
    ReadSoFar size n ls i ds → ReadSoFar size n ls (i + 1) new
read_more size n ds new x ls i d lt e some free range fit is so =
    subst (ReadSoFar size n ls (i + 1)) (sym is) (record {
      said_so = sym (said_next size n ds x ls i d lt e some) ∙ so.said_so;
      wrong_so = sym (wrong_next size n ds (i + 1) ls i d x lt e some free) ∙ so.wrong_so;
      together = together_more ds x so.together free;
      ranges = ranges_more ds x so.ranges range;
      fits = fits_more size n ds x so.fits fit;
    })
