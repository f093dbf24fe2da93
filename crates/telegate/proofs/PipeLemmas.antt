-- Lines of a pipe, shown one after another.
use Rattle.std.proofs.Common.{◌≡◌, ◌⊎◌, inl, inr, ℕ, Bool, true, false, List, [], ◌∷◌, ◌++◌, Option}
use Rattle.std.proofs.Common.{None, refl, sym, subst, ap, ◌∙◌, append_assoc}
use Rattle.std.proofs.lemmas.List.{append-nil}
use Rattle.std.specs.Prelude.{IfSome, Result, Ok, Err}
use Rattle.std.specs.Io.KnownBytes.{Appends, Keeps}
use Rattle.traces.specs.Blocks.{IsGiven, Reading}
use Rattle.words.specs.declared.facts.condition.Condition.{Condition}
use Rattle.words.specs.declared.facts.condition.Shown.{Shown}
use Rattle.words.specs.declared.facts.condition.Condition.TheVariants.{Good, Faulty}
use Rattle.sim.specs.Runs.{IsBegun}
use Rattle.traces.proofs.JoinedLemmas.{lines_joined}
use Rattle.traces.specs.Trace.{lines_of}
use Rattle.words.specs.Pipes.{octets_in}
use Rattle.words.specs.Described.{both}
use Rattle.telegate.specs.Parts.{IsWant}
use Rattle.telegate.specs.Piping.{AreLinesShown, IsAdded, IsLineShown, IsShownAs, IsPiped}
use Rattle.telegate.specs.Piping.{IsPipedSome, Pipes}
use Rattle.telegate.specs.Source.{Gives}
use Rattle.telegate.specs.declared.fault.Fault.{Fault}
use Rattle.telegate.specs.declared.fault.Fault.TheVariants.{Device, Unread, NoMemory}
use Rattle.telegate.specs.declared.piping.Piped.{Piped}
use Rattle.telegate.proofs.PartLemmas.{IsRest, joined, rest_begins, rest_behind, rest_last}
use Rattle.telegate.proofs.PartLemmas.{rest_some, cut_as}
use Rattle.traces.proofs.Poured.{appends_more, appends_none, appends_begun, begun_behind}

both_along : (a b c : Condition) → both (both a b) c ≡ both a (both b c)
both_along Good b c = refl
both_along Faulty b c = refl

both_good : (a : Condition) → both a Good ≡ a
both_good Good = refl
both_good Faulty = refl

module _ (piped : Piped) (words : Bool) where
  -- some lines, and then others
  pub lines_more : (ls ms : List (List ℕ)) (a b : List ℕ) (o p : Condition)
      → AreLinesShown piped words ls a o
      → AreLinesShown piped words ms b p → AreLinesShown piped words (ls ++ ms) (a ++ b) (both o p)
  lines_more [] ms a b o p h k =
      subst (λ (x : Condition). AreLinesShown piped words ms (a ++ b) (both x p)) (sym h.1)
      (subst (λ (xs : List ℕ). AreLinesShown piped words ms (xs ++ b) p) (sym h.0) k)
  lines_more (l ∷ ls) ms a b o p h k = (
    h.0,
    h.1,
    h.2 ++ b,
    both h.3 p,
    h.4,
    lines_more ls ms h.2 b h.3 p h.5 k,
    ap (λ (xs : List ℕ). xs ++ b) h.6 ∙ append_assoc h.0 h.2 b,
    ap (λ (x : Condition). both x p) h.7 ∙ both_along h.1 h.3 p,
  )

  -- one line
  one_line : (line text : List ℕ) (o : Condition) → IsLineShown piped words (octets_in line) text o
      → AreLinesShown piped words (line ∷ []) text o
  one_line line text o h =
      (text, o, [], Good, h, (refl, refl), sym (append-nil text), sym (both_good o))

  -- a line that is no octets adds nothing, and isn't as it should be
  pub none_added : (octets : Option (List ℕ)) (shown : Option Shown) (text : List ℕ)
      (o later : Condition) → shown ≡ None
      → later ≡ both o Faulty → IsShownAs piped words octets shown
      → IsAdded piped words octets text text o later
  none_added octets shown text o later none judged is =
      let nothing : octets ≡ None = subst (λ (t : Option Shown). IsShownAs piped words octets t)
      none
      is in record {
        text = [];
        one = Faulty;
        shown = subst (λ (x : Option (List ℕ)). IsLineShown piped words x [] Faulty) (sym nothing)
            (refl, refl);
        added = sym (append-nil text);
        judged = judged;
      }

  -- the first lines of some were shown, and these are left
  pub record LinesTo (all left : List (List ℕ)) (text : List ℕ) (o : Condition) : Type 0 where
    pub done : List (List ℕ)
    pub split : all ≡ done ++ left
    pub shown : AreLinesShown piped words done text o

  pub lines_begin : (all : List (List ℕ)) (text : List ℕ) → text ≡ [] → LinesTo all all text Good
  lines_begin all text none = record { done = []; split = refl; shown = (none, refl) }

  pub lines_on : (all left : List (List ℕ)) (line text one later : List ℕ) (o p q : Condition)
      → LinesTo all (line ∷ left) text o → IsLineShown piped words (octets_in line) one p
      → later ≡ text ++ one
      → q ≡ both o p → LinesTo all left later q
  lines_on all left line text one later o p q h shown added judged = record {
    done = h.done ++ line ∷ [];
    split = h.split ∙ sym (append_assoc h.done (line ∷ []) left);
    shown = subst (λ (x : Condition). AreLinesShown piped words (h.done ++ line ∷ []) later x)
        (sym judged)
        (subst (λ (xs : List ℕ). AreLinesShown piped words (h.done ++ line ∷ []) xs (both o p))
        (sym added)
        (lines_more h.done (line ∷ []) text one o p h.shown (one_line line one p shown)));
  }

  pub lines_end : (all : List (List ℕ)) (text : List ℕ) (o : Condition) → LinesTo all [] text o
      → AreLinesShown piped words all text o
  lines_end all text o h = subst (λ (ls : List (List ℕ)). AreLinesShown piped words ls text o)
      (sym (h.split ∙ append-nil h.done)) h.shown

  -- so much of a text was read and shown
  pub record PipesTo (known coming : Option (List ℕ)) (o : Condition)
      (old new : Option (List ℕ)) : Type 0 where
    pub before : List ℕ
    pub rest : IsRest known before coming
    pub done : List (List ℕ)
    pub lines : (t : List ℕ) → lines_of (before ++ t) ≡ done ++ lines_of t
    pub text : List ℕ
    pub shown : AreLinesShown piped words done text o
    pub printed : Appends old new text

  pub pipes_begin : (known coming : Option (List ℕ)) (old : Option (List ℕ)) → coming ≡ known
      → PipesTo known coming Good old old
  pipes_begin known coming old all =
      subst (λ (c : Option (List ℕ)). PipesTo known c Good old old) (sym all) (record {
        before = [];
        rest = rest_begins known;
        done = [];
        lines = λ t. refl;
        text = [];
        shown = (refl, refl);
        printed = appends_none old;
      })

  module _ (known coming : Option (List ℕ)) (o : Condition) (old mid : Option (List ℕ))
      (h : PipesTo known coming o old mid) where
    -- what was printed so far
    pub some_piped : IsPipedSome piped words (Gives known) old mid
    some_piped = let some = rest_some known coming h.before h.rest in record {
      octets = h.before ++ some.0;
      is = some.1;
      first = h.done;
      later = lines_of some.0;
      lines = h.lines some.0;
      text = h.text;
      condition = o;
      shown = h.shown;
      printed = appends_begun old mid h.text h.printed;
    }

    module _ (block : Reading) (ls : List ℕ) (same : ls ≡ block.lines)
        (cut : IfSome coming (λ text. IsGiven text block))
        (text : List ℕ) (p q : Condition) (new : Option (List ℕ))
        (shown : AreLinesShown piped words (lines_of ls) text p) (judged : q ≡ both o p) where
      all_passed : AreLinesShown piped words (h.done ++ lines_of ls) (h.text ++ text) q
      all_passed =
          subst (λ (x : Condition). AreLinesShown piped words (h.done ++ lines_of ls)
          (h.text ++ text)
          x) (sym judged)
          (lines_more h.done (lines_of ls) h.text text o p h.shown shown)

      pub pipes_on : block.is_over ≡ false → Appends mid new text
          → PipesTo known block.coming q old new
      pipes_on is printed = record {
        before = h.before ++ (ls ++ 10 ∷ []);
        rest = rest_behind known coming block.coming h.before ls h.rest
            (cut_as block ls coming same cut false is);
        done = h.done ++ lines_of ls;
        lines = λ t. ap lines_of (joined h.before ls t) ∙ h.lines (ls ++ 10 ∷ t)
            ∙ ap (λ (xs : List (List ℕ)). h.done ++ xs) (lines_joined ls t)
            ∙ sym (append_assoc h.done (lines_of ls) (lines_of t));
        text = h.text ++ text;
        shown = all_passed;
        printed = appends_more old mid new h.text text h.printed printed;
      }

      pub pipes_all : block.is_over ≡ true → Appends mid new text
          → IsPiped piped words (Gives known) old new q
      pipes_all is printed = record {
        octets = h.before ++ ls;
        is = rest_last known coming block.coming h.before ls h.rest
            (cut_as block ls coming same cut true is);
        text = h.text ++ text;
        shown = subst (λ (xs : List (List ℕ)). AreLinesShown piped words xs (h.text ++ text) q)
            (sym (h.lines ls)) all_passed;
        printed = appends_more old mid new h.text text h.printed printed;
      }

      -- the output failed
      pub pipes_cut : IsBegun mid new text → IsPipedSome piped words (Gives known) old new
      pipes_cut begun = by block.is_over refl
        where
          by : (over : Bool) → block.is_over ≡ over → IsPipedSome piped words (Gives known) old new
          by true is = record {
            octets = h.before ++ ls;
            is = rest_last known coming block.coming h.before ls h.rest
                (cut_as block ls coming same cut true is);
            first = h.done ++ lines_of ls;
            later = [];
            lines = h.lines ls ∙ sym (append-nil (h.done ++ lines_of ls));
            text = h.text ++ text;
            condition = q;
            shown = all_passed;
            printed = begun_behind old mid new h.text text h.printed begun;
          }
          by false is =
              let rest = rest_behind known coming block.coming h.before ls h.rest
              (cut_as block ls coming same cut false is) in
              let some = rest_some known block.coming (h.before ++ (ls ++ 10 ∷ [])) rest in record {
                octets = (h.before ++ (ls ++ 10 ∷ [])) ++ some.0;
                is = some.1;
                first = h.done ++ lines_of ls;
                later = lines_of some.0;
                lines = ap lines_of (joined h.before ls some.0) ∙ h.lines (ls ++ 10 ∷ some.0)
                    ∙ ap (λ (xs : List (List ℕ)). h.done ++ xs) (lines_joined ls some.0)
                    ∙ sym (append_assoc h.done (lines_of ls) (lines_of some.0));
                text = h.text ++ text;
                condition = q;
                shown = all_passed;
                printed = begun_behind old mid new h.text text h.printed begun;
              }

  -- a text can't be read on, or memory was refused, and this was printed
  pub pipe_wanted : (has : List ℕ → Type 0) (old new : Option (List ℕ)) (fault : Fault)
      → IsWant fault
      → Keeps old new ⊎ IsPipedSome piped words has old new
      → Pipes piped words has old new (Err fault)
  pipe_wanted has old new NoMemory want h = h
  pipe_wanted has old new Unread want h = h
  pipe_wanted has old new other want h = absurd want

  -- a text that is known to be one of these
  pub piped_as : (has more : List ℕ → Type 0) (old new : Option (List ℕ))
      (r : Result Condition Fault)
      → ((octets : List ℕ) → has octets → more octets) → Pipes piped words has old new r
      → Pipes piped words more old new r
  piped_as has more old new r wider = by r
    where
      some_of : IsPipedSome piped words has old new → IsPipedSome piped words more old new
      some_of h = record {
        octets = h.octets;
        is = wider h.octets h.is;
        first = h.first;
        later = h.later;
        lines = h.lines;
        text = h.text;
        condition = h.condition;
        shown = h.shown;
        printed = h.printed;
      }

      either : Keeps old new ⊎ IsPipedSome piped words has old new → Keeps old new
          ⊎ IsPipedSome piped words more old new
      either (inl keeps) = inl keeps
      either (inr h) = inr (some_of h)

      by : (r : Result Condition Fault) → Pipes piped words has old new r
          → Pipes piped words more old new r
      by (Ok o) h = record {
        octets = h.octets;
        is = wider h.octets h.is;
        text = h.text;
        shown =
            h.shown;
        printed = h.printed;
      }
      by (Err Device) h = some_of h
      by (Err NoMemory) h = either h
      by (Err Unread) h = either h
      by (Err other) h = absurd h
