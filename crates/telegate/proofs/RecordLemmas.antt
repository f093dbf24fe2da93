-- A text in which a record is sought, and the events of its lines.
use Rattle.std.proofs.Common.{◌≡◌, ℕ, ◌||◌, Bool, true, false, List, [], ◌∷◌, ◌++◌, Option, Some}
use Rattle.std.proofs.Common.{None, if◌then◌else◌, refl, ap, sym, subst, ◌∙◌, append_assoc}
use Rattle.std.proofs.lemmas.List.Folds.{list_any-append}
use Rattle.std.specs.List.{list_any}
use Rattle.std.specs.Prelude.{IfSome}
use Rattle.record.specs.Passing.{IsOneLine}
use Rattle.record.specs.Lines.{event_line, event_lines, is_action, is_cut, whole_lines}
use Rattle.record.proofs.LineLemmas.{one_line}
use Rattle.traces.specs.Blocks.{IsGiven, Reading}
use Rattle.traces.specs.Fields.{parts_after}
use Rattle.traces.specs.Trace.{lines_of}
use Rattle.traces.proofs.JoinedLemmas.{lines_joined}
use Rattle.telegate.specs.Parts.{IsRecordFound, IsPartRead}
use Rattle.telegate.specs.Records.{is_action_line}
use Rattle.telegate.proofs.PartLemmas.{IsRest, joined, last_part, no_part, record_part, rest_behind}
use Rattle.telegate.proofs.PartLemmas.{rest_begins, rest_last, rest_more, cut_as}

-- Whether a text is a record

-- whether a line among these is that of an action
abbrev pub have_actions : List (List ℕ) → Bool
have_actions lines = list_any is_action_line lines

pub none_more : (line : List ℕ) (lines left : List (List ℕ)) → left ≡ line ∷ lines
    → is_action_line line ≡ false → have_actions left ≡ have_actions lines
none_more line lines left is none =
    ap have_actions is ∙ list_any-append is_action_line (line ∷ []) lines
    ∙ ap (λ (b : Bool). (b || false) || have_actions lines) none

pub some_here : (line : List ℕ) (lines left : List (List ℕ)) → left ≡ line ∷ lines
    → is_action_line line ≡ true → have_actions left ≡ true
some_here line lines left is some =
    ap have_actions is ∙ list_any-append is_action_line (line ∷ []) lines
    ∙ ap (λ (b : Bool). (b || false) || have_actions lines) some

-- a text was read so far, and no line of it is one's
pub record SeeksTo (known coming : Option (List ℕ)) : Type 0 where
  pub before : List ℕ
  pub rest : IsRest known before coming
  pub none : (t : List ℕ) → have_actions (lines_of (before ++ t)) ≡ have_actions (lines_of t)

pub seeks_begin : (known coming : Option (List ℕ)) → coming ≡ known → SeeksTo known coming
seeks_begin known coming all = subst (λ (c : Option (List ℕ)). SeeksTo known c) (sym all)
    (record { before = []; rest = rest_begins known; none = λ t. refl })

module _ (known coming : Option (List ℕ)) (h : SeeksTo known coming) (block : Reading)
    (lines : List ℕ) (same : lines ≡ block.lines)
    (cut : IfSome coming (λ text. IsGiven text block)) where
  -- those of a block, and of what follows it
  found_with : (t : List ℕ) → have_actions (lines_of (h.before ++ (lines ++ 10 ∷ t)))
      ≡ (have_actions (lines_of lines) || have_actions (lines_of t))
  found_with t = h.none (lines ++ 10 ∷ t) ∙ ap have_actions (lines_joined lines t)
      ∙ list_any-append is_action_line (lines_of lines) (lines_of t)

  -- a block more has none
  pub seeks_on : block.is_over ≡ false → have_actions (lines_of lines) ≡ false
      → SeeksTo known block.coming
  seeks_on goes none = record {
    before = h.before ++ (lines ++ 10 ∷ []);
    rest = rest_behind known coming block.coming h.before lines h.rest
        (cut_as block lines coming same cut false goes);
    none = λ t. ap (λ (xs : List ℕ). have_actions (lines_of xs)) (joined h.before lines t)
        ∙ found_with t ∙ ap (λ (b : Bool). b || have_actions (lines_of t)) none;
  }

  -- nor has the last one
  pub seeks_last : block.is_over ≡ true → have_actions (lines_of lines) ≡ false
      → IsRecordFound known false
  seeks_last over none = record {
    octets = h.before ++ lines;
    given = rest_last known coming block.coming h.before lines h.rest
        (cut_as block lines coming same cut true over);
    is = sym (h.none lines ∙ none);
  }

  -- or a line of it is one's
  pub seeks_found : have_actions (lines_of lines) ≡ true → IsRecordFound known true
  seeks_found some = by block.is_over refl
    where
      by : (over : Bool) → block.is_over ≡ over → IsRecordFound known true
      by true over = record {
        octets = h.before ++ lines;
        given = rest_last known coming block.coming h.before lines h.rest
            (cut_as block lines coming same cut true over);
        is = sym (h.none lines ∙ some);
      }
      by false goes =
          let more = rest_more known coming block.coming h.before lines h.rest
          (cut_as block lines coming same cut false goes) in
          record {
            octets = h.before ++ (lines ++ 10 ∷ more.0);
            given = more.1;
            is = sym (found_with more.0
                ∙ ap (λ (b : Bool). b || have_actions (lines_of more.0)) some);
          }

-- The events of lines

one_event : (line : List ℕ) → IsOneLine line → IsOneLine (event_line line)
one_event line one = by (is_action line) (is_cut line)
  where
    by : (action cut : Bool) → IsOneLine (if action then [] else if cut then [] else line)
    by true cut = refl
    by false true = refl
    by false false = one

-- the first lines were put, and these are left
pub record PutsTo (lines left part : List ℕ) : Type 0 where
  pub done : List (List ℕ)
  pub split : event_lines (lines_of lines) ≡ done ++ event_lines (lines_of left)
  pub put : (more : List ℕ) → lines_of (part ++ more) ≡ done ++ lines_of more

pub puts_begin : (lines part : List ℕ) → part ≡ [] → PutsTo lines lines part
puts_begin lines part none = record {
  done = [];
  split = refl;
  put = λ more. ap (λ (xs : List ℕ). lines_of (xs ++ more)) none;
}

module _ (lines left part line more : List ℕ) (h : PutsTo lines left part)
    (grown : more ≡ part ++ event_line line) where
  -- a line more
  pub puts_on : (behind after : List ℕ) → lines_of left ≡ line ∷ lines_of behind
      → after ≡ more ++ 10 ∷ [] → PutsTo lines behind after
  puts_on behind after is fed =
      let it = event_line line in
      let one = one_event line (one_line left line (lines_of behind) is) in
      let whole : after ≡ (part ++ it) ++ 10 ∷ [] =
      fed ∙ ap (λ (xs : List ℕ). xs ++ 10 ∷ []) grown in
      record {
        done = h.done ++ it ∷ [];
        split = h.split ∙ ap (λ (ls : List (List ℕ)). h.done ++ event_lines ls) is
            ∙ sym (append_assoc h.done (it ∷ []) (event_lines (lines_of behind)));
        put = λ xs. ap (λ (ys : List ℕ). lines_of (ys ++ xs)) whole
            ∙ ap lines_of (append_assoc (part ++ it) (10 ∷ []) xs
            ∙ append_assoc part it (10 ∷ xs))
            ∙ h.put (it ++ 10 ∷ xs)
            ∙ ap (λ (ls : List (List ℕ)). h.done ++ ls) (lines_joined it xs
            ∙ ap (λ (ls : List (List ℕ)). ls ++ lines_of xs) one)
            ∙ sym (append_assoc h.done (it ∷ []) (lines_of xs));
      }

  -- and it is the last one
  pub puts_last : lines_of left ≡ line ∷ [] → lines_of more ≡ event_lines (lines_of lines)
  puts_last is =
      ap lines_of grown ∙ h.put (event_line line)
      ∙ ap (λ (ls : List (List ℕ)). h.done ++ ls) (one_event line (one_line left line [] is))
      ∙ sym (h.split ∙ ap (λ (ls : List (List ℕ)). h.done ++ event_lines ls) is)

-- What is read of a block

module _ (lines part : List ℕ) (is_last : Bool) (found : Option (List ℕ))
    (last : is_last ≡ true → parts_after 10 found ≡ whole_lines lines)
    (other : is_last ≡ false → found ≡ Some lines) where
  pub read_some : (some : List ℕ) → found ≡ Some some
      → lines_of part ≡ event_lines (lines_of some) → IsPartRead true lines is_last part
  read_some some is put = by is_last refl
    where
      by : (b : Bool) → is_last ≡ b → IsPartRead true lines b part
      by true at = last_part lines part
          (put ∙ ap event_lines (sym (ap (parts_after 10) is) ∙ last at))
      by false at =
          let same : Some some ≡ Some lines = sym is ∙ other at in
          let e : some ≡ lines = cc in
          record_part lines part (put ∙ ap (λ (xs : List ℕ). event_lines (lines_of xs)) e)

  pub read_none : found ≡ None → part ≡ [] → IsPartRead true lines is_last part
  read_none is none = by is_last refl
    where
      by : (b : Bool) → is_last ≡ b → IsPartRead true lines b part
      by true at = no_part lines part none (sym (sym (ap (parts_after 10) is) ∙ last at))
      by false at = let no : None ≡ Some lines = sym is ∙ other at in absurd (cc)
