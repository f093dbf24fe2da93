-- The first lines of a record, which say state.
use Rattle.std.proofs.Common.{◌≡◌, ℕ, ◌+◌, Bool, true, false, length, List, [], ◌∷◌, ◌++◌, Option}
use Rattle.std.proofs.Common.{Some, None, codes, refl, ap, sym, ◌∙◌, subst, append_assoc, arith}
use Rattle.std.proofs.Common.{Bor, if◌then◌else◌, inl, inr}
use Rattle.std.proofs.lemmas.List.{append-nil, length-append, length-map}
use Rattle.std.specs.List.{count_by}
use Rattle.std.specs.Option.{is_some, option_copied}
use Rattle.std.specs.Prelude.{Vec, drop, ◌⊎◌}
use Rattle.std.specs.declared.alloc.Global.{Global}
use Rattle.gateway.specs.Agrees.{Follows}
use Rattle.gateway.specs.Config.{Settings}
use Rattle.gateway.specs.Log.{Log}
use Rattle.gateway.specs.Setups.{setup_of}
use Rattle.gateway.specs.State.{State}
use Rattle.gateway.specs.Traffic.{HasRested}
use Rattle.traces.specs.Fields.{parts_after}
use Rattle.traces.specs.Progress.{events_in}
use Rattle.traces.specs.Trace.{first_wrong, lines_of}
use Rattle.statetext.proofs.TextLemmas.{no_text}
use Rattle.statetext.specs.Text.{lines_in}
use Rattle.record.proofs.LineLemmas.{lines_some, none_whole}
use Rattle.record.specs.Comparing.{AreWhole}
use Rattle.record.specs.Lines.{event_lines, first_difference, first_state, is_action, record_lines}
use Rattle.record.specs.Lines.{says_state, whole_lines, without_state}
use Rattle.record.specs.Opening.{AreState, BeginsBehind, IsOther, Takes}
use Rattle.record.specs.Rerunning.{Halted, Stands}
use Rattle.record.specs.Steps.{Reads, StaysOther, masked}
use Rattle.record.specs.declared.audit.comparing.Agreement.TheVariants.{Level}
use Rattle.record.specs.declared.audit.opening.FirstLines.{FirstLines}

-- ---- Which lines say state

-- what the lines say is what the first ones say
pub first_of : (first rest : List (List ℕ)) → AreState first → IsOther rest
    → first_state (first ++ rest) ≡ first_state first
first_of [] [] says other = refl
first_of [] (line ∷ lines) says other =
    ap (λ (b : Bool). if b then drop 9 line ++ 10 ∷ first_state lines else []) other
first_of (line ∷ first) rest says other =
    ap (λ (b : Bool). if b then drop 9 line ++ 10 ∷ first_state (first ++ rest) else []) says.0
    ∙ ap (λ s. drop 9 line ++ 10 ∷ s) (first_of first rest says.1 other)
    ∙ sym (ap (λ (b : Bool). if b then drop 9 line ++ 10 ∷ first_state first else []) says.0)

without_first : (first rest : List (List ℕ)) → AreState first → IsOther rest
    → without_state (first ++ rest) ≡ masked first ++ rest
without_first [] [] says other = refl
without_first [] (line ∷ lines) says other =
    ap (λ (b : Bool). if b then codes "!" ∷ without_state lines else line ∷ lines) other
without_first (line ∷ first) rest says other =
    ap (λ (b : Bool). if b then codes "!" ∷ without_state (first ++ rest)
    else line ∷ (first ++ rest)) says.0
    ∙ ap (λ ls. codes "!" ∷ ls) (without_first first rest says.1 other)

pub lines_of_record : (text : List ℕ) (first rest : List (List ℕ))
    → whole_lines text ≡ first ++ rest → AreState first → IsOther rest
    → record_lines text ≡ masked first ++ rest
lines_of_record text first rest whole says other =
    ap without_state whole ∙ without_first first rest says other

pub other_ends : (rest : List (List ℕ)) → IsOther rest → IsOther (rest ++ [])
other_ends [] other = tt
other_ends (line ∷ lines) other = other

-- more lines come behind
pub stays_on : (over : Bool) (rest part : List (List ℕ)) → StaysOther false rest
    → StaysOther over (rest ++ part)
stays_on true rest part other = other part
stays_on false rest part other = λ more.
    subst IsOther (sym (append_assoc rest part more)) (other (part ++ more))

-- a part without lines
pub none_left : (left : Option (Bor (List ℕ))) → is_some left ≡ false
    → parts_after 10 (option_copied left) ≡ []
none_left None is = refl
none_left (Some text) is = cc

-- the lines that are left say no state, and are some unless no line is to come
pub other_stays : (over : Bool) (left : Option (Bor (List ℕ)))
    → (is_some left ≡ true) ⊎ (over ≡ true)
    → IsOther (parts_after 10 (option_copied left))
    → StaysOther over (parts_after 10 (option_copied left))
other_stays true left some other = other
other_stays false None (inl some) other = cc
other_stays false None (inr over) other = cc
other_stays false (Some text) some other = λ more.
    let some_lines = lines_some text.now in
    some_other (lines_of text.now) more
    (λ none. let two : [] ≡ some_lines.0 ∷ some_lines.1.0 = sym none ∙ some_lines.1.1 in cc) other
  where
    some_other : (lines more : List (List ℕ)) → (lines ≡ [] → ⊥) → IsOther lines
        → IsOther (lines ++ more)
    some_other [] more none is = absurd (none refl)
    some_other (line ∷ lines) more none is = is

-- ---- How they are taken

both_state : (xs ys : List (List ℕ)) → AreState xs → AreState ys → AreState (xs ++ ys)
both_state [] ys all more = more
both_state (x ∷ xs) ys all more = (all.0, both_state xs ys all.1 more)

state_joined : (xs ys : List (List ℕ)) → AreState xs
    → first_state (xs ++ ys) ≡ first_state xs ++ first_state ys
state_joined [] ys all = refl
state_joined (x ∷ xs) ys all =
    ap (λ (b : Bool). if b then drop 9 x ++ 10 ∷ first_state (xs ++ ys) else []) all.0
    ∙ ap (λ s. drop 9 x ++ 10 ∷ s) (state_joined xs ys all.1)
    ∙ sym (append_assoc (drop 9 x) (10 ∷ first_state xs) (first_state ys))
    ∙ sym (ap (λ (b : Bool). (if b then drop 9 x ++ 10 ∷ first_state xs else [])
    ++ first_state ys) all.0)

-- one line more
pub takes_next : (old before new : FirstLines) (lines left rest : List (List ℕ)) (line : List ℕ)
    → Takes old lines before left → left ≡ line ∷ rest → says_state line ≡ true
    → new.said.items ≡ (before.said.items ++ drop 9 line) ++ 10 ∷ []
    → new.count ≡ before.count + 1 → Takes old lines new rest
takes_next old before new lines left rest line so is says said counted = record {
  front = so.front ++ line ∷ [];
  parted = so.parted ∙ ap (λ ls. so.front ++ ls) is ∙ sym (append_assoc so.front (line ∷ []) rest);
  state = both_state so.front (line ∷ []) so.state (says, tt);
  said = said ∙ ap (λ s. (s ++ drop 9 line) ++ 10 ∷ []) so.said
      ∙ append_assoc (old.said.items ++ first_state so.front) (drop 9 line) (10 ∷ [])
      ∙ append_assoc old.said.items (first_state so.front) (drop 9 line ++ 10 ∷ [])
      ∙ ap (λ s. old.said.items ++ s) (sym (state_joined so.front (line ∷ []) so.state
      ∙ ap (λ (b : Bool). first_state so.front ++ (if b then drop 9 line ++ 10 ∷ [] else [])) says));
  counted = omega (arith, counted, so.counted, length-append so.front (line ∷ []));
}

-- So many lines were read; the first of them say state, and were taken, and these are left.
pub record Opened (known coming : Option (List ℕ)) (over : Bool) (f : FirstLines)
    (left : List (List ℕ)) : Type 0 where
  pub first : List (List ℕ)
  pub reads : Reads known coming over (first ++ left)
  pub says : AreState first
  pub said : f.said.items ≡ first_state first
  pub counted : f.count ≡ length first

-- nothing was read yet
pub opened_first : (known : Option (List ℕ)) (f : FirstLines) → f.said.items ≡ []
    → f.count ≡ 0 → Opened known known false f []
opened_first known f none zero = record {
  first = [];
  reads = record {
    octets = [];
    are = λ rest gives. gives;
    whole = λ rest. refl;
  };
  says = tt;
  said = none;
  counted = zero;
}

pub opened_on : (known coming later : Option (List ℕ)) (over : Bool) (f new : FirstLines)
    (part left : List (List ℕ)) (so : Opened known coming false f [])
    → Reads known later over ((so.first ++ []) ++ part) → Takes f part new left
    → Opened known later over new left
opened_on known coming later over f new part left so reads takes = record {
  first = so.first ++ takes.front;
  reads = subst (Reads known later over)
      (ap (λ ls. ls ++ part) (append-nil so.first) ∙ ap (λ ls. so.first ++ ls) takes.parted
      ∙ sym (append_assoc so.first takes.front left)) reads;
  says = both_state so.first takes.front so.says takes.state;
  said = takes.said ∙ ap (λ s. s ++ first_state takes.front) so.said
      ∙ sym (state_joined so.first takes.front so.says);
  counted = omega (arith, takes.counted, so.counted, length-append so.first takes.front);
}

-- no line is left, and others are to come
pub opened_goes : (known later : Option (List ℕ)) (over : Bool) (f : FirstLines)
    (left : List (List ℕ)) → Opened known later over f left → over ≡ false → left ≡ []
    → Opened known later false f []
opened_goes known later over f left o goes none =
    subst (λ (b : Bool). Opened known later b f []) goes
    (subst (λ (ls : List (List ℕ)). Opened known later over f ls) none o)

-- ---- How the run begins

-- what stands for lines of state says nothing
pub masked_right : (n : ℕ) (first : List (List ℕ)) → first_wrong n (event_lines (masked first)) ≡ None
masked_right n [] = refl
masked_right n (line ∷ first) = masked_right (n + 1) first

pub masked_length : (first : List (List ℕ)) → length (masked first) ≡ length first
masked_length first = length-map first (λ _. codes "!")

masked_events : (first : List (List ℕ)) → events_in (event_lines (masked first)) ≡ []
masked_events [] = refl
masked_events (line ∷ first) = masked_events first

masked_actions : (first : List (List ℕ)) → count_by is_action (masked first) ≡ 0
masked_actions [] = refl
masked_actions (line ∷ first) = masked_actions first

masked_passed : (n : ℕ) (first more later : List (List ℕ))
    → first_difference n (masked first ++ more) later
    ≡ first_difference (n + length (masked first)) more later
masked_passed n [] more later = ap (λ m. first_difference m more later) (omega arith)
masked_passed n (line ∷ first) more later =
    masked_passed (n + 1) first more later
    ∙ ap (λ m. first_difference m more later) (omega arith)

pub stands_first : (settings : Settings) (first : List (List ℕ)) (count : ℕ) (past : Log)
    (state : State) (h : Halted) (ahead : Vec ℕ Global)
    → h ≡ record {
      tally = record { lines = count; events = 0; actions = 0 };
      log = [];
      past = past;
    }
    → count ≡ length first → ahead.items ≡ []
    → (BeginsBehind settings (first_state first) past
    → Follows (setup_of settings) state (Some past) × HasRested (setup_of settings) past)
    → Stands settings (first_state first) (masked first) state h (Level ahead)
stands_first settings first count past state h ahead is counted none begins =
    subst (λ (x : Halted). Stands settings (first_state first) (masked first) state x
    (Level ahead)) (sym is) (record {
      runs = record {
        right = masked_right 1 first;
        events = sym (masked_events first);
        passed = counted ∙ sym (length-map first (λ _. codes "!"));
        actions = sym (masked_actions first);
        follows = λ so. (begins so).0;
        rests = λ so. (begins so).1;
      };
      compared = (
        (λ more later. masked_passed 1 first more later
            ∙ ap (λ (xs : List ℕ). first_difference (1 + length (masked first)) more
            (whole_lines xs ++ later)) (sym none)),
        subst AreWhole (sym none) none_whole,
      );
    })

-- what says lines isn't empty
pub said_some : (said line : List ℕ) (lines : List (List ℕ)) → lines_in said ≡ line ∷ lines
    → said ≡ [] → ⊥
said_some said line lines some none =
    let wrong : [] ≡ line ∷ lines = sym no_text ∙ sym (ap lines_in none) ∙ some in cc
