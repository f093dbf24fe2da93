-- A record that is run part by part.
use Rattle.std.proofs.Common.{◌≡◌, ℕ, ◌+◌, true, cond, length, List, [], ◌++◌, Option, Some}
use Rattle.std.proofs.Common.{None, refl, ap, sym, ◌∙◌, subst, arith}
use Rattle.std.proofs.lemmas.List.{append-nil, length-append, map-append}
use Rattle.std.proofs.lemmas.List.Sums.{sum_by-append}
use Rattle.std.specs.List.{AllByRecursion, count_by}
use Rattle.std.specs.Option.{is_none}
use Rattle.gateway.specs.Agrees.{Follows, Rests}
use Rattle.gateway.specs.Config.{Settings}
use Rattle.gateway.specs.Log.{events_of}
use Rattle.gateway.specs.Setups.{setup_of}
use Rattle.gateway.specs.State.{State}
use Rattle.gateway.specs.Traffic.{HasRested}
use Rattle.gateway.specs.declared.ports.Next.TheVariants as answers
use Rattle.traces.specs.Fields.{parts_after}
use Rattle.traces.specs.Printed.{lines_of_log}
use Rattle.traces.specs.Progress.{events_in, IsRight}
use Rattle.traces.specs.Trace.{first_wrong}
use Rattle.traces.proofs.JoinedLemmas.{events_joined, none_wrong_from, wrong_behind}
use Rattle.traces.proofs.ProgressLemmas.{none_wrong}
use Rattle.record.proofs.LineLemmas.{page_lines}
use Rattle.record.specs.Comparing.{IsCompared}
use Rattle.record.specs.Lines.{event_line, event_lines, is_action, whole_lines}
use Rattle.record.specs.Opening.{BeginsBehind}
use Rattle.record.specs.Rerunning.{Halted, Rerunning, IsRerunning, RunsSoFar, Stands}
use Rattle.record.specs.Rerunning.{whole_log}
use Rattle.record.specs.declared.audit.comparing.Agreement.{Agreement}

-- The log

none_left : (left : Option (List ℕ)) → is_none left ≡ true → left ≡ None
none_left None over = refl
none_left (Some text) over = cc

count_joined : (xs ys : List (List ℕ)) → count_by is_action (xs ++ ys) ≡ count_by is_action xs
    + count_by is_action ys
count_joined xs ys = sum_by-append (λ x. cond (is_action x) 1 0) xs ys

pub lines_behind : (xs ys : List (List ℕ)) → event_lines (xs ++ ys)
    ≡ event_lines xs ++ event_lines ys
lines_behind xs ys = map-append event_line xs ys

pub right_behind : (lines part : List (List ℕ)) → first_wrong 1 (event_lines lines) ≡ None
    → first_wrong 1 (event_lines part) ≡ None → first_wrong 1 (event_lines (lines ++ part)) ≡ None
right_behind lines part before right =
    ap (first_wrong 1) (lines_behind lines part)
    ∙ wrong_behind 1 (event_lines lines) (event_lines part) before
    ∙ none_wrong_from 1 (1 + length (event_lines lines)) (event_lines part) right

-- what stays fixed over a part
abbrev pub fixed_of : Rerunning → Option (List ℕ) × Halted
fixed_of r = (r.part, r.start)

-- what passed before the record stays
pub same_past : (h : Halted) (start r : Rerunning) (part : Option (List ℕ))
    → start ≡ record { part = part; start = h; left = part; now = h; page = []; failed = 0 }
    → IsRerunning r → fixed_of r ≡ fixed_of start → r.now.past ≡ h.past
same_past h start r part fresh holds fixed =
    holds.past ∙ ap (λ (s : Option (List ℕ) × Halted). s.1.past) fixed
    ∙ ap (λ (s : Rerunning). s.start.past) fresh

past_so : (h : Halted) (start r : Rerunning) (part : Option (List ℕ))
    → start ≡ record { part = part; start = h; left = part; now = h; page = []; failed = 0 }
    → IsRerunning r → fixed_of r ≡ fixed_of start → (settings : Settings) (said : List ℕ)
    → BeginsBehind settings said r.now.past → BeginsBehind settings said h.past
past_so h start r part fresh holds fixed settings said begins =
    subst (BeginsBehind settings said) (same_past h start r part fresh holds fixed) begins

-- one part more was run to its end
pub part_run : (settings : Settings) (said : List ℕ) (lines : List (List ℕ)) (began ended : State)
    (h : Halted) (start r : Rerunning)
    (part : Option (List ℕ)) → start ≡ record {
      part = part;
      start = h;
      left = part;
      now = h;
      page =
          [];
      failed = 0;
    }
    → RunsSoFar settings said lines began h → IsRerunning r → fixed_of r ≡ fixed_of start
    → is_none r.left ≡ true
    → (BeginsBehind settings said h.past → Follows (setup_of settings) ended (Some (whole_log r.now)))
    → (BeginsBehind settings said h.past → HasRested (setup_of settings) (whole_log r.now))
    → RunsSoFar settings said (lines ++ parts_after 10 part) ended r.now
part_run settings said lines began ended h start r part fresh so holds fixed over follows rests =
    let none : r.left ≡ None = none_left r.left over in
    let same_part : r.part ≡ part = ap (λ (s : Option (List ℕ) × Halted). s.0) fixed
    ∙ ap (λ (s : Rerunning). s.part) fresh in
    let same_start : r.start ≡ h = ap (λ (s : Option (List ℕ) × Halted). s.1) fixed
    ∙ ap (λ (s : Rerunning). s.start) fresh in
    let lines_part = parts_after 10 part in
    let all : AllByRecursion IsRight (event_lines (parts_after 10 r.part)) =
    holds.right
    (subst (λ (l : Option (List ℕ)). AllByRecursion IsRight (event_lines (parts_after 10 l)))
    (sym none) tt) in
    let right : AllByRecursion IsRight (event_lines lines_part) =
    subst (λ (l : Option (List ℕ)). AllByRecursion IsRight (event_lines (parts_after 10 l)))
    same_part all in
    let counted : r.now.tally.lines + 0 ≡ h.tally.lines + length lines_part =
    ap (λ (l : Option (List ℕ)). r.now.tally.lines + length (parts_after 10 l)) (sym none)
    ∙ holds.lines
    ∙ ap (λ (s : Halted). s.tally.lines + length (parts_after 10 r.part)) same_start
    ∙ ap (λ (l : Option (List ℕ)). h.tally.lines + length (parts_after 10 l)) same_part in
    let acted : r.now.tally.actions + 0 ≡ h.tally.actions + count_by is_action lines_part =
    ap (λ (l : Option (List ℕ)). r.now.tally.actions + count_by is_action (parts_after 10 l))
    (sym none) ∙ holds.actions
    ∙ ap (λ (s : Halted). s.tally.actions + count_by is_action (parts_after 10 r.part)) same_start
    ∙ ap (λ (l : Option (List ℕ)). h.tally.actions + count_by is_action (parts_after 10 l))
    same_part in
    record {
      right = right_behind lines lines_part so.right (none_wrong 1 (event_lines lines_part) right);
      events = sym (append-nil (events_of r.now.log))
          ∙ ap (λ (l : Option (List ℕ)). events_of r.now.log
          ++ events_in (event_lines (parts_after 10 l))) (sym none)
          ∙ holds.whole
          ∙ ap (λ (s : Halted). events_of s.log ++ events_in (event_lines (parts_after 10 r.part)))
          same_start
          ∙ ap (λ (l : Option (List ℕ)). events_of h.log
          ++ events_in (event_lines (parts_after 10 l))) same_part
          ∙ ap (λ es. es ++ events_in (event_lines lines_part)) so.events
          ∙ sym (ap events_in (lines_behind lines lines_part)
          ∙ events_joined (event_lines lines) (event_lines lines_part));
      passed = omega (arith, counted, so.passed, length-append lines lines_part);
      actions = omega (arith, acted, so.actions, count_joined lines lines_part);
      follows = λ begins. follows (past_so h start r part fresh holds fixed settings said begins);
      rests = λ begins. rests (past_so h start r part fresh holds fixed settings said begins);
    }

-- the lines of the run are those before the part, and those on the page
pub run_lines : (start r : Rerunning) (h : Halted) (part : Option (List ℕ))
    → start ≡ record { part = part; start = h; left = part; now = h; page = []; failed = 0 }
    → IsRerunning r → fixed_of r ≡ fixed_of start
    → whole_lines (lines_of_log h.log) ++ whole_lines r.page ≡ whole_lines (lines_of_log r.now.log)
run_lines start r h part fresh holds fixed =
    let same : r.start ≡ h = ap (λ (s : Option (List ℕ) × Halted). s.1) fixed
    ∙ ap (λ (s : Rerunning). s.start) fresh in
    ap (λ (s : Halted). whole_lines (lines_of_log s.log) ++ whole_lines r.page) (sym same)
    ∙ page_lines r.start.log r.now.log r.page holds.page

-- and was compared
pub part_stands : (settings : Settings) (said : List ℕ) (lines : List (List ℕ))
    (began ended : State) (h : Halted) (start r : Rerunning)
    (part : Option (List ℕ)) (standing stood : Agreement) (page : List ℕ)
    → start ≡ record { part = part; start = h; left = part; now = h; page = []; failed = 0 }
    → Stands settings said lines began h standing → IsRerunning r → fixed_of r ≡ fixed_of start
    → is_none r.left ≡ true
    → (BeginsBehind settings said h.past → Follows (setup_of settings) ended (Some (whole_log r.now)))
    → (BeginsBehind settings said h.past → HasRested (setup_of settings) (whole_log r.now))
    → page ≡ r.page
    → IsCompared (lines ++ parts_after 10 part) (whole_lines (lines_of_log h.log)
    ++ whole_lines page) stood
    → Stands settings said (lines ++ parts_after 10 part) ended r.now stood
part_stands settings said lines began ended h start r part standing stood page fresh so holds fixed
    over follows rests same compared =
    record {
      runs = part_run settings said lines began ended h start r part fresh so.runs holds fixed over
          follows rests;
      compared =
          subst (λ (run : List (List ℕ)). IsCompared (lines ++ parts_after 10 part) run stood)
          (ap (λ xs. whole_lines (lines_of_log h.log) ++ whole_lines xs) same
          ∙ run_lines start r h part fresh holds fixed)
          compared;
    }

-- the run may go on over this part
pub goes_on : (settings : Settings) (said : List ℕ) (lines : List (List ℕ)) (state : State)
    (h : Halted) (start : Rerunning) (part : Option (List ℕ))
    → start ≡ record { part = part; start = h; left = part; now = h; page = []; failed = 0 }
    → RunsSoFar settings said lines state h → BeginsBehind settings said h.past
    → Follows (setup_of settings) state (Some (whole_log start.now))
    × Rests (setup_of settings) (Some (whole_log start.now))
goes_on settings said lines state h start part fresh so begins = (
  subst (λ (r : Rerunning). Follows (setup_of settings) state (Some (whole_log r.now))) (sym fresh)
      (so.follows begins),
  subst (λ (r : Rerunning). Rests (setup_of settings) (Some (whole_log r.now))) (sym fresh)
      (so.rests begins),
)
