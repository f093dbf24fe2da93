-- A record and its run, compared line by line.
use Rattle.std.proofs.Common.{◌≡◌, ℕ, ◌+◌, ◌<◌, suc, get_or, take, drop, Bool, true, false, cond}
use Rattle.std.proofs.Common.{if◌then◌else◌, refl, length, List, [], ◌∷◌, ◌++◌, Option, Some, None}
use Rattle.std.proofs.Common.{ap, sym, ◌∙◌, subst, append_assoc, arith}
use Rattle.std.proofs.lemmas.List.{append-nil, length-append}
use Rattle.std.proofs.Math.Seq.{split_at}
use Rattle.std.proofs.lemmas.Slice.Eq.{bytes_eq-Decides}
use Rattle.std.specs.List.{AllByRecursion, onto_first}
use Rattle.std.specs.Prelude.{Vec, ◌==◌, ◌||◌}
use Rattle.std.specs.Str.{bytes_eq}
use Rattle.std.specs.declared.alloc.Global.{Global}
use Rattle.gateway.specs.Config.{Settings}
use Rattle.gateway.specs.Log.{Log}
use Rattle.gateway.specs.State.{State}
use Rattle.traces.specs.Printed.{lines_of_log}
use Rattle.traces.specs.Trace.{lines_of}
use Rattle.record.proofs.LineLemmas.{both_whole, ended_whole, rest_whole, whole_joined}
use Rattle.record.specs.Audit.{IsComparison, comparison_at}
use Rattle.record.specs.Comparing.{AreWhole, GoesOn, IsBehind, IsCompared, IsOff, Numbers}
use Rattle.record.specs.Lines.{is_cut, is_first, behind_first, first_difference, leaves_out}
use Rattle.record.specs.Lines.{whole_lines}
use Rattle.record.specs.Rerunning.{Halted, IsHalted, Stands}
use Rattle.record.specs.declared.audit.Comparison.TheVariants as Comparisons
use Rattle.record.specs.declared.audit.Comparison.TheVariants.{Same}
use Rattle.record.specs.declared.audit.comparing.Agreement.{Agreement}
use Rattle.record.specs.declared.audit.comparing.Agreement.TheVariants.{Level, Behind, Differs}
use Rattle.record.specs.declared.audit.passing.LineCounts.{LineCounts}

-- ---- Numbers of lines

-- these lines are left of others, and the first of them has this number
pub record IsLeft (first : ℕ) (lines : List (List ℕ)) (n : ℕ) (left : List (List ℕ))
    : Type 0 where
  pub front : List (List ℕ)
  pub parted : lines ≡ front ++ left
  pub counted : n ≡ first + length front

pub numbers_next : (first : ℕ) (lines : List (List ℕ)) (n : ℕ) (line : List ℕ)
    (left rest : List (List ℕ)) → left ≡ line ∷ rest → IsLeft first lines n left
    → Numbers first lines n line
numbers_next first lines n line left rest is so = record {
  front = so.front;
  behind = rest;
  parted = so.parted ∙ ap (λ ls. so.front ++ ls) is;
  counted = so.counted;
}

pub left_next : (first : ℕ) (lines : List (List ℕ)) (n : ℕ) (line : List ℕ)
    (left rest : List (List ℕ)) → left ≡ line ∷ rest → IsLeft first lines n left
    → IsLeft first lines (n + 1) rest
left_next first lines n line left rest is so = record {
  front = so.front ++ line ∷ [];
  parted = so.parted ∙ ap (λ ls. so.front ++ ls) is ∙ sym (append_assoc so.front (line ∷ []) rest);
  counted = omega (arith, so.counted, length-append so.front (line ∷ []));
}

-- more lines behind them
numbers_more : (first : ℕ) (lines more : List (List ℕ)) (n : ℕ) (line : List ℕ)
    → Numbers first lines n line → Numbers first (lines ++ more) n line
numbers_more first lines more n line so = record {
  front = so.front;
  behind = so.behind ++ more;
  parted = ap (λ ls. ls ++ more) so.parted ∙ append_assoc so.front (line ∷ so.behind) more;
  counted = so.counted;
}

-- or before them
numbers_behind : (first : ℕ) (lines part : List (List ℕ)) (n : ℕ) (line : List ℕ)
    → first ≡ 1 + length lines → Numbers first part n line → Numbers 1 (lines ++ part) n line
numbers_behind first lines part n line counted so = record {
  front = lines ++ so.front;
  behind = so.behind;
  parted = ap (λ ls. lines ++ ls) so.parted
      ∙ sym (append_assoc lines so.front (line ∷ so.behind));
  counted = omega (arith, so.counted, counted, length-append lines so.front);
}

-- ---- Line by line

module _ (first : ℕ) (lines run : List (List ℕ)) (n : ℕ) (line : List ℕ)
    (left rest ahead : List (List ℕ))
    (is : left ≡ line ∷ rest) (goes : GoesOn first lines run n left ahead) where
  goes_to : (more later : List (List ℕ)) → first_difference first (lines ++ more) (run ++ later)
      ≡ first_difference n (line ∷ (rest ++ more)) (ahead ++ later)
  goes_to more later = goes more later ∙ ap (λ ls. first_difference n (ls ++ more) (ahead ++ later))
      is

  -- a line that was cut short is passed over
  pub goes_cut : is_cut line ≡ true → GoesOn first lines run (n + 1) rest ahead
  goes_cut cut more later = goes_to more later
      ∙ ap (λ (b : Bool). if b then first_difference (n + 1) (rest ++ more) (ahead ++ later)
      else if is_first line (ahead ++ later) then first_difference (n + 1) (rest ++ more)
      (behind_first (ahead ++ later))
      else Some n) cut

  uncut_to : is_cut line ≡ false → (more later : List (List ℕ))
      → first_difference first (lines ++ more) (run ++ later)
      ≡ (if is_first line (ahead ++ later) then first_difference (n + 1) (rest ++ more)
      (behind_first (ahead ++ later))
      else Some n)
  uncut_to uncut more later = goes_to more later
      ∙ ap (λ (b : Bool). if b then first_difference (n + 1) (rest ++ more) (ahead ++ later)
      else if is_first line (ahead ++ later) then first_difference (n + 1) (rest ++ more)
      (behind_first (ahead ++ later))
      else Some n) uncut

  -- the run has no line for it so far
  pub goes_behind : IsLeft first lines n left → is_cut line ≡ false → ahead ≡ []
      → IsBehind first lines run n line
  goes_behind so uncut none = record {
    numbers = numbers_next first lines n line left rest is so;
    uncut = uncut;
    others = rest;
    goes = λ more later. goes_to more later
        ∙ ap (λ ls. first_difference n (line ∷ (rest ++ more)) (ls ++ later)) none;
  }

  module _ (other : List ℕ) (further : List (List ℕ)) (next : ahead ≡ other ∷ further) where
    -- it is the run's
    pub goes_same : is_cut line ≡ false → bytes_eq line other ≡ true
        → GoesOn first lines run (n + 1) rest further
    goes_same uncut same more later = uncut_to uncut more later
        ∙ ap (λ ls. if is_first line (ls ++ later) then first_difference (n + 1) (rest ++ more)
        (behind_first (ls ++ later)) else Some n) next
        ∙ ap (λ (b : Bool). if b then first_difference (n + 1) (rest ++ more) (further ++ later)
        else Some n) same

    -- it isn't
    pub goes_off : IsLeft first lines n left → is_cut line ≡ false → bytes_eq line other ≡ false
        → IsOff first lines run n line
    goes_off so uncut differs = record {
      numbers = numbers_next first lines n line left rest is so;
      off = λ more later. uncut_to uncut more later
          ∙ ap (λ ls. if is_first line (ls ++ later) then first_difference (n + 1) (rest ++ more)
          (behind_first (ls ++ later)) else Some n) next
          ∙ ap (λ (b : Bool). if b then first_difference (n + 1) (rest ++ more) (further ++ later)
          else Some n) differs;
    }

-- What is compared later

pub goes_joined : (lines run : List (List ℕ)) (n m : ℕ) (part page ahead : List (List ℕ))
    → GoesOn 1 lines run n [] ahead
    → (tail : List (List ℕ)) (left : List (List ℕ)) → GoesOn n part (ahead ++ page) m left tail
    → GoesOn 1 (lines ++ part) (run ++ page) m left tail
goes_joined lines run n m part page ahead goes tail left on more later =
    ap (λ ls. first_difference 1 ls ((run ++ page) ++ later)) (append_assoc lines part more)
    ∙ ap (λ ls. first_difference 1 (lines ++ (part ++ more)) ls) (append_assoc run page later)
    ∙ goes (part ++ more) (page ++ later)
    ∙ ap (λ ls. first_difference n (part ++ more) ls) (sym (append_assoc ahead page later))
    ∙ on more later

-- no line is left
pub goes_over : (first : ℕ) (lines run : List (List ℕ)) (n m : ℕ) (left ahead : List (List ℕ))
    → left ≡ []
    → n + length left ≡ m → GoesOn first lines run n left ahead → GoesOn first lines run m [] ahead
goes_over first lines run n m left ahead none counted goes more later =
    let same : n ≡ m = omega (arith, counted, ap length none) in
    goes more later ∙ ap (λ ls. first_difference n (ls ++ more) (ahead ++ later)) none
    ∙ ap (λ k. first_difference k more (ahead ++ later)) same

-- one line fewer is left
pub counted_on : (n m : ℕ) (line : List ℕ) (left rest : List (List ℕ)) → left ≡ line ∷ rest
    → n + length left ≡ m
    → n + 1 + length rest ≡ m
counted_on n m line left rest is counted =
    let one : length left ≡ length (line ∷ rest) = ap length is in
    omega (arith, one, counted)

-- The comparison

none_more : (lines run : List (List ℕ)) (o : Option ℕ)
    → first_difference 1 (lines ++ []) (run ++ []) ≡ o → first_difference 1 lines run ≡ o
none_more lines run o is = ap (λ ls. first_difference 1 ls run) (sym (append-nil lines))
    ∙ ap (λ ls. first_difference 1 (lines ++ []) ls) (sym (append-nil run)) ∙ is

-- what is told of the first line that isn't the run's
told_at : (lines : List (List ℕ)) (log : Log) (n : ℕ) (line : List ℕ)
    → first_difference 1 lines (whole_lines (lines_of_log log)) ≡ Some n → Numbers 1 lines n line
    → IsComparison lines log (comparison_at n line)
told_at lines log n line is numbers = by (leaves_out line) refl
  where
    by : (b : Bool) → leaves_out line ≡ b
        → IsComparison lines log (if b then Comparisons.LeftOut n else Comparisons.Differs n)
    by true out = (is, (line, numbers, out))
    by false other = is

module _ (settings : Settings) (said : List ℕ) (lines : List (List ℕ)) (state : State) (h : Halted)
    (standing : Agreement) where
  pub logged_level : (ahead : Vec ℕ Global) → standing ≡ Level ahead → (tally : LineCounts)
      → tally ≡ h.tally → IsHalted h
      → Stands settings said lines state h standing
      → IsComparison lines h.log (Same tally.events tally.actions)
  logged_level ahead is tally same halted stands =
      let compared : IsCompared lines (whole_lines (lines_of_log h.log)) (Level ahead) =
      subst (IsCompared lines (whole_lines (lines_of_log h.log))) is stands.compared in (
        none_more lines (whole_lines (lines_of_log h.log)) None (compared.0 [] []),
        ap (λ (t : LineCounts). t.events) same ∙ halted.events,
        ap (λ (t : LineCounts). t.actions) same ∙ stands.runs.actions,
      )

  pub logged_behind : (n : ℕ) (line : Vec ℕ Global) → standing ≡ Behind n line
      → Stands settings said lines state h standing
      → IsComparison lines h.log (comparison_at n line.items)
  logged_behind n line is stands =
      let behind : IsBehind 1 lines (whole_lines (lines_of_log h.log)) n line.items =
      subst (IsCompared lines (whole_lines (lines_of_log h.log))) is stands.compared in
      told_at lines h.log n line.items
      (none_more lines (whole_lines (lines_of_log h.log)) (Some n) (behind.goes [] []
      ∙ ap (λ (b : Bool). if b then first_difference (n + 1) (behind.others ++ []) [] else Some n)
      behind.uncut)) behind.numbers

  pub logged_off : (n : ℕ) (line : Vec ℕ Global) → standing ≡ Differs n line
      → Stands settings said lines state h standing
      → IsComparison lines h.log (comparison_at n line.items)
  logged_off n line is stands =
      let off : IsOff 1 lines (whole_lines (lines_of_log h.log)) n line.items =
      subst (IsCompared lines (whole_lines (lines_of_log h.log))) is stands.compared in
      told_at lines h.log n line.items
      (none_more lines (whole_lines (lines_of_log h.log)) (Some n) (off.off [] [])) off.numbers

-- A part more

module _ (lines run part : List (List ℕ)) (first : ℕ) (ahead page logged : List ℕ)
    (goes : GoesOn 1 lines run (1 + length lines) [] (whole_lines ahead)) (whole : AreWhole ahead)
    (counted : first ≡ 1 + length lines) (is : logged ≡ ahead ++ page) where
  from_here : (m : ℕ) (left tail : List (List ℕ))
      → GoesOn first part (whole_lines logged) m left tail
      → GoesOn 1 (lines ++ part) (run ++ whole_lines page) m left tail
  from_here m left tail on =
      let all : whole_lines logged ≡ whole_lines ahead ++ whole_lines page = ap whole_lines is
      ∙ whole page in
      goes_joined lines run (1 + length lines) m part (whole_lines page) (whole_lines ahead) goes
      tail left
      (subst (λ (n : ℕ). GoesOn n part (whole_lines ahead ++ whole_lines page) m left tail) counted
      (subst (λ (ls : List (List ℕ)). GoesOn first part ls m left tail) all on))

  pub level_on : (rest kept : List ℕ) → AreWhole page
      → GoesOn first part (whole_lines logged) (first + length part) [] (whole_lines rest)
      × (AreWhole logged → AreWhole rest)
      → kept ≡ rest
      → GoesOn 1 (lines ++ part) (run ++ whole_lines page) (1 + length (lines ++ part)) []
      (whole_lines kept)
      × AreWhole kept
  level_on rest kept whole_page found same =
      let many : first + length part ≡ 1 + length (lines ++ part) =
      omega (arith, counted, length-append lines part) in
      let on = from_here (first + length part) [] (whole_lines rest) found.0 in (
        subst (λ (xs : List ℕ). GoesOn 1 (lines ++ part) (run ++ whole_lines page)
            (1 + length (lines ++ part)) [] (whole_lines xs))
            (sym same)
            (subst (λ (n : ℕ). GoesOn 1 (lines ++ part) (run ++ whole_lines page) n []
            (whole_lines rest))
            many on),
        subst AreWhole (sym same)
            (found.1 (subst AreWhole (sym is) (both_whole ahead page whole whole_page))),
      )

  pub behind_on : (n : ℕ) (line kept : List ℕ) → IsBehind first part (whole_lines logged) n line
      → kept ≡ line
      → IsBehind 1 (lines ++ part) (run ++ whole_lines page) n kept
  behind_on n line kept found same = subst (IsBehind 1 (lines ++ part) (run ++ whole_lines page) n)
      (sym same) (record {
        numbers = numbers_behind first lines part n line counted found.numbers;
        uncut = found.uncut;
        others = found.others;
        goes = from_here n (line ∷ found.others) [] found.goes;
      })

  pub off_on : (n : ℕ) (line kept : List ℕ) → IsOff first part (whole_lines logged) n line
      → kept ≡ line → IsOff 1 (lines ++ part) (run ++ whole_lines page) n kept
  off_on n line kept found same = subst (IsOff 1 (lines ++ part) (run ++ whole_lines page) n)
      (sym same) (record {
        numbers = numbers_behind first lines part n line counted found.numbers;
        off = λ more later.
            let all : whole_lines logged ≡ whole_lines ahead ++ whole_lines page =
            ap whole_lines is ∙ whole page in
            ap (λ ls. first_difference 1 ls ((run ++ whole_lines page) ++ later))
            (append_assoc lines part more)
            ∙ ap (λ ls. first_difference 1 (lines ++ (part ++ more)) ls)
            (append_assoc run (whole_lines page) later)
            ∙ goes (part ++ more) (whole_lines page ++ later)
            ∙ ap (λ ls. first_difference (1 + length lines) (part ++ more) ls)
            (sym (append_assoc (whole_lines ahead) (whole_lines page) later))
            ∙ ap (λ k. first_difference k (part ++ more) ((whole_lines ahead ++ whole_lines page)
            ++ later)) (sym counted)
            ∙ ap (λ ls. first_difference first (part ++ more) (ls ++ later)) (sym all)
            ∙ found.off more later;
      })

module _ (lines run more : List (List ℕ)) (n : ℕ) (line : List ℕ) (page : List ℕ)
    (behind : IsBehind 1 lines run n line) where
  behind_to : (rest later : List (List ℕ))
      → first_difference 1 ((lines ++ more) ++ rest) ((run ++ whole_lines page) ++ later)
      ≡ first_difference n (line ∷ ((behind.others ++ more) ++ rest)) (whole_lines page ++ later)
  behind_to rest later =
      ap (λ ls. first_difference 1 ls ((run ++ whole_lines page) ++ later))
      (append_assoc lines more rest)
      ∙ ap (λ ls. first_difference 1 (lines ++ (more ++ rest)) ls)
      (append_assoc run (whole_lines page) later)
      ∙ behind.goes (more ++ rest) (whole_lines page ++ later)
      ∙ ap (λ ls. first_difference n (line ∷ ls) (whole_lines page ++ later))
      (sym (append_assoc behind.others more rest))

  -- it says nothing
  pub still_behind : whole_lines page ≡ []
      → IsBehind 1 (lines ++ more) (run ++ whole_lines page) n line
  still_behind none = record {
    numbers = numbers_more 1 lines more n line behind.numbers;
    uncut = behind.uncut;
    others = behind.others ++ more;
    goes = λ rest later. behind_to rest later
        ∙ ap (λ ls. first_difference n (line ∷ ((behind.others ++ more) ++ rest)) (ls ++ later))
        none;
  }

  -- or another line
  pub off_now : (other : List ℕ) (further : List (List ℕ)) → whole_lines page ≡ other ∷ further
      → bytes_eq line other ≡ false → IsOff 1 (lines ++ more) (run ++ whole_lines page) n line
  off_now other further is differs = record {
    numbers = numbers_more 1 lines more n line behind.numbers;
    off = λ rest later. behind_to rest later
        ∙ ap (λ ls. first_difference n (line ∷ ((behind.others ++ more) ++ rest)) (ls ++ later)) is
        ∙ ap (λ (b : Bool). if b then first_difference (n + 1) ((behind.others ++ more) ++ rest)
        ((other ∷ further) ++ later)
        else if bytes_eq line other then first_difference (n + 1) ((behind.others ++ more) ++ rest)
        (further ++ later)
        else Some n) behind.uncut
        ∙ ap (λ (b : Bool). if b then first_difference (n + 1) ((behind.others ++ more) ++ rest)
        (further ++ later) else Some n) differs;
  }

-- All lines at once

uncut_parts : (a b : Bool) → (a || b) ≡ false → (a ≡ false) × (b ≡ false)
uncut_parts true b is = cc
uncut_parts false b is = (refl, is)

-- a text without a mark has no line that was cut short
uncut_lines : (text : List ℕ) (lines : List (List ℕ)) → lines_of text ≡ lines → is_cut text ≡ false
    → AllByRecursion (λ line. is_cut line ≡ false) lines
uncut_lines [] lines is plain = subst (AllByRecursion (λ line. is_cut line ≡ false)) is (refl, tt)
uncut_lines (x ∷ xs) lines is plain =
    subst (AllByRecursion (λ line. is_cut line ≡ false)) is
    (by (uncut_parts (x == 33) (is_cut xs) plain) (uncut_lines xs (lines_of xs) refl) (x == 10))
  where
    onto : (ls : List (List ℕ)) → (x == 33) ≡ false
        → AllByRecursion (λ line. is_cut line ≡ false) ls
        → AllByRecursion (λ line. is_cut line ≡ false) (onto_first x ls)
    onto [] first all = (ap (λ (b : Bool). b || false) first, tt)
    onto (l ∷ ls) first all = (ap (λ (b : Bool). b || is_cut l) first ∙ all.0, all.1)

    by : ((x == 33) ≡ false) × (is_cut xs ≡ false)
        → (is_cut xs ≡ false → AllByRecursion (λ line. is_cut line ≡ false) (lines_of xs))
        → (b : Bool)
        → AllByRecursion (λ line. is_cut line ≡ false)
        (cond b ([] ∷ lines_of xs) (onto_first x (lines_of xs)))
    by both rest true = (refl, rest both.1)
    by both rest false = onto (lines_of xs) both.0 (rest both.1)

same_front : (n : ℕ) (lines more later : List (List ℕ))
    → AllByRecursion (λ line. is_cut line ≡ false) lines
    → first_difference n (lines ++ more) (lines ++ later)
    ≡ first_difference (n + length lines) more later
same_front n [] more later all = ap (λ k. first_difference k more later) (omega arith)
same_front n (line ∷ lines) more later all =
    ap (λ (b : Bool). if b then first_difference (n + 1) (lines ++ more) (line ∷ (lines ++ later))
    else if bytes_eq line line then first_difference (n + 1) (lines ++ more) (lines ++ later)
    else Some n) all.0
    ∙ ap (λ (b : Bool). if b then first_difference (n + 1) (lines ++ more) (lines ++ later)
    else Some n)
    ((bytes_eq-Decides line line).1 refl)
    ∙ same_front (n + 1) lines more later all.1
    ∙ ap (λ k. first_difference k more later) (omega arith)

-- a text begins with lines and a line feed
pub front_is : (lines run : List ℕ) → length lines < length run → get_or run (length lines) 0 ≡ 10
    → bytes_eq lines (take (length lines) run) ≡ true
    → run ≡ lines ++ 10 ∷ drop (length lines + 1) run
front_is lines run within feed same =
    let next : suc (length lines) ≡ length lines + 1 = omega arith in
    split_at run (length lines) 0 within
    ∙ ap (λ x. take (length lines) run ++ x ∷ drop (suc (length lines)) run) feed
    ∙ ap (λ l. l ++ 10 ∷ drop (suc (length lines)) run)
    (sym ((bytes_eq-Decides lines (take (length lines) run)).0 same))
    ∙ ap (λ n. lines ++ 10 ∷ drop n run) next

-- the run begins with these lines, and goes on behind them
pub all_same : (first : ℕ) (text run rest : List ℕ) → run ≡ text ++ 10 ∷ rest → is_cut text ≡ false
    → GoesOn first (lines_of text) (whole_lines run) (first + length (lines_of text)) []
    (whole_lines rest)
    × (AreWhole run → AreWhole rest)
all_same first text run rest is plain = (
  (λ more later. ap (λ xs. first_difference first (lines_of text ++ more) (whole_lines xs ++ later))
      is
      ∙ ap (λ ls. first_difference first (lines_of text ++ more) (ls ++ later))
      (whole_joined text rest)
      ∙ ap (λ ls. first_difference first (lines_of text ++ more) ls)
      (append_assoc (lines_of text) (whole_lines rest) later)
      ∙ same_front first (lines_of text) more (whole_lines rest ++ later)
      (uncut_lines text (lines_of text) refl plain)),
  (λ whole. rest_whole (text ++ 10 ∷ []) rest (ended_whole text)
      (subst AreWhole (is ∙ sym (append_assoc text (10 ∷ []) rest)) whole)),
)
