-- The lines of a record and of its run.
use Rattle.std.proofs.Common.{◌≡◌, ℕ, ◌+◌, ◌-◌, ◌<◌, ◌==◌, Bool, true, false, cond, suc, length}
use Rattle.std.proofs.Common.{take, drop, get_or, List, [], ◌∷◌, ◌++◌, codes, Option, Some, None}
use Rattle.std.proofs.Common.{Bor, refl, ap, sym, ◌∙◌, subst, append_assoc, arith}
use Rattle.memchr.specs.Find.{IsFirstByte, IsLastByte, is_byte}
use Rattle.std.proofs.Math.Seq.{split_at}
use Rattle.std.proofs.lemmas.Bool.{eqb-true, false_from_ne_true}
use Rattle.std.proofs.lemmas.List.{append-nil, get_or-drop, get_or_default, length-append}
use Rattle.std.proofs.lemmas.List.{length-drop}
use Rattle.std.proofs.lemmas.List.Folds.{list_any_at, list_any_none}
use Rattle.std.proofs.lemmas.List.Splits.{join_with_byte-slice_split, length-slice_split}
use Rattle.std.proofs.lemmas.List.Splits.{slice_split_none}
use Rattle.hex.specs.Hex.{encode_upper}
use Rattle.std.specs.Fmt.{decimal}
use Rattle.std.specs.Option.{is_some, option_copied}
use Rattle.std.specs.List.{count_by, join_with_byte, onto_first}
use Rattle.gateway.specs.Entries.{number_of}
use Rattle.gateway.specs.Log.{Log, LogEntry, LineIn, Opened, TcpIn, CutOff, Ticked, WallIs, LineOut}
use Rattle.gateway.specs.Log.{Restarted, TcpOut, Closed, GapOut, Came, Went}
use Rattle.traces.specs.Fields.{parts_after}
use Rattle.traces.specs.Printed.{line_of_entry, lines_of_log}
use Rattle.traces.specs.Trace.{lines_of}
use Rattle.traces.proofs.JoinedLemmas.{lines_joined}
use Rattle.record.specs.Comparing.{AreWhole}
use Rattle.record.specs.Passing.{IsOneLine}
use Rattle.record.specs.Lines.{is_cut, whole_lines}

-- One line

pub lines_some : (text : List ℕ) → (first : List ℕ)
    × ((rest : List (List ℕ)) × (lines_of text ≡ first ∷ rest))
lines_some text = by (lines_of text) (length-slice_split (λ y. y == 10) text)
  where
    by : (ls : List (List ℕ)) → length ls ≡ count_by (λ y. y == 10) text + 1
        → (first : List ℕ) × ((rest : List (List ℕ)) × (ls ≡ first ∷ rest))
    by [] many = absurd (omega (arith, many))
    by (l ∷ ls) many = (l, (ls, refl))

-- the first line of a text has no line feed
pub one_line : (text line : List ℕ) (rest : List (List ℕ)) → lines_of text ≡ line ∷ rest
    → IsOneLine line
one_line [] line rest is = let none : [] ≡ line = cc in subst IsOneLine none refl
one_line (x ∷ xs) line rest is = by (λ l ls later. one_line xs l ls later) (x == 10) refl is
  where
    by : ((l : List ℕ) (ls : List (List ℕ)) → lines_of xs ≡ l ∷ ls → IsOneLine l) → (b : Bool)
        → (x == 10) ≡ b → cond b ([] ∷ lines_of xs) (onto_first x (lines_of xs)) ≡ line ∷ rest
        → IsOneLine line
    by inner true at is = let none : [] ≡ line = cc in subst IsOneLine none refl
    by inner false at is =
        let some = lines_some xs in
        let later : lines_of xs ≡ some.0 ∷ some.1.0 = some.1.1 in
        let whole : (x ∷ some.0) ∷ some.1.0 ≡ line ∷ rest = sym (ap (onto_first x) later) ∙ is in
        let same : x ∷ some.0 ≡ line = cc in
        let one : IsOneLine some.0 = inner some.0 some.1.0 later in
        subst IsOneLine same
        (ap (λ b. cond b ([] ∷ lines_of some.0) (onto_first x (lines_of some.0))) at
        ∙ ap (onto_first x) one)

-- a text is its first line, a line feed and the lines behind it
pub text_is : (text line rest : List ℕ) → lines_of text ≡ line ∷ lines_of rest
    → text ≡ line ++ 10 ∷ rest
text_is text line rest is =
    let some = lines_some rest in
    sym (join_with_byte-slice_split 10 text) ∙ ap (join_with_byte 10) is
    ∙ ap (λ ls. join_with_byte 10 (line ∷ ls)) some.1.1
    ∙ ap (λ ls. line ++ 10 ∷ join_with_byte 10 ls) (sym some.1.1)
    ∙ ap (λ xs. line ++ 10 ∷ xs) (join_with_byte-slice_split 10 rest)

-- Whole lines

front_take : (ls ms : List (List ℕ)) (m : List ℕ) → take (length (ls ++ m ∷ ms) - 1) (ls ++ m ∷ ms)
    ≡ ls ++ take (length (m ∷ ms) - 1) (m ∷ ms)
front_take [] ms m = refl
front_take (l ∷ ls) ms m =
    let both : length (ls ++ m ∷ ms) ≡ length ls + length (m ∷ ms) = length-append ls (m ∷ ms) in
    let more : length (l ∷ (ls ++ m ∷ ms)) - 1 ≡ suc (length (ls ++ m ∷ ms) - 1) =
    omega (arith, both) in
    ap (λ n. take n (l ∷ (ls ++ m ∷ ms))) more ∙ ap (λ xs. l ∷ xs) (front_take ls ms m)

-- the whole lines of a text behind a line feed come behind the lines before it
pub whole_joined : (a b : List ℕ) → whole_lines (a ++ 10 ∷ b) ≡ lines_of a ++ whole_lines b
whole_joined a b =
    let some = lines_some b in
    ap (λ (ls : List (List ℕ)). take (length ls - 1) ls) (lines_joined a b
    ∙ ap (λ ls. lines_of a ++ ls) some.1.1)
    ∙ front_take (lines_of a) some.1.0 some.0
    ∙ ap (λ (ls : List (List ℕ)). lines_of a ++ take (length ls - 1) ls) (sym some.1.1)

-- of a text without a line feed there are none
pub whole_none : (text line : List ℕ) → lines_of text ≡ line ∷ [] → whole_lines text ≡ []
whole_none text line is = ap (λ (ls : List (List ℕ)). take (length ls - 1) ls) is

-- behind the first line
pub whole_first : (text line rest : List ℕ) → lines_of text ≡ line ∷ lines_of rest
    → whole_lines text ≡ line ∷ whole_lines rest
whole_first text line rest is =
    ap whole_lines (text_is text line rest is) ∙ whole_joined line rest
    ∙ ap (λ ls. ls ++ whole_lines rest) (one_line text line (lines_of rest) is)

-- the lines up to the last line feed of a text are its whole ones
pub last_part : (text : List ℕ) (end : ℕ) → IsLastByte (is_byte 10) text (Some end)
    → lines_of (take end text) ≡ whole_lines text
last_part text end h =
    let within : end < length text = h.0.high in
    let feed : get_or text end 0 ≡ 10 = eqb-true (get_or text end 0) 10 h.1 in
    let rest = drop (suc end) text in
    let none : whole_lines rest ≡ [] =
    whole_none rest rest (slice_split_none (λ b. b == 10) rest (λ k d lt.
    let inside : suc end + k < length text =
    omega (arith, lt, within, length-drop (suc end) text) in
    let same : get_or rest k d ≡ get_or text (suc end + k) 0 =
    get_or-drop (suc end) text k d ∙ get_or_default text (suc end + k) d 0 inside in
    false_from_ne_true _ (λ is. h.0.after (suc end + k) (omega arith) inside
    (ap (λ x. x == 10) (sym same)
    ∙ is)))) in
    sym (ap whole_lines (split_at text end 0 within ∙ ap (λ x. take end text ++ x ∷ rest) feed)
    ∙ whole_joined (take end text) rest ∙ ap (λ ls. lines_of (take end text) ++ ls) none
    ∙ append-nil (lines_of (take end text)))

-- without a line feed there are none
pub no_part : (text : List ℕ) → IsLastByte (is_byte 10) text None → whole_lines text ≡ []
no_part text h = whole_none text text (slice_split_none (λ b. b == 10) text (λ k d lt.
    false_from_ne_true _
    (λ is. h k (omega arith) lt (ap (λ x. x == 10) (sym (get_or_default text k d 0 lt))
    ∙ is))))

-- Texts of whole lines

cancel : (xs ys zs : List (List ℕ)) → xs ++ ys ≡ xs ++ zs → ys ≡ zs
cancel [] ys zs same = same
cancel (x ∷ xs) ys zs same = cancel xs ys zs (let rest : xs ++ ys ≡ xs ++ zs = cc in rest)

pub none_whole : AreWhole []
none_whole more = refl

pub ended_whole : (text : List ℕ) → AreWhole (text ++ 10 ∷ [])
ended_whole text more =
    ap whole_lines (append_assoc text (10 ∷ []) more) ∙ whole_joined text more
    ∙ ap (λ ls. ls ++ whole_lines more) (sym (whole_joined text [] ∙ append-nil (lines_of text)))

pub both_whole : (a b : List ℕ) → AreWhole a → AreWhole b → AreWhole (a ++ b)
both_whole a b first second more =
    ap whole_lines (append_assoc a b more) ∙ first (b ++ more)
    ∙ ap (λ ls. whole_lines a ++ ls) (second more)
    ∙ sym (append_assoc (whole_lines a) (whole_lines b) (whole_lines more))
    ∙ ap (λ ls. ls ++ whole_lines more) (sym (first b))

-- what is behind whole lines is whole if both are
pub rest_whole : (a b : List ℕ) → AreWhole a → AreWhole (a ++ b) → AreWhole b
rest_whole a b first both more = cancel (whole_lines a) (whole_lines (b ++ more))
    (whole_lines b ++ whole_lines more)
    (sym (first (b ++ more)) ∙ ap whole_lines (sym (append_assoc a b more)) ∙ both more
    ∙ ap (λ ls. ls ++ whole_lines more) (first b)
    ∙ append_assoc (whole_lines a) (whole_lines b) (whole_lines more))

-- the text behind the first line of whole ones
pub later_whole : (text line rest : List ℕ) → lines_of text ≡ line ∷ lines_of rest → AreWhole text
    → AreWhole rest
later_whole text line rest is whole =
    let parts : text ≡ (line ++ 10 ∷ []) ++ rest =
    text_is text line rest is ∙ sym (append_assoc line (10 ∷ []) rest) in
    rest_whole (line ++ 10 ∷ []) rest (ended_whole line) (subst AreWhole parts whole)

-- a line that is printed ends in a line feed
entry_whole : (entry : LogEntry) → AreWhole (line_of_entry entry)
entry_whole (Came now (LineIn octets)) =
    ended_whole (decimal now ++ codes " S " ++ encode_upper octets)
entry_whole (Came now Opened) = ended_whole (decimal now ++ codes " O")
entry_whole (Came now (TcpIn octets)) =
    ended_whole (decimal now ++ codes " R " ++ encode_upper octets)
entry_whole (Came now CutOff) = ended_whole (decimal now ++ codes " C")
entry_whole (Came now Ticked) = ended_whole (decimal now ++ codes " T")
entry_whole (Came now (WallIs number)) = ended_whole (decimal now ++ codes " W " ++ decimal number)
entry_whole (Came now Restarted) = none_whole
entry_whole (Went now (LineOut octets)) =
    ended_whole (decimal now ++ codes " > S " ++ encode_upper octets)
entry_whole (Went now (TcpOut octets)) =
    ended_whole (decimal now ++ codes " > T " ++ encode_upper octets)
entry_whole (Went now (Closed cause)) =
    ended_whole (decimal now ++ codes " > X " ++ decimal (number_of cause))
entry_whole (Went now (GapOut station session)) =
    ended_whole (decimal now ++ codes " > G " ++ decimal (station + 1) ++ codes " "
    ++ decimal session)

pub log_whole : (log : Log) → AreWhole (lines_of_log log)
log_whole [] = none_whole
log_whole (entry ∷ log) = both_whole (lines_of_log log) (line_of_entry entry) (log_whole log)
    (entry_whole entry)

-- so the lines behind those of an earlier log are whole
pub page_whole : (earlier log : Log) (page : List ℕ) → lines_of_log earlier ++ page
    ≡ lines_of_log log → AreWhole page
page_whole earlier log page is = rest_whole (lines_of_log earlier) page (log_whole earlier)
    (subst AreWhole (sym is) (log_whole log))

pub page_lines : (earlier log : Log) (page : List ℕ) → lines_of_log earlier ++ page
    ≡ lines_of_log log
    → whole_lines (lines_of_log earlier) ++ whole_lines page ≡ whole_lines (lines_of_log log)
page_lines earlier log page is = sym (log_whole earlier page) ∙ ap whole_lines is

-- a text is cut at a line feed, or it isn't
pub none_of : (o : Option (Bor (List ℕ))) → is_some o ≡ false → parts_after 10 (option_copied o)
    ≡ []
none_of None is = refl
none_of (Some later) is = cc

pub some_of : (o : Option (Bor (List ℕ))) → is_some o ≡ true
    → (later : List ℕ) × (parts_after 10 (option_copied o) ≡ lines_of later)
some_of None is = cc
some_of (Some later) is = (later.now, refl)

-- a search for the mark of a line that was cut short
pub mark_found : (line : List ℕ) (found : Option ℕ) → IsFirstByte (is_byte 33) line found
    → is_some found ≡ is_cut line
mark_found line None h = sym (list_any_none (λ b. b == 33) line (λ k d lt.
    false_from_ne_true _
    (λ is. h k (omega arith) lt (ap (λ x. x == 33) (sym (get_or_default line k d 0 lt))
    ∙ is))))
mark_found line (Some i) h = sym (list_any_at (λ b. b == 33) line i 0 h.0.high h.1)
