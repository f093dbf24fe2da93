-- The text of a record, call by call.
use Rattle.std.proofs.Common.{◌≡◌, ℕ, Bool, true, false, List, [], ◌∷◌, ◌++◌, reverse, Option, Some}
use Rattle.std.proofs.Common.{None, IfSome, refl, sym, ap, subst, ◌∙◌, append_assoc, if◌then◌else◌}
use Rattle.std.proofs.lemmas.List.{append-nil, reverse-reverse}
use Rattle.std.specs.List.{AllByRecursion}
use Rattle.std.specs.Prelude.{is_err, Result, Ok, Err, OnOk}
use Rattle.gateway.specs.Log.{Log, with_news}
use Rattle.gateway.specs.Ports.{logged_by}
use Rattle.gateway.specs.declared.ports.Next.{Next}
use Rattle.traces.specs.Printed.{IsPrintable, entries_in, line_of_entry, lines_of_log}
use Rattle.traces.specs.Progress.{all_logged}
use Rattle.record.specs.Law.{grows_by}
use Rattle.record.specs.Recording.{Recording, IsKept, Gives, Receives, Notes, added, text_of}
use Rattle.record.specs.Recording.{log_of}
use Rattle.record.specs.Recording.{logged_behind, passed, given, held_by, held_or_over}
use Rattle.record.specs.Written.{log_in, IsText, IsWritten, AreLines}

-- two texts behind one another
pub added_twice : (t : Option (List ℕ)) (a b : List ℕ) → added t (a ++ b) ≡ added (added t a) b
added_twice None a b = refl
added_twice (Some x) a b = ap Some (sym (append_assoc x a b))

nothing_added : (t : Option (List ℕ)) (a : List ℕ) → added (added t a) [] ≡ added t a
nothing_added None a = refl
nothing_added (Some x) a = ap Some (append-nil (x ++ a))

-- by whether the record was over, and whether there was memory
noted : (over memory : Bool) (old : Recording) (news : Log) → old.is_over ≡ over →
    grows_by (if over then passed news old else held_by memory news old).is_over old
    (lines_of_log news)
    (if over then passed news old else held_by memory news old)
noted true memory old news over =
    let P : Bool → Type 0 = λ b. grows_by b old (lines_of_log news) (passed news old) in
    subst P (sym over) refl
noted false false old news over = refl
noted false true old news over =
    let new = held_by true news old in
    let P : Bool → Type 0 = λ b. grows_by b old (lines_of_log news) new in
    subst P (sym over) (added_twice old.taken old.held (lines_of_log news))

pub notes_line : (old new : Recording) (news : Log) → Notes old news new
    → grows_by new.is_over old (lines_of_log news) new
notes_line old new news n =
    let P : Recording → Type 0 = λ r. grows_by r.is_over old (lines_of_log news) r in
    subst P (sym n.done) (noted old.is_over n.has_memory old news refl)

gave : (over taken : Bool) (old : Recording) → text_of (if over then old else given taken old)
    ≡ text_of old
gave true taken old = refl
gave false true old = nothing_added old.taken old.held
gave false false old = refl

pub gives_text : (old new : Recording) → Gives old new → text_of new ≡ text_of old
gives_text old new g = ap text_of g.done ∙ gave old.is_over g.taken old

took : (over taken : Bool) (old : Recording) → old.is_over ≡ over
    → (if over then old else given taken old).is_over ≡ false →
    (if over then old else given taken old).taken ≡ text_of old
took true taken old over goes = let no : false ≡ true = sym goes ∙ over in absurd (cc)
took false true old over goes = refl
took false false old over goes = absurd (cc)

pub gives_taken : (old new : Recording) → Gives old new → new.is_over ≡ false
    → new.taken ≡ text_of old
gives_taken old new g goes =
    let P : Recording → Type 0 = λ r. r.is_over ≡ false → r.taken ≡ text_of old in
    subst P (sym g.done) (took old.is_over g.taken old refl) goes

kept_over : (over taken : Bool) (old : Recording) → old.is_over ≡ over
    → (if over then old else given taken old).is_over ≡ true →
    (if over then old else given taken old) ≡ record old { is_over = true }
kept_over true taken old over ends = ap (λ b. record old { is_over = b }) over
kept_over false true old over ends = let no : false ≡ true = sym over ∙ ends in absurd (cc)
kept_over false false old over ends = refl

pub gives_over : (old new : Recording) → Gives old new → new.is_over ≡ true
    → new ≡ record old { is_over = true }
gives_over old new g ends =
    let P : Recording → Type 0 = λ r. r.is_over ≡ true → r ≡ record old { is_over = true } in
    subst P (sym g.done) (kept_over old.is_over g.taken old refl) ends

-- if the record goes on, it did before
went_on : (over taken : Bool) (old : Recording) → old.is_over ≡ over
    → (if over then old else given taken old).is_over ≡ false → old.is_over ≡ false
went_on true taken old over goes = goes
went_on false taken old over goes = over

gave_on : (old new : Recording) → Gives old new → new.is_over ≡ false → old.is_over ≡ false
gave_on old new g goes =
    let P : Recording → Type 0 = λ r. r.is_over ≡ false → old.is_over ≡ false in
    subst P (sym g.done) (went_on old.is_over g.taken old refl) goes

-- the line of an event that came has been taken, with all that was held
pub receives_line : (old new : Recording) (next : Next) (buf : List ℕ) → Receives old next buf new
    → new.is_over ≡ false
    → new.taken ≡ added (text_of old) (lines_of_log (logged_by next buf))
receives_line old new next buf h goes =
    let grows : grows_by h.noted.is_over old (lines_of_log (logged_by next buf)) h.noted
    = notes_line old h.noted (logged_by next buf) h.notes in
    let P : Bool → Type 0 = λ b. grows_by b old (lines_of_log (logged_by next buf)) h.noted in
    gives_taken h.noted new h.gives goes ∙ subst P (gave_on h.noted new h.gives goes) grows

pub ends : (old new : Recording) (news : Log) → Notes old news new → old.is_over ≡ true
    → new ≡ passed news old
ends old new news n over =
    n.done ∙ ap (λ b. if b then passed news old else held_by n.has_memory news old) over

-- Reading back

-- each log is read back from its lines
abbrev pub ReadsBack : Type 0
ReadsBack = (log : Log) → AllByRecursion IsPrintable log → entries_in (lines_of_log log)
    ≡ Some (reverse log)

lines_behind : (news log : Log) → lines_of_log (news ++ log) ≡ lines_of_log log ++ lines_of_log news
lines_behind [] log = sym (append-nil (lines_of_log log))
lines_behind (entry ∷ news) log =
    ap (λ text. text ++ line_of_entry entry) (lines_behind news log)
    ∙ append_assoc (lines_of_log log) (lines_of_log news) (line_of_entry entry)

all_printable : (news log : Log) → AllByRecursion IsPrintable news → AllByRecursion IsPrintable log
    → AllByRecursion IsPrintable (news ++ log)
all_printable [] log ok all = all
all_printable (entry ∷ news) log ok all = (ok.0, all_printable news log ok.1 all)

log_read : ReadsBack → (log : Log) → AllByRecursion IsPrintable log → log_in (lines_of_log log)
    ≡ log
log_read reads log all = ap (λ logged. reverse (all_logged logged)) (reads log all)
    ∙ reverse-reverse log

-- the lines of a log are its text
log_text : ReadsBack → (log : Log) → AllByRecursion IsPrintable log → IsText (lines_of_log log)
log_text reads log all = record {
  lines = ap lines_of_log (log_read reads log all);
  printable = subst (AllByRecursion IsPrintable) (sym (log_read reads log all)) all;
}

more : (text : List ℕ) (news : Log) → IsText text → text ++ lines_of_log news
    ≡ lines_of_log (news ++ log_in text)
more text news is =
    ap (λ t. t ++ lines_of_log news) (sym is.lines) ∙ sym (lines_behind news (log_in text))

more_text : ReadsBack → (text : List ℕ) (news : Log) → AllByRecursion IsPrintable news → IsText text
    → IsText (text ++ lines_of_log news)
more_text reads text news ok is =
    subst IsText (sym (more text news is))
    (log_text reads (news ++ log_in text) (all_printable news (log_in text) ok is.printable))

more_log : ReadsBack → (text : List ℕ) (news : Log) → AllByRecursion IsPrintable news → IsText text
    → log_in (text ++ lines_of_log news) ≡ news ++ log_in text
more_log reads text news ok is =
    ap log_in (more text news is)
    ∙ log_read reads (news ++ log_in text) (all_printable news (log_in text) ok is.printable)

-- what was written stays so with more lines
pub more_written : ReadsBack → (t : Option (List ℕ)) (held lines : List ℕ) → AreLines lines
    → IsWritten (added t held) → IsWritten (added t (held ++ lines))
more_written reads None held lines are is = is
more_written reads (Some text) held lines are is =
    subst IsText (append_assoc text held lines)
    (subst (λ more. IsText ((text ++ held) ++ more)) (sym are.are)
    (more_text reads (text ++ held) are.news are.printable is))

-- The log

-- what was written and what was missed, and these lines behind it
logged_more : ReadsBack → (t : Option (List ℕ)) (held : List ℕ) (missed : Option Log) (news : Log)
    → AllByRecursion IsPrintable news → IsWritten (added t held) → IfSome missed (λ log. log ≡ [])
    → logged_behind (added t (held ++ lines_of_log news)) missed
    ≡ with_news (logged_behind (added t held) missed) news
logged_more reads None held missed news ok is none = refl
logged_more reads (Some text) held None news ok is none = refl
logged_more reads (Some text) held (Some log) news ok is none =
    rw none (ap Some (ap log_in (sym (append_assoc text held (lines_of_log news)))
    ∙ more_log reads (text ++ held) news ok is))

-- an event or an action was written down
pub held_logged : ReadsBack → (old new : Recording) (news : Log) → AllByRecursion IsPrintable news
    → IsKept old
    → old.is_over ≡ false → new ≡ held_or_over true (lines_of_log news) old → log_of new
    ≡ with_news (log_of old) news
held_logged reads old new news ok kept goes is =
    ap log_of is ∙ logged_more reads old.taken old.held old.missed news ok kept.written
    (kept.whole goes)

-- what holds if a call succeeds
pub on_success : {T E : Type 0} (r : Result T E) (P : Type 0) → is_err r ≡ false → OnOk r P → P
on_success (Ok v) P good h = h
on_success (Err e) P good h = cc
