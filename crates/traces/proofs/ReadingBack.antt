-- A printed line is read as the entry that it was printed of, and so a log.
use Rattle.std.proofs.Common.{◌≡◌, ℕ, ◌+◌, ◌-◌, ◌^◌, ◌<◌, ◌==◌, nat_le, ◌||◌, Bool, true, false}
use Rattle.std.proofs.Common.{List, [], ◌∷◌, ◌++◌, reverse, Option, Some, None, option_map}
use Rattle.std.proofs.Common.{if◌then◌else◌, refl, sym, subst, ap, ◌∙◌, arith, append_assoc}
use Rattle.std.proofs.lemmas.List.{append-nil, reverse-append}
use Rattle.std.proofs.lemmas.List.Elements.{All-append, All-cons, All-nil}
use Rattle.std.proofs.lemmas.List.Folds.{list_any-append}
use Rattle.std.specs.List.{All, AllByRecursion, list_any}
use Rattle.std.specs.Option.{option_and_then}
use Rattle.std.specs.Fmt.{decimal}
use Rattle.hex.specs.Hex.{encode_upper}
use Rattle.gateway.specs.Log.{Log, LogEntry, Came, Went, Input, LineIn, Opened, TcpIn, CutOff}
use Rattle.gateway.specs.Log.{Ticked, WallIs, Restarted, Output, LineOut, TcpOut, Closed, GapOut}
use Rattle.gateway.specs.Entries.{number_of}
use Rattle.traces.specs.Actions.{line_of, lines_of_actions}
use Rattle.traces.specs.Printed.{HasNoMark, IsPrintable, IsPrintableEvent, IsPrintableAction}
use Rattle.traces.specs.Printed.{line_of_event, line_of_entry, lines_of_log, number_in}
use Rattle.traces.specs.Printed.{octets_in_hex, cause_numbered, gap_at, came_at, went_at}
use Rattle.traces.specs.Printed.{entry_from, before_those, entries_in, actions_of, ArePrinted}
use Rattle.traces.proofs.FieldLemmas.{IsPlain, spaced, spaced_without, line_unmarked, fields_first}
use Rattle.traces.proofs.FieldLemmas.{number_plain, number_read, octets_plain, octets_read}
use Rattle.traces.proofs.FieldLemmas.{cause_read, cause_small, word}

-- Entries

-- the parts of a line before its line feed, and a text behind it

pub lined_two : (a b text : List ℕ) → ((a ++ b) ++ 10 ∷ []) ++ text ≡ (a ++ b) ++ 10 ∷ text
lined_two a b text = append_assoc (a ++ b) (10 ∷ []) text

pub lined : (a b c text : List ℕ)
    → (((a ++ b) ++ c) ++ 10 ∷ []) ++ text ≡ (a ++ (b ++ c)) ++ 10 ∷ text
lined a b c text = append_assoc ((a ++ b) ++ c) (10 ∷ []) text
    ∙ ap (λ (l : List ℕ). l ++ 10 ∷ text) (append_assoc a b c)

lined_gap : (a b c d text : List ℕ) → (((((a ++ b) ++ c) ++ 32 ∷ []) ++ d) ++ 10 ∷ []) ++ text
    ≡ (a ++ (b ++ (c ++ 32 ∷ d))) ++ 10 ∷ text
lined_gap a b c d text =
    append_assoc ((((a ++ b) ++ c) ++ 32 ∷ []) ++ d) (10 ∷ []) text
    ∙ ap (λ (l : List ℕ). l ++ 10 ∷ text) (append_assoc ((a ++ b) ++ c) (32 ∷ []) d
    ∙ append_assoc (a ++ b) c (32 ∷ d)
    ∙ append_assoc a b (c ++ 32 ∷ d))

-- a line of fields that gives this entry
record IsShaped (line : List ℕ) (entry : LogEntry) : Type 0 where
  field : List ℕ
  fields : List (List ℕ)
  same : (text : List ℕ) → line ++ text ≡ spaced field fields ++ 10 ∷ text
  plain : IsPlain field
  all : AllByRecursion IsPlain fields
  is : entry_from (field ∷ fields) ≡ Some entry

shaped : (line field : List ℕ) (fields : List (List ℕ)) (entry : LogEntry)
    → ((text : List ℕ) → line ++ text ≡ spaced field fields ++ 10 ∷ text) → IsPlain field
    → AllByRecursion IsPlain fields → entry_from (field ∷ fields) ≡ Some entry → IsShaped line entry
shaped line field fields entry same plain all is = record {
  field = field;
  fields = fields;
  same = same;
  plain = plain;
  all = all;
  is = is;
}

came : (now : ℕ) (logged : Option Input) (event : Input) → now < 2 ^ 64 → logged ≡ Some event
    → came_at (number_in (decimal now)) logged ≡ Some (Came now event)
came now logged event lt is =
    ap (λ (o : Option ℕ). came_at o logged) (number_read now (omega arith))
    ∙ ap (came_at (Some now)) is

went : (now : ℕ) (logged : Option Output) (action : Output) → now < 2 ^ 64 → logged ≡ Some action
    → went_at (number_in (decimal now)) logged ≡ Some (Went now action)
went now logged action lt is =
    ap (λ (o : Option ℕ). went_at o logged) (number_read now (omega arith))
    ∙ ap (went_at (Some now)) is

pub moment_plain : (now : ℕ) → now < 2 ^ 64 → IsPlain (decimal now)
moment_plain now lt = number_plain now (omega arith)

gap_read : (station session : ℕ) → station < 2 ^ 64 → session < 2 ^ 64
    → gap_at (number_in (decimal (station + 1))) (number_in (decimal session))
    ≡ Some (GapOut station session)
gap_read station session lt less =
    ap (λ (o : Option ℕ). gap_at o (number_in (decimal session)))
    (number_read (station + 1) (omega arith))
    ∙ ap (gap_at (Some (station + 1))) (number_read session (omega arith))
    ∙ ap (λ (b : Bool). if b then Some (GapOut ((station + 1) - 1) session) else None) above
    ∙ ap (λ (n : ℕ). Some (GapOut n session)) same
  where
    above : nat_le 1 (station + 1) ≡ true
    above = grind arith

    same : (station + 1) - 1 ≡ station
    same = omega arith

-- events
event_shaped : (now : ℕ) (event : Input) → now < 2 ^ 64 → IsPrintableEvent event
    → IsShaped (line_of_event now event) (Came now event)
event_shaped now (LineIn octets) lt ok =
    shaped (line_of_event now (LineIn octets)) (decimal now) ((83 ∷ []) ∷ encode_upper octets ∷ [])
    (Came now (LineIn octets))
    (lined (decimal now) (32 ∷ 83 ∷ 32 ∷ []) (encode_upper octets)) (moment_plain now lt) (
      word 83 (omega arith),
      (octets_plain octets ok, tt),
    )
    (came now (option_map LineIn (octets_in_hex (encode_upper octets))) (LineIn octets) lt
    (ap (option_map LineIn) (octets_read octets ok)))
event_shaped now Opened lt ok =
    shaped (line_of_event now Opened) (decimal now) ((79 ∷ []) ∷ []) (Came now Opened)
    (lined_two (decimal now) (32 ∷ 79 ∷ [])) (moment_plain now lt) (word 79 (omega arith), tt)
    (came now (Some Opened) Opened lt refl)
event_shaped now (TcpIn octets) lt ok =
    shaped (line_of_event now (TcpIn octets)) (decimal now) ((82 ∷ []) ∷ encode_upper octets ∷ [])
    (Came now (TcpIn octets))
    (lined (decimal now) (32 ∷ 82 ∷ 32 ∷ []) (encode_upper octets)) (moment_plain now lt) (
      word 82 (omega arith),
      (octets_plain octets ok, tt),
    )
    (came now (option_map TcpIn (octets_in_hex (encode_upper octets))) (TcpIn octets) lt
    (ap (option_map TcpIn) (octets_read octets ok)))
event_shaped now CutOff lt ok =
    shaped (line_of_event now CutOff) (decimal now) ((67 ∷ []) ∷ []) (Came now CutOff)
    (lined_two (decimal now) (32 ∷ 67 ∷ [])) (moment_plain now lt) (word 67 (omega arith), tt)
    (came now (Some CutOff) CutOff lt refl)
event_shaped now Ticked lt ok =
    shaped (line_of_event now Ticked) (decimal now) ((84 ∷ []) ∷ []) (Came now Ticked)
    (lined_two (decimal now) (32 ∷ 84 ∷ [])) (moment_plain now lt) (word 84 (omega arith), tt)
    (came now (Some Ticked) Ticked lt refl)
event_shaped now (WallIs number) lt ok =
    shaped (line_of_event now (WallIs number)) (decimal now) ((87 ∷ []) ∷ decimal number ∷ [])
    (Came now (WallIs number))
    (lined (decimal now) (32 ∷ 87 ∷ 32 ∷ []) (decimal number)) (moment_plain now lt) (
      word 87 (omega arith),
      (moment_plain number ok, tt),
    )
    (came now (option_map WallIs (number_in (decimal number))) (WallIs number) lt
    (ap (option_map WallIs) (number_read number (omega (arith, ok)))))
event_shaped now Restarted lt ok = absurd ok

-- actions
action_shaped : (now : ℕ) (action : Output) → now < 2 ^ 64 → IsPrintableAction action
    → IsShaped (line_of now action) (Went now action)
action_shaped now (LineOut octets) lt ok =
    shaped (line_of now (LineOut octets)) (decimal now) ((62 ∷ []) ∷ (83 ∷ []) ∷ encode_upper octets
    ∷ [])
    (Went now (LineOut octets))
    (lined (decimal now) (32 ∷ 62 ∷ 32 ∷ 83 ∷ 32 ∷ []) (encode_upper octets)) (moment_plain now lt)
    (word 62 (omega arith), (word 83 (omega arith), (octets_plain octets ok, tt)))
    (went now (option_map LineOut (octets_in_hex (encode_upper octets))) (LineOut octets) lt
    (ap (option_map LineOut) (octets_read octets ok)))
action_shaped now (TcpOut octets) lt ok =
    shaped (line_of now (TcpOut octets)) (decimal now) ((62 ∷ []) ∷ (84 ∷ []) ∷ encode_upper octets
    ∷ [])
    (Went now (TcpOut octets))
    (lined (decimal now) (32 ∷ 62 ∷ 32 ∷ 84 ∷ 32 ∷ []) (encode_upper octets)) (moment_plain now lt)
    (word 62 (omega arith), (word 84 (omega arith), (octets_plain octets ok, tt)))
    (went now (option_map TcpOut (octets_in_hex (encode_upper octets))) (TcpOut octets) lt
    (ap (option_map TcpOut) (octets_read octets ok)))
action_shaped now (Closed cause) lt ok =
    shaped (line_of now (Closed cause)) (decimal now) ((62 ∷ []) ∷ (88 ∷ [])
    ∷ decimal (number_of cause) ∷ [])
    (Went now (Closed cause))
    (lined (decimal now) (32 ∷ 62 ∷ 32 ∷ 88 ∷ 32 ∷ []) (decimal (number_of cause)))
    (moment_plain now lt) (
      word 62 (omega arith),
      (word 88 (omega arith), (number_plain (number_of cause) (cause_small cause), tt)),
    )
    (went now
    (option_map Closed (option_and_then cause_numbered (number_in (decimal (number_of cause)))))
    (Closed cause) lt
    (ap (λ (o : Option ℕ). option_map Closed (option_and_then cause_numbered o))
    (number_read (number_of cause) (cause_small cause))
    ∙ ap (option_map Closed) (cause_read cause)))
action_shaped now (GapOut station session) lt ok =
    shaped (line_of now (GapOut station session)) (decimal now) ((62 ∷ []) ∷ (71 ∷ [])
    ∷ decimal (station + 1)
    ∷ decimal session ∷ []) (Went now (GapOut station session))
    (lined_gap (decimal now) (32 ∷ 62 ∷ 32 ∷ 71 ∷ 32 ∷ []) (decimal (station + 1))
    (decimal session))
    (moment_plain now lt) (
      word 62 (omega arith),
      (
        word 71 (omega arith),
        (number_plain (station + 1) (omega (arith, ok.0)), (moment_plain session ok.1, tt)),
      ),
    )
    (went now (gap_at (number_in (decimal (station + 1))) (number_in (decimal session)))
    (GapOut station session) lt
    (gap_read station session ok.0 ok.1))

entry_shaped : (entry : LogEntry) → IsPrintable entry → IsShaped (line_of_entry entry) entry
entry_shaped (Came now event) ok = event_shaped now event ok.0 ok.1
entry_shaped (Went now action) ok = action_shaped now action ok.0 ok.1

pub first_read : (entry : LogEntry) (text : List ℕ) → IsPrintable entry
    → entries_in (line_of_entry entry ++ text) ≡ before_those (Some entry) (entries_in text)
first_read entry text ok =
    let s = entry_shaped entry ok in
    ap entries_in (s.same text) ∙ fields_first s.field s.fields text s.plain s.all
    ∙ ap (λ (o : Option LogEntry). before_those o (entries_in text)) s.is

entry_unmarked : (entry : LogEntry) → IsPrintable entry → HasNoMark (line_of_entry entry)
entry_unmarked entry ok =
    let s = entry_shaped entry ok in
    ap (list_any (λ b. b == 33)) (sym (append-nil (line_of_entry entry)) ∙ s.same [])
    ∙ line_unmarked s.field s.fields s.plain s.all

-- Logs

-- what a log gives, before what follows it
abbrev logged_before : Log → Option (List LogEntry) → Option (List LogEntry)
logged_before [] after = after
logged_before (entry ∷ log) after = logged_before log (before_those (Some entry) after)

log_before : (log : Log) (text : List ℕ) → AllByRecursion IsPrintable log
    → entries_in (lines_of_log log ++ text) ≡ logged_before log (entries_in text)
log_before [] text all = refl
log_before (entry ∷ log) text all =
    ap entries_in (append_assoc (lines_of_log log) (line_of_entry entry) text)
    ∙ log_before log (line_of_entry entry ++ text) all.1
    ∙ ap (logged_before log) (first_read entry text all.0)

-- no line has an octet 0

octet_above : (b : ℕ) → (b == 0) ≡ false → 0 < b
octet_above b isnt = grind arith

entry_above : (entry : LogEntry) → IsPrintable entry → All (λ b. 0 < b) (line_of_entry entry)
entry_above entry ok =
    let s = entry_shaped entry ok in
    let none : All (λ b. (b == 0) ≡ false) (spaced s.field s.fields ++ 10 ∷ []) =
    All-append (λ b. (b == 0) ≡ false) (spaced s.field s.fields) (10 ∷ [])
    (spaced_without 0 s.field s.fields (omega arith) refl s.plain s.all)
    (All-cons (λ b. (b == 0) ≡ false) 10 [] refl (All-nil (λ b. (b == 0) ≡ false))) in
    subst (All (λ b. 0 < b)) (sym (s.same []) ∙ append-nil (line_of_entry entry))
    (λ i x is. octet_above _ (none i x is))

pub log_above : (log : Log) → AllByRecursion IsPrintable log
    → All (λ b. 0 < b) (lines_of_log log)
log_above [] all = All-nil (λ b. 0 < b)
log_above (entry ∷ log) all =
    All-append (λ b. 0 < b) (lines_of_log log) (line_of_entry entry) (log_above log all.1)
    (entry_above entry all.0)

-- no line has the mark of one that was cut short
pub log_unmarked : (log : Log) → AllByRecursion IsPrintable log → HasNoMark (lines_of_log log)
log_unmarked [] all = refl
log_unmarked (entry ∷ log) all =
    list_any-append (λ b. b == 33) (lines_of_log log) (line_of_entry entry)
    ∙ ap (λ b. b || list_any (λ b. b == 33) (line_of_entry entry)) (log_unmarked log all.1)
    ∙ entry_unmarked entry all.0

logged_reversed : (log : Log) (entries : List LogEntry) → logged_before log (Some entries)
    ≡ Some (reverse log ++ entries)
logged_reversed [] entries = refl
logged_reversed (entry ∷ log) entries =
    logged_reversed log (entry ∷ entries)
    ∙ ap (λ (l : List LogEntry). Some l)
    (sym (ap (λ (l : List LogEntry). l ++ entries) (reverse-append (entry ∷ []) log)
    ∙ append_assoc (reverse log) (entry ∷ []) entries))

pub log_read : (log : Log) → AllByRecursion IsPrintable log → entries_in (lines_of_log log)
    ≡ Some (reverse log)
log_read log all =
    ap entries_in (sym (append-nil (lines_of_log log))) ∙ log_before log [] all
    ∙ logged_reversed log [] ∙ ap (λ (l : List LogEntry). Some l) (append-nil (reverse log))

-- its actions alone
abbrev actions_before : Log → Option (List LogEntry) → Option (List LogEntry)
actions_before [] after = after
actions_before (Came now event ∷ log) after = actions_before log after
actions_before (Went now action ∷ log) after =
    actions_before log (before_those (Some (Went now action)) after)

lines_before : (log : Log) (text : List ℕ) → ArePrinted log
    → entries_in (lines_of_actions log ++ text) ≡ actions_before log (entries_in text)
lines_before [] text all = refl
lines_before (Came now event ∷ log) text all = lines_before log text all
lines_before (Went now action ∷ log) text all =
    ap entries_in (append_assoc (lines_of_actions log) (line_of now action) text)
    ∙ lines_before log (line_of now action ++ text) all.1
    ∙ ap (actions_before log) (first_read (Went now action) text all.0)

actions_logged : (log : Log) (entries : List LogEntry) → actions_before log (Some entries)
    ≡ Some (actions_of log ++ entries)
actions_logged [] entries = refl
actions_logged (Came now event ∷ log) entries = actions_logged log entries
actions_logged (Went now action ∷ log) entries =
    actions_logged log (Went now action ∷ entries)
    ∙ ap (λ (l : List LogEntry). Some l)
    (sym (append_assoc (actions_of log) (Went now action ∷ []) entries))

pub actions_printed : (log : Log) → ArePrinted log → entries_in (lines_of_actions log)
    ≡ Some (actions_of log)
actions_printed log all =
    ap entries_in (sym (append-nil (lines_of_actions log))) ∙ lines_before log [] all
    ∙ actions_logged log [] ∙ ap (λ (l : List LogEntry). Some l) (append-nil (actions_of log))

printed : (log : Log) → AllByRecursion IsPrintable log → ArePrinted log
printed [] all = tt
printed (Came now event ∷ log) all = printed log all.1
printed (Went now action ∷ log) all = (all.0, printed log all.1)

pub actions_read : (log : Log) → AllByRecursion IsPrintable log
    → entries_in (lines_of_actions log) ≡ Some (actions_of log)
actions_read log all = actions_printed log (printed log all)
