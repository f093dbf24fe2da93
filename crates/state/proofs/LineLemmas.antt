-- How long the line of an event is, and which event a line can't hold.
use Rattle.std.proofs.Common.{◌≡◌, ◌∙◌, ℕ, ◌+◌, ◌*◌, ◌<◌, ◌≤◌, true, false, List, []}
use Rattle.std.proofs.Common.{◌∷◌, ◌++◌, length, take, codes, Result, Ok, Err, IfErr, OnOk}
use Rattle.std.proofs.Common.{is_err, refl, sym, ap, subst, arith}
use Rattle.std.specs.Fmt.{decimal, digits}
use Rattle.std.specs.List.{AllByRecursion}
use Rattle.std.proofs.lemmas.Bool.{lt-ltb}
use Rattle.std.proofs.lemmas.Fmt.{length-decimal-le_wide}
use Rattle.std.proofs.lemmas.List.{length-append, length-take}
use Rattle.hex.specs.Hex.{encode_upper, upper_digits}
use Rattle.hex.proofs.HexLemmas.{length-encode_with}
use Rattle.gateway.specs.Log.{Log, LogEntry, Came, Went, Input, LineIn, Opened, TcpIn, CutOff}
use Rattle.gateway.specs.Log.{Ticked, WallIs, Restarted}
use Rattle.gateway.specs.Ports.{FitsBuffer, logged_by}
use Rattle.gateway.specs.declared.ports.Next.{Next}
use Rattle.gateway.specs.declared.ports.Next.TheVariants as answers
use Rattle.segments.specs.declared.fault.SegmentFault.{SegmentFault}
use Rattle.segments.specs.declared.fault.SegmentFault.TheVariants.{Full}
use Rattle.traces.specs.Event.{Event}
use Rattle.traces.specs.Event as events
use Rattle.traces.specs.Printed.{FitsTrace, IsPrintable, line_of_entry, lines_of_log}
use Rattle.traces.specs.Progress.{came}
use Rattle.state.specs.Lines.{FitsLine, IsRefusedBy, IsWritable, is_renewal_due, longest_line}
use Rattle.state.specs.Lines.{most_octets, seal_octets}
use Rattle.state.specs.declared.loss.StoreFault.{StoreFault}
use Rattle.state.specs.declared.loss.StoreFault.TheVariants as faults
use Rattle.state.proofs.Surviving.{writable}

-- The length of a line

short_number : (n : ℕ) → n ≤ 999999999999999 → length (decimal n) ≤ 15
short_number n le = length-decimal-le_wide 15 n (omega arith) (omega arith) (omega arith)

octets_long : (now : ℕ) (mark octets : List ℕ)
    → length (decimal now ++ mark ++ encode_upper octets ++ 10 ∷ [])
    ≡ length (decimal now) + length mark + 2 * length octets + 1
octets_long now mark octets =
    simp length-append (omega (arith, length-encode_with upper_digits octets))

bare_long : (now : ℕ) (mark : List ℕ)
    → length (decimal now ++ mark ++ 10 ∷ []) ≡ length (decimal now) + length mark + 1
bare_long now mark = simp length-append (omega arith)

numbers_long : (now : ℕ) (mark : List ℕ) (number : ℕ)
    → length (decimal now ++ mark ++ decimal number ++ 10 ∷ [])
    ≡ length (decimal now) + length mark + length (decimal number) + 1
numbers_long now mark number = simp length-append (omega arith)

short : (logged : Event) → FitsTrace logged → length (line_of_entry (came logged)) ≤ 2067
short (events.line now octets) fits =
    let long : length (line_of_entry (came (events.line now octets)))
    ≡ length (decimal now) + 3 + 2 * length octets + 1 = octets_long now (codes " S ") octets in
    omega (arith, long, short_number now fits.0, fits.3)
short (events.received now octets) fits =
    let long : length (line_of_entry (came (events.received now octets)))
    ≡ length (decimal now) + 3 + 2 * length octets + 1 = octets_long now (codes " R ") octets in
    omega (arith, long, short_number now fits.0, fits.3)
short (events.opening now) fits =
    let long : length (line_of_entry (came (events.opening now))) ≡ length (decimal now) + 2 + 1 =
    bare_long now (codes " O") in
    omega (arith, long, short_number now fits)
short (events.cut now) fits =
    let long : length (line_of_entry (came (events.cut now))) ≡ length (decimal now) + 2 + 1 =
    bare_long now (codes " C") in
    omega (arith, long, short_number now fits)
short (events.tick now) fits =
    let long : length (line_of_entry (came (events.tick now))) ≡ length (decimal now) + 2 + 1 =
    bare_long now (codes " T") in
    omega (arith, long, short_number now fits)
short (events.wall now number) fits =
    let long : length (line_of_entry (came (events.wall now number)))
    ≡ length (decimal now) + 3 + length (decimal number) + 1 =
    numbers_long now (codes " W ") number in
    omega (arith, long, short_number now fits.0, short_number number fits.1)

pub short_line : (event : LogEntry) → IsWritable event → length (line_of_entry event) ≤ 2067
short_line event (logged, fits, is) =
    subst (λ e. length (line_of_entry e) ≤ 2067) (sym is) (short logged fits)

digits_15 : length (decimal 999999999999999) ≡ 15
unfolding digits
digits_15 = refl

pub longest : (octets : List ℕ) → length octets ≡ 1024
    → length (line_of_entry (Came 999999999999999 (LineIn octets))) ≡ 2067
longest octets is =
    octets_long 999999999999999 (codes " S ") octets ∙ omega (arith, is, digits_15)

pub short_lines : (next : Next) (buf : List ℕ) → AllByRecursion IsWritable (logged_by next buf)
    → length (lines_of_log (logged_by next buf)) ≤ longest_line
short_lines (answers.Line now len) buf all = short_line _ all.0
short_lines (answers.Open now) buf all = short_line _ all.0
short_lines (answers.Bytes now len) buf all = short_line _ all.0
short_lines (answers.Cut now) buf all = short_line _ all.0
short_lines (answers.Tick now) buf all = short_line _ all.0
short_lines (answers.Wall now number) buf all = short_line _ all.0
short_lines answers.Done buf all = omega arith
short_lines answers.Fault buf all = omega arith

-- An event that no line can hold

abbrev FitsInput : Input → Type 0
FitsInput (LineIn octets) = 1 ≤ length octets
FitsInput Opened = Unit {0}
FitsInput (TcpIn octets) = 1 ≤ length octets
FitsInput CutOff = Unit {0}
FitsInput Ticked = Unit {0}
FitsInput (WallIs number) = number ≤ 999999999999999
FitsInput Restarted = ⊥

abbrev FitsEntry : LogEntry → Type 0
FitsEntry (Came now input) = (now ≤ 999999999999999) × FitsInput input
FitsEntry (Went now action) = ⊥

entry_fits : (logged : Event) → FitsTrace logged → FitsEntry (came logged)
entry_fits (events.line now octets) fits = (fits.0, fits.2)
entry_fits (events.received now octets) fits = (fits.0, fits.2)
entry_fits (events.opening now) fits = (fits, tt)
entry_fits (events.cut now) fits = (fits, tt)
entry_fits (events.tick now) fits = (fits, tt)
entry_fits (events.wall now number) fits = (fits.0, fits.1)

fits_entry : (event : LogEntry) → IsWritable event → FitsEntry event
fits_entry event (logged, fits, is) = subst FitsEntry (sym is) (entry_fits logged fits)

some_taken : (len : ℕ) (buf : List ℕ) → 1 ≤ length (take len buf) → 1 ≤ len
some_taken len buf le = omega (arith, le, length-take len buf)

fits_line : (next : Next) (buf : List ℕ) → AllByRecursion IsWritable (logged_by next buf)
    → FitsLine next
fits_line (answers.Line now len) buf all =
    let fits = fits_entry _ all.0 in (fits.0, some_taken len buf fits.1)
fits_line (answers.Open now) buf all = (fits_entry _ all.0).0
fits_line (answers.Bytes now len) buf all =
    let fits = fits_entry _ all.0 in (fits.0, some_taken len buf fits.1)
fits_line (answers.Cut now) buf all = (fits_entry _ all.0).0
fits_line (answers.Tick now) buf all = (fits_entry _ all.0).0
fits_line (answers.Wall now number) buf all = let fits = fits_entry _ all.0 in (fits.0, fits.1)
fits_line answers.Done buf all = tt
fits_line answers.Fault buf all = tt

pub unwritable : (next : Next) (buf : List ℕ) (octets : ℕ) → (FitsLine next → ⊥)
    → IsRefusedBy faults.Unwritable (logged_by next buf) octets
unwritable next buf octets none all = none (fits_line next buf all)

-- What is refused without an event is refused with one
pub refused_with : (fault : StoreFault) (events : Log) (octets : ℕ) → IsRefusedBy fault [] octets
    → IsRefusedBy fault events octets
refused_with faults.Unwritable events octets refused = absurd (refused tt)
refused_with faults.Full events octets refused = refused
refused_with faults.Failed events octets refused = tt

-- A line that finds no room comes only if a new log is due
pub full_due : (head counted octets total size : ℕ)
    → head + most_octets + longest_line + seal_octets ≤ size → octets ≤ longest_line
    → size < total + octets + 27 → total ≤ head + counted → is_renewal_due counted ≡ true
full_due head counted octets total size room fits full within =
    lt-ltb 3900000 counted (omega (arith, room, fits, full, within))

pub refused_any : {A : Type 0} (r : Result A StoreFault) (events : Log) (octets : ℕ)
    → IfErr r (λ fault. IsRefusedBy fault [] octets)
    → IfErr r (λ fault. IsRefusedBy fault events octets)
refused_any (Ok x) events octets refused = tt
refused_any (Err fault) events octets refused = refused_with fault events octets refused

pub refused_append : (answer : StoreFault) (fault : SegmentFault)
    (head counted octets total size : ℕ)
    → (answer ≡ faults.Full → fault ≡ Full) → (answer ≡ faults.Unwritable → ⊥)
    → head + most_octets + longest_line + seal_octets ≤ size → octets ≤ longest_line
    → (fault ≡ Full → size < total + octets + 27) → (fault ≡ Full → total ≤ head + counted)
    → IsRefusedBy answer [] counted
refused_append faults.Unwritable fault head counted octets total size is none room fits full
    within = absurd (none refl)
refused_append faults.Full fault head counted octets total size is none room fits full within =
    full_due head counted octets total size room fits (full (is refl)) (within (is refl))
refused_append faults.Failed fault head counted octets total size is none room fits full within =
    tt

-- what holds at all holds of an answer
pub where_ok : {A E P : Type 0} (r : Result A E) → P → OnOk r P
where_ok (Ok x) holds = holds
where_ok (Err fault) holds = tt

-- the line of an event that was appended to a text with nothing in it
pub short_appended : {A E : Type 0} (r : Result A E) (next : Next) (buf old new line : List ℕ)
    → is_err r ≡ false → OnOk r (new ≡ old ++ lines_of_log (logged_by next buf))
    → OnOk r (AllByRecursion IsPrintable (logged_by next buf)) → old ≡ [] → line ≡ new
    → FitsBuffer next → FitsLine next → 1024 ≤ length buf → length line ≤ longest_line
short_appended (Ok x) next buf old new line there is all empty same fits holds long =
    let text : line ≡ lines_of_log (logged_by next buf) =
    same ∙ is ∙ ap (λ (l : List ℕ). l ++ lines_of_log (logged_by next buf)) empty in
    subst (λ (l : List ℕ). length l ≤ longest_line) (sym text)
    (short_lines next buf (writable next buf fits holds long all))
short_appended (Err e) next buf old new line there is all empty same fits holds long =
    absurd (cc)
