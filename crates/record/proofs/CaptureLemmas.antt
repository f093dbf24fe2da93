-- A capture carries the octets of its record.
use Rattle.std.proofs.Common.{◌≡◌, ℕ, List, [], ◌∷◌, ◌++◌, refl, sym, ap}
use Rattle.std.proofs.Common.{◌∙◌}
use Rattle.std.proofs.lemmas.List.{append-nil}
use Rattle.std.proofs.lemmas.Grind.{flat_map-append}
use Rattle.std.specs.List.{flat_map, filter_map, cons_option}
use Rattle.std.specs.Prelude.{Option, Some, None}
use Rattle.ft12.specs.declared.frame.LinkSize.{LinkSize}
use Rattle.gateway.specs.Log.{LogEntry}
use Rattle.record.specs.Blocks.{file_header}
use Rattle.record.specs.Captures.{Captured, after_all, after_line, after_logged}
use Rattle.record.specs.Captures.{after_lines, begun, blocks_for, blocks_of, blocks_of_lines}
use Rattle.record.specs.Captures.{capture_of, last_packets}
use Rattle.record.specs.Captures.{packets_in, packets_of}
use Rattle.record.specs.Captures.{whole_capture}
use Rattle.record.specs.Recorded.{entry_logged}

-- ---- The connection

-- a line that logs an entry, and one that logs none
logged_blocks : (c : Captured) (logged : Option LogEntry) (lines : List (List ℕ)) →
    blocks_of_lines (after_logged c logged) lines
    ≡ flat_map blocks_of (packets_in (after_logged c logged) (filter_map entry_logged lines)) →
    blocks_for c logged ++ blocks_of_lines (after_logged c logged) lines
    ≡ flat_map blocks_of (packets_in c (cons_option logged (filter_map entry_logged lines)))
logged_blocks c None lines h = h
logged_blocks c (Some entry) lines h =
    ap (λ (xs : List ℕ). blocks_of (packets_of c entry) ++ xs) h

logged_after : (c : Captured) (logged : Option LogEntry) (entries : List LogEntry) →
    after_all (after_logged c logged) entries ≡ after_all c (cons_option logged entries)
logged_after c None entries = refl
logged_after c (Some entry) entries = refl

pub lines_blocks : (c : Captured) (lines : List (List ℕ)) →
    blocks_of_lines c lines ≡ flat_map blocks_of (packets_in c (filter_map entry_logged lines))
lines_blocks c [] = refl
lines_blocks c (line ∷ lines) =
    logged_blocks c (entry_logged line) lines (lines_blocks (after_line c line) lines)

pub lines_after : (c : Captured) (lines : List (List ℕ)) →
    after_lines c lines ≡ after_all c (filter_map entry_logged lines)
lines_after c [] = refl
lines_after c (line ∷ lines) =
    lines_after (after_line c line) lines
    ∙ logged_after c (entry_logged line) (filter_map entry_logged lines)

pub capture_whole : (size : LinkSize) (lines : List (List ℕ)) →
    capture_of size lines
    ≡ file_header ++ flat_map blocks_of (whole_capture size (filter_map entry_logged lines))
capture_whole size lines =
    let entries = filter_map entry_logged lines in
    let all = packets_in (begun size) entries in
    let end = last_packets (after_all (begun size) entries) in
    ap (λ (xs : List ℕ). file_header ++ xs)
    (ap (λ (xs : List ℕ). xs ++ blocks_of (last_packets (after_lines (begun size) lines)))
    (lines_blocks (begun size) lines)
    ∙ (ap (λ (c : Captured). flat_map blocks_of all ++ blocks_of (last_packets c))
    (lines_after (begun size) lines)
    ∙ (ap (λ (xs : List ℕ). flat_map blocks_of all ++ xs) (sym (append-nil (blocks_of end)))
    ∙ sym (flat_map-append blocks_of all (end ∷ [])))))

-- ---- Numbers
