-- A record as a capture, part by part.
use Rattle.std.proofs.Common.{◌≡◌, ℕ, ◌+◌, ◌&&◌, ◌||◌, Bool, true, false, List, [], ◌∷◌, ◌++◌}
use Rattle.std.proofs.Common.{length, map, Option, Some, None, refl, ap, sym, subst, ◌∙◌}
use Rattle.std.proofs.Common.{append_assoc, arith}
use Rattle.std.proofs.lemmas.List.{append-nil, length-append, map-append}
use Rattle.std.proofs.lemmas.List.Folds.{list_all-append}
use Rattle.std.specs.Io.KnownBytes.{Appends}
use Rattle.std.specs.Option.{is_some}
use Rattle.std.specs.Prelude.{IfErr, IfSome, OnErr, OnOk, Result, Ok, Err}
use Rattle.std.specs.Result.{IsErrAnd}
use Rattle.record.specs.Lines.{whole_lines}
use Rattle.record.proofs.BlockLemmas.{AreOf}
use Rattle.record.proofs.LineLemmas.{whole_joined}
use Rattle.traces.specs.Blocks.{Gives, IsGiven, Reading}
use Rattle.ft12.specs.declared.frame.LinkSize.{LinkSize}
use Rattle.gateway.specs.Log.{LogEntry}
use Rattle.traces.specs.Pouring.{IsBegun}
use Rattle.traces.proofs.Poured.{appends_more, begun_behind, begun_longer}
use Rattle.traces.specs.Fields.{parts_after}
use Rattle.traces.proofs.BlockLemmas.{gives_last, gives_on, gives_some, more_behind}
use Rattle.traces.specs.Trace.{is_skipped, lines_of}
use Rattle.record.specs.Blocks.{file_header}
use Rattle.record.specs.Captures.{Captured, after_line, after_lines, begun, blocks_for, blocks_of}
use Rattle.record.specs.Captures.{after_logged, blocks_of_lines, last_packets, line_blocks}
use Rattle.record.specs.Recorded.{entry_logged, is_line}
use Rattle.record.specs.Texts.{ArePassed, ArePut, AreWritten, IsCaptureFault, IsCaptured}
use Rattle.record.specs.Texts.{IsEndFault, IsPartBegun, IsPartFault, IsPartly}
use Rattle.record.specs.Texts.{IsReadFault, IsWrongPart, IsWrongRecord, are_lines}
use Rattle.record.specs.Texts.{ended_blocks, entries_in, file_of, kept_line, kept_lines}
use Rattle.record.specs.declared.capture.passing.Passed.TheVariants.{All, Wrong}
use Rattle.record.specs.declared.capture.whole.CaptureFault.{CaptureFault}
use Rattle.record.specs.declared.capture.whole.CaptureFault.TheVariants.{Line, Unread, Unwritten}
use Rattle.record.specs.declared.capture.whole.CaptureFault.TheVariants.{NoMemory}
use Rattle.record.proofs.CaptureLemmas.{capture_whole}

-- ---- Lines behind lines

blocks_more : (c : Captured) (xs ys : List (List ℕ)) →
    blocks_of_lines c (xs ++ ys) ≡ blocks_of_lines c xs ++ blocks_of_lines (after_lines c xs) ys
blocks_more c [] ys = refl
blocks_more c (x ∷ xs) ys =
    ap (λ (zs : List ℕ). line_blocks c x ++ zs) (blocks_more (after_line c x) xs ys)
    ∙ sym (append_assoc (line_blocks c x) (blocks_of_lines (after_line c x) xs)
    (blocks_of_lines (after_lines (after_line c x) xs) ys))

after_more : (c : Captured) (xs ys : List (List ℕ)) →
    after_lines c (xs ++ ys) ≡ after_lines (after_lines c xs) ys
after_more c [] ys = refl
after_more c (x ∷ xs) ys = after_more (after_line c x) xs ys

-- what a capture ends with behind lines
ended_more : (c : Captured) (xs ys : List (List ℕ)) →
    ended_blocks c (xs ++ ys) ≡ blocks_of_lines c xs ++ ended_blocks (after_lines c xs) ys
ended_more c xs ys =
    let mid = after_lines c xs in
    ap (λ (zs : List ℕ). zs ++ blocks_of (last_packets (after_lines c (xs ++ ys))))
    (blocks_more c xs ys)
    ∙ (ap (λ (d : Captured). (blocks_of_lines c xs ++ blocks_of_lines mid ys)
    ++ blocks_of (last_packets d)) (after_more c xs ys)
    ∙ append_assoc (blocks_of_lines c xs) (blocks_of_lines mid ys)
    (blocks_of (last_packets (after_lines mid ys))))

right_more : (xs ys : List (List ℕ)) → are_lines xs ≡ true → are_lines ys ≡ true
    → are_lines (xs ++ ys) ≡ true
right_more xs ys h k =
    list_all-append is_line xs ys ∙ (ap (λ (b : Bool). b && are_lines ys) h ∙ k)

-- ---- Lines on a page

put_more : (a b c : Captured) (xs ys : List (List ℕ)) (p q r : List ℕ) → ArePut a xs p q b
    → ArePut b ys q r c → ArePut a (xs ++ ys) p r c
put_more a b c xs ys p q r h k = record {
  right = right_more xs ys h.right k.right;
  put = k.put ∙ (ap (λ (zs : List ℕ). zs ++ blocks_of_lines b ys) h.put
      ∙ (append_assoc p (blocks_of_lines a xs) (blocks_of_lines b ys)
      ∙ (ap (λ (d : Captured). p ++ (blocks_of_lines a xs ++ blocks_of_lines d ys)) h.new_is
      ∙ ap (λ (zs : List ℕ). p ++ zs) (sym (blocks_more a xs ys)))));
  new_is = k.new_is ∙ (ap (λ (d : Captured). after_lines d ys) h.new_is
      ∙ sym (after_more a xs ys));
}

put_one : (a b : Captured) (line p q : List ℕ) → is_line line ≡ true → q ≡ p ++ line_blocks a line
    → b ≡ after_line a line → ArePut a (line ∷ []) p q b
put_one a b line p q is put behind = record {
  right = ap (λ (x : Bool). x && true) is;
  put = put ∙ ap (λ (zs : List ℕ). p ++ zs) (sym (append-nil (line_blocks a line)));
  new_is = behind;
}

-- a wrong line logs nothing
none_logged : (line : List ℕ) → is_line line ≡ false → entry_logged line ≡ None
none_logged line wrong = by (is_skipped line) (entry_logged line) wrong
  where
    by : (skipped : Bool) (logged : Option LogEntry) → (skipped || is_some logged) ≡ false
        → logged ≡ None
    by skipped None h = refl
    by true (Some entry) h = cc
    by false (Some entry) h = cc

-- the first lines of some were put, these are left, and the first of them has this number
pub record PutTo (all left : List (List ℕ)) (first n : ℕ) (old : Captured)
    (before after : List ℕ) (new : Captured) : Type 0 where
  pub done : List (List ℕ)
  pub split : all ≡ done ++ left
  pub counted : n ≡ first + length done
  pub put : ArePut old done before after new

pub put_begins : (all : List (List ℕ)) (first n : ℕ) (c : Captured) (page : List ℕ) → n ≡ first
    → PutTo all all first n c page page c
put_begins all first n c page is = record {
  done = [];
  split = refl;
  counted = omega (arith, is);
  put = record { right = refl; put = sym (append-nil page); new_is = refl };
}

module _ (all left : List (List ℕ)) (line : List ℕ) (first n : ℕ) (old mid new : Captured)
    (before page after : List ℕ) (h : PutTo all (line ∷ left) first n old before page mid)
    (put : after ≡ page ++ line_blocks mid line) (behind : new ≡ after_line mid line) where
  -- a line more
  pub put_on : is_line line ≡ true → PutTo all left first (n + 1) old before after new
  put_on is = record {
    done = h.done ++ line ∷ [];
    split = h.split ∙ sym (append_assoc h.done (line ∷ []) left);
    counted = omega (arith, h.counted, length-append h.done (line ∷ []));
    put = put_more old mid new h.done (line ∷ []) before page after h.put
        (put_one mid new line page after is put behind);
  }

  -- or it is wrong
  pub put_wrong : is_line line ≡ false → ArePassed first old all before after new (Wrong n)
  put_wrong wrong =
      let none = none_logged line wrong in
      let same : after ≡ page =
      put ∙ (ap (λ (logged : Option LogEntry). page ++ blocks_for mid logged) none
      ∙ append-nil page) in
      let stays : new ≡ mid =
      behind ∙ ap (λ (logged : Option LogEntry). after_logged mid logged) none in (
        h.done,
        record {
          wrong = line;
          later = left;
          split = h.split;
          is_wrong = wrong;
          right = h.put.right;
          number = h.counted;
        },
        record {
          right = h.put.right;
          put = same ∙ h.put.put;
          new_is = stays ∙ h.put.new_is;
        },
      )

-- ---- A part

appends_none : (known : Option (List ℕ)) → Appends known known []
appends_none None = tt
appends_none (Some octets) = sym (append-nil octets)

module _ (first : ℕ) (old new : Captured) (lines : List (List ℕ)) (empty page : List ℕ)
    (before after : Option (List ℕ)) (none : empty ≡ []) where
  page_is : (put : ArePut old lines empty page new) → page ≡ blocks_of_lines old lines
  page_is put = put.put ∙ ap (λ (xs : List ℕ). xs ++ blocks_of_lines old lines) none

  pub part_cut : (next : ℕ) → ArePassed first old lines empty page new (All next)
      → IsBegun before after page → IsPartBegun old lines before after
  part_cut next passed wrote = record {
    some = lines;
    later = [];
    split = sym (append-nil lines);
    begun = begun_longer before after (blocks_of_lines old lines)
        (blocks_of (last_packets (after_lines old lines)))
        (subst (λ (xs : List ℕ). IsBegun before after xs) (page_is passed.0) wrote);
  }

-- ---- A record

-- So much of a record was read, and the packets of its lines were written.
pub record CapturesTo (size : LinkSize) (known coming : Option (List ℕ)) (c : Captured) (n : ℕ)
    (old new : Option (List ℕ)) : Type 0 where
  pub before : List ℕ
  pub rest : (t : List ℕ) → Gives coming t → Gives known (before ++ t)
  pub lines : List (List ℕ)
  pub are : (t : List ℕ) → kept_lines (before ++ t) ≡ lines ++ kept_lines t
  pub right : are_lines lines ≡ true
  pub is : c ≡ after_lines (begun size) lines
  pub counted : n ≡ 1 + length lines
  pub written : Appends old new (file_header ++ blocks_of_lines (begun size) lines)

-- at first the header
pub captures_begin : (size : LinkSize) (known coming : Option (List ℕ)) (c : Captured) (n : ℕ)
    (page : List ℕ) (old new : Option (List ℕ)) → coming ≡ known → c ≡ begun size → n ≡ 1
    → page ≡ file_header → Appends old new page → CapturesTo size known coming c n old new
captures_begin size known coming c n page old new all fresh one header written = record {
  before = [];
  rest = λ t gives. subst (λ (o : Option (List ℕ)). Gives o t) all gives;
  lines = [];
  are = λ t. refl;
  right = refl;
  is = fresh;
  counted = omega (arith, one);
  written = subst (λ (xs : List ℕ). Appends old new xs)
      (header ∙ sym (append-nil file_header)) written;
}

-- which may not have been written, or not all of it
pub header_cut : (size : LinkSize) (known : Option (List ℕ)) (page : List ℕ)
    (old new : Option (List ℕ)) → page ≡ file_header → IsBegun old new page
    → IsPartly size (Gives known) old new
header_cut size known page old new header wrote =
    let some = gives_some known in
    record {
      text = some.0;
      is = some.1;
      some = [];
      later = kept_lines some.0;
      split = refl;
      begun = subst (λ (xs : List ℕ). IsBegun old new xs) (capture_whole size [])
          (begun_longer old new file_header (ended_blocks (begun size) [])
          (subst (λ (xs : List ℕ). IsBegun old new xs) header wrote));
    }

pub unbegun : (size : LinkSize) (known old : Option (List ℕ)) → IsPartly size (Gives known) old old
unbegun size known old = header_cut size known file_header old old refl
    ([], (file_header, refl), appends_none old)

-- the lines of a text behind a line feed
kept_joined : (a b : List ℕ) → kept_lines (a ++ 10 ∷ b) ≡ map kept_line (lines_of a) ++ kept_lines b
kept_joined a b = ap (map kept_line) (whole_joined a b)
    ∙ map-append kept_line (lines_of a) (whole_lines b)

module _ (size : LinkSize) (known coming : Option (List ℕ)) (c : Captured) (n : ℕ)
    (old mid : Option (List ℕ)) (so : CapturesTo size known coming c n old mid) where
  -- the file of the lines so far, and of these
  file_joined : (more : List (List ℕ)) →
      (file_header ++ blocks_of_lines (begun size) so.lines) ++ ended_blocks c more
      ≡ file_of size (entries_in (so.lines ++ more))
  file_joined more =
      let front = blocks_of_lines (begun size) so.lines in
      append_assoc file_header front (ended_blocks c more)
      ∙ (ap (λ (xs : List ℕ). file_header ++ xs)
      (ap (λ (d : Captured). front ++ ended_blocks d more) so.is
      ∙ sym (ended_more (begun size) so.lines more))
      ∙ capture_whole size (so.lines ++ more))

  -- no more of it is had
  pub captures_unread : IsPartly size (Gives known) old mid
  captures_unread =
      let some = gives_some coming in
      record {
        text = so.before ++ some.0;
        is = so.rest some.0 some.1;
        some = so.lines ++ [];
        later = kept_lines some.0;
        split = so.are some.0 ∙ ap (λ (ls : List (List ℕ)). ls ++ kept_lines some.0)
            (sym (append-nil so.lines));
        begun = (
          file_header ++ blocks_of_lines (begun size) so.lines,
          (ended_blocks c [], file_joined []),
          so.written,
        );
      }

  module _ (block : Reading) (octets : List ℕ) (same : octets ≡ block.lines)
      (cut : IfSome coming (λ text. IsGiven text block)) (part : Option (List ℕ))
      (of : AreOf octets block.is_over part) where
    kept_on : block.is_over ≡ false → (t : List ℕ)
        → kept_lines (so.before ++ (octets ++ 10 ∷ t))
        ≡ (so.lines ++ map kept_line (parts_after 10 part)) ++ kept_lines t
    kept_on goes t = so.are (octets ++ 10 ∷ t)
        ∙ (ap (λ (ls : List (List ℕ)). so.lines ++ ls) (kept_joined octets t)
        ∙ (ap (λ (p : Option (List ℕ)). so.lines ++ (map kept_line (parts_after 10 p)
        ++ kept_lines t)) (sym (of.other goes))
        ∙ sym (append_assoc so.lines (map kept_line (parts_after 10 part)) (kept_lines t))))

    kept_last : block.is_over ≡ true → kept_lines (so.before ++ octets)
        ≡ so.lines ++ map kept_line (parts_after 10 part)
    kept_last over = so.are octets ∙ ap (λ (ls : List (List ℕ)). so.lines ++ map kept_line ls)
        (sym (of.last over))

    -- a text that may be given, and begins with these lines
    given_some : (text : List ℕ) × ((later : List (List ℕ)) × (Gives known text
        × (kept_lines text ≡ (so.lines ++ map kept_line (parts_after 10 part)) ++ later)))
    given_some = by block.is_over refl
      where
        by : (over : Bool) → block.is_over ≡ over
            → (text : List ℕ) × ((later : List (List ℕ)) × (Gives known text
            × (kept_lines text ≡ (so.lines ++ map kept_line (parts_after 10 part)) ++ later)))
        by true over = (
          so.before ++ octets,
          (
            [],
            (
              so.rest octets (gives_last block octets coming same cut over),
              kept_last over
                  ∙ sym (append-nil (so.lines ++ map kept_line (parts_after 10 part))),
            ),
          ),
        )
        by false goes =
            let some = gives_some block.coming in (
              so.before ++ (octets ++ 10 ∷ some.0),
              (
                kept_lines some.0,
                (
                  so.rest (octets ++ 10 ∷ some.0)
                      (gives_on block octets coming same cut goes some.0 some.1),
                  kept_on goes some.0,
                ),
              ),
            )

    -- a part more was written
    pub captures_on : block.is_over ≡ false → (d : Captured) (m : ℕ) (new : Option (List ℕ))
        → AreWritten n m c (map kept_line (parts_after 10 part)) mid new d
        → CapturesTo size known block.coming d m old new
    captures_on goes d m new w =
        let more = map kept_line (parts_after 10 part) in
        let front = blocks_of_lines (begun size) so.lines in
        record {
          before = so.before ++ (octets ++ 10 ∷ []);
          rest = λ t is. subst (Gives known) (sym (more_behind so.before octets t))
              (so.rest (octets ++ 10 ∷ t)
              (gives_on block octets coming same cut goes t is));
          lines = so.lines ++ more;
          are = λ t. ap kept_lines (more_behind so.before octets t) ∙ kept_on goes t;
          right = right_more so.lines more so.right w.right;
          is = w.new_is ∙ (ap (λ (e : Captured). after_lines e more) so.is
              ∙ sym (after_more (begun size) so.lines more));
          counted = omega (arith, w.number, so.counted, length-append so.lines more);
          written = subst (λ (xs : List ℕ). Appends old new xs)
              (append_assoc file_header front (blocks_of_lines c more)
              ∙ ap (λ (xs : List ℕ). file_header ++ xs)
              (ap (λ (e : Captured). front ++ blocks_of_lines e more) so.is
              ∙ sym (blocks_more (begun size) so.lines more)))
              (appends_more old mid new (file_header ++ front) (blocks_of_lines c more) so.written
              w.written);
        }

    -- or the capture stops at it
    stops_begun : (new : Option (List ℕ))
        → IsPartBegun c (map kept_line (parts_after 10 part)) mid new
        → IsPartly size (Gives known) old new
    stops_begun new h =
        let g = given_some in
        record {
          text = g.0;
          is = g.1.1.0;
          some = so.lines ++ h.some;
          later = h.later ++ g.1.0;
          split = g.1.1.1
              ∙ (ap (λ (ls : List (List ℕ)). (so.lines ++ ls) ++ g.1.0) h.split
              ∙ (ap (λ (ls : List (List ℕ)). ls ++ g.1.0)
              (sym (append_assoc so.lines h.some h.later))
              ∙ append_assoc (so.lines ++ h.some) h.later g.1.0));
          begun = subst (λ (xs : List ℕ). IsBegun old new xs) (file_joined h.some)
              (begun_behind old mid new (file_header ++ blocks_of_lines (begun size) so.lines)
              (ended_blocks c h.some) so.written h.begun);
        }

    stops_wrong : (k : ℕ) (new : Option (List ℕ))
        → IsWrongPart n k c (map kept_line (parts_after 10 part)) mid new
        → IsWrongRecord size (Gives known) k old new
    stops_wrong k new h =
        let g = given_some in
        let tail = h.wrong.wrong ∷ h.wrong.later in
        record {
          text = g.0;
          is = g.1.1.0;
          some = so.lines ++ h.some;
          wrong = record {
            wrong = h.wrong.wrong;
            later = h.wrong.later ++ g.1.0;
            split = g.1.1.1
                ∙ (ap (λ (ls : List (List ℕ)). (so.lines ++ ls) ++ g.1.0) h.wrong.split
                ∙ (ap (λ (ls : List (List ℕ)). ls ++ g.1.0)
                (sym (append_assoc so.lines h.some tail))
                ∙ append_assoc (so.lines ++ h.some) tail g.1.0));
            is_wrong = h.wrong.is_wrong;
            right = right_more so.lines h.some so.right h.wrong.right;
            number = omega (arith, h.wrong.number, so.counted, length-append so.lines h.some);
          };
          written = subst (λ (xs : List ℕ). Appends old new xs) (file_joined h.some)
              (appends_more old mid new (file_header ++ blocks_of_lines (begun size) so.lines)
              (ended_blocks c h.some) so.written h.written);
        }

    pub captures_stop : (new : Option (List ℕ)) (fault : CaptureFault)
        → IsPartFault n c (map kept_line (parts_after 10 part)) mid new fault
        → IsCaptureFault size (Gives known) old new fault
    captures_stop new (Line k) h = stops_wrong k new h
    captures_stop new Unread h = absurd h
    captures_stop new Unwritten h = stops_begun new h
    captures_stop new NoMemory h = stops_begun new h

    -- the last part was written, and what a capture ends with
    pub captures_over : block.is_over ≡ true → (d : Captured) (m : ℕ)
        (written new : Option (List ℕ)) (r : Result (Unit {0}) CaptureFault)
        → AreWritten n m c (map kept_line (parts_after 10 part)) mid written d
        → OnOk r (Appends written new (blocks_of (last_packets d)))
        → OnErr r (IsBegun written new (blocks_of (last_packets d)))
        → IfErr r IsEndFault → IsCaptured size (Gives known) old new r
    captures_over over d m written new (Ok done) w all some fault =
        let more = map kept_line (parts_after 10 part) in
        let front = file_header ++ blocks_of_lines (begun size) so.lines in
        let ended : Appends mid new (ended_blocks c more) =
        subst (λ (e : Captured). Appends mid new (blocks_of_lines c more
        ++ blocks_of (last_packets e))) w.new_is
        (appends_more mid written new (blocks_of_lines c more) (blocks_of (last_packets d))
        w.written all) in
        record {
          text = so.before ++ octets;
          is = so.rest octets (gives_last block octets coming same cut over);
          right = ap are_lines (kept_last over) ∙ right_more so.lines more so.right w.right;
          written = subst (λ (xs : List ℕ). Appends old new xs)
              (file_joined more
              ∙ ap (λ (ls : List (List ℕ)). file_of size (entries_in ls)) (sym (kept_last over)))
              (appends_more old mid new front (ended_blocks c more) so.written ended);
        }
    captures_over over d m written new (Err fault) w all some ends =
        let more = map kept_line (parts_after 10 part) in
        let part_begun : IsPartBegun c more mid new = record {
          some = more;
          later = [];
          split = sym (append-nil more);
          begun = subst (λ (e : Captured). IsBegun mid new (blocks_of_lines c more
              ++ blocks_of (last_packets e))) w.new_is
              (begun_behind mid written new (blocks_of_lines c more) (blocks_of (last_packets d))
              w.written some);
        } in by fault ends part_begun
      where
        by : (fault : CaptureFault) → IsEndFault fault
            → IsPartBegun c (map kept_line (parts_after 10 part)) mid new
            → IsCaptureFault size (Gives known) old new fault
        by (Line k) ends h = absurd ends
        by Unread ends h = absurd ends
        by Unwritten ends h = stops_begun new h
        by NoMemory ends h = stops_begun new h

-- a record that is known to be one of these
pub captured_as : (size : LinkSize) (has more : List ℕ → Type 0) (old new : Option (List ℕ))
    (r : Result (Unit {0}) CaptureFault) → ((octets : List ℕ) → has octets → more octets)
    → IsCaptured size has old new r → IsCaptured size more old new r
captured_as size has more old new r wider = by r
  where
    partly : IsPartly size has old new → IsPartly size more old new
    partly h = record {
      text = h.text;
      is = wider h.text h.is;
      some = h.some;
      later = h.later;
      split = h.split;
      begun = h.begun;
    }

    by : (r : Result (Unit {0}) CaptureFault) → IsCaptured size has old new r
        → IsCaptured size more old new r
    by (Ok done) h = record {
      text = h.text;
      is = wider h.text h.is;
      right = h.right;
      written = h.written;
    }
    by (Err (Line n)) h = record {
      text = h.text;
      is = wider h.text h.is;
      some = h.some;
      wrong = h.wrong;
      written = h.written;
    }
    by (Err Unread) h = partly h
    by (Err Unwritten) h = partly h
    by (Err NoMemory) h = partly h

-- what a fault says when no more of a record is had
pub read_fault : (size : LinkSize) (known old new : Option (List ℕ)) (fault : CaptureFault)
    → IsReadFault fault → IsPartly size (Gives known) old new
    → IsCaptureFault size (Gives known) old new fault
read_fault size known old new (Line n) is h = absurd is
read_fault size known old new Unread is h = h
read_fault size known old new Unwritten is h = absurd is
read_fault size known old new NoMemory is h = h

-- what is promised of a fault that is passed on
pub as_err : {T : Type 0} (P : Result T CaptureFault → Type 0) (r : Result T CaptureFault)
    (e : CaptureFault) → IsErrAnd r (λ x. x ≡ e) → P (Err e) → P r
as_err P (Ok x) e is h = absurd is
as_err P (Err x) e is h = subst (λ (y : CaptureFault). P (Err y)) (sym is) h
