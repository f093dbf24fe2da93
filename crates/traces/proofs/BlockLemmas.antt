-- What was read of a text, and what is still to come: together they are what they were.
use borrow.Rule.Slice.PartMut.{put_mid}
use Rattle.std.proofs.Common.{◌≡◌, ℕ, ◌+◌, ◌-◌, ◌<◌, ◌≤◌, List, [], ◌∷◌, ◌++◌, length, take, drop}
use Rattle.std.proofs.Common.{slice_index, Option, Some, None, refl, sym, ap, ◌∙◌, arith}
use Rattle.std.proofs.Common.{append_assoc, append-nil, suc, get_or, length-drop, subst}
use Rattle.std.specs.Prelude.{Bool, true, false, IfSome}
use Rattle.std.specs.Io.KnownBytes.{Consumes, IsAtEnd, Keeps, prepend_known}
use Rattle.std.proofs.Math.Seq.{take-append-add, paste, split_at}
use Rattle.std.proofs.lemmas.Bool.{true≢false}
use Rattle.std.proofs.lemmas.List.{drop-take, get_or-take, length-take-le, take-take}
use Rattle.std.proofs.lemmas.List.Edits.{take-paste}
use Rattle.std.proofs.lemmas.Slice.{take-put_mid, take-put_mid_below}
use Rattle.traces.specs.Blocks.{AreCutOff, Gives, IsGiven, Reading}

-- the octets from `start` to `end`, moved to the front
pub moved : (row : List ℕ) (start end : ℕ) → start ≤ end → end ≤ length row
    → take (end - start) (paste row 0 (drop start row) (end - start)) ≡ drop start (take end row)
moved row start end order within =
    let n : ℕ = end - start in
    let whole : start + n ≡ end = omega (arith, order) in
    ap (λ (m : ℕ). take m (paste row 0 (drop start row) n)) {x = n} {y = 0 + n} (omega arith)
    ∙ take-paste row 0 (drop start row) n (omega arith)
    (omega (arith, length-drop start row, order, within))
    ∙ sym (drop-take start n row) ∙ ap (λ (m : ℕ). drop start (take m row)) whole

-- the first octets of a part stand behind those before it
front : (row part : List ℕ) (filled k count : ℕ) → filled ≤ length row → count ≤ length part
    → take (filled + count) (put_mid filled k row part) ≡ take filled row ++ take count part
front row part filled k count within few =
    let len : length (take filled row) ≡ filled = length-take-le filled row within in
    sym (take-take (filled + count) (filled + length part) (put_mid filled k row part)
    (omega (arith, few)))
    ∙ ap (take (filled + count)) (take-put_mid filled k row part (filled + length part) refl within)
    ∙ ap (λ (i : ℕ). take (i + count) (take filled row ++ part)) (sym len)
    ∙ take-append-add (take filled row) part count

-- a read that took octets
pub read_more : (a b : Option (List ℕ)) (row part : List ℕ) (filled k count : ℕ)
    → filled ≤ length row
    → count ≤ length part → Consumes a b (take count part)
    → Keeps (prepend_known (take filled row) a)
    (prepend_known (take (filled + count) (put_mid filled k row part)) b)
read_more None b row part filled k count within few took = tt
read_more (Some xs) None row part filled k count within few took = absurd took
read_more (Some xs) (Some ys) row part filled k count within few took =
    ap (λ (l : List ℕ). l ++ ys) (front row part filled k count within few)
    ∙ append_assoc (take filled row) (take count part) ys
    ∙ ap (λ (l : List ℕ). take filled row ++ l) (sym took)

-- a read that took none
pub read_none : (a b : Option (List ℕ)) (row part : List ℕ) (filled k : ℕ) → filled ≤ length row
    → Keeps a b
    → Keeps (prepend_known (take filled row) a)
    (prepend_known (take filled (put_mid filled k row part)) b)
read_none None b row part filled k within same = tt
read_none (Some xs) None row part filled k within same = absurd same
read_none (Some xs) (Some ys) row part filled k within same =
    ap (λ (l : List ℕ). l ++ ys) (take-put_mid_below filled k row part filled (omega arith) within)
    ∙ ap (λ (l : List ℕ). take filled row ++ l) same

-- a line feed parts what was read
parted : (buf : List ℕ) (filled place : ℕ) → filled ≤ length buf → place < filled
    → slice_index buf place ≡ 10
    → take filled buf ≡ take place buf ++ 10 ∷ drop (place + 1) (take filled buf)
parted buf filled place within before is =
    let inside : place < length (take filled buf) =
    omega (arith, length-take-le filled buf within, before) in
    let feed : get_or (take filled buf) place 0 ≡ 10 = get_or-take filled buf place 0 before ∙ is in
    let cut : take place (take filled buf) ≡ take place buf =
    take-take place filled buf (omega (arith, before)) in
    split_at (take filled buf) place 0 inside
    ∙ ap (λ (l : List ℕ). l ++ get_or (take filled buf) place 0
    ∷ drop (suc place) (take filled buf)) cut
    ∙ ap (λ (x : ℕ). take place buf ++ x ∷ drop (suc place) (take filled buf)) feed
    ∙ ap (λ (i : ℕ). take place buf ++ 10 ∷ drop i (take filled buf)) {x = suc place} {y =
    place + 1} (omega arith)

-- a block that ends at a line feed
pub block_before : (a b : Option (List ℕ)) (held unread buf : List ℕ) (filled place : ℕ)
    (is_over : Bool)
    → is_over ≡ false → held ≡ unread → filled ≤ length buf → place < filled → slice_index buf place
    ≡ 10
    → Keeps (prepend_known held a) (prepend_known (take filled buf) b)
    → IfSome (prepend_known unread a)
    (λ text. AreCutOff text (take place buf) is_over
    (prepend_known (drop (place + 1) (take filled buf)) b))
block_before a b held unread buf filled place true going same within before is kept =
    absurd (true≢false going)
block_before None b held unread buf filled place false going same within before is kept = tt
block_before (Some text) None held unread buf filled place false going same within before is kept =
    absurd kept
block_before (Some text) (Some rest) held unread buf filled place false going same within before is
    kept =
    ap (λ (l : List ℕ). l ++ text) (sym same) ∙ sym kept
    ∙ ap (λ (l : List ℕ). l ++ rest) (parted buf filled place within before is)
    ∙ append_assoc (take place buf) (10 ∷ drop (place + 1) (take filled buf)) rest

-- the last block
pub last_block : (a b : Option (List ℕ)) (held unread read : List ℕ) → held ≡ unread
    → Keeps (prepend_known held a) (prepend_known read b) → IsAtEnd b
    → IfSome (prepend_known unread a) (λ text. text ≡ read)
last_block None b held unread read same kept none = tt
last_block (Some text) None held unread read same kept none = absurd kept
last_block (Some text) (Some rest) held unread read same kept none =
    ap (λ (l : List ℕ). l ++ text) (sym same) ∙ sym kept ∙ ap (λ (l : List ℕ). read ++ l) none
    ∙ append-nil read

-- What is still to come

-- these lines, a line feed, and more
pub more_behind : (before lines t : List ℕ) → (before ++ (lines ++ 10 ∷ [])) ++ t
    ≡ before ++ (lines ++ 10 ∷ t)
more_behind before lines t = append_assoc before (lines ++ 10 ∷ []) t
    ∙ ap (λ (l : List ℕ). before ++ l) (append_assoc lines (10 ∷ []) t)

-- a reader gives some text
pub gives_some : (known : Option (List ℕ)) → (t : List ℕ) × Gives known t
gives_some None = ([], tt)
gives_some (Some text) = (text, refl)

on_cut : (coming later : Option (List ℕ)) (lines t : List ℕ)
    → IfSome coming (λ text. AreCutOff text lines false later)
    → Gives later t → Gives coming (lines ++ 10 ∷ t)
on_cut None later lines t cut is = tt
on_cut (Some text) None lines t cut is = absurd cut
on_cut (Some text) (Some rest) lines t cut is = cut ∙ ap (λ (l : List ℕ). lines ++ 10 ∷ l) is

last_cut : (coming later : Option (List ℕ)) (lines : List ℕ)
    → IfSome coming (λ text. AreCutOff text lines true later)
    → Gives coming lines
last_cut None later lines cut = tt
last_cut (Some text) later lines cut = cut

-- of a block with these lines
module _ (block : Reading) (lines : List ℕ) (coming : Option (List ℕ)) (same : lines ≡ block.lines)
    (cut : IfSome coming (λ text. IsGiven text block)) where
  pub cut_as : (over : Bool) → block.is_over ≡ over
      → IfSome coming (λ text. AreCutOff text lines over block.coming)
  cut_as over is = subst (λ (o : Bool). IfSome coming (λ text. AreCutOff text lines o block.coming))
      is
      (subst (λ (l : List ℕ). IfSome coming (λ text. AreCutOff text l block.is_over block.coming))
      (sym same) cut)

  -- if it isn't the last, a line feed stands before what is still to come
  pub gives_on : block.is_over ≡ false → (t : List ℕ) → Gives block.coming t
      → Gives coming (lines ++ 10 ∷ t)
  gives_on goes t is = on_cut coming block.coming lines t (cut_as false goes) is

  -- the last one is all that was still to come
  pub gives_last : block.is_over ≡ true → Gives coming lines
  gives_last over = last_cut coming block.coming lines (cut_as true over)
