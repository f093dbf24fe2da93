-- A look at the line goes on behind its first octets.
use Rattle.std.proofs.Common.{◌≡◌, ℕ, ◌+◌, ◌≤◌, false, Bool, List, ◌++◌}
use Rattle.std.proofs.Common.{length, take}
use Rattle.std.proofs.Common.{sym, ap, subst, ◌∙◌, arith, length-take-le}
use Rattle.std.proofs.Math.Seq.{take-append-add}
use Rattle.std.proofs.lemmas.List.{take-append-le}
use Rattle.std.proofs.lemmas.Slice.{take-put_mid_below}
use borrow.Rule.Slice.PartMut.{put_mid, post_of}
use Rattle.live.specs.Streams.{Calls, ReadsOn, OneMore, ReadsFrame, NoneCame, ReceivesOnce}
use Rattle.live.specs.Streams.{ends_frame}

-- what came stands behind what was there
behind : (a k n : ℕ) (xs ys : List ℕ) → a ≤ length xs → n ≤ length ys
    → take (a + n) (put_mid a k xs ys) ≡ take a xs ++ take n ys
behind a k n xs ys within few =
    ap (λ m. take (m + n) (put_mid a k xs ys)) (sym (length-take-le a xs within))
    ∙ (take-append-add (take a xs) (ys ++ post_of a k xs) n
    ∙ ap (λ l. take a xs ++ l) (take-append-le n ys (post_of a k xs) few))

-- one call more, which brought octets
pub reads_more : (old mid new : Calls) (first xs ys : List ℕ) (count a k n : ℕ) (ends : Bool)
    → ReadsOn old first count (take a xs) mid → ends ≡ ends_frame (take a xs) → ends ≡ false
    → ReceivesOnce mid (take n ys) n new → (n ≡ 0 → ⊥) → a ≤ length xs → n ≤ length ys
    → ReadsOn old first (count + 1) (take (a + n) (put_mid a k xs ys)) new
reads_more old mid new first xs ys count a k n ends reads is not receives some within few =
    let one : 1 ≤ n = grind (arith, some) in
    let P : List ℕ → Type 0 = λ came. ReadsOn old first (count + 1) came new in
    subst P (sym (behind a k n xs ys within few))
    (OneMore count n (take a xs) (take n ys) mid new reads (sym is ∙ not) receives one)

-- one call more, which brought none
pub reads_out : (old mid new : Calls) (first xs ys : List ℕ) (count a k n : ℕ) (ends : Bool)
    → ReadsOn old first count (take a xs) mid → ends ≡ ends_frame (take a xs) → ends ≡ false
    → ReceivesOnce mid (take n ys) n new → n ≡ 0 → a ≤ length xs
    → ReadsFrame old first (take a (put_mid a k xs ys)) new
reads_out old mid new first xs ys count a k n ends reads is not receives none within =
    let P : List ℕ → Type 0 = λ came. ReadsFrame old first came new in
    let Q : ℕ → Type 0 = λ m. ReceivesOnce mid (take m ys) m new in
    let same : a ≤ a = omega arith in
    subst P (sym (take-put_mid_below a k xs ys a same within)) (record {
      count = count;
      mid = mid;
      reads = reads;
      out = NoneCame (sym is ∙ not) (subst Q none receives);
    })

-- a frame's end is its last octet
