use Rattle.std.proofs.Common.{◌≡◌, ◌≤◌, ◌∙◌, ◌∷◌, ◌++◌, ◌+◌, [], ℕ, List, ap, arith, drop, length}
use Rattle.std.proofs.Common.{refl}
use Rattle.std.proofs.Common.{subst, sym, take}
use Rattle.std.proofs.lemmas.List.{append-nil, length-drop, length-take-le}
use Rattle.statetext.specs.Sum.{remainder_after}
use Rattle.segments.specs.Contents.{Contents}
use Rattle.segments.specs.Crash.{BeginsWith, HasNoOther}
use Rattle.segments.specs.Crashes.{log_text}
use Rattle.segments.specs.Head.{Fits, head_for, head_of, whole_text}
use Rattle.segments.specs.Written.{text_in}
use Rattle.segments.proofs.CrashLemmas.{synced_length}
use Rattle.segments.proofs.Crashes.{whole_begun}
use Rattle.segments.proofs.Sealed.{no_other_next, settled_kept, settled_left}
use Rattle.segments.proofs.segment.Segment.begun.Goals as goal

pub invariant_of-result : goal.invariant_of-result
invariant_of-result g c =
    let a = c.args in
    let r = c.requires in
    let seen : List ℕ = g.D.Disk.seen a.file in
    let out = g.D.Disk.may_leave a.file in
    let body : List ℕ = drop 87 (take a.end seen) in
    let text : List ℕ = log_text a.number body [] in
    let page : List ℕ = c.row_with_room.result.items in
    let same = sym c.of-written.ensures in
    let none = c.row_with_room.ensures in
    let long : a.end ≤ length seen = omega (arith, r.sized, r.within) in
    let count = length-take-le a.end seen long in
    let is : take a.end seen ≡ text =
    r.whole ∙ sym (append-nil (whole_text a.number body)) in
    let paged : text_in a.end seen page ≡ text =
    ap (text_in a.end seen) none ∙ append-nil (take a.end seen) ∙ is in
    let left = settled_left out seen page text a.end r.synced long r.blank none paged in
    record {
      begun = subst (λ (h : Contents). a.end ≡ 87 + length h.body) same
          (omega (arith, count, length-drop 87 (take a.end seen), r.behind));
      fits = subst (λ (h : Contents). Fits (head_for a.number h.body)) same
          (whole_begun a.number a.end seen c.ranges.number.fits c.ranges.end.fits long r.summed
          r.whole).fits;
      safe = subst (λ (h : Contents). a.end ≡ length (log_text a.number h.body h.writes)) same
          (sym count ∙ ap length is);
      ordered = omega arith;
      within = omega (arith, r.within, ap length none);
      sealable = λ lt. absurd (omega (arith, lt, ap length none));
      blocks = r.blocks;
      sized = r.sized;
      usable = λ _. r.usable;
      blank = λ _. r.blank;
      text = λ _. subst (λ (h : Contents). text_in a.end seen page
          ≡ log_text a.number h.body h.writes ++ h.lines) same (paged ∙ sym (append-nil text));
      long = synced_length seen out a.size r.synced r.sized;
      kept = subst (λ (h : Contents). BeginsWith out a.end (log_text a.number h.body h.writes)) same
          (settled_kept out seen page text a.end r.synced long none paged);
      left = λ _ _. subst (λ (h : Contents). HasNoOther out
          (log_text a.number h.body h.writes ++ h.lines)) same left;
      mixed = λ _. subst (λ (h : Contents). HasNoOther out
          (log_text a.number h.body (h.writes ++ h.lines ∷ []))) same
          (no_other_next out a.number body [] [] left);
      seeded = subst (λ (h : Contents). a.seed.remainder
          ≡ remainder_after 0xffffffff (head_of (head_for a.number h.body))) same r.seeded;
      summed = λ _. subst (λ (h : Contents). a.seed.remainder
          ≡ remainder_after a.seed.remainder h.lines) same refl;
    }
