use Rattle.std.proofs.Common.{◌≤◌, ◌∙◌, ◌++◌, ℕ, List, ap, arith, length, subst, sym}
use Rattle.std.proofs.lemmas.Bool.{false≢true}
use Rattle.segments.specs.Crash.{AreMixing, HasLength, HasNoOther, IsBlankFrom}
use Rattle.segments.specs.Crashes.{log_text}
use Rattle.segments.specs.Written.{text_in}
use Rattle.segments.proofs.Sealed.{has_page, no_other_next}
use Rattle.segments.proofs.SegmentLemmas.{long_again, written_again}
use Rattle.segments.proofs.segment.Segment.write.Goals as goal

pub invariant_of-self-in-Ok : goal.invariant_of-self-in-Ok
invariant_of-self-in-Ok g c =
    let s = c.args.self.now in
    let on = c.requires.open in
    let w = s.written.has in
    let text : List ℕ = log_text s.number w.body w.writes ++ w.lines in
    let old = g.D.Disk.may_leave s.file in
    let new = g.D.Disk.may_leave c.store.new.file in
    let long : HasLength old (length (g.D.Disk.seen s.file)) =
    subst (HasLength old) (sym s.sized) s.long in
    let within : s.stored ≤ length (g.D.Disk.seen s.file) = omega (arith, s.within, s.sized) in
    let held = ap (text_in s.stored (g.D.Disk.seen s.file)) c.deref.ensures.value ∙ s.text on in
    let left : AreMixing g.D.Disk → HasNoOther new text =
    λ mixing. c.store.ensures.mixed text (mixing s.file) long
    (has_page s.stored (g.D.Disk.seen s.file) c.deref.result.now text within held)
    (s.left mixing on) in
    record {
      begun = s.begun;
      fits = s.fits;
      safe = s.safe;
      ordered = omega (arith, s.ordered, c.in-Ok.ensures.end);
      within = omega (
        arith,
        s.within,
        c.in-Ok.ensures.end,
        ap length c.deref.ensures.value,
        ap length c.clear.ensures.items,
      );
      sealable = λ lt. omega (
        arith,
        s.sealable (omega (
          arith,
          lt,
          c.in-Ok.ensures.end,
          ap length c.deref.ensures.value,
          ap length c.clear.ensures.items,
        )),
        c.in-Ok.ensures.end,
        ap length c.deref.ensures.value,
        ap length c.clear.ensures.items,
      );
      blocks = s.blocks;
      sized = c.store.ensures.sized ∙ s.sized;
      usable = λ _. c.store.ensures.usable;
      blank = λ _. subst (λ (n : ℕ). IsBlankFrom n (g.D.Disk.seen c.store.new.file))
          (sym c.in-Ok.ensures.end) c.in-Ok.ensures.blank;
      text = λ _. written_again s.stored _ _ _ _ _ _ c.deref.ensures.value c.in-Ok.ensures.end
          c.clear.ensures.items c.in-Ok.ensures.text ∙ s.text on;
      long = long_again _ _ _ _ s.sized s.long c.store.ensures.long;
      kept = c.store.ensures.kept s.durable (log_text s.number w.body w.writes) s.ordered long
          s.kept;
      left = λ mixing _. left mixing;
      mixed = λ mixing. no_other_next new s.number w.body w.writes w.lines (left mixing);
      seeded = s.seeded;
      summed = λ _. s.summed on;
    }

pub invariant_of-self-in-Err-1 : goal.invariant_of-self-in-Err-1
invariant_of-self-in-Err-1 g c =
    let s = c.args.self.now in
    let on = c.requires.open in
    let w = s.written.has in
    let text : List ℕ = log_text s.number w.body w.writes ++ w.lines in
    let old = g.D.Disk.may_leave s.file in
    let new = g.D.Disk.may_leave c.store.new.file in
    let long : HasLength old (length (g.D.Disk.seen s.file)) =
    subst (HasLength old) (sym s.sized) s.long in
    let within : s.stored ≤ length (g.D.Disk.seen s.file) = omega (arith, s.within, s.sized) in
    let held = ap (text_in s.stored (g.D.Disk.seen s.file)) c.deref.ensures.value ∙ s.text on in
    record {
      begun = s.begun;
      fits = s.fits;
      safe = s.safe;
      ordered = s.ordered;
      within = s.within;
      sealable = s.sealable;
      blocks = s.blocks;
      sized = c.store.ensures.sized ∙ s.sized;
      usable = λ on. absurd (false≢true on);
      blank = λ on. absurd (false≢true on);
      text = λ on. absurd (false≢true on);
      long = long_again _ _ _ _ s.sized s.long c.store.ensures.long;
      kept = c.store.ensures.kept s.durable (log_text s.number w.body w.writes) s.ordered long
          s.kept;
      left = λ mixing on. absurd (false≢true on);
      mixed = λ mixing. no_other_next new s.number w.body w.writes w.lines
          (c.store.ensures.mixed text (mixing s.file) long
          (has_page s.stored (g.D.Disk.seen s.file) c.deref.result.now text within held)
          (s.left mixing on));
      seeded = s.seeded;
      summed = λ on. absurd (false≢true on);
    }
