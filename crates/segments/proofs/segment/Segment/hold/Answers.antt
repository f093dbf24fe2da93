use Rattle.std.proofs.Common.{◌≡◌, ◌∙◌, ◌+◌, ◌∷◌, ◌++◌, [], ℕ, List, ap, append_assoc, arith}
use Rattle.std.proofs.Common.{length}
use Rattle.std.proofs.Common.{subst, sym, length-append}
use Rattle.statetext.specs.Sum.{remainder_after}
use Rattle.statetext.proofs.Rotten.{after_front}
use Rattle.segments.specs.Contents.{Contents}
use Rattle.segments.specs.Crash.{AreMixing, BeginsWith, HasNoOther}
use Rattle.segments.specs.Crashes.{log_text}
use Rattle.segments.specs.Head.{Fits, head_for, head_of}
use Rattle.segments.specs.Written.{text_in}
use Rattle.segments.proofs.HeldLemmas.{held_text}
use Rattle.segments.proofs.Sealed.{no_other_more, no_other_next}
use Rattle.segments.proofs.segment.Segment.hold.Goals as goal

pub invariant_of-self : goal.invariant_of-self
invariant_of-self g c =
    let s = c.args.self.now in
    let on = c.requires.open in
    let w = s.written.has in
    let seen : List ℕ = g.D.Disk.seen s.file in
    let out = g.D.Disk.may_leave s.file in
    let octets : List ℕ = c.args.octets.now in
    let page : List ℕ = c.extend_from_slice.new.self.items in
    let same = sym c.next-self.ensures in
    let longer : length page ≡ length s.page.items + length octets =
    ap length c.in-Ok.ensures.items ∙ length-append s.page.items octets in
    let left : AreMixing g.D.Disk
    → HasNoOther out (log_text s.number w.body w.writes ++ (w.lines ++ octets)) =
    λ mixing. subst (HasNoOther out)
    (append_assoc (log_text s.number w.body w.writes) w.lines octets)
    (no_other_more out (log_text s.number w.body w.writes ++ w.lines) octets
    (s.left mixing on)) in
    record {
      begun = subst (λ (h : Contents). s.begins ≡ 87 + length h.body) same s.begun;
      fits = subst (λ (h : Contents). Fits (head_for s.number h.body)) same s.fits;
      safe = subst (λ (h : Contents). s.durable ≡ length (log_text s.number h.body h.writes)) same
          s.safe;
      ordered = s.ordered;
      within = omega (arith, c.requires.room, longer);
      sealable = λ _. omega (arith, c.requires.room, longer);
      blocks = s.blocks;
      sized = s.sized;
      usable = s.usable;
      blank = s.blank;
      text = λ on. subst (λ (h : Contents). text_in s.stored seen page
          ≡ log_text s.number h.body h.writes ++ h.lines) same
          (held_text s.stored seen s.page.items page octets c.in-Ok.ensures.items
          ∙ ap (λ (l : List ℕ). l ++ octets) (s.text on)
          ∙ append_assoc (log_text s.number w.body w.writes) w.lines octets);
      long = s.long;
      kept = subst (λ (h : Contents). BeginsWith out s.durable
          (log_text s.number h.body h.writes)) same s.kept;
      left = λ mixing _. subst (λ (h : Contents). HasNoOther out
          (log_text s.number h.body h.writes ++ h.lines)) same (left mixing);
      mixed = λ mixing. subst (λ (h : Contents). HasNoOther out
          (log_text s.number h.body (h.writes ++ h.lines ∷ []))) same
          (no_other_next out s.number w.body w.writes (w.lines ++ octets) (left mixing));
      seeded = subst (λ (h : Contents). s.seed.remainder
          ≡ remainder_after 0xffffffff (head_of (head_for s.number h.body))) same s.seeded;
      summed = λ on. subst (λ (h : Contents). c.add.new.self.remainder
          ≡ remainder_after s.seed.remainder h.lines) same
          (c.add.ensures ∙ ap (λ (r : ℕ). remainder_after r octets) (s.summed on)
          ∙ sym (after_front s.seed.remainder w.lines octets));
    }
