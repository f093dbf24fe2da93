use Rattle.std.proofs.Common.{◌≡◌, ◌≤◌, ◌∙◌, ◌∷◌, ◌++◌, ◌+◌, [], ℕ, List, ap, arith, length}
use Rattle.std.proofs.Common.{refl, subst, sym}
use Rattle.std.proofs.lemmas.Bool.{false≢true}
use Rattle.std.proofs.lemmas.List.{append-nil}
use Rattle.statetext.specs.Sealed.{seal_of, sealed_text}
use Rattle.statetext.proofs.Sealing.{seal_length}
use Rattle.statetext.specs.Sum.{remainder_after}
use Rattle.segments.specs.Contents.{Contents}
use Rattle.segments.specs.Crash.{BeginsWith, HasLength, HasNoOther, IsBlankFrom}
use Rattle.segments.specs.Crashes.{log_text}
use Rattle.segments.specs.Head.{Fits, head_for, head_of}
use Rattle.segments.specs.Written.{text_in}
use Rattle.segments.proofs.Sealed.{has_seal, log_begins, next_length, next_seal, no_other_next}
use Rattle.segments.proofs.Sealed.{open_stored, sealed_place, sealed_text_is, settled_kept}
use Rattle.segments.proofs.Sealed.{settled_left}
use Rattle.segments.proofs.SegmentLemmas.{long_again}
use Rattle.segments.proofs.segment.Segment.seal.Goals as goal

pub overflow_sub-place : goal.overflow_sub-place
overflow_sub-place g c =
    let s = c.args.self.now in
    log_begins s.begins s.durable s.number s.written.has.body s.written.has.writes s.begun s.safe

pub invariant_of-self : goal.invariant_of-self
invariant_of-self g c =
    let s = c.args.self.now in
    let on = c.requires.open in
    let w = s.written.has in
    let head : List ℕ = head_of (head_for s.number w.body) in
    let seal : List ℕ = c.seal_of-seal.result in
    let file = c.commit.new.file in
    let seen : List ℕ = g.D.Disk.seen file in
    let out = g.D.Disk.may_leave file in
    let end : ℕ = c.in-Ok.end in
    let is_seal : seal ≡ next_seal s.number w.body w.writes w.lines =
    c.seal_of-seal.ensures head w.lines
    (s.summed on ∙ ap (λ (r : ℕ). remainder_after r w.lines) s.seeded)
    ∙ ap (λ (n : ℕ). seal_of head n w.lines)
    (sealed_place s.begins s.durable s.number w.body w.writes s.begun s.safe) in
    let text : List ℕ = log_text s.number w.body (w.writes ++ w.lines ∷ []) in
    let stored = open_stored s.stored s.number (g.D.Disk.seen s.file) s.page.items w.body
    w.writes w.lines (omega (arith, s.sized, s.within)) c.requires.held (s.text on) in
    let new_text : text_in end seen [] ≡ text =
    ap (λ (n : ℕ). text_in n seen []) c.in-Ok.ensures.end ∙ c.in-Ok.ensures.text
    ∙ sealed_text_is s.stored s.number (g.D.Disk.seen s.file) s.page.items seal w.body w.writes
    w.lines c.requires.held (s.text on) is_seal in
    let paged : text_in end seen s.page.items ≡ text =
    ap (text_in end seen) c.requires.held ∙ new_text in
    let count : end ≡ length text =
    c.in-Ok.ensures.end ∙ ap (λ (l : List ℕ). s.stored + length l) is_seal
    ∙ (omega (
      arith,
      stored,
      next_length s.number w.body w.writes w.lines,
      seal_length head (length (sealed_text head w.writes)) w.lines,
    )) in
    let blank : IsBlankFrom end seen =
    subst (λ (n : ℕ). IsBlankFrom n seen) (sym c.in-Ok.ensures.end) c.in-Ok.ensures.blank in
    let empty : length s.page.items ≡ 0 = ap length c.requires.held in
    let sized : length seen ≡ s.size = c.commit.ensures.sized ∙ s.sized in
    let room : end ≤ s.size = omega (
      arith,
      s.sealable (omega (arith, c.requires.some)),
      c.in-Ok.ensures.end,
      ap length is_seal,
      seal_length head (length (sealed_text head w.writes)) w.lines,
      empty,
    ) in
    let left = settled_left out seen s.page.items text end c.in-Ok.ensures.durable
    (omega (arith, sized, room)) blank c.requires.held paged in
    let same = sym c.next-self.ensures in
    record {
      begun = subst (λ (h : Contents). s.begins ≡ 87 + length h.body) same s.begun;
      fits = subst (λ (h : Contents). Fits (head_for s.number h.body)) same s.fits;
      safe = subst (λ (h : Contents). end ≡ length (log_text s.number h.body h.writes)) same count;
      ordered = omega arith;
      within = omega (arith, room, empty);
      sealable = λ lt. absurd (omega (arith, lt, empty));
      blocks = s.blocks;
      sized = sized;
      usable = λ _. c.in-Ok.ensures.usable;
      blank = λ _. blank;
      text = λ _. subst (λ (h : Contents). text_in end seen s.page.items
          ≡ log_text s.number h.body h.writes ++ h.lines) same
          (paged ∙ sym (append-nil text));
      long = long_again _ _ _ _ s.sized s.long c.commit.ensures.long;
      kept = subst (λ (h : Contents). BeginsWith out end (log_text s.number h.body h.writes)) same
          (settled_kept out seen s.page.items text end c.in-Ok.ensures.durable
          (omega (arith, sized, room)) c.requires.held paged);
      left = λ _ _. subst (λ (h : Contents). HasNoOther out
          (log_text s.number h.body h.writes ++ h.lines)) same left;
      mixed = λ _. subst (λ (h : Contents). HasNoOther out
          (log_text s.number h.body (h.writes ++ h.lines ∷ []))) same
          (no_other_next out s.number w.body (w.writes ++ w.lines ∷ []) [] left);
      seeded = subst (λ (h : Contents). s.seed.remainder
          ≡ remainder_after 0xffffffff (head_of (head_for s.number h.body))) same s.seeded;
      summed = λ _. subst (λ (h : Contents). s.seed.remainder
          ≡ remainder_after s.seed.remainder h.lines) same refl;
    }

pub invariant_of-self-in-Err-1 : goal.invariant_of-self-in-Err-1
invariant_of-self-in-Err-1 g c =
    let s = c.args.self.now in
    let on = c.requires.open in
    let w = s.written.has in
    let head : List ℕ = head_of (head_for s.number w.body) in
    let old = g.D.Disk.may_leave s.file in
    let is_seal : c.seal_of-seal.result ≡ next_seal s.number w.body w.writes w.lines =
    c.seal_of-seal.ensures head w.lines
    (s.summed on ∙ ap (λ (r : ℕ). remainder_after r w.lines) s.seeded)
    ∙ ap (λ (n : ℕ). seal_of head n w.lines)
    (sealed_place s.begins s.durable s.number w.body w.writes s.begun s.safe) in
    let long : HasLength old (length (g.D.Disk.seen s.file)) =
    subst (HasLength old) (sym s.sized) s.long in
    let stored = open_stored s.stored s.number (g.D.Disk.seen s.file) s.page.items w.body
    w.writes w.lines (omega (arith, s.sized, s.within)) c.requires.held (s.text on) in
    record {
      begun = s.begun;
      fits = s.fits;
      safe = s.safe;
      ordered = s.ordered;
      within = s.within;
      sealable = s.sealable;
      blocks = s.blocks;
      sized = c.commit.ensures.sized ∙ s.sized;
      usable = λ on. absurd (false≢true on);
      blank = λ on. absurd (false≢true on);
      text = λ on. absurd (false≢true on);
      long = long_again _ _ _ _ s.sized s.long c.commit.ensures.long;
      kept = c.commit.ensures.kept s.durable (log_text s.number w.body w.writes) s.ordered long
          s.kept;
      left = λ mixing on. absurd (false≢true on);
      mixed = λ mixing. c.commit.ensures.mixed
          (log_text s.number w.body (w.writes ++ w.lines ∷ [])) (mixing s.file) long
          (has_seal s.stored s.number w.body w.writes w.lines c.seal_of-seal.result stored is_seal)
          (s.mixed mixing);
      seeded = s.seeded;
      summed = λ on. absurd (false≢true on);
    }

pub returns-in-Ok-clause-writes : goal.returns-in-Ok-clause-writes
returns-in-Ok-clause-writes g c = ap (λ (h : Contents). h.writes) c.next-self.ensures

pub returns-in-Ok-clause-lines : goal.returns-in-Ok-clause-lines
returns-in-Ok-clause-lines g c = ap (λ (h : Contents). h.lines) c.next-self.ensures

pub returns-in-Ok-clause-same : goal.returns-in-Ok-clause-same
returns-in-Ok-clause-same g c =
    let s = c.args.self.now in
    ap (λ (h : Contents). (s.number, h.body, s.size)) c.next-self.ensures
