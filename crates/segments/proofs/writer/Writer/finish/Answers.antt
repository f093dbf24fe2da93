use Rattle.std.proofs.Common.{◌≡◌, ◌∙◌, ◌+◌, ◌*◌, ◌<◌, ◌≤◌, ◌^◌, [], subst, List, ℕ, drop, take}
use Rattle.std.proofs.Common.{ap, sym, arith}
use Rattle.std.proofs.Common.{length, length-append}
use Rattle.std.specs.Prelude.{◌⊎◌}
use Rattle.std.proofs.lemmas.List.{length-drop, length-take, length-take-le}
use Rattle.segments.specs.Crash.{IsShut, IsTextIfOpen, IsTextTo}
use Rattle.segments.specs.Crashes.{AreShutOr}
use Rattle.segments.specs.Head.{Fits, head_for, head_of, whole_text}
use Rattle.statetext.specs.Sum.{remainder_after}
use Rattle.segments.specs.Written.{text_in}
use Rattle.segments.proofs.Crashes.{body_is, few_or_shut, summed_front, whole_front, whole_length}
use Rattle.segments.proofs.Sealed.{blocks_so}
use Rattle.segments.proofs.writer.Writer.finish.Goals as goal

at_page : (number end stored : ℕ) (seen old held page : List ℕ) → held ≡ page
    → text_in end seen [] ≡ whole_text number (drop 87 (text_in stored old held))
    → text_in end seen [] ≡ whole_text number (drop 87 (text_in stored old page))
at_page number end stored seen old held page is text =
    subst (λ (p : List ℕ). text_in end seen []
    ≡ whole_text number (drop 87 (text_in stored old p))) is text

page_length : (stored : ℕ) (seen page : List ℕ) → length seen ≡ stored → 87 ≤ stored
    → stored + length page ≡ 87 + length (drop 87 (text_in stored seen page))
page_length stored seen page sized some = omega (
  arith,
  length-drop 87 (text_in stored seen page),
  length-append (take stored seen) page,
  length-take-le stored seen (omega (arith, sized)),
  some,
)

pub returns-clause-crash : goal.returns-clause-crash
returns-clause-crash g c =
    let s = c.args.self in
    subst (λ (h : List ℕ). IsTextIfOpen (g.D.Disk.may_leave c.fill.new.file)
    (whole_text c.args.number (drop 87 (text_in s.stored (g.D.Disk.seen s.file) h))))
    c.deref.ensures.value c.in-Err.ensures.crash

pub returns-clause-mixed : goal.returns-clause-mixed
returns-clause-mixed g c mixing =
    let s = c.args.self in
    let body : List ℕ = drop 87 (text_in s.stored (g.D.Disk.seen s.file) s.page.items) in
    let few : c.value-sum.result < 2 ^ 32 = omega arith in
    let number : c.args.number < 2 ^ 64 = omega arith in
    let long : length body ≤ s.stored + length s.page.items = omega (
      arith,
      length-drop 87 (text_in s.stored (g.D.Disk.seen s.file) s.page.items),
      length-append (take s.stored (g.D.Disk.seen s.file)) s.page.items,
      length-take s.stored (g.D.Disk.seen s.file),
    ) in
    few_or_shut (g.D.Disk.may_leave c.fill.new.file) c.args.number
    (s.stored + length s.page.items) c.value-sum.result s.sum.remainder body
    (s.stored + length s.page.items + 976 * 4096) number long few
    c.value-sum.ensures s.summed
    (subst (λ (h : List ℕ). IsShut (g.D.Disk.may_leave c.fill.new.file)
    ⊎ (s.stored + length h < 2 ^ 64)) c.deref.ensures.value c.in-Err.ensures.few)
    (blocks_so (87 + length body) (s.stored + length s.page.items + 976 * 4096)
    (ap (λ (n : ℕ). n + 976 * 4096)
    (page_length s.stored (g.D.Disk.seen s.file) s.page.items (s.sized c.if-not-is_open.false)
    s.behind)))
    (subst (λ (h : List ℕ). AreShutOr (g.D.Disk.may_leave c.fill.new.file)
    (IsTextTo (s.stored + length h + 976 * 4096)
    (whole_text c.args.number (drop 87 (text_in s.stored (g.D.Disk.seen s.file) h)))))
    c.deref.ensures.value (c.in-Err.ensures.mixed mixing))

pub begun-requires-clause-whole : goal.begun-requires-clause-whole
begun-requires-clause-whole g c =
    let s = c.args.self in
    whole_front c.args.number c.in-Ok.end (g.D.Disk.seen c.fill.new.file) _
    (at_page c.args.number c.in-Ok.end s.stored (g.D.Disk.seen c.fill.new.file)
    (g.D.Disk.seen s.file) _ _ c.deref.ensures.value c.in-Ok.ensures.text)

pub begun-requires-clause-summed : goal.begun-requires-clause-summed
begun-requires-clause-summed g c =
    let s = c.args.self in
    let few : c.value-sum.result < 2 ^ 32 = omega arith in
    summed_front c.args.number c.in-Ok.end c.value-sum.result s.sum.remainder
    (g.D.Disk.seen c.fill.new.file) _
    (at_page c.args.number c.in-Ok.end s.stored (g.D.Disk.seen c.fill.new.file)
    (g.D.Disk.seen s.file) _ _ c.deref.ensures.value c.in-Ok.ensures.text)
    few c.value-sum.ensures s.summed

pub begun-requires-clause-behind : goal.begun-requires-clause-behind
begun-requires-clause-behind g c =
    let s = c.args.self in
    let body : List ℕ = drop 87 (text_in s.stored (g.D.Disk.seen s.file) c.deref.result.now) in
    omega (
      arith,
      sym c.in-Ok.ensures.end ∙ ap length c.in-Ok.ensures.text,
      whole_length c.args.number body,
    )

pub begun-requires-clause-blocks : goal.begun-requires-clause-blocks
begun-requires-clause-blocks g c =
    blocks_so c.in-Ok.end c.in-Ok.size c.in-Ok.ensures.size

pub begun-requires-clause-seeded : goal.begun-requires-clause-seeded
begun-requires-clause-seeded g c =
    c.in-Ok.ensures.seed
    ∙ ap (λ (b : List ℕ). remainder_after 0xffffffff (head_of (head_for c.args.number b)))
    (sym (body_is c.args.number c.in-Ok.end (g.D.Disk.seen c.fill.new.file) _
    c.in-Ok.ensures.text))

-- the checkpoint of the segment that is begun
body_begun : (number end stored : ℕ) (seen old held page : List ℕ) → held ≡ page
    → text_in end seen [] ≡ whole_text number (drop 87 (text_in stored old held))
    → drop 87 (take end seen) ≡ drop 87 (text_in stored old page)
body_begun number end stored seen old held page is text =
    body_is number end seen (drop 87 (text_in stored old held)) text
    ∙ ap (λ (p : List ℕ). drop 87 (text_in stored old p)) is

pub returns-in-Ok-clause-body : goal.returns-in-Ok-clause-body
returns-in-Ok-clause-body g c =
    let s = c.args.self in
    c.begun.ensures.body ∙ body_begun c.args.number c.in-Ok.end s.stored
    (g.D.Disk.seen c.fill.new.file) (g.D.Disk.seen s.file) _ _ c.deref.ensures.value
    c.in-Ok.ensures.text

pub returns-in-Ok-clause-fits : goal.returns-in-Ok-clause-fits
returns-in-Ok-clause-fits g c =
    let s = c.args.self in
    subst (λ (b : List ℕ). Fits (head_for c.args.number b))
    (body_begun c.args.number c.in-Ok.end s.stored (g.D.Disk.seen c.fill.new.file)
    (g.D.Disk.seen s.file) _ _ c.deref.ensures.value c.in-Ok.ensures.text) c.begun.ensures.fits

pub returns-in-Ok-clause-octets : goal.returns-in-Ok-clause-octets
returns-in-Ok-clause-octets g c =
    c.begun.ensures.octets ∙ sym c.in-Ok.ensures.end ∙ ap length c.in-Ok.ensures.text
    ∙ whole_length c.args.number _
    ∙ ap (λ (p : List ℕ). 87 + length (drop 87 (text_in c.args.self.stored
    (g.D.Disk.seen c.args.self.file) p))) c.deref.ensures.value

pub returns-in-Ok-clause-room : goal.returns-in-Ok-clause-room
returns-in-Ok-clause-room g c =
    c.begun.ensures.size ∙ c.in-Ok.ensures.size
    ∙ ap (λ (n : ℕ). n + 976 * 4096) (sym c.begun.ensures.octets)
