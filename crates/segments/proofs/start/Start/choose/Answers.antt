use Rattle.std.proofs.Common.{◌≡◌, List, ℕ, IsTrue, ap, subst, sym, ◌∙◌, arith}
use Rattle.std.specs.Option.{is_some}
use Rattle.std.specs.Prelude.{not}
use Rattle.segments.specs.Starts.{HasNoNewer, IsAbove, IsBacked, IsFoundIn, IsHeadIn, IsNewest}
use Rattle.segments.specs.Starts.{IsNext, other_side}
use Rattle.segments.specs.declared.start.FoundHead.{FoundHead}
use Rattle.segments.specs.declared.start.FileFront.TheVariants as fronts
use Rattle.segments.proofs.Fronts.{above_front, backed_first, first_newest, next_front, next_other}
use Rattle.segments.proofs.Fronts.{are_doubtful, backed_none, of_both, of_none, only_beside}
use Rattle.segments.proofs.Fronts.{of_some, of_three, placed_as, placed_other, sure_beside}
use Rattle.segments.proofs.start.Start.choose.Goals as goal

pub returns-in-Some-clause-newest : goal.returns-in-Some-clause-newest
returns-in-Some-clause-newest g c =
    of_both c.made.result c.made.ensures.newest c.made.ensures.other (λ s is other clean.
    let newer : IsTrue (g.D.Disk.is_clean c.found_in.new.file) =
    subst (λ d. IsTrue (g.D.Disk.is_clean d)) is clean.0 in
    let older : IsTrue (g.D.Disk.is_clean c.args.older) =
    subst (λ d. IsTrue (g.D.Disk.is_clean d)) other clean.1 in
    let wins : IsNewest (g.D.Disk.seen c.found_in.new.file) (g.D.Disk.seen c.args.older) =
    first_newest (g.D.Disk.seen c.found_in.new.file) (g.D.Disk.seen c.args.older) c.args.front
    c.args.other_front
    (subst (λ (file : List ℕ). IsHeadIn file c.args.front) (sym c.found_in.ensures.seen)
    (c.requires.head (c.found_in.ensures.clean newer)))
    (c.requires.other older) c.requires.order in
    subst (λ d. IsNewest (g.D.Disk.seen s.newest) (g.D.Disk.seen d)) (sym other)
    (subst (λ d. IsNewest (g.D.Disk.seen d) (g.D.Disk.seen c.args.older)) (sym is) wins))

pub returns-in-Some-clause-placed : goal.returns-in-Some-clause-placed
returns-in-Some-clause-placed g c = λ log db placed.
    of_three c.made.result c.made.ensures.newest c.made.ensures.other c.made.ensures.side
    (λ s is other side.
    placed_as c.args.side s.side log db (g.D.Disk.seen c.args.newer) (g.D.Disk.seen c.args.older)
    (g.D.Disk.seen s.newest) (g.D.Disk.seen s.other) side
    (ap (λ d. g.D.Disk.seen d) is ∙ c.found_in.ensures.seen) (ap (λ d. g.D.Disk.seen d) other)
    placed)

pub returns-in-Some-clause-above : goal.returns-in-Some-clause-above
returns-in-Some-clause-above g c =
    of_three c.made.result c.made.ensures.newest c.made.ensures.other c.made.ensures.number
    (λ s is other number clean.
    let newer : IsTrue (g.D.Disk.is_clean c.found_in.new.file) =
    subst (λ d. IsTrue (g.D.Disk.is_clean d)) is clean.0 in
    let older : IsTrue (g.D.Disk.is_clean c.args.older) =
    subst (λ d. IsTrue (g.D.Disk.is_clean d)) other clean.1 in (
      subst (λ n. IsAbove n (g.D.Disk.seen s.newest)) (sym number)
          (subst (λ (l : List ℕ). IsAbove c.args.number l) (sym (ap (λ d. g.D.Disk.seen d) is
          ∙ c.found_in.ensures.seen))
          (above_front (g.D.Disk.seen c.args.newer) c.args.front c.args.number
          (c.requires.head (c.found_in.ensures.clean newer)) (omega (arith, c.requires.next)))),
      subst (λ n. IsAbove n (g.D.Disk.seen s.other)) (sym number)
          (subst (λ (l : List ℕ). IsAbove c.args.number l) (sym (ap (λ d. g.D.Disk.seen d) other))
          (above_front (g.D.Disk.seen c.args.older) c.args.other_front c.args.number
          (c.requires.other older)
          (omega (arith, c.requires.order, c.requires.next)))),
    ))

pub returns-in-Some-clause-backed : goal.returns-in-Some-clause-backed
returns-in-Some-clause-backed g c =
    of_both c.made.result c.made.ensures.newest c.made.ensures.other (λ s is other clean.
    let newer : IsTrue (g.D.Disk.is_clean c.found_in.new.file) =
    subst (λ d. IsTrue (g.D.Disk.is_clean d)) is clean.0 in
    let older : IsTrue (g.D.Disk.is_clean c.args.older) =
    subst (λ d. IsTrue (g.D.Disk.is_clean d)) other clean.1 in
    subst (λ d. IsBacked (g.D.Disk.seen s.newest) (g.D.Disk.seen d)) (sym other)
    (subst (λ d. IsBacked (g.D.Disk.seen d) (g.D.Disk.seen c.args.older)) (sym is)
    (backed_first (g.D.Disk.seen c.found_in.new.file) (g.D.Disk.seen c.args.older) c.args.front
    c.args.other_front c.in-Some.found.head c.in-Some.found.text.items (c.requires.other older)
    c.requires.order
    (of_some (λ (x : FoundHead). c.args.front ≡ fronts.Head x.head) c.in_ok-found.field-0 _
    c.in-Some.is
    c.in_ok-found.ensures.head) c.requires.fits
    (of_some (λ (x : FoundHead). IsTrue (g.D.Disk.is_clean c.found_in.new.file) →
    IsFoundIn (g.D.Disk.seen c.found_in.new.file) x.head x.text.items) c.in_ok-found.field-0 _
    c.in-Some.is c.in_ok-found.ensures.found newer))))

pub returns-in-Some-clause-next : goal.returns-in-Some-clause-next
returns-in-Some-clause-next g c =
    of_three c.made.result c.made.ensures.newest c.made.ensures.other c.made.ensures.number
    (λ s is other number clean.
    let newer : IsTrue (g.D.Disk.is_clean c.found_in.new.file) =
    subst (λ d. IsTrue (g.D.Disk.is_clean d)) is clean.0 in
    subst (λ n. IsNext n (g.D.Disk.seen s.newest) (g.D.Disk.seen s.other)) (sym number)
    (subst (λ (l : List ℕ). IsNext c.args.number l (g.D.Disk.seen s.other))
    (sym (ap (λ d. g.D.Disk.seen d) is ∙ c.found_in.ensures.seen))
    (next_front (g.D.Disk.seen c.args.newer) (g.D.Disk.seen s.other) c.args.front c.args.number
    (c.requires.head (c.found_in.ensures.clean newer)) c.requires.fits c.requires.next)))

pub returns-in-Some-clause-sure : goal.returns-in-Some-clause-sure
returns-in-Some-clause-sure g c =
    of_three c.made.result c.made.ensures.newest c.made.ensures.other c.made.ensures.doubtful
    (λ s is other logged clean some sure.
    let newer : IsTrue (g.D.Disk.is_clean c.found_in.new.file) =
    subst (λ d. IsTrue (g.D.Disk.is_clean d)) is clean.0 in
    let older : IsTrue (g.D.Disk.is_clean c.args.older) =
    subst (λ d. IsTrue (g.D.Disk.is_clean d)) other clean.1 in
    subst (λ (l : List ℕ). HasNoNewer l (g.D.Disk.seen s.other)) (sym (ap (λ d. g.D.Disk.seen d) is
    ∙ c.found_in.ensures.seen))
    (subst (λ (l : List ℕ). HasNoNewer (g.D.Disk.seen c.args.newer) l)
    (sym (ap (λ d. g.D.Disk.seen d) other))
    (sure_beside (g.D.Disk.seen c.args.newer) (g.D.Disk.seen c.args.older) c.args.front
    c.args.other_front c.in-Some.found.head
    (c.requires.head (c.found_in.ensures.clean newer)) (c.requires.other older)
    (of_some (λ (x : FoundHead). c.args.front ≡ fronts.Head x.head) c.in_ok-found.field-0 _
    c.in-Some.is c.in_ok-found.ensures.head)
    c.requires.fits c.requires.both
    (sym c.may_have_newer-is_doubtful.ensures ∙ sym logged ∙ sure))))

pub returns-in-Some-clause-only : goal.returns-in-Some-clause-only
returns-in-Some-clause-only g c =
    of_three c.made.result c.made.ensures.newest c.made.ensures.other c.made.ensures.doubtful
    (λ s is other logged clean some behind.
    let newer : IsTrue (g.D.Disk.is_clean c.found_in.new.file) =
    subst (λ d. IsTrue (g.D.Disk.is_clean d)) is clean.0 in
    let older : IsTrue (g.D.Disk.is_clean c.args.older) =
    subst (λ d. IsTrue (g.D.Disk.is_clean d)) other clean.1 in
    logged ∙ c.may_have_newer-is_doubtful.ensures
    ∙ only_beside (g.D.Disk.seen c.args.newer) (g.D.Disk.seen c.args.older) c.args.front
    c.args.other_front c.in-Some.found.head
    (c.requires.head (c.found_in.ensures.clean newer)) (c.requires.other older)
    (of_some (λ (x : FoundHead). c.args.front ≡ fronts.Head x.head) c.in_ok-found.field-0 _
    c.in-Some.is c.in_ok-found.ensures.head)
    (subst (λ (l : List ℕ). HasNoNewer l (g.D.Disk.seen c.args.older))
    (ap (λ d. g.D.Disk.seen d) is ∙ c.found_in.ensures.seen)
    (subst (λ d. HasNoNewer (g.D.Disk.seen s.newest) (g.D.Disk.seen d)) other behind)))

pub returns-in-Some-2-clause-placed : goal.returns-in-Some-2-clause-placed
returns-in-Some-2-clause-placed g c = λ log db placed.
    of_three c.made-in-Some-2.result c.made-in-Some-2.ensures.newest c.made-in-Some-2.ensures.other
    c.made-in-Some-2.ensures.side
    (λ s is other side.
    placed_as (other_side c.args.side) s.side log db (g.D.Disk.seen c.args.older)
    (g.D.Disk.seen c.args.newer)
    (g.D.Disk.seen s.newest) (g.D.Disk.seen s.other) (side ∙ c.other-side.ensures)
    (ap (λ d. g.D.Disk.seen d) is ∙ c.found_in-2.ensures.seen)
    (ap (λ d. g.D.Disk.seen d) other ∙ c.found_in.ensures.seen)
    (placed_other c.args.side log db (g.D.Disk.seen c.args.newer) (g.D.Disk.seen c.args.older)
    placed))

pub returns-in-Some-2-clause-above : goal.returns-in-Some-2-clause-above
returns-in-Some-2-clause-above g c =
    of_three c.made-in-Some-2.result c.made-in-Some-2.ensures.newest c.made-in-Some-2.ensures.other
    c.made-in-Some-2.ensures.number
    (λ s is other number clean.
    let older : IsTrue (g.D.Disk.is_clean c.found_in-2.new.file) =
    subst (λ d. IsTrue (g.D.Disk.is_clean d)) is clean.0 in
    let newer : IsTrue (g.D.Disk.is_clean c.found_in.new.file) =
    subst (λ d. IsTrue (g.D.Disk.is_clean d)) other clean.1 in (
      subst (λ n. IsAbove n (g.D.Disk.seen s.newest)) (sym number)
          (subst (λ (l : List ℕ). IsAbove c.args.number l) (sym (ap (λ d. g.D.Disk.seen d) is
          ∙ c.found_in-2.ensures.seen))
          (above_front (g.D.Disk.seen c.args.older) c.args.other_front c.args.number
          (c.requires.other (c.found_in-2.ensures.clean older))
          (omega (arith, c.requires.order, c.requires.next)))),
      subst (λ n. IsAbove n (g.D.Disk.seen s.other)) (sym number)
          (subst (λ (l : List ℕ). IsAbove c.args.number l) (sym (ap (λ d. g.D.Disk.seen d) other
          ∙ c.found_in.ensures.seen))
          (above_front (g.D.Disk.seen c.args.newer) c.args.front c.args.number
          (c.requires.head (c.found_in.ensures.clean newer)) (omega (arith, c.requires.next)))),
    ))

pub returns-in-Some-2-clause-next : goal.returns-in-Some-2-clause-next
returns-in-Some-2-clause-next g c =
    of_three c.made-in-Some-2.result c.made-in-Some-2.ensures.newest c.made-in-Some-2.ensures.other
    c.made-in-Some-2.ensures.number
    (λ s is other number clean.
    let newer : IsTrue (g.D.Disk.is_clean c.found_in.new.file) =
    subst (λ d. IsTrue (g.D.Disk.is_clean d)) other clean.1 in
    subst (λ n. IsNext n (g.D.Disk.seen s.newest) (g.D.Disk.seen s.other)) (sym number)
    (subst (λ (l : List ℕ). IsNext c.args.number (g.D.Disk.seen s.newest) l)
    (sym (ap (λ d. g.D.Disk.seen d) other ∙ c.found_in.ensures.seen))
    (next_other c.args.number (g.D.Disk.seen c.args.newer) (g.D.Disk.seen s.newest)
    (next_front (g.D.Disk.seen c.args.newer) (g.D.Disk.seen s.newest) c.args.front c.args.number
    (c.requires.head (c.found_in.ensures.clean newer)) c.requires.fits c.requires.next))))

pub returns-in-Some-2-clause-sure : goal.returns-in-Some-2-clause-sure
returns-in-Some-2-clause-sure g c =
    of_three c.made-in-Some-2.result c.made-in-Some-2.ensures.newest c.made-in-Some-2.ensures.other
    c.made-in-Some-2.ensures.doubtful
    (λ s is other logged clean some sure.
    let older : IsTrue (g.D.Disk.is_clean c.found_in-2.new.file) =
    subst (λ d. IsTrue (g.D.Disk.is_clean d)) is clean.0 in
    let newer : IsTrue (g.D.Disk.is_clean c.found_in.new.file) =
    subst (λ d. IsTrue (g.D.Disk.is_clean d)) other clean.1 in
    subst (λ (l : List ℕ). HasNoNewer l (g.D.Disk.seen s.other)) (sym (ap (λ d. g.D.Disk.seen d) is
    ∙ c.found_in-2.ensures.seen))
    (subst (λ (l : List ℕ). HasNoNewer (g.D.Disk.seen c.args.older) l)
    (sym (ap (λ d. g.D.Disk.seen d) other ∙ c.found_in.ensures.seen))
    (sure_beside (g.D.Disk.seen c.args.older) (g.D.Disk.seen c.args.newer) c.args.other_front
    c.args.front c.in-Some-2.found.head
    (c.requires.other (c.found_in-2.ensures.clean older))
    (c.requires.head (c.found_in.ensures.clean newer))
    (of_some (λ (x : FoundHead). c.args.other_front ≡ fronts.Head x.head) c.in_ok-found-2.field-0 _
    c.in-Some-2.is c.in_ok-found-2.ensures.head)
    c.requires.both c.requires.fits
    (sym c.may_have_newer-is_doubtful-in-Some-2.ensures ∙ sym logged ∙ sure))))

pub returns-in-Some-2-clause-only : goal.returns-in-Some-2-clause-only
returns-in-Some-2-clause-only g c =
    of_three c.made-in-Some-2.result c.made-in-Some-2.ensures.newest c.made-in-Some-2.ensures.other
    c.made-in-Some-2.ensures.doubtful
    (λ s is other logged clean some behind.
    let older : IsTrue (g.D.Disk.is_clean c.found_in-2.new.file) =
    subst (λ d. IsTrue (g.D.Disk.is_clean d)) is clean.0 in
    let newer : IsTrue (g.D.Disk.is_clean c.found_in.new.file) =
    subst (λ d. IsTrue (g.D.Disk.is_clean d)) other clean.1 in
    logged ∙ c.may_have_newer-is_doubtful-in-Some-2.ensures
    ∙ only_beside (g.D.Disk.seen c.args.older) (g.D.Disk.seen c.args.newer) c.args.other_front
    c.args.front c.in-Some-2.found.head
    (c.requires.other (c.found_in-2.ensures.clean older))
    (c.requires.head (c.found_in.ensures.clean newer))
    (of_some (λ (x : FoundHead). c.args.other_front ≡ fronts.Head x.head) c.in_ok-found-2.field-0 _
    c.in-Some-2.is c.in_ok-found-2.ensures.head)
    (subst (λ (l : List ℕ). HasNoNewer l (g.D.Disk.seen c.args.newer))
    (ap (λ d. g.D.Disk.seen d) is ∙ c.found_in-2.ensures.seen)
    (subst (λ (l : List ℕ). HasNoNewer (g.D.Disk.seen s.newest) l)
    (ap (λ d. g.D.Disk.seen d) other ∙ c.found_in.ensures.seen) behind)))

pub returns-clause-placed : goal.returns-clause-placed
returns-clause-placed g c = λ log db placed.
    of_three c.made-2.result c.made-2.ensures.newest c.made-2.ensures.other c.made-2.ensures.side
    (λ s is other side.
    placed_as (other_side c.args.side) s.side log db (g.D.Disk.seen c.args.older)
    (g.D.Disk.seen c.args.newer)
    (g.D.Disk.seen s.newest) (g.D.Disk.seen s.other) (side ∙ c.other-side.ensures)
    (ap (λ d. g.D.Disk.seen d) is ∙ c.found_in-2.ensures.seen)
    (ap (λ d. g.D.Disk.seen d) other ∙ c.found_in.ensures.seen)
    (placed_other c.args.side log db (g.D.Disk.seen c.args.newer) (g.D.Disk.seen c.args.older)
    placed))

pub returns-clause-above : goal.returns-clause-above
returns-clause-above g c =
    of_three c.made-2.result c.made-2.ensures.newest c.made-2.ensures.other c.made-2.ensures.number
    (λ s is other number clean.
    let older : IsTrue (g.D.Disk.is_clean c.found_in-2.new.file) =
    subst (λ d. IsTrue (g.D.Disk.is_clean d)) is clean.0 in
    let newer : IsTrue (g.D.Disk.is_clean c.found_in.new.file) =
    subst (λ d. IsTrue (g.D.Disk.is_clean d)) other clean.1 in (
      subst (λ n. IsAbove n (g.D.Disk.seen s.newest)) (sym number)
          (subst (λ (l : List ℕ). IsAbove c.args.number l) (sym (ap (λ d. g.D.Disk.seen d) is
          ∙ c.found_in-2.ensures.seen))
          (above_front (g.D.Disk.seen c.args.older) c.args.other_front c.args.number
          (c.requires.other (c.found_in-2.ensures.clean older))
          (omega (arith, c.requires.order, c.requires.next)))),
      subst (λ n. IsAbove n (g.D.Disk.seen s.other)) (sym number)
          (subst (λ (l : List ℕ). IsAbove c.args.number l) (sym (ap (λ d. g.D.Disk.seen d) other
          ∙ c.found_in.ensures.seen))
          (above_front (g.D.Disk.seen c.args.newer) c.args.front c.args.number
          (c.requires.head (c.found_in.ensures.clean newer)) (omega (arith, c.requires.next)))),
    ))

pub returns-clause-next : goal.returns-clause-next
returns-clause-next g c =
    of_three c.made-2.result c.made-2.ensures.newest c.made-2.ensures.other c.made-2.ensures.number
    (λ s is other number clean.
    let newer : IsTrue (g.D.Disk.is_clean c.found_in.new.file) =
    subst (λ d. IsTrue (g.D.Disk.is_clean d)) other clean.1 in
    subst (λ n. IsNext n (g.D.Disk.seen s.newest) (g.D.Disk.seen s.other)) (sym number)
    (subst (λ (l : List ℕ). IsNext c.args.number (g.D.Disk.seen s.newest) l)
    (sym (ap (λ d. g.D.Disk.seen d) other ∙ c.found_in.ensures.seen))
    (next_other c.args.number (g.D.Disk.seen c.args.newer) (g.D.Disk.seen s.newest)
    (next_front (g.D.Disk.seen c.args.newer) (g.D.Disk.seen s.newest) c.args.front c.args.number
    (c.requires.head (c.found_in.ensures.clean newer)) c.requires.fits c.requires.next))))

pub returns-clause-sure : goal.returns-clause-sure
returns-clause-sure g c =
    of_both c.made-2.result c.made-2.ensures.newest c.made-2.ensures.found
    (λ s is found clean some. let no = sym (ap is_some found) ∙ some in absurd (cc))

pub returns-clause-blank : goal.returns-clause-blank
returns-clause-blank g c =
    of_three c.made-2.result c.made-2.ensures.newest c.made-2.ensures.other
    c.made-2.ensures.doubtful
    (λ s is other logged clean none shut shut'.
    let older : IsTrue (g.D.Disk.is_clean c.found_in-2.new.file) =
    subst (λ d. IsTrue (g.D.Disk.is_clean d)) is clean.0 in
    let newer : IsTrue (g.D.Disk.is_clean c.found_in.new.file) =
    subst (λ d. IsTrue (g.D.Disk.is_clean d)) other clean.1 in
    logged ∙ ap not c.are_shut-is_doubtful.ensures
    ∙ are_doubtful (g.D.Disk.seen s.newest) (g.D.Disk.seen s.other) c.args.front c.args.other_front
    (subst (λ (l : List ℕ). IsHeadIn l c.args.front)
    (sym (ap (λ d. g.D.Disk.seen d) other ∙ c.found_in.ensures.seen))
    (c.requires.head (c.found_in.ensures.clean newer)))
    (subst (λ (l : List ℕ). IsHeadIn l c.args.other_front)
    (sym (ap (λ d. g.D.Disk.seen d) is ∙ c.found_in-2.ensures.seen))
    (c.requires.other (c.found_in-2.ensures.clean older))) shut shut')

pub returns-clause-backed : goal.returns-clause-backed
returns-clause-backed g c =
    of_both c.made-2.result c.made-2.ensures.newest c.made-2.ensures.other (λ s is other clean.
    let newer : IsTrue (g.D.Disk.is_clean c.found_in.new.file) =
    subst (λ d. IsTrue (g.D.Disk.is_clean d)) other clean.1 in
    subst (λ d. IsBacked (g.D.Disk.seen s.newest) (g.D.Disk.seen d)) (sym other)
    (backed_none (g.D.Disk.seen s.newest) (g.D.Disk.seen c.found_in.new.file)
    (of_none c.in_ok-found.field-0 c.in_default.is c.in_ok-found.ensures.none newer)))
