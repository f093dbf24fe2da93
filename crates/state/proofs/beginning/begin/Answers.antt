use Rattle.std.proofs.Common.{refl, ◌∙◌, IsTrue, sym, subst}
use Rattle.segments.specs.Starts.{IsShut}
use Rattle.state.specs.Origins.{IsBegun, IsNumbered}
use Rattle.state.proofs.BegunLemmas.{anew_begun, numbered_from, of_four, of_two}
use Rattle.state.proofs.beginning.begin.Goals as goal

pub returns-in-Anew-clause-begun : goal.returns-in-Anew-clause-begun
returns-in-Anew-clause-begun g c =
    let empty = c.found_in.ensures.empty (sym c.in-Anew.ensures) in
    of_four c.anew.result c.anew.ensures.new c.anew.ensures.moment c.anew.ensures.beginning
    c.anew.ensures.store
    (λ b new moment is store.
    subst (λ s. IsBegun {D = _} {g = g.F.File.Disk} c.args.config.now
    (g.F.Folder.lineage c.args.folder) (g.F.Folder.mark s.folder) s.opened b.origin)
    (sym store)
    (subst (λ o. IsBegun {D = _} {g = g.F.File.Disk} c.args.config.now
    (g.F.Folder.lineage c.args.folder) (g.F.Folder.mark c.with_files.result.folder) o b.origin)
    (sym c.with_files.ensures.opened)
    (anew_begun c.args.config.now (g.F.Folder.lineage c.args.folder) _ _ _ b.origin
    new moment is
    (λ one other.
    let newest = c.into_files-newest.ensures.newest in
    let spare = c.into_files-newest.ensures.other in
    let shut = c.in_ok-start.ensures.shut (
      subst (λ d. IsTrue (g.F.File.Disk.is_clean d)) newest one,
      subst
          (λ d. IsTrue (g.F.File.Disk.is_clean d)) spare other,
    )
    empty.0 empty.1 in (
      subst (λ d. IsShut (g.F.File.Disk.seen d)) (sym newest) shut.0,
      subst
          (λ d. IsShut (g.F.File.Disk.seen d)) (sym spare) shut.1,
    )))))

pub returns-in-Anew-clause-numbered : goal.returns-in-Anew-clause-numbered
returns-in-Anew-clause-numbered g c =
    of_two c.anew.result c.anew.ensures.store c.anew.ensures.moment (λ b store moment.
    subst (λ s. IsNumbered {D = _} {g = g.F.File.Disk} s.number s.opened) (sym store)
    (numbered_from c.with_files.result.opened c.into_files-newest.result.0
    c.into_files-newest.result.1
    c.in_ok-start.start.newest c.in_ok-start.start.newest c.in_ok-start.start.other
    c.with_files.result.number c.in_ok-start.start.number c.with_files.ensures.opened
    c.into_files-newest.ensures.newest c.into_files-newest.ensures.other
    (c.with_files.ensures.number ∙ c.new-store.ensures.number ∙ c.next_number.ensures) refl
    (λ clean. clean)
    c.in_ok-start.ensures.above c.in_ok-start.ensures.next))
