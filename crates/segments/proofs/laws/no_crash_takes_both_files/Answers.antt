use Rattle.segments.proofs.laws.no_crash_takes_both_files.Goals as goal

pub returns : goal.returns
returns g c newest other file head text fits found backed left =
    let new = backed file left head text fits found in (
      new.head,
      new.text,
      new.fits,
      new.found.first,
      new.found.behind,
      new.found.octets,
      new.found.sum,
      new.order,
    )
