use Rattle.segments.proofs.laws.no_file_is_written_over_but_beside_one_as_new.Goals as goal

pub returns : goal.returns
returns c newest other head text fits found backed =
    let new = backed head text fits found in (
      new.head,
      new.text,
      new.fits,
      new.found.first,
      new.found.behind,
      new.found.octets,
      new.found.sum,
      new.order,
    )
