use Rattle.link.proofs.turn.StationState.wanted.Goals as goal

pub returns-in-SendCommand-clause-fits : goal.returns-in-SendCommand-clause-fits
returns-in-SendCommand-clause-fits g c = λ size held. c.command_request.ensures.fits size
