use Rattle.gateway.proofs.WholePieces.{whole_pieces}
use Rattle.gateway.proofs.laws.going_out.frames_bear_whole_pieces.Goals as goal

pub returns : goal.returns
returns c = whole_pieces (record {
  whole = c.front_is_computed.ensures.whole;
  line = c.line_keeps_the_procedures.ensures;
  logged = record {
    matches = c.giving_up_is_logged.ensures.all;
    doubted = c.giving_up_is_logged.ensures.doubted;
    reports = c.giving_up_is_logged.ensures.reports;
    gaps = c.giving_up_is_logged.ensures.gaps;
  };
})
