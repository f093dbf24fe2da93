use Rattle.state.proofs.Histories.{put_by_keeper, put_if_borne, put_on_disk, put_safely}
use Rattle.state.proofs.Histories.{put_strictly}
use Rattle.state.proofs.laws.nothing_goes_out_before_it_is_on_disk.Goals as goal

pub returns : goal.returns
returns c = record {
  safe = put_safely;
  strict = put_strictly;
  disk = put_on_disk;
  borne = put_if_borne;
  kept = put_by_keeper;
}
