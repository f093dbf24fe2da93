use Rattle.delivery.proofs.NextRequests.{all_repeats, again}
use Rattle.delivery.proofs.of_the_line.unanswered_services_go_out_again.Goals as goal

pub returns : goal.returns
returns c =
    again (all_repeats c.repeats_come_at_once.ensures
    c.new_settings_keep_the_procedures.ensures.repeats)
