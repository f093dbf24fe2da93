use Rattle.runlog.proofs.Books.{action_followed, event_followed, latest_each, look_followed}
use Rattle.runlog.proofs.befallen_laws.what_passes_is_known_and_logged.Goals as goal

pub returns-clause-event : goal.returns-clause-event
returns-clause-event c = event_followed

pub returns-clause-action : goal.returns-clause-action
returns-clause-action c = action_followed

pub returns-clause-look : goal.returns-clause-look
returns-clause-look c = look_followed

pub returns-clause-latest : goal.returns-clause-latest
returns-clause-latest c = latest_each
