use Rattle.live.proofs.CallSums.{front_taken, handed_on, once_taken}
use Rattle.live.proofs.stream_laws.a_write_is_taken_where_all_its_octets_are.Goals as goal

pub returns-clause-once : goal.returns-clause-once
returns-clause-once c = once_taken

pub returns-clause-front : goal.returns-clause-front
returns-clause-front c old new octets is_taken w =
    front_taken old new octets is_taken w.front

pub returns-clause-tried : goal.returns-clause-tried
returns-clause-tried c = handed_on
