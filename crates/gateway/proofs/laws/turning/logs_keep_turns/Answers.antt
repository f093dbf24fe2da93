use Rattle.gateway.proofs.LineTurns.{turns}
use Rattle.gateway.proofs.laws.turning.logs_keep_turns.Goals as goal

pub returns : goal.returns
returns c = λ settings log rules faithful.
    turns (record {
      ends = c.turns_end.ensures.visits;
      starves = c.no_station_starves.ensures;
      first = c.commands_go_before_polls.ensures;
      bursts = c.polls_go_on.ensures;
      repeats = c.repeats_come_at_once.ensures;
      held = c.turns_go_on_behind_held_services.ensures;
      each = c.a_turn_is_one_visit.ensures;
      times = c.answers_have_their_time.ensures;
      statuses = c.statuses_follow_restarts.ensures.unsure;
      spares = c.statuses_follow_restarts.ensures.none;
    }) (record {
      line = c.line_keeps_the_procedures.ensures;
      gives_up = record {
        awaits = c.giving_up_is_logged.ensures.awaits;
        one = c.giving_up_is_logged.ensures.one;
        doubted = c.giving_up_is_logged.ensures.doubted;
      };
      for_one = record {
        done = c.giving_up_is_for_one_station.ensures.done;
        itself = c.giving_up_is_for_one_station.ensures.itself;
        others = c.giving_up_is_for_one_station.ensures.others;
        awaited = c.giving_up_is_for_one_station.ensures.awaited;
        number = c.giving_up_is_for_one_station.ensures.number;
        doubts = c.restarts_change_no_link.ensures.station;
        still = c.restarts_change_no_link.ensures.awaited;
        as_many = c.restarts_change_no_link.ensures.number;
      };
      waiting = c.commands_are_forwarded.ensures.waiting;
      stay = c.waiting_commands_stay.ensures.mirrored;
    }) settings log rules faithful
