use Rattle.delivery.proofs.exchanges.the_line_is_its_exchanges.Goals as goal

pub returns : goal.returns
returns c = record {
  begins = c.master_matches_the_log.ensures.start;
  octets = c.master_matches_the_log.ensures.octets;
  due = c.master_matches_the_log.ensures.due;
  next = c.master_matches_the_log.ensures.next;
  octets_report = c.outcomes_bear_the_reports.ensures.octets;
  due_reports = c.outcomes_bear_the_reports.ensures.due;
  next_reports = c.outcomes_bear_the_reports.ensures.next;
  fit = c.requests_wait_their_turn.ensures.fit;
  carried = c.requests_wait_their_turn.ensures.carried;
  back = c.requests_are_read_back.ensures.whole;
  begun = c.commands_are_those_that_wait.ensures;
  answered = c.outcomes_are_answers.ensures.octets;
  silent = c.outcomes_are_answers.ensures.due;
  early = c.outcomes_are_answers.ensures.early;
  awaits = c.giving_up_is_logged.ensures.awaits;
  given_up = c.giving_up_is_logged.ensures.one;
  doubted = c.giving_up_is_logged.ensures.doubted;
  given_reports = c.giving_up_is_logged.ensures.reports;
  itself = c.the_latest_exchange_is_marked.ensures.itself;
  others = c.the_latest_exchange_is_marked.ensures.others;
}
