use Rattle.centre.proofs.Rounds.{deaf_taken, more_taken, never_taken, whole_taken}
use Rattle.centre.proofs.desk.Desk.receive_front.Goals as goal

pub returns-in_ok-take_in-in-Whole-clause-front : goal.returns-in_ok-take_in-in-Whole-clause-front
returns-in_ok-take_in-in-Whole-clause-front g c =
    whole_taken c.args.now c.feed-taken.result.0 c.args.octets.now _ _ _ c.feed-taken.result.1
    c.feed-taken.new.self c.take.new.self c.in-Some.apdu _ c.self.view_is
    (record {
      listening = c.feed-taken.ensures.listening;
      deaf = c.feed-taken.ensures.deaf;
    })
    c.in-Whole.is c.in-Some.ensures.apdu c.take.ensures.rest c.in_ok-take_in-in-Whole.ensures

pub returns-in-More-clause-front : goal.returns-in-More-clause-front
returns-in-More-clause-front g c =
    more_taken c.args.now c.feed-taken.result.0 c.args.octets.now _ _ _ c.feed-taken.result.1
    c.feed-taken.new.self c.self.view_is
    (record {
      listening = c.feed-taken.ensures.listening;
      deaf = c.feed-taken.ensures.deaf;
    })
    c.in-More.is

pub returns-in-Never-clause-front : goal.returns-in-Never-clause-front
returns-in-Never-clause-front g c =
    never_taken c.args.now c.feed-taken.result.0 c.args.octets.now _ _ _ c.feed-taken.result.1
    c.feed-taken.new.self c.lose.new.self _ _ c.self.view_is
    (record {
      listening = c.feed-taken.ensures.listening;
      deaf = c.feed-taken.ensures.deaf;
    })
    c.in-Never.is c.lose.ensures

pub returns-in-Deaf-clause-front : goal.returns-in-Deaf-clause-front
returns-in-Deaf-clause-front g c =
    deaf_taken c.args.now c.feed-taken.result.0 c.args.octets.now _ _ _ c.feed-taken.result.1
    c.feed-taken.new.self c.lose-in-Deaf.new.self c.self.view_is
    (record {
      listening = c.feed-taken.ensures.listening;
      deaf = c.feed-taken.ensures.deaf;
    })
    c.in-Deaf.is c.lose-in-Deaf.ensures
