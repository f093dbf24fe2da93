-- Which exchange with a station bears the mark of a link that was given up (this gateway's own
-- profile).
use Rattle.std.specs.Prelude.{true, List, [], ◌∷◌}
use Rattle.link.specs.Exchanges.{Exchange}

-- the exchange, with the link given up behind it
abbrev pub given_up_behind : Exchange → Exchange
given_up_behind x = record {
  request = x.request;
  front = x.front;
  closed = x.closed;
  given_up = true;
}

-- the exchanges with a station, with its link given up behind the latest
abbrev pub latest_given_up : List Exchange → List Exchange
latest_given_up [] = []
latest_given_up (x ∷ []) = given_up_behind x ∷ []
latest_given_up (x ∷ (y ∷ ys)) = x ∷ latest_given_up (y ∷ ys)
