-- How a session is kept.
use Rattle.std.specs.Prelude.{◌<◌, ◌≤◌, length}
use Rattle.session.specs.declared.connection.Session.TheInside.{Inside}
use Rattle.session.specs.Session.{Session}

abbrev pub machine_of : Inside → Session
machine_of a = record {
  k = a.k;
  w = a.w;
  t1 = a.t1;
  t2 = a.t2;
  t3 = a.t3;
  transfer = a.transfer;
  unacknowledged = a.unacknowledged.items;
  acked_queue = a.acked_queue;
  acked_own = a.acked_own;
  next_sent = a.next_sent;
  next_received = a.next_received;
  unconfirmed = a.unconfirmed;
  unconfirmed_since = a.unconfirmed_since;
  last_frame = a.last_frame;
  test_sent = a.test_sent;
  reply = a.reply;
}

-- The room is made in new, so sending never takes memory.
pub record IsSound (a : Inside) : Type 0 where
  pub k_small : a.k < 32768
  pub within_k : length a.unacknowledged.items ≤ a.k
  pub room : a.k ≤ a.unacknowledged.capacity
  pub sent_small : a.next_sent < 32768
  pub received_small : a.next_received < 32768
