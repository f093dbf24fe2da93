-- The control centre's side of a gateway: the connection's session, the octets of a frame that
-- isn't whole, and the pieces that go up; and what each thing that happens makes of them (IEC
-- 60870-5-104, 5).
use Rattle.std.specs.Prelude.{◌≡◌, ℕ, is_some, true, List, [], length, Option, Some, None}
use Rattle.apci.specs.declared.apdu.Apdu.{Apdu}
use Rattle.apci.specs.declared.apdu.Apdu.TheVariants.{I}
use Rattle.session.specs.declared.kinds.FrameOrigin.TheVariants.{Queue as FromQueue, Own}
use Rattle.session.specs.Session as session
use Rattle.session.specs.Session.{Session, from_queue}
use Rattle.session.specs.Runs.{Settings}
use Rattle.events.specs.Queue as queue
use Rattle.events.specs.Queue.{Queue}

pub record Centre : Type 0 where
  pub session : Session
  -- the octets of a frame that isn't whole
  pub so_far : Option (List ℕ)
  -- the frame that came in pieces, is whole and isn't taken yet
  pub arrived : Option Apdu
  -- the pieces that no connection has acknowledged
  pub queue : Queue

-- The pieces sent are those that the session counts as the queue's; and the assembler isn't deaf.
pub record IsWhole (s : Session) (so_far : Option (List ℕ)) (q : Queue) : Type 0 where
  pub counted : from_queue s.unacknowledged ≡ length q.sent
  pub listens : is_some so_far ≡ true

abbrev pub first_centre : Settings → (places : ℕ) → Centre
first_centre p places =
    record {
      session = session.new_session p.k p.w p.t1 p.t2 p.t3;
      so_far = Some [];
      arrived = None;
      queue = queue.empty places;
    }

-- no connection: all kept pieces are unsent again
abbrev pub closed : Centre → Centre
closed s = record {
  session = session.closed s.session;
  so_far = Some [];
  arrived = None;
  queue = queue.rewound s.queue;
}

abbrev pub opened : (at : ℕ) → Centre → Centre
opened at s = record s { session = session.opened at s.session }

-- the session has taken a frame, and the queue drops what it acknowledges
abbrev pub taken : Apdu → (at : ℕ) → Centre → Centre
taken frame at s = record s {
  session = session.taken frame at s.session;
  queue = queue.acknowledged (session.taken frame at s.session).acked_queue s.queue;
}

-- the pieces of a report are kept
abbrev pub pushed : List (List ℕ) → Centre → Centre
pushed pieces s = record s { queue = queue.pushed pieces s.queue }

-- the I frame that goes out next
abbrev pub next_frame : Session → List ℕ → Apdu
next_frame s asdu = I s.next_sent s.next_received (record { items = asdu })

-- the oldest unsent piece has gone out
abbrev pub piece_sent : (at : ℕ) → Centre → Centre
piece_sent at s =
    record s { session = session.sent FromQueue at s.session; queue = queue.marked_sent s.queue }

-- an own answer has gone out
abbrev pub own_sent : (at : ℕ) → Centre → Centre
own_sent at s = record s { session = session.sent Own at s.session }
