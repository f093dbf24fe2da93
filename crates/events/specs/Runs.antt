-- The queue under a list of calls, newest first, and what they must leave: what was pushed and
-- isn't acknowledged, in its order (IEC 60870-5-104, 5.1, keeps what is sent until it is
-- acknowledged; the rest is this gateway's own profile).
use Rattle.std.specs.Prelude.{◌≡◌, ℕ, suc, ◌+◌, ◌-◌, ◌<◌, ◌≤◌, List, [], ◌∷◌, ◌++◌, length, drop, ⊤}
use Rattle.events.specs.Queue.{Queue, kept, free_places, empty, pushed, marked_sent, acknowledged}
use Rattle.events.specs.Queue.{rewound}

-- the calls that change a queue
pub data Call : Type 0 where
  Push : List (List ℕ) → Call
  MarkSent : Call
  Acknowledge : ℕ → Call
  Rewind : Call

abbrev pub after_call : Call → Queue → Queue
after_call (Push pieces) q = pushed pieces q
after_call MarkSent q = marked_sent q
after_call (Acknowledge n) q = acknowledged n q
after_call Rewind q = rewound q

-- the calls, one after another, from `new` on
abbrev pub run : (places : ℕ) → List Call → Queue
run places [] = empty places
run places (call ∷ earlier) = after_call call (run places earlier)

-- what a call asks for
abbrev pub MayCome : Call → Queue → Type 0
MayCome (Push pieces) q = length pieces ≤ free_places q
MayCome MarkSent q = 0 < length q.unsent
MayCome (Acknowledge n) q = n ≤ length q.sent
MayCome Rewind q = ⊤

abbrev pub AreMade : (places : ℕ) → List Call → Type 0
AreMade places [] = ⊤
AreMade places (call ∷ earlier) = MayCome call (run places earlier) × AreMade places earlier

-- all pieces that were pushed, oldest first
abbrev pub all_pushed : List Call → List (List ℕ)
all_pushed [] = []
all_pushed (Push pieces ∷ earlier) = all_pushed earlier ++ pieces
all_pushed (_ ∷ earlier) = all_pushed earlier

-- how many of them were acknowledged
abbrev pub acknowledged_count : List Call → ℕ
acknowledged_count [] = 0
acknowledged_count (Acknowledge n ∷ earlier) = acknowledged_count earlier + n
acknowledged_count (_ ∷ earlier) = acknowledged_count earlier

-- how many were sent since the latest rewind, and weren't acknowledged since
abbrev pub sent_count : List Call → ℕ
sent_count [] = 0
sent_count (MarkSent ∷ earlier) = suc (sent_count earlier)
sent_count (Acknowledge n ∷ earlier) = sent_count earlier - n
sent_count (Rewind ∷ earlier) = 0
sent_count (Push pieces ∷ earlier) = sent_count earlier

-- Kept is what was pushed but for the acknowledged pieces, which were the oldest; of it the oldest
-- are the sent ones. So what goes out next is one pushed piece, as it was pushed: the one behind
-- all that are acknowledged or sent. A place is taken by a piece that isn't acknowledged, and free
-- else, so there are never more pieces than places.
pub record KeepsAll (places : ℕ) (calls : List Call) : Type 0 where
  pub pieces : kept (run places calls) ≡ drop (acknowledged_count calls) (all_pushed calls)
  pub sent : length (run places calls).sent ≡ sent_count calls
  pub unsent : (run places calls).unsent
      ≡ drop (acknowledged_count calls + sent_count calls) (all_pushed calls)
  pub room : length (kept (run places calls)) ≤ places
  pub free : free_places (run places calls)
      ≡ places - (length (all_pushed calls) - acknowledged_count calls)
