-- What contracts see of the queue, and what each call makes of it: a list with two marks, its
-- oldest piece and its first unsent one (this gateway's own profile; IEC 60870-5-104, 5.1, keeps
-- what is sent until it is acknowledged).
use Rattle.std.specs.Prelude.{ℕ, ◌-◌, List, [], ◌++◌, length, take, drop, map}
use Rattle.arrayvec.specs.ArrayVec.{ArrayVec}

-- The kept pieces, oldest first: those that were sent on the open connection, then the others.
pub record Queue : Type 0 where
  pub sent : List (List ℕ)
  pub unsent : List (List ℕ)
  pub places : ℕ

abbrev pub kept : Queue → List (List ℕ)
kept q = q.sent ++ q.unsent

abbrev pub free_places : Queue → ℕ
free_places q = q.places - length (kept q)

abbrev pub empty : ℕ → Queue
empty places = record { sent = []; unsent = []; places = places }

-- these pieces behind all others, unsent
abbrev pub pushed : List (List ℕ) → Queue → Queue
pushed pieces q = record { sent = q.sent; unsent = q.unsent ++ pieces; places = q.places }

-- the oldest unsent piece, if any, is a sent one
abbrev pub marked_sent : Queue → Queue
marked_sent q =
    record { sent = q.sent ++ take 1 q.unsent; unsent = drop 1 q.unsent; places = q.places }

-- without the n oldest
abbrev pub acknowledged : ℕ → Queue → Queue
acknowledged n q = record { sent = drop n q.sent; unsent = q.unsent; places = q.places }

-- all are unsent
abbrev pub rewound : Queue → Queue
rewound q = record { sent = []; unsent = kept q; places = q.places }

abbrev pub octets_of : List (ArrayVec ℕ) → List (List ℕ)
octets_of pieces = map (λ p. p.items) pieces

-- the kept pieces with a mark behind the sent ones
abbrev pub queue_of : List (ArrayVec ℕ) → ℕ → ℕ → Queue
queue_of pieces mark places = record {
  sent = octets_of (take mark pieces);
  unsent = octets_of (drop mark pieces);
  places = places;
}
