-- At most a line a second of each kind (this gateway's own profile).
use Rattle.std.specs.Io.Iter.{u64_saturate}
use Rattle.std.specs.Prelude.{ℕ, ◌+◌, ◌-◌, ◌≤◌, ◌==◌, nat_le, Bool, true, false, List, [], ◌∷◌}
use Rattle.std.specs.Prelude.{Option, Some, None, if◌then◌else◌}
use Rattle.runlog.specs.declared.limit.LeftOut.{LeftOut}
use Rattle.runlog.specs.declared.limit.Limit.{Limit}

-- none was logged yet, or the last one a second ago
abbrev pub is_free_after : Option ℕ → ℕ → Bool
is_free_after None now = true
is_free_after (Some logged) now = nat_le 1000 (now - logged)

abbrev pub is_free : Limit → ℕ → Bool
is_free limit now = is_free_after limit.logged now

-- a minute has passed since a line was logged, if one was
abbrev pub is_minute_after : Option ℕ → ℕ → Bool
is_minute_after None now = true
is_minute_after (Some logged) now = nat_le 60000 (now - logged)

-- a number that stays at the greatest of its type
abbrev pub one_more : ℕ → ℕ
one_more n = u64_saturate (n + 1)

abbrev pub none_left : LeftOut
none_left = record { count = 0; since = 0 }

-- one more is left out, and the moment of the first one stays
abbrev pub one_left : (now : ℕ) → LeftOut → LeftOut
one_left now l = record {
  count = one_more l.count;
  since = if l.count == 0 then now else l.since;
}

-- a line that is logged says how many were left out before it
abbrev pub asked_by : Bool → Limit → ℕ → Limit × Option LeftOut
asked_by true limit now = (record { logged = Some now; left_out = none_left }, Some limit.left_out)
asked_by false limit now = (record limit { left_out = one_left now limit.left_out }, None)

abbrev pub asked : Limit → ℕ → Limit × Option LeftOut
asked limit now = asked_by (is_free limit now) limit now

-- The law: of any calls

-- the moments at which lines were logged, and how many each says that were left out before it
abbrev pub logged_by : Option LeftOut → ℕ → List (ℕ × ℕ) → List (ℕ × ℕ)
logged_by None now logged = logged
logged_by (Some left_out) now logged = (now, left_out.count) ∷ logged

abbrev pub logged_in : Limit → List ℕ → List (ℕ × ℕ)
logged_in limit [] = []
logged_in limit (now ∷ moments) = logged_by (asked limit now).1 now
    (logged_in (asked limit now).0 moments)

-- each line is a second after the one before
abbrev pub IsSecondAfter : Option ℕ → ℕ → Type 0
IsSecondAfter None now = Unit {0}
IsSecondAfter (Some before) now = before + 1000 ≤ now

abbrev pub AreSecondsApart : Option ℕ → List (ℕ × ℕ) → Type 0
AreSecondsApart before [] = Unit {0}
AreSecondsApart before (line ∷ lines) = IsSecondAfter before line.0
    × AreSecondsApart (Some line.0) lines

-- how many requests these lines speak of: each of itself, and of those left out before it
abbrev pub logged_of : List (ℕ × ℕ) → ℕ
logged_of [] = 0
logged_of (line ∷ lines) = (line.1 + 1) + logged_of lines

-- how many were left out since the last line
abbrev pub left_in : Limit → List ℕ → ℕ
left_in limit [] = limit.left_out.count
left_in limit (now ∷ moments) = left_in (asked limit now).0 moments
