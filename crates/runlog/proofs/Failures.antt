-- When it is logged that the line goes, and that it is back.
use Rattle.std.proofs.Common.{◌≡◌, ℕ, ◌+◌, ◌-◌, ◌<◌, ◌≤◌, Bool, true, false, Option, Some, None}
use Rattle.std.proofs.Common.{refl, ◌⊎◌, inl, inr}
use Rattle.std.proofs.Common.{ap, ◌∙◌, ◌||◌, nat_le, arith}
use Rattle.std.specs.Prelude.{if◌then◌else◌}
use Rattle.std.specs.declared.io.ErrorKind.{ErrorKind}
use Rattle.live.specs.declared.ends.Presence.{Presence}
use Rattle.live.specs.declared.ends.Presence.TheVariants as presence
use Rattle.runlog.specs.Ends.{line_by, line_change, line_changed, line_logged, line_seen}
use Rattle.runlog.specs.Ends.{cause_of, line_seen_so, presence_noted, seen_as}
use Rattle.runlog.specs.LineLines.{IsLoggedAway, IsNotLogged, logged_at}
use Rattle.runlog.specs.Limits.{IsSecondAfter, asked_by, is_free_after, is_minute_after}
use Rattle.runlog.specs.declared.ends.LineLogged.{LineLogged}
use Rattle.runlog.specs.declared.ends.LineLogged.TheVariants as logged
use Rattle.runlog.specs.declared.ends.LineWatch.{LineWatch}
use Rattle.runlog.specs.declared.limit.Limit.{Limit}
use Rattle.runlog.specs.declared.note.LogLine.{LogLine}
use Rattle.runlog.specs.declared.note.Note.{Note}
use Rattle.runlog.specs.declared.note.Note.TheVariants as note

pub free_after : (before : Option ℕ) (now : ℕ) → IsSecondAfter before now
    → is_free_after before now ≡ true
free_after None now is = refl
free_after (Some before) now is = let le : before + 1000 ≤ now = is in grind (arith, le)

pub away_so : (cause : Option ErrorKind) (b : Bool)
    → seen_as b (presence.Away cause) ≡ presence.Away cause
away_so cause true = refl
away_so cause false = refl

-- what is asked of a limit
abbrev pub line_asked : Bool → Note → Limit → ℕ → Limit × Option LogLine
line_asked b what l now =
    if b then ((asked_by b l now).0, line_by what now (asked_by b l now).1) else (l, None)

abbrev told_away : (so : LineLogged) (what : Note) (now : ℕ) → LineWatch
    → LineWatch × Option LogLine
told_away so what now w = (
  record w { away = logged_at now; logged = so; told = cause_of w.presence },
  Some (record { moment = now; note = what; left_out = w.away.left_out }),
)

-- it is answered if a second has passed
line_of_away : (so : LineLogged) (what : Note) (now : ℕ) (w : LineWatch)
    → IsSecondAfter w.away.logged now
    → line_changed (Some (so, what)) true now w ≡ told_away so what now w
line_of_away so what now w second = ap (λ b. line_logged so (line_asked b what w.away now).1
    (record w { away = (line_asked b what w.away now).0 }))
    (free_after w.away.logged now second)

-- what that says
away_told : (p : Presence) (so : LineLogged) (what : Note) (now : ℕ) (w : LineWatch)
    (told : LineWatch × Option LogLine)
    → told ≡ told_away so what now (presence_noted p now w) → IsLoggedAway now what so w told
away_told p so what now w told e = record {
  line = ap (λ t. t.1) e;
  so_far = ap (λ t. t.0.logged) e;
  limit = ap (λ t. t.0.away) e;
  other = ap (λ t. t.0.there) e;
}

none_told : (p : Presence) (now : ℕ) (w : LineWatch) (told : LineWatch × Option LogLine)
    → told ≡ (presence_noted p now w, None) → IsNotLogged w told
none_told p now w told e = record {
  line = ap (λ t. t.1) e;
  so_far = ap (λ t. t.0.logged) e;
  away = ap (λ t. t.0.away) e;
  there = ap (λ t. t.0.there) e;
}

-- a look at which it is away, by what was logged of it last
abbrev away : Presence
away = presence.Away None

away_look : (so : LineLogged) (now : ℕ) (w : LineWatch) → w.logged ≡ so
    → line_seen away now w
    ≡ line_changed (line_change so away (is_minute_after w.away.logged now || false)) true now
    (presence_noted away now w)
away_look so now w is =
    ap (λ p. line_seen_so p now w) (away_so None w.is_receiving)
    ∙ ap (λ l. line_changed (line_change l away (is_minute_after w.away.logged now || false)) true
    now (presence_noted away now w)) is

pub lost_so : (w : LineWatch) (now : ℕ) → w.logged ≡ logged.There
    → IsSecondAfter w.away.logged now
    → IsLoggedAway now (note.LineLost None) logged.Lost w (line_seen away now w)
lost_so w now is second =
    away_told away logged.Lost (note.LineLost None) now w _
    (away_look logged.There now w is
    ∙ line_of_away logged.Lost (note.LineLost None) now (presence_noted away now w) second)

no_minute : (now before : ℕ) (o : Option ℕ) → o ≡ Some before → now < before + 60000
    → is_minute_after o now ≡ false
no_minute now before o is lt = ap (λ o. is_minute_after o now) is ∙ not_yet
  where
    not_yet : nat_le 60000 (now - before) ≡ false
    not_yet = grind (arith, lt)

pub between_so : (w : LineWatch) (now before : ℕ)
    → (w.logged ≡ logged.NotThere) ⊎ (w.logged ≡ logged.Lost) → w.away.logged ≡ Some before
    → now < before + 60000 → IsNotLogged w (line_seen away now w)
between_so w now before (inl is) last lt =
    none_told away now w _
    (away_look logged.NotThere now w is
    ∙ ap (λ m. line_changed (line_change logged.NotThere away (m || false)) true now
    (presence_noted away now w))
    (no_minute now before w.away.logged last lt))
between_so w now before (inr is) last lt =
    none_told away now w _
    (away_look logged.Lost now w is
    ∙ ap (λ m. line_changed (line_change logged.Lost away (m || false)) true now
    (presence_noted away now w))
    (no_minute now before w.away.logged last lt))
