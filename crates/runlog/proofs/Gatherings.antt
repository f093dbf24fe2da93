-- What is gathered is logged, or counted.
use Rattle.std.proofs.Common.{◌≡◌, ℕ, ◌+◌, ◌-◌, ◌^◌, ◌<◌, Bool, true, false, List, [], ◌∷◌, Option}
use Rattle.std.proofs.Common.{Some, None, min, refl, arith}
use Rattle.std.specs.Prelude.{if◌then◌else◌}
use Rattle.runlog.specs.Ends.{line_by as logged_line}
use Rattle.runlog.specs.Gathering.{GatheringCall, Add, Look, added, left_out, line_of, logged_by}
use Rattle.runlog.specs.Gathering.{lines_in}
use Rattle.runlog.specs.Gathering.{left_in, added_in, count_of, count_by, with_line}
use Rattle.runlog.specs.Limits.{is_free, asked_by, AreSecondsApart, logged_of, none_left}
use Rattle.runlog.specs.declared.gathered.Gathered.{Gathered}
use Rattle.runlog.specs.declared.limit.Limit.{Limit}
use Rattle.runlog.specs.declared.note.LogLine.{LogLine}
use Rattle.runlog.specs.declared.note.Note.{Note}
use Rattle.runlog.proofs.Seconds.{second_after}

Apart : List GatheringCall → Type 0
Apart calls = (g : Gathered) → AreSecondsApart g.limit.logged (lines_in g calls)

apart_added : (last : Option Note) (limit : Limit) (came : ℕ) (what : Note) (at : ℕ)
    (calls : List GatheringCall) → Apart calls
    → AreSecondsApart limit.logged
    (lines_in (added what at (record { limit = limit; last = last; came = came })) calls)
unfolding Apart
apart_added None limit came what at calls others =
    others (record { limit = limit; last = Some what; came = at })
apart_added (Some before) limit came what at calls others =
    others (record { limit = left_out came limit; last = Some what; came = at })

-- a line that is logged, or not
abbrev told_by : (b : Bool) → Limit → Note → (came now : ℕ) → Gathered × Option LogLine
told_by b limit what came now =
    logged_by (if b then ((asked_by b limit now).0, logged_line what now (asked_by b limit now).1)
    else (limit, None))
    (record { limit = limit; last = Some what; came = came })

apart_looked : (b : Bool) (limit : Limit) (what : Note) (came now : ℕ) (calls : List GatheringCall)
    → is_free limit now ≡ b
    → Apart calls
    → AreSecondsApart limit.logged
    (with_line (told_by b limit what came now).1 now
    (lines_in (told_by b limit what came now).0 calls))
unfolding Apart
apart_looked true limit what came now calls free others = (
  second_after limit.logged now free,
  others (record {
    limit = record { logged = Some now; left_out = none_left };
    last = None;
    came = came;
  }),
)
apart_looked false limit what came now calls free others =
    others (record { limit = limit; last = Some what; came = came })

apart_line : (last : Option Note) (limit : Limit) (came now : ℕ) (calls : List GatheringCall)
    → Apart calls
    → AreSecondsApart limit.logged
    (lines_in (record { limit = limit; last = last; came = came }) (Look now ∷ calls))
unfolding Apart
apart_line None limit came now calls others =
    others (record { limit = limit; last = None; came = came })
apart_line (Some what) limit came now calls others =
    apart_looked (is_free limit now) limit what came now calls refl others

apart_all : (calls : List GatheringCall) → Apart calls
unfolding Apart
apart_all [] g = tt
apart_all (Add what at ∷ calls) g =
    apart_added g.last g.limit g.came what at calls (apart_all calls)
apart_all (Look now ∷ calls) g = apart_line g.last g.limit g.came now calls (apart_all calls)

pub apart : (calls : List GatheringCall) (g : Gathered)
    → AreSecondsApart g.limit.logged (lines_in g calls)
unfolding Apart
apart calls g = apart_all calls g

-- ---- each is logged, or counted

Counted : List GatheringCall → Type 0
Counted calls = (g : Gathered) → count_of g + added_in calls < 2 ^ 64
    → logged_of (lines_in g calls) + count_of (left_in g calls) ≡ count_of g + added_in calls

no_more_than : (n m : ℕ) → (n + 1) + (m + 1) < 2 ^ 64 → min (n + 1) (2 ^ 64 - 1) ≡ n + 1
no_more_than n m small = grind (arith, small)

counted_added : (last : Option Note) (limit : Limit) (came : ℕ) (what : Note) (at : ℕ)
    (calls : List GatheringCall)
    → count_by last limit.left_out.count + (added_in calls + 1) < 2 ^ 64 → Counted calls
    → logged_of
    (lines_in (added what at (record { limit = limit; last = last; came = came })) calls)
    + count_of (left_in (added what at (record { limit = limit; last = last; came = came })) calls)
    ≡ count_by last limit.left_out.count + (added_in calls + 1)
unfolding Counted
counted_added None limit came what at calls small others =
    let rest = others (record { limit = limit; last = Some what; came = at })
    (omega (arith, small)) in
    omega (arith, rest)
counted_added (Some before) limit came what at calls small others =
    let more = no_more_than limit.left_out.count (added_in calls) small in
    let rest = others (record { limit = left_out came limit; last = Some what; came = at })
    (omega (arith, small, more)) in
    omega (arith, rest, more)

counted_looked : (b : Bool) (limit : Limit) (what : Note) (came now : ℕ)
    (calls : List GatheringCall) → is_free limit now ≡ b
    → (limit.left_out.count + 1) + added_in calls < 2 ^ 64 → Counted calls
    → logged_of
    (with_line (told_by b limit what came now).1 now
    (lines_in (told_by b limit what came now).0 calls))
    + count_of (left_in (told_by b limit what came now).0 calls)
    ≡ (limit.left_out.count + 1) + added_in calls
unfolding Counted
counted_looked true limit what came now calls free small others =
    let rest = others (record {
      limit = record { logged = Some now; left_out = none_left };
      last = None;
      came = came;
    })
    (omega (arith, small)) in
    omega (arith, rest)
counted_looked false limit what came now calls free small others =
    others (record { limit = limit; last = Some what; came = came }) small

counted_line : (last : Option Note) (limit : Limit) (came now : ℕ) (calls : List GatheringCall)
    → count_by last limit.left_out.count + added_in calls < 2 ^ 64 → Counted calls
    → logged_of (lines_in (record { limit = limit; last = last; came = came }) (Look now ∷ calls))
    + count_of (left_in (record { limit = limit; last = last; came = came }) (Look now ∷ calls))
    ≡ count_by last limit.left_out.count + added_in calls
unfolding Counted
counted_line None limit came now calls small others =
    others (record { limit = limit; last = None; came = came }) small
counted_line (Some what) limit came now calls small others =
    counted_looked (is_free limit now) limit what came now calls refl small others

counted_all : (calls : List GatheringCall) → Counted calls
unfolding Counted
counted_all [] g small = omega arith
counted_all (Add what at ∷ calls) g small =
    counted_added g.last g.limit g.came what at calls small (counted_all calls)
counted_all (Look now ∷ calls) g small =
    counted_line g.last g.limit g.came now calls small (counted_all calls)

pub counted : (calls : List GatheringCall) (g : Gathered) → count_of g + added_in calls < 2 ^ 64
    → logged_of (lines_in g calls) + count_of (left_in g calls) ≡ count_of g + added_in calls
unfolding Counted
counted calls g small = counted_all calls g small

-- ---- the last that came is logged once a second has passed

logged_by_last : (last : Option Note) (limit : Limit) (came : ℕ) (what : Note) (at now : ℕ)
    → is_free limit now ≡ true
    → (line_of now (added what at (record { limit = limit; last = last; came = came }))).1
    ≡ Some (record {
      moment = at;
      note = what;
      left_out =
          (added what at (record { limit = limit; last = last; came = came })).limit.left_out;
    })
logged_by_last None limit came what at now free = rw free refl
logged_by_last (Some before) limit came what at now free = rw free refl

pub logged : (g : Gathered) (what : Note) (at now : ℕ) → is_free g.limit now ≡ true
    → (line_of now (added what at g)).1 ≡ Some (record {
      moment = at;
      note = what;
      left_out = (added what at g).limit.left_out;
    })
logged g what at now free = logged_by_last g.last g.limit g.came what at now free
