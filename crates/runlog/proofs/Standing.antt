-- How a station stands, by what was asked of it.
use Rattle.std.proofs.Common.{◌≡◌, ℕ, suc, ◌+◌, ◌-◌, ◌^◌, ◌<◌, ◌≤◌, Bool, true, false, List, []}
use Rattle.std.proofs.Common.{◌∷◌}
use Rattle.std.proofs.Common.{length, Option, Some, None, refl, sym, ap, ◌∙◌, nat_lt, min}
use Rattle.std.proofs.Common.{arith}
use Rattle.std.specs.Prelude.{if◌then◌else◌, is_none, is_some, ◌==◌}
use Rattle.std.specs.Bool.{beq}
use Rattle.std.specs.List.{AllByRecursion}
use Rattle.runlog.specs.Ends.{changed}
use Rattle.runlog.specs.Limits.{one_more, is_minute_after}
use Rattle.runlog.specs.Standings.{after, is_alike, latest_bit, link_so, missed, stands}
use Rattle.runlog.specs.Standings.{stands_by, tells, telling, times}
use Rattle.runlog.specs.Stations.{again_by, answers_by, asked_by, counted, counting, first_by}
use Rattle.runlog.specs.Stations.{is_again, is_other, is_same, is_unanswered, link_asked}
use Rattle.runlog.specs.Stations.{logged_down, logged_up, new_station, reset_by}
use Rattle.runlog.specs.Stations.{service_by, silent_by, standing_by, standing_of, station_asked}
use Rattle.runlog.specs.Stations.{station_logged, status_by, still_by, unanswered_by, unserved_by}
use Rattle.runlog.specs.Stations.{unserved_if}
use Rattle.runlog.specs.declared.note.LogLine.{LogLine}
use Rattle.runlog.specs.declared.note.Note.TheVariants as note
use Rattle.runlog.specs.declared.stations.Asking.{Asking}
use Rattle.runlog.specs.declared.stations.Asking.TheVariants.{Status, Reset, Counted}
use Rattle.runlog.specs.declared.stations.Asking.TheVariants.{Other, Missed}
use Rattle.runlog.specs.declared.stations.LinkKnown.{LinkKnown}
use Rattle.runlog.specs.declared.stations.LinkKnown.TheVariants as known
use Rattle.runlog.specs.declared.stations.StationLogged.{StationLogged}
use Rattle.runlog.specs.declared.stations.StationLogged.TheVariants as logged
use Rattle.runlog.specs.declared.stations.StationStanding.{StationStanding}
use Rattle.runlog.specs.declared.stations.StationStanding.TheVariants as standing
use Rattle.runlog.specs.declared.stations.StationWatch.{StationWatch}

-- ---- What is logged says nothing of how it stands

-- whose it is, and how it stands
record Shown : Type 0 where
  address : ℕ
  tries : ℕ
  bit : Option Bool
  sent : ℕ
  served : Option Bool
  link : LinkKnown
  since : ℕ
  gaps : ℕ

abbrev shown : StationWatch → Shown
shown w = record {
  address = w.address;
  tries = w.tries;
  bit = w.bit;
  sent = w.sent;
  served = w.served;
  link = w.link;
  since = w.since;
  gaps = w.gaps;
}

line_kept : (so : StationLogged) (line : Option LogLine) (w : StationWatch)
    → shown (station_logged so line w).0 ≡ shown w
line_kept so None w = refl
line_kept so (Some line) w = refl

silent_kept : (is_so : Bool) (so : StationLogged) (now : ℕ) (w : StationWatch)
    → shown (silent_by is_so so now w).0 ≡ shown w
silent_kept false so now w = refl
silent_kept true so now w = let x = changed (note.Silent w.address) w.silent now in
    line_kept so x.1 (record w { silent = x.0 })

unanswered_kept : (is_so : Bool) (now : ℕ) (w : StationWatch)
    → shown (unanswered_by is_so now w).0 ≡ shown w
unanswered_kept true now w =
    silent_kept (is_minute_after w.silent.logged now) logged.Unanswered now w
unanswered_kept false now w = refl

still_kept : (is_so : Bool) (so : StationLogged) (now : ℕ) (w : StationWatch)
    → shown (still_by is_so so now w).0 ≡ shown w
still_kept false so now w = refl
still_kept true so now w = let x = changed (note.StillSilent w.address) w.silent now in
    line_kept so x.1 (record w { silent = x.0 })

answers_kept : (link : LinkKnown) (now : ℕ) (w : StationWatch)
    → shown (answers_by link now w).0 ≡ shown w
answers_kept known.Nothing now w = refl
answers_kept known.Up now w = let x = changed (note.Again w.address) w.again now in
    line_kept logged.Up x.1 (record w { again = x.0 })
answers_kept known.Down now w = refl

again_kept : (is_so : Bool) (link : LinkKnown) (now : ℕ) (w : StationWatch)
    → shown (again_by is_so link now w).0 ≡ shown w
again_kept true link now w =
    still_kept (is_minute_after w.silent.logged now) logged.Silent now w
again_kept false link now w = answers_kept link now w

up_kept : (now : ℕ) (w : StationWatch) → shown (logged_up now w).0 ≡ shown w
up_kept now w = let x = changed (note.Up w.address) w.up now in
    line_kept logged.Up x.1 (record w { up = x.0 })

down_kept : (now : ℕ) (w : StationWatch) → shown (logged_down now w).0 ≡ shown w
down_kept now w = let x = changed (note.Down w.address) w.down now in
    line_kept logged.Down x.1 (record w { down = x.0 })

unserved_kept : (so : StationLogged) (now : ℕ) (w : StationWatch)
    → shown (unserved_by so now w).0 ≡ shown w
unserved_kept logged.Unanswered now w =
    still_kept (is_minute_after w.silent.logged now) logged.Unanswered now w
unserved_kept logged.Nothing now w = silent_kept true logged.Unanswered now w
unserved_kept logged.Asked now w = silent_kept true logged.Unanswered now w
unserved_kept logged.Up now w = silent_kept true logged.Unanswered now w
unserved_kept logged.Silent now w = silent_kept true logged.Unanswered now w
unserved_kept logged.Down now w = silent_kept true logged.Unanswered now w

unserved_if_kept : (is_so : Bool) (now : ℕ) (w : StationWatch)
    → shown (unserved_if is_so now w).0 ≡ shown w
unserved_if_kept true now w = unserved_kept w.logged now w
unserved_if_kept false now w = refl

first_kept : (link : LinkKnown) (is_so : Bool) (now : ℕ) (w : StationWatch)
    → shown (first_by link is_so now w).0 ≡ shown w
first_kept known.Up is_so now w = up_kept now w
first_kept known.Nothing is_so now w = unserved_if_kept is_so now w
first_kept known.Down is_so now w = unserved_if_kept is_so now w

status_kept : (so : StationLogged) (now : ℕ) (w : StationWatch)
    → shown (status_by so now w).0 ≡ shown w
status_kept logged.Nothing now w = let x = changed (note.Asked w.address) w.asked now in
    line_kept logged.Asked x.1 (record w { asked = x.0 })
status_kept logged.Asked now w = silent_kept (is_unanswered w) logged.Unanswered now w
status_kept logged.Down now w = silent_kept (is_unanswered w) logged.Unanswered now w
status_kept logged.Unanswered now w = unanswered_kept (is_unanswered w) now w
status_kept logged.Up now w = down_kept now w
status_kept logged.Silent now w = down_kept now w

service_kept : (so : StationLogged) (now : ℕ) (w : StationWatch)
    → shown (service_by so now w).0 ≡ shown w
service_kept logged.Up now w = silent_kept (is_unanswered w) logged.Silent now w
service_kept logged.Silent now w = again_kept (is_unanswered w) w.link now w
service_kept logged.Nothing now w = first_kept w.link (is_unanswered w) now w
service_kept logged.Asked now w = first_kept w.link (is_unanswered w) now w
service_kept logged.Down now w = first_kept w.link (is_unanswered w) now w
service_kept logged.Unanswered now w = first_kept w.link (is_unanswered w) now w

reset_kept : (was is : LinkKnown) (now : ℕ) (w : StationWatch)
    → shown (reset_by was is now w).0 ≡ shown w
reset_kept known.Nothing known.Nothing now w = refl
reset_kept known.Nothing known.Up now w = refl
reset_kept known.Nothing known.Down now w = down_kept now w
reset_kept known.Up is now w = refl
reset_kept known.Down is now w = refl

by_kept : (asking : Asking) (was : LinkKnown) (now : ℕ) (w : StationWatch)
    → shown (asked_by asking was now w).0 ≡ shown w
by_kept Status was now w = status_kept w.logged now w
by_kept Reset was now w = reset_kept was w.link now w
by_kept (Counted bit) was now w = service_kept w.logged now w
by_kept Missed was now w = refl
by_kept Other was now w = refl

asked_kept : (asking : Asking) (now : ℕ) (w : StationWatch)
    → shown (station_asked asking now w).0 ≡ shown (counted asking now w)
asked_kept asking now w = by_kept asking w.link now (counted asking now w)

counting_address : (asking : Asking) (w : StationWatch) → (counting asking w).address ≡ w.address
counting_address Status w = refl
counting_address (Counted bit) w = refl
counting_address Reset w = refl
counting_address Other w = refl
counting_address Missed w = refl

pub address_stays : (asking : Asking) (now : ℕ) (w : StationWatch)
    → (station_asked asking now w).0.address ≡ w.address
address_stays asking now w =
    ap (λ s. s.address) (asked_kept asking now w) ∙ counting_address asking w

counting_tries : (asking : Asking) (w : StationWatch) → (counting asking w).tries ≡ w.tries
counting_tries Status w = refl
counting_tries (Counted bit) w = refl
counting_tries Reset w = refl
counting_tries Other w = refl
counting_tries Missed w = refl

pub tries_stay : (asking : Asking) (now : ℕ) (w : StationWatch)
    → (station_asked asking now w).0.tries ≡ w.tries
tries_stay asking now w =
    ap (λ s. s.tries) (asked_kept asking now w) ∙ counting_tries asking w

pub address_kept : (w : StationWatch) (xs : List (ℕ × Asking)) → (after w xs).address ≡ w.address
address_kept w [] = refl
address_kept w (x ∷ xs) = address_stays x.1 x.0 (after w xs) ∙ address_kept w xs

-- ---- Since when

counting_since : (asking : Asking) (w : StationWatch) → (counting asking w).since ≡ w.since
counting_since Status w = refl
counting_since (Counted bit) w = refl
counting_since Reset w = refl
counting_since Other w = refl
counting_since Missed w = refl

same_standing : (a b : StationStanding) → is_same a b ≡ true → a ≡ b
same_standing standing.NotAsked standing.NotAsked is = refl
same_standing standing.NotAsked standing.Asked is = absurd (cc)
same_standing standing.NotAsked standing.Up is = absurd (cc)
same_standing standing.NotAsked standing.Silent is = absurd (cc)
same_standing standing.NotAsked standing.Down is = absurd (cc)
same_standing standing.Asked standing.NotAsked is = absurd (cc)
same_standing standing.Asked standing.Asked is = refl
same_standing standing.Asked standing.Up is = absurd (cc)
same_standing standing.Asked standing.Silent is = absurd (cc)
same_standing standing.Asked standing.Down is = absurd (cc)
same_standing standing.Up standing.NotAsked is = absurd (cc)
same_standing standing.Up standing.Asked is = absurd (cc)
same_standing standing.Up standing.Up is = refl
same_standing standing.Up standing.Silent is = absurd (cc)
same_standing standing.Up standing.Down is = absurd (cc)
same_standing standing.Silent standing.NotAsked is = absurd (cc)
same_standing standing.Silent standing.Asked is = absurd (cc)
same_standing standing.Silent standing.Up is = absurd (cc)
same_standing standing.Silent standing.Silent is = refl
same_standing standing.Silent standing.Down is = absurd (cc)
same_standing standing.Down standing.NotAsked is = absurd (cc)
same_standing standing.Down standing.Asked is = absurd (cc)
same_standing standing.Down standing.Up is = absurd (cc)
same_standing standing.Down standing.Silent is = absurd (cc)
same_standing standing.Down standing.Down is = refl

is_same_self : (a : StationStanding) → is_same a a ≡ true
is_same_self standing.NotAsked = refl
is_same_self standing.Asked = refl
is_same_self standing.Up = refl
is_same_self standing.Silent = refl
is_same_self standing.Down = refl

-- it stands behind a request as it was counted
standing_kept : (asking : Asking) (now : ℕ) (w : StationWatch)
    → standing_of (station_asked asking now w).0 ≡ standing_of (counting asking w)
standing_kept asking now w = ap stand (asked_kept asking now w)
  where
    stand : Shown → StationStanding
    stand s =
        if s.sent == 0 then standing.NotAsked
        else if nat_lt s.tries s.sent then standing.Silent
        else standing_by s.link

since_by : (b : Bool) (old now since : ℕ) → b ≡ true → since ≡ old
    → (if b then since else now) ≡ old
since_by true old now since is same = same
since_by false old now since is same = absurd (cc)

pub still_since : (w : StationWatch) (asking : Asking) (now : ℕ)
    → standing_of (station_asked asking now w).0 ≡ standing_of w
    → (station_asked asking now w).0.since ≡ w.since
still_since w asking now same =
    ap (λ s. s.since) (asked_kept asking now w)
    ∙ since_by (is_same (standing_of w) (standing_of (counting asking w))) w.since now
    (counting asking w).since
    (ap (is_same (standing_of w)) (sym (standing_kept asking now w) ∙ same)
    ∙ is_same_self (standing_of w)) (counting_since asking w)

changed_by : (b : Bool) (now since : ℕ) → (b ≡ true → ⊥) → (if b then since else now) ≡ now
changed_by true now since not = absurd (not refl)
changed_by false now since not = refl

pub since_now : (w : StationWatch) (asking : Asking) (now : ℕ)
    → (standing_of (station_asked asking now w).0 ≡ standing_of w → ⊥)
    → (station_asked asking now w).0.since ≡ now
since_now w asking now other =
    ap (λ s. s.since) (asked_kept asking now w)
    ∙ changed_by (is_same (standing_of w) (standing_of (counting asking w))) now
    (counting asking w).since
    (λ is. other (standing_kept asking now w
    ∙ sym (same_standing (standing_of w) (standing_of (counting asking w)) is)))

-- ---- How it stands

-- the bit of the latest service, if none asked for the status since
abbrev bit_of : List Asking → Option Bool
bit_of (Counted bit ∷ earlier) = Some bit
bit_of earlier = None

-- the counts of a watch are those of what was asked
record Counts (most : ℕ) (xs : List (ℕ × Asking)) (w : StationWatch) : Type 0 where
  tries : w.tries ≡ most
  bit : w.bit ≡ bit_of (telling xs)
  sent : w.sent ≡ times (telling xs)
  served : w.served ≡ latest_bit xs
  link : w.link ≡ link_so xs
  gaps : w.gaps ≡ missed xs

times_few : (rs : List Asking) → times rs ≤ length rs
times_few [] = omega arith
times_few (a ∷ []) = omega arith
times_few (a ∷ (b ∷ rs)) = by (is_alike a b) (times_few (b ∷ rs))
  where
    by : (so : Bool) → times (b ∷ rs) ≤ length (b ∷ rs)
        → (if so then times (b ∷ rs) + 1 else 1) ≤ suc (length (b ∷ rs))
    by true few = omega (arith, few)
    by false few = omega arith

tell_few : (xs : List (ℕ × Asking)) → length (telling xs) ≤ length xs
tell_few [] = omega arith
tell_few ((now, Status) ∷ xs) = let few = tell_few xs in omega (arith, few)
tell_few ((now, Counted bit) ∷ xs) = let few = tell_few xs in omega (arith, few)
tell_few ((now, Reset) ∷ xs) = let few = tell_few xs in omega (arith, few)
tell_few ((now, Other) ∷ xs) = let few = tell_few xs in omega (arith, few)
tell_few ((now, Missed) ∷ xs) = let few = tell_few xs in omega (arith, few)

missed_few : (xs : List (ℕ × Asking)) → missed xs ≤ length xs
missed_few [] = omega arith
missed_few ((now, Status) ∷ xs) = let few = missed_few xs in omega (arith, few)
missed_few ((now, Counted bit) ∷ xs) = let few = missed_few xs in omega (arith, few)
missed_few ((now, Reset) ∷ xs) = let few = missed_few xs in omega (arith, few)
missed_few ((now, Other) ∷ xs) = let few = missed_few xs in omega (arith, few)
missed_few ((now, Missed) ∷ xs) = let few = missed_few xs in omega (arith, few)

one_more_is : (n bound : ℕ) → n ≤ bound → suc bound < 2 ^ 64 → one_more n ≡ n + 1
one_more_is n bound few small =
    let e : min (n + 1) (2 ^ 64 - 1) ≡ n + 1 = grind (arith, few, small) in e

-- how often a service has gone out
service_times : (bit : Bool) (rs : List Asking) (bound : ℕ) → times rs ≤ bound → suc bound < 2 ^ 64
    → (if is_again (bit_of rs) bit then one_more (times rs) else 1) ≡ times (Counted bit ∷ rs)
service_times bit [] bound few small = refl
service_times bit (Counted before ∷ rs) bound few small =
    by (beq before bit) (one_more_is (times (Counted before ∷ rs)) bound few small)
  where
    by : (so : Bool) → one_more (times (Counted before ∷ rs)) ≡ times (Counted before ∷ rs) + 1
        → (if so then one_more (times (Counted before ∷ rs)) else 1)
        ≡ (if so then times (Counted before ∷ rs) + 1 else 1)
    by true more = more
    by false more = refl
service_times bit (Status ∷ rs) bound few small = refl
service_times bit (Reset ∷ rs) bound few small = refl
service_times bit (Other ∷ rs) bound few small = refl
service_times bit (Missed ∷ rs) bound few small = refl

-- and how often the status was asked
status_times : (rs : List Asking) (bound : ℕ) → times rs ≤ bound → suc bound < 2 ^ 64
    → AllByRecursion (λ (a : Asking). tells a ≡ true) rs
    → (if is_none (bit_of rs) then one_more (times rs) else 1) ≡ times (Status ∷ rs)
status_times [] bound few small all = refl
status_times (Counted before ∷ rs) bound few small all = refl
status_times (Status ∷ rs) bound few small all = one_more_is (times (Status ∷ rs)) bound few small
status_times (Reset ∷ rs) bound few small all = absurd (cc)
status_times (Other ∷ rs) bound few small all = absurd (cc)
status_times (Missed ∷ rs) bound few small all = absurd (cc)

all_tell : (xs : List (ℕ × Asking)) → AllByRecursion (λ (a : Asking). tells a ≡ true) (telling xs)
all_tell [] = tt
all_tell ((now, Status) ∷ xs) = (refl, all_tell xs)
all_tell ((now, Counted bit) ∷ xs) = (refl, all_tell xs)
all_tell ((now, Reset) ∷ xs) = all_tell xs
all_tell ((now, Other) ∷ xs) = all_tell xs
all_tell ((now, Missed) ∷ xs) = all_tell xs

-- what is counted of a station behind one more request
next_counts : (tries now : ℕ) (asking : Asking) (xs : List (ℕ × Asking)) (w : StationWatch)
    → suc (length xs) < 2 ^ 64 → Counts tries xs w
    → Counts tries ((now, asking) ∷ xs) (counting asking w)
next_counts tries now (Counted bit) xs w small c = record {
  tries = c.tries;
  bit = refl;
  sent = ap (λ b. if is_again b bit then one_more w.sent else 1) c.bit
      ∙ ap (λ n. if is_again (bit_of (telling xs)) bit then one_more n else 1) c.sent
      ∙ service_times bit (telling xs) (length xs)
      (let a = times_few (telling xs) in let b = tell_few xs in omega (arith, a, b)) small;
  served = refl;
  link = ap (λ b. if is_other b bit then known.Up else w.link) c.served
      ∙ ap (λ l. if is_other (latest_bit xs) bit then known.Up else l) c.link;
  gaps = c.gaps;
}
next_counts tries now Status xs w small c = record {
  tries = c.tries;
  bit = refl;
  sent = ap (λ b. if is_none b then one_more w.sent else 1) c.bit
      ∙ ap (λ n. if is_none (bit_of (telling xs)) then one_more n else 1) c.sent
      ∙ status_times (telling xs) (length xs)
      (let a = times_few (telling xs) in let b = tell_few xs in omega (arith, a, b)) small
      (all_tell xs);
  served = c.served;
  link = ap link_asked c.link;
  gaps = c.gaps;
}
next_counts tries now Reset xs w small c = record {
  tries = c.tries;
  bit = c.bit;
  sent = c.sent;
  served = refl;
  link = ap (λ b. if is_some b then known.Down else w.link) c.served
      ∙ ap (λ l. if is_some (latest_bit xs) then known.Down else l) c.link;
  gaps = c.gaps;
}
next_counts tries now Other xs w small c = record {
  tries = c.tries;
  bit = c.bit;
  sent = c.sent;
  served = c.served;
  link = c.link;
  gaps = c.gaps;
}
next_counts tries now Missed xs w small c = record {
  tries = c.tries;
  bit = c.bit;
  sent = c.sent;
  served = c.served;
  link = c.link;
  gaps = ap one_more c.gaps ∙ one_more_is (missed xs) (length xs) (missed_few xs) small;
}

all_counts : (tries address : ℕ) (xs : List (ℕ × Asking)) → length xs < 2 ^ 64
    → Counts tries xs (after (new_station tries address) xs)
all_counts tries address [] small = record {
  tries = refl;
  bit = refl;
  sent = refl;
  served = refl;
  link = refl;
  gaps = refl;
}
all_counts tries address ((now, asking) ∷ xs) small =
    let w = after (new_station tries address) xs in
    let c = next_counts tries now asking xs w small
    (all_counts tries address xs (omega (arith, small))) in
    let k = asked_kept asking now w in record {
      tries = ap (λ s. s.tries) k ∙ c.tries;
      bit = ap (λ s. s.bit) k ∙ c.bit;
      sent = ap (λ s. s.sent) k ∙ c.sent;
      served = ap (λ s. s.served) k ∙ c.served;
      link = ap (λ s. s.link) k ∙ c.link;
      gaps = ap (λ s. s.gaps) k ∙ c.gaps;
    }

pub gaps_counted : (tries address : ℕ) (xs : List (ℕ × Asking)) → length xs < 2 ^ 64
    → (after (new_station tries address) xs).gaps ≡ missed xs
gaps_counted tries address xs small = (all_counts tries address xs small).gaps

abbrev stand_as : (tries sent : ℕ) (link : LinkKnown) → StationStanding
stand_as tries sent link =
    if sent == 0 then standing.NotAsked
    else if nat_lt tries sent then standing.Silent else standing_by link

times_some : (a : Asking) (rs : List Asking) → (times (a ∷ rs) == 0) ≡ false
times_some a [] = refl
times_some a (b ∷ rs) = by (is_alike a b)
  where
    by : (so : Bool) → ((if so then times (b ∷ rs) + 1 else 1) == 0) ≡ false
    by true = grind arith
    by false = refl

stands_so : (tries : ℕ) (rs : List Asking) (link : LinkKnown)
    → stand_as tries (times rs) link ≡ stands_by tries rs link
stands_so tries [] link = refl
stands_so tries (a ∷ rs) link =
    ap (λ b. if b then standing.NotAsked
    else if nat_lt tries (times (a ∷ rs)) then standing.Silent else standing_by link)
    (times_some a rs)

pub stands_by_requests : (tries address : ℕ) (xs : List (ℕ × Asking)) → length xs < 2 ^ 64
    → standing_of (after (new_station tries address) xs) ≡ stands tries xs
stands_by_requests tries address xs small =
    let c = all_counts tries address xs small in
    let w = after (new_station tries address) xs in
    ap (λ n. stand_as n w.sent w.link) c.tries
    ∙ ap (λ n. stand_as tries n w.link) c.sent
    ∙ ap (λ l. stand_as tries (times (telling xs)) l) c.link
    ∙ stands_so tries (telling xs) (link_so xs)

-- ---- What is logged as up
