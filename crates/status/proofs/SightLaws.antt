-- What visitors are shown after any looks.
use Rattle.std.proofs.Common.{◌≡◌, ◌≢◌, ℕ, zero, suc, ◌<◌, ◌≤◌, Bool, true, false, List}
use Rattle.std.proofs.Common.{[], ◌∷◌, ◌++◌, length, map, Option, Some, None, option_map, is_some}
use Rattle.std.proofs.Common.{refl, sym}
use Rattle.std.proofs.Common.{ap, subst, ◌∙◌, arith, take, drop, if◌then◌else◌}
use Rattle.std.specs.Prelude.{string_bytes}
use Rattle.std.specs.List.{AllByRecursion}
use Rattle.std.specs.Borrow.{Bor}
use Rattle.gateway.specs.Config.{Settings}
use Rattle.gateway.specs.State.{State}
use Rattle.gateway.specs.declared.settings.StationSettings.{StationSettings as Setting}
use Rattle.live.specs.declared.watched.Notice.{Notice}
use Rattle.status.specs.Oldest.{marked}
use Rattle.status.specs.Looking.{counted, first_of, gone_after, is_over, keeping_by}
use Rattle.status.specs.Looking.{keeping_at_first, noted, turned_after}
use Rattle.status.specs.Looks.{HasCounted, IsClosed, IsSilent, Look, Standing, after_look}
use Rattle.status.specs.Looks.{after_looks, noted_after}
use Rattle.status.specs.Shown.{AreKnown, AreRows, IsStationRow, Pair, Shows, known_as}
use Rattle.status.specs.Shown.{chosen_as, in_force, keeping_after, shown_as, stands_since}
use Rattle.status.specs.Shown.{text_or_none, viewed_as}
use Rattle.status.specs.Sights.{Counts, count_at, counts_after, newest, IsSight, ShowsSettings}
use Rattle.status.specs.Sights.{TellsOf}
use Rattle.status.specs.declared.lookout.known.Known.{Known}
use Rattle.status.specs.declared.lookout.ShownRun.{ShownRun}
use Rattle.runlog.specs.Watching.{Watching}
use Rattle.runlog.specs.declared.ends.OpenConnection.{OpenConnection}
use Rattle.runlog.specs.declared.names.LogNames.{LogNames}
use Rattle.runlog.specs.declared.stations.StationWatch.{StationWatch}
use Rattle.runlog.specs.declared.traffic.Traffic.{Traffic}
use Rattle.runlog.specs.Logging.{taken_in}
use Rattle.status.specs.Hour as hour
use Rattle.status.specs.Hour.{Samples}
use Rattle.status.specs.LastHour.{QueueLook, after}
use Rattle.status.specs.Labels.{standing_text}
use Rattle.std.specs.Prelude.{◌&&◌}
use Rattle.status.specs.declared.snapshot.Keeping.{Keeping}
use Rattle.status.specs.declared.snapshot.Snapshot.{Snapshot}
use Rattle.status.specs.declared.snapshot.StationView.{StationView}
use Rattle.status.proofs.LookLaws.{gone_from_the_first, gone_from_there, has_begun, is_counted}
use Rattle.status.proofs.LookLaws.{keeping_is, keeping_stays}

-- What looks leave as it is

either : {A : Type 0} (f : ShownRun → A) (b : Bool) (one other : ShownRun) (x : A) → f one ≡ x
    → f other ≡ x → f (if b then one else other) ≡ x
either f true one other x is same = is
either f false one other x is same = same

pub stays : {A : Type 0} (f : ShownRun → A)
    → ((w : Watching) (n : Option Notice) (s : ShownRun) → f (noted w n s) ≡ f s)
    → ((g : State) (w : Watching) (s : ShownRun) → f (counted g w s) ≡ f s) → (s : Standing)
    → (looks : List Look) → f (after_looks s looks).shown ≡ f s.shown
stays f notes counts s [] = refl
stays f notes counts s (l ∷ looks) =
    let n = noted l.watch l.notice s.shown in
    stays f notes counts (after_look l s) looks
    ∙ either f (is_over s.turned l.watch.moment 20) (counted l.gateway l.watch n) n _
    (counts l.gateway l.watch n)
    refl
    ∙ notes l.watch l.notice s.shown

-- What is noted of connections and of the state, without what is counted

abbrev pub Said : Type 0
Said = Option ℕ × (Keeping × (ℕ × Bool))

abbrev pub said : ShownRun → Said
said s = (s.began, (s.keeping, (s.gone_since, s.was_open)))

abbrev pub says : Watching → Option Notice → Said → Said
says w notice (began, (keeping, (gone_since, was_open))) =
    let is_open = is_some w.connection.opening in (
      Some (first_of began w.moment),
      (
        keeping_by notice keeping,
        (gone_after began was_open is_open w.moment gone_since, is_open),
      ),
    )

counts_nothing : (g : State) (w : Watching) (s : ShownRun) → said (counted g w s) ≡ said s
counts_nothing g w s = either said (is_over s.counted w.moment 1000) _ s (said s) refl refl

pub said_alike : (s : Standing) (t : ShownRun) (looks : List Look) → said s.shown ≡ said t
    → said (after_looks s looks).shown ≡ said (noted_after t looks)
said_alike s t [] is = is
said_alike s t (l ∷ looks) is =
    let n = noted l.watch l.notice s.shown in
    said_alike (after_look l s) (noted l.watch l.notice t) looks
    (either said (is_over s.turned l.watch.moment 20) (counted l.gateway l.watch n) n
    (said n) (counts_nothing l.gateway l.watch n) refl
    ∙ ap (says l.watch l.notice) is)

pub noted_append : (s : ShownRun) (before later : List Look)
    → noted_after s (before ++ later) ≡ noted_after (noted_after s before) later
noted_append s [] later = refl
noted_append s (l ∷ before) later = noted_append (noted l.watch l.notice s) before later

-- What is counted

-- these are the counts that were noted
pub record AreNoted (s : Standing) (c : Counts) : Type 0 where
  pub turned : s.turned ≡ c.turned
  pub counted : s.shown.counted ≡ newest c.counts
  pub hour : s.shown.hour ≡ after c.counts

noted_by : (a b d : Bool) (l : Look) (n : ShownRun) (counts : List QueueLook) (t u : Option ℕ)
    → t ≡ u → n.counted ≡ newest counts → n.hour ≡ after counts
    → b ≡ d
    → let look : QueueLook = record { moment = l.watch.moment; taken = taken_in l.gateway } in
    let m : ShownRun = record n {
      counted = Some l.watch.moment;
      taken = taken_in l.gateway;
      mark = marked l.gateway l.watch (taken_in l.gateway) n.mark;
      hour = hour.noted l.watch.moment (taken_in l.gateway) n.hour;
    } in
    AreNoted (record { turned = t; shown = if a then (if b then m else n) else n })
    (record { turned = u; counts = if a && d then look ∷ counts else counts })
noted_by true true true l n counts t u same at hours is = record {
  turned = same;
  counted = refl;
  hour = ap (hour.noted l.watch.moment (taken_in l.gateway)) hours;
}
noted_by true false false l n counts t u same at hours is =
    record { turned = same; counted = at; hour = hours }
noted_by true true false l n counts t u same at hours is = cc
noted_by true false true l n counts t u same at hours is = cc
noted_by false b d l n counts t u same at hours is =
    record { turned = same; counted = at; hour = hours }

one_noted : (s : Standing) (c : Counts) (l : Look) → AreNoted s c
    → AreNoted (after_look l s) (count_at l c)
one_noted s c l is =
    let n = noted l.watch l.notice s.shown in
    let now = l.watch.moment in
    subst
    (λ (t : Option ℕ). AreNoted (after_look l s)
    (record {
      turned = turned_after c.turned now;
      counts = if is_over t now 20 && is_over (newest c.counts) now 1000
          then record { moment = now; taken = taken_in l.gateway } ∷ c.counts else c.counts;
    }))
    is.turned
    (noted_by (is_over s.turned now 20) (is_over n.counted now 1000)
    (is_over (newest c.counts) now 1000) l n c.counts (turned_after s.turned now)
    (turned_after c.turned now) (ap (λ (t : Option ℕ). turned_after t now) is.turned) is.counted
    is.hour (ap (λ (o : Option ℕ). is_over o now 1000) is.counted))

all_noted : (s : Standing) (c : Counts) (looks : List Look) → AreNoted s c
    → AreNoted (after_looks s looks) (counts_after c looks)
all_noted s c [] is = is
all_noted s c (l ∷ looks) is =
    all_noted (after_look l s) (count_at l c) looks (one_noted s c l is)

-- What of that a visitor is shown

module _ (c : Settings) (names : LogNames) (keeps : Bool) (looks : List Look) (last : Look)
    (s : Snapshot) (k : IsSight c names keeps looks last s) where
  -- all looks
  abbrev all : List Look
  all = looks ++ last ∷ []

  abbrev start : Standing
  start = record { turned = None; shown = k.fresh }

  said_by : said k.shown ≡ said (noted_after k.fresh all)
  said_by = ap said k.noted ∙ said_alike start k.fresh all refl

  pub places : s.queue.places ≡ c.line.queue
  places =
      let f : ShownRun → ℕ = λ x. x.places in
      k.seen.numbers.places ∙ ap f k.noted
      ∙ stays f (λ w n x. refl)
      (λ g w x. either f (is_over x.counted w.moment 1000) _ x x.places refl refl) start all
      ∙ k.begins.places

  counted_by : HasCounted all last.watch.moment k.shown.taken
  counted_by =
      subst (λ (n : ℕ). HasCounted all last.watch.moment n)
      (sym (ap (λ (x : ShownRun). x.taken) k.noted))
      (is_counted start looks last k.begins.counted k.due)

  pub taken : HasCounted all last.watch.moment s.queue.taken
  taken =
      subst (λ (n : ℕ). HasCounted all last.watch.moment n) (sym k.seen.numbers.taken) counted_by

  pub unacknowledged : HasCounted all last.watch.moment s.centre.unacknowledged
  unacknowledged =
      subst (λ (n : ℕ). HasCounted all last.watch.moment n)
      (sym k.seen.numbers.centre.unacknowledged) counted_by

  pub hours : s.queue.hour.now
      ≡ (after (counts_after (record { turned = None; counts = [] }) all).counts).numbers
  hours =
      let begins : AreNoted start (record { turned = None; counts = [] }) =
      record { turned = refl; counted = k.begins.counted; hour = k.begins.numbers } in
      k.seen.numbers.hour ∙ ap (λ (x : ShownRun). x.hour.numbers) k.noted
      ∙ ap (λ (x : Samples). x.numbers)
      (all_noted start (record { turned = None; counts = [] }) all begins).hour

  gone_since : IsClosed last → s.centre.since_ms ≡ (noted_after k.fresh all).gone_since
  gone_since closed =
      k.seen.numbers.centre.since
      ∙ ap (λ (o : Option OpenConnection). stands_since k.shown.gone_since o) closed
      ∙ ap (λ (t : Said). t.1.1.0) said_by

  pub never : (first : Look) (later : List Look) → all ≡ first ∷ later → IsClosed first
      → AllByRecursion IsClosed later → IsClosed last → s.centre.since_ms ≡ first.watch.moment
  never first later is closed each now =
      gone_since now ∙ ap (λ (l : List Look). (noted_after k.fresh l).gone_since) is
      ∙ gone_from_the_first k.fresh first later k.begins.began closed each

  pub gone : (before later : List Look) (there first : Look)
      → all ≡ before ++ there ∷ first ∷ later → there.watch.connection.opening ≢ None
      → IsClosed first → AllByRecursion IsClosed later → IsClosed last
      → s.centre.since_ms ≡ first.watch.moment
  gone before later there first is was closed each now =
      gone_since now ∙ ap (λ (l : List Look). (noted_after k.fresh l).gone_since) is
      ∙ ap (λ (x : ShownRun). x.gone_since) (noted_append k.fresh before (there ∷ first ∷ later))
      ∙ gone_from_there (noted_after k.fresh before) there first later was closed each

  pub began : (first : Look) (later : List Look) → all ≡ first ∷ later
      → s.started_ms ≡ first.watch.moment
  began first later is =
      k.seen.numbers.started
      ∙ ap (λ (o : Option ℕ). first_of o last.watch.moment)
      (ap (λ (t : Said). t.0) said_by ∙ ap (λ (l : List Look). (noted_after k.fresh l).began) is
      ∙ has_begun k.fresh first later k.begins.began)

  pub keeping : s.keeping ≡ (noted_after k.fresh all).keeping
  keeping = k.seen.numbers.keeping ∙ ap (λ (t : Said). t.1.0) said_by

  pub reported : (before later : List Look) (l : Look) (notice : Notice)
      → all ≡ before ++ l ∷ later → l.notice ≡ Some notice → AllByRecursion IsSilent later
      → s.keeping ≡ keeping_after notice
  reported before later l notice is at each =
      keeping ∙ ap (λ (x : List Look). (noted_after k.fresh x).keeping) is
      ∙ keeping_is k.fresh before later l notice at each

  pub unreported : AllByRecursion IsSilent all → s.keeping ≡ keeping_at_first keeps
  unreported each = keeping ∙ keeping_stays k.fresh all each ∙ k.begins.keeping

  pub named : (name : Bor (List ℕ)) → names.line ≡ Some name → s.name.now ≡ name.now
  named name is =
      let f : ShownRun → List ℕ = λ x. string_bytes x.name in
      k.seen.numbers.name ∙ ap f k.noted
      ∙ stays f (λ w n x. refl)
      (λ g w x. either f (is_over x.counted w.moment 1000) _ x (string_bytes x.name) refl refl) start
      all
      ∙ k.begins.name
      ∙ ap (λ (o : Option (Bor (List ℕ))). text_or_none (option_map (λ n. n.now) o)) is

  pub version : s.version.now ≡ k.fresh.version.now
  version =
      let f : ShownRun → List ℕ = λ x. x.version.now in
      k.seen.numbers.version ∙ ap f k.noted
      ∙ stays f (λ w n x. refl)
      (λ g w x. either f (is_over x.counted w.moment 1000) _ x x.version.now refl refl) start all

  in_force_is : map viewed_as s.settings.now ≡ in_force c
  in_force_is =
      let f : ShownRun → List Pair = λ x. map chosen_as x.chosen.items in
      k.seen.settings
      ∙ ap (take 16)
      (ap f k.noted
      ∙ stays f (λ w n x. refl)
      (λ g w x. either f (is_over x.counted w.moment 1000) _ x (map chosen_as x.chosen.items) refl
      refl)
      start all
      ∙ k.begins.chosen)

  pub settings : ShowsSettings c s.settings.now
  settings =
      record {
        answer = (take 0 (in_force c), drop 1 (in_force c), in_force_is);
        retries = (take 1 (in_force c), drop 2 (in_force c), in_force_is);
        silence = (take 2 (in_force c), drop 3 (in_force c), in_force_is);
        burst = (take 3 (in_force c), drop 4 (in_force c), in_force_is);
        queue = (take 4 (in_force c), drop 5 (in_force c), in_force_is);
        k = (take 5 (in_force c), drop 6 (in_force c), in_force_is);
        w = (take 6 (in_force c), drop 7 (in_force c), in_force_is);
        t1 = (take 7 (in_force c), drop 8 (in_force c), in_force_is);
        t2 = (take 8 (in_force c), drop 9 (in_force c), in_force_is);
        t3 = (take 9 (in_force c), drop 10 (in_force c), in_force_is);
        select = (take 10 (in_force c), drop 11 (in_force c), in_force_is);
        max_age = (take 11 (in_force c), drop 12 (in_force c), in_force_is);
      }

-- The rows

same_length : {A B C : Type 0} (f : A → C) (g : B → C) (xs : List A) (ys : List B)
    → map f xs ≡ map g ys → length xs ≡ length ys
same_length f g [] [] is = refl
same_length f g [] (y ∷ ys) is = cc
same_length f g (x ∷ xs) [] is = cc
same_length f g (x ∷ xs) (y ∷ ys) is = ap suc (same_length f g xs ys cc)

one_more : {A : Type 0} (x : A) (xs first : List A) (one : A) (rest : List A)
    → xs ≡ first ++ one ∷ rest → x ∷ xs ≡ (x ∷ first) ++ one ∷ rest
one_more x xs first one rest is = ap (λ l. x ∷ l) is

known_at : {A B C : Type 0} (f : A → C) (g : B → C) (xs : List A) (before : List B) (y : B)
    (after : List B) → map f xs ≡ map g (before ++ y ∷ after)
    → (first : List A) × (x : A) × (rest : List A) × (xs ≡ first ++ x ∷ rest)
    × (length first ≡ length before) × (f x ≡ g y)
known_at f g [] [] y after is = cc
known_at f g (x ∷ xs) [] y after is = ([], x, xs, refl, refl, cc)
known_at f g [] (b ∷ before) y after is = cc
known_at f g (x ∷ xs) (b ∷ before) y after is =
    let (first, one, rest, split, long, same) = known_at f g xs before y after cc in
    (x ∷ first, one, rest, one_more x xs first one rest split, ap suc long, same)

rows_at : (n : ℕ) (first : List Known) (k : Known) (rest : List Known)
    (earlier : List StationWatch) (w : StationWatch) (later : List StationWatch)
    (past : List Traffic) (t : Traffic) (next : List Traffic) (rows : List StationView)
    → AreRows n (first ++ k ∷ rest) (earlier ++ w ∷ later) (past ++ t ∷ next) rows
    → length earlier ≡ length first → length past ≡ length first → length first < n
    → (above : List StationView) × (below : List StationView) × (row : StationView)
    × (rows ≡ above ++ row ∷ below) × (length above ≡ length first) × IsStationRow k w t row
rows_at zero first k rest earlier w later past t next rows are e p lt = absurd (omega (arith, lt))
rows_at (suc n) [] k rest [] w later [] t next [] are e p lt = absurd are
rows_at (suc n) [] k rest [] w later [] t next (r ∷ rows) (here, more) e p lt =
    ([], rows, r, refl, refl, here)
rows_at (suc n) [] k rest (x ∷ earlier) w later past t next rows are e p lt = cc
rows_at (suc n) [] k rest [] w later (x ∷ past) t next rows are e p lt = cc
rows_at (suc n) (a ∷ first) k rest [] w later past t next rows are e p lt = cc
rows_at (suc n) (a ∷ first) k rest (x ∷ earlier) w later [] t next rows are e p lt = cc
rows_at (suc n) (a ∷ first) k rest (x ∷ earlier) w later (y ∷ past) t next [] are e p lt =
    absurd are
rows_at (suc n) (a ∷ first) k rest (x ∷ earlier) w later (y ∷ past) t next (r ∷ rows) (here, more)
    e p lt =
    let (above, below, row, split, long, is) =
    rows_at n first k rest earlier w later past t next rows more (omega (arith, e))
    (omega (arith, p)) (omega (arith, lt)) in
    (r ∷ above, below, row, one_more r rows above row below split, ap suc long, is)

rows_count : (n : ℕ) (known : List Known) (ws : List StationWatch) (ts : List Traffic)
    (rows : List StationView) → AreRows n known ws ts rows → length known ≤ n
    → length ws ≡ length known → length ts ≡ length known → length rows ≡ length known
rows_count zero [] ws ts rows are le w t = ap length are
rows_count zero (k ∷ known) ws ts rows are le w t = absurd (omega (arith, le))
rows_count (suc n) [] ws ts rows are le w t = ap length are
rows_count (suc n) (k ∷ known) [] ts rows are le w t = cc
rows_count (suc n) (k ∷ known) (x ∷ ws) [] rows are le w t = cc
rows_count (suc n) (k ∷ known) (x ∷ ws) (y ∷ ts) [] are le w t = absurd are
rows_count (suc n) (k ∷ known) (x ∷ ws) (y ∷ ts) (r ∷ rows) (here, more) le w t =
    ap suc
    (rows_count n known ws ts rows more (omega (arith, le)) (omega (arith, w)) (omega (arith, t)))

module _ (c : Settings) (names : LogNames) (keeps : Bool) (looks : List Look) (last : Look)
    (s : Snapshot) (k : IsSight c names keeps looks last s) where
  known_is : AreKnown names.stations.now c.stations k.shown.known.items
  known_is =
      let f : ShownRun → List Shows = λ x. map known_as x.known.items in
      ap f k.noted
      ∙ stays f (λ w n x. refl)
      (λ g w x. either f (is_over x.counted w.moment 1000) _ x (map known_as x.known.items) refl refl)
      (record { turned = None; shown = k.fresh })
      (looks ++ last ∷ [])
      ∙ k.begins.known

  pub each : length c.stations ≤ 32 → length last.watch.stations ≡ length c.stations
      → length last.watch.traffic ≡ length c.stations
      → length s.stations.now ≡ length c.stations
  each le w t =
      let same : length k.shown.known.items ≡ length c.stations =
      same_length known_as (shown_as names.stations.now) k.shown.known.items c.stations known_is in
      rows_count 32 k.shown.known.items last.watch.stations last.watch.traffic s.stations.now
      k.seen.rows (omega (arith, le, same)) (w ∙ sym same) (t ∙ sym same)
      ∙ same

  tells : (setting : Setting) (one : Known) (watch : StationWatch) (traffic : Traffic)
      (row : StationView) → known_as one ≡ shown_as names.stations.now setting
      → IsStationRow one watch traffic row → TellsOf names setting watch traffic row
  tells setting one watch traffic row same is = record {
    named = λ name called.
        is.name ∙ ap (λ (x : Shows). x.name) same ∙ ap text_or_none called;
    nameless = λ none. is.name ∙ ap (λ (x : Shows). x.name) same ∙ ap text_or_none none;
    common_address = is.common_address ∙ ap (λ (x : Shows). x.common_address) same;
    address = is.address;
    standing = ap standing_text is.standing;
    since = is.since;
    gaps = is.gaps;
    last_report = is.last_report;
    reports = is.reports;
    skipped = is.skipped;
    commands = is.commands;
    requests = is.requests;
    spoilt = is.spoilt;
    late = is.late;
  }

  pub row_of : (before after : List Setting) (setting : Setting)
      → c.stations ≡ before ++ setting ∷ after → length before < 32
      → (earlier later : List StationWatch) (watch : StationWatch)
      → last.watch.stations ≡ earlier ++ watch ∷ later → length earlier ≡ length before
      → (past next : List Traffic) (traffic : Traffic)
      → last.watch.traffic ≡ past ++ traffic ∷ next → length past ≡ length before
      → (above : List StationView) × (below : List StationView) × (row : StationView)
      × (s.stations.now ≡ above ++ row ∷ below) × (length above ≡ length before)
      × TellsOf names setting watch traffic row
  row_of before after setting among few earlier later watch watched e past next traffic counts p =
      let (first, one, rest, split, long, same) =
      known_at known_as (shown_as names.stations.now) k.shown.known.items before setting after
      (known_is ∙ ap (map (shown_as names.stations.now)) among) in
      let are : AreRows 32 (first ++ one ∷ rest) (earlier ++ watch ∷ later)
      (past ++ traffic ∷ next) s.stations.now =
      subst (λ (l : List Known). AreRows 32 l (earlier ++ watch ∷ later) (past ++ traffic ∷ next)
      s.stations.now) split
      (subst (λ (l : List StationWatch). AreRows 32 k.shown.known.items l (past ++ traffic ∷ next)
      s.stations.now) watched
      (subst (λ (l : List Traffic). AreRows 32 k.shown.known.items last.watch.stations l
      s.stations.now) counts k.seen.rows)) in
      let (above, below, row, at, high, is) =
      rows_at 32 first one rest earlier watch later past traffic next s.stations.now are
      (e ∙ sym long) (p ∙ sym long) (omega (arith, long, few)) in
      (above, below, row, at, high ∙ long, tells setting one watch traffic row same is)
