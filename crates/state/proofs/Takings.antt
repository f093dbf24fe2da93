-- What a start takes of a directory.
use Rattle.std.proofs.Common.{◌≡◌, ◌⊎◌, inl, inr, ℕ, ◌<◌, ◌≤◌, Bool, true, false}
use Rattle.std.proofs.Common.{List, [], ◌∷◌, length, Option, Some, None, Ok}
use Rattle.std.proofs.Common.{refl, slice_index, sym, ap, subst, arith}
use Rattle.std.specs.List.{AllByRecursion}
use Rattle.std.specs.Option.{is_some}
use Rattle.std.proofs.lemmas.List.{append-nil}
use Rattle.sqlite_disk.specs.Disk.{Holds}
use Rattle.sqlite_disk.specs.declared.Disk.{Ghosts}
use Rattle.checkpoint.specs.Octets.{IsOctetLine}
use Rattle.gateway.specs.Carried.{carried}
use Rattle.gateway.specs.Config.{Settings}
use Rattle.gateway.specs.Log.{Log}
use Rattle.gateway.specs.Restored.{HasSettings, IsSavable, state_lines}
use Rattle.gateway.specs.State.{State}
use Rattle.gateway.specs.Unchanged.{MayGoOn}
use Rattle.gateway.specs.declared.settings.StationSettings.{StationSettings}
use Rattle.link.specs.Procedure.{is_up}
use Rattle.link.specs.Turns.{station_at}
use Rattle.segments.specs.Crashes.{damage_behind, lines_behind}
use Rattle.segments.specs.Head.{Fits, head_of}
use Rattle.segments.specs.Room.{log_in}
use Rattle.segments.specs.Starts.{HasNoNewer, IsFoundIn, IsShut}
use Rattle.std.specs.Prelude.{slice_get}
use Rattle.segments.specs.declared.head.SegmentHead.{SegmentHead}
use Rattle.segments.proofs.Crashes.{same_first}
use Rattle.segments.proofs.Fronts.{not_shut}
use Rattle.settings.specs.Settings.{IsReadOfText}
use Rattle.statetext.specs.Sum.{sum_of}
use Rattle.statetext.specs.Text.{lines_in}
use Rattle.traces.specs.Event.{Event}
use Rattle.traces.specs.Progress.{came}
use Rattle.traces.specs.Trace.{logged}
use Rattle.state.specs.Beginnings.{IsReadWhole, GoesOnFrom, MovedOn, has_past, is_trusted}
use Rattle.state.specs.Directories.{BeginsOver}
use Rattle.state.specs.Origins.{IsMarkedBy}
use Rattle.state.specs.Replays.{AreRead, before_those, events_in_front, whole_lines}
use Rattle.state.specs.Unread.{IsUnread}
use Rattle.state.specs.declared.beginning.Origin.{Origin}
use Rattle.state.specs.declared.start.Beginning.{Beginning}
use Rattle.state.specs.declared.start.Beginning.TheVariants as beginnings

-- Lines that are all read

pub each_read : (lines : List (List ℕ)) → AreRead lines
    → AllByRecursion (λ line. is_some (logged line) ≡ true) lines
each_read [] read = tt
each_read (line ∷ lines) read = by (logged line) refl (each_read lines)
  where
    by : (found : Option Event) → logged line ≡ found
        → (AreRead lines → AllByRecursion (λ line. is_some (logged line) ≡ true) lines)
        → (is_some (logged line) ≡ true)
        × AllByRecursion (λ line. is_some (logged line) ≡ true) lines
    by None is others =
        let none : length (events_in_front (line ∷ lines)) ≡ 0 =
        ap (λ (l : Option Event). length (before_those l (events_in_front lines))) is in
        absurd (omega (arith, none, read))
    by (Some event) is others =
        let one : length (events_in_front (line ∷ lines))
        ≡ length (came event ∷ events_in_front lines) =
        ap (λ (l : Option Event). length (before_those l (events_in_front lines))) is in
        (ap is_some is, others (omega (arith, one, read)))

-- The laws of starts

module _ {D : Type 0} {g : Ghosts D} where
  pub takes_whole : (c : Settings) (log : Log) (mark : Option Bool)
      (newest other : D) (o : Origin) → BeginsOver g c log mark newest other o
      → has_past o.beginning ≡ true → (head : SegmentHead) × (body : List ℕ)
      × Holds (g.seen newest) 0 (head_of head)
      × (0 < length body → Holds (g.seen newest) 87 body) × (length body ≡ head.octets)
      × (sum_of body ≡ head.sum)
  takes_whole c log mark newest other o over past =
      let goes = over.begun.goes_on past over.first in (
        goes.head.head,
        goes.head.body,
        goes.head.found.first,
        goes.head.found.behind,
        goes.head.found.octets,
        goes.head.found.sum,
      )

  pub takes_lines : (c : Settings) (log : Log) (mark : Option Bool)
      (newest other : D) (o : Origin) → BeginsOver g c log mark newest other o
      → o.beginning ≡ beginnings.GoesOn → (head : SegmentHead) (body : List ℕ) → Fits head
      → IsFoundIn (g.seen newest) head body
      → AllByRecursion (λ line. is_some (logged line) ≡ true)
      (whole_lines (lines_behind body (g.seen newest)))
      × (damage_behind body (g.seen newest) ≡ None)
  takes_lines c log mark newest other o over on head body fits found =
      let whole = over.begun.read on over.first over.second head body fits found in
      (each_read _ whole.0, whole.1)

  pub takes_newest : (c : Settings) (log : Log) (mark : Option Bool)
      (newest other : D) (o : Origin) → BeginsOver g c log mark newest other o
      → o.beginning ≡ beginnings.GoesOn → (own head : SegmentHead) → Fits own → Fits head
      → Holds (g.seen newest) 0 (head_of own) → Holds (g.seen other) 0 (head_of head)
      → head.number < own.number
  takes_newest c log mark newest other o over on own head fits fits' holds holds' =
      elim (over.begun.sure on over.first over.second) [
        | inl shut ↦ absurd (not_shut (g.seen other) head holds' shut.0)
        | inr found ↦
            let (mine, its, fits-mine, fits-its, stands, stands', order) = found in
            let same : mine ≡ own = same_first _ mine own fits-mine fits stands holds in
            let same' : its ≡ head = same_first _ its head fits-its fits' stands' holds' in
            subst (λ (h : SegmentHead). head.number < h.number) same
            (subst (λ (h : SegmentHead). h.number < mine.number) same' order)
      ]

  pub takes_first : (c : Settings) (log : Log) (mark : Option Bool)
      (newest other : D) (o : Origin) → BeginsOver g c log mark newest other o
      → o.beginning ≡ beginnings.GoesOn → length (g.seen other) < 2
      → (slice_index (g.seen other) 0 ≡ 45 → ⊥) → (own : SegmentHead) → Fits own
      → Holds (g.seen newest) 0 (head_of own) → own.number ≤ 1
  takes_first c log mark newest other o over on short some own fits holds =
      elim (over.begun.sure on over.first over.second) [
        | inl shut ↦
            let (mine, fits-mine, stands, low) = shut.1 (short, some) in
            subst (λ (h : SegmentHead). h.number ≤ 1)
            (same_first _ mine own fits-mine fits stands holds) low
        | inr found ↦
            let (mine, its, fits-mine, fits-its, stands, stands', order) = found in
            absurd (not_shut (g.seen other) its stands' (inl short))
      ]

  pub never_stale : (c : Settings) (log : Log) (newest other : D) (o : Origin)
      → BeginsOver g c log (Some true) newest other o → o.beginning ≡ beginnings.GoesOn → ⊥
  never_stale c log newest other o over on =
      let marked : Some true ≡ Some false =
      subst (λ (b : Beginning). IsMarkedBy b (Some true)) on over.begun.marked in absurd (cc)

  pub anew_shut : (c : Settings) (log : Log) (mark : Option Bool)
      (newest other : D) (o : Origin) → BeginsOver g c log mark newest other o
      → o.beginning ≡ beginnings.Anew → (file : D) → (file ≡ newest) ⊎ (file ≡ other)
      → IsShut (g.seen file)
  anew_shut c log mark newest other o over anew file which =
      let shut = over.begun.empty anew over.first over.second in
      elim which [
        | inl is ↦ subst (λ (d : D). IsShut (g.seen d)) (sym is) shut.0
        | inr is ↦ subst (λ (d : D). IsShut (g.seen d)) (sym is) shut.1
      ]

  pub links_stay : (c : Settings) (log : Log) (newest other : D) (o : Origin)
      → BeginsOver g c log (Some false) newest other o
      → HasNoNewer (g.seen newest) (g.seen other) → IsReadWhole (g.seen newest)
      → o.beginning ≡ beginnings.LinksReset → ⊥
  links_stay c log newest other o over older read reset =
      elim (over.begun.reset reset) [
        | inl stale ↦ absurd (cc)
        | inr torn ↦ torn over.first over.second older read
      ]

  pub newer_wins : (c : Settings) (log : Log) (mark : Option Bool)
      (newest other : D) (o : Origin) → BeginsOver g c log mark newest other o
      → has_past o.beginning ≡ true → (own head : SegmentHead) (body others : List ℕ) → Fits own
      → Fits head → IsFoundIn (g.seen newest) own body → IsFoundIn (g.seen other) head others
      → head.number ≤ own.number
  newer_wins c log mark newest other o over past own head body others fits fits' found
      found' =
      over.begun.newest past over.first over.second own head body others fits fits' found found'

  -- behind a reset no link is up, by the gateway's law on states that aren't trusted
  pub reset_down : ((before now : Settings) (s : State) (i : ℕ) (station : StationSettings)
      → length s.serial.line.stations ≡ length before.stations
      → slice_get now.stations i ≡ Some station
      → is_up (station_at (carried false before now s).serial.line.stations i).link ≡ true
      → MayGoOn false before now station.address)
      → (c : Settings) (log : Log) (mark : Option Bool) (newest other : D)
      (o : Origin) → BeginsOver g c log mark newest other o
      → o.beginning ≡ beginnings.LinksReset → (wrote : Settings) × (left : State)
      × (o.gateway ≡ carried false wrote c left)
      × (length left.serial.line.stations ≡ length wrote.stations → (place : ℕ)
      (station : StationSettings) → slice_get c.stations place ≡ Some station
      → is_up (station_at o.gateway.serial.line.stations place).link ≡ true → ⊥)
  reset_down law c log mark newest other o b is =
      let goes : GoesOnFrom false c log (g.seen newest) o.is_moved o.damage o.gap o.given_up.items
      o.before.entries o.gateway =
      subst (λ (t : Bool). GoesOnFrom t c log (g.seen newest) o.is_moved o.damage o.gap
      o.given_up.items o.before.entries o.gateway) (ap is_trusted is)
      (b.begun.goes_on (ap has_past is) b.first) in
      let moved : MovedOn false c goes.written log goes.lines
      (log_in goes.begins (g.seen newest)) o.gap o.given_up.items o.before.entries
      o.gateway =
      goes.goes in (
        moved.wrote,
        moved.left,
        moved.moved,
        λ count place station there up.
            let may = law moved.wrote c moved.left place station count there
            (subst (λ (s : State). is_up (station_at s.serial.line.stations place).link ≡ true)
            moved.moved up) in
            let never : false ≡ true = may.trusted in
            absurd (cc),
      )

-- What isn't put aside

pub not_aside : (c : Settings) (text newest other : List ℕ) (head : SegmentHead) (body : List ℕ)
    (state : State) → Fits head → IsFoundIn newest head body
    → lines_in body ≡ text ∷ state_lines state → IsOctetLine text → IsReadOfText text (Ok c)
    → IsSavable state
    → ((by : Settings) → IsReadOfText text (Ok by) → HasSettings by state)
    → IsUnread newest other → ⊥
not_aside c text newest other head body state fits found says octets read savable all unread =
    unread.none (record {
      head = head;
      body = body;
      written = text;
      lines = state_lines state;
      fits = fits;
      found = found;
      says = says;
      octets = octets;
      wrote = c;
      read = read;
      states = λ by is. record {
        state = state;
        rest = [];
        are = sym (append-nil (state_lines state));
        savable = savable;
        settings = all by is;
      };
    })

pub shut_not_aside : (newest other : List ℕ) → IsShut newest → IsShut other
    → IsUnread newest other → ⊥
shut_not_aside newest other one two unread = unread.some one two
