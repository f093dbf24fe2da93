-- What a start makes of a log, and what is shown of it.
use Rattle.std.proofs.Common.{◌≡◌, ◌∙◌, ◌⊎◌, inl, inr, ℕ, ◌+◌, ◌<◌, Bool, true, false, List}
use Rattle.std.proofs.Common.{◌∷◌}
use Rattle.std.proofs.Common.{◌++◌, length, Option, Some, None, Ok, refl, sym, ap, subst}
use Rattle.std.proofs.Common.{arith}
use Rattle.std.specs.Prelude.{not, ◌&&◌, MatchOption}
use Rattle.sqlite_disk.specs.declared.Disk.{Ghosts}
use Rattle.gateway.specs.Agrees.{Follows, Rests}
use Rattle.gateway.specs.Carried.{carried}
use Rattle.gateway.specs.Carried.{restarted, without_commands}
use Rattle.gateway.specs.Config.{Settings}
use Rattle.gateway.specs.Log.{Came, Log, Restarted, events_of}
use Rattle.gateway.specs.Restored.{IsSaid, IsSavable, state_lines}
use Rattle.gateway.specs.Serial.{Serial, cut}
use Rattle.gateway.specs.Setups.{setup_of}
use Rattle.gateway.specs.State.{State}
use Rattle.gateway.proofs.Carrying.{IsForOne}
use Rattle.gateway.proofs.Carrying as carrying
use Rattle.link.specs.Carried.{awaits_command}
use Rattle.segments.specs.Crashes.{lines_behind}
use Rattle.segments.specs.Head.{Fits}
use Rattle.segments.specs.Room.{log_in}
use Rattle.segments.specs.Starts.{ArePlaced, HasNoNewer, IsFoundIn, IsShut}
use Rattle.segments.specs.declared.head.SegmentHead.{SegmentHead}
use Rattle.segments.proofs.Crashes.{same_first}
use Rattle.segments.proofs.Fronts.{not_shut}
use Rattle.settings.specs.Settings.{IsReadOfText}
use Rattle.statetext.specs.Text.{lines_in}
use Rattle.state.specs.Beginnings.{IsReadWhole, GoesOnBy, GoesOnFrom, IsMoved}
use Rattle.state.specs.Beginnings.{SayState, WentOn, gap_now, has_past, is_trusted}
use Rattle.state.specs.Directories.{BeginsOver}
use Rattle.state.specs.GivenUps.{given_up_by}
use Rattle.state.specs.Origins.{IsMarkedBy}
use Rattle.state.specs.Replays.{ReportedGap, events_in_front, last_gap, whole_lines}
use Rattle.state.specs.Sights.{BeginsSo, IsDistrusted, IsSeen, IsShown, IsSight}
use Rattle.state.specs.declared.beginning.Origin.{Origin}
use Rattle.state.specs.declared.given_up.GivenUp.{GivenUp}
use Rattle.state.specs.declared.looking.Seen.{Seen}
use Rattle.state.specs.declared.looking.Sight.{Sight}
use Rattle.state.specs.declared.start.Beginning.{Beginning}
use Rattle.state.specs.declared.start.Beginning.TheVariants as beginnings
use Rattle.state.proofs.Returning.{AreSame, same_head}

-- With which settings a run went on, and from where

abbrev IsGone : (trusted : Bool) → Settings → (written : List ℕ) → (wrote : Settings)
    → (left s : State) → (last gap : Option ReportedGap) → Type 0
IsGone trusted c written wrote left s last gap =
    ((trusted ≡ true) × IsReadOfText written (Ok c) × (wrote ≡ c) × (s ≡ left) × (gap ≡ last))
    ⊎ (IsReadOfText written (Ok wrote) × (s ≡ carried trusted wrote c left)
    × (gap ≡ gap_now wrote.stations c.stations last))

record Gone (trusted : Bool) (c : Settings) (written : List ℕ) (log : Log)
    (lines : List (List ℕ)) (events : List ℕ) (gap : Option ReportedGap)
    (given_up : List GivenUp) (whole : Log) (s : State) : Type 0 where
  wrote : Settings
  left : State
  last : Option ReportedGap
  went : WentOn wrote log lines events last given_up whole left
  gone : IsGone trusted c written wrote left s last gap

gone_on : (trusted is_moved : Bool) (c : Settings) (written : List ℕ) (log : Log)
    (lines : List (List ℕ)) (events : List ℕ) (gap : Option ReportedGap)
    (given_up : List GivenUp) (whole : Log) (s : State) → IsMoved c written is_moved
    → GoesOnBy (trusted && not is_moved) trusted c written log lines events gap given_up whole s
    → Gone trusted c written log lines events gap given_up whole s
gone_on true false c written log lines events gap given_up whole s moved goes = record {
  wrote = c;
  left = s;
  last = gap;
  went = goes;
  gone = inl (refl, moved, refl, refl, refl);
}
gone_on true true c written log lines events gap given_up whole s moved goes = record {
  wrote = goes.wrote;
  left = goes.left;
  last = goes.last;
  went = goes.went;
  gone = inr (goes.read, goes.moved, goes.told);
}
gone_on false is_moved c written log lines events gap given_up whole s moved goes = record {
  wrote = goes.wrote;
  left = goes.left;
  last = goes.last;
  went = goes.went;
  gone = inr (goes.read, goes.moved, goes.told);
}

-- the settings that the text says are those with which it went on
says_settings : (trusted : Bool) (c : Settings) (written : List ℕ) (wrote : Settings)
    (left s : State) (last gap : Option ReportedGap)
    → IsGone trusted c written wrote left s last gap → IsReadOfText written (Ok wrote)
says_settings trusted c written wrote left s last gap (inl kept) =
    subst (λ (w : Settings). IsReadOfText written (Ok w)) (sym kept.2) kept.1
says_settings trusted c written wrote left s last gap (inr moved) = moved.0

trusted_on : (b : Beginning) → is_trusted b ≡ true → b ≡ beginnings.GoesOn
trusted_on beginnings.Anew is = absurd (cc)
trusted_on beginnings.PutAside is = absurd (cc)
trusted_on beginnings.LinksReset is = absurd (cc)
trusted_on beginnings.GoesOn is = refl

moved_is : (is_moved : Bool) (c : Settings) (written : List ℕ) → IsMoved c written is_moved
    → (is_moved ≡ true → IsReadOfText written (Ok c) → ⊥)
    × (is_moved ≡ false → IsReadOfText written (Ok c))
moved_is true c written moved = (λ _. moved, λ is. absurd (cc))
moved_is false c written moved = (λ is. absurd (cc), λ _. moved)

-- the head of the log is that which stands in the file
head_is : (c : Settings) (log : Log) (o : Origin) (trusted : Bool)
    (file : List ℕ) (head : SegmentHead) (body written : List ℕ) (lines : List (List ℕ))
    (goes : GoesOnFrom trusted c log file o.is_moved o.damage o.gap o.given_up.items
    o.before.entries
    o.gateway)
    → Fits head → IsFoundIn file head body → lines_in body ≡ written ∷ lines
    → AreSame goes.begins (87 + length body) goes.written written goes.lines lines
head_is c log o trusted file head body written lines goes fits found says =
    same_head file goes.begins (87 + length body) goes.written written goes.lines lines goes.head
    (record { head = head; body = body; fits = fits; found = found; says = says; behind = refl })

gone_from : (c : Settings) (log : Log) (o : Origin) (trusted : Bool)
    (file : List ℕ)
    (goes : GoesOnFrom trusted c log file o.is_moved o.damage o.gap o.given_up.items
    o.before.entries
    o.gateway)
    → Gone trusted c goes.written log goes.lines (log_in goes.begins file) o.gap
    o.given_up.items o.before.entries o.gateway
gone_from c log o trusted file goes =
    gone_on trusted o.is_moved c goes.written log goes.lines
    (log_in goes.begins file) o.gap o.given_up.items o.before.entries o.gateway
    goes.moved goes.goes

module _ {D : Type 0} {g : Ghosts D} where
  pub received : (c : Settings) (log : Log) (mark : Option Bool)
      (newest other : D) (o : Origin) (head : SegmentHead) (body written : List ℕ)
      (first : State) (rest : List (List ℕ)) → BeginsOver g c log mark newest other o
      → has_past o.beginning ≡ true → Fits head → IsFoundIn (g.seen newest) head body
      → lines_in body ≡ written ∷ (state_lines first ++ rest) → IsSavable first
      → (wrote : Settings) × (left : State) × (last : Option ReportedGap)
      × (((o.beginning ≡ beginnings.GoesOn) × IsReadOfText written (Ok c) × (wrote ≡ c)
      × (o.gateway ≡ left) × (o.gap ≡ last)) ⊎ (IsReadOfText written (Ok wrote)
      × (o.gateway ≡ carried (is_trusted o.beginning) wrote c left)
      × (o.gap ≡ gap_now wrote.stations c.stations last)))
      × (Follows (setup_of wrote) first (Some log) → Rests (setup_of wrote) (Some log)
      → Follows (setup_of wrote) left (Some o.before.entries) × (news : Log)
      × (o.before.entries ≡ Came left.moment Restarted ∷ (news ++ log))
      × (events_of (news ++ log) ≡ events_of log
      ++ events_in_front (whole_lines (lines_behind body (g.seen newest))))
      × (last ≡ last_gap news))
  received c log mark newest other o head body written first rest over past fits found says
      savable =
      let file : List ℕ = g.seen newest in
      let goes = over.begun.goes_on past over.first in
      let same = head_is c log o (is_trusted o.beginning) file head body written
      (state_lines first ++ rest) goes fits found says in
      let it = gone_from c log o (is_trusted o.beginning) file goes in (
        it.wrote,
        it.left,
        it.last,
        elim it.gone [
          | inl kept ↦ inl (
            trusted_on o.beginning kept.0,
            subst (λ (t : List ℕ). IsReadOfText t (Ok c)) same.wrote kept.1,
            kept.2,
            kept.3,
            kept.4,
          )
          | inr moved ↦ inr (
            subst (λ (t : List ℕ). IsReadOfText t (Ok it.wrote)) same.wrote
                moved.0,
            moved.1,
            moved.2,
          )
        ],
        λ follows rests.
            let replayed = it.went.read first rest same.state savable follows rests in (
              (it.went.follows first rest same.state savable follows rests).0,
              replayed.news,
              it.went.restarted
                  ∙ ap (λ (n : ℕ). Came n Restarted ∷ it.went.arrived)
                  (sym (ap (λ (s : State). s.moment) it.went.given))
                  ∙ ap (λ (l : Log). Came it.left.moment Restarted ∷ l) replayed.behind,
              ap events_of (sym replayed.behind) ∙ replayed.arrived
                  ∙ ap (λ (n : ℕ). events_of log
                  ++ events_in_front (whole_lines (log_in n file))) same.place,
              replayed.last,
            ),
      )

  -- a state stands at the head of what is gone on with
  pub state_begun : (c : Settings) (log : Log) (mark : Option Bool)
      (newest other : D) (o : Origin) (head : SegmentHead) (body written : List ℕ)
      (lines : List (List ℕ)) → BeginsOver g c log mark newest other o
      → has_past o.beginning ≡ true → Fits head → IsFoundIn (g.seen newest) head body
      → lines_in body ≡ written ∷ lines
      → (wrote : Settings) × (state : State) × (rest : List (List ℕ))
      × IsReadOfText written (Ok wrote) × IsSaid state lines rest
  state_begun c log mark newest other o head body written lines over past fits found says =
      let file : List ℕ = g.seen newest in
      let goes = over.begun.goes_on past over.first in
      let same = head_is c log o (is_trusted o.beginning) file head body written lines goes fits
      found says in
      let it = gone_from c log o (is_trusted o.beginning) file goes in
      let said : SayState lines = subst SayState same.state it.went.said in (
        it.wrote,
        said.first,
        said.rest,
        subst (λ (t : List ℕ). IsReadOfText t (Ok it.wrote)) same.wrote
            (says_settings (is_trusted o.beginning) c goes.written it.wrote it.left o.gateway
            it.last o.gap it.gone),
        said.said,
      )

  pub is_moved : (c : Settings) (log : Log) (mark : Option Bool)
      (newest other : D) (o : Origin) (head : SegmentHead) (body written : List ℕ)
      (lines : List (List ℕ)) → BeginsOver g c log mark newest other o
      → has_past o.beginning ≡ true → Fits head → IsFoundIn (g.seen newest) head body
      → lines_in body ≡ written ∷ lines
      → (o.is_moved ≡ true → IsReadOfText written (Ok c) → ⊥)
      × (o.is_moved ≡ false → IsReadOfText written (Ok c))
  is_moved c log mark newest other o head body written lines over past fits found says =
      let goes = over.begun.goes_on past over.first in
      let same = head_is c log o (is_trusted o.beginning) (g.seen newest) head body written
      lines goes fits found says in
      moved_is o.is_moved c written
      (subst (λ (t : List ℕ). IsMoved c t o.is_moved) same.wrote goes.moved)

  pub gives_up : IsForOne → (c : Settings) (log : Log) (mark : Option Bool)
      (newest other : D) (o : Origin) → BeginsOver g c log mark newest other o
      → has_past o.beginning ≡ true → (wrote : Settings) × (left : State)
      × ((o.gateway ≡ left) ⊎ (o.gateway ≡ carried (is_trusted o.beginning) wrote c left))
      × ((held : State) × (left ≡ restarted held)
      × (o.given_up.items ≡ given_up_by wrote.line.sizes held))
      × ((place : ℕ) → place < length left.serial.line.stations
      → awaits_command left.serial.line place ≡ false)
  gives_up law c log mark newest other o over past =
      let goes = over.begun.goes_on past over.first in
      let it = gone_from c log o (is_trusted o.beginning) (g.seen newest) goes in
      let before : Serial = it.went.left.serial in
      let serial : it.left.serial ≡ cut (without_commands before) =
      ap (λ (s : State). s.serial) it.went.given in
      let same : length it.left.serial.line.stations ≡ length before.line.stations =
      ap (λ (s : Serial). length s.line.stations) serial
      ∙ carrying.count law before in (
        it.wrote,
        it.left,
        elim it.gone [
          | inl kept ↦ inl kept.3
          | inr moved ↦ inr moved.1
        ],
        (it.went.left, it.went.given, it.went.named),
        λ place within. subst (λ (s : Serial). awaits_command s.line place ≡ false) (sym serial)
            (carrying.done law before place (omega (arith, within, same))),
      )

-- What is shown

seen_is : (P : Seen → Type 0) (n : Type 0) (o : Option Seen) (l : Seen) → o ≡ Some l
    → MatchOption o n P → P l
seen_is P n None l is match = absurd (cc)
seen_is P n (Some s) l is match = let same : s ≡ l = cc in subst P same match

stale_or : (is_stale : Bool) → Some is_stale ≡ Some true → is_stale ≡ true
stale_or is_stale is = cc

fresh_or : (is_stale : Bool) → Some is_stale ≡ Some false → is_stale ≡ false
fresh_or is_stale is = cc

both_ways : {P : Type 0} (b : Bool) → b ≡ true → b ≡ false → P
both_ways b is isnt = let none : true ≡ false = sym is ∙ isnt in absurd (cc)

shown_seen : (log : Log) (is_stale : Bool) (first second : List ℕ) (s : Sight)
    (shown : IsSight log is_stale first second s) (l : Seen) → s.seen ≡ Some l
    → (has_past s.beginning ≡ true) × ArePlaced l.side first second shown.newest shown.other
    × IsSeen log shown.newest l
shown_seen log is_stale first second s shown l is =
    seen_is (λ (x : Seen). (has_past s.beginning ≡ true)
    × ArePlaced x.side first second shown.newest shown.other × IsSeen log shown.newest x)
    (has_past s.beginning ≡ false) s.seen l is shown.shown

pub log_shown : (log : Log) (is_stale : Bool) (first second : List ℕ) (s : Sight)
    (shown : IsSight log is_stale first second s) (l : Seen) (head : SegmentHead)
    (body written : List ℕ) (lines : List (List ℕ)) → s.seen ≡ Some l → Fits head
    → IsFoundIn shown.newest head body → lines_in body ≡ written ∷ lines
    → (has_past s.beginning ≡ true) × ArePlaced l.side first second shown.newest shown.other
    × (l.number ≡ head.number) × (l.settings.items ≡ written)
    × (l.lines ≡ length (whole_lines (lines_behind body shown.newest)))
    × (l.events ≡ length (events_in_front (whole_lines (lines_behind body shown.newest))))
log_shown log is_stale first second s shown l head body written lines is fits found says =
    let all = shown_seen log is_stale first second s shown l is in
    let it : IsSeen log shown.newest l = all.2 in
    let same = same_head shown.newest it.begins (87 + length body) l.settings.items written it.lines
    lines it.head
    (record { head = head; body = body; fits = fits; found = found; says = says; behind = refl }) in
    let first_line : it.number.head ≡ head =
    same_first shown.newest it.number.head head it.number.fits fits it.number.found.first
    found.first in (
      all.0,
      all.1,
      it.number.is ∙ ap (λ (h : SegmentHead). h.number) first_line,
      same.wrote,
      it.counted.whole
          ∙ ap (λ (n : ℕ). length (whole_lines (log_in n shown.newest))) same.place,
      it.counted.logged
          ∙ ap (λ (n : ℕ). length (events_in_front (whole_lines (log_in n shown.newest))))
          same.place,
    )

pub gateway_shown : (log : Log) (is_stale : Bool) (first second : List ℕ) (s : Sight)
    (shown : IsSight log is_stale first second s) (l : Seen) (head : SegmentHead)
    (body written : List ℕ) (state : State) (rest : List (List ℕ)) → s.seen ≡ Some l → Fits head
    → IsFoundIn shown.newest head body
    → lines_in body ≡ written ∷ (state_lines state ++ rest) → IsSavable state
    → (wrote : Settings) × IsReadOfText written (Ok wrote)
    × (Follows (setup_of wrote) state (Some log) → Rests (setup_of wrote) (Some log)
    → (whole : Log) × Follows (setup_of wrote) l.gateway (Some whole)
    × (events_of whole ≡ events_of log
    ++ events_in_front (whole_lines (lines_behind body shown.newest))))
gateway_shown log is_stale first second s shown l head body written state rest is fits found says
    savable =
    let all = shown_seen log is_stale first second s shown l is in
    let it : IsSeen log shown.newest l = all.2 in
    let same = same_head shown.newest it.begins (87 + length body) l.settings.items written it.lines
    (state_lines state ++ rest) it.head
    (record {
      head = head;
      body = body;
      fits = fits;
      found = found;
      says = says;
      behind = refl;
    }) in (
      it.wrote,
      subst (λ (t : List ℕ). IsReadOfText t (Ok it.wrote)) same.wrote it.readable,
      λ follows rests.
          let replayed = it.read state rest same.state savable follows rests in (
            it.whole,
            replayed.follows,
            replayed.arrived
                ∙ ap (λ (n : ℕ). events_of log
                ++ events_in_front (whole_lines (log_in n shown.newest))) same.place,
          ),
    )

-- a state stands at its head
pub state_shown : (log : Log) (is_stale : Bool) (first second : List ℕ) (s : Sight)
    (shown : IsSight log is_stale first second s) (l : Seen) (head : SegmentHead)
    (body written : List ℕ) (lines : List (List ℕ)) → s.seen ≡ Some l → Fits head
    → IsFoundIn shown.newest head body → lines_in body ≡ written ∷ lines
    → (wrote : Settings) × (state : State) × (rest : List (List ℕ))
    × IsReadOfText written (Ok wrote) × IsSaid state lines rest
state_shown log is_stale first second s shown l head body written lines is fits found says =
    let it : IsSeen log shown.newest l =
    (shown_seen log is_stale first second s shown l is).2 in
    let same = same_head shown.newest it.begins (87 + length body) l.settings.items written it.lines
    lines it.head
    (record { head = head; body = body; fits = fits; found = found; says = says; behind = refl }) in
    let said : SayState lines = subst SayState same.state it.said in (
      it.wrote,
      said.first,
      said.rest,
      subst (λ (t : List ℕ). IsReadOfText t (Ok it.wrote)) same.wrote it.readable,
      said.said,
    )

-- a log was found if one is shown
past_shown : (log : Log) (is_stale : Bool) (first second : List ℕ) (s : Sight)
    (shown : IsSight log is_stale first second s) (o : Option Seen) → s.seen ≡ o
    → has_past s.beginning ≡ true → IsShut shown.newest → ⊥
past_shown log is_stale first second s shown None is past shut =
    let none : has_past s.beginning ≡ false =
    subst (λ (x : Option Seen). IsShown log (has_past s.beginning) first second shown.newest
    shown.other x) is shown.shown in
    both_ways (has_past s.beginning) past none
past_shown log is_stale first second s shown (Some l) is past shut =
    let all = shown_seen log is_stale first second s shown l is in
    not_shut shown.newest all.2.head.head all.2.head.found.first shut

module _ {D : Type 0} {g : Ghosts D} where
  -- a log was found if a run goes on
  not_shut_of : (c : Settings) (log : Log) (mark : Option Bool) (newest other : D)
      (o : Origin) → BeginsOver g c log mark newest other o → has_past o.beginning ≡ true
      → IsShut (g.seen newest) → ⊥
  not_shut_of c log mark newest other o over past shut =
      let goes = over.begun.goes_on past over.first in
      not_shut (g.seen newest) goes.head.head goes.head.found.first shut

  module _ (c : Settings) (log : Log) (is_stale : Bool) (newest other : D)
      (o : Origin) (first second : List ℕ) (s : Sight)
      (shown : IsSight log is_stale first second s)
      (over : BeginsOver g c log (Some is_stale) newest other o)
      (one : shown.newest ≡ g.seen newest) (two : shown.other ≡ g.seen other) where
    here : Type 0
    here = s.beginning ≡ o.beginning

    shut_here : o.beginning ≡ beginnings.Anew → IsShut shown.newest
    shut_here is = subst IsShut (sym one) (over.begun.empty is over.first over.second).0

    trusted_here : o.beginning ≡ beginnings.GoesOn → IsDistrusted is_stale shown.newest shown.other
        → ⊥
    trusted_here is (inl stale) =
        both_ways is_stale stale (fresh_or is_stale (subst (λ (b : Beginning). IsMarkedBy b
        (Some is_stale)) is over.begun.marked))
    trusted_here is (inr torn) =
        torn (subst (λ (file : List ℕ). HasNoNewer file shown.other) (sym one)
        (subst (HasNoNewer (g.seen newest)) (sym two)
        (over.begun.sure is over.first over.second)))
        (subst IsReadWhole (sym one) (over.begun.read is over.first over.second))

    reset_here : o.beginning ≡ beginnings.LinksReset → is_stale ≡ false
        → HasNoNewer shown.newest shown.other → IsReadWhole shown.newest → ⊥
    reset_here is fresh older read = elim (over.begun.reset is) [
      | inl stale ↦ both_ways is_stale (stale_or is_stale stale) fresh
      | inr torn ↦ torn over.first over.second
          (subst (λ (file : List ℕ). HasNoNewer file (g.seen other)) one
          (subst (HasNoNewer shown.newest) two older))
          (subst IsReadWhole one read)
    ]

    by_both : (would does : Beginning) → s.beginning ≡ would → o.beginning ≡ does
        → (would ≡ beginnings.PutAside → ⊥) → (does ≡ beginnings.PutAside → ⊥)
        → BeginsSo would is_stale shown.newest shown.other → would ≡ does
    by_both beginnings.PutAside does is is' aside aside' so = absurd (aside refl)
    by_both beginnings.Anew beginnings.PutAside is is' aside aside' so = absurd (aside' refl)
    by_both beginnings.Anew beginnings.Anew is is' aside aside' so = refl
    by_both beginnings.Anew beginnings.LinksReset is is' aside aside' so =
        absurd (not_shut_of c log (Some is_stale) newest other o over (ap has_past is')
        (subst IsShut one so.0))
    by_both beginnings.Anew beginnings.GoesOn is is' aside aside' so =
        absurd (not_shut_of c log (Some is_stale) newest other o over (ap has_past is')
        (subst IsShut one so.0))
    by_both beginnings.LinksReset beginnings.PutAside is is' aside aside' so = absurd (aside' refl)
    by_both beginnings.LinksReset beginnings.Anew is is' aside aside' so =
        absurd (past_shown log is_stale first second s shown s.seen refl (ap has_past is)
        (shut_here is'))
    by_both beginnings.LinksReset beginnings.LinksReset is is' aside aside' so = refl
    by_both beginnings.LinksReset beginnings.GoesOn is is' aside aside' so =
        absurd (trusted_here is' so.1)
    by_both beginnings.GoesOn beginnings.PutAside is is' aside aside' so = absurd (aside' refl)
    by_both beginnings.GoesOn beginnings.Anew is is' aside aside' so =
        absurd (past_shown log is_stale first second s shown s.seen refl (ap has_past is)
        (shut_here is'))
    by_both beginnings.GoesOn beginnings.LinksReset is is' aside aside' so =
        absurd (reset_here is' so.3 so.1 so.2)
    by_both beginnings.GoesOn beginnings.GoesOn is is' aside aside' so = refl

    pub begins_as_shown : (s.beginning ≡ beginnings.PutAside → ⊥)
        → (o.beginning ≡ beginnings.PutAside → ⊥) → s.beginning ≡ o.beginning
    begins_as_shown aside aside' =
        by_both s.beginning o.beginning refl refl aside aside' shown.begins
