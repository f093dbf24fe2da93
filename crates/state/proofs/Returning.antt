-- A start behind a crash.
use Rattle.std.proofs.Common.{◌≡◌, ◌∙◌, inl, inr, ℕ, ◌+◌, Bool, true, false}
use Rattle.std.proofs.Common.{List, [], ◌∷◌, ◌++◌, length, reverse, Option, Some, refl, sym}
use Rattle.std.proofs.Common.{ap, subst, arith, Ok}
use Rattle.std.specs.Prelude.{not, ◌&&◌}
use Rattle.std.proofs.lemmas.List.{append-nil}
use Rattle.sqlite_disk.specs.declared.Disk.{Ghosts}
use Rattle.gateway.specs.Agrees.{Follows, Rests}
use Rattle.gateway.specs.Config.{Settings}
use Rattle.gateway.specs.Log.{Came, Log, LogEntry, Restarted, events_of}
use Rattle.gateway.specs.Restored.{IsSavable, state_lines}
use Rattle.gateway.specs.Setups.{setup_of}
use Rattle.gateway.specs.State.{State}
use Rattle.segments.specs.Crashes.{AreBoth}
use Rattle.segments.specs.Starts.{HasNoNewer, IsFoundIn, IsNewest, IsShut, IsSound}
use Rattle.segments.specs.Room.{log_in}
use Rattle.segments.proofs.Crashes.{one_segment}
use Rattle.segments.proofs.Fronts.{not_shut}
use Rattle.settings.specs.Settings.{IsReadOfText}
use Rattle.statetext.specs.Text.{lines_in}
use Rattle.state.specs.Beginnings.{IsReadWhole, GoesOnBy, GoesOnFrom, IsHeadOf, IsMoved, WentOn}
use Rattle.state.specs.Beginnings.{has_past, is_trusted, moment_at}
use Rattle.state.specs.Crashed.{IsKeptIn}
use Rattle.state.specs.Deeds.{Deeds}
use Rattle.state.specs.Origins.{IsMarkedBy}
use Rattle.state.specs.Replays.{ReportedGap, events_in_front, whole_lines}
use Rattle.state.specs.Logs.{IsOlderBeside}
use Rattle.state.specs.Returns.{GoesOnOver, HasReturned, IsBegunOver}
use Rattle.state.specs.Stores.{head, safe}
use Rattle.state.specs.declared.beginning.Origin.{Origin}
use Rattle.state.specs.declared.given_up.GivenUp.{GivenUp}
use Rattle.state.specs.declared.start.Beginning.{Beginning}
use Rattle.state.specs.declared.start.Beginning.TheVariants as beginnings

unmarked : {P : Type 0} → Some false ≡ Some true → P
unmarked is = absurd (cc)

-- two readings of one head
pub record AreSame (begins begins' : ℕ) (settings settings' : List ℕ)
    (lines lines' : List (List ℕ)) :
    Type 0 where
  pub place : begins ≡ begins'
  pub wrote : settings ≡ settings'
  pub state : lines ≡ lines'

pub same_head : (file : List ℕ) (begins begins' : ℕ) (settings settings' : List ℕ)
    (lines lines' : List (List ℕ)) → IsHeadOf file begins settings lines
    → IsHeadOf file begins' settings' lines'
    → AreSame begins begins' settings settings' lines lines'
same_head file begins begins' settings settings' lines lines' one two =
    let body : one.body ≡ two.body = one_segment file one.head two.head one.body two.body one.fits
    two.fits one.found two.found in
    let both : settings ∷ lines ≡ settings' ∷ lines' =
    sym one.says ∙ ap lines_in body ∙ two.says in
    record {
      place = one.behind ∙ ap (λ (l : List ℕ). 87 + length l) body ∙ sym two.behind;
      wrote = cc;
      state = cc;
    }

-- a log whose settings are the same wasn't moved
went : (is_moved : Bool) (c : Settings) (written : List ℕ) (log : Log)
    (lines : List (List ℕ)) (events : List ℕ) (gap : Option ReportedGap)
    (given_up : List GivenUp) (whole : Log) (s : State)
    → IsMoved c written is_moved → IsReadOfText written (Ok c)
    → GoesOnBy (true && not is_moved) true c written log lines events gap given_up whole s
    → WentOn c log lines events gap given_up whole s
went true c written log lines events gap given_up whole s moved same goes = absurd (moved same)
went false c written log lines events gap given_up whole s moved same goes = goes

module _ {D : Type 0} (g : Ghosts D) (settings : List ℕ) (deeds : Deeds) (file other : List ℕ)
    (c : Settings) (log : Log) (o : Origin) (kept : IsKeptIn settings deeds file)
    (beside : IsOlderBeside file other) (b : IsBegunOver g file other c log o) where
  -- the newest file is that of the log, if the start has found a segment there
  newest_is : (trusted : Bool) → GoesOnFrom trusted c log (g.seen b.newest) o.is_moved o.damage
      o.gap
      o.given_up.items o.before.entries o.gateway
      → IsNewest (g.seen b.newest) (g.seen b.spare)
      → AreBoth file other (g.seen b.newest) (g.seen b.spare)
      → (g.seen b.newest ≡ file) × (g.seen b.spare ≡ other)
  newest_is trusted goes wins (inl both) = both
  newest_is trusted goes wins (inr both) =
      let own = kept.opening in
      let head = goes.head in
      let below = beside.older own.head head.head own.body head.body own.fits head.fits own.found
      (subst (λ (f : List ℕ). IsFoundIn f head.head head.body) both.0 head.found) in
      let above = wins head.head own.head head.body own.body head.fits own.fits head.found
      (subst (λ (f : List ℕ). IsFoundIn f own.head own.body) (sym both.1) own.found) in
      absurd (omega (arith, below, above))

  is_there : has_past o.beginning ≡ true → (g.seen b.newest ≡ file) × (g.seen b.spare ≡ other)
  is_there past = newest_is (is_trusted o.beginning) (b.begun.goes_on past b.clean.0)
      (b.begun.newest past b.clean.0 b.clean.1) b.found

  not_both_shut : AreBoth file other (g.seen b.newest) (g.seen b.spare)
      → IsShut (g.seen b.newest) × IsShut (g.seen b.spare) → ⊥
  not_both_shut (inl both) shut =
      not_shut file kept.opening.head kept.opening.found.first (subst IsShut both.0 shut.0)
  not_both_shut (inr both) shut =
      not_shut file kept.opening.head kept.opening.found.first (subst IsShut both.1 shut.1)

  -- a file that isn't doubted has no segment as new
  no_newer : IsSound other → HasNoNewer file other
  no_newer (inl mark) = inl (inr mark, λ blank. absurd (blank.1 mark))
  no_newer (inr found) = inr (
    kept.opening.head,
    found.0,
    kept.opening.fits,
    found.2,
    kept.opening.found.first,
    found.3.first,
    beside.older kept.opening.head found.0 kept.opening.body found.1 kept.opening.fits found.2
        kept.opening.found found.3,
  )

  begins_so : (beginning : Beginning) → o.beginning ≡ beginning → o.beginning ≡ beginnings.GoesOn
  begins_so beginnings.Anew is =
      absurd (not_both_shut b.found (b.begun.empty is b.clean.0 b.clean.1))
  begins_so beginnings.PutAside is =
      unmarked (subst (λ (x : Beginning). IsMarkedBy x (Some false)) is b.begun.marked)
  begins_so beginnings.LinksReset is = elim (b.begun.reset is) [
    | inl stale ↦ unmarked stale
    | inr rotten ↦
        let there = is_there (ap has_past is) in
        absurd (beside.sound (λ sound. rotten b.clean.0 b.clean.1
        (subst (λ (f : List ℕ). HasNoNewer f (g.seen b.spare)) (sym there.0)
        (subst (HasNoNewer file) (sym there.1) (no_newer sound)))
        (subst IsReadWhole (sym there.0) kept.read)))
  ]
  begins_so beginnings.GoesOn is = is

  pub goes_on : o.beginning ≡ beginnings.GoesOn
  goes_on = begins_so o.beginning refl

  from_file : GoesOnFrom true c log file o.is_moved o.damage o.gap o.given_up.items o.before.entries
      o.gateway
  from_file =
      let past : has_past o.beginning ≡ true = ap has_past goes_on in
      let there = is_there past in
      subst (λ (f : List ℕ). GoesOnFrom true c log f o.is_moved o.damage o.gap o.given_up.items
      o.before.entries o.gateway) there.0
      (subst (λ (t : Bool). GoesOnFrom t c log (g.seen b.newest) o.is_moved o.damage o.gap
      o.given_up.items o.before.entries o.gateway) (ap is_trusted goes_on)
      (b.begun.goes_on past b.clean.0))

  returned_from : IsReadOfText settings (Ok c) → IsSavable kept.state
      → Follows (setup_of c) kept.state (Some log) → Rests (setup_of c) (Some log)
      → HasReturned c log deeds o
  returned_from unchanged savable follows rests =
      let goes = from_file in
      let same = same_head file goes.begins kept.begins goes.written settings goes.lines
      (state_lines kept.state) goes.head kept.opening in
      let on : WentOn c log goes.lines (log_in goes.begins file) o.gap
      o.given_up.items o.before.entries o.gateway =
      went o.is_moved c goes.written log goes.lines (log_in goes.begins file)
      o.gap o.given_up.items o.before.entries o.gateway goes.moved
      (subst (λ (t : List ℕ). IsReadOfText t (Ok c)) (sym same.wrote) unchanged) goes.goes in
      let lines : goes.lines ≡ state_lines kept.state ++ [] =
      same.state ∙ sym (append-nil (state_lines kept.state)) in
      let replayed = on.read kept.state [] lines savable follows rests in
      let logged : events_in_front (whole_lines (log_in goes.begins file))
      ≡ reverse (kept.left.left ++ safe deeds) =
      ap (λ (n : ℕ). events_in_front (whole_lines (log_in n file))) same.place
      ∙ kept.left.with_news.logged in
      let restarted : o.before.entries ≡ Came o.gateway.moment Restarted ∷ on.arrived =
      on.restarted ∙ ap (λ (n : ℕ). Came n Restarted ∷ on.arrived)
      (sym (ap (λ (s : State). s.moment) on.given)) in
      record {
        lost = kept.left.lost;
        left = kept.left.left;
        split = kept.left.split;
        arrived =
            ap events_of restarted
            ∙ ap (λ (l : List LogEntry). l ++ Came o.gateway.moment Restarted ∷ [])
            (replayed.arrived ∙ ap (λ (l : List LogEntry). events_of log ++ l) logged);
        news = replayed.news;
        behind = restarted ∙ ap (λ (l : Log). Came o.gateway.moment Restarted ∷ l) replayed.behind;
        gap = replayed.last;
        follows = (on.follows kept.state [] lines savable follows rests).0;
        rests = (on.follows kept.state [] lines savable follows rests).1;
        clock =
            b.begun.moment ∙ ap (λ (x : Beginning). moment_at x o.gateway.moment) goes_on;
      }

  pub returned : IsReadOfText settings (Ok c) → (state : State) → head deeds ≡ Some state
      → IsSavable state
      → Follows (setup_of c) state (Some log) → Rests (setup_of c) (Some log)
      → HasReturned c log deeds o
  returned unchanged state begun savable follows =
      let both : Some kept.state ≡ Some state = sym kept.begun ∙ begun in
      let same : kept.state ≡ state = cc in
      returned_from unchanged (subst IsSavable (sym same) savable)
      (subst (λ (s : State). Follows (setup_of c) s (Some log)) (sym same) follows)

pub goes_on_over : {D : Type 0} (g : Ghosts D) (settings : List ℕ) (deeds : Deeds)
    (file other : List ℕ) → IsKeptIn settings deeds file → IsOlderBeside file other
    → GoesOnOver g settings deeds file other
goes_on_over g settings deeds file other kept beside c log o b = (
  goes_on g settings deeds file other c log o kept beside b,
  λ same state begun savable follows rests. returned g settings deeds file other c log o kept
      beside b same state begun savable follows rests,
)

swapped : (one two newest other : List ℕ) → AreBoth one two newest other
    → AreBoth two one newest other
swapped one two newest other (inl both) = inr both
swapped one two newest other (inr both) = inl both

pub in_either_place : {D : Type 0} (g : Ghosts D) (settings : List ℕ) (deeds : Deeds)
    (file other : List ℕ) → GoesOnOver g settings deeds other file
    → GoesOnOver g settings deeds file other
in_either_place g settings deeds file other over c log o b = over c log o (record {
  newest = b.newest;
  spare = b.spare;
  found = swapped file other (g.seen b.newest) (g.seen b.spare) b.found;
  clean = b.clean;
  begun = b.begun;
})
