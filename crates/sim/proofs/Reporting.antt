-- Reports that stations get while they are played.
use Rattle.std.proofs.Common.{◌≡◌, ℕ, zero, suc, ◌+◌, ◌-◌, ◌<◌, ◌≤◌, Bool, true, false, ◌&&◌, List}
use Rattle.std.proofs.Common.{[]}
use Rattle.std.proofs.Common.{◌∷◌, get_or, length, add-one, ap, refl, sym, ◌∙◌, subst, arith}
use Rattle.std.proofs.Common.{slice_set}
use Rattle.std.proofs.Common.{Option, Some, None}
use Rattle.std.specs.Prelude.{nat_lt, if◌then◌else◌}
use Rattle.link.specs.Secondary.{Secondary}
use Rattle.sim.specs.declared.directive.Class.{Class}
use Rattle.sim.specs.Cues.{given_at, report_due}
use Rattle.sim.specs.Exchanges.{OutstationsState}
use Rattle.sim.specs.Reporting.{GivesDue, IsReported, LineReports, LinesReport, changed_at}
use Rattle.sim.specs.Reporting.{due_in}
use Rattle.sim.specs.Reporting.{has_room, one_more, reported, with_report}
use Rattle.sim.specs.declared.stations.cue.Cue.{Cue}
use Rattle.sim.specs.declared.stations.cue.DueReport.{DueReport}

-- one line more
pub reports_more : (passed n : ℕ) (old mid new : OutstationsState) → LinesReport passed n old mid →
    LineReports passed n mid new → LinesReport passed (n + 1) old new
reports_more passed n old mid new h t = rw add-one (mid, h, t)

-- a place is written with what was there, changed
pub set_changed : {A : Type 0} → (xs : List A) (i : ℕ) (change : A → A) (x y : A) → i < length xs →
    x ≡ get_or xs i x → y ≡ change x → slice_set xs i y ≡ changed_at i change xs
set_changed [] i change x y lt at e = absurd (omega arith)
set_changed (z ∷ xs) zero change x y lt at e = ap (λ w. w ∷ xs) (e ∙ ap change at)
set_changed (z ∷ xs) (suc i) change x y lt at e =
    ap (λ l. z ∷ l) (set_changed xs i change x y (omega arith) at e)

-- or with itself
pub set_same : {A : Type 0} → (xs : List A) (i : ℕ) (x : A) → i < length xs → x ≡ get_or xs i x →
    slice_set xs i x ≡ xs
set_same [] i x lt at = absurd (omega arith)
set_same (z ∷ xs) zero x lt at = ap (λ w. w ∷ xs) at
set_same (z ∷ xs) (suc i) x lt at = ap (λ l. z ∷ l) (set_same xs i x (omega arith) at)

-- what a line has due
pub due_past : (passed i : ℕ) (cues : List Cue) → length cues ≤ i → due_in passed i cues ≡ None
due_past passed i [] le = refl
due_past passed zero (cue ∷ cues) le = absurd (omega arith)
due_past passed (suc i) (cue ∷ cues) le = due_past passed i cues (omega arith)

pub due_here : (passed i : ℕ) (cues : List Cue) (cue : Cue) → i < length cues →
    cue ≡ get_or cues i cue → due_in passed i cues ≡ report_due passed cue
due_here passed i [] cue lt at = absurd (omega arith)
due_here passed zero (q ∷ cues) cue lt at = ap (λ (x : Cue). report_due passed x) (sym at)
due_here passed (suc i) (q ∷ cues) cue lt at = due_here passed i cues cue (omega arith) at

-- whether a station has room
pub no_room_known : (i : ℕ) (had : List ℕ) (ss : List Secondary) → length had ≤ i →
    has_room i had ss ≡ false
no_room_known i [] ss le = refl
no_room_known i (n ∷ had) [] le = refl
no_room_known zero (n ∷ had) (s ∷ ss) le = absurd (omega arith)
no_room_known (suc i) (n ∷ had) (s ∷ ss) le = no_room_known i had ss (omega arith)

pub no_room_here : (i : ℕ) (had : List ℕ) (ss : List Secondary) → length ss ≤ i →
    has_room i had ss ≡ false
no_room_here i [] ss le = refl
no_room_here i (n ∷ had) [] le = refl
no_room_here zero (n ∷ had) (s ∷ ss) le = absurd (omega arith)
no_room_here (suc i) (n ∷ had) (s ∷ ss) le = no_room_here i had ss (omega arith)

pub room_here : (i : ℕ) (had : List ℕ) (ss : List Secondary) (d : ℕ) (s : Secondary) →
    i < length had → i < length ss → s ≡ get_or ss i s →
    has_room i had ss ≡ nat_lt (get_or had i d - s.given) 64
room_here i [] ss d s lt here at = absurd (omega arith)
room_here i (n ∷ had) [] d s lt here at = absurd (omega arith)
room_here zero (n ∷ had) (t ∷ ss) d s lt here at =
    ap (λ (x : Secondary). nat_lt (n - x.given) 64) (sym at)
room_here (suc i) (n ∷ had) (t ∷ ss) d s lt here at =
    room_here i had ss d s (omega arith) (omega arith) at

-- a station was written
pub stations_given : (ss : List Secondary) (i : ℕ) (class : Class) (report : List ℕ)
    (s t : Secondary) (is_given : Bool) → i < length ss → s ≡ get_or ss i s →
    t ≡ (if is_given then with_report class report s else s) →
    slice_set ss i t
    ≡ (if is_given then changed_at i (with_report class report) ss else ss)
stations_given ss i class report s t true lt at e =
    set_changed ss i (with_report class report) s t lt at e
stations_given ss i class report s t false lt at e =
    ap (λ (x : Secondary). slice_set ss i x) e ∙ set_same ss i s lt at

pub station_given : (view now : OutstationsState) → view ≡ now → (i : ℕ) (class : Class)
    (report : List ℕ) (s t : Secondary) (is_given : Bool) → i < length now.stations →
    s ≡ get_or view.stations i s → t ≡ (if is_given then with_report class report s else s) →
    record view { stations = slice_set view.stations i t }
    ≡ (if is_given then record now {
      stations = changed_at i (with_report class report) now.stations;
    } else now)
station_given view now e i class report s t is_given lt at f =
    let here : i < length view.stations =
    subst (λ (x : OutstationsState). i < length x.stations) (sym e) lt in
    ap (λ (ss : List Secondary). record view { stations = ss })
    (stations_given view.stations i class report s t is_given here at f)
    ∙ by_case is_given
  where
    by_case : (b : Bool) → record view {
      stations = if b then changed_at i (with_report class report) view.stations
          else view.stations;
    }
        ≡ (if b then record now {
          stations = changed_at i (with_report class report) now.stations;
        } else now)
    by_case true =
        ap (λ (x : OutstationsState). record x {
          stations = changed_at i (with_report class report) x.stations;
        }) e
    by_case false = e

-- a station was changed
pub station_changed : (view now : OutstationsState) → view ≡ now → (i : ℕ)
    (change : Secondary → Secondary) (s t : Secondary) → i < length now.stations →
    s ≡ get_or view.stations i s → t ≡ change s →
    record view { stations = slice_set view.stations i t }
    ≡ record now { stations = changed_at i change now.stations }
station_changed view now e i change s t lt at f =
    let here : i < length view.stations =
    subst (λ (x : OutstationsState). i < length x.stations) (sym e) lt in
    ap (λ (ss : List Secondary). record view { stations = ss })
    (set_changed view.stations i change s t here at f)
    ∙ ap (λ (x : OutstationsState). record x { stations = changed_at i change x.stations }) e

-- and its report counted
pub report_counted : (view mid old : OutstationsState) → view ≡ mid → (i : ℕ) (class : Class)
    (report : List ℕ) → mid ≡ record old {
      stations = changed_at i (with_report class report) old.stations;
    } → (n m : ℕ) → i < length old.had → n ≡ get_or view.had i n → m ≡ one_more n →
    has_room i old.had old.stations ≡ true →
    IsReported i class report old true (record view { had = slice_set view.had i m })
report_counted view mid old e i class report given n m lt at f room =
    let whole : view ≡ record old {
      stations = changed_at i (with_report class report) old.stations;
    } = e ∙ given in
    let here : i < length view.had =
    subst (λ (x : OutstationsState). i < length x.had) (sym whole) lt in
    record {
      granted = true;
      taken = sym (ap (λ (b : Bool). b && true) room);
      new_is = ap (λ (l : List ℕ). record view { had = l })
          (set_changed view.had i one_more n m here at f)
          ∙ ap (λ (x : OutstationsState). record x { had = changed_at i one_more x.had }) whole;
    }

-- a line's report was taken
pub reported_here : (passed i : ℕ) (old view mid : OutstationsState) (d : DueReport)
    (report : List ℕ) →
    due_in passed i old.cues ≡ Some d → report ≡ d.report →
    IsReported d.station d.class report old true mid → view ≡ mid → (q r : Cue) →
    i < length old.cues → q ≡ get_or view.cues i q → r ≡ given_at passed q →
    LineReports passed i old (record view { cues = slice_set view.cues i r })
reported_here passed i old view mid d report due same taken e q r lt at f =
    let whole : view ≡ reported d.station d.class report old = e ∙ taken.new_is in
    let here : i < length view.cues =
    subst (λ (x : OutstationsState). i < length x.cues) (sym whole) lt in
    let written : record view { cues = slice_set view.cues i r }
    ≡ record mid { cues = changed_at i (given_at passed) mid.cues } =
    ap (λ (l : List Cue). record view { cues = l })
    (set_changed view.cues i (given_at passed) q r here at f)
    ∙ ap (λ (x : OutstationsState). record x { cues = changed_at i (given_at passed) x.cues }) e in
    let reported : GivesDue passed i (Some d) old (record view { cues = slice_set view.cues i r })
    = (
      true,
      mid,
      subst (λ (l : List ℕ). IsReported d.station d.class l old true mid) same taken,
      written,
    ) in
    subst (λ (o : Option DueReport). GivesDue passed i o old
    (record view { cues = slice_set view.cues i r })) (sym due) reported
