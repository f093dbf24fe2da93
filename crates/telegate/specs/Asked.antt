-- What a live run asks its site for (profile).
use Rattle.std.specs.Prelude.{◌≡◌, ℕ, Bool, true, false, List, [], ◌∷◌, Option, Some, None}
use Rattle.std.specs.Prelude.{option_map, Result, IfErr}
use Rattle.std.specs.Borrow.{Bor}
use Rattle.clap.specs.Words.{Text}
use Rattle.gateway.specs.Log.{Log}
use Rattle.settings.specs.Live.{Places}
use Rattle.telegate.specs.declared.host.Wishes.{Wishes}
use Rattle.telegate.specs.declared.site.SiteRequest.{SiteRequest}
use Rattle.telegate.specs.declared.site.SiteRequest.TheVariants as request

-- What a site was asked for, and whether it gave that: where the log goes, and where the record
-- does; the listener for visitors at a place; the directory of a name, in which a state is kept;
-- the listener for control centres at a place; and the line at a place, which is reached again when
-- it ends, or not.
pub data SiteCall : Type 0 where
  LogAt : SiteCall
  RecordAt : SiteCall
  StatusAt : (place : List ℕ) → (given : Bool) → SiteCall
  StateIn : (name : List ℕ) → (given : Bool) → SiteCall
  ListenAt : (place : List ℕ) → (given : Bool) → SiteCall
  LineAt : (place : List ℕ) → (again given : Bool) → SiteCall

-- The places of a site, and what led to the state at the head of the newest log in its directory.
-- What it was asked for, the newest first, and the moments, in ms, at which the clocks that it gave
-- begin, if it notes that.
pub record Asked : Type 0 where
  pub places : Places
  pub lineage : Log
  pub calls : Option (List SiteCall)
  pub clocks : Option (List ℕ)

-- a site with these places, if this led to the state there and this was noted so far
abbrev pub asked_by : (lineage : Log) → (calls : Option (List SiteCall))
    → (clocks : Option (List ℕ)) → Places → Asked
asked_by lineage calls clocks places = record {
  places = places;
  lineage = lineage;
  calls = calls;
  clocks = clocks;
}

-- these more
abbrev pub calls_behind : (calls : List SiteCall) → (before : Option (List SiteCall))
    → Option (List SiteCall)
calls_behind [] before = before
calls_behind (call ∷ calls) before =
    option_map (λ others. call ∷ others) (calls_behind calls before)

abbrev pub asked_for : List SiteCall → Asked → Asked
asked_for calls a = record {
  places = a.places;
  lineage = a.lineage;
  calls = calls_behind calls a.calls;
  clocks = a.clocks;
}

-- its listener and its line are at its own places
abbrev pub listen_asked : (given : Bool) → Asked → Asked
listen_asked given a = asked_for (ListenAt a.places.listen given ∷ []) a

abbrev pub line_asked : (again given : Bool) → Asked → Asked
line_asked again given a = asked_for (LineAt a.places.line again given ∷ []) a

-- a clock that begins at this moment, if it was given
abbrev pub clocks_by : (given : Bool) → (moment : ℕ) → Option (List ℕ) → Option (List ℕ)
clocks_by true moment clocks = option_map (λ before. moment ∷ before) clocks
clocks_by false moment clocks = clocks

abbrev pub clock_asked : (given : Bool) → (moment : ℕ) → Asked → Asked
clock_asked given moment a = record {
  places = a.places;
  lineage = a.lineage;
  calls = a.calls;
  clocks = clocks_by given moment a.clocks;
}

-- what a process notes of a call
abbrev pub calls_of : SiteRequest → List SiteCall
calls_of request.Log = LogAt ∷ []
calls_of request.Record = RecordAt ∷ []
calls_of (request.Status place given) = StatusAt place.now given ∷ []
calls_of (request.State name given) = StateIn name.now given ∷ []
calls_of (request.Listener place given) = ListenAt place.now given ∷ []
calls_of (request.Line place again given) = LineAt place.now again given ∷ []
calls_of (request.Clock moment given) = []

abbrev pub clocks_of : SiteRequest → Option (List ℕ) → Option (List ℕ)
clocks_of (request.Clock moment given) clocks = clocks_by given moment clocks
clocks_of _ clocks = clocks

-- no clock was given if this is an error: so nothing has run
abbrev pub UnclockedIfErr : {A E : Type 0} → Result A E → (old new : Asked) → Type 0
UnclockedIfErr result old new = IfErr result (λ _. new.clocks ≡ old.clocks)

-- if something is named for it, a call that was given
abbrev pub call_if : (call : List ℕ → (given : Bool) → SiteCall) → Option (Bor Text)
    → List SiteCall
call_if call None = []
call_if call (Some name) = call name.now true ∷ []

-- where log, page and record go
abbrev pub scribes_asked : Option (Bor Text) → Asked → Asked
scribes_asked status a =
    asked_for (RecordAt ∷ []) (asked_for (call_if StatusAt status) (asked_for (LogAt ∷ []) a))

-- the listener, the line, and a clock that begins at this moment, one behind another
abbrev pub ends_asked : (again : Bool) → (moment : ℕ) → Asked → Asked
ends_asked again moment a = clock_asked true moment (line_asked again true (listen_asked true a))

-- All that a run asks for, each once, in this order. Its clock begins at this moment.
abbrev pub run_asked : Wishes → (moment : ℕ) → Asked → Asked
run_asked wishes moment a =
    ends_asked wishes.redial moment
    (asked_for (call_if StateIn wishes.state) (scribes_asked wishes.status a))
