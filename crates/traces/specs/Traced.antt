-- What a port over the entries of a trace is to its callers.
use Rattle.std.specs.Prelude.{◌≡◌, ℕ, Bool, true, false, ◌&&◌, List, [], ◌∷◌, ◌++◌, map, Option}
use Rattle.std.specs.List.{AllByRecursion}
use Rattle.std.specs.Io.KnownBytes.{Appends}
use Rattle.gateway.specs.Log.{Log, LogEntry, events_of}
use Rattle.gateway.specs.declared.ports.Next.{Next}
use Rattle.gateway.specs.declared.ports.Next.TheVariants.{Done}
use Rattle.gateway.specs.Entries.{FitsPort, event_of, script_of, IsAnnounced}
use Rattle.gateway.specs.declared.entries.Entry.{Entry}
use Rattle.traces.specs.declared.health.Health.{Health}
use Rattle.traces.specs.declared.health.Health.TheVariants.{Good, Refused, Broken}
use Rattle.traces.specs.Actions.{lines_of_actions}

-- the log so far, how often the port failed and why at first, whether the tick at moment 0 was
-- given, the entries that are still to come, and what the writer holds, if that is known
pub record Traced : Type 0 where
  pub log : Log
  pub failed : ℕ
  pub health : Health
  pub started : Bool
  pub left : List Entry
  pub written : Option (List ℕ)

-- before the first entry, when the tick at moment 0 is still to come, or isn't to be given
abbrev pub first_traced : (started : Bool) → List Entry → (written : Option (List ℕ)) → Traced
first_traced started entries written = record {
  log = [];
  failed = 0;
  health = Good;
  started = started;
  left = entries;
  written = written;
}

abbrev pub is_none_left : List Entry → Bool
is_none_left [] = true
is_none_left (entry ∷ entries) = false

abbrev pub has_ended : Traced → Bool
has_ended t = t.started && is_none_left t.left

-- the events that are still to come
abbrev pub coming : (started : Bool) → List Entry → List LogEntry
coming true left = map event_of left
coming false left = script_of left

-- the events of the whole run: those that came, and those that are still to come
abbrev pub whole_script : Traced → List LogEntry
whole_script t = events_of t.log ++ coming t.started t.left

-- memory was refused
abbrev pub is_refused : Health → Bool
is_refused Good = false
is_refused Refused = true
is_refused Broken = false

-- a failure for want of memory; the first failure's reason stays
abbrev pub refused : Health → Health
refused Good = Refused
refused Refused = Refused
refused Broken = Broken

-- a write failed
abbrev pub is_broken : Health → Bool
is_broken Good = false
is_broken Refused = false
is_broken Broken = true

-- The writer had this before, and has got the lines of the log's actions since. If a write failed
-- it may have got a part of one more line.
abbrev pub HasLines : Option (List ℕ) → Traced → Type 0
HasLines before t = is_broken t.health ≡ false → Appends before t.written (lines_of_actions t.log)

-- what always holds of a port whose writer had this before
pub record IsTraced (before : Option (List ℕ)) (t : Traced) : Type 0 where
  pub fits : AllByRecursion FitsPort t.left
  pub lines : HasLines before t
  pub sound : t.failed ≡ 0 → t.health ≡ Good

-- The next entry, if there is one, is no longer to come, and stands in the log.
abbrev pub TakesFrom : List Entry → Traced → Traced → Next → List ℕ → Type 0
TakesFrom [] old new next buf = (new ≡ old) × (next ≡ Done)
TakesFrom (entry ∷ left) old new next buf =
    (new ≡ record old { log = event_of entry ∷ old.log; left = left })
    × IsAnnounced entry next buf

abbrev pub Takes : Traced → Traced → List ℕ → Next → Type 0
Takes old new buf next = TakesFrom old.left old new next buf
