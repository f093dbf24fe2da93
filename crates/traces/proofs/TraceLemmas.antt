-- Lines one by one.
use Rattle.std.proofs.Common.{◌≡◌, ℕ, ◌+◌, List, [], ◌∷◌, ◌++◌, map, true, false, Some, None}
use Rattle.std.proofs.Common.{append_assoc}
use Rattle.std.proofs.lemmas.List.{map-append}
use Rattle.std.specs.List.{filter_map, AllByRecursion}
use Rattle.gateway.specs.declared.entries.Entry.{Entry}
use Rattle.gateway.specs.Entries.{FitsPort}
use Rattle.traces.specs.Event.{Event, event_of, event_in}
use Rattle.traces.specs.Trace.{is_skipped, logged, first_wrong}

-- what is read so far, before what these lines log
abbrev pub with_logged : List Entry → List (List ℕ) → List Event
with_logged entries lines = map event_of entries ++ filter_map logged lines

-- a skipped line logs nothing and isn't wrong
pub logged_skip : (es : List Entry) (lines rest : List (List ℕ)) (line : List ℕ)
    → lines ≡ line ∷ rest
    → is_skipped line ≡ true → with_logged es rest ≡ with_logged es lines
logged_skip es lines rest line is e = rw (is, e)

pub wrong_skip : (n : ℕ) (lines rest : List (List ℕ)) (line : List ℕ) → lines ≡ line ∷ rest
    → is_skipped line ≡ true
    → first_wrong (n + 1) rest ≡ first_wrong n lines
wrong_skip n lines rest line is e = rw (is, e)

-- a line that is an event logs it and isn't wrong
pub logged_next : (es : List Entry) (x : Entry) (lines rest : List (List ℕ)) (line : List ℕ)
    → lines ≡ line ∷ rest
    → is_skipped line ≡ false → event_in line ≡ Some (event_of x) → with_logged (es ++ x ∷ []) rest
    ≡ with_logged es lines
logged_next es x lines rest line is e some = rw (is, e, some, map-append, append_assoc)

pub wrong_next : (n : ℕ) (x : Event) (lines rest : List (List ℕ)) (line : List ℕ)
    → lines ≡ line ∷ rest
    → is_skipped line ≡ false → event_in line ≡ Some x → first_wrong (n + 1) rest
    ≡ first_wrong n lines
wrong_next n x lines rest line is e some = rw (is, e, some)

-- another line is wrong
pub wrong_here : (n : ℕ) (lines rest : List (List ℕ)) (line : List ℕ) → lines ≡ line ∷ rest
    → is_skipped line ≡ false
    → event_in line ≡ None → first_wrong n lines ≡ Some n
wrong_here n lines rest line is e none = rw (is, e, none)

-- one more entry that fits
pub fits_more : (es : List Entry) (x : Entry) → AllByRecursion FitsPort es → FitsPort x
    → AllByRecursion FitsPort (es ++ x ∷ [])
fits_more [] x all fits = (fits, tt)
fits_more (e ∷ es) x all fits = (all.0, fits_more es x all.1 fits)
