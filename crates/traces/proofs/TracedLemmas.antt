-- A port over the entries of a trace, call by call.
use Rattle.std.proofs.Common.{◌≡◌, ℕ, false, List, [], ◌∷◌, ◌++◌, map, reverse, Option, refl, ap}
use Rattle.std.proofs.Common.{sym, ◌∙◌, subst, append_assoc}
use Rattle.std.proofs.lemmas.List.{reverse-append}
use Rattle.std.specs.Io.KnownBytes.{Appends}
use Rattle.std.specs.Prelude.{is_err, Result, Ok, Err, OnOk}
use Rattle.std.proofs.KnownBytes.{Appends-trans}
use Rattle.gateway.specs.Log.{Log, LogEntry, Went, Output, events_of}
use Rattle.gateway.specs.Entries.{event_of, logged_of, stored_log, log_of}
use Rattle.gateway.specs.declared.entries.Entry.{Entry}
use Rattle.gateway.specs.declared.entries.Entry.TheVariants.{Line, Open, Bytes, Cut, Tick, Wall}
use Rattle.gateway.specs.declared.entries.StoredEntry.{StoredEntry}
use Rattle.traces.specs.Actions.{line_of, lines_of_actions}

-- what is stored last is the newest
stored_next : (xs : List StoredEntry) (x : StoredEntry) (log : Log) → stored_log (xs ++ x ∷ []) log
    ≡ logged_of x ∷ stored_log xs log
stored_next [] x log = refl
stored_next (y ∷ xs) x log = stored_next xs x (logged_of y ∷ log)

pub log_next : (xs : List StoredEntry) (x : StoredEntry) → log_of (xs ++ x ∷ [])
    ≡ logged_of x ∷ log_of xs
log_next xs x = stored_next xs x []

-- the last of the entries kept is the next one
pub first_left : (xs : List Entry) (x : Entry) → reverse (xs ++ x ∷ []) ≡ x ∷ reverse xs
first_left xs x = reverse-append xs (x ∷ [])

-- an event of an entry has no line
pub no_line : (entry : Entry) (log : Log) → lines_of_actions (event_of entry ∷ log)
    ≡ lines_of_actions log
no_line (Line now octets) log = refl
no_line (Open now) log = refl
no_line (Bytes now octets) log = refl
no_line (Cut now) log = refl
no_line (Tick now) log = refl
no_line (Wall now number) log = refl

-- An action that was put: its line went out, and it is stored.

pub log_put : (xs ys zs : List StoredEntry) (logged : StoredEntry) (entry : LogEntry)
    → logged_of logged ≡ entry
    → ys ≡ xs
    → zs ≡ ys ++ logged ∷ [] → log_of zs ≡ entry ∷ log_of xs
log_put xs ys zs logged entry is same put = ap log_of put ∙ log_next ys logged
    ∙ ap (λ e. e ∷ log_of ys) is
    ∙ ap (λ l. entry ∷ log_of l) same

pub lines_put : (before old new : Option (List ℕ)) (xs ys zs : List StoredEntry)
    (logged : StoredEntry)
    (line : List ℕ) (now : ℕ)
    (action : Output) →
    Appends before old (lines_of_actions (log_of xs)) → Appends old new line
    → line ≡ line_of now action
    → logged_of logged ≡ Went now action → ys ≡ xs → zs ≡ ys ++ logged ∷ []
    → Appends before new (lines_of_actions (log_of zs))
lines_put before old new xs ys zs logged line now action had got text is same put =
    subst (λ log. Appends before new (lines_of_actions log))
    (sym (log_put xs ys zs logged (Went now action) is same put))
    (Appends-trans before old new _ (line_of now action) had (subst (Appends old new) text got))

-- what a call that didn't fail promises of its success
pub on_success : {T E : Type 0} (r : Result T E) (P : Type 0) → is_err r ≡ false → OnOk r P → P
on_success (Ok v) P good h = h
on_success (Err e) P good h = cc
