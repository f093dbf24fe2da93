-- What passes a recorder.
use Rattle.std.proofs.Common.{◌≡◌, ◌∙◌, ℕ, Bool, true, false, List, Option, Some, None, ap, refl}
use Rattle.std.proofs.Common.{append_assoc, if◌then◌else◌}
use Rattle.gateway.specs.Log.{Log, with_news}
use Rattle.gateway.specs.Ports.{logged_by}
use Rattle.gateway.specs.declared.ports.Next.{Next}
use Rattle.record.specs.Recording.{Recording, Gives, Notes, Receives, all_passed, behind, given}
use Rattle.record.specs.Recording.{held_by, log_of, logged_first, passed}

-- an event came, and its line was given to the sheet
pub receives : (old noted new : Recording) (next : Next) (buf : List ℕ)
    → Notes old (logged_by next buf) noted → Gives noted new →
    Receives old next buf new
receives old noted new next buf notes gives = record { noted = noted; notes = notes; gives = gives }

-- if both logs got the news, the first of the two got it
pub logged_both : (a b new_a new_b : Option Log) (news : Log) → new_a ≡ with_news a news
    → new_b ≡ with_news b news
    → logged_first new_a new_b ≡ with_news (logged_first a b) news
logged_both None b new_a new_b news is_a is_b = rw (is_a, is_b)
logged_both (Some log) b new_a new_b news is_a is_b = rw is_a

-- the lives before stay as they are
noted_before : (over memory : Bool) (old : Recording) (news : Log)
    → (if over then passed news old else held_by memory news old).before ≡ old.before
noted_before true memory old news = refl
noted_before false true old news = refl
noted_before false false old news = refl

pub notes_before : (old new : Recording) (news : Log) → Notes old news new
    → new.before ≡ old.before
notes_before old new news n =
    ap (λ (r : Recording). r.before) n.done ∙ noted_before old.is_over n.has_memory old news

gave_before : (over taken : Bool) (old : Recording)
    → (if over then old else given taken old).before ≡ old.before
gave_before true taken old = refl
gave_before false true old = refl
gave_before false false old = refl

pub gives_before : (old new : Recording) → Gives old new → new.before ≡ old.before
gives_before old new g =
    ap (λ (r : Recording). r.before) g.done ∙ gave_before old.is_over g.taken old

-- what is news of this life is news of all
news_behind : (before : Log) (old new : Option Log) (news : Log) → new ≡ with_news old news
    → behind before new ≡ with_news (behind before old) news
news_behind before None new news is = rw is
news_behind before (Some log) new news is = ap (behind before) is
    ∙ ap Some (append_assoc news log before)

pub passed_on : (old new : Recording) (port after : Option Log) (news : Log)
    → new.before ≡ old.before → log_of new ≡ with_news (log_of old) news
    → after ≡ with_news port news
    → all_passed new after ≡ with_news (all_passed old port) news
passed_on old new port after news same logged went =
    ap (λ before. behind before (logged_first (log_of new) after)) same
    ∙ news_behind old.before (logged_first (log_of old) port) _ news
    (logged_both (log_of old) port (log_of new) after news logged went)
