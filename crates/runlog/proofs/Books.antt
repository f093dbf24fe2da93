-- What passes is known and logged, and how a run ends.
use Rattle.std.proofs.Common.{◌≡◌, ℕ, Bool, true, false, List, [], ◌∷◌, Option, Some, None, take}
use Rattle.std.proofs.Common.{refl, sym, ap, subst, ◌∙◌}
use Rattle.std.proofs.Common.{arith}
use Rattle.std.proofs.lemmas.List.{take-take}
use Rattle.std.specs.Prelude.{if◌then◌else◌}
use Rattle.gateway.specs.Log.{Output}
use Rattle.gateway.specs.State.{State}
use Rattle.gateway.specs.declared.ports.Next.{Next}
use Rattle.live.specs.declared.watched.EndsSight.{EndsSight}
use Rattle.runlog.specs.Befallen.{IsFollowed, IsWatched}
use Rattle.runlog.specs.Latest.{is_shown, latest_with, shown_behind}
use Rattle.runlog.specs.Logging.{Book, LogsAction, LogsEach, LogsEventSeeing, LogsLook, after}
use Rattle.runlog.specs.Logging.{handed_over, logged, unless_over}
use Rattle.runlog.specs.Passing.{Between, Came, Passed, Went, passed}
use Rattle.runlog.specs.Watching.{Watching, heard, heard_if}
use Rattle.runlog.specs.declared.note.LogLine.{LogLine}
use Rattle.runlog.proofs.Handed.{handed_on, heard_of, over_on}

-- ---- Each that passes

still_watched : (old new : Book) → IsWatched old → unless_over old new ≡ new
still_watched old new watched = ap (λ b. if b then old else new) watched

pub logged_knows : (line : Option LogLine) (taken : Bool) (b : Book)
    → (logged line taken b).watching ≡ heard_if line b.watching
logged_knows None taken b = refl
logged_knows (Some line) taken b = by_end b.is_over
  where
    by_end : (over : Bool)
        → (if over then heard_of line b else handed_over line taken (heard_of line b)).watching
        ≡ heard line b.watching
    by_end true = refl
    by_end false = refl

module _ (p : Passed) (old : Book) (taken : Bool) where
  abbrev behind : Book
  behind = after (passed p old.watching) taken old

  follows : IsFollowed p old behind
  follows = record {
    known = logged_knows (passed p old.watching).1 taken
        (record old { watching = (passed p old.watching).0 });
    line = λ l before is goes_on handed.
        ap (λ (o : Option LogLine). (logged o taken
        (record old { watching = (passed p old.watching).0 })).handed) is
        ∙ handed_on l taken (record old { watching = (passed p old.watching).0 }) before goes_on
        handed;
    none = λ is.
        ap (λ (o : Option LogLine). (logged o taken
        (record old { watching = (passed p old.watching).0 })).handed) is;
  }

  followed_so : (new : Book) → IsWatched old → new ≡ unless_over old behind
      → IsFollowed p old new
  followed_so new watched done =
      subst (IsFollowed p old) (sym (done ∙ still_watched old behind watched)) follows

pub event_followed : (sight : EndsSight) (old new : Book) (event : Next) (octets : List ℕ)
    → IsWatched old → LogsEventSeeing sight old event octets new
    → IsFollowed (Came event octets sight) old new
event_followed sight old new event octets watched logs =
    followed_so (Came event octets sight) old logs.taken new watched logs.done

pub action_followed : (old new : Book) (now : ℕ) (action : Output) → IsWatched old
    → LogsAction old now action new → IsFollowed (Went now action) old new
action_followed old new now action watched logs =
    followed_so (Went now action) old logs.taken new watched logs.done

pub look_followed : (old new : Book) (gateway : State) → IsWatched old
    → LogsLook old gateway new → IsFollowed (Between gateway) old new
look_followed old new gateway watched logs =
    followed_so (Between gateway) old logs.taken new watched logs.done

-- ---- The latest lines

on_twenty : (is : Bool) (line : LogLine) (before : List LogLine)
    → (if is then take 20 (line ∷ take 20 before) else take 20 before)
    ≡ take 20 (if is then line ∷ before else before)
on_twenty true line before = ap (λ ls. line ∷ ls) (take-take 19 20 before (omega arith))
on_twenty false line before = refl

pub latest_each : (lines before : List LogLine) (old new : Book) → LogsEach lines old new
    → old.watching.latest ≡ take 20 before
    → new.watching.latest ≡ take 20 (shown_behind lines before)
latest_each [] before old new is those = ap (λ (b : Book). b.watching.latest) is ∙ those
latest_each (line ∷ lines) before old new (book, one, others) those =
    latest_each lines (if is_shown line.note then line ∷ before else before) book new others
    (ap (λ (b : Book). b.watching.latest) one.done
    ∙ ap (λ (w : Watching). w.latest) (logged_knows (Some line) one.taken old)
    ∙ ap (latest_with line) those ∙ on_twenty (is_shown line.note) line before)

-- ---- The end

pub still_over : (line : Option LogLine) (taken : Bool) (b : Book) → b.is_over ≡ true
    → (logged line taken b).is_over ≡ true
still_over None taken b over = over
still_over (Some line) taken b over =
    ap (λ (x : Book). x.is_over) (over_on line taken b over) ∙ over
