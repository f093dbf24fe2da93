-- What becomes of commands is told, in the order of events.
use Rattle.std.proofs.Common.{◌≡◌, ℕ, ◌+◌, ◌-◌, ◌<◌, ◌≤◌, ◌==◌, ◌&&◌, ◌||◌, Bool, true, false, not}
use Rattle.std.proofs.Common.{List}
use Rattle.std.proofs.Common.{[], ◌∷◌, ◌++◌, length, Option, Some, None, refl, sym, ap, ◌∙◌}
use Rattle.std.proofs.Common.{arith, length-append, nat_lt, suc}
use Rattle.std.proofs.lemmas.Bool.Decides.{nat_tests}
use Rattle.std.proofs.lemmas.List.{take_all}
use Rattle.std.specs.Prelude.{if◌then◌else◌, slice_get}
use Rattle.std.specs.declared.net.ip_addr.IpAddr.{IpAddr}
use Rattle.asdu.specs.declared.sizes.Sizes.{Sizes}
use Rattle.command.specs.Refusals.{Seen, seen_judged}
use Rattle.command.specs.declared.refusal.Refusal.{Refusal}
use Rattle.gateway.specs.State.{State, counts_of, wall_now}
use Rattle.link.specs.declared.answer.Answer.TheVariants.{Busy, Report}
use Rattle.runlog.specs.Inbox as inbox
use Rattle.runlog.specs.Inbox.{Inbox, Orders, order_noted, rule_noted, waits_by}
use Rattle.runlog.specs.Logging.{Book, LogsEach, Tells, TellsUnless}
use Rattle.runlog.specs.OrderLists.{sent}
use Rattle.runlog.specs.Orders.{octet, order_of}
use Rattle.runlog.specs.Traffic.{answer_told, content_of, content_told, mishap_told, reply_of}
use Rattle.runlog.specs.Trails.{added, appended, at, fate_told, is_told, newest_first}
use Rattle.runlog.specs.Watching.{Watching, come_behind, command_sent, has_trail}
use Rattle.runlog.specs.Watching.{is_repeat, judged, order_at, sent_by, sent_to, told}
use Rattle.runlog.specs.declared.content.Content.{Content}
use Rattle.runlog.specs.declared.content.Content.TheVariants.{Reply}
use Rattle.runlog.specs.declared.fate.CommandFate.{CommandFate}
use Rattle.runlog.specs.declared.fate.CommandFate.TheVariants as fate
use Rattle.runlog.specs.declared.fate.Mishap.TheVariants as mishap
use Rattle.runlog.specs.declared.note.LogLine.{LogLine}
use Rattle.runlog.specs.declared.note.Note.{Note}
use Rattle.runlog.specs.declared.note.Note.TheVariants as note
use Rattle.runlog.specs.declared.order.Order.{Order}
use Rattle.runlog.specs.declared.traffic.Traffic.{Traffic}
use Rattle.runlog.proofs.Books.{logged_knows, still_over}
use Rattle.runlog.proofs.Handed.{handed_on}
use Rattle.runlog.proofs.Noted.{same_counts}

-- ---- One line

below : (n m : ℕ) → n < m → nat_lt n m ≡ true
below n m less = grind (arith, less)

pub told_so : (what : Note) (now : ℕ) (lines : List LogLine) → length lines < 128
    → added what now lines ≡ lines ++ at now what ∷ []
told_so what now lines less =
    ap (λ b. if b then lines ++ at now what ∷ [] else lines) (below (length lines) 128 less)

waits_as : (place : Option ℕ) (o : Order) (c : Orders) → (waits_by place o c).ordered ≡ c.ordered
waits_as None o c = refl
waits_as (Some place) o c = refl

pub comings_so : (g : State) (peer : Option IpAddr) (asdu : List ℕ) (o : Order) (c : Orders)
    → (seen_judged g.serial.commands asdu g.moment (wall_now g) c.seen).0 ≡ None
    → (order_noted g false peer asdu o c).ordered
    ≡ added (note.Ordered o peer) g.moment c.ordered
comings_so g peer asdu o c = by (seen_judged g.serial.commands asdu g.moment (wall_now g) c.seen)
  where
    by : (x : Option Refusal × Seen) → x.0 ≡ None
        → (rule_noted x g.moment peer o c).ordered
        ≡ added (note.Ordered o peer) g.moment c.ordered
    by (None, seen) passed = waits_as (sent o c.early) o
        (record c { seen = seen; ordered = added (note.Ordered o peer) g.moment c.ordered })
    by (Some rule, seen) passed = cc

pub sendings_so : (w : Watching) (place now : ℕ) (octets : List ℕ) (t : Traffic) (o : Order)
    → slice_get w.traffic place ≡ Some t → is_repeat place octets w ≡ false
    → order_at octets w ≡ Some o
    → (command_sent place octets now w).gone ≡ added (note.Fate o t.address fate.Sent) now w.gone
sendings_so w place now octets t o found first is =
    ap (λ x. (sent_by x place octets now w).gone) found
    ∙ ap (λ b. (if b then w else sent_to t place octets now w).gone) first
    ∙ ap (λ x. fate_told (Some fate.Sent) x t.address now w.gone) is

pub replied_so : (s : Sizes) (now : ℕ) (report : List ℕ) (what : CommandFate) (o : Order)
    (t : Traffic) (lines : List LogLine) → content_of s report ≡ Reply
    → reply_of (octet report 2) ≡ Some what → order_of s report ≡ Some o
    → answer_told (Some (Report report)) s now t lines
    ≡ added (note.Fate o t.address what) now lines
replied_so s now report what o t lines content reply is =
    ap (λ (x : Content). content_told x s now report t lines) content
    ∙ ap (λ x. fate_told x (order_of s report) t.address now lines) reply
    ∙ ap (λ x. fate_told (Some what) x t.address now lines) is

pub busy_told : (s : Sizes) (now : ℕ) (o : Order) (t : Traffic) (lines : List LogLine)
    → t.order ≡ Some o
    → (answer_told (Some Busy) s now t lines ≡ added (note.Fate o t.address fate.Busy) now lines)
    × (mishap_told mishap.GivenUp now t lines
    ≡ added (note.Fate o t.address fate.GivenUp) now lines)
busy_told s now o t lines is = (
  ap (λ x. fate_told (Some fate.Busy) x t.address now lines) is,
  ap (λ x. fate_told (Some fate.GivenUp) x t.address now lines) is,
)

-- ---- Their order in a step

all_appended : (more lines : List LogLine) → length lines + length more ≤ 128
    → appended more lines ≡ lines ++ more
all_appended more lines fits =
    ap (λ x. lines ++ x) (take_all (128 - length lines) more (omega (arith, fits)))

pub ordered_so : (s : State) (w : Watching)
    → let came = inbox.judged s w.connection.peer w.inbox in
    length w.trail + length came.orders.ordered + length w.gone ≤ 128
    → w.seen ≡ counts_of s
    → (judged s w).trail ≡ (w.trail ++ came.orders.ordered) ++ w.gone
ordered_so s w fits seen =
    let came = inbox.judged s w.connection.peer w.inbox in
    let v : Watching = come_behind (record w { inbox = came }) in
    let come = all_appended came.orders.ordered w.trail (omega (arith, fits)) in
    ap (λ (x : Watching). appended x.gone x.trail) (same_counts (counts_of s) v seen)
    ∙ ap (λ x. appended w.gone x) come
    ∙ all_appended w.gone (w.trail ++ came.orders.ordered)
    (omega (arith, fits, length-append w.trail came.orders.ordered))

-- ---- All are handed over

knows_each : (lines : List LogLine) (old new : Book) → LogsEach lines old new
    → new.watching.trail ≡ old.watching.trail
knows_each [] old new is = ap (λ (b : Book). b.watching.trail) is
knows_each (line ∷ lines) old new (book, one, others) =
    knows_each lines book new others
    ∙ ap (λ (b : Book). b.watching.trail) one.done
    ∙ ap (λ (w : Watching). w.trail) (logged_knows (Some line) one.taken old)

over_each : (lines : List LogLine) (old new : Book) → LogsEach lines old new
    → old.is_over ≡ true → new.is_over ≡ true
over_each [] old new is over = ap (λ (b : Book). b.is_over) is ∙ over
over_each (line ∷ lines) old new (book, one, others) over =
    over_each lines book new others
    (ap (λ (b : Book). b.is_over) one.done ∙ still_over (Some line) one.taken old over)

no_end : (a b : Bool) → a ≡ true → (a ≡ true → b ≡ true) → b ≡ false → a ≡ false
no_end a b is more not_so = let no : true ≡ false = sym (more is) ∙ not_so in cc

goes_on : (lines : List LogLine) (book new : Book) (over : Bool) → book.is_over ≡ over
    → LogsEach lines book new → new.is_over ≡ false → book.is_over ≡ false
goes_on lines book new false is others lasts = is
goes_on lines book new true is others lasts =
    no_end book.is_over new.is_over is (over_each lines book new others) lasts

each_handed : (lines : List LogLine) (old new : Book) (before : List LogLine)
    → LogsEach lines old new → old.is_over ≡ false → new.is_over ≡ false
    → old.handed ≡ Some before → new.handed ≡ Some (newest_first lines before)
each_handed [] old new before is lasts still handed = ap (λ (b : Book). b.handed) is ∙ handed
each_handed (line ∷ lines) old new before (book, one, others) lasts still handed =
    each_handed lines book new (line ∷ before) others
    (goes_on lines book new book.is_over refl others still) still
    (ap (λ (b : Book). b.handed) one.done ∙ handed_on line one.taken old before lasts handed)

-- nothing is told only if nothing is there
open_tells : (over watched some : Bool) (old new : Book) → over ≡ false
    → TellsUnless ((over && not watched) || not some) old new
    → TellsUnless (not some) old new
open_tells false watched some old new lasts tells = tells
open_tells true watched some old new lasts tells = cc

one_more : (n : ℕ) → (suc n == 0) ≡ false
one_more n = grind (arith, nat_tests)

none_there : (lines : List LogLine) → is_told lines ≡ true → lines ≡ []
none_there [] is = refl
none_there (line ∷ lines) is = let no : false ≡ true = sym (one_more (length lines)) ∙ is in cc

module _ (old new : Book) (tells : Tells old new) (lasts : old.is_over ≡ false) where
  told_as : TellsUnless (not (has_trail old.watching)) old new
  told_as = open_tells old.is_over old.is_watching (has_trail old.watching) old new lasts tells

  whole_by : (done : Bool) → is_told old.watching.trail ≡ done
      → TellsUnless (not (not done)) old new
      → (before : List LogLine) → new.is_over ≡ false → old.handed ≡ Some before
      → new.handed ≡ Some (newest_first old.watching.trail before)
  whole_by true is same before still handed =
      ap (λ (b : Book). b.handed) same ∙ handed
      ∙ ap (λ lines. Some (newest_first lines before)) (sym (none_there old.watching.trail is))
  whole_by false is each before still handed =
      each_handed old.watching.trail (record old { watching = told old.watching }) new before each
      lasts still handed

  once_by : (done : Bool) → is_told old.watching.trail ≡ done
      → TellsUnless (not (not done)) old new → new.watching.trail ≡ []
  once_by true is same =
      ap (λ (b : Book). b.watching.trail) same ∙ none_there old.watching.trail is
  once_by false is each =
      knows_each old.watching.trail (record old { watching = told old.watching }) new each

pub told_whole : (old new : Book) (before : List LogLine) → Tells old new
    → old.is_over ≡ false → new.is_over ≡ false → old.handed ≡ Some before
    → new.handed ≡ Some (newest_first old.watching.trail before)
told_whole old new before tells lasts still handed =
    whole_by old new tells lasts (is_told old.watching.trail) refl (told_as old new tells lasts)
    before still handed

pub told_once : (old new : Book) → Tells old new → old.is_over ≡ false → new.watching.trail ≡ []
told_once old new tells lasts =
    once_by old new tells lasts (is_told old.watching.trail) refl (told_as old new tells lasts)
