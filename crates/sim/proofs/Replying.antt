-- The replies to commands.
use Rattle.std.proofs.Common.{◌≡◌, ℕ, zero, suc, ◌+◌, ◌<◌, ◌≤◌, Bool, true, false, List, [], ◌∷◌}
use Rattle.std.proofs.Common.{length}
use Rattle.std.proofs.Common.{get_or, slice_set, map, Option, Some, None, ap, refl, sym, subst, ◌∙◌}
use Rattle.std.proofs.Common.{arith, add-one}
use Rattle.std.proofs.Common.{drop}
use Rattle.std.proofs.lemmas.List.{drop_all, drop_more}
use Rattle.std.proofs.lemmas.Option.{slice_get-map, slice_get_read}
use Rattle.std.specs.Prelude.{if◌then◌else◌, option_map, slice_get}
use Rattle.asdu.specs.Asdu.{AsduValue}
use Rattle.link.specs.Requests.{FitsFrame}
use Rattle.link.specs.Secondary.{Secondary}
use Rattle.sim.specs.declared.directive.Class.TheVariants.{One}
use Rattle.sim.specs.Exchanges.{OutstationsState}
use Rattle.sim.specs.Progress.{next_step}
use Rattle.sim.specs.Replies.{IsReply, cause_of_reply, confirmation_of, is_command}
use Rattle.sim.specs.Replies.{termination_of}
use Rattle.sim.specs.Replying.{GivesReply, IsNextTo, Replies}
use Rattle.sim.specs.Replying.{RepliesBy, RepliesEach, RepliesFrom, RepliesTo, accepted_by}
use Rattle.sim.specs.Replying.{advanced, command_at, manner_in, manner_of}
use Rattle.sim.specs.Reporting.{IsReported, changed_at}
use Rattle.sim.specs.declared.stations.cue.Cue.{Cue}
use Rattle.sim.specs.declared.stations.outstations.replying.ReplyProgress.{ReplyProgress}
use Rattle.sim.proofs.Reporting.{set_changed}

-- the cause of the reply to an ASDU that was read
pub cause_read : (refuses is_confirmed : Bool) (w v : AsduValue) (r : Option ℕ) → w ≡ v →
    is_command w.kind ≡ true →
    r ≡ (if is_confirmed then termination_of refuses w else confirmation_of refuses w) →
    r ≡ cause_of_reply refuses is_confirmed v
cause_read refuses is_confirmed w v r same command e =
    let reply : Option ℕ =
    if is_confirmed then termination_of refuses w else confirmation_of refuses w in
    let choice : Bool → Option ℕ = λ b. if b then reply else None in
    e
    ∙ (ap choice (sym command)
    ∙ ap (λ (u : AsduValue). cause_of_reply refuses is_confirmed u) same)

-- ---- How a station replies

pub manner_here : (station : ℕ) (cues : List Cue) (i : ℕ) (d : Cue) (refuses : Bool) →
    i < length cues → Some refuses ≡ manner_in station (get_or cues i d) →
    manner_of station (drop i cues) ≡ Some refuses
manner_here station cues i d refuses lt e = rw (drop_more cues i d lt, ← e)

pub manner_next : (station : ℕ) (cues : List Cue) (i : ℕ) (d : Cue) → i < length cues →
    None ≡ manner_in station (get_or cues i d) →
    manner_of station (drop i cues) ≡ manner_of station (drop (i + 1) cues)
manner_next station cues i d lt e = rw (drop_more cues i d lt, ← e)

pub manner_end : (station : ℕ) (cues : List Cue) (i : ℕ) → length cues ≤ i →
    manner_of station (drop i cues) ≡ None
manner_end station cues i le = rw (drop_all i cues le)

-- ---- What is next

-- the commands of a station that is here
command_of : (s : OutstationsState) (i k : ℕ) (one : Secondary) → i < length s.stations →
    one ≡ get_or s.stations i one → command_at i k s.stations ≡ slice_get one.accepted k
command_of s i k one lt at =
    ap (λ (x : Option Secondary). accepted_by x k)
    (slice_get_read s.stations (length s.stations) i one refl lt at)

next_to : (s : OutstationsState) (i : ℕ) (refuses : Bool) (p : ReplyProgress) (one : Secondary)
    (accepted : List (List ℕ)) (command : List ℕ) (reply : Option (List ℕ)) →
    i < length s.progress → p ≡ get_or s.progress i p → i < length s.stations →
    one ≡ get_or s.stations i one → accepted ≡ one.accepted →
    slice_get accepted p.commands ≡ Some command →
    IsReply s.size s.sizes refuses p.is_confirmed command reply →
    IsNextTo s refuses (slice_get s.progress i) i reply
next_to s i refuses p one accepted command reply here is lt at same found replies =
    let there : command_at i p.commands s.stations ≡ Some command =
    command_of s i p.commands one lt at
    ∙ (ap (λ (l : List (List ℕ)). slice_get l p.commands) (sym same) ∙ found) in
    subst (λ (o : Option ReplyProgress). IsNextTo s refuses o i reply)
    (sym (slice_get_read s.progress (length s.progress) i p refl here is))
    (command, there, replies)

pub next_now : (view now : OutstationsState) → view ≡ now
    → (i : ℕ) (refuses : Bool) (p : ReplyProgress)
    (one : Secondary) (accepted : List (List ℕ)) (command : List ℕ) (reply : Option (List ℕ)) →
    i < length view.progress → p ≡ get_or view.progress i p → i < length view.stations →
    one ≡ get_or view.stations i one → accepted ≡ one.accepted →
    slice_get accepted p.commands ≡ Some command →
    IsReply view.size view.sizes refuses p.is_confirmed command reply →
    IsNextTo now refuses (slice_get now.progress i) i reply
next_now view now e i refuses p one accepted command reply here is lt at same found replies =
    subst (λ (s : OutstationsState). IsNextTo s refuses (slice_get s.progress i) i reply) e
    (next_to view i refuses p one accepted command reply here is lt at same found replies)

pub fits_now : (view now : OutstationsState) → view ≡ now → (reply : List ℕ) →
    FitsFrame view.size reply → FitsFrame now.size reply
fits_now view now e reply fits = subst (λ (s : OutstationsState). FitsFrame s.size reply) e fits

-- an accepted command, of vectors
pub command_read : {A : Type 0} → (octets : A → List ℕ) (commands : List A) (k : ℕ) (x : A) →
    k < length commands → x ≡ get_or commands k x →
    slice_get (map octets commands) k ≡ Some (octets x)
command_read octets commands k x lt at =
    slice_get-map octets commands k
    ∙ ap (λ o. option_map octets o)
    (slice_get_read commands (length commands) k x refl lt at)

-- ---- One reply

pub advanced_past : (view now : OutstationsState) → view ≡ now → (i : ℕ) → length view.progress ≤ i
    →
    now ≡ advanced i now
advanced_past view now e i le =
    ap (λ (l : List ReplyProgress). record now { progress = l })
    (sym (unchanged now.progress i
    (subst (λ (s : OutstationsState). length s.progress ≤ i) e le)))
  where
    unchanged : (ps : List ReplyProgress) (i : ℕ) → length ps ≤ i → changed_at i next_step ps ≡ ps
    unchanged [] i le = refl
    unchanged (p ∷ ps) zero le = absurd (omega arith)
    unchanged (p ∷ ps) (suc i) le =
        ap (λ (l : List ReplyProgress). p ∷ l) (unchanged ps i (omega arith))

pub advanced_here : (view now : OutstationsState) → view ≡ now → (i : ℕ) (p q : ReplyProgress) →
    i < length view.progress → p ≡ get_or view.progress i p → q ≡ next_step p →
    record view { progress = slice_set view.progress i q } ≡ advanced i now
advanced_here view now e i p q lt at f =
    ap (λ (l : List ReplyProgress). record view { progress = l })
    (set_changed view.progress i next_step p q lt at f)
    ∙ ap (λ (s : OutstationsState). advanced i s) e

by_manner : (i : ℕ) (old new : OutstationsState) (refuses : Bool) (m : Option Bool) →
    Some refuses ≡ m → RepliesBy i (Some refuses) old new → RepliesBy i m old new
by_manner i old new refuses m e h = subst (λ (o : Option Bool). RepliesBy i o old new) e h

replied_to : (i : ℕ) (old new : OutstationsState) (refuses : Bool) (o : Option ReplyProgress)
    (reply : Option (List ℕ)) → IsNextTo old refuses o i reply → GivesReply i reply old new →
    RepliesFrom i refuses o old new
replied_to i old new refuses None reply next gives = absurd next
replied_to i old new refuses (Some p) reply next gives =
    subst (λ (c : Option (List ℕ)). RepliesTo i refuses p.is_confirmed c old new) (sym next.1)
    (reply, next.2, gives)

pub replied : (i : ℕ) (old new : OutstationsState) (refuses : Bool) (reply : Option (List ℕ)) →
    Some refuses ≡ manner_of i old.cues →
    IsNextTo old refuses (slice_get old.progress i) i reply → GivesReply i reply old new →
    Replies i old new
replied i old new refuses reply m next gives =
    by_manner i old new refuses (manner_of i old.cues) m
    (replied_to i old new refuses (slice_get old.progress i) reply next gives)

pub replies_more : (n : ℕ) (old mid new : OutstationsState) → RepliesEach n old mid
    → Replies n mid new →
    RepliesEach (n + 1) old new
replies_more n old mid new h r = rw add-one (mid, h, r)

-- a reply was taken as a report, or wasn't
pub gives_taken : (i : ℕ) (old mid new : OutstationsState) (reply octets : List ℕ) → octets ≡ reply
    →
    IsReported i One octets old true mid → new ≡ advanced i mid →
    GivesReply i (Some reply) old new
gives_taken i old mid new reply octets e taken n =
    (true, mid, subst (λ (l : List ℕ). IsReported i One l old true mid) e taken, n)

pub gives_waiting : (i : ℕ) (old mid : OutstationsState) (reply octets : List ℕ) → octets ≡ reply →
    IsReported i One octets old false mid → GivesReply i (Some reply) old mid
gives_waiting i old mid reply octets e waits =
    (false, mid, subst (λ (l : List ℕ). IsReported i One l old false mid) e waits, refl)

pub manner_is : (view now : OutstationsState) → view ≡ now
    → (i : ℕ) (cues : List Cue) (refuses : Bool) →
    Some refuses ≡ manner_of i cues → cues ≡ view.cues → Some refuses ≡ manner_of i now.cues
manner_is view now e i cues refuses m same =
    m
    ∙ (ap (λ (l : List Cue). manner_of i l) same
    ∙ ap (λ (s : OutstationsState). manner_of i s.cues) e)
