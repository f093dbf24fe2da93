-- Requests that are sent one after another, and what answers say to them (IEC 60870-5-101, 7.2.3
-- and IEC 60870-5-5, 6.8).
use Rattle.std.specs.Prelude.{ℕ, ◌+◌, ◌*◌, ◌-◌, ◌/◌, ◌%◌, ◌==◌, nat_lt, nat_le, Bool, ◌&&◌, ◌||◌}
use Rattle.std.specs.Prelude.{not, if◌then◌else◌, List, [], ◌∷◌, length, slice_index, slice_get}
use Rattle.std.specs.Prelude.{Option, Some, None, option_map}
use Rattle.std.specs.List.{filter}
use Rattle.centre.specs.declared.errand.Answer.{Answer}
use Rattle.centre.specs.declared.errand.Loss.{Loss}
use Rattle.centre.specs.declared.errand.Outcome.{Outcome}
use Rattle.centre.specs.declared.errand.Outcome.TheVariants as outcome
use Rattle.centre.specs.declared.errand.Reply.{Reply}
use Rattle.centre.specs.declared.errand.Reply.TheVariants.{Confirms, Terminates, Refuses}
use Rattle.centre.specs.declared.errand.Standing.{Standing}
use Rattle.centre.specs.declared.errand.Standing.TheVariants.{Unsent, Sent, Confirmed}
use Rattle.centre.specs.declared.errand.Step.{Step}
use Rattle.centre.specs.declared.errand.Until.{Until}
use Rattle.centre.specs.declared.errand.Until.TheVariants as until
use Rattle.centre.specs.declared.request.Request.{Request}

-- requests, whether it goes on when they are through, how long a confirmation may take, whose turn
-- it is, how far that one is, the stations whose termination of a request to all is waited for,
-- those of which nothing came, and what became of the errand
pub record Errand : Type 0 where
  pub steps : List Step
  pub stays : Bool
  pub wait : ℕ
  pub at : ℕ
  pub standing : Standing
  pub awaited : List ℕ
  pub silent : List ℕ
  pub outcome : Option Outcome

-- type, cause, common address and object address in the sizes of IEC 60870-5-104
abbrev pub answer_in : List ℕ → Option Answer
answer_in xs =
    if nat_lt (length xs) 9 then None
    else Some (record {
      kind = slice_index xs 0;
      cause = slice_index xs 2;
      ca = slice_index xs 4 + 256 * slice_index xs 5;
      ioa = slice_index xs 6 + 256 * slice_index xs 7 + 65536 * slice_index xs 8;
    })

-- Type and object are those of the request, and the common address, or the request is to all.
abbrev pub is_for : Request → Answer → Bool
is_for r a = r.kind == a.kind && (r.ioa == a.ioa && (r.ca == a.ca || r.ca == 65535))

-- Bits 5 to 0 are the cause: 7 confirms an activation and 9 a deactivation, 10 terminates, 44 to 47
-- are unknown type, cause, common address and object address. Bit 6 (P/N) makes it negative.
abbrev pub reply_in : (asked cause : ℕ) → Option Reply
reply_in asked cause =
    if nat_le 44 (cause % 64) && nat_le (cause % 64) 47 then Some Refuses
    else (if not (cause % 64 == asked + 1) && not (cause % 64 == 10) then None
    else (if cause / 64 % 2 == 1 then Some Refuses
    else (if cause % 64 == 10 then Some Terminates else Some Confirms)))

abbrev pub reply_to : Request → Answer → Option Reply
reply_to r a = if is_for r a then reply_in r.cause a.cause else None

-- 20 to 36 are the causes of what an interrogation asked for, 37 to 41 of counters
abbrev pub gathers : Answer → Bool
gathers a = nat_le 20 (a.cause % 64) && nat_le (a.cause % 64) 41

-- whose turn it is
abbrev pub turn_of : Errand → Option Step
turn_of e = slice_get e.steps e.at

-- the request that is to go out next
abbrev pub due_at : Standing → Errand → Option Request
due_at Unsent e = option_map (λ s. s.request) (turn_of e)
due_at (Sent since) e = None
due_at (Confirmed since) e = None

abbrev pub due_of : Errand → Option Request
due_of e = due_at e.standing e

-- It is the next one's turn. Behind the last one the errand has ended so, unless it stays.
abbrev pub passed : Outcome → Errand → Errand
passed end e = record e {
  at = e.at + 1;
  standing = Unsent;
  outcome = if not e.stays && nat_le (length e.steps) (e.at + 1) then Some end
      else e.outcome;
}

-- the request went out
abbrev pub sent_by : (now : ℕ) → Until → Errand → Errand
sent_by now until.Sent e = passed outcome.Confirmed e
sent_by now until.Confirmed e = record e { standing = Sent now }
sent_by now (until.Terminated ms) e = record e { standing = Sent now }

abbrev pub sent_step : (now : ℕ) → Option Step → Errand → Errand
sent_step now None e = e
sent_step now (Some s) e = sent_by now s.until e

abbrev pub sent_off : (now : ℕ) → Errand → Errand
sent_off now e = sent_step now (turn_of e) e

-- the stations but this one; an answer with the common address of all is one of all
abbrev pub others : (ca : ℕ) → List ℕ → List ℕ
others ca cas = if ca == 65535 then [] else filter (λ one. not (one == ca)) cas

-- A station has terminated the request, which is through once none is waited for.
abbrev pub ended_by : (now : ℕ) → (awaited : List ℕ) → Errand → Errand
ended_by now [] e = passed outcome.Terminated e
ended_by now (ca ∷ awaited) e = record e { standing = Confirmed now }

abbrev pub ended_at : (now ca : ℕ) → Errand → Errand
ended_at now ca e = ended_by now (others ca e.awaited)
    (record e { silent = others ca e.silent; awaited = others ca e.awaited })

-- an answer to the request whose turn it is
abbrev pub said_to : (now : ℕ) → Until → Answer → Reply → Errand → Errand
said_to now u a Refuses e = record e { outcome = Some (outcome.Refused a.cause) }
said_to now until.Sent a Confirms e = e
said_to now until.Sent a Terminates e = e
said_to now until.Confirmed a Confirms e = passed outcome.Confirmed e
said_to now until.Confirmed a Terminates e = e
said_to now (until.Terminated ms) a Confirms e =
    record e { standing = Confirmed now; silent = others a.ca e.silent }
said_to now (until.Terminated ms) a Terminates e = ended_at now a.ca e

-- before the request went out it says nothing
abbrev pub obeyed : (now : ℕ) → Until → Answer → Reply → Standing → Errand → Errand
obeyed now u a reply Unsent e = e
obeyed now u a reply (Sent since) e = said_to now u a reply e
obeyed now u a reply (Confirmed since) e = said_to now u a reply e

-- A termination is waited for anew while what was asked for comes.
abbrev pub prolonged : (now : ℕ) → Answer → Standing → Errand → Errand
prolonged now a Unsent e = e
prolonged now a (Sent since) e = e
prolonged now a (Confirmed since) e =
    if gathers a then record e { standing = Confirmed now } else e

abbrev pub replied : (now : ℕ) → Until → Answer → Option Reply → Errand → Errand
replied now u a None e = prolonged now a e.standing e
replied now u a (Some reply) e = obeyed now u a reply e.standing e

abbrev pub heard_at : (now : ℕ) → Answer → Option Step → Errand → Errand
heard_at now a None e = e
heard_at now a (Some s) e = replied now s.until a (reply_to s.request a) e

abbrev pub heard_by : (now : ℕ) → Option Answer → Option Outcome → Errand → Errand
heard_by now None end e = e
heard_by now (Some a) None e = heard_at now a (turn_of e) e
heard_by now (Some a) (Some end) e = e

-- An ASDU came. Once the errand has ended it says nothing.
abbrev pub heard : (now : ℕ) → List ℕ → Errand → Errand
heard now xs e = heard_by now (answer_in xs) e.outcome e

-- a request that not all have terminated in time
abbrev pub unended : (silent : List ℕ) → Errand → Errand
unended [] e = passed outcome.Confirmed e
unended (ca ∷ silent) e = record e { outcome = Some outcome.Silent }

abbrev pub waited_at : (now : ℕ) → Standing → Until → Errand → Errand
waited_at now Unsent u e = e
waited_at now (Sent since) u e =
    if nat_le e.wait (now - since) then record e { outcome = Some outcome.Silent } else e
waited_at now (Confirmed since) until.Sent e = e
waited_at now (Confirmed since) until.Confirmed e = e
waited_at now (Confirmed since) (until.Terminated ms) e =
    if nat_le ms (now - since) then unended e.silent e else e

abbrev pub waited_by : (now : ℕ) → Option Step → Errand → Errand
waited_by now None e = e
waited_by now (Some s) e = waited_at now e.standing s.until e

-- Time passes: a confirmation has so long, and a termination that doesn't come is done without,
-- unless a station gave nothing at all.
abbrev pub waited : (now : ℕ) → Errand → Errand
waited now e = waited_by now (turn_of e) e

-- the connection is lost; what has ended before has ended so
abbrev pub lost_by : Loss → Option Outcome → Option Outcome
lost_by why None = Some (outcome.Lost why)
lost_by why (Some end) = Some end

abbrev pub lost : Loss → Errand → Errand
lost why e = record e { outcome = lost_by why e.outcome }
