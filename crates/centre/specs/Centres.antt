-- The controlling station of one connection (IEC 60870-5-104, 5.1 to 5.5). Numbers, windows, timers
-- and tests are those of `session`, which are the same on both sides: k is 12, w 8, t1 15 s, t2
-- 10 s and t3 20 s (9.6).
use Rattle.std.specs.Prelude.{ℕ, ◌+◌, ◌-◌, ◌^◌, min, nat_le, Bool, true, false, if◌then◌else◌}
use Rattle.std.specs.Prelude.{Option, Some, None, is_some}
use Rattle.apci.specs.declared.apdu.Apdu.{Apdu}
use Rattle.apci.specs.declared.apdu.Apdu.TheVariants.{I, S, U}
use Rattle.apci.specs.declared.apdu.Uf.{Uf}
use Rattle.apci.specs.declared.apdu.Uf.TheVariants.{StartAct, StartCon, StopAct, StopCon}
use Rattle.session.specs.Session.{Due as SessionDue, confirmed, may_send, new_session, opened}
use Rattle.session.specs.Session.{outcome_of, pulled, sent, taken, timed_out}
use Rattle.session.specs.declared.kinds.Close.TheVariants.{Timeout}
use Rattle.session.specs.declared.kinds.FrameOrigin.TheVariants.{Own}
use Rattle.session.specs.declared.kinds.Taken.{Taken}
use Rattle.session.specs.declared.kinds.Taken.TheVariants.{Nothing, Asdu, Close}
use Rattle.centre.specs.Errands.{Errand, due_of, heard, lost, sent_off, waited}
use Rattle.centre.specs.Requests.{request_octets}
use Rattle.centre.specs.declared.centre.Centre.{Centre}
use Rattle.centre.specs.declared.centre.Phase.{Phase}
use Rattle.centre.specs.declared.centre.Phase.TheVariants.{Opened, Starting, Running, Stopping}
use Rattle.centre.specs.declared.centre.Phase.TheVariants.{Over}
use Rattle.centre.specs.declared.errand.Loss.{Loss}
use Rattle.centre.specs.declared.errand.Loss.TheVariants.{Closed}
use Rattle.centre.specs.declared.request.Request.{Request}

-- its connection opens
abbrev pub first_centre : (now : ℕ) → Errand → Centre
first_centre now errand = record {
  session = opened now (new_session 12 8 15000 10000 20000);
  errand = errand;
  phase = Opened;
}

abbrev pub ends : Phase → Bool
ends Opened = false
ends (Starting since) = false
ends Running = false
ends (Stopping since) = false
ends Over = true

abbrev pub is_over : Centre → Bool
is_over c = ends c.phase

abbrev pub cut_off : Loss → Centre → Centre
cut_off why c = record c { errand = lost why c.errand; phase = Over }

-- ---- What came

-- STARTDT con, which was asked for: data transfer runs, as behind a STARTDT act that is confirmed
abbrev pub begun : (now : ℕ) → Centre → Centre
begun now c = record c {
  session = (confirmed (taken (U StartAct) now c.session)).1;
  phase = Running;
}

abbrev pub started : (now : ℕ) → Phase → Centre → Centre
started now (Starting since) c = begun now c
started now _ c = c

-- STOPDT con
abbrev pub stopped : Phase → Centre → Centre
stopped (Stopping since) c = record c { phase = Over }
stopped _ c = c

-- what the session makes of a frame
abbrev pub heard_in : Apdu → (now : ℕ) → Errand → Errand
heard_in (I ns nr asdu) now e = heard now asdu.items e
heard_in (S nr) now e = e
heard_in (U f) now e = e

abbrev pub taken_by : Taken → Apdu → (now : ℕ) → Centre → Centre
taken_by Nothing a now c = c
taken_by Asdu a now c = record c { errand = heard_in a now c.errand }
taken_by (Close why) a now c = cut_off (Closed why) c

abbrev pub kept : Apdu → (now : ℕ) → Centre → Centre
kept a now c =
    taken_by (outcome_of c.session a) a now (record c { session = taken a now c.session })

abbrev pub took_u : Uf → (now : ℕ) → Centre → Centre
took_u StartCon now c = started now c.phase c
took_u StopCon now c = stopped c.phase c
took_u StartAct now c = c
took_u StopAct now c = c
took_u f now c = kept (U f) now c

abbrev pub took : Apdu → (now : ℕ) → Centre → Centre
took (U f) now c = took_u f now c
took a now c = kept a now c

-- ---- What goes out

-- what is due, and the centre behind it
abbrev pub Due : Type 0
Due = Option Apdu × Centre

abbrev pub in_session : SessionDue → Centre → Due
in_session due c = (due.0, record c { session = due.1 })

abbrev pub pulls : (moment : ℕ) → Centre → Due
pulls moment c = in_session (pulled moment c.session) c

-- so far ahead that what came is acknowledged at once
abbrev pub ahead : (now : ℕ) → ℕ
ahead now = min (now + 10000) (2 ^ 64 - 1)

-- what the first answers, and else the second
abbrev pub or_else : Due → (Centre → Due) → Due
or_else (None, c) other = other c
or_else (Some a, c) other = (Some a, c)

-- the request goes out under the next N(S), with N(R) of what came
abbrev pub after_sending : (now : ℕ) → Centre → Centre
after_sending now c = record c {
  session = sent Own now c.session;
  errand = sent_off now c.errand;
}

abbrev pub sends_it : (now : ℕ) → Option Request → Centre → Due
sends_it now None c = (None, c)
sends_it now (Some r) c =
    if may_send c.session then (
      Some (I c.session.next_sent c.session.next_received
          (record { items = request_octets r })),
      after_sending now c,
    )
    else (None, c)

abbrev pub sends : (now : ℕ) → Centre → Due
sends now c = sends_it now (due_of c.errand) c

abbrev pub stops : (now : ℕ) → Centre → Due
stops now c = (Some (U StopAct), record c { phase = Stopping now })

abbrev pub pulls_or_stops : (now : ℕ) → Centre → Due
pulls_or_stops now c = or_else (pulls (ahead now) c) (stops now)

abbrev pub due_waited : (now : ℕ) → Centre → Due
due_waited now c =
    if is_some c.errand.outcome then pulls_or_stops now c else or_else (sends now c) (pulls now)

-- while data transfer runs
abbrev pub due_running : (now : ℕ) → Centre → Due
due_running now c = due_waited now (record c { errand = waited now c.errand })

-- STARTDT con and STOPDT con have t1
abbrev pub within_t1 : (now since : ℕ) → Due → Centre → Due
within_t1 now since due c =
    if nat_le 15000 (now - since) then (None, cut_off (Closed Timeout) c) else due

abbrev pub asked_for : (now : ℕ) → Phase → Centre → Due
asked_for now Opened c = (Some (U StartAct), record c { phase = Starting now })
asked_for now (Starting since) c = within_t1 now since (None, c) c
asked_for now Running c = due_running now c
asked_for now (Stopping since) c = within_t1 now since (pulls (ahead now) c) c
asked_for now Over c = (None, c)

abbrev pub in_time : (now : ℕ) → Centre → Due
in_time now c =
    if timed_out now c.session then (None, cut_off (Closed Timeout) c)
    else asked_for now c.phase c

-- confirmations first, and nothing once all is done
abbrev pub next_of : (now : ℕ) → Centre → Due
next_of now c =
    if is_over c then (None, c)
    else or_else (in_session (confirmed c.session) c) (in_time now)
