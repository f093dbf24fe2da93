-- A visitor's seat (this gateway's own profile).
use Rattle.std.specs.Prelude.{◌≡◌, ◌≢◌, ℕ, ◌-◌, ◌^◌, ◌<◌, ◌≤◌, Bool, true, false, not, List, ◌++◌}
use Rattle.std.specs.Prelude.{length, take, drop, Option, Some, None}
use Rattle.status.specs.Answer.{body_sent, head_of}
use Rattle.status.specs.TextPage.{Sheet, empty, put, shown}
use Rattle.status.specs.Request.{Asks}
use Rattle.status.specs.Streams.{Calls, Finished, Handed, Looked, Passed, StreamCall, called}
use Rattle.status.specs.Streams.{is_over, more_passed}
use Rattle.status.specs.declared.request.Inquiry.{Inquiry}
use Rattle.status.specs.declared.request.Inquiry.TheVariants.{Nothing, TooLong}
use Rattle.status.specs.declared.seat.Desk.{Desk}
use Rattle.status.specs.declared.seat.VisitStage.{VisitStage}
use Rattle.status.specs.declared.seat.VisitStage.TheVariants.{Receiving, Answering, Leaving}
use Rattle.status.specs.declared.seat.TheConstants.{REQUEST_ROOM, HEAD_ROOM, BODY_ROOM}
use Rattle.status.specs.declared.snapshot.Snapshot.{Snapshot}
use Rattle.status.specs.declared.streams.StreamLook.{StreamLook}
use Rattle.status.specs.declared.streams.Took.{Took}

abbrev pub fresh_desk : Desk
fresh_desk = record { request = empty REQUEST_ROOM; head = empty HEAD_ROOM; body = empty BODY_ROOM }

abbrev pub cleared : Desk → Desk
cleared d = record {
  request = empty d.request.room;
  head = empty d.head.room;
  body = empty d.body.room;
}

-- the answer that lies on a desk
abbrev pub answer_on : Desk → List ℕ
answer_on d = shown d.head ++ shown d.body

-- what is asked by a request; none is one that found no room
abbrev pub IsAsked : Option (List ℕ) → Inquiry → Type 0
IsAsked (Some octets) asked = Asks octets asked
IsAsked None asked = asked ≡ TooLong

-- what lies on a desk then is the answer to the request on it, of this moment, in its room
abbrev pub IsAnswer : Snapshot → (before after : Desk) → Type 0
IsAnswer s before after =
    (asked : Inquiry) × IsAsked after.request.text asked × (asked ≢ Nothing)
    × (after.head ≡ head_of before.head.room before.body.room asked s)
    × (after.body ≡ body_sent before.body.room asked s)

-- a stream gave octets, and they were put on a sheet
abbrev pub Receives : Passed → Sheet → Passed → Sheet → Type 0
Receives given page given_then page_then =
    (octets : List ℕ) × (given_then ≡ more_passed given octets) × (page_then ≡ put octets page)

-- octets that go out next, if so many have gone out: some, unless all have
abbrev pub IsNext : (all : List ℕ) → (sent : ℕ) → List ℕ → Type 0
IsNext all sent piece =
    (rest : List ℕ) × (drop sent all ≡ piece ++ rest) × (sent < length all → 0 < length piece)

-- What is known of who sits there, by what the stream keeps. Until the visitor leaves, what it gave
-- is the request. What it took is a beginning of the answer on the desk, and all of it at the end.
pub record IsKept (given taken : Passed) (stage : VisitStage) (sent : ℕ) (d : Desk) : Type 0 where
  pub receives : stage ≢ Leaving → (octets : List ℕ) → given ≡ Some octets
      → d.request.text ≡ (put octets (empty d.request.room)).text
  pub unsent : stage ≡ Receiving → sent ≡ 0
  pub begun : (octets : List ℕ) → taken ≡ Some octets → octets ≡ take sent (answer_on d)
  pub within : sent ≤ length (answer_on d)
  pub whole : stage ≡ Leaving → sent ≡ length (answer_on d)

-- The request hasn't come whole; or the answer has been made, and is that of this moment.
abbrev pub Answers : VisitStage → Snapshot → (before after : Desk) → Type 0
Answers Receiving s before after = IsAsked after.request.text Nothing
Answers Answering s before after = IsAnswer s before after
Answers Leaving s before after = ⊥

-- what a turn does to the desk: nothing but while the request comes
abbrev pub Turned : VisitStage → VisitStage → Snapshot → Desk → Desk → Type 0
Turned Receiving now s before after = Answers now s before after
Turned Answering now s before after = after ≡ before
Turned Leaving now s before after = after ≡ before

-- somebody who came then has been there for less than two seconds
abbrev pub IsYoung : (now since : ℕ) → Type 0
IsYoung now since = now - since < 2000

-- a look at a stream, and whether the other end is still there
abbrev pub Looks : (before after : Calls) → (is_there : Bool) → Type 0
Looks before after is_there =
    (found : StreamLook) × (after ≡ called before (Looked found))
    × (is_there ≡ not (is_over (Looked found)))

-- octets were handed over, and whether the other end is still there
abbrev pub Hands : (before after : Calls) → (is_there : Bool) → Type 0
Hands before after is_there =
    (taken : Took) × (after ≡ called before (Handed taken))
    × (is_there ≡ not (is_over (Handed taken)))

-- The call of a turn: a look while the request comes, and while the visitor leaves. In between
-- octets are handed over, or, once all have gone, the stream is finished.
abbrev pub IsCallIn : VisitStage → StreamCall → Type 0
IsCallIn Receiving (Looked found) = Unit {0}
IsCallIn Receiving (Handed taken) = ⊥
IsCallIn Receiving Finished = ⊥
IsCallIn Answering (Looked found) = ⊥
IsCallIn Answering (Handed taken) = Unit {0}
IsCallIn Answering Finished = Unit {0}
IsCallIn Leaving (Looked found) = Unit {0}
IsCallIn Leaving (Handed taken) = ⊥
IsCallIn Leaving Finished = ⊥

-- A turn has one call of the stream. The visitor stays unless the other end isn't there any more,
-- and leaves once the stream is finished; else the stage stays, or the answer has been made.
pub record IsTurn (before after : Calls) (stage later : VisitStage) (stays : Bool) (d : Desk)
    : Type 0 where
  pub call : StreamCall
  pub fits : IsCallIn stage call
  pub called : after ≡ called before call
  pub over : is_over call ≡ true → stays ≡ false
  -- no answer is that long
  pub goes : stays ≡ false → is_over call ≡ false → 2 ^ 64 ≤ length (answer_on d)
  pub finished : call ≡ Finished → later ≡ Leaving
  pub unfinished : stays ≡ true → stage ≡ Answering → call ≢ Finished → later ≡ Answering
  pub left : stays ≡ true → stage ≡ Leaving → later ≡ Leaving
