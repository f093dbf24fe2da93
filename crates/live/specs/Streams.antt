-- What the answer of one call to a stream means (this gateway's own profile).
use Rattle.std.specs.Prelude.{◌≡◌, ◌≢◌, ℕ, ◌+◌, ◌-◌, ◌≤◌, ◌==◌, ◌⊎◌, List, [], ◌∷◌, ◌++◌}
use Rattle.std.specs.Prelude.{length, take, drop, slice_index, ◌||◌}
use Rattle.std.specs.Prelude.{All, not, Bool, true, false, Option, Some, None, Result, Ok, Err}
use Rattle.std.specs.Prelude.{MatchResult, if◌then◌else◌}
use Rattle.std.specs.declared.io.Error.{Error}
use Rattle.std.specs.declared.io.ErrorKind.{ErrorKind}
use Rattle.std.specs.declared.io.ErrorKind.TheVariants.{WouldBlock, TimedOut, Interrupted}
use Rattle.std.specs.IoError.{error_kind}
use Rattle.live.specs.declared.stream.Setting.{Setting}
use Rattle.live.specs.declared.stream.Setting.TheVariants.{ReadsWithin, SendsAtOnce, Waiting}
use Rattle.live.specs.declared.stream.Setting.TheVariants.{WritesWithin}
use Rattle.live.specs.declared.ends.Got.{Got}
use Rattle.live.specs.declared.ends.Got.TheVariants.{Octets, Quiet, Gone}

-- a call of a stream, and what the system answered: which octets came, and how many, or how many of
-- those that were handed to it were taken, from the front; or it was set, and whether that was done
pub data SystemCall : Type 0 where
  Received : (octets : List ℕ) → (answer : Result ℕ Error) → SystemCall
  Sent : (octets : List ℕ) → (answer : Result ℕ Error) → SystemCall
  Sets : Setting → (is_set : Bool) → SystemCall

-- it was set to wait at calls, or not to
abbrev pub Waits : (is_waiting : Bool) → (is_set : Bool) → SystemCall
Waits is_waiting is_set = Sets (Waiting is_waiting) is_set

-- the calls of a stream, the newest first, if it notes them
abbrev pub Calls : Type 0
Calls = Option (List SystemCall)

abbrev pub called : Calls → SystemCall → Calls
called None call = None
called (Some before) call = Some (call ∷ before)

-- these settings were made, the first of them first
abbrev pub set_so : List Setting → Calls → Calls
set_so [] calls = calls
set_so (setting ∷ settings) calls = set_so settings (called calls (Sets setting true))

-- How a line is set: each request goes out at once, a look waits for 1 ms at the most, and a write
-- for 20.
abbrev pub as_line : Calls → Calls
as_line calls = set_so (SendsAtOnce ∷ ReadsWithin 1 ∷ WritesWithin 20 ∷ []) calls

-- And the connection of a control centre, whose calls don't wait except when a write is tried
-- again.
abbrev pub as_centre : Calls → Calls
as_centre calls =
    set_so (SendsAtOnce ∷ WritesWithin 20 ∷ ReadsWithin 1 ∷ Waiting false ∷ []) calls

-- A wait that ended without octets and an interruption are quiet; every other failure is the
-- stream's end.
abbrev pub MeansFault : ErrorKind → Got → Type 0
MeansFault kind (Octets len) = ⊥
MeansFault kind Quiet = (kind ≡ WouldBlock) ⊎ ((kind ≡ TimedOut) ⊎ (kind ≡ Interrupted))
MeansFault kind Gone = (kind ≢ WouldBlock) × (kind ≢ TimedOut) × (kind ≢ Interrupted)

-- octets are octets, and none at all are the stream's end
abbrev pub MeansGot : Result ℕ Error → Got → Type 0
MeansGot answer got =
    MatchResult answer (λ len. got ≡ (if len == 0 then Gone else Octets len))
    (λ fault. MeansFault (error_kind fault) got)

-- how many octets were taken, or came
abbrev pub taken_of : Result ℕ Error → ℕ
taken_of (Ok count) = count
taken_of (Err fault) = 0

-- a call that put what came at the front of this buffer
abbrev pub received : (buf : List ℕ) → Result ℕ Error → SystemCall
received buf answer = Received (take (taken_of answer) buf) answer

-- one call, and what its answer means
pub record ReadsOnce (old : Calls) (got : Got) (buf : List ℕ) (new : Calls) : Type 0 where
  pub answer : Result ℕ Error
  pub asked : new ≡ called old (received buf answer)
  pub means : MeansGot answer got

-- one call, and the octets that came at it, so many
pub record ReceivesOnce (old : Calls) (octets : List ℕ) (count : ℕ) (new : Calls) : Type 0 where
  pub answer : Result ℕ Error
  pub asked : new ≡ called old (Received octets answer)
  pub means : count ≡ taken_of answer

-- The octets end as a line frame does: with the end character 16h of formats with fixed and
-- variable
-- length, or with the single character E5h (IEC 60870-5-1, 6.2.4.2). Others may end so too.
abbrev pub ends_frame : List ℕ → Bool
ends_frame octets =
    let last = slice_index octets (length octets - 1) in (last == 0x16) || (last == 0xE5)

-- So many calls behind these first octets. Each was made since the octets before didn't end as a
-- frame does, and brought some. And all octets that came by then, in their order.
pub data ReadsOn (old : Calls) (first : List ℕ) : (count : ℕ) → (came : List ℕ) → Calls
    → Type 0 where
  NoMore : ReadsOn old first 0 first old
  OneMore : (count n : ℕ) (came more : List ℕ) (mid new : Calls)
      → ReadsOn old first count came mid → ends_frame came ≡ false
      → ReceivesOnce mid more n new → 1 ≤ n
      → ReadsOn old first (count + 1) (came ++ more) new

-- No more is read: the octets end as a frame does, or a call brought none, or it were 15 calls.
pub data IsReadOut (count : ℕ) (came : List ℕ) (mid new : Calls) : Type 0 where
  Whole : ends_frame came ≡ true → new ≡ mid → IsReadOut count came mid new
  NoneCame : ends_frame came ≡ false → ReceivesOnce mid [] 0 new → IsReadOut count came mid new
  Enough : count ≡ 15 → new ≡ mid → IsReadOut count came mid new

-- Behind these first octets a look goes on until no more is read, and these are all that came.
pub record ReadsFrame (old : Calls) (first came : List ℕ) (new : Calls) : Type 0 where
  pub count : ℕ
  pub mid : Calls
  pub reads : ReadsOn old first count came mid
  pub out : IsReadOut count came mid new

-- What a look finds whose first call found this, and left the front of the buffer so.
abbrev pub LooksOnwards : (first : Got) → (before : List ℕ) → (mid : Calls) → (got : Got)
    → (buf : List ℕ) → (new : Calls) → Type 0
LooksOnwards (Octets len) before mid (Octets all) buf new =
    ReadsFrame mid (take len before) (take all buf) new
LooksOnwards Quiet before mid Quiet buf new = new ≡ mid
LooksOnwards Gone before mid Gone buf new = new ≡ mid
LooksOnwards first before mid got buf new = ⊥

-- A look at the line: one call, and if octets came, further ones until no more is read.
pub record ReadsLine (old : Calls) (got : Got) (buf : List ℕ) (new : Calls) : Type 0 where
  pub first : Got
  pub before : List ℕ
  pub mid : Calls
  pub once : ReadsOnce old first before mid
  pub onwards : LooksOnwards first before mid got buf new

-- the octets that came from a stream, in their order
abbrev pub came : List SystemCall → List ℕ
came [] = []
came (Received octets answer ∷ before) = came before ++ octets
came (Sets setting is_set ∷ before) = came before
came (Sent octets answer ∷ before) = came before

-- since then these octets came from the stream
abbrev pub Came : Calls → List ℕ → Calls → Type 0
Came None octets None = Unit {0}
Came None octets (Some after) = ⊥
Came (Some before) octets None = ⊥
Came (Some before) octets (Some after) = came after ≡ came before ++ octets

-- one call, and how many of the octets it took
pub record WritesOnce (old : Calls) (octets : List ℕ) (taken : ℕ) (new : Calls) : Type 0 where
  pub answer : Result ℕ Error
  pub asked : new ≡ called old (Sent octets answer)
  pub means : taken ≡ taken_of answer

-- a part of the octets is not the whole
abbrev pub takes_all : Result ℕ Error → ℕ → Bool
takes_all (Ok count) size = count == size
takes_all (Err fault) size = false

-- one call, and whether it took all octets
pub record WritesAll (old : Calls) (octets : List ℕ) (is_taken : Bool) (new : Calls) : Type 0 where
  pub answer : Result ℕ Error
  pub asked : new ≡ called old (Sent octets answer)
  pub bound : taken_of answer ≤ length octets
  pub means : is_taken ≡ takes_all answer (length octets)

-- the octets that a stream took, in their order
abbrev pub took : List SystemCall → List ℕ
took [] = []
took (Received octets answer ∷ before) = took before
took (Sets setting is_set ∷ before) = took before
took (Sent octets answer ∷ before) = took before ++ take (taken_of answer) octets

-- since then the stream took these octets
abbrev pub Took : Calls → List ℕ → Calls → Type 0
Took None octets None = Unit {0}
Took None octets (Some after) = ⊥
Took (Some before) octets None = ⊥
Took (Some before) octets (Some after) = took after ≡ took before ++ octets

-- The stream took a beginning of the octets, once and in their order, and whether it took them all.
pub record WritesFront (old : Calls) (octets : List ℕ) (is_taken : Bool) (new : Calls)
    : Type 0 where
  pub count : ℕ
  pub bound : count ≤ length octets
  pub taken : Took old (take count octets) new
  pub all : is_taken ≡ (count == length octets)

-- How a write goes on behind what its first call took. It is over if that were all octets. Else
-- what is left is handed over once more, if the stream can be set to wait, and behind that it is
-- set not to wait again.
pub data HandsOn (old : Calls) (octets : List ℕ) (new : Calls) : Type 0 where
  AtOnce : WritesOnce old octets (length octets) new → HandsOn old octets new
  Unwaited : (taken : ℕ) (mid : Calls) → WritesOnce old octets taken mid
      → taken ≢ length octets → new ≡ called mid (Waits true false) → HandsOn old octets new
  Again : (taken : ℕ) (mid last : Calls) (is_taken is_set : Bool)
      → WritesOnce old octets taken mid → taken ≢ length octets
      → WritesAll (called mid (Waits true true)) (drop taken octets) is_taken last
      → new ≡ called last (Waits false is_set) → HandsOn old octets new

-- A write of two calls at the most: what the stream took of it, and how it went on.
pub record WritesInTwo (old : Calls) (octets : List ℕ) (is_taken : Bool) (new : Calls)
    : Type 0 where
  pub front : WritesFront old octets is_taken new
  pub goes_on : HandsOn old octets new

-- what a look was answered: the octets that came, and how many, or why none did
pub record ReadAnswer : Type 0 where
  pub octets : List ℕ
  pub count : Result ℕ Error

-- one call, and how many octets it brought
pub record DropsOnce (old : Calls) (count : ℕ) (new : Calls) : Type 0 where
  pub answer : ReadAnswer
  pub asked : new ≡ called old (Received answer.octets answer.count)
  pub means : count ≡ taken_of answer.count

-- a look brought octets
abbrev pub brings : ReadAnswer → Bool
brings answer = not (taken_of answer.count == 0)

-- how many octets looks brought
abbrev pub brought : List ReadAnswer → ℕ
brought [] = 0
brought (answer ∷ before) = brought before + taken_of answer.count

-- looks that were answered so, the newest first
abbrev pub looked : List ReadAnswer → Calls → Calls
looked [] calls = calls
looked (answer ∷ before) calls =
    called (looked before calls) (Received answer.octets answer.count)

-- They are at most 64, and each but the newest brought octets, which did so only if it is the 64th.
abbrev pub IsDrained : List ReadAnswer → Type 0
IsDrained [] = ⊥
IsDrained (answer ∷ before) =
    All (λ a. brings a ≡ true) before × (length before ≤ 63)
    × (brings answer ≡ true → length before ≡ 63)

pub record Drains (old : Calls) (count : ℕ) (new : Calls) : Type 0 where
  pub looks : List ReadAnswer
  pub drained : IsDrained looks
  pub counted : count ≡ brought looks
  pub asked : new ≡ looked looks old

-- What has come, so many octets, is read, without a wait, until nothing comes or 64 times. A stream
-- that can't be set not to wait isn't read.
pub data DropsWaiting (old : Calls) (count : ℕ) (new : Calls) : Type 0 where
  Refused : count ≡ 0 → new ≡ called old (Waits false false) → DropsWaiting old count new
  Drained : (mid : Calls) → (is_set : Bool) → Drains (called old (Waits false true)) count mid
      → new ≡ called mid (Waits true is_set) → DropsWaiting old count new
