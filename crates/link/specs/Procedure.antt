-- The link of a primary station to one secondary station, as its exchanges show it: when it is up,
-- and the frame count bit (IEC 60870-5-2, 5.1 and the unbalanced transmission procedures). What
-- silence does after the repeats is this gateway's own profile.
use Rattle.std.specs.Prelude.{◌≡◌, ℕ, suc, nat_lt, nat_le, Bool, true, false, not, ◌&&◌, List, []}
use Rattle.std.specs.Prelude.{◌∷◌}
use Rattle.std.specs.Prelude.{Option, Some, None, if◌then◌else◌}
use Rattle.link.specs.Answers.{Service, Command, Asked, Status, Reset, Counted, Answer, Ready}
use Rattle.link.specs.Answers.{Confirmed, Unable}
use Rattle.link.specs.Exchanges.{Exchange, answer_to}
pub use Rattle.link.specs.declared.settings.LinkSettings.{LinkSettings}
pub use Rattle.link.specs.declared.procedure.Probed.{Probed}
pub use Rattle.link.specs.declared.procedure.Probed.TheVariants.{Never, Once, Twice}
pub use Rattle.link.specs.declared.procedure.Silence.{Silence}
pub use Rattle.link.specs.declared.procedure.Link.{Link}
pub use Rattle.link.specs.declared.procedure.Link.TheVariants.{Down, Available, Next, Held}

abbrev pub is_twice : Probed → Bool
is_twice Never = false
is_twice Once = false
is_twice Twice = true

-- Behind the last repeat the service stays held if the settings say so, and the station hasn't
-- answered two statuses meanwhile: before the silent sendings, and behind them.
abbrev pub is_kept : LinkSettings → Probed → Bool
is_kept settings probed = settings.hold && not (is_twice probed)

-- No repeat is left: the sendings are counted up to one more than the repeats.
abbrev pub spent_silence : LinkSettings → Probed → Silence
spent_silence settings probed = record {
  missed = suc settings.retries;
  spent = true;
  probed = probed;
}

-- so many sendings were unanswered, and repeats are left
abbrev pub short_silence : (missed : ℕ) → Probed → Silence
short_silence missed probed = record { missed = missed; spent = false; probed = probed }

-- One more sending of a service was unanswered.
abbrev pub held : LinkSettings → (fcb : Bool) → Service → (missed : ℕ) → Probed → Link
held settings fcb service missed probed =
    if nat_lt settings.retries missed
    then (if is_kept settings probed then Held fcb service (spent_silence settings probed)
    else Down)
    else Held fcb service (short_silence missed probed)

abbrev pub silence_so_far : Link → Silence
silence_so_far (Held fcb service silence) = silence
silence_so_far link = short_silence 0 Never

abbrev pub missed_so_far : Link → ℕ
missed_so_far link = (silence_so_far link).missed

abbrev pub probed_so_far : Link → Probed
probed_so_far link = (silence_so_far link).probed

abbrev pub once_more : Probed → Probed
once_more Never = Once
once_more Once = Twice
once_more Twice = Twice

-- the link after an answer; a station that holds a service and answers a status is there, and the
-- service is sent anew
abbrev pub after_answer : Asked → Answer → Link → Link
after_answer Status Ready (Held fcb service silence) =
    Held fcb service (short_silence 0 (once_more silence.probed))
after_answer Status Ready link = Available
after_answer Status Unable link = Down
after_answer Reset Confirmed link = Next true
after_answer (Counted fcb service) Unable link = Down
after_answer (Counted fcb service) answer link = Next (not fcb)
after_answer request answer link = link

-- the link after a request with no answer, so far or in time
abbrev pub after_silence : LinkSettings → Asked → (closed : Bool) → Link → Link
after_silence settings Status closed (Held fcb service silence) =
    Held fcb service (spent_silence settings Never)
after_silence settings Status closed link = Down
after_silence settings Reset closed link = Down
after_silence settings (Counted fcb service) true link =
    held settings fcb service (suc (missed_so_far link)) (probed_so_far link)
after_silence settings (Counted fcb service) false link = Held fcb service (silence_so_far link)

abbrev pub after_outcome : LinkSettings → Option Answer → Asked → (closed : Bool) → Link → Link
after_outcome settings (Some answer) request closed link = after_answer request answer link
after_outcome settings None request closed link = after_silence settings request closed link

-- the link after an exchange; whatever came of it, one that is given up is down
abbrev pub after : LinkSettings → (station : ℕ) → Exchange → Link → Link
after settings station x link =
    if x.given_up then Down
    else after_outcome settings (answer_to station x) x.request x.closed link

abbrev pub link_after : LinkSettings → (station : ℕ) → Link → List Exchange → Link
link_after settings station link [] = link
link_after settings station link (x ∷ xs) =
    link_after settings station (after settings station x link) xs

-- What may be sent: the status is asked while the station isn't up, or is silent to a service that
-- has no repeat left; the link is reset only while the station isn't up, and its status is known. A
-- new service has the next bit, and one that isn't answered is sent again as it was.
abbrev pub MaySend : Link → Asked → Type 0
MaySend Down Status = Unit {0}
MaySend Available Status = Unit {0}
MaySend Available Reset = Unit {0}
MaySend (Next fcb) (Counted sent service) = sent ≡ fcb
MaySend (Held fcb service silence) Status = silence.spent ≡ true
MaySend (Held fcb service silence) (Counted sent again) = (sent ≡ fcb) × (again ≡ service)
MaySend link request = ⊥

-- The exchanges, from this link on, keep the procedure and the frame count bit.
abbrev pub KeepsFrameCountBit : LinkSettings → (station : ℕ) → Link → List Exchange → Type 0
KeepsFrameCountBit settings station link [] = Unit {0}
KeepsFrameCountBit settings station link (x ∷ xs) =
    MaySend link x.request × KeepsFrameCountBit settings station (after settings station x link) xs

abbrev pub is_up : Link → Bool
is_up Down = false
is_up Available = false
is_up (Next fcb) = true
is_up (Held fcb service silence) = true

-- The station is up after these exchanges.
abbrev pub IsUp : LinkSettings → (station : ℕ) → List Exchange → Type 0
IsUp settings station xs = is_up (link_after settings station Down xs) ≡ true

-- a request for a service, and one that starts the link
abbrev pub is_service : Asked → Bool
is_service Status = false
is_service Reset = false
is_service (Counted fcb service) = true

-- Once up, the station stays up.
abbrev pub IsSteady : LinkSettings → (station : ℕ) → Link → List Exchange → Type 0
IsSteady settings station link [] = Unit {0}
IsSteady settings station link (x ∷ xs) =
    (is_up link ≡ true → is_up (after settings station x link) ≡ true)
    × IsSteady settings station (after settings station x link) xs

-- A service is held: it was sent, and isn't answered.
abbrev pub is_held : Link → Bool
is_held (Held fcb service silence) = true
is_held link = false

-- and it has no repeat left
abbrev pub is_spent : Link → Bool
is_spent link = (silence_so_far link).spent

abbrev pub holds_command : Link → Bool
holds_command (Held fcb (Command asdu) silence) = true
holds_command link = false

-- An unanswered service is sent again at once.
abbrev pub has_repeats : LinkSettings → Link → Bool
has_repeats settings (Held fcb service silence) =
    not silence.spent && nat_le silence.missed settings.retries
has_repeats settings link = false

-- The link is down after a service had no answer.
abbrev pub goes_down : Asked → Link → Bool
goes_down (Counted fcb service) Down = true
goes_down request link = false

-- These exchanges ask no station that is up for its status.
abbrev pub AskNoneThatIsUp : LinkSettings → (station : ℕ) → Link → List Exchange → Type 0
AskNoneThatIsUp settings station link [] = Unit {0}
AskNoneThatIsUp settings station link (x ∷ xs) =
    (is_up link ≡ true → is_service x.request ≡ true)
    × AskNoneThatIsUp settings station (after settings station x link) xs
