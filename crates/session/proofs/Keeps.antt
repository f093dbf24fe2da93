-- What a session keeps of the history of its connection, from call to call.
use Rattle.std.proofs.Common.{◌≡◌, ℕ, suc, ◌+◌, ◌-◌, ◌%◌, ◌<◌, ◌≤◌, ◌==◌, ◌&&◌, Bool, true, false}
use Rattle.std.proofs.Common.{not, cond, nat_le, nat_lt, min, List, [], ◌∷◌, ◌++◌, length, drop}
use Rattle.std.proofs.Common.{Option, Some, None, refl, ap, sym, ◌∙◌, arith}
use Rattle.std.specs.Prelude.{is_none, option_to_list}
use Rattle.std.proofs.lemmas.Bool.{and_parts, ltb-true, ne_eqb}
use Rattle.std.proofs.lemmas.List.{length-append, length-drop, drop-drop, drop-append-le}
use Rattle.apci.specs.declared.apdu.Apdu.{Apdu}
use Rattle.apci.specs.declared.apdu.Apdu.TheVariants.{I, S, U}
use Rattle.apci.specs.declared.apdu.Uf.{Uf}
use Rattle.apci.specs.declared.apdu.Uf.TheVariants.{StartAct, StartCon, StopAct, StopCon, TestAct}
use Rattle.apci.specs.declared.apdu.Uf.TheVariants.{TestCon}
use Rattle.session.specs.declared.kinds.FrameOrigin.{FrameOrigin}
use Rattle.session.specs.declared.kinds.Unacknowledged.{Unacknowledged}
use Rattle.session.specs.declared.kinds.Taken.{Taken}
use Rattle.session.specs.declared.kinds.Taken.TheVariants.{Nothing, Asdu, Close}
use Rattle.session.specs.declared.kinds.Close.TheVariants.{SendNumber, ReceiveNumber, Stopped}
use Rattle.session.specs.declared.kinds.Transfer.TheVariants as Transfer
use Rattle.session.specs.Session as session
use Rattle.session.specs.Session.{Session, is_close, is_transferring, may_send, is_valid, newly}
use Rattle.session.specs.Session.{newly_by, outcome_of, refuses, taken, after_frame, nothing_due}
use Rattle.session.specs.Session.{acknowledgement, replied, confirmed, pulled, Due}
use Rattle.session.specs.History.{History, Opened, Came, Refused, Sent, Went, is_open, sent_frames}
use Rattle.session.specs.History.{received_count, reached, acknowledged_count, IsNumbered}
use Rattle.session.specs.History.{is_started, is_stop_pending, confirmations_due}
use Rattle.session.specs.History.{confirmations_sent, confirmation_owed, unconfirmed_moments}
use Rattle.session.specs.History.{last_frame, outstanding_test}
use Rattle.session.specs.Runs.{Settings, IsInRange, Call, Open, Cut, Take, Send, Confirm, Pull, Run}
use Rattle.session.specs.Runs.{run, logged, with_frame, may_take, after_call}
use Rattle.session.proofs.Counters.{valid_agrees, reached_newly}
use Rattle.session.proofs.States.{transferring_opens, stopping_transfers_not}

-- ---- the parts

-- the sent frames: a of them are acknowledged, and the others are kept
pub record Window (k : ℕ) (us : List Unacknowledged) (next a : ℕ)
    (sent : List Unacknowledged) : Type 0 where
  pub frames : us ≡ drop a sent
  pub enough : a ≤ length sent
  pub bound : length us ≤ k
  pub next_is : next ≡ length sent % 32768

abbrev pub first_moment : List ℕ → ℕ
first_moment [] = 0
first_moment (moment ∷ _) = moment

-- the received frames, and of those that aren't acknowledged up to w and the oldest one's moment
pub record Receipt (w next count since received : ℕ) (moments : List ℕ) : Type 0 where
  pub next_is : next ≡ received % 32768
  pub counted : count ≡ min w (length moments)
  pub oldest : 0 < length moments → since ≡ first_moment moments

abbrev pub IsSet : Settings → Session → Type 0
IsSet p s = (s.k ≡ p.k) × (s.w ≡ p.w) × (s.t1 ≡ p.t1) × (s.t2 ≡ p.t2) × (s.t3 ≡ p.t3)

pub record Keeps (p : Settings) (s : Session) (h : History) : Type 0 where
  pub set : IsSet p s
  pub connected : session.is_open s ≡ is_open h
  pub transferring : is_transferring s ≡ is_started h
  pub stopping : session.is_stopping s ≡ is_stop_pending h
  pub window : Window s.k s.unacknowledged s.next_sent (acknowledged_count h) (sent_frames h)
  pub receipt : Receipt s.w s.next_received s.unconfirmed s.unconfirmed_since (received_count h)
      (unconfirmed_moments h)
  pub last : s.last_frame ≡ last_frame h
  pub test : s.test_sent ≡ outstanding_test h
  pub reply : s.reply ≡ confirmation_owed h
  pub once : confirmations_due h ≡ option_to_list (confirmation_owed h) ++ confirmations_sent h
  pub numbered : IsNumbered h

no_window : (k : ℕ) → Window k [] 0 0 []
no_window k = record { frames = refl; enough = omega arith; bound = omega arith; next_is = refl }

no_receipt : (w : ℕ) → Receipt w 0 0 0 0 []
no_receipt w = record {
  next_is = refl;
  counted = omega arith;
  oldest =
      λ some. absurd (omega arith);
}

-- nothing is left to acknowledge
confirmed_receipt : (w next count since received : ℕ) (moments : List ℕ)
    → Receipt w next count since received moments
    → Receipt w next 0 since received []
confirmed_receipt w next count since received moments r =
    record { next_is = r.next_is; counted = omega arith; oldest = λ some. absurd (omega arith) }

-- one more I frame came
counted_since : (w now count since : ℕ) (moments : List ℕ) → 0 < w → count ≡ min w (length moments)
    → (0 < length moments → since ≡ first_moment moments)
    → cond (count == 0) now since ≡ first_moment (moments ++ now ∷ [])
counted_since w now count since [] positive counted oldest = (let none : count ≡ 0 = omega arith in
    rw none)
counted_since w now count since (moment ∷ rest) positive counted oldest =
    let some : (count == 0) ≡ false = ne_eqb count 0 (λ e. absurd (omega arith)) in
    rw some (oldest (omega arith))

one_received : (w now next count since received : ℕ) (moments : List ℕ) → 0 < w
    → Receipt w next count since received moments
    → Receipt w ((next + 1) % 32768) (min w (count + 1)) (cond (count == 0) now since)
    (suc received) (moments ++ now
    ∷ [])
one_received w now next count since received moments positive r = record {
  next_is = omega (arith, r.next_is);
  counted = omega (arith, r.counted, length-append moments (now ∷ []));
  oldest = λ some. counted_since w now count since moments positive r.counted r.oldest;
}

-- ---- N(R)

frames_len : (k : ℕ) (us : List Unacknowledged) (next a : ℕ) (sent : List Unacknowledged)
    → Window k us next a sent
    → a + length us ≡ length sent
frames_len k us next a sent w = omega (arith, w.enough, ap length w.frames, length-drop a sent)

pub valid_in : (nr k : ℕ) (us : List Unacknowledged) (next a : ℕ) (sent : List Unacknowledged)
    → k < 32768
    → Window k us next a sent
    → nat_le ((next + (32768 - nr % 32768)) % 32768) (length us)
    ≡ nat_le (reached a nr) (length sent)
valid_in nr k us next a sent small w = valid_agrees a (length us) nr next (length sent)
    (omega (arith, w.bound))
    (frames_len k us next a sent w) w.next_is

-- a valid N(R) moves the window to the count that it reaches
pub reaches : (nr k : ℕ) (us : List Unacknowledged) (next a : ℕ) (sent : List Unacknowledged)
    → k < 32768
    → Window k us next a sent
    → nat_le ((next + (32768 - nr % 32768)) % 32768) (length us) ≡ true
    → reached a nr ≡ a + (length us - (next + (32768 - nr % 32768)) % 32768)
reaches nr k us next a sent small w valid = reached_newly a (length us) nr next (length sent)
    (omega (arith, w.bound))
    (frames_len k us next a sent w) w.next_is valid

moved : (n k : ℕ) (us : List Unacknowledged) (next a b : ℕ) (sent : List Unacknowledged)
    → n ≤ length us → b ≡ a + n
    → Window k us next a sent → Window k (drop n us) next b sent
moved n k us next a b sent within is w = record {
  frames = ap (drop n) w.frames ∙ drop-drop n a sent
      ∙ ap (λ m. drop m sent) (let e : a + n ≡ b = omega arith in e);
  enough = omega (arith, frames_len k us next a sent w);
  bound = omega (arith, w.bound, length-drop n us);
  next_is = w.next_is;
}

window_after : (nr k : ℕ) (us : List Unacknowledged) (next a : ℕ) (sent : List Unacknowledged)
    → k < 32768
    → Window k us next a sent
    → nat_le ((next + (32768 - nr % 32768)) % 32768) (length us) ≡ true
    → Window k (drop (length us - (next + (32768 - nr % 32768)) % 32768) us) next (reached a nr)
    sent
window_after nr k us next a sent small w valid =
    moved (length us - (next + (32768 - nr % 32768)) % 32768) k us next a (reached a nr) sent
    (omega arith)
    (reaches nr k us next a sent small w valid) w

pub three_tests : (a b c : Bool)
    → is_close
    (cond a (Close Stopped) (cond b (Close SendNumber) (cond (not c) (Close ReceiveNumber) Asdu)))
    ≡ false
    → c ≡ true
three_tests true b c h = absurd cc
three_tests false true c h = absurd cc
three_tests false false true h = refl
three_tests false false false h = absurd cc

pub one_test : (a : Bool) → is_close (cond (not a) (Close ReceiveNumber) Nothing) ≡ false → a ≡ true
one_test true h = refl
one_test false h = absurd cc

-- ---- a frame comes

abbrev after : Apdu → ℕ → Session → Session
after frame now s =
    after_frame frame now (session.acknowledged (newly_by frame s) (record s { last_frame = now }))

none_owed : (owed : Option Uf) (due sent : List Uf) → owed ≡ None
    → due ≡ option_to_list owed ++ sent → due ≡ sent
none_owed None due sent e h = h
none_owed (Some u) due sent e h = absurd cc

passed : (p : Settings) (frame : Apdu) (now : ℕ) (s : Session) (h : History) → IsInRange p
    → Keeps p s h
    → session.is_open s ≡ true → s.reply ≡ None → refuses s frame ≡ false
    → Keeps p (after frame now s) (Came frame now ∷ h)
passed p (I ns nr asdu) now s h range keeps connected drained passes = record {
  set = keeps.set;
  connected = connected;
  transferring = keeps.transferring;
  stopping = keeps.stopping;
  window = window_after nr s.k s.unacknowledged s.next_sent (acknowledged_count h) (sent_frames h)
      (omega (arith, keeps.set.0, range.k_small)) keeps.window
      (three_tests _ _ (is_valid nr s) passes);
  receipt = one_received s.w now s.next_received s.unconfirmed s.unconfirmed_since
      (received_count h)
      (unconfirmed_moments h) (omega (arith, keeps.set.1, range.w_positive)) keeps.receipt;
  last = refl;
  test = keeps.test;
  reply = keeps.reply;
  once = keeps.once;
  numbered = keeps.numbered;
}
passed p (S nr) now s h range keeps connected drained passes = record {
  set = keeps.set;
  connected = connected;
  transferring = keeps.transferring;
  stopping = keeps.stopping;
  window = window_after nr s.k s.unacknowledged s.next_sent (acknowledged_count h) (sent_frames h)
      (omega (arith, keeps.set.0, range.k_small)) keeps.window (one_test (is_valid nr s) passes);
  receipt = keeps.receipt;
  last = refl;
  test = keeps.test;
  reply = keeps.reply;
  once = keeps.once;
  numbered = keeps.numbered;
}
passed p (U StartAct) now s h range keeps connected drained passes = record {
  set = keeps.set;
  connected = rw connected;
  transferring = rw connected;
  stopping = rw connected;
  window = keeps.window;
  receipt = keeps.receipt;
  last = refl;
  test = keeps.test;
  reply = refl;
  once = ap (λ (fs : List Uf). StartCon ∷ fs) (none_owed (confirmation_owed h) _ _ (sym keeps.reply
      ∙ drained) keeps.once);
  numbered = keeps.numbered;
}
passed p (U StopAct) now s h range keeps connected drained passes = record {
  set = keeps.set;
  connected = rw connected;
  transferring = rw connected;
  stopping = rw connected;
  window = keeps.window;
  receipt = keeps.receipt;
  last = refl;
  test = keeps.test;
  reply = keeps.reply;
  once = keeps.once;
  numbered = keeps.numbered;
}
passed p (U TestAct) now s h range keeps connected drained passes = record {
  set = keeps.set;
  connected = connected;
  transferring = keeps.transferring;
  stopping = keeps.stopping;
  window = keeps.window;
  receipt = keeps.receipt;
  last = refl;
  test = keeps.test;
  reply = refl;
  once = ap (λ (fs : List Uf). TestCon ∷ fs) (none_owed (confirmation_owed h) _ _ (sym keeps.reply
      ∙ drained) keeps.once);
  numbered = keeps.numbered;
}
passed p (U TestCon) now s h range keeps connected drained passes = record {
  set = keeps.set;
  connected = connected;
  transferring = keeps.transferring;
  stopping = keeps.stopping;
  window = keeps.window;
  receipt = keeps.receipt;
  last = refl;
  test = refl;
  reply = keeps.reply;
  once = keeps.once;
  numbered = keeps.numbered;
}
passed p (U StartCon) now s h range keeps connected drained passes = record {
  set = keeps.set;
  connected = connected;
  transferring = keeps.transferring;
  stopping = keeps.stopping;
  window = keeps.window;
  receipt = keeps.receipt;
  last = refl;
  test = keeps.test;
  reply = keeps.reply;
  once = keeps.once;
  numbered = keeps.numbered;
}
passed p (U StopCon) now s h range keeps connected drained passes = record {
  set = keeps.set;
  connected = connected;
  transferring = keeps.transferring;
  stopping = keeps.stopping;
  window = keeps.window;
  receipt = keeps.receipt;
  last = refl;
  test = keeps.test;
  reply = keeps.reply;
  once = keeps.once;
  numbered = keeps.numbered;
}

refused : (p : Settings) (now : ℕ) (s : Session) (h : History) → Keeps p s h → session.is_open s
    ≡ true
    → Keeps p (session.acknowledged 0 (record s { last_frame = now })) (Refused now ∷ h)
refused p now s h keeps connected = record {
  set = keeps.set;
  connected = connected;
  transferring = keeps.transferring;
  stopping = keeps.stopping;
  window = keeps.window;
  receipt = keeps.receipt;
  last = refl;
  test = keeps.test;
  reply = keeps.reply;
  once = keeps.once;
  numbered = keeps.numbered;
}

-- nothing to confirm, so no STARTDT con or TESTFR con
drained_reply : (b c : Bool) (r : Option Uf) (s : Session) → b ≡ true
    → is_none (cond (not b) (nothing_due s) (cond c (acknowledgement s) (replied r s))).0 ≡ true
    → r ≡ None
drained_reply false c r s e h = absurd cc
drained_reply true true r s e h = absurd cc
drained_reply true false None s e h = refl
drained_reply true false (Some u) s e h = absurd cc

came : (p : Settings) (frame : Apdu) (now : ℕ) (s : Session) (h : History) → IsInRange p
    → Keeps p s h
    → session.is_open s ≡ true → s.reply ≡ None
    → (o : Taken) → outcome_of s frame ≡ o
    → Keeps p (cond (is_close o) (session.acknowledged 0 (record s { last_frame = now }))
    (after frame now s))
    (logged o frame now ∷ h)
came p frame now s h range keeps connected drained (Close cause) e =
    refused p now s h keeps connected
came p frame now s h range keeps connected drained Asdu e =
    passed p frame now s h range keeps connected drained (ap is_close e)
came p frame now s h range keeps connected drained Nothing e =
    passed p frame now s h range keeps connected drained (ap is_close e)

-- ---- frames go out

data_sent : (p : Settings) (kind : FrameOrigin) (now : ℕ) (s : Session) (h : History) → Keeps p s h
    → may_send s ≡ true
    → Keeps p (session.sent kind now s) (Sent s.next_sent s.next_received kind now ∷ h)
data_sent p kind now s h keeps may =
    let tests = and_parts (is_transferring s) (nat_lt (length s.unacknowledged) s.k) may in
    let u : Unacknowledged = record { kind = kind; moment = now } in
    let w = keeps.window in
    record {
      set = keeps.set;
      connected = transferring_opens s.transfer tests.0;
      transferring = keeps.transferring;
      stopping = keeps.stopping;
      window = record {
        frames = ap (λ us. us ++ u ∷ []) w.frames ∙ sym
            (drop-append-le (acknowledged_count h) (sent_frames h) (u ∷ []) w.enough);
        enough = omega (arith, w.enough, length-append (sent_frames h) (u ∷ []));
        bound = omega (arith, ltb-true _ _ tests.1, length-append s.unacknowledged (u ∷ []));
        next_is = omega (arith, w.next_is, length-append (sent_frames h) (u ∷ []));
      };
      receipt = confirmed_receipt s.w s.next_received s.unconfirmed s.unconfirmed_since
          (received_count h)
          (unconfirmed_moments h) keeps.receipt;
      last = keeps.last;
      test = keeps.test;
      reply = keeps.reply;
      once = keeps.once;
      numbered = (w.next_is, keeps.receipt.next_is, keeps.numbered);
    }

acknowledgement_gone : (p : Settings) (now : ℕ) (s : Session) (h : History) → Keeps p s h
    → session.is_open s ≡ true
    → Keeps p (record s { unconfirmed = 0 }) (Went (S s.next_received) now ∷ h)
acknowledgement_gone p now s h keeps connected = record {
  set = keeps.set;
  connected = connected;
  transferring = keeps.transferring;
  stopping = keeps.stopping;
  window = keeps.window;
  receipt = confirmed_receipt s.w s.next_received s.unconfirmed s.unconfirmed_since
      (received_count h)
      (unconfirmed_moments h) keeps.receipt;
  last = keeps.last;
  test = keeps.test;
  reply = keeps.reply;
  once = keeps.once;
  numbered = (keeps.receipt.next_is, keeps.numbered);
}

-- only STARTDT con and TESTFR con are owed
abbrev is_owable : Uf → Bool
is_owable StartCon = true
is_owable TestCon = true
is_owable StartAct = false
is_owable StopAct = false
is_owable StopCon = false
is_owable TestAct = false

only_cons : (h : History) (u : Uf) → confirmation_owed h ≡ Some u → is_owable u ≡ true
only_cons [] u e = absurd cc
only_cons (Opened now ∷ h) u e = only_cons h u e
only_cons (Came (I ns nr asdu) now ∷ h) u e = only_cons h u e
only_cons (Came (S nr) now ∷ h) u e = only_cons h u e
only_cons (Came (U StartAct) now ∷ h) u e = (let is : StartCon ≡ u = cc in ap is_owable (sym is))
only_cons (Came (U StartCon) now ∷ h) u e = only_cons h u e
only_cons (Came (U StopAct) now ∷ h) u e = only_cons h u e
only_cons (Came (U StopCon) now ∷ h) u e = only_cons h u e
only_cons (Came (U TestAct) now ∷ h) u e = (let is : TestCon ≡ u = cc in ap is_owable (sym is))
only_cons (Came (U TestCon) now ∷ h) u e = only_cons h u e
only_cons (Refused now ∷ h) u e = only_cons h u e
only_cons (Sent ns nr kind now ∷ h) u e = only_cons h u e
only_cons (Went (I ns nr asdu) now ∷ h) u e = only_cons h u e
only_cons (Went (S nr) now ∷ h) u e = only_cons h u e
only_cons (Went (U StartAct) now ∷ h) u e = only_cons h u e
only_cons (Went (U StartCon) now ∷ h) u e = absurd cc
only_cons (Went (U StopAct) now ∷ h) u e = only_cons h u e
only_cons (Went (U StopCon) now ∷ h) u e = only_cons h u e
only_cons (Went (U TestAct) now ∷ h) u e = only_cons h u e
only_cons (Went (U TestCon) now ∷ h) u e = absurd cc

-- a STARTDT con or TESTFR con goes out
function_gone : (p : Settings) (u : Uf) (now : ℕ) (s : Session) (h : History) → Keeps p s h
    → session.is_open s ≡ true
    → s.reply ≡ Some u → Keeps p (record s { reply = None }) (Went (U u) now ∷ h)
function_gone p StartCon now s h keeps connected due = record {
  set = keeps.set;
  connected = connected;
  transferring = keeps.transferring;
  stopping = keeps.stopping;
  window = keeps.window;
  receipt = keeps.receipt;
  last = keeps.last;
  test = keeps.test;
  reply = refl;
  once = keeps.once ∙ ap (λ (owed : Option Uf). option_to_list owed ++ confirmations_sent h)
      (sym keeps.reply ∙ due);
  numbered = keeps.numbered;
}
function_gone p TestCon now s h keeps connected due = record {
  set = keeps.set;
  connected = connected;
  transferring = keeps.transferring;
  stopping = keeps.stopping;
  window = keeps.window;
  receipt = keeps.receipt;
  last = keeps.last;
  test = keeps.test;
  reply = refl;
  once = keeps.once ∙ ap (λ (owed : Option Uf). option_to_list owed ++ confirmations_sent h)
      (sym keeps.reply ∙ due);
  numbered = keeps.numbered;
}
function_gone p StartAct now s h keeps connected due =
    (let owable : false ≡ true = only_cons h StartAct (sym keeps.reply ∙ due) in absurd cc)
function_gone p StopAct now s h keeps connected due = (let owable : false ≡ true =
    only_cons h StopAct (sym keeps.reply ∙ due) in absurd cc)
function_gone p StopCon now s h keeps connected due = (let owable : false ≡ true =
    only_cons h StopCon (sym keeps.reply ∙ due) in absurd cc)
function_gone p TestAct now s h keeps connected due = (let owable : false ≡ true =
    only_cons h TestAct (sym keeps.reply ∙ due) in absurd cc)

stop_confirmed : (p : Settings) (now : ℕ) (s : Session) (h : History) → Keeps p s h
    → session.is_open s ≡ true
    → session.is_stopping s ≡ true
    → Keeps p (record s { transfer = Transfer.Stopped }) (Went (U StopCon) now ∷ h)
stop_confirmed p now s h keeps connected stopping = record {
  set = keeps.set;
  connected = refl;
  transferring = sym (stopping_transfers_not s.transfer stopping) ∙ keeps.transferring;
  stopping = refl;
  window = keeps.window;
  receipt = keeps.receipt;
  last = keeps.last;
  test = keeps.test;
  reply = keeps.reply;
  once = keeps.once;
  numbered = keeps.numbered;
}

abbrev stop_due : Bool → Session → Due
stop_due b s = cond b (Some (U StopCon), record s { transfer = Transfer.Stopped }) (nothing_due s)

stop_gone : (p : Settings) (now : ℕ) (s : Session) (h : History) → Keeps p s h → session.is_open s
    ≡ true → (b : Bool)
    → (session.is_stopping s && length s.unacknowledged == 0) ≡ b
    → Keeps p (stop_due b s).1 (with_frame (stop_due b s).0 now h)
stop_gone p now s h keeps connected true test = stop_confirmed p now s h keeps connected
    (and_parts (session.is_stopping s) (length s.unacknowledged == 0) test).0
stop_gone p now s h keeps connected false test = keeps

reply_gone : (p : Settings) (now : ℕ) (s : Session) (h : History) → Keeps p s h → session.is_open s
    ≡ true
    → (r : Option Uf)
    → s.reply ≡ r
    → Keeps p (replied r s).1 (with_frame (replied r s).0 now h)
reply_gone p now s h keeps connected (Some u) is = function_gone p u now s h keeps connected is
reply_gone p now s h keeps connected None is =
    stop_gone p now s h keeps connected (session.is_stopping s
    && length s.unacknowledged == 0) refl

confirm_gone : (p : Settings) (now : ℕ) (s : Session) (h : History) → Keeps p s h → (b : Bool)
    → session.is_open s ≡ b
    → (c : Bool)
    → Keeps p (cond (not b) (nothing_due s) (cond c (acknowledgement s) (replied s.reply s))).1
    (with_frame (cond (not b) (nothing_due s) (cond c (acknowledgement s) (replied s.reply s))).0
    now h)
confirm_gone p now s h keeps false connected c = keeps
confirm_gone p now s h keeps true connected true = acknowledgement_gone p now s h keeps connected
confirm_gone p now s h keeps true connected false =
    reply_gone p now s h keeps connected s.reply refl

test_gone : (p : Settings) (now : ℕ) (s : Session) (h : History) → Keeps p s h → session.is_open s
    ≡ true
    → Keeps p (record s { test_sent = Some now }) (Went (U TestAct) now ∷ h)
test_gone p now s h keeps connected = record {
  set = keeps.set;
  connected = connected;
  transferring = keeps.transferring;
  stopping = keeps.stopping;
  window = keeps.window;
  receipt = keeps.receipt;
  last = keeps.last;
  test = refl;
  reply = keeps.reply;
  once = keeps.once;
  numbered = keeps.numbered;
}

abbrev tested : ℕ → Session → Due
tested now s = (Some (U TestAct), record s { test_sent = Some now })

pull_gone : (p : Settings) (now : ℕ) (s : Session) (h : History) → Keeps p s h → (b : Bool)
    → session.is_open s ≡ b
    → (c d : Bool)
    → Keeps p
    (cond (not b) (nothing_due s)
    (cond c (acknowledgement s) (cond d (tested now s) (nothing_due s)))).1
    (with_frame
    (cond (not b) (nothing_due s)
    (cond c (acknowledgement s) (cond d (tested now s) (nothing_due s)))).0
    now h)
pull_gone p now s h keeps false connected c d = keeps
pull_gone p now s h keeps true connected true d = acknowledgement_gone p now s h keeps connected
pull_gone p now s h keeps true connected false true = test_gone p now s h keeps connected
pull_gone p now s h keeps true connected false false = keeps

-- ---- every call

new_keeps : (p : Settings) → Keeps p (session.new_session p.k p.w p.t1 p.t2 p.t3) []
new_keeps p = record {
  set = (refl, refl, refl, refl, refl);
  connected = refl;
  transferring = refl;
  stopping = refl;
  window = no_window p.k;
  receipt = no_receipt p.w;
  last = refl;
  test = refl;
  reply = refl;
  once = refl;
  numbered = tt;
}

open_keeps : (p : Settings) (now : ℕ) (s : Session) → IsSet p s
    → Keeps p (session.opened now s) (Opened now ∷ [])
open_keeps p now s set = record {
  set = set;
  connected = refl;
  transferring = refl;
  stopping = refl;
  window = no_window s.k;
  receipt = no_receipt s.w;
  last = refl;
  test = refl;
  reply = refl;
  once = refl;
  numbered = tt;
}

cut_keeps : (p : Settings) (s : Session) → IsSet p s → Keeps p (session.closed s) []
cut_keeps p s set = record {
  set = set;
  connected = refl;
  transferring = refl;
  stopping = refl;
  window = no_window s.k;
  receipt = no_receipt s.w;
  last = refl;
  test = refl;
  reply = refl;
  once = refl;
  numbered = tt;
}

-- what a call makes of a run, if its condition holds
abbrev pub if_taken : Bool → Apdu → ℕ → Run → Run
if_taken holds frame now r = cond holds (record {
  session = taken frame now r.session;
  history = logged (outcome_of r.session frame) frame now ∷ r.history;
}) r

abbrev pub if_sent : Bool → FrameOrigin → ℕ → Run → Run
if_sent holds kind now r = cond holds (record {
  session = session.sent kind now r.session;
  history = Sent r.session.next_sent r.session.next_received kind now ∷ r.history;
}) r

taken_keeps : (p : Settings) (frame : Apdu) (now : ℕ) (r : Run) → IsInRange p
    → Keeps p r.session r.history
    → (b : Bool) → may_take r.session ≡ b
    → Keeps p (if_taken b frame now r).session (if_taken b frame now r).history
taken_keeps p frame now r range keeps true may =
    let tests = and_parts (session.is_open r.session) (is_none (confirmed r.session).0) may in
    came p frame now r.session r.history range keeps tests.0
    (drained_reply (session.is_open r.session) _ r.session.reply r.session tests.0 tests.1)
    (outcome_of r.session frame) refl
taken_keeps p frame now r range keeps false may = keeps

sent_keeps : (p : Settings) (kind : FrameOrigin) (now : ℕ) (r : Run) → Keeps p r.session r.history
    → (b : Bool)
    → may_send r.session ≡ b
    → Keeps p (if_sent b kind now r).session (if_sent b kind now r).history
sent_keeps p kind now r keeps true may = data_sent p kind now r.session r.history keeps may
sent_keeps p kind now r keeps false may = keeps

call_keeps : (p : Settings) (call : Call) (r : Run) → IsInRange p → Keeps p r.session r.history
    → Keeps p (after_call call r).session (after_call call r).history
call_keeps p (Open now) r range keeps = open_keeps p now r.session keeps.set
call_keeps p Cut r range keeps = cut_keeps p r.session keeps.set
call_keeps p (Take frame now) r range keeps =
    taken_keeps p frame now r range keeps (may_take r.session) refl
call_keeps p (Send kind now) r range keeps = sent_keeps p kind now r keeps (may_send r.session) refl
call_keeps p (Confirm now) r range keeps = confirm_gone p now r.session r.history keeps
    (session.is_open r.session) refl
    (session.is_stopping r.session && nat_lt 0 r.session.unconfirmed)
call_keeps p (Pull now) r range keeps =
    pull_gone p now r.session r.history keeps (session.is_open r.session) refl
    (session.is_s_due now r.session)
    (session.is_test_due now r.session)

-- Whatever is called, the session keeps the history.
pub run_keeps : (p : Settings) (calls : List Call) → IsInRange p
    → Keeps p (run p calls).session (run p calls).history
run_keeps p [] range = new_keeps p
run_keeps p (call ∷ earlier) range =
    call_keeps p call (run p earlier) range (run_keeps p earlier range)
