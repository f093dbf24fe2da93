-- The lines of a session read back.
use Rattle.std.proofs.Common.{◌≡◌, ℕ, zero, suc, ◌+◌, ◌<◌, ◌≤◌, ◌==◌, ◌&&◌, nat_lt, Bool, true}
use Rattle.std.proofs.Common.{false, if◌then◌else◌, List, [], ◌∷◌, ◌++◌, length, get_or, take, drop}
use Rattle.std.proofs.Common.{Option, Some, None, refl, sym, ap, ◌∙◌, append_assoc, arith, rules}
use Rattle.std.specs.Prelude.{Result, Ok, Err, IsOk, OnOk}
use Rattle.std.proofs.lemmas.Bool.{ne_eqb}
use Rattle.std.proofs.lemmas.List.{take_more, drop_more, length_push}
use Rattle.std.proofs.lemmas.List.{append-nil, length-append}
use Rattle.apci.specs.declared.apdu.Uf.{Uf}
use Rattle.apci.specs.declared.apdu.Uf.TheVariants.{StartAct, StartCon, StopAct, StopCon, TestAct}
use Rattle.apci.specs.declared.apdu.Uf.TheVariants.{TestCon}
use Rattle.session.specs.declared.kinds.FrameOrigin.{FrameOrigin}
use Rattle.session.specs.declared.kinds.FrameOrigin.TheVariants.{Queue, Own}
use Rattle.session.specs.declared.kinds.Unacknowledged.{Unacknowledged}
use Rattle.session.specs.declared.kinds.Transfer.{Transfer}
use Rattle.session.specs.declared.kinds.Transfer.TheVariants.{Closed, Stopped, Started, Stopping}
use Rattle.session.specs.declared.saving.Numbers.{Numbers}
use Rattle.session.specs.declared.saving.Dues.{Dues}
use Rattle.session.specs.Session.{Session}
use Rattle.session.specs.Restored.{transfer_number, transfer_from, kind_number, kind_from}
use Rattle.session.specs.Restored.{reply_number, reply_from, moment_numbers, moment_from}
use Rattle.session.specs.Restored.{numbers_line, dues_line, frame_line, frame_lines, frame_with}
use Rattle.session.specs.Restored.{frame_from, numbers_with, numbers_from, numbers_of, dues_with}
use Rattle.session.specs.Restored.{dues_from, dues_of, IsSavable, HasSettings}

transfer_back : (t : Transfer) → transfer_from (transfer_number t) ≡ Some t
transfer_back Closed = refl
transfer_back Stopped = refl
transfer_back Started = refl
transfer_back Stopping = refl

kind_back : (k : FrameOrigin) → kind_from (kind_number k) ≡ Some k
kind_back Queue = refl
kind_back Own = refl

reply_back : (r : Option Uf) → reply_from (reply_number r) ≡ Some r
reply_back None = refl
reply_back (Some StartAct) = refl
reply_back (Some StartCon) = refl
reply_back (Some StopAct) = refl
reply_back (Some StopCon) = refl
reply_back (Some TestAct) = refl
reply_back (Some TestCon) = refl

moment_back : (m : Option ℕ) → moment_from (moment_numbers m) ≡ Some m
moment_back None = refl
moment_back (Some m) = refl

frame_back : (f : Unacknowledged) → frame_from (frame_line f) ≡ Some f
frame_back f = rw (kind_back f.kind) refl

numbers_back : (s : Session) → IsSavable s → numbers_from (numbers_line (numbers_of s))
    ≡ Some (numbers_of s)
numbers_back s sav =
    let sent : s.next_sent < 32768 = sav.sent_small in
    let received : s.next_received < 32768 = sav.received_small in
    let small : (nat_lt s.next_sent 32768 && nat_lt s.next_received 32768) ≡ true =
    grind (arith, sent, received) in
    rw (transfer_back s.transfer, small) refl

dues_back : (s : Session) → IsSavable s → dues_from (dues_line (dues_of s)) ≡ Some (dues_of s)
dues_back s sav =
    let low : s.unconfirmed < 65536 = sav.unconfirmed_small in
    let small : nat_lt s.unconfirmed 65536 ≡ true = grind (arith, low) in
    rw (reply_back s.reply, moment_back s.test_sent, small) refl

-- ---- no other numbers say it

-- a greater number
above : (n k : ℕ) → k < n → (n == k) ≡ false
above n k lt = ne_eqb n k (λ e. absurd (omega arith))

transfer_only : (n : ℕ) (t : Transfer) → transfer_from n ≡ Some t → n ≡ transfer_number t
transfer_only zero t e = let same : Closed ≡ t = cc in ap transfer_number same
transfer_only (suc zero) t e = let same : Stopped ≡ t = cc in ap transfer_number same
transfer_only (suc (suc zero)) t e = let same : Started ≡ t = cc in ap transfer_number same
transfer_only (suc (suc (suc zero))) t e = let same : Stopping ≡ t = cc in ap transfer_number same
transfer_only (suc (suc (suc (suc n)))) t e =
    let m : ℕ = suc (suc (suc (suc n))) in
    let none : None ≡ transfer_from m = sym (rw (
      above m 0 (omega arith),
      above m 1 (omega arith),
      above m 2 (omega arith),
      above m 3 (omega arith),
    ) refl) in
    absurd cc

kind_only : (n : ℕ) (k : FrameOrigin) → kind_from n ≡ Some k → n ≡ kind_number k
kind_only zero k e = let same : Queue ≡ k = cc in ap kind_number same
kind_only (suc zero) k e = let same : Own ≡ k = cc in ap kind_number same
kind_only (suc (suc n)) k e =
    let m : ℕ = suc (suc n) in
    let none : None ≡ kind_from m =
    sym (rw (above m 0 (omega arith), above m 1 (omega arith)) refl) in
    absurd cc

reply_only : (n : ℕ) (r : Option Uf) → reply_from n ≡ Some r → n ≡ reply_number r
reply_only zero r e = let same : None ≡ r = cc in ap reply_number same
reply_only (suc zero) r e = let same : Some StartAct ≡ r = cc in ap reply_number same
reply_only (suc (suc zero)) r e = let same : Some StartCon ≡ r = cc in ap reply_number same
reply_only (suc (suc (suc zero))) r e = let same : Some StopAct ≡ r = cc in ap reply_number same
reply_only (suc (suc (suc (suc zero)))) r e = let same : Some StopCon ≡ r = cc in
    ap reply_number same
reply_only (suc (suc (suc (suc (suc zero))))) r e = let same : Some TestAct ≡ r = cc in
    ap reply_number same
reply_only (suc (suc (suc (suc (suc (suc zero)))))) r e = let same : Some TestCon ≡ r = cc in
    ap reply_number same
reply_only (suc (suc (suc (suc (suc (suc (suc n))))))) r e =
    let m : ℕ = suc (suc (suc (suc (suc (suc (suc n)))))) in
    let none : None ≡ reply_from m = sym (rw (
      above m 0 (omega arith),
      above m 1 (omega arith),
      above m 2 (omega arith),
      above m 3 (omega arith),
      above m 4 (omega arith),
      above m 5 (omega arith),
      above m 6 (omega arith),
    ) refl) in
    absurd cc

moment_only : (ns : List ℕ) (m : Option ℕ) → moment_from ns ≡ Some m → ns ≡ moment_numbers m
moment_only [] m e = let same : None ≡ m = cc in ap moment_numbers same
moment_only (n ∷ []) m e = let same : Some n ≡ m = cc in ap moment_numbers same
moment_only (n ∷ o ∷ ns) m e = absurd cc

frame_by : (n moment : ℕ) (f : Unacknowledged) (o : Option FrameOrigin) → kind_from n ≡ o
    → frame_with o moment ≡ Some f
    → n ∷ moment ∷ [] ≡ frame_line f
frame_by n moment f None is e = absurd cc
frame_by n moment f (Some kind) is e =
    let same : record { kind = kind; moment = moment } ≡ f = cc in
    ap (λ (x : ℕ). x ∷ moment ∷ []) (kind_only n kind is) ∙ ap frame_line same

pub frame_only : (ns : List ℕ) (f : Unacknowledged) → frame_from ns ≡ Some f → ns ≡ frame_line f
frame_only [] f e = absurd cc
frame_only (n ∷ []) f e = absurd cc
frame_only (n ∷ moment ∷ []) f e = frame_by n moment f (kind_from n) refl e
frame_only (n ∷ moment ∷ o ∷ ns) f e = absurd cc

if_numbers : (b : Bool) (x n : Numbers) → (if b then Some x else None) ≡ Some n → x ≡ n
if_numbers true x n e = cc
if_numbers false x n e = absurd cc

if_dues : (b : Bool) (x d : Dues) → (if b then Some x else None) ≡ Some d → x ≡ d
if_dues true x d e = cc
if_dues false x d e = absurd cc

numbers_by : (n ns nr queue own : ℕ) (x : Numbers) (o : Option Transfer) → transfer_from n ≡ o
    → numbers_with o ns nr queue own ≡ Some x → n ∷ ns ∷ nr ∷ queue ∷ own ∷ [] ≡ numbers_line x
numbers_by n ns nr queue own x None is e = absurd cc
numbers_by n ns nr queue own x (Some t) is e =
    ap (λ (m : ℕ). m ∷ ns ∷ nr ∷ queue ∷ own ∷ []) (transfer_only n t is)
    ∙ ap numbers_line (if_numbers (nat_lt ns 32768 && nat_lt nr 32768) _ x e)

pub numbers_only : (ns : List ℕ) (x : Numbers) → numbers_from ns ≡ Some x → ns ≡ numbers_line x
numbers_only [] x e = absurd cc
numbers_only (a ∷ []) x e = absurd cc
numbers_only (a ∷ b ∷ []) x e = absurd cc
numbers_only (a ∷ b ∷ c ∷ []) x e = absurd cc
numbers_only (a ∷ b ∷ c ∷ d ∷ []) x e = absurd cc
numbers_only (a ∷ b ∷ c ∷ d ∷ f ∷ []) x e = numbers_by a b c d f x (transfer_from a) refl e
numbers_only (a ∷ b ∷ c ∷ d ∷ f ∷ g ∷ ns) x e = absurd cc

dues_by : (frames unconfirmed since last n : ℕ) (ns : List ℕ) (x : Dues) (r : Option (Option Uf))
    (m : Option (Option ℕ)) → reply_from n ≡ r → moment_from ns ≡ m
    → dues_with frames unconfirmed since last r m ≡ Some x
    → frames ∷ unconfirmed ∷ since ∷ last ∷ n ∷ ns ≡ dues_line x
dues_by frames unconfirmed since last n ns x None m is at e = absurd cc
dues_by frames unconfirmed since last n ns x (Some r) None is at e = absurd cc
dues_by frames unconfirmed since last n ns x (Some r) (Some m) is at e =
    ap (λ (i : ℕ). frames ∷ unconfirmed ∷ since ∷ last ∷ i ∷ ns) (reply_only n r is)
    ∙ ap (λ (l : List ℕ). frames ∷ unconfirmed ∷ since ∷ last ∷ reply_number r ∷ l)
    (moment_only ns m at)
    ∙ ap dues_line (if_dues (nat_lt unconfirmed 65536) _ x e)

pub dues_only : (ns : List ℕ) (x : Dues) → dues_from ns ≡ Some x → ns ≡ dues_line x
dues_only [] x e = absurd cc
dues_only (a ∷ []) x e = absurd cc
dues_only (a ∷ b ∷ []) x e = absurd cc
dues_only (a ∷ b ∷ c ∷ []) x e = absurd cc
dues_only (a ∷ b ∷ c ∷ d ∷ []) x e = absurd cc
dues_only (a ∷ b ∷ c ∷ d ∷ f ∷ ns) x e = dues_by a b c d f ns x (reply_from f) (moment_from ns) refl
    refl e

-- ---- a line that comes

pub next_line : (x y : List ℕ) (xs ys all : List (List ℕ)) → all ≡ x ∷ xs → all ≡ y ∷ ys
    → (y ≡ x) × (ys ≡ xs)
next_line x y xs ys all e f = let g : y ∷ ys ≡ x ∷ xs = sym f ∙ e in (cc, cc)

pub frame_is : (f : Unacknowledged) (ns : List ℕ) (r : Option Unacknowledged) → ns ≡ frame_line f
    → r ≡ frame_from ns
    → r ≡ Some f
frame_is f ns r is e = e ∙ ap frame_from is ∙ frame_back f

pub numbers_are : (s : Session) (ns : List ℕ) (r : Option Numbers) → IsSavable s
    → ns ≡ numbers_line (numbers_of s)
    → r ≡ numbers_from ns → r ≡ Some (numbers_of s)
numbers_are s ns r sav is e = e ∙ ap numbers_from is ∙ numbers_back s sav

pub dues_are : (s : Session) (ns : List ℕ) (r : Option Dues) → IsSavable s
    → ns ≡ dues_line (dues_of s) → r ≡ dues_from ns
    → r ≡ Some (dues_of s)
dues_are s ns r sav is e = e ∙ ap dues_from is ∙ dues_back s sav

pub same_frame : (f g : Unacknowledged) (r : Option Unacknowledged) → r ≡ Some f → r ≡ Some g
    → f ≡ g
same_frame f g r e h = cc

pub same_numbers : (f g : Numbers) (r : Option Numbers) → r ≡ Some f → r ≡ Some g → f ≡ g
same_numbers f g r e h = cc

pub same_dues : (f g : Dues) (r : Option Dues) → r ≡ Some f → r ≡ Some g → f ≡ g
same_dues f g r e h = cc

pub no_frame : (f : Unacknowledged) (r : Option Unacknowledged) → r ≡ None → r ≡ Some f → ⊥
no_frame f r e h = cc

pub no_numbers : (f : Numbers) (r : Option Numbers) → r ≡ None → r ≡ Some f → ⊥
no_numbers f r e h = cc

pub no_dues : (f : Dues) (r : Option Dues) → r ≡ None → r ≡ Some f → ⊥
no_dues f r e h = cc

-- ---- frames, one after another

some_frame : Unacknowledged
some_frame = record { kind = Own; moment = 0 }

pub frame_at : List Unacknowledged → ℕ → Unacknowledged
frame_at fs i = get_or fs i some_frame

pub lines_at : (fs : List Unacknowledged) (i : ℕ) (rest : List (List ℕ)) → i < length fs
    → frame_lines (drop i fs) ++ rest ≡ frame_line (frame_at fs i)
    ∷ (frame_lines (drop (i + 1) fs) ++ rest)
unfolding frame_at
lines_at fs i rest lt = ap (λ (gs : List Unacknowledged). frame_lines gs ++ rest)
    (drop_more fs i some_frame lt)

pub one_more : (before now new fs : List Unacknowledged) (i : ℕ) (f : Unacknowledged)
    → i < length fs
    → now ≡ before ++ take i fs → f ≡ frame_at fs i → new ≡ now ++ f ∷ []
    → new ≡ before ++ take (i + 1) fs
unfolding frame_at
one_more before now new fs i f lt is same e =
    e ∙ ap (λ (l : List Unacknowledged). l ++ f ∷ []) is ∙ append_assoc before (take i fs) (f ∷ [])
    ∙ ap (λ (g : Unacknowledged). before ++ (take i fs ++ g ∷ [])) same
    ∙ ap (λ (l : List Unacknowledged). before ++ l) (sym (take_more fs i some_frame lt))

frame_lines-append : (fs gs : List Unacknowledged) → frame_lines (fs ++ gs)
    ≡ frame_lines fs ++ frame_lines gs
frame_lines-append [] gs = refl
frame_lines-append (f ∷ fs) gs = ap (λ (l : List (List ℕ)). frame_line f ∷ l)
    (frame_lines-append fs gs)

-- so many frames were read, and the lines were theirs
pub record Read (before now : List Unacknowledged) (lines coming : List (List ℕ)) (n : ℕ) : Type
    0 where
  pub frames : List Unacknowledged
  pub count : length frames ≡ n
  pub items : now ≡ before ++ frames
  pub logged : lines ≡ frame_lines frames ++ coming

pub none_read : (before : List Unacknowledged) (lines : List (List ℕ))
    → Read before before lines lines 0
none_read before lines = record {
  frames = [];
  count = refl;
  items = sym (append-nil before);
  logged =
      refl;
}

pub one_read : (before now new : List Unacknowledged) (lines coming after : List (List ℕ)) (n : ℕ)
    (f : Unacknowledged)
    → Read before now lines coming n → coming ≡ frame_line f ∷ after → new ≡ now ++ f ∷ []
    → Read before new lines after (n + 1)
one_read before now new lines coming after n f r line e = record {
  frames = r.frames ++ f ∷ [];
  count = omega (arith, length_push r.frames f, r.count);
  items = e ∙ ap (λ (l : List Unacknowledged). l ++ f ∷ []) r.items
      ∙ append_assoc before r.frames (f ∷ []);
  logged = r.logged ∙ ap (λ (l : List (List ℕ)). frame_lines r.frames ++ l) line
      ∙ sym (append_assoc (frame_lines r.frames) (frame_line f ∷ []) after)
      ∙ ap (λ (l : List (List ℕ)). l ++ after) (sym (frame_lines-append r.frames (f ∷ [])));
}

pub has_room : (before now : List Unacknowledged) (lines coming : List (List ℕ)) (n : ℕ)
    → Read before now lines coming n
    → length now ≡ length before + n
has_room before now lines coming n r =
    omega (arith, ap length r.items, length-append before r.frames, r.count)

pub taken_in : (r : Result (Unit {0}) Unacknowledged) (P : Type 0) → IsOk r → OnOk r P → P
taken_in (Ok x) P is on = on
taken_in (Err e) P is on = let bad : ⊥ = search rules in absurd bad

-- what was read is the session that was written
abbrev with_parts : (k w t1 t2 t3 : ℕ) → Numbers → Dues → List Unacknowledged → Session
with_parts k w t1 t2 t3 n d us = record {
  k = k;
  w = w;
  t1 = t1;
  t2 = t2;
  t3 = t3;
  transfer = n.transfer;
  unacknowledged = us;
  acked_queue = n.acked_queue;
  acked_own = n.acked_own;
  next_sent = n.next_sent;
  next_received = n.next_received;
  unconfirmed = d.unconfirmed;
  unconfirmed_since = d.unconfirmed_since;
  last_frame = d.last_frame;
  test_sent = d.test_sent;
  reply = d.reply;
}

pub restored_is : (s : Session) (k w t1 t2 t3 : ℕ) (n : Numbers) (d : Dues)
    (us : List Unacknowledged)
    → HasSettings s k w t1 t2 t3 → n ≡ numbers_of s → d ≡ dues_of s → us ≡ s.unacknowledged
    → with_parts k w t1 t2 t3 n d us ≡ s
restored_is s k w t1 t2 t3 n d us set en ed eu =
    ap (λ (x : ℕ). with_parts x w t1 t2 t3 n d us) (sym set.k_is)
    ∙ ap (λ (x : ℕ). with_parts s.k x t1 t2 t3 n d us) (sym set.w_is)
    ∙ ap (λ (x : ℕ). with_parts s.k s.w x t2 t3 n d us) (sym set.t1_is)
    ∙ ap (λ (x : ℕ). with_parts s.k s.w s.t1 x t3 n d us) (sym set.t2_is)
    ∙ ap (λ (x : ℕ). with_parts s.k s.w s.t1 s.t2 x n d us) (sym set.t3_is)
    ∙ ap (λ (x : Numbers). with_parts s.k s.w s.t1 s.t2 s.t3 x d us) en
    ∙ ap (λ (x : Dues). with_parts s.k s.w s.t1 s.t2 s.t3 (numbers_of s) x us) ed
    ∙ ap (λ (x : List Unacknowledged). with_parts s.k s.w s.t1 s.t2 s.t3 (numbers_of s) (dues_of s)
    x) eu
