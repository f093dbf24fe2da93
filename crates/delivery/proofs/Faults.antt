-- A frame has the fault that the history of its connection gives it.
use Rattle.std.proofs.Common.{◌≡◌, ℕ, ◌%◌, ◌==◌, Bool, true, false, not, nat_lt, nat_le, []}
use Rattle.std.proofs.Common.{◌∷◌, length, refl, ap, sym, ◌∙◌, arith, inl, inr, Some, None}
use Rattle.std.specs.Prelude.{if◌then◌else◌}
use Rattle.std.proofs.lemmas.Bool.{cases_lt, lt-ltb, le-ltb, lt-leb, le-leb}
use Rattle.apci.specs.declared.apdu.Apdu.{Apdu}
use Rattle.apci.specs.declared.apdu.Apdu.TheVariants.{I, S, U}
use Rattle.session.specs.declared.kinds.Close.TheVariants.{SendNumber, ReceiveNumber, Stopped}
use Rattle.session.specs.declared.kinds.Taken.TheVariants.{Nothing, Asdu, Close as Closes}
use Rattle.session.specs.History as talk
use Rattle.session.specs.History.{History, reached, sent_frames, received_count, is_started}
use Rattle.session.specs.History.{is_valid_receive_number, verdict_on}
use Rattle.gateway.specs.Course.{came_frames}
use Rattle.gateway.specs.Frames.{i_frames, acknowledged_count, fault_of}
use Rattle.gateway.proofs.OneCause.{came_transfers, came_acknowledged}
use Rattle.delivery.specs.Received.{close_by}

pub came_count : (h : History) → i_frames (came_frames h) ≡ received_count h
came_count [] = refl
came_count (talk.Opened now ∷ h) = came_count h
came_count (talk.Came (I ns nr asdu) now ∷ h) = omega (arith, came_count h)
came_count (talk.Came (S nr) now ∷ h) = came_count h
came_count (talk.Came (U function) now ∷ h) = came_count h
came_count (talk.Refused now ∷ h) = came_count h
came_count (talk.Sent ns nr kind now ∷ h) = came_count h
came_count (talk.Went f now ∷ h) = came_count h

-- more is acknowledged than was sent, or it isn't
more_than : (a b : ℕ) → nat_lt b a ≡ not (nat_le a b)
more_than a b = elim (cases_lt b a) [
  | inl lt ↦ lt-ltb b a lt ∙ sym (ap not (lt-leb a b lt))
  | inr le ↦ le-ltb b a le
      ∙ sym (ap not (le-leb a b le))
]

valid_as : (nr : ℕ) (h : History)
    → nat_lt (length (sent_frames h)) (reached (acknowledged_count (came_frames h)) nr)
    ≡ not (is_valid_receive_number nr h)
valid_as nr h =
    ap (λ a. nat_lt (length (sent_frames h)) (reached a nr)) (came_acknowledged h)
    ∙ more_than (reached (talk.acknowledged_count h) nr) (length (sent_frames h))

three : (a b c : Bool)
    → (if a then Some Stopped else (if b then Some SendNumber
    else (if c then Some ReceiveNumber else None)))
    ≡ close_by (if a then Closes Stopped else (if b then Closes SendNumber
    else (if c then Closes ReceiveNumber else Asdu)))
three true b c = refl
three false true c = refl
three false false true = refl
three false false false = refl

one : (c : Bool) → (if c then Some ReceiveNumber else None)
    ≡ close_by (if c then Closes ReceiveNumber else Nothing)
one true = refl
one false = refl

pub same_fault : (h : History) (frame : Apdu)
    → fault_of (length (sent_frames h)) (came_frames h) frame ≡ close_by (verdict_on frame h)
same_fault h (I ns nr asdu) =
    rw (came_transfers h, came_count h, valid_as nr h)
    (three (not (is_started h)) (not (ns == received_count h % 32768))
    (not (is_valid_receive_number nr h)))
same_fault h (S nr) = rw (valid_as nr h) (one (not (is_valid_receive_number nr h)))
same_fault h (U function) = refl
