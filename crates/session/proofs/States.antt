-- The states of data transfer against one another.
use Rattle.std.proofs.Common.{◌≡◌, ℕ, Bool, true, false, cond, [], refl}
use Rattle.apci.specs.declared.apdu.Apdu.{Apdu}
use Rattle.session.specs.declared.kinds.Transfer.{Transfer}
use Rattle.session.specs.declared.kinds.Transfer.TheVariants.{Closed, Stopped, Started, Stopping}
use Rattle.session.specs.Session.{Session, opens, transfers, stops, is_open, turned_to, refuses}
use Rattle.session.specs.Session.{taken}
use Rattle.session.specs.Laws.{MatchesAcknowledged}

pub transferring_opens : (t : Transfer) → transfers t ≡ true → opens t ≡ true
transferring_opens Closed h = absurd cc
transferring_opens Stopped h = refl
transferring_opens Started h = refl
transferring_opens Stopping h = refl

pub stopping_transfers_not : (t : Transfer) → stops t ≡ true → transfers t ≡ false
stopping_transfers_not Closed h = refl
stopping_transfers_not Stopped h = refl
stopping_transfers_not Started h = absurd cc
stopping_transfers_not Stopping h = refl

either_opens : (t : Transfer) (b : Bool) → opens t ≡ true → opens (cond b t Closed) ≡ b
either_opens t true h = h
either_opens t false h = refl

-- A STARTDT act or STOPDT act neither opens nor closes.
pub turned_opens : (t : Transfer) (s : Session) → opens t ≡ true → opens (turned_to t s) ≡ is_open s
turned_opens t s h = either_opens t (is_open s) h

pub refused_acknowledges : (frame : Apdu) (now : ℕ) (s : Session) → refuses s frame ≡ true
    → MatchesAcknowledged [] (taken frame now s)
refused_acknowledges frame now s e = rw e (refl, refl)
