-- What is put out, end by end.
use Rattle.std.proofs.Common.{◌≡◌, ℕ, List, Bool, true, false, Some, None, sym, ap, ◌∙◌}
use Rattle.gateway.specs.Log.{LineOut, TcpOut, Closed, GapOut}
use Rattle.session.specs.declared.kinds.Close.{Close}
use Rattle.live.specs.Ends.{LiveEnds, Peer, after_action, written_open, IsWritten, PutsOut}

-- nothing is written, if a cut is due
pub dropped_due : (old new : LiveEnds) (octets : List ℕ) → old.is_cut_due ≡ true → new ≡ old
    → IsWritten old octets new
dropped_due old new octets due same = record {
  taken = false;
  done = same
      ∙ sym (ap (λ b. written_open b octets false old.connection old) due);
}

-- nor if there is no connection
pub dropped_none : (old new : LiveEnds) (octets : List ℕ) → old.is_cut_due ≡ false → old.connection
    ≡ None → new ≡ old
    → IsWritten old octets new
dropped_none old new octets due none same = record {
  taken = false;
  done = same
      ∙ sym (ap (λ b. written_open b octets false old.connection old) due
      ∙ ap (λ h. written_open false octets false h old) none);
}

pub written : (old new : LiveEnds) (octets : List ℕ) (peer : Peer) (taken : Bool) → old.is_cut_due
    ≡ false
    → old.connection ≡ Some peer → new ≡ written_open false octets taken (Some peer) old
    → IsWritten old octets new
written old new octets stream taken due there done = record {
  taken = taken;
  done = done
      ∙ sym (ap (λ b. written_open b octets taken old.connection old) due
      ∙ ap (λ h. written_open false octets taken h old) there);
}

pub put_line : (old new : LiveEnds) (moment written : ℕ) (octets : List ℕ) (taken : Bool) (late : ℕ)
    → new ≡ after_action moment (LineOut octets) written taken late old
    → PutsOut old moment (LineOut octets) new
put_line old new moment written octets taken late done =
    record { written = written; taken = taken; late = late; done = done }

pub put_tcp : (old new : LiveEnds) (moment : ℕ) (octets : List ℕ) → IsWritten old octets new
    → PutsOut old moment (TcpOut octets) new
put_tcp old new moment octets w =
    record { written = 0; taken = w.taken; late = 0; done = w.done }

pub put_close : (old new : LiveEnds) (moment : ℕ) (cause : Close)
    → new ≡ after_action moment (Closed cause) 0 false 0 old
    → PutsOut old moment (Closed cause) new
put_close old new moment cause done =
    record { written = 0; taken = false; late = 0; done = done }

pub put_gap : (old new : LiveEnds) (moment station session : ℕ) → new ≡ old
    → PutsOut old moment (GapOut station session) new
put_gap old new moment station session same =
    record { written = 0; taken = false; late = 0; done = same }
