-- Each call logs only what keeps the rules: its condition is the standard's, by what the session
-- keeps of the history.
use Rattle.std.proofs.Common.{◌≡◌, ℕ, Bool, true, false, cond, nat_lt, List, [], ◌∷◌, length}
use Rattle.std.proofs.Common.{Option, Some, None, refl, ap, sym, ◌∙◌, inl, inr}
use Rattle.std.specs.Prelude.{is_none}
use Rattle.std.proofs.lemmas.Bool.{and_parts, ltb-true}
use Rattle.apci.specs.declared.apdu.Apdu.{Apdu}
use Rattle.session.specs.declared.kinds.FrameOrigin.{FrameOrigin}
use Rattle.session.specs.declared.kinds.Taken.{Taken}
use Rattle.session.specs.declared.kinds.Taken.TheVariants.{Nothing, Asdu, Close}
use Rattle.session.specs.Session as session
use Rattle.session.specs.Session.{Session, is_close, may_send, outcome_of, taken, confirmed, pulled}
use Rattle.session.specs.History.{History, Sent, is_started, still_unacknowledged, confirmation_of}
use Rattle.session.specs.History.{frame_due}
use Rattle.session.specs.Runs.{Settings, IsInRange, Call, Open, Cut, Take, Send, Confirm, Pull, Run}
use Rattle.session.specs.Runs.{run, logged, with_frame, may_take, after_call}
use Rattle.session.specs.Rules.{IsReceived, KeepsRules}
use Rattle.session.proofs.Keeps.{Keeps, if_taken, if_sent, run_keeps}
use Rattle.session.proofs.Standard.{verdict, confirms, pulls, sends}

none_of : (o : Option Apdu) → is_none o ≡ true → o ≡ None
none_of None e = refl
none_of (Some frame) e = absurd cc

arrived : (p : Settings) (s : Session) (h : History) → IsInRange p → Keeps p s h → may_take s ≡ true
    → IsReceived h
arrived p s h range keeps may =
    let tests = and_parts (session.is_open s) (is_none (confirmed s).0) may in
    record {
      connected = sym keeps.connected ∙ tests.0;
      confirmed = sym (confirms p s h range keeps) ∙ none_of (confirmed s).0 tests.1;
    }

judged : (p : Settings) (frame : Apdu) (now : ℕ) (s : Session) (h : History) → IsInRange p
    → Keeps p s h → IsReceived h
    → KeepsRules p h
    → (o : Taken) → outcome_of s frame ≡ o → KeepsRules p (logged o frame now ∷ h)
judged p frame now s h range keeps is rules (Close cause) e =
    ((is, (frame, ap is_close (sym (verdict p s h range keeps frame) ∙ e))), rules)
judged p frame now s h range keeps is rules Asdu e = (
  (is, ap is_close (sym (verdict p s h range keeps frame) ∙ e)),
  rules,
)
judged p frame now s h range keeps is rules Nothing e =
    ((is, ap is_close (sym (verdict p s h range keeps frame) ∙ e)), rules)

take_rules : (p : Settings) (frame : Apdu) (now : ℕ) (r : Run) → IsInRange p
    → Keeps p r.session r.history
    → KeepsRules p r.history
    → (b : Bool) → may_take r.session ≡ b
    → KeepsRules p (if_taken b frame now r).history
take_rules p frame now r range keeps rules true may =
    judged p frame now r.session r.history range keeps (arrived p r.session r.history range keeps
    may)
    rules
    (outcome_of r.session frame) refl
take_rules p frame now r range keeps rules false may = rules

send_rules : (p : Settings) (kind : FrameOrigin) (now : ℕ) (r : Run) → Keeps p r.session r.history
    → KeepsRules p r.history
    → (b : Bool) → may_send r.session ≡ b
    → KeepsRules p (if_sent b kind now r).history
send_rules p kind now r keeps rules true may =
    let tests =
    and_parts (is_started r.history) (nat_lt (length (still_unacknowledged r.history)) p.k)
    (sym (sends p r.session r.history keeps) ∙ may) in (
      record {
        send_number = keeps.window.next_is;
        receive_number = keeps.receipt.next_is;
        started = tests.0;
        window = ltb-true _ _ tests.1;
      },
      rules,
    )
send_rules p kind now r keeps rules false may = rules

confirm_rules : (p : Settings) (now : ℕ) (h : History) → KeepsRules p h → (o : Option Apdu)
    → confirmation_of h ≡ o
    → KeepsRules p (with_frame o now h)
confirm_rules p now h rules None e = rules
confirm_rules p now h rules (Some frame) e = (inl e, rules)

pull_rules : (p : Settings) (now : ℕ) (h : History) → KeepsRules p h → (o : Option Apdu)
    → frame_due p.w p.t2 p.t3 now h ≡ o → KeepsRules p (with_frame o now h)
pull_rules p now h rules None e = rules
pull_rules p now h rules (Some frame) e = (inr e, rules)

call_rules : (p : Settings) (call : Call) (r : Run) → IsInRange p → Keeps p r.session r.history
    → KeepsRules p r.history → KeepsRules p (after_call call r).history
call_rules p (Open now) r range keeps rules = (refl, tt)
call_rules p Cut r range keeps rules = tt
call_rules p (Take frame now) r range keeps rules =
    take_rules p frame now r range keeps rules (may_take r.session) refl
call_rules p (Send kind now) r range keeps rules =
    send_rules p kind now r keeps rules (may_send r.session) refl
call_rules p (Confirm now) r range keeps rules =
    confirm_rules p now r.history rules (confirmed r.session).0
    (sym (confirms p r.session r.history range keeps))
call_rules p (Pull now) r range keeps rules =
    pull_rules p now r.history rules (pulled now r.session).0
    (sym (pulls p r.session r.history range keeps now))

pub run_rules : (p : Settings) (calls : List Call) → IsInRange p
    → KeepsRules p (run p calls).history
run_rules p [] range = tt
run_rules p (call ∷ earlier) range =
    call_rules p call (run p earlier) range (run_keeps p earlier range)
    (run_rules p earlier range)
