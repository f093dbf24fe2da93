-- What a request or a moment makes of the steps of commands, as the exchanges show them and as the
-- course logs them.
use Rattle.std.specs.Prelude.{◌==◌, ◌&&◌, not, suc, nat_lt}
use Rattle.std.proofs.Common.{◌≡◌, ℕ, Bool, true, false, List, [], ◌∷◌, ◌++◌, map, Option, Some}
use Rattle.std.proofs.Common.{None, refl, ap, sym, ◌∙◌, if◌then◌else◌}
use Rattle.std.proofs.lemmas.List.{append-nil}
use Rattle.ft12.specs.declared.frame.Frame.{Frame}
use Rattle.link.specs.declared.service.Service.{Service}
use Rattle.link.specs.declared.service.Service.TheVariants.{Class1, Class2, Command}
use Rattle.link.specs.declared.service.Asked.{Asked}
use Rattle.link.specs.declared.service.Asked.TheVariants.{Status, Reset, Counted}
use Rattle.link.specs.declared.answer.Answer.{Answer}
use Rattle.link.specs.declared.outcome.Outcome.{Outcome}
use Rattle.link.specs.declared.outcome.Outcome.TheVariants as outcome
use Rattle.link.specs.declared.procedure.Link.{Link}
use Rattle.link.specs.declared.procedure.Link.TheVariants.{Down, Available, Next, Held}
use Rattle.link.specs.Exchanges.{Exchange, answer_to}
use Rattle.link.specs.declared.settings.LinkSettings.{LinkSettings}
use Rattle.link.specs.Procedure.{MaySend, is_held, is_up, after_silence, held}
use Rattle.link.specs.declared.procedure.Silence.{Silence}
use Rattle.link.specs.declared.procedure.Probed.{Probed}
use Rattle.link.specs.Procedure.{is_kept, short_silence, spent_silence}
use Rattle.link.specs.Runs.{silence_outcome}
use Rattle.link.specs.Primary.{is_command}
use Rattle.link.specs.Delivery.{pending_by, pending_after, first_sending}
use Rattle.command.specs.History.{History, Sent, GivenUp}
use Rattle.delivery.specs.Commands.{LineStep, Begun, said_of, is_silent, goes_down, steps_in}
use Rattle.delivery.specs.Commands.{first_sendings, last_sent, steps_logged, sent_to, unmissed}
use Rattle.delivery.proofs.Steps.{pending_more, missed_after, steps_more, sendings_more, Pends}
use Rattle.delivery.proofs.Steps.{none_said, no_first, Counts, CountsSilence, so_far, still_up}
use Rattle.delivery.proofs.History.{LineLogged, line_logged}
use Rattle.delivery.proofs.Exchanging.{IsLogged, lost_if, quiet_logged, lost_logged, here_is}
use Rattle.delivery.proofs.Exchanging.{lost_far, sent_far}

-- A request goes out

-- what a request that goes out logs, if it is a command's first sending
abbrev pub logged_asked : Bool → (station : ℕ) → Asked → History → History
logged_asked true station (Counted fcb (Command asdu)) h = Sent station asdu ∷ h
logged_asked first station request h = h

pub asked_far : (first : Bool) (k j : ℕ) (request : Asked) (h : History) → (k == j) ≡ false
    → line_logged k (logged_asked first j request h) ≡ line_logged k h
asked_far true k j Status h far = refl
asked_far true k j Reset h far = refl
asked_far true k j (Counted fcb Class1) h far = refl
asked_far true k j (Counted fcb Class2) h far = refl
asked_far true k j (Counted fcb (Command asdu)) h far = sent_far k j asdu h far
asked_far false k j request h far = refl

module _ (s : LinkSettings) (a k : ℕ) (xs : List Exchange) (request : Asked)
    (front : Option Frame) where
  abbrev new_one : Exchange
  new_one = record { request = request; front = front; closed = false; given_up = false }

  asked_steps : (first : List (List ℕ)) → answer_to a new_one ≡ None
      → first_sending (pending_after a None xs) request ≡ first
      → steps_in s a unmissed None (xs ++ new_one ∷ []) ≡ steps_in s a unmissed None xs
      ++ map (λ (asdu : List ℕ). Begun asdu) first
  asked_steps first none is =
      let missed : Silence = missed_after a unmissed xs in
      let old : List LineStep = steps_in s a unmissed None xs in
      steps_more s a unmissed None xs new_one
      ∙ ap (λ (o : Option Answer). old
      ++ (map (λ (asdu : List ℕ). Begun asdu) (first_sending (pending_after a None xs) request)
      ++ (said_of request o ++ lost_if (goes_down s missed request false o)))) none
      ∙ ap (λ (l : List (List ℕ)). old ++ (map (λ (asdu : List ℕ). Begun asdu) l
      ++ (said_of request None ++ lost_if (goes_down s missed request false None)))) is
      ∙ ap (λ (l : List LineStep). old ++ (map (λ (asdu : List ℕ). Begun asdu) first
      ++ (l ++ lost_if (goes_down s missed request false None)))) (none_said request)
      ∙ ap (λ (b : Bool). old ++ (map (λ (asdu : List ℕ). Begun asdu) first ++ lost_if b))
      (still_up s missed request)
      ∙ ap (λ (l : List LineStep). old ++ l)
      (append-nil (map (λ (asdu : List ℕ). Begun asdu) first))

  asked_sendings : (first : List (List ℕ)) → first_sending (pending_after a None xs) request ≡ first
      → first_sendings a None (xs ++ new_one ∷ []) ≡ first_sendings a None xs ++ first
  asked_sendings first is = sendings_more a None xs new_one
      ∙ ap (λ (l : List (List ℕ)). first_sendings a None xs ++ l) is

  asked_pending : answer_to a new_one ≡ None → pending_after a None (xs ++ new_one ∷ [])
      ≡ pending_by request None (pending_after a None xs)
  asked_pending none = pending_more a None xs new_one ∙ ap
      (λ (o : Option Answer). pending_by request o (pending_after a None xs)) none

  -- no command is sent for the first time
  again_logged : (h new : History) → answer_to a new_one ≡ None
      → first_sending (pending_after a None xs) request ≡ []
      → ((asdu : List ℕ) → pending_by request None (pending_after a None xs) ≡ Some (Command asdu)
      → pending_after a None xs ≡ Some (Command asdu)) →
      line_logged k new ≡ line_logged k h → IsLogged s a xs k h
      → IsLogged s a (xs ++ new_one ∷ []) k new
  again_logged h new none nothing back same t = record {
    steps = ap (λ (l : LineLogged). l.steps) same ∙ t.steps
        ∙ sym (append-nil (steps_in s a unmissed None xs))
        ∙ sym (asked_steps [] none nothing);
    last = λ asdu e. ap (λ (l : LineLogged). l.last) same
        ∙ t.last asdu (back asdu (sym (asked_pending none) ∙ e));
    sent = ap (λ (l : LineLogged). l.sent) same ∙ t.sent
        ∙ sym (append-nil (first_sendings a None xs))
        ∙ sym (asked_sendings [] nothing);
  }

  -- a command is
  first_logged : (fcb : Bool) (asdu : List ℕ) (h new : History) → answer_to a new_one ≡ None
      → request ≡ Counted fcb (Command asdu) → pending_after a None xs ≡ None →
      line_logged k new ≡ line_logged k (Sent k asdu ∷ h) → IsLogged s a xs k h
      → IsLogged s a (xs ++ new_one ∷ []) k new
  first_logged fcb asdu h new none is free same t =
      let first : first_sending (pending_after a None xs) request ≡ asdu ∷ [] =
      ap (λ (o : Option Service). first_sending o request) free
      ∙ ap (λ (r : Asked). first_sending None r) is in
      record {
        steps = ap (λ (l : LineLogged). l.steps) same
            ∙ ap (λ (b : Bool). if b then steps_logged k h ++ Begun asdu
            ∷ [] else steps_logged k h) (here_is k)
            ∙ ap (λ (l : List LineStep). l ++ Begun asdu ∷ []) t.steps
            ∙ sym (asked_steps (asdu ∷ []) none first);
        last = λ other e.
            let held : Some (Command asdu) ≡ Some (Command other) =
            sym (ap (λ (r : Asked). pending_by r None (pending_after a None xs)) is)
            ∙ sym (asked_pending none)
            ∙ e in
            let same_one : asdu ≡ other = cc in
            ap (λ (l : LineLogged). l.last) same
            ∙ ap (λ (b : Bool). if b then asdu else last_sent k h) (here_is k)
            ∙ same_one;
        sent = ap (λ (l : LineLogged). l.sent) same
            ∙ ap (λ (b : Bool). if b then sent_to k h ++ asdu
            ∷ [] else sent_to k h) (here_is k)
            ∙ ap (λ (l : List (List ℕ)). l ++ asdu ∷ []) t.sent
            ∙ sym (asked_sendings (asdu ∷ []) first);
      }

pub asked_one : (s : LinkSettings) (a k : ℕ) (xs : List Exchange) (request : Asked)
    (front : Option Frame)
    (link : Link) (h new : History) →
    answer_to a (record { request = request; front = front; closed = false; given_up = false })
    ≡ None
    → MaySend link request
    → Pends link (pending_after a None xs) →
    line_logged k new
    ≡ line_logged k (logged_asked (is_command request && not (is_held link)) k request h) →
    IsLogged s a xs k h
    → IsLogged s a (xs ++ record {
      request = request;
      front = front;
      closed = false;
      given_up =
          false;
    } ∷ []) k new
asked_one s a k xs Status front link h new none may pends same t =
    again_logged s a k xs Status front h new none
    (no_first (pending_after a None xs) Status (λ fcb asdu e. cc))
    (λ asdu e. e) same t
asked_one s a k xs Reset front link h new none may pends same t =
    again_logged s a k xs Reset front h new none
    (no_first (pending_after a None xs) Reset (λ fcb asdu e. cc))
    (λ asdu e. e) same t
asked_one s a k xs (Counted fcb Class1) front link h new none may pends same t =
    again_logged s a k xs (Counted fcb Class1) front h new none
    (no_first (pending_after a None xs) (Counted fcb Class1) (λ f asdu e. cc)) (λ asdu e. cc) same t
asked_one s a k xs (Counted fcb Class2) front link h new none may pends same t =
    again_logged s a k xs (Counted fcb Class2) front h new none
    (no_first (pending_after a None xs) (Counted fcb Class2) (λ f asdu e. cc)) (λ asdu e. cc) same t
asked_one s a k xs (Counted fcb (Command asdu)) front Down h new none may pends same t = absurd may
asked_one s a k xs (Counted fcb (Command asdu)) front Available h new none may pends same t =
    absurd may
asked_one s a k xs (Counted fcb (Command asdu)) front (Next due) h new none may pends same t =
    first_logged s a k xs (Counted fcb (Command asdu)) front fcb asdu h new none refl pends same t
asked_one s a k xs (Counted fcb (Command asdu)) front (Held due service missed) h new none may pends
    same t =
    again_logged s a k xs (Counted fcb (Command asdu)) front h new none
    (ap (λ (o : Option Service). first_sending o (Counted fcb (Command asdu))) pends)
    (λ other e. pends ∙ ap (λ (s : Service). Some s) (sym may.1) ∙ e) same t

-- A moment ends an exchange without an answer

-- what silence logs
abbrev pub logged_due : Outcome → History → History
logged_due (outcome.Down station) h = GivenUp station false ∷ h
logged_due other h = h

abbrev down_if : ℕ → Bool → Outcome
down_if j b = if b then outcome.Down j else outcome.None

held_goes : (fcb : Bool) (service : Service) (n m : Silence) (b c : Bool)
    → not (is_up (if b then (if c then Held fcb service n else Down) else Held fcb service m))
    ≡ (not c && b)
held_goes fcb service n m true true = refl
held_goes fcb service n m true false = refl
held_goes fcb service n m false true = refl
held_goes fcb service n m false false = refl

same_silence : (kept : Bool) (retries n m : ℕ) → (kept ≡ false → n ≡ m)
    → (not kept && nat_lt retries (suc m)) ≡ (not kept && nat_lt retries (suc n))
same_silence true retries n m same = refl
same_silence false retries n m same = ap (λ (i : ℕ). nat_lt retries (suc i)) (sym (same refl))

-- one more sending of a service without an answer
missed_is : (s : LinkSettings) (fcb : Bool) (service : Service) (n silence : Silence)
    → CountsSilence s silence n
    → not (is_up (held s fcb service (suc silence.missed) silence.probed))
    ≡ is_silent s n (Counted fcb service) true
missed_is s fcb service n silence c =
    held_goes fcb service (spent_silence s silence.probed)
    (short_silence (suc silence.missed) silence.probed) (nat_lt s.retries (suc silence.missed))
    (is_kept s silence.probed)
    ∙ same_silence (is_kept s silence.probed) s.retries n.missed silence.missed c.1.0
    ∙ ap (λ (probed : Probed). not (is_kept s probed) && nat_lt s.retries (suc n.missed)) (sym c.0)

pub silence_is : (s : LinkSettings) (j : ℕ) (request : Asked) (link : Link) (n : Silence)
    → MaySend link request
    → Counts s link n →
    silence_outcome j link (after_silence s request true link)
    ≡ down_if j (is_silent s n request true)
silence_is s j Status Down n may c = refl
silence_is s j Status Available n may c = refl
silence_is s j Status (Next fcb) n may c = absurd may
silence_is s j Status (Held fcb service missed) n may c = refl
silence_is s j Reset Down n may c = refl
silence_is s j Reset Available n may c = refl
silence_is s j Reset (Next fcb) n may c = absurd may
silence_is s j Reset (Held fcb service missed) n may c = absurd may
silence_is s j (Counted fcb service) Down n may c = absurd may
silence_is s j (Counted fcb service) Available n may c = absurd may
silence_is s j (Counted fcb service) (Next due) n may c =
    ap (down_if j) (missed_is s fcb service n unmissed
    (so_far s (Next due) fcb service n may c))
silence_is s j (Counted fcb service) (Held due other silence) n may c =
    ap (down_if j) (missed_is s fcb service n silence
    (so_far s (Held due other silence) fcb service n may c))

pub closed_one : (s : LinkSettings) (a k : ℕ) (xs : List Exchange) (request : Asked)
    (front : Option Frame)
    (link : Link) (h new : History) →
    answer_to a (record { request = request; front = front; closed = false; given_up = false })
    ≡ None
    → MaySend link request
    → Counts s link (missed_after a unmissed xs) →
    line_logged k new
    ≡ line_logged k (logged_due (silence_outcome k link (after_silence s request true link)) h) →
    IsLogged s a (xs ++ record {
      request = request;
      front = front;
      closed = false;
      given_up =
          false;
    }
    ∷ []) k h
    → IsLogged s a (xs ++ record {
      request = request;
      front = front;
      closed = true;
      given_up =
          false;
    }
    ∷ []) k new
closed_one s a k xs request front link h new none may counts same t =
    go (is_silent s (missed_after a unmissed xs) request true) refl (same
    ∙ ap (λ (o : Outcome). line_logged k (logged_due o h))
    (silence_is s k request link (missed_after a unmissed xs) may counts))
  where
    says : (b : Bool) → is_silent s (missed_after a unmissed xs) request true ≡ b
        → said_of request None ++ lost_if (is_silent s (missed_after a unmissed xs) request true)
        ≡ lost_if b
    says b is =
        ap (λ (l : List LineStep). l
        ++ lost_if (is_silent s (missed_after a unmissed xs) request true))
        (none_said request) ∙ ap lost_if is

    go : (b : Bool) → is_silent s (missed_after a unmissed xs) request true ≡ b
        → line_logged k new ≡ line_logged k (logged_due (down_if k b) h)
        → IsLogged s a (xs ++ record {
          request = request;
          front = front;
          closed = true;
          given_up =
              false;
        } ∷ []) k new
    go true is same = lost_logged s a k xs request front front true None h new none none
        (says true is) same t
    go false is same = quiet_logged s a k xs request front front true None h new none none
        (says false is) same t

pub closed_far : (k j : ℕ) (before later : Link) (h : History) → (k == j) ≡ false
    → line_logged k (logged_due (silence_outcome j before later) h) ≡ line_logged k h
closed_far k j before later h far = go (is_up before && not (is_up later))
  where
    go : (b : Bool) → line_logged k (logged_due (down_if j b) h) ≡ line_logged k h
    go true = lost_far k j false h far
    go false = refl
