-- A restart: what the exchanges show of the commands that it gives up, and what the course logs.
use Rattle.std.specs.Prelude.{◌==◌, ◌&&◌, ◌||◌, not, suc, nat_lt}
use Rattle.std.proofs.Common.{◌≡◌, ℕ, zero, ◌<◌, ◌≤◌, Bool, true, false, List, [], ◌∷◌, ◌++◌, map}
use Rattle.std.proofs.Common.{length, Option, Some, None, refl, ap, sym, subst, ◌∙◌, ◌⊎◌, inl, inr}
use Rattle.std.proofs.Common.{append_assoc, arith, if◌then◌else◌}
use Rattle.std.proofs.lemmas.List.{append-nil}
use Rattle.std.proofs.lemmas.Bool.{cases_eq, eqb-true}
use Rattle.ft12.specs.declared.frame.Front.{Front}
use Rattle.ft12.specs.Fronts.{front_of}
use Rattle.link.specs.declared.service.Service.{Service}
use Rattle.link.specs.declared.service.Asked.{Asked}
use Rattle.link.specs.declared.service.Asked.TheVariants.{Status, Reset, Counted}
use Rattle.link.specs.declared.answer.Answer.{Answer}
use Rattle.link.specs.declared.answer.Answer.TheVariants.{Ready, Confirmed, Busy, Report, NoData}
use Rattle.link.specs.declared.answer.Answer.TheVariants.{Unable}
use Rattle.link.specs.declared.settings.LinkSettings.{LinkSettings}
use Rattle.link.specs.declared.procedure.Link.{Link}
use Rattle.link.specs.declared.procedure.Link.TheVariants.{Down, Available, Next, Held}
use Rattle.link.specs.Carried.{awaits_command, command_given_up_in}
use Rattle.link.specs.Carried.{given_up_upto, commands_given_up}
use Rattle.link.specs.Exchanges.{Exchange, Exchanges, answer_to, given_up_at}
use Rattle.link.specs.Marks.{latest_given_up}
use Rattle.link.specs.Procedure.{MaySend, KeepsFrameCountBit, holds_command, missed_so_far}
use Rattle.link.specs.Procedure.{is_kept, probed_so_far, short_silence}
use Rattle.link.specs.declared.procedure.Silence.{Silence}
use Rattle.link.specs.declared.procedure.Probed.{Probed}
use Rattle.link.specs.Procedure.{silence_so_far, spent_silence}
use Rattle.link.specs.Procedure.{after_silence, after_outcome, after, link_after}
use Rattle.link.specs.Delivery.{pending_by, pending_after, first_sending}
use Rattle.link.specs.Matching.{Matches}
use Rattle.command.specs.State.{is_used, line_of}
use Rattle.command.specs.Calls.{Lose}
use Rattle.command.specs.History.{History, GivenUp}
use Rattle.gateway.specs.Reports.{Setup, address_at}
use Rattle.gateway.specs.Works.{Works, tasks_of, link_given_up_works, command_given_up_works}
use Rattle.gateway.specs.Works.{commands_given_up_works_upto, restarted_works}
use Rattle.delivery.specs.Commands.{LineStep, Begun, Lost, said_of, missed_by, is_silent, goes_down}
use Rattle.delivery.specs.Commands.{steps_at, steps_in, first_sendings, steps_logged, unmissed}
use Rattle.delivery.specs.Joined.{mirrored_in}
use Rattle.gateway.proofs.Waiting.{AnswersStay}
use Rattle.delivery.proofs.History.{LineLogged, line_logged, WaitsFit, one_fits}
use Rattle.delivery.proofs.Steps.{Counts, CountsSilence, so_far, counts}
use Rattle.delivery.proofs.Exchanging.{exchanges_at, IsLogged, stays_logged, lost_if, lost_far}
use Rattle.delivery.proofs.Exchanging.{here_is}
use Rattle.delivery.specs.LinkLaws.{LinkLaws}
use Rattle.delivery.proofs.Skipping.{lost_skips}

-- ---- What the exchanges show

-- A link that holds a service after a silence hasn't gone down by it.
silence_holds : (s : LinkSettings) (fcb : Bool) (service : Service) (closed : Bool) (link : Link)
    (n : Silence) → MaySend link (Counted fcb service) → Counts s link n
    → holds_command (after_silence s (Counted fcb service) closed link) ≡ true
    → is_silent s n (Counted fcb service) closed ≡ false
silence_holds s fcb service false link n may c holds = refl
silence_holds s fcb service true link n may c holds =
    ap (λ (probed : Probed). not (is_kept s probed) && nat_lt s.retries (suc n.missed)) so.0
    ∙ go (nat_lt s.retries (suc (missed_so_far link))) (is_kept s (probed_so_far link)) refl refl
    holds
  where
    so : CountsSilence s (silence_so_far link) n
    so = so_far s link fcb service n may c

    go : (b kept : Bool) → nat_lt s.retries (suc (missed_so_far link)) ≡ b
        → is_kept s (probed_so_far link) ≡ kept
        → holds_command
        (if b
        then (if kept then Held fcb service (spent_silence s (probed_so_far link)) else Down)
        else Held fcb service (short_silence (suc (missed_so_far link)) (probed_so_far link)))
        ≡ true
        → (not (is_kept s (probed_so_far link)) && nat_lt s.retries (suc n.missed)) ≡ false
    go b true less is holds =
        ap (λ (h : Bool). not h && nat_lt s.retries (suc n.missed)) is
    go true false less is holds = cc
    go false false less is holds =
        ap (λ (h : Bool). not h && nat_lt s.retries (suc n.missed)) is
        ∙ ap (λ (m : ℕ). nat_lt s.retries (suc m)) (so.1.0 is) ∙ less

outcome_holds : (s : LinkSettings) (request : Asked) (m : Option Answer) (closed : Bool)
    (link : Link) (n : Silence) → MaySend link request → Counts s link n
    → holds_command (after_outcome s m request closed link) ≡ true
    → goes_down s n request closed m ≡ false
outcome_holds s (Counted fcb service) None closed link n may c holds =
    silence_holds s fcb service closed link n may c holds
outcome_holds s Status None closed link n may c holds = refl
outcome_holds s Reset None closed link n may c holds = cc
outcome_holds s request (Some Ready) closed link n may c holds = refl
outcome_holds s request (Some Confirmed) closed link n may c holds = refl
outcome_holds s request (Some Busy) closed link n may c holds = refl
outcome_holds s request (Some (Report asdu)) closed link n may c holds = refl
outcome_holds s request (Some NoData) closed link n may c holds = refl
outcome_holds s Status (Some Unable) closed link n may c holds = cc
outcome_holds s (Counted fcb service) (Some Unable) closed link n may c holds = cc
outcome_holds s Reset (Some Unable) closed Available n may c holds = cc
outcome_holds s Reset (Some Unable) closed Down n may c holds = absurd may
outcome_holds s Reset (Some Unable) closed (Next fcb) n may c holds = absurd may
outcome_holds s Reset (Some Unable) closed (Held fcb service missed) n may c holds = absurd may

exchange_holds : (s : LinkSettings) (a : ℕ) (x : Exchange) (link : Link) (n : Silence)
    → MaySend link x.request → Counts s link n → holds_command (after s a x link) ≡ true
    → (x.given_up || goes_down s n x.request x.closed (answer_to a x)) ≡ false
exchange_holds s a x link n may c holds = go x.given_up holds
  where
    go : (given : Bool)
        → holds_command (if given then Down
        else after_outcome s (answer_to a x) x.request x.closed link) ≡ true
        → (given || goes_down s n x.request x.closed (answer_to a x)) ≡ false
    go true holds = cc
    go false holds = outcome_holds s x.request (answer_to a x) x.closed link n may c holds

-- If its latest exchange leaves a command held, giving up the link is one step more.
steps_given : (s : LinkSettings) (a : ℕ) (link : Link) (missed : Silence) (pending : Option Service)
    (xs : List Exchange) → KeepsFrameCountBit s a link xs → Counts s link missed
    → (xs ≡ [] → ⊥) → holds_command (link_after s a link xs) ≡ true
    → steps_in s a missed pending (latest_given_up xs) ≡ steps_in s a missed pending xs ++ Lost ∷ []
steps_given s a link missed pending [] keeps c some holds = absurd (some refl)
steps_given s a link missed pending (x ∷ []) keeps c some holds =
    let first : List LineStep =
    map (λ (asdu : List ℕ). Begun asdu) (first_sending pending x.request) in
    let said : List LineStep = said_of x.request (answer_to a x) in
    append-nil (first ++ (said ++ Lost ∷ []))
    ∙ sym (append_assoc first said (Lost ∷ []))
    ∙ ap (λ (l : List LineStep). l ++ Lost ∷ [])
    (ap (λ (l : List LineStep). first ++ l)
    (sym (append-nil said)
    ∙ ap (λ (b : Bool). said ++ lost_if b) (sym (exchange_holds s a x link missed keeps.0 c holds)))
    ∙ sym (append-nil (steps_at s a missed pending x)))
steps_given s a link missed pending (x ∷ (y ∷ ys)) keeps c some holds =
    let now : List LineStep = steps_at s a missed pending x in
    let later : Option Service = pending_by x.request (answer_to a x) pending in
    let more : Silence = missed_by x.request x.closed (answer_to a x) missed in
    ap (λ (l : List LineStep). now ++ l)
    (steps_given s a (after s a x link) more later (y ∷ ys) keeps.1
    (counts s a link missed (x ∷ []) (keeps.0, tt) c) (λ e. cc) holds)
    ∙ sym (append_assoc now (steps_in s a more later (y ∷ ys)) (Lost ∷ []))

pending_given : (a : ℕ) (pending : Option Service) (xs : List Exchange)
    → pending_after a pending (latest_given_up xs) ≡ pending_after a pending xs
pending_given a pending [] = refl
pending_given a pending (x ∷ []) = refl
pending_given a pending (x ∷ (y ∷ ys)) =
    pending_given a (pending_by x.request (answer_to a x) pending) (y ∷ ys)

sendings_given : (a : ℕ) (pending : Option Service) (xs : List Exchange)
    → first_sendings a pending (latest_given_up xs) ≡ first_sendings a pending xs
sendings_given a pending [] = refl
sendings_given a pending (x ∷ []) = refl
sendings_given a pending (x ∷ (y ∷ ys)) =
    ap (λ (l : List (List ℕ)). first_sending pending x.request ++ l)
    (sendings_given a (pending_by x.request (answer_to a x) pending) (y ∷ ys))

given_logged : (s : LinkSettings) (a k : ℕ) (xs : List Exchange) (h new : History)
    → KeepsFrameCountBit s a Down xs → holds_command (link_after s a Down xs) ≡ true
    → line_logged k new ≡ line_logged k (GivenUp k false ∷ h) → IsLogged s a xs k h
    → IsLogged s a (latest_given_up xs) k new
given_logged s a k xs h new keeps holds same t = record {
  steps = ap (λ (l : LineLogged). l.steps) same
      ∙ ap (λ (b : Bool). if b then steps_logged k h ++ Lost
      ∷ [] else steps_logged k h) (here_is k)
      ∙ ap (λ (l : List LineStep). l ++ Lost ∷ []) t.steps
      ∙ sym (steps_given s a Down unmissed None xs keeps tt
      (λ none. let no : holds_command Down ≡ true =
      ap (λ (l : List Exchange). holds_command (link_after s a Down l)) (sym none) ∙ holds in cc)
      holds);
  last = λ asdu e. ap (λ (l : LineLogged). l.last) same
      ∙ t.last asdu (sym (pending_given a None xs) ∙ e);
  sent = ap (λ (l : LineLogged). l.sent) same ∙ t.sent ∙ sym (sendings_given a None xs);
}

-- ---- What the course logs

-- The works, when some stations' links have been given up: the line is what the exchanges make it,
-- and what becomes of commands is what they show.
pub record IsGiven (p : Setup) (w z : Works) (e : Exchanges) : Type 0 where
  pub matches : Matches p.link p.addresses z.serial.line e
  pub logged : (k : ℕ)
      → IsLogged p.link (address_at p.addresses k) (exchanges_at (front_of p.link.size) k e) k
      z.history
  pub silent : z.serial.silent ≡ None
  pub fits : WaitsFit p z.serial.commands
  pub mirrored : mirrored_in z.history ≡ mirrored_in w.history
  pub skipped : z.serial.counts.skipped ≡ w.serial.counts.skipped

module _ (laws : LinkLaws) (stay : AnswersStay) (p : Setup) where
  abbrev front : List ℕ → Front
  front = front_of p.link.size

  one_given : (w z : Works) (e : Exchanges) (j : ℕ) → j < length p.addresses
      → awaits_command z.serial.line j ≡ true → IsGiven p w z e
      → IsGiven p w (link_given_up_works j z) (given_up_at j e)
  one_given w z e j within awaits g = record {
    matches = laws.given_up p.link p.addresses z.serial.line e j
        (subst (λ (n : ℕ). j < n) (sym g.matches.count) within) g.matches;
    logged = λ k. at k (cases_eq k j);
    silent = g.silent;
    fits = one_fits stay p (Lose j) (tasks_of z) tt g.fits;
    mirrored = g.mirrored;
    skipped = lost_skips j z.serial ∙ g.skipped;
  }
    where
      holds : holds_command (link_after p.link (address_at p.addresses j) Down
          (exchanges_at front j e)) ≡ true
      holds = sym (laws.awaits p.link p.addresses z.serial.line e j g.matches) ∙ awaits

      at : (k : ℕ) → (k ≡ j) ⊎ (k ≡ j → ⊥)
          → IsLogged p.link (address_at p.addresses k) (exchanges_at front k (given_up_at j e)) k
          (link_given_up_works j z).history
      at k (inl here) =
          subst (λ (i : ℕ). IsLogged p.link (address_at p.addresses i)
          (exchanges_at front i (given_up_at j e)) i (link_given_up_works j z).history) (sym here)
          (subst (λ (xs : List Exchange). IsLogged p.link (address_at p.addresses j) xs j
          (link_given_up_works j z).history) (sym (laws.itself front j e))
          (given_logged p.link (address_at p.addresses j) j (exchanges_at front j e) z.history
          (link_given_up_works j z).history (g.matches.keeps j) holds refl (g.logged j)))
      at k (inr other) =
          subst (λ (xs : List Exchange). IsLogged p.link (address_at p.addresses k) xs k
          (link_given_up_works j z).history) (sym (laws.others front j k e other))
          (stays_logged p.link (address_at p.addresses k) (exchanges_at front k e) k z.history
          (link_given_up_works j z).history
          (lost_far k j (is_used (line_of j z.serial.commands)) z.history (apart (k == j) refl))
          (g.logged k))
        where
          apart : (b : Bool) → (k == j) ≡ b → (k == j) ≡ false
          apart false e = e
          apart true e = absurd (other (eqb-true k j e))

  next_given : (w z : Works) (e : Exchanges) (j : ℕ) → j < length p.addresses → IsGiven p w z e
      → IsGiven p w (command_given_up_works j z)
      (command_given_up_in p.link front p.addresses j e)
  next_given w z e j within g =
      subst (λ (b : Bool). IsGiven p w (command_given_up_works j z)
      (if b then given_up_at j e else e))
      (laws.awaits p.link p.addresses z.serial.line e j g.matches)
      (go (awaits_command z.serial.line j) refl)
    where
      go : (b : Bool) → awaits_command z.serial.line j ≡ b
          → IsGiven p w (if b then link_given_up_works j z else z) (if b then given_up_at j e
          else e)
      go true awaits = one_given w z e j within awaits g
      go false awaits = g

  upto_given : (w : Works) (e : Exchanges) (count : ℕ) → count ≤ length p.addresses
      → IsGiven p w w e
      → IsGiven p w (commands_given_up_works_upto count w)
      (given_up_upto p.link front p.addresses count e)
  upto_given w e zero within g = g
  upto_given w e (suc k) within g =
      next_given w (commands_given_up_works_upto k w)
      (given_up_upto p.link front p.addresses k e) k (omega (arith, within))
      (upto_given w e k (omega (arith, within)) g)

  pub all_given : (w : Works) (e : Exchanges) → IsGiven p w w e
      → IsGiven p w (restarted_works w) (commands_given_up p.link front p.addresses e)
  all_given w e g =
      let upto : IsGiven p w (commands_given_up_works_upto (length w.serial.line.stations) w)
      (commands_given_up p.link front p.addresses e) =
      subst (λ (n : ℕ). IsGiven p w (commands_given_up_works_upto n w)
      (commands_given_up p.link front p.addresses e)) (sym g.matches.count)
      (upto_given w e (length p.addresses) (omega arith) g) in
      record {
        matches = laws.doubted p.link p.addresses
            (commands_given_up_works_upto (length w.serial.line.stations) w).serial.line
            (commands_given_up p.link front p.addresses e) upto.matches;
        logged = upto.logged;
        silent = upto.silent;
        fits = upto.fits;
        mirrored = upto.mirrored;
        skipped = upto.skipped;
      }
