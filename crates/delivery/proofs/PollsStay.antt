-- What a link holds is the latest service that had no outcome. So a restart, which gives up the
-- links that hold a command, leaves the exchanges with each other station as they were.
use Rattle.std.specs.Prelude.{suc, nat_lt}
use Rattle.std.proofs.Common.{◌≡◌, ◌≢◌, ℕ, zero, Bool, true, false, List, [], ◌∷◌, Option, Some}
use Rattle.std.proofs.Common.{None}
use Rattle.std.proofs.Common.{◌⊎◌, length, refl, ap, sym, ◌∙◌, subst, inl, inr, if◌then◌else◌}
use Rattle.std.proofs.lemmas.Bool.{cases_eq}
use Rattle.ft12.specs.declared.frame.Front.{Front}
use Rattle.ft12.specs.Fronts.{front_of}
use Rattle.link.specs.declared.service.Service.{Service}
use Rattle.link.specs.declared.service.Service.TheVariants.{Class1, Class2, Command}
use Rattle.link.specs.declared.service.Asked.{Asked}
use Rattle.link.specs.declared.service.Asked.TheVariants.{Status, Reset, Counted}
use Rattle.link.specs.declared.answer.Answer.{Answer}
use Rattle.link.specs.declared.answer.Answer.TheVariants.{Ready, Confirmed, Busy, Report, NoData}
use Rattle.link.specs.declared.answer.Answer.TheVariants.{Unable}
use Rattle.link.specs.declared.settings.LinkSettings.{LinkSettings}
use Rattle.link.specs.declared.procedure.Link.{Link}
use Rattle.link.specs.declared.procedure.Link.TheVariants.{Down, Available, Next, Held}
use Rattle.link.specs.Carried.{command_given_up_in, given_up_upto}
use Rattle.link.specs.Delivery.{pending_by, pending_after, is_command_pending, is_gap}
use Rattle.link.specs.Exchanges.{Exchange, Exchanges, answer_to, given_up_at}
use Rattle.link.specs.Gaps.{exchanges_at}
use Rattle.link.specs.Leave.{holds_poll}
use Rattle.link.specs.Procedure.{holds_command, missed_so_far, after_silence, after_outcome, after}
use Rattle.link.specs.Procedure.{after_answer, is_kept, once_more, probed_so_far}
use Rattle.link.specs.declared.procedure.Silence.{Silence}
use Rattle.link.specs.declared.procedure.Probed.TheVariants.{Never}
use Rattle.link.specs.Procedure.{short_silence, silence_so_far, spent_silence}
use Rattle.link.specs.Procedure.{link_after}
use Rattle.gateway.specs.Reports.{Setup, address_at}

-- ---- What a link holds

-- Whatever is asked of the service that a link holds, it is so of the one without an outcome.
module _ (holds : Link → Bool) (owes : Option Service → Bool) (down : holds Down ≡ false)
    (available : holds Available ≡ false) (next : (fcb : Bool) → holds (Next fcb) ≡ false)
    (held : (fcb : Bool) (service : Service) (missed : Silence)
    → holds (Held fcb service missed) ≡ true → owes (Some service) ≡ true)
    (alike : (fcb : Bool) (service : Service) (missed more : Silence)
    → holds (Held fcb service missed) ≡ holds (Held fcb service more)) where
  neither : (b : Bool) → b ≡ false → b ≡ true → ⊥
  neither b off on = let wrong : false ≡ true = sym off ∙ on in cc

  silence : (s : LinkSettings) (fcb : Bool) (service : Service) (closed : Bool) (link : Link)
      → holds (after_silence s (Counted fcb service) closed link) ≡ true
      → owes (Some service) ≡ true
  silence s fcb service false link e = held fcb service (silence_so_far link) e
  silence s fcb service true link e =
      go (nat_lt s.retries (suc (missed_so_far link))) (is_kept s (probed_so_far link)) e
    where
      go : (b kept : Bool)
          → holds (if b
          then (if kept then Held fcb service (spent_silence s (probed_so_far link)) else Down)
          else Held fcb service (short_silence (suc (missed_so_far link)) (probed_so_far link)))
          ≡ true
          → owes (Some service) ≡ true
      go false kept e =
          held fcb service (short_silence (suc (missed_so_far link)) (probed_so_far link)) e
      go true true e = held fcb service (spent_silence s (probed_so_far link)) e
      go true false e = absurd (neither (holds Down) down e)

  silent : (s : LinkSettings) (closed : Bool) (link : Link) (pending : Option Service)
      → (holds link ≡ true → owes pending ≡ true)
      → holds (after_silence s Status closed link) ≡ true → owes pending ≡ true
  silent s closed Down pending so e = absurd (neither (holds Down) down e)
  silent s closed Available pending so e = absurd (neither (holds Down) down e)
  silent s closed (Next fcb) pending so e = absurd (neither (holds Down) down e)
  silent s closed (Held fcb service missed) pending so e =
      so (alike fcb service missed (spent_silence s Never) ∙ e)

  ready : (s : LinkSettings) (closed : Bool) (link : Link) (pending : Option Service)
      → (holds link ≡ true → owes pending ≡ true)
      → holds (after_answer Status Ready link) ≡ true → owes pending ≡ true
  ready s closed Down pending so e = absurd (neither (holds Available) available e)
  ready s closed Available pending so e = absurd (neither (holds Available) available e)
  ready s closed (Next fcb) pending so e = absurd (neither (holds Available) available e)
  ready s closed (Held fcb service missed) pending so e =
      so (alike fcb service missed (short_silence 0 (once_more missed.probed)) ∙ e)

  outcome : (s : LinkSettings) (request : Asked) (m : Option Answer) (closed : Bool) (link : Link)
      (pending : Option Service) → (holds link ≡ true → owes pending ≡ true)
      → holds (after_outcome s m request closed link) ≡ true
      → owes (pending_by request m pending) ≡ true
  outcome s (Counted fcb service) None closed link pending so e =
      silence s fcb service closed link e
  outcome s Status None closed link pending so e = silent s closed link pending so e
  outcome s Reset None closed link pending so e = absurd (neither (holds Down) down e)
  outcome s Status (Some Ready) closed link pending so e = ready s closed link pending so e
  outcome s Status (Some Confirmed) closed link pending so e = so e
  outcome s Status (Some Busy) closed link pending so e = so e
  outcome s Status (Some (Report asdu)) closed link pending so e = so e
  outcome s Status (Some NoData) closed link pending so e = so e
  outcome s Status (Some Unable) closed link pending so e = absurd (neither (holds Down) down e)
  outcome s Reset (Some Ready) closed link pending so e = so e
  outcome s Reset (Some Confirmed) closed link pending so e =
      absurd (neither (holds (Next true)) (next true) e)
  outcome s Reset (Some Busy) closed link pending so e = so e
  outcome s Reset (Some (Report asdu)) closed link pending so e = so e
  outcome s Reset (Some NoData) closed link pending so e = so e
  outcome s Reset (Some Unable) closed link pending so e = so e
  outcome s (Counted fcb service) (Some Unable) closed link pending so e =
      absurd (neither (holds Down) down e)
  outcome s (Counted fcb service) (Some Ready) closed link pending so e =
      absurd (neither _ (next _) e)
  outcome s (Counted fcb service) (Some Confirmed) closed link pending so e =
      absurd (neither _ (next _) e)
  outcome s (Counted fcb service) (Some Busy) closed link pending so e =
      absurd (neither _ (next _) e)
  outcome s (Counted fcb service) (Some (Report asdu)) closed link pending so e =
      absurd (neither _ (next _) e)
  outcome s (Counted fcb service) (Some NoData) closed link pending so e =
      absurd (neither _ (next _) e)

  exchange : (s : LinkSettings) (a : ℕ) (x : Exchange) (link : Link) (pending : Option Service)
      → (holds link ≡ true → owes pending ≡ true) → holds (after s a x link) ≡ true
      → owes (pending_by x.request (answer_to a x) pending) ≡ true
  exchange s a x link pending so e = go x.given_up e
    where
      go : (given : Bool)
          → holds (if given then Down
          else after_outcome s (answer_to a x) x.request x.closed link) ≡ true
          → owes (pending_by x.request (answer_to a x) pending) ≡ true
      go true e = absurd (neither (holds Down) down e)
      go false e = outcome s x.request (answer_to a x) x.closed link pending so e

  owed : (s : LinkSettings) (a : ℕ) (link : Link) (pending : Option Service) (xs : List Exchange)
      → (holds link ≡ true → owes pending ≡ true) → holds (link_after s a link xs) ≡ true
      → owes (pending_after a pending xs) ≡ true
  owed s a link pending [] so e = so e
  owed s a link pending (x ∷ xs) so e =
      owed s a (after s a x link) (pending_by x.request (answer_to a x) pending) xs
      (exchange s a x link pending so) e

  pub owed_then : (s : LinkSettings) (a : ℕ) (xs : List Exchange)
      → holds (link_after s a Down xs) ≡ true → owes (pending_after a None xs) ≡ true
  owed_then s a xs e = owed s a Down None xs (λ h. absurd (neither (holds Down) down h)) e

command_owed : (fcb : Bool) (service : Service) (missed : Silence)
    → holds_command (Held fcb service missed) ≡ true → is_command_pending (Some service) ≡ true
command_owed fcb Class1 missed e = cc
command_owed fcb Class2 missed e = cc
command_owed fcb (Command asdu) missed e = refl

poll_owed : (fcb : Bool) (service : Service) (missed : Silence)
    → holds_poll (Held fcb service missed) ≡ true → is_gap (Some service) ≡ true
poll_owed fcb Class1 missed e = refl
poll_owed fcb Class2 missed e = refl
poll_owed fcb (Command asdu) missed e = cc

command_alike : (fcb : Bool) (service : Service) (missed more : Silence)
    → holds_command (Held fcb service missed) ≡ holds_command (Held fcb service more)
command_alike fcb Class1 missed more = refl
command_alike fcb Class2 missed more = refl
command_alike fcb (Command asdu) missed more = refl

poll_alike : (fcb : Bool) (service : Service) (missed more : Silence)
    → holds_poll (Held fcb service missed) ≡ holds_poll (Held fcb service more)
poll_alike fcb Class1 missed more = refl
poll_alike fcb Class2 missed more = refl
poll_alike fcb (Command asdu) missed more = refl

poll_is : (o : Option Service) → is_gap o ≡ true → (o ≡ Some Class1) ⊎ (o ≡ Some Class2)
poll_is None e = cc
poll_is (Some Class1) e = inl refl
poll_is (Some Class2) e = inr refl
poll_is (Some (Command asdu)) e = cc

pub polls_owed : (s : LinkSettings) (a : ℕ) (xs : List Exchange)
    → holds_poll (link_after s a Down xs) ≡ true
    → (pending_after a None xs ≡ Some Class1) ⊎ (pending_after a None xs ≡ Some Class2)
polls_owed s a xs e = poll_is (pending_after a None xs)
    (owed_then holds_poll is_gap refl refl (λ fcb. refl) poll_owed poll_alike s a xs e)

no_command : (o : Option Service) → ((asdu : List ℕ) → o ≡ Some (Command asdu) → ⊥)
    → is_command_pending o ≡ false
no_command None other = refl
no_command (Some Class1) other = refl
no_command (Some Class2) other = refl
no_command (Some (Command asdu)) other = absurd (other asdu refl)

holds_none : (s : LinkSettings) (a : ℕ) (xs : List Exchange)
    → is_command_pending (pending_after a None xs) ≡ false
    → holds_command (link_after s a Down xs) ≡ false
holds_none s a xs free = go (holds_command (link_after s a Down xs)) refl
  where
    go : (b : Bool) → holds_command (link_after s a Down xs) ≡ b
        → holds_command (link_after s a Down xs) ≡ false
    go false e = e
    go true e =
        let wrong : false ≡ true = sym free
        ∙ owed_then holds_command is_command_pending refl refl (λ fcb. refl) command_owed
        command_alike s a xs e
        in cc

-- ---- A restart

module _ (others : (front : List ℕ → Front) (k j : ℕ) (e : Exchanges) → j ≢ k
    → exchanges_at front j (given_up_at k e) ≡ exchanges_at front j e)
    (p : Setup) (station : ℕ) (e : Exchanges) where
  abbrev front : List ℕ → Front
  front = front_of p.link.size

  abbrev with_it : Exchanges → List Exchange
  with_it x = exchanges_at front station x

  one : holds_command (link_after p.link (address_at p.addresses station) Down (with_it e)) ≡ false
      → (k : ℕ) (x : Exchanges) → with_it x ≡ with_it e
      → with_it (command_given_up_in p.link front p.addresses k x) ≡ with_it e
  one free k x same = elim (cases_eq k station) [
    | inl here ↦ subst (λ (i : ℕ).
        with_it (command_given_up_in p.link front p.addresses i x) ≡ with_it e) (sym here)
        (ap (λ (b : Bool). with_it (if b then given_up_at station x else x))
        (ap (λ (xs : List Exchange).
        holds_command (link_after p.link (address_at p.addresses station) Down xs)) same ∙ free)
        ∙ same)
    | inr other ↦ go other (holds_command
        (link_after p.link (address_at p.addresses k) Down (exchanges_at front k x)))
  ]
    where
      go : (k ≡ station → ⊥) → (b : Bool)
          → with_it (if b then given_up_at k x else x) ≡ with_it e
      go other true = others front k station x (λ is. other (sym is)) ∙ same
      go other false = same

  upto : holds_command (link_after p.link (address_at p.addresses station) Down (with_it e))
      ≡ false → (count : ℕ)
      → with_it (given_up_upto p.link front p.addresses count e) ≡ with_it e
  upto free zero = refl
  upto free (suc k) =
      one free k (given_up_upto p.link front p.addresses k e) (upto free k)

  pub unchanged : ((asdu : List ℕ) → pending_after (address_at p.addresses station) None
      (with_it e) ≡ Some (Command asdu) → ⊥)
      → with_it (given_up_upto p.link front p.addresses (length p.addresses) e) ≡ with_it e
  unchanged other = upto
      (holds_none p.link (address_at p.addresses station) (with_it e) (no_command _ other))
      (length p.addresses)
