-- What rounds of looks leave as it was.
use Rattle.std.proofs.Common.{◌≡◌, ℕ, List, Option, None, refl, ap, ◌∙◌, inl, inr}
use Rattle.live.specs.Timing.{is_behind}
use Rattle.live.specs.Ends.{LiveEnds, IsTurn, QuietRounds, NoRound, OneRound, LooksOn}
use Rattle.live.specs.Ends.{clock_read_at, Turns, looking, wall_given_at}
use Rattle.live.proofs.Apart.{Apart, turn_same, log_of, log_apart, walled_of, walled_apart}
use Rattle.live.proofs.Apart.{allow_list_of, allow_list_apart, taken_same}
use Rattle.live.specs.declared.found.SourceEvent.{SourceEvent}
use Rattle.gateway.specs.declared.ports.Next.{Next}

-- a part of the ends that neither a look touches nor the clock
pub record Aside {A : Type 0} (part : LiveEnds → A) : Type 0 where
  pub apart : Apart part
  pub read : (now : ℕ) (e : LiveEnds) → part (clock_read_at now e) ≡ part e

pub log_aside : Aside log_of
log_aside = record { apart = log_apart; read = λ now e. refl }

pub walled_aside : Aside walled_of
walled_aside = record { apart = walled_apart; read = λ now e. refl }

pub allow_list_aside : Aside allow_list_of
allow_list_aside = record { apart = allow_list_apart; read = λ now e. refl }

-- one round
pub turn_kept : {A : Type 0} (part : LiveEnds → A) → Apart part
    → (begun : ℕ) (e n : LiveEnds) (f : Option SourceEvent)
    (buf : List ℕ) → IsTurn begun e f buf n → part n ≡ part e
turn_kept part p begun e n f buf t =
    ap (λ (q : Option SourceEvent × LiveEnds). part q.1) t.turned
    ∙ turn_same part p e.is_cut_due begun t.answers buf e

-- those that found nothing
pub quiet_kept : {A : Type 0} (part : LiveEnds → A) → Aside part
    → (start : LiveEnds) (first count begun : ℕ) (e : LiveEnds)
    → QuietRounds start first count begun e → part e ≡ part start
quiet_kept part p start first _ _ _ NoRound = refl
quiet_kept part p start first _ _ _ (OneRound count begun now before found buf q t undue) =
    p.read now found ∙ (turn_kept part p.apart begun before found None buf t
    ∙ quiet_kept part p start first count begun before q)

-- all rounds for one event
pub looks_kept : {A : Type 0} (part : LiveEnds → A) → Aside part
    → (first : ℕ) (old : LiveEnds) (now : ℕ) (f : Option SourceEvent)
    (buf : List ℕ) (new : LiveEnds) → LooksOn first old now f buf new → part new ≡ part old
looks_kept part p first old now f buf new l =
    ap part l.done
    ∙ (p.read now l.found ∙ (turn_kept part p.apart l.begun l.before l.found f buf l.turn
    ∙ quiet_kept part p old first l.count l.begun l.before l.quiet))

-- a turn
pub turn_still : {A : Type 0} (part : LiveEnds → A) → Aside part
    → ((e : LiveEnds) (now shown : ℕ) → part (wall_given_at now shown e) ≡ part e)
    → (old new : LiveEnds) (event : Next) (buf : List ℕ) → Turns old event buf new
    → ((e : LiveEnds) → part (looking e) ≡ part e) → part new ≡ part old
turn_still part p wall old new event buf (inl t) look =
    ap part t.given.ends ∙ (wall (clock_read_at t.begun old) t.begun t.given.shown
    ∙ p.read t.begun old)
turn_still part p wall old new event buf (inr t) look =
    ap (λ (q : Option SourceEvent × LiveEnds). part q.1) t.given.ends
    ∙ (taken_same part p.apart (is_behind t.found.timing t.now) buf t.f t.found
    ∙ (looks_kept part p t.first (looking (clock_read_at t.first old)) t.now t.f buf t.found t.looks
    ∙ (look (clock_read_at t.first old) ∙ p.read t.first old)))
