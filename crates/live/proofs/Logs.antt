-- The log of the port over live ends. Looks and actions leave it as it was; it is treated apart.
use Rattle.std.proofs.Common.{◌≡◌, ℕ, List, [], ◌∷◌, ◌++◌, Some, refl, sym, ap, subst, ◌∙◌}
use Rattle.gateway.specs.declared.ports.Next.{Next}
use Rattle.gateway.specs.Log.{with_news, Went, Output}
use Rattle.gateway.specs.Ports.{logged_by}
use Rattle.live.specs.Ends.{LiveEnds, Turns, PutsOut, LogsTurn, LogsPut, as_logged}
use Rattle.live.proofs.Apart.{log_of}
use Rattle.live.proofs.Beside.{action_beside}
use Rattle.live.proofs.Rounds.{log_aside, turn_still}

pub turns_same : (old new : LiveEnds) (event : Next) (buf : List ℕ) → Turns old event buf new
    → new.log ≡ old.log
turns_same old new event buf t =
    turn_still log_of log_aside (λ e now shown. refl) old new event buf t (λ e. refl)

pub puts_same : (old new : LiveEnds) (moment : ℕ) (action : Output) → PutsOut old moment action new
    → new.log ≡ old.log
puts_same old new moment action p =
    ap log_of p.done
    ∙ action_beside log_of (λ e. refl) (λ moment octets written taken late e. refl) moment action
    p.written p.taken p.late old

-- the event of a turn, once it is logged
pub next_logged : (old mid new : LiveEnds) (event : Next) (buf : List ℕ) → Turns old event buf mid
    → new ≡ as_logged (logged_by event buf ++ mid.log) mid → LogsTurn old event buf new
next_logged old mid new event buf t done =
    let same = turns_same old mid event buf t in
    let P : LiveEnds → Type 0 = λ e. Turns old event buf e in
    record {
      turns = subst P (sym (ap (as_logged old.log) done ∙ ap (λ l. as_logged l mid) (sym same))) t;
      logged = ap (λ (e : LiveEnds). e.log) done ∙ ap (λ l. logged_by event buf ++ l) same;
    }

-- an action, once it is logged
pub put_logged : (old mid new : LiveEnds) (moment : ℕ) (action : Output)
    → PutsOut old moment action mid
    → new ≡ as_logged (Went moment action ∷ mid.log) mid → LogsPut old moment action new
put_logged old mid new moment action p done =
    let same = puts_same old mid moment action p in
    let P : LiveEnds → Type 0 = λ e. PutsOut old moment action e in
    record {
      puts = subst P (sym (ap (as_logged old.log) done ∙ ap (λ l. as_logged l mid) (sym same))) p;
      logged = ap (λ (e : LiveEnds). e.log) done ∙ ap (λ l. Went moment action ∷ l) same;
    }

-- what is logged so is news
pub turn_noted : (old new : LiveEnds) (event : Next) (buf : List ℕ) → LogsTurn old event buf new
    → Some new.log ≡ with_news (Some old.log) (logged_by event buf)
turn_noted old new event buf l = ap Some l.logged

pub put_noted : (old new : LiveEnds) (moment : ℕ) (action : Output)
    → LogsPut old moment action new
    → Some new.log ≡ with_news (Some old.log) (Went moment action ∷ [])
put_noted old new moment action l = ap Some l.logged
