-- When a log is begun between two steps.
use Rattle.std.proofs.Common.{◌≡◌, ◌∙◌, ◌⊎◌, ◌<◌, ◌≤◌, Bool, true, false, List, ◌∷◌}
use Rattle.std.proofs.Common.{Option}
use Rattle.std.proofs.Common.{sym, ap, subst, inl, inr}
use Rattle.std.proofs.lemmas.Bool.{le-ltb, lt-ltb}
use Rattle.std.specs.declared.io.ErrorKind.{ErrorKind}
use Rattle.gateway.specs.Log.{Log}
use Rattle.gateway.specs.State.{State}
use Rattle.live.specs.declared.watched.Notice.{Notice}
use Rattle.state.specs.Deeds.{Begun, Deeds, GivenUp, grown}
use Rattle.state.specs.Keeping.{HasTended, Keeping}
use Rattle.state.specs.Notices.{Asked, Call, Tried, patience_behind}
use Rattle.state.specs.Renewals.{after_notice, after_try, is_try_due, notice_of}
use Rattle.state.specs.Standings.{Renews, is_lost}
use Rattle.state.specs.declared.loss.Loss.{Loss}
use Rattle.state.specs.declared.loss.StoreFault.TheVariants.{Failed}
use Rattle.state.specs.declared.renewal.Patience.{Patience}

module _ {E : Type 0} (log : E → Option Log) (deeds : E → Deeds) (old new : Keeping E)
    (state : State) (notice : Option Notice) (tended : HasTended log deeds old state new notice)
  where
    same : deeds tended.looked.ends ≡ deeds new.ends
    same = sym (ap (λ (k : Keeping E). deeds k.ends) tended.after)

    at_end : Renews (deeds old.ends) state (deeds tended.looked.ends)
        → Renews (deeds old.ends) state (deeds new.ends)
    at_end = subst (λ (d : Deeds). Renews (deeds old.ends) state d) same

    pub begun_grown : is_lost old.standing ≡ false
        → 3900000 < grown (deeds old.ends)
        → (deeds new.ends ≡ Begun state ∷ deeds old.ends)
        ⊎ ((loss : Loss) × (deeds new.ends ≡ GivenUp Failed loss ∷ deeds old.ends))
    begun_grown kept more = at_end (tended.looks.renews kept (lt-ltb 3900000 _ more))

    pub begun_lost : is_lost old.standing ≡ true → is_try_due old.patience ≡ true
        → (deeds new.ends ≡ Begun state ∷ deeds old.ends)
        ⊎ ((loss : Loss) × (deeds new.ends ≡ GivenUp Failed loss ∷ deeds old.ends))
    begun_lost lost due = at_end (tended.looks.tries lost due)

    pub kept_small : is_lost old.standing ≡ false
        → grown (deeds old.ends) ≤ 3900000
        → deeds new.ends ≡ deeds old.ends
    kept_small kept few =
        sym same ∙ ap (λ (k : Keeping E). deeds k.ends)
        (tended.looks.keeps kept (le-ltb 3900000 _ few))

    pub kept_waiting : is_lost old.standing ≡ true → is_try_due old.patience ≡ false
        → deeds new.ends ≡ deeds old.ends
    kept_waiting lost not_due =
        sym same ∙ ap (λ (k : Keeping E). deeds k.ends) (tended.looks.waits lost not_due)

-- What is remembered behind a look

asked_by : (l m : Bool) (cause : Option ErrorKind) (p q after : Patience) (notice : Option Notice)
    → notice ≡ notice_of l cause p → after ≡ after_notice notice p → l ≡ m → p ≡ q
    → (notice ≡ notice_of m cause q) × (after ≡ after_notice (notice_of m cause q) q)
asked_by l m cause p q after notice told then same is =
    let so : notice ≡ notice_of m cause q =
    told ∙ (ap (λ b. notice_of b cause p) same ∙ ap (λ r. notice_of m cause r) is) in (
      so,
      then ∙ (ap (λ n. after_notice n p) so
          ∙ ap (λ r. after_notice (notice_of m cause q) r) is),
    )

module _ {E : Type 0} (log : E → Option Log) (deeds : E → Deeds) (old new : Keeping E)
    (state : State) (notice : Option Notice) (calls : List Call)
    (tended : HasTended log deeds old state new notice)
    (was : old.patience ≡ patience_behind calls)
  where
    stands : is_lost tended.looked.standing ≡ is_lost new.standing
    stands = sym (ap (λ (k : Keeping E). is_lost k.standing) tended.after)

    left : new.patience ≡ after_notice notice tended.looked.patience
    left = ap (λ (k : Keeping E). k.patience) tended.after

    -- so the store is as it was
    untouched : tended.looked ≡ old → deeds new.ends ≡ deeds old.ends
    untouched is = ap (λ (k : Keeping E). deeds k.ends) tended.after
        ∙ ap (λ (k : Keeping E). deeds k.ends) is

    by_tries : (tended.looked ≡ old)
        ⊎ (tended.looked.patience ≡ after_try (is_lost tended.looked.standing) old.patience)
        → ((deeds new.ends ≡ deeds old.ends)
        × (notice ≡ notice_of (is_lost new.standing) tended.cause (patience_behind calls))
        × (new.patience ≡ patience_behind (Asked (is_lost new.standing) tended.cause ∷ calls)))
        ⊎ ((notice ≡ notice_of (is_lost new.standing) tended.cause
        (patience_behind (Tried (is_lost new.standing) ∷ calls)))
        × (new.patience ≡ patience_behind (Asked (is_lost new.standing) tended.cause
        ∷ (Tried (is_lost new.standing) ∷ calls))))
    by_tries (inl is) =
        let before : tended.looked.patience ≡ patience_behind calls =
        ap (λ (k : Keeping E). k.patience) is ∙ was in
        let here = asked_by (is_lost tended.looked.standing) (is_lost new.standing) tended.cause
        tended.looked.patience (patience_behind calls) new.patience notice tended.logs left stands
        before in
        inl (untouched is, here.0, here.1)
    by_tries (inr tried) =
        let before : tended.looked.patience
        ≡ patience_behind (Tried (is_lost new.standing) ∷ calls) =
        tried ∙ (ap (λ b. after_try b old.patience) stands
        ∙ ap (λ p. after_try (is_lost new.standing) p) was) in
        inr (asked_by (is_lost tended.looked.standing) (is_lost new.standing) tended.cause
        tended.looked.patience (patience_behind (Tried (is_lost new.standing) ∷ calls))
        new.patience notice tended.logs left stands before)

    pub remembered : (cause : Option ErrorKind) × (((deeds new.ends ≡ deeds old.ends)
        × (notice ≡ notice_of (is_lost new.standing) cause (patience_behind calls))
        × (new.patience ≡ patience_behind (Asked (is_lost new.standing) cause ∷ calls)))
        ⊎ ((notice ≡ notice_of (is_lost new.standing) cause
        (patience_behind (Tried (is_lost new.standing) ∷ calls)))
        × (new.patience ≡ patience_behind (Asked (is_lost new.standing) cause
        ∷ (Tried (is_lost new.standing) ∷ calls)))))
    remembered = (tended.cause, by_tries tended.looks.tried)
