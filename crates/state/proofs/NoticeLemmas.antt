-- What a keeper has tried and reported, over the calls on it.
use Rattle.std.proofs.Common.{◌≡◌, ◌∙◌, ℕ, ◌+◌, ◌-◌, ◌<◌, ◌≤◌, Bool, true, false, List, [], ◌∷◌}
use Rattle.std.proofs.Common.{Option, Some, None, arith, ap, refl, if◌then◌else◌}
use Rattle.std.proofs.lemmas.Bool.{lt-leb, le-leb}
use Rattle.std.specs.declared.io.ErrorKind.{ErrorKind}
use Rattle.live.specs.declared.watched.Notice.{Notice}
use Rattle.live.specs.declared.watched.Notice.TheVariants.{NotKept, KeptAgain}
use Rattle.state.specs.Notices.{Call, Heard, Tried, Asked, latest, patience_behind, told, tries}
use Rattle.state.specs.Notices.{with_notice}
use Rattle.state.specs.Renewals.{after_notice, again, has_passed, is_try_due, notice_of}
use Rattle.state.specs.declared.renewal.Patience.{Patience}

-- What it remembers, by what was reported and tried

abbrev pub reported : List (ℕ × Notice) → Option ℕ
reported [] = None
reported ((now, NotKept cause) ∷ notices) = Some now
reported ((now, KeptAgain) ∷ notices) = None

abbrev pub failed : List (ℕ × Bool) → Option ℕ
failed [] = None
failed ((now, true) ∷ others) = Some now
failed ((now, false) ∷ others) = None

moment_stays : (notice : Option Notice) (p : Patience) → (after_notice notice p).moment ≡ p.moment
moment_stays None p = refl
moment_stays (Some (NotKept cause)) p = refl
moment_stays (Some KeptAgain) p = refl

tried_stays : (notice : Option Notice) (p : Patience) → (after_notice notice p).tried ≡ p.tried
tried_stays None p = refl
tried_stays (Some (NotKept cause)) p = refl
tried_stays (Some KeptAgain) p = refl

pub moment_is : (calls : List Call) → (patience_behind calls).moment ≡ latest calls
moment_is [] = refl
moment_is (Heard event ∷ calls) = refl
moment_is (Tried true ∷ calls) = moment_is calls
moment_is (Tried false ∷ calls) = moment_is calls
moment_is (Asked is_lost cause ∷ calls) =
    moment_stays (notice_of is_lost cause (patience_behind calls)) (patience_behind calls)
    ∙ moment_is calls

logged_more : (notice : Option Notice) (p : Patience) (now : ℕ) (notices : List (ℕ × Notice))
    → p.moment ≡ now → p.logged ≡ reported notices
    → (after_notice notice p).logged ≡ reported (with_notice notice now notices)
logged_more None p now notices at is = is
logged_more (Some (NotKept cause)) p now notices at is = ap (λ (n : ℕ). Some n) at
logged_more (Some KeptAgain) p now notices at is = refl

pub logged_is : (calls : List Call) → (patience_behind calls).logged ≡ reported (told calls)
logged_is [] = refl
logged_is (Heard event ∷ calls) = logged_is calls
logged_is (Tried true ∷ calls) = logged_is calls
logged_is (Tried false ∷ calls) = logged_is calls
logged_is (Asked is_lost cause ∷ calls) =
    logged_more (notice_of is_lost cause (patience_behind calls)) (patience_behind calls)
    (latest calls)
    (told calls) (moment_is calls) (logged_is calls)

pub tried_is : (calls : List Call) → (patience_behind calls).tried ≡ failed (tries calls)
tried_is [] = refl
tried_is (Heard event ∷ calls) = tried_is calls
tried_is (Tried true ∷ calls) = ap (λ (n : ℕ). Some n) (moment_is calls)
tried_is (Tried false ∷ calls) = refl
tried_is (Asked is_lost cause ∷ calls) =
    tried_stays (notice_of is_lost cause (patience_behind calls)) (patience_behind calls)
    ∙ tried_is calls

-- How long ago that was

passed_none : (ms now : ℕ) (since : Option ℕ) → since ≡ None → has_passed ms since now ≡ true
passed_none ms now since is = ap (λ (o : Option ℕ). has_passed ms o now) is

passed_long : (ms now before latest : ℕ) (since : Option ℕ) → since ≡ Some before → now ≡ latest
    → before + ms ≤ latest → has_passed ms since now ≡ true
passed_long ms now before latest since is at long =
    ap (λ (o : Option ℕ). has_passed ms o now) is
    ∙ le-leb ms (now - before) (omega (arith, at, long))

passed_short : (ms now before latest : ℕ) (since : Option ℕ) → since ≡ Some before → now ≡ latest
    → latest < before + ms → 0 < ms → has_passed ms since now ≡ false
passed_short ms now before latest since is at short some =
    ap (λ (o : Option ℕ). has_passed ms o now) is
    ∙ lt-leb ms (now - before) (omega (arith, at, short, some))

told_if : (why : Option ErrorKind) (b is : Bool) → b ≡ is
    → (if b then Some (NotKept why) else None) ≡ (if is then Some (NotKept why) else None)
told_if why b is same = ap (λ (x : Bool). if x then Some (NotKept why) else None) same

-- what is reported behind these calls, where this is the cause
module _ (calls : List Call) (why : Option ErrorKind) where
  told_now : reported (told calls) ≡ None
      → notice_of true why (patience_behind calls) ≡ Some (NotKept why)
  told_now none = told_if why _ true
      (passed_none 60000 (patience_behind calls).moment _ (logged_is calls ∙ none))

  pub first_told : told calls ≡ []
      → notice_of true why (patience_behind calls) ≡ Some (NotKept why)
  first_told is = told_now (ap reported is)

  pub told_anew : (since : ℕ) (notices : List (ℕ × Notice)) → told calls ≡ (since, KeptAgain)
      ∷ notices
      → notice_of true why (patience_behind calls) ≡ Some (NotKept why)
  told_anew since notices is = told_now (ap reported is)

  pub told_later : (cause : Option ErrorKind) (since : ℕ) (notices : List (ℕ × Notice))
      → told calls ≡ (since, NotKept cause) ∷ notices → since + 60000 ≤ latest calls
      → notice_of true why (patience_behind calls) ≡ Some (NotKept why)
  told_later cause since notices is long = told_if why _ true
      (passed_long 60000 (patience_behind calls).moment since (latest calls) _
      (logged_is calls ∙ ap reported is) (moment_is calls) long)

  pub not_told : (cause : Option ErrorKind) (since : ℕ) (notices : List (ℕ × Notice))
      → told calls ≡ (since, NotKept cause) ∷ notices
      → latest calls < since + 60000 → notice_of true why (patience_behind calls) ≡ None
  not_told cause since notices is short = told_if why _ false
      (passed_short 60000 (patience_behind calls).moment since (latest calls) _
      (logged_is calls ∙ ap reported is) (moment_is calls) short (omega arith))

  pub told_over : (cause : Option ErrorKind) (since : ℕ) (notices : List (ℕ × Notice))
      → told calls ≡ (since, NotKept cause) ∷ notices
      → notice_of false why (patience_behind calls) ≡ Some KeptAgain
  told_over cause since notices is = ap again (logged_is calls ∙ ap reported is)

  pub silent_first : told calls ≡ [] → notice_of false why (patience_behind calls) ≡ None
  silent_first is = ap again (logged_is calls ∙ ap reported is)

  pub silent_again : (since : ℕ) (notices : List (ℕ × Notice))
      → told calls ≡ (since, KeptAgain) ∷ notices
      → notice_of false why (patience_behind calls) ≡ None
  silent_again since notices is = ap again (logged_is calls ∙ ap reported is)

-- the new logs that were tried
module _ (calls : List Call) where
  pub first_due : tries calls ≡ [] → is_try_due (patience_behind calls) ≡ true
  first_due is = passed_none 10000 (patience_behind calls).moment _ (tried_is calls ∙ ap failed is)

  pub begun_due : (since : ℕ) (others : List (ℕ × Bool)) → tries calls ≡ (since, false) ∷ others
      → is_try_due (patience_behind calls) ≡ true
  begun_due since others is =
      passed_none 10000 (patience_behind calls).moment _ (tried_is calls ∙ ap failed is)

  pub later_due : (since : ℕ) (others : List (ℕ × Bool)) → tries calls ≡ (since, true) ∷ others
      → since + 10000 ≤ latest calls → is_try_due (patience_behind calls) ≡ true
  later_due since others is long =
      passed_long 10000 (patience_behind calls).moment since (latest calls) _
      (tried_is calls ∙ ap failed is) (moment_is calls) long

  pub not_due : (since : ℕ) (others : List (ℕ × Bool)) → tries calls ≡ (since, true) ∷ others
      → latest calls < since + 10000 → is_try_due (patience_behind calls) ≡ false
  not_due since others is short =
      passed_short 10000 (patience_behind calls).moment since (latest calls) _
      (tried_is calls ∙ ap failed is) (moment_is calls) short (omega arith)
