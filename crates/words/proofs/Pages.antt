-- What a scribe has on its page.
use Rattle.std.proofs.Common.{◌≡◌, ℕ, Bool, true, false, List, ◌++◌, refl, sym, ap, ◌∙◌}
use Rattle.std.proofs.Common.{append_assoc, ◌&&◌}
use Rattle.std.specs.Prelude.{Result, Ok, Err, OnOk}
use Rattle.std.specs.Result.{is_ok}
use Rattle.gateway.specs.Log.{Log}
use Rattle.words.specs.Scribing.{IsScribing, Scribing}
use Rattle.words.specs.Ladders.{Remembered, LogsNews}

both_so : (a b : Bool) → (a && b) ≡ true → (a ≡ true) × (b ≡ true)
both_so true true h = (refl, refl)
both_so true false h = cc
both_so false b h = cc

at_ok : {E : Type 0} (r : Result (Unit {0}) E) (P : Type 0) → is_ok r ≡ true → OnOk r P → P
at_ok (Ok done) P is h = h
at_ok (Err e) P is h = cc

-- news were noted, or memory was refused
pub noted_on : {E : Type 0} (s : Scribing) (news : Log) (mind : Remembered) (page : List ℕ)
    (r : Result (Unit {0}) E)
    (noted : Bool) → noted ≡ (s.is_noted && is_ok r)
    → OnOk r (LogsNews s.style s.remembered news mind s.page page) → IsScribing s
    → IsScribing (record s {
      remembered = mind;
      log = news ++ s.log;
      page = page;
      is_noted =
          noted;
    })
noted_on s news mind page r noted is logged h = record {
  noted = λ so. let two = both_so s.is_noted (is_ok r) (sym is ∙ so) in
      at_ok r (LogsNews s.style s.remembered news mind s.page page) two.1 logged s.log s.logged
      (h.noted two.0);
  poured = h.poured;
  behind = (
    news ++ h.behind.0,
    ap (λ (l : Log). news ++ l) h.behind.1
        ∙ sym (append_assoc news h.behind.0 s.poured),
  );
}

-- two tests, of which the second is made if the first is so
pub and_then : (a b n : Bool) → a ≡ true → n ≡ b → n ≡ (a && b)
and_then a b n first is = is ∙ ap (λ (x : Bool). x && b) (sym first)

pub and_else : (a b n : Bool) → a ≡ false → n ≡ a → n ≡ (a && b)
and_else a b n first is = is ∙ first ∙ ap (λ (x : Bool). x && b) (sym first)
