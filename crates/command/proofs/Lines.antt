-- What stands on the lines, after each call.
use Rattle.std.proofs.Common.{◌≡◌, ◌≢◌, ℕ, zero, suc, ◌<◌, ◌&&◌, ◌||◌, Bool, true, false, not, List}
use Rattle.std.proofs.Common.{[], ◌∷◌, length, map, set, get_or, refl, sym, subst, ap, ◌∙◌, arith}
use Rattle.std.proofs.Common.{rules}
use Rattle.std.specs.Prelude.{◌==◌, Option, Some, None, if◌then◌else◌}
use Rattle.std.proofs.lemmas.Bool.{eqb-true}
use Rattle.std.proofs.lemmas.List.{get_or-set_other, get_or-set_same}
use Rattle.command.specs.declared.waiting.Line.{Line}
use Rattle.command.specs.declared.waiting.Line.TheVariants as line
use Rattle.command.specs.State.{is_used, cut_off, free_line}
use Rattle.command.specs.declared.station.StationInfo.{StationInfo}
use Rattle.command.proofs.Keeps.{held}

abbrev pub at_line : List Line → ℕ → Line
at_line lines k = get_or lines k line.Free

pub freed : (lines : List Line) (j : ℕ) → at_line (set lines j line.Free) j ≡ line.Free
freed [] j = refl
freed (x ∷ xs) zero = refl
freed (x ∷ xs) (suc j) = freed xs j

pub other_line : (lines : List Line) (j k : ℕ) (x : Line) → (k == j) ≡ false
    → at_line (set lines j x) k ≡ at_line lines k
other_line lines j k x h =
    let ne : k ≢ j = λ (e : k ≡ j). (let t : (k == j) ≡ true = grind (arith, e) in
    let f : false ≡ true = sym h ∙ t in
    search (rules, f)) in
    get_or-set_other lines j k x line.Free ne

-- the command on line j is done
pub done_held : (lines : List Line) (j k : ℕ) (old : Option (List ℕ)) → held (at_line lines k) ≡ old
    → (b : Bool)
    → (k == j) ≡ b → held (at_line (set lines j line.Free) k) ≡ (if b then None else old)
done_held lines j k old h true e = subst (λ n. held (at_line (set lines j line.Free) n) ≡ None)
    (sym (eqb-true k j e))
    (ap held (freed lines j))
done_held lines j k old h false e = ap held (other_line lines j k line.Free e) ∙ h

pub done_used : (lines : List Line) (j k : ℕ) (old : Bool) → is_used (at_line lines k) ≡ old
    → (b : Bool)
    → (k == j) ≡ b → is_used (at_line (set lines j line.Free) k) ≡ (not b && old)
done_used lines j k old h true e = subst (λ n. is_used (at_line (set lines j line.Free) n) ≡ false)
    (sym (eqb-true k j e)) (ap is_used (freed lines j))
done_used lines j k old h false e = ap is_used (other_line lines j k line.Free e) ∙ h

-- a command is put on line j
pub put_held : (lines : List Line) (j k : ℕ) (xs : List ℕ) (new old : Option (List ℕ))
    → j < length lines
    → (k ≡ j → new ≡ Some xs) → held (at_line lines k) ≡ old → (b : Bool) → (k == j) ≡ b →
    held (at_line (set lines j (line.Holds xs)) k) ≡ (if b then new else old)
put_held lines j k xs new old less n h true e =
    let at : k ≡ j = eqb-true k j e in
    subst (λ m. held (at_line (set lines j (line.Holds xs)) m) ≡ Some xs) (sym at)
    (ap held (get_or-set_same lines j (line.Holds xs) line.Free less)) ∙ sym (n at)
put_held lines j k xs new old less n h false e = ap held (other_line lines j k (line.Holds xs) e)
    ∙ h

pub put_used : (lines : List Line) (j k : ℕ) (xs : List ℕ) (old : Bool) → j < length lines
    → is_used (at_line lines k) ≡ old → (b : Bool) → (k == j) ≡ b
    → is_used (at_line (set lines j (line.Holds xs)) k) ≡ (b || old)
put_used lines j k xs old less h true e =
    subst (λ m. is_used (at_line (set lines j (line.Holds xs)) m) ≡ true)
    (sym (eqb-true k j e)) (ap is_used (get_or-set_same lines j (line.Holds xs) line.Free less))
put_used lines j k xs old less h false e = ap is_used (other_line lines j k (line.Holds xs) e) ∙ h

-- the connection ended
cut_one : (x : Line) → held (cut_off x) ≡ None
cut_one line.Free = refl
cut_one (line.Holds xs) = refl
cut_one line.CutOff = refl

pub cut_held : (lines : List Line) (k : ℕ) → held (at_line (map cut_off lines) k) ≡ None
cut_held [] k = refl
cut_held (x ∷ xs) zero = cut_one x
cut_held (x ∷ xs) (suc k) = cut_held xs k

cut_use : (x : Line) → is_used (cut_off x) ≡ is_used x
cut_use line.Free = refl
cut_use (line.Holds xs) = refl
cut_use line.CutOff = refl

pub cut_used : (lines : List Line) (k : ℕ) → is_used (at_line (map cut_off lines) k)
    ≡ is_used (at_line lines k)
cut_used [] k = refl
cut_used (x ∷ xs) zero = cut_use x
cut_used (x ∷ xs) (suc k) = cut_used xs k

-- at the start
pub free_held : (stations : List StationInfo) (k : ℕ) → held (at_line (map free_line stations) k)
    ≡ None
free_held [] k = refl
free_held (x ∷ xs) zero = refl
free_held (x ∷ xs) (suc k) = free_held xs k

pub free_used : (stations : List StationInfo) (k : ℕ) → is_used (at_line (map free_line stations) k)
    ≡ false
free_used [] k = refl
free_used (x ∷ xs) zero = refl
free_used (x ∷ xs) (suc k) = free_used xs k
