-- How a run begins.
use Rattle.std.proofs.Common.{◌≡◌, ◌∙◌, inl, inr, Bool, true, false, ℕ, List, IsTrue, Option, Some}
use Rattle.std.proofs.Common.{None, Result, Ok, Err, IfOk, sym, ap, subst}
use Rattle.std.specs.Prelude.{◌⊎◌, if◌then◌else◌}
use Rattle.gateway.specs.Config.{Settings}
use Rattle.gateway.specs.Log.{Log}
use Rattle.segments.specs.Starts.{HasNoNewer, IsAbove, IsNext, IsNewest, IsShut}
use Rattle.sqlite_disk.specs.declared.Disk.{Ghosts}
use Rattle.state.specs.Beginnings.{IsReadWhole, GoesOnFrom, has_past, is_trusted, moment_at}
use Rattle.state.specs.Origins.{IsBegun, IsMarkedBy, IsNew, IsNumbered}
use Rattle.state.specs.declared.beginning.Origin.{Origin}
use Rattle.state.specs.declared.opened.Opened.{Opened}
use Rattle.state.specs.declared.opened.Opened.TheVariants as opens
use Rattle.state.specs.declared.start.Beginning.{Beginning}
use Rattle.state.specs.declared.start.Beginning.TheVariants as beginnings

-- what promises of an answer give together
pub of_four : {T E : Type 0} {P Q S U R : T → Type 0} (r : Result T E) → IfOk r P → IfOk r Q
    → IfOk r S → IfOk r U
    → ((x : T) → P x → Q x → S x → U x → R x) → IfOk r R
of_four (Ok x) p q s u all = all x p q s u
of_four (Err e) p q s u all = tt

pub of_two : {T E : Type 0} {P Q R : T → Type 0} (r : Result T E) → IfOk r P → IfOk r Q
    → ((x : T) → P x → Q x → R x) → IfOk r R
of_two (Ok x) p q all = all x p q
of_two (Err e) p q all = tt

marked_by : (b : Beginning) (goes_on : Bool) (mark : Option Bool) → has_past b ≡ true → is_trusted b
    ≡ goes_on
    → (goes_on ≡ true → mark ≡ Some false) → IsMarkedBy b mark
marked_by beginnings.Anew goes_on mark past is marked = tt
marked_by beginnings.PutAside goes_on mark past is marked = absurd (cc)
marked_by beginnings.LinksReset goes_on mark past is marked = tt
marked_by beginnings.GoesOn goes_on mark past is marked = marked (sym is)

never : {P : Type 0} (b : Bool) → b ≡ true → b ≡ false → P
never b is isnt = let none : true ≡ false = sym is ∙ isnt in absurd (cc)

module _ {D : Type 0} {g : Ghosts D} where
  -- with a past
  pub resumed_begun : (c : Settings) (log : Log) (mark : Option Bool)
      (newest spare : D) (o : Origin)
      (goes_on : Bool) → o.moment ≡ Some o.gateway.moment → has_past o.beginning ≡ true
      → is_trusted o.beginning ≡ goes_on
      → (goes_on ≡ true → mark ≡ Some false)
      → (IsTrue (g.is_clean newest) → IsTrue (g.is_clean spare)
      → IsNewest (g.seen newest) (g.seen spare))
      → (goes_on ≡ true → IsTrue (g.is_clean newest) → IsTrue (g.is_clean spare)
      → HasNoNewer (g.seen newest) (g.seen spare))
      → (goes_on ≡ true → IsTrue (g.is_clean newest) → IsReadWhole (g.seen newest))
      → (goes_on ≡ false → (mark ≡ Some true) ⊎ (IsTrue (g.is_clean newest)
      → IsTrue (g.is_clean spare)
      → HasNoNewer (g.seen newest) (g.seen spare) → IsReadWhole (g.seen newest) → ⊥))
      → (IsTrue (g.is_clean newest) → GoesOnFrom goes_on c log (g.seen newest) o.is_moved o.damage
      o.gap
      o.given_up.items o.before.entries o.gateway)
      → IsBegun {D = D} {g = g} c log mark (opens.Both newest spare) o
  resumed_begun c log mark newest spare o goes_on moment past is marked wins sure read reset
      goes =
      record {
        moment = moment ∙ sym (ap (λ (b : Bool). if b then Some o.gateway.moment else None) past);
        marked = marked_by o.beginning goes_on mark past is marked;
        anew = λ none. never (has_past o.beginning) past none;
        empty = λ anew. never (has_past o.beginning) past (ap has_past anew);
        newest = λ _. wins;
        sure = λ on. sure (sym is ∙ ap is_trusted on);
        read = λ on one two. read (sym is ∙ ap is_trusted on) one;
        reset = λ links. reset (sym is ∙ ap is_trusted links);
        goes_on = λ _. subst (λ (t : Bool). IsTrue (g.is_clean newest) →
            GoesOnFrom t c log (g.seen newest) o.is_moved o.damage o.gap o.given_up.items
            o.before.entries o.gateway)
            (sym is) goes;
      }

  -- anew
  pub anew_begun : (c : Settings) (log : Log) (mark : Option Bool)
      (newest spare : D) (o : Origin)
      → IsNew c o → o.moment ≡ None → o.beginning ≡ beginnings.Anew
      → (IsTrue (g.is_clean newest) → IsTrue (g.is_clean spare) → IsShut (g.seen newest)
      × IsShut (g.seen spare))
      → IsBegun {D = D} {g = g} c log mark (opens.Both newest spare) o
  anew_begun c log mark newest spare o new moment is shut = record {
    moment = moment ∙ sym (ap (λ (b : Beginning). moment_at b o.gateway.moment) is);
    marked = subst (λ (b : Beginning). IsMarkedBy b mark) (sym is) tt;
    anew = λ _. new;
    empty = λ _. shut;
    newest = λ past. never (has_past o.beginning) past (ap has_past is);
    sure = λ on. let no : beginnings.Anew ≡ beginnings.GoesOn = sym is ∙ on in absurd (cc);
    read = λ on. let no : beginnings.Anew ≡ beginnings.GoesOn = sym is ∙ on in absurd (cc);
    reset = λ links. let no : beginnings.Anew ≡ beginnings.LinksReset = sym is ∙ links in
        absurd (cc);
    goes_on = λ past. never (has_past o.beginning) past (ap has_past is);
  }

  -- with a past, if the files are those that were looked at
  pub begun_from : (c : Settings) (log : Log) (mark : Option Bool)
      (opened : Opened D g)
      (newest spare new old other : D) (o : Origin) (goes_on : Bool)
      → opened ≡ opens.Both newest spare → newest ≡ new → spare ≡ other
      → g.seen new ≡ g.seen old → (IsTrue (g.is_clean new) → IsTrue (g.is_clean old))
      → o.moment ≡ Some o.gateway.moment → has_past o.beginning ≡ true → is_trusted o.beginning
      ≡ goes_on
      → (goes_on ≡ true → mark ≡ Some false)
      → (IsTrue (g.is_clean old) × IsTrue (g.is_clean other) → IsNewest (g.seen old) (g.seen other))
      → (goes_on ≡ true → IsTrue (g.is_clean old) × IsTrue (g.is_clean other)
      → HasNoNewer (g.seen old) (g.seen other))
      → (goes_on ≡ true → IsTrue (g.is_clean new) → IsReadWhole (g.seen new))
      → (goes_on ≡ false → (mark ≡ Some true) ⊎ (IsTrue (g.is_clean new)
      → IsTrue (g.is_clean other)
      → HasNoNewer (g.seen old) (g.seen other) → IsReadWhole (g.seen new) → ⊥))
      → (IsTrue (g.is_clean new) → GoesOnFrom goes_on c log (g.seen new) o.is_moved o.damage o.gap
      o.given_up.items o.before.entries o.gateway)
      → IsBegun {D = D} {g = g} c log mark opened o
  begun_from c log mark opened newest spare new old other o goes_on both at_newest at_spare
      seen clean moment past is
      marked wins sure read reset goes =
      subst (λ (f : Opened D g). IsBegun {D = D} {g = g} c log mark f o) (sym both)
      (subst (λ (d : D). IsBegun {D = D} {g = g} c log mark (opens.Both d spare) o)
      (sym at_newest)
      (subst (λ (d : D). IsBegun {D = D} {g = g} c log mark (opens.Both new d) o)
      (sym at_spare)
      (resumed_begun c log mark new other o goes_on moment past is marked
      (λ one two. subst (λ (file : List ℕ). IsNewest file (g.seen other)) (sym seen)
      (wins (clean one, two)))
      (λ on one two. subst (λ (file : List ℕ). HasNoNewer file (g.seen other)) (sym seen)
      (sure on (clean one, two)))
      read
      (λ none. elim (reset none) [
        | inl stale ↦ inl stale
        | inr torn ↦ inr (λ one two older. torn one two
            (subst (λ (file : List ℕ). HasNoNewer file (g.seen other)) seen older))
      ])
      goes)))

  -- the number of the next log, if the files are those that were looked at
  pub numbered_from : (opened : Opened D g) (newest spare new old other : D) (number first : ℕ)
      → opened ≡ opens.Both newest spare → newest ≡ new → spare ≡ other → number ≡ first
      → g.seen new ≡ g.seen old → (IsTrue (g.is_clean new) → IsTrue (g.is_clean old))
      → (IsTrue (g.is_clean old) × IsTrue (g.is_clean other) → IsAbove first (g.seen old)
      × IsAbove first (g.seen other))
      → (IsTrue (g.is_clean old) × IsTrue (g.is_clean other) → IsNext first (g.seen old)
      (g.seen other))
      → IsNumbered {D = D} {g = g} number opened
  numbered_from opened newest spare new old other number first both at_newest at_spare same seen
      clean above next =
      subst (λ (n : ℕ). IsNumbered {D = D} {g = g} n opened) (sym same)
      (subst (λ (f : Opened D g). IsNumbered {D = D} {g = g} first f) (sym both)
      (subst (λ (d : D). IsNumbered {D = D} {g = g} first (opens.Both d spare)) (sym at_newest)
      (subst (λ (d : D). IsNumbered {D = D} {g = g} first (opens.Both new d)) (sym at_spare)
      (λ one two.
      let both_above = above (clean one, two) in (
        subst (λ (file : List ℕ). IsAbove first file) (sym seen) both_above.0,
        both_above.1,
        subst (λ (file : List ℕ). IsNext first file (g.seen other)) (sym seen)
            (next (clean one, two)),
      )))))
