-- What waits, and the own answers, if a call leaves them as they are.
use Rattle.std.proofs.Common.{◌≡◌, ℕ, Bool, true, false, List, [], ◌∷◌, ◌++◌, refl, sym, subst, ap}
use Rattle.std.proofs.Common.{◌∙◌}
use Rattle.std.specs.Prelude.{◌==◌, Option, Some, None, if◌then◌else◌, option_map}
use Rattle.std.proofs.lemmas.Bool.{eqb-true}
use Rattle.asdu.specs.Asdu.{AsduValue, Info}
use Rattle.command.specs.declared.content.Command.{Command}
use Rattle.command.specs.declared.content.CommandElement.{CommandElement}
use Rattle.command.specs.declared.content.Target.{Target}
use Rattle.command.specs.declared.waiting.Waiting.{Waiting}
use Rattle.command.specs.declared.selection.Selection.{Selection}
use Rattle.command.specs.declared.selection.Sign.TheVariants as sign
use Rattle.command.specs.Command.{command_at}
use Rattle.command.specs.Octets.{negative}
use Rattle.command.specs.State as state
use Rattle.command.specs.State.{State, oldest, oldest_for, octets_waiting, without_oldest, put_out}
use Rattle.command.specs.Judging as judging
use Rattle.command.specs.Judging.{fault, ends_selection, lacks_selection, lacks_place}
use Rattle.command.specs.Judging.{makes_selection, copies}
use Rattle.command.specs.Mirrors as mirrors
use Rattle.command.specs.Mirrors.{is_con, target_at, element_of}
use Rattle.command.proofs.Sendings.{same}

-- ---- lists that wait

-- what comes behind leaves the oldest
still_oldest : (k : ℕ) (ws more : List Waiting) (w : Waiting) → oldest k ws ≡ Some w
    → oldest k (ws ++ more) ≡ Some w
still_oldest k [] more w e = cc
still_oldest k (x ∷ ws) more w e = go (still_oldest k ws more w) (x.station == k) e
  where
    go : (oldest k ws ≡ Some w → oldest k (ws ++ more) ≡ Some w) → (b : Bool)
        → (if b then Some x else oldest k ws) ≡ Some w
        → (if b then Some x else oldest k (ws ++ more)) ≡ Some w
    go later true e = e
    go later false e = later e

-- the oldest for one station leaves that for another
other_oldest : (j k : ℕ) (ws : List Waiting) → (k == j) ≡ false → oldest k (without_oldest j ws)
    ≡ oldest k ws
other_oldest j k [] h = refl
other_oldest j k (x ∷ ws) h = go (other_oldest j k ws h) (x.station == j) refl
  where
    not_here : (b : Bool) → x.station ≡ j → (x.station == k) ≡ b → b ≡ false
    not_here false at e = refl
    not_here true at e =
        let there : k ≡ j = sym (eqb-true x.station k e) ∙ at in
        let equal : (k == j) ≡ true = subst (λ (n : ℕ). (k == n) ≡ true) there (same k) in
        cc

    go : oldest k (without_oldest j ws) ≡ oldest k ws → (b : Bool) → (x.station == j) ≡ b →
        oldest k (if b then ws else x ∷ without_oldest j ws) ≡ (if x.station == k then Some x
        else oldest k ws)
    go later true e =
        sym (ap (λ (b : Bool). if b then Some x else oldest k ws)
        (not_here (x.station == k) (eqb-true x.station j e) refl))
    go later false e = ap (λ (o : Option Waiting). if x.station == k then Some x else o) later

option_waits : (k : ℕ) (s : State) (more : List Waiting) (octets : List ℕ) → octets_waiting k s
    ≡ Some octets
    → octets_waiting k (record s { waiting = s.waiting ++ more }) ≡ Some octets
option_waits k s more octets h = go (oldest k s.waiting) refl h
  where
    go : (o : Option Waiting) → oldest k s.waiting ≡ o → option_map (λ (w : Waiting). w.octets) o
        ≡ Some octets →
        option_map (λ (w : Waiting). w.octets) (oldest k (s.waiting ++ more)) ≡ Some octets
    go None e h = cc
    go (Some w) e h = ap (λ (o : Option Waiting). option_map (λ (w : Waiting). w.octets) o)
        (still_oldest k s.waiting more w e) ∙ h

-- ---- judging

-- Judging changes selections and adds to what waits, and nothing else.
module _ (P : State → Type 0) (of_selections : (t : State) (zs : List Selection) → P t
    → P (record t { selections = zs }))
    (of_waiting : (t : State) (more : List Waiting) → P t
    → P (record t { waiting = t.waiting ++ more })) where
  on_place : (xs : List ℕ) (c : Command) (now : ℕ) (t : State) → P t
      → P (judging.placed xs c now t).1
  on_place xs c now t p = go (lacks_place c t)
    where
      chosen : (b : Bool) → P (judging.queued xs (if b then judging.selected c now t else t))
      chosen true = of_waiting _ _ (of_selections t _ p)
      chosen false = of_waiting t _ p

      go : (b : Bool) → P (if b then judging.refused (negative xs) xs t
          else (None, judging.forwarded xs c now t)).1
      go true = p
      go false = chosen (makes_selection t.stations c)

  pub judging_keeps : (xs : List ℕ) (now : ℕ) (wall : Option ℕ) (s : State) → P s
      → P (judging.judged xs now wall s).1
  judging_keeps xs now wall s p = on_fault (fault s.sizes s.stations s.max_age_ms wall xs)
    where
      on_ends : (b : Bool)
          → P (judging.placed xs (command_at xs) now (if b
          then judging.without_selection (command_at xs) s else s)).1
      on_ends true = on_place xs (command_at xs) now _ (of_selections s _ p)
      on_ends false = on_place xs (command_at xs) now s p

      on_lack : (b : Bool) →
          P (if b
          then judging.refused (negative xs) xs (judging.without_selection (command_at xs) s)
          else judging.placed xs (command_at xs) now (if ends_selection (command_at xs)
          then judging.without_selection
          (command_at xs) s else s)).1
      on_lack true = of_selections s _ p
      on_lack false = on_ends (ends_selection (command_at xs))

      on_fault : (f : Option ℕ) → P (judging.by_fault f xs now s).1
      on_fault (Some cause) = p
      on_fault None = on_lack (lacks_selection (command_at xs) now s)

pub judging_leaves_waiting : (xs : List ℕ) (now : ℕ) (wall : Option ℕ) (k : ℕ) (s : State)
    (octets : List ℕ)
    → octets_waiting k s ≡ Some octets → octets_waiting k (judging.judged xs now wall s).1
    ≡ Some octets
judging_leaves_waiting xs now wall k s octets h =
    judging_keeps (λ t. octets_waiting k t ≡ Some octets) (λ t zs p. p)
    (λ t more p. option_waits k t more octets p) xs now wall s h

pub judging_leaves_answers : (xs : List ℕ) (now : ℕ) (wall : Option ℕ) (s : State)
    → (judging.judged xs now wall s).1.answers ≡ s.answers
judging_leaves_answers xs now wall s = judging_keeps (λ t. t.answers ≡ s.answers) (λ t zs p. p)
    (λ t more p. p) xs now wall s refl

pub judging_leaves_sendings : (xs : List ℕ) (now : ℕ) (wall : Option ℕ) (s : State)
    → (judging.judged xs now wall s).1.sendings ≡ s.sendings
judging_leaves_sendings xs now wall s = judging_keeps (λ t. t.sendings ≡ s.sendings) (λ t zs p. p)
    (λ t more p. p) xs now wall s refl

-- ---- mirrors

-- A station's answer changes selections, and nothing else.
mirroring_keeps : (P : State → Type 0)
    → ((t : State) (zs : List Selection) → P t → P (record t { selections = zs })) →
    (v : AsduValue) (now : ℕ) (s : State) → P s → P (mirrors.mirrored v now s)
mirroring_keeps P of_selections v now s p = by_sign (is_con true v.cause)
  where
    all_over : (is : List Info) (t : State) → P t → P (mirrors.all_over v is t)
    all_over [] t q = q
    all_over (i ∷ is) t q = all_over is (state.heeded (sign.Over (target_at v i)) t)
        (of_selections t _ q)

    confirmed : (e : Option CommandElement) (target : Target) → P (mirrors.confirmed e target now s)
    confirmed None target = p
    confirmed (Some element) target = of_selections s _ p

    one : (is : List Info) → P (mirrors.one_confirmed v is now s)
    one [] = p
    one (i ∷ []) = confirmed (element_of i.element) (target_at v i)
    one (i ∷ j ∷ is) = p

    positive : (b : Bool) → P (if b then mirrors.one_confirmed v v.infos now s else s)
    positive true = one v.infos
    positive false = p

    by_sign : (b : Bool)
        → P (if b then mirrors.all_over v v.infos s else
        (if is_con false v.cause then mirrors.one_confirmed v v.infos now s else s))
    by_sign true = all_over v.infos s p
    by_sign false = positive (is_con false v.cause)

pub mirroring_leaves_waiting : (v : AsduValue) (now : ℕ) (s : State)
    → (mirrors.mirrored v now s).waiting ≡ s.waiting
mirroring_leaves_waiting v now s = mirroring_keeps (λ t. t.waiting ≡ s.waiting) (λ t zs p. p) v now
    s refl

pub mirroring_leaves_answers : (v : AsduValue) (now : ℕ) (s : State)
    → (mirrors.mirrored v now s).answers ≡ s.answers
mirroring_leaves_answers v now s = mirroring_keeps (λ t. t.answers ≡ s.answers) (λ t zs p. p) v now
    s refl

pub mirroring_leaves_sendings : (v : AsduValue) (now : ℕ) (s : State)
    → (mirrors.mirrored v now s).sendings ≡ s.sendings
mirroring_leaves_sendings v now s = mirroring_keeps (λ t. t.sendings ≡ s.sendings) (λ t zs p. p) v
    now s refl

-- ---- first sendings

pub sending_leaves_others : (j k : ℕ) (s : State) → (k == j) ≡ false
    → octets_waiting k (state.sent j s) ≡ octets_waiting k s
sending_leaves_others j k s h = go (oldest j s.waiting)
  where
    go : (o : Option Waiting) → octets_waiting k (put_out o j s) ≡ octets_waiting k s
    go None = refl
    go (Some w) = ap (λ (o : Option Waiting). option_map (λ (w : Waiting). w.octets) o)
        (other_oldest j k s.waiting h)

pub sending_leaves_answers : (j : ℕ) (s : State) → (state.sent j s).answers ≡ s.answers
sending_leaves_answers j s = go (oldest j s.waiting)
  where
    go : (o : Option Waiting) → (put_out o j s).answers ≡ s.answers
    go None = refl
    go (Some w) = refl
