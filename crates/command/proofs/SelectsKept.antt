-- The selects of a history are kept, or their time has passed.
use Rattle.std.proofs.Common.{◌≡◌, ℕ, ◌+◌, ◌≤◌, ◌&&◌, Bool, true, false, not, List, ◌∷◌}
use Rattle.std.proofs.Common.{length, drop, refl, sym, subst, ap, ◌∙◌, arith, rules}
use Rattle.std.specs.Prelude.{Option, Some, None, if◌then◌else◌, is_none}
use Rattle.std.proofs.lemmas.Bool.{and_parts}
use Rattle.std.proofs.lemmas.List.{length-drop}
use Rattle.asdu.specs.declared.sizes.Sizes.{Sizes}
use Rattle.command.specs.declared.content.Command.{Command}
use Rattle.command.specs.declared.content.Target.{Target}
use Rattle.command.specs.declared.station.StationInfo.{StationInfo}
use Rattle.command.specs.declared.waiting.Waiting.{Waiting}
use Rattle.command.specs.declared.selection.Selection.{Selection}
use Rattle.command.specs.declared.selection.SelectStage.{SelectStage}
use Rattle.command.specs.declared.selection.SelectStage.TheVariants as stage
use Rattle.command.specs.declared.selection.Sign.TheVariants as sign
use Rattle.command.specs.Command.{command_at}
use Rattle.command.specs.Selection.{advanced, target_of, same_target}
use Rattle.command.specs.Stations.{station_number}
use Rattle.command.specs.Judging.{fault, makes_selection, ends_selection, waiting_count}
use Rattle.command.specs.History.{Judged, History, sent_count, forwarded_to}
use Rattle.command.proofs.Machine.{Select, standing, names}
use Rattle.command.proofs.Sendings.{count_is}
use Rattle.command.proofs.Keeps.{KeepsQueue}
use Rattle.command.proofs.Judged.{targets_equal}
use Rattle.command.proofs.Passing.{Kept, kept_mapped, Found, Waits, at, After, moved}

-- the selects of the history are kept, or their time has passed
pub record Stands (sizes : Sizes) (stations : List StationInfo) (ms age : ℕ) (h : History) (now : ℕ)
    (zs : List Selection) (t : Target) (z : Select) : Type 0 where
  pub came : z.came ≤ now
  pub target : target_of z.command ≡ t
  pub found : Found sizes stations ms age h now zs z

abbrev pub Full : Sizes → List StationInfo → ℕ → ℕ → History → ℕ → List Selection → Type 0
Full sizes stations ms age h now zs = (t : Target) (z : Select) → standing sizes stations ms age t h
    ≡ Some z
    → Stands sizes stations ms age h now zs t z

pub no_select : {A : Type 0} (z : Select) → None ≡ Some z → A
no_select z h = absurd (search (rules, h))

select_is : (x y : Select) → Some x ≡ Some y → x ≡ y
select_is x y h = search (rules, h)

pub and_turn : (a b : Bool) → (a && b) ≡ (b && a)
and_turn true true = refl
and_turn true false = refl
and_turn false true = refl
and_turn false false = refl

pub and_false_right : (a b : Bool) → b ≡ false → (a && b) ≡ false
and_false_right true b h = h
and_false_right false b h = refl

module _ (sizes : Sizes) (stations : List StationInfo) (ms age : ℕ) where
  abbrev IsFull : History → ℕ → List Selection → Type 0
  IsFull h now zs = Full sizes stations ms age h now zs

  abbrev pub over : Command → List Selection → List Selection
  over c zs = After sizes stations ms age (sign.Over (target_of c)) zs

  pub kept_over : (c : Command) (y : Selection) (zs : List Selection)
      → same_target (target_of y.command) (target_of c) ≡ false → Kept y zs → Kept y (over c zs)
  kept_over c y zs e k = kept_mapped (advanced ms (sign.Over (target_of c))) y y (rw e refl) zs k

  -- ---- judging

  abbrev pub new_one : List ℕ → ℕ → List Waiting → Selection
  new_one xs now waiting = record {
    station = station_number (command_at xs).ca stations;
    command =
        command_at xs;
    came = now;
    stage =
        stage.Queued (waiting_count (station_number (command_at xs).ca stations) waiting);
  }

  abbrev new_select : List ℕ → ℕ → History → Select
  new_select xs now h = record {
    command = command_at xs;
    came = now;
    place =
        length (forwarded_to sizes stations ms age (station_number (command_at xs).ca stations) h);
  }

  abbrev by_name : Target → List ℕ → ℕ → Option (List ℕ) → History → Bool → Bool → Bool
      → Option Select
  by_name t xs now a h n m d = if not n then standing sizes stations ms age t h else
      (if m then Some (new_select xs now h)
      else (if d then None else standing sizes stations ms age t h))

  left_count : (n : ℕ) (fw : List (List ℕ)) → n ≤ length fw → length fw ≡ n + length (drop n fw)
  left_count n fw h = omega (arith, h, length-drop n fw)

  new_place : (waiting : List Waiting) (h : History) (k : ℕ)
      → KeepsQueue sizes stations ms age waiting h
      → length (forwarded_to sizes stations ms age k h) ≡ sent_count sizes stations ms age k h
      + waiting_count k waiting
  new_place waiting h k q =
      left_count (sent_count sizes stations ms age k h) (forwarded_to sizes stations ms age k h)
      (q.count k)
      ∙ ap (λ n. sent_count sizes stations ms age k h + n)
      (ap (λ (ys : List (List ℕ)). length ys) (q.in_turn k)
      ∙ count_is k waiting)

  module _ (h : History) (before now : ℕ) (later : before ≤ now) (zs : List Selection)
      (wall : Option ℕ) (xs : List ℕ)
      (full : IsFull h before zs) (waiting : List Waiting)
      (q : KeepsQueue sizes stations ms age waiting h) where
    old : (a : Option (List ℕ)) (ys : List Selection) (t : Target) (z : Select)
        → standing sizes stations ms age t h ≡ Some z
        → ((st : SelectStage) → Kept (at sizes stations ms age z st) zs
        → Kept (at sizes stations ms age z st) ys)
        → Stands sizes stations ms age (Judged now wall xs a ∷ h) now ys t z
    old a ys t z e f =
        let s : Stands sizes stations ms age h before zs t z = full t z e in
        record {
          came = omega (arith, s.came, later);
          target = s.target;
          found =
              moved sizes stations ms age h before zs ys now wall xs a z later f s.found;
        }

    module _ (a : Option (List ℕ)) (ys : List Selection) (others : (y : Selection)
        → names sizes stations ms age (target_of y.command) wall xs ≡ false → Kept y zs → Kept y ys)
        (fresh : (is_none a && makes_selection stations (command_at xs)) ≡ true
        → Kept (new_one xs now waiting) ys)
        (rest : (is_none a && makes_selection stations (command_at xs)) ≡ false
        → ends_selection (command_at xs) ≡ false → (y : Selection) → Kept y zs → Kept y ys) where
      abbrev Stood : Target → Select → Type 0
      Stood t z = Stands sizes stations ms age (Judged now wall xs a ∷ h) now ys t z

      stood_ended : (t : Target) (z : Select)
          (m : (is_none a && makes_selection stations (command_at xs)) ≡ false)
          (d : Bool) → ends_selection (command_at xs) ≡ d → by_name t xs now a h true false d
          ≡ Some z → Stood t z
      stood_ended t z m true d e = no_select z e
      stood_ended t z m false d e =
          old a ys t z e (λ st k. rest m d (at sizes stations ms age z st) k)

      made : (t : Target) → t ≡ target_of (command_at xs)
          → (is_none a && makes_selection stations (command_at xs)) ≡ true
          → Stood t (new_select xs now h)
      made t same_one m = record {
        came = omega arith;
        target = sym same_one;
        found = Waits (waiting_count (station_number (command_at xs).ca stations) waiting)
            (new_place waiting h (station_number (command_at xs).ca stations) q) (fresh m);
      }

      stood_made : (t : Target) (z : Select) → t ≡ target_of (command_at xs) → (m d : Bool)
          → (is_none a && makes_selection stations (command_at xs)) ≡ m
          → ends_selection (command_at xs) ≡ d
          → by_name t xs now a h true m d ≡ Some z → Stood t z
      stood_made t z same_one true d m f e =
          subst (λ (y : Select). Stood t y) (select_is (new_select xs now h) z e)
          (made t same_one m)
      stood_made t z same_one false d m f e = stood_ended t z m d f e

      stood_named : (t : Target) (z : Select) (n : Bool) → names sizes stations ms age t wall xs ≡ n
          → by_name t xs now a h n (is_none a && makes_selection stations (command_at xs))
          (ends_selection (command_at xs)) ≡ Some z → Stood t z
      stood_named t z false n e =
          let target : target_of z.command ≡ t = (full t z e).target in
          old a ys t z e (λ st k. others (at sizes stations ms age z st)
          (subst (λ (u : Target). names sizes stations ms age u wall xs ≡ false) (sym target) n) k)
      stood_named t z true n e =
          stood_made t z (targets_equal t (target_of (command_at xs))
          (and_parts (is_none (fault sizes stations age wall xs))
          (same_target t (target_of (command_at xs))) n).1) _ _
          refl refl e

      pub judged_full : IsFull (Judged now wall xs a ∷ h) now ys
      judged_full t z e = stood_named t z (names sizes stations ms age t wall xs) refl e
