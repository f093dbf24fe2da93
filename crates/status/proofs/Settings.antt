-- The settings that are shown, one behind another.
use Rattle.std.proofs.Common.{◌≡◌, ℕ, suc, ◌+◌, ◌<◌, List, [], ◌∷◌, ◌++◌, length, map, take, get_or}
use Rattle.std.proofs.Common.{sym, ap, ◌∙◌, arith}
use Rattle.std.proofs.Math.Seq.{take-suc}
use Rattle.std.proofs.lemmas.List.{map-append, take-map}
use Rattle.status.specs.declared.snapshot.Setting.{Setting}
use Rattle.status.specs.Shown.{Pair, chosen_as, viewed_as}
use Rattle.status.specs.declared.lookout.setting.ChosenSetting.{ChosenSetting}

pub one_more : (views : List Setting) (chosen : List ChosenSetting) (i : ℕ) (one : ChosenSetting)
    (view : Setting) → i < length chosen → one ≡ get_or chosen i one
    → viewed_as view ≡ chosen_as one → map viewed_as views ≡ take i (map chosen_as chosen)
    → map viewed_as (views ++ view ∷ []) ≡ take (i + 1) (map chosen_as chosen)
one_more views chosen i one view lt at shows same =
    let next : suc i ≡ i + 1 = omega arith in
    map-append viewed_as views (view ∷ [])
    ∙ ap (λ (l : List Pair). l ++ viewed_as view ∷ []) (same ∙ take-map chosen_as i chosen)
    ∙ ap (λ (p : Pair). map chosen_as (take i chosen) ++ p ∷ []) (shows ∙ ap chosen_as at)
    ∙ sym (map-append chosen_as (take i chosen) (get_or chosen i one ∷ []))
    ∙ ap (map chosen_as) (sym (take-suc chosen i one lt))
    ∙ sym (take-map chosen_as (suc i) chosen)
    ∙ ap (λ (n : ℕ). take n (map chosen_as chosen)) next

abbrev pub pair_of : (key value : List ℕ) → Pair
pair_of key value = record { key = key; value = value }

pub shown : (key value text : List ℕ) → value ≡ text → pair_of key value ≡ pair_of key text
shown key value text is = ap (pair_of key) is
