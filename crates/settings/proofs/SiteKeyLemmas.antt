-- Where a control character begins, octet by octet.
use Rattle.std.proofs.Common.{◌≡◌, ℕ, ◌+◌, ◌<◌, ◌≤◌, true, false, List, length, drop, get_or}
use Rattle.std.proofs.Common.{slice_index, refl, ap, ◌∙◌, add-zero}
use Rattle.std.proofs.lemmas.List.{drop_more, drop_all, get_or-drop}
use Rattle.settings.specs.SiteKeys.{has_control, is_control}

next_is : (text : List ℕ) (i : ℕ) → slice_index (drop (i + 1) text) 0 ≡ slice_index text (i + 1)
next_is text i = get_or-drop (i + 1) text 0 0 ∙ ap (λ n. get_or text n 0) (add-zero (i + 1))

pub control_here : (text : List ℕ) (i d : ℕ) → i < length text
    → is_control (get_or text i d) (slice_index text (i + 1)) ≡ true → has_control (drop i text)
    ≡ true
control_here text i d lt control = ap has_control (drop_more text i d lt)
    ∙ rw (next_is text i, control) refl

pub no_control_here : (text : List ℕ) (i d : ℕ) → i < length text
    → is_control (get_or text i d) (slice_index text (i + 1)) ≡ false
    → has_control (drop i text) ≡ has_control (drop (i + 1) text)
no_control_here text i d lt control = ap has_control (drop_more text i d lt)
    ∙ rw (next_is text i, control) refl

pub control_nowhere : (text : List ℕ) (i : ℕ) → length text ≤ i → has_control (drop i text) ≡ false
control_nowhere text i le = ap has_control (drop_all i text le)
