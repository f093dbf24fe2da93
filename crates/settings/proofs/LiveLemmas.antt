-- Where a port begins, octet by octet.
use Rattle.std.proofs.Common.{◌≡◌, ℕ, ◌+◌, ◌<◌, ◌≤◌, nat_eq, true, false, List, length, drop}
use Rattle.std.proofs.Common.{get_or, refl, ap, ◌∙◌}
use Rattle.std.proofs.lemmas.List.{drop_more, drop_all}
use Rattle.settings.specs.Live.{has_port, is_port}

pub port_here : (text : List ℕ) (i d : ℕ) → i < length text → nat_eq (get_or text i d) 58 ≡ true
    → is_port (drop (i + 1) text) ≡ true → has_port (drop i text) ≡ true
port_here text i d lt colon port = ap has_port (drop_more text i d lt) ∙ rw (colon, port) refl

pub no_colon_here : (text : List ℕ) (i d : ℕ) → i < length text → nat_eq (get_or text i d) 58
    ≡ false
    → has_port (drop i text) ≡ has_port (drop (i + 1) text)
no_colon_here text i d lt colon = ap has_port (drop_more text i d lt) ∙ rw colon refl

pub no_port_here : (text : List ℕ) (i d : ℕ) → i < length text → nat_eq (get_or text i d) 58 ≡ true
    → is_port (drop (i + 1) text) ≡ false → has_port (drop i text) ≡ has_port (drop (i + 1) text)
no_port_here text i d lt colon port = ap has_port (drop_more text i d lt) ∙ rw (colon, port) refl

pub port_nowhere : (text : List ℕ) (i : ℕ) → length text ≤ i → has_port (drop i text) ≡ false
port_nowhere text i le = ap has_port (drop_all i text le)
