-- From a table to the text that it was read from, and the texts of a list.
use Rattle.std.proofs.Common.{◌≡◌, ℕ, ◌<◌, ◌≤◌, List, length, drop, get_or}
use Rattle.std.proofs.Common.{None, Result, Ok, Err}
use Rattle.std.proofs.lemmas.List.{drop_all}
use Rattle.std.specs.Prelude.{codes}
use Rattle.toml.specs.Data.{Members, as_str}
use Rattle.toml.specs.View.{view, items_view}
use Rattle.toml.specs.declared.value.Value.{Value}
use Rattle.toml.proofs.Views.{items_view-drop}
use Rattle.settings.specs.Faults.{Path, ◌>>=◌}
use Rattle.settings.specs.Settings.{IsDocument}
use Rattle.settings.specs.SiteFaults.{IsWrongKeyOf}
use Rattle.settings.specs.Site.{IsReadOf, IsRootFault, IsSiteRead, texts_from}
use Rattle.settings.specs.declared.site.fault.SiteFault.{SiteFault}
use Rattle.settings.specs.declared.site.fault.SiteFault.TheVariants.{NotToml, Key, Unknown}
use Rattle.settings.specs.declared.site.fault.SiteFault.TheVariants.{NoMemory}
use Rattle.settings.specs.declared.site.Site.{Site}

-- a fault of what is read first is one of the file, if this goes on with it
pub wrong_before : {A B : Type 0} (r : Result A Path) (more : A → Result B Path) (e : SiteFault)
    → IsWrongKeyOf r e
    → IsWrongKeyOf (r >>= more) e
wrong_before r more NotToml h = absurd h
wrong_before r more (Key path) h = rw h
wrong_before r more (Unknown path) h = absurd h
wrong_before r more NoMemory h = tt

-- what is read from a root is read from the text that has it
pub read_text : (text : List ℕ) (root : Members) (r : Result Site SiteFault) → IsDocument text root
    → IsReadOf root r
    → IsSiteRead text r
read_text text root (Ok s) d h = record { root = root; document = d; known = h.0; all = h.1 }
read_text text root (Err NotToml) d h = absurd h
read_text text root (Err (Key path)) d h = (root, d, h)
read_text text root (Err (Unknown path)) d h = (root, d, h)
read_text text root (Err NoMemory) d h = tt

-- a text without a root has that fault
pub no_root : (text : List ℕ) (e : SiteFault) → IsRootFault text e → IsSiteRead text (Err e)
no_root text NotToml h = h
no_root text (Key path) h = absurd h
no_root text (Unknown path) h = absurd h
no_root text NoMemory h = tt

pub texts_from_wrong : (before : List (List ℕ)) (vs : List Value) (i : ℕ) (d : Value)
    → i < length vs
    → as_str (view (get_or vs i d)) ≡ None
    → texts_from before (items_view (drop i vs)) ≡ Err (codes "allow")
texts_from_wrong before vs i d lt e = rw (items_view-drop vs i d lt, e)

pub texts_from_end : (before : List (List ℕ)) (vs : List Value) (i : ℕ) → length vs ≤ i
    → texts_from before (items_view (drop i vs)) ≡ Ok before
texts_from_end before vs i le = rw (drop_all i vs le)
