-- What a script says of one request or one call, kept by its number, so that it needn't be
-- looked for among all lines.
use Rattle.std.specs.Prelude.{◌≡◌, ℕ, ◌<◌, List, length, get_or, Option, Some, None, is_some, true}
use Rattle.std.specs.List.{list_any}
use Rattle.std.specs.Ordering.{nat_cmp}
use Rattle.std.specs.BTreeMap.{BTreeMap, get}
use Rattle.std.specs.BTreeSet.{BTreeSet, contains}
use Rattle.sim.specs.declared.directive.Directive.{Directive}
use Rattle.sim.specs.declared.directive.Directive.TheVariants.{Turns}
use Rattle.sim.specs.Losses.{first_said, turns_said, ack_said, spoil_said, wall_of, send_said}
use Rattle.sim.specs.Losses.{loses_request, loses_answer, is_cut_at, sent_at}

-- the line at this place has what is sent at the call; with no place nothing is sent
abbrev pub IsSentFrom : List Directive → (call : ℕ) → Option ℕ → Type 0
IsSentFrom ds call None = sent_at ds call ≡ None
IsSentFrom ds call (Some i) =
    (i < length ds) × (sent_at ds call ≡ send_said call (get_or ds i (Turns 0)))
    × (is_some (sent_at ds call) ≡ true)

-- each number has what the lines say of it, and what they say of the whole run is kept too
pub record IsNumbered (ds : List Directive) (ts ks ws : Option ℕ) (us ls cs : BTreeSet ℕ)
    (ps ss : BTreeMap ℕ ℕ) : Type 0 where
  pub turns : ts ≡ first_said turns_said ds
  pub ack : ks ≡ first_said ack_said ds
  pub wall : ws ≡ wall_of ds
  pub unreceived : (request : ℕ) → contains nat_cmp us request ≡ list_any (loses_request request) ds
  pub lost : (request : ℕ) → contains nat_cmp ls request ≡ list_any (loses_answer request) ds
  pub cut : (call : ℕ) → contains nat_cmp cs call ≡ is_cut_at ds call
  pub spoilt : (request : ℕ) → get nat_cmp ps request ≡ first_said (spoil_said request) ds
  pub sends : (call : ℕ) → IsSentFrom ds call (get nat_cmp ss call)
