-- The wall clock is known from the event on that gives it.
use Rattle.std.proofs.Common.{◌≡◌, ℕ, [], ◌∷◌, ◌++◌, Option, Some, None, refl, ap, sym, ◌∙◌}
use Rattle.gateway.specs.declared.walls.Wall.{Wall}
use Rattle.gateway.specs.Log.{Log, LineIn, Opened, TcpIn, CutOff, Ticked, WallIs, Restarted}
use Rattle.gateway.specs.Log.{Came, Went}
use Rattle.gateway.specs.Walls.{last_wall, wall_of, wall_on, HasNoWall, ShowsAt}

-- the latest event counts
last_known : (since log : Log) → HasNoWall since → last_wall (since ++ log) ≡ last_wall log
last_known [] log none = refl
last_known (Came now (LineIn octets) ∷ since) log none = last_known since log none
last_known (Came now Opened ∷ since) log none = last_known since log none
last_known (Came now (TcpIn octets) ∷ since) log none = last_known since log none
last_known (Came now CutOff ∷ since) log none = last_known since log none
last_known (Came now Ticked ∷ since) log none = last_known since log none
last_known (Came now (WallIs number) ∷ since) log none = absurd none
last_known (Came now Restarted ∷ since) log none = last_known since log none
last_known (Went now action ∷ since) log none = last_known since log none

pub known : (log : Log) (at clock : ℕ) → ShowsAt log at clock → wall_on log at ≡ Some clock
known log at clock s =
    let given : Log = Came s.now (WallIs s.number) ∷ s.before in
    ap (λ (l : Log). wall_on l at) s.logged
    ∙ ap (λ (w : Option Wall). wall_of w at) (last_known s.since given s.latest_logged)
    ∙ ap (λ (n : ℕ). Some n) (sym s.shows)

last_unknown : (log : Log) → HasNoWall log → last_wall log ≡ None
last_unknown [] none = refl
last_unknown (Came now (LineIn octets) ∷ log) none = last_unknown log none
last_unknown (Came now Opened ∷ log) none = last_unknown log none
last_unknown (Came now (TcpIn octets) ∷ log) none = last_unknown log none
last_unknown (Came now CutOff ∷ log) none = last_unknown log none
last_unknown (Came now Ticked ∷ log) none = last_unknown log none
last_unknown (Came now (WallIs number) ∷ log) none = absurd none
last_unknown (Came now Restarted ∷ log) none = last_unknown log none
last_unknown (Went now action ∷ log) none = last_unknown log none

pub unknown : (log : Log) (at : ℕ) → HasNoWall log → wall_on log at ≡ None
unknown log at none = ap (λ (w : Option Wall). wall_of w at) (last_unknown log none)
