-- The log and the record of a live run go to new places (profile).
use Rattle.std.specs.Prelude.{◌≡◌, ℕ, List, [], Option, IfSome}
use Rattle.gateway.specs.Log.{Log}

-- nothing stands on a sheet yet, and nothing passed it, as far as it notes
abbrev pub IsNew : (taken : Option (List ℕ)) → (missed : Option Log) → Type 0
IsNew taken missed = IfSome taken (λ text. text ≡ []) × IfSome missed (λ log. log ≡ [])
