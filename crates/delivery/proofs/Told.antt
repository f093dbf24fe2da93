-- Gaps are told before the next request.
use Rattle.std.proofs.Common.{◌≡◌, ◌≢◌, ◌==◌, ℕ, Bool, List, [], ◌∷◌, ◌++◌, ap}
use Rattle.std.proofs.Common.{sym, ◌∙◌, if◌then◌else◌}
use Rattle.std.proofs.lemmas.Bool.{ne_eqb}
use Rattle.ft12.specs.Fronts.{front_of}
use Rattle.link.specs.Gaps.{gaps_at}
use Rattle.gateway.specs.Gaps.{gaps_reported}
use Rattle.gateway.specs.Log.{Log, Went, LineOut, GapOut}
use Rattle.gateway.specs.Reports.{Setup, exchanges_of}
use Rattle.gateway.specs.Traffic.{ActsRightly}
use Rattle.delivery.proofs.Exchanging.{here_is}
use Rattle.delivery.proofs.Replacing.{acts_before}

abbrev gaps_in : Setup → ℕ → Log → List ℕ
gaps_in p station log = gaps_at (front_of p.link.size) p.addresses station (exchanges_of p log)

module _ (p : Setup) (newer log : Log) (now station session : ℕ)
    (acts : ActsRightly p (newer ++ Went now (GapOut station session) ∷ log)) where
  abbrev next : (i : ℕ) → List ℕ
  next i = if station == i then gaps_reported i log ++ session ∷ [] else gaps_reported i log

  pub told : gaps_in p station log ≡ gaps_reported station log ++ session ∷ []
  told = sym ((acts_before p newer (Went now (GapOut station session) ∷ log) acts).0.may station)
      ∙ ap (λ (b : Bool). if b then gaps_reported station log ++ session
      ∷ [] else gaps_reported station log) (here_is station)

  pub others : (other : ℕ) → station ≢ other → gaps_in p other log ≡ gaps_reported other log
  others other apart =
      sym ((acts_before p newer (Went now (GapOut station session) ∷ log) acts).0.may other)
      ∙ ap (λ (b : Bool). if b then gaps_reported other log ++ session
      ∷ [] else gaps_reported other log) (ne_eqb station other apart)

pub asked : (p : Setup) (newer log : Log) (now : ℕ) (octets : List ℕ) (station : ℕ)
    → ActsRightly p (newer ++ Went now (LineOut octets) ∷ log)
    → gaps_in p station log ≡ gaps_reported station log
asked p newer log now octets station acts =
    sym ((acts_before p newer (Went now (LineOut octets) ∷ log) acts).0.may.logged station)
