-- `new` begins with what no exchanges say.
use Rattle.std.proofs.Common.{◌≡◌, ℕ, zero, suc, ◌<◌, slice_index, List, [], ◌∷◌, All, length, map}
use Rattle.std.proofs.Common.{refl, sym, subst}
use Rattle.ft12.specs.declared.frame.Front.{Front}
use Rattle.link.specs.Exchanges.{no_exchanges}
use Rattle.link.specs.Flags.{clear}
use Rattle.link.specs.Procedure.{LinkSettings, Down}
use Rattle.link.specs.Requests.{FitsAddress}
use Rattle.link.specs.Turns.{no_session, station_at}
use Rattle.link.specs.Primary.{start, station_down}
use Rattle.link.specs.Matching.{flags_of}
use Rattle.link.proofs.Fitting.{down_fits, length-down}
use Rattle.link.proofs.Matching.{SaysBy}

pub start_says : (front : List ℕ → Front) (settings : LinkSettings) (addresses : List ℕ)
    → 0 < length addresses
    → All (FitsAddress settings.size) addresses →
    SaysBy front settings addresses (start settings addresses) no_exchanges
start_says front settings addresses some fit = record {
  settings_are = refl;
  fits = record {
    turn = subst (λ (n : ℕ). 0 < n) (sym (length-down addresses)) some;
    stations =
        down_fits settings.size addresses fit;
    outstanding = tt;
  };
  count = length-down addresses;
  address = address addresses;
  allowed = tt;
  current = tt;
  keeps = λ i. tt;
  links = λ i. sym (link addresses i);
  flags = λ i. sym (flags addresses i);
  sessions = λ i. sym (sessions addresses i);
  spoilt = refl;
}
  where
    link : (list : List ℕ) (i : ℕ) → (station_at (map station_down list) i).link ≡ Down
    link [] i = refl
    link (a ∷ rest) zero = refl
    link (a ∷ rest) (suc i) = link rest i

    address : (list : List ℕ) (i : ℕ) → (station_at (map station_down list) i).address
        ≡ slice_index list i
    address [] i = refl
    address (a ∷ rest) zero = refl
    address (a ∷ rest) (suc i) = address rest i

    flags : (list : List ℕ) (i : ℕ) → flags_of (station_at (map station_down list) i) ≡ clear
    flags [] i = refl
    flags (a ∷ rest) zero = refl
    flags (a ∷ rest) (suc i) = flags rest i

    sessions : (list : List ℕ) (i : ℕ) → (station_at (map station_down list) i).session ≡ no_session
    sessions [] i = refl
    sessions (a ∷ rest) zero = refl
    sessions (a ∷ rest) (suc i) = sessions rest i
