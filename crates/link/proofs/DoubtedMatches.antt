-- Whether a station was restarted is no matter of the exchanges of its line.
use Rattle.std.proofs.Common.{ℕ, ◌<◌, List, Option, Some, None, sym, subst, ◌∙◌, map, refl}
use Rattle.ft12.specs.declared.frame.Front.{Front}
use Rattle.link.specs.Exchanges.{Exchanges}
use Rattle.link.specs.Procedure.{LinkSettings, Link, MaySend}
use Rattle.link.specs.Turns.{StationState}
use Rattle.link.specs.Primary.{Primary, Outstanding}
use Rattle.link.specs.Matching.{IsAllowed, flags_of}
use Rattle.link.specs.Carried.{station_doubted, doubted}
use Rattle.link.proofs.Matching.{SaysBy}
use Rattle.link.proofs.Fitting.{doubted_fits}
use Rattle.link.proofs.Doubting.{doubted_view, doubted_link, doubted_count}

allowed_so : (stations : List StationState) (turn : ℕ) (o : Option Outstanding)
    → IsAllowed stations turn o → IsAllowed (map station_doubted stations) turn o
allowed_so stations turn None may = tt
allowed_so stations turn (Some o) may =
    subst (λ (l : Link). MaySend l o.request) (sym (doubted_link stations turn)) may

pub doubted_says : (front : List ℕ → Front) (settings : LinkSettings) (addresses : List ℕ)
    (p : Primary) (e : Exchanges) → SaysBy front settings addresses p e
    → SaysBy front settings addresses (doubted p) e
doubted_says front settings addresses p e t = record {
  settings_are = t.settings_are;
  fits = record {
    turn = subst (λ (n : ℕ). p.turn < n) (sym (doubted_count p.stations)) t.fits.turn;
    stations = doubted_fits p.settings.size p.stations t.fits.stations;
    outstanding = t.fits.outstanding;
  };
  count = doubted_count p.stations ∙ t.count;
  address = λ i. doubted_view (λ (s : StationState). s.address) (λ s. refl) p.stations i
      ∙ t.address i;
  allowed = allowed_so p.stations p.turn p.outstanding t.allowed;
  current = t.current;
  keeps = t.keeps;
  links = λ i. t.links i ∙ sym (doubted_link p.stations i);
  flags = λ i. t.flags i ∙ sym (doubted_view flags_of (λ s. refl) p.stations i);
  sessions = λ i. t.sessions i
      ∙ sym (doubted_view (λ (s : StationState). s.session) (λ s. refl) p.stations i);
  spoilt = t.spoilt;
}
