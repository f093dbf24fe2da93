-- What is held fits the line, and stays so.
use Rattle.std.specs.Prelude.{slice_index_or}
use Rattle.std.proofs.Common.{◌≡◌, ℕ, suc, ◌<◌, ◌⊎◌, nat_lt, Bool, true, false, List, [], ◌∷◌, All}
use Rattle.std.proofs.Common.{map, length, slice_set, refl, sym, ap, subst, inl, inr}
use Rattle.std.proofs.Common.{if◌then◌else◌}
use Rattle.std.proofs.lemmas.List.{get_or-set_same, get_or-set_other, length-set}
use Rattle.std.proofs.lemmas.List.Elements.{All-head, All-tail, All-cons, All-nil}
use Rattle.std.proofs.lemmas.Bool.{cases_eq}
use Rattle.ft12.specs.declared.frame.LinkSize.{LinkSize}
use Rattle.link.specs.Answers.{Frame, Asked, Status, Reset, Counted}
use Rattle.link.specs.Answers.{Answer, Ready, Confirmed, Busy, Report, NoData, Unable}
use Rattle.link.specs.Procedure.{LinkSettings, Link, Down, Held, missed_so_far, after_answer}
use Rattle.link.specs.Procedure.{after_silence}
use Rattle.link.specs.Requests.{FitsAddress, FitsAsked}
use Rattle.link.specs.Turns.{StationState, station_at}
use Rattle.link.specs.Primary.{station_down, station_asked, station_answered, station_unanswered}
use Rattle.link.specs.Holding.{FitsLink, FitsStation}
use Rattle.link.specs.Procedure.{Available, Next, probed_so_far, is_kept, spent_silence}
use Rattle.link.specs.Procedure.{short_silence}
use Rattle.link.specs.Carried.{station_doubted}

abbrev pub FitStations : LinkSize → List StationState → Type 0
FitStations size stations = All (FitsStation size) stations

pub station_fits : (size : LinkSize) (stations : List StationState) (i : ℕ) → i < length stations
    → FitStations size stations → FitsStation size (station_at stations i)
station_fits size stations i within fits = fits i _ within

pub held_fits : (size : LinkSize) (stations : List StationState) (i : ℕ) (s : StationState)
    → i < length stations → FitStations size stations → s ≡ station_at stations i
    → FitsLink size s.link
held_fits size stations i s within fits is =
    subst (λ (t : StationState). FitsLink size t.link) (sym is)
    (station_fits size stations i within fits).link

-- one station is another
pub set_fits : (size : LinkSize) (stations : List StationState) (k : ℕ) (s : StationState)
    → k < length stations
    → FitStations size stations → FitsStation size s →
    FitStations size (slice_set stations k s)
set_fits size stations k s within fits fits_s i d more = go (cases_eq i k)
  where
    go : (i ≡ k) ⊎ (i ≡ k → ⊥) → FitsStation size (slice_index_or (slice_set stations k s) i d)
    go (inl here) =
        subst (λ (j : ℕ). FitsStation size (slice_index_or (slice_set stations k s) j d)) (sym here)
        (subst (λ (t : StationState). FitsStation size t)
        (sym (get_or-set_same stations k s d within)) fits_s)
    go (inr other) =
        subst (λ (t : StationState). FitsStation size t)
        (sym (get_or-set_other stations k i s d other))
        (fits i d (subst (λ (n : ℕ). i < n) (length-set stations k s) more))

-- all are down
pub down_fits : (size : LinkSize) (addresses : List ℕ) → All (FitsAddress size) addresses
    → FitStations size (map station_down addresses)
down_fits size [] fits = All-nil (FitsStation size)
down_fits size (a ∷ rest) fits =
    All-cons (FitsStation size) (station_down a) (map station_down rest)
    (record { address = All-head (FitsAddress size) a rest fits; link = tt })
    (down_fits size rest (All-tail (FitsAddress size) a rest fits))

pub asked_fits : (size : LinkSize) (s : StationState) (request : Asked) → FitsStation size s
    → FitsStation size (station_asked s request)
asked_fits size s request fits = record { address = fits.address; link = fits.link }

answer_fits : (size : LinkSize) (request : Asked) (answer : Answer) (link : Link)
    → FitsLink size link
    → FitsLink size (after_answer request answer link)
answer_fits size Status Ready Down fits = tt
answer_fits size Status Ready Available fits = tt
answer_fits size Status Ready (Next fcb) fits = tt
answer_fits size Status Ready (Held fcb service silence) fits = fits
answer_fits size Status Confirmed link fits = fits
answer_fits size Status Busy link fits = fits
answer_fits size Status (Report asdu) link fits = fits
answer_fits size Status NoData link fits = fits
answer_fits size Status Unable link fits = tt
answer_fits size Reset Ready link fits = fits
answer_fits size Reset Confirmed link fits = tt
answer_fits size Reset Busy link fits = fits
answer_fits size Reset (Report asdu) link fits = fits
answer_fits size Reset NoData link fits = fits
answer_fits size Reset Unable link fits = fits
answer_fits size (Counted fcb service) Ready link fits = tt
answer_fits size (Counted fcb service) Confirmed link fits = tt
answer_fits size (Counted fcb service) Busy link fits = tt
answer_fits size (Counted fcb service) (Report asdu) link fits = tt
answer_fits size (Counted fcb service) NoData link fits = tt
answer_fits size (Counted fcb service) Unable link fits = tt

pub answered_fits : (size : LinkSize) (s : StationState) (request : Asked) (frame : Frame)
    (answer : Answer)
    → FitsStation size s →
    FitsStation size (station_answered s request frame answer)
answered_fits size s request frame answer fits =
    record {
      address = fits.address;
      link = answer_fits size request answer s.link fits.link;
    }

silence_fits : (settings : LinkSettings) (size : LinkSize) (request : Asked) (link : Link)
    → FitsAsked size request → FitsLink size link
    → FitsLink size (after_silence settings request true link)
silence_fits settings size Status Down fits was = tt
silence_fits settings size Status Available fits was = tt
silence_fits settings size Status (Next fcb) fits was = tt
silence_fits settings size Status (Held fcb service silence) fits was = was
silence_fits settings size Reset link fits was = tt
silence_fits settings size (Counted fcb service) link fits was =
    go (nat_lt settings.retries (suc (missed_so_far link)))
    (is_kept settings (probed_so_far link))
  where
    go : (b hold : Bool)
        → FitsLink size (if b then (if hold then Held fcb service
        (spent_silence settings (probed_so_far link)) else Down)
        else Held fcb
        service (short_silence (suc (missed_so_far link)) (probed_so_far link)))
    go true true = fits
    go true false = tt
    go false hold = fits

pub unanswered_fits : (settings : LinkSettings) (size : LinkSize) (s : StationState)
    (request : Asked)
    → FitsAsked size request → FitsStation size s →
    FitsStation size (station_unanswered settings s request)
unanswered_fits settings size s request asked fits =
    record {
      address = fits.address;
      link = silence_fits settings size request s.link asked fits.link;
    }

pub length-down : (addresses : List ℕ) → length (map station_down addresses) ≡ length addresses
length-down [] = refl
length-down (a ∷ rest) = ap suc (length-down rest)

-- whether they were restarted is no matter of it
pub doubted_fits : (size : LinkSize) (stations : List StationState) → FitStations size stations
    → FitStations size (map station_doubted stations)
doubted_fits size [] fits = All-nil (FitsStation size)
doubted_fits size (s ∷ ss) fits =
    All-cons (FitsStation size) (station_doubted s) (map station_doubted ss)
    (record {
      address = (All-head (FitsStation size) s ss fits).address;
      link = (All-head (FitsStation size) s ss fits).link;
    })
    (doubted_fits size ss (All-tail (FitsStation size) s ss fits))
