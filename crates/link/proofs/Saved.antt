-- What is said of a link by numbers reads back.
use Rattle.std.proofs.Common.{◌≡◌, ℕ, ◌<◌, ◌≤◌, ◌&&◌, nat_le, nat_lt, Bool, true, false, List, []}
use Rattle.std.proofs.Common.{◌∷◌, ◌++◌, take, drop, length, Option, Some, ◌+◌, append_assoc}
use Rattle.std.proofs.Common.{refl, sym, ap, ◌∙◌, arith}
use Rattle.std.specs.List.{All, list_all}
use Rattle.std.proofs.lemmas.List.Elements.{All-head, All-tail}
use Rattle.link.specs.Answers.{Service, Class1, Class2, Command}
use Rattle.link.specs.Procedure.{Link, Down, Available, Next, Held, Probed, Never, Once, Twice}
use Rattle.std.proofs.Common.{zero, suc}
use Rattle.std.specs.List.{AllByRecursion}
use Rattle.std.proofs.lemmas.List.{take_more, drop_more, take_all, drop_all}
use Rattle.link.specs.Turns.{StationState, station_at, no_station}
use Rattle.link.specs.Saved.{bit_number, bit_from, service_numbers, link_numbers, command_from}
use Rattle.link.specs.Saved.{command_service, service_from, held_with, held_from, held_of, held_as}
use Rattle.link.specs.Saved.{held_number, link_from, unsure_numbers, unsure_from}
use Rattle.link.specs.Saved.{FitsSavedCommand, FitsSavedService, FitsSavedLink, LinkReadsBack}
use Rattle.link.specs.Saved.{FitsSavedStation, flags_numbers, flags_from, station_by}
use Rattle.link.specs.Saved.{no_command_numbers, lines_of}

pub bit_back : (b : Bool) → bit_from (bit_number b) ≡ Some b
bit_back true = refl
bit_back false = refl

pub all_octets : (ns : List ℕ) → All (λ n. n < 256) ns → list_all (λ n. nat_lt n 256) ns ≡ true
all_octets [] all = refl
all_octets (n ∷ ns) all =
    let here : n < 256 = All-head (λ n. n < 256) n ns all in
    let rest = all_octets ns (All-tail (λ n. n < 256) n ns all) in
    grind (arith, here, rest)

pub command_back : (asdu : List ℕ) → FitsSavedCommand asdu → command_from asdu ≡ Some asdu
command_back asdu fits =
    let all = all_octets asdu fits.1 in
    let short : length asdu ≤ 12 = fits.0 in
    let both : (nat_le (length asdu) 12 && list_all (λ n. nat_lt n 256) asdu) ≡ true =
    grind (arith, all, short) in
    rw both refl

pub service_back : (service : Service) → FitsSavedService service
    → service_from (service_numbers service) ≡ Some service
service_back Class1 fits = refl
service_back Class2 fits = refl
service_back (Command asdu) fits = ap command_service (command_back asdu fits)

held_back : (spent : Bool) (probed : Probed) (fcb : Bool) (service : Service) (missed : ℕ)
    → missed < 65536 → FitsSavedService service
    → held_from spent probed (bit_number fcb ∷ missed ∷ service_numbers service)
    ≡ Some (Held fcb service (record { missed = missed; spent = spent; probed = probed }))
held_back spent probed fcb service missed lt fits =
    let on : nat_lt missed 65536 ≡ true = grind arith in
    rw (bit_back fcb, on) (ap (λ (s : Option Service). held_with spent probed fcb missed s)
    (service_back service fits))

kind_back : (spent : Bool) (probed : Probed) → held_of (held_number spent probed)
    ≡ Some (spent, probed)
kind_back false Never = refl
kind_back true Never = refl
kind_back false Once = refl
kind_back true Once = refl
kind_back false Twice = refl
kind_back true Twice = refl

as_held : (spent : Bool) (probed : Probed) (ns : List ℕ)
    → link_from (held_number spent probed ∷ ns) ≡ held_as (held_of (held_number spent probed)) ns
as_held false Never ns = refl
as_held true Never ns = refl
as_held false Once ns = refl
as_held true Once ns = refl
as_held false Twice ns = refl
as_held true Twice ns = refl

pub link_back : (link : Link) → FitsSavedLink link → LinkReadsBack link
link_back Down fits = refl
link_back Available fits = refl
link_back (Next true) fits = refl
link_back (Next false) fits = refl
link_back (Held fcb service silence) fits =
    let ns : List ℕ = bit_number fcb ∷ silence.missed ∷ service_numbers service in
    as_held silence.spent silence.probed ns
    ∙ ap (λ (how : Option (Bool × Probed)). held_as how ns)
    (kind_back silence.spent silence.probed)
    ∙ held_back silence.spent silence.probed fcb service silence.missed fits.0 fits.1

unsure_back : (unsure : Bool) → unsure_from (unsure_numbers unsure) ≡ Some unsure
unsure_back true = refl
unsure_back false = refl

bare_back : (s : StationState) → s.address < 65536
    → flags_from (flags_numbers s)
    ≡ Some (record {
      address = s.address;
      link = Down;
      acd = s.acd;
      dfc = s.dfc;
      session = s.session;
      unsure = s.unsure;
    })
bare_back s lt =
    let on : nat_lt s.address 65536 ≡ true = grind arith in
    rw (bit_back s.acd, bit_back s.dfc, bit_back s.session.has_gap, unsure_back s.unsure, on) refl

pub first_line : (s : StationState) (rest all behind : List (List ℕ)) (flags : List ℕ)
    → all ≡ flags_numbers s ∷ link_numbers s.link ∷ rest
    → all ≡ flags ∷ behind
    → (flags ≡ flags_numbers s) × (behind ≡ link_numbers s.link ∷ rest)
first_line s rest all behind flags e h = (cc, cc)

pub second_line : (s : StationState) (rest all behind : List (List ℕ)) (link : List ℕ)
    → all ≡ link_numbers s.link ∷ rest → all ≡ link ∷ behind
    → (link ≡ link_numbers s.link) × (behind ≡ rest)
second_line s rest all behind link e h = (cc, cc)

-- whatever it says
pub third_line : (rest all behind : List (List ℕ)) (third other : List ℕ) → all ≡ third ∷ rest
    → all ≡ other ∷ behind → behind ≡ rest
third_line rest all behind third other e h = cc

-- a fault at one of the first two is none
pub no_link : (s : StationState) (ns : List ℕ) (r : Option Link) → FitsSavedStation s
    → ns ≡ link_numbers s.link
    → r ≡ link_from ns → r ≡ Some s.link
no_link s ns r fits is e = e ∙ ap link_from is ∙ link_back s.link fits.link

pub no_bare : (s : StationState) (ns : List ℕ) (r : Option StationState) → FitsSavedStation s
    → ns ≡ flags_numbers s
    → r ≡ flags_from ns
    → r ≡ Some (record {
      address = s.address;
      link = Down;
      acd = s.acd;
      dfc = s.dfc;
      session = s.session;
      unsure = s.unsure;
    })
no_bare s ns r fits is e = e ∙ ap flags_from is ∙ bare_back s fits.address

-- what was read is the station
pub joined : (s bare : StationState) (link : Link) (a : Option StationState) (b : Option Link)
    → a ≡ Some (record {
      address = s.address;
      link = Down;
      acd = s.acd;
      dfc = s.dfc;
      session = s.session;
      unsure = s.unsure;
    })
    → b ≡ Some s.link → a ≡ Some bare → b ≡ Some link
    → station_by (Some bare) (Some link) ≡ Some s
joined s bare link a b ea eb fa fb =
    ap (λ (x : Option StationState). station_by x (Some link)) (sym fa ∙ ea)
    ∙ ap (λ (x : Option Link). station_by (Some (record {
      address = s.address;
      link = Down;
      acd = s.acd;
      dfc = s.dfc;
      session = s.session;
      unsure = s.unsure;
    })) x) (sym fb ∙ eb)

pub some_same : (t s : StationState) → Some t ≡ Some s → t ≡ s
some_same t s e = cc

pub lines_of-append : (ss ts : List StationState) → lines_of (ss ++ ts) ≡ lines_of ss ++ lines_of ts
lines_of-append [] ts = refl
lines_of-append (s ∷ ss) ts =
    ap (λ (l : List (List ℕ)). flags_numbers s ∷ link_numbers s.link ∷ no_command_numbers ∷ l)
    (lines_of-append ss ts)

pub put_one_more : (old new : List (List ℕ)) (ss : List StationState) (i : ℕ) (s : StationState)
    → (written : List (List ℕ)) → written ≡ old ++ lines_of (take i ss)
    → new ≡ written ++ lines_of (s ∷ [])
    → take (i + 1) ss ≡ take i ss ++ s ∷ [] → new ≡ old ++ lines_of (take (i + 1) ss)
put_one_more old new ss i s written e f g =
    f ∙ ap (λ (l : List (List ℕ)). l ++ lines_of (s ∷ [])) e
    ∙ append_assoc old (lines_of (take i ss)) (lines_of (s ∷ []))
    ∙ ap (λ (l : List (List ℕ)). old ++ l) (sym (lines_of-append (take i ss) (s ∷ []))
    ∙ ap lines_of (sym g))

-- the station at a place, and the lines from it on
pub fits_at : (ss : List StationState) (i : ℕ) → AllByRecursion FitsSavedStation ss → i < length ss
    → FitsSavedStation (station_at ss i)
fits_at [] i all lt = absurd (omega arith)
fits_at (s ∷ ss) zero all lt = all.0
fits_at (s ∷ ss) (suc i) all lt = fits_at ss i all.1 (omega arith)

pub lines_at : (ss : List StationState) (i : ℕ) (rest : List (List ℕ)) → i < length ss
    → lines_of (drop i ss) ++ rest
    ≡ flags_numbers (station_at ss i) ∷ link_numbers (station_at ss i).link
    ∷ no_command_numbers ∷ (lines_of (drop (i + 1) ss) ++ rest)
lines_at ss i rest lt = ap (λ (ts : List StationState). lines_of ts ++ rest)
    (drop_more ss i no_station lt)

-- one more is read
pub read_one_more : (ss : List StationState) (rest after : List (List ℕ)) (i : ℕ)
    (sofar : List StationState)
    (t : StationState) → i < length ss → sofar ≡ take i ss → t ≡ station_at ss i
    → after ≡ lines_of (drop (i + 1) ss) ++ rest
    → (sofar ++ t ∷ [] ≡ take (i + 1) ss) × (after ≡ lines_of (drop (i + 1) ss) ++ rest)
read_one_more ss rest after i sofar t lt is same e = (
  ap (λ (l : List StationState). l ++ t ∷ []) is
      ∙ ap (λ (x : StationState). take i ss ++ x ∷ []) same
      ∙ sym (take_more ss i no_station lt),
  e,
)

pub all_read : (ss : List StationState) (rest coming : List (List ℕ)) (sofar : List StationState)
    (i : ℕ)
    → length ss ≤ i → sofar ≡ take i ss → coming ≡ lines_of (drop i ss) ++ rest → (sofar ≡ ss)
    × (coming ≡ rest)
all_read ss rest coming sofar i le is e = (
  is ∙ take_all i ss le,
  e
      ∙ ap (λ (ts : List StationState). lines_of ts ++ rest) (drop_all i ss le),
)

pub all_push : (ss : List StationState) (s : StationState) → AllByRecursion FitsSavedStation ss
    → FitsSavedStation s
    → AllByRecursion FitsSavedStation (ss ++ s ∷ [])
all_push [] s all here = (here, all)
all_push (t ∷ ts) s all here = (all.0, all_push ts s all.1 here)
