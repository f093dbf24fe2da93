-- What stands in a line that logs an event.
use Rattle.std.proofs.Common.{◌≡◌, ℕ, ◌+◌, ◌*◌, ◌-◌, nat_le, ◌&&◌, ◌==◌, Bool, true, false}
use Rattle.std.proofs.Common.{List, [], ◌∷◌, length, Option, Some, None, if◌then◌else◌, refl}
use Rattle.std.proofs.Common.{sym}
use Rattle.std.proofs.Common.{ap, subst, ◌∙◌}
use Rattle.std.proofs.lemmas.Bool.{and_parts, leb-true}
use Rattle.std.proofs.lemmas.Slice.Eq.{bytes_eq-Decides}
use Rattle.std.specs.Char.{is_ascii_digit}
use Rattle.std.specs.List.{slice_split, list_all}
use Rattle.std.specs.Prelude.{codes}
use Rattle.std.specs.Str.{bytes_eq}
use Rattle.hex.specs.Hex.{is_hex_digit}
use Rattle.std.proofs.lemmas.List.Sums.{list_all-from_AllPass}
use Rattle.hex.proofs.HexLemmas.{decode_of-ok}
use Rattle.traces.proofs.OctetLemmas.{are_octets}
use Rattle.traces.specs.Event.{Event, line, opening, received, cut, tick, wall, bare_event, bare_at}
use Rattle.traces.specs.Event.{octets_at, wall_at, valued_at, event_from, event_in}
use Rattle.traces.specs.Fields.{decimal_of, digits_after, octets_of}
use Rattle.traces.specs.Saying.{AreDigitsOf, AreHexOf, AreValuesOf, Says, letter_of, moment_in}
use Rattle.traces.specs.Trace.{is_skipped, logged}

-- ---- numbers and octets

after_digits : (n m : ℕ) (ds : List ℕ) → digits_after n ds ≡ Some m
    → list_all is_ascii_digit ds ≡ true
after_digits n m [] e = refl
after_digits n m (d ∷ ds) e =
    by (nat_le 48 d && nat_le d 57) refl e (after_digits (n * 10 + (d - 48)) m ds)
  where
    by : (b : Bool) → (nat_le 48 d && nat_le d 57) ≡ b
        → (if b then digits_after (n * 10 + (d - 48)) ds else None) ≡ Some m
        → (digits_after (n * 10 + (d - 48)) ds ≡ Some m → list_all is_ascii_digit ds ≡ true)
        → list_all is_ascii_digit (d ∷ ds) ≡ true
    by true is same rest = ap (λ (b : Bool). b && list_all is_ascii_digit ds) is ∙ rest same
    by false is same rest = cc

pub digits_are : (ds : List ℕ) (n : ℕ) → decimal_of ds ≡ Some n → AreDigitsOf ds n
digits_are ds n e = by (nat_le 1 (length ds) && nat_le (length ds) 15) refl e
  where
    by : (b : Bool) → (nat_le 1 (length ds) && nat_le (length ds) 15) ≡ b
        → (if b then digits_after 0 ds else None) ≡ Some n → AreDigitsOf ds n
    by true is same =
        let parts = and_parts (nat_le 1 (length ds)) (nat_le (length ds) 15) is in record {
          are = e;
          some = leb-true 1 (length ds) parts.0;
          most = leb-true (length ds) 15 parts.1;
          all = after_digits 0 n ds same;
        }
    by false is same = cc

pub hex_is : (text octets : List ℕ) → octets_of text ≡ Some octets → AreHexOf text octets
hex_is text octets e =
    let is = are_octets text octets e in
    let digits : list_all is_hex_digit text ≡ true =
    list_all-from_AllPass is_hex_digit text (decode_of-ok text octets is.decoded).1 in
    record { are = e; twice = is.twice; all = digits }

-- ---- letters

letter : (kind name : List ℕ) → bytes_eq kind name ≡ true → kind ≡ name
letter kind name e = (bytes_eq-Decides kind name).0 e

abbrev Bare : (kind : List ℕ) (now : ℕ) → Event → Type 0
Bare kind now event =
    (kind ≡ letter_of event) × (moment_in event ≡ now) × AreValuesOf event []

bare_of : (kind : List ℕ) (now : ℕ) (event : Event) → bare_event kind now ≡ Some event
    → Bare kind now event
bare_of kind now event e =
    first (bytes_eq kind (codes "T")) refl e
  where
    third : (b : Bool) → bytes_eq kind (codes "C") ≡ b
        → (if b then Some (cut now) else None) ≡ Some event → Bare kind now event
    third true is same =
        let one : cut now ≡ event = cc in
        subst (λ z. Bare kind now z) one (letter kind (codes "C") is, refl, refl)
    third false is same = cc

    second : (b : Bool) → bytes_eq kind (codes "O") ≡ b
        → (if b then Some (opening now)
        else if bytes_eq kind (codes "C") then Some (cut now) else None) ≡ Some event
        → Bare kind now event
    second true is same =
        let one : opening now ≡ event = cc in
        subst (λ z. Bare kind now z) one (letter kind (codes "O") is, refl, refl)
    second false is same = third (bytes_eq kind (codes "C")) refl same

    first : (b : Bool) → bytes_eq kind (codes "T") ≡ b
        → (if b then Some (tick now) else if bytes_eq kind (codes "O") then Some (opening now)
        else if bytes_eq kind (codes "C") then Some (cut now) else None) ≡ Some event
        → Bare kind now event
    first true is same =
        let one : tick now ≡ event = cc in
        subst (λ z. Bare kind now z) one (letter kind (codes "T") is, refl, refl)
    first false is same = second (bytes_eq kind (codes "O")) refl same

abbrev Valued : (kind text : List ℕ) (now : ℕ) → Event → Type 0
Valued kind text now event =
    (kind ≡ letter_of event) × (moment_in event ≡ now) × AreValuesOf event (text ∷ [])

octets_valued : (kind text : List ℕ) (now : ℕ) (o : Option (List ℕ)) (event : Event)
    → octets_of text ≡ o → octets_at (Some now) kind o ≡ Some event → Valued kind text now event
octets_valued kind text now None event at e = cc
octets_valued kind text now (Some octets) event at e = first (bytes_eq kind (codes "S")) refl e
  where
    hex : AreHexOf text octets
    hex = hex_is text octets at

    second : (b : Bool) → bytes_eq kind (codes "R") ≡ b
        → (if b then Some (received now octets) else None) ≡ Some event
        → Valued kind text now event
    second true is same =
        let one : received now octets ≡ event = cc in
        subst (λ z. Valued kind text now z) one
        (letter kind (codes "R") is, refl, (text, refl, hex))
    second false is same = cc

    first : (b : Bool) → bytes_eq kind (codes "S") ≡ b
        → (if b then Some (line now octets)
        else if bytes_eq kind (codes "R") then Some (received now octets) else None) ≡ Some event
        → Valued kind text now event
    first true is same =
        let one : line now octets ≡ event = cc in
        subst (λ z. Valued kind text now z) one
        (letter kind (codes "S") is, refl, (text, refl, hex))
    first false is same = second (bytes_eq kind (codes "R")) refl same

wall_valued : (kind text : List ℕ) (now : ℕ) (o : Option ℕ) (event : Event)
    → kind ≡ codes "W" → decimal_of text ≡ o → wall_at (Some now) o ≡ Some event
    → Valued kind text now event
wall_valued kind text now None event is at e = cc
wall_valued kind text now (Some number) event is at e =
    let one : wall now number ≡ event = cc in
    subst (λ z. Valued kind text now z) one (is, refl, (text, refl, digits_are text number at))

valued_of : (kind text : List ℕ) (now : ℕ) (event : Event)
    → valued_at (Some now) kind text ≡ Some event → Valued kind text now event
valued_of kind text now event e = by (bytes_eq kind (codes "W")) refl e
  where
    by : (b : Bool) → bytes_eq kind (codes "W") ≡ b
        → (if b then wall_at (Some now) (decimal_of text)
        else octets_at (Some now) kind (octets_of text)) ≡ Some event → Valued kind text now event
    by true is same =
        wall_valued kind text now (decimal_of text) event (letter kind (codes "W") is) refl same
    by false is same = octets_valued kind text now (octets_of text) event refl same

-- ---- fields

bare_says : (text moment kind : List ℕ) (o : Option ℕ) (event : Event)
    → slice_split (λ b. b == 32) text ≡ moment ∷ kind ∷ [] → decimal_of moment ≡ o
    → bare_at o kind ≡ Some event → Says text event
bare_says text moment kind None event fields at e = cc
bare_says text moment kind (Some now) event fields at e =
    let is = bare_of kind now event e in
    record {
      moment = moment;
      values = [];
      fields = fields ∙ ap (λ k. moment ∷ k ∷ []) is.0;
      digits = digits_are moment (moment_in event) (at ∙ ap Some (sym is.1));
      valued = is.2;
    }

no_moment : (kind text : List ℕ) (event : Event) → valued_at None kind text ≡ Some event → ⊥
no_moment kind text event e = by (bytes_eq kind (codes "W")) e
  where
    by : (b : Bool) → (if b then wall_at None (decimal_of text)
        else octets_at None kind (octets_of text)) ≡ Some event → ⊥
    by true same = cc
    by false same = cc

valued_says : (text moment kind value : List ℕ) (o : Option ℕ) (event : Event)
    → slice_split (λ b. b == 32) text ≡ moment ∷ kind ∷ value ∷ [] → decimal_of moment ≡ o
    → valued_at o kind value ≡ Some event → Says text event
valued_says text moment kind value None event fields at e = absurd (no_moment kind value event e)
valued_says text moment kind value (Some now) event fields at e =
    let is = valued_of kind value now event e in
    record {
      moment = moment;
      values = value ∷ [];
      fields = fields ∙ ap (λ k. moment ∷ k ∷ value ∷ []) is.0;
      digits = digits_are moment (moment_in event) (at ∙ ap Some (sym is.1));
      valued = is.2;
    }

fields_say : (text : List ℕ) (fs : List (List ℕ)) (event : Event)
    → slice_split (λ b. b == 32) text ≡ fs → event_from fs ≡ Some event → Says text event
fields_say text [] event at e = cc
fields_say text (moment ∷ []) event at e = cc
fields_say text (moment ∷ kind ∷ []) event at e =
    bare_says text moment kind (decimal_of moment) event at refl e
fields_say text (moment ∷ kind ∷ value ∷ []) event at e =
    valued_says text moment kind value (decimal_of moment) event at refl e
fields_say text (moment ∷ kind ∷ value ∷ other ∷ fs) event at e = cc

pub line_says : (text : List ℕ) (event : Event) → logged text ≡ Some event → Says text event
line_says text event e = by (is_skipped text) e
  where
    by : (b : Bool) → (if b then None else event_in text) ≡ Some event → Says text event
    by true same = cc
    by false same = fields_say text (slice_split (λ b. b == 32) text) event refl same
