-- The answers to what is refused, octet by octet.
use Rattle.std.proofs.Common.{◌≡◌, ℕ, ◌+◌, ◌*◌, ◌/◌, ◌<◌, ◌≤◌, ◌%◌, ◌&&◌, ◌||◌, Bool, true}
use Rattle.std.proofs.Common.{false, List, [], ◌∷◌, ◌++◌, length, refl, sym, subst}
use Rattle.std.proofs.Common.{ap, ◌∙◌, arith, rules}
use Rattle.std.specs.Prelude.{◌==◌, Option, Some, None, if◌then◌else◌, nat_lt, option_map}
use Rattle.std.specs.Prelude.{slice_index, unwrap_or}
use Rattle.std.proofs.lemmas.Bool.{eq-eqb, ltb-true, ltb-false}
use Rattle.std.proofs.lemmas.Bool.{ne_eqb}
use Rattle.command.specs.Octets.{answer, refused_cause}
use Rattle.command.specs.Standard.{cause_of_fault}
use Rattle.command.specs.Standard.{negative_of}
use Rattle.command.specs.History.{History, Judged, Sent, Accepted, Refused, GivenUp}
use Rattle.command.specs.History.{Mirrored, Offered, Answered, Ended}
use Rattle.command.specs.History.{cause_given, on_line, next_for}
use Rattle.gateway.specs.Reports.{Setup}
use Rattle.delivery.specs.Refusing.{refused_octet, refused_as, StaysOnLine}
use Rattle.delivery.proofs.AnyPlace.{Answers, answers_then}

-- ---- octets

third : (why octet : ℕ) → octet < 256 → refused_cause why octet ≡ refused_octet why octet
third why octet fits = by (nat_lt octet 128) refl
  where
    by : (b : Bool) → nat_lt octet 128 ≡ b
        → octet / 128 * 128 + 64 + why ≡ (if b then 64 + why else 192 + why)
    by true e = (let less : octet < 128 = ltb-true octet 128 e in omega (arith, less))
    by false e = (let more : 128 ≤ octet = ltb-false octet 128 e in omega (arith, more, fits))

pub so_refused : (why : ℕ) (xs : List ℕ) → 3 ≤ length xs → slice_index xs 2 < 256
    → answer why xs ≡ refused_as why xs
so_refused why [] long fits = absurd (omega (arith, long))
so_refused why (kind ∷ []) long fits = absurd (omega (arith, long))
so_refused why (kind ∷ number ∷ []) long fits = absurd (omega (arith, long))
so_refused why (kind ∷ number ∷ octet ∷ rest) long fits =
    ap (λ (o : ℕ). kind ∷ number ∷ o ∷ rest) (third why octet fits)

pub negative_is : (xs : List ℕ) → slice_index xs 2 % 64 ≡ 6 → negative_of xs ≡ 7
negative_is xs e = ap (λ (b : Bool). if b then 7 else 9) (eq-eqb (slice_index xs 2 % 64) 6 e)

pub other_is : (xs : List ℕ) → slice_index xs 2 % 64 ≡ 8 → negative_of xs ≡ 9
other_is xs e = ap (λ (n : ℕ). if n == 6 then 7 else 9) e

module _ (p : Setup) where
  abbrev fault_of : Option ℕ → List ℕ → Option ℕ
  fault_of wall xs = cause_of_fault p.sizes p.stations p.max_age_ms wall xs

  module _ (history : History) (answers : Answers p history) (newer : History) where
    -- ---- an ASDU that isn't forwarded

    given : (older : History) (now : ℕ) (wall : Option ℕ) (xs a : List ℕ)
        → history ≡ newer ++ Judged now wall xs (Some a) ∷ older
        → a ≡ answer (cause_given p.sizes p.stations p.select_ms p.max_age_ms wall xs) xs
    given older now wall xs a is =
        (answers_then p newer (Judged now wall xs (Some a) ∷ older)
        (subst (Answers p) is answers)).0

    pub with_cause : (older : History) (now : ℕ) (wall : Option ℕ) (xs a : List ℕ) (why : ℕ)
        → history ≡ newer ++ Judged now wall xs (Some a) ∷ older
        → 3 ≤ length xs → slice_index xs 2 < 256
        → unwrap_or (fault_of wall xs) (negative_of xs) ≡ why → a ≡ refused_as why xs
    with_cause older now wall xs a why is long fits so =
        given older now wall xs a is ∙ ap (λ (n : ℕ). answer n xs) so ∙ so_refused why xs long fits

    pub with_fault : (older : History) (now : ℕ) (wall : Option ℕ) (xs a : List ℕ) (why : ℕ)
        → history ≡ newer ++ Judged now wall xs (Some a) ∷ older
        → 3 ≤ length xs → slice_index xs 2 < 256 → fault_of wall xs ≡ Some why
        → a ≡ refused_as why xs
    with_fault older now wall xs a why is long fits so =
        with_cause older now wall xs a why is long fits
        (ap (λ (o : Option ℕ). unwrap_or o (negative_of xs)) so)

    pub without_fault : (older : History) (now : ℕ) (wall : Option ℕ) (xs a : List ℕ) (why : ℕ)
        → history ≡ newer ++ Judged now wall xs (Some a) ∷ older
        → 3 ≤ length xs → slice_index xs 2 < 256 → fault_of wall xs ≡ None
        → negative_of xs ≡ why → a ≡ refused_as why xs
    without_fault older now wall xs a why is long fits none so =
        with_cause older now wall xs a why is long fits
        (ap (λ (o : Option ℕ). unwrap_or o (negative_of xs)) none ∙ so)

    -- one with a fault isn't forwarded
    pub answered : (older : History) (now : ℕ) (wall : Option ℕ) (xs : List ℕ)
        (a : Option (List ℕ)) (why : ℕ) → history ≡ newer ++ Judged now wall xs a ∷ older
        → 3 ≤ length xs → slice_index xs 2 < 256 → fault_of wall xs ≡ Some why
        → a ≡ Some (refused_as why xs)
    answered older now wall xs None why is long fits so = absurd (none (
        sym (answers_then p newer (Judged now wall xs None ∷ older)
        (subst (Answers p) is answers)).0
        ∙ so))
      where
        none : None ≡ Some why → ⊥
        none e = search (rules, e)
    answered older now wall xs (Some a) why is long fits so =
        ap (λ (x : List ℕ). Some x) (with_fault older now wall xs a why is long fits so)

    -- ---- a command that its station refused as busy

    left : (k j : ℕ) (o : Option (List ℕ)) → (k ≡ j → ⊥) → (if k == j then None else o) ≡ o
    left k j o apart = ap (λ (b : Bool). if b then None else o) (ne_eqb k j apart)

    stays : (k : ℕ) (octets : List ℕ) (older since : History) → StaysOnLine k since
        → on_line p.sizes p.stations p.select_ms p.max_age_ms k (since ++ Sent k octets ∷ older)
        ≡ next_for p.sizes p.stations p.select_ms p.max_age_ms k older
    stays k octets older [] s =
        ap (λ (b : Bool). if b
        then next_for p.sizes p.stations p.select_ms p.max_age_ms k older
        else on_line p.sizes p.stations p.select_ms p.max_age_ms k older) (eq-eqb k k refl)
    stays k octets older (Judged now wall xs a ∷ since) s = stays k octets older since s
    stays k octets older (Sent j other ∷ since) s =
        ap (λ (b : Bool). if b
        then next_for p.sizes p.stations p.select_ms p.max_age_ms k
        (since ++ Sent k octets ∷ older)
        else on_line p.sizes p.stations p.select_ms p.max_age_ms k
        (since ++ Sent k octets ∷ older)) (ne_eqb k j s.0)
        ∙ stays k octets older since s.1
    stays k octets older (Accepted j ∷ since) s =
        left k j (on_line p.sizes p.stations p.select_ms p.max_age_ms k
        (since ++ Sent k octets ∷ older)) s.0 ∙ stays k octets older since s.1
    stays k octets older (Refused j a ∷ since) s =
        left k j (on_line p.sizes p.stations p.select_ms p.max_age_ms k
        (since ++ Sent k octets ∷ older)) s.0 ∙ stays k octets older since s.1
    stays k octets older (GivenUp j was ∷ since) s =
        left k j (on_line p.sizes p.stations p.select_ms p.max_age_ms k
        (since ++ Sent k octets ∷ older)) s.0 ∙ stays k octets older since s.1
    stays k octets older (Mirrored now v ∷ since) s = stays k octets older since s
    stays k octets older (Offered other kept ∷ since) s = stays k octets older since s
    stays k octets older (Answered other ∷ since) s = stays k octets older since s
    stays k octets older (Ended ∷ since) s = absurd s

    pub busy : (since older : History) (k : ℕ) (octets xs : List ℕ) (a : Option (List ℕ)) (why : ℕ)
        → history ≡ newer ++ Refused k a ∷ (since ++ Sent k octets ∷ older)
        → StaysOnLine k since
        → next_for p.sizes p.stations p.select_ms p.max_age_ms k older ≡ Some xs
        → 3 ≤ length xs → slice_index xs 2 < 256 → negative_of xs ≡ why
        → a ≡ Some (refused_as why xs)
    busy since older k octets xs a why is line next long fits so =
        (answers_then p newer (Refused k a ∷ (since ++ Sent k octets ∷ older))
        (subst (Answers p) is answers)).0
        ∙ ap (λ (o : Option (List ℕ)). option_map (λ ys. answer (negative_of ys) ys) o)
        (stays k octets older since line ∙ next)
        ∙ ap (λ (n : ℕ). Some (answer n xs)) so
        ∙ ap (λ (x : List ℕ). Some x) (so_refused why xs long fits)

-- ---- a common address that no station has
