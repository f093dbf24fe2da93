-- A station's answer with a tag has no object of the queue's, and is long enough.
use Rattle.std.proofs.Common.{◌≡◌, ℕ, ◌≤◌, ◌==◌, Bool, true, false, not, List, [], ◌∷◌, length}
use Rattle.std.proofs.Common.{refl, ap, sym, ◌∙◌, subst, arith, Option, Some, None}
use Rattle.std.specs.Prelude.{slice_index_or}
use Rattle.std.specs.List.{AllByRecursion}
use Rattle.std.proofs.lemmas.Bool.{and_parts}
use Rattle.elements.specs.declared.tag.Cp56.{Cp56}
use Rattle.elements.specs.declared.types.TypeId.{TypeId}
use Rattle.elements.specs.declared.types.TypeId.TheVariants.{CScNa1, CDcNa1, CRcNa1, CSeNa1, CSeNb1}
use Rattle.asdu.specs.declared.sizes.Sizes.{Sizes}
use Rattle.asdu.specs.Sizes.{tcp}
use Rattle.asdu.specs.Asdu.{AsduValue, Info, IsAsdu, body, spelled}
use Rattle.asdu.specs.InformationObjects.{InformationObject, value_objects, monitor_objects_of}
use Rattle.asdu.specs.InformationObjects.{is_passed_on, only_if}
use Rattle.asdu.specs.Tagging.{is_plain_command, tagged_type, tagged}
use Rattle.arrayvec.specs.ArrayVec.{ArrayVec}
use Rattle.asdu.specs.Writing.{with_infos}
use Rattle.asdu.specs.Translation.{IsPiece}
use Rattle.events.specs.Queue.{octets_of}
use Rattle.gateway.specs.Objects.{has_objects}
use Rattle.gateway.specs.Tags.{bears_tag, IsTaggedAs, IsTagged, AreTagged}

not_monitor : (k : TypeId) (cause : ℕ) → is_plain_command k ≡ true
    → is_passed_on (tagged_type k) cause ≡ false
not_monitor CScNa1 cause h = refl
not_monitor CDcNa1 cause h = refl
not_monitor CRcNa1 cause h = refl
not_monitor CSeNa1 cause h = refl
not_monitor CSeNb1 cause h = refl
not_monitor k cause h = cc

-- what `asdu` says of the objects that are passed on
abbrev pub MonitorLaw : Type 0
MonitorLaw = (s : Sizes) (u : AsduValue) (xs : List ℕ) → IsAsdu s u xs
    → monitor_objects_of s xs ≡ only_if (is_passed_on u.kind u.cause) (value_objects u)

unmonitored : MonitorLaw → (b : Bool) (tag : Cp56) (u : AsduValue) (x y : List ℕ) → bears_tag u ≡ b
    → IsTaggedAs b tag u x y → has_objects x ≡ false → has_objects y ≡ false
unmonitored law true tag u x y is h none =
    let plain : is_plain_command u.kind ≡ true =
    (and_parts (is_plain_command u.kind) (length u.infos == 1) is).0 in
    let objects : monitor_objects_of tcp y ≡ [] = law tcp (tagged tag.0 u) y h
    ∙ ap (λ b. only_if b (value_objects (tagged tag.0 u))) (not_monitor u.kind u.cause plain) in
    ap (λ (os : List InformationObject). not (length os == 0)) objects
unmonitored law false tag u x y is h none = ap has_objects h ∙ none

pub tagged_unmonitored : MonitorLaw → (tag : Option Cp56) (plain pieces : List (List ℕ))
    → AreTagged tag plain pieces
    → AllByRecursion (λ piece. has_objects piece ≡ false) plain
    → AllByRecursion (λ piece. has_objects piece ≡ false) pieces
tagged_unmonitored law None plain pieces h none =
    subst (AllByRecursion (λ piece. has_objects piece ≡ false))
    (sym h) none
tagged_unmonitored law (Some tag) [] pieces h none =
    subst (AllByRecursion (λ piece. has_objects piece ≡ false))
    (sym h) none
tagged_unmonitored law (Some tag) (x ∷ []) pieces h none =
    subst (AllByRecursion (λ piece. has_objects piece ≡ false)) (sym h.1)
    (unmonitored law (bears_tag h.2.0) tag h.2.0 x h.0 refl h.2.2 none.0, tt)
tagged_unmonitored law (Some tag) (x ∷ y ∷ plain) pieces h none =
    subst (AllByRecursion (λ piece. has_objects piece ≡ false)) (sym h) none

-- each piece is an ASDU
pub are_asdus : (v : AsduValue) (ps : List (ArrayVec ℕ))
    → AllByRecursion (λ p. IsPiece v p.items) ps
    → AllByRecursion (λ p. (u : AsduValue) × IsAsdu tcp u p.items) ps
are_asdus v [] h = tt
are_asdus v (p ∷ ps) h = ((with_infos v h.0.infos, h.0.spells), are_asdus v ps h.1)

-- an ASDU has nine octets
body_long : (sequence : Bool) (is : List Info) → 1 ≤ length is → 3 ≤ length (body 3 sequence is)
body_long false [] h = omega (arith, h)
body_long true [] h = omega (arith, h)
body_long false (i ∷ is) h = omega (arith)
body_long true (i ∷ is) h = omega (arith)

pub asdu_long : (u : AsduValue) (xs : List ℕ) → IsAsdu tcp u xs → 9 ≤ length xs
asdu_long u xs h = subst (λ ys. 9 ≤ length ys) (sym h.octets) (spelled_long u h.value.some)
  where
    spelled_long : (u : AsduValue) → 1 ≤ length u.infos → 9 ≤ length (spelled tcp u)
    spelled_long u h = omega (arith, body_long u.sequence u.infos h)

pub one_tagged : (tag : Cp56) (u : AsduValue) (x y : List ℕ) → bears_tag u ≡ true → IsAsdu tcp u x
    → IsAsdu tcp (tagged tag.0 u) y → IsTagged tag x y
one_tagged tag u x y is asdu h = (u, asdu, subst (λ b. IsTaggedAs b tag u x y) (sym is) h)

-- one piece is all of them
pub alone : (ps : List (ArrayVec ℕ)) (x : ArrayVec ℕ) → length ps ≡ 1 → x ≡ slice_index_or ps 0 x
    → ps ≡ x ∷ []
alone [] x n is = cc
alone (y ∷ []) x n is = ap (λ (z : ArrayVec ℕ). z ∷ []) (sym is)
alone (y ∷ z ∷ ps) x n is = let no : ⊥ = omega (arith, n) in absurd no

-- the piece that bears the tag, instead of the one without it
pub tagged_alone : (tag : Cp56) (ps qs : List (ArrayVec ℕ)) (x y : ArrayVec ℕ) (octets : List ℕ)
    → ps ≡ x ∷ []
    → octets ≡ x.items → qs ≡ y ∷ [] → AllByRecursion (λ p. (u : AsduValue) × IsAsdu tcp u p.items)
    ps →
    ((u : AsduValue) → IsAsdu tcp u octets → bears_tag u ≡ true)
    → ((u : AsduValue) → IsAsdu tcp u octets → IsAsdu tcp (tagged tag.0 u) y.items)
    → AreTagged (Some tag) (octets_of ps) (octets_of qs)
tagged_alone tag ps qs x y octets alone same made asdus bears tags =
    let first : (u : AsduValue) × IsAsdu tcp u x.items =
    (subst (AllByRecursion (λ p. (u : AsduValue) × IsAsdu tcp u p.items)) alone asdus).0 in
    let asdu : IsAsdu tcp first.0 octets = subst (λ xs. IsAsdu tcp first.0 xs) (sym same) first.1 in
    subst (λ xs. AreTagged (Some tag) (octets_of xs) (octets_of qs)) (sym alone)
    (subst (λ ys. AreTagged (Some tag) (octets_of (x ∷ [])) (octets_of ys)) (sym made) (
      y.items,
      refl,
      one_tagged tag first.0 x.items y.items (bears first.0 asdu) first.1 (tags first.0 asdu),
    ))

pub long_alone : (tag : Cp56) (ps qs : List (ArrayVec ℕ)) (x y : ArrayVec ℕ) (octets : List ℕ)
    → ps ≡ x ∷ []
    → octets ≡ x.items → qs ≡ y ∷ [] → AllByRecursion (λ p. (u : AsduValue) × IsAsdu tcp u p.items)
    ps →
    ((u : AsduValue) → IsAsdu tcp u octets → IsAsdu tcp (tagged tag.0 u) y.items) → length y.items
    ≤ 249
    → AllByRecursion (λ p. (9 ≤ length p.items) × (length p.items ≤ 249)) qs
long_alone tag ps qs x y octets alone same made asdus tags most =
    let first : (u : AsduValue) × IsAsdu tcp u x.items =
    (subst (AllByRecursion (λ p. (u : AsduValue) × IsAsdu tcp u p.items)) alone asdus).0 in
    let asdu : IsAsdu tcp first.0 octets = subst (λ xs. IsAsdu tcp first.0 xs) (sym same) first.1 in
    subst (AllByRecursion (λ p. (9 ≤ length p.items) × (length p.items ≤ 249))) (sym made)
    ((asdu_long (tagged tag.0 first.0) y.items (tags first.0 asdu), most), tt)
