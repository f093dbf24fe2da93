-- A command with a tag is spelled as the one without, but for its type and the tag.
use Rattle.std.proofs.Common.{◌≡◌, ℕ, ◌+◌, ◌-◌, ◌≤◌, Bool, true, false, cond, List, [], ◌∷◌, ◌++◌}
use Rattle.std.proofs.Common.{length, take, drop, map, Option, Some, None, refl, sym, ap, subst}
use Rattle.std.proofs.Common.{◌∙◌, arith, append_assoc, length-append}
use Rattle.std.specs.Prelude.{slice_index}
use Rattle.std.specs.List.{AllByRecursion}
use Rattle.std.proofs.lemmas.List.{append-nil, take_at}
use Rattle.byteorder.specs.Endian.{little_bytes}
use Rattle.elements.specs.declared.types.TypeId.{TypeId}
use Rattle.elements.specs.declared.types.TypeId.TheVariants.{MSpNa1, MDpNa1, MStNa1, MBoNa1, MMeNa1}
use Rattle.elements.specs.declared.types.TypeId.TheVariants.{MMeNb1, MMeNc1, MItNa1, MSpTb1, MDpTb1}
use Rattle.elements.specs.declared.types.TypeId.TheVariants.{MStTb1, MBoTb1, MMeTd1, MMeTe1, MMeTf1}
use Rattle.elements.specs.declared.types.TypeId.TheVariants.{MItTb1, MEiNa1, CScNa1, CDcNa1, CRcNa1}
use Rattle.elements.specs.declared.types.TypeId.TheVariants.{CSeNa1, CSeNb1, CIcNa1, CScTa1, CDcTa1}
use Rattle.elements.specs.declared.types.TypeId.TheVariants.{CRcTa1, CSeTa1, CSeTb1}
use Rattle.elements.specs.Types.{row}
use Rattle.elements.specs.Octets.{AreOctets}
use Rattle.asdu.specs.Sizes.{ca_len, ioa_len}
use Rattle.asdu.specs.declared.sizes.Sizes.{Sizes}
use Rattle.asdu.specs.Asdu.{Info, AsduValue, IsAsdu, IsInfo, IsTag, AreInOrder, content}
use Rattle.asdu.specs.Asdu.{located, body, vsq, spelled, tag_octets, originator_octets}
use Rattle.asdu.specs.Tagging.{is_tagged_command, is_plain_command, untagged_type, tagged_type}
use Rattle.asdu.specs.Tagging.{without_tag, untagged, with_tag, tagged}
use Rattle.asdu.proofs.ObjectLists.{length-tag}

-- a tagged command's type, and the one without a tag
pub record IsUntagged (k t : TypeId) : Type 0 where
  pub code : (row t).code + 13 ≡ (row k).code
  size : (row t).size ≡ (row k).size
  plain : (row t).tagged ≡ false
  tagged : (row k).tagged ≡ true

pub untagged_row : (k : TypeId) → is_tagged_command k ≡ true → IsUntagged k (untagged_type k)
untagged_row MSpNa1 is = cc
untagged_row MDpNa1 is = cc
untagged_row MStNa1 is = cc
untagged_row MBoNa1 is = cc
untagged_row MMeNa1 is = cc
untagged_row MMeNb1 is = cc
untagged_row MMeNc1 is = cc
untagged_row MItNa1 is = cc
untagged_row MSpTb1 is = cc
untagged_row MDpTb1 is = cc
untagged_row MStTb1 is = cc
untagged_row MBoTb1 is = cc
untagged_row MMeTd1 is = cc
untagged_row MMeTe1 is = cc
untagged_row MMeTf1 is = cc
untagged_row MItTb1 is = cc
untagged_row MEiNa1 is = cc
untagged_row CScNa1 is = cc
untagged_row CDcNa1 is = cc
untagged_row CRcNa1 is = cc
untagged_row CSeNa1 is = cc
untagged_row CSeNb1 is = cc
untagged_row CIcNa1 is = cc
untagged_row CScTa1 is = record { code = refl; size = refl; plain = refl; tagged = refl }
untagged_row CDcTa1 is = record { code = refl; size = refl; plain = refl; tagged = refl }
untagged_row CRcTa1 is = record { code = refl; size = refl; plain = refl; tagged = refl }
untagged_row CSeTa1 is = record { code = refl; size = refl; plain = refl; tagged = refl }
untagged_row CSeTb1 is = record { code = refl; size = refl; plain = refl; tagged = refl }

single : (is : List Info) → length is ≡ 1 → (i : Info) × (is ≡ i ∷ [])
single [] h = absurd (omega arith)
single (i ∷ []) h = (i, refl)
single (i ∷ j ∷ is) h = absurd (omega arith)

-- the text of one object
body-one : (w : ℕ) (b : Bool) (i : Info) → body w b (i ∷ [])
    ≡ (little_bytes w i.address ++ i.element)
    ++ tag_octets i.tag
body-one w false i = append-nil (located w i)
    ∙ sym (append_assoc (little_bytes w i.address) i.element (tag_octets i.tag))
body-one w true i =
    ap (λ ys. little_bytes w i.address ++ ys) (append-nil (content i))
    ∙ sym (append_assoc (little_bytes w i.address) i.element (tag_octets i.tag))

-- what stands between the type and the tag
abbrev inside : Sizes → AsduValue → Info → List ℕ
inside s v i =
    (vsq v.sequence 1 ∷ v.cause
    ∷ (originator_octets s.cause v.originator ++ little_bytes (ca_len s.ca) v.ca))
    ++ (little_bytes (ioa_len s.ioa) i.address ++ i.element)

spelled-one : (s : Sizes) (v : AsduValue) (i : Info) → v.infos ≡ i ∷ []
    → spelled s v ≡ (row v.kind).code ∷ (inside s v i ++ tag_octets i.tag)
spelled-one s v i e =
    let w = ioa_len s.ioa in
    let front = vsq v.sequence 1 ∷ v.cause ∷ (originator_octets s.cause v.originator
    ++ little_bytes (ca_len s.ca) v.ca) in
    rw (e, body-one w v.sequence i) (ap (λ ys. (row v.kind).code ∷ ys)
    (sym (append_assoc front (little_bytes w i.address ++ i.element) (tag_octets i.tag))))

AreInOrder-one : (b : Bool) (i : Info) → AreInOrder b (i ∷ [])
AreInOrder-one false i = tt
AreInOrder-one true i = (refl, tt)

IsTag-none : (b : Bool) → b ≡ false → IsTag b None
IsTag-none true e = cc
IsTag-none false e = tt

IsInfo-untagged : (k t : TypeId) (w : ℕ) (i : Info) → IsUntagged k t → IsInfo k w i
    → IsInfo t w (without_tag i)
IsInfo-untagged k t w i u h = record {
  address = h.address;
  size = h.size ∙ sym u.size;
  octets = h.octets;
  tag = IsTag-none (row t).tagged u.plain;
}

pub IsAsdu-untagged : (s : Sizes) (v : AsduValue) (xs out : List ℕ) → IsAsdu s v xs → length v.infos
    ≡ 1
    → is_tagged_command v.kind ≡ true → out ≡ (slice_index xs 0 - 13) ∷ take (length xs - 7 - 1)
    (drop 1 xs)
    → IsAsdu s (untagged v) out
IsAsdu-untagged s v xs out h one is text =
    let t = untagged_type v.kind in
    let o = single v.infos one in
    let i = o.0 in
    let u = untagged_row v.kind is in
    let w = ioa_len s.ioa in
    let P : List Info → Type 0 = λ is. AllByRecursion (IsInfo v.kind w) is in
    let info : IsInfo v.kind w i = (subst P o.1 h.value.infos).0 in
    let seven : length (tag_octets i.tag) ≡ 7 = length-tag (row v.kind).tagged i.tag info.tag
    ∙ ap (λ b. cond b 7 0) u.tagged in
    let code = (row v.kind).code in
    let line : xs ≡ code ∷ (inside s v i ++ tag_octets i.tag) = h.octets ∙ spelled-one s v i o.1 in
    let sum = length-append (inside s v i) (tag_octets i.tag) in
    let long : length (code ∷ (inside s v i ++ tag_octets i.tag)) - 7 - 1 ≡ length (inside s v i) =
    omega arith in
    let cut : take (length xs - 7 - 1) (drop 1 xs) ≡ inside s v i =
    ap (λ ys. take (length ys - 7 - 1) (drop 1 ys)) line
    ∙ ap (λ n. take n (inside s v i ++ tag_octets i.tag)) long
    ∙ take_at (inside s v i) (tag_octets i.tag) (length (inside s v i)) refl in
    let first : slice_index xs 0 - 13 ≡ (row t).code = ap (λ ys. slice_index ys 0 - 13) line
    ∙ omega (arith, u.code) in
    let infos : map without_tag v.infos ≡ without_tag i ∷ [] = ap (map without_tag) o.1 in
    let Q : List Info → Type 0 = λ is. AllByRecursion (IsInfo t w) is in
    let R : List Info → Type 0 = λ is. AreInOrder v.sequence is in
    let new = spelled-one s (untagged v) (without_tag i) infos in
    record {
      value = record {
        some = rw infos (omega arith);
        most = rw infos (omega arith);
        cause = h.value.cause;
        originator = h.value.originator;
        ca = h.value.ca;
        infos = subst Q (sym infos) (IsInfo-untagged v.kind t w i u info, tt);
        order = subst R (sym infos) (AreInOrder-one v.sequence (without_tag i));
      };
      octets =
          text ∙ ap (λ n. n ∷ take (length xs - 7 - 1) (drop 1 xs)) first
          ∙ ap (λ ys. (row t).code ∷ ys) (cut ∙ sym (append-nil (inside s v i)))
          ∙ sym new;
    }

-- ---- With a tag

-- a command's type, and the one with a tag
pub record IsTagged (k t : TypeId) : Type 0 where
  pub code : (row t).code ≡ (row k).code + 13
  size : (row t).size ≡ (row k).size
  tagged_one : (row t).tagged ≡ true
  plain_one : (row k).tagged ≡ false

pub tagged_row : (k : TypeId) → is_plain_command k ≡ true → IsTagged k (tagged_type k)
tagged_row MSpNa1 is = cc
tagged_row MDpNa1 is = cc
tagged_row MStNa1 is = cc
tagged_row MBoNa1 is = cc
tagged_row MMeNa1 is = cc
tagged_row MMeNb1 is = cc
tagged_row MMeNc1 is = cc
tagged_row MItNa1 is = cc
tagged_row MSpTb1 is = cc
tagged_row MDpTb1 is = cc
tagged_row MStTb1 is = cc
tagged_row MBoTb1 is = cc
tagged_row MMeTd1 is = cc
tagged_row MMeTe1 is = cc
tagged_row MMeTf1 is = cc
tagged_row MItTb1 is = cc
tagged_row MEiNa1 is = cc
tagged_row CScNa1 is = record { code = refl; size = refl; tagged_one = refl; plain_one = refl }
tagged_row CDcNa1 is = record { code = refl; size = refl; tagged_one = refl; plain_one = refl }
tagged_row CRcNa1 is = record { code = refl; size = refl; tagged_one = refl; plain_one = refl }
tagged_row CSeNa1 is = record { code = refl; size = refl; tagged_one = refl; plain_one = refl }
tagged_row CSeNb1 is = record { code = refl; size = refl; tagged_one = refl; plain_one = refl }
tagged_row CIcNa1 is = cc
tagged_row CScTa1 is = cc
tagged_row CDcTa1 is = cc
tagged_row CRcTa1 is = cc
tagged_row CSeTa1 is = cc
tagged_row CSeTb1 is = cc

IsTag-some : (b : Bool) (octets : List ℕ) → b ≡ true → length octets ≡ 7 → AreOctets octets
    → IsTag b (Some octets)
IsTag-some true octets e seven all = (seven, all)
IsTag-some false octets e seven all = cc

no_tag : (b : Bool) (o : Option (List ℕ)) → b ≡ false → IsTag b o → tag_octets o ≡ []
no_tag true o e h = cc
no_tag false None e h = refl
no_tag false (Some octets) e h = absurd h

pub IsAsdu-tagged : (s : Sizes) (v : AsduValue) (xs out octets : List ℕ) → IsAsdu s v xs
    → length v.infos ≡ 1
    → is_plain_command v.kind ≡ true → length octets ≡ 7 → AreOctets octets
    → out ≡ ((slice_index xs 0 + 13) ∷ drop 1 xs) ++ octets → IsAsdu s (tagged octets v) out
IsAsdu-tagged s v xs out octets h one is seven all text =
    let t = tagged_type v.kind in
    let o = single v.infos one in
    let i = o.0 in
    let u = tagged_row v.kind is in
    let w = ioa_len s.ioa in
    let P : List Info → Type 0 = λ is. AllByRecursion (IsInfo v.kind w) is in
    let info : IsInfo v.kind w i = (subst P o.1 h.value.infos).0 in
    let code = (row v.kind).code in
    let none = no_tag (row v.kind).tagged i.tag u.plain_one info.tag in
    let line : xs ≡ code ∷ inside s v i =
    h.octets ∙ spelled-one s v i o.1 ∙ ap (λ ys. code ∷ (inside s v i ++ ys)) none
    ∙ ap (λ ys. code ∷ ys) (append-nil (inside s v i)) in
    let first : slice_index xs 0 + 13 ≡ (row t).code = ap (λ ys. slice_index ys 0 + 13) line
    ∙ sym u.code in
    let infos : map (with_tag octets) v.infos ≡ with_tag octets i ∷ [] =
    ap (map (with_tag octets)) o.1 in
    let Q : List Info → Type 0 = λ is. AllByRecursion (IsInfo t w) is in
    let R : List Info → Type 0 = λ is. AreInOrder v.sequence is in
    let new = spelled-one s (tagged octets v) (with_tag octets i) infos in
    record {
      value = record {
        some = rw infos (omega arith);
        most = rw infos (omega arith);
        cause = h.value.cause;
        originator = h.value.originator;
        ca = h.value.ca;
        infos = subst Q (sym infos) (
          record {
            address = info.address;
            size = info.size ∙ sym u.size;
            octets =
                info.octets;
            tag = IsTag-some (row t).tagged octets u.tagged_one seven all;
          },
          tt,
        );
        order = subst R (sym infos) (AreInOrder-one v.sequence (with_tag octets i));
      };
      octets =
          text ∙ ap (λ n. (n ∷ drop 1 xs) ++ octets) first
          ∙ ap (λ ys. ((row t).code ∷ drop 1 ys) ++ octets) line
          ∙ sym new;
    }

-- ---- There and back

-- the type's octet is far from the last
pub plain_below : (k : TypeId) → is_plain_command k ≡ true → (row k).code ≤ 49
plain_below MSpNa1 is = cc
plain_below MDpNa1 is = cc
plain_below MStNa1 is = cc
plain_below MBoNa1 is = cc
plain_below MMeNa1 is = cc
plain_below MMeNb1 is = cc
plain_below MMeNc1 is = cc
plain_below MItNa1 is = cc
plain_below MSpTb1 is = cc
plain_below MDpTb1 is = cc
plain_below MStTb1 is = cc
plain_below MBoTb1 is = cc
plain_below MMeTd1 is = cc
plain_below MMeTe1 is = cc
plain_below MMeTf1 is = cc
plain_below MItTb1 is = cc
plain_below MEiNa1 is = cc
plain_below CScNa1 is = omega arith
plain_below CDcNa1 is = omega arith
plain_below CRcNa1 is = omega arith
plain_below CSeNa1 is = omega arith
plain_below CSeNb1 is = omega arith
plain_below CIcNa1 is = cc
plain_below CScTa1 is = cc
plain_below CDcTa1 is = cc
plain_below CRcTa1 is = cc
plain_below CSeTa1 is = cc
plain_below CSeTb1 is = cc
