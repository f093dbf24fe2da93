-- Objects in octets: what is spelled is read, and what was read is spelled again.
use Rattle.std.proofs.Common.{◌≡◌, ℕ, zero, suc, ◌+◌, ◌*◌, ◌^◌, ◌<◌, ◌≤◌, Bool, true, false, cond}
use Rattle.std.proofs.Common.{List, [], ◌∷◌, ◌++◌, length, take, drop, Option, Some, None, refl}
use Rattle.std.proofs.Common.{sym, ap, ◌∙◌, arith, append_assoc, length-append, length-drop}
use Rattle.std.specs.Prelude.{slice_index}
use Rattle.std.specs.List.{flat_map, AllByRecursion}
use Rattle.std.proofs.lemmas.List.{take_at, drop_at, drop-drop, take-append-drop, length-take-le}
use Rattle.std.proofs.lemmas.List.{get_or-drop}
use Rattle.std.proofs.Math.Seq.{take-add}
use Rattle.byteorder.specs.Endian.{little_bytes, little_number}
use Rattle.byteorder.specs.Numbers.{little_number-reads_back, length-bytes_low_first}
use Rattle.byteorder.specs.Numbers.{little_from-lt}
use Rattle.elements.specs.declared.types.TypeId.{TypeId}
use Rattle.elements.specs.Types.{row}
use Rattle.elements.specs.Octets.{AreOctets}
use Rattle.elements.specs.OctetLemmas.{little_bytes-little_number}
use Rattle.asdu.specs.Asdu.{Info, tag_len, content_len, tag_octets, content, located, IsTag, IsInfo}
use Rattle.asdu.specs.Asdu.{AreSuccessive}
use Rattle.asdu.specs.Fields.{tag_at, info_at, each_located, successive}

-- ---- Octets

pub AreOctets-drop : (n : ℕ) (xs : List ℕ) → AreOctets xs → AreOctets (drop n xs)
AreOctets-drop n xs all = λ i. rw get_or-drop (all (n + i))

pub AreOctets-take : (n : ℕ) (xs : List ℕ) → AreOctets xs → AreOctets (take n xs)
AreOctets-take zero xs all = λ i. omega arith
AreOctets-take (suc n) [] all = all
AreOctets-take (suc n) (x ∷ xs) all = λ i. elim i as (λ j. slice_index (x ∷ take n xs) j < 256)
    [ zero ↦ all 0 | suc j ↦ AreOctets-take n xs (λ k. all (suc k)) j ]

-- ---- What is spelled is read

pub length-tag : (b : Bool) (o : Option (List ℕ)) → IsTag b o → length (tag_octets o) ≡ cond b 7 0
length-tag true None h = absurd h
length-tag true (Some octets) h = h.0
length-tag false None h = refl
length-tag false (Some octets) h = absurd h

pub length-content : (t : TypeId) (w : ℕ) (i : Info) → IsInfo t w i → length (content i)
    ≡ content_len t
length-content t w i h =
    let both = length-append i.element (tag_octets i.tag) in
    let tag = length-tag (row t).tagged i.tag h.tag in
    omega (arith, h.size)

tag_again : (b : Bool) (o : Option (List ℕ)) (rest : List ℕ) → IsTag b o
    → tag_at b (tag_octets o ++ rest) ≡ o
tag_again true None rest h = absurd h
tag_again true (Some octets) rest h = ap (λ xs. Some xs) (take_at octets rest 7 h.0)
tag_again false None rest h = refl
tag_again false (Some octets) rest h = absurd h

info_again : (t : TypeId) (w : ℕ) (i : Info) (rest : List ℕ) → IsInfo t w i
    → info_at t i.address (content i ++ rest) ≡ i
info_again t w i rest h =
    let regroup = append_assoc i.element (tag_octets i.tag) rest in
    let element = take_at i.element (tag_octets i.tag ++ rest) (row t).size h.size in
    let after = drop_at i.element (tag_octets i.tag ++ rest) (row t).size h.size in
    let tag = tag_again (row t).tagged i.tag rest h.tag in
    rw (regroup, element, after, tag) refl

each_located-step : (t : TypeId) (w n : ℕ) (i : Info) (rest : List ℕ) → IsInfo t w i
    → each_located t w (suc n) (located w i ++ rest) ≡ i ∷ each_located t w n rest
each_located-step t w n i rest h =
    let address = little_bytes w i.address in
    let long : length address ≡ w = length-bytes_low_first 0 w i.address in
    let regroup : located w i ++ rest ≡ address ++ (content i ++ rest) =
    append_assoc address (content i) rest in
    let number : little_number w (address ++ (content i ++ rest)) ≡ i.address =
    little_number-reads_back w i.address (content i ++ rest) h.address in
    let after : drop w (address ++ (content i ++ rest)) ≡ content i ++ rest =
    drop_at address (content i ++ rest) w long in
    let last : drop (content_len t) (content i ++ rest) ≡ rest =
    drop_at (content i) rest (content_len t) (length-content t w i h) in
    let both : drop (w + content_len t) (address ++ (content i ++ rest)) ≡ rest =
    sym (drop-drop (content_len t) w (address ++ (content i ++ rest)))
    ∙ ap (drop (content_len t)) after ∙ last in
    let same = info_again t w i rest h in
    ap (each_located t w (suc n)) regroup ∙ rw (number, after, both, same) refl

pub each_located-again : (t : TypeId) (w : ℕ) (is : List Info) (rest : List ℕ)
    → AllByRecursion (IsInfo t w) is
    → each_located t w (length is) (flat_map (located w) is ++ rest) ≡ is
each_located-again t w [] rest h = refl
each_located-again t w (i ∷ is) rest h =
    let regroup = append_assoc (located w i) (flat_map (located w) is) rest in
    ap (each_located t w (suc (length is))) regroup
    ∙ each_located-step t w (length is) i (flat_map (located w) is ++ rest) h.0
    ∙ ap (λ js. i ∷ js) (each_located-again t w is rest h.1)

successive-step : (t : TypeId) (w n a : ℕ) (i : Info) (rest : List ℕ) → i.address ≡ a → IsInfo t w i
    → successive t a (suc n) (content i ++ rest) ≡ i ∷ successive t (suc a) n rest
successive-step t w n a i rest e h =
    let last : drop (content_len t) (content i ++ rest) ≡ rest =
    drop_at (content i) rest (content_len t) (length-content t w i h) in
    let same = info_again t w i rest h in
    rw (← e, last, same) refl

pub successive-again : (t : TypeId) (w a : ℕ) (is : List Info) (rest : List ℕ) → AreSuccessive a is
    → AllByRecursion (IsInfo t w) is → successive t a (length is) (flat_map content is ++ rest) ≡ is
successive-again t w a [] rest order h = refl
successive-again t w a (i ∷ is) rest order h =
    let regroup = append_assoc (content i) (flat_map content is) rest in
    ap (successive t a (suc (length is))) regroup
    ∙ successive-step t w (length is) a i (flat_map content is ++ rest) order.0 h.0
    ∙ ap (λ js. i ∷ js) (successive-again t w (suc a) is rest order.1 h.1)

-- ---- What was read is spelled again

IsTag-tag_at : (b : Bool) (xs : List ℕ) → cond b 7 0 ≤ length xs → AreOctets xs
    → IsTag b (tag_at b xs)
IsTag-tag_at true xs h all = (length-take-le 7 xs h, AreOctets-take 7 xs all)
IsTag-tag_at false xs h all = tt

tag_octets-tag_at : (b : Bool) (xs : List ℕ) → tag_octets (tag_at b xs) ≡ take (cond b 7 0) xs
tag_octets-tag_at true xs = refl
tag_octets-tag_at false xs = refl

pub IsInfo-info_at : (t : TypeId) (w a : ℕ) (xs : List ℕ) → a < 256 ^ w → content_len t ≤ length xs
    → AreOctets xs
    → IsInfo t w (info_at t a xs)
IsInfo-info_at t w a xs fits long all = record {
  address = fits;
  size = length-take-le (row t).size xs (omega arith);
  octets = AreOctets-take (row t).size xs all;
  tag = IsTag-tag_at (row t).tagged (drop (row t).size xs)
      (omega (arith, length-drop (row t).size xs))
      (AreOctets-drop (row t).size xs all);
}

pub content-info_at : (t : TypeId) (a : ℕ) (xs : List ℕ) → content (info_at t a xs)
    ≡ take (content_len t) xs
content-info_at t a xs =
    ap (λ ys. take (row t).size xs ++ ys) (tag_octets-tag_at (row t).tagged (drop (row t).size xs))
    ∙ sym (take-add (row t).size (tag_len t) xs)

pub located-info_at : (t : TypeId) (w : ℕ) (xs : List ℕ) → w ≤ length xs → AreOctets xs
    → located w (info_at t (little_number w xs) (drop w xs)) ≡ take (w + content_len t) xs
located-info_at t w xs long all =
    let number = little_bytes-little_number w xs long all in
    let rest = content-info_at t (little_number w xs) (drop w xs) in
    rw (number, rest) (sym (take-add w (content_len t) xs))

pub length-each_located : (t : TypeId) (w n : ℕ) (xs : List ℕ) → length (each_located t w n xs) ≡ n
length-each_located t w zero xs = refl
length-each_located t w (suc n) xs =
    ap (λ k. suc k) (length-each_located t w n (drop (w + content_len t) xs))

pub length-successive : (t : TypeId) (a n : ℕ) (xs : List ℕ) → length (successive t a n xs) ≡ n
length-successive t a zero xs = refl
length-successive t a (suc n) xs =
    ap (λ k. suc k) (length-successive t (suc a) n (drop (content_len t) xs))

pub flat_map-each_located : (t : TypeId) (w n : ℕ) (xs : List ℕ)
    → length xs ≡ n * (w + content_len t) → AreOctets xs
    → flat_map (located w) (each_located t w n xs) ≡ xs
flat_map-each_located t w zero [] long all = refl
flat_map-each_located t w zero (x ∷ xs) long all = absurd (omega arith)
flat_map-each_located t w (suc n) xs long all =
    let step = w + content_len t in
    let first = located-info_at t w xs (omega arith) all in
    let others = flat_map-each_located t w n (drop step xs) (omega (arith, length-drop step xs))
    (AreOctets-drop step xs all) in
    rw (first, others) (take-append-drop step xs)

pub flat_map-successive : (t : TypeId) (a n : ℕ) (xs : List ℕ) → length xs ≡ n * content_len t
    → flat_map content (successive t a n xs) ≡ xs
flat_map-successive t a zero [] long = refl
flat_map-successive t a zero (x ∷ xs) long = absurd (omega arith)
flat_map-successive t a (suc n) xs long =
    let step = content_len t in
    let first = content-info_at t a xs in
    let others = flat_map-successive t (suc a) n (drop step xs)
    (omega (arith, length-drop step xs)) in
    rw (first, others) (take-append-drop step xs)

pub AreInfos-each_located : (t : TypeId) (w n : ℕ) (xs : List ℕ) → n * (w + content_len t)
    ≤ length xs → AreOctets xs
    → AllByRecursion (IsInfo t w) (each_located t w n xs)
AreInfos-each_located t w zero xs long all = tt
AreInfos-each_located t w (suc n) xs long all =
    let step = w + content_len t in (
      IsInfo-info_at t w (little_number w xs) (drop w xs) (little_from-lt 0 w xs all)
          (omega (arith, length-drop w xs))
          (AreOctets-drop w xs all),
      AreInfos-each_located t w n (drop step xs) (omega (arith, length-drop step xs))
          (AreOctets-drop step xs all),
    )

pub AreInfos-successive : (t : TypeId) (w a n : ℕ) (xs : List ℕ) → a + n ≤ 256 ^ w
    → n * content_len t ≤ length xs
    → AreOctets xs → AllByRecursion (IsInfo t w) (successive t a n xs)
AreInfos-successive t w a zero xs fits long all = tt
AreInfos-successive t w a (suc n) xs fits long all =
    let step = content_len t in (
      IsInfo-info_at t w a xs (omega arith) (omega arith) all,
      AreInfos-successive t w (suc a) n (drop step xs) (omega arith)
          (omega (arith, length-drop step xs))
          (AreOctets-drop step xs all),
    )

pub AreSuccessive-successive : (t : TypeId) (a n : ℕ) (xs : List ℕ)
    → AreSuccessive a (successive t a n xs)
AreSuccessive-successive t a zero xs = tt
AreSuccessive-successive t a (suc n) xs =
    (refl, AreSuccessive-successive t (suc a) n (drop (content_len t) xs))
