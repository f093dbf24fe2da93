-- The addresses of the words so far.
use Rattle.std.proofs.Common.{◌≡◌, ℕ, zero, suc, ◌+◌, ◌<◌, List, [], ◌∷◌, ◌++◌, map, take, get_or}
use Rattle.std.proofs.Common.{length, Option, option_map, Some, refl, sym, ap, subst, ◌∙◌, arith}
use Rattle.std.proofs.lemmas.List.{take_more}
use Rattle.std.proofs.lemmas.List.Elements.{Contains-get_or}
use Rattle.std.specs.Borrow.{Bor}
use Rattle.std.specs.List.{Contains}
use Rattle.std.specs.declared.net.ip_addr.IpAddr.{IpAddr}
use Rattle.clap.specs.Words.{Text}
use Rattle.telegate.specs.AllowLists.{AreAddresses, IsAllowListFault, Writes, WritesNone}
use Rattle.telegate.specs.declared.fault.Fault.TheVariants.{Address}

-- one more word, with its address
one_more : (words : List Text) (addresses : List IpAddr) (word : Text) (address : IpAddr)
    → AreAddresses words addresses → Writes word address →
    AreAddresses (words ++ word ∷ []) (addresses ++ address ∷ [])
one_more [] [] word address so_far writes = (writes, tt)
one_more [] (a ∷ addresses) word address so_far writes = absurd so_far
one_more (w ∷ words) [] word address so_far writes = absurd so_far
one_more (w ∷ words) (a ∷ addresses) word address so_far writes =
    (so_far.0, one_more words addresses word address so_far.1 writes)

module _ {A : Type 0} (text : A → Text) where
  texts_more : (words : List A) (word : A) → map text (words ++ word ∷ [])
      ≡ map text words ++ text word ∷ []
  texts_more [] word = refl
  texts_more (w ∷ words) word = ap (λ (ts : List Text). text w ∷ ts) (texts_more words word)

  texts_length : (words : List A) → length (map text words) ≡ length words
  texts_length [] = refl
  texts_length (w ∷ words) = omega (arith, texts_length words)

  text_at : (words : List A) (i : ℕ) (d : A) → get_or (map text words) i (text d)
      ≡ text (get_or words i d)
  text_at [] i d = refl
  text_at (w ∷ words) zero d = refl
  text_at (w ∷ words) (suc i) d = text_at words i d

  pub more : (words : List A) (i : ℕ) (d : A) (addresses : List IpAddr) (address : IpAddr)
      → i < length words →
      AreAddresses (map text (take i words)) addresses → Writes (text (get_or words i d)) address →
      AreAddresses (map text (take (i + 1) words)) (addresses ++ address ∷ [])
  more words i d addresses address within so_far writes =
      let P : List Text → Type 0 = λ ts. AreAddresses ts (addresses ++ address ∷ []) in
      subst P (sym (ap (λ (ws : List A). map text ws) (take_more words i d within)
      ∙ texts_more (take i words) (get_or words i d)))
      (one_more (map text (take i words)) addresses (text (get_or words i d)) address so_far writes)

  among : (words : List A) (i : ℕ) (d : A) → i < length words
      → Contains (map text words) (text (get_or words i d))
  among words i d within =
      let P : Text → Type 0 = λ word. Contains (map text words) word in
      subst P (text_at words i d) (Contains-get_or (map text words) i (text d)
      (omega (arith, within, texts_length words)))

  -- a word that writes no address
  pub refused : (given : Option (Bor (List A))) (words : Bor (List A)) (i : ℕ) (d : A)
      → given ≡ Some words → i < length words.now →
      WritesNone (text (get_or words.now i d))
      → IsAllowListFault (option_map (λ ws. map text ws.now) given) Address
  refused given words i d is within none =
      let P : Option (Bor (List A))
      → Type 0 = λ g. IsAllowListFault (option_map (λ ws. map text ws.now) g) Address in
      subst P (sym is) (text (get_or words.now i d), (among words.now i d within, none))
