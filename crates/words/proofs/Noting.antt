-- Events and actions that are described one after another.
use Rattle.std.proofs.Common.{◌≡◌, ℕ, ◌<◌, ◌≤◌, ◌-◌, Bool, not, List, [], ◌∷◌, ◌++◌, length, take}
use Rattle.std.proofs.Common.{drop, Option, refl, sym, subst, ap, ◌∙◌, append_assoc, arith}
use Rattle.std.proofs.lemmas.List.{append-nil, length-drop, take_all}
use Rattle.apci.specs.declared.apdu.Apdu.{Apdu}
use Rattle.apci.specs.declared.assembling.Received.{Received as ApduReceived}
use Rattle.ft12.specs.declared.assembling.Received.{Received as LineReceived}
use Rattle.words.specs.Rungs.{received_line}
use Rattle.words.specs.Ladders.{Adds, AreApdusReceived, AreFramesReceived}
use Rattle.words.specs.Ladders.{Listens}
use Rattle.words.specs.Ladders.{ListensTo, Remembered, apdu_received_line, no_more}
use Rattle.words.specs.Ladders.{no_more_apdus, one_more, one_more_apdu, still_awaited}
use Rattle.words.specs.declared.ladder.rungs.Style.{Style}

module _ (style : Style) (now : ℕ) (first : Remembered) (octets text : List ℕ) where
  -- so much of a piece of the line was described: what is said of the rest comes behind it
  pub record FramesTo (mind : Remembered) (left written : List ℕ) : Type 0 where
    pub so_far : List ℕ
    pub written_is : written ≡ text ++ so_far
    pub rest : (after : Remembered) (lines : List ℕ)
        → AreFramesReceived style now mind left after lines
        → AreFramesReceived style now first octets after (so_far ++ lines)

  pub frames_on : (mind next : Remembered) (left written later : List ℕ) (n : ℕ)
      (arrived : LineReceived)
      (is_late : Bool) (line : Option (List ℕ)) → FramesTo mind left written
      → is_late ≡ not mind.is_awaited
      → 0 < n → Listens mind.size mind.line left n arrived line
      → next ≡ record mind { line = line; is_awaited = still_awaited mind.is_awaited arrived }
      → later ≡ written ++ received_line style.sizes style.is_coloured is_late now n arrived
      → FramesTo next (drop n left) later
  frames_on mind next left written later n arrived is_late line h late some listens remembered
      added =
      let logged : List ℕ = received_line style.sizes style.is_coloured (not mind.is_awaited) now n
      arrived in
      record {
        so_far = h.so_far ++ logged;
        written_is = added
            ∙ ap (λ (b : Bool). written ++ received_line style.sizes style.is_coloured b now n
            arrived)
            late
            ∙ ap (λ (xs : List ℕ). xs ++ logged) h.written_is ∙ append_assoc text h.so_far logged;
        rest = λ after lines more.
            subst (λ (xs : List ℕ). AreFramesReceived style now first octets after xs)
            (sym (append_assoc h.so_far logged lines))
            (h.rest after (logged ++ lines) (one_more mind after left lines n arrived line some
            listens
            (subst (λ (m : Remembered). AreFramesReceived style now m (drop n left) after lines)
            remembered more)));
      }

  pub frames_end : (mind : Remembered) (left written : List ℕ) → FramesTo mind left written
      → left ≡ []
      → Adds (AreFramesReceived style now first octets mind) text written
  frames_end mind left written h none = (
    h.so_far,
    h.written_is,
    subst (λ (xs : List ℕ). AreFramesReceived style now first octets mind xs) (append-nil h.so_far)
        (h.rest mind [] (subst (λ (xs : List ℕ). AreFramesReceived style now mind xs mind [])
        (sym none) (no_more mind))),
  )

  -- the same of the connection
  pub record ApdusTo (mind : Remembered) (left written : List ℕ) : Type 0 where
    pub so_far : List ℕ
    pub written_is : written ≡ text ++ so_far
    pub rest : (after : Remembered) (lines : List ℕ)
        → AreApdusReceived style now mind left after lines
        → AreApdusReceived style now first octets after (so_far ++ lines)

  pub apdus_on : (mind next : Remembered) (left written later : List ℕ) (n : ℕ)
      (arrived : ApduReceived)
      (whole : Option Apdu) (line : Option (List ℕ)) → ApdusTo mind left written
      → 0 < n → ListensTo mind.centre left n arrived whole line
      → next ≡ record mind { centre = line }
      → later ≡ written ++ apdu_received_line style.is_coloured now n arrived whole
      → ApdusTo next (drop n left) later
  apdus_on mind next left written later n arrived whole line h some listens remembered added =
      let logged : List ℕ = apdu_received_line style.is_coloured now n arrived whole in
      record {
        so_far = h.so_far ++ logged;
        written_is = added ∙ ap (λ (xs : List ℕ). xs ++ logged) h.written_is
            ∙ append_assoc text h.so_far logged;
        rest = λ after lines more.
            subst (λ (xs : List ℕ). AreApdusReceived style now first octets after xs)
            (sym (append_assoc h.so_far logged lines))
            (h.rest after (logged ++ lines) (one_more_apdu mind after left lines n arrived whole
            line
            some listens
            (subst (λ (m : Remembered). AreApdusReceived style now m (drop n left) after lines)
            remembered more)));
      }

  pub apdus_end : (mind : Remembered) (left written : List ℕ) → ApdusTo mind left written
      → left ≡ []
      → Adds (AreApdusReceived style now first octets mind) text written
  apdus_end mind left written h none = (
    h.so_far,
    h.written_is,
    subst (λ (xs : List ℕ). AreApdusReceived style now first octets mind xs) (append-nil h.so_far)
        (h.rest mind [] (subst (λ (xs : List ℕ). AreApdusReceived style now mind xs mind [])
        (sym none)
        (no_more_apdus mind))),
  )

-- what is left behind so many octets
pub rest_is : (n : ℕ) (xs : List ℕ) → n ≤ length xs → take (length xs - n) (drop n xs) ≡ drop n xs
rest_is n xs within = take_all (length xs - n) (drop n xs) (omega (arith, length-drop n xs))

pub none_left : (xs : List ℕ) → length xs ≡ 0 → xs ≡ []
none_left [] e = refl
none_left (x ∷ xs) e = cc
