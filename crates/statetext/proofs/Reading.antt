-- A text of writes is read from its beginning.
use Rattle.std.proofs.Common.{◌≡◌, ◌∙◌, ℕ, zero, suc, ◌+◌, ◌≤◌, true, false, List, []}
use Rattle.std.proofs.Common.{◌∷◌, ◌++◌, length, take, drop, refl, sym, ap, arith, append_assoc}
use Rattle.std.proofs.Common.{length-append}
use Rattle.std.proofs.lemmas.List.{append-nil, drop-drop, length-drop}
use Rattle.std.proofs.lemmas.List.Folds.{concat-append}
use Rattle.std.specs.List.{concat}
use Rattle.statetext.specs.Sealed.{end_in, front_in, is_damaged, is_damaged_in, seal_of}
use Rattle.statetext.specs.Sealed.{sealed_text, writes_by, writes_in}
use Rattle.statetext.specs.declared.seal.Front.{Front}
use Rattle.statetext.specs.declared.seal.Front.TheVariants as fronts
use Rattle.statetext.proofs.Sealing.{fits_in, n_length, seal_length, sealed_more}

-- What was read up to a place: the writes there are these, and what follows is read from there on.
pub record IsReadTo (head text lines : List ℕ) (end : ℕ) : Type 0 where
  pub done : List (List ℕ)
  pub fuel : ℕ
  pub enough : length (drop end text) ≤ fuel
  pub all : writes_in head text ≡ done ++ writes_by fuel head end (drop end text)
      (front_in head end (drop end text))
  pub says : lines ≡ concat done
  pub ends : end ≡ length (sealed_text head done)

pub none_read : (head text lines : List ℕ) → lines ≡ [] → IsReadTo head text lines 0
unfolding writes_in
none_read head text lines none = record {
  done = [];
  fuel = length text;
  enough = omega arith;
  all = refl;
  says = none;
  ends = refl;
}

module _ (head text lines : List ℕ) (end : ℕ) (read : IsReadTo head text lines end) where
  rest : List ℕ
  rest = drop end text

  by_front : {f g : Front} → f ≡ g → front_in head end (drop end text) ≡ f
      → writes_in head text ≡ read.done ++ writes_by read.fuel head end (drop end text) g
  by_front same is = read.all
      ∙ ap (λ (x : Front). read.done ++ writes_by read.fuel head end (drop end text) x) (is ∙ same)

  at_end : writes_in head text ≡ read.done → (f : Front) → front_in head end (drop end text) ≡ f
      → (lines ≡ concat (writes_in head text)) × (end ≡ end_in head text)
      × (is_damaged f ≡ is_damaged_in head text)
  at_end all f is =
      let ended : end ≡ end_in head text =
      read.ends ∙ ap (λ (w : List (List ℕ)). length (sealed_text head w)) (sym all) in (
        read.says ∙ ap concat (sym all),
        ended,
        ap is_damaged (sym is) ∙ ap (λ (n : ℕ). is_damaged (front_in head n (drop n text))) ended,
      )

  pub ends_torn : fronts.Torn ≡ front_in head end (drop end text)
      → (lines ≡ concat (writes_in head text)) × (end ≡ end_in head text)
      × (false ≡ is_damaged_in head text)
  ends_torn is = at_end (by_front refl (sym is) ∙ append-nil read.done) fronts.Torn (sym is)

  pub ends_damaged : fronts.Damaged ≡ front_in head end (drop end text)
      → (lines ≡ concat (writes_in head text)) × (end ≡ end_in head text)
      × (true ≡ is_damaged_in head text)
  ends_damaged is =
      at_end (by_front refl (sym is) ∙ append-nil read.done) fronts.Damaged (sym is)

  module _ (n : ℕ) (whole : fronts.Whole n ≡ front_in head end (drop end text)) where
    within : n + 27 ≤ length (drop end text)
    within = fits_in head end (drop end text) n (sym whole)

    pub n_within : end + (n + 27) ≤ length text
    n_within = omega (arith, within, length-drop end text)

    step : (fuel : ℕ) → length (drop end text) ≤ fuel
        → writes_in head text ≡ read.done ++ writes_by fuel head end (drop end text) (fronts.Whole n)
        → (lines' : List ℕ) → lines' ≡ lines ++ take n (drop end text)
        → IsReadTo head text lines' (end + (n + 27))
    step zero enough all lines' is = absurd (omega (arith, within, enough))
    step (suc fuel) enough all lines' is = record {
      done = read.done ++ take n (drop end text) ∷ [];
      fuel = fuel;
      enough = omega (
        arith,
        enough,
        within,
        length-drop end text,
        length-drop (end + (n + 27)) text,
      );
      all = all ∙ sym (append_assoc read.done (take n (drop end text) ∷ [])
          (writes_by fuel head (end + (n + 27)) (drop (n + 27) (drop end text))
          (front_in head (end + (n + 27)) (drop (n + 27) (drop end text)))))
          ∙ ap (λ (l : List ℕ). read.done ++ take n (drop end text) ∷ []
          ++ writes_by fuel head (end + (n + 27)) l (front_in head (end + (n + 27)) l))
          (drop-drop (n + 27) end text);
      says = is ∙ ap (λ (l : List ℕ). l ++ take n (drop end text)) read.says
          ∙ ap (λ (l : List ℕ). concat read.done ++ l) (sym (append-nil (take n (drop end text))))
          ∙ sym (concat-append read.done (take n (drop end text) ∷ []));
      ends = sym (ap length (sealed_more head read.done 0 (take n (drop end text)))
          ∙ count ∙ ap (λ (k : ℕ). k + (n + 27)) (sym read.ends));
    }
      where
        count : length (sealed_text head read.done ++ (take n (drop end text) ++ seal_of head
            (0 + length (sealed_text head read.done)) (take n (drop end text))))
            ≡ length (sealed_text head read.done) + (n + 27)
        count = omega (
          arith,
          length-append (sealed_text head read.done) (take n (drop end text) ++ seal_of head
              (0 + length (sealed_text head read.done)) (take n (drop end text))),
          length-append (take n (drop end text)) (seal_of head
              (0 + length (sealed_text head read.done)) (take n (drop end text))),
          seal_length head (0 + length (sealed_text head read.done)) (take n (drop end text)),
          n_length head end (drop end text) n (sym whole),
        )

    pub one_more : (lines' : List ℕ) → lines' ≡ lines ++ take n (drop end text)
        → IsReadTo head text lines' (end + (n + 27))
    one_more lines' is = step read.fuel read.enough (by_front refl (sym whole)) lines' is
