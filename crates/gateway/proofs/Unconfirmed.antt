-- The sent frames that are not acknowledged, what the session keeps of them, and the pieces among
-- them.
use Rattle.std.proofs.Common.{suc, ◌%◌, add-zero, ◌≡◌, ℕ, ◌+◌, ◌≤◌, true, false, cond, List, []}
use Rattle.std.proofs.Common.{◌∷◌, ◌++◌, length, take, drop, refl, ap, sym, subst, ◌∙◌, arith}
use Rattle.std.proofs.lemmas.List.{map-append, drop-map, drop-drop, length-drop, length-append}
use Rattle.std.proofs.lemmas.List.{drop-append-le, append-nil}
use Rattle.session.specs.declared.kinds.Unacknowledged.{Unacknowledged}
use Rattle.session.specs.declared.kinds.FrameOrigin.TheVariants.{Queue as FromQueue, Own}
use Rattle.session.specs.Session.{is_from_queue, from_queue}
use Rattle.gateway.specs.Frames.{IsNumberedFrom, Sent}
use Rattle.gateway.specs.Objects.{has_objects}
use Rattle.gateway.proofs.Pieces.{flags_of, pieces_of-append, pieces_of-drop}
use Rattle.gateway.specs.Agrees.{pieces_of, Unconfirmed}

pub numbered_more : (n : ℕ) (fs : List Sent) (f : Sent) → f.ns ≡ (n + length fs) % 32768
    → IsNumberedFrom n fs
    → IsNumberedFrom n (fs ++ f ∷ [])
numbered_more n [] f h all = (h ∙ ap (λ k. k % 32768) (add-zero n), tt)
numbered_more n (g ∷ fs) f h all =
    let moved : n + suc (length fs) ≡ suc n + length fs = omega arith in
    (all.0, numbered_more (suc n) fs f (h ∙ ap (λ k. k % 32768) moved) all.1)

pub unconfirmed_more : (n more : ℕ) (sent : List Sent) (us : List Unacknowledged)
    (pieces : List (List ℕ))
    → more ≤ length us → Unconfirmed n sent us pieces → Unconfirmed (n + more) sent (drop more us)
    (drop (from_queue (take more us)) pieces)
unconfirmed_more n more sent us pieces le h = record {
  count = omega (arith, length-drop more us, h.count);
  kinds = sym (drop-map (λ u. is_from_queue u.kind) more us) ∙ ap (drop more) h.kinds
      ∙ drop-map (λ f. has_objects f.asdu) more (drop n sent)
      ∙ ap (flags_of) (drop-drop more n sent);
  pieces_are = ap (drop (from_queue (take more us))) h.pieces_are
      ∙ sym (pieces_of-drop more (drop n sent) us h.kinds)
      ∙ ap (pieces_of) (drop-drop more n sent);
}

sent_one : (n : ℕ) (sent : List Sent) (us : List Unacknowledged) (pieces : List (List ℕ)) (f : Sent)
    (u : Unacknowledged) → is_from_queue u.kind ≡ has_objects f.asdu → Unconfirmed n sent us pieces
    → Unconfirmed n (sent ++ f ∷ []) (us ++ u ∷ []) (pieces ++ pieces_of (f ∷ []))
sent_one n sent us pieces f u same h =
    let within : n ≤ length sent = omega (arith, h.count) in
    let left : drop n (sent ++ f ∷ []) ≡ drop n sent ++ f ∷ [] =
    drop-append-le n sent (f ∷ []) within in
    record {
      count = omega (arith, length-append us (u ∷ []), length-append sent (f ∷ []), h.count);
      kinds = map-append (λ u. is_from_queue u.kind) us (u ∷ [])
          ∙ ap (λ xs. xs ++ is_from_queue u.kind ∷ []) h.kinds
          ∙ ap (λ b. flags_of (drop n sent) ++ b ∷ []) same
          ∙ sym (ap (flags_of) left ∙ map-append (λ f. has_objects f.asdu) (drop n sent) (f ∷ []));
      pieces_are = ap (λ xs. xs ++ pieces_of (f ∷ [])) h.pieces_are
          ∙ sym (ap (pieces_of) left ∙ pieces_of-append (drop n sent) (f ∷ []));
    }

pub unconfirmed_piece : (n : ℕ) (sent : List Sent) (us : List Unacknowledged)
    (pieces : List (List ℕ)) (f : Sent)
    (u : Unacknowledged) → u.kind ≡ FromQueue → has_objects f.asdu ≡ true
    → Unconfirmed n sent us pieces
    → Unconfirmed n (sent ++ f ∷ []) (us ++ u ∷ []) (pieces ++ f.asdu ∷ [])
unconfirmed_piece n sent us pieces f u kind has h =
    subst (λ b. Unconfirmed n (sent ++ f ∷ []) (us ++ u ∷ []) (pieces ++ cond b (f.asdu ∷ []) []))
    has
    (sent_one n sent us pieces f u (ap is_from_queue kind ∙ sym has) h)

pub unconfirmed_own : (n : ℕ) (sent : List Sent) (us : List Unacknowledged) (pieces : List (List ℕ))
    (f : Sent)
    (u : Unacknowledged) → u.kind ≡ Own → has_objects f.asdu ≡ false → Unconfirmed n sent us pieces
    → Unconfirmed n (sent ++ f ∷ []) (us ++ u ∷ []) pieces
unconfirmed_own n sent us pieces f u kind none h =
    subst (Unconfirmed n (sent ++ f ∷ []) (us ++ u ∷ [])) (append-nil pieces)
    (subst (λ b. Unconfirmed n (sent ++ f ∷ []) (us ++ u ∷ []) (pieces ++ cond b (f.asdu ∷ []) []))
    none
    (sent_one n sent us pieces f u (ap is_from_queue kind ∙ sym none) h))
