-- The frames of a piece, put one after another.
use Rattle.std.proofs.Common.{◌≡◌, ℕ, zero, suc, ◌+◌, ◌-◌, ◌≤◌, Bool, false, List, [], ◌∷◌, ◌++◌}
use Rattle.std.proofs.Common.{length, take, drop, refl, sym, ap, ◌∙◌, subst, arith}
use Rattle.std.proofs.lemmas.List.{append_assoc, append-nil, length-drop, drop-drop, flat_map_more}
use Rattle.ft12.specs.Fronts.{front_of}
use Rattle.ft12.specs.declared.frame.Frame.{Frame}
use Rattle.ft12.specs.declared.frame.Front.{Front}
use Rattle.ft12.specs.declared.frame.Front.TheVariants.{Whole, More, Never}
use Rattle.ft12.specs.declared.frame.LinkSize.{LinkSize}
use Rattle.record.specs.Wires.{Cut, Serial, answer, answers, before, cut_at, cut_up_to, cut_of}
use Rattle.record.specs.Wires.{serial_block, serial_blocks, still_awaited}

-- these frames before those of a cut
abbrev pub behind : List (List ℕ) → Cut → Cut
behind frames cut = record cut { frames = frames ++ cut.frames }

-- Of these octets some frames were put; the octets from this place on are still to be cut.
pub record IsSoFar (size : LinkSize) (octets : List ℕ) (end micros : ℕ) (was_awaited : Bool)
    (first page : List ℕ) (is_awaited : Bool) : Type 0 where
  pub frames : List (List ℕ)
  pub most : ℕ
  pub within : end ≤ length octets
  pub enough : length (drop end octets) ≤ most
  pub cut : cut_of size octets ≡ behind frames (cut_up_to most size (drop end octets))
  pub put : page ≡ first ++ serial_blocks micros (answers was_awaited frames)
  pub awaited : is_awaited ≡ still_awaited was_awaited frames

pub none_yet : (size : LinkSize) (octets : List ℕ) (micros : ℕ) (was_awaited : Bool)
    (first : List ℕ) → IsSoFar size octets 0 micros was_awaited first first was_awaited
none_yet size octets micros was_awaited first = record {
  frames = [];
  most = length octets;
  within = omega arith;
  enough = omega arith;
  cut = refl;
  put = sym (append-nil first);
  awaited = refl;
}

-- one more answer behind others
answers-more : (was : Bool) (frames : List (List ℕ)) (frame : List ℕ) →
    answers was (frames ++ frame ∷ [])
    ≡ answers was frames ++ answer (still_awaited was frames) frame ∷ []
answers-more was [] frame = refl
answers-more was (x ∷ []) frame = refl
answers-more was (x ∷ y ∷ xs) frame =
    ap (λ ys. answer was x ∷ ys) (answers-more false (y ∷ xs) frame)

awaited-more : (was : Bool) (frames : List (List ℕ)) (frame : List ℕ) →
    false ≡ still_awaited was (frames ++ frame ∷ [])
awaited-more was [] frame = refl
awaited-more was (x ∷ xs) frame = refl

-- a frame stands at the front
cut_more : (most : ℕ) (size : LinkSize) (xs : List ℕ) (frame : Frame) (len : ℕ) →
    front_of size xs ≡ Whole frame len →
    cut_up_to (suc most) size xs ≡ before (take len xs) (cut_up_to most size (drop len xs))
cut_more most size xs frame len h = ap (λ (f : Front). cut_at f xs (cut_up_to most size)) h

behind_more : (frames : List (List ℕ)) (frame : List ℕ) (cut : Cut) →
    behind frames (before frame cut) ≡ behind (frames ++ frame ∷ []) cut
behind_more frames frame cut =
    ap (λ (fs : List (List ℕ)). record cut { frames = fs })
    (sym (append_assoc frames (frame ∷ []) cut.frames))

-- it is put
pub one_more : (size : LinkSize) (octets : List ℕ) (end micros : ℕ) (was : Bool)
    (first page page' : List ℕ) (is : Bool) (frame : Frame) (len : ℕ) →
    IsSoFar size octets end micros was first page is →
    front_of size (drop end octets) ≡ Whole frame len → 1 ≤ len →
    len ≤ length (drop end octets) →
    page' ≡ page ++ serial_block micros (answer is (take len (drop end octets))) →
    IsSoFar size octets (end + len) micros was first page' false
one_more size octets end micros was first page page' is frame len s whole some within put =
    let xs = drop end octets in
    let one : List ℕ = take len xs in
    let left : drop len xs ≡ drop (end + len) octets = drop-drop len end octets in
    let shorter = length-drop len xs in
    let all = length-drop end octets in
    let e : s.most ≡ suc (s.most - 1) = omega arith in
    record {
      frames = s.frames ++ one ∷ [];
      most = s.most - 1;
      within = omega arith;
      enough = subst (λ (ys : List ℕ). length ys ≤ s.most - 1) left (omega arith);
      cut = s.cut
          ∙ (ap (λ (m : ℕ). behind s.frames (cut_up_to m size xs)) e
          ∙ (ap (λ (k : Cut). behind s.frames k) (cut_more (s.most - 1) size xs frame len whole)
          ∙ (behind_more s.frames one (cut_up_to (s.most - 1) size (drop len xs))
          ∙ ap (λ (ys : List ℕ). behind (s.frames ++ one ∷ []) (cut_up_to (s.most - 1) size ys))
          left)));
      put = put
          ∙ (ap (λ (p : List ℕ). p ++ serial_block micros (answer is one)) s.put
          ∙ (flat_map_more (serial_block micros) first (answers was s.frames) (answer is one)
          ∙ ap (λ (ys : List Serial). first ++ serial_blocks micros ys)
          (ap (λ (a : Bool). answers was s.frames ++ answer a one ∷ []) s.awaited
          ∙ sym (answers-more was s.frames one))));
      awaited = awaited-more was s.frames one;
    }

stops_at : (f : Front) (xs : List ℕ) (next : List ℕ → Cut) →
    ((frame : Frame) (n : ℕ) → f ≡ Whole frame n → ⊥) →
    cut_at f xs next ≡ record { frames = []; rest = xs }
stops_at (Whole frame n) xs next h = absurd (h frame n refl)
stops_at More xs next h = refl
stops_at (Never place why) xs next h = refl

stops : (most : ℕ) (size : LinkSize) (xs : List ℕ) →
    ((frame : Frame) (n : ℕ) → front_of size xs ≡ Whole frame n → ⊥) →
    cut_up_to most size xs ≡ record { frames = []; rest = xs }
stops zero size xs h = refl
stops (suc most) size xs h = stops_at (front_of size xs) xs (cut_up_to most size) h

-- no frame stands at the front any more
pub all_cut : (size : LinkSize) (octets : List ℕ) (end micros : ℕ) (was : Bool)
    (first page : List ℕ) (is : Bool) →
    (s : IsSoFar size octets end micros was first page is) →
    ((frame : Frame) (n : ℕ) → front_of size (drop end octets) ≡ Whole frame n → ⊥) →
    cut_of size octets ≡ record { frames = s.frames; rest = drop end octets }
all_cut size octets end micros was first page is s h =
    s.cut ∙ (ap (λ (k : Cut). behind s.frames k) (stops s.most size (drop end octets) h)
    ∙ ap (λ (fs : List (List ℕ)). record { frames = fs; rest = drop end octets })
    (append-nil s.frames))

-- what the loop leaves is what the function promises
pub record ArePut (size : LinkSize) (octets : List ℕ) (end micros : ℕ) (was : Bool)
    (first page : List ℕ) (is : Bool) : Type 0 where
  pub put : page ≡ first ++ serial_blocks micros (answers was (cut_of size octets).frames)
  pub rest : drop end octets ≡ (cut_of size octets).rest
  pub within : end ≤ length octets
  pub awaited : is ≡ still_awaited was (cut_of size octets).frames

pub all_put : (size : LinkSize) (octets : List ℕ) (end micros : ℕ) (was : Bool)
    (first page : List ℕ) (is : Bool) → IsSoFar size octets end micros was first page is →
    ((frame : Frame) (n : ℕ) → front_of size (drop end octets) ≡ Whole frame n → ⊥) →
    ArePut size octets end micros was first page is
all_put size octets end micros was first page is s h =
    let done = all_cut size octets end micros was first page is s h in
    record {
      put = s.put
          ∙ ap (λ (k : Cut). first ++ serial_blocks micros (answers was k.frames)) (sym done);
      rest = ap (λ (k : Cut). k.rest) (sym done);
      within = s.within;
      awaited = s.awaited ∙ ap (λ (k : Cut). still_awaited was k.frames) (sym done);
    }
