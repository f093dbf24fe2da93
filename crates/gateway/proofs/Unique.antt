-- The octets of a connection have one reading.
use Rattle.std.proofs.Common.{false, ◌≡◌, ℕ, List, [], ◌∷◌, ◌++◌, length, take, refl, ap, sym, ◌∙◌}
use Rattle.std.proofs.Common.{subst, arith, Option, Some, None, inl, inr, append_assoc}
use Rattle.std.proofs.Common.{length-append}
use Rattle.std.specs.Prelude.{◌⊎◌}
use Rattle.std.proofs.lemmas.List.{append-nil, take_at}
use Rattle.apci.specs.declared.apdu.Apdu.{Apdu}
use Rattle.apci.specs.declared.apdu.Front.{Front}
use Rattle.apci.specs.declared.apdu.Front.TheVariants.{Whole, More, Never}
use Rattle.apci.specs.Spelling.{spelling, Fits}
use Rattle.apci.specs.Reading.{IsFront}
use Rattle.session.specs.declared.kinds.Close.{Close}
use Rattle.session.specs.declared.kinds.Close.TheVariants.{Grammar, SendNumber, ReceiveNumber}
use Rattle.session.specs.declared.kinds.Close.TheVariants.{Stopped, Timeout, OwnAnswers, Replaced}
use Rattle.gateway.specs.Streams.{spelled, AllFit, IsRefused}
use Rattle.gateway.specs.Frames.{Connection, data_frames, fault_of}
use Rattle.gateway.specs.Connections.{Channel, Passes, IsBehind, BeginsWithFault, IsConnection}

-- the laws of APDUs: octets have one front, and spellings cancel
pub record AreUnique : Type 0 where
  pub front : (x : List ℕ) (a b : Front) → IsFront x a → IsFront x b → a ≡ b
  pub cancel : (a b : Apdu) (x y : List ℕ) → spelling a ++ x ≡ spelling b ++ y → (a ≡ b) × (x ≡ y)

-- frames oldest first
abbrev joined : List Apdu → List ℕ
joined [] = []
joined (f ∷ fs) = spelling f ++ joined fs

abbrev grown : List Apdu → List Apdu → List Apdu
grown acc [] = acc
grown acc (f ∷ fs) = grown (f ∷ acc) fs

abbrev turned : List Apdu → List Apdu → List Apdu
turned [] fs = fs
turned (f ∷ older) fs = turned older (f ∷ fs)

grown-turned : (h fs : List Apdu) → grown [] (turned h fs) ≡ grown h fs
grown-turned [] fs = refl
grown-turned (f ∷ older) fs = grown-turned older (f ∷ fs)

spelled-grown : (acc fs : List Apdu) → spelled (grown acc fs) ≡ spelled acc ++ joined fs
spelled-grown acc [] = sym (append-nil (spelled acc))
spelled-grown acc (f ∷ fs) = spelled-grown (f ∷ acc) fs
    ∙ append_assoc (spelled acc) (spelling f) (joined fs)

pass_older : (n : ℕ) (acc fs : List Apdu) → Passes n (grown acc fs) → Passes n acc
pass_older n acc [] h = h
pass_older n acc (f ∷ fs) h = (pass_older n (f ∷ acc) fs h).1

fit_older : (acc fs : List Apdu) → AllFit (grown acc fs) → AllFit acc
fit_older acc [] h = h
fit_older acc (f ∷ fs) h = (fit_older (f ∷ acc) fs h).1

-- what stands behind, by kind
abbrev Stands : ℕ → List Apdu → Option Close → List ℕ → Type 0
Stands n received fault r =
    ((fault ≡ None) × IsFront r More)
    ⊎ (((fault ≡ Some Grammar) × IsRefused r)
    ⊎ ((cause : Close) × (fault ≡ Some cause) × BeginsWithFault n received cause r))

stands : (n : ℕ) (received : List Apdu) (fault : Option Close) (r : List ℕ)
    → IsBehind false n received fault r
    → Stands n received fault r
stands n received None r h = inl (refl, h)
stands n received (Some Grammar) r h = inr (inl (refl, h))
stands n received (Some SendNumber) r h = inr (inr (SendNumber, refl, h))
stands n received (Some ReceiveNumber) r h = inr (inr (ReceiveNumber, refl, h))
stands n received (Some Stopped) r h = inr (inr (Stopped, refl, h))
stands n received (Some Timeout) r h = inr (inr (Timeout, refl, h))
stands n received (Some OwnAnswers) r h = cc
stands n received (Some Replaced) r h = inr (inr (Replaced, refl, h))

pub whole_front : (f : Apdu) (more r : List ℕ) → Fits f → r ≡ spelling f ++ more
    → IsFront r (Whole f (length (spelling f)))
whole_front f more r fits e = (
  record {
    fits = fits;
    spelled = ap (take (length (spelling f))) e
        ∙ take_at (spelling f) more (length (spelling f)) refl;
  },
  omega (arith, ap length e, length-append (spelling f) more),
)

pub never_more : AreUnique → (r : List ℕ) (f : Apdu) (n : ℕ) → IsFront r (Whole f n)
    → IsFront r More → ⊥
never_more u r f n h k = let e : More ≡ Whole f n = u.front r More (Whole f n) k h in cc

pub never_refused : AreUnique → (r : List ℕ) (f : Apdu) (n : ℕ) → IsFront r (Whole f n)
    → IsRefused r → ⊥
never_refused u r f n h k = let e : Never k.0 k.1 ≡ Whole f n =
    u.front r (Never k.0 k.1) (Whole f n) k.2 h in cc

not_both : AreUnique → (r : List ℕ) → IsFront r More → IsRefused r → ⊥
not_both u r h k = let e : Never k.0 k.1 ≡ More = u.front r (Never k.0 k.1) More k.2 h in cc

faulty_front : (n : ℕ) (received : List Apdu) (cause : Close) (r : List ℕ)
    (b : BeginsWithFault n received cause r)
    → IsFront r (Whole b.frame (length (spelling b.frame)))
faulty_front n received cause r b = whole_front b.frame b.more r b.fits b.joined

-- a frame that passes stands behind nothing
not_behind : AreUnique → (n : ℕ) (received : List Apdu) (fault : Option Close) (r more : List ℕ)
    (g : Apdu) → Fits g
    → r ≡ spelling g ++ more → fault_of n received g ≡ None → Stands n received fault r → ⊥
not_behind u n received fault r more g fits e none (inl h) =
    never_more u r g _ (whole_front g more r fits e) h.1
not_behind u n received fault r more g fits e none (inr (inl h)) =
    never_refused u r g _ (whole_front g more r fits e) h.1
not_behind u n received fault r more g fits e none (inr (inr h)) =
    let b = h.2 in
    let same : g ≡ b.frame = (u.cancel g b.frame more b.more (sym e ∙ b.joined)).0 in
    let clash : None ≡ Some h.0 = sym none ∙ ap (λ x. fault_of n received x) same ∙ b.fault in
    cc

same_fault : AreUnique → (n : ℕ) (received : List Apdu) (fault other : Option Close) (r : List ℕ)
    → Stands n received fault r → Stands n received other r → fault ≡ other
same_fault u n received fault other r (inl h) (inl k) = h.0 ∙ sym k.0
same_fault u n received fault other r (inl h) (inr (inl k)) = absurd (not_both u r h.1 k.1)
same_fault u n received fault other r (inl h) (inr (inr k)) =
    absurd (never_more u r _ _ (faulty_front n received k.0 r k.2) h.1)
same_fault u n received fault other r (inr (inl h)) (inl k) = absurd (not_both u r k.1 h.1)
same_fault u n received fault other r (inr (inl h)) (inr (inl k)) = h.0 ∙ sym k.0
same_fault u n received fault other r (inr (inl h)) (inr (inr k)) =
    absurd (never_refused u r _ _ (faulty_front n received k.0 r k.2) h.1)
same_fault u n received fault other r (inr (inr h)) (inl k) =
    absurd (never_more u r _ _ (faulty_front n received h.0 r h.2) k.1)
same_fault u n received fault other r (inr (inr h)) (inr (inl k)) =
    absurd (never_refused u r _ _ (faulty_front n received h.0 r h.2) k.1)
same_fault u n received fault other r (inr (inr h)) (inr (inr k)) =
    let same : h.2.frame ≡ k.2.frame =
    (u.cancel h.2.frame k.2.frame h.2.more k.2.more (sym h.2.joined ∙ k.2.joined)).0 in
    h.1 ∙ (sym h.2.fault ∙ ap (λ x. fault_of n received x) same ∙ k.2.fault) ∙ sym k.1

-- frames found one after another
same_frames : AreUnique
    → (n : ℕ) (acc fs gs : List Apdu) (r q : List ℕ) (fault other : Option Close)
    → joined fs ++ r ≡ joined gs ++ q → AllFit (grown acc fs) → AllFit (grown acc gs)
    → Passes n (grown acc fs)
    → Passes n (grown acc gs) →
    Stands n (grown acc fs) fault r → Stands n (grown acc gs) other q → (fs ≡ gs) × (fault ≡ other)
same_frames u n acc [] [] r q fault other e fit fitting pass passing h k =
    (refl, same_fault u n acc fault other r h (subst (λ x. Stands n acc other x) (sym e) k))
same_frames u n acc [] (g ∷ gs) r q fault other e fit fitting pass passing h k =
    absurd (not_behind u n acc fault r (joined gs ++ q) g (fit_older (g ∷ acc) gs fitting).0 (e
    ∙ append_assoc (spelling g) (joined gs) q) (pass_older n (g ∷ acc) gs passing).0 h)
same_frames u n acc (f ∷ fs) [] r q fault other e fit fitting pass passing h k =
    absurd (not_behind u n acc other q (joined fs ++ r) f (fit_older (f ∷ acc) fs fit).0 (sym e
    ∙ append_assoc (spelling f) (joined fs) r) (pass_older n (f ∷ acc) fs pass).0 k)
same_frames u n acc (f ∷ fs) (g ∷ gs) r q fault other e fit fitting pass passing h k =
    let parts = u.cancel f g (joined fs ++ r) (joined gs ++ q)
    (sym (append_assoc (spelling f) (joined fs) r) ∙ e
    ∙ append_assoc (spelling g) (joined gs) q) in
    let same : f ≡ g = parts.0 in
    let rest = same_frames u n (f ∷ acc) fs gs r q fault other parts.1 fit
    (subst (λ x. AllFit (grown (x ∷ acc) gs)) (sym same) fitting) pass
    (subst (λ x. Passes n (grown (x ∷ acc) gs)) (sym same) passing) h
    (subst (λ x. Stands n (grown (x ∷ acc) gs) other q) (sym same) k) in
    (ap (λ x. x ∷ fs) same ∙ ap (λ x. g ∷ x) rest.0, rest.1)

same_put : AreUnique → (fs gs : List Apdu) → joined fs ≡ joined gs → fs ≡ gs
same_put u [] [] e = refl
same_put u [] (g ∷ gs) e = cc
same_put u (f ∷ fs) [] e = cc
same_put u (f ∷ fs) (g ∷ gs) e =
    let parts = u.cancel f g (joined fs) (joined gs) e in
    ap (λ x. x ∷ fs) parts.0 ∙ ap (λ x. g ∷ x) (same_put u fs gs parts.1)

abbrev oldest : List Apdu → List Apdu
oldest h = turned h []

back : (h : List Apdu) → grown [] (oldest h) ≡ h
back h = grown-turned h []

spelled-oldest : (h : List Apdu) → spelled h ≡ joined (oldest h)
spelled-oldest h = ap spelled (sym (back h)) ∙ spelled-grown [] (oldest h)

pub one_reading : AreUnique → (octets : Channel) (c d : Connection) (fault other : Option Close)
    → octets.lacked_place ≡ false → IsConnection octets c fault → IsConnection octets d other
    → (c ≡ d) × (fault ≡ other)
one_reading u octets c d fault other within h k =
    let put : h.put ≡ k.put = sym (back h.put) ∙ ap (grown [])
    (same_put u (oldest h.put) (oldest k.put) (sym (spelled-oldest h.put) ∙ sym h.handed.joined
    ∙ k.handed.joined ∙ spelled-oldest k.put)) ∙ back k.put in
    let sent : c.sent_frames ≡ d.sent_frames = h.sent ∙ ap data_frames put ∙ sym k.sent in
    let n = length d.sent_frames in
    let pass : Passes n c.received_frames = subst (λ x. Passes (length x) c.received_frames) sent
    h.pass in
    let behind : IsBehind false n c.received_frames fault h.rest =
    subst (λ b. IsBehind b n c.received_frames fault h.rest) within
    (subst (λ x. IsBehind octets.lacked_place (length x) c.received_frames fault h.rest) sent
    h.behind) in
    let both = same_frames u n [] (oldest c.received_frames) (oldest d.received_frames) h.rest
    k.rest fault other
    (ap (λ x. x ++ h.rest) (sym (spelled-oldest c.received_frames)) ∙ sym h.joined ∙ k.joined
    ∙ ap (λ x. x ++ k.rest) (spelled-oldest d.received_frames))
    (subst AllFit (sym (back c.received_frames)) h.fit) (subst AllFit (sym (back d.received_frames))
    k.fit)
    (subst (Passes n) (sym (back c.received_frames)) pass)
    (subst (Passes n) (sym (back d.received_frames)) k.pass)
    (subst (λ x. Stands n x fault h.rest) (sym (back c.received_frames))
    (stands n c.received_frames fault h.rest behind))
    (subst (λ x. Stands n x other k.rest) (sym (back d.received_frames))
    (stands n d.received_frames other k.rest (subst
    (λ b. IsBehind b n d.received_frames other k.rest) within k.behind))) in
    let received : c.received_frames ≡ d.received_frames = sym (back c.received_frames)
    ∙ ap (grown []) both.0
    ∙ back d.received_frames in (
      ap (λ x. record { sent_frames = x; received_frames = c.received_frames }) sent
          ∙ ap (λ x. record { sent_frames = d.sent_frames; received_frames = x }) received,
      both.1,
    )
