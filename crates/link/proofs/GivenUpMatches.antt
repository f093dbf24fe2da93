-- The link to a station is given up: the primary's state is still what its exchanges make it.
use Rattle.std.specs.Prelude.{◌==◌}
use Rattle.std.proofs.Common.{◌≡◌, ℕ, ◌<◌, slice_index, slice_set, Bool, true, false, List, [], ◌∷◌}
use Rattle.std.proofs.Common.{◌++◌, length, Option, Some, None, refl, sym, ap, subst, ◌∙◌, ◌⊎◌, inl}
use Rattle.std.proofs.Common.{inr, if◌then◌else◌}
use Rattle.std.proofs.lemmas.Bool.{cases_eq, eqb-true, eqb-false}
use Rattle.std.proofs.lemmas.List.{get_or-set_same, get_or-set_other, length-set}
use Rattle.ft12.specs.declared.frame.Front.{Front}
use Rattle.ft12.specs.declared.frame.LinkSize.{LinkSize}
use Rattle.link.specs.Answers.{Service}
use Rattle.std.specs.Io.Iter.{u64_saturate}
use Rattle.link.specs.Delivery.{is_gap, pending_after}
use Rattle.link.specs.Exchanges.{Exchange, OpenExchange, Exchanges, all_of, as_list, marked, view}
use Rattle.link.specs.Exchanges.{views, with_station, latest_marked, given_up_from, given_up_at}
use Rattle.link.specs.Exchanges.{spoilt_count}
use Rattle.link.specs.Flags.{clear, flags_after}
use Rattle.link.specs.Gaps.{resets_in}
use Rattle.link.specs.Holding.{FitsStation, FitsOutstanding}
use Rattle.link.specs.Procedure.{LinkSettings, Down, KeepsFrameCountBit, link_after}
use Rattle.link.specs.Turns.{StationState, no_station, station_at}
use Rattle.link.specs.Primary.{Outstanding, Primary}
use Rattle.link.specs.Matching.{IsAllowed, IsCurrent, past, AreKept, AreLinks, flags_of}
use Rattle.link.specs.Matching.{session_in}
use Rattle.link.specs.Carried.{station_given_up, given_up}
use Rattle.link.proofs.Fitting.{station_fits, set_fits}
use Rattle.link.proofs.Links.{set_view, with_one, nil}
use Rattle.link.proofs.Marks.{given_links, given_keeps, given_flags, given_pending, given_resets}
use Rattle.link.proofs.Marks.{with_marked, with_others, past_mark, marked_spoilt, all_marked}
use Rattle.link.proofs.Matching.{SaysBy, links_said}

given_up_fits : (size : LinkSize) (s : StationState) → FitsStation size s
    → FitsStation size (station_given_up s)
given_up_fits size s fits =
    record { address = fits.address; link = tt }

-- the stations whose link isn't given up
others_stay : (stations : List StationState) (k i : ℕ) → (i ≡ k → ⊥)
    → station_at (slice_set stations k (station_given_up (station_at stations k))) i
    ≡ station_at stations i
others_stay stations k i other =
    get_or-set_other stations k i (station_given_up (station_at stations k)) no_station other

allowed_still : (stations : List StationState) (turn k : ℕ) (o : Option Outstanding)
    → IsAllowed stations turn o
    → IsAllowed (slice_set stations k (station_given_up (station_at stations k))) turn
    (if turn == k then None else o)
allowed_still stations turn k o allowed = go (turn == k) refl o allowed
  where
    go : (b : Bool) → (turn == k) ≡ b → (o : Option Outstanding) → IsAllowed stations turn o
        → IsAllowed (slice_set stations k (station_given_up (station_at stations k))) turn
        (if b then None else o)
    go true here o allowed = tt
    go false other None allowed = tt
    go false other (Some q) allowed =
        subst (λ (s : StationState). IsAllowed (s ∷ []) 0 (Some q))
        (sym (others_stay stations k turn (eqb-false turn k other))) allowed

fits_still : (size : LinkSize) (b : Bool) (o : Option Outstanding) → FitsOutstanding size o
    → FitsOutstanding size (if b then None else o)
fits_still size true o fits = tt
fits_still size false o fits = fits

abbrev pub latest_from : (k : ℕ) → List OpenExchange → OpenExchange → Bool → Exchanges
latest_from k ended x b =
    if b then record { ended = ended; current = Some (marked x) }
    else record { ended = latest_marked k ended; current = Some x }

-- the latest exchange is still what is awaited, or it is over
current_still : (front : List ℕ → Front) (addresses : List ℕ) (turn k : ℕ)
    (ended : List OpenExchange) (o : Option Outstanding) (c : Option OpenExchange)
    → IsCurrent front addresses turn o c
    → IsCurrent front addresses turn (if turn == k then None else o)
    (given_up_from k ended c).current
current_still front addresses turn k ended o c is = go (turn == k) refl o c is
  where
    over : (x : OpenExchange) (b : Bool) → (x.station == k) ≡ b
        → (b ≡ false → IsCurrent front addresses turn None (Some x)) →
        IsCurrent front addresses turn None (latest_from k ended x b).current
    over x true here so = inr (inl refl)
    over x false other so = so refl

    go : (b : Bool) → (turn == k) ≡ b → (o : Option Outstanding) (c : Option OpenExchange)
        → IsCurrent front addresses turn o c →
        IsCurrent front addresses turn (if b then None else o) (given_up_from k ended c).current
    go true here None None is = tt
    go true here (Some q) None is = absurd is
    go true here None (Some x) is = over x (x.station == k) refl (λ other. is)
    go true here (Some q) (Some x) is =
        over x (x.station == k) refl
        (λ other. absurd (eqb-false x.station k other (is.station ∙ eqb-true turn k here)))
    go false other None None is = tt
    go false other (Some q) None is = absurd is
    go false other None (Some x) is = over x (x.station == k) refl (λ no. is)
    go false other (Some q) (Some x) is = by_place (x.station == k) refl
      where
        by_place : (d : Bool) → (x.station == k) ≡ d →
            IsCurrent front addresses turn (Some q) (latest_from k ended x d).current
        by_place true at =
            absurd (eqb-false turn k other (sym is.station ∙ eqb-true x.station k at))
        by_place false at = is

-- the links of marked exchanges
marked_links : (front : List ℕ → Front) (settings : LinkSettings) (addresses : List ℕ)
    (stations : List StationState) (k : ℕ) (xs : List OpenExchange) → k < length stations
    → ((i : ℕ) → (i ≡ k → ⊥)
    → link_after settings (slice_index addresses i) Down (with_station i (views front xs))
    ≡ (station_at stations i).link)
    → AreLinks front settings addresses
    (slice_set stations k (station_given_up (station_at stations k))) (latest_marked k xs)
marked_links front settings addresses stations k xs within others i = go (cases_eq i k)
  where
    go : (i ≡ k) ⊎ (i ≡ k → ⊥) →
        link_after settings (slice_index addresses i) Down
        (with_station i (views front (latest_marked k xs)))
        ≡ (station_at (slice_set stations k (station_given_up (station_at stations k))) i).link
    go (inl at) =
        ap (λ (j : ℕ). link_after settings (slice_index addresses j) Down
        (with_station j (views front (latest_marked k xs)))) at
        ∙ ap (λ (l : List Exchange). link_after settings (slice_index addresses k) Down l)
        (with_marked front k xs)
        ∙ given_links settings (slice_index addresses k) Down (with_station k (views front xs))
        (λ e. refl)
        ∙ ap (λ (s : StationState). s.link)
        (sym (get_or-set_same stations k (station_given_up (station_at stations k)) no_station
        within))
        ∙ ap (λ (j : ℕ). (station_at (slice_set stations k
        (station_given_up (station_at stations k))) j).link) (sym at)
    go (inr other) =
        ap (λ (l : List Exchange). link_after settings (slice_index addresses i) Down l)
        (with_others front k i xs other)
        ∙ others i other
        ∙ ap (λ (s : StationState). s.link) (sym (others_stay stations k i other))

links_still : (front : List ℕ → Front) (settings : LinkSettings) (addresses : List ℕ)
    (p : Primary) (e : Exchanges) (k : ℕ) → k < length p.stations
    → SaysBy front settings addresses p e
    → AreLinks front settings addresses (given_up k p).stations
    (past (given_up k p).outstanding (given_up_at k e))
links_still front settings addresses p e k within t =
    go (p.turn == k) refl p.outstanding refl e.current refl t.current
  where
    all_links : ((i : ℕ) → (i ≡ k → ⊥)
        → link_after settings (slice_index addresses i) Down
        (with_station i (views front (all_of e)))
        ≡ (station_at p.stations i).link)
        → AreLinks front settings addresses (given_up k p).stations (all_of (given_up_at k e))
    all_links others =
        subst (λ (xs : List OpenExchange). AreLinks front settings addresses
        (given_up k p).stations xs) (sym (all_marked k e))
        (marked_links front settings addresses p.stations k (all_of e) within others)

    go : (b : Bool) → (p.turn == k) ≡ b → (o : Option Outstanding) → p.outstanding ≡ o
        → (c : Option OpenExchange) → e.current ≡ c → IsCurrent front addresses p.turn o c
        → AreLinks front settings addresses (given_up k p).stations
        (past (if b then None else o) (given_up_at k e))
    go true here None is c latest so =
        all_links (λ i other. links_said front settings addresses p e None is t i)
    go false away None is c latest so =
        all_links (λ i other. links_said front settings addresses p e None is t i)
    go b here (Some q) is None latest so = absurd so
    go true here (Some q) is (Some x) latest so =
        all_links (λ i other.
        ap (λ (d : Option OpenExchange). link_after settings (slice_index addresses i) Down
        (with_station i (views front (e.ended ++ as_list d)))) latest
        ∙ ap (λ (l : List Exchange). link_after settings (slice_index addresses i) Down l)
        (with_one front e.ended x i
        ∙ ap (λ (d : Bool). with_station i (views front e.ended)
        ++ (if d then (view front x).exchange ∷ [] else []))
        (elsewhere i other) ∙ nil (with_station i (views front e.ended)))
        ∙ links_said front settings addresses p e (Some q) is t i)
      where
        elsewhere : (i : ℕ) → (i ≡ k → ⊥) → (x.station == i) ≡ false
        elsewhere i other = by_test (x.station == i) refl
          where
            by_test : (d : Bool) → (x.station == i) ≡ d → (x.station == i) ≡ false
            by_test false e' = e'
            by_test true e' =
                absurd (other (sym (eqb-true x.station i e') ∙ so.station
                ∙ eqb-true p.turn k here))
    go false away (Some q) is (Some x) latest so =
        subst (λ (xs : List OpenExchange). AreLinks front settings addresses
        (given_up k p).stations xs) (sym ended)
        (marked_links front settings addresses p.stations k e.ended within
        (λ i other. links_said front settings addresses p e (Some q) is t i))
      where
        ended : (given_up_at k e).ended ≡ latest_marked k e.ended
        ended =
            ap (λ (d : Option OpenExchange). (given_up_from k e.ended d).ended) latest
            ∙ by_test (x.station == k) refl
          where
            by_test : (d : Bool) → (x.station == k) ≡ d →
                (latest_from k e.ended x d).ended
                ≡ latest_marked k e.ended
            by_test false away_too = refl
            by_test true at =
                absurd (eqb-false p.turn k away (sym so.station ∙ eqb-true x.station k at))

kept_still : (front : List ℕ → Front) (settings : LinkSettings) (addresses : List ℕ) (k : ℕ)
    (xs : List OpenExchange) → AreKept front settings addresses xs
    → AreKept front settings addresses (latest_marked k xs)
kept_still front settings addresses k xs keeps i = go (cases_eq i k)
  where
    go : (i ≡ k) ⊎ (i ≡ k → ⊥) → KeepsFrameCountBit settings (slice_index addresses i) Down
        (with_station i (views front (latest_marked k xs)))
    go (inl at) =
        subst (λ (j : ℕ). KeepsFrameCountBit settings (slice_index addresses j) Down
        (with_station j (views front (latest_marked k xs)))) (sym at)
        (subst (λ (l : List Exchange). KeepsFrameCountBit settings (slice_index addresses k) Down l)
        (sym (with_marked front k xs))
        (given_keeps settings (slice_index addresses k) Down (with_station k (views front xs))
        (keeps k)))
    go (inr other) =
        subst (λ (l : List Exchange). KeepsFrameCountBit settings (slice_index addresses i) Down l)
        (sym (with_others front k i xs other)) (keeps i)

same_session : (a : ℕ) (xs ys : List Exchange) → resets_in a xs ≡ resets_in a ys
    → pending_after a None xs ≡ pending_after a None ys → session_in a xs ≡ session_in a ys
same_session a xs ys resets pending =
    ap (λ (n : ℕ). record {
      number = u64_saturate n;
      has_gap = is_gap (pending_after a None xs);
    }) resets
    ∙ ap (λ (m : Option Service). record {
      number = u64_saturate (resets_in a ys);
      has_gap = is_gap m;
    }) pending

pub given_up_says : (front : List ℕ → Front) (settings : LinkSettings) (addresses : List ℕ)
    (p : Primary) (e : Exchanges) (k : ℕ) → k < length p.stations
    → SaysBy front settings addresses p e
    → SaysBy front settings addresses (given_up k p) (given_up_at k e)
given_up_says front settings addresses p e k within t =
    let s : StationState = station_given_up (station_at p.stations k) in
    let all = sym (all_marked k e) in
    record {
      settings_are = t.settings_are;
      fits = record {
        turn = subst (λ (n : ℕ). p.turn < n) (sym (length-set p.stations k s)) t.fits.turn;
        stations = set_fits p.settings.size p.stations k s within t.fits.stations
            (given_up_fits p.settings.size (station_at p.stations k)
            (station_fits p.settings.size p.stations k within t.fits.stations));
        outstanding = fits_still p.settings.size (p.turn == k) p.outstanding t.fits.outstanding;
      };
      count = length-set p.stations k s ∙ t.count;
      address = λ i. set_view (λ (r : StationState). r.address) p.stations k s refl i
          ∙ t.address i;
      allowed = allowed_still p.stations p.turn k p.outstanding t.allowed;
      current = current_still front addresses p.turn k e.ended p.outstanding e.current t.current;
      keeps = subst (λ (xs : List OpenExchange). AreKept front settings addresses xs) all
          (kept_still front settings addresses k (all_of e) t.keeps);
      links = links_still front settings addresses p e k within t;
      flags = λ i.
          ap (λ (xs : List OpenExchange). flags_after (slice_index addresses i) clear
          (with_station i (views front xs))) (all_marked k e)
          ∙ past_mark (flags_after (slice_index addresses i) clear)
          (given_flags (slice_index addresses i) clear) front k i (all_of e)
          ∙ t.flags i ∙ sym (set_view flags_of p.stations k s refl i);
      sessions = λ i.
          ap (λ (xs : List OpenExchange). session_in (slice_index addresses i)
          (with_station i (views front xs))) (all_marked k e)
          ∙ past_mark (session_in (slice_index addresses i))
          (λ xs. same_session (slice_index addresses i) _ xs
          (given_resets (slice_index addresses i) xs)
          (given_pending (slice_index addresses i) None xs)) front k i (all_of e)
          ∙ t.sessions i
          ∙ sym (set_view (λ (r : StationState). r.session) p.stations k s refl i);
      spoilt = t.spoilt
          ∙ ap u64_saturate (sym (ap (λ (xs : List OpenExchange). spoilt_count front
          (λ i. slice_index addresses i) xs) (all_marked k e)
          ∙ marked_spoilt front (λ i. slice_index addresses i) k (all_of e)));
    }
