-- The stations as they begin.
use Rattle.std.proofs.Common.{◌≡◌, ℕ, zero, suc, ◌+◌, ◌<◌, ◌≤◌, ◌^◌, List, [], ◌∷◌, ◌++◌, length}
use Rattle.std.proofs.Common.{take, drop, get_or, refl, sym, ap, ◌∙◌, arith, append_assoc}
use Rattle.std.proofs.lemmas.List.{append-nil, take_more, take_all, drop_more, drop_all}
use Rattle.std.specs.List.{AllByRecursion, flat_map}
use Rattle.ft12.specs.declared.frame.LinkSize.{LinkSize}
use Rattle.ft12.specs.Spelling.{address_len}
use Rattle.asdu.specs.declared.sizes.CaSize.{CaSize}
use Rattle.link.specs.Secondary.{Secondary, fresh_station}
use Rattle.link.specs.Requests.{FitsAddress}
use Rattle.gateway.specs.declared.settings.StationSettings.{StationSettings}
use Rattle.gateway.specs.Config.{IsStation}
use Rattle.sim.specs.declared.directive.Class.TheVariants.{One, Two}
use Rattle.sim.specs.declared.directive.Directive.{Directive}
use Rattle.sim.specs.Directives.{FitsStations}
use Rattle.sim.specs.Losses.{report_said}
use Rattle.sim.specs.Lives.{with_reports, begun_from}

pub with_first : (s : Secondary) (x : List ℕ) → record s { class1 = s.class1 ++ x ∷ [] }
    ≡ with_reports s (x ∷ []) []
with_first s x = ap (λ (l : List (List ℕ)). record s { class1 = s.class1 ++ x ∷ []; class2 = l })
    (sym (append-nil s.class2))

pub with_second : (s : Secondary) (x : List ℕ) → record s { class2 = s.class2 ++ x ∷ [] }
    ≡ with_reports s [] (x ∷ [])
with_second s x = ap (λ (l : List (List ℕ)). record s { class1 = l; class2 = s.class2 ++ x ∷ [] })
    (sym (append-nil s.class1))

pub with_none : (s : Secondary) → s ≡ with_reports s [] []
with_none s = ap (λ (l : List (List ℕ)). record s { class1 = l }) (sym (append-nil s.class1))
    ∙ ap (λ (l : List (List ℕ)). record s { class1 = s.class1 ++ []; class2 = l })
    (sym (append-nil s.class2))

with_more : (s : Secondary) (a b c d : List (List ℕ)) → with_reports (with_reports s a b) c d
    ≡ with_reports s (a ++ c) (b ++ d)
with_more s a b c d =
    ap (λ (l : List (List ℕ)). record s { class1 = l; class2 = (s.class2 ++ b) ++ d })
    (append_assoc s.class1 a c)
    ∙ ap (λ (l : List (List ℕ)). record s { class1 = s.class1 ++ (a ++ c); class2 = l })
    (append_assoc s.class2 b d)

flat_append : (f : Directive → List (List ℕ)) (xs ys : List Directive)
    → flat_map f (xs ++ ys) ≡ flat_map f xs ++ flat_map f ys
flat_append f [] ys = refl
flat_append f (x ∷ xs) ys = ap (λ (l : List (List ℕ)). f x ++ l) (flat_append f xs ys)
    ∙ sym (append_assoc (f x) (flat_map f xs) (flat_map f ys))

flat_more : (f : Directive → List (List ℕ)) (ds : List Directive) (i : ℕ) (d : Directive)
    → i < length ds
    → flat_map f (take (i + 1) ds) ≡ flat_map f (take i ds) ++ f (get_or ds i d)
flat_more f ds i d lt = ap (flat_map f) (take_more ds i d lt)
    ∙ flat_append f (take i ds) (get_or ds i d ∷ [])
    ∙ ap (λ (l : List (List ℕ)). flat_map f (take i ds) ++ l) (append-nil (f (get_or ds i d)))

pub reports_none : (s : Secondary) (index : ℕ) (ds : List Directive)
    → s ≡ with_reports s (flat_map (report_said index One) (take 0 ds))
    (flat_map (report_said index Two) (take 0 ds))
reports_none s index ds = with_none s

pub reports_more : (s t u : Secondary) (index : ℕ) (ds : List Directive) (i : ℕ) (d : Directive)
    → i < length ds →
    t ≡ with_reports s (flat_map (report_said index One) (take i ds))
    (flat_map (report_said index Two) (take i ds)) →
    u ≡ with_reports t (report_said index One (get_or ds i d))
    (report_said index Two (get_or ds i d)) →
    u ≡ with_reports s (flat_map (report_said index One) (take (i + 1) ds))
    (flat_map (report_said index Two) (take (i + 1) ds))
reports_more s t u index ds i d lt e f =
    f ∙ ap (λ (v : Secondary). with_reports v (report_said index One (get_or ds i d))
    (report_said index Two (get_or ds i d))) e
    ∙ with_more s (flat_map (report_said index One) (take i ds))
    (flat_map (report_said index Two) (take i ds))
    (report_said index One (get_or ds i d)) (report_said index Two (get_or ds i d))
    ∙ ap (λ (l : List (List ℕ)). with_reports s l (flat_map (report_said index Two) (take i ds)
    ++ report_said index Two (get_or ds i d))) (sym (flat_more (report_said index One) ds i d lt))
    ∙ ap (λ (l : List (List ℕ)). with_reports s (flat_map (report_said index One) (take (i + 1) ds))
    l)
    (sym (flat_more (report_said index Two) ds i d lt))

pub reports_all : (s t : Secondary) (index : ℕ) (ds : List Directive) (i : ℕ) → length ds ≤ i
    → t ≡ with_reports s (flat_map (report_said index One) (take i ds))
    (flat_map (report_said index Two) (take i ds)) →
    t ≡ with_reports s (flat_map (report_said index One) ds) (flat_map (report_said index Two) ds)
reports_all s t index ds i le e = e
    ∙ ap (λ (l : List Directive). with_reports s (flat_map (report_said index One) l)
    (flat_map (report_said index Two) l)) (take_all i ds le)

pub fits_at : (size : LinkSize) (n : ℕ) (ds : List Directive) (i : ℕ) (d : Directive)
    → i < length ds
    → AllByRecursion (FitsStations size n) ds → FitsStations size n (get_or ds i d)
fits_at size n [] i d lt all = absurd (omega arith)
fits_at size n (x ∷ ds) zero d lt all = all.0
fits_at size n (x ∷ ds) (suc i) d lt all = fits_at size n ds i d (omega arith) all.1

pub address_at : (size : LinkSize) (ca : CaSize) (ss : List StationSettings) (i : ℕ)
    (d : StationSettings)
    → i < length ss
    → AllByRecursion (IsStation size ca) ss → FitsAddress size (get_or ss i d).address
address_at size ca [] i d lt all = absurd (omega arith)
address_at size ca (x ∷ ss) zero d lt all = let one : x.address + 1 < 256 ^ address_len size =
    all.0.address.1 in
    omega arith
address_at size ca (x ∷ ss) (suc i) d lt all = address_at size ca ss i d (omega arith) all.1

-- one more station begins
pub begun_more : (size : LinkSize) (ds : List Directive) (ss : List StationSettings) (i : ℕ)
    (d : StationSettings)
    (done new whole : List Secondary) (t : Secondary) → i < length ss → new ≡ done ++ t ∷ [] →
    t ≡ with_reports (fresh_station size (get_or ss i d).address) (flat_map (report_said i One) ds)
    (flat_map (report_said i Two) ds) →
    done ++ begun_from size i ds (drop i ss) ≡ whole
    → new ++ begun_from size (i + 1) ds (drop (i + 1) ss) ≡ whole
begun_more size ds ss i d done new whole t lt e f so =
    let rest = begun_from size (i + 1) ds (drop (i + 1) ss) in
    ap (λ (l : List Secondary). l ++ rest) e ∙ append_assoc done (t ∷ []) rest
    ∙ ap (λ (u : Secondary). done ++ u ∷ rest) f
    ∙ sym (ap (λ (l : List StationSettings). done ++ begun_from size i ds l) (drop_more ss i d lt))
    ∙ so

pub begun_end : (size : LinkSize) (ds : List Directive) (ss : List StationSettings) (i : ℕ)
    (done whole : List Secondary)
    → length ss ≤ i → done ++ begun_from size i ds (drop i ss) ≡ whole → done ≡ whole
begun_end size ds ss i done whole le so = sym (append-nil done)
    ∙ sym (ap (λ (l : List StationSettings). done ++ begun_from size i ds l) (drop_all i ss le))
    ∙ so

pub begun_sizes : (size : LinkSize) (i : ℕ) (ds : List Directive) (ss : List StationSettings)
    → AllByRecursion (λ s. s.size ≡ size) (begun_from size i ds ss)
begun_sizes size i ds [] = tt
begun_sizes size i ds (s ∷ ss) = (refl, begun_sizes size (i + 1) ds ss)
