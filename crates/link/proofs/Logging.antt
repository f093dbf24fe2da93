-- Each request that goes out is one exchange of the line.
use Rattle.std.specs.Prelude.{◌==◌}
use Rattle.std.specs.List.{filter}
use Rattle.std.proofs.Common.{◌≡◌, ℕ, Bool, true, false, not, ◌&&◌, ◌||◌, List, [], ◌∷◌, ◌++◌}
use Rattle.std.proofs.Common.{map, Option, Some, None, option_and_then, refl, sym, ap, ◌∙◌}
use Rattle.std.proofs.Common.{if◌then◌else◌, append_assoc}
use Rattle.std.proofs.lemmas.List.{append-nil, map-append}
use Rattle.ft12.specs.declared.frame.Front.{Front}
use Rattle.ft12.specs.declared.frame.Front.TheVariants.{Whole, More, Never}
use Rattle.link.specs.Answers.{Frame}
use Rattle.link.specs.Answers.{answer_of}
use Rattle.link.specs.Exchanges.{Exchange, Exchanges, OpenExchange, Sending, all_of, as_list}
use Rattle.link.specs.Exchanges.{answer_to, begun_by, given_up_from, has_one_with}
use Rattle.link.specs.Exchanges.{latest_marked, marked, received_current, received_octets}
use Rattle.link.specs.Exchanges.{timed_current, view, views, whole_of, with_station}
use Rattle.link.specs.Primary.{Primary, sending}
use Rattle.link.specs.Runs.{Call, Next, Octets, Due, GivesUp, called, exchanged, exchanged_all}
use Rattle.link.specs.Sent.{Sent, first_of, sent, sent_at, sent_by}
use Rattle.link.specs.Runs.{Doubts}

abbrev firsts : Exchanges → List Sent
firsts e = map first_of (all_of e)

nothing_more : (xs : List Sent) → xs ≡ xs ++ []
nothing_more xs = sym (append-nil xs)

begins : (now : ℕ) (s : Option Sending) (e : Exchanges) →
    firsts (begun_by now s e) ≡ firsts e ++ sent_by now s
begins now None e = nothing_more (firsts e)
begins now (Some s) e = map-append first_of (all_of e) (record {
  station = s.station;
  request = s.request;
  since = now;
  octets = [];
  closed = false;
  given_up = false;
} ∷ [])

comes : (octets : List ℕ) (ended : List OpenExchange) (current : Option OpenExchange) →
    firsts (record { ended = ended; current = received_current octets current })
    ≡ firsts (record { ended = ended; current = current })
comes octets ended None = refl
comes octets ended (Some x) =
    map-append first_of ended (received_octets octets x ∷ [])
    ∙ sym (map-append first_of ended (x ∷ []))

passes : (answer_ms at : ℕ) (ended : List OpenExchange) (current : Option OpenExchange) →
    firsts (record { ended = ended; current = timed_current answer_ms at current })
    ≡ firsts (record { ended = ended; current = current })
passes answer_ms at ended None = refl
passes answer_ms at ended (Some x) =
    map-append first_of ended (as_list (timed_current answer_ms at (Some x)))
    ∙ sym (map-append first_of ended (x ∷ []))

marks : (station : ℕ) (xs : List OpenExchange) →
    map first_of (latest_marked station xs) ≡ map first_of xs
marks station [] = refl
marks station (x ∷ xs) =
    go ((x.station == station) && not (has_one_with station xs)) (marks station xs)
  where
    go : (b : Bool) → map first_of (latest_marked station xs) ≡ map first_of xs →
        map first_of (if b then marked x ∷ xs else x ∷ latest_marked station xs)
        ≡ first_of x ∷ map first_of xs
    go true later = refl
    go false later = ap (λ (ys : List Sent). first_of x ∷ ys) later

gives_up : (station : ℕ) (ended : List OpenExchange) (current : Option OpenExchange) →
    firsts (given_up_from station ended current)
    ≡ firsts (record { ended = ended; current = current })
gives_up station ended None =
    map-append first_of (latest_marked station ended) []
    ∙ ap (λ (ys : List Sent). ys ++ []) (marks station ended)
    ∙ sym (map-append first_of ended [])
gives_up station ended (Some x) = go (x.station == station)
  where
    go : (b : Bool) →
        firsts (if b then record { ended = ended; current = Some (marked x) }
        else record { ended = latest_marked station ended; current = Some x })
        ≡ firsts (record { ended = ended; current = Some x })
    go true =
        map-append first_of ended (marked x ∷ []) ∙ sym (map-append first_of ended (x ∷ []))
    go false =
        map-append first_of (latest_marked station ended) (x ∷ [])
        ∙ ap (λ (ys : List Sent). ys ++ first_of x ∷ []) (marks station ended)
        ∙ sym (map-append first_of ended (x ∷ []))

one_call : (p : Primary) (call : Call) (e : Exchanges) →
    firsts (exchanged p call e) ≡ firsts e ++ sent_at p call
one_call p (Next now may_poll waiting) e = begins now (sending p may_poll waiting) e
one_call p (Octets octets) e = comes octets e.ended e.current ∙ nothing_more (firsts e)
one_call p (Due now) e =
    passes p.settings.answer_ms now e.ended e.current ∙ nothing_more (firsts e)
one_call p (GivesUp station) e =
    gives_up station e.ended e.current ∙ nothing_more (firsts e)
one_call p Doubts e = nothing_more (firsts e)

pub requests : (p : Primary) (calls : List Call) (e : Exchanges) →
    map first_of (all_of (exchanged_all p calls e)) ≡ map first_of (all_of e) ++ sent p calls
requests p [] e = nothing_more (firsts e)
requests p (call ∷ calls) e =
    requests (called p call) calls (exchanged p call e)
    ∙ ap (λ (ys : List Sent). ys ++ sent (called p call) calls) (one_call p call e)
    ∙ append_assoc (firsts e) (sent_at p call) (sent (called p call) calls)

pub with_one : (front : List ℕ → Front) (station : ℕ) (xs : List OpenExchange) →
    with_station station (views front xs)
    ≡ map (λ (x : OpenExchange). (view front x).exchange)
    (filter (λ (x : OpenExchange). x.station == station) xs)
with_one front station [] = refl
with_one front station (x ∷ xs) = go (x.station == station) (with_one front station xs)
  where
    go : (b : Bool) →
        with_station station (views front xs)
        ≡ map (λ (y : OpenExchange). (view front y).exchange)
        (filter (λ (y : OpenExchange). y.station == station) xs) →
        (if b then (view front x).exchange ∷ with_station station (views front xs)
        else with_station station (views front xs))
        ≡ map (λ (y : OpenExchange). (view front y).exchange)
        (if b then x ∷ filter (λ (y : OpenExchange). y.station == station) xs
        else filter (λ (y : OpenExchange). y.station == station) xs)
    go true later = ap (λ (ys : List Exchange). (view front x).exchange ∷ ys) later
    go false later = later

pub grows : (octets : List ℕ) (x : OpenExchange) → x.closed ≡ false → x.given_up ≡ false →
    (received_octets octets x).octets ≡ x.octets ++ octets
grows octets x waits stands =
    ap (λ (b : Bool). if b || x.given_up then x.octets else x.octets ++ octets) waits
    ∙ ap (λ (b : Bool). if false || b then x.octets else x.octets ++ octets) stands

pub says : (front : List ℕ → Front) (address : ℕ) (x : OpenExchange) (frame : Frame) (n : ℕ) →
    front x.octets ≡ Whole frame n →
    answer_to address (view front x).exchange ≡ answer_of address x.request frame
says front address x frame n is =
    ap (λ (f : Front). option_and_then (answer_of address x.request) (whole_of f)) is

pub says_nothing : (front : List ℕ → Front) (address : ℕ) (x : OpenExchange) →
    ((frame : Frame) (n : ℕ) → front x.octets ≡ Whole frame n → ⊥) →
    answer_to address (view front x).exchange ≡ None
says_nothing front address x not_whole = go (front x.octets) refl
  where
    go : (f : Front) → front x.octets ≡ f →
        option_and_then (answer_of address x.request) (whole_of f) ≡ None
    go (Whole frame n) is = absurd (not_whole frame n is)
    go More is = refl
    go (Never place why) is = refl
