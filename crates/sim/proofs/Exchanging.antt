-- The requests of a station's exchanges stay, whatever comes of these.
use Rattle.std.proofs.Common.{◌≡◌, ℕ, zero, suc, ◌&&◌, Bool, true, false, List, [], ◌∷◌, ◌++◌}
use Rattle.std.proofs.Common.{length, Option, Some, None, refl, sym, ap, ◌∙◌, if◌then◌else◌}
use Rattle.std.specs.Prelude.{◌==◌, not}
use Rattle.ft12.specs.declared.frame.LinkSize.{LinkSize}
use Rattle.ft12.specs.Fronts.{front_of}
use Rattle.link.specs.declared.service.Asked.{Asked}
use Rattle.link.specs.Delivery.{requests_of}
use Rattle.link.specs.Exchanges.{Exchange, Exchanges, OpenExchange, as_list, all_of}
use Rattle.link.specs.Exchanges.{received_octets}
use Rattle.link.specs.Exchanges.{received_current, timed, timed_current, view, marked, has_one_with}
use Rattle.link.specs.Exchanges.{latest_marked, given_up_from, given_up_at}
use Rattle.link.specs.Carried.{awaits_command_in, given_up_upto, commands_given_up}
use Rattle.gateway.specs.Reports.{Setup}
use Rattle.sim.proofs.Fronts.{its, its-append}

same_requests : (size : LinkSize) (i : ℕ) (c e : OpenExchange) → e.station ≡ c.station → e.request
    ≡ c.request
    → requests_of (its size i (e ∷ [])) ≡ requests_of (its size i (c ∷ []))
same_requests size i c e s r =
    ap (λ (n : ℕ). requests_of (if n == i then (view (front_of size) e).exchange ∷ [] else [])) s
    ∙ go (c.station == i)
  where
    go : (b : Bool) → requests_of (if b then (view (front_of size) e).exchange ∷ [] else [])
        ≡ requests_of (if b then (view (front_of size) c).exchange ∷ [] else [])
    go true = ap (λ (q : Asked). q ∷ []) r
    go false = refl

requests-append : (xs ys : List Exchange) → requests_of (xs ++ ys)
    ≡ requests_of xs ++ requests_of ys
requests-append [] ys = refl
requests-append (x ∷ xs) ys = ap (λ (l : List Asked). x.request ∷ l) (requests-append xs ys)

pub its_requests : (size : LinkSize) (i : ℕ) (xs ys : List OpenExchange)
    → requests_of (its size i (xs ++ ys)) ≡ requests_of (its size i xs)
    ++ requests_of (its size i ys)
its_requests size i xs ys = ap requests_of (its-append size i xs ys)
    ∙ requests-append (its size i xs) (its size i ys)

pub after_current : (size : LinkSize) (i : ℕ) (ended : List OpenExchange)
    (c e : Option OpenExchange)
    → requests_of (its size i (as_list e)) ≡ requests_of (its size i (as_list c)) →
    requests_of (its size i (ended ++ as_list e)) ≡ requests_of (its size i (ended ++ as_list c))
after_current size i ended c e same =
    its_requests size i ended (as_list e)
    ∙ ap (λ (l : List Asked). requests_of (its size i ended) ++ l) same
    ∙ sym (its_requests size i ended (as_list c))

pub timed_requests : (size : LinkSize) (i ms at : ℕ) (c : Option OpenExchange)
    → requests_of (its size i (as_list (timed_current ms at c)))
    ≡ requests_of (its size i (as_list c))
timed_requests size i ms at None = refl
timed_requests size i ms at (Some x) = same_requests size i x (timed ms at x) refl refl

pub received_requests : (size : LinkSize) (i ms at : ℕ) (octets : List ℕ) (c : Option OpenExchange)
    → requests_of (its size i (as_list (timed_current ms at (received_current octets c))))
    ≡ requests_of (its size i (as_list c))
received_requests size i ms at octets None = refl
received_requests size i ms at octets (Some x) =
    same_requests size i x (timed ms at (received_octets octets x)) refl refl

-- a link that is given up leaves them

marked_requests : (size : LinkSize) (i station : ℕ) (xs : List OpenExchange)
    → requests_of (its size i (latest_marked station xs)) ≡ requests_of (its size i xs)
marked_requests size i station [] = refl
marked_requests size i station (x ∷ xs) =
    by_latest ((x.station == station) && not (has_one_with station xs))
    (marked_requests size i station xs)
  where
    first : (b : Bool) (y : OpenExchange) (ys zs : List Exchange) → y.request ≡ x.request
        → requests_of ys ≡ requests_of zs
        → requests_of (if b then (view (front_of size) y).exchange ∷ ys else ys)
        ≡ requests_of (if b then (view (front_of size) x).exchange ∷ zs else zs)
    first true y ys zs same ih = ap (λ (q : Asked). q ∷ requests_of ys) same
        ∙ ap (λ (qs : List Asked). x.request ∷ qs) ih
    first false y ys zs same ih = ih

    by_latest : (b : Bool)
        → requests_of (its size i (latest_marked station xs)) ≡ requests_of (its size i xs)
        → requests_of (its size i (if b then marked x ∷ xs else x ∷ latest_marked station xs))
        ≡ requests_of (its size i (x ∷ xs))
    by_latest true ih = first (x.station == i) (marked x) (its size i xs) (its size i xs) refl refl
    by_latest false ih = first (x.station == i) x (its size i (latest_marked station xs))
        (its size i xs) refl ih

given_up_requests : (size : LinkSize) (i station : ℕ) (ended : List OpenExchange)
    (c : Option OpenExchange)
    → requests_of (its size i (all_of (given_up_from station ended c)))
    ≡ requests_of (its size i (ended ++ as_list c))
given_up_requests size i station ended None =
    its_requests size i (latest_marked station ended) []
    ∙ ap (λ (l : List Asked). l ++ []) (marked_requests size i station ended)
    ∙ sym (its_requests size i ended [])
given_up_requests size i station ended (Some x) = go (x.station == station)
  where
    go : (b : Bool) → requests_of (its size i (all_of (if b then record {
      ended = ended;
      current = Some (marked x);
    } else record { ended = latest_marked station ended; current = Some x })))
        ≡ requests_of (its size i (ended ++ x ∷ []))
    go true = its_requests size i ended (marked x ∷ [])
        ∙ ap (λ (l : List Asked). requests_of (its size i ended) ++ l)
        (same_requests size i x (marked x) refl refl)
        ∙ sym (its_requests size i ended (x ∷ []))
    go false = its_requests size i (latest_marked station ended) (x ∷ [])
        ∙ ap (λ (l : List Asked). l ++ requests_of (its size i (x ∷ [])))
        (marked_requests size i station ended)
        ∙ sym (its_requests size i ended (x ∷ []))

pub restarted_requests : (p : Setup) (i : ℕ) (e : Exchanges)
    → requests_of (its p.link.size i (all_of (commands_given_up p.link (front_of p.link.size)
    p.addresses e)))
    ≡ requests_of (its p.link.size i (all_of e))
restarted_requests p i e = upto (length p.addresses)
  where
    one : (b : Bool) (station : ℕ) (e : Exchanges)
        → requests_of (its p.link.size i (all_of (if b then given_up_at station e else e)))
        ≡ requests_of (its p.link.size i (all_of e))
    one true station e = given_up_requests p.link.size i station e.ended e.current
    one false station e = refl

    upto : (n : ℕ)
        → requests_of (its p.link.size i (all_of (given_up_upto p.link (front_of p.link.size)
        p.addresses n e)))
        ≡ requests_of (its p.link.size i (all_of e))
    upto zero = refl
    upto (suc k) =
        let so_far : Exchanges = given_up_upto p.link (front_of p.link.size) p.addresses k e in
        one (awaits_command_in p.link (front_of p.link.size) p.addresses k so_far) k so_far
        ∙ upto k
