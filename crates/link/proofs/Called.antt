-- What matches the exchanges of a line matches the calls that led to them, too.
use Rattle.std.proofs.Common.{◌≡◌, ◌<◌, ℕ, Bool, List, [], ◌∷◌, ◌++◌, All, length, refl, sym, ap}
use Rattle.std.proofs.Common.{subst, ◌∙◌, Option}
use Rattle.ft12.specs.declared.frame.Front.{Front}
use Rattle.ft12.specs.Fronts.{front_of}
use Rattle.link.specs.Exchanges.{Exchanges, no_exchanges, received_current, timed_current, begun_by}
use Rattle.link.specs.Exchanges.{given_up_at}
use Rattle.link.specs.Procedure.{LinkSettings}
use Rattle.link.specs.Requests.{FitsAddress}
use Rattle.link.specs.Primary.{Outstanding, Primary, start, asked, sending, received, timed_out}
use Rattle.link.specs.Carried.{given_up}
use Rattle.link.specs.Runs.{Call, Next, Octets, Due, GivesUp, FitsLine, called, exchanged}
use Rattle.link.specs.Runs.{MayCall, MayCallAll, called_all, exchanged_all, AreCalled}
use Rattle.link.specs.Matching.{IsStable, AreLinks, past, MatchesBy, Matches}
use Rattle.link.proofs.Matching.{SaysBy, says, matches, links_said, due_says}
use Rattle.link.proofs.Answering.{receive_says}
use Rattle.link.proofs.MatchingStart.{start_says}
use Rattle.link.proofs.Matching.{ask_says}
use Rattle.link.proofs.GivenUpMatches.{given_up_says}
use Rattle.link.specs.Turns.{CommandsWaiting}
use Rattle.link.specs.Runs.{Doubts}
use Rattle.link.specs.Carried.{doubted}
use Rattle.link.proofs.DoubtedMatches.{doubted_says}

-- one call more

called-more : (p : Primary) (calls : List Call) (call : Call)
    → called_all p (calls ++ call ∷ []) ≡ called (called_all p calls) call
called-more p [] call = refl
called-more p (first ∷ calls) call = called-more (called p first) calls call

exchanged-more : (p : Primary) (calls : List Call) (call : Call) (e : Exchanges)
    → exchanged_all p (calls ++ call ∷ []) e
    ≡ exchanged (called_all p calls) call (exchanged_all p calls e)
exchanged-more p [] call e = refl
exchanged-more p (first ∷ calls) call e =
    exchanged-more (called p first) calls call (exchanged p first e)

may-more : (p : Primary) (calls : List Call) (call : Call) → MayCallAll p calls
    → MayCall (called_all p calls) call
    → MayCallAll p (calls ++ call ∷ [])
may-more p [] call all one = (one, tt)
may-more p (first ∷ calls) call all one = (all.0, may-more (called p first) calls call all.1 one)

one_more : (settings : LinkSettings) (addresses : List ℕ) (p : Primary) (e : Exchanges)
    (call : Call) → MayCall p call
    → AreCalled settings addresses p e
    → AreCalled settings addresses (called p call) (exchanged p call e)
one_more settings addresses p e call one c =
    let first : Primary = start settings addresses in
    record {
      calls = c.calls ++ call ∷ [];
      may =
          may-more first c.calls call c.may (subst (λ (q : Primary). MayCall q call) (sym c.primary)
          one);
      primary = called-more first c.calls call ∙ ap (λ (q : Primary). called q call) c.primary;
      exchanges = exchanged-more first c.calls call no_exchanges
          ∙ ap (λ (q : Primary). exchanged q call (exchanged_all first c.calls no_exchanges))
          c.primary
          ∙ ap (λ (x : Exchanges). exchanged p call x) c.exchanges;
    }

pub start_matches : (settings : LinkSettings) (addresses : List ℕ) → 0 < length addresses
    → All (FitsAddress settings.size) addresses
    → Matches settings addresses (start settings addresses) no_exchanges
start_matches settings addresses some fit =
    matches (front_of settings.size) settings addresses (start settings addresses) no_exchanges
    (start_says (front_of settings.size) settings addresses some fit)
    (record { calls = []; may = tt; primary = refl; exchanges = refl })

pub ask_matches : (settings : LinkSettings) (addresses : List ℕ) (p : Primary) (e : Exchanges)
    (now : ℕ)
    (may_poll : Bool) (waiting : CommandsWaiting) → IsStable (front_of settings.size)
    → FitsLine p may_poll waiting → Matches settings addresses p e
    → Matches settings addresses (asked p now may_poll waiting)
    (begun_by now (sending p may_poll waiting) e)
ask_matches settings addresses p e now may_poll waiting stable carried t =
    matches (front_of settings.size) settings addresses (asked p now may_poll waiting)
    (begun_by now (sending p may_poll waiting) e)
    (ask_says (front_of settings.size) settings addresses p e now may_poll waiting stable carried
    (says (front_of settings.size) settings addresses p e t))
    (one_more settings addresses p e (Next now may_poll waiting) carried t.called)

pub receive_matches : (settings : LinkSettings) (addresses : List ℕ) (p : Primary) (e : Exchanges)
    (octets : List ℕ)
    → IsStable (front_of settings.size) → Matches settings addresses p e
    → Matches settings addresses (received (front_of p.settings.size) p octets)
    (record { ended = e.ended; current = received_current octets e.current })
receive_matches settings addresses p e octets stable t =
    let arrived : Exchanges =
    record { ended = e.ended; current = received_current octets e.current } in
    matches (front_of settings.size) settings addresses
    (received (front_of p.settings.size) p octets)
    arrived
    (subst (λ (s : LinkSettings). SaysBy (front_of settings.size) settings addresses
    (received (front_of s.size) p octets) arrived) (sym t.settings_are)
    (receive_says (front_of settings.size) settings addresses p e.ended e.current octets stable
    (says (front_of settings.size) settings addresses p e t)))
    (one_more settings addresses p e (Octets octets) tt t.called)

pub due_matches : (settings : LinkSettings) (addresses : List ℕ) (p : Primary) (e : Exchanges)
    (at : ℕ)
    → Matches settings addresses p e → Matches settings addresses (timed_out p at)
    (record { ended = e.ended; current = timed_current settings.answer_ms at e.current })
due_matches settings addresses p e at t =
    let timed : Exchanges =
    record { ended = e.ended; current = timed_current settings.answer_ms at e.current } in
    matches (front_of settings.size) settings addresses (timed_out p at) timed
    (due_says (front_of settings.size) settings addresses p e.ended e.current at
    (says (front_of settings.size) settings addresses p e t))
    (subst (λ (s : LinkSettings). AreCalled settings addresses (timed_out p at)
    (record { ended = e.ended; current = timed_current s.answer_ms at e.current })) t.settings_are
    (one_more settings addresses p e (Due at) tt t.called))

pub give_up_matches : (settings : LinkSettings) (addresses : List ℕ) (p : Primary) (e : Exchanges)
    (k : ℕ) → k < length p.stations → Matches settings addresses p e
    → Matches settings addresses (given_up k p) (given_up_at k e)
give_up_matches settings addresses p e k within t =
    matches (front_of settings.size) settings addresses (given_up k p) (given_up_at k e)
    (given_up_says (front_of settings.size) settings addresses p e k within
    (says (front_of settings.size) settings addresses p e t))
    (one_more settings addresses p e (GivesUp k) within t.called)

pub doubt_matches : (settings : LinkSettings) (addresses : List ℕ) (p : Primary) (e : Exchanges)
    → Matches settings addresses p e → Matches settings addresses (doubted p) e
doubt_matches settings addresses p e t =
    matches (front_of settings.size) settings addresses (doubted p) e
    (doubted_says (front_of settings.size) settings addresses p e
    (says (front_of settings.size) settings addresses p e t))
    (one_more settings addresses p e Doubts tt t.called)

-- the links that are known while nothing, or something, is outstanding
pub links_at : (front : List ℕ → Front) (settings : LinkSettings) (addresses : List ℕ) (p : Primary)
    (e : Exchanges)
    (o : Option Outstanding) →
    p.outstanding ≡ o → MatchesBy front settings addresses p e
    → AreLinks front settings addresses p.stations (past o e)
links_at front settings addresses p e o is t =
    links_said front settings addresses p e o is (says front settings addresses p e t)
