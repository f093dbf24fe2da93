-- Over every list of calls the primary matches the exchanges of its line.
use Rattle.std.proofs.Common.{ℕ, ◌<◌, List, [], ◌∷◌, All, length, slice_index, sym, subst}
use Rattle.ft12.specs.Fronts.{front_of}
use Rattle.link.specs.Exchanges.{Exchanges, no_exchanges, all_of, views, with_station}
use Rattle.link.specs.Exchanges.{timed_current}
use Rattle.link.specs.Procedure.{LinkSettings, Down, KeepsFrameCountBit}
use Rattle.link.specs.Requests.{FitsAddress}
use Rattle.link.specs.Primary.{Primary, start, timed_out}
use Rattle.link.specs.Matching.{IsStable, AreSpoilt, Matches}
use Rattle.link.specs.Runs.{Call, Next, Octets, Due, GivesUp, called, exchanged}
use Rattle.link.specs.Runs.{MayCall, MayCallAll, called_all, exchanged_all}
use Rattle.link.proofs.Called.{start_matches, receive_matches, due_matches, ask_matches}
use Rattle.link.proofs.Called.{give_up_matches}
use Rattle.link.specs.Runs.{Doubts}
use Rattle.link.proofs.Called.{doubt_matches}

pub call_matches : (settings : LinkSettings) (addresses : List ℕ)
    → IsStable (front_of settings.size)
    → (p : Primary) (e : Exchanges) (call : Call) →
    MayCall p call → Matches settings addresses p e
    → Matches settings addresses (called p call) (exchanged p call e)
call_matches settings addresses stable p e (Next now may_poll waiting) may t =
    ask_matches settings addresses p e now may_poll waiting stable may t
call_matches settings addresses stable p e (Octets octets) may t =
    receive_matches settings addresses p e octets stable t
call_matches settings addresses stable p e (Due now) may t =
    subst (λ (s : LinkSettings). Matches settings addresses (timed_out p now)
    (record { ended = e.ended; current = timed_current s.answer_ms now e.current }))
    (sym t.settings_are)
    (due_matches settings addresses p e now t)
call_matches settings addresses stable p e (GivesUp station) may t =
    give_up_matches settings addresses p e station may t
call_matches settings addresses stable p e Doubts may t = doubt_matches settings addresses p e t

pub calls_match : (settings : LinkSettings) (addresses : List ℕ) → IsStable (front_of settings.size)
    → (p : Primary) (e : Exchanges) (calls : List Call) →
    MayCallAll p calls → Matches settings addresses p e
    → Matches settings addresses (called_all p calls)
    (exchanged_all p calls e)
calls_match settings addresses stable p e [] may t = t
calls_match settings addresses stable p e (call ∷ calls) may t =
    calls_match settings addresses stable (called p call) (exchanged p call e) calls may.1
    (call_matches settings addresses stable p e call may.0 t)

run_matches : (settings : LinkSettings) (addresses : List ℕ) → IsStable (front_of settings.size)
    → (calls : List Call) →
    0 < length addresses → All (FitsAddress settings.size) addresses
    → MayCallAll (start settings addresses) calls →
    Matches settings addresses (called_all (start settings addresses) calls)
    (exchanged_all (start settings addresses) calls no_exchanges)
run_matches settings addresses stable calls some fit may =
    calls_match settings addresses stable (start settings addresses) no_exchanges calls may
    (start_matches settings addresses some fit)

pub run_keeps : (settings : LinkSettings) (addresses : List ℕ) → IsStable (front_of settings.size)
    → (calls : List Call) (station : ℕ) →
    0 < length addresses → All (FitsAddress settings.size) addresses
    → MayCallAll (start settings addresses) calls →
    KeepsFrameCountBit settings (slice_index addresses station) Down
    (with_station station (views (front_of settings.size)
    (all_of (exchanged_all (start settings addresses) calls no_exchanges))))
run_keeps settings addresses stable calls station some fit may =
    (run_matches settings addresses stable calls some fit may).keeps station

pub run_counts : (settings : LinkSettings) (addresses : List ℕ) → IsStable (front_of settings.size)
    → (calls : List Call) →
    0 < length addresses → All (FitsAddress settings.size) addresses
    → MayCallAll (start settings addresses) calls →
    AreSpoilt (front_of settings.size) addresses
    (called_all (start settings addresses) calls).spoilt
    (all_of (exchanged_all (start settings addresses) calls no_exchanges))
run_counts settings addresses stable calls some fit may =
    (run_matches settings addresses stable calls some fit may).spoilt
