-- Giving up each command without an answer: by the machine and by the exchanges of its line.
use Rattle.std.specs.Prelude.{◌==◌}
use Rattle.std.proofs.Common.{◌≡◌, ℕ, zero, suc, ◌<◌, ◌≤◌, ◌&&◌, ◌||◌, not, slice_index, Bool, true}
use Rattle.std.proofs.Common.{false, List, [], length, refl, sym, ap, subst, ◌∙◌, arith}
use Rattle.std.proofs.Common.{if◌then◌else◌}
use Rattle.ft12.specs.declared.frame.Front.{Front}
use Rattle.ft12.specs.Fronts.{front_of}
use Rattle.link.specs.Exchanges.{OpenExchange, Exchanges, all_of, views, with_station}
use Rattle.link.specs.Exchanges.{reports_of, reports_of_exchanges, given_up_at}
use Rattle.link.specs.Gaps.{gaps_in, gaps_at}
use Rattle.link.specs.Procedure.{LinkSettings, holds_command}
use Rattle.link.specs.Turns.{station_at}
use Rattle.link.specs.Primary.{Primary, is_sending_command}
use Rattle.link.specs.Matching.{MatchesBy, Matches}
use Rattle.link.specs.Carried.{awaits_command, given_up, command_given_up, commands_given_up_upto}
use Rattle.link.specs.Carried.{without_commands, awaits_command_in, command_given_up_in}
use Rattle.link.specs.Carried.{given_up_upto, commands_given_up}
use Rattle.link.proofs.Called.{give_up_matches}
use Rattle.link.proofs.GivenUp.{number}
use Rattle.link.proofs.Marks.{all_marked, marked_reports, past_mark, given_gaps}
use Rattle.link.proofs.UnderWay.{not_awaited}

-- ---- which stations await a command

either : (a b c : Bool) → (not a && not b) ≡ not c → (a || b) ≡ c
either true b true e = refl
either true b false e = cc
either false true true e = refl
either false true false e = cc
either false false true e = cc
either false false false e = refl

pub awaits_logged : (front : List ℕ → Front) (settings : LinkSettings) (addresses : List ℕ)
    (p : Primary) (e : Exchanges) (k : ℕ) → MatchesBy front settings addresses p e
    → awaits_command p k ≡ awaits_command_in settings front addresses k e
awaits_logged front settings addresses p e k t =
    either (holds_command (station_at p.stations k).link)
    ((p.turn == k) && is_sending_command p.outstanding)
    (awaits_command_in settings front addresses k e)
    (not_awaited front settings addresses p e k t)

-- ---- all stations

one_number : (k : ℕ) (p : Primary) → length (command_given_up k p).stations ≡ length p.stations
one_number k p = go (awaits_command p k)
  where
    go : (b : Bool) → length (if b then given_up k p else p).stations ≡ length p.stations
    go true = number p k
    go false = refl

upto_number : (count : ℕ) (p : Primary)
    → length (commands_given_up_upto count p).stations ≡ length p.stations
upto_number zero p = refl
upto_number (suc k) p = one_number k (commands_given_up_upto k p) ∙ upto_number k p

one_matches : (settings : LinkSettings) (addresses : List ℕ) (p : Primary) (e : Exchanges) (k : ℕ)
    → k < length p.stations → Matches settings addresses p e
    → Matches settings addresses (command_given_up k p)
    (command_given_up_in settings (front_of settings.size) addresses k e)
one_matches settings addresses p e k within t =
    subst (λ (b : Bool). Matches settings addresses (command_given_up k p)
    (if b then given_up_at k e else e))
    (awaits_logged (front_of settings.size) settings addresses p e k t)
    (go (awaits_command p k))
  where
    go : (b : Bool) → Matches settings addresses (if b then given_up k p else p)
        (if b then given_up_at k e else e)
    go true = give_up_matches settings addresses p e k within t
    go false = t

upto_matches : (settings : LinkSettings) (addresses : List ℕ) (p : Primary) (e : Exchanges)
    (count : ℕ) → count ≤ length p.stations → Matches settings addresses p e
    → Matches settings addresses (commands_given_up_upto count p)
    (given_up_upto settings (front_of settings.size) addresses count e)
upto_matches settings addresses p e zero within t = t
upto_matches settings addresses p e (suc k) within t =
    one_matches settings addresses (commands_given_up_upto k p)
    (given_up_upto settings (front_of settings.size) addresses k e) k
    (subst (λ (n : ℕ). k < n) (sym (upto_number k p)) (omega (arith, within)))
    (upto_matches settings addresses p e k (omega (arith, within)) t)

pub all_matches : (settings : LinkSettings) (addresses : List ℕ) (p : Primary) (e : Exchanges)
    → Matches settings addresses p e
    → Matches settings addresses (without_commands p)
    (commands_given_up settings (front_of settings.size) addresses e)
all_matches settings addresses p e t =
    subst (λ (n : ℕ). Matches settings addresses (without_commands p)
    (given_up_upto settings (front_of settings.size) addresses n e)) t.count
    (upto_matches settings addresses p e (length p.stations) (omega arith) t)

-- ---- what stays as it was

one_reports : (front : List ℕ → Front) (address : ℕ → ℕ) (k : ℕ) (e : Exchanges)
    → reports_of_exchanges front address (given_up_at k e) ≡ reports_of_exchanges front address e
one_reports front address k e =
    ap (λ (xs : List OpenExchange). reports_of address (views front xs)) (all_marked k e)
    ∙ marked_reports front address k (all_of e)

upto_reports : (settings : LinkSettings) (front : List ℕ → Front) (addresses : List ℕ)
    (address : ℕ → ℕ) (e : Exchanges) (count : ℕ)
    → reports_of_exchanges front address (given_up_upto settings front addresses count e)
    ≡ reports_of_exchanges front address e
upto_reports settings front addresses address e zero = refl
upto_reports settings front addresses address e (suc k) =
    go (given_up_upto settings front addresses k e)
    (awaits_command_in settings front addresses k (given_up_upto settings front addresses k e))
    ∙ upto_reports settings front addresses address e k
  where
    go : (f : Exchanges) (b : Bool)
        → reports_of_exchanges front address (if b then given_up_at k f else f)
        ≡ reports_of_exchanges front address f
    go f true = one_reports front address k f
    go f false = refl

pub same_reports : (settings : LinkSettings) (front : List ℕ → Front) (addresses : List ℕ)
    (address : ℕ → ℕ) (e : Exchanges)
    → reports_of_exchanges front address (commands_given_up settings front addresses e)
    ≡ reports_of_exchanges front address e
same_reports settings front addresses address e =
    upto_reports settings front addresses address e (length addresses)

one_gaps : (front : List ℕ → Front) (addresses : List ℕ) (k : ℕ) (e : Exchanges) (station : ℕ)
    → gaps_at front addresses station (given_up_at k e) ≡ gaps_at front addresses station e
one_gaps front addresses k e station =
    ap (λ (xs : List OpenExchange). gaps_in (slice_index addresses station)
    (with_station station (views front xs))) (all_marked k e)
    ∙ past_mark (gaps_in (slice_index addresses station))
    (given_gaps (slice_index addresses station) []) front k station (all_of e)

upto_gaps : (settings : LinkSettings) (front : List ℕ → Front) (addresses : List ℕ)
    (e : Exchanges) (station count : ℕ)
    → gaps_at front addresses station (given_up_upto settings front addresses count e)
    ≡ gaps_at front addresses station e
upto_gaps settings front addresses e station zero = refl
upto_gaps settings front addresses e station (suc k) =
    go (given_up_upto settings front addresses k e)
    (awaits_command_in settings front addresses k (given_up_upto settings front addresses k e))
    ∙ upto_gaps settings front addresses e station k
  where
    go : (f : Exchanges) (b : Bool)
        → gaps_at front addresses station (if b then given_up_at k f else f)
        ≡ gaps_at front addresses station f
    go f true = one_gaps front addresses k f station
    go f false = refl

pub same_gaps : (settings : LinkSettings) (front : List ℕ → Front) (addresses : List ℕ)
    (e : Exchanges) (station : ℕ)
    → gaps_at front addresses station (commands_given_up settings front addresses e)
    ≡ gaps_at front addresses station e
same_gaps settings front addresses e station =
    upto_gaps settings front addresses e station (length addresses)
