-- A request goes out only while no exchange is outstanding.
use Rattle.std.proofs.Common.{false, ◌≡◌, ℕ, ◌<◌, slice_index, Bool, List, Option, Some, None, ap}
use Rattle.std.proofs.Common.{subst, sym}
use Rattle.std.proofs.Common.{◌∙◌, inl, inr}
use Rattle.ft12.specs.declared.frame.Front.{Front}
use Rattle.ft12.specs.Spelling.{spelling}
use Rattle.link.specs.Exchanges.{OpenExchange, Exchanges, Sending, IsOutstanding, view}
use Rattle.link.specs.Procedure.{LinkSettings, Link, Down, Available, Next, Held, MaySend}
use Rattle.link.specs.Answers.{Service, Class1, Class2, Command, Asked, Status, Reset, Counted}
use Rattle.link.specs.Holding.{FitsLink}
use Rattle.link.specs.Runs.{AreUserData}
use Rattle.ft12.specs.declared.frame.LinkSize.{LinkSize}
use Rattle.link.proofs.Known.{IsKnownCommand, IsKnownChoice, choice_known}
use Rattle.link.specs.Requests.{request_frame, FitsAddress, FitsAsked, FitsService, IsUserData}
use Rattle.link.specs.Turns.{Chosen, station_at}
use Rattle.link.specs.Primary.{Outstanding, Primary, choice, sending_by, sending_from, sending}
use Rattle.link.specs.Primary.{request_of}
use Rattle.link.specs.Matching.{IsCurrent, MatchesBy, IsFittingSending}
use Rattle.link.proofs.Fitting.{station_fits}
use Rattle.link.proofs.Choice.{MayChooseIt, choice_may}
use Rattle.link.proofs.Matching.{said_now}
use Rattle.link.specs.Turns.{CommandsWaiting}
use Rattle.link.specs.Runs.{FitsLine}

pub sending_fits : (front : List ℕ → Front) (settings : LinkSettings) (addresses : List ℕ)
    (p : Primary)
    (e : Exchanges) (may_poll : Bool) (waiting : CommandsWaiting) (s : Sending) →
    FitsLine p may_poll waiting →
    MatchesBy front settings addresses p e → sending p may_poll waiting ≡ Some s
    → IsFittingSending settings addresses s
sending_fits front settings addresses p e may_poll waiting s carried t is = go p.outstanding is
  where
    chosen : (c : Option Chosen) → MayChooseIt p.stations c → sending_by c ≡ Some s
        → IsFittingSending settings addresses s
    chosen None may no' = cc
    chosen (Some c) may some =
        let same : record { station = c.station; request = c.wanted.request } ≡ s = cc in
        subst (λ (z : Sending). IsFittingSending settings addresses z) same
        (subst (λ (w : LinkSettings). IsFittingSending w addresses
        (record { station = c.station; request = c.wanted.request })) t.settings_are
        (record {
          station = subst (λ (n : ℕ). c.station < n) t.count may.within;
          address = subst (λ (a : ℕ). FitsAddress p.settings.size a) (t.address c.station)
              (station_fits p.settings.size p.stations c.station may.within
              t.fits.stations).address;
          request =
              subst (λ (z : Sending). FitsAsked p.settings.size z.request) (sym same)
              (carried s is);
        }))

    go : (o : Option Outstanding) → sending_from p o may_poll waiting ≡ Some s
        → IsFittingSending settings addresses s
    go (Some o) none = cc
    go None some = chosen (choice p may_poll waiting) (choice_may p may_poll waiting t.fits) some

request_carried : (size : LinkSize) (link : Link) (command : Option (List ℕ)) (request : Asked)
    → IsKnownCommand link command request → MaySend link request → FitsLink size link
    → ((asdu : List ℕ) → command ≡ Some asdu → IsUserData size asdu) → FitsAsked size request
request_carried size link command Status known may held carries = tt
request_carried size link command Reset known may held carries = tt
request_carried size link command (Counted sent Class1) known may held carries = tt
request_carried size link command (Counted sent Class2) known may held carries = tt
request_carried size link command (Counted sent (Command asdu)) (inr waits) may held carries =
    carries asdu waits
request_carried size (Held fcb service missed) command (Counted sent (Command asdu)) (inl is) may
    held carries =
    subst (λ (v : Service). FitsService size v) (sym may.1) held
request_carried size Down command (Counted sent (Command asdu)) (inl is) may held carries = cc
request_carried size Available command (Counted sent (Command asdu)) (inl is) may held carries = cc
request_carried size (Next fcb) command (Counted sent (Command asdu)) (inl is) may held carries = cc

-- What goes out fits the line if what waits does.
pub sending_carried : (front : List ℕ → Front) (settings : LinkSettings) (addresses : List ℕ)
    (p : Primary) (e : Exchanges) (may_poll : Bool) (waiting : CommandsWaiting)
    → AreUserData settings.size waiting → MatchesBy front settings addresses p e
    → FitsLine p may_poll waiting
sending_carried front settings addresses p e may_poll waiting carries t =
    λ s is. go s p.outstanding is
  where
    all : AreUserData p.settings.size waiting
    all = subst (λ (w : LinkSettings). AreUserData w.size waiting) (sym t.settings_are) carries

    chosen : (s : Sending) (c : Option Chosen) → MayChooseIt p.stations c
        → IsKnownChoice p.stations waiting c → sending_by c ≡ Some s
        → FitsAsked p.settings.size s.request
    chosen s None may known no' = cc
    chosen s (Some c) may known some =
        let same : record { station = c.station; request = c.wanted.request } ≡ s = cc in
        subst (λ (z : Sending). FitsAsked p.settings.size z.request) same
        (request_carried p.settings.size (station_at p.stations c.station).link
        (waiting c.station) c.wanted.request known may.may
        (station_fits p.settings.size p.stations c.station may.within t.fits.stations).link
        (all c.station))

    go : (s : Sending) (o : Option Outstanding) → sending_from p o may_poll waiting ≡ Some s
        → FitsAsked p.settings.size s.request
    go s (Some o) none = cc
    go s None some =
        chosen s (choice p may_poll waiting) (choice_may p may_poll waiting t.fits)
        (choice_known p may_poll waiting) some

pub sending_octets : (front : List ℕ → Front) (settings : LinkSettings) (addresses : List ℕ)
    (p : Primary)
    (e : Exchanges) (s : Sending) → MatchesBy front settings addresses p e →
    (request_of p s).octets.items
    ≡ spelling settings.size (request_frame (slice_index addresses s.station) s.request)
sending_octets front settings addresses p e s t =
    ap
    (λ (w : LinkSettings). spelling w.size (request_frame (station_at p.stations s.station).address
    s.request))
    t.settings_are
    ∙ ap (λ (a : ℕ). spelling settings.size (request_frame a s.request)) (t.address s.station)

pub sending_alone : (front : List ℕ → Front) (settings : LinkSettings) (addresses : List ℕ)
    (p : Primary)
    (e : Exchanges) (may_poll : Bool) (waiting : CommandsWaiting) (s : Sending) (x : OpenExchange) →
    MatchesBy front settings addresses p e → sending p may_poll waiting ≡ Some s → e.current
    ≡ Some x →
    IsOutstanding (slice_index addresses x.station) (view front x).exchange → ⊥
sending_alone front settings addresses p e may_poll waiting s x t is latest out =
    go p.outstanding is
    (subst (λ (c : Option OpenExchange). IsCurrent front addresses p.turn p.outstanding c) latest
    t.current)
  where
    go : (o : Option Outstanding) → sending_from p o may_poll waiting ≡ Some s
        → IsCurrent front addresses p.turn o (Some x) → ⊥
    go (Some o) none so = cc
    go None some (inl closed) = let no : x.closed ≡ false = out.1 in cc
    go None some (inr (inl given)) = let no : x.given_up ≡ false = out.2 in cc
    go None some (inr (inr a)) = let now = said_now front (slice_index addresses x.station) x
        (Some a.0)
        a.1 in
        let none = out.0 in cc
