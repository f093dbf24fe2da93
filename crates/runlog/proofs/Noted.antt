-- Which station answers, commands and mishaps are noted of.
use Rattle.std.proofs.Common.{◌≡◌, ℕ, ◌==◌, ◌<◌, ◌≤◌, Bool, true, false, List, [], ◌∷◌}
use Rattle.std.proofs.Common.{◌++◌, length, Option, Some, None, refl, ap, ◌∙◌, arith}
use Rattle.std.proofs.Common.{nat_lt, zero, suc, get_or, length-append}
use Rattle.std.proofs.Math.Seq.{get_or-append_seam, set-append_seam}
use Rattle.std.proofs.lemmas.List.{get_or_append_left}
use Rattle.std.proofs.lemmas.List.Sums.{position_or_len_is}
use Rattle.std.specs.List.{position_or_len}
use Rattle.std.specs.Prelude.{if◌then◌else◌, slice_get, slice_set}
use Rattle.ft12.specs.Spelling.{spelling}
use Rattle.gateway.specs.Log.{LineOut}
use Rattle.gateway.specs.declared.counts.Counts.{Counts}
use Rattle.link.specs.Requests.{request_frame}
use Rattle.link.specs.declared.answer.Answer.{Answer}
use Rattle.link.specs.declared.service.Asked.TheVariants as request
use Rattle.link.specs.declared.service.Service.TheVariants.{Command}
use Rattle.runlog.specs.Befallen.{IsInPlace, NoneHas}
use Rattle.runlog.specs.Exchange as exchange
use Rattle.runlog.specs.Exchange.{answer_in, awaited_of, place_of, received}
use Rattle.runlog.specs.Exchange.{traffic_after}
use Rattle.runlog.specs.Orders.{order_of}
use Rattle.runlog.specs.Passing.{Went, passed}
use Rattle.runlog.specs.Ends.{is_away}
use Rattle.runlog.specs.Stations as stations
use Rattle.runlog.specs.Stations.{address_of}
use Rattle.runlog.specs.Traffic.{answer_told, sent}
use Rattle.runlog.specs.Trails.{fate_told}
use Rattle.runlog.specs.Watching.{Watching, answer_noted_at, answer_noted_by, answered_by}
use Rattle.runlog.specs.Watching.{as_seen, counts_noted, is_repeat}
use Rattle.runlog.specs.Watching.{line_received, sent_at, sent_by, sent_to}
use Rattle.runlog.specs.Watching.{suffered_if, exchanged, unless_away}
use Rattle.runlog.specs.declared.exchange.AwaitedAnswer.{AwaitedAnswer}
use Rattle.runlog.specs.declared.exchange.AwaitedAnswer.TheVariants as awaited
use Rattle.runlog.specs.declared.fate.CommandFate.TheVariants as fate
use Rattle.runlog.specs.declared.fate.Mishap.TheVariants as mishap
use Rattle.runlog.specs.declared.stations.StationWatch.{StationWatch}
use Rattle.runlog.specs.declared.traffic.Traffic.{Traffic}
use Rattle.runlog.proofs.Addressed.{address_is, at_its_place, its_own, not_its, octets_of}
use Rattle.runlog.proofs.Answered.{awaited_so, command_so}

-- ---- Places

put_here : (before behind : List Traffic) (t v : Traffic)
    → slice_set (before ++ t ∷ behind) (length before) v ≡ before ++ v ∷ behind
put_here before behind t v = set-append_seam before t behind v

found_here : (before behind : List Traffic) (t : Traffic) (ts : List Traffic)
    → ts ≡ before ++ t ∷ behind → slice_get ts (length before) ≡ Some t
found_here before behind t ts is =
    ap (λ (l : List Traffic). slice_get l (length before)) is ∙ at_its_place before behind t

changed_here : (before behind : List Traffic) (t v : Traffic) (ts : List Traffic)
    → ts ≡ before ++ t ∷ behind → slice_set ts (length before) v ≡ before ++ v ∷ behind
changed_here before behind t v ts is =
    ap (λ (l : List Traffic). slice_set l (length before) v) is ∙ put_here before behind t v

-- ---- The station that was asked

abbrev has : (address : ℕ) → Traffic → Bool
has address t = t.address == address

others_at : (address : ℕ) (before : List Traffic) (k : ℕ) (d : Traffic) → NoneHas address before
    → k < length before → has address (get_or before k d) ≡ false
others_at address [] k d none less = absurd (omega (arith, less))
others_at address (v ∷ before) zero d none less = not_its v.address address none.0
others_at address (v ∷ before) (suc k) d none less =
    others_at address before k d none.1 (omega (arith, less))

length_before : (address : ℕ) (before behind : List Traffic) (t : Traffic)
    → NoneHas address before → t.address ≡ address
    → position_or_len (has address) (before ++ t ∷ behind) ≡ length before
length_before address before behind t none its =
    position_or_len_is (has address) (before ++ t ∷ behind) (length before) t
    (omega (arith, length-append before (t ∷ behind)))
    (λ k less. ap (has address) (get_or_append_left before (t ∷ behind) t k less)
    ∙ others_at address before k t none less)
    (λ less. ap (has address) (get_or-append_seam before t behind t)
    ∙ ap (λ a. a == address) its ∙ its_own address)

below : (n m : ℕ) → n < m → nat_lt n m ≡ true
below n m less = grind (arith, less)

by_place : (n m len : ℕ) → n ≡ m → m < len → (if nat_lt n len then Some n else None) ≡ Some m
by_place n m len is less =
    ap (λ k. if nat_lt k len then Some k else None) is
    ∙ ap (λ b. if b then Some m else None) (below m len less)

place_here : (address : ℕ) (before behind : List Traffic) (t : Traffic) (ts : List Traffic)
    → ts ≡ before ++ t ∷ behind → NoneHas address before → t.address ≡ address
    → place_of address ts ≡ Some (length before)
place_here address before behind t ts is none its =
    ap (place_of address) is
    ∙ by_place (position_or_len (has address) (before ++ t ∷ behind)) (length before)
    (length (before ++ t ∷ behind)) (length_before address before behind t none its)
    (omega (arith, length-append before (t ∷ behind)))

module _ (w : Watching) (fcb : Bool) (asdu : List ℕ) (now : ℕ)
    (before behind : List Traffic) (t : Traffic) (is : IsInPlace before behind t w)
    (none : NoneHas t.address before)
    (new : is_repeat (length before)
    (spelling w.link (request_frame t.address (request.Counted fcb (Command asdu)))) w ≡ false)
  where
    abbrev octets : List ℕ
    octets = octets_of w.link t.address (request.Counted fcb (Command asdu))

    abbrev begun_at : Option ℕ → AwaitedAnswer → Watching
    begun_at place what = record w {
      exchange = exchange.asked w.link octets place what now w.exchange;
    }

    abbrev sent_so : Watching
    sent_so =
        exchanged (place_of (address_of w.link octets) w.traffic) (awaited_of octets) octets now w

    -- whatever is asked of what is known behind it, but for the stations
    after_is : {A : Type 0} (f : Watching → A)
        → ((v : List StationWatch) (x : Watching) → f (record x { stations = v }) ≡ f x)
        → f (passed (Went now (LineOut octets)) w).0
        ≡ f (sent_to t (length before) octets now (begun_at (Some (length before)) awaited.Command))
    after_is f blind =
        blind (unless_away (is_away w.line.presence)
        (stations.asked sent_so.link octets now sent_so.stations) sent_so.stations).0 sent_so
        ∙ ap (λ place. f (sent_at place (awaited_of octets) octets now
        (begun_at place (awaited_of octets))))
        (ap (λ a. place_of a w.traffic) (address_is w.link t.address
        (request.Counted fcb (Command asdu)))
        ∙ place_here t.address before behind t w.traffic is none refl)
        ∙ ap (λ what. f (sent_at (Some (length before)) what octets now
        (begun_at (Some (length before)) what)))
        (awaited_so w.link t.address (request.Counted fcb (Command asdu)))
        ∙ ap (λ found. f (sent_by found (length before) octets now
        (begun_at (Some (length before)) awaited.Command)))
        (found_here before behind t w.traffic is)
        ∙ ap (λ b. f (if b then begun_at (Some (length before)) awaited.Command
        else sent_to t (length before) octets now
        (begun_at (Some (length before)) awaited.Command))) new

    pub command_here : IsInPlace before behind (sent (order_of w.sizes asdu) t)
        (passed (Went now (LineOut octets)) w).0
    command_here =
        after_is (λ x. x.traffic) (λ v x. refl)
        ∙ ap (λ o. slice_set w.traffic (length before) (sent (order_of w.sizes o) t))
        (command_so w.link t.address fcb asdu)
        ∙ changed_here before behind t (sent (order_of w.sizes asdu) t) w.traffic is

    pub command_told : (passed (Went now (LineOut octets)) w).0.gone
        ≡ fate_told (Some fate.Sent) (order_of w.sizes asdu) t.address now w.gone
    command_told =
        after_is (λ x. x.gone) (λ v x. refl)
        ∙ ap (λ o. fate_told (Some fate.Sent) (order_of w.sizes o) t.address now w.gone)
        (command_so w.link t.address fcb asdu)

-- ---- Answers

module _ (w : Watching) (octets : List ℕ) (before behind : List Traffic) (t : Traffic)
    (is : IsInPlace before behind t w) (asked : w.exchange.place ≡ Some (length before)) where
  abbrev heard : Watching
  heard = record w { exchange = received w.link octets w.moment w.exchange }

  noted_by : (answer : Option (Option Answer))
      → answer_in w.link t.address (received w.link octets w.moment w.exchange) ≡ answer
      → line_received octets w ≡ answered_by answer t (length before) heard
  noted_by answer found =
      ap (λ place. answer_noted_at place heard) asked
      ∙ ap (λ o. answer_noted_by o (length before) heard)
      (found_here before behind t w.traffic is)
      ∙ ap (λ a. answered_by a t (length before) heard) found

  pub answer_here : (answer : Option Answer)
      → answer_in w.link t.address (received w.link octets w.moment w.exchange) ≡ Some answer
      → IsInPlace before behind (traffic_after answer w.sizes w.moment t) (line_received octets w)
  answer_here answer found =
      ap (λ (x : Watching). x.traffic) (noted_by (Some answer) found)
      ∙ changed_here before behind t (traffic_after answer w.sizes w.moment t) w.traffic is

  pub answer_told_here : (answer : Option Answer)
      → answer_in w.link t.address (received w.link octets w.moment w.exchange) ≡ Some answer
      → (line_received octets w).trail ≡ answer_told answer w.sizes w.moment t w.trail
  answer_told_here answer found = ap (λ (x : Watching). x.trail) (noted_by (Some answer) found)

  pub no_answer_here : answer_in w.link t.address (received w.link octets w.moment w.exchange)
      ≡ None
      → IsInPlace before behind t (line_received octets w)
  no_answer_here found = ap (λ (x : Watching). x.traffic) (noted_by None found) ∙ is

-- ---- What befell

stayed : (n m : ℕ) → n ≡ m → nat_lt n m ≡ false
stayed n m same = grind (arith, same)

-- which of the three counts grew
abbrev noted_as : (spoilt mirrors lost : Bool) → Counts → Watching → Watching
noted_as spoilt mirrors lost counts w =
    as_seen counts (suffered_if spoilt (mishap.Spoilt w.exchange.spoiling)
    (suffered_if mirrors mishap.MirrorDropped (suffered_if lost mishap.GivenUp w)))

counted_as : (spoilt mirrors lost : Bool) (counts : Counts) (w : Watching)
    → nat_lt w.seen.spoilt counts.spoilt ≡ spoilt → nat_lt w.seen.mirrors counts.mirrors ≡ mirrors
    → nat_lt w.seen.lost counts.lost ≡ lost
    → counts_noted counts w ≡ noted_as spoilt mirrors lost counts w
unfolding counts_noted
counted_as spoilt mirrors lost counts w a b d =
    ap (λ x. noted_as x (nat_lt w.seen.mirrors counts.mirrors) (nat_lt w.seen.lost counts.lost)
    counts w) a
    ∙ ap (λ x. noted_as spoilt x (nat_lt w.seen.lost counts.lost) counts w) b
    ∙ ap (λ x. noted_as spoilt mirrors x counts w) d

-- nothing new was counted
pub same_counts : (counts : Counts) (w : Watching) → w.seen ≡ counts
    → counts_noted counts w ≡ as_seen counts w
same_counts counts w same =
    counted_as false false false counts w (stayed _ _ (ap (λ (x : Counts). x.spoilt) same))
    (stayed _ _ (ap (λ (x : Counts). x.mirrors) same))
    (stayed _ _ (ap (λ (x : Counts). x.lost) same))

no_more : (n m : ℕ) → n ≤ m → nat_lt m n ≡ false
no_more n m none = grind (arith, none)
