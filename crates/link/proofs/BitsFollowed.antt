-- The frame count bit from one exchange to the next.
use Rattle.std.proofs.Common.{◌≡◌, ℕ, suc, nat_lt, Bool, true, false, List, [], ◌∷◌, Option}
use Rattle.std.proofs.Common.{Some, None, refl, sym, subst, ◌∙◌, ◌≢◌, if◌then◌else◌}
use Rattle.link.specs.Answers.{Service, Asked, Status, Reset, Counted, Answer, Ready, Confirmed}
use Rattle.link.specs.Answers.{Busy, Report, NoData, Unable}
use Rattle.link.specs.Exchanges.{Exchange, answer_to}
use Rattle.link.specs.Procedure.{LinkSettings, Link, Down, Available, Next, Held, after, MaySend}
use Rattle.link.specs.Procedure.{after_outcome, missed_so_far, KeepsFrameCountBit}
use Rattle.link.specs.Bits.{FollowsBy, MayFollowBit, BitsFollow, latest_of}
use Rattle.link.specs.Procedure.{Silence, probed_so_far, is_kept, spent_silence, short_silence}

-- a service behind one that had no answer in time
held_by : (spent short : Silence) (is_last hold sent fcb : Bool) (before service : Service)
    → MaySend (if is_last then (if hold then Held sent before spent else Down)
    else Held sent before short) (Counted fcb service) → (fcb ≡ sent) × (service ≡ before)
held_by spent short true true sent fcb before service may = may
held_by spent short true false sent fcb before service may = absurd may
held_by spent short false hold sent fcb before service may = may

-- a service that was served
served_by : (answer : Answer) (sent fcb : Bool) (before service : Service) (link : Link)
    (settings : LinkSettings) (closed : Bool)
    → MaySend (after_outcome settings (Some answer) (Counted sent before) closed link)
    (Counted fcb service)
    → FollowsBy (Counted sent before) (Some answer) fcb service
served_by Unable sent fcb before service link settings closed may = absurd may
served_by Ready sent fcb before service link settings closed may = ((λ e. cc), may)
served_by Confirmed sent fcb before service link settings closed may = ((λ e. cc), may)
served_by Busy sent fcb before service link settings closed may = ((λ e. cc), may)
served_by (Report asdu) sent fcb before service link settings closed may = ((λ e. cc), may)
served_by NoData sent fcb before service link settings closed may = ((λ e. cc), may)

-- behind a status what comes without it, whatever it is answered
status_stays : (m : Option Answer) (closed fcb : Bool) (service : Service) (link : Link)
    (settings : LinkSettings) → MaySend link Status
    → MaySend (after_outcome settings m Status closed link) (Counted fcb service)
    → MaySend link (Counted fcb service)
status_stays None closed fcb service Down settings before may = may
status_stays None closed fcb service Available settings before may = may
status_stays None closed fcb service (Next bit) settings before may = absurd before
status_stays None closed fcb service (Held bit held silence) settings before may = may
status_stays (Some Ready) closed fcb service Down settings before may = may
status_stays (Some Ready) closed fcb service Available settings before may = may
status_stays (Some Ready) closed fcb service (Next bit) settings before may = absurd before
status_stays (Some Ready) closed fcb service (Held bit held silence) settings before may = may
status_stays (Some Unable) closed fcb service link settings before may = absurd may
status_stays (Some Confirmed) closed fcb service link settings before may = may
status_stays (Some Busy) closed fcb service link settings before may = may
status_stays (Some (Report asdu)) closed fcb service link settings before may = may
status_stays (Some NoData) closed fcb service link settings before may = may

-- behind a reset, only if that was confirmed
reset_by : (m : Option Answer) (closed fcb : Bool) (service : Service) (link : Link)
    (settings : LinkSettings) → MaySend link Reset
    → MaySend (after_outcome settings m Reset closed link) (Counted fcb service)
    → (m ≡ Some Confirmed) × (fcb ≡ true)
reset_by None closed fcb service link settings before may = absurd may
reset_by (Some Confirmed) closed fcb service link settings before may = (refl, may)
reset_by (Some Ready) closed fcb service Available settings before may = absurd may
reset_by (Some Ready) closed fcb service Down settings before may = absurd before
reset_by (Some Ready) closed fcb service (Next bit) settings before may = absurd before
reset_by (Some Ready) closed fcb service (Held bit held missed) settings before may = absurd before
reset_by (Some Busy) closed fcb service Available settings before may = absurd may
reset_by (Some Busy) closed fcb service Down settings before may = absurd before
reset_by (Some Busy) closed fcb service (Next bit) settings before may = absurd before
reset_by (Some Busy) closed fcb service (Held bit held missed) settings before may = absurd before
reset_by (Some (Report asdu)) closed fcb service Available settings before may = absurd may
reset_by (Some (Report asdu)) closed fcb service Down settings before may = absurd before
reset_by (Some (Report asdu)) closed fcb service (Next bit) settings before may = absurd before
reset_by (Some (Report asdu)) closed fcb service (Held bit held missed) settings before may =
    absurd before
reset_by (Some NoData) closed fcb service Available settings before may = absurd may
reset_by (Some NoData) closed fcb service Down settings before may = absurd before
reset_by (Some NoData) closed fcb service (Next bit) settings before may = absurd before
reset_by (Some NoData) closed fcb service (Held bit held missed) settings before may = absurd before
reset_by (Some Unable) closed fcb service Available settings before may = absurd may
reset_by (Some Unable) closed fcb service Down settings before may = absurd before
reset_by (Some Unable) closed fcb service (Next bit) settings before may = absurd before
reset_by (Some Unable) closed fcb service (Held bit held missed) settings before may = absurd before

follows_by : (request : Asked) (m : Option Answer) (closed fcb : Bool) (service : Service)
    (link : Link) (settings : LinkSettings) → request ≢ Status → MaySend link request
    → MaySend (after_outcome settings m request closed link) (Counted fcb service)
    → FollowsBy request m fcb service
follows_by Status m closed fcb service link settings other before may = absurd (other refl)
follows_by Reset m closed fcb service link settings other before may =
    reset_by m closed fcb service link settings before may
follows_by (Counted sent earlier) (Some answer) closed fcb service link settings other before may =
    served_by answer sent fcb earlier service link settings closed may
follows_by (Counted sent earlier) None true fcb service link settings other before may =
    held_by (spent_silence settings (probed_so_far link))
    (short_silence (suc (missed_so_far link)) (probed_so_far link))
    (nat_lt settings.retries (suc (missed_so_far link)))
    (is_kept settings (probed_so_far link)) sent fcb earlier service may
follows_by (Counted sent earlier) None false fcb service link settings other before may = may

-- none behind a link that was given up
marked_by : (given_up fcb : Bool) (service : Service) (later : Link)
    → MaySend (if given_up then Down else later) (Counted fcb service)
    → MaySend later (Counted fcb service)
marked_by true fcb service later may = absurd may
marked_by false fcb service later may = may

-- What a link may be sent is what may follow.
abbrev FollowsIt : (station : ℕ) → Option Exchange → Link → Type 0
FollowsIt station latest link =
    (fcb : Bool) (service : Service) → MaySend link (Counted fcb service)
    → MayFollowBit station latest (Counted fcb service)

one_follows : (settings : LinkSettings) (station : ℕ) (link : Link) (x : Exchange)
    (latest : Option Exchange) → MaySend link x.request → FollowsIt station latest link
    → FollowsIt station (latest_of x.request x latest) (after settings station x link)
one_follows settings station link x latest before follows fcb service may = go x.request refl
  where
    sent : MaySend (after_outcome settings (answer_to station x) x.request x.closed link)
        (Counted fcb service)
    sent = marked_by x.given_up fcb service _ may

    so : x.request ≢ Status → FollowsBy x.request (answer_to station x) fcb service
    so other = follows_by x.request (answer_to station x) x.closed fcb service link settings other
        before sent

    go : (r : Asked) → x.request ≡ r
        → MayFollowBit station (latest_of r x latest) (Counted fcb service)
    go Status is = follows fcb service (status_stays (answer_to station x) x.closed fcb service link
        settings (subst (λ (r : Asked). MaySend link r) is before)
        (subst (λ (r : Asked). MaySend (after_outcome settings (answer_to station x) r x.closed
        link) (Counted fcb service)) is sent))
    go Reset is = so (λ e. let no : Reset ≡ Status = sym is ∙ e in cc)
    go (Counted bit asked) is =
        so (λ e. let no : Counted bit asked ≡ Status = sym is ∙ e in cc)

-- and so may any other request
request_follows : (station : ℕ) (latest : Option Exchange) (link : Link) (request : Asked)
    → MaySend link request → FollowsIt station latest link → MayFollowBit station latest request
request_follows station latest link Status may follows = tt
request_follows station latest link Reset may follows = tt
request_follows station latest link (Counted fcb service) may follows = follows fcb service may

pub bits_follow : (settings : LinkSettings) (station : ℕ) (link : Link) (latest : Option Exchange)
    (xs : List Exchange) → ((fcb : Bool) (service : Service) → MaySend link (Counted fcb service)
    → MayFollowBit station latest (Counted fcb service))
    → KeepsFrameCountBit settings station link xs → BitsFollow station latest xs
bits_follow settings station link latest [] follows keeps = tt
bits_follow settings station link latest (x ∷ xs) follows keeps = (
  request_follows station latest link x.request keeps.0 follows,
  bits_follow settings station (after settings station x link) (latest_of x.request x latest) xs
      (one_follows settings station link x latest keeps.0 follows) keeps.1,
)
