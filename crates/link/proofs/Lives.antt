-- A station's life is a run of an outstation.
use Rattle.std.proofs.Common.{◌≡◌, ℕ, ◌+◌, ◌<◌, ◌^◌, Bool, true, false, List, [], ◌∷◌, ◌++◌, length}
use Rattle.std.proofs.Common.{Option, Some, None, refl, sym, ap, subst, ◌∙◌, append_assoc, arith}
use Rattle.std.proofs.Common.{if◌then◌else◌}
use Rattle.std.proofs.lemmas.List.{append-nil}
use Rattle.ft12.specs.declared.frame.Frame.{Frame}
use Rattle.link.specs.Answers.{Service, Class1, Class2, Command, Asked, Status, Reset, Counted}
use Rattle.link.specs.Outstation.{Effect, Given, Accepted, Turn, OutstationRun}
use Rattle.link.specs.Outstation.{all_done}
use Rattle.link.specs.Requests.{Reading, Foreign, Unknown, Asks, reading_of}
use Rattle.link.specs.Secondary.{Secondary, Served, received_reading, outstation_of, served}
use Rattle.link.specs.Secondary.{served_counted, served_new, served_class1, served_class2}
use Rattle.link.specs.Secondary.{unchanged, is_same}
use Rattle.link.specs.Life.{Call, Report1, Report2, Receive, called, after, request_asked}
use Rattle.link.specs.Life.{requests_received, turn_asked, turns_in, given1_at, given2_at, given1}
use Rattle.link.specs.Life.{given2, reported1, reported2, u64_saturate}
use Rattle.link.specs.Delivery.{reports, commands}
use Rattle.link.proofs.Serving.{served_step, kept_address, kept_size}

pub life_runs : (s : Secondary) (calls : List Call) →
    OutstationRun s.address (outstation_of s) (requests_received s.address calls) (turns_in s calls)
    (outstation_of (after s calls))
life_runs s [] = refl
life_runs s (Report1 true report ∷ calls) =
    life_runs (record s { class1 = s.class1 ++ report ∷ [] }) calls
life_runs s (Report1 false report ∷ calls) = life_runs s calls
life_runs s (Report2 true report ∷ calls) =
    life_runs (record s { class2 = s.class2 ++ report ∷ [] }) calls
life_runs s (Report2 false report ∷ calls) = life_runs s calls
life_runs s (Receive granted None ∷ calls) = life_runs s calls
life_runs s (Receive granted (Some frame) ∷ calls) =
    go (λ t. life_runs t calls) (reading_of s.address frame)
  where
    go : ((t : Secondary)
        → OutstationRun t.address (outstation_of t) (requests_received t.address calls)
        (turns_in t calls) (outstation_of (after t calls))) → (reading : Reading)
        → OutstationRun s.address (outstation_of s) (request_asked reading
        ++ requests_received s.address calls)
        (turn_asked granted s reading ++ turns_in (received_reading granted s reading).state calls)
        (outstation_of (after (received_reading granted s reading).state calls))
    go rest Foreign = rest s
    go rest Unknown = rest s
    go rest (Asks request) = (
      outstation_of (served granted s request).state,
      served_step granted s request,
      subst (λ (a : ℕ). OutstationRun a (outstation_of (served granted s request).state)
          (requests_received a calls)
          (turns_in (served granted s request).state calls)
          (outstation_of (after (served granted s request).state calls)))
          (kept_address granted s request) (rest (served granted s request).state),
    )

-- what one request does to the reports and commands
pub record Accounts (s : Secondary) (request : Asked) (by : Served) : Type 0 where
  pub class1 : given1_at request by.turn ++ by.state.class1 ≡ s.class1
  pub class2 : given2_at request by.turn ++ by.state.class2 ≡ s.class2
  pub accepted : s.accepted ++ commands by.turn.done ≡ by.state.accepted
  pub given : by.state.given ≡ u64_saturate (s.given + length (reports by.turn.done))

same_count : (n : ℕ) → n < 2 ^ 64 → n ≡ u64_saturate (n + 0)
same_count n lt = omega arith

nothing_done : (s : Secondary) (request : Asked) (answer : Option Frame) → s.given < 2 ^ 64
    → Accounts s request (unchanged s answer)
nothing_done s Status answer lt = record {
  class1 = refl;
  class2 = refl;
  accepted = append-nil s.accepted;
  given =
      same_count s.given lt;
}
nothing_done s Reset answer lt = record {
  class1 = refl;
  class2 = refl;
  accepted = append-nil s.accepted;
  given =
      same_count s.given lt;
}
nothing_done s (Counted fcb Class1) answer lt = record {
  class1 = refl;
  class2 = refl;
  accepted =
      append-nil s.accepted;
  given = same_count s.given lt;
}
nothing_done s (Counted fcb Class2) answer lt = record {
  class1 = refl;
  class2 = refl;
  accepted =
      append-nil s.accepted;
  given = same_count s.given lt;
}
nothing_done s (Counted fcb (Command asdu)) answer lt =
    record {
      class1 = refl;
      class2 = refl;
      accepted = append-nil s.accepted;
      given =
          same_count s.given lt;
    }

account_class1 : (s : Secondary) (fcb : Bool) (waiting : List (List ℕ)) → s.class1 ≡ waiting
    → s.given < 2 ^ 64
    → Accounts s (Counted fcb Class1) (served_class1 s fcb waiting)
account_class1 s fcb [] e lt = record {
  class1 = refl;
  class2 = refl;
  accepted = append-nil s.accepted;
  given =
      same_count s.given lt;
}
account_class1 s fcb (r ∷ rs) e lt = record {
  class1 = sym e;
  class2 = refl;
  accepted = append-nil s.accepted;
  given =
      refl;
}

account_class2 : (s : Secondary) (fcb : Bool) (waiting : List (List ℕ)) → s.class2 ≡ waiting
    → s.given < 2 ^ 64
    → Accounts s (Counted fcb Class2) (served_class2 s fcb waiting)
account_class2 s fcb [] e lt = record {
  class1 = refl;
  class2 = refl;
  accepted = append-nil s.accepted;
  given =
      same_count s.given lt;
}
account_class2 s fcb (r ∷ rs) e lt = record {
  class1 = refl;
  class2 = sym e;
  accepted = append-nil s.accepted;
  given =
      refl;
}

account_new : (granted : Bool) (s : Secondary) (fcb : Bool) (service : Service) → s.given < 2 ^ 64
    → Accounts s (Counted fcb service) (served_new granted s fcb service)
account_new granted s fcb Class1 lt = account_class1 s fcb s.class1 refl lt
account_new granted s fcb Class2 lt = account_class2 s fcb s.class2 refl lt
account_new true s fcb (Command asdu) lt = record {
  class1 = refl;
  class2 = refl;
  accepted = refl;
  given =
      same_count s.given lt;
}
account_new false s fcb (Command asdu) lt = record {
  class1 = refl;
  class2 = refl;
  accepted =
      append-nil s.accepted;
  given = same_count s.given lt;
}

account_counted : (granted : Bool) (s : Secondary) (bit : Option Bool) (fcb : Bool)
    (service : Service)
    → s.given < 2 ^ 64 → Accounts s (Counted fcb service) (served_counted granted s bit fcb service)
account_counted granted s None fcb service lt = nothing_done s (Counted fcb service) None lt
account_counted granted s (Some bit) fcb service lt = go (is_same fcb bit)
  where
    go : (b : Bool) → Accounts s (Counted fcb service)
        (if b then unchanged s s.last else served_new granted s fcb service)
    go true = nothing_done s (Counted fcb service) s.last lt
    go false = account_new granted s fcb service lt

pub accounts : (granted : Bool) (s : Secondary) (request : Asked) → s.given < 2 ^ 64
    → Accounts s request (served granted s request)
accounts granted s Status lt = record {
  class1 = refl;
  class2 = refl;
  accepted = append-nil s.accepted;
  given =
      same_count s.given lt;
}
accounts granted s Reset lt = record {
  class1 = refl;
  class2 = refl;
  accepted = append-nil s.accepted;
  given =
      same_count s.given lt;
}
accounts granted s (Counted fcb service) lt = account_counted granted s s.bit fcb service lt

-- what its life does to them
pub record Ledger (s : Secondary) (calls : List Call) : Type 0 where
  pub class1 : given1 (requests_received s.address calls) (turns_in s calls)
      ++ (after s calls).class1
      ≡ s.class1
      ++ reported1 calls
  pub class2 : given2 (requests_received s.address calls) (turns_in s calls)
      ++ (after s calls).class2
      ≡ s.class2
      ++ reported2 calls
  pub accepted : s.accepted ++ commands (all_done (turns_in s calls)) ≡ (after s calls).accepted
  pub given : (after s calls).given
      ≡ u64_saturate (s.given + length (reports (all_done (turns_in s calls))))

commands_more : (a b : List Effect) → commands (a ++ b) ≡ commands a ++ commands b
commands_more [] b = refl
commands_more (Given r ∷ a) b = commands_more a b
commands_more (Accepted r ∷ a) b = ap (λ (l : List (List ℕ)). r ∷ l) (commands_more a b)

reports_more : (a b : List Effect) → length (reports (a ++ b)) ≡ length (reports a)
    + length (reports b)
reports_more [] b = omega arith
reports_more (Given r ∷ a) b = omega (arith, reports_more a b)
reports_more (Accepted r ∷ a) b = reports_more a b

count_twice : (g m n a b c : ℕ) → m ≡ u64_saturate (g + a) → n ≡ u64_saturate (m + b) → c ≡ a + b
    → n ≡ u64_saturate (g + c)
count_twice g m n a b c p q r = omega arith

pub small_count : (n : ℕ) → u64_saturate n < 2 ^ 64
small_count n = omega arith

after_request : (granted : Bool) (s : Secondary) (request : Asked) (calls : List Call)
    → s.given < 2 ^ 64 →
    ((t : Secondary) → t.given < 2 ^ 64 → Ledger t calls) →
    (given1 (request ∷ requests_received s.address calls) ((served granted s request).turn
    ∷ turns_in (served granted s request).state calls)
    ++ (after (served granted s request).state calls).class1
    ≡ s.class1 ++ reported1 calls)
    × (given2 (request ∷ requests_received s.address calls) ((served granted s request).turn
    ∷ turns_in (served granted s request).state calls)
    ++ (after (served granted s request).state calls).class2
    ≡ s.class2 ++ reported2 calls)
    × (s.accepted ++ commands ((served granted s request).turn.done
    ++ all_done (turns_in (served granted s request).state calls))
    ≡ (after (served granted s request).state calls).accepted)
    × ((after (served granted s request).state calls).given
    ≡ u64_saturate (s.given + length (reports ((served granted s request).turn.done
    ++ all_done (turns_in (served granted s request).state calls)))))
after_request granted s request calls lt rest =
    let by : Served = served granted s request in
    let now : Accounts s request by = accounts granted s request lt in
    let small : by.state.given < 2 ^ 64 = subst (λ (n : ℕ). n < 2 ^ 64) (sym now.given)
    (small_count (s.given + length (reports by.turn.done))) in
    let later : Ledger by.state calls = rest by.state small in
    let turns : List Turn = turns_in by.state calls in
    let end : Secondary = after by.state calls in
    let at : by.state.address ≡ s.address = kept_address granted s request in (
      append_assoc (given1_at request by.turn) (given1 (requests_received s.address calls) turns)
          end.class1
          ∙ ap (λ (l : List (List ℕ)). given1_at request by.turn ++ l)
          (subst (λ (a : ℕ). given1 (requests_received a calls) turns ++ end.class1
          ≡ by.state.class1
          ++ reported1 calls) at later.class1)
          ∙ sym (append_assoc (given1_at request by.turn) by.state.class1 (reported1 calls))
          ∙ ap (λ (l : List (List ℕ)). l ++ reported1 calls) now.class1,
      append_assoc (given2_at request by.turn) (given2 (requests_received s.address calls) turns)
          end.class2
          ∙ ap (λ (l : List (List ℕ)). given2_at request by.turn ++ l)
          (subst (λ (a : ℕ). given2 (requests_received a calls) turns ++ end.class2
          ≡ by.state.class2
          ++ reported2 calls) at later.class2)
          ∙ sym (append_assoc (given2_at request by.turn) by.state.class2 (reported2 calls))
          ∙ ap (λ (l : List (List ℕ)). l ++ reported2 calls) now.class2,
      ap (λ (l : List (List ℕ)). s.accepted ++ l) (commands_more by.turn.done (all_done turns))
          ∙ sym (append_assoc s.accepted (commands by.turn.done) (commands (all_done turns)))
          ∙ ap (λ (l : List (List ℕ)). l ++ commands (all_done turns)) now.accepted
          ∙ later.accepted,
      count_twice s.given by.state.given end.given (length (reports by.turn.done))
          (length (reports (all_done turns)))
          (length (reports (by.turn.done ++ all_done turns))) now.given later.given
          (reports_more by.turn.done (all_done turns)),
    )

pub ledger : (s : Secondary) (calls : List Call) → s.given < 2 ^ 64 → Ledger s calls
ledger s [] lt = record {
  class1 = sym (append-nil s.class1);
  class2 = sym (append-nil s.class2);
  accepted =
      append-nil s.accepted;
  given = same_count s.given lt;
}
ledger s (Report1 true report ∷ calls) lt =
    let rest = ledger (record s { class1 = s.class1 ++ report ∷ [] }) calls lt in
    record {
      class1 = rest.class1 ∙ append_assoc s.class1 (report ∷ []) (reported1 calls);
      class2 =
          rest.class2;
      accepted = rest.accepted;
      given = rest.given;
    }
ledger s (Report1 false report ∷ calls) lt =
    let rest = ledger s calls lt in record {
      class1 = rest.class1;
      class2 = rest.class2;
      accepted =
          rest.accepted;
      given = rest.given;
    }
ledger s (Report2 true report ∷ calls) lt =
    let rest = ledger (record s { class2 = s.class2 ++ report ∷ [] }) calls lt in
    record {
      class1 = rest.class1;
      class2 = rest.class2
          ∙ append_assoc s.class2 (report ∷ []) (reported2 calls);
      accepted = rest.accepted;
      given = rest.given;
    }
ledger s (Report2 false report ∷ calls) lt =
    let rest = ledger s calls lt in record {
      class1 = rest.class1;
      class2 = rest.class2;
      accepted =
          rest.accepted;
      given = rest.given;
    }
ledger s (Receive granted None ∷ calls) lt =
    let rest = ledger s calls lt in record {
      class1 = rest.class1;
      class2 = rest.class2;
      accepted =
          rest.accepted;
      given = rest.given;
    }
ledger s (Receive granted (Some frame) ∷ calls) lt =
    let all = go (λ t small. ledger t calls small) (reading_of s.address frame) in
    record { class1 = all.0; class2 = all.1; accepted = all.2; given = all.3 }
  where
    go : ((t : Secondary) → t.given < 2 ^ 64 → Ledger t calls) → (reading : Reading) →
        (given1 (request_asked reading ++ requests_received s.address calls)
        (turn_asked granted s reading
        ++ turns_in (received_reading granted s reading).state calls)
        ++ (after (received_reading granted s reading).state calls).class1
        ≡ s.class1 ++ reported1 calls)
        × (given2 (request_asked reading ++ requests_received s.address calls)
        (turn_asked granted s reading
        ++ turns_in (received_reading granted s reading).state calls)
        ++ (after (received_reading granted s reading).state calls).class2
        ≡ s.class2 ++ reported2 calls)
        × (s.accepted ++ commands (all_done (turn_asked granted s reading
        ++ turns_in (received_reading granted s reading).state calls))
        ≡ (after (received_reading granted s reading).state calls).accepted)
        × ((after (received_reading granted s reading).state calls).given
        ≡ u64_saturate (s.given + length
        (reports (all_done (turn_asked granted s reading
        ++ turns_in (received_reading granted s reading).state calls)))))
    go rest Foreign = let l = rest s lt in (l.class1, l.class2, l.accepted, l.given)
    go rest Unknown = let l = rest s lt in (l.class1, l.class2, l.accepted, l.given)
    go rest (Asks request) = after_request granted s request calls lt rest

-- its address and its size of addresses stay
reading_stays : (granted : Bool) (s : Secondary) (reading : Reading) →
    ((received_reading granted s reading).state.address ≡ s.address)
    × ((received_reading granted s reading).state.size ≡ s.size)
reading_stays granted s Foreign = (refl, refl)
reading_stays granted s Unknown = (refl, refl)
reading_stays granted s (Asks request) =
    (kept_address granted s request, kept_size granted s request)

call_stays : (s : Secondary) (call : Call) → ((called s call).address ≡ s.address)
    × ((called s call).size ≡ s.size)
call_stays s (Report1 true report) = (refl, refl)
call_stays s (Report1 false report) = (refl, refl)
call_stays s (Report2 true report) = (refl, refl)
call_stays s (Report2 false report) = (refl, refl)
call_stays s (Receive granted None) = (refl, refl)
call_stays s (Receive granted (Some frame)) = reading_stays granted s (reading_of s.address frame)

pub stays : (s : Secondary) (calls : List Call) → ((after s calls).address ≡ s.address)
    × ((after s calls).size ≡ s.size)
stays s [] = (refl, refl)
stays s (call ∷ calls) =
    let now = call_stays s call in
    let rest = stays (called s call) calls in (rest.0 ∙ now.0, rest.1 ∙ now.1)
