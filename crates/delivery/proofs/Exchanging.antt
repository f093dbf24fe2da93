-- What an answer makes of the steps of commands, as the exchanges show them and as the course logs
-- them.
use Rattle.std.specs.Prelude.{◌==◌, ◌||◌, option_and_then}
use Rattle.link.specs.Answers.{answer_of}
use Rattle.std.proofs.Common.{◌≡◌, ℕ, Bool, true, false, List, [], ◌∷◌, ◌++◌, map, Option, Some}
use Rattle.std.proofs.Common.{None, refl, ap, sym, ◌∙◌, append_assoc, eq-eqb, if◌then◌else◌}
use Rattle.std.proofs.lemmas.List.{append-nil}
use Rattle.std.proofs.lemmas.Bool.{eqb-true}
use Rattle.ft12.specs.declared.frame.Frame.{Frame}
use Rattle.ft12.specs.declared.frame.Front.{Front}
use Rattle.link.specs.declared.service.Service.{Service}
use Rattle.link.specs.declared.service.Service.TheVariants.{Class1, Class2, Command}
use Rattle.link.specs.declared.service.Asked.{Asked}
use Rattle.link.specs.declared.service.Asked.TheVariants.{Status, Reset, Counted}
use Rattle.link.specs.declared.answer.Answer.{Answer}
use Rattle.link.specs.declared.answer.Answer.TheVariants as answer
use Rattle.link.specs.declared.outcome.Outcome.{Outcome}
use Rattle.link.specs.declared.outcome.Outcome.TheVariants as outcome
use Rattle.link.specs.Exchanges.{Exchange, LineExchange, OpenExchange, Exchanges, all_of, answer_to}
use Rattle.link.specs.Exchanges.{view, views, with_station}
use Rattle.link.specs.declared.settings.LinkSettings.{LinkSettings}
use Rattle.link.specs.Procedure.{held}
use Rattle.link.specs.declared.procedure.Silence.{Silence}
use Rattle.link.specs.Primary.{outcome_of}
use Rattle.link.specs.Delivery.{pending_by, pending_after, first_sending}
use Rattle.command.specs.History.{History, Sent, Accepted, Refused, GivenUp}
use Rattle.delivery.specs.Commands.{LineStep, Begun, Confirmed, Busy, Lost, said_of, goes_down}
use Rattle.delivery.specs.Commands.{steps_in, first_sendings, last_sent, steps_logged, sent_to}
use Rattle.delivery.specs.Commands.{unmissed}
use Rattle.delivery.proofs.Steps.{pending_more, missed_after, steps_more, sendings_more, AreProper}
use Rattle.delivery.proofs.Steps.{none_said, still_up}
use Rattle.delivery.proofs.History.{LineLogged, line_logged}

pub other_place : (a b : ℕ) → (a == b) ≡ false → (b == a) ≡ false
other_place a b h = go (b == a) refl
  where
    go : (c : Bool) → (b == a) ≡ c → (b == a) ≡ false
    go false e = e
    go true e = let same : b ≡ a = eqb-true b a e in let met : (a == b) ≡ true =
        eq-eqb a b (sym same) in cc

-- The exchanges with a station

abbrev pub exchanges_at : (List ℕ → Front) → ℕ → Exchanges → List Exchange
exchanges_at front i e = with_station i (views front (all_of e))

pub at_append : (front : List ℕ → Front) (i : ℕ) (xs ys : List OpenExchange)
    → with_station i (views front (xs ++ ys)) ≡ with_station i (views front xs)
    ++ with_station i (views front ys)
at_append front i [] ys = refl
at_append front i (x ∷ xs) ys = go (x.station == i) (at_append front i xs ys)
  where
    go : (b : Bool) → with_station i (views front (xs ++ ys)) ≡ with_station i (views front xs)
        ++ with_station i (views front ys) →
        (if b then (view front x).exchange ∷ with_station i (views front (xs ++ ys))
        else with_station i
        (views front (xs ++ ys)))
        ≡ (if b then (view front x).exchange ∷ with_station i (views front xs)
        else with_station i (views front xs))
        ++ with_station i (views front ys)
    go true ih = ap (λ (l : List Exchange). (view front x).exchange ∷ l) ih
    go false ih = ih

-- the one exchange, if it is with this station
abbrev pub alone : ℕ → LineExchange → List Exchange
alone i v = if v.station == i then v.exchange ∷ [] else []

-- What is logged of a station's line is what its exchanges show; and the command that isn't done
-- was sent last.
pub record IsLogged (s : LinkSettings) (a : ℕ) (xs : List Exchange) (k : ℕ) (h : History) : Type
    0 where
  pub steps : steps_logged k h ≡ steps_in s a unmissed None xs
  pub last : (asdu : List ℕ) → pending_after a None xs ≡ Some (Command asdu) → last_sent k h ≡ asdu
  pub sent : sent_to k h ≡ first_sendings a None xs

pub stays_logged : (s : LinkSettings) (a : ℕ) (xs : List Exchange) (k : ℕ) (h new : History)
    → line_logged k new ≡ line_logged k h → IsLogged s a xs k h → IsLogged s a xs k new
stays_logged s a xs k h new same t = record {
  steps = ap (λ (l : LineLogged). l.steps) same ∙ t.steps;
  last = λ asdu e. ap (λ (l : LineLogged). l.last) same ∙ t.last asdu e;
  sent = ap (λ (l : LineLogged). l.sent) same ∙ t.sent;
}

abbrev pub lost_if : Bool → List LineStep
lost_if b = if b then Lost ∷ [] else []

-- another exchange with the same answer in place of the last one
pub alike_logged : (s : LinkSettings) (a k : ℕ) (xs : List Exchange) (request : Asked)
    (front later : Option Frame)
    (closed over given : Bool) (h new : History) →
    option_and_then (answer_of a request) front ≡ option_and_then (answer_of a request) later →
    goes_down s (missed_after a unmissed xs) request closed
    (option_and_then (answer_of a request) later)
    ≡ goes_down s (missed_after a unmissed xs) request over
    (option_and_then (answer_of a request) later) →
    line_logged k new ≡ line_logged k h →
    IsLogged s a (xs ++ record {
      request = request;
      front = front;
      closed = closed;
      given_up = given;
    } ∷ []) k h
    → IsLogged s a (xs ++ record {
      request = request;
      front = later;
      closed = over;
      given_up = given;
    } ∷ []) k new
alike_logged s a k xs request front later closed over given h new alike down same t =
    let pending : Option Service = pending_after a None xs in
    let x : Exchange = record {
      request = request;
      front = front;
      closed = closed;
      given_up = given;
    } in
    let y : Exchange = record {
      request = request;
      front = later;
      closed = over;
      given_up = given;
    } in
    record {
      steps = ap (λ (l : LineLogged). l.steps) same ∙ t.steps ∙ steps_more s a unmissed None xs x
          ∙ ap (λ (o : Option Answer). steps_in s a unmissed None xs
          ++ (map (λ (asdu : List ℕ). Begun asdu) (first_sending pending request)
          ++ (said_of request o
          ++ lost_if (given || goes_down s (missed_after a unmissed xs) request closed o))))
          alike
          ∙ ap (λ (b : Bool). steps_in s a unmissed None xs ++
          (map (λ (asdu : List ℕ). Begun asdu) (first_sending pending request)
          ++ (said_of request (answer_to a y) ++ lost_if (given || b)))) down
          ∙ sym (steps_more s a unmissed None xs y);
      last = λ asdu e. ap (λ (l : LineLogged). l.last) same
          ∙ t.last asdu (pending_more a None xs x
          ∙ ap (λ (o : Option Answer). pending_by request o pending) alike
          ∙ sym (pending_more a None xs y) ∙ e);
      sent = ap (λ (l : LineLogged). l.sent) same ∙ t.sent ∙ sendings_more a None xs x
          ∙ sym (sendings_more a None xs y);
    }

-- An answer comes

-- what an outcome logs
abbrev pub logged_by : Outcome → History → History
logged_by (outcome.Accepted station) h = Accepted station ∷ h
logged_by (outcome.Busy station) h = Refused station None ∷ h
logged_by (outcome.Down station) h = GivenUp station false ∷ h
logged_by other h = h

-- what is pending after an answer was pending before
pending_back : (request : Asked) (m : Option Answer) (pending : Option Service) (service : Service)
    → pending_by request m pending ≡ Some service → pending_by request None pending ≡ Some service
pending_back Status None pending service e = e
pending_back Status (Some said) pending service e = e
pending_back Reset None pending service e = e
pending_back Reset (Some answer.Ready) pending service e = e
pending_back Reset (Some answer.Confirmed) pending service e = cc
pending_back Reset (Some answer.Busy) pending service e = e
pending_back Reset (Some (answer.Report asdu)) pending service e = e
pending_back Reset (Some answer.NoData) pending service e = e
pending_back Reset (Some answer.Unable) pending service e = e
pending_back (Counted fcb s) None pending service e = e
pending_back (Counted fcb s) (Some answer.Ready) pending service e = cc
pending_back (Counted fcb s) (Some answer.Confirmed) pending service e = cc
pending_back (Counted fcb s) (Some answer.Busy) pending service e = cc
pending_back (Counted fcb s) (Some (answer.Report asdu)) pending service e = cc
pending_back (Counted fcb s) (Some answer.NoData) pending service e = cc
pending_back (Counted fcb s) (Some answer.Unable) pending service e = e

module _ (s : LinkSettings) (a k : ℕ) (xs : List Exchange) (request : Asked)
    (front later : Option Frame)
    (over : Bool) where
  abbrev before_it : Exchange
  before_it = record { request = request; front = front; closed = false; given_up = false }

  abbrev after_it : Exchange
  after_it = record { request = request; front = later; closed = over; given_up = false }

  -- the steps grow by what the answer says, or its want
  grown : (m : Option Answer) → answer_to a before_it ≡ None → answer_to a after_it ≡ m →
      steps_in s a unmissed None (xs ++ after_it ∷ [])
      ≡ steps_in s a unmissed None (xs ++ before_it ∷ [])
      ++ (said_of request m ++ lost_if (goes_down s (missed_after a unmissed xs) request over m))
  grown m none is =
      let pending : Option Service = pending_after a None xs in
      let missed : Silence = missed_after a unmissed xs in
      let first : List LineStep =
      map (λ (asdu : List ℕ). Begun asdu) (first_sending pending request) in
      let old : List LineStep = steps_in s a unmissed None xs in
      let more : List LineStep = said_of request m ++ lost_if (goes_down s missed request over m) in
      let was : steps_in s a unmissed None (xs ++ before_it ∷ []) ≡ old ++ first =
      steps_more s a unmissed None xs before_it ∙ ap (λ (o : Option Answer). old
      ++ (first ++ (said_of request o ++ lost_if (goes_down s missed request false o)))) none
      ∙ ap (λ (l : List LineStep). old
      ++ (first ++ (l ++ lost_if (goes_down s missed request false None))))
      (none_said request)
      ∙ ap (λ (b : Bool). old ++ (first ++ lost_if b)) (still_up s missed request)
      ∙ ap (λ (l : List LineStep). old ++ l) (append-nil first) in
      steps_more s a unmissed None xs after_it ∙ ap (λ (o : Option Answer). old
      ++ (first ++ (said_of request o ++ lost_if (goes_down s missed request over o)))) is
      ∙ sym (append_assoc old first more) ∙ ap (λ (l : List LineStep). l ++ more) (sym was)

  same_sendings : first_sendings a None (xs ++ after_it ∷ [])
      ≡ first_sendings a None (xs ++ before_it ∷ [])
  same_sendings = sendings_more a None xs after_it ∙ sym (sendings_more a None xs before_it)

  still_pending : (m : Option Answer) → answer_to a before_it ≡ None → answer_to a after_it ≡ m
      → (service : Service)
      → pending_after a None (xs ++ after_it ∷ []) ≡ Some service
      → pending_after a None (xs ++ before_it ∷ []) ≡ Some service
  still_pending m none is service e =
      let pending : Option Service = pending_after a None xs in
      pending_more a None xs before_it ∙ ap (λ (o : Option Answer). pending_by request o pending)
      none
      ∙ pending_back request m pending service
      (ap (λ (o : Option Answer). pending_by request o pending) (sym is)
      ∙ sym (pending_more a None xs after_it) ∙ e)

  -- nothing is said of a command
  pub quiet_logged : (m : Option Answer) (h new : History) → answer_to a before_it ≡ None
      → answer_to a after_it ≡ m
      → said_of request m ++ lost_if (goes_down s (missed_after a unmissed xs) request over m) ≡ []
      → line_logged k new ≡ line_logged k h →
      IsLogged s a (xs ++ before_it ∷ []) k h → IsLogged s a (xs ++ after_it ∷ []) k new
  quiet_logged m h new none is nothing same t = record {
    steps = ap (λ (l : LineLogged). l.steps) same ∙ t.steps
        ∙ sym (append-nil (steps_in s a unmissed None (xs ++ before_it ∷ [])))
        ∙ ap (λ (l : List LineStep). steps_in s a unmissed None (xs ++ before_it ∷ []) ++ l)
        (sym nothing)
        ∙ sym (grown m none is);
    last = λ asdu e. ap (λ (l : LineLogged). l.last) same
        ∙ t.last asdu (still_pending m none is (Command asdu) e);
    sent = ap (λ (l : LineLogged). l.sent) same ∙ t.sent ∙ sym same_sendings;
  }

  -- the command that went out last is spoken of
  spoken_logged : (m : Option Answer) (asdu : List ℕ) (step : List ℕ → LineStep) (h new : History)
      → answer_to a before_it ≡ None → answer_to a after_it ≡ m →
      said_of request m ++ lost_if (goes_down s (missed_after a unmissed xs) request over m)
      ≡ step asdu ∷ []
      → pending_by request None (pending_after a None xs) ≡ Some (Command asdu)
      → pending_by request m (pending_after a None xs) ≡ None →
      steps_logged k new ≡ steps_logged k h ++ step (last_sent k h) ∷ [] → sent_to k new
      ≡ sent_to k h →
      IsLogged s a (xs ++ before_it ∷ []) k h → IsLogged s a (xs ++ after_it ∷ []) k new
  spoken_logged m asdu step h new none is says held done steps sent t =
      let pending : Option Service = pending_after a None xs in
      let it : last_sent k h ≡ asdu = t.last asdu (pending_more a None xs before_it
      ∙ ap (λ (o : Option Answer). pending_by request o pending) none ∙ held) in
      let over : pending_after a None (xs ++ after_it ∷ []) ≡ None = pending_more a None xs after_it
      ∙ ap (λ (o : Option Answer). pending_by request o pending) is ∙ done in
      record {
        steps = steps ∙ ap (λ (l : List LineStep). l ++ step (last_sent k h) ∷ []) t.steps
            ∙ ap (λ (x : List ℕ). steps_in s a unmissed None (xs ++ before_it ∷ []) ++ step x ∷ [])
            it
            ∙ ap (λ (l : List LineStep). steps_in s a unmissed None (xs ++ before_it ∷ []) ++ l)
            (sym says)
            ∙ sym (grown m none is);
        last = λ other e. let no : None ≡ Some (Command other) = sym over ∙ e in cc;
        sent = sent ∙ t.sent ∙ sym same_sendings;
      }

  -- what stands on the line is lost
  pub lost_logged : (m : Option Answer) (h new : History) → answer_to a before_it ≡ None
      → answer_to a after_it ≡ m
      → said_of request m ++ lost_if (goes_down s (missed_after a unmissed xs) request over m)
      ≡ Lost ∷ []
      →
      line_logged k new ≡ line_logged k (GivenUp k false ∷ h)
      → IsLogged s a (xs ++ before_it ∷ []) k h
      → IsLogged s a (xs ++ after_it ∷ []) k new
  lost_logged m h new none is says same t = record {
    steps = ap (λ (l : LineLogged). l.steps) same
        ∙ ap (λ (b : Bool). if b then steps_logged k h ++ Lost
        ∷ [] else steps_logged k h) (eq-eqb k k refl)
        ∙ ap (λ (l : List LineStep). l ++ Lost ∷ []) t.steps
        ∙ ap (λ (l : List LineStep). steps_in s a unmissed None (xs ++ before_it ∷ []) ++ l)
        (sym says)
        ∙ sym (grown m none is);
    last = λ asdu e. ap (λ (l : LineLogged). l.last) same
        ∙ t.last asdu (still_pending m none is (Command asdu) e);
    sent = ap (λ (l : LineLogged). l.sent) same ∙ t.sent ∙ sym same_sendings;
  }

pub here_is : (k : ℕ) → (k == k) ≡ true
here_is k = eq-eqb k k refl

pub received_one : (s : LinkSettings) (a k : ℕ) (xs : List Exchange) (request : Asked)
    (front later : Option Frame)
    (m : Option Answer) (h new : History) →
    answer_to a (record { request = request; front = front; closed = false; given_up = false })
    ≡ None
    → answer_to a (record { request = request; front = later; closed = false; given_up = false })
    ≡ m
    → AreProper request m →
    line_logged k new ≡ line_logged k (logged_by (outcome_of k request m) h) →
    IsLogged s a (xs ++ record {
      request = request;
      front = front;
      closed = false;
      given_up =
          false;
    }
    ∷ []) k h
    → IsLogged s a (xs ++ record {
      request = request;
      front = later;
      closed = false;
      given_up =
          false;
    } ∷ []) k new
received_one s a k xs request front later None h new none is proper same t =
    quiet_logged s a k xs request front later false None h new none is
    (ap (λ (l : List LineStep). l
    ++ lost_if (goes_down s (missed_after a unmissed xs) request false None))
    (none_said request) ∙ ap lost_if (still_up s (missed_after a unmissed xs) request)) same t
received_one s a k xs Status front later (Some answer.Ready) h new none is proper same t =
    quiet_logged s a k xs Status front later false (Some answer.Ready) h new none is refl same t
received_one s a k xs Status front later (Some answer.Unable) h new none is proper same t =
    lost_logged s a k xs Status front later false (Some answer.Unable) h new none is refl same t
received_one s a k xs Status front later (Some answer.Confirmed) h new none is proper same t =
    absurd proper
received_one s a k xs Status front later (Some answer.Busy) h new none is proper same t =
    absurd proper
received_one s a k xs Status front later (Some (answer.Report asdu)) h new none is proper same t =
    absurd proper
received_one s a k xs Status front later (Some answer.NoData) h new none is proper same t =
    absurd proper
received_one s a k xs Reset front later (Some answer.Confirmed) h new none is proper same t =
    quiet_logged s a k xs Reset front later false (Some answer.Confirmed) h new none is refl same t
received_one s a k xs Reset front later (Some answer.Ready) h new none is proper same t =
    absurd proper
received_one s a k xs Reset front later (Some answer.Unable) h new none is proper same t =
    absurd proper
received_one s a k xs Reset front later (Some answer.Busy) h new none is proper same t =
    absurd proper
received_one s a k xs Reset front later (Some (answer.Report asdu)) h new none is proper same t =
    absurd proper
received_one s a k xs Reset front later (Some answer.NoData) h new none is proper same t =
    absurd proper
received_one s a k xs (Counted fcb Class1) front later (Some (answer.Report asdu)) h new none is
    proper
    same t =
    quiet_logged s a k xs (Counted fcb Class1) front later false (Some (answer.Report asdu)) h new
    none is refl same t
received_one s a k xs (Counted fcb Class1) front later (Some answer.NoData) h new none is proper
    same
    t =
    quiet_logged s a k xs (Counted fcb Class1) front later false (Some answer.NoData) h new none is
    refl same t
received_one s a k xs (Counted fcb Class1) front later (Some answer.Unable) h new none is proper
    same
    t =
    lost_logged s a k xs (Counted fcb Class1) front later false (Some answer.Unable) h new none is
    refl same t
received_one s a k xs (Counted fcb Class1) front later (Some answer.Ready) h new none is proper same
    t = absurd proper
received_one s a k xs (Counted fcb Class1) front later (Some answer.Confirmed) h new none is proper
    same t = absurd proper
received_one s a k xs (Counted fcb Class1) front later (Some answer.Busy) h new none is proper same
    t =
    absurd proper
received_one s a k xs (Counted fcb Class2) front later (Some (answer.Report asdu)) h new none is
    proper
    same t =
    quiet_logged s a k xs (Counted fcb Class2) front later false (Some (answer.Report asdu)) h new
    none is refl same t
received_one s a k xs (Counted fcb Class2) front later (Some answer.NoData) h new none is proper
    same
    t =
    quiet_logged s a k xs (Counted fcb Class2) front later false (Some answer.NoData) h new none is
    refl same t
received_one s a k xs (Counted fcb Class2) front later (Some answer.Unable) h new none is proper
    same
    t =
    lost_logged s a k xs (Counted fcb Class2) front later false (Some answer.Unable) h new none is
    refl same t
received_one s a k xs (Counted fcb Class2) front later (Some answer.Ready) h new none is proper same
    t = absurd proper
received_one s a k xs (Counted fcb Class2) front later (Some answer.Confirmed) h new none is proper
    same t = absurd proper
received_one s a k xs (Counted fcb Class2) front later (Some answer.Busy) h new none is proper same
    t =
    absurd proper
received_one s a k xs (Counted fcb (Command asdu)) front later (Some answer.Confirmed) h new none is
    proper same t =
    spoken_logged s a k xs (Counted fcb (Command asdu)) front later false (Some answer.Confirmed)
    asdu
    (λ x. Confirmed x) h new none is refl refl refl
    (ap (λ (l : LineLogged). l.steps) same
    ∙ ap (λ (b : Bool). if b then steps_logged k h ++ Confirmed (last_sent k h)
    ∷ [] else steps_logged k h) (here_is k)) (ap (λ (l : LineLogged). l.sent) same) t
received_one s a k xs (Counted fcb (Command asdu)) front later (Some answer.Busy) h new none is
    proper
    same t =
    spoken_logged s a k xs (Counted fcb (Command asdu)) front later false (Some answer.Busy) asdu
    (λ x. Busy x) h new none is refl refl refl
    (ap (λ (l : LineLogged). l.steps) same
    ∙ ap (λ (b : Bool). if b then steps_logged k h ++ Busy (last_sent k h)
    ∷ [] else steps_logged k h) (here_is k)) (ap (λ (l : LineLogged). l.sent) same) t
received_one s a k xs (Counted fcb (Command asdu)) front later (Some answer.Unable) h new none is
    proper same t =
    lost_logged s a k xs (Counted fcb (Command asdu)) front later false (Some answer.Unable) h new
    none is refl same t
received_one s a k xs (Counted fcb (Command asdu)) front later (Some answer.Ready) h new none is
    proper
    same t =
    absurd proper
received_one s a k xs (Counted fcb (Command asdu)) front later (Some (answer.Report report)) h new
    none
    is proper same t =
    absurd proper
received_one s a k xs (Counted fcb (Command asdu)) front later (Some answer.NoData) h new none is
    proper same t =
    absurd proper

-- What is logged of one station says nothing of another.

accepted_far : (k j : ℕ) (h : History) → (k == j) ≡ false → line_logged k (Accepted j ∷ h)
    ≡ line_logged k h
accepted_far k j h far =
    ap (λ (t : Bool).
    let r : LineLogged = record {
      steps = if t then steps_logged k h ++ Confirmed (last_sent k h) ∷ [] else steps_logged k h;
      last = last_sent k h;
      sent = sent_to k h;
    } in r) far

busy_far : (k j : ℕ) (h : History) → (k == j) ≡ false → line_logged k (Refused j None ∷ h)
    ≡ line_logged k h
busy_far k j h far =
    ap (λ (t : Bool).
    let r : LineLogged = record {
      steps = if t then steps_logged k h ++ Busy (last_sent k h) ∷ [] else steps_logged k h;
      last = last_sent k h;
      sent = sent_to k h;
    } in r) far

pub lost_far : (k j : ℕ) (was : Bool) (h : History) → (k == j) ≡ false
    → line_logged k (GivenUp j was ∷ h)
    ≡ line_logged k h
lost_far k j was h far =
    ap (λ (t : Bool).
    let r : LineLogged = record {
      steps = if t then steps_logged k h ++ Lost ∷ [] else steps_logged k h;
      last =
          last_sent k h;
      sent = sent_to k h;
    } in r) far

pub sent_far : (k j : ℕ) (asdu : List ℕ) (h : History) → (k == j) ≡ false
    → line_logged k (Sent j asdu ∷ h) ≡ line_logged k h
sent_far k j asdu h far = ap (λ (t : Bool). let r : LineLogged = record {
  steps = if t then steps_logged k h ++ Begun asdu ∷ [] else steps_logged k h;
  last = if t then asdu else last_sent k h;
  sent = if t then sent_to k h ++ asdu ∷ [] else sent_to k h;
} in r) far

pub received_far : (k j : ℕ) (request : Asked) (m : Option Answer) (h : History) → (k == j) ≡ false
    → line_logged k (logged_by (outcome_of j request m) h) ≡ line_logged k h
received_far k j request None h far = refl
received_far k j request (Some answer.Busy) h far = by_request request
  where
    by_request : (r : Asked) → line_logged k (logged_by (outcome_of j r (Some answer.Busy)) h)
        ≡ line_logged k h
    by_request Status = busy_far k j h far
    by_request Reset = busy_far k j h far
    by_request (Counted fcb service) = busy_far k j h far
received_far k j request (Some answer.Confirmed) h far = by_request request
  where
    by_request : (r : Asked) → line_logged k (logged_by (outcome_of j r (Some answer.Confirmed)) h)
        ≡ line_logged k h
    by_request Status = refl
    by_request Reset = refl
    by_request (Counted fcb service) = accepted_far k j h far
received_far k j request (Some answer.Ready) h far = by_request request
  where
    by_request : (r : Asked) → line_logged k (logged_by (outcome_of j r (Some answer.Ready)) h)
        ≡ line_logged k h
    by_request Status = refl
    by_request Reset = refl
    by_request (Counted fcb service) = refl
received_far k j request (Some (answer.Report asdu)) h far = by_request request
  where
    by_request : (r : Asked)
        → line_logged k (logged_by (outcome_of j r (Some (answer.Report asdu))) h)
        ≡ line_logged k h
    by_request Status = refl
    by_request Reset = refl
    by_request (Counted fcb service) = refl
received_far k j request (Some answer.NoData) h far = by_request request
  where
    by_request : (r : Asked) → line_logged k (logged_by (outcome_of j r (Some answer.NoData)) h)
        ≡ line_logged k h
    by_request Status = refl
    by_request Reset = refl
    by_request (Counted fcb service) = refl
received_far k j request (Some answer.Unable) h far = by_request request
  where
    by_request : (r : Asked) → line_logged k (logged_by (outcome_of j r (Some answer.Unable)) h)
        ≡ line_logged k h
    by_request Status = lost_far k j false h far
    by_request Reset = lost_far k j false h far
    by_request (Counted fcb service) = lost_far k j false h far
