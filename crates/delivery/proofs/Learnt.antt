-- The reports taken from a station are those that its exchanges show.
use Rattle.std.specs.Prelude.{◌==◌, ◌%◌, ◌||◌, ◌&&◌, option_and_then}
use Rattle.std.proofs.Common.{◌≡◌, ℕ, Bool, true, false, List, [], ◌∷◌, ◌++◌, Option, Some, None}
use Rattle.std.proofs.Common.{refl, sym, ap, ◌∙◌, append_assoc, if◌then◌else◌}
use Rattle.std.specs.List.{flat_map}
use Rattle.std.proofs.lemmas.Bool.{eqb-true}
use Rattle.ft12.specs.Fronts.{front_of}
use Rattle.ft12.specs.declared.frame.Frame.{Frame}
use Rattle.ft12.specs.declared.frame.Frame.TheVariants.{Single, Fixed, Data}
use Rattle.link.specs.declared.service.Service.TheVariants.{Class1, Class2, Command}
use Rattle.link.specs.declared.service.Asked.{Asked}
use Rattle.link.specs.declared.service.Asked.TheVariants.{Status, Reset, Counted}
use Rattle.link.specs.declared.answer.Answer.{Answer}
use Rattle.link.specs.declared.answer.Answer.TheVariants.{Ready, Confirmed, Busy, Report, NoData}
use Rattle.link.specs.declared.answer.Answer.TheVariants.{Unable}
use Rattle.link.specs.Answers.{unable_answer, service_answer, code_answer, single_answer}
use Rattle.link.specs.Answers.{data_answer, comes_from, answer_of}
use Rattle.link.specs.Exchanges.{LineExchange, with_station, views, all_of, answer_to, report_by}
use Rattle.link.specs.Exchanges.{reports_of}
use Rattle.link.specs.Outstation.{Effect}
use Rattle.link.specs.Delivery.{learnt_by, learnt, reports, given_by}
use Rattle.gateway.specs.Log.{Log}
use Rattle.gateway.specs.Reports.{Setup, address_at, exchanges_of, exchanges_with}
use Rattle.delivery.specs.Merges.{values_of}
use Rattle.delivery.specs.Delivery.{reports_from}

-- the report that an answer bears
abbrev borne : Option Answer → List (List ℕ)
borne (Some (Report asdu)) = asdu ∷ []
borne answer = []

either : (b : Bool) (x y : Option Answer) → borne x ≡ [] → borne y ≡ [] → borne (if b then x else y)
    ≡ []
either true x y h k = h
either false x y h k = k

unable_bears : (code : ℕ) → borne (unable_answer code) ≡ []
unable_bears code = either ((code == 14) || (code == 15)) (Some Unable) None refl refl

command_bears : (fcb : Bool) (asdu : List ℕ) (code : ℕ) → borne (service_answer (Command asdu) code)
    ≡ []
command_bears fcb asdu code =
    either (code == 0) (Some Confirmed) (if code == 1 then Some Busy else unable_answer code) refl
    (either (code == 1) (Some Busy) (unable_answer code) refl (unable_bears code))

-- a frame bears no report to a request whose fixed and variable frames bear none
frame_bears : (station : ℕ) (request : Asked) (frame : Frame) → borne (single_answer request) ≡ []
    → ((code : ℕ) → borne (code_answer request code) ≡ []) →
    ((asdu : List ℕ) → borne (data_answer request asdu) ≡ [])
    → borne (answer_of station request frame) ≡ []
frame_bears station request Single s c d = s
frame_bears station request (Fixed control address) s c d =
    either (comes_from station control address) (code_answer request (control % 16)) None
    (c (control % 16)) refl
frame_bears station request (Data control address body) s c d =
    either (comes_from station control address && (control % 16 == 8))
    (data_answer request body.items) None
    (d body.items) refl

bears_none : (station : ℕ) (request : Asked) (front : Option Frame) → borne (single_answer request)
    ≡ []
    → ((code : ℕ) → borne (code_answer request code) ≡ []) →
    ((asdu : List ℕ) → borne (data_answer request asdu) ≡ [])
    → borne (option_and_then (answer_of station request) front) ≡ []
bears_none station request None s c d = refl
bears_none station request (Some frame) s c d = frame_bears station request frame s c d

class1_learns : (fcb : Bool) (m : Option Answer) → reports (learnt_by (Counted fcb Class1) m)
    ≡ borne m
class1_learns fcb None = refl
class1_learns fcb (Some Ready) = refl
class1_learns fcb (Some Confirmed) = refl
class1_learns fcb (Some Busy) = refl
class1_learns fcb (Some (Report asdu)) = refl
class1_learns fcb (Some NoData) = refl
class1_learns fcb (Some Unable) = refl

class2_learns : (fcb : Bool) (m : Option Answer) → reports (learnt_by (Counted fcb Class2) m)
    ≡ borne m
class2_learns fcb None = refl
class2_learns fcb (Some Ready) = refl
class2_learns fcb (Some Confirmed) = refl
class2_learns fcb (Some Busy) = refl
class2_learns fcb (Some (Report asdu)) = refl
class2_learns fcb (Some NoData) = refl
class2_learns fcb (Some Unable) = refl

command_learns : (fcb : Bool) (command : List ℕ) (m : Option Answer)
    → reports (learnt_by (Counted fcb (Command command)) m) ≡ []
command_learns fcb command None = refl
command_learns fcb command (Some Ready) = refl
command_learns fcb command (Some Confirmed) = refl
command_learns fcb command (Some Busy) = refl
command_learns fcb command (Some (Report asdu)) = refl
command_learns fcb command (Some NoData) = refl
command_learns fcb command (Some Unable) = refl

-- what is learnt of a report is what the answer bears
learns : (station : ℕ) (request : Asked) (front : Option Frame) →
    reports (learnt_by request (option_and_then (answer_of station request) front))
    ≡ borne (option_and_then (answer_of station request) front)
learns station Status front =
    sym
    (bears_none station Status front refl
    (λ code. either (code == 11) (Some Ready) (unable_answer code) refl
    (unable_bears code)) (λ asdu. refl))
learns station Reset front =
    sym (bears_none station Reset front refl (λ code. either (code == 0) (Some Confirmed) None refl
    refl)
    (λ asdu. refl))
learns station (Counted fcb Class1) front = class1_learns fcb
    (option_and_then (answer_of station (Counted fcb Class1)) front)
learns station (Counted fcb Class2) front = class2_learns fcb
    (option_and_then (answer_of station (Counted fcb Class2)) front)
learns station (Counted fcb (Command asdu)) front =
    command_learns fcb asdu (option_and_then (answer_of station (Counted fcb (Command asdu))) front)
    ∙ sym (bears_none station (Counted fcb (Command asdu)) front refl
    (λ code. command_bears fcb asdu code)
    (λ body. refl))

reports-append : (first bs : List Effect) → reports (first ++ bs) ≡ reports first ++ reports bs
reports-append [] bs = refl
reports-append (e ∷ first) bs =
    ap (λ (l : List (List ℕ)). given_by e ++ l) (reports-append first bs)
    ∙ sym (append_assoc (given_by e) (reports first) (reports bs))

values_of-report : (i station : ℕ) (m : Option Answer) (rest : List (ℕ × List ℕ)) →
    values_of i (report_by station m ++ rest) ≡ (if station == i then borne m ++ values_of i rest
    else values_of i rest)
values_of-report i station m rest = go m
  where
    same : (b : Bool) → values_of i rest ≡ (if b then values_of i rest else values_of i rest)
    same true = refl
    same false = refl

    go : (m : Option Answer) → values_of i (report_by station m ++ rest)
        ≡ (if station == i then borne m ++ values_of i rest else values_of i rest)
    go None = same (station == i)
    go (Some Ready) = same (station == i)
    go (Some Confirmed) = same (station == i)
    go (Some Busy) = same (station == i)
    go (Some (Report asdu)) = refl
    go (Some NoData) = same (station == i)
    go (Some Unable) = same (station == i)

station_reports : (address : ℕ → ℕ) (i : ℕ) (es : List LineExchange)
    → values_of i (reports_of address es) ≡ reports (learnt (address i) (with_station i es))
station_reports address i [] = refl
station_reports address i (e ∷ es) =
    values_of-report i e.station (answer_to (address e.station) e.exchange) (reports_of address es)
    ∙ go (e.station == i) refl (station_reports address i es)
  where
    go : (b : Bool) → (e.station == i) ≡ b → values_of i (reports_of address es)
        ≡ reports (learnt (address i) (with_station i es)) →
        (if b then borne (answer_to (address e.station) e.exchange)
        ++ values_of i (reports_of address es) else values_of i (reports_of address es))
        ≡ reports (learnt (address i) (if b then e.exchange ∷ with_station i es
        else with_station i es))
    go true same ih =
        ap (λ (s : ℕ). borne (answer_to (address s) e.exchange)
        ++ values_of i (reports_of address es))
        (eqb-true e.station i same)
        ∙ ap (λ (l : List (List ℕ)). l ++ values_of i (reports_of address es))
        (sym (learns (address i) e.exchange.request e.exchange.front))
        ∙ ap
        (λ (l : List (List ℕ)). reports
        (learnt_by e.exchange.request (answer_to (address i) e.exchange)) ++ l) ih
        ∙ sym (reports-append (learnt_by e.exchange.request (answer_to (address i) e.exchange))
        (learnt (address i) (with_station i es)))
    go false same ih = ih

pub from_learnt : (p : Setup) (log : Log) (i : ℕ) → reports_from p log i
    ≡ reports (learnt (address_at p.addresses i) (exchanges_with p i log))
from_learnt p log i = station_reports (address_at p.addresses) i
    (views (front_of p.link.size) (all_of (exchanges_of p log)))

-- the reports of parts of what was learnt, joined
pub reports_flat : {X : Type 0} (f : X → List Effect) (xs : List X)
    → flat_map (λ (x : X). reports (f x)) xs ≡ reports (flat_map f xs)
reports_flat {X} f [] = refl
reports_flat {X} f (x ∷ xs) = ap (λ (l : List (List ℕ)). reports (f x) ++ l) (reports_flat f xs)
    ∙ sym (reports-append (f x) (flat_map f xs))
