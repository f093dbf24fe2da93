-- Which frames answer which request (IEC 60870-5-2, 5.1: the control field of a secondary station,
-- and its procedures of unbalanced transmission). What the single character E5 stands for is this
-- gateway's own profile.
use Rattle.std.specs.Prelude.{◌≡◌, ℕ, ◌==◌, ◌&&◌, ◌||◌, Bool, List, Option, Some, None}
use Rattle.std.specs.Prelude.{if◌then◌else◌}
use Rattle.link.specs.Control.{is_secondary, function_code, secondary_code as number}
use Rattle.link.specs.declared.control.SecondaryFunction.TheVariants as function
pub use Rattle.ft12.specs.declared.frame.Frame.{Frame}
pub use Rattle.ft12.specs.declared.frame.Frame.TheVariants.{Single, Fixed, Data}
pub use Rattle.link.specs.declared.service.Service.{Service}
pub use Rattle.link.specs.declared.service.Service.TheVariants.{Class1, Class2, Command}
pub use Rattle.link.specs.declared.service.Asked.{Asked}
pub use Rattle.link.specs.declared.service.Asked.TheVariants.{Status, Reset, Counted}
pub use Rattle.link.specs.declared.answer.Answer.{Answer}
pub use Rattle.link.specs.declared.answer.Answer.TheVariants.{Ready, Confirmed, Busy, Report}
pub use Rattle.link.specs.declared.answer.Answer.TheVariants.{NoData, Unable}

-- the function is that the service isn't functioning, or that it isn't implemented
abbrev pub is_unable : (code : ℕ) → Bool
is_unable code =
    (code == number function.NotFunctioning)
    || (code == number function.NotImplemented)

abbrev pub unable_answer : (code : ℕ) → Option Answer
unable_answer code = if is_unable code then Some Unable else None

-- what a function of a fixed frame says to a service
abbrev pub service_answer : Service → (code : ℕ) → Option Answer
service_answer Class1 code =
    if code == number function.NoData then Some NoData else unable_answer code
service_answer Class2 code =
    if code == number function.NoData then Some NoData else unable_answer code
service_answer (Command asdu) code =
    if code == number function.Confirm then Some Confirmed
    else if code == number function.Busy then Some Busy else unable_answer code

-- and to each request
abbrev pub code_answer : Asked → (code : ℕ) → Option Answer
code_answer Status code =
    if code == number function.LinkStatus then Some Ready else unable_answer code
code_answer Reset code = if code == number function.Confirm then Some Confirmed else None
code_answer (Counted fcb service) code = service_answer service code

-- what the single character stands for
abbrev pub single_answer : Asked → Option Answer
single_answer Status = None
single_answer Reset = Some Confirmed
single_answer (Counted fcb Class1) = Some NoData
single_answer (Counted fcb Class2) = Some NoData
single_answer (Counted fcb (Command asdu)) = Some Confirmed

-- what user data are an answer to
abbrev pub data_answer : Asked → List ℕ → Option Answer
data_answer Status asdu = None
data_answer Reset asdu = None
data_answer (Counted fcb Class1) asdu = Some (Report asdu)
data_answer (Counted fcb Class2) asdu = Some (Report asdu)
data_answer (Counted fcb (Command _)) asdu = None

-- the control octet is a secondary station's (PRM 0), and the address is this one
abbrev pub comes_from : (station control address : ℕ) → Bool
comes_from station control address = is_secondary control && (address == station)

-- what a frame says in answer to a request to this station, or nothing if it doesn't fit
abbrev pub answer_of : (station : ℕ) → Asked → Frame → Option Answer
answer_of station request Single = single_answer request
answer_of station request (Fixed control address) =
    if comes_from station control address
    then code_answer request (function_code control) else None
answer_of station request (Data control address body) =
    if comes_from station control address
    && (function_code control == number function.UserData)
    then data_answer request body.items else None

-- the frame says this in answer to the request
abbrev pub Says : (station : ℕ) → Asked → Answer → Frame → Type 0
Says station request answer frame = answer_of station request frame ≡ Some answer
