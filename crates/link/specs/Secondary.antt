-- The secondary station of this crate: what it answers to each request (IEC 60870-5-2, the
-- procedures of a secondary station). When it answers with the single character is its own choice,
-- and so is that DFC is never set.
use Rattle.std.specs.Prelude.{◌≡◌, ◌⊎◌, ℕ, ◌+◌, min, ◌-◌, ◌^◌, Bool, true, false, List, [], ◌∷◌}
use Rattle.std.specs.Prelude.{◌++◌, Option, Some, None, if◌then◌else◌}
use Rattle.link.specs.Control.{secondary_octet, secondary_code as number}
use Rattle.link.specs.declared.control.SecondaryFunction.TheVariants as function
use Rattle.link.specs.Answers.{Frame, Single, Fixed, Data, Service, Class1, Class2, Command, Asked}
use Rattle.link.specs.Answers.{Status, Reset, Counted}
use Rattle.link.specs.Outstation.{Given, Accepted, Outstation, Turn}
use Rattle.link.specs.Requests.{Reading, Foreign, Unknown, Asks, reading_of}
use Rattle.ft12.specs.declared.frame.LinkSize.{LinkSize}
use Rattle.ft12.specs.Spelling.{IsLineFrame}

-- a secondary station: its link, its last answer, the reports of each class that wait, the commands
-- that it accepted, and how many reports it gave
pub record Secondary : Type 0 where
  pub size : LinkSize
  pub address : ℕ
  pub bit : Option Bool
  pub last : Option Frame
  pub class1 : List (List ℕ)
  pub class2 : List (List ℕ)
  pub accepted : List (List ℕ)
  pub given : ℕ

-- a station that was never reset and has nothing to report
abbrev pub fresh_station : LinkSize → (address : ℕ) → Secondary
fresh_station size address =
    record {
      size = size;
      address = address;
      bit = None;
      last = None;
      class1 = [];
      class2 = [];
      accepted = [];
      given = 0;
    }

abbrev pub outstation_of : Secondary → Outstation
outstation_of s = record { bit = s.bit; last = s.last }

-- the control octet of an answer: it says whether class 1 reports wait after it
abbrev pub control_of : (code : ℕ) → (class1 : List (List ℕ)) → ℕ
control_of code [] = secondary_octet false false code
control_of code (report ∷ reports) = secondary_octet true false code

abbrev pub data_frame : (control address : ℕ) → List ℕ → Frame
data_frame control address report = Data control address (record { items = report })

-- a confirmation, or that no data wait: the single character if no class 1 reports wait
abbrev pub short_of : (code address : ℕ) → (class1 : List (List ℕ)) → Frame
short_of code address [] = Single
short_of code address (report ∷ reports) = Fixed (secondary_octet true false code) address

-- what one request makes of the station
pub record Served : Type 0 where
  pub turn : Turn
  pub state : Secondary

abbrev pub unchanged : Secondary → Option Frame → Served
unchanged s answer = record { turn = record { answer = answer; done = [] }; state = s }

-- one report more, as a count that doesn't go past 64 bits
abbrev pub one_more_given : ℕ → ℕ
one_more_given given = min (given + 1) (2 ^ 64 - 1)

-- The answer to a service with a new bit is kept.
abbrev pub with_frame : Secondary → (fcb : Bool) → Frame → Secondary
with_frame s fcb frame = record s { bit = Some fcb; last = Some frame }

abbrev pub no_data : Secondary → (fcb : Bool) → Served
no_data s fcb = record {
  turn = record { answer = Some (short_of (number function.NoData) s.address s.class1); done = [] };
  state = with_frame s fcb (short_of (number function.NoData) s.address s.class1);
}

-- the oldest report of class 1
abbrev pub served_class1 : Secondary → (fcb : Bool) → List (List ℕ) → Served
served_class1 s fcb [] = no_data s fcb
served_class1 s fcb (report ∷ reports) = record {
  turn = record {
    answer = Some (data_frame (control_of (number function.UserData) reports) s.address report);
    done = Given report ∷ [];
  };
  state =
      record (with_frame s fcb
      (data_frame (control_of (number function.UserData) reports) s.address report)) {
        class1 = reports;
        given = one_more_given s.given;
      };
}

-- the oldest report of class 2
abbrev pub served_class2 : Secondary → (fcb : Bool) → List (List ℕ) → Served
served_class2 s fcb [] = no_data s fcb
served_class2 s fcb (report ∷ reports) = record {
  turn = record {
    answer = Some (data_frame (control_of (number function.UserData) s.class1) s.address report);
    done = Given report ∷ [];
  };
  state =
      record (with_frame s fcb
      (data_frame (control_of (number function.UserData) s.class1) s.address report)) {
        class2 = reports;
        given = one_more_given s.given;
      };
}

-- A command is accepted if there was memory for it, and else answered that the station is busy.
abbrev pub served_command : (granted : Bool) → Secondary → (fcb : Bool) → List ℕ → Served
served_command true s fcb asdu = record {
  turn = record {
    answer = Some (short_of (number function.Confirm) s.address s.class1);
    done = Accepted asdu ∷ [];
  };
  state =
      record (with_frame s fcb (short_of (number function.Confirm) s.address s.class1)) {
        accepted = s.accepted ++ asdu ∷ [];
      };
}
served_command false s fcb asdu = record {
  turn = record {
    answer = Some (Fixed (control_of (number function.Busy) s.class1) s.address);
    done = [];
  };
  state = with_frame s fcb (Fixed (control_of (number function.Busy) s.class1) s.address);
}

abbrev pub served_new : (granted : Bool) → Secondary → (fcb : Bool) → Service → Served
served_new granted s fcb Class1 = served_class1 s fcb s.class1
served_new granted s fcb Class2 = served_class2 s fcb s.class2
served_new granted s fcb (Command asdu) = served_command granted s fcb asdu

abbrev pub is_same : Bool → Bool → Bool
is_same true b = b
is_same false true = false
is_same false false = true

abbrev pub served_counted : (granted : Bool) → Secondary → Option Bool → (fcb : Bool) → Service →
    Served
served_counted granted s None fcb service = unchanged s None
served_counted granted s (Some bit) fcb service =
    if is_same fcb bit then unchanged s s.last else served_new granted s fcb service

-- what one request makes of the station
abbrev pub served : (granted : Bool) → Secondary → Asked → Served
served granted s Status =
    unchanged s (Some (Fixed (control_of (number function.LinkStatus) s.class1) s.address))
served granted s Reset = record {
  turn = record {
    answer = Some (short_of (number function.Confirm) s.address s.class1);
    done = [];
  };
  state = record s { bit = Some false; last = None };
}
served granted s (Counted fcb service) = served_counted granted s s.bit fcb service

abbrev pub IsCommandServed : Secondary → (fcb : Bool) → List ℕ → Option Frame → Secondary → Type 0
IsCommandServed old fcb asdu answer new =
    (granted : Bool) × (answer ≡ (served_command granted old fcb asdu).turn.answer)
    × (new ≡ (served_command granted old fcb asdu).state)

-- The station answers so, and has this state after it, whether memory was granted or not.
abbrev pub IsServed : Secondary → Asked → Option Frame → Secondary → Type 0
IsServed old request answer new =
    (granted : Bool) × (answer ≡ (served granted old request).turn.answer)
    × (new ≡ (served granted old request).state)

-- what one frame makes of the station
abbrev pub received_reading : (granted : Bool) → Secondary → Reading → Served
received_reading granted s Foreign = unchanged s None
received_reading granted s Unknown =
    unchanged s (Some (Fixed (control_of (number function.NotImplemented) s.class1) s.address))
received_reading granted s (Asks request) = served granted s request

abbrev pub IsReadingReceived : Secondary → Reading → Option Frame → Secondary → Type 0
IsReadingReceived old reading answer new =
    (granted : Bool) × (answer ≡ (received_reading granted old reading).turn.answer)
    × (new ≡ (received_reading granted old reading).state)

abbrev pub IsFrameReceived : Secondary → Frame → Option Frame → Secondary → Type 0
IsFrameReceived old frame answer new = IsReadingReceived old (reading_of old.address frame) answer
    new

-- The station receives octets: a whole frame, or nothing.
abbrev pub ReceivesOctets : Secondary → List ℕ → Option Frame → Secondary → Type 0
ReceivesOctets old octets answer new =
    ((frame : Frame) × IsLineFrame old.size frame octets × IsFrameReceived old frame answer new)
    ⊎ (((frame : Frame) → IsLineFrame old.size frame octets → ⊥) × (answer ≡ None) × (new ≡ old))
