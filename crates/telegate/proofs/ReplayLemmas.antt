-- Runs over a trace: what their ends say of the whole command.
use Rattle.std.proofs.Common.{◌≡◌, ◌⊎◌, ℕ, Bool, List, [], ◌++◌, Option, Some, None, inl, inr, refl}
use Rattle.std.proofs.Common.{subst, ◌∙◌}
use Rattle.std.proofs.lemmas.List.{append-nil}
use Rattle.std.specs.Prelude.{Result, Ok, Err}
use Rattle.std.specs.Io.KnownBytes.{Keeps}
use Rattle.sim.specs.Runs.{IsBegun}
use Rattle.delivery.specs.Delivery.{Delivers}
use Rattle.gateway.specs.Accounts.{IsAccounted}
use Rattle.gateway.specs.Agrees.{Follows}
use Rattle.gateway.specs.Config.{Settings}
use Rattle.gateway.specs.Log.{Log, LogEntry, events_of}
use Rattle.gateway.specs.Order.{KeepsOrder}
use Rattle.gateway.specs.Setups.{setup_of}
use Rattle.gateway.specs.State.{State}
use Rattle.gateway.specs.Traffic.{IsFaithful, HasRested}
use Rattle.settings.specs.Settings.{IsReadOfText}
use Rattle.traces.specs.Trace.{first_wrong}
use Rattle.telegate.specs.Answers.{HasRun, Runs, IsEndOf, IsReplay, IsRunOf, IsStopOf, IsReplayed}
use Rattle.telegate.specs.Answers.{WasJudged}
use Rattle.telegate.specs.Given.{IsConfigFault}
use Rattle.telegate.specs.Closing.{closing_lines}
use Rattle.telegate.specs.Manners.{IsTextBy}
use Rattle.telegate.specs.Records.{IsFound, lines_read, script_read}
use Rattle.telegate.specs.Parts.{IsRecordFound, IsWant, IsJudgedFault, IsRightText, IsStoppedOver}
use Rattle.telegate.specs.Source.{Gives}
use Rattle.telegate.proofs.Kept.{keeps_same}
use Rattle.telegate.specs.Printed.{IsClosedBy}
use Rattle.telegate.specs.declared.closing.Closing.{Closing}
use Rattle.telegate.specs.declared.manner.Manner.{Manner}
use Rattle.telegate.specs.declared.manner.Manner.TheVariants.{Lines, Words}
use Rattle.telegate.specs.declared.fault.Fault.{Fault}
use Rattle.telegate.specs.declared.fault.Fault.TheVariants.{Config, Site, Trace, Script, Record}
use Rattle.telegate.specs.declared.fault.Fault.TheVariants.{Unfit}
use Rattle.telegate.specs.declared.fault.Fault.TheVariants.{Sizes, Octets, Address, NoState}
use Rattle.telegate.specs.declared.fault.Fault.TheVariants.{StateInUse, StateUnusable, Device}
use Rattle.telegate.specs.declared.fault.Fault.TheVariants.{EndUnusable, Unread, NoMemory}

module _ (manner : Manner) (r : Bool) (has : List ℕ → Type 0) (closing : Closing)
    (settings : Settings) (trace : List ℕ)
    (log : Log) (lines : List ℕ) (old new : Option (List ℕ)) (is : has trace)
    (faithful : IsFaithful (setup_of settings) log)
    (written : IsTextBy manner settings log lines) where
  -- a run that stopped before its end
  pub stopped : (rest : List LogEntry) → events_of log ++ rest ≡ script_read r trace
      → IsBegun old new lines → IsStopOf settings manner r has old new
  stopped rest events begun = record {
    trace = trace;
    is = is;
    log = log;
    rest = rest;
    events = events;
    faithful = faithful;
    text = lines;
    written = written;
    printed = begun;
  }

  -- a run that came to its end, with the state that the gateway then has
  pub ended : (state : State) → first_wrong 1 (lines_read r trace) ≡ None → events_of log
      ≡ script_read r trace
      → HasRested (setup_of settings) log → KeepsOrder log → Delivers (setup_of settings) log
      → Follows (setup_of settings) state (Some log) → IsAccounted (setup_of settings) state log
      → (result : Result (Unit {0}) Fault)
      → IsClosedBy old new lines (closing_lines closing.left closing.counts state) result
      → IsEndOf settings manner r has closing old new result
  ended state right events rests ordered delivers follows accounts = by
    where
      text : List ℕ
      text = lines ++ closing_lines closing.left closing.counts state

      run : IsReplay settings manner r trace closing text
      run = record {
        log = log;
        events = events;
        faithful = faithful;
        rests = rests;
        ordered = ordered;
        delivers = delivers;
        state = state;
        follows = follows;
        accounts = accounts;
        lines = lines;
        written = written;
        joined = refl;
      }

      by : (result : Result (Unit {0}) Fault)
          → IsClosedBy old new lines (closing_lines closing.left closing.counts state) result
          → IsEndOf settings manner r has closing old new result
      by (Ok done) h = record {
        trace = trace;
        is = is;
        right = right;
        text = text;
        run =
            run;
        printed = h;
      }
      by (Err Device) h = record {
        trace = trace;
        is = is;
        right = right;
        text = text;
        run =
            run;
        printed = h;
      }
      by (Err NoMemory) h = inr (stopped [] (append-nil (events_of log) ∙ events) h)
      by (Err other) h = absurd h

-- a run that stopped in the text, or before it
pub stopped_by : (manner : Manner) (r : Bool) (closing : Closing) (settings : Settings)
    (known old new : Option (List ℕ))
    (began : State) → Follows (setup_of settings) began (Some []) → (fault : Fault) → IsWant fault
    → Keeps old new ⊎ IsStoppedOver (IsTextBy manner settings) r known began old new
    → IsEndOf settings manner r (Gives known) closing old new (Err fault)
stopped_by manner r closing settings known old new began begins = by
  where
    either : Keeps old new ⊎ IsStoppedOver (IsTextBy manner settings) r known began old new
        → Keeps old new ⊎ IsStopOf settings manner r (Gives known) old new
    either (inl keeps) = inl keeps
    either (inr s) =
        inr (stopped manner r (Gives known) closing settings s.octets s.log s.lines old new s.given
        (s.faithful (setup_of settings) begins tt) s.written s.rest s.events s.begun)

    by : (fault : Fault) → IsWant fault → Keeps old new
        ⊎ IsStoppedOver (IsTextBy manner settings) r known began old new
        → IsEndOf settings manner r (Gives known) closing old new (Err fault)
    by NoMemory want stop = either stop
    by Unread want stop = either stop
    by other want stop = absurd want

-- the whole command, if its settings were read and its trace was judged
pub replayed : (config : List ℕ) (manner : Manner) (r : Bool) (has more : List ℕ → Type 0)
    (closing : Closing) (settings : Settings)
    (old new : Option (List ℕ)) → IsReadOfText config (Ok settings) → IsFound manner more r
    → WasJudged r more
    → ((octets : List ℕ) → has octets → more octets) → (result : Result (Unit {0}) Fault)
    → IsEndOf settings manner r has closing old new result
    → IsReplayed config manner more closing old new result
replayed config manner r has more closing settings old new read found judged wider = by
  where
    run_of : {P : List ℕ → Type 0} → IsRunOf settings manner r has closing P
        → IsRunOf settings manner r more closing P
    run_of h = record {
      trace = h.trace;
      is = wider h.trace h.is;
      right = h.right;
      text = h.text;
      run = h.run;
      printed = h.printed;
    }

    stop_of : IsStopOf settings manner r has old new → IsStopOf settings manner r more old new
    stop_of h = record {
      trace = h.trace;
      is = wider h.trace h.is;
      log = h.log;
      rest = h.rest;
      events = h.events;
      faithful = h.faithful;
      text = h.text;
      written = h.written;
      printed = h.printed;
    }

    has_run : {P : Settings → Bool → Type 0} → P settings r → HasRun config manner more P
    has_run h = record {
      settings = settings;
      read_config = read;
      as_record = r;
      found = found;
      judged = judged;
      end = h;
    }

    either : Keeps old new ⊎ IsStopOf settings manner r has old new
        → Keeps old new
        ⊎ HasRun config manner more (λ s as_record. IsStopOf s manner as_record more old new)
    either (inl keeps) = inl keeps
    either (inr h) = inr (has_run (stop_of h))

    by : (result : Result (Unit {0}) Fault) → IsEndOf settings manner r has closing old new result
        → IsReplayed config manner more closing old new result
    by (Ok done) h = has_run (run_of h)
    by (Err Device) h = has_run (run_of h)
    by (Err NoMemory) h = either h
    by (Err Unread) h = either h
    by (Err other) h = absurd h

-- a trace is wrong
pub misjudged : (config : List ℕ) (manner : Manner) (r : Bool) (has : List ℕ → Type 0)
    (closing : Closing) (settings : Settings)
    (known old : Option (List ℕ)) → IsReadOfText config (Ok settings) → IsFound manner has r
    → ((octets : List ℕ) → Gives known octets → has octets)
    → (fault : Fault) → IsJudgedFault r known fault
    → IsReplayed config manner has closing old old (Err fault)
misjudged config manner r has closing settings known old read found gives (Trace n) wrong = (
  (settings, read),
  record {
    as_record = r;
    found = found;
    trace = wrong.octets;
    is = gives wrong.octets wrong.given;
    wrong = wrong.wrong;
  },
  keeps_same old,
)
misjudged config manner r has closing settings known old read found gives NoMemory wrong =
    inl (keeps_same old)
misjudged config manner r has closing settings known old read found gives Unread wrong =
    inl (keeps_same old)
misjudged config manner r has closing settings known old read found gives (Config why) wrong =
    absurd wrong
misjudged config manner r has closing settings known old read found gives (Script n) wrong =
    absurd wrong
misjudged config manner r has closing settings known old read found gives (Site why) wrong =
    absurd wrong
misjudged config manner r has closing settings known old read found gives (Record n) wrong =
    absurd wrong
misjudged config manner r has closing settings known old read found gives (Unfit n) wrong =
    absurd wrong
misjudged config manner r has closing settings known old read found gives NoState wrong =
    absurd wrong
misjudged config manner r has closing settings known old read found gives StateInUse wrong =
    absurd wrong
misjudged config manner r has closing settings known old read found gives (StateUnusable why)
    wrong = absurd wrong
misjudged config manner r has closing settings known old read found gives Sizes wrong =
    absurd wrong
misjudged config manner r has closing settings known old read found gives Octets wrong =
    absurd wrong
misjudged config manner r has closing settings known old read found gives Address wrong =
    absurd wrong
misjudged config manner r has closing settings known old read found gives EndUnusable wrong =
    absurd wrong
misjudged config manner r has closing settings known old read found gives Device wrong =
    absurd wrong

-- a text in which a record was sought is one of those that may be
pub was_found : (is_coloured : Bool) (r : Bool) (has : List ℕ → Type 0) (known : Option (List ℕ))
    → ((octets : List ℕ) → Gives known octets → has octets) → IsRecordFound known r
    → IsFound (Words is_coloured) has r
was_found is_coloured r has known gives h = (h.octets, gives h.octets h.given, h.is)

-- and so is one that was judged
pub was_judged : (r : Bool) (has : List ℕ → Type 0) (known : Option (List ℕ))
    → ((octets : List ℕ) → Gives known octets → has octets)
    → IsRightText r known → WasJudged r has
was_judged r has known gives h = record {
  trace = h.octets;
  is = gives h.octets h.given;
  right =
      h.right;
}

-- a text that stands in memory is that of a file
found_as : (manner : Manner) (r : Bool) (has more : List ℕ → Type 0)
    → ((octets : List ℕ) → has octets → more octets) → IsFound manner has r → IsFound manner more r
found_as Lines r has more wider found = found
found_as (Words is_coloured) r has more wider found =
    (found.0, wider found.0 found.1, found.2)

replayed_as : (config : List ℕ) (manner : Manner) (has more : List ℕ → Type 0) (closing : Closing)
    (old new : Option (List ℕ))
    (result : Result (Unit {0}) Fault) → ((octets : List ℕ) → has octets → more octets)
    → IsReplayed config manner has closing old new result
    → IsReplayed config manner more closing old new result
replayed_as config manner has more closing old new result wider = by result
  where
    judged : (r : Bool) → WasJudged r has → WasJudged r more
    judged r h = record { trace = h.trace; is = wider h.trace h.is; right = h.right }

    under : (result : Result (Unit {0}) Fault) (settings : Settings) (r : Bool)
        → IsReadOfText config (Ok settings) → IsFound manner has r → WasJudged r has
        → IsEndOf settings manner r has closing old new result
        → IsReplayed config manner more closing old new result
    under result settings r read found was =
        replayed config manner r has more closing settings old new read
        (found_as manner r has more wider found) (judged r was) wider result

    by : (result : Result (Unit {0}) Fault) → IsReplayed config manner has closing old new result
        → IsReplayed config manner more closing old new result
    by (Ok done) h = under (Ok done) h.settings h.as_record h.read_config h.found h.judged h.end
    by (Err Device) h = under (Err Device) h.settings h.as_record h.read_config h.found h.judged
        h.end
    by (Err NoMemory) (inl keeps) = inl keeps
    by (Err NoMemory) (inr h) = under (Err NoMemory) h.settings h.as_record h.read_config h.found
        h.judged (inr h.end)
    by (Err Unread) (inl keeps) = inl keeps
    by (Err Unread) (inr h) = under (Err Unread) h.settings h.as_record h.read_config h.found
        h.judged (inr h.end)
    by (Err (Config why)) h = h
    by (Err (Trace n)) h = (
      h.0,
      record {
        as_record = h.1.as_record;
        found = found_as manner h.1.as_record has more wider h.1.found;
        trace = h.1.trace;
        is = wider h.1.trace h.1.is;
        wrong = h.1.wrong;
      },
      h.2,
    )
    by (Err other) h = absurd h

pub replayed_held : (config : List ℕ) (manner : Manner) (more : List ℕ → Type 0) (closing : Closing)
    (octets : List ℕ)
    (old new : Option (List ℕ)) (exit : ℕ) → more octets
    → Runs (IsReplayed config manner (λ xs. octets ≡ xs) closing) old new exit
    → Runs (IsReplayed config manner more closing) old new exit
replayed_held config manner more closing octets old new exit is h = record {
  result = h.result;
  ran = replayed_as config manner (λ xs. octets ≡ xs) more closing old new h.result
      (λ xs e. subst more e is) h.ran;
  status = h.status;
}
