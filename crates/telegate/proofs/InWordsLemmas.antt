-- Runs over parts of a text that are printed in words.
use Rattle.std.proofs.Common.{◌≡◌, ℕ, Bool, true, false, List, [], ◌∷◌, ◌++◌, Option, refl, sym}
use Rattle.std.proofs.Common.{subst, ap, ◌∙◌, append_assoc}
use Rattle.std.proofs.lemmas.List.{append-nil}
use Rattle.gateway.specs.Log.{Log, LogEntry, Came, Went, events_of}
use Rattle.gateway.specs.State.{State}
use Rattle.words.specs.Scribing.{Scribing}
use Rattle.words.specs.Ladders.{IsLadder, first_remembered}
use Rattle.words.specs.declared.ladder.rungs.Style.{Style}
use Rattle.sim.specs.Runs.{IsBegun}
use Rattle.std.specs.Io.KnownBytes.{Appends}
use Rattle.traces.specs.Progress.{Progress, Standing, coming_in, script_of}
use Rattle.telegate.specs.Parts.{IsPartStopped, StaysFaithful}
use Rattle.telegate.specs.Printed.{IsPoured}
use Rattle.telegate.specs.InWords.{HasWritten}
use Rattle.telegate.proofs.PartLemmas.{RunsTo, part_start, runs_begin}
use Rattle.traces.proofs.Poured.{appends_none}

-- nothing is written of nothing
pub no_words : (style : Style) → IsLadder style [] []
no_words style = record { mind = first_remembered style.sizes.link; logged = (refl, refl) }

-- the events of news come behind those before
pub events_behind : (news log : Log) → events_of (news ++ log) ≡ events_of log ++ events_of news
events_behind [] log = sym (append-nil (events_of log))
events_behind (Came now event ∷ news) log =
    ap (λ (es : List LogEntry). es ++ Came now event ∷ []) (events_behind news log)
    ∙ append_assoc (events_of log) (events_of news) (Came now event ∷ [])
events_behind (Went now action ∷ news) log = events_behind news log

-- how far a run over a text has come, with a scribe that has written of all
pub record WritesTo (style : Style) (r : Bool) (known coming : Option (List ℕ))
    (began state : State)
    (s : Standing)
    (scribe : Scribing) (is_whole : Bool) (old new : Option (List ℕ)) : Type 0 where
  pub run : RunsTo (IsLadder style) r known coming began state s is_whole old new
  pub written : HasWritten style s.log scribe
  pub poured : IsPoured is_whole old new scribe.logged

abbrev pub blank : Style → Scribing
blank style = record {
  style = style;
  remembered = first_remembered style.sizes.link;
  log = [];
  poured = [];
  logged = [];
  page = [];
  is_noted = true;
}

abbrev pub unbegun : (as_record : Bool) → Standing
unbegun as_record =
    record { started = as_record; log = []; poured = []; page = []; failed = 0 }

pub text_begins : (style : Style) (r : Bool) (known coming : Option (List ℕ)) (began : State)
    (s : Standing) (scribe : Scribing)
    (old : Option (List ℕ)) → coming ≡ known → s ≡ unbegun r → scribe ≡ blank style
    → WritesTo style r known coming began began s scribe true old old
text_begins style r known coming began s scribe old all fresh new = record {
  run = runs_begin (IsLadder style) r known coming began s old all fresh (no_words style);
  written = subst (λ (x : Scribing). HasWritten style s.log x) (sym new)
      (subst (λ (x : Standing). HasWritten style x.log (blank style)) (sym fresh) (record {
        style_is = refl;
        log_is = refl;
        poured = refl;
        noted = refl;
        written = no_words style;
      }));
  poured = subst (λ (x : Scribing). Appends old old x.logged) (sym new) (appends_none old);
}

module _ (style : Style) (s : Standing) (text : List ℕ) (began : State) (start port : Progress)
    (fresh : start ≡ part_start s text) (course : port.part ≡ start.part)
    (whole : events_of port.log ++ coming_in port ≡ script_of port.part) where
  -- a part was left, of whose first entries so much was written
  pub writing_stopped : (first news : Log) (words : List ℕ) (old new : Option (List ℕ))
      → port.log ≡ news ++ first
      → StaysFaithful began start.log first → IsLadder style first words → IsBegun old new words
      → IsPartStopped (IsLadder style) s text began old new
  writing_stopped first news words old new behind faithful written begun = record {
    log = first;
    rest = events_of news ++ coming_in port;
    events = sym (append_assoc (events_of first) (events_of news) (coming_in port))
        ∙ ap (λ (es : List LogEntry). es ++ coming_in port)
        (sym (ap events_of behind ∙ events_behind news first))
        ∙ whole ∙ ap script_of (course ∙ ap (λ (t : Progress). t.part) fresh);
    faithful = subst (λ (t : Progress). StaysFaithful began t.log first) fresh faithful;
    lines = words;
    written = written;
    begun = begun;
  }
