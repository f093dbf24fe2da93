-- Runs over a simulated line that are printed in words: what their ends say.
use Rattle.std.proofs.Common.{◌≡◌, ◌≤◌, ℕ, ◌++◌, subst, Bool, List, [], Option, Some, inr, refl}
use Rattle.std.specs.Prelude.{Result, Ok, Err}
use Rattle.gateway.specs.Config.{Settings}
use Rattle.gateway.specs.Log.{Log}
use Rattle.gateway.specs.Setups.{setup_of}
use Rattle.gateway.specs.Traffic.{IsFaithful}
use Rattle.words.specs.Scribing.{Scribing}
use Rattle.words.specs.Ladders.{IsLadder}
use Rattle.words.specs.declared.ladder.rungs.Style.{Style}
use Rattle.sim.specs.Lives.{Plan, plan_of}
use Rattle.sim.specs.Losses.{turns_of}
use Rattle.sim.specs.Played.{IsPlayed, Simulated, Stands}
use Rattle.sim.specs.Runs.{IsBegun, IsRun}
use Rattle.sim.specs.declared.directive.Directive.{Directive}
use Rattle.telegate.specs.Answers.{IsSimulationOf}
use Rattle.telegate.specs.Manners.{style_of}
use Rattle.telegate.specs.Printed.{IsClosedBy}
use Rattle.telegate.specs.declared.fault.Fault.{Fault}
use Rattle.telegate.specs.declared.fault.Fault.TheVariants.{Device, NoMemory}
use Rattle.telegate.specs.declared.manner.Manner.TheVariants.{Words}

-- what was taken off a page is the text of the whole log, if that was all of it
pub words_of_all : (style : Style) (s : Scribing) (log : Log) → s.style ≡ style
    → Some log ≡ Some s.poured
    → IsLadder s.style s.poured s.logged → IsLadder style log s.logged
words_of_all style s log is all written =
    let same : s.poured ≡ log = cc in
    subst (λ (l : Log). IsLadder style l s.logged) same
    (subst (λ (x : Style). IsLadder x s.poured s.logged) is written)

module _ (c : Settings) (ds : List Directive) (is_coloured : Bool) (s : Simulated) (plan : s.plan
    ≡ plan_of c ds)
    (stands : Stands s.plan s.log s.stations s.standing)
    (faithful : IsFaithful (setup_of c) s.log) where
  -- a run that stopped, of whose first entries so much was written
  pub words_stopped : (first news : Log) (words : List ℕ) (old new : Option (List ℕ))
      → s.log ≡ news ++ first
      → IsLadder (style_of c is_coloured) first words → IsBegun old new words
      → IsSimulationOf (Words is_coloured) c ds old new (Err NoMemory)
  words_stopped first news words old new behind written begun = inr (record {
    log = s.log;
    stop = let most : s.standing.call ≤ turns_of s.plan.directives = stands.in_turns in record {
      stations = s.stations;
      answers = stands.answers;
      played = subst (λ (q : Plan). IsPlayed q s.log stands.answers s.stations) plan stands.played;
      calls = subst (λ (n : ℕ). n ≤ turns_of ds) stands.call
          (subst (λ (q : Plan). s.standing.call ≤ turns_of q.directives) plan most);
      faithful = faithful;
    };
    first = first;
    news = news;
    behind = behind;
    words = words;
    written = written;
    printed = begun;
  })

  -- one that came to its end
  pub words_ended : (closing words : List ℕ) (old new : Option (List ℕ))
      (r : Result (Unit {0}) Fault)
      → IsRun c ds s.log closing → IsLadder (style_of c is_coloured) s.log words
      → IsClosedBy old new words closing r
      → IsSimulationOf (Words is_coloured) c ds old new r
  words_ended closing words old new (Ok done) run written h =
      record {
        log = s.log;
        closing = closing;
        run = run;
        words = words;
        written =
            written;
        printed = h;
      }
  words_ended closing words old new (Err Device) run written h =
      record {
        log = s.log;
        closing = closing;
        run = run;
        words = words;
        written =
            written;
        printed = h;
      }
  words_ended closing words old new (Err NoMemory) run written h =
      words_stopped s.log [] words old new refl written h
  words_ended closing words old new (Err other) run written h = absurd h
