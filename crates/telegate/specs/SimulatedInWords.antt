-- What a run of a script has printed, in lines or in words (this gateway's own profile).
use Rattle.std.specs.Prelude.{◌≡◌, ◌≤◌, ℕ, Bool, List, ◌++◌, Option}
use Rattle.std.specs.Io.KnownBytes.{Appends}
use Rattle.gateway.specs.Config.{Settings}
use Rattle.gateway.specs.Log.{Log}
use Rattle.words.specs.Ladders.{IsLadder}
use Rattle.ft12.specs.declared.frame.Frame.{Frame}
use Rattle.gateway.specs.Setups.{setup_of}
use Rattle.gateway.specs.Traffic.{IsFaithful}
use Rattle.link.specs.Secondary.{Secondary}
use Rattle.sim.specs.Calls.{calls_in}
use Rattle.sim.specs.Lives.{plan_of}
use Rattle.sim.specs.Losses.{turns_of}
use Rattle.sim.specs.Played.{IsPlayed}
use Rattle.sim.specs.Runs.{IsBegun, IsCutShort, IsRun, IsSimulated, IsStopped}
use Rattle.sim.specs.declared.directive.Directive.{Directive}
use Rattle.telegate.specs.Manners.{style_of}
use Rattle.telegate.specs.declared.manner.Manner.{Manner}
use Rattle.telegate.specs.declared.manner.Manner.TheVariants.{Lines, Words}

-- a whole run of the script, of whose log in words, with the closing lines, so much was printed
pub record IsRunInWords (c : Settings) (ds : List Directive) (is_coloured : Bool)
    (IsPrinted : List ℕ → Type 0) : Type 0 where
  pub log : Log
  pub closing : List ℕ
  pub run : IsRun c ds log closing
  pub words : List ℕ
  pub written : IsLadder (style_of c is_coloured) log words
  pub printed : IsPrinted (words ++ closing)

-- a run of the script may stop with this log
pub record IsStopAt (c : Settings) (ds : List Directive) (log : Log) : Type 0 where
  pub stations : List Secondary
  pub answers : List (Option Frame)
  pub played : IsPlayed (plan_of c ds) log answers stations
  pub calls : calls_in log ≤ turns_of ds
  pub faithful : IsFaithful (setup_of c) log

-- A run that stopped before its end, of whose first entries in words a beginning was printed.
pub record IsStopInWords (c : Settings) (ds : List Directive) (is_coloured : Bool)
    (before after : Option (List ℕ)) : Type 0 where
  pub log : Log
  pub stop : IsStopAt c ds log
  pub first : Log
  pub news : Log
  pub behind : log ≡ news ++ first
  pub words : List ℕ
  pub written : IsLadder (style_of c is_coloured) first words
  pub printed : IsBegun before after words

abbrev pub IsSimulatedIn : Manner → Settings → List Directive
    → (before after : Option (List ℕ)) → Type 0
IsSimulatedIn Lines c ds before after = IsSimulated c ds before after
IsSimulatedIn (Words is_coloured) c ds before after =
    IsRunInWords c ds is_coloured (Appends before after)

-- of the text of the whole run a beginning was printed
abbrev pub IsCutShortIn : Manner → Settings → List Directive
    → (before after : Option (List ℕ)) → Type 0
IsCutShortIn Lines c ds before after = IsCutShort c ds before after
IsCutShortIn (Words is_coloured) c ds before after =
    IsRunInWords c ds is_coloured (IsBegun before after)

abbrev pub IsStoppedIn : Manner → Settings → List Directive
    → (before after : Option (List ℕ)) → Type 0
IsStoppedIn Lines c ds before after = IsStopped c ds before after
IsStoppedIn (Words is_coloured) c ds before after = IsStopInWords c ds is_coloured before after
