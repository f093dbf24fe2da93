-- How a run is printed (this gateway's own profile).
use Rattle.std.specs.Prelude.{◌≡◌, ◌&&◌, ◌||◌, not, ℕ, Bool, true, false, if◌then◌else◌, List, []}
use Rattle.std.specs.Prelude.{◌∷◌, Result, Ok, Err, String, string_bytes}
use Rattle.std.specs.declared.alloc.Global.{Global}
use Rattle.std.specs.declared.env.VarError.{VarError}
use Rattle.std.specs.declared.env.VarError.TheVariants.{NotPresent}
use Rattle.gateway.specs.Config.{Settings}
use Rattle.gateway.specs.Log.{Log}
use Rattle.words.specs.Ladders.{IsLadder}
use Rattle.words.specs.declared.ladder.rungs.Style.{Style}
use Rattle.traces.specs.Actions.{lines_of_actions}
use Rattle.telegate.specs.declared.manner.Manner.{Manner}
use Rattle.telegate.specs.declared.manner.Manner.TheVariants.{Lines, Words}

-- by the flags `--words` and `--color`, and by whether standard output shows colours of itself
abbrev pub manner_of : (words color has_colours : Bool) → Manner
manner_of words color has_colours = if words then Words (color || has_colours) else Lines

abbrev pub is_empty : List ℕ → Bool
is_empty [] = true
is_empty (octet ∷ octets) = false

-- a variable of the environment is there, and isn't empty
abbrev pub is_set : Result (String Global) VarError → Bool
is_set (Ok text) = not (is_empty (string_bytes text))
is_set (Err NotPresent) = false
is_set (Err why) = true

-- Standard output shows colours of itself if it is a terminal, unless the environment has a
-- NO_COLOR that isn't empty (https://no-color.org).
abbrev pub shows_colours : (is_terminal has_no_color : Bool) → Bool
shows_colours is_terminal has_no_color = is_terminal && not has_no_color

-- how lines in words are written for these settings
abbrev pub style_of : Settings → (is_coloured : Bool) → Style
style_of settings is_coloured = record {
  sizes = record { link = settings.line.link; asdu = settings.line.sizes };
  is_coloured = is_coloured;
}

-- the text of a log: the lines of its actions, or those of all its entries in words
abbrev pub AreLines : Log → (text : List ℕ) → Type 0
AreLines log text = text ≡ lines_of_actions log

abbrev pub IsTextBy : Manner → Settings → Log → (text : List ℕ) → Type 0
IsTextBy Lines settings = AreLines
IsTextBy (Words is_coloured) settings = IsLadder (style_of settings is_coloured)
