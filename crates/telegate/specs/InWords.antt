-- A run that is printed in words, between two parts of its text.
use Rattle.std.specs.Prelude.{◌≡◌, true}
use Rattle.gateway.specs.Log.{Log}
use Rattle.words.specs.Scribing.{Scribing}
use Rattle.words.specs.Ladders.{IsLadder}
use Rattle.words.specs.declared.ladder.rungs.Style.{Style}

-- a scribe has written of all of a log so, and its page is clear
pub record HasWritten (style : Style) (log : Log) (s : Scribing) : Type 0 where
  pub style_is : s.style ≡ style
  pub log_is : s.log ≡ log
  pub poured : s.poured ≡ log
  pub noted : s.is_noted ≡ true
  pub written : IsLadder style log s.logged
