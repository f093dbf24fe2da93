-- What a scribe has written of a run.
use Rattle.std.specs.Prelude.{◌≡◌, ℕ, Bool, true, List, ◌++◌}
use Rattle.gateway.specs.Log.{Log}
use Rattle.words.specs.Ladders.{IsLadder, IsLoggedTo, Remembered}
use Rattle.words.specs.declared.ladder.rungs.Style.{Style}

-- how lines are written, what is remembered, the log so far, as much of it as was taken off the
-- page, the text that was, the page, and whether all of the log is on it or was
pub record Scribing : Type 0 where
  pub style : Style
  pub remembered : Remembered
  pub log : Log
  pub poured : Log
  pub logged : List ℕ
  pub page : List ℕ
  pub is_noted : Bool

-- the page has the lines of the log that weren't taken off it
pub record IsScribing (s : Scribing) : Type 0 where
  pub noted : s.is_noted ≡ true → IsLoggedTo s.style s.log s.remembered (s.logged ++ s.page)
  pub poured : IsLadder s.style s.poured s.logged
  pub behind : (news : Log) × (s.log ≡ news ++ s.poured)

-- a port, its scribe, and how often nothing was passed on since a line was missing
pub record Climbing (P : Type 0) : Type 0 where
  pub port : P
  pub scribe : Scribing
  pub failed : ℕ
