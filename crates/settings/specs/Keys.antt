-- What a table gives for a key, and the settings of one key (this gateway's own profile).
use Rattle.std.specs.Prelude.{ℕ, ℤ, pos, negsuc, ◌^◌, nat_lt, nat_le, ◌&&◌, Bool, false}
use Rattle.std.specs.Prelude.{if◌then◌else◌, List, Option, Some, None, Result, Ok, Err, option_map}
use Rattle.std.specs.Prelude.{String}
use Rattle.std.specs.Borrow.{Bor}
use Rattle.std.specs.BTreeMap.{BTreeMap}
use Rattle.std.specs.declared.alloc.Global.{Global}
use Rattle.toml.specs.Data.{Data, Members, get_member, as_integer, as_bool, as_table}
use Rattle.toml.specs.View.{table_view}
use Rattle.toml.specs.declared.value.Value.{Value}
use Rattle.settings.specs.Faults.{Path}
use Rattle.settings.specs.declared.fault.WrongKey.{WrongKey}
use Rattle.settings.specs.declared.keys.Whole.{Whole}

-- the value at a key, if the table and the key are there
abbrev pub given_at : List ℕ → Option Members → Option Data
given_at key None = None
given_at key (Some t) = get_member key t

-- a setting that is a whole number: its key, its dotted path, its least and greatest value, its
-- default
pub record Row : Type 0 where
  pub key : List ℕ
  pub path : Path
  pub low : ℕ
  pub high : ℕ
  pub default : Option ℕ

abbrev pub row : List ℕ → Path → ℕ → ℕ → Option ℕ → Row
row k p l h d = record { key = k; path = p; low = l; high = h; default = d }

-- the row that the code's `Whole` stands for
abbrev pub row_of : Whole → Row
row_of w = row w.key.now w.path.now w.low w.high w.default

-- an integer as a number of 32 bits
abbrev pub number_of : Option ℤ → Option ℕ
number_of (Some (pos n)) = if nat_lt n (2 ^ 32) then Some n else None
number_of (Some (negsuc n)) = None
number_of None = None

-- the number given, or the default if none is
abbrev pub number_or : Option ℕ → Option Data → Option ℕ
number_or default None = default
number_or default (Some d) = number_of (as_integer d)

-- the number if it is in the row's range, else the row's path
abbrev pub judged : Row → Option ℕ → Result ℕ Path
judged r None = Err r.path
judged r (Some n) = if nat_le r.low n && nat_le n r.high then Ok n else Err r.path

-- what a row reads from a table
abbrev pub whole_of : Row → Option Members → Result ℕ Path
whole_of r t = judged r (number_or r.default (given_at r.key t))

-- a flag's value: no key is `false`, and a value that is no flag is wrong
abbrev pub flag_in : Path → Option Bool → Result Bool Path
flag_in path None = Err path
flag_in path (Some b) = Ok b

abbrev pub flag_or : Path → Option Data → Result Bool Path
flag_or path None = Ok false
flag_or path (Some d) = flag_in path (as_bool d)

abbrev pub flag_of : List ℕ → Path → Option Members → Result Bool Path
flag_of key path t = flag_or path (given_at key t)

-- a table that may be missing, as its members
abbrev pub members_in : Option (Bor (BTreeMap (String Global) Value)) → Option Members
members_in t = option_map (λ t. table_view t.now) t

-- the table, or the path of its first key if it is none
abbrev pub table_or : Path → Option Members → Result (Option Members) Path
table_or first None = Err first
table_or first (Some t) = Ok (Some t)

abbrev pub section_or : Path → Option Data → Result (Option Members) Path
section_or first None = Ok None
section_or first (Some d) = table_or first (as_table d)

-- the table under a key, which may be missing
abbrev pub section_of : List ℕ → Path → Members → Result (Option Members) Path
section_of key first root = section_or first (get_member key root)

-- the section that was found, as its members
abbrev pub sections_seen : Result (Option (Bor (BTreeMap (String Global) Value))) WrongKey →
    Result (Option Members) Path
sections_seen (Ok t) = Ok (members_in t)
sections_seen (Err wrong) = Err wrong.path.now
