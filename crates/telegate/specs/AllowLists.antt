-- The control centres that may connect, from words (this gateway's own profile).
use Rattle.std.specs.Prelude.{◌≡◌, List, [], ◌∷◌, Contains, Option, Some, None, MatchOption}
use Rattle.std.specs.Net.Addr.{IsCanonicalOf, MatchIp}
use Rattle.std.specs.Net.Grammar.{IsIpText}
use Rattle.std.specs.declared.net.ip_addr.IpAddr.{IpAddr}
use Rattle.clap.specs.Words.{Text}
use Rattle.live.specs.declared.allow_list.AllowList.{AllowList}
use Rattle.live.specs.declared.allow_list.AllowList.TheVariants.{Anyone, Only}
use Rattle.telegate.specs.declared.fault.Fault.{Fault}
use Rattle.telegate.specs.declared.fault.Fault.TheVariants.{Address, NoMemory}

-- the word writes an address; an IPv4 address that is written as an IPv6 one is that IPv4 address
pub record Writes (word : Text) (address : IpAddr) : Type 0 where
  pub written : IpAddr
  pub text : IsIpText word written
  pub same : MatchIp written (λ _. address ≡ written) (λ a. IsCanonicalOf a address)

-- the word writes none
abbrev pub WritesNone : Text → Type 0
WritesNone word = (address : IpAddr) → IsIpText word address → ⊥

abbrev pub IsAddress : Text → Option IpAddr → Type 0
IsAddress word address = MatchOption address (WritesNone word) (Writes word)

-- each word writes the address at its place
abbrev pub AreAddresses : List Text → List IpAddr → Type 0
AreAddresses [] [] = Unit {0}
AreAddresses (word ∷ words) (address ∷ addresses) =
    Writes word address × AreAddresses words addresses
AreAddresses words addresses = ⊥

-- without words anyone may connect
abbrev pub IsAllowListOf : Option (List Text) → AllowList → Type 0
IsAllowListOf None allow_list = allow_list ≡ Anyone
IsAllowListOf (Some words) Anyone = ⊥
IsAllowListOf (Some words) (Only addresses) = AreAddresses words addresses.items

-- one of the words writes no address
abbrev pub IsAllowListFault : Option (List Text) → Fault → Type 0
IsAllowListFault words Address =
    MatchOption words ⊥ (λ ws. (word : Text) × (Contains ws word × WritesNone word))
IsAllowListFault words NoMemory = Unit {0}
IsAllowListFault words _ = ⊥
