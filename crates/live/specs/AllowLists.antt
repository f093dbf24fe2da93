-- Who may connect (this gateway's own profile).
use Rattle.std.specs.Prelude.{◌≡◌, All, Contains, ◌+◌, ◌-◌, ◌^◌, ◌++◌, List, [], ◌∷◌, min, Option}
use Rattle.std.specs.Prelude.{Some, None, option_map}
use Rattle.std.specs.Net.Addr.{IsIpv4Mapped, MatchIp, ipv6_segments}
use Rattle.std.specs.declared.net.ip_addr.IpAddr.{IpAddr}
use Rattle.live.specs.declared.allow_list.AllowList.{AllowList}
use Rattle.live.specs.declared.allow_list.AllowList.TheVariants.{Anyone, Only}
use Rattle.live.specs.declared.ends.RefusedPeers.{RefusedPeers}

-- anyone, or who connects from one of these addresses
abbrev pub Allows : AllowList → IpAddr → Type 0
Allows Anyone address = Unit {0}
Allows (Only addresses) address = Contains addresses.items address

-- It isn't an IPv4 address that is written as an IPv6 one.
abbrev pub IsPlain : IpAddr → Type 0
IsPlain address = MatchIp address (λ _. Unit {0}) (λ a. IsIpv4Mapped (ipv6_segments a) → ⊥)

-- one more was refused, who has this address
abbrev pub one_more_refused : IpAddr → RefusedPeers → RefusedPeers
one_more_refused address s = record { count = min (s.count + 1) (2 ^ 64 - 1); last = Some address }

-- none of these may connect
abbrev pub AreStrangers : AllowList → List IpAddr → Type 0
AreStrangers allow_list peers = All (λ peer. Allows allow_list peer → ⊥) peers

-- these more were refused, the newest first
abbrev pub counted : List IpAddr → RefusedPeers → RefusedPeers
counted [] s = s
counted (peer ∷ before) s = one_more_refused peer (counted before s)

-- nobody was refused
abbrev pub nobody : RefusedPeers
nobody = record { count = 0; last = None }

-- those whom a listener refused, the newest first, if it notes them; and what it says of them
pub record Refusals : Type 0 where
  pub peers : Option (List IpAddr)
  pub said : RefusedPeers

-- these more, the newest first
abbrev pub refusing : List IpAddr → Refusals → Refusals
refusing peers r = record {
  peers = option_map (λ before. peers ++ before) r.peers;
  said = counted peers r.said;
}

-- A look with this list refused some, or nobody, none of whom may connect.
pub record RefusesStrangers (allow_list : AllowList) (old new : Refusals) : Type 0 where
  pub refused : List IpAddr
  pub strangers : AreStrangers allow_list refused
  pub ends : new ≡ refusing refused old
