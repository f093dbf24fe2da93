-- The address of who connects, and who may not.
use Rattle.std.proofs.Common.{◌≡◌, [], refl, sym, ap, subst}
use Rattle.std.proofs.lemmas.List.Elements.{All-nil}
use Rattle.std.specs.Net.Addr.{IsCanonicalOf, IsIpv4Mapped, MatchIp, ipv4_octets, ipv6_segments}
use Rattle.std.specs.Net.Addr.{low_octets}
use Rattle.std.specs.declared.net.ip_addr.IpAddr.{IpAddr}
use Rattle.std.specs.declared.net.ip_addr.IpAddr.TheVariants.{V4, V6}
use Rattle.std.specs.declared.net.ipv4_addr.Ipv4Addr.{Ipv4Addr}
use Rattle.std.specs.declared.net.ipv6_addr.Ipv6Addr.{Ipv6Addr}
use Rattle.live.specs.AllowLists.{Allows, AreStrangers, IsPlain}
use Rattle.live.specs.declared.allow_list.AllowList.{AllowList}

plain_by : (a : Ipv6Addr) (c : IpAddr) → IsCanonicalOf a c → IsPlain c
plain_by a (V4 ip) is = tt
plain_by a (V6 ip) is =
    let P : Ipv6Addr → Type 0 = λ x. IsIpv4Mapped (ipv6_segments x) → ⊥ in
    subst P (sym is.1) is.0

pub plain_of : (x c : IpAddr) → MatchIp x (λ _. c ≡ x) (λ a. IsCanonicalOf a c) → IsPlain c
plain_of (V4 ip) c same = subst IsPlain (sym same) tt
plain_of (V6 a) c is = plain_by a c is

-- nobody is refused
pub no_strangers : (g : AllowList) → AreStrangers g []
no_strangers g = All-nil (λ peer. Allows g peer → ⊥)

-- a plain address is one's own, and a mapped one that which stands in it
own_by : (a : Ipv6Addr) (c : IpAddr) → IsCanonicalOf a c → (IsIpv4Mapped (ipv6_segments a) → ⊥)
    → c ≡ V6 a
own_by a (V4 ip) is plain = absurd (plain is.0)
own_by a (V6 ip) is plain = ap (λ x. V6 x) is.1

pub own_of : (x c : IpAddr) → MatchIp x (λ _. c ≡ x) (λ a. IsCanonicalOf a c) → IsPlain x → c ≡ x
own_of (V4 ip) c same plain = same
own_of (V6 a) c is plain = own_by a c is plain

mapped_by : (a : Ipv6Addr) (c : IpAddr) → IsCanonicalOf a c → IsIpv4Mapped (ipv6_segments a)
    → (inner : Ipv4Addr) × (c ≡ V4 inner) × (ipv4_octets inner ≡ low_octets a)
mapped_by a (V4 ip) is mapped = (ip, refl, is.1)
mapped_by a (V6 ip) is mapped = absurd (is.0 mapped)

pub mapped_of : (x c : IpAddr) (a : Ipv6Addr) → MatchIp x (λ _. c ≡ x) (λ a. IsCanonicalOf a c)
    → x ≡ V6 a → IsIpv4Mapped (ipv6_segments a)
    → (inner : Ipv4Addr) × (c ≡ V4 inner) × (ipv4_octets inner ≡ low_octets a)
mapped_of x c a is same mapped =
    let P : IpAddr → Type 0 = λ y. MatchIp y (λ _. c ≡ y) (λ a. IsCanonicalOf a c) in
    mapped_by a c (subst P same is) mapped
