-- A kind and its number give each other.
use Rattle.std.proofs.Common.{◌≡◌, ℕ, ◌≤◌, refl, arith}
use Rattle.std.proofs.lemmas.Bool.Decides.{nat_tests}
use Rattle.headers.specs.declared.kinds.Kind.{Kind}
use Rattle.headers.specs.declared.kinds.Kind.TheVariants.{Ethernet, Vlan, Mpls, Ipv4, Ipv6, Tcp, Udp, Gre, Icmp, Arp, Other}
use Rattle.headers.specs.Kinds.{kind_number, kind_at}

-- the kind at a kind's number is that kind
pub kind_back : (k : Kind) → kind_at (kind_number k) ≡ k
kind_back Ethernet = refl
kind_back Vlan = refl
kind_back Mpls = refl
kind_back Ipv4 = refl
kind_back Ipv6 = refl
kind_back Tcp = refl
kind_back Udp = refl
kind_back Gre = refl
kind_back Icmp = refl
kind_back Arp = refl
kind_back Other = refl

-- the number of the kind at a number up to 10 is that number
pub number_back : (n : ℕ) → n ≤ 10 → kind_number (kind_at n) ≡ n
number_back n h = grind (arith, nat_tests)
