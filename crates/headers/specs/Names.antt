-- The names of the kinds.
use Rattle.std.specs.Prelude.{ℕ, List, codes}
use Rattle.headers.specs.declared.kinds.Kind.{Kind}
use Rattle.headers.specs.declared.kinds.Kind.TheVariants.{Ethernet, Vlan, Mpls, Ipv4, Ipv6, Tcp, Udp, Gre, Icmp, Arp, Other}

-- a kind's name, as text
abbrev pub kind_name : Kind → List ℕ
kind_name Ethernet = codes "Ethernet"
kind_name Vlan = codes "VLAN"
kind_name Mpls = codes "MPLS"
kind_name Ipv4 = codes "IPv4"
kind_name Ipv6 = codes "IPv6"
kind_name Tcp = codes "TCP"
kind_name Udp = codes "UDP"
kind_name Gre = codes "GRE"
kind_name Icmp = codes "ICMP"
kind_name Arp = codes "ARP"
kind_name Other = codes "other"
