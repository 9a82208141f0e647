-- The kinds of header and their numbers.
use Rattle.std.specs.Option.{ok_or}
use Rattle.std.specs.Prelude.{ℕ, cond, Some, None, Option, Result, ◌==◌, nat_le}
use Rattle.headers.specs.declared.kinds.Kind.{Kind}
use Rattle.headers.specs.declared.kinds.UnknownKind.{UnknownKind}
use Rattle.headers.specs.declared.kinds.Kind.TheVariants.{Ethernet, Vlan, Mpls, Ipv4, Ipv6, Tcp, Udp, Gre, Icmp, Arp, Other}

-- a kind's number
abbrev pub kind_number : Kind → ℕ
kind_number Ethernet = 0
kind_number Vlan = 1
kind_number Mpls = 2
kind_number Ipv4 = 3
kind_number Ipv6 = 4
kind_number Tcp = 5
kind_number Udp = 6
kind_number Gre = 7
kind_number Icmp = 8
kind_number Arp = 9
kind_number Other = 10

-- the kind that has a number up to 10; past it, the last
abbrev pub kind_at : ℕ → Kind
kind_at n = cond (n == 0) Ethernet (cond (n == 1) Vlan (cond (n == 2) Mpls (cond (n == 3) Ipv4 (cond (n == 4) Ipv6 (cond (n == 5) Tcp (cond (n == 6) Udp (cond (n == 7) Gre (cond (n == 8) Icmp (cond (n == 9) Arp Other)))))))))

-- the kind that has a number: none has one over 10
abbrev pub kind_of : ℕ → Option Kind
kind_of n = cond (nat_le n 10) (Some (kind_at n)) None

-- the same, where a number that no kind has is told
abbrev pub kind_told : ℕ → Result Kind UnknownKind
kind_told n = ok_or (kind_of n) (record { number = n })
