-- What a tap holds, and one of its tallies lent and raised.
use Rattle.std.specs.Prelude.{◌≡◌, List, [], ◌∷◌, Some, None, Option}
use Rattle.std.specs.Borrow.{Lends, Fml, RattleType, MutBor}
use Rattle.headers.specs.declared.kinds.Kind.{Kind}
use Rattle.headers.specs.declared.kinds.Kind.TheVariants.{Ethernet, Vlan, Mpls, Ipv4, Ipv6, Tcp, Udp, Gre, Icmp, Arp, Other}
use Rattle.headers.specs.declared.mark.Mark.{Mark}
use Rattle.headers.specs.Kinds.{kind_of}
use Rattle.taps.specs.declared.counts.Tally.{Tally}
use Rattle.taps.specs.declared.counts.Report.{Report}
use Rattle.taps.specs.declared.inner.Inner.{Inner}
use Rattle.taps.specs.contracts.counts.Tally.{the_row as tally_row}
use Rattle.taps.specs.contracts.inner.Inner.{the_row as inner_row}
use Rattle.taps.specs.Counts.{raised}

module _ {S : Type 0} where
  -- the tallies by the kinds' numbers, and the endings
  abbrev pub tallies : Inner S → List Tally
  tallies i = i.ethernet ∷ i.vlan ∷ i.mpls ∷ i.ipv4 ∷ i.ipv6 ∷ i.tcp ∷ i.udp ∷ i.gre ∷ i.icmp ∷ i.arp ∷ i.other ∷ []

  abbrev pub report_in : Inner S → Report
  report_in i = record { tallies = tallies i; endings = i.endings }

  -- what is no count is the same
  pub record SameButCounts (a b : Inner S) : Type 0 where
    pub store : b.store ≡ a.store
    pub program : b.program ≡ a.program

  -- the tally of a kind, and the same with another in its place
  abbrev pub tally_in : Kind → Inner S → Tally
  tally_in Ethernet i = i.ethernet
  tally_in Vlan i = i.vlan
  tally_in Mpls i = i.mpls
  tally_in Ipv4 i = i.ipv4
  tally_in Ipv6 i = i.ipv6
  tally_in Tcp i = i.tcp
  tally_in Udp i = i.udp
  tally_in Gre i = i.gre
  tally_in Icmp i = i.icmp
  tally_in Arp i = i.arp
  tally_in Other i = i.other

  abbrev pub with_tally : Kind → Inner S → Tally → Inner S
  with_tally Ethernet i w = record i { ethernet = w }
  with_tally Vlan i w = record i { vlan = w }
  with_tally Mpls i w = record i { mpls = w }
  with_tally Ipv4 i w = record i { ipv4 = w }
  with_tally Ipv6 i w = record i { ipv6 = w }
  with_tally Tcp i w = record i { tcp = w }
  with_tally Udp i w = record i { udp = w }
  with_tally Gre i w = record i { gre = w }
  with_tally Icmp i w = record i { icmp = w }
  with_tally Arp i w = record i { arp = w }
  with_tally Other i w = record i { other = w }

  -- a mark raises the tally of its kind, if there is such a kind
  abbrev pub with_raised : Mark → Option Kind → Inner S → Inner S
  with_raised m None i = i
  with_raised m (Some k) i = with_tally k i (raised m.length (tally_in k i))

  abbrev pub with_mark : Mark → Inner S → Inner S
  with_mark m i = with_raised m (kind_of m.kind) i

-- once the borrow r ends, the kind's tally is the last value that was written through it
abbrev pub LendsTally : (S : RattleType) → MutBor (Inner S.Denot) → Kind → MutBor Tally → Fml
LendsTally S i k r = Lends (inner_row S) tally_row i r (with_tally k i.now)
