-- What is counted of reads: for each kind the headers and their bytes, for each ending the reads.
use Rattle.std.specs.Prelude.{ℕ, ◌+◌, min, cond, List, [], ◌∷◌, map, length, filter, sum_by, ◌==◌}
use Rattle.headers.specs.declared.kinds.Kind.{Kind}
use Rattle.headers.specs.declared.kinds.Kind.TheVariants.{Ethernet, Vlan, Mpls, Ipv4, Ipv6, Tcp, Udp, Gre, Icmp, Arp, Other}
use Rattle.headers.specs.declared.mark.Mark.{Mark}
use Rattle.headers.specs.Kinds.{kind_number}
use Rattle.walks.specs.declared.outcome.Ending.{Ending}
use Rattle.walks.specs.declared.outcome.Ending.TheVariants.{Done, Cut, Short, Unfit, Dropped}
use Rattle.walks.specs.Outcomes.{ending_number}
use Rattle.taps.specs.declared.counts.Tally.{Tally}
use Rattle.taps.specs.declared.counts.Endings.{Endings}
use Rattle.taps.specs.declared.counts.Report.{Report}

-- Plain counts, which are never cut
pub record Counts : Type 0 where
  pub headers : Kind → ℕ
  pub bytes : Kind → ℕ
  pub endings : Ending → ℕ

abbrev pub no_counts : Counts
no_counts = record { headers = λ k. 0; bytes = λ k. 0; endings = λ e. 0 }

-- the marks of a kind
abbrev pub of_kind : Kind → List Mark → List Mark
of_kind k ms = filter (λ (m : Mark). m.kind == kind_number k) ms

-- each mark adds one header and its length to its kind
abbrev pub with_marks : List Mark → Counts → Counts
with_marks ms c = record {
  headers = λ k. c.headers k + length (of_kind k ms);
  bytes = λ k. c.bytes k + sum_by (λ (m : Mark). m.length) (of_kind k ms);
  endings = c.endings;
}

-- and the ending adds one to its count
abbrev pub counted : List Mark → Ending → Counts → Counts
counted ms e c = record {
  headers = (with_marks ms c).headers;
  bytes = (with_marks ms c).bytes;
  endings = λ d. c.endings d + cond (ending_number d == ending_number e) 1 0;
}

-- The counts of a tap, each of which stops at the most that it can be

abbrev pub most_count : ℕ
most_count = 4294967295

abbrev pub capped : ℕ → ℕ
capped n = min n most_count

-- what is told of plain counts
abbrev pub tally_of : Counts → Kind → Tally
tally_of c k = record { headers = capped (c.headers k); bytes = capped (c.bytes k) }

abbrev pub endings_of : Counts → Endings
endings_of c = record {
  done = capped (c.endings Done);
  cut = capped (c.endings Cut);
  short = capped (c.endings Short);
  unfit = capped (c.endings Unfit);
  dropped = capped (c.endings Dropped);
}

-- the kinds, by their numbers
abbrev pub kinds : List Kind
kinds = Ethernet ∷ Vlan ∷ Mpls ∷ Ipv4 ∷ Ipv6 ∷ Tcp ∷ Udp ∷ Gre ∷ Icmp ∷ Arp ∷ Other ∷ []

abbrev pub report_of : Counts → Report
report_of c = record { tallies = map (tally_of c) kinds; endings = endings_of c }

-- How they are raised

abbrev pub raised : ℕ → Tally → Tally
raised n t = record { headers = capped (t.headers + 1); bytes = capped (t.bytes + n) }

abbrev pub one_more : Ending → Endings → Endings
one_more Done e = record e { done = capped (e.done + 1) }
one_more Cut e = record e { cut = capped (e.cut + 1) }
one_more Short e = record e { short = capped (e.short + 1) }
one_more Unfit e = record e { unfit = capped (e.unfit + 1) }
one_more Dropped e = record e { dropped = capped (e.dropped + 1) }
