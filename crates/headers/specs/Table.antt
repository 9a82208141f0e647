-- What is known of each kind: the fewest bytes of its header, and where its fields lie.
use Rattle.std.specs.Prelude.{◌≡◌, ℕ, ◌+◌, ◌-◌, ◌≤◌, cond, List, [], ◌∷◌, ◌++◌, length, replicate, Some, None, Option, nat_lt, slice_index_or}
use Rattle.std.specs.List.{slice_get}
use Rattle.headers.specs.declared.kinds.Kind.{Kind}
use Rattle.headers.specs.declared.kinds.Kind.TheVariants.{Ethernet, Vlan, Mpls, Ipv4, Ipv6, Tcp, Udp, Gre, Icmp, Arp, Other}
use Rattle.headers.specs.declared.table.FieldPlace.{FieldPlace}
use Rattle.headers.specs.declared.table.KindRow.{KindRow}
use Rattle.headers.specs.declared.table.KindTable.{KindTable}
use Rattle.headers.specs.Kinds.{kind_number}

-- a field: its offset in the header and its length, in bytes
abbrev pub place : ℕ → ℕ → FieldPlace
place o n = record { offset = o; length = n }

-- a kind's row: the fewest bytes of its header, and up to four fields; unused places are 0/0
abbrev pub kind_row : ℕ → List FieldPlace → KindRow
kind_row fewest fields = record { minimum = fewest; field_count = length fields; fields = fields ++ replicate (4 - length fields) (place 0 0) }

-- the row of each kind, as the standard says that is named behind it
abbrev pub standard_row : Kind → KindRow
standard_row Ethernet = kind_row 14 (place 0 6 ∷ place 6 6 ∷ place 12 2 ∷ [])  -- IEEE 802.3
standard_row Vlan = kind_row 4 (place 0 2 ∷ place 2 2 ∷ [])  -- IEEE 802.1Q
standard_row Mpls = kind_row 4 (place 0 4 ∷ [])  -- RFC 3032
standard_row Ipv4 = kind_row 20 (place 1 1 ∷ place 6 1 ∷ place 8 2 ∷ place 12 8 ∷ [])  -- RFC 791
standard_row Ipv6 = kind_row 40 (place 0 4 ∷ place 6 2 ∷ place 8 16 ∷ place 24 16 ∷ [])  -- RFC 8200
standard_row Tcp = kind_row 20 (place 0 2 ∷ place 2 2 ∷ place 13 1 ∷ [])  -- RFC 9293
standard_row Udp = kind_row 8 (place 0 2 ∷ place 2 2 ∷ [])  -- RFC 768
standard_row Gre = kind_row 4 (place 0 2 ∷ place 2 2 ∷ [])  -- RFC 2784
standard_row Icmp = kind_row 8 (place 0 1 ∷ place 1 1 ∷ [])  -- RFC 792
standard_row Arp = kind_row 28 (place 6 2 ∷ place 14 4 ∷ place 24 4 ∷ [])  -- RFC 826
standard_row Other = kind_row 1 []

-- the built-in table: each kind's row at the kind's number
abbrev pub standard_table : KindTable
standard_table = record {
  rows = standard_row Ethernet ∷ standard_row Vlan ∷ standard_row Mpls ∷ standard_row Ipv4 ∷ standard_row Ipv6 ∷ standard_row Tcp ∷ standard_row Udp ∷ standard_row Gre ∷ standard_row Icmp ∷ standard_row Arp ∷ standard_row Other ∷ [];
}

-- a kind's row in a table, which has one for each kind
abbrev pub row_in : KindTable → Kind → KindRow
row_in t k = slice_index_or t.rows (kind_number k) (kind_row 0 [])

-- the fewest bytes that a header of the kind has
abbrev pub minimum_in : KindTable → Kind → ℕ
minimum_in t k = (row_in t k).minimum

-- by the built-in table
abbrev pub minimum : Kind → ℕ
minimum = minimum_in standard_table

-- where the kind's field of a number lies: none past the kind's list
abbrev pub field_in : KindTable → Kind → ℕ → Option FieldPlace
field_in t k n = cond (nat_lt n (row_in t k).field_count) (slice_get (row_in t k).fields n) None

-- the law of a table: every field of a kind lies inside the shortest header of the kind
abbrev pub FieldsLieInside : KindTable → Type 0
FieldsLieInside t = (k : Kind) (n : ℕ) (p : FieldPlace) → field_in t k n ≡ Some p → p.offset + p.length ≤ minimum_in t k
