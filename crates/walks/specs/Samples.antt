-- The sample graph: Ethernet, a VLAN tag, IPv4 and TCP.
use Rattle.std.specs.Prelude.{ℕ, List, [], ◌∷◌}
use Rattle.headers.specs.declared.kinds.Kind.TheVariants.{Ethernet, Vlan, Ipv4, Tcp}
use Rattle.patterns.specs.declared.row.Target.{Target}
use Rattle.patterns.specs.declared.row.Target.TheVariants.{Node, Done, Dropped}
use Rattle.patterns.specs.declared.row.TernaryRow.{TernaryRow}
use Rattle.graphs.specs.declared.graph.Length.TheVariants.{Fixed, Counted}
use Rattle.graphs.specs.View.{NodeView, ternary_rows}

abbrev row : ℕ → ℕ → Target → TernaryRow
row v m t = record { value = v; mask = m; target = t }

-- the catch-all row
abbrev pub any : Target → TernaryRow
any t = row 0 0 t

-- values and masks are over four lookup bytes, the first place topmost
abbrev pub ethernet_with : List TernaryRow → NodeView
ethernet_with rs = record { kind = Ethernet; len = Fixed 14; places = 12 ∷ 13 ∷ []; rows = ternary_rows rs }

-- the rows of the first node for a tag and for IPv4
abbrev pub tag_or_ipv4 : List TernaryRow → List TernaryRow
tag_or_ipv4 rs = row 0x81000000 0xffff0000 (Node 1) ∷ row 0x08000000 0xffff0000 (Node 2) ∷ rs

abbrev pub behind_ethernet : List NodeView
behind_ethernet =
    record { kind = Vlan; len = Fixed 4; places = 2 ∷ 3 ∷ []; rows = ternary_rows (row 0x08000000 0xffff0000 (Node 2) ∷ any Done ∷ []) }
    ∷ record { kind = Ipv4; len = Counted 0 0x0f 0 4 0; places = 6 ∷ 7 ∷ 9 ∷ []; rows = ternary_rows (row 0x00000600 0x1fffff00 (Node 3) ∷ any Done ∷ []) }
    ∷ record { kind = Tcp; len = Counted 12 0xf0 4 4 0; places = []; rows = ternary_rows (any Done ∷ []) } ∷ []

abbrev pub four_nodes : List NodeView
four_nodes = ethernet_with (tag_or_ipv4 (any Dropped ∷ [])) ∷ behind_ethernet
