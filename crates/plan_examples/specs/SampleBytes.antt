-- The file of the sample graph, the file of the same graph with a row fewer, and two plans for it, byte by byte.
use Rattle.std.specs.Prelude.{ℕ, List, [], ◌∷◌, ◌++◌}

-- The file

-- four nodes, and a zero
abbrev pub count_bytes : List ℕ
count_bytes = 4 ∷ 0 ∷ []

-- where each node's record begins, and how many bytes it has
abbrev pub pair_bytes : List ℕ
pair_bytes =
    0 ∷ 0x12 ∷ 0 ∷ 0x2e
    ∷ 0 ∷ 0x40 ∷ 0 ∷ 0x24
    ∷ 0 ∷ 0x64 ∷ 0 ∷ 0x24
    ∷ 0 ∷ 0x88 ∷ 0 ∷ 0x1a
    ∷ []

-- node 0: Ethernet, 14 bytes, looked up at 12 and 13, three rows: 0x8100 to node 1, 0x0800 to node 2, what is left is dropped
abbrev pub ethernet_record : List ℕ
ethernet_record =
    0 ∷ 0 ∷ 14 ∷ 0 ∷ 0 ∷ 0 ∷ 0 ∷ 0 ∷ 2 ∷ 12 ∷ 13 ∷ 0 ∷ 0 ∷ 0 ∷ 3 ∷ 0
    ∷ 0x81 ∷ 0x00 ∷ 0 ∷ 0 ∷ 0xff ∷ 0xff ∷ 0 ∷ 0 ∷ 0 ∷ 1
    ∷ 0x08 ∷ 0x00 ∷ 0 ∷ 0 ∷ 0xff ∷ 0xff ∷ 0 ∷ 0 ∷ 0 ∷ 2
    ∷ 0 ∷ 0 ∷ 0 ∷ 0 ∷ 0 ∷ 0 ∷ 0 ∷ 0 ∷ 2 ∷ 0
    ∷ []

-- node 1: a VLAN tag, 4 bytes, looked up at 2 and 3, two rows: 0x0800 to node 2, else done
abbrev pub vlan_record : List ℕ
vlan_record =
    1 ∷ 0 ∷ 4 ∷ 0 ∷ 0 ∷ 0 ∷ 0 ∷ 0 ∷ 2 ∷ 2 ∷ 3 ∷ 0 ∷ 0 ∷ 0 ∷ 2 ∷ 0
    ∷ 0x08 ∷ 0x00 ∷ 0 ∷ 0 ∷ 0xff ∷ 0xff ∷ 0 ∷ 0 ∷ 0 ∷ 2
    ∷ 0 ∷ 0 ∷ 0 ∷ 0 ∷ 0 ∷ 0 ∷ 0 ∷ 0 ∷ 1 ∷ 0
    ∷ []

-- node 2: IPv4, 4 × (byte 0 AND 0x0F) bytes, looked up at 6, 7 and 9, two rows: no fragment offset and protocol 6 to node 3, else done
abbrev pub ipv4_record : List ℕ
ipv4_record =
    3 ∷ 1 ∷ 0 ∷ 0x0f ∷ 0 ∷ 4 ∷ 0 ∷ 0 ∷ 3 ∷ 6 ∷ 7 ∷ 9 ∷ 0 ∷ 0 ∷ 2 ∷ 0
    ∷ 0x00 ∷ 0x00 ∷ 0x06 ∷ 0 ∷ 0x1f ∷ 0xff ∷ 0xff ∷ 0 ∷ 0 ∷ 3
    ∷ 0 ∷ 0 ∷ 0 ∷ 0 ∷ 0 ∷ 0 ∷ 0 ∷ 0 ∷ 1 ∷ 0
    ∷ []

-- node 3: TCP, 4 × ((byte 12 AND 0xF0) shifted right by 4) bytes, nothing looked up, one row: done
abbrev pub tcp_record : List ℕ
tcp_record =
    5 ∷ 1 ∷ 12 ∷ 0xf0 ∷ 4 ∷ 4 ∷ 0 ∷ 0 ∷ 0 ∷ 0 ∷ 0 ∷ 0 ∷ 0 ∷ 0 ∷ 1 ∷ 0
    ∷ 0 ∷ 0 ∷ 0 ∷ 0 ∷ 0 ∷ 0 ∷ 0 ∷ 0 ∷ 1 ∷ 0
    ∷ []

-- the 162 bytes of the file
abbrev pub sample_file : List ℕ
sample_file = count_bytes ++ pair_bytes ++ ethernet_record ++ vlan_record ++ ipv4_record ++ tcp_record

-- The file without the last row of node 0, which drops what is left

-- the records behind it begin 10 bytes earlier
abbrev pub earlier_pair_bytes : List ℕ
earlier_pair_bytes =
    0 ∷ 0x12 ∷ 0 ∷ 0x24
    ∷ 0 ∷ 0x36 ∷ 0 ∷ 0x24
    ∷ 0 ∷ 0x5a ∷ 0 ∷ 0x24
    ∷ 0 ∷ 0x7e ∷ 0 ∷ 0x1a
    ∷ []

abbrev pub shorter_ethernet_record : List ℕ
shorter_ethernet_record =
    0 ∷ 0 ∷ 14 ∷ 0 ∷ 0 ∷ 0 ∷ 0 ∷ 0 ∷ 2 ∷ 12 ∷ 13 ∷ 0 ∷ 0 ∷ 0 ∷ 2 ∷ 0
    ∷ 0x81 ∷ 0x00 ∷ 0 ∷ 0 ∷ 0xff ∷ 0xff ∷ 0 ∷ 0 ∷ 0 ∷ 1
    ∷ 0x08 ∷ 0x00 ∷ 0 ∷ 0 ∷ 0xff ∷ 0xff ∷ 0 ∷ 0 ∷ 0 ∷ 2
    ∷ []

abbrev pub file_without_last_row : List ℕ
file_without_last_row = count_bytes ++ earlier_pair_bytes ++ shorter_ethernet_record ++ vlan_record ++ ipv4_record ++ tcp_record

-- The plans

-- no node has a chain
abbrev pub plan_without_chains : List ℕ
plan_without_chains =
    0 ∷ 0 ∷ 0 ∷ 0
    ∷ 0 ∷ 0 ∷ 0 ∷ 0
    ∷ 0 ∷ 0 ∷ 0 ∷ 0
    ∷ 0 ∷ 0 ∷ 0 ∷ 0
    ∷ []

-- one node stands behind node 0, which is node 1: the tag is taken in one look with Ethernet
abbrev pub plan_with_tag : List ℕ
plan_with_tag =
    1 ∷ 1 ∷ 0 ∷ 0
    ∷ 0 ∷ 0 ∷ 0 ∷ 0
    ∷ 0 ∷ 0 ∷ 0 ∷ 0
    ∷ 0 ∷ 0 ∷ 0 ∷ 0
    ∷ []
