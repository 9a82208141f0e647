-- A refusal in words: its number, its layer, its place behind a comma, and what the number says.
use Rattle.std.specs.Prelude.{ℕ, List, [], ◌++◌, if◌then◌else◌, codes, decimal, ◌==◌}
use Rattle.refusals.specs.declared.refusal.Layer.{Layer}
use Rattle.refusals.specs.declared.refusal.Layer.TheVariants.{Read}
use Rattle.refusals.specs.declared.refusal.Refusal.{Refusal}
use Rattle.refusals.specs.declared.text.Place.{Place}
use Rattle.refusals.specs.declared.text.Place.TheVariants.{Nowhere, Pair, Node, NodeByte, NodeRow, NodeOffset, Rows, RowsOrMore}
use Rattle.refusals.specs.Names.{layer_name}

-- a place behind a comma: nothing where the number names none
abbrev pub place_text : Place → List ℕ
place_text Nowhere = []
place_text (Pair pair) = codes ", pair " ++ decimal pair
place_text (Node node) = codes ", node " ++ decimal node
place_text (NodeByte node byte) = codes ", node " ++ decimal node ++ codes ", byte " ++ decimal byte
place_text (NodeRow node row) = codes ", node " ++ decimal node ++ codes ", row " ++ decimal row
place_text (NodeOffset node offset) = codes ", node " ++ decimal node ++ codes ", offset " ++ decimal offset
place_text (Rows rows) = codes ", " ++ decimal rows ++ codes " rows"
place_text (RowsOrMore rows) = codes ", " ++ decimal rows ++ codes " rows or more"

-- a line of the table: what a refusal's place is, and what its number says
pub record Line : Type 0 where
  pub place : Place
  pub meaning : List ℕ

abbrev pub says : Place → List ℕ → Line
says place meaning = record { place = place; meaning = meaning }

-- what number 11 says, by the layer that has too little room
abbrev pub too_little_room : Layer → List ℕ
too_little_room Read = codes "there is room for fewer than 32 marks"
too_little_room _ = codes "the area is shorter than the longest graph file, 5762 bytes"

-- what number 9 says: the place of a load is the number of its rows, and that of one row is none
abbrev pub too_many_rows : ℕ → Line
too_many_rows rows =
    if rows == 0 then says Nowhere (codes "the store takes no more rows")
    else says (if rows == 65535 then RowsOrMore rows else Rows rows) (codes "they are more than 512, or than the store can have")

-- the table: a line for each number
abbrev pub line_of : Refusal → Line
line_of r =
    if r.number == 1 then says Nowhere (codes "the file's size, its node count or its byte 1 is wrong")
    else if r.number == 2 then says (Pair r.first) (codes "the pair's offset or length is not that of the node's record")
    else if r.number == 3 then says (NodeByte r.first r.second) (codes "a byte of the record is out of its range")
    else if r.number == 4 then says (NodeRow r.first r.second) (codes "the row leads to a node that is no later one of the graph")
    else if r.number == 5 then says (NodeRow r.first r.second) (codes "an earlier row of the node covers the row")
    else if r.number == 6 then says (Node r.first) (codes "the fixed length is under the minimum of the node's kind")
    else if r.number == 7 then says (Node r.first) (codes "the plan has not 4 bytes a node, or a node's count or an unused byte is wrong")
    else if r.number == 8 then says (Node r.first) (codes "the chain breaks a rule")
    else if r.number == 9 then too_many_rows r.first
    else if r.number == 10 then says Nowhere (codes "the packet has more than 9600 bytes")
    else if r.number == 11 then says Nowhere (too_little_room r.layer)
    else if r.number == 12 then says Nowhere (codes "nothing is loaded")
    else if r.number == 13 then says (NodeOffset r.first r.second) (codes "a byte that is read, or the header's end, lies outside the packet")
    else if r.number == 14 then says (NodeOffset r.first r.second) (codes "the header is shorter than the minimum of its kind")
    else if r.number == 15 then says (NodeOffset r.first r.second) (codes "no row of the node fits")
    else if r.number == 16 then says (NodeOffset r.first r.second) (codes "the deciding row drops the packet")
    else if r.number == 17 then says Nowhere (codes "the mark's kind is unknown, or the part lies outside the packet")
    else says Nowhere (codes "the number is not in use")

abbrev pub refusal_text : Refusal → List ℕ
refusal_text r =
    codes "number " ++ decimal r.number ++ codes ", layer " ++ layer_name r.layer ++ place_text (line_of r).place
    ++ codes ": " ++ (line_of r).meaning
