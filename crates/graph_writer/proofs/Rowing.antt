-- A record written part by part.
use Rattle.std.proofs.Common.{◌≡◌, ℕ, zero, suc, ◌+◌, ◌*◌, ◌≤◌, cond, ltb, List, [], ◌∷◌, ◌++◌, length, take, drop, None, sym, refl, ap, ◌∙◌, ap₂, arith}
use Rattle.std.proofs.lemmas.List.{length-append, length-take-le, take_at, append_assoc}
use Rattle.graphs.specs.declared.graph.Node.{Node}
use Rattle.graphs.specs.View.{row_count, node_view}
use Rattle.graph_reader.specs.Encoding.{length_bytes, row_bytes, place_bytes, sort_byte, record_with, record_of}
use Rattle.std.proofs.lemmas.Bool.{cond-true, lt-ltb}
use Rattle.octets.specs.Writing.{written}
use Rattle.headers.specs.Kinds.{kind_number}
use Rattle.graph_reader.specs.Files.{first_wrong}
use Rattle.graph_writer.specs.Writing.{record_for}
use Rattle.graph_writer.specs.Parts.{Counted as Counts, place_byte, head_of, bytes_for}
use Rattle.graph_reader.proofs.Places.{length_of, rows_length}
use Rattle.graph_reader.proofs.Reread.{few_places, few_rows}

pub head_length : (n : Node) → length (head_of n) ≡ 16
head_length n = ap suc (length_of n.length _)

pub bytes_length : (n : Node) → length (bytes_for n) ≡ 16 + 10 * row_count (node_view n).rows
bytes_length n = length-append (head_of n) (row_bytes (node_view n).rows) ∙ ap₂ (λ x y. x + y) (head_length n) (rows_length (node_view n).rows)

place_bytes_lem : (c : ℕ) (ps : List ℕ) → length ps ≡ 4 → place_bytes (take c ps) ≡ place_byte c ps 0 ∷ place_byte c ps 1 ∷ place_byte c ps 2 ∷ place_byte c ps 3 ∷ []
place_bytes_lem c [] e = absurd (omega arith)
place_bytes_lem c (a ∷ []) e = absurd (omega arith)
place_bytes_lem c (a ∷ b ∷ []) e = absurd (omega arith)
place_bytes_lem c (a ∷ b ∷ d ∷ []) e = absurd (omega arith)
place_bytes_lem zero (a ∷ b ∷ d ∷ f ∷ []) e = refl
place_bytes_lem (suc zero) (a ∷ b ∷ d ∷ f ∷ []) e = refl
place_bytes_lem (suc (suc zero)) (a ∷ b ∷ d ∷ f ∷ []) e = refl
place_bytes_lem (suc (suc (suc zero))) (a ∷ b ∷ d ∷ f ∷ []) e = refl
place_bytes_lem (suc (suc (suc (suc c)))) (a ∷ b ∷ d ∷ f ∷ []) e =
    let n = suc (suc (suc (suc c))) in
    let p : cond (ltb 0 n) a 0 ≡ a = cond-true (ltb 0 n) a 0 (lt-ltb 0 n (omega arith)) in
    let q : cond (ltb 1 n) b 0 ≡ b = cond-true (ltb 1 n) b 0 (lt-ltb 1 n (omega arith)) in
    let r : cond (ltb 2 n) d 0 ≡ d = cond-true (ltb 2 n) d 0 (lt-ltb 2 n (omega arith)) in
    let s : cond (ltb 3 n) f 0 ≡ f = cond-true (ltb 3 n) f 0 (lt-ltb 3 n (omega arith)) in
    past c ∙ cc
  where
    past : (c : ℕ) → take 4 ((a ∷ b ∷ d ∷ f ∷ take c []) ++ 0 ∷ 0 ∷ 0 ∷ 0 ∷ []) ≡ a ∷ b ∷ d ∷ f ∷ []
    past zero = refl
    past (suc c) = refl
place_bytes_lem c (a ∷ b ∷ d ∷ f ∷ g ∷ ps) e = absurd (omega arith)

pub record_for_lem : (n : Node) → length n.places ≡ 4 → bytes_for n ≡ record_for n
record_for_lem n e =
    ap (λ x. kind_number n.kind ∷ x)
    (append_assoc (length_bytes n.length) _ (row_bytes (node_view n).rows)
    ∙ ap (λ ps. length_bytes n.length ++ (n.place_count ∷ (ps ++ (sort_byte (node_view n).rows ∷ n.row_count ∷ 0 ∷ row_bytes (node_view n).rows)))) (sym (place_bytes_lem n.place_count n.places e)))

-- a node whose counts are in range is written as its view's record
pub counts_stand : (n : Node) → length n.places ≡ 4 → n.place_count ≤ 4 → n.row_count ≡ row_count (node_view n).rows → record_for n ≡ record_of (node_view n)
counts_stand n e h r = ap₂ (λ a b. record_with a b (node_view n)) (sym (length-take-le n.place_count n.places (omega arith))) r

-- the front of an area that a record was written to is the record
pub front_is : (area before bytes : List ℕ) (size : ℕ) → area ≡ written before 0 bytes → size ≡ length bytes → take size area ≡ bytes
front_is area before bytes size e l = ap₂ take l e ∙ take_at bytes (drop (0 + length bytes) before) (length bytes) refl

-- a record with no wrong byte: its counts are in range
pub counts_right : (n : Node) (size : ℕ) → Counts n size → first_wrong (record_for n) ≡ None → record_for n ≡ record_of (node_view n)
counts_right n size c w =
    counts_stand n c.four (few_places n.place_count n.row_count (node_view n) w) (sym (c.all (few_rows n.place_count n.row_count (node_view n) w)))
