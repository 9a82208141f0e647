-- What a right shape and a right pair say.
use Rattle.std.proofs.Common.{◌≡◌, ℕ, ◌+◌, ◌*◌, ◌≤◌, true, ◌||◌, eqb, ltb, List, length, arith, length-drop, length-take}
use Rattle.std.proofs.lemmas.Bool.{and_parts, leb-true, eqb-true}
use Rattle.graph_reader.specs.Records.{at}
use Rattle.graph_reader.specs.Files.{shape_right, offset, size, begins, pair_right, record_at}

pub record Shaped (f : List ℕ) : Type 0 where
  pub begun : 2 ≤ length f
  pub brief : length f ≤ 5762
  pub some : 1 ≤ at f 0
  pub few : at f 0 ≤ 32
  pub zero : at f 1 ≡ 0

pub shape_says : (f : List ℕ) → shape_right f ≡ true → Shaped f
shape_says f e =
    let (a, b) = and_parts _ _ e in
    let (c, d) = and_parts _ _ b in
    let (g, h) = and_parts _ _ d in
    let (j, k) = and_parts _ _ h in
    record { begun = leb-true _ _ a; brief = leb-true _ _ c; some = leb-true _ _ g; few = leb-true _ _ j; zero = eqb-true _ _ k }

pub record Right (f : List ℕ) (i : ℕ) : Type 0 where
  pub inside : 6 + 4 * i ≤ length f
  pub touches : offset f i ≡ begins f i
  pub within : offset f i + size f i ≤ length f
  pub counts : size f i ≡ 16 + 10 * at f (offset f i + 14)
  pub ends : (ltb (i + 1) (at f 0) || eqb (offset f i + size f i) (length f)) ≡ true

module _ (f : List ℕ) (i : ℕ) where
  pub right_says : pair_right f i ≡ true → Right f i
  unfolding pair_right
  right_says e =
      let (a, b) = and_parts _ _ e in
      let (c, d) = and_parts _ _ b in
      let (g, h) = and_parts _ _ d in
      let (j, k) = and_parts _ _ h in
      record {
        inside = leb-true _ _ a;
        touches = eqb-true _ _ c;
        within = leb-true _ _ g;
        counts = eqb-true _ _ j;
        ends = k;
      }

  pub record_length_lem : Right f i → length (record_at f i) ≡ size f i
  record_length_lem p = let h = p.within in simp (length-take, length-drop) (omega arith)
