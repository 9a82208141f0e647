-- What a load is refused for is its first fault, and the least that applies.
use Rattle.std.specs.Option.{option_or, option_map}
use Rattle.std.proofs.Common.{◌≡◌, ℕ, ◌*◌, ◌<◌, ◌≤◌, min, Bool, true, false, ◌&&◌, eqb, leb, ◌⊎◌, List, length, Some, None, Ok, Err, Option, sym, refl, ap, ◌∙◌, subst, inl, inr, arith}
use Rattle.std.proofs.lemmas.Bool.{and_cases, and_parts, cases_lt, leb-true, leb-false, lt-leb, eqb-true}
use Rattle.refusals.specs.Searching.{unless, unless_fault}
use Rattle.refusals.specs.Least.{NotAfter, Least}
use Rattle.refusals.proofs.Searching.{unless_none, option_or_none}
use Rattle.refusals.proofs.Ranking.{lower}
use Rattle.headers.specs.declared.kinds.Kind.{Kind}
use Rattle.graphs.specs.View.{NodeView}
use Rattle.graph_reader.specs.declared.fault.ReadFault.{ReadFault}
use Rattle.graph_reader.specs.declared.fault.ReadFault.TheVariants as read
use Rattle.graph_reader.specs.Faults.{of_read}
use Rattle.graph_reader.specs.Refusals.{Applies}
use Rattle.graph_reader.specs.Decoding.{nodes_in}
use Rattle.graph_reader.specs.Reading.{read_fault, reading}
use Rattle.graph_reader.proofs.Refused.{file_number, graph_numbers}
use Rattle.walks.specs.Rows.{store_rows}
use Rattle.walks.specs.Plans.{store_count}
use Rattle.walks.proofs.Count.{rows_counted}
use Rattle.plans.specs.declared.fault.PlanFault.{PlanFault}
use Rattle.plans.specs.declared.fault.PlanFault.TheVariants.{Shape, Rule}
use Rattle.plans.specs.Chains.{chain_in}
use Rattle.plans.specs.Faults.{of_plan}
use Rattle.plans.specs.Refusals.{PlanApplies}
use Rattle.plans.specs.Checking.{size_fault, chains_fault, rules_fault, plan_fault}
use Rattle.compiler.specs.declared.fault.LoadFault.{LoadFault}
use Rattle.compiler.specs.declared.fault.LoadFault.TheVariants.{File, Graph, Plan, TooMany, Store}
use Rattle.compiler.specs.Faults.{of_load, from_read}
use Rattle.compiler.specs.Programs.{most_rows}
use Rattle.compiler.specs.Loading.{roomy, TooManyRows, LoadApplies, room_fault, load_fault}

read_number : (e : ReadFault) → (of_load (from_read e)).number ≤ 6
read_number (read.File e) = omega (arith, file_number e)
read_number (read.Graph e) = graph_numbers e

plan_number : (e : PlanFault) → (7 ≤ (of_plan e).number) × ((of_plan e).number ≤ 8)
plan_number (Shape n) = (omega arith, omega arith)
plan_number (Rule n) = (omega arith, omega arith)

-- what is read: the graph that the file says
pub read_is : (minimum : Kind → ℕ) (f : List ℕ) (g : List NodeView) → Ok g ≡ reading minimum f → g ≡ nodes_in f
read_is minimum f g e = go (read_fault minimum f) e
  where
    go : (o : Option ReadFault) → Ok g ≡ unless_fault o (nodes_in f) → g ≡ nodes_in f
    go None e = cc
    go (Some d) e = let z : ◌≡◌ {A = ℕ} 0 1 = cc in absurd (omega arith)

-- and it has no fault
pub read_clear : (minimum : Kind → ℕ) (f : List ℕ) (g : List NodeView) → Ok g ≡ reading minimum f → None ≡ read_fault minimum f
read_clear minimum f g e = go (read_fault minimum f) e
  where
    go : (o : Option ReadFault) → Ok g ≡ unless_fault o (nodes_in f) → None ≡ o
    go None e = refl
    go (Some d) e = let z : ◌≡◌ {A = ℕ} 0 1 = cc in absurd (omega arith)

-- an accepted plan has four bytes for each node
pub size_is : (g : List NodeView) (p : List ℕ) → None ≡ plan_fault g p → length p ≡ 4 * length g
size_is g p e =
    eqb-true _ _ (unless_none (eqb (length p) (4 * length g)) (Shape (length g))
    (option_or_none (size_fault (length g) p) (option_or (chains_fault (length g) p) (rules_fault g (chain_in p) (length g))) (sym e)).0)

-- a cut count is room for the store exactly if the count is
pub roomy_cut : (count capacity : ℕ) → roomy (min count 65535) capacity ≡ true → (count ≤ most_rows) × (count ≤ capacity)
roomy_cut count capacity e =
    let p = and_parts (leb (min count 65535) most_rows) (leb (min count 65535) capacity) e in
    let a = leb-true (min count 65535) most_rows p.0 in
    let b = leb-true (min count 65535) capacity p.1 in
    (omega arith, omega arith)

over_cut : (count capacity : ℕ) → roomy (min count 65535) capacity ≡ false → (most_rows < count) ⊎ (capacity < count)
over_cut count capacity e = elim (and_cases (leb (min count 65535) most_rows) (leb (min count 65535) capacity) e) [
  | inl a ↦ let l = leb-false (min count 65535) most_rows a in inl (omega arith)
  | inr a ↦ let l = leb-false (min count 65535) capacity a in inr (omega arith)
]

-- so the test is the same of both
roomy_same : (count capacity : ℕ) → roomy (min count 65535) capacity ≡ roomy count capacity
roomy_same count capacity = elim (cases_lt 65535 count) [
  | inl l ↦
      let a : most_rows < min count 65535 = omega arith in
      let b : most_rows < count = omega arith in
      ap (λ t. t && leb (min count 65535) capacity) (lt-leb _ _ a) ∙ sym (ap (λ t. t && leb count capacity) (lt-leb _ _ b))
  | inr l ↦ let e : min count 65535 ≡ count = omega arith in ap (λ n. roomy n capacity) e
]

module _ (minimum : Kind → ℕ) (f p : List ℕ) (capacity : ℕ) where
  abbrev count : ℕ
  count = store_count (nodes_in f) (chain_in p)

  -- the first fault is that of reading, else that of the plan, else that of the count of rows
  pub read_told : (e : ReadFault) → Err e ≡ reading minimum f → Some (from_read e) ≡ load_fault minimum f p capacity
  read_told e h = go (read_fault minimum f) h
    where
      go : (o : Option ReadFault) → Err e ≡ unless_fault o (nodes_in f)
          → Some (from_read e) ≡ option_or (option_map from_read o) (option_or (option_map Plan (plan_fault (nodes_in f) p)) (room_fault count capacity))
      go None h = let z : ◌≡◌ {A = ℕ} 0 1 = cc in absurd (omega arith)
      go (Some d) h = cc

  module _ (read : None ≡ read_fault minimum f) where
    pub plan_told : (e : PlanFault) → Some e ≡ plan_fault (nodes_in f) p → Some (Plan e) ≡ load_fault minimum f p capacity
    plan_told e h =
        ap (λ o. option_or (option_map Plan o) (room_fault count capacity)) h
        ∙ ap (λ o. option_or (option_map from_read o) (option_or (option_map Plan (plan_fault (nodes_in f) p)) (room_fault count capacity))) read

    pub room_told : None ≡ plan_fault (nodes_in f) p → (rows : ℕ) → rows ≡ min count 65535
        → (o : Option LoadFault) → o ≡ unless (roomy rows capacity) (TooMany rows) → o ≡ load_fault minimum f p capacity
    room_told plan rows told o h =
        h ∙ ap (λ n. unless (roomy n capacity) (TooMany n)) told ∙ ap (λ t. unless t (TooMany (min count 65535))) (roomy_same count capacity)
        ∙ ap (λ o. option_or (option_map Plan o) (room_fault count capacity)) plan
        ∙ ap (λ o. option_or (option_map from_read o) (option_or (option_map Plan (plan_fault (nodes_in f) p)) (room_fault count capacity))) read

  -- which is the number of the rows
  counted : length (store_rows (nodes_in f) (chain_in p)) ≡ count
  counted = rows_counted (nodes_in f) (chain_in p)

  abbrev Faulty : LoadFault → Type 0
  Faulty = LoadApplies minimum f p capacity

  into : (e : ReadFault) → Applies minimum f e → Faulty (from_read e)
  into (read.File e) h = h
  into (read.Graph e) h = h

  -- 1 to 6
  pub read_least : (e : ReadFault) → Least of_read (Applies minimum f) e → Least of_load Faulty (from_read e)
  read_least e l = record { applies = into e l.applies; first = λ d h. first d h }
    where
      same : (e : ReadFault) → of_read e ≡ of_load (from_read e)
      same (read.File e) = refl
      same (read.Graph e) = refl

      first : (d : LoadFault) → Faulty d → NotAfter (of_load (from_read e)) (of_load d)
      first (File d) h = subst (λ r. NotAfter r (of_load (File d))) (same e) (l.first (read.File d) h)
      first (Graph d) h = subst (λ r. NotAfter r (of_load (Graph d))) (same e) (l.first (read.Graph d) h)
      first (Plan d) h = lower (of_load (from_read e)) (of_plan d) (omega (arith, read_number e, (plan_number d).0)) (omega (arith, (plan_number d).1))
      first (TooMany rows) h = lower (of_load (from_read e)) (of_load (TooMany rows)) (omega (arith, read_number e)) (omega arith)
      first (Store d) h = absurd h

  module _ (Read-none : (e : ReadFault) → Applies minimum f e → ⊥) where
    -- 7 and 8
    pub plan_least : (e : PlanFault) → Least of_plan (PlanApplies (nodes_in f) p) e → Least of_load Faulty (Plan e)
    plan_least e l = record { applies = l.applies; first = λ d h. first d h }
      where
        first : (d : LoadFault) → Faulty d → NotAfter (of_load (Plan e)) (of_load d)
        first (File d) h = absurd (Read-none (read.File d) h)
        first (Graph d) h = absurd (Read-none (read.Graph d) h)
        first (Plan d) h = l.first d h
        first (TooMany rows) h = lower (of_plan e) (of_load (TooMany rows)) (omega (arith, (plan_number e).1)) (omega arith)
        first (Store d) h = absurd h

    module _ (plan_none : (e : PlanFault) → PlanApplies (nodes_in f) p e → ⊥) (rows : ℕ) (told : rows ≡ min (store_count (nodes_in f) (chain_in p)) 65535) where
      -- 9
      rows_least : roomy rows capacity ≡ false → Least of_load Faulty (TooMany rows)
      rows_least e = record {
        applies = subst (λ n. TooManyRows n capacity rows) (sym counted) (record { over = over_cut _ capacity (ap (λ n. roomy n capacity) (sym told) ∙ e); told = told });
        first = λ d h. first d h;
      }
        where
          first : (d : LoadFault) → Faulty d → NotAfter (of_load (TooMany rows)) (of_load d)
          first (File d) h = absurd (Read-none (read.File d) h)
          first (Graph d) h = absurd (Read-none (read.Graph d) h)
          first (Plan d) h = absurd (plan_none d h)
          first (TooMany n) h = inr (refl, inr (told ∙ ap (λ k. min k 65535) (sym counted) ∙ sym h.told, omega arith))
          first (Store d) h = absurd h

      pub room_least : (x : LoadFault) → Some x ≡ unless (roomy rows capacity) (TooMany rows) → Least of_load Faulty x
      room_least x e = go (roomy rows capacity) refl e
        where
          go : (b : Bool) → roomy rows capacity ≡ b → Some x ≡ unless b (TooMany rows) → Least of_load Faulty x
          go true t e = let z : ◌≡◌ {A = ℕ} 0 1 = cc in absurd (omega arith)
          go false t e = let s : x ≡ TooMany rows = cc in subst (Least of_load Faulty) (sym s) (rows_least t)

      -- none
      pub nothing_left : roomy rows capacity ≡ true → (e : LoadFault) → Faulty e → ⊥
      nothing_left t (File d) h = Read-none (read.File d) h
      nothing_left t (Graph d) h = Read-none (read.Graph d) h
      nothing_left t (Plan d) h = plan_none d h
      nothing_left t (TooMany n) h =
          let r = roomy_cut (store_count (nodes_in f) (chain_in p)) capacity (ap (λ n. roomy n capacity) (sym told) ∙ t) in
          elim h.over [ inl l ↦ omega (arith, counted, r.0) | inr l ↦ omega (arith, counted, r.1) ]
      nothing_left t (Store d) h = h
