-- Filling, row by row.
use Rattle.std.proofs.Common.{◌≡◌, ℕ, zero, suc, ◌+◌, ◌-◌, ◌<◌, ◌≤◌, Bool, false, cond, eqb, List, [], ◌∷◌, ◌++◌, map, length, get_or, take, Ok, Err, sym, ap, ap₂, ◌∙◌, arith}
use Rattle.std.proofs.lemmas.Bool.{ne_eqb, eq-eqb, le-leb, lt-leb}
use Rattle.std.proofs.lemmas.List.{append_assoc, append-nil, map_more, take_all}
use Rattle.stores.specs.declared.question.Question.{Question}
use Rattle.stores.specs.declared.question.Row.{Row}
use Rattle.stores.specs.declared.fault.StoreFault.{StoreFault}
use Rattle.stores.specs.declared.fault.StoreFault.TheVariants.{Full}
use Rattle.std.proofs.lemmas.Bool.Decides.{nat_tests}
use Rattle.stores.specs.Fits.{fits}
use Rattle.stores.specs.Meaning.{Meaning, holding, appended, appended_each, admits}
use Rattle.stores.specs.Filled.{all_taken, filled}

-- Rows appended one after the other: as many as are taken stand behind those that were there

abbrev stored : List (Question → Bool) → (capacity questions takes : ℕ) → Meaning
stored fs capacity questions takes = record { rows = fs; capacity = capacity; takes = takes; questions = questions }

filled_from : (fs : List (Question → Bool)) (capacity questions takes : ℕ) (rows : List Row) → filled (stored fs capacity questions takes) rows ≡ appended_each (stored fs capacity questions takes) rows
filled_from fs c q takes [] =
    let none : fs ++ map fits (take takes []) ≡ fs = ap (λ rs. fs ++ map fits rs) (take_all takes [] (omega arith)) ∙ append-nil fs in
    let left : takes - 0 ≡ takes = omega arith in
    ap₂ (λ xs t. stored xs c q t) none left
filled_from fs c q zero (r ∷ rows) =
    let left : 0 - length (r ∷ rows) ≡ 0 - length rows = omega arith in
    ap (λ t. stored (fs ++ []) c q t) left ∙ filled_from fs c q zero rows
filled_from fs c q (suc k) (r ∷ rows) =
    let some : eqb (suc k) 0 ≡ false = ne_eqb _ _ (λ e. omega (arith, e)) in
    let less : suc k - 1 ≡ k = omega arith in
    let left : suc k - length (r ∷ rows) ≡ k - length rows = omega arith in
    let m = stored fs c q (suc k) in
    let one : appended m r ≡ stored (fs ++ (fits r ∷ [])) c q k = ap (λ b. cond b m (holding m (fs ++ (fits r ∷ [])) (suc k - 1))) some ∙ ap (stored (fs ++ (fits r ∷ [])) c q) less in
    ap₂ (λ xs t. stored xs c q t) (sym (append_assoc fs (fits r ∷ []) (map fits (take k rows)))) left
    ∙ filled_from (fs ++ (fits r ∷ [])) c q k rows ∙ ap (λ x. appended_each x rows) (sym one)

-- rows appended one after the other, in one term: those that are taken, behind those that were there
pub filled_each : (m : Meaning) (rows : List Row) → filled m rows ≡ appended_each m rows
filled_each m rows = filled_from m.rows m.capacity m.questions m.takes rows

-- all of them, where they are not more
pub all_appended : (m : Meaning) (rows : List Row) → length rows ≤ m.takes → appended_each m rows ≡ holding m (m.rows ++ map fits rows) (m.takes - length rows)
all_appended m rows h = sym (filled_each m rows) ∙ ap (λ rs. holding m (m.rows ++ map fits rs) (m.takes - length rows)) (take_all m.takes rows h)

-- neither capacity nor questions move
pub appended_capacity : (m : Meaning) (rows : List Row) → (appended_each m rows).capacity ≡ m.capacity
appended_capacity m rows = ap (λ (x : Meaning). x.capacity) (sym (filled_each m rows))

pub appended_questions : (m : Meaning) (rows : List Row) → (appended_each m rows).questions ≡ m.questions
appended_questions m rows = ap (λ (x : Meaning). x.questions) (sym (filled_each m rows))

-- the first i rows appended
abbrev pub put : Meaning → ℕ → List Row → Meaning
put m i rows = holding m (m.rows ++ map fits (take i rows)) (m.takes - i)

module _ (m : Meaning) (rows : List Row) where
  pub put_none : m ≡ put m 0 rows
  put_none =
      let e : m.rows ++ [] ≡ m.rows = append-nil m.rows in
      let t : m.takes - 0 ≡ m.takes = omega arith in
      sym (rw (e, t))

  pub put_more : (i : ℕ) (row : Row) → row ≡ get_or rows i row → i < length rows → i < m.takes → appended (put m i rows) row ≡ put m (i + 1) rows
  put_more i row read h k =
      let more : map fits (take (i + 1) rows) ≡ map fits (take i rows) ++ (fits row ∷ []) = map_more fits rows i row h ∙ ap (λ r. map fits (take i rows) ++ (fits r ∷ [])) (sym read) in
      let room : eqb (m.takes - i) 0 ≡ false = ne_eqb _ _ (λ e. omega (arith, e)) in
      let t : m.takes - i - 1 ≡ m.takes - (i + 1) = omega arith in
      rw (room, t, more, append_assoc)

  pub put_all : (i : ℕ) → length rows ≤ m.takes → i ≡ length rows → put m i rows ≡ appended_each m rows
  put_all i h e =
      let all : put m i rows ≡ filled m rows = rw (e, take_all m.takes rows h, take_all (length rows) rows (omega arith)) in
      all ∙ filled_each m rows

  pub put_full : (i : ℕ) → m.takes < length rows → i ≡ m.takes → put m i rows ≡ appended_each m rows
  put_full i h e =
      let t : m.takes - m.takes ≡ m.takes - length rows = omega arith in
      let full : put m i rows ≡ filled m rows = rw (e, t) in
      full ∙ filled_each m rows

  pub all_in : length rows ≤ m.takes → Ok tt ≡ all_taken m rows
  all_in h = rw (le-leb _ _ h)

  pub not_all : m.takes < length rows → Err Full ≡ all_taken m rows
  not_all h = rw (lt-leb _ _ h)

-- what a store's answer tells of the rows that it takes
pub admits_ok : (m : Meaning) (x : Unit {0}) → admits m ≡ Ok x → 0 < m.takes
admits_ok m x e = grind (arith, nat_tests)

pub admits_err : (m : Meaning) (x : StoreFault) → admits m ≡ Err x → (m.takes ≡ 0) × (x ≡ Full)
admits_err m x e = (grind (arith, nat_tests), grind (arith, nat_tests))

pub refused_same : (m : Meaning) (r : Row) → m.takes ≡ 0 → appended m r ≡ m
refused_same m r e = rw (eq-eqb _ _ e)
