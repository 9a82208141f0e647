-- A question fits rows of its own state only: the deciding row of the whole list is that of the state's own rows.
use Rattle.std.specs.Option.{option_or}
use Rattle.std.proofs.Common.{◌≡◌, ℕ, zero, suc, ◌+◌, ◌%◌, ◌<◌, ◌≤◌, cond, ◌&&◌, eqb, List, [], ◌∷◌, ◌++◌, map, length, Some, None, Option, sym, refl, ap, ◌∙◌, ap₂, ⊎_elim, arith}
use lib.Bits.{bit_and}
use Rattle.std.specs.List.{range_with_len, flat_map, AllByRecursion}
use Rattle.std.proofs.lemmas.Bool.{eq-eqb, ne_eqb, cases_eq}
use Rattle.graphs.specs.View.{NodeView}
use Rattle.stores.specs.declared.question.Question.{Question}
use Rattle.stores.specs.Fits.{fits}
use Rattle.walks.specs.declared.action.Action.{Action}
use Rattle.walks.specs.Bytes.{spelled_in}
use Rattle.walks.specs.Rows.{Plan, key_width, chain_base, Entry, entries, chain_entries, StoreRow, store_row, node_rows, chain_rows, store_rows, question, answer_by}
use Rattle.walks.proofs.Spelling.{Bytes, Small, values, masks, fits_cells, fits_filled}
use Rattle.walks.proofs.Fit.{first_fit, fit_append, fit_map, fit_like, or_none, answer_fits}
use Rattle.walks.proofs.Join.{answer_to}

-- what rows say to a question
abbrev say : Question → List StoreRow → Option Action
say q rows = first_fit (λ r. fits r.row q) (λ r. r.action) rows

say_append : (q : Question) (xs ys : List StoreRow) → say q (xs ++ ys) ≡ option_or (say q xs) (say q ys)
say_append q xs ys = fit_append _ _ xs ys

say_other : (q : Question) (s : ℕ) → (q.state.number ≡ s % 64 → ⊥) → (es : List Entry) → say q (map (store_row s) es) ≡ None
say_other q s d [] = refl
say_other q s d (e ∷ es) =
    ap (λ b. cond (b && eqb (bit_and q.key (spelled_in key_width (masks e.cells))) (spelled_in key_width (values e.cells))) (Some e.action) (say q (map (store_row s) es))) (ne_eqb q.state.number (s % 64) d)
    ∙ say_other q s d es

-- rows of the nodes a, a + 1, .. one after the other, those of node n under the state f n
module _ (f : ℕ → ℕ) (h : ℕ → List Entry) (q : Question) where
  abbrev rows : ℕ → List StoreRow
  rows n = map (store_row (f n)) (h n)

  others_none : (c a : ℕ) → ((j : ℕ) → a ≤ j → j < a + c → q.state.number ≡ f j % 64 → ⊥) → say q (flat_map rows (range_with_len a c)) ≡ None
  others_none zero a d = refl
  others_none (suc c) a d =
      say_append q (rows a) (flat_map rows (range_with_len (a + 1) c))
      ∙ ap (λ o. option_or o (say q (flat_map rows (range_with_len (a + 1) c)))) (say_other q (f a) (d a (omega arith) (omega arith)) (h a))
      ∙ others_none c (a + 1) (λ j l u. d j (omega arith) (omega arith))

  own_only : (n c a : ℕ) → a ≤ n → n < a + c → ((j : ℕ) → j < a + c → q.state.number ≡ f j % 64 → n ≡ j) → say q (flat_map rows (range_with_len a c)) ≡ say q (rows n)
  own_only n zero a l u inj = absurd (omega arith)
  own_only n (suc c) a l u inj =
      say_append q (rows a) (flat_map rows (range_with_len (a + 1) c))
      ∙ ⊎_elim
      (λ (e : a ≡ n). ap (option_or (say q (rows a))) (others_none c (a + 1) (λ j l' u' same. let z = inj j (omega arith) same in omega arith)) ∙ or_none _ ∙ rw e)
      (λ (d : a ≡ n → ⊥). ap (λ o. option_or o (say q (flat_map rows (range_with_len (a + 1) c)))) (say_other q (f a) (λ same. d (sym (inj a (omega arith) same))) (h a)) ∙ own_only n c (a + 1) (omega arith) (omega arith) (λ j u' same. inj j (omega arith) same))
      (cases_eq a n)

module _ (g : List NodeView) (few : length g ≤ chain_base) (chain : Plan) (n : ℕ) (within : n < length g) (q : Question) where
  abbrev plainly : List StoreRow
  plainly = flat_map (node_rows g) (range_with_len 0 (length g))

  abbrev chainly : List StoreRow
  chainly = flat_map (chain_rows g chain) (range_with_len 0 (length g))

  say_node : q.state.number ≡ n → say q (store_rows g chain) ≡ say q (node_rows g n)
  say_node s =
      say_append q plainly chainly
      ∙ ap (option_or (say q plainly)) (others_none (λ i. chain_base + i) (λ i. chain_entries g i (chain i)) q (length g) 0 (λ j l u e. omega arith))
      ∙ or_none _
      ∙ own_only (λ i. i) (λ i. entries g i []) q n (length g) 0 (omega arith) (omega arith) (λ j u e. omega arith)

  say_chain : q.state.number ≡ chain_base + n → say q (store_rows g chain) ≡ say q (chain_rows g chain n)
  say_chain s =
      say_append q plainly chainly
      ∙ ap (λ o. option_or o (say q chainly)) (others_none (λ i. i) (λ i. entries g i []) q (length g) 0 (λ j l u e. omega arith))
      ∙ own_only (λ i. chain_base + i) (λ i. chain_entries g i (chain i)) q n (length g) 0 (omega arith) (omega arith) (λ j u e. omega arith)

  pub own_node : q.state.number ≡ n → answer_by (store_rows g chain) q ≡ answer_by (node_rows g n) q
  own_node s = answer_fits q (store_rows g chain) ∙ say_node s ∙ sym (answer_fits q (node_rows g n))

  pub own_chain : q.state.number ≡ chain_base + n → answer_by (store_rows g chain) q ≡ answer_by (chain_rows g chain n) q
  own_chain s = answer_fits q (store_rows g chain) ∙ say_chain s ∙ sym (answer_fits q (chain_rows g chain n))

-- a pattern that is no longer than the key, and made of bytes
pub record Fair (w : ℕ) (e : Entry) : Type 0 where
  pub short : length e.cells ≤ w
  pub small : Small e.cells

-- rows under a state answer a question for it as their patterns do, byte by byte
pub rows_answer : (s : ℕ) (k : List ℕ) → length k ≤ key_width → Bytes k → (es : List Entry) → AllByRecursion (Fair (length k)) es
    → answer_by (map (store_row s) es) (question s k) ≡ answer_to es k
rows_answer s k short bytes es fair = answer_fits (question s k) (map (store_row s) es) ∙ fit_map _ _ (store_row s) es ∙ fit_like _ _ _ es (each es fair)
  where
    each : (es : List Entry) → AllByRecursion (Fair (length k)) es → AllByRecursion (λ e. fits (store_row s e).row (question s k) ≡ fits_cells e.cells k) es
    each [] a = tt
    each (e ∷ es) a =
        (ap₂ ◌&&◌ (eq-eqb (s % 64) (s % 64) refl) (fits_filled key_width e.cells k a.0.short short bytes a.0.small), each es a.1)
