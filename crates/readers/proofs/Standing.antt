-- A program that stands for a graph and a plan: its headers, marked, and their lookup bytes are those of the graph.
use Rattle.std.proofs.Common.{◌≡◌, ℕ, zero, suc, ◌+◌, ◌<◌, ◌≤◌, min, List, [], ◌∷◌, length, take, inl, inr, sym, refl, ap, ap₂, ◌∙◌, subst, arith}
use Rattle.std.proofs.lemmas.List.{get_or_past}
use Rattle.std.proofs.lemmas.Bool.{cases_lt}
use Rattle.headers.specs.declared.kinds.Kind.{Kind}
use Rattle.headers.specs.declared.mark.Mark.{Mark}
use Rattle.headers.specs.Kinds.{kind_number}
use Rattle.graphs.specs.View.{NodeView, node_at}
use Rattle.stores.specs.declared.question.Question.{Question}
use Rattle.plans.specs.Chains.{nodes_of}
use Rattle.walks.specs.Walk.{measured, size_at, past, mark_at}
use Rattle.walks.specs.Rows.{Plan}
use Rattle.walks.specs.Plans.{IsFixed, AllFixed, Keeps, Lawful, fixed_size, window}
use Rattle.walks.specs.Turns.{passed, last_at, last_node, Asks, chained, singly}
use Rattle.walker.specs.Steps.{marked}
use Rattle.compiler.specs.declared.program.Head.{Head}
use Rattle.compiler.specs.declared.program.Program.{Program}
use Rattle.compiler.specs.Held.{held}
use Rattle.compiler.specs.Programs.{head_at, bare, HeadOf, Stands}
use Rattle.readers.specs.Headers.{node_by, mark_by, end_of, marks_by}
use Rattle.readers.specs.Asking.{last_of}

module _ (g : List NodeView) (p : List ℕ) where
  -- the header of node n and those behind it end within so many bytes
  abbrev pub Near : ℕ → ℕ → List ℕ → ℕ → Type 0
  Near most n [] at = past g p n at ≤ most
  Near most n (c ∷ cs) at = (past g p n at ≤ most) × Near most c cs (past g p n at)

  pub near_more : (a b : ℕ) → a ≤ b → (cs : List ℕ) (n at : ℕ) → Near a n cs at → Near b n cs at
  near_more a b l [] n at h = omega arith
  near_more a b l (c ∷ cs) n at h = (omega (arith, h.0), near_more a b l cs c (past g p n at) h.1)

  pub fixed_is : (n at : ℕ) → IsFixed (node_at g n).len → size_at g p n at ≡ fixed_size (node_at g n).len
  fixed_is n at f = rw f.1

  -- so do those of a chain, where the window's bytes are left
  pub near_window : (most : ℕ) (cs : List ℕ) (n at : ℕ) → AllFixed g n cs → at + window g n cs ≤ most → Near most n cs at
  near_window most [] n at f h = omega (arith, fixed_is n at f)
  near_window most (c ∷ cs) n at f h =
      let e = fixed_is n at f.0 in
      let q : past g p n at + window g c cs ≤ most = omega arith in
      (omega arith, near_window most cs c (past g p n at) f.1 q)

  pub last_near : (most k : ℕ) (cs : List ℕ) (n at : ℕ) → Near most n cs at → past g p (last_node k n cs) (last_at g p k n cs at) ≤ most
  last_near most zero [] n at h = h
  last_near most zero (c ∷ cs) n at h = h.0
  last_near most (suc k) [] n at h = h
  last_near most (suc k) (c ∷ cs) n at h = last_near most k cs c (past g p n at) h.1

  last_behind : (m : Mark) (k : ℕ) (cs : List ℕ) (n at : ℕ) → last_of (m ∷ passed g p k n cs at) ≡ last_of (passed g p k n cs at)
  last_behind m zero cs n at = refl
  last_behind m (suc k) [] n at = refl
  last_behind m (suc k) (c ∷ cs) n at = refl

  -- the last header passed
  pub last_passed : (k : ℕ) (cs : List ℕ) (n at : ℕ) → last_of (passed g p k n cs at) ≡ mark_at g p (last_node k n cs) (last_at g p k n cs at)
  last_passed zero cs n at = refl
  last_passed (suc k) [] n at = refl
  last_passed (suc k) (c ∷ cs) n at = last_behind (mark_at g p n at) k cs c (past g p n at) ∙ last_passed k cs c (past g p n at)

  module _ (minimum : Kind → ℕ) (program : Program) (chain : Plan) (stands : Stands minimum program g chain) where
    -- what the program has of node n
    pub head_stands : (n : ℕ) (h : Head) → h ≡ head_at program n → HeadOf minimum g chain n h
    head_stands n h e = subst (HeadOf minimum g chain n) (sym e) (stands.heads n)

    same_node : (n : ℕ) → node_by program n ≡ bare (node_at g n)
    same_node n = (stands.heads n).node

    pub same_kind : (n : ℕ) → (node_by program n).kind ≡ (node_at g n).kind
    same_kind n = ap (λ (v : NodeView). v.kind) (same_node n)

    pub same_length : (n : ℕ) → (node_by program n).len ≡ (node_at g n).len
    same_length n = ap (λ (v : NodeView). v.len) (same_node n)

    -- a node with a chain is one of the graph
    pub chain_within : (n c : ℕ) (cs : List ℕ) → chain n ≡ c ∷ cs → n < length g
    chain_within n c cs e = elim (cases_lt n (length g)) [
      | inl h ↦ h
      | inr h ↦
          let blank : head_at program n ≡ program.blank = get_or_past (held program.heads) n program.blank (omega (arith, stands.count)) in
          let none : [] ≡ c ∷ cs = sym (ap (λ h. nodes_of h.chain) blank ∙ stands.blank.behind) ∙ (stands.heads n).behind ∙ e in
          absurd (let z : ◌≡◌ {A = ℕ} 0 1 = cc in omega arith)
    ]

    -- the headers that a question is over lie in the packet
    pub asked_near : Lawful g chain → (n at : ℕ) {cs : List ℕ} {q : Question} → Asks minimum g chain p n at cs q → Near (length p) n cs at
    asked_near law n at (chained {c} {cs} e w) =
        let ok : Keeps g n (c ∷ cs) = subst (Keeps g n) e (law n (chain_within n c cs e)) in
        near_window (length p) (c ∷ cs) n at ok.fixed w
    asked_near law n at (singly s h) = h.within

    -- a header that ends within 16 bits
    same_mark : (n at : ℕ) → past g p n at ≤ 65535 → mark_by program p n at ≡ mark_at g p n at
    same_mark n at h =
        let a : min at 65535 ≡ at = omega arith in
        let b : min (size_at g p n at) 65535 ≡ size_at g p n at = omega arith in
        ap₂ (λ k l. marked n k at (measured l p at)) (same_kind n) (same_length n)
        ∙ ap₂ (λ o l. record { node = n; kind = kind_number (node_at g n).kind; offset = o; length = l }) a b

    same_end : (n at : ℕ) → past g p n at ≤ 65535 → end_of (mark_by program p n at) ≡ past g p n at
    same_end n at h = ap end_of (same_mark n at h)

    -- headers passed are marked as the walk marks them
    pub same_marks : (k : ℕ) (cs : List ℕ) (n at : ℕ) → Near 65535 n cs at → marks_by program p (n ∷ take k cs) at ≡ passed g p k n cs at
    same_marks zero [] n at h = ap (λ m. m ∷ []) (same_mark n at h)
    same_marks zero (c ∷ cs) n at h = ap (λ m. m ∷ []) (same_mark n at h.0)
    same_marks (suc k) [] n at h = ap (λ m. m ∷ []) (same_mark n at h)
    same_marks (suc k) (c ∷ cs) n at h =
        ap₂ (λ m o. m ∷ marks_by program p (c ∷ take k cs) o) (same_mark n at h.0) (same_end n at h.0)
        ∙ ap (λ ms. mark_at g p n at ∷ ms) (same_marks k cs c (past g p n at) h.1)
