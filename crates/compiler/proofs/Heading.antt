-- The heads of a program, one after the other.
use Rattle.std.proofs.Common.{◌≡◌, ℕ, ◌+◌, ◌<◌, ◌≤◌, List, [], ◌∷◌, ◌++◌, length, get_or, sym, ap, ◌∙◌, subst, inl, inr, arith}
use Rattle.std.proofs.lemmas.List.{get_or_past, get_or_push, get_or_append_left}
use Rattle.std.proofs.lemmas.Bool.{cases_lt}
use Rattle.headers.specs.declared.kinds.Kind.{Kind}
use Rattle.graphs.specs.View.{NodeView, node_at}
use Rattle.walks.specs.Walk.{reads}
use Rattle.walks.specs.Rows.{Plan}
use Rattle.walks.specs.Plans.{reach, span, window}
use Rattle.compiler.specs.declared.program.Head.{Head}
use Rattle.compiler.specs.Programs.{looked_up, bare, HeadOf}

-- one head more
pub heads_more : (P : ℕ → Head → Type 0) (heads more : List Head) (blank h : Head) → more ≡ heads ++ h ∷ [] → ((k : ℕ) → k < length heads → P k (get_or heads k blank)) → P (length heads) h
    → (k : ℕ) → k < length heads + 1 → P k (get_or more k blank)
heads_more P heads more blank h is each last k l = subst (λ hs. P k (get_or hs k blank)) (sym is) (elim (cases_lt k (length heads)) [
  | inl b ↦ subst (P k) (sym (get_or_append_left heads (h ∷ []) blank k b)) (each k b)
  | inr e ↦ let n : length heads ≡ k = omega arith in subst (P k) (sym (get_or_push heads h blank k n)) (subst (λ i. P i h) n last)
])

-- heads for each node, and what stands for no node past the last, are heads for every number
pub all_heads : (minimum : Kind → ℕ) (g : List NodeView) (chain : Plan) (heads : List Head) (blank : Head) → length heads ≡ length g → ((n : ℕ) → length g ≤ n → chain n ≡ [])
    → HeadOf minimum [] (λ n. []) 0 blank → ((n : ℕ) → n < length heads → HeadOf minimum g chain n (get_or heads n blank)) → (n : ℕ) → HeadOf minimum g chain n (get_or heads n blank)
all_heads minimum g chain heads blank whole past blanks each n = elim (cases_lt n (length heads)) [
  | inl h ↦ each n h
  | inr h ↦
      let none : chain n ≡ [] = past n (omega arith) in
      let missing : node_at g n ≡ node_at [] 0 = get_or_past g n _ (omega arith) in
      subst (HeadOf minimum g chain n) (sym (get_or_past heads n blank (omega arith))) (record {
        node = blanks.node ∙ sym (ap bare missing);
        behind = blanks.behind ∙ sym none;
        window = blanks.window ∙ sym (ap (window g n) none ∙ ap span missing);
        lookups = blanks.lookups ∙ sym (ap (looked_up g n) none ∙ ap (λ (v : NodeView). v.places) missing);
        needs = blanks.needs ∙ sym (ap (λ v. reach (reads v)) missing);
        least = blanks.least ∙ sym (ap (λ v. minimum v.kind) missing);
      })
]
