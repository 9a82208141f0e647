-- The test of the rules, node by node.
use Rattle.std.proofs.Common.{◌≡◌, ℕ, ◌-◌, true, false, ◌&&◌, leb, List, [], ◌∷◌, length, sym, refl, ap, ◌∙◌}
use Rattle.graphs.specs.View.{NodeView, node_at}
use Rattle.plans.specs.Checking.{is_fixed, any_to, ruled}

module _ (g : List NodeView) (room n : ℕ) (v : NodeView) (at : v ≡ node_at g n) where
  ruled_last : {cs : List ℕ} → cs ≡ [] → ruled g room n cs ≡ (is_fixed v.len && leb (length v.places) room)
  ruled_last e = ap (ruled g room n) e ∙ ap (λ x. is_fixed x.len && leb (length x.places) room) (sym at)

  ruled_more : {cs : List ℕ} (c : ℕ) (rest : List ℕ) → cs ≡ c ∷ rest
      → ruled g room n cs ≡ (is_fixed v.len && (leb (length v.places) room && (any_to c v.rows && ruled g (room - length v.places) c rest)))
  ruled_more c rest e =
      ap (ruled g room n) e
      ∙ ap (λ x. is_fixed x.len && (leb (length x.places) room && (any_to c x.rows && ruled g (room - length x.places) c rest))) (sym at)

  pub ruled_counted : (cs : List ℕ) → is_fixed v.len ≡ false → ruled g room n cs ≡ false
  ruled_counted [] e = ruled_last refl ∙ ap (λ b. b && leb (length v.places) room) e
  ruled_counted (c ∷ cs) e =
      ruled_more c cs refl ∙ ap (λ b. b && (leb (length v.places) room && (any_to c v.rows && ruled g (room - length v.places) c cs))) e

  pub ruled_wide : (cs : List ℕ) → is_fixed v.len ≡ true → leb (length v.places) room ≡ false → ruled g room n cs ≡ false
  ruled_wide [] f e = ruled_last refl ∙ ap (λ b. b && leb (length v.places) room) f ∙ e
  ruled_wide (c ∷ cs) f e =
      ruled_more c cs refl
      ∙ ap (λ b. b && (leb (length v.places) room && (any_to c v.rows && ruled g (room - length v.places) c cs))) f
      ∙ ap (λ b. b && (any_to c v.rows && ruled g (room - length v.places) c cs)) e
