-- The marks of a walk, written one behind the other.
use Rattle.std.proofs.Common.{◌≡◌, ℕ, ◌+◌, ◌<◌, ◌≤◌, List, [], ◌∷◌, ◌++◌, length, get_or, drop, set, sym, ap, ◌∙◌, subst, arith}
use Rattle.std.proofs.lemmas.List.{append-nil, append_assoc, length-append, at_drop_more, set_at}
use Rattle.headers.specs.declared.kinds.Kind.{Kind}
use Rattle.headers.specs.declared.mark.Mark.{Mark}
use Rattle.graphs.specs.View.{NodeView}
use Rattle.walks.specs.declared.outcome.Outcome.{Outcome}
use Rattle.walks.specs.Walk.{Walk, PlainWalk}
use Rattle.walks.specs.Rows.{answer_by}
use Rattle.walks.proofs.Once.{one_walk}
use Rattle.walker.specs.Refusals.{most_marks, NoFault}
use Rattle.walker.specs.Steps.{GoesOn}
use Rattle.walker.specs.Walked.{WalkedAs}
use Rattle.walker.proofs.Later.{leads_later}

-- one mark more
put : (ws before now : List Mark) (k : ℕ) (m : Mark) → now ≡ ws ++ drop k before → length ws ≡ k → k < length before
    → set now k m ≡ (ws ++ m ∷ []) ++ drop (k + 1) before
put ws before now k m e l h =
    ap (λ xs. set xs k m) e
    ∙ at_drop_more (λ xs. set (ws ++ xs) k m) before k m h
    ∙ set_at ws (get_or before k m) (drop (k + 1) before) m k l
    ∙ sym (append_assoc ws (m ∷ []) (drop (k + 1) before))

longer : (ws : List Mark) (m : Mark) → length (ws ++ m ∷ []) ≡ length ws + 1
longer ws m = length-append ws (m ∷ [])

-- A walk that stands at a node and an offset: what follows from there, behind the marks written so far, is the walk of the packet
pub record Walking (minimum : Kind → ℕ) (g : List NodeView) (p : List ℕ) (before now : List Mark) (n at k : ℕ) : Type 0 where
  pub ws : List Mark
  pub walks : (ms : List Mark) (o : Outcome) → Walk minimum g p n at ms o → PlainWalk minimum g p (ws ++ ms) o
  pub stand : now ≡ ws ++ drop k before
  pub many : length ws ≡ k
  pub few : k ≤ n
  pub low : n < 32
  pub within : at ≤ length p

module _ (minimum : Kind → ℕ) (g : List NodeView) (p : List ℕ) (before : List Mark) where
  module _ (now : List Mark) (n at k : ℕ) (w : Walking minimum g p before now n at k) where
    -- it stops at a header that is not marked
    pub walk_stops : (o : Outcome) → Walk minimum g p n at [] o → WalkedAs minimum g p before now (record { outcome = o; marks = k })
    walk_stops o s =
        let walks = subst (λ ms. PlainWalk minimum g p ms o) (append-nil w.ws) (w.walks [] o s) in
        record {
          marked = w.ws;
          walks = walks;
          only = λ ms u v. one_walk minimum (answer_by []) g p v walks;
          count = sym w.many;
          written = w.stand ∙ ap (λ i. w.ws ++ drop i before) (sym w.many);
        }

    module _ (m : Mark) (room : most_marks ≤ length before) where
      written_more : set now k m ≡ (w.ws ++ m ∷ []) ++ drop (k + 1) before
      written_more = put w.ws before now k m w.stand w.many (omega (arith, w.few, w.low))

      -- it ends at a header that is
      pub walk_ends : (o : Outcome) → Walk minimum g p n at (m ∷ []) o → WalkedAs minimum g p before (set now k m) (record { outcome = o; marks = k + 1 })
      walk_ends o s =
          let e : length (w.ws ++ m ∷ []) ≡ k + 1 = longer w.ws m ∙ ap (λ i. i + 1) w.many in
          record {
            marked = w.ws ++ m ∷ [];
            walks = w.walks (m ∷ []) o s;
            only = λ ms u v. one_walk minimum (answer_by []) g p v (w.walks (m ∷ []) o s);
            count = sym e;
            written = written_more ∙ ap (λ i. (w.ws ++ m ∷ []) ++ drop i before) (sym e);
          }

      -- it goes on behind one
      module _ (sound : NoFault minimum g) (next past : ℕ) (on : GoesOn minimum g p n at m next past) where
        pub node_after : (n < next) × (next < length g)
        node_after = leads_later minimum g sound n _ next on.decides

        pub walk_goes_on : length g ≤ 32 → Walking minimum g p before (set now k m) next past (k + 1)
        walk_goes_on h = record {
          ws = w.ws ++ m ∷ [];
          walks = λ ms o s. subst (λ xs. PlainWalk minimum g p xs o) (sym (append_assoc w.ws (m ∷ []) ms)) (w.walks (m ∷ ms) o (on.walks ms o s));
          stand = written_more;
          many = longer w.ws m ∙ ap (λ i. i + 1) w.many;
          few = omega (arith, node_after.0, w.few);
          low = omega (arith, node_after.1);
          within = on.within;
        }
