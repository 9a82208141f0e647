-- A turn makes the steps of the walk.
use Rattle.std.proofs.Common.{◌≡◌, ℕ, ◌+◌, ◌<◌, ◌≤◌, Bool, true, false, cond, ltb, leb, List, [], ◌∷◌, ◌++◌, map, length, Some, None, Decides, Option, refl, ap, ◌∙◌, append-nil, arith}
use Rattle.std.proofs.ByRecursion.{All-append, Decides-by_and}
use Rattle.std.proofs.lemmas.List.{length-map}
use Rattle.std.proofs.lemmas.Bool.{ltb-true, ltb-false, leb-true, both_ways}
use Rattle.std.proofs.lemmas.Bool.Decides.{Decides-ltb}
use Rattle.headers.specs.declared.kinds.Kind.{Kind}
use Rattle.patterns.specs.declared.row.Target.{Target}
use Rattle.patterns.specs.declared.row.Target.TheVariants as to
use Rattle.graphs.specs.View.{NodeView, node_at}
use Rattle.stores.specs.declared.question.Question.{Question}
use Rattle.walks.specs.declared.action.Action.{Action}
use Rattle.walks.specs.Bytes.{byte_at}
use Rattle.walks.specs.Walk.{Held, reads, size_at, past, key_at, decide_at, outside, under, overrun, Header, Walk, refused, unfit, drops, ends, on}
use Rattle.walks.specs.Rows.{Plan, chain_base, action, leads_to, tried, pieces_at, entries, chain_entries, store_row, store_rows, question, answer_by}
use Rattle.walks.specs.Plans.{IsFixed, AllFixed, Rules, Keeps, fixed_size, reach, span, window}
use Rattle.walks.specs.Turns.{settled, keys_at, passed, last_at, last_node}
use Rattle.walks.specs.Turning.{Trace, held, checked, refusal, follow, single, turn_by, turn}
use Rattle.walks.proofs.Spelling.{Bytes}
use Rattle.walks.proofs.Fit.{fit_all}
use Rattle.walks.proofs.Join.{choose, answer_to, Even, bump, after, alone_answer, chain_answer}
use Rattle.walks.proofs.Store.{own_node, own_chain, rows_answer}
use Rattle.walks.proofs.Sound.{Onward, Sound}
use Rattle.walks.proofs.Pieces.{pieces_decide, pieces_even, tried_decides, tried_sound}
use Rattle.walks.proofs.Widths.{leads, led_on, entries_fair, length_keys}

pub key_bytes : (g : List NodeView) (p : List ℕ) (n : ℕ) (at : ℕ) → Bytes (key_at g p n at)
key_bytes g p n at = each (node_at g n).places
  where
    each : (is : List ℕ) → Bytes (map (λ i. byte_at p (at + i)) is)
    each [] = tt
    each (i ∷ is) = (omega arith, each is)

keys_bytes : (g : List NodeView) (p : List ℕ) (cs : List ℕ) (n : ℕ) (at : ℕ) → Bytes (keys_at g p n cs at)
keys_bytes g p [] n at = key_bytes g p n at
keys_bytes g p (c ∷ cs) n at = All-append _ (key_at g p n at) (keys_at g p c cs (past g p n at)) (key_bytes g p n at) (keys_bytes g p cs c (past g p n at))

reach_held : (p : List ℕ) (at : ℕ) (is : List ℕ) → at + reach is ≤ length p → Held p at is
reach_held p at [] h = tt
reach_held p at (i ∷ is) h = (omega arith, reach_held p at is (omega arith))

pub decides_held : (p : List ℕ) (at : ℕ) (is : List ℕ) → Decides (held p at is) (Held p at is)
decides_held p at is = Decides-by_and (λ i. ltb (at + i) (length p)) (λ i. at + i < length p) (held p at) (λ i. Decides-ltb (at + i) (length p)) refl (λ _ _. refl) is

module _ (minimum : Kind → ℕ) (g : List NodeView) (p : List ℕ) (sound : Sound minimum g) where
  -- a fixed header within the window passes the checks
  fixed_size_lem : (n : ℕ) (at : ℕ) → IsFixed (node_at g n).len → size_at g p n at ≡ fixed_size (node_at g n).len
  fixed_size_lem n at f = rw f.1

  fixed_header : (n : ℕ) (at : ℕ) → n < length g → IsFixed (node_at g n).len → at + span (node_at g n) ≤ length p → Header minimum g p n at
  fixed_header n at l f h = record {
    held = rw f.1 (rw append-nil (reach_held p at (node_at g n).places (omega arith)));
    long = rw f.1 (sound.enough n l f.0 f.1);
    within = rw (fixed_size_lem n at f) (omega arith);
  }

  width_key : (n : ℕ) (at : ℕ) → length (key_at g p n at) ≡ length (node_at g n).places
  width_key n at = length-map _ _

  -- node n's pieces decide as its rows
  pub chosen : (n : ℕ) (at : ℕ) → n < length g → choose (pieces_at g n) (key_at g p n at) ≡ decide_at g p n at
  chosen n at l =
      pieces_decide (length (node_at g n).places) (tried (node_at g n).rows) (tried_sound _ (node_at g n).rows (sound.rows n l)) (sound.narrow n l) (key_at g p n at) (width_key n at) (key_bytes g p n at)
      ∙ tried_decides (node_at g n).rows _

  -- and what decides leads onward
  pub decided_onward : (n : ℕ) (at : ℕ) (t : Target) → n < length g → decide_at g p n at ≡ Some t → Onward (length g) n t
  decided_onward n at t l e = fit_all _ _ (Onward (length g) n) (pieces_at g n) (led_on minimum g sound n l) t (chosen n at l ∙ e)

  -- and each has as many cells as the node has lookup bytes
  pub even : (n : ℕ) (at : ℕ) → Even (length (key_at g p n at)) (pieces_at g n)
  even n at = rw (width_key n at) (pieces_even (length (node_at g n).places) (tried (node_at g n).rows))

  module _ (chain : Plan) where
    abbrev put : Question → Option Action
    put = answer_by (store_rows g chain)

    -- what the store says is what the rows of the node say, and of node and chain
    pub node_says : (n : ℕ) (at : ℕ) → n < length g → put (question n (key_at g p n at)) ≡ answer_to (entries g n []) (key_at g p n at)
    node_says n at l =
        let w = width_key n at in
        own_node g sound.few chain n l (question n (key_at g p n at)) (let f = sound.few in omega arith)
        ∙ rows_answer n (key_at g p n at) (omega (arith, sound.narrow n l)) (key_bytes g p n at) (entries g n []) (rw w (entries_fair minimum g sound [] n l tt))

    pub chain_says : (n c : ℕ) (cs : List ℕ) (at : ℕ) → n < length g → chain n ≡ c ∷ cs → Rules g n (c ∷ cs)
        → put (question (chain_base + n) (keys_at g p n (c ∷ cs) at)) ≡ answer_to (entries g n (c ∷ cs)) (keys_at g p n (c ∷ cs) at)
    chain_says n c cs at l e r =
        let w = length_keys g p (c ∷ cs) n at in
        let k = keys_at g p n (c ∷ cs) at in
        own_chain g sound.few chain n l (question (chain_base + n) k) (let f = sound.few in omega arith)
        ∙ ap (λ es. answer_by (map (store_row (chain_base + n)) es) (question (chain_base + n) k)) (ap (chain_entries g n) e)
        ∙ rows_answer (chain_base + n) k (omega (arith, w, r.narrow)) (keys_bytes g p (c ∷ cs) n at) (entries g n (c ∷ cs)) (rw w (entries_fair minimum g sound (c ∷ cs) n l r.linked))

    module _ (next : ℕ → ℕ → Trace) (from : ℕ) (later : (t : ℕ) (at : ℕ) → from < t → t < length g → Walk minimum g p t at (next t at).marks (next t at).outcome) where
      abbrev rest : ℕ → ℕ → Option Target → Trace
      rest n at t = follow minimum put g p next n at t

      -- an action, as the walk from node n on
      abbrev Lands : ℕ → List ℕ → ℕ → Action → Type 0
      Lands n cs at a =
          Walk minimum g p n at (passed g p a.beyond n cs at ++ (rest (last_node a.beyond n cs) (last_at g p a.beyond n cs at) a.target).marks)
          (rest (last_node a.beyond n cs) (last_at g p a.beyond n cs at) a.target).outcome

      lands_here : (n : ℕ) (cs : List ℕ) (at : ℕ) → from ≤ n → n < length g → Header minimum g p n at → (t : Option Target) → decide_at g p n at ≡ t → Lands n cs at (action 0 t)
      lands_here n cs at f l h None e = unfit h e
      lands_here n cs at f l h (Some to.Dropped) e = drops h e
      lands_here n cs at f l h (Some to.Done) e = ends h e
      lands_here n cs at f l h (Some (to.Node m)) e = let o = decided_onward n at (to.Node m) l e in on h e (later m _ (omega arith) (omega arith))

      own_lands : (n : ℕ) (at : ℕ) → from ≤ n → n < length g → Header minimum g p n at → Lands n [] at (settled (answer_to (entries g n []) (key_at g p n at)))
      own_lands n at f l h = rw (alone_answer (pieces_at g n) (key_at g p n at), chosen n at l) (lands_here n [] at f l h (decide_at g p n at) refl)

      -- along the chain, as far as the rows lead
      chain_lands : (c : ℕ) (cs : List ℕ) (n : ℕ) (at : ℕ) (a : Action) → from ≤ n → n < length g → Header minimum g p n at
          → (from ≤ c → c < length g → Lands c cs (past g p n at) a) → (d : Option Target) → decide_at g p n at ≡ d → Lands n (c ∷ cs) at (settled (after c a d))
      chain_lands c cs n at a f l h ih None e = lands_here n (c ∷ cs) at f l h None e
      chain_lands c cs n at a f l h ih (Some t) e = go (leads_to c t) refl
        where
          go : (b : Bool) → leads_to c t ≡ b → Lands n (c ∷ cs) at (cond b (bump a) (action 0 (Some t)))
          go true i =
              let same : decide_at g p n at ≡ Some (to.Node c) = e ∙ ap Some (leads c t i) in
              let o = decided_onward n at (to.Node c) l same in
              on h same (ih (omega arith) (omega arith))
          go false i = lands_here n (c ∷ cs) at f l h (Some t) e

      lands : (cs : List ℕ) (n : ℕ) (at : ℕ) → from ≤ n → n < length g → AllFixed g n cs → at + window g n cs ≤ length p
          → Lands n cs at (settled (answer_to (entries g n cs) (keys_at g p n cs at)))
      lands [] n at f l a w = own_lands n at f l (fixed_header n at l a w)
      lands (c ∷ cs) n at f l a w =
          rw (chain_answer c (entries g c cs) (key_at g p n at) (keys_at g p c cs (past g p n at)) (pieces_at g n) (even n at), chosen n at l)
          (chain_lands c cs n at _ f l (fixed_header n at l a.0 (omega arith))
          (λ f' l'. lands cs c (past g p n at) f' l' a.1 (rw (fixed_size_lem n at a.0) (omega arith))) (decide_at g p n at) refl)

    module _ (next : ℕ → ℕ → Trace) (n : ℕ) (later : (t : ℕ) (at : ℕ) → n < t → t < length g → Walk minimum g p t at (next t at).marks (next t at).outcome) (within : n < length g) (at : ℕ) where
      abbrev Walks : Trace → Type 0
      Walks t = Walk minimum g p n at t.marks t.outcome

      single_walks : Walks (single minimum put g p next n at (refusal minimum put g p n at))
      single_walks = go _ _ _ refl refl refl
        where
          all : Decides (held p at (reads (node_at g n))) (Held p at (reads (node_at g n)))
          all = decides_held p at (reads (node_at g n))

          go : (x y z : Bool) → held p at (reads (node_at g n)) ≡ x → ltb (size_at g p n at) (minimum (node_at g n).kind) ≡ y → ltb (length p) (past g p n at) ≡ z
              → Walks (single minimum put g p next n at (checked x y z))
          go false y z ex ey ez = refused (outside (λ h. both_ways (held p at (reads (node_at g n))) ex (all.1 h)))
          go true true z ex ey ez = refused (under (all.0 ex) (ltb-true _ _ ey))
          go true false true ex ey ez = refused (overrun (all.0 ex) (ltb-false _ _ ey) (ltb-true _ _ ez))
          go true false false ex ey ez =
              rw (node_says n at within)
              (own_lands next n later n at (omega arith) within (record { held = all.0 ex; long = ltb-false _ _ ey; within = ltb-false _ _ ez }))

      pub turn_walks : (cs : List ℕ) → chain n ≡ cs → Keeps g n cs → Walks (turn minimum put g p next n cs at)
      turn_walks [] e k = single_walks
      turn_walks (c ∷ cs) e k = go (leb (at + window g n (c ∷ cs)) (length p)) refl
        where
          go : (b : Bool) → leb (at + window g n (c ∷ cs)) (length p) ≡ b → Walks (turn_by minimum put g p next n (c ∷ cs) at b)
          go true w = rw (chain_says n c cs at within e k) (lands next n later (c ∷ cs) n at (omega arith) within k.fixed (leb-true _ _ w))
          go false w = single_walks
