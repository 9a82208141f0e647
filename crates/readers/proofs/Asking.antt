-- What a turn asks, and the outcome of one that asks none.
use Rattle.std.proofs.Common.{◌≡◌, ℕ, suc, ◌+◌, ◌<◌, ◌≤◌, Bool, true, false, if◌then◌else◌, ◌&&◌, List, [], ◌∷◌, length, Some, None, Ok, Err, Option, Result, inl, inr, min, max, ◌%◌, sym, refl, ap, ap₂, ◌∙◌, subst, arith}
use Rattle.std.specs.Prelude.{nat_le, nat_lt}
use Rattle.std.proofs.lemmas.Bool.{leb-true, leb-false, both_ways, cases_lt, lt-ltb, le-ltb, le-leb, lt-leb}
use Rattle.headers.specs.declared.kinds.Kind.{Kind}
use Rattle.graphs.specs.View.{NodeView, node_at}
use Rattle.graphs.specs.declared.graph.Length.{Length}
use Rattle.stores.specs.declared.question.Question.{Question}
use Rattle.walks.specs.declared.outcome.Ending.{Ending}
use Rattle.walks.specs.declared.outcome.Outcome.{Outcome}
use Rattle.walks.specs.Outcomes.{outcome}
use Rattle.walks.specs.Walk.{reads, key_at, Refused}
use Rattle.walks.specs.Bytes.{spelled_in}
use Rattle.walks.specs.Rows.{Plan, question}
use Rattle.walks.specs.Plans.{Keeps, Lawful, reach, window}
use Rattle.walks.specs.Turning.{held}
use Rattle.walks.specs.Turns.{keys_at, Singly, Asks, chained, singly}
use Rattle.walks.specs.Turning.{refusal_where, header_refusal}
use Rattle.walker.proofs.Stepping.{node_fails, node_passes}
use Rattle.plans.specs.Chains.{nodes_of}
use Rattle.compiler.specs.declared.program.Program.{Program}
use Rattle.compiler.specs.Programs.{head_at, head_view, looked_up, HeadOf, Stands}
use Rattle.compiler.specs.declared.program.Head.{Head}
use Rattle.compiler.specs.Held as few
use Rattle.readers.specs.Headers.{bytes_at}
use Rattle.readers.proofs.Stating.{state_wraps}
use Rattle.readers.specs.Asking.{Look, look, wide, stopped_at, look_ahead, look_alone, asked_by, turn_asks}
use Rattle.readers.proofs.Standing.{chain_within}
use Rattle.readers.proofs.Looking.{keys_looked}

-- places are held where the packet has the bytes that reach over all of them
held_within : (p : List ℕ) (at : ℕ) (is : List ℕ) → at ≤ length p → held p at is ≡ nat_le (at + reach is) (length p)
held_within p at [] h = sym (le-leb (at + 0) (length p) (omega arith))
held_within p at (i ∷ is) h = ap (λ b. nat_lt (at + i) (length p) && b) (held_within p at is h) ∙ both (at + i) (at + reach is) (length p) (at + max (suc i) (reach is)) (omega arith)
  where
    both : (a b n m : ℕ) → m ≡ max (suc a) b → (nat_lt a n && nat_le b n) ≡ nat_le m n
    both a b n m e = elim (cases_lt a n) [
      | inl x ↦ elim (cases_lt n b) [
        | inl y ↦ ap₂ (λ s t. s && t) (lt-ltb a n x) (lt-leb b n y) ∙ sym (lt-leb m n (omega arith))
        | inr y ↦ ap₂ (λ s t. s && t) (lt-ltb a n x) (le-leb b n y) ∙ sym (le-leb m n (omega arith))
      ]
      | inr x ↦ ap (λ s. s && nat_le b n) (le-ltb a n x) ∙ sym (lt-leb m n (omega arith))
    ]

-- a turn ends before it asks: one check of its own header refuses it
pub record EndsAs (minimum : Kind → ℕ) (g : List NodeView) (chain : Plan) (p : List ℕ) (n at : ℕ) (o : Outcome) : Type 0 where
  pub alone : Singly g chain p n at
  pub ending : Ending
  pub refused : Refused minimum g p n at ending
  pub is : o ≡ outcome ending n at

module _ (minimum : Kind → ℕ) (g : List NodeView) (chain : Plan) (program : Program) (stands : Stands minimum program g chain) (p : List ℕ) (n at : ℕ)
    (w : ℕ) (size : w ≡ window g n (chain n)) where
  -- the window, where there is a chain
  window_is : (c : ℕ) (cs : List ℕ) → c ∷ cs ≡ chain n → w ≡ window g n (c ∷ cs)
  window_is c cs behind = size ∙ ap (window g n) (sym behind)

  -- with a chain and the window's bytes left
  module _ (law : Lawful g chain) (few : length p ≤ 65535) (q : Question) where
    pub asks_chain : (lookups cs : List ℕ) → lookups ≡ looked_up g n (chain n) → cs ≡ chain n → wide cs at w (length p) ≡ true → q ≡ question (32 + n) (bytes_at p at lookups)
        → Asks minimum g chain p n at cs q
    asks_chain lookups [] all behind t is = absurd (both_ways false refl t)
    asks_chain lookups (c ∷ cs) all behind t is =
        let h : at + window g n (c ∷ cs) ≤ length p = omega (arith, leb-true (at + w) (length p) t, window_is c cs behind) in
        let asks : Asks minimum g chain p n at (c ∷ cs) (question (32 + n) (keys_at g p n (c ∷ cs) at)) = chained (sym behind) h in
        let ok : Keeps g n (c ∷ cs) = subst (Keeps g n) (sym behind) (law n (chain_within g p minimum program chain stands n c cs (sym behind))) in
        let same : q ≡ question (32 + n) (keys_at g p n (c ∷ cs) at) =
        is ∙ ap (λ xs. question (32 + n) (bytes_at p at xs)) (all ∙ ap (looked_up g n) (sym behind))
        ∙ ap (question (32 + n)) (keys_looked p g (c ∷ cs) n at ok.fixed) in
        subst (Asks minimum g chain p n at (c ∷ cs)) (sym same) asks

  -- otherwise
  module _ (cs : List ℕ) (behind : cs ≡ chain n) (narrow : wide cs at w (length p) ≡ false) where
    pub is_alone : Singly g chain p n at
    is_alone c ds e = go cs behind narrow
      where
        go : (cs : List ℕ) → cs ≡ chain n → wide cs at w (length p) ≡ false → length p < at + window g n (c ∷ ds)
        go [] b t = let z : [] ≡ c ∷ ds = b ∙ e in let y : ◌≡◌ {A = ℕ} 0 1 = cc in absurd (omega arith)
        go (d ∷ es) b t = omega (arith, leb-false (at + w) (length p) t, size, ap (window g n) e)

    -- the checks, by the node's head
    module _ (len : Length) (needs least : ℕ) (lengths : len ≡ (node_at g n).len) (needed : needs ≡ reach (reads (node_at g n))) (fewest : least ≡ minimum (node_at g n).kind) (near : at ≤ length p) where
      abbrev told : Option Ending
      told = refusal_where (nat_le (at + needs) (length p)) p at least len

      told_is : told ≡ header_refusal p at least (node_at g n).len (node_at g n).places
      told_is =
          ap (λ l. refusal_where (nat_le (at + needs) (length p)) p at least l) lengths
          ∙ ap (λ b. refusal_where b p at least (node_at g n).len) (ap (λ m. nat_le (at + m) (length p)) needed ∙ sym (held_within p at (reads (node_at g n)) near))

      pub ends_as : (e : Ending) → Some e ≡ told → at ≤ 65535 → (o : Outcome) → o ≡ outcome e n (min at 65535) → EndsAs minimum g chain p n at o
      ends_as e s l o is = record {
        alone = is_alone;
        ending = e;
        refused = node_fails minimum g p n at (node_at g n) refl (node_at g n).places refl least fewest e (s ∙ told_is);
        is = is ∙ ap (outcome e n) (omega arith);
      }

      pub asks_alone : None ≡ told → (q : Question) → (lookups ns : List ℕ) → lookups ≡ (node_at g n).places → ns ≡ [] → q ≡ question n (bytes_at p at lookups) → Asks minimum g chain p n at ns q
      asks_alone s q lookups ns own none is =
          let header = node_passes minimum g p n at (node_at g n) refl (node_at g n).places refl least fewest (s ∙ told_is) in
          let same : q ≡ question n (key_at g p n at) = is ∙ ap (λ ps. question n (bytes_at p at ps)) own in
          subst (λ ms. Asks minimum g chain p n at ms q) (sym none) (subst (Asks minimum g chain p n at []) (sym same) (singly is_alone header))

-- What a head says, where the tests come out so

module _ (p : List ℕ) (n at : ℕ) (h : Head) where
  abbrev ahead_or : Bool → Option Ending → Result Look Outcome
  ahead_or b o = if b then Ok (look_ahead p n at h) else look_alone p n at h o

  abbrev is_wide : Bool
  is_wide = wide (nodes_of h.chain) at h.window (length p)

  abbrev refused_so : Option Ending
  refused_so = refusal_where (nat_le (at + h.needs) (length p)) p at h.minimum h.length

  pub looked_ahead : (q : Question) (ns : List ℕ) → is_wide ≡ true → q ≡ question ((32 + n) % 256) (bytes_at p at (few.held h.lookups)) → ns ≡ nodes_of h.chain → Ok (look q ns) ≡ asked_by p n at h
  looked_ahead q ns t e behind =
      ap₂ (λ q ns. Ok (look q ns)) (e ∙ ap (λ s. let r : Question = record { state = s; key = spelled_in 8 (bytes_at p at (few.held h.lookups)) } in r) (state_wraps n)) behind
      ∙ sym (ap (λ b. ahead_or b refused_so) t)

  pub looked_alone : (q : Question) (ns : List ℕ) → is_wide ≡ false → None ≡ refused_so → q ≡ question n (bytes_at p at (head_view h).places) → ns ≡ [] → Ok (look q ns) ≡ asked_by p n at h
  looked_alone q ns f s e none = ap₂ (λ q ns. Ok (look q ns)) e none ∙ ap (ahead_or false) s ∙ sym (ap (λ b. ahead_or b refused_so) f)

  pub stopped_alone : (e : Ending) → is_wide ≡ false → Some e ≡ refused_so → Err (stopped_at p n at e) ≡ asked_by p n at h
  stopped_alone e f s = ap (ahead_or false) s ∙ sym (ap (λ b. ahead_or b refused_so) f)

-- What a turn asks by a program that stands for graph and plan

module _ (minimum : Kind → ℕ) (g : List NodeView) (chain : Plan) (p : List ℕ) (n at : ℕ) where
  -- a question of the turns; or the outcome of a turn that asks none
  abbrev pub Asking : Result Look Outcome → Type 0
  Asking (Ok l) = Asks minimum g chain p n at l.behind l.question
  Asking (Err o) = EndsAs minimum g chain p n at o

  pub asking_right : (program : Program) → Stands minimum program g chain → Lawful g chain → at ≤ length p → length p ≤ 9600 → Asking (turn_asks program p n at)
  asking_right program stands law near short = go (is_wide p n at (head_at program n)) refl (refused_so p n at (head_at program n)) refl
    where
      head : HeadOf minimum g chain n (head_at program n)
      head = stands.heads n

      go : (b : Bool) → is_wide p n at (head_at program n) ≡ b → (o : Option Ending) → refused_so p n at (head_at program n) ≡ o → Asking (ahead_or p n at (head_at program n) b o)
      go true t o s =
          asks_chain minimum g chain program stands p n at (head_at program n).window head.window law (omega arith) (look_ahead p n at (head_at program n)).question (few.held (head_at program n).lookups) (nodes_of (head_at program n).chain) head.lookups head.behind t refl
      go false t (Some e) s =
          ends_as minimum g chain program stands p n at (head_at program n).window head.window (nodes_of (head_at program n).chain) head.behind t (head_at program n).length (head_at program n).needs (head_at program n).minimum (ap (λ (v : NodeView). v.len) head.node) head.needs head.least near
          e (sym s) (omega arith) (stopped_at p n at e) refl
      go false t None s =
          asks_alone minimum g chain program stands p n at (head_at program n).window head.window (nodes_of (head_at program n).chain) head.behind t (head_at program n).length (head_at program n).needs (head_at program n).minimum (ap (λ (v : NodeView). v.len) head.node) head.needs head.least near
          (sym s) (question n (bytes_at p at (head_view (head_at program n)).places)) (head_view (head_at program n)).places [] (ap (λ (v : NodeView). v.places) head.node) refl refl
