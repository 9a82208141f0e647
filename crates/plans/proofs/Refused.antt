-- What reading tells of a plan is its least fault.
use Rattle.std.specs.Option.{option_or}
use Rattle.std.proofs.Common.{◌≡◌, ℕ, zero, suc, ◌+◌, ◌*◌, ◌<◌, ◌≤◌, Bool, true, false, ◌&&◌, ◌||◌, eqb, ltb, leb, ◌⊎◌, List, length, get_or, IfOk, None, Ok, Err, Result, sym, refl, ap, subst, inl, inr, arith}
use Rattle.std.proofs.lemmas.Bool.{and_parts, and_cases, or_cases, or_parts, cases_Bool, both_ways, leb-true, leb-false, ltb-true, ltb-false, eqb-true, eqb-false}
use Rattle.refusals.specs.Searching.{unless, fault_of}
use Rattle.refusals.specs.Least.{NotAfter, Answers}
use Rattle.refusals.proofs.Lowest.{Lowest, lowest_like, lowest_or, lowest_of, lowest_unless}
use Rattle.refusals.proofs.Ranking.{lower}
use Rattle.refusals.proofs.Searching.{option_or_none, holds}
use Rattle.graphs.specs.View.{NodeView}
use Rattle.walks.specs.Plans.{Keeps, Lawful}
use Rattle.plans.specs.declared.chains.Chain.{Chain}
use Rattle.plans.specs.declared.chains.Chains.{Chains}
use Rattle.plans.specs.declared.fault.PlanFault.{PlanFault}
use Rattle.plans.specs.declared.fault.PlanFault.TheVariants.{Shape, Rule}
use Rattle.plans.specs.Chains.{chain_itself, chain_of, chain_at, chain_in}
use Rattle.plans.specs.Faults.{of_plan}
use Rattle.plans.specs.Refusals.{WrongChain, many, unused, size, chain, PlanApplies, Says}
use Rattle.plans.specs.Checking.{chain_right, keeps, size_fault, chains_fault, rules_fault, plan_fault}
use Rattle.plans.proofs.Keeping.{keeps_says, keeps_told}

-- the test of a node's bytes, in words
wrong_chain : (c : Chain) → chain_right c ≡ false → WrongChain c
wrong_chain c e = elim (and_cases _ _ e) [
  | inl a ↦ many (leb-false _ _ a)
  | inr b ↦ elim (and_cases _ _ b) [
    | inl a ↦ byte 0 (omega arith) a
    | inr b ↦ elim (and_cases _ _ b) [ inl a ↦ byte 1 (omega arith) a | inr a ↦ byte 2 (omega arith) a ]
  ]
]
  where
    byte : (i : ℕ) → i < 3 → (ltb i c.count || eqb (get_or c.nodes i 0) 0) ≡ false → WrongChain c
    byte i h a = let p = or_parts (ltb i c.count) (eqb (get_or c.nodes i 0) 0) a in unused i h (ltb-false _ _ p.0) (eqb-false _ _ p.1)

-- the parts of the test
abbrev byte_right : Chain → ℕ → Bool
byte_right c i = ltb i c.count || eqb (get_or c.nodes i 0) 0

right_parts : (c : Chain) → chain_right c ≡ true → (c.count ≤ 3) × (byte_right c 0 ≡ true) × (byte_right c 1 ≡ true) × (byte_right c 2 ≡ true)
right_parts c t =
    let p = and_parts (leb c.count 3) (byte_right c 0 && (byte_right c 1 && byte_right c 2)) t in
    let q = and_parts (byte_right c 0) (byte_right c 1 && byte_right c 2) p.1 in
    let r = and_parts (byte_right c 1) (byte_right c 2) q.1 in
    (leb-true _ _ p.0, q.0, r.0, r.1)

zero_at : (c : Chain) (i : ℕ) → byte_right c i ≡ true → c.count ≤ i → get_or c.nodes i 0 ≡ 0
zero_at c i t h = elim (or_cases (ltb i c.count) (eqb (get_or c.nodes i 0) 0) t) [
  | inl l ↦ let m = ltb-true i c.count l in absurd (omega arith)
  | inr e ↦ eqb-true _ _ e
]

not_chain : (c : Chain) → WrongChain c → chain_right c ≡ false
not_chain c w = elim (cases_Bool (chain_right c)) [ inl t ↦ absurd (clash (right_parts c t) w) | inr e ↦ e ]
  where
    clash : (c.count ≤ 3) × (byte_right c 0 ≡ true) × (byte_right c 1 ≡ true) × (byte_right c 2 ≡ true) → WrongChain c → ⊥
    clash p (many h) = omega (arith, p.0)
    clash p (unused zero h l z) = z (zero_at c 0 p.1 l)
    clash p (unused (suc zero) h l z) = z (zero_at c 1 p.2 l)
    clash p (unused (suc (suc zero)) h l z) = z (zero_at c 2 p.3 l)
    clash p (unused (suc (suc (suc i))) h l z) = omega arith

module _ (g : List NodeView) (bytes : List ℕ) where
  abbrev ahead : PlanFault → PlanFault → Type 0
  ahead e d = NotAfter (of_plan e) (of_plan d)

  abbrev ChainTold : ℕ → PlanFault → Type 0
  ChainTold n e = (e ≡ Shape n) × (chain_right (chain_at bytes n) ≡ false)

  abbrev RuleTold : ℕ → PlanFault → Type 0
  RuleTold n e = (e ≡ Rule n) × (keeps g n (chain_in bytes n) ≡ false)

  abbrev Among : (ℕ → PlanFault → Type 0) → PlanFault → Type 0
  Among P e = (n : ℕ) × (0 ≤ n) × (n < 0 + length g) × P n e

  chains_lowest : Lowest ahead (Among ChainTold) (chains_fault (length g) bytes)
  chains_lowest =
      lowest_of ahead ChainTold (λ n. unless (chain_right (chain_at bytes n)) (Shape n))
      (λ n. lowest_unless ahead (chain_right (chain_at bytes n)) (Shape n) (inr (refl, inr (refl, omega arith))))
      (λ i j e d l p q. subst (λ e. ahead e d) (sym p.0) (subst (ahead (Shape i)) (sym q.0) (inr (refl, inl l))))
      (length g) 0

  rules_lowest : Lowest ahead (Among RuleTold) (rules_fault g (chain_in bytes) (length g))
  rules_lowest =
      lowest_of ahead RuleTold (λ n. unless (keeps g n (chain_in bytes n)) (Rule n))
      (λ n. lowest_unless ahead (keeps g n (chain_in bytes n)) (Rule n) (inr (refl, inr (refl, omega arith))))
      (λ i j e d l p q. subst (λ e. ahead e d) (sym p.0) (subst (ahead (Rule i)) (sym q.0) (inr (refl, inl l))))
      (length g) 0

  abbrev Told : PlanFault → Type 0
  Told e = Among ChainTold e ⊎ Among RuleTold e

  -- a plan of the right size
  module _ (right : length bytes ≡ 4 * length g) where
    spoken : (e : PlanFault) → Told e → PlanApplies g bytes e
    spoken e (inl (n, z, l, (s, h))) = subst (PlanApplies g bytes) (sym s) (chain right (omega arith) (wrong_chain (chain_at bytes n) h))
    spoken e (inr (n, z, l, (s, h))) = subst (PlanApplies g bytes) (sym s) (omega arith, λ k. both_ways _ h (keeps_told g n (chain_in bytes n) k))

    applied : (e : PlanFault) → PlanApplies g bytes e → Told e
    applied (Shape n) (size w e) = absurd (w right)
    applied (Shape n) (chain s l w) = inl (n, omega arith, omega arith, (refl, not_chain (chain_at bytes n) w))
    applied (Rule n) (l, w) = inr (n, omega arith, omega arith, (refl, broken n w))
      where
        broken : (n : ℕ) → (Keeps g n (chain_in bytes n) → ⊥) → keeps g n (chain_in bytes n) ≡ false
        broken n w = elim (cases_Bool (keeps g n (chain_in bytes n))) [ inl t ↦ absurd (w (keeps_says g n (chain_in bytes n) t)) | inr e ↦ e ]

    right_lowest : Lowest ahead (PlanApplies g bytes) (option_or (chains_fault (length g) bytes) (rules_fault g (chain_in bytes) (length g)))
    right_lowest =
        lowest_like ahead Told (PlanApplies g bytes) spoken applied _
        (lowest_or ahead (Among ChainTold) (Among RuleTold)
        (λ e d p q. lower (of_plan e) (of_plan d) (omega (arith, ap (λ x. (of_plan x).number) p.3.0, ap (λ x. (of_plan x).number) q.3.0)) (omega (arith, ap (λ x. (of_plan x).number) q.3.0)))
        (chains_fault (length g) bytes) (rules_fault g (chain_in bytes) (length g)) chains_lowest rules_lowest)

  -- a plan of another size is wrong at the number of nodes
  size_first : (length bytes ≡ 4 * length g → ⊥) → (d : PlanFault) → PlanApplies g bytes d → ahead (Shape (length g)) d
  size_first w (Shape n) (size h e) = inr (refl, inr (sym e, omega arith))
  size_first w (Shape n) (chain s l h) = absurd (w s)
  size_first w (Rule n) h = lower (of_plan (Shape (length g))) (of_plan (Rule n)) (omega arith) (omega arith)

  pub plan_lowest : Lowest ahead (PlanApplies g bytes) (plan_fault g bytes)
  plan_lowest = elim (cases_Bool (eqb (length bytes) (4 * length g))) [
    | inl t ↦ subst (λ b. Lowest ahead (PlanApplies g bytes) (option_or (unless b (Shape (length g))) (option_or (chains_fault (length g) bytes) (rules_fault g (chain_in bytes) (length g)))))
        (sym t) (right_lowest (eqb-true _ _ t))
    | inr e ↦ subst (λ b. Lowest ahead (PlanApplies g bytes) (option_or (unless b (Shape (length g))) (option_or (chains_fault (length g) bytes) (rules_fault g (chain_in bytes) (length g)))))
        (sym e) (size (eqb-false _ _ e) refl, size_first (eqb-false _ _ e))
  ]

  -- no fault: every chain keeps the rules
  pub lawful : plan_fault g bytes ≡ None → Lawful g (chain_in bytes)
  lawful e n h =
      let rest = (option_or_none (size_fault (length g) bytes) (option_or (chains_fault (length g) bytes) (rules_fault g (chain_in bytes) (length g))) e).1 in
      let rules = (option_or_none (chains_fault (length g) bytes) (rules_fault g (chain_in bytes) (length g)) rest).1 in
      keeps_says g n (chain_in bytes n) (holds (λ n. keeps g n (chain_in bytes n)) Rule (length g) n rules h)

  -- the answer of a call that tells the first fault
  pub answered : (r : Result Chains PlanFault) → fault_of r ≡ plan_fault g bytes → ((n : ℕ) → IfOk r (λ chains. chain_itself chains n ≡ chain_at bytes n))
      → IfOk r (λ chains. chain_of chains ≡ chain_in bytes)
      → Answers of_plan (PlanApplies g bytes) (Says g bytes) r
  answered (Ok x) e w s =
      (subst (Lowest ahead (PlanApplies g bytes)) (sym e) plan_lowest, record { whole = w; same = s; lawful = subst (Lawful g) (sym s) (lawful (sym e)) })
  answered (Err d) e w s = let h = subst (Lowest ahead (PlanApplies g bytes)) (sym e) plan_lowest in record { applies = h.0; first = h.1 }
