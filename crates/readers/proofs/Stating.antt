-- The state of a number.
use Rattle.std.proofs.Common.{◌≡◌, ℕ, ◌+◌, ◌%◌, ◌<◌, ◌≤◌, Some, Option, MatchOption, ap, subst, arith}
use Rattle.std.proofs.Math.Bridge.{le_prop}
use Rattle.stores.specs.declared.state.State.{State}
use Rattle.walks.specs.Rows.{state_of}

-- a state is known by its number
pub same_state : (s t : State) → s.number ≡ t.number → s ≡ t
same_state s t e =
    subst (λ n. (h : n < 64) → s ≡ record { number = n; below = h }) e (λ h. ap (λ (b : s.number < 64). let r : State = record { number = s.number; below = b } in r) (le_prop s.below h)) t.below

-- the state that a number makes
pub made_state : (n : ℕ) (o : Option State) (s : State) → o ≡ Some s → MatchOption o (64 ≤ n % 64) (λ t. t.number ≡ n % 64) → s ≡ state_of n
made_state n o s e h = same_state s (state_of n) (rw e at h)

-- numbers that differ by 64 or more times that
pub state_wraps : (n : ℕ) → state_of ((32 + n) % 256) ≡ state_of (32 + n)
state_wraps n = same_state (state_of ((32 + n) % 256)) (state_of (32 + n)) (omega arith)
