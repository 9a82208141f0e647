-- A row more in a limited store.
use Rattle.std.specs.Prelude.{◌≡◌, ℕ, ◌-◌, ◌<◌, ◌≤◌, false, [], ◌∷◌, ◌++◌, length, ◌≢◌, nat_eq}
use Rattle.std.proofs.Common.{arith}
use Rattle.std.proofs.lemmas.Bool.{ne_eqb}
use Rattle.std.proofs.lemmas.List.{length_push}
use Rattle.stores.specs.declared.listing.Rows.{Rows}
use Rattle.stores.specs.declared.question.Row.{Row}
use Rattle.stores.specs.declared.tabled.Tabled.{Tabled}
use Rattle.stores.specs.Fits.{fits}
use Rattle.stores.specs.Meaning.{Meaning, admits, appended}
use Rattle.stores.specs.Listings.{length_listed}
use Rattle.stores.specs.Pairs.{admits_same}
use Rattle.stores.specs.Listed.{of_listing}
use Rattle.plan_examples.specs.Limits.{limited}

pub listing_length : (s : Tabled Rows 512) → length (of_listing s).rows ≡ s.held
listing_length s = length_listed s.table.rows s.held (omega arith)

-- a listing with fewer rows than a limit of 512 at most takes one
pub listing_free : (s : Tabled Rows 512) (limit : ℕ) → length (of_listing s).rows < limit → limit ≤ 512 → (of_listing s).takes ≢ 0
listing_free s limit room small e = omega (arith, listing_length s)

module _ (m : Meaning) (limit : ℕ) (room : length m.rows < limit) (free : m.takes ≡ 0 → ⊥) where
  pub limited_admits : admits m ≡ admits (limited m limit)
  limited_admits = admits_same m (limited m limit) free (λ e. omega (arith, e))

  pub limited_more : (r : Row) → limited (appended m r) limit ≡ appended (limited m limit) r
  limited_more r =
      let taken : nat_eq m.takes 0 ≡ false = ne_eqb _ _ free in
      let left : nat_eq (limit - length m.rows) 0 ≡ false = ne_eqb _ _ (λ e. omega (arith, e)) in
      let fewer : limit - length (m.rows ++ (fits r ∷ [])) ≡ limit - length m.rows - 1 = omega (arith, length_push m.rows (fits r)) in
      rw (taken, left, fewer)
