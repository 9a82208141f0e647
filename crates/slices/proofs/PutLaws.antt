-- The loop that puts a row's bits, over lists of words.
use Rattle.std.proofs.Common.{◌≡◌, ℕ, ◌+◌, ◌^◌, ◌<◌, List, [], ◌∷◌, ◌++◌, refl, arith}
use Rattle.stores.specs.declared.question.Row.{Row}
use Rattle.stores.specs.Fits.{fits}
use Rattle.slices.specs.Words.{rows_of}
use Rattle.slices.proofs.Putting.{Putting}
use Rattle.slices.specs.WordLaws.{rows_put}

module _ (ws vs : List ℕ) (held : ℕ) (row : Row) where
  pub put_none : Putting ws ws held row 0
  put_none = record { long = refl; done = λ k h. absurd (omega arith); rest = λ k h. refl }

  -- all words: the row stands behind the others
  pub put_all : (n : ℕ) → Putting ws vs held row n → n ≡ 288 → held < 64 → row.value < 2 ^ 64 → row.mask < 2 ^ 64
      → rows_of vs (held + 1) ≡ rows_of ws held ++ fits row ∷ []
  put_all n p e h vb mb = rows_put ws vs held row h vb mb (λ k l. p.done k (omega arith))
