-- The number of a pair is below the number of pairs, and no two pairs have one number. Assumes nothing.
use Rattle.std.proofs.Common.{◌≡◌, ℕ, ◌-◌, ◌/◌, ◌%◌, ◌<◌, ◌≤◌, cond, ltb, ◌⊎◌, sym, ap, ◌∙◌, inl, inr, ⊎_elim, arith}
use Rattle.std.proofs.lemmas.Bool.{cases_lt, cond-true, cond-false, lt-ltb, le-ltb}
use Rattle.std.proofs.lemmas.Nat.{mul-le, mul-add-lt, div-mul-add, mod-mul-add}
use Rattle.exchange.specs.Pairs.{Pair, pairs_of, pair_at}

abbrev column : ℕ → ℕ → ℕ
column i j = cond (ltb j i) j (j - 1)

module _ (m i j : ℕ) (p : Pair m i j) where
  -- what the column is, on both sides of the sender
  column_cases : ((j < i) × (column i j ≡ j)) ⊎ ((i < j) × (column i j ≡ j - 1))
  column_cases =
      ⊎_elim
      (λ (low : j < i). inl (low, cond-true (ltb j i) j (j - 1) (lt-ltb j i low)))
      (λ (high : i ≤ j). inr (omega (arith, p.2), cond-false (ltb j i) j (j - 1) (le-ltb j i high)))
      (cases_lt j i)

  column_lt : column i j < m - 1
  column_lt = ⊎_elim (λ (low : (j < i) × (column i j ≡ j)). omega arith) (λ (high : (i < j) × (column i j ≡ j - 1)). omega arith) column_cases

  pub number_lt : pair_at m i j < pairs_of m
  number_lt = omega (arith, mul-add-lt i (m - 1) (column i j) m p.0 column_lt)

-- at most 16 markers have at most 240 pairs
pub pairs_few : (m : ℕ) → m ≤ 16 → pairs_of m ≤ 240
pairs_few m few = mul-le m (m - 1) 16 15 few (omega arith)

module _ (m i j a b : ℕ) (p : Pair m i j) (r : Pair m a b) where
  pub number_same : pair_at m a b ≡ pair_at m i j → (a ≡ i) × (b ≡ j)
  number_same e =
      let row : a ≡ i = sym (div-mul-add a (m - 1) (column a b) (column_lt m a b r)) ∙ ap (λ k. k / (m - 1)) e ∙ div-mul-add i (m - 1) (column i j) (column_lt m i j p) in
      let col : column a b ≡ column i j = sym (mod-mul-add a (m - 1) (column a b) (column_lt m a b r)) ∙ ap (λ k. k % (m - 1)) e ∙ mod-mul-add i (m - 1) (column i j) (column_lt m i j p) in (
        row,
        ⊎_elim
            (λ (x : (j < i) × (column i j ≡ j)). ⊎_elim (λ (y : (b < a) × (column a b ≡ b)). omega arith) (λ (y : (a < b) × (column a b ≡ b - 1)). omega arith) (column_cases m a b r))
            (λ (x : (i < j) × (column i j ≡ j - 1)). ⊎_elim (λ (y : (b < a) × (column a b ≡ b)). omega arith) (λ (y : (a < b) × (column a b ≡ b - 1)). omega arith) (column_cases m a b r))
            (column_cases m i j p),
      )
