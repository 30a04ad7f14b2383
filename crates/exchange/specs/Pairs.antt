-- Pairs of markers, and their numbers. Assumes nothing.
use Rattle.std.specs.Prelude.{◌≡◌, ℕ, ◌+◌, ◌-◌, ◌*◌, ◌<◌, cond, Ok, Err, Result, ◌≢◌, nat_lt}
use Rattle.refusal.specs.declared.Refusal.{Refusal}
use Rattle.refusal.specs.declared.Refusal.TheVariants.{Unknown}

-- <i,j> is a pair of m markers: the queue that i fills and j empties
abbrev pub Pair : ℕ → ℕ → ℕ → Type 0
Pair m i j = (i < m) × (j < m) × (i ≢ j)

-- how many pairs m markers have
abbrev pub pairs_of : ℕ → ℕ
pairs_of m = m * (m - 1)

-- the number of <i,j>: by sender, then by receiver, and a marker is no receiver of its own
abbrev pub pair_at : ℕ → ℕ → ℕ → ℕ
pair_at m i j = i * (m - 1) + cond (nat_lt j i) j (j - 1)

-- the number of a pair, or unknown; 16 markers have 240 pairs
abbrev pub Numbered : ℕ → ℕ → ℕ → Result ℕ Refusal → Type 0
Numbered m i j (Ok q) = Pair m i j × (q ≡ pair_at m i j) × (q < pairs_of m) × (q < 240)
Numbered m i j (Err e) = (e ≡ Unknown) × (Pair m i j → ⊥)
