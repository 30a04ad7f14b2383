-- Every number below the number of pairs is the number of a pair (proofs/Pairings: of only one). Assumes nothing.
use Rattle.std.specs.Prelude.{◌≡◌, ℕ, ◌+◌, ◌-◌, ◌*◌, ◌/◌, ◌%◌, ◌<◌, ◌≤◌}
use Rattle.std.proofs.Common.{◌∙◌, ⊎_elim, arith, div-add-mod', div-lt_iff_lt-mul, mod-lt}
use Rattle.std.proofs.lemmas.Bool.{cases_lt, lt-ltb, le-ltb}
use Rattle.exchange.specs.Pairs.{Pair, pairs_of, pair_at}

-- the pair of sender i in column c
in_column : (m i c : ℕ) → i < m → c < m - 1 → (j : ℕ) × (Pair m i j) × (pair_at m i j ≡ i * (m - 1) + c)
in_column m i c im cm =
    ⊎_elim
    (λ (low : c < i). (c, (im, omega arith, λ e. omega arith), rw (lt-ltb c i low)))
    (λ (high : i ≤ c).
    let above : i ≤ c + 1 = omega arith in
    let back : c + 1 - 1 ≡ c = omega arith in
    (c + 1, (im, omega arith, λ e. omega arith), rw (le-ltb (c + 1) i above, back)))
    (cases_lt c i)

-- the pair with number q
pub pair_of : (m q : ℕ) → q < pairs_of m → (i : ℕ) × (j : ℕ) × (Pair m i j) × (pair_at m i j ≡ q)
pair_of m q l =
    let some : 0 < m - 1 = ⊎_elim (λ (s : 0 < m - 1). s) (λ (n : m - 1 ≤ 0). let z : m - 1 ≡ 0 = omega arith in let none : q < m * 0 = rw z at l in absurd (omega arith)) (cases_lt 0 (m - 1)) in
    let at = in_column m (q / (m - 1)) (q % (m - 1)) ((div-lt_iff_lt-mul some).1 l) (mod-lt q some) in
    (q / (m - 1), at.0, at.1, at.2 ∙ div-add-mod' q (m - 1))
