-- Places in a circle: after the last place comes the first again. Assumes nothing.
use Rattle.std.specs.Prelude.{ℕ, ◌-◌, cond, List, ◌++◌, take, drop, nat_lt}

-- the place that i steps from place 0 lead to, round n places; for i below 2 × n
abbrev pub wrapped : ℕ → ℕ → ℕ
wrapped n i = cond (nat_lt i n) i (i - n)

-- what `held` places have from place `first` on, round the circle: the places stand twice, so that it may run past the last one
abbrev pub window : {X : Type 0} → ℕ → ℕ → List X → List X
window first held places = take held (drop first (places ++ places))
