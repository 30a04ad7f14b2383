-- Places that move down by one. Assumes nothing.
use Rattle.std.proofs.Common.{◌≡◌, ℕ, ◌+◌, ◌<◌, ◌≤◌, List, length, get_or, arith}
use Rattle.std.proofs.lemmas.List.{places}
use Rattle.exchange.specs.Places.{closed_up}

module _ (xs : List ℕ) (k n : ℕ) (kn : k < n) (held : n ≤ length xs) where
  pub closed_low : (x : ℕ) → x < k → get_or (closed_up k n xs) x 0 ≡ get_or xs x 0
  closed_low x l = grind (arith, places)

  pub closed_down : (x : ℕ) → k ≤ x → x + 1 < n → get_or (closed_up k n xs) x 0 ≡ get_or xs (x + 1) 0
  closed_down x a b = grind (arith, places)
