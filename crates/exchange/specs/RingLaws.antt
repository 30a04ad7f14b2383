-- The laws of an exchange, of the ring. Assumes nothing.
use Rattle.std.specs.Prelude.{ℕ, zero, suc, ◌≤◌, List, [], ◌∷◌, length}
use Rattle.std.proofs.Common.{ap, arith, length-append, length-take, length-drop}
use Rattle.exchange.specs.Pairs.{pair_at}
use Rattle.exchange.specs.Entries.{entries_of, turned, filled, tasks, cursors_of}
use Rattle.exchange.specs.Calls.{Laws}
use Rattle.exchange.specs.RingMeaning.{ring_serves, ring_waiting, ring_vacant}

-- no more tasks than entries
filled_short : (xs : List ℕ) → length (filled xs) ≤ length xs
filled_short [] = omega arith
filled_short (zero ∷ xs) = omega (arith, filled_short xs)
filled_short (suc n ∷ xs) = omega (arith, filled_short xs)

-- a pair has at most len tasks in its len entries
tasks_short : (len q head : ℕ) (words : List ℕ) → length (tasks (entries_of len q words) head) ≤ len
unfolding tasks
tasks_short len q head words =
    let whole : length (turned (entries_of len q words) head) ≤ len = simp (length-append, length-drop, length-take) (omega arith) in
    omega (arith, filled_short (turned (entries_of len q words) head))

pub ring_laws : Laws ring_serves ring_waiting ring_vacant 64
ring_laws = record {
  serves_one = λ r. r.someone;
  serves_at_most_16 = λ r. r.sixteen;
  most_at_least_1 = omega arith;
  most_at_most_4096 = omega arith;
  lists_at_most = λ r i j p. omega (arith, tasks_short r.length (pair_at r.served i j) (cursors_of (pair_at r.served i j) r.cursors).head r.words.now, r.bounded);
  vacant_when_idle = λ r idle i j p. let e = ap length (idle i j p) in omega (arith, e, r.holds);
}
