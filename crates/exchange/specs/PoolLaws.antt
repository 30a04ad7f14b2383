-- The laws of an exchange, of the pool. Assumes nothing.
use Rattle.std.specs.Prelude.{◌≡◌, ℕ, zero, suc, ◌<◌, ◌≤◌, Bool, true, false, cond, List, [], ◌∷◌, length, ◌==◌, slice_index, refl}
use Rattle.std.proofs.Common.{ap, subst, arith, length-append}
use Rattle.exchange.specs.declared.pool.Pool.{Pool}
use Rattle.exchange.specs.Pairs.{Pair, pairs_of, pair_at}
use Rattle.exchange.specs.Numbers.{pair_of}
use Rattle.exchange.specs.Places.{task_at, tasks_from, waiting_below}
use Rattle.exchange.specs.Calls.{Laws}
use Rattle.exchange.specs.PoolMeaning.{pool_serves, pool_waiting, pool_vacant, pool_of, pool_tasks, all_waiting}

-- one place holds at most one task
task_short : (q : ℕ) (pairs words : List ℕ) (k : ℕ) → length (task_at q pairs words k) ≤ 1
task_short q pairs words k = at_most (slice_index pairs k == q)
  where
    at_most : (b : Bool) → length (cond b (slice_index words k ∷ []) []) ≤ 1
    at_most true = omega arith
    at_most false = omega arith

-- n places hold at most n tasks of a pair
tasks_short : (q : ℕ) (pairs words : List ℕ) (k n : ℕ) → length (tasks_from q pairs words k n) ≤ n
tasks_short q pairs words k zero = omega arith
tasks_short q pairs words k (suc n) =
    omega (arith, length-append (task_at q pairs words k) (tasks_from q pairs words (suc k) n), task_short q pairs words k, tasks_short q pairs words (suc k) n)

-- where no queue below n holds a task, none waits there
none_below : (queue : ℕ → List ℕ) (n : ℕ) → ((q : ℕ) → q < n → queue q ≡ []) → waiting_below queue n ≡ 0
none_below queue zero h = refl
none_below queue (suc q) h = omega (arith, none_below queue q (λ p l. h p (omega arith)), ap length (h q (omega arith)))

-- where nothing waits on any pair, nothing waits on any number
none_wait : (p : Pool) → ((i j : ℕ) → Pair p.served i j → pool_waiting p i j ≡ []) → all_waiting (pool_of p) ≡ 0
none_wait p idle = none_below (pool_tasks (pool_of p)) (pairs_of p.served) (λ q l.
    let of = pair_of p.served q l in
    subst (λ a. pool_tasks (pool_of p) a ≡ []) of.3 (idle of.0 of.1 of.2))

pub pool_laws : Laws pool_serves pool_waiting pool_vacant 1024
pool_laws = record {
  serves_one = λ p. p.someone;
  serves_at_most_16 = λ p. p.sixteen;
  most_at_least_1 = omega arith;
  most_at_most_4096 = omega arith;
  lists_at_most = λ p i j _. omega (arith, tasks_short (pair_at p.served i j) p.pairs p.words.now 0 p.held, p.bounded);
  vacant_when_idle = λ p idle i j _. omega (arith, none_wait p idle);
}
