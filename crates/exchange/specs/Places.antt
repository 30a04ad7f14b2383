-- How the places of a pool stand for the waiting tasks of each pair. Assumes nothing.
use Rattle.std.specs.List.{copy_within}
use Rattle.std.specs.Prelude.{ℕ, zero, suc, ◌+◌, cond, List, [], ◌∷◌, ◌++◌, length, Some, None, Option, ◌==◌, slice_index}

-- the task at place k, if it is one of the pair with number q
abbrev pub task_at : ℕ → List ℕ → List ℕ → ℕ → List ℕ
task_at q pairs words k = cond (slice_index pairs k == q) (slice_index words k ∷ []) []

-- the tasks of the pair with number q in the n places from place k on
abbrev pub tasks_from : ℕ → List ℕ → List ℕ → ℕ → ℕ → List ℕ
tasks_from q pairs words k zero = []
tasks_from q pairs words k (suc n) = task_at q pairs words k ++ tasks_from q pairs words (suc k) n

-- the last of the first n places that holds a task of the pair with number q
abbrev pub newest_of : ℕ → List ℕ → ℕ → Option ℕ
newest_of q pairs zero = None
newest_of q pairs (suc k) = cond (slice_index pairs k == q) (Some k) (newest_of q pairs k)

-- place k is given up, the places after it, below n, move down by one, and the last of the n keeps what it had
abbrev pub closed_up : ℕ → ℕ → List ℕ → List ℕ
closed_up k n xs = copy_within xs (k + 1) n k

-- how many tasks wait on all pairs with numbers below n together
abbrev pub waiting_below : (ℕ → List ℕ) → ℕ → ℕ
waiting_below queue zero = 0
waiting_below queue (suc q) = waiting_below queue q + length (queue q)
