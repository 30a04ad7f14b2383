-- What a pool means as an exchange, and what its calls do to its memory. Assumes nothing.
use Rattle.std.specs.Prelude.{◌≡◌, ℕ, ◌+◌, ◌-◌, ◌<◌, cond, ◌&&◌, List, [], ◌∷◌, ◌++◌, replicate, Some, None, Ok, Err, Option, Result, nat_le, slice_index, slice_set}
use Rattle.std.specs.Borrow.{GName, MutBor}
use Rattle.refusal.specs.declared.Refusal.{Refusal}
use Rattle.refusal.specs.declared.Refusal.TheVariants.{Range, Memory}
use Rattle.exchange.specs.declared.answer.Put.{Put}
use Rattle.exchange.specs.declared.answer.Put.TheVariants.{Joined, NoVacancy}
use Rattle.exchange.specs.declared.pool.Pool.{Pool}
use Rattle.exchange.specs.Pairs.{pairs_of, pair_at}
use Rattle.exchange.specs.Places.{tasks_from, newest_of, closed_up, waiting_below}
use Rattle.exchange.specs.Calls.{Queues, Idle}

-- The numbers of a pool, what its words and pairs hold, those behind the held places too, and which lent words they are.
pub record PoolState : Type 0 where
  pub served : ℕ
  pub held : ℕ
  pub words : List ℕ
  pub pairs : List ℕ
  pub lender : GName

-- the state of a pool
abbrev pub pool_of : Pool → PoolState
pool_of p = record { served = p.served; held = p.held; words = p.words.now; pairs = p.pairs; lender = p.words.ghost_name }

-- the tasks of the pair with number q
abbrev pub pool_tasks : PoolState → ℕ → List ℕ
pool_tasks s q = tasks_from q s.pairs s.words 0 s.held

-- how many tasks wait on all pairs together
abbrev pub all_waiting : PoolState → ℕ
all_waiting s = waiting_below (pool_tasks s) (pairs_of s.served)

-- how many markers it serves
abbrev pub pool_serves : Pool → ℕ
pool_serves p = p.served

-- the tasks that wait on <i,j>
abbrev pub pool_waiting : Pool → Queues
pool_waiting p i j = pool_tasks (pool_of p) (pair_at p.served i j)

-- 1,024 less all that wait, whatever the pair
abbrev pub pool_vacant : Pool → ℕ → ℕ → ℕ
pool_vacant p i j = 1024 - all_waiting (pool_of p)

-- a pool over any words that serves one marker
abbrev pub pool_over : MutBor (List ℕ) → PoolState
pool_over words = record { served = 1; held = 0; words = words.now; pairs = replicate 1024 0; lender = words.ghost_name }

-- a pool as it is made: no place holds a task, and its memory is as it was
abbrev pub new_pool : ℕ → PoolState → PoolState
new_pool m s = record s { served = m; held = 0 }

-- the task goes to the first place that holds none
abbrev pub added_to : ℕ → ℕ → PoolState → PoolState
added_to q t s = record s { held = s.held + 1; words = slice_set s.words s.held t; pairs = slice_set s.pairs s.held q }

-- place k is given up
abbrev pub removed_from : ℕ → PoolState → PoolState
removed_from k s = record s { held = s.held - 1; words = closed_up k s.held s.words; pairs = closed_up k s.held s.pairs }

-- what the making of a pool answers, over so many words: the markers are tested, then the memory
abbrev pub pool_answer : ℕ → ℕ → Result (Unit {0}) Refusal
pool_answer m words = cond (nat_le 1 m && nat_le m 16) (cond (nat_le 1024 words) (Ok tt) (Err Memory)) (Err Range)

-- a pool that is made holds no task, and a refused making leaves it as it was
abbrev pub PoolMade : ℕ → Pool → Pool → Result (Unit {0}) Refusal → Type 0
PoolMade m p p' (Ok done) = (pool_of p' ≡ new_pool m (pool_of p)) × Idle pool_serves pool_waiting p'
PoolMade m p p' (Err e) = p' ≡ p

-- what a put and a take leave in words, pair numbers and held places, by the answer, for the pair with number q; the held places are all that wait
abbrev pub PoolPut : ℕ → ℕ → PoolState → PoolState → Result Put Refusal → Type 0
PoolPut q t s s' (Ok Joined) = (s.held < 1024) × (s.held ≡ all_waiting s) × (s' ≡ added_to q t s)
PoolPut q t s s' (Ok NoVacancy) = (s.held ≡ 1024) × (s.held ≡ all_waiting s) × (s' ≡ s)
PoolPut q t s s' (Err e) = s' ≡ s

-- the newest task of the pair is given, and its place, k, given up
pub record Given (q k t : ℕ) (s s' : PoolState) : Type 0 where
  pub place : newest_of q s.pairs s.held ≡ Some k
  pub task : t ≡ slice_index s.words k
  pub after : s' ≡ removed_from k s
  pub newest : pool_tasks s q ≡ pool_tasks s' q ++ (t ∷ [])

-- what a take leaves, by the answer, for the pair with number q
abbrev pub PoolTake : ℕ → PoolState → PoolState → Result (Option ℕ) Refusal → Type 0
PoolTake q s s' (Ok (Some t)) = (k : ℕ) × Given q k t s s'
PoolTake q s s' (Ok None) = (newest_of q s.pairs s.held ≡ None) × (s' ≡ s)
PoolTake q s s' (Err e) = s' ≡ s
