-- What a ring means as an exchange, and what its calls do to its memory. Assumes nothing.
use Rattle.std.specs.Prelude.{◌≡◌, ℕ, ◌+◌, ◌-◌, ◌*◌, cond, ◌&&◌, List, ◌∷◌, ◌++◌, length, drop, replicate, Some, None, Ok, Err, Option, Result, ◌≢◌, nat_le, slice_index, slice_set}
use Rattle.std.specs.Borrow.{GName, MutBor}
use Rattle.refusal.specs.declared.Refusal.{Refusal}
use Rattle.refusal.specs.declared.Refusal.TheVariants.{Range, Memory}
use Rattle.exchange.specs.declared.answer.Put.{Put}
use Rattle.exchange.specs.declared.answer.Put.TheVariants.{Joined, NoVacancy}
use Rattle.exchange.specs.declared.cursors.Cursors.{Cursors}
use Rattle.exchange.specs.declared.ring.Ring.{Ring}
use Rattle.exchange.specs.Pairs.{pairs_of, pair_at}
use Rattle.exchange.specs.Entries.{entries_of, tasks, at_start, cursors_of, tail_moved, head_moved}
use Rattle.exchange.specs.Calls.{Queues, Idle}

-- The numbers of a ring, what its words and cursors hold, and which lent words they are.
pub record RingState : Type 0 where
  pub served : ℕ
  pub length : ℕ
  pub words : List ℕ
  pub cursors : List Cursors
  pub lender : GName

-- the state of a ring
abbrev pub ring_of : Ring → RingState
ring_of r = record { served = r.served; length = r.length; words = r.words.now; cursors = r.cursors; lender = r.words.ghost_name }

-- the head and the tail of the pair with number q
abbrev pub pair_cursors : RingState → ℕ → Cursors
pair_cursors s q = cursors_of q s.cursors

-- the tasks of the pair with number q
abbrev pub ring_tasks : RingState → ℕ → List ℕ
ring_tasks s q = tasks (entries_of s.length q s.words) (pair_cursors s q).head

-- how many markers it serves
abbrev pub ring_serves : Ring → ℕ
ring_serves r = r.served

-- the tasks that wait on <i,j>
abbrev pub ring_waiting : Ring → Queues
ring_waiting r i j = ring_tasks (ring_of r) (pair_at r.served i j)

-- the length less what waits
abbrev pub ring_vacant : Ring → ℕ → ℕ → ℕ
ring_vacant r i j = r.length - length (ring_waiting r i j)

-- where the entries at the head and at the tail of the pair with number q stand among the words
abbrev pub head_entry : RingState → ℕ → ℕ
head_entry s q = q * s.length + (pair_cursors s q).head

abbrev pub tail_entry : RingState → ℕ → ℕ
tail_entry s q = q * s.length + (pair_cursors s q).tail

-- a ring as it is made over lent words: every entry vacant, the words behind them as they were; 240 heads and tails, for the pairs of 16 markers
abbrev pub new_ring : ℕ → ℕ → MutBor (List ℕ) → RingState
new_ring m len words =
    record { served = m; length = len; words = replicate (pairs_of m * len) 0 ++ drop (pairs_of m * len) words.now; cursors = replicate 240 at_start; lender = words.ghost_name }

-- the entry at the tail is filled, and the tail moves on
abbrev pub filled_at_tail : ℕ → ℕ → RingState → RingState
filled_at_tail q t s = record s { words = slice_set s.words (tail_entry s q) t; cursors = slice_set s.cursors q (tail_moved s.length (pair_cursors s q)) }

-- the entry at the head is vacated, and the head moves on
abbrev pub vacated_at_head : ℕ → RingState → RingState
vacated_at_head q s = record s { words = slice_set s.words (head_entry s q) 0; cursors = slice_set s.cursors q (head_moved s.length (pair_cursors s q)) }

-- what the making of a ring answers, over so many words: the markers and the length are tested, then the memory
abbrev pub ring_answer : ℕ → ℕ → ℕ → Result (Unit {0}) Refusal
ring_answer m len words =
    cond (nat_le 1 m && (nat_le m 16 && (nat_le 1 len && nat_le len 64))) (cond (nat_le (pairs_of m * len) words) (Ok tt) (Err Memory)) (Err Range)

-- a ring that is made holds no task, and a refused making leaves it as it was
abbrev pub RingMade : ℕ → ℕ → Ring → Ring → Result (Unit {0}) Refusal → Type 0
RingMade m len r r' (Ok done) = (ring_of r' ≡ new_ring m len r.words) × Idle ring_serves ring_waiting r'
RingMade m len r r' (Err e) = r' ≡ r

-- what a put and a take leave in words and cursors, by the answer, for the pair with number q
abbrev pub RingPut : ℕ → ℕ → RingState → RingState → Result Put Refusal → Type 0
RingPut q t s s' (Ok Joined) = (slice_index s.words (tail_entry s q) ≡ 0) × (s' ≡ filled_at_tail q t s)
RingPut q t s s' (Ok NoVacancy) = (slice_index s.words (tail_entry s q) ≢ 0) × (s' ≡ s)
RingPut q t s s' (Err e) = s' ≡ s

-- what a take leaves, by the answer, for the pair with number q: the oldest task is given
abbrev pub RingTake : ℕ → RingState → RingState → Result (Option ℕ) Refusal → Type 0
RingTake q s s' (Ok (Some t)) = (t ≡ slice_index s.words (head_entry s q)) × (s' ≡ vacated_at_head q s) × (ring_tasks s q ≡ t ∷ ring_tasks s' q)
RingTake q s s' (Ok None) = (slice_index s.words (head_entry s q) ≡ 0) × (s' ≡ s)
RingTake q s s' (Err e) = s' ≡ s
