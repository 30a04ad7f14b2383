-- How the entries of a ring stand for the waiting tasks of a pair, and what a put and a take do to them. Assumes nothing.
use Rattle.std.specs.Prelude.{◌≡◌, ℕ, zero, suc, ◌+◌, ◌-◌, ◌*◌, ◌%◌, ◌<◌, ◌≤◌, List, [], ◌∷◌, ◌++◌, length, take, drop, replicate, Some, None, Option, ◌≢◌, slice_index, slice_index_or, slice_range, slice_set}
use Rattle.exchange.specs.declared.answer.Put.{Put}
use Rattle.exchange.specs.declared.answer.Put.TheVariants.{Joined, NoVacancy}
use Rattle.exchange.specs.declared.cursors.Cursors.{Cursors}

-- the entries of the pair with number q, where each pair has len entries
abbrev pub entries_of : ℕ → ℕ → List ℕ → List ℕ
entries_of len q words = slice_range words (q * len) (q * len + len)

-- the entries from the head on, the first coming after the last
abbrev pub turned : List ℕ → ℕ → List ℕ
turned entries head = drop head entries ++ take head entries

-- 0 marks a vacant entry
abbrev pub filled : List ℕ → List ℕ
filled [] = []
filled (zero ∷ xs) = filled xs
filled (suc n ∷ xs) = suc n ∷ filled xs

-- the waiting tasks, in order of arrival
unfoldable pub tasks : List ℕ → ℕ → List ℕ
tasks entries head = filled (turned entries head)

-- the tail is the first entry after the tasks
abbrev pub TailAfter : ℕ → List ℕ → ℕ → ℕ → Type 0
TailAfter len entries head tail = tail ≡ (head + length (tasks entries head)) % len

-- the tasks stand together from the head on, and the other entries are vacant
abbrev pub Together : ℕ → List ℕ → ℕ → Type 0
Together len entries head = turned entries head ≡ tasks entries head ++ replicate (len - length (tasks entries head)) 0

-- where a ring with vacant entries begins
abbrev pub at_start : Cursors
at_start = record { head = 0; tail = 0 }

-- the head and the tail of the pair with number q
abbrev pub cursors_of : ℕ → List Cursors → Cursors
cursors_of q cursors = slice_index_or cursors q at_start

-- what the ring of one pair keeps, of its cursors and its entries
pub record IsRing (c : Cursors) (entries : List ℕ) : Type 0 where
  pub within : c.head < length entries
  pub after : TailAfter (length entries) entries c.head c.tail
  pub stand : Together (length entries) entries c.head

-- the entry after, round past the last
abbrev pub following : ℕ → ℕ → ℕ
following len at = (at + 1) % len

-- the tail moves on by one entry
abbrev pub tail_moved : ℕ → Cursors → Cursors
tail_moved len c = record { head = c.head; tail = following len c.tail }

-- the head moves on by one entry
abbrev pub head_moved : ℕ → Cursors → Cursors
head_moved len c = record { head = following len c.head; tail = c.tail }

-- what a put and a take do to the ring of one pair, its cursors (c, then c') and its entries (es, then es')
module _ (c c' : Cursors) (es es' : List ℕ) where
  -- the vacant entry at the tail is filled, and the tail moves on
  pub record FillsTail (t : ℕ) : Type 0 where
    pub vacant : slice_index es c.tail ≡ 0
    pub room : length (tasks es c.head) < length es
    pub entries : es' ≡ slice_set es c.tail t
    pub cursors : c' ≡ tail_moved (length es) c
    pub joins : tasks es' c'.head ≡ tasks es c.head ++ (t ∷ [])

  -- the filled entry at the head is vacated, and the head moves on
  pub record VacatesHead (t : ℕ) : Type 0 where
    pub task : t ≡ slice_index es c.head
    pub entries : es' ≡ slice_set es c.head 0
    pub cursors : c' ≡ head_moved (length es) c
    pub leaves : tasks es c.head ≡ t ∷ tasks es' c'.head

  -- nothing is changed
  abbrev pub Unchanged : Type 0
  Unchanged = (c' ≡ c) × (es' ≡ es)

  -- what a put of t leaves, by its answer: refused only where every entry holds a task
  abbrev pub PairPut : ℕ → Put → Type 0
  PairPut t Joined = FillsTail t
  PairPut t NoVacancy = (slice_index es c.tail ≢ 0) × (length es ≤ length (tasks es c.head)) × Unchanged

  -- what a take leaves, by its answer: nothing is given only where nothing waits
  abbrev pub PairTake : Option ℕ → Type 0
  PairTake (Some t) = VacatesHead t
  PairTake None = (slice_index es c.head ≡ 0) × (tasks es c.head ≡ []) × Unchanged
