-- What put, take and look promise, over what an exchange means before (x) and after (x'). Assumes nothing.
use Rattle.std.specs.Prelude.{◌≡◌, ℕ, ◌<◌, ◌≤◌, Bool, true, false, List, [], ◌∷◌, ◌++◌, length, Some, None, Ok, Err, codes, Option, Result, ◌≢◌}
use Rattle.refusal.specs.declared.Refusal.{Refusal}
use Rattle.refusal.specs.declared.Refusal.TheVariants.{Unknown}
use Rattle.exchange.specs.declared.answer.Put.{Put}
use Rattle.exchange.specs.declared.answer.Put.TheVariants.{Joined, NoVacancy}
use Rattle.exchange.specs.Pairs.{Pair}

-- the tasks that wait on each pair, in order of arrival
abbrev pub Queues : Type 0
Queues = ℕ → ℕ → List ℕ

-- what the answer of a put tells of the vacancies that its pair had, by case
abbrev pub Tells : Put → ℕ → Type 0
Tells Joined vacancies = 0 < vacancies
Tells NoVacancy vacancies = vacancies ≡ 0

-- the word of each answer
abbrev pub word_of : Put → List ℕ
word_of Joined = codes "joined"
word_of NoVacancy = codes "none"

-- the queue of every pair but <i,j> is as before
abbrev pub OthersKept : ℕ → ℕ → ℕ → Queues → Queues → Type 0
OthersKept m i j before after = (a b : ℕ) → Pair m a b → (a ≡ i → b ≢ j) → after a b ≡ before a b

-- t joins the end of <i,j>
pub record Joins (m i j t : ℕ) (before after : Queues) : Type 0 where
  pub here : after i j ≡ before i j ++ (t ∷ [])
  pub others : OthersKept m i j before after

-- one place of <i,j> is removed, and t stood there
pub record Leaves (m i j t : ℕ) (before after : Queues) : Type 0 where
  pub front : List ℕ
  pub back : List ℕ
  pub was : before i j ≡ front ++ (t ∷ back)
  pub left : after i j ≡ front ++ back
  pub others : OthersKept m i j before after

-- nothing waits anywhere
abbrev pub Idle : {X : Type 0} → (X → ℕ) → (X → Queues) → X → Type 0
Idle served waiting x = (i j : ℕ) → Pair (served x) i j → waiting x i j ≡ []

module _ {X : Type 0} (served : X → ℕ) (waiting : X → Queues) (vacant : X → ℕ → ℕ → ℕ) where
  -- a put of t joins its pair's queue, finds no vacancy, or is refused for want of a pair or a task
  abbrev pub PutSays : ℕ → ℕ → ℕ → X → X → Result Put Refusal → Type 0
  PutSays i j t x x' (Ok Joined) =
      Pair (served x) i j × (0 < t) × Tells Joined (vacant x i j) × (served x' ≡ served x) × Joins (served x) i j t (waiting x) (waiting x')
  PutSays i j t x x' (Ok NoVacancy) = Pair (served x) i j × (0 < t) × Tells NoVacancy (vacant x i j) × (x' ≡ x)
  PutSays i j t x x' (Err e) = (e ≡ Unknown) × (Pair (served x) i j → 0 < t → ⊥) × (x' ≡ x)

  -- a take gives and removes a task that waits, finds that none does, or is refused for want of a pair
  abbrev pub TakeSays : ℕ → ℕ → X → X → Result (Option ℕ) Refusal → Type 0
  TakeSays i j x x' (Ok (Some t)) = Pair (served x) i j × (served x' ≡ served x) × Leaves (served x) i j t (waiting x) (waiting x')
  TakeSays i j x x' (Ok None) = Pair (served x) i j × (waiting x i j ≡ []) × (x' ≡ x)
  TakeSays i j x x' (Err e) = (e ≡ Unknown) × (Pair (served x) i j → ⊥) × (x' ≡ x)

  -- lists and vacancies stay
  abbrev pub Stays : X → X → Type 0
  Stays x x' = (served x' ≡ served x) × ((a b : ℕ) → Pair (served x) a b → (waiting x' a b ≡ waiting x a b) × (vacant x' a b ≡ vacant x a b))

  -- a look tells whether nothing waits, and changes no list, or is refused for want of a pair
  abbrev pub LookSays : ℕ → ℕ → X → X → Result Bool Refusal → Type 0
  LookSays i j x x' (Ok true) = Pair (served x) i j × (waiting x i j ≡ []) × Stays x x'
  LookSays i j x x' (Ok false) = Pair (served x) i j × (waiting x i j ≢ []) × Stays x x'
  LookSays i j x x' (Err e) = (e ≡ Unknown) × (Pair (served x) i j → ⊥) × (x' ≡ x)

  -- what each kind of exchange keeps, where `most` is the most that one pair holds
  pub record Laws (most : ℕ) : Type 0 where
    pub serves_one : (x : X) → 1 ≤ served x
    pub serves_at_most_16 : (x : X) → served x ≤ 16
    pub most_at_least_1 : 1 ≤ most
    pub most_at_most_4096 : most ≤ 4096
    -- no list is longer than the kind's constant
    pub lists_at_most : (x : X) (i j : ℕ) → Pair (served x) i j → length (waiting x i j) ≤ most
    -- while nothing waits anywhere, each pair has a vacancy
    pub vacant_when_idle : (x : X) → Idle served waiting x → (i j : ℕ) → Pair (served x) i j → 0 < vacant x i j
