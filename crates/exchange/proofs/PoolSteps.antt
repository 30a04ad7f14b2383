-- A put and a take of a pool, over all pairs. Assumes nothing.
use Rattle.std.proofs.Common.{◌≡◌, ℕ, zero, suc, ◌+◌, ◌-◌, ◌<◌, ◌≤◌, List, [], ◌∷◌, ◌++◌, length, get_or, set, Some, None, Ok, Option, is_none, sym, refl, ap, ◌∙◌, subst, ⊎_elim, zero-add, arith, length-append}
use Rattle.std.proofs.lemmas.List.{append-nil, get_or-set_same, get_or-set_other}
use Rattle.std.proofs.lemmas.Bool.{cases_eq}
use Rattle.exchange.specs.declared.pool.Pool.{Pool}
use Rattle.exchange.specs.Pairs.{Pair, pairs_of, pair_at, Numbered}
use Rattle.exchange.specs.Numbers.{pair_of}
use Rattle.exchange.specs.Places.{task_at, tasks_from, newest_of, closed_up, waiting_below}
use Rattle.exchange.specs.Calls.{Joins, Leaves, LookSays}
use Rattle.exchange.specs.PoolMeaning.{PoolState, pool_of, pool_tasks, all_waiting, added_to, removed_from, Given, pool_serves, pool_waiting, pool_vacant}
use Rattle.exchange.proofs.Moves.{closed_low, closed_down}
use Rattle.exchange.proofs.Newest.{nothing_newest, tasks_append, tasks_more, none_at, task_at_here, newest_last, tasks_same}
use Rattle.exchange.proofs.Pairings.{number_same}

-- a pair needs two markers
pub two_serve : (m q : ℕ) → q < pairs_of m → 2 ≤ m
two_serve m q l = let of = pair_of m q l in omega (arith, of.2.0, of.2.1, of.2.2)

below_append : (f g : ℕ → List ℕ) (m : ℕ) → waiting_below (λ q. f q ++ g q) m ≡ waiting_below f m + waiting_below g m
below_append f g zero = refl
below_append f g (suc q) = omega (arith, below_append f g q, length-append (f q) (g q))

-- a place counts for its own pair, and for no other
one_below : (pairs words : List ℕ) (k m : ℕ) → (m ≤ get_or pairs k 0 → waiting_below (λ q. task_at q pairs words k) m ≡ 0) × (get_or pairs k 0 < m → waiting_below (λ q. task_at q pairs words k) m ≡ 1)
one_below pairs words k zero = (λ l. refl, λ l. absurd (omega arith))
one_below pairs words k (suc m) =
    let h = one_below pairs words k m in
    ⊎_elim
    (λ (same : get_or pairs k 0 ≡ m). (λ l. absurd (omega arith), λ l. omega (arith, h.0 (omega arith), ap length (task_at_here m pairs words k same))))
    (λ (ne : get_or pairs k 0 ≡ m → ⊥).
    let none = ap length (none_at m pairs words k ne) in
    (λ l. omega (arith, h.0 (omega arith), none), λ l. omega (arith, h.1 (omega (arith, ne)), none)))
    (cases_eq (get_or pairs k 0) m)

-- every place that holds a task counts once
pub all_count : (pairs words : List ℕ) (m k n : ℕ) → ((x : ℕ) → x < n → get_or pairs (k + x) 0 < m) → waiting_below (λ q. tasks_from q pairs words k n) m ≡ n
all_count pairs words m k zero h = nothing m
  where
    nothing : (m : ℕ) → waiting_below (λ q. []) m ≡ 0
    nothing zero = refl
    nothing (suc m) = omega (arith, nothing m)
all_count pairs words m k (suc n) h =
    let first = (one_below pairs words k m).1 (subst (λ a. get_or pairs a 0 < m) (omega arith) (h 0 (omega arith))) in
    let rest = all_count pairs words m (suc k) n (λ x l. subst (λ a. get_or pairs a 0 < m) (omega arith) (h (x + 1) (omega arith))) in
    below_append (λ q. task_at q pairs words k) (λ q. tasks_from q pairs words (suc k) n) m ∙ omega (arith, first, rest)

module _ (s : PoolState) (known : (k : ℕ) → k < s.held → get_or s.pairs k 0 < pairs_of s.served) where
  -- the places that hold tasks are all that wait
  pub held_waiting : all_waiting s ≡ s.held
  held_waiting = all_count s.pairs s.words (pairs_of s.served) 0 s.held (λ x l. rw (zero-add x) (known x l))

module _ (s : PoolState) (q t : ℕ) (roomP : s.held < length s.pairs) (roomW : s.held < length s.words) where
  added : (a : ℕ) → pool_tasks (added_to q t s) a ≡ pool_tasks s a ++ task_at a (set s.pairs s.held q) (set s.words s.held t) s.held
  added a =
      let e : s.held + 1 ≡ suc s.held = omega arith in
      let p = set s.pairs s.held q in
      let w = set s.words s.held t in
      let old = tasks_same a s.pairs s.words p w 0 0 s.held
      (λ x l. get_or-set_other s.pairs s.held (0 + x) q 0 (λ z. omega arith)) (λ x l. get_or-set_other s.words s.held (0 + x) t 0 (λ z. omega arith)) in
      ap (tasks_from a p w 0) e ∙ tasks_more a p w 0 s.held ∙ rw (zero-add s.held, old) refl

  pub added_here : pool_tasks (added_to q t s) q ≡ pool_tasks s q ++ (t ∷ [])
  added_here =
      added q ∙ ap (λ xs. pool_tasks s q ++ xs)
      (task_at_here q (set s.pairs s.held q) (set s.words s.held t) s.held (get_or-set_same s.pairs s.held q 0 roomP)
      ∙ ap (λ x. x ∷ []) (get_or-set_same s.words s.held t 0 roomW))

  pub added_there : (a : ℕ) → (a ≡ q → ⊥) → pool_tasks (added_to q t s) a ≡ pool_tasks s a
  added_there a ne =
      added a ∙ ap (λ xs. pool_tasks s a ++ xs)
      (none_at a (set s.pairs s.held q) (set s.words s.held t) s.held (λ e. ne (sym e ∙ get_or-set_same s.pairs s.held q 0 roomP)))
      ∙ append-nil (pool_tasks s a)

module _ (s : PoolState) (q k : ℕ) (found : newest_of q s.pairs s.held ≡ Some k) (roomP : s.held ≤ length s.pairs) (roomW : s.held ≤ length s.words) where
  last : (k < s.held) × (get_or s.pairs k 0 ≡ q) × ((d : ℕ) → s.held ≡ k + 1 + d → tasks_from q s.pairs s.words (k + 1) d ≡ [])
  last = newest_last q s.pairs s.words s.held k found

  -- the tasks before and after place k
  split : (a : ℕ) → pool_tasks s a ≡ tasks_from a s.pairs s.words 0 k ++ (task_at a s.pairs s.words k ++ tasks_from a s.pairs s.words (k + 1) (s.held - (k + 1)))
  split a =
      let n : s.held ≡ k + suc (s.held - (k + 1)) = omega (arith, last.0) in
      let up : suc (0 + k) ≡ k + 1 = omega arith in
      ap (tasks_from a s.pairs s.words 0) n ∙ tasks_append a s.pairs s.words 0 k (suc (s.held - (k + 1))) ∙ rw (up, zero-add k) refl

  removed : (a : ℕ) → pool_tasks (removed_from k s) a ≡ tasks_from a s.pairs s.words 0 k ++ tasks_from a s.pairs s.words (k + 1) (s.held - (k + 1))
  removed a =
      let d = s.held - (k + 1) in
      let n : s.held - 1 ≡ k + (s.held - (k + 1)) = omega (arith, last.0) in
      let p = closed_up k s.held s.pairs in
      let w = closed_up k s.held s.words in
      let low = tasks_same a s.pairs s.words p w 0 0 k
      (λ x l. closed_low s.pairs k s.held last.0 roomP (0 + x) (omega arith)) (λ x l. closed_low s.words k s.held last.0 roomW (0 + x) (omega arith)) in
      let high = tasks_same a s.pairs s.words p w (0 + k) (k + 1) (s.held - (k + 1))
      (λ x l. closed_down s.pairs k s.held last.0 roomP (0 + k + x) (omega arith) (omega (arith, last.0)) ∙ ap (λ z. get_or s.pairs z 0) (omega arith))
      (λ x l. closed_down s.words k s.held last.0 roomW (0 + k + x) (omega arith) (omega (arith, last.0)) ∙ ap (λ z. get_or s.words z 0) (omega arith)) in
      ap (tasks_from a p w 0) n ∙ tasks_append a p w 0 k (s.held - (k + 1)) ∙ rw (low, high) refl

  here : pool_tasks (removed_from k s) q ≡ tasks_from q s.pairs s.words 0 k
  here =
      removed q ∙ ap (λ xs. tasks_from q s.pairs s.words 0 k ++ xs) (last.2 (s.held - (k + 1)) (omega (arith, last.0)))
      ∙ append-nil (tasks_from q s.pairs s.words 0 k)

  -- the newest task of the pair is gone
  pub removed_newest : pool_tasks s q ≡ pool_tasks (removed_from k s) q ++ (get_or s.words k 0 ∷ [])
  removed_newest =
      let none = last.2 (s.held - (k + 1)) (omega (arith, last.0)) in
      split q ∙ rw (task_at_here q s.pairs s.words k last.1, none, here) refl

  pub removed_there : (a : ℕ) → (a ≡ q → ⊥) → pool_tasks (removed_from k s) a ≡ pool_tasks s a
  removed_there a ne = removed a ∙ sym (split a ∙ rw (none_at a s.pairs s.words k (λ e. ne (sym e ∙ last.1))) refl)

  pub taken : (s' : PoolState) → s' ≡ removed_from k s → Given q k (get_or s.words k 0) s s'
  taken s' e = record { place = found; task = refl; after = e; newest = rw e removed_newest }

  pub some_wait : pool_tasks s q ≡ [] → ⊥
  some_wait none =
      let e = ap length (sym removed_newest ∙ none) in
      omega (arith, e, length-append (pool_tasks (removed_from k s) q) (get_or s.words k 0 ∷ []))

module _ (s : PoolState) (i j : ℕ) (p : Pair s.served i j) where
  apart : (a b : ℕ) → Pair s.served a b → (a ≡ i → b ≡ j → ⊥) → pair_at s.served a b ≡ pair_at s.served i j → ⊥
  apart a b r ne e = let same = number_same s.served i j a b p r e in ne same.0 same.1

  -- a put over all pairs
  pub put_joins : (t : ℕ) → s.held < length s.pairs → s.held < length s.words → (s' : PoolState) → s' ≡ added_to (pair_at s.served i j) t s
      → Joins s.served i j t (λ a b. pool_tasks s (pair_at s.served a b)) (λ a b. pool_tasks s' (pair_at s'.served a b))
  put_joins t roomP roomW s' e =
      subst (λ z. Joins s.served i j t (λ a b. pool_tasks s (pair_at s.served a b)) (λ a b. pool_tasks z (pair_at z.served a b))) (sym e) (record {
        here = added_here s (pair_at s.served i j) t roomP roomW;
        others = λ a b r ne. added_there s (pair_at s.served i j) t roomP roomW (pair_at s.served a b) (apart a b r ne);
      })

  -- a take over all pairs
  pub take_leaves : (k : ℕ) → newest_of (pair_at s.served i j) s.pairs s.held ≡ Some k → s.held ≤ length s.pairs → s.held ≤ length s.words
      → (s' : PoolState) → s' ≡ removed_from k s
      → Leaves s.served i j (get_or s.words k 0) (λ a b. pool_tasks s (pair_at s.served a b)) (λ a b. pool_tasks s' (pair_at s'.served a b))
  take_leaves k found roomP roomW s' e =
      subst (λ z. Leaves s.served i j (get_or s.words k 0) (λ a b. pool_tasks s (pair_at s.served a b)) (λ a b. pool_tasks z (pair_at z.served a b))) (sym e) (record {
        front = pool_tasks (removed_from k s) (pair_at s.served i j);
        back = [];
        was = removed_newest s (pair_at s.served i j) k found roomP roomW;
        left = sym (append-nil _);
        others = λ a b r ne. removed_there s (pair_at s.served i j) k found roomP roomW (pair_at s.served a b) (apart a b r ne);
      })

module _ (p : Pool) (i j q : ℕ) (n : Numbered p.served i j (Ok q)) (roomP : p.held ≤ length p.pairs) where
  -- a search finds a task exactly where one waits
  pub look_meaning : (o : Option ℕ) → o ≡ newest_of q p.pairs p.held → LookSays pool_serves pool_waiting pool_vacant i j p p (Ok (is_none o))
  look_meaning (Some k) e = (n.0, rw (← n.1) (some_wait (pool_of p) q k (sym e) roomP p.lent), (refl, λ a b r. (refl, refl)))
  look_meaning None e = (n.0, rw (← n.1) (nothing_newest q p.pairs p.words.now p.held (sym e)), (refl, λ a b r. (refl, refl)))
