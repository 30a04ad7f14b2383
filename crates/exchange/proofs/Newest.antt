-- The newest task of a pair in a pool. Assumes nothing.
use Rattle.std.proofs.Common.{◌≡◌, ℕ, zero, suc, ◌+◌, ◌<◌, eqb, List, [], ◌∷◌, ◌++◌, get_or, Some, None, Option, sym, refl, ap, ◌∙◌, ⊎_elim, append_assoc, add-zero, zero-add, arith}
use Rattle.std.specs.Prelude.{IfSome, IfNone}
use Rattle.std.proofs.lemmas.Bool.{eq-eqb, ne_eqb, cases_eq, cond-true, cond-false}
use Rattle.std.proofs.lemmas.List.{append-nil}
use Rattle.exchange.specs.Places.{task_at, tasks_from, newest_of}

module _ (q : ℕ) (pairs : List ℕ) where
  -- what a search from behind finds
  pub newest_is : (n : ℕ) (r : Option ℕ)
      → IfSome r (λ k. k < n) → IfSome r (λ k. get_or pairs k 0 ≡ q) → IfSome r (λ k. (j : ℕ) → k < j → j < n → get_or pairs j 0 ≡ q → ⊥)
      → IfNone r ((j : ℕ) → j < n → get_or pairs j 0 ≡ q → ⊥) → r ≡ newest_of q pairs n
  newest_is zero None held found last none = refl
  newest_is zero (Some k) held found last none = absurd (omega (arith, held))
  newest_is (suc n) None held found last none =
      newest_is n None tt tt tt (λ j l. none j (omega arith)) ∙ sym (cond-false (eqb (get_or pairs n 0) q) (Some n) (newest_of q pairs n) (ne_eqb (get_or pairs n 0) q (none n (omega arith))))
  newest_is (suc n) (Some k) held found last none =
      ⊎_elim
      (λ (e : k ≡ n). ap Some e ∙ sym (cond-true (eqb (get_or pairs n 0) q) (Some n) (newest_of q pairs n) (eq-eqb (get_or pairs n 0) q (rw e at found))))
      (λ (ne : k ≡ n → ⊥).
      let l : k < n = omega (arith, ne, held) in
      newest_is n (Some k) l found (λ j a b. last j a (omega arith)) tt
      ∙ sym (cond-false (eqb (get_or pairs n 0) q) (Some n) (newest_of q pairs n) (ne_eqb (get_or pairs n 0) q (last n l (omega arith)))))
      (cases_eq k n)

module _ (q : ℕ) (pairs words : List ℕ) where
  pub tasks_append : (k n m : ℕ) → tasks_from q pairs words k (n + m) ≡ tasks_from q pairs words k n ++ tasks_from q pairs words (k + n) m
  tasks_append k zero m = rw (zero-add m, add-zero k) refl
  tasks_append k (suc n) m =
      let e : suc k + n ≡ k + suc n = omega arith in
      let a : suc n + m ≡ suc (n + m) = omega arith in
      ap (tasks_from q pairs words k) a
      ∙ ap (λ xs. task_at q pairs words k ++ xs) (tasks_append (suc k) n m ∙ ap (λ x. tasks_from q pairs words (suc k) n ++ tasks_from q pairs words x m) e)
      ∙ sym (append_assoc (task_at q pairs words k) (tasks_from q pairs words (suc k) n) (tasks_from q pairs words (k + suc n) m))

  -- one place more
  pub tasks_more : (k n : ℕ) → tasks_from q pairs words k (suc n) ≡ tasks_from q pairs words k n ++ task_at q pairs words (k + n)
  tasks_more k n =
      let a : suc n ≡ n + 1 = omega arith in
      ap (tasks_from q pairs words k) a ∙ tasks_append k n 1 ∙ ap (λ xs. tasks_from q pairs words k n ++ xs) (append-nil (task_at q pairs words (k + n)))

  -- a place that holds a task of another pair
  pub none_at : (k : ℕ) → (get_or pairs k 0 ≡ q → ⊥) → task_at q pairs words k ≡ []
  none_at k ne = cond-false (eqb (get_or pairs k 0) q) (get_or words k 0 ∷ []) [] (ne_eqb (get_or pairs k 0) q ne)

  pub task_at_here : (k : ℕ) → get_or pairs k 0 ≡ q → task_at q pairs words k ≡ get_or words k 0 ∷ []
  task_at_here k e = cond-true (eqb (get_or pairs k 0) q) (get_or words k 0 ∷ []) [] (eq-eqb (get_or pairs k 0) q e)

  -- one place more, of another pair
  none_more : (k n : ℕ) → (get_or pairs (k + n) 0 ≡ q → ⊥) → tasks_from q pairs words k n ≡ [] → tasks_from q pairs words k (suc n) ≡ []
  none_more k n ne none = tasks_more k n ∙ rw (none, none_at (k + n) ne) refl

  pub nothing_newest : (n : ℕ) → newest_of q pairs n ≡ None → tasks_from q pairs words 0 n ≡ []
  nothing_newest zero e = refl
  nothing_newest (suc n) e =
      ⊎_elim
      (λ (same : get_or pairs n 0 ≡ q). let found = cond-true (eqb (get_or pairs n 0) q) (Some n) (newest_of q pairs n) (eq-eqb (get_or pairs n 0) q same) in let z : ◌≡◌ {A = ℕ} 0 1 = cc in absurd (omega arith))
      (λ (ne : get_or pairs n 0 ≡ q → ⊥).
      let below = cond-false (eqb (get_or pairs n 0) q) (Some n) (newest_of q pairs n) (ne_eqb (get_or pairs n 0) q ne) in
      none_more 0 n (rw (zero-add n) ne) (nothing_newest n (sym below ∙ e)))
      (cases_eq (get_or pairs n 0) q)

  -- the newest is a place of the pair, and there is none behind it
  pub newest_last : (n k : ℕ) → newest_of q pairs n ≡ Some k → (k < n) × (get_or pairs k 0 ≡ q) × ((d : ℕ) → n ≡ k + 1 + d → tasks_from q pairs words (k + 1) d ≡ [])
  newest_last zero k e = let z : ◌≡◌ {A = ℕ} 0 1 = cc in absurd (omega arith)
  newest_last (suc n) k e =
      ⊎_elim
      (λ (same : get_or pairs n 0 ≡ q).
      let found = cond-true (eqb (get_or pairs n 0) q) (Some n) (newest_of q pairs n) (eq-eqb (get_or pairs n 0) q same) in
      let at : n ≡ k = cc in
      (omega arith, rw (← at) same, λ d l. let z : d ≡ 0 = omega arith in rw z refl))
      (λ (ne : get_or pairs n 0 ≡ q → ⊥).
      let below = cond-false (eqb (get_or pairs n 0) q) (Some n) (newest_of q pairs n) (ne_eqb (get_or pairs n 0) q ne) in
      let h = newest_last n k (sym below ∙ e) in
      (omega (arith, h.0), h.1, behind n k ne h.0 h.2))
      (cases_eq (get_or pairs n 0) q)
    where
      behind : (n k : ℕ) → (get_or pairs n 0 ≡ q → ⊥) → k < n → ((d : ℕ) → n ≡ k + 1 + d → tasks_from q pairs words (k + 1) d ≡ [])
          → (d : ℕ) → suc n ≡ k + 1 + d → tasks_from q pairs words (k + 1) d ≡ []
      behind n k ne l h zero e = refl
      behind n k ne l h (suc d) e =
          let at : k + 1 + d ≡ n = omega arith in
          none_more (k + 1) d (rw at ne) (h d (omega arith))

-- the same tasks, in places that have the same
pub tasks_same : (q : ℕ) (pairs words pairs' words' : List ℕ) (a b n : ℕ)
    → ((x : ℕ) → x < n → get_or pairs' (a + x) 0 ≡ get_or pairs (b + x) 0) → ((x : ℕ) → x < n → get_or words' (a + x) 0 ≡ get_or words (b + x) 0)
    → tasks_from q pairs' words' a n ≡ tasks_from q pairs words b n
tasks_same q pairs words pairs' words' a b zero p w = refl
tasks_same q pairs words pairs' words' a b (suc n) p w =
    tasks_more q pairs' words' a n
    ∙ rw (tasks_same q pairs words pairs' words' a b n (λ x l. p x (omega arith)) (λ x l. w x (omega arith)), p n (omega arith), w n (omega arith)) refl
    ∙ sym (tasks_more q pairs words b n)
