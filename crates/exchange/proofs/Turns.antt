-- One pair's entries: what a put and a take do to the waiting tasks. Assumes nothing.
use Rattle.std.proofs.Common.{◌≡◌, ℕ, zero, suc, ◌+◌, ◌-◌, ◌%◌, ◌<◌, ◌≤◌, List, [], ◌∷◌, ◌++◌, length, get_or, take, drop, set, replicate, sym, refl, ap, ◌∙◌, ⊎_elim, append_assoc, add-zero, mod-eq_of_lt, mod-lt, arith, length-append, length-drop, length-set, length-take}
use native.Mathlib.Nat.{mod-eq-sub-mod, mod-add-mod, add-mod_right}
use lib.ListN.{length-replicate}
use lib.Seq.{take-set-lt}
use Rattle.std.proofs.lemmas.List.{drop-set-add, drop-set-lt, take-set-le, set-append_left, set-append_right, set_at, get_or_append_left, get_or-append_right, get_or-take, get_or-drop, get_or-replicate, append-nil, take_all, drop_all, replicate_more, drop_more, take_more_set, nil_from_length}
use Rattle.std.proofs.lemmas.Bool.{cases_lt}
use Rattle.exchange.specs.declared.cursors.Cursors.{Cursors}
use Rattle.exchange.specs.Entries.{turned, filled, tasks, TailAfter, Together, following, IsRing, tail_moved, head_moved, FillsTail, VacatesHead}

-- past the last entry the count begins again
round_past : (h n len : ℕ) → len ≤ h + n → h < len → n ≤ len → (h + n) % len ≡ h + n - len
round_past h n len past hl nl =
    let small : h + n - len < len = omega arith in
    mod-eq-sub-mod past ∙ mod-eq_of_lt small

module _ (es : List ℕ) (h len : ℕ) (long : length es ≡ len) (hl : h < len) where
  length_turned : length (turned es h) ≡ len
  length_turned = simp (length-append, length-drop, length-take) (omega arith)

  turned_at : (n : ℕ) → n < len → get_or (turned es h) n 0 ≡ get_or es ((h + n) % len) 0
  turned_at n nl =
      ⊎_elim
      (λ (low : h + n < len).
      let within : n < length (drop h es) = simp length-drop (omega arith) in
      get_or_append_left (drop h es) (take h es) 0 n within ∙ get_or-drop h es n 0 ∙ ap (λ k. get_or es k 0) (sym (mod-eq_of_lt low)))
      (λ (high : len ≤ h + n).
      let past : len - h ≤ n = omega arith in
      let k : n - (len - h) < h = omega arith in
      let e : n - (len - h) ≡ h + n - len = omega arith in
      get_or-append_right (drop h es) (take h es) (len - h) n 0 (simp length-drop (omega arith)) past ∙ get_or-take h es (n - (len - h)) 0 k
      ∙ ap (λ k. get_or es k 0) (e ∙ sym (round_past h n len high hl (omega arith))))
      (cases_lt (h + n) len)

  turned_set : (n v : ℕ) → n < len → turned (set es ((h + n) % len) v) h ≡ set (turned es h) n v
  turned_set n v nl =
      ⊎_elim
      (λ (low : h + n < len).
      let within : n < length (drop h es) = simp length-drop (omega arith) in
      let below : h ≤ h + n = omega arith in
      ap (λ k. turned (set es k v) h) (mod-eq_of_lt low)
      ∙ ap (λ xs. xs ++ take h (set es (h + n) v)) (drop-set-add h es n v)
      ∙ ap (λ xs. set (drop h es) n v ++ xs) (take-set-le h es (h + n) v below)
      ∙ sym (set-append_left (drop h es) (take h es) n v within))
      (λ (high : len ≤ h + n).
      let k : h + n - len < h = omega arith in
      let past : len - h ≤ n = omega arith in
      let e : n - (len - h) ≡ h + n - len = omega arith in
      ap (λ k. turned (set es k v) h) (round_past h n len high hl (omega arith))
      ∙ ap (λ xs. xs ++ take h (set es (h + n - len) v)) (drop-set-lt h es (h + n - len) v k)
      ∙ ap (λ xs. drop h es ++ xs) (take-set-lt h es (h + n - len) v k)
      ∙ sym (set-append_right (drop h es) (take h es) (len - h) n v (simp length-drop (omega arith)) past ∙ ap (λ k. drop h es ++ set (take h es) k v) e))
      (cases_lt (h + n) len)

  -- the head moves on, past a vacated entry
  turned_next : turned (set es h 0) (following len h) ≡ drop 1 (turned es h) ++ (0 ∷ [])
  turned_next =
      let here : h < length es = omega arith in
      let rest : drop 1 (turned es h) ≡ drop (h + 1) es ++ take h es = ap (λ xs. drop 1 (xs ++ take h es)) (drop_more es h 0 here) in
      ⊎_elim
      (λ (low : h + 1 < len).
      let lt : h < h + 1 = omega arith in
      ap (turned (set es h 0)) (mod-eq_of_lt low)
      ∙ ap (λ xs. xs ++ take (h + 1) (set es h 0)) (drop-set-lt (h + 1) es h 0 lt)
      ∙ ap (λ xs. drop (h + 1) es ++ xs) (take_more_set es h 0 here)
      ∙ sym (append_assoc (drop (h + 1) es) (take h es) (0 ∷ []))
      ∙ ap (λ xs. xs ++ (0 ∷ [])) (sym rest))
      (λ (high : len ≤ h + 1).
      let z : h + 1 - len ≡ 0 = omega arith in
      let none : drop (h + 1) es ≡ [] = drop_all (h + 1) es (omega arith) in
      let whole : set es h 0 ≡ take h es ++ (0 ∷ []) = sym (take_all (h + 1) (set es h 0) (simp length-set (omega arith))) ∙ take_more_set es h 0 here in
      ap (turned (set es h 0)) (round_past h 1 len high hl (omega arith) ∙ z)
      ∙ append-nil (set es h 0) ∙ whole
      ∙ ap (λ xs. (xs ++ take h es) ++ (0 ∷ [])) (sym none)
      ∙ ap (λ xs. xs ++ (0 ∷ [])) (sym rest))
      (cases_lt (h + 1) len)

filled_append : (xs ys : List ℕ) → filled (xs ++ ys) ≡ filled xs ++ filled ys
filled_append [] ys = refl
filled_append (zero ∷ xs) ys = filled_append xs ys
filled_append (suc n ∷ xs) ys = ap (λ zs. suc n ∷ zs) (filled_append xs ys)

pub filled_zeros : (n : ℕ) → filled (replicate n 0) ≡ []
filled_zeros zero = refl
filled_zeros (suc n) = filled_zeros n

filled_filled : (xs : List ℕ) → filled (filled xs) ≡ filled xs
filled_filled [] = refl
filled_filled (zero ∷ xs) = filled_filled xs
filled_filled (suc n ∷ xs) = ap (λ zs. suc n ∷ zs) (filled_filled xs)

-- a task is not 0
filled_first : (xs : List ℕ) → 0 < length (filled xs) → 0 < get_or (filled xs) 0 0
filled_first [] l = l
filled_first (zero ∷ xs) l = filled_first xs l
filled_first (suc n ∷ xs) l = omega arith

filled_cons : (x : ℕ) (xs : List ℕ) → 0 < x → filled (x ∷ xs) ≡ x ∷ filled xs
filled_cons zero xs l = absurd (omega arith)
filled_cons (suc n) xs l = refl

-- one more vacant entry behind vacant ones
one_more_vacant : (xs : List ℕ) (n k : ℕ) → n + 1 ≡ k → (xs ++ replicate n 0) ++ (0 ∷ []) ≡ xs ++ replicate k 0
one_more_vacant xs n k e = append_assoc xs (replicate n 0) (0 ∷ []) ∙ ap (λ ys. xs ++ ys) (replicate_more n 0 ∙ ap (λ k. replicate k 0) e)

module _ (es : List ℕ) (h t len : ℕ) (long : length es ≡ len) (hl : h < len) (after : TailAfter len es h t) (stand : Together len es h) where
  few : length (tasks es h) ≤ len
  few =
      let n : length (tasks es h ++ replicate (len - length (tasks es h)) 0) ≡ len = ap length (sym stand) ∙ length_turned es h len long hl in
      omega (arith, length-append (tasks es h) (replicate (len - length (tasks es h)) 0), length-replicate {A = ℕ} (len - length (tasks es h)) 0)

  -- behind the tasks the entries are vacant
  vacant_at : length (tasks es h) < len → get_or es t 0 ≡ 0
  vacant_at l =
      ap (λ k. get_or es k 0) after ∙ sym (turned_at es h len long hl (length (tasks es h)) l)
      ∙ ap (λ xs. get_or xs (length (tasks es h)) 0) stand
      ∙ get_or-append_right (tasks es h) (replicate (len - length (tasks es h)) 0) (length (tasks es h)) (length (tasks es h)) 0 refl (omega arith)
      ∙ get_or-replicate (len - length (tasks es h)) (length (tasks es h) - length (tasks es h)) 0 0 (omega arith)

  first_is : get_or es h 0 ≡ get_or (turned es h) 0 0
  first_is =
      let e : h + 0 < len = omega arith in
      sym (turned_at es h len long hl 0 (omega arith) ∙ ap (λ k. get_or es k 0) (mod-eq_of_lt e ∙ add-zero h))

  first_task : 0 < length (tasks es h) → 0 < get_or es h 0
  unfolding tasks
  first_task l =
      let e : get_or es h 0 ≡ get_or (tasks es h) 0 0 = first_is ∙ ap (λ xs. get_or xs 0 0) stand ∙ get_or_append_left (tasks es h) (replicate (len - length (tasks es h)) 0) 0 0 l in
      rw e (filled_first (turned es h) l)

  -- the tail's entry is vacant exactly while there is a vacancy
  pub room_when_vacant : get_or es t 0 ≡ 0 → length (tasks es h) < len
  room_when_vacant z =
      ⊎_elim (λ l. l)
      (λ full.
      let n : length (tasks es h) ≡ len = omega (arith, few) in
      let home : t ≡ h = after ∙ ap (λ k. (h + k) % len) n ∙ add-mod_right h len ∙ mod-eq_of_lt hl in
      let some : 0 < get_or es h 0 = first_task (omega arith) in
      let none : get_or es h 0 ≡ 0 = ap (λ k. get_or es k 0) (sym home) ∙ z in
      absurd (omega arith))
      (cases_lt (length (tasks es h)) len)

  pub full_when_held : (get_or es t 0 ≡ 0 → ⊥) → len - length (tasks es h) ≡ 0
  full_when_held ne = ⊎_elim (λ l. absurd (ne (vacant_at l))) (λ g. omega arith) (cases_lt (length (tasks es h)) len)

  -- the head's entry is vacant exactly while nothing waits
  pub none_when_vacant : get_or es h 0 ≡ 0 → tasks es h ≡ []
  none_when_vacant z =
      nil_from_length (tasks es h) (⊎_elim (λ l. let some : 0 < get_or es h 0 = first_task l in absurd (omega arith)) (λ g. omega arith) (cases_lt 0 (length (tasks es h))))

  pub some_when_held : (get_or es h 0 ≡ 0 → ⊥) → tasks es h ≡ [] → ⊥
  some_when_held ne none =
      let first : get_or es h 0 ≡ get_or (replicate (len - length (tasks es h)) 0) 0 0 = first_is ∙ ap (λ xs. get_or xs 0 0) (stand ∙ ap (λ xs. xs ++ replicate (len - length (tasks es h)) 0) none) in
      ne (first ∙ get_or-replicate (len - length (tasks es h)) 0 0 0 (omega (arith, ap length none)))

  -- a put at the tail
  module _ (v : ℕ) (some : 0 < v) (room : length (tasks es h) < len) where
    turned_put : turned (set es t v) h ≡ tasks es h ++ (v ∷ replicate (len - length (tasks es h) - 1) 0)
    turned_put =
        let more : len - length (tasks es h) ≡ suc (len - length (tasks es h) - 1) = omega arith in
        ap (λ k. turned (set es k v) h) after ∙ turned_set es h len long hl (length (tasks es h)) v room
        ∙ ap (λ xs. set xs (length (tasks es h)) v) (stand ∙ ap (λ k. tasks es h ++ replicate k 0) more)
        ∙ set_at (tasks es h) 0 (replicate (len - length (tasks es h) - 1) 0) v (length (tasks es h)) refl

    pub put_tasks : tasks (set es t v) h ≡ tasks es h ++ (v ∷ [])
    unfolding tasks
    put_tasks =
        let zeros = replicate (len - length (tasks es h) - 1) 0 in
        ap filled turned_put ∙ filled_append (tasks es h) (v ∷ zeros)
        ∙ ap (λ xs. xs ++ filled (v ∷ zeros)) (filled_filled (turned es h))
        ∙ ap (λ xs. tasks es h ++ xs) (filled_cons v zeros some ∙ ap (λ xs. v ∷ xs) (filled_zeros (len - length (tasks es h) - 1)))

    put_length : length (tasks (set es t v) h) ≡ length (tasks es h) + 1
    put_length = ap length put_tasks ∙ length-append (tasks es h) (v ∷ [])

    pub put_tail : TailAfter len (set es t v) h (following len t)
    put_tail =
        let e : h + length (tasks es h) + 1 ≡ h + length (tasks (set es t v) h) = omega (arith, put_length) in
        ap (following len) after ∙ mod-add-mod (h + length (tasks es h)) len 1 ∙ ap (λ k. k % len) e

    pub put_together : Together len (set es t v) h
    put_together =
        let e : len - length (tasks es h) - 1 ≡ len - length (tasks (set es t v) h) = omega (arith, put_length) in
        turned_put ∙ sym (append_assoc (tasks es h) (v ∷ []) (replicate (len - length (tasks es h) - 1) 0))
        ∙ ap (λ xs. xs ++ replicate (len - length (tasks es h) - 1) 0) (sym put_tasks)
        ∙ ap (λ k. tasks (set es t v) h ++ replicate k 0) e

  -- a take at the head
  module _ (some : 0 < get_or es h 0) where
    split_first : turned es h ≡ get_or es h 0 ∷ drop 1 (turned es h)
    split_first = drop_more (turned es h) 0 0 (omega (arith, length_turned es h len long hl)) ∙ ap (λ x. x ∷ drop 1 (turned es h)) (sym first_is)

    after_take : tasks (set es h 0) (following len h) ≡ filled (drop 1 (turned es h))
    unfolding tasks
    after_take = ap filled (turned_next es h len long hl) ∙ filled_append (drop 1 (turned es h)) (0 ∷ []) ∙ append-nil (filled (drop 1 (turned es h)))

    pub take_tasks : tasks es h ≡ get_or es h 0 ∷ tasks (set es h 0) (following len h)
    unfolding tasks
    take_tasks = ap filled split_first ∙ filled_cons (get_or es h 0) (drop 1 (turned es h)) some ∙ ap (λ xs. get_or es h 0 ∷ xs) (sym after_take)

    pub take_tail : TailAfter len (set es h 0) (following len h) t
    take_tail =
        let e : h + length (tasks es h) ≡ h + 1 + length (tasks (set es h 0) (following len h)) = omega (arith, ap length take_tasks) in
        after ∙ ap (λ k. k % len) e ∙ sym (mod-add-mod (h + 1) len (length (tasks (set es h 0) (following len h))))

    pub take_together : Together len (set es h 0) (following len h)
    take_together =
        let n : len - length (tasks es h) + 1 ≡ len - length (tasks (set es h 0) (following len h)) = omega (arith, ap length take_tasks, few) in
        let rest : drop 1 (turned es h) ≡ tasks (set es h 0) (following len h) ++ replicate (len - length (tasks es h)) 0 = ap (drop 1) (stand ∙ ap (λ xs. xs ++ replicate (len - length (tasks es h)) 0) take_tasks) in
        turned_next es h len long hl ∙ ap (λ xs. xs ++ (0 ∷ [])) rest ∙ one_more_vacant (tasks (set es h 0) (following len h)) (len - length (tasks es h)) (len - length (tasks (set es h 0) (following len h))) n

-- a put and a take of the ring of one pair
module _ (c : Cursors) (es : List ℕ) (ring : IsRing c es) where
  roomy : get_or es c.tail 0 ≡ 0 → length (tasks es c.head) < length es
  roomy = room_when_vacant es c.head c.tail (length es) refl ring.within ring.after ring.stand

  pub is_full : (get_or es c.tail 0 ≡ 0 → ⊥) → length es ≤ length (tasks es c.head)
  is_full ne = omega (arith, full_when_held es c.head c.tail (length es) refl ring.within ring.after ring.stand ne)

  pub nothing : get_or es c.head 0 ≡ 0 → tasks es c.head ≡ []
  nothing = none_when_vacant es c.head c.tail (length es) refl ring.within ring.after ring.stand

  pub something : (get_or es c.head 0 ≡ 0 → ⊥) → tasks es c.head ≡ [] → ⊥
  something = some_when_held es c.head c.tail (length es) refl ring.within ring.after ring.stand

  module _ (v : ℕ) (some : 0 < v) (vacant : get_or es c.tail 0 ≡ 0) where
    pub put_fills : FillsTail c (tail_moved (length es) c) es (set es c.tail v) v
    put_fills = record {
      vacant = vacant;
      room = roomy vacant;
      entries = refl;
      cursors = refl;
      joins = put_tasks es c.head c.tail (length es) refl ring.within ring.after ring.stand v some (roomy vacant);
    }

    pub put_ring : IsRing (tail_moved (length es) c) (set es c.tail v)
    put_ring = record {
      within = simp length-set ring.within;
      after = simp length-set (put_tail es c.head c.tail (length es) refl ring.within ring.after ring.stand v some (roomy vacant));
      stand = simp length-set (put_together es c.head c.tail (length es) refl ring.within ring.after ring.stand v some (roomy vacant));
    }

  module _ (some : 0 < get_or es c.head 0) where
    pub take_vacates : VacatesHead c (head_moved (length es) c) es (set es c.head 0) (get_or es c.head 0)
    take_vacates = record {
      task = refl;
      entries = refl;
      cursors = refl;
      leaves = take_tasks es c.head c.tail (length es) refl ring.within ring.after ring.stand some;
    }

    pub take_ring : IsRing (head_moved (length es) c) (set es c.head 0)
    take_ring = record {
      within = simp length-set (mod-lt (c.head + 1) (omega (arith, ring.within)));
      after = simp length-set (take_tail es c.head c.tail (length es) refl ring.within ring.after ring.stand some);
      stand = simp length-set (take_together es c.head c.tail (length es) refl ring.within ring.after ring.stand some);
    }
