-- A deque is a double-ended queue. Assumes nothing.
use Rattle.std.proofs.Common.{◌≡◌, List, [], ◌∷◌, ◌++◌, length, Some, None, Ok, Option, sym, ap, ◌∙◌, append_assoc, arith}
use Rattle.std.specs.Prelude.{drop, slice_get}
use Rattle.deque.specs.declared.Ends.{Ends}
use Rattle.deque.specs.declared.Deque.{Deque}
use Rattle.deque.specs.Ends.{held_in}
use Rattle.deque.specs.Promises.{Pushes, PopsBottom}
use Rattle.deque.specs.Calls.{SameLender, DequePushes, DequePopsBottom}
use Rattle.deque.specs.Laws.{ComesBack, PushedAll, none, more, GivesOldest}
use Rattle.std.proofs.lemmas.List.{append-nil, same_from_push}

pub comes_back : {X : Type 0} (e e' : Ends) (m m' : List X) (x : X) → Pushes e e' m m' x (Ok tt) → ComesBack e e' m m' x (Ok tt)
comes_back e e' m m' x p e'' m'' (Some y) q =
    let s = same_from_push (held_in e m) (held_in e'' m'') x y (sym p.3 ∙ q.2) in
    (ap Some (sym s.1), sym s.0)
comes_back e e' m m' x p e'' m'' None q = absurd (never x (held_in e m) (sym p.3 ∙ q.0))
  where
    never : {X : Type 0} (x : X) (xs : List X) → xs ++ (x ∷ []) ≡ [] → ⊥
    never x [] h = let z = ap length h in omega (arith, z)
    never x (y ∷ ys) h = let z = ap length h in omega (arith, z)

pushed_list : {X : Type 0} (xs : List X) (b e : Ends) (n m : List X) → PushedAll xs b e n m → held_in e m ≡ held_in b n ++ xs
pushed_list [] b e n m none = sym (append-nil _)
pushed_list (x ∷ xs) b e n m (more {e' = e'} {m' = m'} p rest) =
    pushed_list xs e' e m' m rest ∙ ap (λ l. l ++ xs) p.3 ∙ append_assoc (held_in b n) (x ∷ []) xs

pub gives_oldest : {X : Type 0} (e e' : Ends) (m m' : List X) (r : Option X) → PopsBottom e e' m m' r → GivesOldest e e' m m' r
gives_oldest e e' m m' (Some x) p xs b n h =
    let l = sym (pushed_list xs b e n m h) ∙ p.2 in
    (ap (λ ys. slice_get ys 0) (sym l), ap (drop 1) (sym l))
gives_oldest e e' m m' None p xs b n h =
    let l = sym (pushed_list xs b e n m h) ∙ p.0 in
    (ap (λ ys. slice_get ys 0) (sym l), rw (p.2.0, p.2.1) p.0 ∙ ap (drop 1) (sym l))

-- the law of a call follows from its promise
module _ {X : Type 0} (d d' : Deque X) (same : SameLender d d') where
  pub deque_pushes : (x : X) → Pushes d.ends d'.ends d.places.now d'.places.now x (Ok tt) → DequePushes d d' x (Ok tt)
  deque_pushes x p = record { pushed = p; lender = same; back = comes_back d.ends d'.ends d.places.now d'.places.now x p }

  pub deque_pops_bottom : (r : Option X) → PopsBottom d.ends d'.ends d.places.now d'.places.now r → DequePopsBottom d d' r
  deque_pops_bottom r p = record { popped = p; lender = same; oldest = gives_oldest d.ends d'.ends d.places.now d'.places.now r p }
