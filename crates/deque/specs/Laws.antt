-- It is a double-ended queue. Assumes nothing.
use Rattle.std.specs.Prelude.{◌≡◌, List, [], ◌∷◌, ◌++◌, drop, Some, Ok, Err, Option, Result, slice_get}
use Rattle.refusal.specs.declared.Refusal.{Refusal}
use Rattle.deque.specs.declared.Ends.{Ends}
use Rattle.deque.specs.Ends.{held_in}
use Rattle.deque.specs.Promises.{Pushes, PopsTop}

-- after an accepted push a pop at the top gives the element back, and the list is again what it was
abbrev pub ComesBack : {X : Type 0} → Ends → Ends → List X → List X → X → Result (Unit {0}) Refusal → Type 0
ComesBack e e' m m' x (Ok done) = (e'' : Ends) (m'' : List _) (r : Option _) → PopsTop e' e'' m' m'' r → (r ≡ Some x) × (held_in e'' m'' ≡ held_in e m)
ComesBack e e' m m' x (Err refusal) = Unit {0}

-- accepted pushes, the first element of the list first
pub data PushedAll {X : Type 0} : List X → Ends → Ends → List X → List X → Type 0 where
  none : {e : Ends} {m : List X} → PushedAll [] e e m m
  more : {x : X} {xs : List X} {e e' e'' : Ends} {m m' m'' : List X} → Pushes e e' m m' x (Ok tt) → PushedAll xs e' e'' m' m'' → PushedAll (x ∷ xs) e e'' m m''

-- after any pushes a pop at the bottom gives the oldest of what was held before them, or of what they brought, and leaves the rest
abbrev pub GivesOldest : {X : Type 0} → Ends → Ends → List X → List X → Option X → Type 0
GivesOldest {X} e e' m m' r =
    (xs : List X) (b : Ends) (n : List X) → PushedAll xs b e n m → (r ≡ slice_get (held_in b n ++ xs) 0) × (held_in e' m' ≡ drop 1 (held_in b n ++ xs))
