-- What each call does to the ends (e, then e') and to the places (m, then m'), by its answer. Assumes nothing.
use Rattle.std.specs.Prelude.{◌≡◌, ◌<◌, List, [], ◌∷◌, ◌++◌, length, Some, None, Ok, Err, Option, Result, slice_set}
use Rattle.refusal.specs.declared.Refusal.{Refusal}
use Rattle.refusal.specs.declared.Refusal.TheVariants.{Full}
use Rattle.deque.specs.declared.Ends.{Ends}
use Rattle.deque.specs.Ends.{held_in, above, one_more, without_top, without_bottom}

-- nothing is changed
abbrev pub Same : {X : Type 0} → Ends → Ends → List X → List X → Type 0
Same e e' m m' = (e' ≡ e) × (m' ≡ m)

-- x comes on top of what was held, or is refused as full where every place is held
abbrev pub Pushes : {X : Type 0} → Ends → Ends → List X → List X → X → Result (Unit {0}) Refusal → Type 0
Pushes e e' m m' x (Ok done) =
    (e.held < length m) × (e' ≡ one_more e) × (m' ≡ slice_set m (above (length m) e) x) × (held_in e' m' ≡ held_in e m ++ (x ∷ []))
Pushes e e' m m' x (Err refusal) = (refusal ≡ Full) × (e.held ≡ length m) × Same e e' m m'

-- the element on the top is given and no longer held, or none is where none is held
abbrev pub PopsTop : {X : Type 0} → Ends → Ends → List X → List X → Option X → Type 0
PopsTop e e' m m' (Some x) = (e' ≡ without_top e) × (m' ≡ m) × (held_in e m ≡ held_in e' m' ++ (x ∷ []))
PopsTop e e' m m' None = (held_in e m ≡ []) × (e.held ≡ 0) × Same e e' m m'

-- the element at the bottom is given and no longer held, or none is where none is held
abbrev pub PopsBottom : {X : Type 0} → Ends → Ends → List X → List X → Option X → Type 0
PopsBottom e e' m m' (Some x) = (e' ≡ without_bottom (length m) e) × (m' ≡ m) × (held_in e m ≡ x ∷ held_in e' m')
PopsBottom e e' m m' None = (held_in e m ≡ []) × (e.held ≡ 0) × Same e e' m m'
