-- A push onto a stack in a part of a stretch. Assumes nothing.
use Rattle.std.specs.Prelude.{◌≡◌, ℕ, ◌-◌, List, take, drop, Result, slice_range}
use Rattle.refusal.specs.declared.Refusal.{Refusal}
use Rattle.deque.specs.declared.Ends.{Ends}
use Rattle.deque.specs.Ends.{fitted}
use Rattle.deque.specs.Promises.{Pushes}

-- the deque in the part is pushed to, and every other place is as it was
abbrev pub PushesInPart : ℕ → ℕ → Ends → Ends → List ℕ → List ℕ → ℕ → Result (Unit {0}) Refusal → Type 0
PushesInPart from to e e' m m' x r =
    Pushes (fitted (to - from) e) e' (slice_range m from to) (slice_range m' from to) x r × (take from m' ≡ take from m) × (drop to m' ≡ drop to m)
