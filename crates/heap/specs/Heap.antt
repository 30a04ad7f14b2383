-- A heap, its law, and which of its objects and cells are reached. Assumes nothing.
use Rattle.std.specs.Prelude.{◌≡◌, ℕ, ◌+◌, ◌-◌, ◌/◌, ◌<◌, ◌≤◌, List, [], ◌∷◌, length, sum_by, slice_index, slice_index_or}
use Rattle.std.specs.List.{AllByRecursion}

-- An object covers len cells from the cell at. 0 among its references stands for no object.
pub record Object : Type 0 where
  pub at : ℕ
  pub len : ℕ
  pub refs : List ℕ

-- Objects are numbered from 1, in this order.
pub record Heap : Type 0 where
  pub cells : ℕ
  pub width : ℕ
  pub objects : List Object
  pub roots : List ℕ

-- the number of sections of `width` cells, the last of which may be cut short
abbrev pub sections_of : ℕ → ℕ → ℕ
sections_of cells width = (cells + (width - 1)) / width

-- how many references the objects have in all, those that are 0 too
abbrev pub references_in : List Object → ℕ
references_in os = sum_by (λ o. length o.refs) os

-- how many cells the objects have in all
abbrev pub cells_in : List Object → ℕ
cells_in os = sum_by (λ o. o.len) os

-- the cell behind the last object, or else `from`
abbrev pub end_from : ℕ → List Object → ℕ
end_from from [] = from
end_from from (o ∷ os) = end_from (o.at + o.len) os

-- Each object begins at or after the end of the one before, the first at or after `from`; it has a cell,
-- ends within the heap, and refers to none but the objects 1 to `most`, or to 0.
abbrev pub Laid : ℕ → ℕ → ℕ → List Object → Type 0
Laid cells most from [] = Unit {0}
Laid cells most from (o ∷ os) =
    (from ≤ o.at) × (1 ≤ o.len) × (o.at + o.len ≤ cells) × AllByRecursion (λ r. r ≤ most) o.refs × Laid cells most (o.at + o.len) os

pub record Lawful (h : Heap) : Type 0 where
  pub cells : (1 ≤ h.cells) × (h.cells ≤ 65535)
  pub width : (1 ≤ h.width) × (h.width ≤ 65535)
  pub sections : sections_of h.cells h.width ≤ 64
  pub objects : length h.objects ≤ 65535
  pub laid : Laid h.cells (length h.objects) 0 h.objects
  pub references : references_in h.objects ≤ 262144
  pub roots : length h.roots ≤ 4096
  pub rooted : AllByRecursion (λ r. r ≤ length h.objects) h.roots

abbrev pub no_object : Object
no_object = record { at = 0; len = 0; refs = [] }

-- the object with this number
abbrev pub object : Heap → ℕ → Object
object h o = slice_index_or h.objects (o - 1) no_object

abbrev pub IsObject : Heap → ℕ → Type 0
IsObject h o = (0 < o) × (o ≤ length h.objects)

abbrev pub Among : ℕ → List ℕ → Type 0
Among x xs = (k : ℕ) × (k < length xs) × (slice_index xs k ≡ x)

-- A chain is a list of one or more objects: the first is among the roots, each further one among the references
-- of the one before. The list has the last object in front.
pub data Chain (h : Heap) : List ℕ → Type 0 where
  from_root : (o : ℕ) → IsObject h o → Among o h.roots → Chain h (o ∷ [])
  by_reference : (o p : ℕ) (c : List ℕ) → Chain h (p ∷ c) → IsObject h o → Among o (object h p).refs → Chain h (o ∷ p ∷ c)

-- An object is reached when it ends a chain.
abbrev pub Reached : Heap → ℕ → Type 0
Reached h o = (c : List ℕ) × Chain h (o ∷ c)

abbrev pub Covers : Object → ℕ → Type 0
Covers x c = (x.at ≤ c) × (c < x.at + x.len)

-- A cell is reached when an object that covers it is.
abbrev pub ReachedCell : Heap → ℕ → Type 0
ReachedCell h c = (o : ℕ) × Reached h o × Covers (object h o) c
