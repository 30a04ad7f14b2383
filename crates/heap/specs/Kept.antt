-- The law of a heap, number by number and place by place of its tables. Assumes nothing.
use Rattle.std.specs.Prelude.{◌≡◌, ℕ, ◌+◌, ◌<◌, ◌≤◌, length, slice_index}
use Rattle.heap.specs.Heap.{sections_of}
use Rattle.heap.specs.Tables.{Tables, entry_at, counted_to}

-- what the ghost fields of a checked heap say of its numbers and tables
pub record Kept (t : Tables) : Type 0 where
  pub long : (1 ≤ t.cells) × (t.cells ≤ 65535)
  pub wide : (1 ≤ t.width) × (t.width ≤ 65535)
  pub cut : sections_of t.cells t.width ≤ 64
  pub few : (t.objects ≤ 65535) × (t.references ≤ 262144) × (t.roots ≤ 4096)
  pub held : (t.objects ≤ length t.object_table) × (t.references ≤ length t.reference_table) × (t.roots ≤ length t.root_table)
  pub inside : (k : ℕ) → k < t.objects → (1 ≤ (entry_at t.object_table k).len) × ((entry_at t.object_table k).at + (entry_at t.object_table k).len ≤ t.cells)
  pub apart : (k : ℕ) → k + 1 < t.objects → (entry_at t.object_table k).at + (entry_at t.object_table k).len ≤ (entry_at t.object_table (k + 1)).at
  pub follow : (k : ℕ) → k < t.objects → (entry_at t.object_table k).first ≡ counted_to k t.object_table
  pub counted : t.references ≡ counted_to t.objects t.object_table
  pub known : (k : ℕ) → k < t.references → slice_index t.reference_table k ≤ t.objects
  pub rooted : (k : ℕ) → k < t.roots → slice_index t.root_table k ≤ t.objects
