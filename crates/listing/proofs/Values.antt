-- The values of lines.
use Rattle.std.proofs.Common.{◌≡◌, ℕ, ◌≤◌, arith}
use Rattle.std.specs.Int.{div_ceil}
use Rattle.std.proofs.lemmas.Grind.{common_steps}
use Rattle.heap.specs.Heap.{sections_of}

-- the number of sections is the cells over the width, rounded up
pub sections_by_width : (cells width : ℕ) → 1 ≤ width → div_ceil cells width ≡ sections_of cells width
sections_by_width cells width w = grind (arith, common_steps)
