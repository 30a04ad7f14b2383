-- The number of sections.
use Rattle.std.proofs.Common.{ℕ, ◌+◌, ◌-◌, ◌≤◌, le-div_iff_mul-le, arith}
use Rattle.heap.specs.Heap.{sections_of}

-- a heap with a cell has a section
pub some_section : (cells width : ℕ) → 1 ≤ cells → 1 ≤ width → 1 ≤ sections_of cells width
some_section cells width c w = (le-div_iff_mul-le {x = 1} {y = cells + (width - 1)} w).1 (omega arith)
