-- The heap that tables hold, and the tables that hold a heap. Assumes nothing.
use Rattle.std.specs.Prelude.{ℕ, ◌+◌, List, [], ◌∷◌, ◌++◌, map, length, take, drop, sum_by, slice_index_or}
use Rattle.std.specs.Borrow.{GName, MutBor}
use Rattle.std.specs.List.{flat_map}
use Rattle.heap.specs.declared.entry.ObjectEntry.{ObjectEntry}
use Rattle.heap.specs.Heap.{Object, Heap, references_in}

-- what a table has where it holds nothing
abbrev pub blank : ObjectEntry
blank = record { at = 0; len = 0; first = 0; count = 0 }

abbrev pub entry_at : List ObjectEntry → ℕ → ObjectEntry
entry_at entries k = slice_index_or entries k blank

-- how many references the first k entries have in all
abbrev pub counted_to : ℕ → List ObjectEntry → ℕ
counted_to k entries = sum_by (λ e. e.count) (take k entries)

-- the object that an entry holds, with its references in the reference table
abbrev pub object_in : List ℕ → ObjectEntry → Object
object_in references e = record { at = e.at; len = e.len; refs = take e.count (drop e.first references) }

abbrev pub objects_in : List ℕ → List ObjectEntry → List Object
objects_in references es = map (object_in references) es

-- Which stretches a heap's tables are lent from: the name of each loan.
pub record Lenders : Type 0 where
  pub object_table : GName
  pub reference_table : GName
  pub root_table : GName

-- The numbers of a checked heap and what its tables hold, those places too that it does not use, and whose they are.
pub record Tables : Type 0 where
  pub cells : ℕ
  pub width : ℕ
  pub objects : ℕ
  pub references : ℕ
  pub roots : ℕ
  pub object_table : List ObjectEntry
  pub reference_table : List ℕ
  pub root_table : List ℕ
  pub lenders : Lenders

-- the heap that they stand for
abbrev pub heap_in : Tables → Heap
heap_in t =
    record {
      cells = t.cells;
      width = t.width;
      objects = objects_in t.reference_table (take t.objects t.object_table);
      roots = take t.roots t.root_table;
    }

-- one entry an object, in order; the references of each follow those of the one before
abbrev pub entries_from : ℕ → List Object → List ObjectEntry
entries_from first [] = []
entries_from first (o ∷ os) =
    record { at = o.at; len = o.len; first = first; count = length o.refs } ∷ entries_from (first + length o.refs) os

-- the references of all objects, in order
abbrev pub references_of : List Object → List ℕ
references_of os = flat_map (λ o. o.refs) os

-- the tables once they hold the heap h: it fills just the places that it needs, and what lies behind them stays
abbrev pub filled : Heap → Tables → Tables
filled h t =
    record {
      cells = h.cells;
      width = h.width;
      objects = length h.objects;
      references = references_in h.objects;
      roots = length h.roots;
      object_table = entries_from 0 h.objects ++ drop (length h.objects) t.object_table;
      reference_table = references_of h.objects ++ drop (references_in h.objects) t.reference_table;
      root_table = h.roots ++ drop (length h.roots) t.root_table;
      lenders = t.lenders;
    }

-- the empty heap over tables that are lent: one cell, width 1, nothing in it
abbrev pub empty_over : MutBor (List ObjectEntry) → MutBor (List ℕ) → MutBor (List ℕ) → Tables
empty_over entries references roots =
    record {
      cells = 1;
      width = 1;
      objects = 0;
      references = 0;
      roots = 0;
      object_table = entries.now;
      reference_table = references.now;
      root_table = roots.now;
      lenders = record { object_table = entries.ghost_name; reference_table = references.ghost_name; root_table = roots.ghost_name };
    }
