-- What a checked heap stands for. Assumes nothing.
use Rattle.heap.specs.declared.checked.CheckedHeap.{CheckedHeap}
use Rattle.heap.specs.Heap.{Heap}
use Rattle.heap.specs.Tables.{Lenders, Tables, heap_in}

-- whose its tables are
abbrev pub lenders_of : CheckedHeap → Lenders
lenders_of h =
    record {
      object_table = h.object_table.ghost_name;
      reference_table = h.reference_table.ghost_name;
      root_table = h.root_table.ghost_name;
    }

-- its numbers, and what its tables hold
abbrev pub tables_of : CheckedHeap → Tables
tables_of h =
    record {
      cells = h.cells;
      width = h.width;
      objects = h.objects;
      references = h.references;
      roots = h.roots;
      object_table = h.object_table.now;
      reference_table = h.reference_table.now;
      root_table = h.root_table.now;
      lenders = lenders_of h;
    }

-- the heap itself
abbrev pub heap_of : CheckedHeap → Heap
heap_of h = heap_in (tables_of h)
