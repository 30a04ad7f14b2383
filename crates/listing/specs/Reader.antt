-- What `read` answers, and what the heap then holds. Assumes nothing.
use Rattle.std.specs.Prelude.{Bool, cond, ◌&&◌, length, Ok, Err, Result, nat_le}
use Rattle.refusal.specs.declared.Fault.{Fault}
use Rattle.refusal.specs.declared.Refusal.TheVariants.{Memory}
use Rattle.refusal.specs.Table.{fault}
use Rattle.heap.specs.Heap.{Heap, references_in}
use Rattle.heap.specs.Tables.{Tables, filled}
use Rattle.listing.specs.declared.settings.Settings.{Settings}
use Rattle.listing.specs.declared.settings.Totals.{Totals}

abbrev pub room_for : Totals → Tables → Bool
room_for n t = nat_le n.header.objects (length t.object_table) && (nat_le n.references (length t.reference_table) && nat_le n.roots (length t.root_table))

-- the tables are long enough for the heap
abbrev pub room_in : Heap → Tables → Bool
room_in h t =
    nat_le (length h.objects) (length t.object_table)
    && (nat_le (references_in h.objects) (length t.reference_table) && nat_le (length h.roots) (length t.root_table))

-- the answer to a text that is judged so: tables too short are found last, as memory with line 0
abbrev pub answered : Result (Heap × Settings) Fault → Tables → Result Settings Fault
answered (Err f) t = Err f
answered (Ok x) t = cond (room_in x.0 t) (Ok x.1) (Err (fault Memory 0))

-- the heap and its tables after it: a refusal leaves them as they were
abbrev pub left_in : Result (Heap × Settings) Fault → Tables → Tables
left_in (Err f) t = t
left_in (Ok x) t = cond (room_in x.0 t) (filled x.0 t) t

-- the tables with the numbers of a heap
abbrev pub with_totals : Totals → Tables → Tables
with_totals n t =
    record {
      cells = n.header.cells;
      width = n.header.width;
      objects = n.header.objects;
      references = n.references;
      roots = n.roots;
      object_table = t.object_table;
      reference_table = t.reference_table;
      root_table = t.root_table;
      lenders = t.lenders;
    }
