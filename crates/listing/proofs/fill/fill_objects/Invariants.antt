use Rattle.std.proofs.Common.{◌≡◌, ◌++◌, length, drop}
use Rattle.heap.specs.Heap.{references_in}
use Rattle.heap.specs.Tables.{entries_from, references_of}
use Rattle.listing.proofs.Progress.{ObjectsSoFar}
use Rattle.listing.proofs.fill.fill_objects.Given as goal

abbrev pub invariant-loop-entry : goal.invariant-loop-entry
invariant-loop-entry l =
    (s : ObjectsSoFar l.fn.body.header l.fn.body.lines.text.now l.entry-index l.objects)
    × (l.entries ≡ entries_from 0 s.done ++ drop (length s.done) l.initial.entries)
    × (l.references ≡ references_of s.done ++ drop (references_in s.done) l.initial.references)
