-- What filling the tables of a heap changes. Assumes nothing.
use Rattle.std.specs.Prelude.{◌≡◌, ℕ, ◌+◌, ◌*◌, ◌≤◌, List, [], ◌++◌, length, drop, Ok}
use Rattle.heap.specs.Heap.{Heap, Object, references_in}
use Rattle.heap.specs.Tables.{Tables, entries_from, references_of, filled}
use Rattle.listing.specs.declared.settings.Header.{Header}
use Rattle.listing.specs.declared.settings.Settings.{Settings}
use Rattle.listing.specs.Rules.{Objects}
use Rattle.listing.specs.Judge.{judge_text}

-- the tables with so many roots
abbrev pub with_roots : ℕ → List ℕ → Tables → Tables
with_roots count roots t =
    record {
      cells = t.cells;
      width = t.width;
      objects = t.objects;
      references = t.references;
      roots = t.roots;
      object_table = t.object_table;
      reference_table = t.reference_table;
      root_table = roots ++ drop count t.root_table;
      lenders = t.lenders;
    }

-- the tables once objects are filled in
abbrev pub with_objects : List Object → Tables → Tables
with_objects os t =
    record {
      cells = t.cells;
      width = t.width;
      objects = t.objects;
      references = t.references;
      roots = t.roots;
      object_table = entries_from 0 os ++ drop (length os) t.object_table;
      reference_table = references_of os ++ drop (references_in os) t.reference_table;
      root_table = t.root_table;
      lenders = t.lenders;
    }

-- the tables once a heap is filled in, and its numbers are not set yet
abbrev pub with_heap : Heap → Tables → Tables
with_heap h t =
    record {
      cells = t.cells;
      width = t.width;
      objects = t.objects;
      references = t.references;
      roots = t.roots;
      object_table = (filled h t).object_table;
      reference_table = (filled h t).reference_table;
      root_table = (filled h t).root_table;
      lenders = t.lenders;
    }

-- the lines of an accepted listing from line 6 on, and room for its heap
pub record BodyFits (h : Header) (text : List ℕ) (t : Tables) : Type 0 where
  pub accepted : Heap × Settings
  pub judged : judge_text (Objects h [] h.objects) 6 text ≡ Ok accepted
  pub few : h.objects ≤ 65535
  pub objects : h.objects ≤ length t.object_table
  pub references : references_in accepted.0.objects ≤ length t.reference_table
  pub roots : length accepted.0.roots ≤ length t.root_table

-- the objects were filled in: `rest` stands behind their lines
pub record ObjectsFilled (h : Header) (text : List ℕ) (t t' : Tables) (rest : List ℕ) : Type 0 where
  pub done : List Object
  pub long : length done ≡ h.objects
  pub judged : judge_text (Objects h [] h.objects) 6 text ≡ judge_text (Objects h done 0) (6 + 3 * h.objects) rest
  pub tables : t' ≡ with_objects done t
