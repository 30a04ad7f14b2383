-- The law of a heap, from what is known of each place of its tables.
use Rattle.std.proofs.Common.{◌≡◌, ℕ, suc, ◌+◌, ◌<◌, ◌≤◌, List, [], ◌∷◌, length, get_or, take, drop, sum_by, sym, refl, ◌∙◌, subst, add-one, arith}
use Rattle.std.specs.List.{AllByRecursion}
use Rattle.std.proofs.lemmas.List.{length-take, length-drop, length-map, length-take-le, get_or-take, get_or-drop, take-take}
use Rattle.std.proofs.lemmas.List.Sums.{sum_by-cons, sum_by_more, sum_by-take-le}
use Rattle.std.proofs.ByRecursion.{All-from_get_or}
use Rattle.heap.specs.declared.entry.ObjectEntry.{ObjectEntry}
use Rattle.heap.specs.declared.checked.CheckedHeap.{CheckedHeap}
use Rattle.heap.specs.Heap.{Object, Laid, Lawful, references_in, cells_in}
use Rattle.heap.specs.Tables.{blank, entry_at, counted_to, object_in, objects_in}
use Rattle.heap.specs.Handed.{heap_of}

-- part of a list of which each place is known
part_known : (refs : List ℕ) (first count n most : ℕ) → ((k : ℕ) → k < n → get_or refs k 0 ≤ most) → first + count ≤ n → n ≤ length refs
    → AllByRecursion (λ r. r ≤ most) (take count (drop first refs))
part_known refs first count n most f p q =
    All-from_get_or (λ r. r ≤ most) (take count (drop first refs)) 0
    (λ i l.
    let len = length-take count (drop first refs) in
    let len' = length-drop first refs in
    let lt : i < count = omega arith in
    rw (get_or-take count (drop first refs) i 0 lt, get_or-drop first refs i 0) (f (first + i) (omega arith)))

pub laid-by-place
    : (cells most from : ℕ) (refs : List ℕ) (es : List ObjectEntry)
    → ((k : ℕ) → k < length es → (1 ≤ (entry_at es k).len) × ((entry_at es k).at + (entry_at es k).len ≤ cells))
    → ((k : ℕ) → suc k < length es → (entry_at es k).at + (entry_at es k).len ≤ (entry_at es (suc k)).at)
    → ((k : ℕ) → k < length es → AllByRecursion (λ r. r ≤ most) (object_in refs (entry_at es k)).refs)
    → (0 < length es → from ≤ (entry_at es 0).at)
    → Laid cells most from (objects_in refs es)
laid-by-place cells most from refs [] inside apart known begins = tt
laid-by-place cells most from refs (e ∷ es) inside apart known begins = (
  begins (omega arith),
  (inside 0 (omega arith)).0,
  (inside 0 (omega arith)).1,
  known 0 (omega arith),
  laid-by-place cells most (e.at + e.len) refs es (λ k l. inside (suc k) (omega arith)) (λ k l. apart (suc k) (omega arith))
      (λ k l. known (suc k) (omega arith)) (λ l. apart 0 (omega arith)),
)

references_by_place : (refs : List ℕ) (es : List ObjectEntry) → ((k : ℕ) → k < length es → (entry_at es k).first + (entry_at es k).count ≤ length refs)
    → references_in (objects_in refs es) ≡ sum_by (λ e. e.count) es
references_by_place refs [] f = refl
references_by_place refs (e ∷ es) f =
    let h = references_by_place refs es (λ k l. f (suc k) (omega arith)) in
    let g = f 0 (omega arith) in
    let l = length-take e.count (drop e.first refs) in
    let m = length-drop e.first refs in
    let a = sum_by-cons {X = Object} (λ o. length o.refs) (object_in refs e) (objects_in refs es) in
    let b = sum_by-cons {X = ObjectEntry} (λ e. e.count) e es in
    omega (arith, a, b, h, l, m, g)

-- the references of an object lie within those of all
pub counted_within : (es : List ObjectEntry) (k n : ℕ) → k < n → n ≤ length es → counted_to k es + (entry_at es k).count ≤ counted_to n es
counted_within es k n l q =
    let k-in : k < length es = omega arith in
    let k-to : k + 1 ≤ n = omega arith in
    let a = sum_by_more {X = ObjectEntry} (λ e. e.count) es k blank k-in in
    let b = sum_by-take-le {X = ObjectEntry} (λ e. e.count) (take n es) (k + 1) in
    let t : take (k + 1) (take n es) ≡ take (k + 1) es = take-take (k + 1) n es k-to in
    let b' = rw t at b in
    omega (arith, a, b')

-- the references of each object lie within the table
room : (h : CheckedHeap) (k : ℕ) → k < h.objects → (entry_at h.object_table.now k).first + (entry_at h.object_table.now k).count ≤ h.references
room h k l = omega (arith, h.follow k l, counted_within h.object_table.now k h.objects l h.held.0, h.counted)

-- the numbers of a checked heap are those of the heap it stands for
pub counts : (h : CheckedHeap) → (length (heap_of h).objects ≡ h.objects) × (references_in (heap_of h).objects ≡ h.references) × (length (heap_of h).roots ≡ h.roots)
counts h =
    let table : List ObjectEntry = h.object_table.now in
    let refs : List ℕ = h.reference_table.now in
    let es : List ObjectEntry = take h.objects table in
    let size : length es ≡ h.objects = length-take-le h.objects table h.held.0 in
    let e = references_by_place refs es
    (λ k l. let l' : k < h.objects = omega arith in rw (get_or-take h.objects table k blank l') (omega (arith, room h k l', h.held.1))) in
    (length-map es (object_in refs) ∙ size, e ∙ sym h.counted, length-take-le h.roots h.root_table.now h.held.2)

-- a checked heap stands for a lawful heap
pub lawful : (h : CheckedHeap) → Lawful (heap_of h)
lawful h =
    let table : List ObjectEntry = h.object_table.now in
    let refs : List ℕ = h.reference_table.now in
    let roots : List ℕ = h.root_table.now in
    let es : List ObjectEntry = take h.objects table in
    let size : length es ≡ h.objects = length-take-le h.objects table h.held.0 in
    let many = counts h in
    let at : (k : ℕ) → k < h.objects → entry_at es k ≡ entry_at table k = λ k l. get_or-take h.objects table k blank l in
    record {
      cells = h.long;
      width = h.wide;
      sections = h.cut;
      objects = omega (arith, many.0, h.few.0);
      laid =
          rw many.0
          (laid-by-place h.cells h.objects 0 refs es (λ k l. let l' : k < h.objects = omega arith in rw (at k l') (h.inside k l'))
          (λ k l.
          let l' : k < h.objects = omega arith in
          let m : suc k < h.objects = omega arith in
          rw (at k l', at (suc k) m) (subst (λ j. (entry_at table k).at + (entry_at table k).len ≤ (entry_at table j).at) (add-one k) (h.apart k (omega arith))))
          (λ k l. let l' : k < h.objects = omega arith in
          rw (at k l') (part_known refs _ _ h.references h.objects h.known (room h k l') h.held.1))
          (λ _. omega arith));
      references = omega (arith, many.1, h.few.1);
      roots = omega (arith, many.2, h.few.2);
      rooted =
          rw many.0
          (All-from_get_or (λ r. r ≤ h.objects) (take h.roots roots) 0
          (λ i l. let l' : i < h.roots = omega (arith, many.2) in rw (get_or-take h.roots roots i 0 l') (h.rooted i l')));
    }

cells_by_entry : (refs : List ℕ) (es : List ObjectEntry) → cells_in (objects_in refs es) ≡ sum_by (λ e. e.len) es
cells_by_entry refs [] = refl
cells_by_entry refs (e ∷ es) =
    let a = sum_by-cons {X = Object} (λ o. o.len) (object_in refs e) (objects_in refs es) in
    let b = sum_by-cons {X = ObjectEntry} (λ e. e.len) e es in
    omega (arith, a, b, cells_by_entry refs es)

cells_within : (cells most from : ℕ) (os : List Object) → from ≤ cells → Laid cells most from os → from + cells_in os ≤ cells
cells_within cells most from [] f laid = omega arith
cells_within cells most from (o ∷ os) f laid =
    let a = sum_by-cons {X = Object} (λ o. o.len) o os in
    let h = cells_within cells most (o.at + o.len) os laid.2 laid.4 in
    omega (arith, a, h, laid.0)

-- the sum of the lengths is what the objects of a checked heap cover
pub covered_all : (h : CheckedHeap) (sum : ℕ) → sum ≡ sum_by (λ e. e.len) (take h.objects h.object_table.now) → (sum ≡ cells_in (heap_of h).objects) × (sum ≤ h.cells)
covered_all h sum e =
    let a = cells_by_entry h.reference_table.now (take h.objects h.object_table.now) in
    let b = cells_within h.cells _ 0 (heap_of h).objects (omega arith) (lawful h).laid in
    (e ∙ sym a, omega (arith, a, b, e))
