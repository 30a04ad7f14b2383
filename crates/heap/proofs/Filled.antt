-- What is known of each place of the tables that hold a lawful heap.
use Rattle.std.proofs.Common.{◌≡◌, ℕ, zero, suc, ◌+◌, ◌<◌, ◌≤◌, List, [], ◌∷◌, ◌++◌, length, take, drop, sum_by, sym, refl, ap, ◌∙◌, add-zero, zero-add, add-one, arith}
use Rattle.std.specs.List.{AllByRecursion}
use Rattle.std.proofs.lemmas.List.{length-append, get_or_append_left, take-append-le, take_all, take_at, drop_at, append_assoc}
use Rattle.std.proofs.lemmas.List.Sums.{sum_by-cons}
use Rattle.std.proofs.ByRecursion.{All-append, All-get_or}
use Rattle.heap.specs.declared.entry.ObjectEntry.{ObjectEntry}
use Rattle.heap.specs.Kept.{Kept}
use Rattle.heap.specs.Heap.{Object, Heap, Laid, Lawful, references_in}
use Rattle.heap.specs.Tables.{Tables, blank, entry_at, counted_to, object_in, objects_in, entries_from, references_of, filled, heap_in}

pub length_entries : (first : ℕ) (os : List Object) → length (entries_from first os) ≡ length os
length_entries first [] = refl
length_entries first (o ∷ os) = ap suc (length_entries (first + length o.refs) os)

pub length_references : (os : List Object) → length (references_of os) ≡ references_in os
length_references [] = refl
length_references (o ∷ os) =
    let a = sum_by-cons {X = Object} (λ o. length o.refs) o os in
    omega (arith, a, length_references os, length-append o.refs (references_of os))

inside_entries : (cells most from first : ℕ) (os : List Object) → Laid cells most from os → (k : ℕ) → k < length os
    → (1 ≤ (entry_at (entries_from first os) k).len) × ((entry_at (entries_from first os) k).at + (entry_at (entries_from first os) k).len ≤ cells)
inside_entries cells most from first [] laid k l = absurd (omega arith)
inside_entries cells most from first (o ∷ os) laid zero l = (laid.1, laid.2)
inside_entries cells most from first (o ∷ os) laid (suc k) l = inside_entries cells most (o.at + o.len) (first + length o.refs) os laid.4 k (omega arith)

apart_entries : (cells most from first : ℕ) (os : List Object) → Laid cells most from os → (k : ℕ) → suc k < length os
    → (entry_at (entries_from first os) k).at + (entry_at (entries_from first os) k).len ≤ (entry_at (entries_from first os) (suc k)).at
apart_entries cells most from first [] laid k l = absurd (omega arith)
apart_entries cells most from first (o ∷ []) laid k l = absurd (omega arith)
apart_entries cells most from first (o ∷ p ∷ os) laid zero l = laid.4.0
apart_entries cells most from first (o ∷ p ∷ os) laid (suc k) l = apart_entries cells most (o.at + o.len) (first + length o.refs) (p ∷ os) laid.4 k (omega arith)

follow_entries : (first : ℕ) (os : List Object) (k : ℕ) → k < length os → (entry_at (entries_from first os) k).first ≡ first + counted_to k (entries_from first os)
follow_entries first [] k l = absurd (omega arith)
follow_entries first (o ∷ os) zero l = sym (add-zero first)
follow_entries first (o ∷ os) (suc k) l =
    let next : ℕ = first + length o.refs in
    let h = follow_entries next os k (omega arith) in
    let a = sum_by-cons {X = ObjectEntry} (λ e. e.count) (record { at = o.at; len = o.len; first = first; count = length o.refs }) (take k (entries_from next os)) in
    omega (arith, h, a)

counted_entries : (first : ℕ) (os : List Object) → sum_by (λ e. e.count) (entries_from first os) ≡ references_in os
counted_entries first [] = refl
counted_entries first (o ∷ os) =
    let next : ℕ = first + length o.refs in
    let a = sum_by-cons {X = ObjectEntry} (λ e. e.count) (record { at = o.at; len = o.len; first = first; count = length o.refs }) (entries_from next os) in
    let b = sum_by-cons {X = Object} (λ o. length o.refs) o os in
    omega (arith, a, b, counted_entries next os)

known_references : (cells most from : ℕ) (os : List Object) → Laid cells most from os → AllByRecursion (λ r. r ≤ most) (references_of os)
known_references cells most from [] laid = tt
known_references cells most from (o ∷ os) laid =
    All-append (λ r. r ≤ most) o.refs (references_of os) laid.3 (known_references cells most (o.at + o.len) os laid.4)

pub filled_kept : (h : Heap) (t : Tables) → Lawful h → Kept (filled h t)
filled_kept h t law =
    let os : List Object = h.objects in
    let es : List ObjectEntry = entries_from 0 os in
    let behind : List ObjectEntry = drop (length os) t.object_table in
    let size : length es ≡ length os = length_entries 0 os in
    let at : (k : ℕ) → k < length os → entry_at (es ++ behind) k ≡ entry_at es k = λ k l. get_or_append_left es behind blank k (omega arith) in
    let to : (k : ℕ) → k ≤ length os → counted_to k (es ++ behind) ≡ counted_to k es =
    λ k l. ap (sum_by (λ e. e.count)) (take-append-le k es behind (omega arith)) in
    record {
      long = law.cells;
      wide = law.width;
      cut = law.sections;
      few = (law.objects, law.references, law.roots);
      held = (
        omega (arith, length-append es behind, size),
        omega (arith, length-append (references_of os) (drop (references_in os) t.reference_table), length_references os),
        omega (arith, length-append h.roots (drop (length h.roots) t.root_table)),
      );
      inside = λ k l. rw (at k l) (inside_entries _ _ 0 0 os law.laid k l);
      apart =
          λ k l.
          let l' : k < length os = omega arith in
          let m : suc k < length os = omega arith in
          rw (add-one, at k l', at (suc k) m) (apart_entries _ _ 0 0 os law.laid k m);
      follow = λ k l. rw (at k l) (follow_entries 0 os k l ∙ zero-add _ ∙ sym (to k (omega arith)));
      counted =
          let e : counted_to (length os) es ≡ references_in os = ap (sum_by (λ e. e.count)) (take_all (length os) es (omega arith)) ∙ counted_entries 0 os in
          sym (to (length os) (omega arith) ∙ e);
      known =
          λ k l.
          let l' : k < length (references_of os) = omega (arith, length_references os) in
          rw (get_or_append_left (references_of os) _ 0 k l') (All-get_or (λ r. r ≤ length os) (references_of os) k 0 l' (known_references _ _ 0 os law.laid));
      rooted = λ k l. rw (get_or_append_left h.roots _ 0 k l) (All-get_or (λ r. r ≤ length os) h.roots k 0 l law.rooted);
    }

-- the entries of objects, over a reference table that holds their references from `first` on, give the objects back
objects_back : (os : List Object) (first : ℕ) (before behind refs : List ℕ) → first ≡ length before → refs ≡ before ++ (references_of os ++ behind)
    → objects_in refs (entries_from first os) ≡ os
objects_back [] first before behind refs f e = refl
objects_back (o ∷ os) first before behind refs f e =
    let own : drop first refs ≡ o.refs ++ (references_of os ++ behind) =
    ap (drop first) e ∙ drop_at before _ first (sym f) ∙ append_assoc o.refs (references_of os) behind in
    let got : take (length o.refs) (drop first refs) ≡ o.refs = ap (take (length o.refs)) own ∙ take_at o.refs _ _ refl in
    let next : first + length o.refs ≡ length (before ++ o.refs) = omega (arith, f, length-append before o.refs) in
    let more : refs ≡ (before ++ o.refs) ++ (references_of os ++ behind) =
    e ∙ ap (λ xs. before ++ xs) (append_assoc o.refs (references_of os) behind) ∙ sym (append_assoc before o.refs (references_of os ++ behind)) in
    let rest = objects_back os (first + length o.refs) (before ++ o.refs) behind refs next more in
    let here : object_in refs (record { at = o.at; len = o.len; first = first; count = length o.refs }) ≡ o =
    ap (λ xs. record { at = o.at; len = o.len; refs = xs }) got in
    ap (λ p. p ∷ objects_in refs (entries_from (first + length o.refs) os)) here ∙ ap (λ xs. o ∷ xs) rest

-- tables that were filled with a heap hold it
pub heap_back : (h : Heap) (t : Tables) → heap_in (filled h t) ≡ h
heap_back h t =
    let os : List Object = h.objects in
    let a : take (length os) (entries_from 0 os ++ drop (length os) t.object_table) ≡ entries_from 0 os = take_at (entries_from 0 os) _ _ (length_entries 0 os) in
    let b : objects_in (filled h t).reference_table (entries_from 0 os) ≡ os =
    objects_back os 0 [] (drop (references_in os) t.reference_table) (filled h t).reference_table refl refl in
    let c : take (length h.roots) (filled h t).root_table ≡ h.roots = take_at h.roots _ _ refl in
    ap (λ xs. record { cells = h.cells; width = h.width; objects = xs; roots = take (length h.roots) (filled h t).root_table })
    (ap (objects_in (filled h t).reference_table) a ∙ b)
    ∙ ap (λ xs. record { cells = h.cells; width = h.width; objects = os; roots = xs }) c
