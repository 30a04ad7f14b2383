-- Filling the tables, one object after the other.
use Rattle.std.proofs.Common.{◌≡◌, ℕ, ◌+◌, ◌<◌, List, [], ◌∷◌, ◌++◌, length, get_or, take, drop, set, sym, ap, ◌∙◌, add-zero, append-nil, arith}
use Rattle.std.proofs.lemmas.List.{append_assoc, length-take, length_push, drop-drop, drop_at, drop_more, drop_all, take_at, set_at, flat_map_more}
use Rattle.std.proofs.lemmas.List.Sums.{sum_by_push, sum_by-cons}
use Rattle.heap.specs.declared.entry.ObjectEntry.{ObjectEntry}
use Rattle.heap.specs.Heap.{Heap, Object, references_in}
use Rattle.heap.specs.Tables.{Tables, blank, entries_from, references_of}
use Rattle.heap.proofs.Filled.{length_entries, length_references}
use Rattle.listing.specs.Filling.{with_roots, with_objects, with_heap}
use Rattle.listing.specs.declared.settings.Header.{Header}
use Rattle.listing.specs.declared.settings.Settings.{Settings}
use Rattle.listing.proofs.Checked.{heap_read}

abbrev pub entry_of : ℕ → Object → ObjectEntry
entry_of first o = record { at = o.at; len = o.len; first = first; count = length o.refs }

entries_push : (first : ℕ) (os : List Object) (o : Object) → entries_from first (os ++ o ∷ []) ≡ entries_from first os ++ entry_of (first + references_in os) o ∷ []
entries_push first [] o = ap (λ n. entry_of n o ∷ []) (sym (add-zero first))
entries_push first (p ∷ os) o =
    let n : first + length p.refs + references_in os ≡ first + references_in (p ∷ os) = omega (arith, sum_by-cons {X = Object} (λ o. length o.refs) p os) in
    ap (λ es. entry_of first p ∷ es) (entries_push (first + length p.refs) os o ∙ ap (λ m. entries_from (first + length p.refs) os ++ entry_of m o ∷ []) n)

-- one more entry behind those that are filled in
pub object_filled : (old : List ObjectEntry) (os : List Object) (o : Object) (i n count : ℕ) → length os ≡ i → i < length old → references_in os ≡ n → count ≡ length o.refs
    → set (entries_from 0 os ++ drop (length os) old) i (record { at = o.at; len = o.len; first = n; count = count }) ≡ entries_from 0 (os ++ o ∷ []) ++ drop (length (os ++ o ∷ [])) old
object_filled old os o i n count e l r c =
    let m : length (entries_from 0 os) ≡ i = length_entries 0 os ∙ e in
    let d : drop (length os) old ≡ get_or old i blank ∷ drop (i + 1) old = ap (λ m. drop m old) e ∙ drop_more old i blank l in
    let p : length (os ++ o ∷ []) ≡ i + 1 = length_push os o ∙ ap (λ m. m + 1) e in
    let f : n ≡ 0 + references_in os = omega (arith, r) in
    ap (λ xs. set (entries_from 0 os ++ xs) i (record { at = o.at; len = o.len; first = n; count = count })) d
    ∙ set_at (entries_from 0 os) (get_or old i blank) (drop (i + 1) old) (record { at = o.at; len = o.len; first = n; count = count }) i m
    ∙ ap (λ k. entries_from 0 os ++ record { at = o.at; len = o.len; first = k; count = count } ∷ drop (i + 1) old) f
    ∙ ap (λ k. entries_from 0 os ++ record { at = o.at; len = o.len; first = 0 + references_in os; count = k } ∷ drop (i + 1) old) c
    ∙ sym (append_assoc (entries_from 0 os) (entry_of (0 + references_in os) o ∷ []) (drop (i + 1) old))
    ∙ ap (λ xs. xs ++ drop (i + 1) old) (sym (entries_push 0 os o))
    ∙ ap (λ m. entries_from 0 (os ++ o ∷ []) ++ drop m old) (sym p)

-- the references of one more object behind those that are filled in
pub references_filled : (old now refs : List ℕ) (os : List Object) (o : Object) (n count : ℕ) → now ≡ references_of os ++ drop (references_in os) old → refs ≡ o.refs
    → references_in os ≡ n → count ≡ length o.refs → take n now ++ (refs ++ drop count (drop n now)) ≡ references_of (os ++ o ∷ []) ++ drop (references_in (os ++ o ∷ [])) old
references_filled old now refs os o n count w f e c =
    let here : length (references_of os) ≡ n = length_references os ∙ e in
    let m : references_in (os ++ o ∷ []) ≡ n + count = omega (arith, sum_by_push {X = Object} (λ o. length o.refs) os o, e, c) in
    let front : take n now ≡ references_of os = ap (take n) w ∙ take_at (references_of os) (drop (references_in os) old) n here in
    let back : drop count (drop n now) ≡ drop (n + count) old =
    ap (λ xs. drop count (drop n xs)) w ∙ ap (drop count) (drop_at (references_of os) (drop (references_in os) old) n here ∙ ap (λ k. drop k old) e)
    ∙ drop-drop count n old in
    ap (λ xs. xs ++ (refs ++ drop count (drop n now))) front
    ∙ ap (λ xs. references_of os ++ (xs ++ drop count (drop n now))) f
    ∙ ap (λ xs. references_of os ++ (o.refs ++ xs)) back
    ∙ sym (append_assoc (references_of os) o.refs (drop (n + count) old))
    ∙ ap (λ xs. xs ++ drop (n + count) old) (flat_map_more (λ o. o.refs) [] os o)
    ∙ ap (λ k. references_of (os ++ o ∷ []) ++ drop k old) (sym m)

-- the tables once the entries are in the first n places, and the references in theirs
pub tables_filled : (t : Tables) (os : List Object) (n : ℕ) (entries : List ObjectEntry) (references : List ℕ) → length os ≡ n
    → entries ≡ entries_from 0 os ++ drop (length os) (take n t.object_table) → references ≡ references_of os ++ drop (references_in os) t.reference_table
    → record t { object_table = entries ++ drop n t.object_table; reference_table = references } ≡ with_objects os t
tables_filled t os n entries references l e r =
    let none : drop (length os) (take n t.object_table) ≡ [] = drop_all (length os) (take n t.object_table) (omega (arith, l, length-take n t.object_table)) in
    let all : entries ++ drop n t.object_table ≡ entries_from 0 os ++ drop (length os) t.object_table =
    ap (λ xs. xs ++ drop n t.object_table) (e ∙ ap (λ xs. entries_from 0 os ++ xs) none ∙ append-nil (entries_from 0 os)) ∙ ap (λ m. entries_from 0 os ++ drop m t.object_table) (sym l) in
    ap (λ xs. record t { object_table = xs; reference_table = references }) all
    ∙ ap (λ xs. record t { object_table = entries_from 0 os ++ drop (length os) t.object_table; reference_table = xs }) r

-- the tables once the roots are filled in too
pub roots_filled : (old now : Tables) (h : Header) (os : List Object) (rs : List ℕ) (count : ℕ) (x : Heap × Settings) → now ≡ with_objects os old
    → count ≡ length rs → x ≡ heap_read h os rs → with_roots count rs now ≡ with_heap x.0 old
roots_filled old now h os rs count x e c s =
    ap (with_roots count rs) e ∙ ap (λ n. with_roots n rs (with_objects os old)) c ∙ ap (λ y. with_heap y.0 old) (sym s)
