-- The written form of a lawful heap with settings in range is read as that heap and those settings.
use Rattle.std.proofs.Common.{◌≡◌, ℕ, suc, ◌+◌, ◌^◌, ◌≤◌, Bool, true, cond, ◌&&◌, leb, List, [], ◌∷◌, ◌++◌, length, Some, Ok, Err, codes, decimal, sym, refl, ap, ◌∙◌, subst, append_assoc, append-nil, arith}
use Rattle.std.specs.List.{flat_map, AllByRecursion}
use Rattle.std.proofs.ByRecursion.{All-append}
use Rattle.std.proofs.lemmas.List.Sums.{sum_by_push, sum_by-cons}
use Rattle.std.proofs.lemmas.Bool.{le-leb, and_from}
use Rattle.refusal.specs.declared.Refusal.TheVariants.{Form, Range, Overlap, Stranger}
use Rattle.heap.specs.Heap.{Heap, Object, Lawful, Laid, sections_of, end_from, references_in}
use Rattle.listing.specs.declared.settings.Header.{Header}
use Rattle.listing.specs.declared.settings.Settings.{Settings}
use Rattle.listing.specs.declared.settings.SharingRule.{SharingRule}
use Rattle.listing.specs.declared.settings.SharingRule.TheVariants.{New, Old, Both}
use Rattle.listing.specs.Numeral.{numeral, value_of, within}
use Rattle.listing.specs.Pieces.{numbers, numerals, largest}
use Rattle.listing.specs.Rules.{Before, Start, Cells, Width, Markers, Share, Objects, At, Len, Roots, word_of, key_due}
use Rattle.listing.specs.Judge.{value_in, judge_value, judge_from, judge}
use Rattle.listing.specs.Faults.{Right, AllRight, none, one_more}
use Rattle.listing.specs.Written.{line, number_line, list_line, object_lines, listing_lines, written, InRange}
use Rattle.listing.proofs.Mended.{lacks, lacks_append, lines_closed}
use Rattle.listing.proofs.Decimals.{value_of_decimal, numeral_decimal, lacks_decimal, Small, small_from_bound, largest_under, list_text, numbers_of_text, numerals_text, lacks_list}
use Rattle.listing.proofs.Progress.{end_push}
use Rattle.listing.proofs.Refusing.{keyed_value, right_from_judge, judge_past}

-- lines that are read one after the other

-- a line that breaks no rule and has no byte 10
record Line (k : Before) (l : List ℕ) (k' : Before) : Type 0 where
  right : Right k l k'
  plain : lacks 10 l ≡ true

record Reads (k : Before) (ls : List (List ℕ)) (k' : Before) : Type 0 where
  right : AllRight k ls k'
  plain : AllByRecursion (λ l. lacks 10 l ≡ true) ls

reads_none : (k : Before) → Reads k [] k
reads_none k = record { right = none k; plain = tt }

reads_more : (k k' k'' : Before) (l : List ℕ) (ls : List (List ℕ)) → Line k l k' → Reads k' ls k'' → Reads k (l ∷ ls) k''
reads_more k k' k'' l ls a b = record { right = one_more k k' k'' l ls a.right b.right; plain = (a.plain, b.plain) }

right_append : (k : Before) (ls : List (List ℕ)) (k' : Before) (ms : List (List ℕ)) (k'' : Before) → AllRight k ls k' → AllRight k' ms k'' → AllRight k (ls ++ ms) k''
right_append k ls k' ms k'' (none j) b = b
right_append k ls k' ms k'' (one_more j j' j'' l ns r rs) b = one_more j j' k'' l (ns ++ ms) r (right_append j' ns j'' ms k'' rs b)

reads_append : (k k' k'' : Before) (ls ms : List (List ℕ)) → Reads k ls k' → Reads k' ms k'' → Reads k (ls ++ ms) k''
reads_append k k' k'' ls ms a b =
    record {
      right = right_append k ls k' ms k'' a.right b.right;
      plain = All-append (λ l. lacks 10 l ≡ true) ls ms a.plain b.plain;
    }

-- one line

-- a line with the key that is due is judged by its value
line_read : (k k' : Before) (key v : List ℕ) → key_due k ≡ Some key → lacks 10 key ≡ true → lacks 10 v ≡ true → judge_value k (Some v) ≡ Ok k' → Line k (line key v) k'
line_read k k' key v e f g h =
    let s : value_in (key_due k) (line key v) ≡ Some v = ap (λ o. value_in o (line key v)) e ∙ keyed_value (Some key) (line key v) v refl in
    record {
      right = right_from_judge k k' (line key v) (ap (judge_value k) s ∙ h);
      plain = lacks_append 10 key (61 ∷ v) f g;
    }

number_read : (k : Before) (key : List ℕ) (n : ℕ) (b a : ℕ → Bool) (g : ℕ → Before) → key_due k ≡ Some key → lacks 10 key ≡ true
    → ((t : List ℕ) → judge_value k (Some t) ≡ cond (numeral t) (cond (b (value_of t)) (cond (a (value_of t)) (Ok (g (value_of t))) (Err Overlap)) (Err Range)) (Err Form))
    → n ≤ 65535 → b n ≡ true → a n ≡ true → Line k (number_line key n) (g n)
number_read k key n b a g due plain judges l p q =
    let small : suc n ≤ 2 ^ 64 = omega arith in
    let f = numeral_decimal n small in
    let v = value_of_decimal n small in
    line_read k (g n) key (decimal n) due plain (lacks_decimal 10 n (omega arith) small) (judges (decimal n) ∙ rw (f, v, p, q))

list_read : (k : Before) (key ns : List ℕ) (b a : List ℕ → Bool) (g : List ℕ → Before) → key_due k ≡ Some key → lacks 10 key ≡ true
    → ((t : List ℕ) → judge_value k (Some t) ≡ cond (numerals t) (cond (b (numbers t)) (cond (a (numbers t)) (Ok (g (numbers t))) (Err Stranger)) (Err Range)) (Err Form))
    → Small ns → b ns ≡ true → a ns ≡ true → Line k (list_line key ns) (g ns)
list_read k key ns b a g due plain judges s p q =
    let f = numerals_text ns s in
    let v = numbers_of_text ns s in
    line_read k (g ns) key (list_text ns) due plain (lacks_list ns s)
    (judges (list_text ns) ∙ rw f (ap (λ xs. cond (b xs) (cond (a xs) (Ok (g xs)) (Err Stranger)) (Err Range)) v ∙ rw (p, q)))

within_from : (low high n : ℕ) → low ≤ n → n ≤ high → within low high n ≡ true
within_from low high n a b = and_from (leb low n) (leb n high) (le-leb low n a) (le-leb n high b)

share_read : (c w n : ℕ) (s : SharingRule) → Line (Markers c w n) (line (codes "share") (word_of s)) (Share c w n s)
share_read c w n New = line_read (Markers c w n) (Share c w n New) (codes "share") (word_of New) refl refl refl refl
share_read c w n Old = line_read (Markers c w n) (Share c w n Old) (codes "share") (word_of Old) refl refl refl refl
share_read c w n Both = line_read (Markers c w n) (Share c w n Both) (codes "share") (word_of Both) refl refl refl refl

-- the objects

refs_read : (h : Header) (done : List Object) (left : ℕ) (o : Object) → h.objects ≤ 65535 → AllByRecursion (λ r. r ≤ h.objects) o.refs → references_in done + length o.refs ≤ 262144
    → Line (Len h done left o.at o.len) (list_line (codes "refs") o.refs) (Objects h (done ++ o ∷ []) left)
refs_read h done left o few known room =
    let top = largest_under o.refs h.objects known in
    let low : largest o.refs ≤ 65535 = omega arith in
    list_read (Len h done left o.at o.len) (codes "refs") o.refs (λ ns. leb (largest ns) 65535 && leb (references_in done + length ns) 262144) (λ ns. leb (largest ns) h.objects)
    (λ ns. Objects h (done ++ record { at = o.at; len = o.len; refs = ns } ∷ []) left) refl refl (λ t. refl)
    (small_from_bound o.refs h.objects (omega arith) known)
    (and_from (leb (largest o.refs) 65535) (leb (references_in done + length o.refs) 262144) (le-leb (largest o.refs) 65535 low) (le-leb (references_in done + length o.refs) 262144 room))
    (le-leb (largest o.refs) h.objects top)

objects_read : (h : Header) (done rest : List Object) → h.cells ≤ 65535 → h.objects ≤ 65535 → Laid h.cells h.objects (end_from 0 done) rest
    → references_in done + references_in rest ≤ 262144 → Reads (Objects h done (length rest)) (flat_map object_lines rest) (Objects h (done ++ rest) 0)
objects_read h done [] long few laid room = subst (λ xs. Reads (Objects h done 0) [] (Objects h xs 0)) (sym (append-nil done)) (reads_none (Objects h done 0))
objects_read h done (o ∷ os) long few laid room =
    let left : ℕ = length os in
    let end : end_from 0 (done ++ o ∷ []) ≡ o.at + o.len = end_push 0 done o in
    let pushed = sum_by_push {X = Object} (λ o. length o.refs) done o in
    let first = sum_by-cons {X = Object} (λ o. length o.refs) o os in
    let here : references_in done + length o.refs ≤ 262144 = omega arith in
    let next : references_in (done ++ o ∷ []) + references_in os ≤ 262144 = omega arith in
    let inside = laid.2 in
    let more = objects_read h (done ++ o ∷ []) os long few (subst (λ n. Laid h.cells h.objects n os) (sym end) laid.4) next in
    let more' : Reads (Objects h (done ++ o ∷ []) left) (flat_map object_lines os) (Objects h (done ++ o ∷ os) 0) =
    subst (λ xs. Reads (Objects h (done ++ o ∷ []) left) (flat_map object_lines os) (Objects h xs 0)) (append_assoc done (o ∷ []) os) more in
    let at-line : Line (Objects h done (suc left)) (number_line (codes "at") o.at) (At h done left o.at) =
    number_read (Objects h done (suc left)) (codes "at") o.at (λ n. within 0 65535 n) (λ n. leb (end_from 0 done) n) (At h done left) refl refl (λ t. refl)
    (omega arith) (within_from 0 65535 o.at (omega arith) (omega arith)) (le-leb (end_from 0 done) o.at laid.0) in
    let len-line : Line (At h done left o.at) (number_line (codes "len") o.len) (Len h done left o.at o.len) =
    number_read (At h done left o.at) (codes "len") o.len (λ n. within 1 65535 n) (λ n. leb (o.at + n) h.cells) (Len h done left o.at) refl refl (λ t. refl)
    (omega arith) (within_from 1 65535 o.len laid.1 (omega arith)) (le-leb (o.at + o.len) h.cells inside) in
    reads_more (Objects h done (suc left)) (At h done left o.at) (Objects h (done ++ o ∷ os) 0) (number_line (codes "at") o.at) _ at-line
    (reads_more (At h done left o.at) (Len h done left o.at o.len) (Objects h (done ++ o ∷ os) 0) (number_line (codes "len") o.len) _ len-line
    (reads_more (Len h done left o.at o.len) (Objects h (done ++ o ∷ []) left) (Objects h (done ++ o ∷ os) 0) (list_line (codes "refs") o.refs) _
    (refs_read h done left o few laid.3 here) more'))

-- the whole listing

listing_read : (h : Heap) (s : Settings) → Lawful h → InRange s
    → Reads Start (listing_lines h s)
    (Roots (record { cells = h.cells; width = h.width; markers = s.markers; share = s.share; objects = length h.objects }) h.objects h.roots)
listing_read h s law range =
    reads_more Start (Cells c) end (number_line (codes "cells") c) _
    (number_read Start (codes "cells") c (λ n. within 1 65535 n) (λ n. true) Cells refl refl (λ t. refl)
    law.cells.1 (within_from 1 65535 c law.cells.0 law.cells.1) refl)
    (reads_more (Cells c) (Width c w) end (number_line (codes "width") w) _
    (number_read (Cells c) (codes "width") w (λ n. within 1 65535 n && leb (sections_of c n) 64) (λ n. true) (Width c) refl refl (λ t. refl)
    law.width.1 (and_from (within 1 65535 w) (leb (sections_of c w) 64) (within_from 1 65535 w law.width.0 law.width.1) (le-leb (sections_of c w) 64 law.sections)) refl)
    (reads_more (Width c w) (Markers c w m) end (number_line (codes "markers") m) _
    (number_read (Width c w) (codes "markers") m (λ n. within 1 16 n) (λ n. true) (Markers c w) refl refl (λ t. refl)
    (omega (arith, range.1)) (within_from 1 16 m range.0 range.1) refl)
    (reads_more (Markers c w m) (Share c w m r) end (line (codes "share") (word_of r)) _ (share_read c w m r)
    (reads_more (Share c w m r) (Objects hd [] o) end (number_line (codes "objects") o) _
    (number_read (Share c w m r) (codes "objects") o (λ n. within 0 65535 n) (λ n. true) counting refl refl (λ t. refl)
    law.objects (within_from 0 65535 o (omega arith) law.objects) refl)
    (reads_append (Objects hd [] o) (Objects hd h.objects 0) end (flat_map object_lines h.objects) (list_line (codes "roots") h.roots ∷ [])
    (objects_read hd [] h.objects law.cells.1 law.objects law.laid (omega (arith, law.references)))
    (reads_more (Objects hd h.objects 0) end end (list_line (codes "roots") h.roots) [] roots_line (reads_none end)))))))
  where
    c : ℕ
    c = h.cells

    w : ℕ
    w = h.width

    m : ℕ
    m = s.markers

    r : SharingRule
    r = s.share

    o : ℕ
    o = length h.objects

    hd : Header
    hd = record { cells = c; width = w; markers = m; share = r; objects = o }

    counting : ℕ → Before
    counting n = Objects (record { cells = c; width = w; markers = m; share = r; objects = n }) [] n

    end : Before
    end = Roots hd h.objects h.roots

    roots_line : Line (Objects hd h.objects 0) (list_line (codes "roots") h.roots) end
    roots_line =
        let top = largest_under h.roots o law.rooted in
        let few = law.objects in
        let low : largest h.roots ≤ 65535 = omega arith in
        list_read (Objects hd h.objects 0) (codes "roots") h.roots (λ ns. leb (largest ns) 65535 && leb (length ns) 4096) (λ ns. leb (largest ns) o)
        (λ ns. Roots hd h.objects ns) refl refl (λ t. refl) (small_from_bound h.roots o (omega arith) law.rooted)
        (and_from (leb (largest h.roots) 65535) (leb (length h.roots) 4096) (le-leb (largest h.roots) 65535 low) (le-leb (length h.roots) 4096 law.roots))
        (le-leb (largest h.roots) o top)

pub read_back : (h : Heap) (s : Settings) → Lawful h → InRange s → judge (written h s) ≡ Ok (h, s)
read_back h s law range =
    let r = listing_read h s law range in
    ap (judge_from Start 1) (lines_closed (listing_lines h s) r.plain) ∙ judge_past Start (listing_lines h s) _ 1 [] [] r.right
