-- A text that is accepted is the written form of the heap and the settings that are read of it, and these are lawful.
use Rattle.std.proofs.Common.{◌≡◌, ℕ, zero, suc, ◌+◌, ◌≤◌, Bool, true, false, cond, ◌&&◌, leb, List, [], ◌∷◌, ◌++◌, length, Some, None, Ok, Err, codes, Option, Result, sym, refl, ap, ◌∙◌, subst, append_assoc, arith}
use Rattle.std.specs.List.{flat_map, AllByRecursion}
use Rattle.std.proofs.lemmas.List.{length_push, flat_map_more}
use Rattle.std.proofs.lemmas.List.Sums.{sum_by_push}
use Rattle.std.proofs.lemmas.Bool.{leb-true, and_parts}
use Rattle.refusal.specs.declared.Refusal.{Refusal}
use Rattle.refusal.specs.declared.Refusal.TheVariants.{Form, Range, Overlap, Stranger}
use Rattle.heap.specs.Heap.{Heap, Object, Lawful, Laid, sections_of, end_from, references_in}
use Rattle.listing.specs.declared.settings.Header.{Header}
use Rattle.listing.specs.declared.settings.Settings.{Settings}
use Rattle.listing.specs.Numeral.{numeral, value_of, within}
use Rattle.listing.specs.Pieces.{numbers, numerals, largest, past, up_to}
use Rattle.listing.specs.Rules.{Before, Start, Cells, Width, Markers, Share, Objects, At, Len, Roots, word_of, key_due, formed, bounded, apart, known, after}
use Rattle.listing.specs.Judge.{then, on_line, value_in, judge_value, judge_line, whole, ending, judge_from, judge}
use Rattle.listing.specs.Faults.{Values}
use Rattle.listing.specs.Written.{line, number_line, list_line, object_lines, listing_lines, written, InRange}
use Rattle.listing.proofs.Cuts.{pieces_step, pieces_of}
use Rattle.listing.proofs.Mended.{text_closed}
use Rattle.listing.proofs.Decimals.{decimal_of_value, text_of_numbers, word_of_rule, all_under_largest, small_from_bound}
use Rattle.listing.proofs.Refusing.{value_keyed}

-- a line that passes its rules

record Passed (k : Before) (l : List ℕ) (k' : Before) : Type 0 where
  value : List ℕ
  has : Values k l value
  form : formed k value ≡ true
  range : bounded k value ≡ true
  clear : apart k value ≡ true
  kept : known k value ≡ true
  says : k' ≡ after k value

passed : (k : Before) (l : List ℕ) (k' : Before) → judge_line k l ≡ Ok k' → Passed k l k'
passed k l k' e = by (value_in (key_due k) l) refl e
  where
    split : (v : List ℕ) → value_in (key_due k) l ≡ Some v → (x y z w : Bool) → formed k v ≡ x → bounded k v ≡ y → apart k v ≡ z → known k v ≡ w
        → cond x (cond y (cond z (cond w (Ok (after k v)) (Err Stranger)) (Err Overlap)) (Err Range)) (Err Form) ≡ Ok k' → Passed k l k'
    split v h true true true true a b c d q =
        record { value = v; has = value_keyed (key_due k) l v h; form = a; range = b; clear = c; kept = d; says = (cc) }
    split v h true true true false a b c d q = let z : ◌≡◌ {A = ℕ} 0 1 = cc in absurd (omega arith)
    split v h true true false w a b c d q = let z : ◌≡◌ {A = ℕ} 0 1 = cc in absurd (omega arith)
    split v h true false z w a b c d q = let z : ◌≡◌ {A = ℕ} 0 1 = cc in absurd (omega arith)
    split v h false y z w a b c d q = let z : ◌≡◌ {A = ℕ} 0 1 = cc in absurd (omega arith)

    by : (o : Option (List ℕ)) → value_in (key_due k) l ≡ o → judge_value k o ≡ Ok k' → Passed k l k'
    by None h q = let z : ◌≡◌ {A = ℕ} 0 1 = cc in absurd (omega arith)
    by (Some v) h q = split v h (formed k v) (bounded k v) (apart k v) (known k v) refl refl refl refl q

-- the bounds of what was said

record Sized (cells width : ℕ) : Type 0 where
  long : (1 ≤ cells) × (cells ≤ 65535)
  wide : (1 ≤ width) × (width ≤ 65535)
  cut : sections_of cells width ≤ 64

record Listed (h : Header) (done : List Object) (left : ℕ) : Type 0 where
  sized : Sized h.cells h.width
  marked : (1 ≤ h.markers) × (h.markers ≤ 16)
  few : h.objects ≤ 65535
  counted : length done + left ≡ h.objects
  laid : Laid h.cells h.objects 0 done
  references : references_in done ≤ 262144

abbrev Good : Before → Type 0
Good Start = Unit {0}
Good (Cells c) = (1 ≤ c) × (c ≤ 65535)
Good (Width c w) = Sized c w
Good (Markers c w n) = Sized c w × ((1 ≤ n) × (n ≤ 16))
Good (Share c w n s) = Sized c w × ((1 ≤ n) × (n ≤ 16))
Good (Objects h done left) = Listed h done left
Good (At h done left a) = Listed h done (suc left) × (end_from 0 done ≤ a)
Good (Len h done left a l) = Listed h done (suc left) × (end_from 0 done ≤ a) × (1 ≤ l) × (a + l ≤ h.cells)
Good (Roots h done rs) = Listed h done 0 × (length rs ≤ 4096) × AllByRecursion (λ r. r ≤ h.objects) rs

within_parts : (low high v : ℕ) → within low high v ≡ true → (low ≤ v) × (v ≤ high)
within_parts low high v e = let p = and_parts (leb low v) (leb v high) e in (leb-true low v p.0, leb-true v high p.1)

both_leb : (a b c d : ℕ) → (leb a b && leb c d) ≡ true → (a ≤ b) × (c ≤ d)
both_leb a b c d e = let p = and_parts (leb a b) (leb c d) e in (leb-true a b p.0, leb-true c d p.1)

laid_push : (cells most from : ℕ) (os : List Object) (o : Object) → Laid cells most from os → end_from from os ≤ o.at → 1 ≤ o.len → o.at + o.len ≤ cells
    → AllByRecursion (λ r. r ≤ most) o.refs → Laid cells most from (os ++ o ∷ [])
laid_push cells most from [] o laid a b c d = (a, b, c, d, tt)
laid_push cells most from (p ∷ os) o laid a b c d =
    (laid.0, laid.1, laid.2, laid.3, laid_push cells most (p.at + p.len) os o laid.4 a b c d)

listed_push : (h : Header) (done : List Object) (left : ℕ) (o : Object) → Listed h done (suc left) → end_from 0 done ≤ o.at → 1 ≤ o.len → o.at + o.len ≤ h.cells
    → AllByRecursion (λ r. r ≤ h.objects) o.refs → references_in done + length o.refs ≤ 262144 → Listed h (done ++ o ∷ []) left
listed_push h done left o g a b c d e =
    record {
      sized = g.sized;
      marked = g.marked;
      few = g.few;
      counted = omega (arith, g.counted, length_push done o);
      laid = laid_push h.cells h.objects 0 done o g.laid a b c d;
      references = omega (arith, e, sum_by_push {X = Object} (λ o. length o.refs) done o);
    }

stays_good : (k : Before) (v : List ℕ) → Good k → bounded k v ≡ true → apart k v ≡ true → known k v ≡ true → Good (after k v)
stays_good Start v g b a n = within_parts 1 65535 (value_of v) b
stays_good (Cells c) v g b a n =
    let p = and_parts (within 1 65535 (value_of v)) (leb (sections_of c (value_of v)) 64) b in
    record { long = g; wide = within_parts 1 65535 (value_of v) p.0; cut = leb-true (sections_of c (value_of v)) 64 p.1 }
stays_good (Width c w) v g b a n = (g, within_parts 1 16 (value_of v) b)
stays_good (Markers c w m) v g b a n = g
stays_good (Share c w m s) v g b a n =
    record {
      sized = g.0;
      marked = g.1;
      few = (within_parts 0 65535 (value_of v) b).1;
      counted = omega arith;
      laid = tt;
      references = omega arith;
    }
stays_good (Objects h done (suc left)) v g b a n = (g, leb-true (end_from 0 done) (value_of v) a)
stays_good (Objects h done zero) v g b a n =
    (g, (both_leb (largest (numbers v)) 65535 (length (numbers v)) 4096 b).1, all_under_largest (numbers v) h.objects (leb-true (largest (numbers v)) h.objects n))
stays_good (At h done left at) v g b a n = (g.0, g.1, (within_parts 1 65535 (value_of v) b).0, leb-true (at + value_of v) h.cells a)
stays_good (Len h done left at len) v g b a n =
    listed_push h done left (record { at = at; len = len; refs = numbers v }) g.0 g.1 g.2 g.3
    (all_under_largest (numbers v) h.objects (leb-true (largest (numbers v)) h.objects n))
    (both_leb (largest (numbers v)) 65535 (references_in done + length (numbers v)) 262144 b).1
stays_good (Roots h done rs) v g b a n = g

-- the lines that say it

abbrev header_lines : Header → List (List ℕ)
header_lines h =
    number_line (codes "cells") h.cells
    ∷ number_line (codes "width") h.width
    ∷ number_line (codes "markers") h.markers
    ∷ line (codes "share") (word_of h.share)
    ∷ number_line (codes "objects") h.objects
    ∷ []

abbrev said_lines : Before → List (List ℕ)
said_lines Start = []
said_lines (Cells c) = number_line (codes "cells") c ∷ []
said_lines (Width c w) = number_line (codes "cells") c ∷ number_line (codes "width") w ∷ []
said_lines (Markers c w n) = number_line (codes "cells") c ∷ number_line (codes "width") w ∷ number_line (codes "markers") n ∷ []
said_lines (Share c w n s) =
    number_line (codes "cells") c ∷ number_line (codes "width") w ∷ number_line (codes "markers") n ∷ line (codes "share") (word_of s) ∷ []
said_lines (Objects h done left) = header_lines h ++ flat_map object_lines done
said_lines (At h done left a) = (header_lines h ++ flat_map object_lines done) ++ number_line (codes "at") a ∷ []
said_lines (Len h done left a l) = (header_lines h ++ flat_map object_lines done) ++ number_line (codes "at") a ∷ number_line (codes "len") l ∷ []
said_lines (Roots h done rs) = (header_lines h ++ flat_map object_lines done) ++ list_line (codes "roots") rs ∷ []

number_line_said : (key v l : List ℕ) → numeral v ≡ true → value_of v ≤ 65535 → l ≡ key ++ 61 ∷ v → l ≡ number_line key (value_of v)
number_line_said key v l f b e = e ∙ ap (line key) (sym (decimal_of_value v f (omega arith)))

list_line_said : (key v l : List ℕ) → numerals v ≡ true → largest (numbers v) ≤ 65535 → l ≡ key ++ 61 ∷ v → l ≡ list_line key (numbers v)
list_line_said key v l f b e =
    e ∙ ap (line key) (sym (text_of_numbers v f (small_from_bound (numbers v) 65535 (omega arith) (all_under_largest (numbers v) 65535 b))))

says_line : (k : Before) (l v : List ℕ) → Values k l v → formed k v ≡ true → bounded k v ≡ true → said_lines k ++ l ∷ [] ≡ said_lines (after k v)
says_line Start l v e f b = ap (λ x. x ∷ []) (number_line_said (codes "cells") v l f (within_parts 1 65535 (value_of v) b).1 e)
says_line (Cells c) l v e f b =
    let p = and_parts (within 1 65535 (value_of v)) (leb (sections_of c (value_of v)) 64) b in
    ap (λ x. said_lines (Cells c) ++ x ∷ []) (number_line_said (codes "width") v l f (within_parts 1 65535 (value_of v) p.0).1 e)
says_line (Width c w) l v e f b =
    let p = within_parts 1 16 (value_of v) b in
    ap (λ x. said_lines (Width c w) ++ x ∷ []) (number_line_said (codes "markers") v l f (omega arith) e)
says_line (Markers c w n) l v e f b = ap (λ x. said_lines (Markers c w n) ++ x ∷ []) (e ∙ ap (line (codes "share")) (sym (word_of_rule v f)))
says_line (Share c w n s) l v e f b =
    ap (λ x. said_lines (Share c w n s) ++ x ∷ []) (number_line_said (codes "objects") v l f (within_parts 0 65535 (value_of v) b).1 e)
says_line (Objects h done (suc left)) l v e f b =
    ap (λ x. (header_lines h ++ flat_map object_lines done) ++ x ∷ []) (number_line_said (codes "at") v l f (within_parts 0 65535 (value_of v) b).1 e)
says_line (Objects h done zero) l v e f b =
    ap (λ x. (header_lines h ++ flat_map object_lines done) ++ x ∷ [])
    (list_line_said (codes "roots") v l f (both_leb (largest (numbers v)) 65535 (length (numbers v)) 4096 b).0 e)
says_line (At h done left a) l v e f b =
    append_assoc (header_lines h ++ flat_map object_lines done) (number_line (codes "at") a ∷ []) (l ∷ [])
    ∙ ap (λ x. (header_lines h ++ flat_map object_lines done) ++ number_line (codes "at") a ∷ x ∷ [])
    (number_line_said (codes "len") v l f (within_parts 1 65535 (value_of v) b).1 e)
says_line (Len h done left a n) l v e f b =
    append_assoc (header_lines h ++ flat_map object_lines done) (number_line (codes "at") a ∷ number_line (codes "len") n ∷ []) (l ∷ [])
    ∙ ap (λ x. (header_lines h ++ flat_map object_lines done) ++ number_line (codes "at") a ∷ number_line (codes "len") n ∷ x ∷ [])
    (list_line_said (codes "refs") v l f (both_leb (largest (numbers v)) 65535 (references_in done + length (numbers v)) 262144 b).0 e)
    ∙ flat_map_more object_lines (header_lines h) done (record { at = a; len = n; refs = numbers v })
says_line (Roots h done rs) l v e f b = absurd e

-- the whole text

-- the lines ls are those of a lawful heap and settings in range, and nothing stands behind them
abbrev Wrote : List (List ℕ) → Heap × Settings → Type 0
Wrote ls p = Lawful p.0 × InRange p.1 × (ls ≡ listing_lines p.0 p.1 ++ [] ∷ [])

-- where the roots were read, all is said
all_said : (h : Header) (done : List Object) (rs : List ℕ) → Good (Roots h done rs)
    → Wrote (said_lines (Roots h done rs) ++ [] ∷ [])
    (record { cells = h.cells; width = h.width; objects = done; roots = rs }, record { markers = h.markers; share = h.share })
all_said h done rs g =
    let o : h.objects ≡ length done = omega (arith, g.0.counted) in (
      record {
        cells = g.0.sized.long;
        width = g.0.sized.wide;
        sections = g.0.sized.cut;
        objects = omega (arith, g.0.few);
        laid = subst (λ n. Laid h.cells n 0 done) o g.0.laid;
        references = g.0.references;
        roots = g.1;
        rooted = subst (λ n. AllByRecursion (λ r. r ≤ n) rs) o g.2;
      },
      g.0.marked,
      ap (λ ls. ls ++ [] ∷ [])
          (append_assoc (header_lines h) (flat_map object_lines done) (list_line (codes "roots") rs ∷ [])
          ∙ ap (λ n. counting n ++ (flat_map object_lines done ++ list_line (codes "roots") rs ∷ [])) o),
    )
  where
    counting : ℕ → List (List ℕ)
    counting n = header_lines (record { cells = h.cells; width = h.width; markers = h.markers; share = h.share; objects = n })

ends_said : (k : Before) (n : ℕ) (rest : List ℕ) (p : Heap × Settings) → Good k → ending n (whole k) rest ≡ Ok p → Wrote (said_lines k ++ rest ∷ []) p
ends_said Start n rest p g e = let z : ◌≡◌ {A = ℕ} 0 1 = cc in absurd (omega arith)
ends_said (Cells c) n rest p g e = let z : ◌≡◌ {A = ℕ} 0 1 = cc in absurd (omega arith)
ends_said (Width c w) n rest p g e = let z : ◌≡◌ {A = ℕ} 0 1 = cc in absurd (omega arith)
ends_said (Markers c w m) n rest p g e = let z : ◌≡◌ {A = ℕ} 0 1 = cc in absurd (omega arith)
ends_said (Share c w m s) n rest p g e = let z : ◌≡◌ {A = ℕ} 0 1 = cc in absurd (omega arith)
ends_said (Objects h done left) n rest p g e = let z : ◌≡◌ {A = ℕ} 0 1 = cc in absurd (omega arith)
ends_said (At h done left a) n rest p g e = let z : ◌≡◌ {A = ℕ} 0 1 = cc in absurd (omega arith)
ends_said (Len h done left a l) n rest p g e = let z : ◌≡◌ {A = ℕ} 0 1 = cc in absurd (omega arith)
ends_said (Roots h done rs) n [] p g e =
    let q : Heap × Settings = (record { cells = h.cells; width = h.width; objects = done; roots = rs }, record { markers = h.markers; share = h.share }) in
    let i : q ≡ p = cc in
    subst (Wrote (said_lines (Roots h done rs) ++ [] ∷ [])) i (all_said h done rs g)
ends_said (Roots h done rs) n (b ∷ bs) p g e = let z : ◌≡◌ {A = ℕ} 0 1 = cc in absurd (omega arith)

lines_said : (k : Before) (n : ℕ) (l : List ℕ) (ls : List (List ℕ)) (p : Heap × Settings) → Good k → judge_from k n (l ∷ ls) ≡ Ok p → Wrote (said_lines k ++ l ∷ ls) p
lines_said k n l [] p g e = ends_said k n l p g e
lines_said k n l (m ∷ ls) p g e = by (judge_line k l) refl (λ k'. lines_said k' (n + 1) m ls p) e
  where
    by : (r : Result Before Refusal) → judge_line k l ≡ r → ((k' : Before) → Good k' → judge_from k' (n + 1) (m ∷ ls) ≡ Ok p → Wrote (said_lines k' ++ m ∷ ls) p)
        → then (on_line n r) (λ k'. judge_from k' (n + 1) (m ∷ ls)) ≡ Ok p → Wrote (said_lines k ++ l ∷ m ∷ ls) p
    by (Err r) q more f = let z : ◌≡◌ {A = ℕ} 0 1 = cc in absurd (omega arith)
    by (Ok k') q more f =
        let t = passed k l k' q in
        let good : Good k' = subst Good (sym t.says) (stays_good k t.value g t.range t.clear t.kept) in
        let said : said_lines k ++ l ∷ [] ≡ said_lines k' = says_line k l t.value t.has t.form t.range ∙ ap said_lines (sym t.says) in
        let all : said_lines k' ++ m ∷ ls ≡ said_lines k ++ l ∷ m ∷ ls = sym (ap (λ xs. xs ++ m ∷ ls) said) ∙ append_assoc (said_lines k) (l ∷ []) (m ∷ ls) in
        subst (λ xs. Wrote xs p) all (more k' good f)

pub written_of : (text : List ℕ) (h : Heap) (s : Settings) → judge text ≡ Ok (h, s) → Lawful h × InRange s × (text ≡ written h s)
written_of text h s e =
    let c = pieces_step 10 text in
    let w = lines_said Start 1 (up_to 10 text) (pieces_of 10 (past 10 text)) (h, s) tt (ap (judge_from Start 1) (sym c) ∙ e) in
    (w.0, w.1, text_closed text (listing_lines h s) (c ∙ w.2))
