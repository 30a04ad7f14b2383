-- The written form of a lawful heap with settings in range has at most 2962630 bytes.
use Rattle.std.proofs.Common.{◌≡◌, ℕ, zero, suc, ◌+◌, ◌-◌, ◌*◌, ◌^◌, ◌<◌, ◌≤◌, List, [], ◌∷◌, ◌++◌, length, codes, decimal, sum_by, refl, ap, add-zero, add-suc, suc-mul, arith}
use Rattle.std.specs.List.{flat_map, AllByRecursion}
use Rattle.std.proofs.lemmas.Fmt.{length-decimal-le, length-decimal-le_succ, decimal_nonempty, decimal_digit}
use Rattle.std.proofs.lemmas.List.{length-append}
use Rattle.std.proofs.lemmas.List.Sums.{sum_by-cons}
use Rattle.std.proofs.ByRecursion.{All-weaker}
use Rattle.heap.specs.Heap.{Heap, Object, Lawful, Laid, references_in}
use Rattle.listing.specs.declared.settings.Settings.{Settings}
use Rattle.listing.specs.declared.settings.SharingRule.{SharingRule}
use Rattle.listing.specs.declared.settings.SharingRule.TheVariants.{New, Old, Both}
use Rattle.listing.specs.Rules.{word_of}
use Rattle.listing.specs.Written.{line, number_line, list_line, object_lines, written, InRange}
use Rattle.listing.proofs.Mended.{closed}
use Rattle.listing.proofs.Decimals.{list_text}

-- lines

length_closed : (l : List ℕ) (ls : List (List ℕ)) → length (closed (l ∷ ls)) ≡ length l + 1 + length (closed ls)
length_closed l ls = omega (arith, length-append (l ++ 10 ∷ []) (closed ls), length-append l (10 ∷ []))

length_closed_append : (ls ms : List (List ℕ)) → length (closed (ls ++ ms)) ≡ length (closed ls) + length (closed ms)
length_closed_append [] ms = omega arith
length_closed_append (l ∷ ls) ms = omega (arith, length_closed l (ls ++ ms), length_closed l ls, length_closed_append ls ms)

length_line : (key v : List ℕ) → length (line key v) ≡ length key + 1 + length v
length_line key v = omega (arith, length-append key (61 ∷ v))

-- numbers and lists of numbers

decimal_at_most : (k n : ℕ) → 0 < k → n < 10 ^ k → n ≤ 65535 → length (decimal n) ≤ k
decimal_at_most k n p l small = length-decimal-le k n p l (omega arith)

list_at_most : (ns : List ℕ) → AllByRecursion (λ n. n ≤ 65535) ns → length (list_text ns) ≤ 6 * length ns - 1
list_at_most [] a = omega arith
list_at_most (n ∷ []) a = let h = decimal_at_most 5 n (omega arith) (omega (arith, a.0)) a.0 in omega arith
list_at_most (n ∷ m ∷ ns) a =
    let h = decimal_at_most 5 n (omega arith) (omega (arith, a.0)) a.0 in
    let t = list_at_most (m ∷ ns) a.1 in
    let e = length-append (decimal n) (44 ∷ list_text (m ∷ ns)) in
    omega (arith, h, t, e)

all_small : (most : ℕ) (ns : List ℕ) → most ≤ 65535 → AllByRecursion (λ n. n ≤ most) ns → AllByRecursion (λ n. n ≤ 65535) ns
all_small most ns l a = All-weaker (λ n. n ≤ most) (λ n. n ≤ 65535) (λ n h. omega arith) ns a

-- how long the texts of the reference lists are in all
abbrev reference_texts : List Object → ℕ
reference_texts os = sum_by (λ o. length (list_text o.refs)) os

references_at_most : (cells most from : ℕ) (os : List Object) → most ≤ 65535 → Laid cells most from os → reference_texts os ≤ 6 * references_in os - 1
references_at_most cells most from [] l laid = omega arith
references_at_most cells most from (o ∷ os) l laid =
    let a = sum_by-cons {X = Object} (λ o. length (list_text o.refs)) o os in
    let b = sum_by-cons {X = Object} (λ o. length o.refs) o os in
    let h = list_at_most o.refs (all_small most o.refs l laid.3) in
    let t = references_at_most cells most (o.at + o.len) os l laid.4 in
    omega (arith, a, b, h, t)

-- the objects without the texts of their references

-- what they take if each of the first cells is an object: the most that objects within these cells can take
room : ℕ → ℕ
room zero = 0
room (suc c) = room c + (16 + length (decimal c))

room_zero : room 0 ≡ 0
unfolding room
room_zero = refl

room_suc : (c : ℕ) → room (suc c) ≡ room c + (16 + length (decimal c))
unfolding room
room_suc c = refl

room_least : (n m : ℕ) → n + m < 2 ^ 64 → room n + 17 * m ≤ room (n + m)
room_least n zero l = rw (add-zero n) (omega arith)
room_least n (suc m) l =
    let h = room_least n m (omega arith) in
    let d = decimal_nonempty (n + m) (omega arith) in
    rw add-suc (omega (arith, room_suc (n + m), h, d))

room_most : (k n m : ℕ) → 0 < k → n + m ≤ 10 ^ k → n + m ≤ 65535 → room (n + m) ≤ room n + m * (16 + k)
room_most k n zero p l small = rw (add-zero n) (omega arith)
room_most k n (suc m) p l small =
    let h = room_most k n m p (omega arith) (omega arith) in
    let d = decimal_at_most k (n + m) p (omega arith) (omega arith) in
    rw (add-suc, suc-mul) (omega (arith, room_suc (n + m), h, d))

room_mono : (n m : ℕ) → n ≤ m → m < 2 ^ 64 → room n ≤ room m
room_mono n m l small =
    let e : n + (m - n) ≡ m = omega arith in
    let h = room_least n (m - n) (omega arith) in
    let h' = rw e at h in
    omega arith

room_all : (cells : ℕ) → cells ≤ 65535 → room cells ≤ 1365125
room_all cells l =
    let z = room_zero in
    let a = room_most 1 0 10 (omega arith) (omega arith) (omega arith) in
    let b = room_most 2 10 90 (omega arith) (omega arith) (omega arith) in
    let c = room_most 3 100 900 (omega arith) (omega arith) (omega arith) in
    let d = room_most 4 1000 9000 (omega arith) (omega arith) (omega arith) in
    let e = room_most 5 10000 55535 (omega arith) (omega arith) (omega arith) in
    let m = room_mono cells 65535 l (omega arith) in
    omega (arith, z, a, b, c, d, e, m)

-- a length has few digits for the cells it covers
digits_of_length : (m : ℕ) → m < 65535 → length (decimal (suc m)) ≤ 1 + 17 * m
digits_of_length zero l = omega (arith, ap length (decimal_digit 1 (omega arith)))
digits_of_length (suc m) l = omega (arith, length-decimal-le_succ (suc (suc m)) (omega arith))

room_object : (a l : ℕ) → 1 ≤ l → a + l ≤ 65535 → room a + (15 + length (decimal a) + length (decimal l)) ≤ room (a + l)
room_object a zero p q = absurd (omega arith)
room_object a (suc m) p q =
    let h = room_least (suc a) m (omega arith) in
    let e : suc a + m ≡ a + suc m = omega arith in
    let h' = rw e at h in
    omega (arith, h', room_suc a, digits_of_length m (omega arith))

length_object : (o : Object) → length (closed (object_lines o)) ≡ 15 + length (decimal o.at) + length (decimal o.len) + length (list_text o.refs)
length_object o =
    let at : List ℕ = number_line (codes "at") o.at in
    let len : List ℕ = number_line (codes "len") o.len in
    let refs : List ℕ = list_line (codes "refs") o.refs in
    let a = length_line (codes "at") (decimal o.at) in
    let b = length_line (codes "len") (decimal o.len) in
    let c = length_line (codes "refs") (list_text o.refs) in
    omega (arith, a, b, c, length_closed at (len ∷ refs ∷ []), length_closed len (refs ∷ []), length_closed refs [])

objects_at_most : (cells most from : ℕ) (os : List Object) → from ≤ cells → cells ≤ 65535 → Laid cells most from os
    → room from + length (closed (flat_map object_lines os)) ≤ room cells + reference_texts os
objects_at_most cells most from [] f l laid = omega (arith, room_mono from cells f (omega arith))
objects_at_most cells most from (o ∷ os) f l laid =
    let s = sum_by-cons {X = Object} (λ o. length (list_text o.refs)) o os in
    let e = length_closed_append (object_lines o) (flat_map object_lines os) in
    let c = length_object o in
    let end : o.at + o.len ≤ 65535 = omega (arith, laid.2) in
    let m = room_mono from o.at laid.0 (omega arith) in
    let r = room_object o.at o.len laid.1 end in
    let t = objects_at_most cells most (o.at + o.len) os laid.2 l laid.4 in
    omega (arith, s, e, c, m, r, t)

-- the whole

number_line_at_most : (key : List ℕ) (k n : ℕ) → 0 < k → n < 10 ^ k → n ≤ 65535 → length (number_line key n) ≤ length key + 1 + k
number_line_at_most key k n p l small = omega (arith, length_line key (decimal n), decimal_at_most k n p l small)

word_at_most : (r : SharingRule) → length (word_of r) ≤ 4
word_at_most New = omega arith
word_at_most Old = omega arith
word_at_most Both = omega arith

-- the lines before those of the objects
abbrev header : (cells width markers : ℕ) (share : SharingRule) (objects : ℕ) → List (List ℕ)
header cells width markers share objects =
    number_line (codes "cells") cells
    ∷ number_line (codes "width") width
    ∷ number_line (codes "markers") markers
    ∷ line (codes "share") (word_of share)
    ∷ number_line (codes "objects") objects
    ∷ []

header_at_most : (cells width markers : ℕ) (share : SharingRule) (objects : ℕ) → cells ≤ 65535 → width ≤ 65535 → markers ≤ 16 → objects ≤ 65535
    → length (closed (header cells width markers share objects)) ≤ 60
header_at_most cells width markers share objects long wide marked few =
    let c : List ℕ = number_line (codes "cells") cells in
    let w : List ℕ = number_line (codes "width") width in
    let m : List ℕ = number_line (codes "markers") markers in
    let s : List ℕ = line (codes "share") (word_of share) in
    let o : List ℕ = number_line (codes "objects") objects in
    let c-most = number_line_at_most (codes "cells") 5 cells (omega arith) (omega arith) long in
    let w-most = number_line_at_most (codes "width") 5 width (omega arith) (omega arith) wide in
    let m-most = number_line_at_most (codes "markers") 2 markers (omega arith) (omega arith) (omega arith) in
    let s-is = length_line (codes "share") (word_of share) in
    let o-most = number_line_at_most (codes "objects") 5 objects (omega arith) (omega arith) few in
    omega (
      arith,
      c-most,
      w-most,
      m-most,
      s-is,
      word_at_most share,
      o-most,
      length_closed c (w ∷ m ∷ s ∷ o ∷ []),
      length_closed w (m ∷ s ∷ o ∷ []),
      length_closed m (s ∷ o ∷ []),
      length_closed s (o ∷ []),
      length_closed o [],
    )

pub longest_written : (h : Heap) (s : Settings) → Lawful h → InRange s → length (written h s) ≤ 2962630
longest_written h s law range =
    let most : ℕ = length h.objects in
    let first : List (List ℕ) = header h.cells h.width s.markers s.share most in
    let middle : List (List ℕ) = flat_map object_lines h.objects in
    let last : List ℕ = list_line (codes "roots") h.roots in
    let first-most = header_at_most h.cells h.width s.markers s.share most law.cells.1 law.width.1 range.1 law.objects in
    let middle-most = objects_at_most h.cells most 0 h.objects (omega arith) law.cells.1 law.laid in
    let room-used = room_all h.cells law.cells.1 in
    let texts-most = references_at_most h.cells most 0 h.objects law.objects law.laid in
    let roots-most = list_at_most h.roots (all_small most h.roots law.objects law.rooted) in
    let last-is = length_line (codes "roots") (list_text h.roots) in
    omega (
      arith,
      first-most,
      middle-most,
      room-used,
      texts-most,
      roots-most,
      last-is,
      law.references,
      law.roots,
      length_closed last [],
      length_closed_append middle (last ∷ []),
      length_closed_append first (middle ++ last ∷ []),
    )
