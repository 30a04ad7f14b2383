-- The rules of a listing, line by line: which line is due, and what it has to be, given what the lines before say. Assumes nothing.
use Rattle.std.specs.Prelude.{ℕ, zero, suc, ◌+◌, Bool, true, false, cond, ◌&&◌, List, [], ◌∷◌, ◌++◌, length, is_some, Some, None, codes, Option, ◌==◌, nat_le}
use Rattle.std.specs.Option.{unwrap_or}
use Rattle.heap.specs.Heap.{Object, sections_of, references_in, end_from}
use Rattle.listing.specs.declared.settings.SharingRule.{SharingRule}
use Rattle.listing.specs.declared.settings.SharingRule.TheVariants.{New, Old, Both}
use Rattle.listing.specs.declared.settings.Header.{Header}
use Rattle.listing.specs.Numeral.{numeral, value_of, within}
use Rattle.listing.specs.Pieces.{numerals, numbers, largest}

-- the words of the sharing rules
abbrev pub word_of : SharingRule → List ℕ
word_of New = codes "new"
word_of Old = codes "old"
word_of Both = codes "both"

abbrev pub same : List ℕ → List ℕ → Bool
same [] [] = true
same [] (c ∷ cs) = false
same (b ∷ bs) [] = false
same (b ∷ bs) (c ∷ cs) = b == c && same bs cs

-- the sharing rule that a word names
abbrev pub rule_named : List ℕ → Option SharingRule
rule_named text =
    cond (same text (word_of New)) (Some New) (cond (same text (word_of Old)) (Some Old) (cond (same text (word_of Both)) (Some Both) None))

-- What the lines before say. Of objects: those that are complete, and how many are to come once the present one is.
pub data Before : Type 0 where
  Start : Before
  Cells : (cells : ℕ) → Before
  Width : (cells width : ℕ) → Before
  Markers : (cells width markers : ℕ) → Before
  Share : (cells width markers : ℕ) (share : SharingRule) → Before
  Objects : (header : Header) (done : List Object) (left : ℕ) → Before
  At : (header : Header) (done : List Object) (left at : ℕ) → Before
  Len : (header : Header) (done : List Object) (left at len : ℕ) → Before
  Roots : (header : Header) (done : List Object) (roots : List ℕ) → Before

-- the key of the line that is due; none is due after the roots
abbrev pub key_due : Before → Option (List ℕ)
key_due Start = Some (codes "cells")
key_due (Cells c) = Some (codes "width")
key_due (Width c w) = Some (codes "markers")
key_due (Markers c w n) = Some (codes "share")
key_due (Share c w n s) = Some (codes "objects")
key_due (Objects h done (suc left)) = Some (codes "at")
key_due (At h done left a) = Some (codes "len")
key_due (Len h done left a l) = Some (codes "refs")
key_due (Objects h done zero) = Some (codes "roots")
key_due (Roots h done rs) = None

-- the form of its value: a number, a list of numbers, or a word
abbrev pub formed : Before → List ℕ → Bool
formed Start v = numeral v
formed (Cells c) v = numeral v
formed (Width c w) v = numeral v
formed (Markers c w n) v = is_some (rule_named v)
formed (Share c w n s) v = numeral v
formed (Objects h done (suc left)) v = numeral v
formed (At h done left a) v = numeral v
formed (Len h done left a l) v = numerals v
formed (Objects h done zero) v = numerals v
formed (Roots h done rs) v = false

-- the bounds of its numbers, and of how many there are
abbrev pub bounded : Before → List ℕ → Bool
bounded Start v = within 1 65535 (value_of v)
bounded (Cells c) v = within 1 65535 (value_of v) && nat_le (sections_of c (value_of v)) 64
bounded (Width c w) v = within 1 16 (value_of v)
bounded (Markers c w n) v = true
bounded (Share c w n s) v = within 0 65535 (value_of v)
bounded (Objects h done (suc left)) v = within 0 65535 (value_of v)
bounded (At h done left a) v = within 1 65535 (value_of v)
bounded (Len h done left a l) v = nat_le (largest (numbers v)) 65535 && nat_le (references_in done + length (numbers v)) 262144
bounded (Objects h done zero) v = nat_le (largest (numbers v)) 65535 && nat_le (length (numbers v)) 4096
bounded (Roots h done rs) v = true

-- an object starts at or after the end of the one before, and ends within the heap
abbrev pub apart : Before → List ℕ → Bool
apart Start v = true
apart (Cells c) v = true
apart (Width c w) v = true
apart (Markers c w n) v = true
apart (Share c w n s) v = true
apart (Objects h done (suc left)) v = nat_le (end_from 0 done) (value_of v)
apart (At h done left a) v = nat_le (a + value_of v) h.cells
apart (Len h done left a l) v = true
apart (Objects h done zero) v = true
apart (Roots h done rs) v = true

-- no reference and no root is above the number of objects
abbrev pub known : Before → List ℕ → Bool
known Start v = true
known (Cells c) v = true
known (Width c w) v = true
known (Markers c w n) v = true
known (Share c w n s) v = true
known (Objects h done (suc left)) v = true
known (At h done left a) v = true
known (Len h done left a l) v = nat_le (largest (numbers v)) h.objects
known (Objects h done zero) v = nat_le (largest (numbers v)) h.objects
known (Roots h done rs) v = true

-- what is said once the line with this value is read
abbrev pub after : Before → List ℕ → Before
after Start v = Cells (value_of v)
after (Cells c) v = Width c (value_of v)
after (Width c w) v = Markers c w (value_of v)
after (Markers c w n) v = Share c w n (unwrap_or (rule_named v) New)
after (Share c w n s) v = Objects (record { cells = c; width = w; markers = n; share = s; objects = value_of v }) [] (value_of v)
after (Objects h done (suc left)) v = At h done left (value_of v)
after (At h done left a) v = Len h done left a (value_of v)
after (Len h done left a l) v = Objects h (done ++ record { at = a; len = l; refs = numbers v } ∷ []) left
after (Objects h done zero) v = Roots h done (numbers v)
after (Roots h done rs) v = Roots h done rs
