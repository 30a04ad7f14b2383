-- The written form of a heap with its settings. Assumes nothing.
use Rattle.std.specs.Prelude.{ℕ, ◌≤◌, List, [], ◌∷◌, ◌++◌, map, length, codes, decimal}
use Rattle.std.specs.List.{flat_map}
use Rattle.heap.specs.Heap.{Heap, Object}
use Rattle.listing.specs.declared.settings.Settings.{Settings}
use Rattle.listing.specs.Rules.{word_of}

-- a key, one = sign and a value
abbrev pub line : List ℕ → List ℕ → List ℕ
line key value = key ++ 61 ∷ value

abbrev pub number_line : List ℕ → ℕ → List ℕ
number_line key n = line key (decimal n)

-- pieces with one separator between each two
abbrev pub separated : ℕ → List (List ℕ) → List ℕ
separated sep [] = []
separated sep (p ∷ []) = p
separated sep (p ∷ q ∷ ps) = p ++ sep ∷ separated sep (q ∷ ps)

abbrev pub list_line : List ℕ → List ℕ → List ℕ
list_line key ns = line key (separated 44 (map decimal ns))

abbrev pub object_lines : Object → List (List ℕ)
object_lines o = number_line (codes "at") o.at ∷ number_line (codes "len") o.len ∷ list_line (codes "refs") o.refs ∷ []

abbrev pub listing_lines : Heap → Settings → List (List ℕ)
listing_lines h s =
    (number_line (codes "cells") h.cells
    ∷ number_line (codes "width") h.width
    ∷ number_line (codes "markers") s.markers
    ∷ line (codes "share") (word_of s.share)
    ∷ number_line (codes "objects") (length h.objects)
    ∷ [])
    ++ (flat_map object_lines h.objects ++ (list_line (codes "roots") h.roots ∷ []))

-- each line is closed by byte 10
abbrev pub written : Heap → Settings → List ℕ
written h s = flat_map (λ l. l ++ 10 ∷ []) (listing_lines h s)

-- the settings that a listing may have
abbrev pub InRange : Settings → Type 0
InRange s = (1 ≤ s.markers) × (s.markers ≤ 16)
