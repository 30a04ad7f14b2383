-- What separators cut a text into, and lists of numbers. Assumes nothing.
use Rattle.std.specs.Prelude.{ℕ, max, Bool, true, cond, ◌&&◌, List, [], ◌∷◌, map, Some, None, Option, ◌==◌}
use Rattle.listing.specs.Numeral.{numeral, value_of}

-- what stands before the first separator, and what stands behind it
abbrev pub up_to : ℕ → List ℕ → List ℕ
up_to sep [] = []
up_to sep (b ∷ bs) = cond (b == sep) [] (b ∷ up_to sep bs)

abbrev pub past : ℕ → List ℕ → Option (List ℕ)
past sep [] = None
past sep (b ∷ bs) = cond (b == sep) (Some bs) (past sep bs)

abbrev pub on_first : ℕ → List (List ℕ) → List (List ℕ)
on_first b [] = []
on_first b (p ∷ ps) = (b ∷ p) ∷ ps

-- the pieces between separators: one more than there are separators
abbrev pub pieces : ℕ → List ℕ → List (List ℕ)
pieces sep [] = [] ∷ []
pieces sep (b ∷ bs) = cond (b == sep) ([] ∷ pieces sep bs) (on_first b (pieces sep bs))

-- the lines of a text, each closed by byte 10; the last piece is what stands behind the last byte 10
abbrev pub lines_of : List ℕ → List (List ℕ)
lines_of text = pieces 10 text

-- zero or more numbers with single commas between
abbrev pub listed : List ℕ → List (List ℕ)
listed [] = []
listed (b ∷ bs) = pieces 44 (b ∷ bs)

abbrev pub all_numerals : List (List ℕ) → Bool
all_numerals [] = true
all_numerals (p ∷ ps) = numeral p && all_numerals ps

abbrev pub numerals : List ℕ → Bool
numerals text = all_numerals (listed text)

abbrev pub numbers : List ℕ → List ℕ
numbers text = map value_of (listed text)

abbrev pub largest : List ℕ → ℕ
largest [] = 0
largest (x ∷ xs) = max x (largest xs)
