-- Worked examples of a listing, by the definition of what a text means. Assumes nothing.
use Rattle.std.specs.Prelude.{◌≡◌, ℕ, List, [], ◌∷◌, ◌++◌, Ok, Err, codes}
use Rattle.refusal.specs.declared.Refusal.TheVariants.{Form, Range, Overlap, Stranger}
use Rattle.refusal.specs.Table.{fault}
use Rattle.heap.specs.Heap.{Heap}
use Rattle.listing.specs.declared.settings.Settings.{Settings}
use Rattle.listing.specs.declared.settings.SharingRule.TheVariants.{Old}
use Rattle.listing.specs.Judge.{judge}

-- a listing of 12 cells with three objects, whose places are left open: cells, markers, the second object's start, the last one's
-- length and references
abbrev pub listing_with : List ℕ → List ℕ → List ℕ → List ℕ → List ℕ → List ℕ
listing_with cells markers second last refs =
    codes "cells=" ++ (cells
    ++ (codes "\nwidth=5\nmarkers=" ++ (markers
    ++ (codes "\nshare=old\nobjects=3\nat=0\nlen=2\nrefs=2\nat=" ++ (second
    ++ (codes "\nlen=2\nrefs=\nat=8\nlen=" ++ (last
    ++ (codes "\nrefs=" ++ (refs
    ++ codes "\nroots=1\n")))))))))

-- the heap that such a listing means
abbrev pub heap_with : ℕ → ℕ → Heap
heap_with second last =
    record {
      cells = 12;
      width = 5;
      objects =
          record { at = 0; len = 2; refs = 2 ∷ [] }
          ∷ record { at = second; len = 2; refs = [] }
          ∷ record { at = 8; len = last; refs = 1 ∷ 3 ∷ [] }
          ∷ [];
      roots = 1 ∷ [];
    }

-- the settings of n markers that share by the old rule
abbrev pub settings_with : ℕ → Settings
settings_with n = record { markers = n; share = Old }

-- cells of width 1, and nothing else
abbrev pub cells_of_width_one : List ℕ → List ℕ
cells_of_width_one cells = codes "cells=" ++ (cells ++ codes "\nwidth=1\nmarkers=1\nshare=old\nobjects=0\nroots=\n")

-- what each example means, or why it is refused and on which line; `count` of them
pub record Examples (count : ℕ) : Type 0 where
  pub number : count ≡ 14
  pub as_it_stands : judge (listing_with (codes "12") (codes "2") (codes "4") (codes "3") (codes "1,3")) ≡ Ok (heap_with 4 3, settings_with 2)
  pub last_ends_with_the_heap : judge (listing_with (codes "12") (codes "2") (codes "4") (codes "4") (codes "1,3")) ≡ Ok (heap_with 4 4, settings_with 2)
  pub last_ends_past_the_heap : judge (listing_with (codes "12") (codes "2") (codes "4") (codes "5") (codes "1,3")) ≡ Err (fault Overlap 13)
  pub second_starts_at_the_end : judge (listing_with (codes "12") (codes "2") (codes "2") (codes "3") (codes "1,3")) ≡ Ok (heap_with 2 3, settings_with 2)
  pub second_starts_before_the_end : judge (listing_with (codes "12") (codes "2") (codes "1") (codes "3") (codes "1,3")) ≡ Err (fault Overlap 9)
  pub reference_to_no_object : judge (listing_with (codes "12") (codes "2") (codes "4") (codes "3") (codes "1,4")) ≡ Err (fault Stranger 14)
  pub no_markers : judge (listing_with (codes "12") (codes "0") (codes "4") (codes "3") (codes "1,3")) ≡ Err (fault Range 3)
  pub seventeen_markers : judge (listing_with (codes "12") (codes "17") (codes "4") (codes "3") (codes "1,3")) ≡ Err (fault Range 3)
  pub sixteen_markers : judge (listing_with (codes "12") (codes "16") (codes "4") (codes "3") (codes "1,3")) ≡ Ok (heap_with 4 3, settings_with 16)
  pub leading_zero : judge (listing_with (codes "012") (codes "2") (codes "4") (codes "3") (codes "1,3")) ≡ Err (fault Form 1)
  pub sixty_four_sections : judge (cells_of_width_one (codes "64")) ≡ Ok (record { cells = 64; width = 1; objects = []; roots = [] }, settings_with 1)
  pub sixty_five_sections : judge (cells_of_width_one (codes "65")) ≡ Err (fault Range 2)
  pub empty_text : judge [] ≡ Err (fault Form 1)
  pub missing_line : judge (codes "cells=12\n") ≡ Err (fault Form 2)
