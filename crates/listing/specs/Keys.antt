-- How the line of each key begins. Assumes nothing.
use Rattle.std.specs.Prelude.{ℕ, List, codes}
use Rattle.listing.specs.declared.key.Key.{Key}
use Rattle.listing.specs.declared.key.Key.TheVariants.{Cells, Width, Markers, Share, Objects, At, Len, Refs, Roots}

-- the key and its = sign
abbrev pub start_of : Key → List ℕ
start_of Cells = codes "cells="
start_of Width = codes "width="
start_of Markers = codes "markers="
start_of Share = codes "share="
start_of Objects = codes "objects="
start_of At = codes "at="
start_of Len = codes "len="
start_of Refs = codes "refs="
start_of Roots = codes "roots="
