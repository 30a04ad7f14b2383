-- The texts that check_listing prints. Assumes nothing.
use Rattle.std.specs.Prelude.{ℕ, List, [], ◌∷◌, ◌++◌, length, codes, decimal}
use Rattle.refusal.specs.declared.Fault.{Fault}
use Rattle.refusal.specs.Table.{number_of}
use Rattle.heap.specs.Heap.{Heap, sections_of, references_in, cells_in}
use Rattle.listing.specs.declared.settings.Settings.{Settings}
use Rattle.listing.specs.Rules.{word_of}
use Rattle.sheet.specs.declared.texts.Sheet.{Sheet}
use Rattle.sheet.specs.declared.judge.JudgeError.{JudgeError}
use Rattle.sheet.specs.declared.judge.JudgeError.TheVariants.{Refused, OutOfMemory}

-- key=value, closed by byte 10
abbrev pub pair : List ℕ → List ℕ → List ℕ
pair key value = key ++ 61 ∷ (value ++ 10 ∷ [])

-- a refusal: its number and its line
abbrev pub fault_text : Fault → List ℕ
fault_text f = pair (codes "refused") (decimal (number_of f.refusal)) ++ pair (codes "line") (decimal f.line)

-- a refusal's two lines, or what an allocation that failed prints
abbrev pub error_text : JudgeError → List ℕ
error_text (Refused f) = fault_text f
error_text OutOfMemory = codes "memory allocation failed"

-- a sheet: a line each
abbrev pub sheet_lines : Sheet → List ℕ
sheet_lines s =
    pair (codes "cells") (decimal s.cells)
    ++ pair (codes "width") (decimal s.width)
    ++ pair (codes "sections") (decimal s.sections)
    ++ pair (codes "markers") (decimal s.markers)
    ++ pair (codes "share") (word_of s.share)
    ++ pair (codes "objects") (decimal s.objects)
    ++ pair (codes "references") (decimal s.references)
    ++ pair (codes "roots") (decimal s.roots)
    ++ pair (codes "covered") (decimal s.covered)

-- the sheet of a heap and its settings; covered: the cells that objects cover
abbrev pub sheet_of : Heap → Settings → Sheet
sheet_of h s =
    record {
      cells = h.cells;
      width = h.width;
      sections = sections_of h.cells h.width;
      markers = s.markers;
      share = s.share;
      objects = length h.objects;
      references = references_in h.objects;
      roots = length h.roots;
      covered = cells_in h.objects;
    }

-- what is printed of a heap and its settings
abbrev pub sheet_text : Heap → Settings → List ℕ
sheet_text h s = sheet_lines (sheet_of h s)

-- what --help prints
abbrev pub help_text : List ℕ
help_text =
    codes
    "check_listing: judges the listing of a heap.\n\nusage: check_listing [FILE]\n       check_listing --help\n\nReads FILE, or standard input. An accepted listing prints a sheet, one key=value a line:\ncells, width, sections, markers, share, objects, references, roots, covered.\nA refused one prints refused= and the refusal's number, then line= and the line, and ends\nwith status 1: 1 form, 2 range, 3 overlap, 4 stranger, 5 memory. Line 0 stands for no line.\n"
