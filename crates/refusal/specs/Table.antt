-- The refusal table: each refusal's number and word. Assumes nothing.
use Rattle.std.specs.Prelude.{List, ℕ, codes}
use Rattle.refusal.specs.declared.Fault.{Fault}
use Rattle.refusal.specs.declared.Refusal.{Refusal}
use Rattle.refusal.specs.declared.Refusal.TheVariants.{Form, Range, Overlap, Stranger, Memory, Occupied, Unknown, Ended, Foreign, Full, Early, Section}

abbrev pub number_of : Refusal → ℕ
number_of Form = 1
number_of Range = 2
number_of Overlap = 3
number_of Stranger = 4
number_of Memory = 5
number_of Occupied = 6
number_of Unknown = 7
number_of Ended = 8
number_of Foreign = 9
number_of Full = 10
number_of Early = 11
number_of Section = 12

-- the bytes of each refusal's word
abbrev pub word_of : Refusal → List ℕ
word_of Form = codes "form"
word_of Range = codes "range"
word_of Overlap = codes "overlap"
word_of Stranger = codes "stranger"
word_of Memory = codes "memory"
word_of Occupied = codes "occupied"
word_of Unknown = codes "unknown"
word_of Ended = codes "ended"
word_of Foreign = codes "foreign"
word_of Full = codes "full"
word_of Early = codes "early"
word_of Section = codes "section"

-- a refusal on a line
abbrev pub fault : Refusal → ℕ → Fault
fault e n = record { refusal = e; line = n }
