-- The first fault of a text, as a relation: the first line that breaks a rule of its own line, given what the lines before say,
-- and the least refusal that applies there. Assumes nothing.
use Rattle.std.specs.Prelude.{◌≡◌, ℕ, ◌+◌, ◌<◌, true, false, List, [], ◌∷◌, ◌++◌, length, is_some, Some, None, Option, ◌≢◌}
use Rattle.refusal.specs.declared.Fault.{Fault}
use Rattle.refusal.specs.declared.Refusal.{Refusal}
use Rattle.refusal.specs.declared.Refusal.TheVariants.{Form, Range, Overlap, Stranger, Memory, Occupied, Unknown, Ended, Foreign, Full, Early, Section}
use Rattle.refusal.specs.Table.{number_of}
use Rattle.listing.specs.Pieces.{lines_of}
use Rattle.listing.specs.Rules.{Before, Start, key_due, formed, bounded, apart, known, after}
use Rattle.listing.specs.Judge.{whole}

-- the line is the key, one = sign and v
abbrev pub Keyed : Option (List ℕ) → List ℕ → List ℕ → Type 0
Keyed None line v = ⊥
Keyed (Some key) line v = line ≡ key ++ 61 ∷ v

-- the line that is due after k has the value v
abbrev pub Values : Before → List ℕ → List ℕ → Type 0
Values k line v = Keyed (key_due k) line v

-- a line breaks the rule of this refusal, given what the lines before say
abbrev pub Breaks : Before → List ℕ → Refusal → Type 0
Breaks k line Form = (v : List ℕ) → Values k line v → formed k v ≢ true
Breaks k line Range = (v : List ℕ) × Values k line v × (bounded k v ≡ false)
Breaks k line Overlap = (v : List ℕ) × Values k line v × (apart k v ≡ false)
Breaks k line Stranger = (v : List ℕ) × Values k line v × (known k v ≡ false)
Breaks k line Memory = ⊥
Breaks k line Occupied = ⊥
Breaks k line Unknown = ⊥
Breaks k line Ended = ⊥
Breaks k line Foreign = ⊥
Breaks k line Full = ⊥
Breaks k line Early = ⊥
Breaks k line Section = ⊥

-- the least refusal that applies
pub record Least (k : Before) (line : List ℕ) (r : Refusal) : Type 0 where
  pub applies : Breaks k line r
  pub least : (q : Refusal) → number_of q < number_of r → Breaks k line q → ⊥

-- a line that breaks no rule, and what is said once it is read
pub record Right (k : Before) (line : List ℕ) (k' : Before) : Type 0 where
  pub value : List ℕ
  pub has : Values k line value
  pub breaks_none : (r : Refusal) → Breaks k line r → ⊥
  pub says : k' ≡ after k value

-- lines that break no rule, one after the other
pub data AllRight : Before → List (List ℕ) → Before → Type 0 where
  none : (k : Before) → AllRight k [] k
  one_more : (k k' k'' : Before) (line : List ℕ) (ls : List (List ℕ)) → Right k line k' → AllRight k' ls k'' → AllRight k (line ∷ ls) k''

-- A line is closed by byte 10. What stands behind the last one is no line: a fault in form, unless all has been said and nothing stands there.
abbrev pub Faulty : Before → List ℕ → List (List ℕ) → Refusal → Type 0
Faulty k line [] r = (r ≡ Form) × (is_some (whole k) ≡ true → line ≢ [])
Faulty k line (next ∷ more) r = Least k line r

pub record FirstFault (text : List ℕ) (f : Fault) : Type 0 where
  pub before : List (List ℕ)
  pub line : List ℕ
  pub behind : List (List ℕ)
  pub said : Before
  pub cut : lines_of text ≡ before ++ line ∷ behind
  pub right : AllRight Start before said
  pub number : f.line ≡ length before + 1
  pub faulty : Faulty said line behind f.refusal
