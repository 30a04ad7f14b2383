-- What a text means: the one heap and settings that it lists, or the first fault in it. Assumes nothing.
use Rattle.std.specs.Prelude.{ℕ, ◌+◌, cond, List, [], ◌∷◌, ◌++◌, Some, None, Ok, Err, Option, Result, ◌==◌}
use Rattle.refusal.specs.declared.Fault.{Fault}
use Rattle.refusal.specs.declared.Refusal.{Refusal}
use Rattle.refusal.specs.declared.Refusal.TheVariants.{Form, Range, Overlap, Stranger}
use Rattle.refusal.specs.Table.{fault}
use Rattle.heap.specs.Heap.{Heap}
use Rattle.listing.specs.declared.settings.Settings.{Settings}
use Rattle.listing.specs.Pieces.{lines_of}
use Rattle.listing.specs.Rules.{Before, Start, Cells, Width, Markers, Share, Objects, At, Len, Roots, key_due, formed, bounded, apart, known, after}

-- the first refusal, or else what comes of the value
abbrev pub then : {A B E : Type 0} → Result A E → (A → Result B E) → Result B E
then (Ok x) f = f x
then (Err e) f = Err e

-- what line n refuses is a fault on line n
abbrev pub on_line : {A : Type 0} → ℕ → Result A Refusal → Result A Fault
on_line n (Ok x) = Ok x
on_line n (Err e) = Err (fault e n)

-- what stands behind a front
abbrev pub behind : List ℕ → List ℕ → Option (List ℕ)
behind [] text = Some text
behind (k ∷ ks) [] = None
behind (k ∷ ks) (b ∷ bs) = cond (k == b) (behind ks bs) None

-- what stands behind the key and one = sign
abbrev pub value_in : Option (List ℕ) → List ℕ → Option (List ℕ)
value_in None line = None
value_in (Some key) line = behind (key ++ 61 ∷ []) line

-- a line with this value, by its rules in the order of their numbers
abbrev pub judge_value : Before → Option (List ℕ) → Result Before Refusal
judge_value k None = Err Form
judge_value k (Some v) =
    cond (formed k v) (cond (bounded k v) (cond (apart k v) (cond (known k v) (Ok (after k v)) (Err Stranger)) (Err Overlap)) (Err Range)) (Err Form)

-- one line, given what the lines before say
abbrev pub judge_line : Before → List ℕ → Result Before Refusal
judge_line k line = judge_value k (value_in (key_due k) line)

-- Heap and settings, where all has been said.
abbrev pub whole : Before → Option (Heap × Settings)
whole Start = None
whole (Cells c) = None
whole (Width c w) = None
whole (Markers c w n) = None
whole (Share c w n s) = None
whole (Objects h done left) = None
whole (At h done left a) = None
whole (Len h done left a l) = None
whole (Roots h done rs) =
    Some (record { cells = h.cells; width = h.width; objects = done; roots = rs }, record { markers = h.markers; share = h.share })

-- nothing stands behind the last line, and no line is missing
abbrev pub ending : ℕ → Option (Heap × Settings) → List ℕ → Result (Heap × Settings) Fault
ending n None rest = Err (fault Form n)
ending n (Some x) [] = Ok x
ending n (Some x) (b ∷ bs) = Err (fault Form n)

-- the lines from line n on, given what the lines before say
abbrev pub judge_from : Before → ℕ → List (List ℕ) → Result (Heap × Settings) Fault
judge_from k n [] = Err (fault Form n)
judge_from k n (rest ∷ []) = ending n (whole k) rest
judge_from k n (line ∷ next ∷ more) = then (on_line n (judge_line k line)) (λ k'. judge_from k' (n + 1) (next ∷ more))

abbrev pub judge : List ℕ → Result (Heap × Settings) Fault
judge text = judge_from Start 1 (lines_of text)

-- the text from line n on, given what the lines before say
abbrev pub judge_text : Before → ℕ → List ℕ → Result (Heap × Settings) Fault
judge_text k n text = judge_from k n (lines_of text)

-- what a line says, where a value is read of it
abbrev pub saying : {A : Type 0} → (A → Before) → Result A Refusal → Result Before Refusal
saying f (Ok x) = Ok (f x)
saying f (Err e) = Err e
