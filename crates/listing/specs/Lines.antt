-- The value of one line by itself. Assumes nothing.
use Rattle.std.specs.Prelude.{◌≡◌, ℕ, ◌+◌, cond, ◌&&◌, List, length, Some, None, Ok, Err, Option, Result, ◌≢◌, nat_le}
use Rattle.refusal.specs.declared.Fault.{Fault}
use Rattle.refusal.specs.declared.Refusal.{Refusal}
use Rattle.refusal.specs.declared.Refusal.TheVariants.{Form, Range, Overlap, Stranger}
use Rattle.refusal.specs.Table.{fault}
use Rattle.listing.specs.declared.settings.SharingRule.{SharingRule}
use Rattle.listing.specs.declared.settings.Header.{Header}
use Rattle.listing.specs.declared.key.Key.{Key}
use Rattle.listing.specs.declared.key.Key.TheVariants.{Cells, Width, Markers, Share, Objects, At, Len, Refs, Roots}
use Rattle.listing.specs.Keys.{start_of}
use Rattle.listing.specs.Numeral.{numeral, value_of, within}
use Rattle.listing.specs.Pieces.{up_to, past, numerals, numbers, largest}
use Rattle.heap.specs.Heap.{sections_of}
use Rattle.listing.specs.Rules.{word_of, rule_named}
use Rattle.listing.specs.Judge.{then, on_line, behind}

-- one number between two bounds
abbrev pub numbered : ℕ → ℕ → List ℕ → Result ℕ Refusal
numbered low high v = cond (numeral v) (cond (within low high (value_of v)) (Ok (value_of v)) (Err Range)) (Err Form)

-- a width: it cuts the cells into at most 64 sections
abbrev pub width_in : ℕ → List ℕ → Result ℕ Refusal
width_in cells v = then (numbered 1 65535 v) (λ w. cond (nat_le (sections_of cells w) 64) (Ok w) (Err Range))

-- an object's start, at or after the end of the one before
abbrev pub at_in : ℕ → List ℕ → Result ℕ Refusal
at_in end v = then (numbered 0 65535 v) (λ a. cond (nat_le end a) (Ok a) (Err Overlap))

-- an object's length: it ends within the heap
abbrev pub len_in : ℕ → ℕ → List ℕ → Result ℕ Refusal
len_in at cells v = then (numbered 1 65535 v) (λ l. cond (nat_le (at + l) cells) (Ok l) (Err Overlap))

-- the rule whose word the text is, if any
abbrev pub Named : List ℕ → Result SharingRule Refusal → Type 0
Named text (Ok s) = text ≡ word_of s
Named text (Err e) = (e ≡ Form) × ((s : SharingRule) → text ≢ word_of s)

abbrev pub or_form : {A : Type 0} → Option A → Result A Refusal
or_form None = Err Form
or_form (Some x) = Ok x

-- the word of a sharing rule
abbrev pub ruled : List ℕ → Result SharingRule Refusal
ruled v = or_form (rule_named v)

-- How many numbers a list has: with the `before` that came before, at most `most` of them; none is above 65,535 or above the
-- number of objects.
abbrev pub counted : ℕ → ℕ → ℕ → List ℕ → Result ℕ Refusal
counted before most objects v =
    cond (numerals v)
    (cond (nat_le (largest (numbers v)) 65535 && nat_le (before + length (numbers v)) most)
    (cond (nat_le (largest (numbers v)) objects) (Ok (length (numbers v))) (Err Stranger))
    (Err Range))
    (Err Form)

-- that number, and the text of the list
abbrev pub list_in : ℕ → ℕ → ℕ → List ℕ → Result (ℕ × List ℕ) Refusal
list_in before most objects v = then (counted before most objects v) (λ n. Ok (n, v))

-- line n, closed by byte 10, and the text behind it
abbrev pub line_by : ℕ → List ℕ → Option (List ℕ) → Result (List ℕ × List ℕ) Fault
line_by n front None = Err (fault Form n)
line_by n front (Some rest) = Ok (front, rest)

abbrev pub line_of : ℕ → List ℕ → Result (List ℕ × List ℕ) Fault
line_of n text = line_by n (up_to 10 text) (past 10 text)

-- the value of line n, which has to have this key, and the text behind the line
abbrev pub value_at : Key → ℕ → List ℕ → Result (List ℕ × List ℕ) Fault
value_at key n text = then (line_of n text) (λ p. then (on_line n (or_form (behind (start_of key) p.0))) (λ v. Ok (v, p.1)))

-- what is read of the value of line n, and the text behind the line
abbrev pub read_line : {A : Type 0} → Key → ℕ → (List ℕ → Result A Refusal) → List ℕ → Result (A × List ℕ) Fault
read_line key n f text = then (value_at key n text) (λ p. then (on_line n (f p.0)) (λ x. Ok (x, p.1)))

-- the first five lines
abbrev pub read_header : List ℕ → Result (Header × List ℕ) Fault
read_header text =
    then (read_line Cells 1 (numbered 1 65535) text) (λ c.
    then (read_line Width 2 (width_in c.0) c.1) (λ w.
    then (read_line Markers 3 (numbered 1 16) w.1) (λ m.
    then (read_line Share 4 ruled m.1) (λ s.
    then (read_line Objects 5 (numbered 0 65535) s.1) (λ o.
    Ok (record { cells = c.0; width = w.0; markers = m.0; share = s.0; objects = o.0 }, o.1))))))

-- the three lines of an object, from line n on: its start, its length, and its references with their number
abbrev pub read_object : Header → ℕ → ℕ → ℕ → List ℕ → Result ((ℕ × ℕ × (ℕ × List ℕ)) × List ℕ) Fault
read_object header end before n text =
    then (read_line At n (at_in end) text) (λ a.
    then (read_line Len (n + 1) (len_in a.0 header.cells) a.1) (λ l.
    then (read_line Refs (n + 2) (list_in before 262144 header.objects) l.1) (λ r.
    Ok ((a.0, l.0, r.0), r.1))))

-- the last line
abbrev pub read_roots : ℕ → ℕ → List ℕ → Result ((ℕ × List ℕ) × List ℕ) Fault
read_roots n objects text = read_line Roots n (list_in 0 4096 objects) text
