-- The entries of one pair among the words, and what a write to one pair leaves of them. Assumes nothing.
use Rattle.std.proofs.Common.{◌≡◌, ℕ, ◌+◌, ◌-◌, ◌*◌, ◌<◌, ◌≤◌, List, length, get_or, set, ⊎_elim, arith, length-set}
use Rattle.std.specs.Prelude.{slice_range}
use borrow.Rule.Slice.PartMut.{put_mid}
use Rattle.std.proofs.lemmas.List.{places, same_lists, get_or-set_same}
use Rattle.std.proofs.lemmas.Bool.{cases_eq, cases_lt}
use Rattle.std.proofs.lemmas.Nat.{row_fits}
use Rattle.exchange.specs.Entries.{entries_of}

-- the entries of a pair are among the words
pub row_within : (q n len : ℕ) (words : List ℕ) → q < n → n * len ≤ length words → q * len + len ≤ length words
row_within q n len words l room = omega (arith, row_fits q len n len l (omega arith))

-- the words, where es stands in place of the len words from word a on
abbrev pub with_part : ℕ → ℕ → List ℕ → List ℕ → List ℕ
with_part len a words es = put_mid a (a + len - a) words es

-- len words from word a on, which may be fewer at the end
module _ (words : List ℕ) (len a : ℕ) where
  pub part_at : (p : ℕ) → p < len → get_or (slice_range words a (a + len)) p 0 ≡ get_or words (a + p) 0
  part_at p l = grind (arith, places)

  -- one of them is written
  pub part_set : (p v : ℕ) → p < len → slice_range (set words (a + p) v) a (a + len) ≡ set (slice_range words a (a + len)) p v
  part_set p v l = same_lists _ _ (grind (arith, places, length-set)) (λ k d h. grind (arith, places, length-set, get_or-set_same, cases_eq k p))

-- len words from word a on, all among the words
module _ (words es : List ℕ) (len a : ℕ) (within : a + len ≤ length words) where
  pub part_length : length (slice_range words a (a + len)) ≡ len
  part_length = grind (arith, places)

  -- they are written as they were
  pub part_same : with_part len a words (slice_range words a (a + len)) ≡ words
  part_same = same_lists _ _ (grind (arith, places)) (λ k d h. grind (arith, places))

  -- one of them is written
  pub part_written : (p v : ℕ) → p < len → with_part len a words (set (slice_range words a (a + len)) p v) ≡ set words (a + p) v
  part_written p v l = same_lists _ _ (grind (arith, places, length-set)) (λ k d h. grind (arith, places, length-set, get_or-set_same, cases_eq k (a + p)))

  -- all of them are written
  module _ (long : length es ≡ len) where
    pub words_length : length (with_part len a words es) ≡ length words
    words_length = grind (arith, places)

    pub part_here : slice_range (with_part len a words es) a (a + len) ≡ es
    part_here = same_lists _ _ (grind (arith, places)) (λ k d h. grind (arith, places))

    pub part_before : (b : ℕ) → b + len ≤ a → slice_range (with_part len a words es) b (b + len) ≡ slice_range words b (b + len)
    part_before b l = same_lists _ _ (grind (arith, places)) (λ k d h. grind (arith, places))

    pub part_behind : (b : ℕ) → a + len ≤ b → slice_range (with_part len a words es) b (b + len) ≡ slice_range words b (b + len)
    part_behind b l = same_lists _ _ (grind (arith, places)) (λ k d h. grind (arith, places))

-- the entries of another pair stay where one word of a pair is written
pub entries_apart : (words : List ℕ) (len q o p v : ℕ) → p < len → (o ≡ q → ⊥) → entries_of len o (set words (q * len + p) v) ≡ entries_of len o words
entries_apart words len q o p v l ne =
    ⊎_elim
    (λ (low : o < q). let before : o * len + len ≤ q * len = row_fits o len q len low (omega arith) in
    same_lists _ _ (grind (arith, places, length-set)) (λ k d h. grind (arith, places, length-set)))
    (λ (high : q ≤ o). let behind : q * len + len ≤ o * len = row_fits q len o len (omega (arith, ne)) (omega arith) in
    same_lists _ _ (grind (arith, places, length-set)) (λ k d h. grind (arith, places, length-set)))
    (cases_lt o q)

-- the entries of another pair stay where all words of a pair are
pub entries_other : (words es : List ℕ) (len q o : ℕ) → q * len + len ≤ length words → length es ≡ len → (o ≡ q → ⊥)
    → entries_of len o (with_part len (q * len) words es) ≡ entries_of len o words
entries_other words es len q o within long ne =
    ⊎_elim
    (λ (low : o < q). part_before words es len (q * len) within long (o * len) (row_fits o len q len low (omega arith)))
    (λ (high : q ≤ o). part_behind words es len (q * len) within long (o * len) (row_fits q len o len (omega (arith, ne)) (omega arith)))
    (cases_lt o q)
