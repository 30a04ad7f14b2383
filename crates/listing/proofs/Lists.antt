-- The numbers of a list, piece by piece, each with its place.
use Rattle.std.proofs.Common.{◌≡◌, ℕ, zero, suc, ◌+◌, ◌<◌, ◌≤◌, true, List, [], ◌∷◌, length, get_or, drop, Some, None, Option, sym, refl, ap, subst, arith}
use Rattle.std.specs.Iterator.{AlwaysYields}
use Rattle.std.specs.Option.{IsSome}
use Rattle.std.proofs.lemmas.Iterator.{YieldsList}
use Rattle.std.proofs.lemmas.List.{length-map, get_or-map, drop_more}
use Rattle.std.proofs.lemmas.Bool.{and_parts}
use Rattle.listing.specs.Numeral.{numeral, value_of}
use Rattle.listing.specs.Pieces.{pieces, all_numerals, numbers, largest}
use Rattle.listing.specs.Survey.{NumbersIn}
use Rattle.listing.proofs.Cuts.{parts, pieces_split}

numeral_at : (ps : List (List ℕ)) (i : ℕ) (d : List ℕ) → all_numerals ps ≡ true → i < length ps → numeral (get_or ps i d) ≡ true
numeral_at [] i d a l = absurd (omega arith)
numeral_at (q ∷ ps) zero d a l = (and_parts (numeral q) (all_numerals ps) a).0
numeral_at (q ∷ ps) (suc i) d a l = numeral_at ps i d (and_parts (numeral q) (all_numerals ps) a).1 (omega arith)

pub get_or_largest : (xs : List ℕ) (i : ℕ) → get_or xs i 0 ≤ largest xs
get_or_largest [] i = omega arith
get_or_largest (x ∷ xs) zero = omega arith
get_or_largest (x ∷ xs) (suc i) = let h = get_or_largest xs i in omega arith

-- a piece is the number at its place
pub record IsNumberAt (text : List ℕ) (i : ℕ) (p : List ℕ) : Type 0 where
  pub formed : numeral p ≡ true
  pub value : value_of p ≡ get_or (numbers text) i 0
  pub small : value_of p ≤ 65535

-- there is a piece for each number
pieces_enough : (text : List ℕ) (n : ℕ) → NumbersIn text n → n ≤ length (parts text)
pieces_enough [] n s = omega (arith, s.counted)
pieces_enough (b ∷ bs) n s = omega (arith, s.counted, length-map (pieces 44 (b ∷ bs)) value_of, ap length (pieces_split 44 (b ∷ bs)))

pub number_at : (text : List ℕ) (n i : ℕ) (d : List ℕ) → NumbersIn text n → i < n → IsNumberAt text i (get_or (parts text) i d)
number_at [] n i d s l = absurd (omega (arith, s.counted))
number_at (b ∷ bs) n i d s l =
    let ps = pieces 44 (b ∷ bs) in
    let few : i < length ps = omega (arith, s.counted, length-map ps value_of) in
    let v : value_of (get_or ps i d) ≡ get_or (numbers (b ∷ bs)) i 0 = sym (get_or-map value_of ps i d 0 few) in
    subst (λ qs. IsNumberAt (b ∷ bs) i (get_or qs i d)) (sym (pieces_split 44 (b ∷ bs)))
    (record { formed = numeral_at ps i d s.formed few; value = v; small = omega (arith, v, get_or_largest (numbers (b ∷ bs)) i, s.small) })

-- an iterator that gives the pieces from place i on
module _ {S A : Type 0} {steps : S → Option A → S → Type 0} {v : A → List ℕ} {at : S} (text : List ℕ) (n i : ℕ) (s : NumbersIn text n) (l : i < n)
    (e : YieldsList steps v at (drop i (parts text))) where
  left : AlwaysYields steps v at (get_or (parts text) i [] ∷ drop (i + 1) (parts text))
  left = subst (AlwaysYields steps v at) (drop_more (parts text) i [] (omega (arith, pieces_enough text n s))) e.runs

  -- gives one more
  pub gives_piece : (r : Option A) (u : S) → steps at r u → IsSome r
  gives_piece None u h = absurd (left.0 u h)
  gives_piece (Some x) u h = refl

  -- which is the number at place i, and then those from the next place on
  pub gives_number : (r : Option A) (x : A) (u : S) → r ≡ Some x → steps at r u → IsNumberAt text i (v x) × YieldsList steps v u (drop (i + 1) (parts text))
  gives_number r x u is h =
      let g = left.1 x u (subst (λ o. steps at o u) is h) in
      (subst (IsNumberAt text i) (sym g.0) (number_at text n i [] s l), record { runs = g.1 })
