-- Cutting a text at a separator, and what the pieces are.
use Rattle.std.proofs.Common.{◌≡◌, ℕ, suc, ◌+◌, ◌<◌, ◌≤◌, true, false, cond, eqb, List, [], ◌∷◌, length, take, drop, Some, None, Option, MatchOption, not, ⊎_elim, sym, refl, ap, ◌∙◌, arith}
use Rattle.std.specs.List.{position, position_or_len, slice_split, onto_first}
use Rattle.std.proofs.lemmas.Bool.{lt-ltb, le-ltb, cases_lt}
use Rattle.listing.specs.Pieces.{up_to, past, pieces, on_first}

abbrev pub pieces_of : ℕ → Option (List ℕ) → List (List ℕ)
pieces_of s None = []
pieces_of s (Some ys) = pieces s ys

-- the first piece and the others
pub pieces_step : (s : ℕ) (xs : List ℕ) → pieces s xs ≡ up_to s xs ∷ pieces_of s (past s xs)
pieces_step s [] = refl
pieces_step s (b ∷ bs) =
    elim (eqb b s) as (λ v. cond v ([] ∷ pieces s bs) (on_first b (pieces s bs)) ≡ cond v [] (b ∷ up_to s bs) ∷ pieces_of s (cond v (Some bs) (past s bs)))
    [ true ↦ refl | false ↦ ap (on_first b) (pieces_step s bs) ]

pub pieces_more : (s : ℕ) (xs p ys : List ℕ) → p ≡ up_to s xs → Some ys ≡ past s xs → pieces s xs ≡ p ∷ pieces s ys
pieces_more s xs p ys e f = rw (pieces_step s xs, sym e, sym f)

pub pieces_last : (s : ℕ) (xs p : List ℕ) → p ≡ up_to s xs → None ≡ past s xs → pieces s xs ≡ p ∷ []
pieces_last s xs p e f = rw (pieces_step s xs, sym e, sym f)

pub up_to_none : (s : ℕ) (xs : List ℕ) → past s xs ≡ None → up_to s xs ≡ xs
up_to_none s [] e = refl
up_to_none s (b ∷ bs) e =
    elim (eqb b s) as (λ v. cond v (Some bs) (past s bs) ≡ None → cond v [] (b ∷ up_to s bs) ≡ b ∷ bs)
    [ true ↦ (λ q. let z : ◌≡◌ {A = ℕ} 0 1 = cc in absurd (omega arith)) | false ↦ (λ q. ap (λ ys. b ∷ ys) (up_to_none s bs q)) ]
    e

abbrev place_of : ℕ → List ℕ → ℕ
place_of s xs = position_or_len (λ b. eqb b s) xs

cut_found : (s : ℕ) (xs : List ℕ) → place_of s xs < length xs → (take (place_of s xs) xs ≡ up_to s xs) × (past s xs ≡ Some (drop (place_of s xs + 1) xs))
cut_found s [] l = absurd (omega arith)
cut_found s (b ∷ bs) l =
    elim (eqb b s) as (λ v. cond (not v) (1 + place_of s bs) 0 < length (b ∷ bs)
    → (take (cond (not v) (1 + place_of s bs) 0) (b ∷ bs) ≡ cond v [] (b ∷ up_to s bs)) × (cond v (Some bs) (past s bs) ≡ Some (drop (cond (not v) (1 + place_of s bs) 0 + 1) (b ∷ bs))))
    [ true ↦ (λ q. (refl, refl)) | false ↦ (λ q. one_later (place_of s bs) (1 + place_of s bs) (omega arith) (cut_found s bs (omega arith))) ]
    l
  where
    one_later : (n m : ℕ) → m ≡ suc n → (take n bs ≡ up_to s bs) × (past s bs ≡ Some (drop (n + 1) bs))
        → (take m (b ∷ bs) ≡ b ∷ up_to s bs) × (past s bs ≡ Some (drop (m + 1) (b ∷ bs)))
    one_later n m e h = let a : suc n + 1 ≡ suc (n + 1) = omega arith in rw (e, a) (ap (λ ys. b ∷ ys) h.0, h.1)

cut_missed : (s : ℕ) (xs : List ℕ) → length xs ≤ place_of s xs → past s xs ≡ None
cut_missed s [] l = refl
cut_missed s (b ∷ bs) l =
    elim (eqb b s) as (λ v. length (b ∷ bs) ≤ cond (not v) (1 + place_of s bs) 0 → cond v (Some bs) (past s bs) ≡ None)
    [ true ↦ (λ q. absurd (omega arith)) | false ↦ (λ q. cut_missed s bs (omega arith)) ]
    l

-- where a separator is first found, the text is cut
pub cut_at : (s : ℕ) (xs : List ℕ) (o : Option ℕ) → o ≡ position (λ b. eqb b s) xs
    → MatchOption o (past s xs ≡ None) (λ i. (take i xs ≡ up_to s xs) × (past s xs ≡ Some (drop (i + 1) xs)))
cut_at s xs o e =
    ⊎_elim
    (λ (l : place_of s xs < length xs). rw (e, lt-ltb (place_of s xs) (length xs) l) (cut_found s xs l))
    (λ (l : length xs ≤ place_of s xs). rw (e, le-ltb (place_of s xs) (length xs) l) (cut_missed s xs l))
    (cases_lt (place_of s xs) (length xs))

-- the library's pieces are these
pub pieces_split : (s : ℕ) (xs : List ℕ) → slice_split (λ b. eqb b s) xs ≡ pieces s xs
pieces_split s [] = refl
pieces_split s (b ∷ bs) =
    elim (eqb b s) as (λ v. cond v ([] ∷ slice_split (λ b. eqb b s) bs) (onto_first b (slice_split (λ b. eqb b s) bs)) ≡ cond v ([] ∷ pieces s bs) (on_first b (pieces s bs))) [
      | true ↦ ap (λ ps. [] ∷ ps) (pieces_split s bs)
      | false ↦ (ap (onto_first b) (pieces_split s bs ∙ pieces_step s bs) ∙ ap (on_first b) (sym (pieces_step s bs)))
    ]

-- the pieces of a list of numbers, as `split` gives them
abbrev pub parts : List ℕ → List (List ℕ)
parts text = slice_split (λ b. eqb b 44) text
