-- Looking through a list of numbers, piece by piece.
use Rattle.std.proofs.Common.{◌≡◌, ℕ, ◌+◌, ◌<◌, ◌≤◌, min, max, Bool, true, false, cond, List, [], ◌∷◌, map, length, get_or, drop, Ok, Err, Result, sym, refl, ap, ◌∙◌, arith}
use Rattle.std.proofs.lemmas.List.{drop_more, drop_all}
use Rattle.refusal.specs.declared.Refusal.{Refusal}
use Rattle.refusal.specs.declared.Refusal.TheVariants.{Form}
use Rattle.listing.specs.declared.list.Survey.{Survey}
use Rattle.listing.specs.Numeral.{numeral, value_of}
use Rattle.listing.specs.Pieces.{pieces, listed, all_numerals, largest}
use Rattle.listing.specs.Survey.{surveyed}

abbrev pub top : ℕ
top = 4294967295

-- the pieces that are left, after what was seen of the list
abbrev pub survey_after : Survey → List (List ℕ) → Result Survey Refusal
survey_after s ps =
    cond (all_numerals ps) (Ok (record { count = s.count + length ps; largest = max s.largest (min (largest (map value_of ps)) top) })) (Err Form)

pub survey_start : (ps : List (List ℕ)) → survey_after (record { count = 0; largest = 0 }) ps ≡ surveyed ps
survey_start ps =
    let a : 0 + length ps ≡ length ps = omega arith in
    let b : max 0 (min (largest (map value_of ps)) top) ≡ min (largest (map value_of ps)) top = omega arith in
    rw (a, b)

survey_piece : (s : Survey) (p : List ℕ) (ps : List (List ℕ)) (n : ℕ) → numeral p ≡ true → n ≡ min (value_of p) top
    → survey_after (record { count = s.count + 1; largest = max s.largest n }) ps ≡ survey_after s (p ∷ ps)
survey_piece s p ps n q e =
    let a : s.count + 1 + length ps ≡ s.count + length (p ∷ ps) = omega arith in
    let b : max (max s.largest n) (min (largest (map value_of ps)) top) ≡ max s.largest (min (max (value_of p) (largest (map value_of ps))) top) = omega (arith, e) in
    rw (a, b, q)

ok_cond : {A : Type 0} (b : Bool) (x n : A) → Ok n ≡ cond b (Ok x) (Err Form) → (b ≡ true) × (n ≡ x)
ok_cond true x n e = (refl, cc)
ok_cond false x n e = let z : ◌≡◌ {A = ℕ} 0 1 = cc in absurd (omega arith)

err_cond : {A : Type 0} (b : Bool) (x : A) (y : Refusal) → Err y ≡ cond b (Ok x) (Err Form) → (b ≡ false) × (y ≡ Form)
err_cond true x y e = let z : ◌≡◌ {A = ℕ} 0 1 = cc in absurd (omega arith)
err_cond false x y e = (refl, cc)

-- the piece at place i is the next
pub survey_more : (s : Survey) (ps : List (List ℕ)) (i : ℕ) (p : List ℕ) (n : ℕ) → (i < length ps) × (p ≡ get_or ps i p)
    → Ok n ≡ cond (numeral p) (Ok (min (value_of p) top)) (Err Form)
    → survey_after (record { count = s.count + 1; largest = max s.largest n }) (drop (i + 1) ps) ≡ survey_after s (drop i ps)
survey_more s ps i p n at g =
    let h = ok_cond (numeral p) (min (value_of p) top) n g in
    survey_piece s p (drop (i + 1) ps) n h.0 h.1 ∙ ap (survey_after s) (sym (drop_more ps i p at.0 ∙ ap (λ q. q ∷ drop (i + 1) ps) (sym at.1)))

pub survey_not : (s : Survey) (ps : List (List ℕ)) (i : ℕ) (p : List ℕ) (y : Refusal) → (i < length ps) × (p ≡ get_or ps i p)
    → Err y ≡ cond (numeral p) (Ok (min (value_of p) top)) (Err Form) → Err y ≡ survey_after s (drop i ps)
survey_not s ps i p y at g =
    let h = err_cond (numeral p) (min (value_of p) top) y g in
    let e : drop i ps ≡ p ∷ drop (i + 1) ps = drop_more ps i p at.0 ∙ ap (λ q. q ∷ drop (i + 1) ps) (sym at.1) in
    rw (e, h.0) (ap Err h.1)

pub survey_all : (s : Survey) (ps : List (List ℕ)) (i : ℕ) → length ps ≤ i → Ok s ≡ survey_after s (drop i ps)
survey_all s ps i l =
    let a : s.count ≡ s.count + 0 = omega arith in
    let b : s.largest ≡ max s.largest (min 0 top) = omega arith in
    ap (λ k. Ok (record { count = k; largest = s.largest })) a
    ∙ ap (λ k. Ok (record { count = s.count + 0; largest = k })) b
    ∙ ap (survey_after s) (sym (drop_all i ps l))

-- a list that is not empty is its pieces
pub listed_some : (v : List ℕ) → 0 < length v → surveyed (pieces 44 v) ≡ surveyed (listed v)
listed_some [] l = absurd (omega arith)
listed_some (b ∷ bs) l = refl
