-- What a push and a pop do to a window of places in a circle. Assumes nothing.
use Rattle.std.proofs.Common.{◌≡◌, ℕ, zero, suc, ◌+◌, ◌-◌, ◌<◌, ◌≤◌, List, [], ◌∷◌, ◌++◌, length, get_or, set, sym, ap, ◌∙◌, arith, rules}
use Rattle.std.proofs.lemmas.List.{places, same_lists, get_or-set_same, length-set, get_or_default}
use Rattle.std.proofs.lemmas.Bool.{cases_eq}
use Rattle.std.proofs.lemmas.Bool.Decides.{nat_tests}
use Rattle.deque.specs.Circle.{wrapped, window}

pub length_window : {X : Type 0} (f h : ℕ) (m : List X) → f ≤ length m → h ≤ length m → length (window f h m) ≡ h
length_window f h m p q = search (rules, places)

get_d_window : {X : Type 0} (f h k : ℕ) (m : List X) (d : X) → f ≤ length m → h ≤ length m → k < h → get_or (window f h m) k d ≡ get_or m (wrapped (length m) (f + k)) d
get_d_window f h k m d p q r = grind (arith, places)

pub window_push : {X : Type 0} (f h : ℕ) (m : List X) (x : X) → f ≤ length m → h < length m
    → window f (h + 1) (set m (wrapped (length m) (f + h)) x) ≡ window f h m ++ (x ∷ [])
window_push f h m x p q =
    same_lists _ _ (grind (arith, places, length-set)) (λ k d r. grind (arith, places, nat_tests, length-set, get_or-set_same, cases_eq k h))

-- the last element stands at the place of the top
pub window_top : {X : Type 0} (f h i : ℕ) (m : List X) (d : X) → f ≤ length m → 0 < h → h ≤ length m → i ≡ wrapped (length m) (f + (h - 1))
    → window f h m ≡ window f (h - 1) m ++ (get_or m i d ∷ [])
window_top f h i m d p l q e = same_lists _ _ (grind (arith, places)) (λ k z b. grind (arith, places, nat_tests, get_or_default, cases_eq k (h - 1)))

-- the first element stands at the first place
pub window_bottom : {X : Type 0} (f h i : ℕ) (m : List X) (d : X) → f < length m → 0 < h → h ≤ length m → i ≡ wrapped (length m) (f + 1)
    → window f h m ≡ get_or m f d ∷ window i (h - 1) m
window_bottom {X} f h i m d p l q e =
    let w : i ≤ length m = rw e (grind (arith, nat_tests)) in
    let n : length (window i (h - 1) m) ≡ h - 1 = length_window i (h - 1) m w (omega arith) in
    same_lists _ _ (length_window f h m (omega arith) q ∙ omega (arith, n)) (λ k z b. element k z w (rw (length_window f h m (omega arith) q) at b))
  where
    element : (k : ℕ) (z : X) → i ≤ length m → k < h → get_or (window f h m) k z ≡ get_or (get_or m f d ∷ window i (h - 1) m) k z
    element zero z w b = get_d_window f h 0 m z (omega arith) q b ∙ grind (arith, nat_tests, get_or_default)
    element (suc k) z w b =
        let same : wrapped (length m) (f + suc k) ≡ wrapped (length m) (i + k) = rw e (grind (arith, nat_tests)) in
        get_d_window f h (suc k) m z (omega arith) q b ∙ ap (λ a. get_or m a z) same ∙ sym (get_d_window i (h - 1) k m z w (omega arith) (omega arith))
