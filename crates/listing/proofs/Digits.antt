-- Reading the digits of a number, byte by byte.
use Rattle.std.proofs.Common.{◌≡◌, ℕ, ◌+◌, ◌-◌, ◌*◌, ◌<◌, ◌≤◌, min, cond, List, [], ◌∷◌, length, get_or, drop, Ok, Err, Result, arith}
use Rattle.refusal.specs.declared.Refusal.{Refusal}
use Rattle.refusal.specs.declared.Refusal.TheVariants.{Form}
use Rattle.std.specs.Str.{all_ascii_digits}
use Rattle.std.proofs.lemmas.List.{drop_more}
use Rattle.std.proofs.lemmas.Bool.Decides.{nat_tests}
use Rattle.listing.specs.Numeral.{value_after}

-- what is read of digits after the number v, up to the number m
abbrev pub read_up_to : ℕ → ℕ → List ℕ → Result ℕ Refusal
read_up_to m v bs = cond (all_ascii_digits bs) (Ok (min (value_after v bs) m)) (Err Form)

-- a number that passed m stays past it
saturated : (bs : List ℕ) (v w m : ℕ) → min v m ≡ min w m → min (value_after v bs) m ≡ min (value_after w bs) m
saturated [] v w m e = e
saturated (b ∷ bs) v w m e = saturated bs (10 * v + (b - 48)) (10 * w + (b - 48)) m (omega arith)

pub read_more : (xs : List ℕ) (i v m : ℕ) → i < length xs → 48 ≤ get_or xs i 0 → get_or xs i 0 ≤ 57
    → read_up_to m (min (min (v * 10) m + (get_or xs i 0 - 48)) m) (drop (i + 1) xs) ≡ read_up_to m v (drop i xs)
read_more xs i v m l a b =
    let e = saturated (drop (i + 1) xs) (min (min (v * 10) m + (get_or xs i 0 - 48)) m) (10 * v + (get_or xs i 0 - 48)) m (omega arith) in
    rw (drop_more xs i 0 l, e) (grind (arith, nat_tests))
