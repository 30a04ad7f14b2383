-- A number as a listing writes it. Assumes nothing.
use Rattle.std.specs.Prelude.{ℕ, ◌+◌, ◌-◌, ◌*◌, Bool, false, not, ◌&&◌, List, [], ◌∷◌, ◌==◌, nat_le}
use Rattle.std.specs.Char.{is_ascii_digit}
use Rattle.std.specs.Str.{all_ascii_digits}

-- decimal digits with no leading zero, except 0 itself
abbrev pub numeral : List ℕ → Bool
numeral [] = false
numeral (b ∷ []) = is_ascii_digit b
numeral (b ∷ c ∷ bs) = not (b == 48) && all_ascii_digits (b ∷ c ∷ bs)

-- the number that digits write, after what was read of it
abbrev pub value_after : ℕ → List ℕ → ℕ
value_after v [] = v
value_after v (b ∷ bs) = value_after (10 * v + (b - 48)) bs

abbrev pub value_of : List ℕ → ℕ
value_of bs = value_after 0 bs

abbrev pub within : ℕ → ℕ → ℕ → Bool
within low high v = nat_le low v && nat_le v high
