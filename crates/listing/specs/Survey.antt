-- What a list of numbers is known by before it is read: its form, how many numbers it has and the largest. Assumes nothing.
use Rattle.std.specs.Prelude.{◌≡◌, ℕ, ◌-◌, ◌^◌, ◌≤◌, min, true, cond, List, map, length, Ok, Err, Result}
use Rattle.refusal.specs.declared.Refusal.{Refusal}
use Rattle.refusal.specs.declared.Refusal.TheVariants.{Form}
use Rattle.listing.specs.declared.list.Survey.{Survey}
use Rattle.listing.specs.Numeral.{value_of}
use Rattle.listing.specs.Pieces.{all_numerals, numerals, numbers, largest}

-- a number above 2^32 - 1 is taken for that
abbrev pub surveyed : List (List ℕ) → Result Survey Refusal
surveyed ps =
    cond (all_numerals ps) (Ok (record { count = length ps; largest = min (largest (map value_of ps)) (2 ^ 32 - 1) })) (Err Form)

-- a text is a list of that many numbers, none above 65,535
pub record NumbersIn (text : List ℕ) (count : ℕ) : Type 0 where
  pub formed : numerals text ≡ true
  pub small : largest (numbers text) ≤ 65535
  pub counted : count ≡ length (numbers text)
