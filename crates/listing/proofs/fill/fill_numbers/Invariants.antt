use Rattle.std.proofs.Common.{◌≡◌, drop}
use Rattle.std.proofs.Math.Seq.{paste}
use Rattle.std.proofs.lemmas.Iterator.{YieldsList}
use Rattle.listing.specs.Pieces.{numbers}
use Rattle.listing.proofs.Cuts.{parts}
use Rattle.listing.proofs.fill.fill_numbers.Given as goal

-- the pieces that are left come from the iterator, and the numbers before them are written
abbrev pub invariant-loop-place : goal.invariant-loop-place
invariant-loop-place l =
    (goal.iterator-loop-place).can_next l.pieces
    × (goal.iterator-loop-place).is_finite l.pieces
    × YieldsList (goal.iterator-loop-place).next_gives (λ x. x.now) l.pieces (drop l.place-index (parts l.fn.list.text.now))
    × (l.places ≡ paste l.initial.places 0 (numbers l.fn.list.text.now) l.place-index)
