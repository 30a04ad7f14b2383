use Rattle.std.proofs.Common.{◌≡◌, length, drop}
use Rattle.listing.specs.Pieces.{pieces}
use Rattle.listing.specs.Survey.{surveyed}
use Rattle.listing.proofs.Cuts.{parts}
use Rattle.listing.proofs.Surveys.{survey_after}
use Rattle.listing.proofs.list.survey_list.Given as goal

abbrev pub invariant-loop-piece : goal.invariant-loop-piece
invariant-loop-piece l =
    (goal.iterator-loop-piece).can_next l.piece-iterator
    × (goal.iterator-loop-piece).is_finite l.piece-iterator
    × (survey_after l.seen (drop (length l.yielded) (parts l.text)) ≡ surveyed (pieces 44 l.text))
    × (l.seen.count ≡ length l.yielded)
