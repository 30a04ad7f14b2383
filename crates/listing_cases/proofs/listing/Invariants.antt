use Rattle.std.proofs.Common.{length}
use Rattle.listing_cases.proofs.listing.Given as goal

abbrev pub decreases-loop-plain : goal.decreases-loop-plain
decreases-loop-plain l = length l.rest
