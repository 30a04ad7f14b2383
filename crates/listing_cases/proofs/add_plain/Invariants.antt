use Rattle.std.proofs.Common.{length}
use Rattle.listing_cases.proofs.add_plain.Given as goal

abbrev pub decreases-loop-byte : goal.decreases-loop-byte
decreases-loop-byte l = length l.rest
