use Rattle.std.proofs.Common.{rules}
use Rattle.listing.proofs.Digits.{read_more}
use Rattle.listing.proofs.number.digits.Goals as goal

pub loop-b-preserved : goal.loop-b-preserved
loop-b-preserved c = search (rules, read_more)
