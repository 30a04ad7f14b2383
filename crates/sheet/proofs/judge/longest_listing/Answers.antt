use Rattle.listing.proofs.Longest.{longest_written}
use Rattle.sheet.proofs.judge.longest_listing.Goals as goal

pub returns-clause-law : goal.returns-clause-law
returns-clause-law c = longest_written
