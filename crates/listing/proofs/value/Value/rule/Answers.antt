use Rattle.std.proofs.Common.{rules}
use Rattle.listing.proofs.Words.{named_is}
use Rattle.listing.proofs.value.Value.rule.Goals as goal

pub returns : goal.returns
returns c = search (rules, named_is)
