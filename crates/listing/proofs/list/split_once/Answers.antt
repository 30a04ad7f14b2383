use Rattle.std.proofs.Common.{◌+◌, None, Some, rules}
use Rattle.std.proofs.lemmas.List.{take_rest}
use Rattle.listing.proofs.Cuts.{cut_at}
use Rattle.listing.proofs.list.split_once.Goals as goal

pub returns-in_err-at : goal.returns-in_err-at
returns-in_err-at c = rw c.from_residual.ensures (cut_at c.args.separator c.args.text.now None (search rules))

pub returns : goal.returns
returns c = rw (take_rest c.args.text.now (c.in_ok-at.at + 1)) (cut_at c.args.separator c.args.text.now (Some c.in_ok-at.at) (search rules))
