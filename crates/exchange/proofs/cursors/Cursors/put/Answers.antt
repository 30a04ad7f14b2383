use Rattle.std.proofs.Common.{rules}
use Rattle.exchange.proofs.Turns.{put_fills}
use Rattle.exchange.proofs.cursors.Cursors.put.Goals as goal

pub returns-clause-put : goal.returns-clause-put
returns-clause-put c = rw c.entry_after-next.ensures.value (put_fills c.args.self.now c.args.entries.now c.requires.ring c.args.task c.requires.some (search rules))
