use Rattle.heap.proofs.Laid.{lawful}
use Rattle.heap.proofs.checked.CheckedHeap.sections.Goals as goal

pub returns-clause-lawful : goal.returns-clause-lawful
returns-clause-lawful c = lawful c.args.self.now
