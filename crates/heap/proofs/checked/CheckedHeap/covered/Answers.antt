use Rattle.std.proofs.Common.{rules}
use Rattle.heap.proofs.Laid.{covered_all}
use Rattle.heap.proofs.checked.CheckedHeap.covered.Goals as goal

pub returns : goal.returns
returns c = let f = covered_all c.args.self.now c.total_length.result (search rules) in record { value = f.0; within = f.1 }
