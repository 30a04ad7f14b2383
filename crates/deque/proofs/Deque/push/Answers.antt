use Rattle.std.proofs.Common.{refl, rules}
use Rattle.deque.proofs.Windows.{window_push}
use Rattle.deque.proofs.Queues.{deque_pushes}
use Rattle.deque.proofs.Deque.push.Goals as goal

pub returns : goal.returns
returns g c = deque_pushes _ _ refl c.args.x (search (rules, window_push))
