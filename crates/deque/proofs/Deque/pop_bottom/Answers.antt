use Rattle.std.proofs.Common.{refl, rules}
use Rattle.deque.proofs.Windows.{window_bottom}
use Rattle.deque.proofs.Queues.{deque_pops_bottom}
use Rattle.deque.proofs.Deque.pop_bottom.Goals as goal

pub returns-then-held-eq0 : goal.returns-then-held-eq0
returns-then-held-eq0 g c = deque_pops_bottom _ _ refl _ (search rules)

pub returns : goal.returns
returns g c = deque_pops_bottom _ _ refl _ (search (rules, window_bottom))
