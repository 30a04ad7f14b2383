-- A put adds a place. Assumes nothing.
use Rattle.std.proofs.Common.{◌≤◌, sym, refl, ap, ◌∙◌, arith}
use Rattle.exchange.specs.PoolMeaning.{pool_of, added_to}
use Rattle.exchange.proofs.PoolSteps.{held_waiting, put_joins}
use Rattle.exchange.proofs.pool.PoolExchange.put.Goals as goal

pub returns-then-self-ge-PLACES : goal.returns-then-self-ge-PLACES
returns-then-self-ge-PLACES c =
    let s = c.args.self.now in
    record {
      meaning = (c.in_ok-q.ensures.0, omega arith, omega (arith, held_waiting (pool_of s) s.known), refl);
      memory = (omega (arith, s.bounded), sym (held_waiting (pool_of s) s.known), refl);
    }

pub returns : goal.returns
returns c =
    let s = c.args.self.now in
    let h = c.in_ok-q.ensures in
    let two : 2 ≤ s.served = omega (arith, h.0) in
    let after = c.add.ensures ∙ ap (λ q. added_to q c.args.task (pool_of s)) h.1 in
    let j = put_joins (pool_of s) c.args.pair.sender c.args.pair.receiver h.0 c.args.task (omega arith) (omega (arith, s.room two)) (pool_of c.add.new.self) after in
    record {
      memory = (omega arith, sym (held_waiting (pool_of s) s.known), after);
      meaning = (h.0, omega arith, omega (arith, held_waiting (pool_of s) s.known), ap (λ p. p.served) after, j);
    }
