use Rattle.std.proofs.Common.{◌≡◌, arith, rules}
use Rattle.std.specs.Prelude.{is_none}
use Rattle.exchange.proofs.Newest.{newest_is}
use Rattle.exchange.proofs.PoolSteps.{look_meaning}
use Rattle.exchange.proofs.pool.PoolExchange.look.Goals as goal

pub returns-clause-meaning : goal.returns-clause-meaning
returns-clause-meaning c =
    let s = c.args.self.now in
    let e : c.is_none.result ≡ is_none c.newest.result = search rules in
    let f = c.newest.ensures in
    let found = newest_is c.in_ok-q.q s.pairs s.held c.newest.result f.held f.found f.last f.none in
    rw e (look_meaning s c.args.pair.sender c.args.pair.receiver c.in_ok-q.q c.in_ok-q.ensures (omega (arith, s.bounded)) c.newest.result found)
