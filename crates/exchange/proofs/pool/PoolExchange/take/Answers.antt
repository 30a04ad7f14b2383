use Rattle.std.proofs.Common.{◌≡◌, Some, None, sym, refl, ap, subst, arith}
use Rattle.exchange.specs.Pairs.{pair_at}
use Rattle.exchange.specs.Places.{newest_of}
use Rattle.exchange.specs.PoolMeaning.{pool_of}
use Rattle.exchange.proofs.Newest.{newest_is, nothing_newest}
use Rattle.exchange.proofs.PoolSteps.{taken, take_leaves}
use Rattle.exchange.proofs.pool.PoolExchange.take.Goals as goal

pub returns-in-Some : goal.returns-in-Some
returns-in-Some c =
    let s = c.args.self.now in
    let h = c.in_ok-q.ensures in
    let f = c.in-Some.ensures in
    let found = subst (λ q. newest_of q s.pairs s.held ≡ Some c.in-Some.k) h.1 (sym (newest_is c.in_ok-q.q s.pairs s.held (Some c.in-Some.k) f.held f.found f.last tt)) in
    let a = c.remove.ensures.after in
    let t = c.remove.ensures.task in
    let l = take_leaves (pool_of s) c.args.pair.sender c.args.pair.receiver h.0 c.in-Some.k found (omega (arith, s.bounded)) s.lent (pool_of c.remove.new.self) a in
    let given = taken (pool_of s) (pair_at s.served c.args.pair.sender c.args.pair.receiver) c.in-Some.k found (omega (arith, s.bounded)) s.lent (pool_of c.remove.new.self) a in
    record {
      memory = (c.in-Some.k, rw (← t) at given);
      meaning = (h.0, ap (λ p. p.served) a, rw (← t) at l);
    }

pub returns-in-None : goal.returns-in-None
returns-in-None c =
    let s = c.args.self.now in
    let h = c.in_ok-q.ensures in
    let none = subst (λ q. newest_of q s.pairs s.held ≡ None) h.1 (sym (newest_is c.in_ok-q.q s.pairs s.held None tt tt tt c.in-None.ensures.none)) in
    record { meaning = (h.0, nothing_newest (pair_at s.served c.args.pair.sender c.args.pair.receiver) s.pairs s.words.now s.held none, refl); memory = (none, refl) }
