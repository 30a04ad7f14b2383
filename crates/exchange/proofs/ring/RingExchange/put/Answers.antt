-- A put renews the ring of its pair. Assumes nothing.
use Rattle.std.proofs.Common.{refl, arith, rules}
use Rattle.exchange.proofs.RingSteps.{lent_within, put_rings, put_memory, put_meaning}
use Rattle.exchange.proofs.ring.RingExchange.put.Goals as goal

pub slice_bounds-put-end : goal.slice_bounds-put-end
slice_bounds-put-end c = search (rules, lent_within)

pub invariant_of-self : goal.invariant_of-self
invariant_of-self c =
    let r = c.args.self.now in
    let n = c.in_ok-q.ensures in
    let k = put_rings r c.in_ok-q.q n.2 (omega (arith, n.3)) c.put.new.self c.put.new.entries c.args.task c.put.result c.put.ensures.put c.put.ensures.ring in
    record { someone = r.someone; sixteen = r.sixteen; holds = r.holds; bounded = r.bounded; room = k.room; rings = k.each }

pub returns : goal.returns
returns c =
    let r = c.args.self.now in
    let n = c.in_ok-q.ensures in
    let p = c.args.pair in
    record {
      meaning = put_meaning r p.sender p.receiver c.in_ok-q.q n (omega (arith, n.3)) c.put.new.self c.put.new.entries _ (record { words = refl; served = refl; length = refl; cursors = refl }) c.args.task c.put.result (omega arith) c.put.ensures.put;
      memory = put_memory r p.sender p.receiver c.in_ok-q.q n (omega (arith, n.3)) c.put.new.self c.put.new.entries c.args.task c.put.result c.put.ensures.put;
    }
