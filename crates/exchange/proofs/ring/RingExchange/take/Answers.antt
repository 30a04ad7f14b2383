-- A take renews the ring of its pair. Assumes nothing.
use Rattle.std.proofs.Common.{refl, arith}
use Rattle.exchange.proofs.RingSteps.{take_rings, take_memory, take_meaning}
use Rattle.exchange.proofs.ring.RingExchange.take.Goals as goal

pub invariant_of-self : goal.invariant_of-self
invariant_of-self c =
    let r = c.args.self.now in
    let n = c.in_ok-q.ensures in
    let k = take_rings r c.in_ok-q.q n.2 (omega (arith, n.3)) c.take.new.self c.take.new.entries c.take.result c.take.ensures.taken c.take.ensures.ring in
    record { someone = r.someone; sixteen = r.sixteen; holds = r.holds; bounded = r.bounded; room = k.room; rings = k.each }

pub returns : goal.returns
returns c =
    let r = c.args.self.now in
    let n = c.in_ok-q.ensures in
    let p = c.args.pair in
    record {
      meaning = take_meaning r p.sender p.receiver c.in_ok-q.q n (omega (arith, n.3)) c.take.new.self c.take.new.entries _ (record { words = refl; served = refl; length = refl; cursors = refl }) c.take.result c.take.ensures.taken;
      memory = take_memory r p.sender p.receiver c.in_ok-q.q n (omega (arith, n.3)) c.take.new.self c.take.new.entries c.take.result c.take.ensures.taken;
    }
