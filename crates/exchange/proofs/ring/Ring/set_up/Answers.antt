-- A ring is set up with vacant entries. Assumes nothing.
use Rattle.std.proofs.Common.{◌≡◌, ◌≤◌, ◌++◌, ◌*◌, ◌-◌, drop, replicate, ap, arith, rules}
use Rattle.exchange.specs.Entries.{at_start}
use Rattle.exchange.specs.Pairs.{pair_at}
use Rattle.exchange.proofs.Pairings.{number_lt, pairs_few}
use Rattle.exchange.proofs.RingFresh.{none_wait, fresh_rings}
use Rattle.exchange.proofs.ring.Ring.set_up.Goals as goal

pub invariant_of-self : goal.invariant_of-self
invariant_of-self c =
    let m = c.args.markers in
    let zeros : c.fill.new.self ≡ replicate (m * (m - 1) * c.args.length) 0 = search rules in
    let some : 1 ≤ c.args.length = search rules in
    let short : c.args.length ≤ 64 = search rules in
    let one : 1 ≤ m = search rules in
    let few : m ≤ 16 = search rules in
    let fresh = fresh_rings m c.args.length c.args.self.now.words some (pairs_few m few) in
    let s = rw (← zeros) at fresh in
    record {
      someone = omega arith;
      sixteen = omega arith;
      holds = omega arith;
      bounded = omega arith;
      room = s.room;
      rings = s.each;
    }

pub returns-clause-made : goal.returns-clause-made
returns-clause-made c =
    let m = c.args.markers in
    let words = c.args.self.now.words in
    let some : 1 ≤ c.args.length = search rules in
    let few : m ≤ 16 = search rules in
    let zeros : c.fill.new.self ≡ replicate (m * (m - 1) * c.args.length) 0 = search rules in (
      ap (λ ws. record { served = m; length = c.args.length; words = ws ++ drop (m * (m - 1) * c.args.length) words.now; cursors = replicate 240 at_start; lender = words.ghost_name }) zeros,
      λ i j p. rw zeros (none_wait m c.args.length c.args.self.now.words some (pairs_few m few) (pair_at m i j) (number_lt m i j p)),
    )
