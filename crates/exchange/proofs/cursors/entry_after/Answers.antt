-- The entry after, by the test for the last. Assumes nothing.
use Rattle.std.proofs.Common.{◌≡◌, ◌+◌, sym, mod-eq_of_lt, arith}
use native.Mathlib.Nat.{mod_self}
use Rattle.exchange.proofs.cursors.entry_after.Goals as goal

pub returns-then-next-length : goal.returns-then-next-length
returns-then-next-length c = record { value = sym (mod-eq_of_lt c.if-next-length.true); within = c.if-next-length.true }

pub returns-else-next-length : goal.returns-else-next-length
returns-else-next-length c =
    let last : c.args.at + 1 ≡ c.args.length = omega arith in
    record { value = rw last (sym (mod_self c.args.length)); within = omega arith }
