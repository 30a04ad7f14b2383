use Rattle.std.proofs.Common.{◌≡◌, ◌≤◌, drop}
use Rattle.listing.proofs.Digits.{read_up_to}
use Rattle.listing.proofs.number.digits.Given as goal

abbrev pub invariant-loop-b : goal.invariant-loop-b
invariant-loop-b l = (read_up_to 4294967295 l.value (drop l.b-index l.text) ≡ read_up_to 4294967295 0 l.text) × (l.value ≤ 4294967295)
