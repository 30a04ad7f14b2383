use Rattle.listing.proofs.Progress.{ObjectsSoFar}
use Rattle.listing.proofs.check.check_objects.Given as goal

-- as many objects as the loop made turns were read
abbrev pub invariant-loop : goal.invariant-loop
invariant-loop l = ObjectsSoFar l.fn.body.header l.fn.body.lines.text.now l.counter l.objects
