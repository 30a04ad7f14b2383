use Rattle.std.proofs.Common.{arith}
use Rattle.std.proofs.lemmas.Result.{err_from_is_err_and}
use Rattle.listing.proofs.Progress.{none_so_far, one_more_so_far, stop_so_far, all_so_far}
use Rattle.listing.proofs.check.check_objects.Goals as goal

pub loop-init : goal.loop-init
loop-init c = none_so_far c.args.body.header c.args.body.lines c.new-objects.result c.args.body.sixth c.new-objects.ensures.parts c.new-objects.ensures.start

pub next_object-requires : goal.next_object-requires
next_object-requires c = omega (arith, c.loop.invariant.numbered)

pub loop-preserved : goal.loop-preserved
loop-preserved c =
    let e = c.in_ok-next_object.ensures in
    one_more_so_far c.args.body.header c.args.body.lines.text.now c.loop.counter c.loop.objects c.next_object.new.self c.in_ok-next_object.field-0
    c.loop.invariant c.loop-test.true e.value e.after c.in_ok-next_object.field-0.refs.listed.counted e.within

pub returns-in_err-next_object : goal.returns-in_err-next_object
returns-in_err-next_object c =
    let p = err_from_is_err_and c.from_residual.result c.from_residual.ensures.1 in
    rw (p.1, p.2) (stop_so_far c.args.body.header c.args.body.lines.text.now c.loop.counter c.loop.objects _ c.loop.invariant c.loop-test.true c.in_err-next_object.ensures.value)

pub returns : goal.returns
returns c = all_so_far c.args.body.header c.args.body.lines.text.now c.loop.counter c.loop.objects c.loop.invariant (omega arith)
