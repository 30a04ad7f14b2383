use Rattle.std.proofs.Common.{◌≡◌, ℕ, ◌+◌, ◌-◌, ◌≤◌, ◌<◌, length, take, sym, refl, ◌∙◌, arith, rules}
use Rattle.heap.specs.Handed.{tables_of}
use Rattle.listing.specs.Rules.{Objects}
use Rattle.listing.proofs.Progress.{none_so_far, one_more_so_far, stop_so_far, all_so_far}
use Rattle.listing.proofs.Stepping.{object_read}
use Rattle.listing.proofs.Fewer.{references_within}
use Rattle.listing.proofs.Tables.{object_filled, references_filled, tables_filled}
use Rattle.listing.proofs.fill.fill_objects.Goals as goal

pub loop-entry-init : goal.loop-entry-init
loop-entry-init c = (none_so_far c.args.body.header c.args.body.lines c.new-objects.result c.args.body.sixth c.new-objects.ensures.parts c.new-objects.ensures.start, refl, refl)

pub returns-in_err-object : goal.returns-in_err-object
returns-in_err-object c =
    let few : c.loop-entry.entry-index < c.args.body.header.objects = search rules in
    let stop = stop_so_far c.args.body.header c.args.body.lines.text.now c.loop-entry.entry-index c.loop-entry.objects c.in_err-object.field-0.0 c.loop-entry.invariant.0 few c.in_err-object.ensures.value in
    let right = c.requires.fits.judged in
    let z : ◌≡◌ {A = ℕ} 0 1 = cc in
    absurd (omega arith)

pub slice_bounds-fill_numbers-end : goal.slice_bounds-fill_numbers-end
slice_bounds-fill_numbers-end c =
    let few : c.loop-entry.entry-index < c.args.body.header.objects = search rules in
    let e = c.in_ok-object.ensures in
    let h = c.args.body.header in
    let s' = one_more_so_far h c.args.body.lines.text.now c.loop-entry.entry-index c.loop-entry.objects c.next_object.new.self c.in_ok-object.object c.loop-entry.invariant.0 few e.value e.after c.in_ok-object.object.refs.listed.counted e.within in
    let w = references_within (Objects h s'.done (h.objects - (c.loop-entry.entry-index + 1))) c.next_object.new.self.lines.number c.next_object.new.self.lines.text.now
    c.requires.fits.accepted (sym s'.judged ∙ c.requires.fits.judged) in
    let enough : c.next_object.new.self.references ≤ length c.loop-entry.references = omega (arith, w, s'.counted, c.requires.fits.references) in
    search rules

pub loop-entry-preserved : goal.loop-entry-preserved
loop-entry-preserved c =
    let few : c.loop-entry.entry-index < c.args.body.header.objects = search rules in
    let s = c.loop-entry.invariant.0 in
    let o = c.in_ok-object.object in
    let x = object_read (o.at, o.len, (o.refs.count, o.refs.text.now)) in
    let e = c.in_ok-object.ensures in
    let n = c.loop-entry.objects.references in
    let entries = object_filled (take c.from.result c.args.heap.now.object_table.now) s.done x c.loop-entry.entry-index n o.refs.count s.long c.loop-entry-test.true s.counted o.refs.listed.counted in
    let references = references_filled c.args.heap.now.reference_table.now c.loop-entry.references c.fill_numbers.new.places s.done x n (c.next_object.new.self.references - n)
    c.loop-entry.invariant.2 c.fill_numbers.ensures s.counted (omega (arith, e.after.references, o.refs.listed.counted)) in (
      one_more_so_far c.args.body.header c.args.body.lines.text.now c.loop-entry.entry-index c.loop-entry.objects c.next_object.new.self o s few e.value e.after o.refs.listed.counted e.within,
      search rules,
      references,
    )

pub returns : goal.returns
returns c =
    let h = c.args.body.header in
    let s = c.loop-entry.invariant.0 in
    let n : c.loop-entry.entry-index ≡ h.objects = search rules in
    let read = all_so_far h c.args.body.lines.text.now c.loop-entry.entry-index c.loop-entry.objects s n in (
      record {
        done = s.done;
        long = read.0.long;
        judged = read.0.judged;
        tables = tables_filled (tables_of c.args.heap.now) s.done c.from.result c.loop-entry.entries c.loop-entry.references (omega (arith, s.long, n)) c.loop-entry.invariant.1 c.loop-entry.invariant.2;
      },
      read.1,
    )
