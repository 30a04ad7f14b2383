use Rattle.std.proofs.Common.{arith, rules}
use Rattle.std.proofs.iter.Serving.{serving}
use Rattle.std.proofs.lemmas.Iterator.Splits.{YieldsList-from_slice_split}
use Rattle.std.proofs.lemmas.List.Edits.{paste_more}
use Rattle.listing.specs.Pieces.{numbers}
use Rattle.listing.proofs.Lists.{gives_piece, gives_number}
use Rattle.listing.proofs.fill.fill_numbers.Goals as goal

pub loop-place-init : goal.loop-place-init
loop-place-init c = search (rules, serving, YieldsList-from_slice_split)

pub unwrap-requires : goal.unwrap-requires
unwrap-requires c = gives_piece c.args.list.text.now c.args.list.count c.loop-place.place-index c.args.list.listed (omega (arith, c.requires)) c.loop-place.invariant.2 _ _ c.next.ensures.steps

pub number_in-requires : goal.number_in-requires
number_in-requires c =
    let g = gives_number c.args.list.text.now c.args.list.count c.loop-place.place-index c.args.list.listed (omega (arith, c.requires)) c.loop-place.invariant.2
    _ c.unwrap.result _ c.unwrap.ensures c.next.ensures.steps in
    (g.0.formed, g.0.small)

pub loop-place-preserved : goal.loop-place-preserved
loop-place-preserved c =
    let g = gives_number c.args.list.text.now c.args.list.count c.loop-place.place-index c.args.list.listed (omega (arith, c.requires)) c.loop-place.invariant.2
    _ c.unwrap.result _ c.unwrap.ensures c.next.ensures.steps in
    let value = g.0.value in
    let written = paste_more c.args.places.now 0 (numbers c.args.list.text.now) c.loop-place.place-index 0 (omega arith) (omega (arith, c.requires, c.args.list.listed.counted)) in
    search rules
