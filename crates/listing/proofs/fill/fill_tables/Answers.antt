use Rattle.std.proofs.Common.{◌≡◌, ◌+◌, ◌*◌, length, sym, ap, ◌∙◌, arith}
use Rattle.heap.specs.Handed.{tables_of}
use Rattle.listing.specs.Pieces.{numbers}
use Rattle.listing.specs.Lines.{read_roots}
use Rattle.listing.proofs.Checked.{same_heap, no_root_fault}
use Rattle.listing.proofs.Tables.{roots_filled}
use Rattle.listing.proofs.fill.fill_tables.Goals as goal

pub returns-in_err-roots : goal.returns-in_err-roots
returns-in_err-roots c =
    let f = c.in_ok-rest.ensures in
    let at = ap (λ n. read_roots n c.args.body.header.objects c.in_ok-rest.rest.text.now) (sym f.1) in
    absurd (no_root_fault c.args.body.header f.0.done (6 + 3 * c.args.body.header.objects) c.in_ok-rest.rest.text.now c.requires.fits.accepted c.in_err-roots.field-0.0
    (sym f.0.judged ∙ c.requires.fits.judged) (at ∙ c.in_err-roots.ensures.value))

pub fill_roots-requires : goal.fill_roots-requires
fill_roots-requires c =
    let f = c.in_ok-rest.ensures in
    let r = c.in_ok-roots.roots in
    let at = ap (λ n. read_roots n c.args.body.header.objects c.in_ok-rest.rest.text.now) (sym f.1) in
    let s = same_heap c.args.body.header f.0.done (6 + 3 * c.args.body.header.objects) r.count c.in_ok-rest.rest.text.now r.text.now c.roots.new.self.text.now
    c.requires.fits.accepted (sym f.0.judged ∙ c.requires.fits.judged) (at ∙ c.in_ok-roots.ensures.value) in
    let n : length c.requires.fits.accepted.0.roots ≡ length (numbers r.text.now) = ap (λ x. length x.0.roots) s in
    let table : length (tables_of c.fill_objects.new.heap).root_table ≡ length (tables_of c.args.heap.now).root_table = ap (λ t. length t.root_table) f.0.tables in
    record {
      room = omega (arith, n, table, c.requires.fits.roots, c.in_ok-roots.roots.listed.counted);
      empty = ap (λ t. t.roots) f.0.tables ∙ c.requires.empty.2;
    }

pub returns : goal.returns
returns c =
    let f = c.in_ok-rest.ensures in
    let r = c.in_ok-roots.roots in
    let at = ap (λ n. read_roots n c.args.body.header.objects c.in_ok-rest.rest.text.now) (sym f.1) in
    λ x e. c.fill_roots.ensures
    ∙ roots_filled (tables_of c.args.heap.now) (tables_of c.fill_objects.new.heap) c.args.body.header f.0.done (numbers r.text.now) r.count x f.0.tables c.in_ok-roots.roots.listed.counted
    (same_heap c.args.body.header f.0.done (6 + 3 * c.args.body.header.objects) r.count c.in_ok-rest.rest.text.now r.text.now c.roots.new.self.text.now x
    (sym f.0.judged ∙ e) (at ∙ c.in_ok-roots.ensures.value))
