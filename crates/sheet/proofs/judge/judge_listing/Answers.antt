use Rattle.std.proofs.Common.{◌≡◌, ◌≤◌, length, Ok, Err, refl, sym, ap, ◌∙◌, arith}
use Rattle.std.proofs.lemmas.Result.{err_from_is_err_and}
use Rattle.heap.specs.Handed.{heap_of, tables_of}
use Rattle.sheet.specs.Judged.{judged_up_to, answer_to}
use Rattle.sheet.proofs.Rooms.{ok_judged, err_judged, short_text, shown_printed}
use Rattle.sheet.proofs.judge.judge_listing.Goals as goal

pub returns-in_err-settings : goal.returns-in_err-settings
returns-in_err-settings c =
    let text = c.args.text.now in
    let r = c.from_residual-in_err-settings.result in
    let f = c.in_err-settings.field-0.0 in
    let t = tables_of c.empty-heap.result in
    let over = c.empty-heap.ensures in
    let objects : 65535 ≤ length t.object_table = omega (arith, ap (λ u. length u.object_table) over, c.deref_mut.ensures.len, c.in_ok-objects.ensures.len, c.from.ensures) in
    let references : 262144 ≤ length t.reference_table = omega (arith, ap (λ u. length u.reference_table) over, c.deref_mut-2.ensures.len, c.in_ok-references.ensures.len) in
    let roots : 4096 ≤ length t.root_table = omega (arith, ap (λ u. length u.root_table) over, c.deref_mut-3.ensures.len, c.in_ok-roots.ensures.len) in
    let j : judged_up_to text ≡ Err f = sym (short_text text (omega arith)) ∙ err_judged text t f objects references roots (c.in_err-settings.ensures.refused f refl) in
    let passed = err_from_is_err_and r c.from_residual-in_err-settings.ensures.1 in
    let e : r ≡ answer_to (judged_up_to text) = passed.1 ∙ ap Err passed.2 ∙ sym (ap answer_to j) in
    record { answer = λ _. e; shown = λ _. shown_printed r _ e }

pub returns : goal.returns
returns c =
    let text = c.args.text.now in
    let h = heap_of c.read.new.heap in
    let s = c.in_ok-settings.settings in
    let j : judged_up_to text ≡ Ok (h, s) = sym (short_text text (omega arith)) ∙ ok_judged text h s (tables_of c.empty-heap.result) (c.in_ok-settings.ensures.accepted s refl) in
    let e = ap Ok c.of.ensures ∙ sym (ap answer_to j) in
    record { answer = λ _. e; shown = λ _. shown_printed (Ok c.of.result) _ e }
