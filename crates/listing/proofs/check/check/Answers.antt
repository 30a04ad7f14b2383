use Rattle.std.proofs.Common.{◌≡◌, ◌+◌, ◌*◌, Err, sym, refl, ap, ◌∙◌, arith, rules}
use Rattle.std.proofs.lemmas.List.{nil_from_length}
use Rattle.std.proofs.lemmas.Result.{err_from_is_err_and}
use Rattle.refusal.specs.declared.Refusal.TheVariants.{Form}
use Rattle.refusal.specs.Table.{fault}
use Rattle.listing.specs.Lines.{read_roots}
use Rattle.listing.proofs.Checked.{header_refused, headed, roots_refused, accepted_read, more_behind}
use Rattle.listing.proofs.check.check.Goals as goal

pub returns-in_err-body : goal.returns-in_err-body
returns-in_err-body c =
    let p = err_from_is_err_and c.from_residual.result c.from_residual.ensures.1 in
    rw (p.1, p.2) (header_refused c.args.text.now c.in_err-body.field-0.0 c.in_err-body.ensures)

pub returns-in_err-objects : goal.returns-in_err-objects
returns-in_err-objects c =
    let p = err_from_is_err_and c.from_residual-in_err-objects.result c.from_residual-in_err-objects.ensures.1 in
    rw (p.1, p.2) (headed c.args.text.now c.in_ok-body.body.lines.text.now c.in_ok-body.body.header c.in_ok-body.ensures ∙ c.in_err-objects.ensures)

pub returns-in_err-roots : goal.returns-in_err-roots
returns-in_err-roots c =
    let p = err_from_is_err_and c.from_residual-in_err-roots.result c.from_residual-in_err-roots.ensures.1 in
    let h = c.in_ok-body.body.header in
    let r = c.in_ok-objects.objects in
    let at = ap (λ n. read_roots n h.objects r.lines.text.now) (sym c.in_ok-objects.ensures.1) in
    rw (p.1, p.2)
    (roots_refused c.args.text.now c.in_ok-body.body.lines.text.now r.lines.text.now h r.references c.in_err-roots.field-0.0
    c.in_ok-body.ensures c.in_ok-objects.ensures.0 (at ∙ c.in_err-roots.ensures.value))

pub returns : goal.returns
returns c =
    let h = c.in_ok-body.body.header in
    let r = c.in_ok-objects.objects in
    let at = ap (λ n. read_roots n h.objects r.lines.text.now) (sym c.in_ok-objects.ensures.1) in (
      accepted_read c.args.text.now c.in_ok-body.body.lines.text.now r.lines.text.now c.in_ok-roots.roots.text.now c.roots.new.self.text.now
          h r.references c.in_ok-roots.roots.count c.in_ok-body.ensures c.in_ok-objects.ensures.0 (at ∙ c.in_ok-roots.ensures.value)
          (nil_from_length c.roots.new.self.text.now (search rules)) c.in_ok-roots.roots.listed.counted,
      refl,
    )

pub returns-then-not-is_empty : goal.returns-then-not-is_empty
returns-then-not-is_empty c =
    let h = c.in_ok-body.body.header in
    let r = c.in_ok-objects.objects in
    let at = ap (λ n. read_roots n h.objects r.lines.text.now) (sym c.in_ok-objects.ensures.1) in
    let line : c.roots.new.self.number ≡ 6 + 3 * h.objects + 1 = omega (arith, c.in_ok-roots.ensures.number, c.in_ok-objects.ensures.1) in
    more_behind c.args.text.now c.in_ok-body.body.lines.text.now r.lines.text.now c.in_ok-roots.roots.text.now c.roots.new.self.text.now
    h r.references c.in_ok-roots.roots.count c.in_ok-body.ensures c.in_ok-objects.ensures.0 (at ∙ c.in_ok-roots.ensures.value) (search rules)
    ∙ ap (λ n. Err (fault Form n)) (sym line)
