use Rattle.std.proofs.Common.{◌≡◌, [], subst, Ok, Err, Result, sym, refl, ap, ◌∙◌}
use Rattle.std.proofs.lemmas.Result.{err_from_is_err_and}
use Rattle.refusal.specs.declared.Fault.{Fault}
use Rattle.refusal.specs.declared.Refusal.TheVariants.{Memory}
use Rattle.refusal.specs.Table.{fault}
use Rattle.heap.specs.Handed.{tables_of}
use Rattle.listing.specs.declared.settings.Settings.{Settings}
use Rattle.listing.specs.Rules.{Objects}
use Rattle.listing.specs.Filling.{BodyFits}
use Rattle.listing.specs.Judge.{judge, judge_text}
use Rattle.listing.specs.Reader.{answered, left_in}
use Rattle.listing.proofs.Ready.{body_fits, numbers_kept, totals_filled, short_answer, full_answer}
use Rattle.listing.proofs.Promised.{accepted_fits, fitting_accepted, refused_for, refused_so}
use Rattle.listing.proofs.reader.read.Goals as goal

pub fill_tables-requires : goal.fill_tables-requires
fill_tables-requires c =
    let a = c.in_ok-totals.ensures.0 in
    let e = c.clear.ensures in
    record {
      fits = subst (λ h. BodyFits h c.in_ok-totals.body.lines.text.now (tables_of c.clear.new.heap)) (sym c.in_ok-totals.ensures.1)
          (body_fits c.args.text.now c.in_ok-totals.body.lines.text.now c.in_ok-totals.totals (tables_of c.args.heap.now) (tables_of c.clear.new.heap) a
          c.if-not-has_room.ensures e);
      empty = (ap (λ t. t.objects) e, ap (λ t. t.references) e, ap (λ t. t.roots) e);
    }

pub set_numbers-requires : goal.set_numbers-requires
set_numbers-requires c =
    let a = c.in_ok-totals.ensures.0 in
    numbers_kept c.args.text.now c.in_ok-totals.body.lines.text.now c.in_ok-totals.totals (tables_of c.args.heap.now) (tables_of c.clear.new.heap)
    (tables_of c.fill_tables.new.heap) a c.clear.ensures (c.in_ok-fill_tables.ensures a.heap (ap (λ h. judge_text (Objects h [] h.objects) 6 c.in_ok-totals.body.lines.text.now) c.in_ok-totals.ensures.1 ∙ a.behind))

pub returns-in_err-totals : goal.returns-in_err-totals
returns-in_err-totals c =
    let text = c.args.text.now in
    let t = tables_of c.args.heap.now in
    let p = err_from_is_err_and c.from_residual.result c.from_residual.ensures.1 in
    let e = c.in_err-totals.ensures in
    let answer : c.from_residual.result ≡ answered (judge text) t = p.1 ∙ ap Err p.2 ∙ sym (ap (λ v. answered v t) e) in
    let tables : t ≡ left_in (judge text) t = sym (ap (λ v. left_in v t) e) in
    record {
      answer = answer;
      tables = tables;
      lenders = refl;
      accepted = λ s q. accepted_fits text t t c.from_residual.result s answer tables q;
      accepts = λ h s q. fitting_accepted text t t c.from_residual.result h s answer tables q;
      refused = λ f q. refused_for text t c.from_residual.result f answer q;
      refuses = λ f q. refused_so text t c.from_residual.result f answer q;
    }

pub returns-then-not-has_room : goal.returns-then-not-has_room
returns-then-not-has_room c =
    let text = c.args.text.now in
    let t = tables_of c.args.heap.now in
    let a = c.in_ok-totals.ensures.0 in
    let s = short_answer text c.in_ok-totals.body.lines.text.now c.in_ok-totals.totals t a c.if-not-has_room.ensures in
    record {
      answer = s.0;
      tables = s.1;
      lenders = refl;
      accepted = λ s' q. accepted_fits text t t (Err (fault Memory 0)) s' s.0 s.1 q;
      accepts = λ h s' q. fitting_accepted text t t (Err (fault Memory 0)) h s' s.0 s.1 q;
      refused = λ f q. refused_for text t (Err (fault Memory 0)) f s.0 q;
      refuses = λ f q. refused_so text t (Err (fault Memory 0)) f s.0 q;
    }

pub returns : goal.returns
returns c =
    let text = c.args.text.now in
    let t = tables_of c.args.heap.now in
    let t' = tables_of c.set_numbers.new.heap in
    let n = c.in_ok-totals.totals in
    let a = c.in_ok-totals.ensures.0 in
    let r : Result Settings Fault = Ok (record { markers = c.from.result; share = n.header.share }) in
    let f = totals_filled text c.in_ok-totals.body.lines.text.now n t (tables_of c.clear.new.heap) (tables_of c.fill_tables.new.heap) a c.clear.ensures
    (c.in_ok-fill_tables.ensures a.heap (ap (λ h. judge_text (Objects h [] h.objects) 6 c.in_ok-totals.body.lines.text.now) c.in_ok-totals.ensures.1 ∙ a.behind)) in
    let s = full_answer text c.in_ok-totals.body.lines.text.now n t t' a c.if-not-has_room.ensures (c.set_numbers.ensures ∙ f) in
    let answer : r ≡ answered (judge text) t = ap (λ m. Ok (record { markers = m; share = n.header.share })) c.from.ensures ∙ s.0 in
    record {
      answer = answer;
      tables = s.1;
      lenders = ap (λ u. u.lenders) (c.set_numbers.ensures ∙ f);
      accepted = λ s' q. accepted_fits text t t' r s' answer s.1 q;
      accepts = λ h s' q. fitting_accepted text t t' r h s' answer s.1 q;
      refused = λ f q. refused_for text t r f answer q;
      refuses = λ f q. refused_so text t r f answer q;
    }
