use Rattle.std.proofs.Common.{◌+◌, ◌<◌, max, [], ◌∷◌, ◌++◌, eqb, length, drop, ap, ◌∙◌, rules, arith}
use Rattle.std.proofs.iter.Serving.{serving}
use Rattle.std.proofs.lemmas.Iterator.Splits.{YieldsList-from_slice_split}
use Rattle.std.proofs.lemmas.Iterator.Consumers.{YieldsList-turn, YieldsList-end}
use Rattle.std.proofs.lemmas.List.{length_push}
use Rattle.std.proofs.lemmas.Result.{err_from_is_err_and}
use Rattle.listing.specs.Survey.{surveyed}
use Rattle.listing.proofs.Cuts.{parts, pieces_split}
use Rattle.listing.proofs.Surveys.{survey_after, survey_start, survey_more, survey_not, survey_all, listed_some}
use Rattle.listing.proofs.list.survey_list.Goals as goal

pub loop-piece-init : goal.loop-piece-init
loop-piece-init c = (grind serving, search rules, ap (λ s. survey_after s (parts c.args.text.now)) (search rules) ∙ survey_start (parts c.args.text.now) ∙ ap surveyed (pieces_split 44 c.args.text.now), search rules)

pub returns-in_err-n : goal.returns-in_err-n
returns-in_err-n c =
    let some : 0 < length c.args.text.now = search rules in
    let p = err_from_is_err_and c.from_residual.result c.from_residual.ensures.1 in
    let all = YieldsList-from_slice_split _ (λ b. eqb b 44) c.args.text.now (cc) (cc) (cc) (λ x b q k. search rules) in
    let t = YieldsList-turn all c.loop-piece.yielded _ c.loop-piece.yielded_by _ _ c.in-Some.piece c.in-Some.is c.next.ensures.steps in
    rw (p.1, p.2)
    (survey_not c.loop-piece.seen (parts c.args.text.now) (length c.loop-piece.yielded) c.in-Some.piece.now c.in_err-n.field-0.0 t c.in_err-n.ensures
    ∙ c.loop-piece.invariant.2 ∙ listed_some c.args.text.now some)

pub loop-piece-preserved : goal.loop-piece-preserved
loop-piece-preserved c = (
  search rules,
  search rules,
  let all = YieldsList-from_slice_split _ (λ b. eqb b 44) c.args.text.now (cc) (cc) (cc) (λ x b q k. search rules) in
      let t = YieldsList-turn all c.loop-piece.yielded _ c.loop-piece.yielded_by _ _ c.in-Some.piece c.in-Some.is c.next.ensures.steps in
      ap (λ m. survey_after (record { count = c.loop-piece.seen.count + 1; largest = m }) (drop (length (c.loop-piece.yielded ++ c.in-Some.piece ∷ [])) (parts c.args.text.now))) c.max.ensures
      ∙ ap (λ i. survey_after (record { count = c.loop-piece.seen.count + 1; largest = max c.loop-piece.seen.largest c.in_ok-n.n }) (drop i (parts c.args.text.now)))
      (length_push c.loop-piece.yielded c.in-Some.piece)
      ∙ survey_more c.loop-piece.seen (parts c.args.text.now) (length c.loop-piece.yielded) c.in-Some.piece.now c.in_ok-n.n t c.in_ok-n.ensures
      ∙ c.loop-piece.invariant.2,
  omega (arith, length_push c.loop-piece.yielded c.in-Some.piece, c.loop-piece.invariant.3),
)

pub returns : goal.returns
returns c =
    let some : 0 < length c.args.text.now = search rules in
    let all = YieldsList-from_slice_split _ (λ b. eqb b 44) c.args.text.now (cc) (cc) (cc) (λ x b q k. search rules) in
    let t = YieldsList-end all c.loop-piece.yielded _ c.loop-piece.yielded_by _ _ c.in-None.is c.next.ensures.steps in
    survey_all c.loop-piece.seen (parts c.args.text.now) (length c.loop-piece.yielded) (omega (arith, t.1)) ∙ c.loop-piece.invariant.2 ∙ listed_some c.args.text.now some
