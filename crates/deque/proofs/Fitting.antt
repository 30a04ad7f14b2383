-- Ends that fit their places are taken as they are. Assumes nothing.
use Rattle.std.proofs.Common.{◌≡◌, ℕ, ◌-◌, ◌≤◌, min, cond, ltb, ap, ◌∙◌, arith}
use Rattle.std.proofs.lemmas.Bool.Decides.{nat_tests}
use Rattle.deque.specs.declared.Ends.{Ends}
use Rattle.deque.specs.Ends.{fitted}

pub fitted_same : (n : ℕ) (e : Ends) → e.first ≤ n - 1 → e.held ≤ n → fitted n e ≡ e
fitted_same n e begins fits =
    let f : cond (ltb e.first n) e.first 0 ≡ e.first = grind (arith, nat_tests) in
    let h : min e.held n ≡ e.held = omega arith in
    ap (λ x. record { first = x; held = min e.held n }) f ∙ ap (λ x. record { first = e.first; held = x }) h
