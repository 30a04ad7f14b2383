-- The words of the sharing rules.
use Rattle.std.proofs.Common.{◌≡◌, ℕ, true, false, eqb, List, [], ◌∷◌, Ok, Err, Result, sym, refl, ap, ⊎_elim, arith}
use Rattle.std.proofs.lemmas.Bool.{eqb-true, and_parts, cases_Bool}
use Rattle.listing.specs.declared.settings.SharingRule.{SharingRule}
use Rattle.listing.specs.declared.settings.SharingRule.TheVariants.{New, Old, Both}
use Rattle.listing.specs.Rules.{same, word_of, rule_named}
use Rattle.listing.specs.Lines.{Named, or_form}
use Rattle.refusal.specs.declared.Refusal.{Refusal}

pub same_is : (xs ys : List ℕ) → same xs ys ≡ true → xs ≡ ys
same_is [] [] e = refl
same_is [] (y ∷ ys) e = let z : ◌≡◌ {A = ℕ} 0 1 = cc in absurd (omega arith)
same_is (x ∷ xs) [] e = let z : ◌≡◌ {A = ℕ} 0 1 = cc in absurd (omega arith)
same_is (x ∷ xs) (y ∷ ys) e =
    let p = and_parts (eqb x y) (same xs ys) e in
    let a : x ≡ y = eqb-true x y p.0 in
    let b : xs ≡ ys = same_is xs ys p.1 in
    cc

same_not : (xs ys : List ℕ) → (xs ≡ ys → ⊥) → same xs ys ≡ false
same_not xs ys f = ⊎_elim (λ e. absurd (f (same_is xs ys e))) (λ e. e) (cases_Bool (same xs ys))

pub named_is : (text : List ℕ) (r : Result SharingRule Refusal) → Named text r → r ≡ or_form (rule_named text)
named_is text (Ok New) e = sym (ap (λ t. or_form (rule_named t)) e)
named_is text (Ok Old) e = sym (ap (λ t. or_form (rule_named t)) e)
named_is text (Ok Both) e = sym (ap (λ t. or_form (rule_named t)) e)
named_is text (Err y) f =
    let a = same_not text (word_of New) (f.1 New) in
    let b = same_not text (word_of Old) (f.1 Old) in
    let c = same_not text (word_of Both) (f.1 Both) in
    rw (a, b, c) (ap Err f.0)
