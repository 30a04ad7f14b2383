-- Numbers and lists of numbers as a listing writes them, read back; and these and sharing rules, once read, written again.
use Rattle.std.proofs.Common.{◌≡◌, ℕ, ◌^◌, ◌<◌, ◌≤◌, Bool, true, false, cond, not, eqb, List, [], ◌∷◌, map, length, get_or, is_some, Some, None, decimal, unwrap_or, sym, refl, ap, ◌∙◌, subst, ap₂, ⊎_elim, arith, rules}
use Rattle.std.specs.Char.{is_ascii_digit}
use Rattle.std.specs.List.{AllByRecursion}
use Rattle.std.specs.Str.{all_ascii_digits}
use Rattle.std.proofs.lemmas.Fmt.{decimal-digits_value, digits_decimal, digits_value-decimal, decimal_nonempty, decimal_digit, first_decimal}
use Rattle.std.proofs.lemmas.List.{length-append}
use Rattle.std.proofs.ByRecursion.{All-weaker, All-map}
use Rattle.std.proofs.lemmas.Str.Parse.{IsNumeralModel, numerals_by_fold}
use Rattle.std.proofs.lemmas.Bool.{ne_eqb, eqb-false, and_parts, and_from, not-true, not_from_false, cases_lt}
use Rattle.listing.specs.declared.settings.SharingRule.TheVariants.{New, Old, Both}
use Rattle.listing.specs.Numeral.{numeral, value_after, value_of}
use Rattle.listing.specs.Pieces.{pieces, listed, all_numerals, numerals, numbers, largest}
use Rattle.listing.specs.Rules.{word_of, rule_named, same}
use Rattle.listing.specs.Written.{separated}
use Rattle.listing.proofs.Words.{same_is}
use Rattle.listing.proofs.Mended.{lacks, lacks_digits, lacks_separated, separated_pieces, pieces_separated}

-- one number

own : IsNumeralModel (λ ds. all_ascii_digits ds ≡ true) (value_after 0)
own = numerals_by_fold _ (search rules) value_after (search rules)

-- a numeral is one or more digits, the first of several not 0
numeral_parts : (t : List ℕ) → numeral t ≡ true → (all_ascii_digits t ≡ true) × (0 < length t) × (get_or t 0 0 ≡ 48 → length t ≡ 1)
numeral_parts [] e = let z : ◌≡◌ {A = ℕ} 0 1 = cc in absurd (omega arith)
numeral_parts (b ∷ []) e = (and_from (is_ascii_digit b) true e refl, omega arith, λ _. refl)
numeral_parts (b ∷ c ∷ bs) e =
    let p = and_parts (not (eqb b 48)) (all_ascii_digits (b ∷ c ∷ bs)) e in
    let n = eqb-false b 48 (not-true (eqb b 48) p.0) in
    (p.1, omega arith, λ q. absurd (n q))

numeral_from : (t : List ℕ) → all_ascii_digits t ≡ true → 0 < length t → (get_or t 0 0 ≡ 48 → length t ≡ 1) → numeral t ≡ true
numeral_from [] d l f = absurd (omega arith)
numeral_from (b ∷ []) d l f = (and_parts (is_ascii_digit b) true d).0
numeral_from (b ∷ c ∷ bs) d l f =
    let n = ne_eqb b 48 (λ q. let z = f q in omega arith) in
    and_from (not (eqb b 48)) (all_ascii_digits (b ∷ c ∷ bs)) (not_from_false (eqb b 48) n) d

pub decimal_of_value : (t : List ℕ) → numeral t ≡ true → value_of t < 2 ^ 64 → decimal (value_of t) ≡ t
decimal_of_value t e l = let p = numeral_parts t e in decimal-digits_value own t p.0 p.1 p.2 l

pub value_of_decimal : (n : ℕ) → n < 2 ^ 64 → value_of (decimal n) ≡ n
value_of_decimal n l = digits_value-decimal own n l

pub numeral_decimal : (n : ℕ) → n < 2 ^ 64 → numeral (decimal n) ≡ true
numeral_decimal n l = ⊎_elim some zero_one (cases_lt 0 n)
  where
    some : 0 < n → numeral (decimal n) ≡ true
    some p =
        let f = first_decimal n p l in
        numeral_from (decimal n) (digits_decimal own n l) (decimal_nonempty n l) (λ e. absurd (omega arith))

    zero_one : n ≤ 0 → numeral (decimal n) ≡ true
    zero_one p = let z : 0 ≡ n = omega arith in subst (λ m. numeral (decimal m) ≡ true) z (ap numeral (decimal_digit 0 (omega arith)))

pub lacks_decimal : (sep n : ℕ) → sep < 48 → n < 2 ^ 64 → lacks sep (decimal n) ≡ true
lacks_decimal sep n s l = lacks_digits sep (decimal n) s (digits_decimal own n l)

-- lists of numbers

-- numbers of at most 64 bits
abbrev pub Small : List ℕ → Type 0
Small ns = AllByRecursion (λ n. n < 2 ^ 64) ns

pub all_under_largest : (ns : List ℕ) (m : ℕ) → largest ns ≤ m → AllByRecursion (λ n. n ≤ m) ns
all_under_largest [] m l = tt
all_under_largest (n ∷ ns) m l = (omega arith, all_under_largest ns m (omega arith))

pub largest_under : (ns : List ℕ) (m : ℕ) → AllByRecursion (λ n. n ≤ m) ns → largest ns ≤ m
largest_under [] m a = omega arith
largest_under (n ∷ ns) m a = let h = largest_under ns m a.1 in let g = a.0 in omega arith

pub small_from_bound : (ns : List ℕ) (m : ℕ) → m < 2 ^ 64 → AllByRecursion (λ n. n ≤ m) ns → Small ns
small_from_bound ns m l a = All-weaker (λ n. n ≤ m) (λ n. n < 2 ^ 64) (λ n h. omega arith) ns a

-- the text of a list
abbrev pub list_text : List ℕ → List ℕ
list_text ns = separated 44 (map decimal ns)

decimals_of_values : (ps : List (List ℕ)) → all_numerals ps ≡ true → Small (map value_of ps) → map decimal (map value_of ps) ≡ ps
decimals_of_values [] e s = refl
decimals_of_values (p ∷ ps) e s =
    let q = and_parts (numeral p) (all_numerals ps) e in
    ap₂ (λ x xs. x ∷ xs) (decimal_of_value p q.0 s.0) (decimals_of_values ps q.1 s.1)

separated_listed : (t : List ℕ) → separated 44 (listed t) ≡ t
separated_listed [] = refl
separated_listed (b ∷ bs) = separated_pieces 44 (b ∷ bs)

pub text_of_numbers : (t : List ℕ) → numerals t ≡ true → Small (numbers t) → list_text (numbers t) ≡ t
text_of_numbers t e s = ap (separated 44) (decimals_of_values (listed t) e s) ∙ separated_listed t

lacks_decimals : (sep : ℕ) (ns : List ℕ) → sep < 48 → Small ns → AllByRecursion (λ p. lacks sep p ≡ true) (map decimal ns)
lacks_decimals sep ns l s = All-map (λ p. lacks sep p ≡ true) decimal ns (All-weaker (λ n. n < 2 ^ 64) (λ n. lacks sep (decimal n) ≡ true) (λ n h. lacks_decimal sep n l h) ns s)

pub lacks_list : (ns : List ℕ) → Small ns → lacks 10 (list_text ns) ≡ true
lacks_list ns s = lacks_separated 10 44 (map decimal ns) refl (lacks_decimals 10 ns (omega arith) s)

separated_some : (p : List ℕ) (ps : List (List ℕ)) → 0 < length p → 0 < length (separated 44 (p ∷ ps))
separated_some p [] l = l
separated_some p (q ∷ ps) l = omega (arith, length-append p (44 ∷ separated 44 (q ∷ ps)))

listed_some : (t : List ℕ) → 0 < length t → listed t ≡ pieces 44 t
listed_some [] l = absurd (omega arith)
listed_some (b ∷ bs) l = refl

listed_text : (ns : List ℕ) → Small ns → listed (list_text ns) ≡ map decimal ns
listed_text [] s = refl
listed_text (n ∷ ns) s =
    listed_some (list_text (n ∷ ns)) (separated_some (decimal n) (map decimal ns) (decimal_nonempty n s.0))
    ∙ pieces_separated 44 (decimal n) (map decimal ns) (lacks_decimals 44 (n ∷ ns) (omega arith) s)

values_of_decimals : (ns : List ℕ) → Small ns → map value_of (map decimal ns) ≡ ns
values_of_decimals [] s = refl
values_of_decimals (n ∷ ns) s = ap₂ (λ x xs. x ∷ xs) (value_of_decimal n s.0) (values_of_decimals ns s.1)

all_numerals_decimals : (ns : List ℕ) → Small ns → all_numerals (map decimal ns) ≡ true
all_numerals_decimals [] s = refl
all_numerals_decimals (n ∷ ns) s = and_from (numeral (decimal n)) (all_numerals (map decimal ns)) (numeral_decimal n s.0) (all_numerals_decimals ns s.1)

pub numbers_of_text : (ns : List ℕ) → Small ns → numbers (list_text ns) ≡ ns
numbers_of_text ns s = ap (map value_of) (listed_text ns s) ∙ values_of_decimals ns s

pub numerals_text : (ns : List ℕ) → Small ns → numerals (list_text ns) ≡ true
numerals_text ns s = ap all_numerals (listed_text ns s) ∙ all_numerals_decimals ns s

-- sharing rules

pub word_of_rule : (t : List ℕ) → is_some (rule_named t) ≡ true → word_of (unwrap_or (rule_named t) New) ≡ t
word_of_rule t e = split (same t (word_of New)) (same t (word_of Old)) (same t (word_of Both)) refl refl refl e
  where
    split : (a b c : Bool) → same t (word_of New) ≡ a → same t (word_of Old) ≡ b → same t (word_of Both) ≡ c
        → is_some (cond a (Some New) (cond b (Some Old) (cond c (Some Both) None))) ≡ true
        → word_of (unwrap_or (cond a (Some New) (cond b (Some Old) (cond c (Some Both) None))) New) ≡ t
    split true b c p q r e = sym (same_is t (word_of New) p)
    split false true c p q r e = sym (same_is t (word_of Old) q)
    split false false true p q r e = sym (same_is t (word_of Both) r)
    split false false false p q r e = let z : ◌≡◌ {A = ℕ} 0 1 = cc in absurd (omega arith)
