-- A text is refused exactly with its first fault.
use Rattle.std.proofs.Common.{◌≡◌, ℕ, ◌+◌, ◌<◌, Bool, true, false, cond, eqb, List, [], ◌∷◌, ◌++◌, length, is_some as option_is_some, Some, None, Ok, Err, Option, Result, sym, refl, ap, ◌∙◌, subst, ⊎_elim, append_assoc, arith}
use Rattle.std.proofs.lemmas.Bool.{eqb-true, eq-eqb, cases_order}
use Rattle.refusal.specs.declared.Fault.{Fault}
use Rattle.refusal.specs.declared.Refusal.{Refusal}
use Rattle.refusal.specs.declared.Refusal.TheVariants.{Form, Range, Overlap, Stranger, Memory, Occupied, Unknown, Ended, Foreign, Full, Early, Section}
use Rattle.refusal.specs.Table.{fault, number_of}
use Rattle.heap.specs.Heap.{Heap}
use Rattle.listing.specs.declared.settings.Settings.{Settings}
use Rattle.listing.specs.Pieces.{up_to, past}
use Rattle.listing.specs.Rules.{Before, Start, key_due, formed, bounded, apart, known, after}
use Rattle.listing.specs.Judge.{then, on_line, behind, value_in, judge_value, judge_line, whole, ending, judge_from, judge}
use Rattle.listing.specs.Faults.{Keyed, Values, Breaks, Least, Right, AllRight, none, one_more, Faulty, FirstFault}
use Rattle.listing.specs.Laws.{First}
use Rattle.listing.proofs.Cuts.{pieces_step, pieces_of}

-- the value of a line

pub behind_some : (ks xs v : List ℕ) → behind ks xs ≡ Some v → xs ≡ ks ++ v
behind_some [] xs v e = cc
behind_some (k ∷ ks) [] v e = let z : ◌≡◌ {A = ℕ} 0 1 = cc in absurd (omega arith)
behind_some (k ∷ ks) (b ∷ bs) v e = split (eqb k b) refl (behind_some ks bs v) e
  where
    split : (t : Bool) → eqb k b ≡ t → (behind ks bs ≡ Some v → bs ≡ ks ++ v) → cond t (behind ks bs) None ≡ Some v → b ∷ bs ≡ k ∷ ks ++ v
    split true q f g = let a : k ≡ b = eqb-true k b q in let c : bs ≡ ks ++ v = f g in cc
    split false q f g = let z : ◌≡◌ {A = ℕ} 0 1 = cc in absurd (omega arith)

pub behind_front : (ks v : List ℕ) → behind ks (ks ++ v) ≡ Some v
behind_front [] v = refl
behind_front (k ∷ ks) v = let q = eq-eqb k k refl in rw q (behind_front ks v)

pub value_keyed : (key : Option (List ℕ)) (line v : List ℕ) → value_in key line ≡ Some v → Keyed key line v
value_keyed None line v e = let z : ◌≡◌ {A = ℕ} 0 1 = cc in omega arith
value_keyed (Some key) line v e = behind_some (key ++ 61 ∷ []) line v e ∙ append_assoc key (61 ∷ []) v

pub keyed_value : (key : Option (List ℕ)) (line v : List ℕ) → Keyed key line v → value_in key line ≡ Some v
keyed_value None line v e = absurd e
keyed_value (Some key) line v e = ap (behind (key ++ 61 ∷ [])) (e ∙ sym (append_assoc key (61 ∷ []) v)) ∙ behind_front (key ++ 61 ∷ []) v

-- one line

-- what a judgment of a line says of it
abbrev Judged : Before → List ℕ → Result Before Refusal → Type 0
Judged k line (Ok k') = Right k line k'
Judged k line (Err r) = Least k line r

-- a line breaks no rule but those of the first four refusals
breaks_few : (k : Before) (line : List ℕ) (P : Refusal → Type 0) → (P Form → Breaks k line Form → ⊥) → (P Range → Breaks k line Range → ⊥)
    → (P Overlap → Breaks k line Overlap → ⊥) → (P Stranger → Breaks k line Stranger → ⊥) → (q : Refusal) → P q → Breaks k line q → ⊥
breaks_few k line P f g h i Form p b = f p b
breaks_few k line P f g h i Range p b = g p b
breaks_few k line P f g h i Overlap p b = h p b
breaks_few k line P f g h i Stranger p b = i p b
breaks_few k line P f g h i Memory p b = b
breaks_few k line P f g h i Occupied p b = b
breaks_few k line P f g h i Unknown p b = b
breaks_few k line P f g h i Ended p b = b
breaks_few k line P f g h i Foreign p b = b
breaks_few k line P f g h i Full p b = b
breaks_few k line P f g h i Early p b = b
breaks_few k line P f g h i Section p b = b

judged : (k : Before) (line : List ℕ) → Judged k line (judge_line k line)
judged k line = by (value_in (key_due k) line) refl
  where
    keeps : (f : List ℕ → Bool) (v : List ℕ) → value_in (key_due k) line ≡ Some v → f v ≡ true → (w : List ℕ) × Values k line w × (f w ≡ false) → ⊥
    keeps f v e q b =
        let s = keyed_value (key_due k) line b.0 b.1 in
        let w : b.0 ≡ v = cc in
        let t : f b.0 ≡ true = ap f w ∙ q in
        let z : ◌≡◌ {A = ℕ} 0 1 = cc in
        omega arith

    split : (v : List ℕ) → value_in (key_due k) line ≡ Some v → (x y z w : Bool) → formed k v ≡ x → bounded k v ≡ y → apart k v ≡ z → known k v ≡ w
        → Judged k line (cond x (cond y (cond z (cond w (Ok (after k v)) (Err Stranger)) (Err Overlap)) (Err Range)) (Err Form))
    split v e true true true true a b c d =
        let has : Values k line v = value_keyed (key_due k) line v e in
        record {
          value = v;
          has = has;
          breaks_none =
              λ q n. breaks_few k line (λ _. Unit {0}) (λ _ f. f v has a) (λ _. keeps (bounded k) v e b) (λ _. keeps (apart k) v e c) (λ _. keeps (known k) v e d) q tt n;
          says = refl;
        }
    split v e true true true false a b c d =
        let has : Values k line v = value_keyed (key_due k) line v e in
        record {
          applies = (v, has, d);
          least = breaks_few k line (λ q. number_of q < 4) (λ _ f. f v has a) (λ _. keeps (bounded k) v e b) (λ _. keeps (apart k) v e c) (λ l _. omega arith);
        }
    split v e true true false w a b c d =
        let has : Values k line v = value_keyed (key_due k) line v e in
        record {
          applies = (v, has, c);
          least = breaks_few k line (λ q. number_of q < 3) (λ _ f. f v has a) (λ _. keeps (bounded k) v e b) (λ l _. omega arith) (λ l _. omega arith);
        }
    split v e true false z w a b c d =
        let has : Values k line v = value_keyed (key_due k) line v e in
        record {
          applies = (v, has, b);
          least = breaks_few k line (λ q. number_of q < 2) (λ _ f. f v has a) (λ l _. omega arith) (λ l _. omega arith) (λ l _. omega arith);
        }
    split v e false y z w a b c d =
        record {
          applies =
              λ u h f.
              let s = keyed_value (key_due k) line u h in
              let i : u ≡ v = cc in
              let t : formed k u ≡ false = ap (formed k) i ∙ a in
              let z : ◌≡◌ {A = ℕ} 0 1 = cc in
              omega arith;
          least = breaks_few k line (λ q. number_of q < 1) (λ l _. omega arith) (λ l _. omega arith) (λ l _. omega arith) (λ l _. omega arith);
        }

    by : (o : Option (List ℕ)) → value_in (key_due k) line ≡ o → Judged k line (judge_value k o)
    by None e =
        record {
          applies = λ v h f. let s = keyed_value (key_due k) line v h in let z : ◌≡◌ {A = ℕ} 0 1 = cc in omega arith;
          least = breaks_few k line (λ q. number_of q < 1) (λ l _. omega arith) (λ l _. omega arith) (λ l _. omega arith) (λ l _. omega arith);
        }
    by (Some v) e = split v e (formed k v) (bounded k v) (apart k v) (known k v) refl refl refl refl

-- what a number stands for
abbrev refusal_at : ℕ → Refusal
refusal_at n =
    cond (eqb n 1) Form (cond (eqb n 2) Range (cond (eqb n 3) Overlap (cond (eqb n 4) Stranger (cond (eqb n 5) Memory (cond (eqb n 6) Occupied
    (cond (eqb n 7) Unknown (cond (eqb n 8) Ended (cond (eqb n 9) Foreign (cond (eqb n 10) Full (cond (eqb n 11) Early Section))))))))))

at_number : (r : Refusal) → refusal_at (number_of r) ≡ r
at_number Form = refl
at_number Range = refl
at_number Overlap = refl
at_number Stranger = refl
at_number Memory = refl
at_number Occupied = refl
at_number Unknown = refl
at_number Ended = refl
at_number Foreign = refl
at_number Full = refl
at_number Early = refl
at_number Section = refl

one_least : (k : Before) (line : List ℕ) (q r : Refusal) → Least k line q → Least k line r → q ≡ r
one_least k line q r a b = sym (at_number q) ∙ ap refusal_at same ∙ at_number r
  where
    same : number_of q ≡ number_of r
    same =
        ⊎_elim (λ e. e) (⊎_elim (λ l. absurd (b.least q l a.applies)) (λ l. absurd (a.least r l b.applies))) (cases_order (number_of q) (number_of r))

pub right_from_judge : (k k' : Before) (line : List ℕ) → judge_line k line ≡ Ok k' → Right k line k'
right_from_judge k k' line e = subst (Judged k line) e (judged k line)

least_from_judge : (k : Before) (line : List ℕ) (r : Refusal) → judge_line k line ≡ Err r → Least k line r
least_from_judge k line r e = subst (Judged k line) e (judged k line)

pub judge_right : (k k' : Before) (line : List ℕ) → Right k line k' → judge_line k line ≡ Ok k'
judge_right k k' line t = by (judge_line k line) (judged k line)
  where
    by : (r : Result Before Refusal) → Judged k line r → r ≡ Ok k'
    by (Ok u) s =
        let a = keyed_value (key_due k) line t.value t.has in
        let b = keyed_value (key_due k) line s.value s.has in
        let i : s.value ≡ t.value = cc in
        ap Ok (s.says ∙ ap (after k) i ∙ sym t.says)
    by (Err q) s = absurd (t.breaks_none q s.applies)

judge_least : (k : Before) (line : List ℕ) (r : Refusal) → Least k line r → judge_line k line ≡ Err r
judge_least k line r t = by (judge_line k line) (judged k line)
  where
    by : (x : Result Before Refusal) → Judged k line x → x ≡ Err r
    by (Ok u) s = absurd (s.breaks_none r t.applies)
    by (Err q) s = ap Err (one_least k line q r s t)

-- the lines

-- the first fault in the lines from line n on
record FaultFrom (k : Before) (n : ℕ) (ls : List (List ℕ)) (f : Fault) : Type 0 where
  before : List (List ℕ)
  line : List ℕ
  behind : List (List ℕ)
  said : Before
  cut : ls ≡ before ++ line ∷ behind
  right : AllRight k before said
  number : f.line ≡ length before + n
  faulty : Faulty said line behind f.refusal

ending_fault : (k : Before) (n : ℕ) (rest : List ℕ) (f : Fault) → ending n (whole k) rest ≡ Err f
    → (f.line ≡ n) × Faulty k rest [] f.refusal
ending_fault k n rest f e = by (whole k) rest refl e
  where
    by : (o : Option (Heap × Settings)) (xs : List ℕ) → whole k ≡ o → ending n o xs ≡ Err f → (f.line ≡ n) × ((f.refusal ≡ Form) × (option_is_some (whole k) ≡ true → xs ≡ [] → ⊥))
    by None xs w g =
        let i : fault Form n ≡ f = cc in
        (sym (ap (λ x. x.line) i), (sym (ap (λ x. x.refusal) i), (λ s _. let t = ap option_is_some w in let z : ◌≡◌ {A = ℕ} 0 1 = cc in omega arith)))
    by (Some x) [] w g = let z : ◌≡◌ {A = ℕ} 0 1 = cc in absurd (omega arith)
    by (Some x) (b ∷ bs) w g =
        let i : fault Form n ≡ f = cc in
        (sym (ap (λ x. x.line) i), (sym (ap (λ x. x.refusal) i), (λ _ s. let z : ◌≡◌ {A = ℕ} 0 1 = cc in omega arith)))

fault_from : (k : Before) (n : ℕ) (l : List ℕ) (ls : List (List ℕ)) (f : Fault) → judge_from k n (l ∷ ls) ≡ Err f → FaultFrom k n (l ∷ ls) f
fault_from k n l [] f e =
    let h = ending_fault k n l f e in
    record { before = []; line = l; behind = []; said = k; cut = refl; right = none k; number = omega (arith, h.0); faulty = h.1 }
fault_from k n l (m ∷ ls) f e = by (judge_line k l) refl (λ k'. fault_from k' (n + 1) m ls f) e
  where
    by : (r : Result Before Refusal) → judge_line k l ≡ r → ((k' : Before) → judge_from k' (n + 1) (m ∷ ls) ≡ Err f → FaultFrom k' (n + 1) (m ∷ ls) f)
        → then (on_line n r) (λ k'. judge_from k' (n + 1) (m ∷ ls)) ≡ Err f → FaultFrom k n (l ∷ m ∷ ls) f
    by (Ok k') q more g =
        let t = more k' g in
        record {
          before = l ∷ t.before;
          line = t.line;
          behind = t.behind;
          said = t.said;
          cut = ap (λ xs. l ∷ xs) t.cut;
          right = one_more k k' t.said l t.before (right_from_judge k k' l q) t.right;
          number = omega (arith, t.number);
          faulty = t.faulty;
        }
    by (Err r) q more g =
        let i : fault r n ≡ f = cc in
        record {
          before = [];
          line = l;
          behind = m ∷ ls;
          said = k;
          cut = refl;
          right = none k;
          number = omega (arith, ap (λ x. x.line) i);
          faulty = subst (λ x. Least k l x) (ap (λ x. x.refusal) i) (least_from_judge k l r q);
        }

-- a line with lines behind it is judged by its rules
judge_step : (k : Before) (n : ℕ) (l : List ℕ) (before : List (List ℕ)) (line : List ℕ) (behind : List (List ℕ))
    → judge_from k n (l ∷ (before ++ line ∷ behind)) ≡ then (on_line n (judge_line k l)) (λ k'. judge_from k' (n + 1) (before ++ line ∷ behind))
judge_step k n l [] line behind = refl
judge_step k n l (m ∷ before) line behind = refl

ending_refused : (k : Before) (n : ℕ) (rest : List ℕ) → (option_is_some (whole k) ≡ true → rest ≡ [] → ⊥) → ending n (whole k) rest ≡ Err (fault Form n)
ending_refused k n rest h = by (whole k) rest h
  where
    by : (o : Option (Heap × Settings)) (xs : List ℕ) → (option_is_some o ≡ true → xs ≡ [] → ⊥) → ending n o xs ≡ Err (fault Form n)
    by None xs g = refl
    by (Some x) [] g = absurd (g refl refl)
    by (Some x) (b ∷ bs) g = refl

faulty_refused : (k : Before) (n : ℕ) (line : List ℕ) (behind : List (List ℕ)) (r : Refusal) → Faulty k line behind r → judge_from k n (line ∷ behind) ≡ Err (fault r n)
faulty_refused k n line [] r h = ending_refused k n line h.1 ∙ ap (λ q. Err (fault q n)) (sym h.0)
faulty_refused k n line (m ∷ behind) r h = ap (λ x. then (on_line n x) (λ k'. judge_from k' (n + 1) (m ∷ behind))) (judge_least k line r h)

-- lines that break no rule are passed
pub judge_past : (k : Before) (before : List (List ℕ)) (k' : Before) (n : ℕ) (line : List ℕ) (behind : List (List ℕ)) → AllRight k before k'
    → judge_from k n (before ++ line ∷ behind) ≡ judge_from k' (length before + n) (line ∷ behind)
judge_past k before k' n line behind (none j) = let z : n ≡ 0 + n = omega arith in ap (λ m. judge_from j m (line ∷ behind)) z
judge_past k before k' n line behind (one_more j j' j'' l ls r rs) =
    let z : length ls + (n + 1) ≡ length (l ∷ ls) + n = omega arith in
    judge_step j n l ls line behind
    ∙ ap (λ x. then (on_line n x) (λ u. judge_from u (n + 1) (ls ++ line ∷ behind))) (judge_right j j' l r)
    ∙ judge_past j' ls j'' (n + 1) line behind rs
    ∙ ap (λ m. judge_from j'' m (line ∷ behind)) z

pub first : First
first = record { first = found; only = refused }
  where
    found : (text : List ℕ) (f : Fault) → judge text ≡ Err f → FirstFault text f
    found text f e =
        let c = pieces_step 10 text in
        let t = fault_from Start 1 (up_to 10 text) (pieces_of 10 (past 10 text)) f (ap (judge_from Start 1) (sym c) ∙ e) in
        record {
          before = t.before;
          line = t.line;
          behind = t.behind;
          said = t.said;
          cut = c ∙ t.cut;
          right = t.right;
          number = t.number;
          faulty = t.faulty;
        }

    refused : (text : List ℕ) (f : Fault) → FirstFault text f → judge text ≡ Err f
    refused text f t =
        ap (judge_from Start 1) t.cut
        ∙ judge_past Start t.before t.said 1 t.line t.behind t.right
        ∙ faulty_refused t.said (length t.before + 1) t.line t.behind f.refusal t.faulty
        ∙ ap (λ n. Err (fault f.refusal n)) (sym t.number)
