-- From one line of a listing to the next: what is read of the lines is what they are judged to say.
use Rattle.std.proofs.Common.{◌≡◌, ℕ, suc, ◌+◌, Bool, true, false, cond, ◌&&◌, leb, List, [], ◌∷◌, ◌++◌, length, is_some, Some, None, Ok, Err, codes, Option, Result, unwrap_or, sym, refl, ap, ◌∙◌, zero-add, arith}
use Rattle.refusal.specs.declared.Refusal.{Refusal}
use Rattle.refusal.specs.declared.Refusal.TheVariants.{Form, Range, Overlap, Stranger}
use Rattle.refusal.specs.Table.{fault}
use Rattle.heap.specs.Heap.{Object, sections_of, end_from, references_in}
use Rattle.listing.specs.declared.settings.Header.{Header}
use Rattle.listing.specs.declared.settings.SharingRule.{SharingRule}
use Rattle.listing.specs.declared.settings.SharingRule.TheVariants.{New}
use Rattle.listing.specs.Numeral.{numeral, value_of, within}
use Rattle.listing.specs.Pieces.{lines_of, up_to, past, numbers, numerals, largest}
use Rattle.listing.specs.declared.key.Key.{Key}
use Rattle.listing.specs.declared.key.Key.TheVariants as keys
use Rattle.listing.specs.Keys.{start_of}
use Rattle.listing.specs.Lines.{numbered, width_in, at_in, len_in, or_form, ruled, list_in, line_by, read_line, read_roots, read_header, read_object}
use Rattle.listing.specs.Rules.{Before, Start, Cells, Width, Markers, Share, Objects, At, Len, Roots, rule_named}
use Rattle.listing.specs.Judge.{then, on_line, behind, judge_value, judge_line, judge_from, judge_text, whole, ending, saying}
use Rattle.listing.proofs.Cuts.{pieces_step, pieces_more, pieces_last, up_to_none}

-- chains of readings

pub link : {A B C E : Type 0} (r : Result A E) (f : A → Result B E) (h : B → Result C E) (j : A → Result C E) → ((x : A) → j x ≡ then (f x) h) → then r j ≡ then (then r f) h
link (Ok x) f h j e = e x
link (Err x) f h j e = refl

-- a line

-- a closed line is judged, and then the text behind it
judge_more : (k : Before) (n : ℕ) (text line rest : List ℕ) → lines_of text ≡ line ∷ lines_of rest
    → judge_text k n text ≡ then (on_line n (judge_line k line)) (λ k'. judge_text k' (n + 1) rest)
judge_more k n text line rest e =
    ap (judge_from k n) (e ∙ ap (λ xs. line ∷ xs) (pieces_step 10 rest))
    ∙ ap (λ xs. then (on_line n (judge_line k line)) (λ k'. judge_from k' (n + 1) xs)) (sym (pieces_step 10 rest))

read_by : {A : Type 0} (k : Before) (n : ℕ) (f : List ℕ → Result A Refusal) (g : A → Before) (v : Option (List ℕ)) (rest : List ℕ)
    → then (on_line n (saying g (then (or_form v) f))) (λ k'. judge_text k' (n + 1) rest)
    ≡ then {A = A × List ℕ} (then {A = List ℕ × List ℕ} (then (on_line n (or_form v)) (λ v. Ok (v, rest))) (λ p. then (on_line n (f p.0)) (λ x. Ok (x, p.1)))) (λ p. judge_text (g p.0) (n + 1) p.1)
read_by k n f g None rest = refl
read_by {A = A} k n f g (Some v) rest = by (f v)
  where
    by : (r : Result A Refusal) → then (on_line n (saying g r)) (λ k'. judge_text k' (n + 1) rest)
        ≡ then {A = A × List ℕ} (then (on_line n r) (λ x. Ok (x, rest))) (λ p. judge_text (g p.0) (n + 1) p.1)
    by (Ok x) = refl
    by (Err e) = refl

-- where a line that is not the last is read as it is judged, the text is judged by what is read
pub reads_on : {A : Type 0} (k : Before) (key : Key) (n : ℕ) (f : List ℕ → Result A Refusal) (g : A → Before) (text : List ℕ) → whole k ≡ None
    → ((line : List ℕ) → saying g (then (or_form (behind (start_of key) line)) f) ≡ judge_line k line)
    → judge_text k n text ≡ then (read_line key n f text) (λ p. judge_text (g p.0) (n + 1) p.1)
reads_on {A = A} k key n f g text w s = by (past 10 text) refl
  where
    by : (o : Option (List ℕ)) → past 10 text ≡ o
        → judge_text k n text
        ≡ then {A = A × List ℕ}
        (then {A = List ℕ × List ℕ} (then (line_by n (up_to 10 text) o) (λ p. then (on_line n (or_form (behind (start_of key) p.0))) (λ v. Ok (v, p.1)))) (λ p. then (on_line n (f p.0)) (λ x. Ok (x, p.1))))
        (λ p. judge_text (g p.0) (n + 1) p.1)
    by None e = ap (judge_from k n) (pieces_last 10 text (up_to 10 text) refl (sym e)) ∙ ap (λ o. ending n o (up_to 10 text)) w
    by (Some rest) e =
        judge_more k n text (up_to 10 text) rest (pieces_more 10 text (up_to 10 text) rest refl (sym e))
        ∙ ap (λ r. then (on_line n r) (λ k'. judge_text k' (n + 1) rest)) (sym (s (up_to 10 text)))
        ∙ read_by k n f g (behind (start_of key) (up_to 10 text)) rest

-- values

-- a number with its bounds
number_says : (k : Before) (low high : ℕ) (g : ℕ → Before) (v : Option (List ℕ))
    → ((t : List ℕ) → judge_value k (Some t) ≡ cond (numeral t) (cond (within low high (value_of t)) (Ok (g (value_of t))) (Err Range)) (Err Form))
    → saying g (then (or_form v) (numbered low high)) ≡ judge_value k v
number_says k low high g None e = refl
number_says k low high g (Some t) e = split (numeral t) (within low high (value_of t)) ∙ sym (e t)
  where
    split : (a b : Bool) → saying g (cond a (cond b (Ok (value_of t)) (Err Range)) (Err Form)) ≡ cond a (cond b (Ok (g (value_of t))) (Err Range)) (Err Form)
    split true true = refl
    split true false = refl
    split false b = refl

width_says : (c : ℕ) (v : Option (List ℕ)) → saying (Width c) (then (or_form v) (width_in c)) ≡ judge_value (Cells c) v
width_says c None = refl
width_says c (Some t) = split (numeral t) (within 1 65535 (value_of t)) (leb (sections_of c (value_of t)) 64)
  where
    split : (a b d : Bool)
        → saying (Width c) (then (cond a (cond b (Ok (value_of t)) (Err Range)) (Err Form)) (λ w. cond (leb (sections_of c w) 64) (Ok w) (Err Range)))
        ≡ cond a (cond (b && leb (sections_of c (value_of t)) 64) (Ok (Width c (value_of t))) (Err Range)) (Err Form)
    split true true d = again (leb (sections_of c (value_of t)) 64)
      where
        again : (d : Bool) → saying (Width c) (cond d (Ok (value_of t)) (Err Range)) ≡ cond d (Ok (Width c (value_of t))) (Err Range)
        again true = refl
        again false = refl
    split true false d = refl
    split false b d = refl

rule_says : (c w n : ℕ) (v : Option (List ℕ)) → saying (Share c w n) (then (or_form v) ruled) ≡ judge_value (Markers c w n) v
rule_says c w n None = refl
rule_says c w n (Some t) = split (rule_named t)
  where
    split : (o : Option SharingRule) → saying (Share c w n) (or_form o) ≡ cond (is_some o) (Ok (Share c w n (unwrap_or o New))) (Err Form)
    split None = refl
    split (Some s) = refl

-- a number with its bounds, and with the rule q of overlap
clear_says : (k : Before) (low high : ℕ) (q : ℕ → Bool) (g : ℕ → Before) (v : Option (List ℕ))
    → ((t : List ℕ) → judge_value k (Some t) ≡ cond (numeral t) (cond (within low high (value_of t)) (cond (q (value_of t)) (Ok (g (value_of t))) (Err Overlap)) (Err Range)) (Err Form))
    → saying g (then (or_form v) (λ t. then (numbered low high t) (λ x. cond (q x) (Ok x) (Err Overlap)))) ≡ judge_value k v
clear_says k low high q g None e = refl
clear_says k low high q g (Some t) e = split (numeral t) (within low high (value_of t)) (q (value_of t)) refl ∙ sym (e t)
  where
    split : (a b d : Bool) → q (value_of t) ≡ d
        → saying g (then (cond a (cond b (Ok (value_of t)) (Err Range)) (Err Form)) (λ x. cond (q x) (Ok x) (Err Overlap)))
        ≡ cond a (cond b (cond (q (value_of t)) (Ok (g (value_of t))) (Err Overlap)) (Err Range)) (Err Form)
    split true true true h = rw h
    split true true false h = rw h
    split true false d h = refl
    split false b d h = refl

-- a list of numbers
list_says : (k : Before) (before most objects : ℕ) (g : ℕ × List ℕ → Before) (v : Option (List ℕ))
    → ((t : List ℕ) → judge_value k (Some t)
    ≡ cond (numerals t) (cond (leb (largest (numbers t)) 65535 && leb (before + length (numbers t)) most) (cond (leb (largest (numbers t)) objects) (Ok (g (length (numbers t), t))) (Err Stranger)) (Err Range)) (Err Form))
    → saying g (then (or_form v) (list_in before most objects)) ≡ judge_value k v
list_says k before most objects g None e = refl
list_says k before most objects g (Some t) e =
    split (numerals t) (leb (largest (numbers t)) 65535 && leb (before + length (numbers t)) most) (leb (largest (numbers t)) objects) ∙ sym (e t)
  where
    split : (a b d : Bool)
        → saying g (then (cond a (cond b (cond d (Ok (length (numbers t))) (Err Stranger)) (Err Range)) (Err Form)) (λ n. Ok (n, t)))
        ≡ cond a (cond b (cond d (Ok (g (length (numbers t), t))) (Err Stranger)) (Err Range)) (Err Form)
    split true true true = refl
    split true true false = refl
    split true false d = refl
    split false b d = refl

-- the lines

pub header_goes : (text : List ℕ) → judge_text Start 1 text ≡ then (read_header text) (λ p. judge_text (Objects p.0 [] p.0.objects) 6 p.1)
header_goes text =
    reads_on Start keys.Cells 1 _ Cells text refl (λ l. number_says Start 1 65535 Cells (behind (codes "cells=") l) (λ t. refl))
    ∙ link (read_line keys.Cells 1 (numbered 1 65535) text) _ _ _ (λ c.
    reads_on (Cells c.0) keys.Width 2 _ (Width c.0) c.1 refl (λ l. width_says c.0 (behind (codes "width=") l))
    ∙ link (read_line keys.Width 2 (width_in c.0) c.1) _ _ _ (λ w.
    reads_on (Width c.0 w.0) keys.Markers 3 _ (Markers c.0 w.0) w.1 refl
    (λ l. number_says (Width c.0 w.0) 1 16 (Markers c.0 w.0) (behind (codes "markers=") l) (λ t. refl))
    ∙ link (read_line keys.Markers 3 (numbered 1 16) w.1) _ _ _ (λ m.
    reads_on (Markers c.0 w.0 m.0) keys.Share 4 _ (Share c.0 w.0 m.0) m.1 refl (λ l. rule_says c.0 w.0 m.0 (behind (codes "share=") l))
    ∙ link (read_line keys.Share 4 ruled m.1) _ _ _ (λ s.
    reads_on (Share c.0 w.0 m.0 s.0) keys.Objects 5 _ (said c w m s) s.1 refl
    (λ l. number_says (Share c.0 w.0 m.0 s.0) 0 65535 (said c w m s) (behind (codes "objects=") l) (λ t. refl))
    ∙ link (read_line keys.Objects 5 (numbered 0 65535) s.1) _ _ _ (λ o. refl)))))
  where
    said : ℕ × List ℕ → ℕ × List ℕ → ℕ × List ℕ → SharingRule × List ℕ → ℕ → Before
    said c w m s o = Objects (record { cells = c.0; width = w.0; markers = m.0; share = s.0; objects = o }) [] o

-- the object that its lines give
abbrev pub object_read : ℕ × ℕ × (ℕ × List ℕ) → Object
object_read o = record { at = o.0; len = o.1; refs = numbers o.2.1 }

-- what is said before an object and once its three lines are read
pub object_goes : (h : Header) (done : List Object) (left n : ℕ) (text : List ℕ)
    → judge_text (Objects h done (suc left)) n text
    ≡ then (read_object h (end_from 0 done) (references_in done) n text) (λ p. judge_text (Objects h (done ++ object_read p.0 ∷ []) left) (n + 3) p.1)
object_goes h done left n text =
    reads_on (Objects h done (suc left)) keys.At n _ (At h done left) text refl
    (λ l. clear_says (Objects h done (suc left)) 0 65535 (λ a. leb (end_from 0 done) a) (At h done left) (behind (codes "at=") l) (λ t. refl))
    ∙ link (read_line keys.At n (at_in (end_from 0 done)) text) _ _ _ (λ a.
    reads_on (At h done left a.0) keys.Len (n + 1) _ (Len h done left a.0) a.1 refl
    (λ l. clear_says (At h done left a.0) 1 65535 (λ x. leb (a.0 + x) h.cells) (Len h done left a.0) (behind (codes "len=") l) (λ t. refl))
    ∙ link (read_line keys.Len (n + 1) (len_in a.0 h.cells) a.1) _ _ _ (λ l.
    ap (λ m. judge_text (Len h done left a.0 l.0) m l.1) two
    ∙ reads_on (Len h done left a.0 l.0) keys.Refs (n + 2) _ (said a l) l.1 refl
    (λ r. list_says (Len h done left a.0 l.0) (references_in done) 262144 h.objects (said a l) (behind (codes "refs=") r) (λ t. refl))
    ∙ link (read_line keys.Refs (n + 2) (list_in (references_in done) 262144 h.objects) l.1) _ _ _ (λ r. ap (λ m. judge_text (said a l r.0) m r.1) three)))
  where
    two : n + 1 + 1 ≡ n + 2
    two = omega arith

    three : n + 2 + 1 ≡ n + 3
    three = omega arith

    said : ℕ × List ℕ → ℕ × List ℕ → ℕ × List ℕ → Before
    said a l r = Objects h (done ++ object_read (a.0, l.0, r) ∷ []) left

pub roots_go : (h : Header) (done : List Object) (n : ℕ) (text : List ℕ)
    → judge_text (Objects h done 0) n text ≡ then (read_roots n h.objects text) (λ p. judge_text (Roots h done (numbers p.0.1)) (n + 1) p.1)
roots_go h done n text =
    reads_on (Objects h done 0) keys.Roots n _ (λ p. Roots h done (numbers p.1)) text refl
    (λ l. list_says (Objects h done 0) 0 4096 h.objects (λ p. Roots h done (numbers p.1)) (behind (codes "roots=") l)
    (λ t. ap (λ m. cond (numerals t) (cond (leb (largest (numbers t)) 65535 && leb m 4096) (cond (leb (largest (numbers t)) h.objects) (Ok (Roots h done (numbers t))) (Err Stranger)) (Err Range)) (Err Form)) (sym (zero-add (length (numbers t))))))

-- behind the roots nothing may stand
pub ends_there : (h : Header) (done : List Object) (rs : List ℕ) (n : ℕ) (text : List ℕ)
    → judge_text (Roots h done rs) n text ≡ ending n (whole (Roots h done rs)) text
ends_there h done rs n [] = refl
ends_there h done rs n (b ∷ bs) = by (past 10 (b ∷ bs)) refl
  where
    by : (o : Option (List ℕ)) → past 10 (b ∷ bs) ≡ o → judge_text (Roots h done rs) n (b ∷ bs) ≡ Err (fault Form n)
    by None e =
        ap (judge_from (Roots h done rs) n) (pieces_last 10 (b ∷ bs) (up_to 10 (b ∷ bs)) refl (sym e))
        ∙ ap (ending n (whole (Roots h done rs))) (up_to_none 10 (b ∷ bs) e)
    by (Some rest) e = judge_more (Roots h done rs) n (b ∷ bs) (up_to 10 (b ∷ bs)) rest (pieces_more 10 (b ∷ bs) (up_to 10 (b ∷ bs)) rest refl (sym e))
