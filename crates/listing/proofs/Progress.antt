-- Going through the lines of the objects, one object after the other.
use Rattle.std.proofs.Common.{◌≡◌, ℕ, suc, ◌+◌, ◌-◌, ◌*◌, ◌<◌, ◌≤◌, List, [], ◌∷◌, ◌++◌, length, Ok, Err, Result, sym, refl, ap, ◌∙◌, arith}
use Rattle.std.proofs.lemmas.List.{length_push}
use Rattle.std.proofs.lemmas.List.Sums.{sum_by_push}
use Rattle.refusal.specs.declared.Fault.{Fault}
use Rattle.heap.specs.Heap.{Heap, Object, end_from, references_in}
use Rattle.listing.specs.declared.settings.Header.{Header}
use Rattle.listing.specs.declared.settings.Settings.{Settings}
use Rattle.listing.specs.Pieces.{numbers}
use Rattle.listing.specs.Lines.{read_object}
use Rattle.listing.specs.Rules.{Objects}
use Rattle.listing.specs.Judge.{then, judge_text}
use Rattle.listing.specs.declared.lines.Lines.{Lines}
use Rattle.listing.specs.declared.objects.ObjectReader.{ObjectReader}
use Rattle.listing.specs.declared.objects.ObjectLines.{ObjectLines}
use Rattle.listing.specs.Reading.{ObjectsRead, object_at, GoesOn}
use Rattle.listing.proofs.Stepping.{object_goes, object_read}

-- i objects were read, and the reader is behind them
pub record ObjectsSoFar (h : Header) (text : List ℕ) (i : ℕ) (r : ObjectReader) : Type 0 where
  pub done : List Object
  pub long : length done ≡ i
  pub header : r.header ≡ h
  pub ends : end_from 0 done ≡ r.end
  pub counted : references_in done ≡ r.references
  pub few : r.references ≤ 262144
  pub numbered : r.lines.number ≡ 6 + 3 * i
  pub judged : judge_text (Objects h [] h.objects) 6 text ≡ judge_text (Objects h done (h.objects - i)) r.lines.number r.lines.text.now

abbrev pub none_so_far : (h : Header) (lines : Lines) (r : ObjectReader) → lines.number ≡ 6 → (r.header ≡ h) × (r.lines ≡ lines) → (r.end ≡ 0) × (r.references ≡ 0)
    → ObjectsSoFar h lines.text.now 0 r
none_so_far h lines r n p z =
    let none : h.objects ≡ h.objects - 0 = omega arith in
    let number : 6 ≡ r.lines.number = sym (ap (λ l. l.number) p.1 ∙ n) in
    record {
      done = [];
      long = refl;
      header = p.0;
      ends = sym z.0;
      counted = sym z.1;
      few = omega (arith, z.1);
      numbered = sym number;
      judged =
          ap (λ m. judge_text (Objects h [] m) 6 lines.text.now) none
          ∙ ap (λ k. judge_text (Objects h [] (h.objects - 0)) k lines.text.now) number
          ∙ ap (λ l. judge_text (Objects h [] (h.objects - 0)) r.lines.number l.text.now) (sym p.1);
    }

pub end_push : (from : ℕ) (os : List Object) (o : Object) → end_from from (os ++ o ∷ []) ≡ o.at + o.len
end_push from [] o = refl
end_push from (p ∷ os) o = end_push (p.at + p.len) os o

-- the next object is judged by its lines
pub next_object : (h : Header) (text : List ℕ) (i : ℕ) (r : ObjectReader) (s : ObjectsSoFar h text i r) → i < h.objects
    → judge_text (Objects h [] h.objects) 6 text
    ≡ then (object_at r) (λ p. judge_text (Objects h (s.done ++ object_read p.0 ∷ []) (h.objects - (i + 1))) (r.lines.number + 3) p.1)
next_object h text i r s l =
    let left : h.objects - i ≡ suc (h.objects - (i + 1)) = omega arith in
    s.judged
    ∙ ap (λ m. judge_text (Objects h s.done m) r.lines.number r.lines.text.now) left
    ∙ object_goes h s.done (h.objects - (i + 1)) r.lines.number r.lines.text.now
    ∙ ap (λ g. then (read_object g (end_from 0 s.done) (references_in s.done) r.lines.number r.lines.text.now) after) (sym s.header)
    ∙ ap (λ e. then (read_object r.header e (references_in s.done) r.lines.number r.lines.text.now) after) s.ends
    ∙ ap (λ n. then (read_object r.header r.end n r.lines.number r.lines.text.now) after) s.counted
  where
    after : (ℕ × ℕ × (ℕ × List ℕ)) × List ℕ → Result (Heap × Settings) Fault
    after p = judge_text (Objects h (s.done ++ object_read p.0 ∷ []) (h.objects - (i + 1))) (r.lines.number + 3) p.1

abbrev pub one_more_so_far : (h : Header) (text : List ℕ) (i : ℕ) (r r' : ObjectReader) (o : ObjectLines) → ObjectsSoFar h text i r → i < h.objects
    → object_at r ≡ Ok ((o.at, o.len, (o.refs.count, o.refs.text.now)), r'.lines.text.now) → GoesOn r o r'
    → o.refs.count ≡ length (numbers o.refs.text.now) → r.references + o.refs.count ≤ 262144 → ObjectsSoFar h text (i + 1) r'
one_more_so_far h text i r r' o s l e g n f =
    let x : Object = object_read (o.at, o.len, (o.refs.count, o.refs.text.now)) in
    record {
      done = s.done ++ x ∷ [];
      long = length_push s.done x ∙ ap (λ m. m + 1) s.long;
      header = g.header ∙ s.header;
      ends = end_push 0 s.done x ∙ sym g.end;
      counted = omega (arith, sum_by_push {X = Object} (λ o. length o.refs) s.done x, s.counted, n, g.references);
      few = omega (arith, g.references);
      numbered = omega (arith, s.numbered, g.number);
      judged =
          next_object h text i r s l
          ∙ ap (λ y. then y (λ p. judge_text (Objects h (s.done ++ object_read p.0 ∷ []) (h.objects - (i + 1))) (r.lines.number + 3) p.1)) e
          ∙ ap (λ k. judge_text (Objects h (s.done ++ x ∷ []) (h.objects - (i + 1))) k r'.lines.text.now) (sym g.number);
    }

pub stop_so_far : (h : Header) (text : List ℕ) (i : ℕ) (r : ObjectReader) (f : Fault) → ObjectsSoFar h text i r → i < h.objects → object_at r ≡ Err f
    → judge_text (Objects h [] h.objects) 6 text ≡ Err f
stop_so_far h text i r f s l e =
    next_object h text i r s l
    ∙ ap (λ y. then y (λ p. judge_text (Objects h (s.done ++ object_read p.0 ∷ []) (h.objects - (i + 1))) (r.lines.number + 3) p.1)) e

abbrev pub all_so_far : (h : Header) (text : List ℕ) (i : ℕ) (r : ObjectReader) → ObjectsSoFar h text i r → i ≡ h.objects
    → ObjectsRead h text r.references r.lines.text.now × (r.lines.number ≡ 6 + 3 * h.objects)
all_so_far h text i r s e =
    let left : h.objects - i ≡ 0 = omega arith in
    let n : r.lines.number ≡ 6 + 3 * h.objects = omega (arith, s.numbered) in (
      record {
        done = s.done;
        long = s.long ∙ e;
        counted = s.counted;
        judged = s.judged ∙ ap (λ m. judge_text (Objects h s.done m) r.lines.number r.lines.text.now) left ∙ ap (λ m. judge_text (Objects h s.done 0) m r.lines.text.now) n;
      },
      n,
    )
