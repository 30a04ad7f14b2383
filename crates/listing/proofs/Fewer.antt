-- What is read of an accepted listing is part of its heap.
use Rattle.std.proofs.Common.{◌≡◌, ℕ, zero, suc, ◌+◌, ◌≤◌, Bool, true, false, cond, List, [], ◌∷◌, length, Some, None, Ok, Err, Option, Result, refl, ap, arith}
use Rattle.std.proofs.lemmas.List.Sums.{sum_by_push}
use Rattle.refusal.specs.declared.Refusal.{Refusal}
use Rattle.refusal.specs.declared.Refusal.TheVariants.{Form, Range, Overlap, Stranger}
use Rattle.heap.specs.Heap.{Heap, Object, references_in}
use Rattle.listing.specs.declared.settings.Settings.{Settings}
use Rattle.listing.specs.Pieces.{lines_of, numbers}
use Rattle.listing.specs.Rules.{Before, Start, Cells, Width, Markers, Share, Objects, At, Len, Roots, key_due, formed, bounded, apart, known, after}
use Rattle.listing.specs.Judge.{then, on_line, value_in, judge_value, judge_line, judge_from, judge_text, whole, ending}

-- the objects that were said completely
abbrev pub said_objects : Before → List Object
said_objects Start = []
said_objects (Cells c) = []
said_objects (Width c w) = []
said_objects (Markers c w n) = []
said_objects (Share c w n s) = []
said_objects (Objects h done left) = done
said_objects (At h done left a) = done
said_objects (Len h done left a l) = done
said_objects (Roots h done rs) = done

-- a line that is right says its value
said_after : (k k' : Before) (v : Option (List ℕ)) → judge_value k v ≡ Ok k' → (t : List ℕ) × (k' ≡ after k t)
said_after k k' None e = let z : ◌≡◌ {A = ℕ} 0 1 = cc in absurd (omega arith)
said_after k k' (Some t) e = (t, by (formed k t) (bounded k t) (apart k t) (known k t) e)
  where
    by : (a b c d : Bool) → cond a (cond b (cond c (cond d (Ok (after k t)) (Err Stranger)) (Err Overlap)) (Err Range)) (Err Form) ≡ Ok k' → k' ≡ after k t
    by true true true true e = cc
    by true true true false e = let z : ◌≡◌ {A = ℕ} 0 1 = cc in absurd (omega arith)
    by true true false d e = let z : ◌≡◌ {A = ℕ} 0 1 = cc in absurd (omega arith)
    by true false c d e = let z : ◌≡◌ {A = ℕ} 0 1 = cc in absurd (omega arith)
    by false b c d e = let z : ◌≡◌ {A = ℕ} 0 1 = cc in absurd (omega arith)

-- no line takes an object away
keeps : (k : Before) (v : List ℕ) → references_in (said_objects k) ≤ references_in (said_objects (after k v))
keeps Start v = omega arith
keeps (Cells c) v = omega arith
keeps (Width c w) v = omega arith
keeps (Markers c w n) v = omega arith
keeps (Share c w n s) v = omega arith
keeps (Objects h done zero) v = omega arith
keeps (Objects h done (suc left)) v = omega arith
keeps (At h done left a) v = omega arith
keeps (Len h done left a l) v =
    let o : Object = record { at = a; len = l; refs = numbers v } in
    omega (arith, sum_by_push {X = Object} (λ o. length o.refs) done o)
keeps (Roots h done rs) v = omega arith

at_the_end : (k : Before) (n : ℕ) (rest : List ℕ) (x : Heap × Settings) → ending n (whole k) rest ≡ Ok x → references_in (said_objects k) ≤ references_in x.0.objects
at_the_end Start n rest x e = let z : ◌≡◌ {A = ℕ} 0 1 = cc in absurd (omega arith)
at_the_end (Cells c) n rest x e = let z : ◌≡◌ {A = ℕ} 0 1 = cc in absurd (omega arith)
at_the_end (Width c w) n rest x e = let z : ◌≡◌ {A = ℕ} 0 1 = cc in absurd (omega arith)
at_the_end (Markers c w m) n rest x e = let z : ◌≡◌ {A = ℕ} 0 1 = cc in absurd (omega arith)
at_the_end (Share c w m s) n rest x e = let z : ◌≡◌ {A = ℕ} 0 1 = cc in absurd (omega arith)
at_the_end (Objects h done left) n rest x e = let z : ◌≡◌ {A = ℕ} 0 1 = cc in absurd (omega arith)
at_the_end (At h done left a) n rest x e = let z : ◌≡◌ {A = ℕ} 0 1 = cc in absurd (omega arith)
at_the_end (Len h done left a l) n rest x e = let z : ◌≡◌ {A = ℕ} 0 1 = cc in absurd (omega arith)
at_the_end (Roots h done rs) n [] x e =
    let y : Heap × Settings = (record { cells = h.cells; width = h.width; objects = done; roots = rs }, record { markers = h.markers; share = h.share }) in
    let same : y ≡ x = cc in
    let m : references_in done ≡ references_in x.0.objects = ap (λ z. references_in z.0.objects) same in
    omega arith
at_the_end (Roots h done rs) n (b ∷ bs) x e = let z : ◌≡◌ {A = ℕ} 0 1 = cc in absurd (omega arith)

within_lines : (ls : List (List ℕ)) (k : Before) (n : ℕ) (x : Heap × Settings) → judge_from k n ls ≡ Ok x → references_in (said_objects k) ≤ references_in x.0.objects
within_lines [] k n x e = let z : ◌≡◌ {A = ℕ} 0 1 = cc in absurd (omega arith)
within_lines (rest ∷ []) k n x e = at_the_end k n rest x e
within_lines (line ∷ next ∷ more) k n x e = by (judge_line k line) refl e (λ k'. within_lines (next ∷ more) k' (n + 1) x)
  where
    by : (r : Result Before Refusal) → judge_line k line ≡ r → then (on_line n r) (λ k'. judge_from k' (n + 1) (next ∷ more)) ≡ Ok x
        → ((k' : Before) → judge_from k' (n + 1) (next ∷ more) ≡ Ok x → references_in (said_objects k') ≤ references_in x.0.objects)
        → references_in (said_objects k) ≤ references_in x.0.objects
    by (Err y) j e on = let z : ◌≡◌ {A = ℕ} 0 1 = cc in absurd (omega arith)
    by (Ok k') j e on =
        let s = said_after k k' (value_in (key_due k) line) j in
        let m : references_in (said_objects k') ≡ references_in (said_objects (after k s.0)) = ap (λ z. references_in (said_objects z)) s.1 in
        omega (arith, on k' e, keeps k s.0, m)

-- the references read so far are no more than the heap's
pub references_within : (k : Before) (n : ℕ) (text : List ℕ) (x : Heap × Settings) → judge_text k n text ≡ Ok x → references_in (said_objects k) ≤ references_in x.0.objects
references_within k n text x e = within_lines (lines_of text) k n x e
