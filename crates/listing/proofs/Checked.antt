-- A whole listing, from what is read of its parts.
use Rattle.std.proofs.Common.{◌≡◌, ℕ, ◌+◌, ◌*◌, ◌<◌, List, [], ◌∷◌, length, Ok, Err, sym, ap, ◌∙◌, arith}
use Rattle.refusal.specs.declared.Fault.{Fault}
use Rattle.refusal.specs.declared.Refusal.TheVariants.{Form}
use Rattle.refusal.specs.Table.{fault}
use Rattle.heap.specs.Heap.{Heap, Object, references_in}
use Rattle.listing.specs.declared.settings.Header.{Header}
use Rattle.listing.specs.declared.settings.Settings.{Settings}
use Rattle.listing.specs.Pieces.{numbers}
use Rattle.listing.specs.Lines.{read_header, read_roots}
use Rattle.listing.specs.Rules.{Objects, Roots}
use Rattle.listing.specs.Judge.{then, judge, judge_text, whole, ending}
use Rattle.listing.specs.Reading.{ObjectsRead, totals_of, Accepted}
use Rattle.listing.proofs.Stepping.{header_goes, roots_go, ends_there}

pub headed : (text rest : List ℕ) (h : Header) → read_header text ≡ Ok (h, rest) → judge text ≡ judge_text (Objects h [] h.objects) 6 rest
headed text rest h e = header_goes text ∙ ap (λ r. then r (λ p. judge_text (Objects p.0 [] p.0.objects) 6 p.1)) e

pub header_refused : (text : List ℕ) (f : Fault) → read_header text ≡ Err f → judge text ≡ Err f
header_refused text f e = header_goes text ∙ ap (λ r. then r (λ p. judge_text (Objects p.0 [] p.0.objects) 6 p.1)) e

pub rooted : (text rest behind : List ℕ) (h : Header) (references : ℕ) → read_header text ≡ Ok (h, rest) → (o : ObjectsRead h rest references behind)
    → judge text ≡ then (read_roots (6 + 3 * h.objects) h.objects behind) (λ p. judge_text (Roots h o.done (numbers p.0.1)) (6 + 3 * h.objects + 1) p.1)
rooted text rest behind h references e o = headed text rest h e ∙ o.judged ∙ roots_go h o.done (6 + 3 * h.objects) behind

pub roots_refused : (text rest behind : List ℕ) (h : Header) (references : ℕ) (f : Fault) → read_header text ≡ Ok (h, rest) → ObjectsRead h rest references behind
    → read_roots (6 + 3 * h.objects) h.objects behind ≡ Err f → judge text ≡ Err f
roots_refused text rest behind h references f e o g =
    rooted text rest behind h references e o ∙ ap (λ r. then r (λ p. judge_text (Roots h o.done (numbers p.0.1)) (6 + 3 * h.objects + 1) p.1)) g

pub all_read : (text rest behind list last : List ℕ) (h : Header) (references count : ℕ) → read_header text ≡ Ok (h, rest) → (o : ObjectsRead h rest references behind)
    → read_roots (6 + 3 * h.objects) h.objects behind ≡ Ok ((count, list), last)
    → judge text ≡ ending (6 + 3 * h.objects + 1) (whole (Roots h o.done (numbers list))) last
all_read text rest behind list last h references count e o g =
    rooted text rest behind h references e o
    ∙ ap (λ r. then r (λ p. judge_text (Roots h o.done (numbers p.0.1)) (6 + 3 * h.objects + 1) p.1)) g
    ∙ ends_there h o.done (numbers list) (6 + 3 * h.objects + 1) last

-- the heap and the settings that were read
abbrev pub heap_read : Header → List Object → List ℕ → Heap × Settings
heap_read h os rs = (record { cells = h.cells; width = h.width; objects = os; roots = rs }, record { markers = h.markers; share = h.share })

pub whole_read : (text rest behind list last : List ℕ) (h : Header) (references count : ℕ) → read_header text ≡ Ok (h, rest) → (o : ObjectsRead h rest references behind)
    → read_roots (6 + 3 * h.objects) h.objects behind ≡ Ok ((count, list), last) → last ≡ [] → judge text ≡ Ok (heap_read h o.done (numbers list))
whole_read text rest behind list last h references count e o g z =
    all_read text rest behind list last h references count e o g ∙ ap (ending (6 + 3 * h.objects + 1) (whole (Roots h o.done (numbers list)))) z

pub accepted_read : (text rest behind list last : List ℕ) (h : Header) (references count : ℕ) → read_header text ≡ Ok (h, rest) → (o : ObjectsRead h rest references behind)
    → read_roots (6 + 3 * h.objects) h.objects behind ≡ Ok ((count, list), last) → last ≡ [] → count ≡ length (numbers list)
    → Accepted text (record { header = h; references = references; roots = count }) rest
accepted_read text rest behind list last h references count e o g z n =
    let a : h.objects ≡ length o.done = sym o.long in
    let b : references ≡ references_in o.done = sym o.counted in
    let w = whole_read text rest behind list last h references count e o g z in
    record {
      heap = heap_read h o.done (numbers list);
      judged = w;
      totals =
          ap (λ m. record { header = record { cells = h.cells; width = h.width; markers = h.markers; share = h.share; objects = m }; references = references; roots = count }) a
          ∙ ap (λ m. record { header = (totals_of (heap_read h o.done (numbers list))).header; references = m; roots = count }) b
          ∙ ap (λ m. record { header = (totals_of (heap_read h o.done (numbers list))).header; references = references_in o.done; roots = m }) n;
      behind = sym (headed text rest h e) ∙ w;
    }

pub more_behind : (text rest behind list last : List ℕ) (h : Header) (references count : ℕ) → read_header text ≡ Ok (h, rest) → (o : ObjectsRead h rest references behind)
    → read_roots (6 + 3 * h.objects) h.objects behind ≡ Ok ((count, list), last) → 0 < length last
    → judge text ≡ Err (fault Form (6 + 3 * h.objects + 1))
more_behind text rest behind list [] h references count e o g z = absurd (omega arith)
more_behind text rest behind list (b ∷ bs) h references count e o g z = all_read text rest behind list (b ∷ bs) h references count e o g

-- the heap that is filled in is the one that was judged
pub same_heap : (h : Header) (done : List Object) (n count : ℕ) (rest list last : List ℕ) (x : Heap × Settings) → judge_text (Objects h done 0) n rest ≡ Ok x
    → read_roots n h.objects rest ≡ Ok ((count, list), last) → x ≡ heap_read h done (numbers list)
same_heap h done n count rest list last x e g = by last (sym e ∙ roots_go h done n rest ∙ ap (λ r. then r (λ p. judge_text (Roots h done (numbers p.0.1)) (n + 1) p.1)) g ∙ ends_there h done (numbers list) (n + 1) last)
  where
    by : (last : List ℕ) → Ok x ≡ ending (n + 1) (whole (Roots h done (numbers list))) last → x ≡ heap_read h done (numbers list)
    by [] q = cc
    by (b ∷ bs) q = let z : ◌≡◌ {A = ℕ} 0 1 = cc in absurd (omega arith)

pub no_root_fault : (h : Header) (done : List Object) (n : ℕ) (rest : List ℕ) (x : Heap × Settings) (f : Fault) → judge_text (Objects h done 0) n rest ≡ Ok x
    → read_roots n h.objects rest ≡ Err f → ⊥
no_root_fault h done n rest x f e g =
    let q : Ok x ≡ Err f = sym e ∙ roots_go h done n rest ∙ ap (λ r. then r (λ p. judge_text (Roots h done (numbers p.0.1)) (n + 1) p.1)) g in
    let z : ◌≡◌ {A = ℕ} 0 1 = cc in
    omega arith
