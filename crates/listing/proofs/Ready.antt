-- Tables that have room for an accepted listing.
use Rattle.std.proofs.Common.{◌≡◌, ℕ, ◌≤◌, Bool, true, false, cond, leb, List, length, Ok, Err, sym, ap, ◌∙◌, subst, arith}
use Rattle.std.proofs.lemmas.Bool.{and_parts, leb-true}
use Rattle.refusal.specs.declared.Refusal.TheVariants.{Memory}
use Rattle.refusal.specs.Table.{fault}
use Rattle.heap.specs.Heap.{references_in}
use Rattle.heap.specs.Kept.{Kept}
use Rattle.heap.specs.Tables.{Tables, filled}
use Rattle.heap.proofs.Filled.{filled_kept}
use Rattle.listing.specs.declared.settings.Totals.{Totals}
use Rattle.listing.specs.Reading.{Accepted, totals_of}
use Rattle.listing.specs.Filling.{BodyFits, with_heap}
use Rattle.listing.specs.Reader.{room_for, room_in, with_totals, answered, left_in}
use Rattle.listing.specs.Judge.{judge}
use Rattle.listing.proofs.Accepting.{exact}

-- the empty heap over the same tables
abbrev pub emptied : Tables → Tables
emptied t =
    record {
      cells = 1;
      width = 1;
      objects = 0;
      references = 0;
      roots = 0;
      object_table = t.object_table;
      reference_table = t.reference_table;
      root_table = t.root_table;
      lenders = t.lenders;
    }

room_parts : (n : Totals) (t : Tables) → true ≡ room_for n t
    → (n.header.objects ≤ length t.object_table) × (n.references ≤ length t.reference_table) × (n.roots ≤ length t.root_table)
room_parts n t e =
    let a : leb n.header.objects (length t.object_table) ≡ true = (and_parts _ _ (sym e)).0 in
    let b = and_parts (leb n.references (length t.reference_table)) (leb n.roots (length t.root_table)) (and_parts (leb n.header.objects (length t.object_table)) _ (sym e)).1 in
    (leb-true _ _ a, leb-true _ _ b.0, leb-true _ _ b.1)

pub body_fits : (text body : List ℕ) (n : Totals) (t t' : Tables) → Accepted text n body → true ≡ room_for n t → t' ≡ emptied t → BodyFits n.header body t'
body_fits text body n t t' a e f =
    let room = room_parts n t e in
    let law = (exact.written_of text a.heap.0 a.heap.1 a.judged).0 in
    let os : n.header.objects ≡ length a.heap.0.objects = ap (λ m. m.header.objects) a.totals in
    let es : n.references ≡ references_in a.heap.0.objects = ap (λ m. m.references) a.totals in
    let rs : n.roots ≡ length a.heap.0.roots = ap (λ m. m.roots) a.totals in
    let o : length t'.object_table ≡ length t.object_table = ap (λ u. length u.object_table) f in
    let p : length t'.reference_table ≡ length t.reference_table = ap (λ u. length u.reference_table) f in
    let q : length t'.root_table ≡ length t.root_table = ap (λ u. length u.root_table) f in
    record {
      accepted = a.heap;
      judged = a.behind;
      few = omega (arith, os, law.objects);
      objects = omega (arith, room.0, o);
      references = omega (arith, room.1, p, es);
      roots = omega (arith, room.2, q, rs);
    }

-- once the numbers are set, the tables hold the heap
pub totals_filled : (text body : List ℕ) (n : Totals) (t t' t'' : Tables) → (a : Accepted text n body) → t' ≡ emptied t → t'' ≡ with_heap a.heap.0 t'
    → with_totals n t'' ≡ filled a.heap.0 t
totals_filled text body n t t' t'' a f g =
    ap (λ m. with_totals m t'') a.totals ∙ ap (with_totals (totals_of a.heap)) (g ∙ ap (with_heap a.heap.0) f)

pub numbers_kept : (text body : List ℕ) (n : Totals) (t t' t'' : Tables) → (a : Accepted text n body) → t' ≡ emptied t → t'' ≡ with_heap a.heap.0 t' → Kept (with_totals n t'')
numbers_kept text body n t t' t'' a f g = subst Kept (sym (totals_filled text body n t t' t'' a f g)) (filled_kept a.heap.0 t (exact.written_of text a.heap.0 a.heap.1 a.judged).0)

-- the room for what a listing has in all is the room for its heap
room_same : (text body : List ℕ) (n : Totals) (t : Tables) (a : Accepted text n body) → room_for n t ≡ room_in a.heap.0 t
room_same text body n t a = ap (λ m. room_for m t) a.totals

answered_by : (text body : List ℕ) (n : Totals) (t : Tables) (a : Accepted text n body) (v : Bool) → v ≡ room_for n t
    → (answered (judge text) t ≡ cond v (Ok a.heap.1) (Err (fault Memory 0))) × (left_in (judge text) t ≡ cond v (filled a.heap.0 t) t)
answered_by text body n t a v e =
    let q : room_in a.heap.0 t ≡ v = sym (e ∙ room_same text body n t a) in (
      ap (λ j. answered j t) a.judged ∙ ap (λ b. cond b (Ok a.heap.1) (Err (fault Memory 0))) q,
      ap (λ j. left_in j t) a.judged ∙ ap (λ b. cond b (filled a.heap.0 t) t) q,
    )

pub short_answer : (text body : List ℕ) (n : Totals) (t : Tables) → Accepted text n body → false ≡ room_for n t
    → (Err (fault Memory 0) ≡ answered (judge text) t) × (t ≡ left_in (judge text) t)
short_answer text body n t a e = let p = answered_by text body n t a false e in (sym p.0, sym p.1)

pub full_answer : (text body : List ℕ) (n : Totals) (t t' : Tables) → (a : Accepted text n body) → true ≡ room_for n t → t' ≡ filled a.heap.0 t
    → (Ok (record { markers = n.header.markers; share = n.header.share }) ≡ answered (judge text) t) × (t' ≡ left_in (judge text) t)
full_answer text body n t t' a e f =
    let p = answered_by text body n t a true e in
    (ap (λ m. Ok (record { markers = m.header.markers; share = m.header.share })) a.totals ∙ sym p.0, f ∙ sym p.1)
