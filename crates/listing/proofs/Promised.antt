-- The laws of the reader, over its answer and what it leaves in the tables.
use Rattle.std.proofs.Common.{◌≡◌, ℕ, Bool, true, false, cond, List, Ok, Err, Result, sym, refl, ap, ◌∙◌, subst, inl, inr, arith}
use Rattle.refusal.specs.declared.Fault.{Fault}
use Rattle.refusal.specs.declared.Refusal.TheVariants.{Memory}
use Rattle.refusal.specs.Table.{fault}
use Rattle.heap.specs.Heap.{Heap}
use Rattle.heap.specs.Tables.{Tables, heap_in, filled}
use Rattle.heap.proofs.Filled.{heap_back}
use Rattle.listing.specs.declared.settings.Settings.{Settings}
use Rattle.listing.specs.Judge.{judge}
use Rattle.listing.specs.Laws.{Fitting, RefusedFor}
use Rattle.listing.specs.Reader.{room_in, answered, left_in}
use Rattle.listing.proofs.Accepting.{exact}
use Rattle.listing.proofs.Refusing.{first}

right_fits : (text : List ℕ) (t : Tables) (h : Heap) (s : Settings) → judge text ≡ Ok (h, s) → room_in h t ≡ true → Fitting text h s t
right_fits text t h s j r =
    let w = exact.written_of text h s j in
    record { lawful = w.0; range = w.1; form = w.2; room = r }

pub accepted_fits : (text : List ℕ) (t t' : Tables) (r : Result Settings Fault) (s : Settings) → r ≡ answered (judge text) t → t' ≡ left_in (judge text) t → r ≡ Ok s
    → Fitting text (heap_in t') s t
accepted_fits text t t' r s e f g = by (judge text) refl (sym g ∙ e) f
  where
    room_so : (h : Heap) (s' : Settings) → judge text ≡ Ok (h, s') → (v : Bool) → room_in h t ≡ v → Ok s ≡ cond v (Ok s') (Err (fault Memory 0)) → t' ≡ cond v (filled h t) t
        → Fitting text (heap_in t') s t
    room_so h s' j true q a b =
        let same : s' ≡ s = cc in
        let back : heap_in t' ≡ h = ap heap_in b ∙ heap_back h t in
        subst (λ k. Fitting text k s t) (sym back) (subst (λ z. Fitting text h z t) same (right_fits text t h s' j q))
    room_so h s' j false q a b = let z : ◌≡◌ {A = ℕ} 0 1 = cc in absurd (omega arith)

    by : (j : Result (Heap × Settings) Fault) → judge text ≡ j → Ok s ≡ answered j t → t' ≡ left_in j t → Fitting text (heap_in t') s t
    by (Err x) j a b = let z : ◌≡◌ {A = ℕ} 0 1 = cc in absurd (omega arith)
    by (Ok x) j a b = room_so x.0 x.1 j (room_in x.0 t) refl a b

pub fitting_accepted : (text : List ℕ) (t t' : Tables) (r : Result Settings Fault) (h : Heap) (s : Settings) → r ≡ answered (judge text) t → t' ≡ left_in (judge text) t → Fitting text h s t
    → (r ≡ Ok s) × (heap_in t' ≡ h)
fitting_accepted text t t' r h s e f g =
    let j : judge text ≡ Ok (h, s) = ap judge g.form ∙ exact.read_back h s g.lawful g.range in (
      e ∙ ap (λ v. answered v t) j ∙ ap (λ b. cond b (Ok s) (Err (fault Memory 0))) g.room,
      ap heap_in (f ∙ ap (λ v. left_in v t) j ∙ ap (λ b. cond b (filled h t) t) g.room) ∙ heap_back h t,
    )

pub refused_for : (text : List ℕ) (t : Tables) (r : Result Settings Fault) (y : Fault) → r ≡ answered (judge text) t → r ≡ Err y → RefusedFor text t y
refused_for text t r y e g = by (judge text) refl (sym g ∙ e)
  where
    room_so : (h : Heap) (s : Settings) → judge text ≡ Ok (h, s) → (v : Bool) → room_in h t ≡ v → Err y ≡ cond v (Ok s) (Err (fault Memory 0)) → RefusedFor text t y
    room_so h s j true q a = let z : ◌≡◌ {A = ℕ} 0 1 = cc in absurd (omega arith)
    room_so h s j false q a =
        let w = exact.written_of text h s j in
        inr (cc, record { heap = h; settings = s; lawful = w.0; range = w.1; form = w.2; short = q })

    by : (j : Result (Heap × Settings) Fault) → judge text ≡ j → Err y ≡ answered j t → RefusedFor text t y
    by (Err x) j a = let same : x ≡ y = cc in inl (first.first text y (j ∙ ap Err same))
    by (Ok x) j a = room_so x.0 x.1 j (room_in x.0 t) refl a

pub refused_so : (text : List ℕ) (t : Tables) (r : Result Settings Fault) (y : Fault) → r ≡ answered (judge text) t → RefusedFor text t y → r ≡ Err y
refused_so text t r y e (inl f) = e ∙ ap (λ v. answered v t) (first.only text y f)
refused_so text t r y e (inr c) =
    let k = c.1 in
    let j : judge text ≡ Ok (k.heap, k.settings) = ap judge k.form ∙ exact.read_back k.heap k.settings k.lawful k.range in
    e ∙ ap (λ v. answered v t) j ∙ ap (λ b. cond b (Ok k.settings) (Err (fault Memory 0))) k.short ∙ ap Err (sym c.0)
