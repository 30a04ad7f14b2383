-- Tables of full size suffice for every listing, so what is read is what is judged.
use Rattle.std.proofs.Common.{◌≡◌, ℕ, ◌≤◌, true, List, length, Ok, Err, Result, ap, ◌∙◌, inl, inr, arith}
use Rattle.std.proofs.lemmas.Bool.{and_from, le-leb, le-ltb, both_ways}
use Rattle.refusal.specs.declared.Fault.{Fault}
use Rattle.heap.specs.Heap.{Heap, Lawful, references_in}
use Rattle.heap.specs.Tables.{Tables}
use Rattle.listing.specs.declared.settings.Settings.{Settings}
use Rattle.listing.specs.Judge.{judge}
use Rattle.listing.specs.Laws.{Fitting, RefusedFor}
use Rattle.listing.specs.Reader.{room_in}
use Rattle.listing.proofs.Accepting.{exact}
use Rattle.listing.proofs.Refusing.{first}
use Rattle.sheet.specs.declared.texts.Sheet.{Sheet}
use Rattle.sheet.specs.declared.judge.JudgeError.{JudgeError}
use Rattle.sheet.specs.Judged.{longest, judged_up_to, answer_to, shown, printed}

always_room : (h : Heap) (t : Tables) → Lawful h → 65535 ≤ length t.object_table → 262144 ≤ length t.reference_table → 4096 ≤ length t.root_table → room_in h t ≡ true
always_room h t law o e r =
    and_from _ _ (le-leb (length h.objects) (length t.object_table) (omega (arith, law.objects, o)))
    (and_from _ _ (le-leb (references_in h.objects) (length t.reference_table) (omega (arith, law.references, e)))
    (le-leb (length h.roots) (length t.root_table) (omega (arith, law.roots, r))))

pub ok_judged : (text : List ℕ) (h : Heap) (s : Settings) (t : Tables) → Fitting text h s t → judge text ≡ Ok (h, s)
ok_judged text h s t f = ap judge f.form ∙ exact.read_back h s f.lawful f.range

pub err_judged : (text : List ℕ) (t : Tables) (f : Fault) → 65535 ≤ length t.object_table → 262144 ≤ length t.reference_table → 4096 ≤ length t.root_table
    → RefusedFor text t f → judge text ≡ Err f
err_judged text t f o e r (inl x) = first.only text f x
err_judged text t f o e r (inr x) = absurd (both_ways _ x.1.short (always_room x.1.heap t x.1.lawful o e r))

pub short_text : (text : List ℕ) → length text ≤ longest → judge text ≡ judged_up_to text
short_text text l = let q = le-ltb longest (length text) l in rw q

-- an answer to what is judged prints as the judgement does
pub shown_printed : (r : Result Sheet JudgeError) (j : Result (Heap × Settings) Fault) → r ≡ answer_to j → shown r ≡ printed j
shown_printed r (Ok x) e = ap shown e
shown_printed r (Err f) e = ap shown e
