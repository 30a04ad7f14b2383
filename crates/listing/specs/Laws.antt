-- The two laws of the reader. Assumes nothing.
use Rattle.std.specs.Prelude.{◌≡◌, ℕ, true, false, ◌⊎◌, List, Ok, Err}
use Rattle.refusal.specs.declared.Fault.{Fault}
use Rattle.refusal.specs.declared.Refusal.TheVariants.{Memory}
use Rattle.refusal.specs.Table.{fault}
use Rattle.heap.specs.Heap.{Heap, Lawful}
use Rattle.heap.specs.Tables.{Tables}
use Rattle.listing.specs.declared.settings.Settings.{Settings}
use Rattle.listing.specs.Judge.{judge}
use Rattle.listing.specs.Written.{written, InRange}
use Rattle.listing.specs.Faults.{FirstFault}
use Rattle.listing.specs.Reader.{room_in}

-- A text is accepted exactly if it is the written form of a lawful heap with settings in range, and that heap is the one read. So one
-- text has one heap, and one heap with its settings one text.
pub record Exact : Type 0 where
  pub written_of : (text : List ℕ) (h : Heap) (s : Settings) → judge text ≡ Ok (h, s) → Lawful h × InRange s × (text ≡ written h s)
  pub read_back : (h : Heap) (s : Settings) → Lawful h → InRange s → judge (written h s) ≡ Ok (h, s)

-- A text is refused exactly with its first fault.
pub record First : Type 0 where
  pub first : (text : List ℕ) (f : Fault) → judge text ≡ Err f → FirstFault text f
  pub only : (text : List ℕ) (f : Fault) → FirstFault text f → judge text ≡ Err f

-- a text is the written form of a lawful heap with settings in range, and the tables have room for that heap
pub record Fitting (text : List ℕ) (h : Heap) (s : Settings) (t : Tables) : Type 0 where
  pub lawful : Lawful h
  pub range : InRange s
  pub form : text ≡ written h s
  pub room : room_in h t ≡ true

-- a text is right, but a table is too short for its heap
pub record Cramped (text : List ℕ) (t : Tables) : Type 0 where
  pub heap : Heap
  pub settings : Settings
  pub lawful : Lawful heap
  pub range : InRange settings
  pub form : text ≡ written heap settings
  pub short : room_in heap t ≡ false

-- why a text is refused over these tables: for its first fault, or last of all for a table that is too short, with line 0
abbrev pub RefusedFor : List ℕ → Tables → Fault → Type 0
RefusedFor text t f = FirstFault text f ⊎ ((f ≡ fault Memory 0) × Cramped text t)
