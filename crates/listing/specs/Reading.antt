-- What reading a listing leaves behind. Assumes nothing.
use Rattle.std.specs.Prelude.{◌≡◌, ℕ, ◌+◌, ◌*◌, List, [], length, Ok, Result}
use Rattle.heap.specs.Heap.{Heap, Object, references_in}
use Rattle.refusal.specs.declared.Fault.{Fault}
use Rattle.listing.specs.declared.objects.ObjectReader.{ObjectReader}
use Rattle.listing.specs.declared.objects.ObjectLines.{ObjectLines}
use Rattle.listing.specs.declared.settings.Header.{Header}
use Rattle.listing.specs.declared.settings.Settings.{Settings}
use Rattle.listing.specs.declared.settings.Totals.{Totals}
use Rattle.listing.specs.Lines.{read_object}
use Rattle.listing.specs.Rules.{Objects}
use Rattle.listing.specs.Judge.{judge, judge_text}

-- the next object of a reader: its start, its length, its references with their number, and the text behind its lines
abbrev pub object_at : ObjectReader → Result ((ℕ × ℕ × (ℕ × List ℕ)) × List ℕ) Fault
object_at r = read_object r.header r.end r.references r.lines.number r.lines.text.now

-- a reader has gone on by the object o
pub record GoesOn (r : ObjectReader) (o : ObjectLines) (r' : ObjectReader) : Type 0 where
  pub header : r'.header ≡ r.header
  pub number : r'.lines.number ≡ r.lines.number + 3
  pub end : r'.end ≡ o.at + o.len
  pub references : r'.references ≡ r.references + o.refs.count

-- the lines of all objects were read: `rest` stands behind them
pub record ObjectsRead (h : Header) (text : List ℕ) (references : ℕ) (rest : List ℕ) : Type 0 where
  pub done : List Object
  pub long : length done ≡ h.objects
  pub counted : references_in done ≡ references
  pub judged : judge_text (Objects h [] h.objects) 6 text ≡ judge_text (Objects h done 0) (6 + 3 * h.objects) rest

-- what a heap with its settings has in all
abbrev pub totals_of : Heap × Settings → Totals
totals_of x =
    record {
      header = record { cells = x.0.cells; width = x.0.width; markers = x.1.markers; share = x.1.share; objects = length x.0.objects };
      references = references_in x.0.objects;
      roots = length x.0.roots;
    }

-- a listing was found right: what it has in all, and the text behind its header
pub record Accepted (text : List ℕ) (t : Totals) (body : List ℕ) : Type 0 where
  pub heap : Heap × Settings
  pub judged : judge text ≡ Ok heap
  pub totals : t ≡ totals_of heap
  pub behind : judge_text (Objects t.header [] t.header.objects) 6 body ≡ Ok heap
