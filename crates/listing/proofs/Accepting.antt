-- A text is accepted exactly if it is the written form of a lawful heap with settings in range.
use Rattle.listing.specs.Laws.{Exact}
use Rattle.listing.proofs.Saying as saying
use Rattle.listing.proofs.Reread as reread

pub exact : Exact
exact = record { written_of = saying.written_of; read_back = reread.read_back }
