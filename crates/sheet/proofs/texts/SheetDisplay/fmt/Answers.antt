use Rattle.std.proofs.Common.{refl, append_assoc}
use Rattle.std.proofs.Output.{has_written_of_eq}
use Rattle.sheet.proofs.texts.SheetDisplay.fmt.Goals as goal

pub returns-clause-writes : goal.returns-clause-writes
returns-clause-writes g c = λ p o. has_written_of_eq _ _ _ _ _ (simp append_assoc refl) (c.write.ensures.writes p o)
