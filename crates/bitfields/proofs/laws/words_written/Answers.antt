use Rattle.bitfields.proofs.WordWrites.{writing_laws}
use Rattle.bitfields.proofs.laws.words_written.Goals as goal

pub returns : goal.returns
returns c = writing_laws
