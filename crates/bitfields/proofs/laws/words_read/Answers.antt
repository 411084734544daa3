use Rattle.bitfields.proofs.WordReads.{reading_laws}
use Rattle.bitfields.proofs.laws.words_read.Goals as goal

pub returns : goal.returns
returns c = reading_laws
