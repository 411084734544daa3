use Rattle.bitfields.proofs.Fields.{field_laws}
use Rattle.bitfields.proofs.laws.fields_kept.Goals as goal

pub returns : goal.returns
returns c = field_laws
