use Rattle.wire_value.proofs.OneForm.{reads_back_law}
use Rattle.wire_value.proofs.laws.reads_back.Goals as goal

pub returns : goal.returns
returns c = reads_back_law
