use Rattle.slot_status.proofs.Formed.{bytes_formed}
use Rattle.slot_status.proofs.image_file.digest_of.Goals as goal

pub returns-clause-formed : goal.returns-clause-formed
returns-clause-formed c = bytes_formed c.args.file.now.digest c.bytes_fit.ensures.count c.bytes_fit.ensures.fit
