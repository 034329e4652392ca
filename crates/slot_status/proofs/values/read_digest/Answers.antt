use Rattle.std.proofs.Common.{◌∙◌, ap, Option, true}
use Rattle.std.specs.Option.{option_map_or}
use Rattle.updater_text.specs.declared.digest.Digest.{Digest}
use Rattle.slot_status.specs.Sound.{is_digest}
use Rattle.slot_status.proofs.Formed.{digest_formed}
use Rattle.slot_status.proofs.values.read_digest.Goals as goal

pub returns-clause-formed : goal.returns-clause-formed
returns-clause-formed c = ap (λ (d : Option Digest). option_map_or is_digest d true) c.read.ensures.value ∙ digest_formed c.in_ok-digest.digest.now
