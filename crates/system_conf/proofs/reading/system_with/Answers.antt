use Rattle.system_conf.proofs.Sound.{configuration_read, sound_with}
use Rattle.system_conf.proofs.reading.system_with.Goals as goal

pub invariant_of-result : goal.invariant_of-result
invariant_of-result c = record {
  sound = sound_with c.args.reader.now.file.now c.args.settings c.args.slots c.requires.settings c.requires.slots c.requires.differ c.requires.groups_pass c.requires.slots_pass;
}

pub returns : goal.returns
returns c = configuration_read c.args.reader.now.file.now c.args.settings c.args.slots c.requires.settings c.requires.slots
