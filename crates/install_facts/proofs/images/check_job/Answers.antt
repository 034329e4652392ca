use Rattle.std.proofs.Common.{ap, refl}
use Rattle.manifest.specs.Reads.{manifest_content}
use Rattle.system_conf.specs.Reads.{system_configuration}
use Rattle.machine.specs.Past.{world_now}
use Rattle.install_facts.specs.Facts.{unless}
use Rattle.install_facts.proofs.Answering.{looked_none}
use Rattle.install_facts.proofs.Fitting.{found_in, image_past, image_read, no_image, no_slot, past_in, with_slot}
use Rattle.install_facts.proofs.images.check_job.Goals as goal

pub returns-in_default-clause-looks : goal.returns-in_default-clause-looks
returns-in_default-clause-looks g c =
    let images = c.args.manifest.now.images in
    let none = image_past images c.args.job.image (past_in c.as_slice.result.now images c.args.job.image c.as_slice.ensures c.in_default.ensures.lookup.3) in
    looked_none _ _ _ _ refl (λ told. ap (λ o. unless o tt) (no_image (system_configuration c.args.system.now) (manifest_content c.args.manifest.now) (world_now (g.M.Machine.past c.args.m.now)) c.args.job none))

pub returns-in_default-get-clause-looks : goal.returns-in_default-get-clause-looks
returns-in_default-get-clause-looks g c =
    let images = c.args.manifest.now.images in
    let is = image_read images c.args.job.image c.in-Some.image.now (found_in c.as_slice.result.now images c.args.job.image c.in-Some.image.now c.as_slice.ensures c.in-Some.ensures.lookup.3.0 c.in-Some.ensures.lookup.1) in
    let none = past_in c.as_slice-2.result.now c.args.system.now.slots c.args.job.slot c.as_slice-2.ensures c.in_default-get.ensures.lookup.3 in
    looked_none _ _ _ _ refl (λ told. ap (λ o. unless o tt) (no_slot (system_configuration c.args.system.now) (manifest_content c.args.manifest.now) (world_now (g.M.Machine.past c.args.m.now)) c.args.job _ is none))

pub returns-clause-looks : goal.returns-clause-looks
returns-clause-looks g c =
    let images = c.args.manifest.now.images in
    let is = image_read images c.args.job.image c.in-Some.image.now (found_in c.as_slice.result.now images c.args.job.image c.in-Some.image.now c.as_slice.ensures c.in-Some.ensures.lookup.3.0 c.in-Some.ensures.lookup.1) in
    let at = found_in c.as_slice-2.result.now c.args.system.now.slots c.args.job.slot c.in-Some-get.slot.now c.as_slice-2.ensures c.in-Some-get.ensures.lookup.3.0 c.in-Some-get.ensures.lookup.1 in
    rw (with_slot (system_configuration c.args.system.now) (manifest_content c.args.manifest.now) (world_now (g.M.Machine.past c.args.m.now)) c.args.job _ _ is at) c.check_fit.ensures.looks
