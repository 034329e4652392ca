use Rattle.std.proofs.Common.{refl, ◌∙◌}
use Rattle.status_file.proofs.Clocks.{clock_after, clock_once}
use Rattle.system_conf.specs.Reads.{system_configuration}
use Rattle.install_facts.specs.Facts.{known_content}
use Rattle.install_facts.specs.Failing.{is_target_call}
use Rattle.install_facts.proofs.Choosing.{as_many, fitting_looked, unfit_looked}
use Rattle.install_facts.proofs.Failing.{lengths_in, then_in}
use Rattle.install_facts.proofs.Silent.{silent_lengths}
use Rattle.install_facts.proofs.choose.jobs_for.Goals as goal

pub jobs_of-requires : goal.jobs_of-requires
jobs_of-requires g c = as_many c.args.states.now c.args.system.now.slots c.args.known.now.booted c.requires

pub returns-in-Ok-check_images-clause-looks : goal.returns-in-Ok-check_images-clause-looks
returns-in-Ok-check_images-clause-looks g c =
    fitting_looked _ (system_configuration c.args.system.now) (known_content c.args.known.now) c.args.states.now c.in-Ok.jobs _ _ _ c.in-Ok-check_mounts.field-0 c.requires
    (rw c.as_slice.ensures at c.in-Ok.ensures.answers) (rw c.as_slice-2.ensures at c.in-Ok-check_mounts.ensures.looks) c.in-Ok-check_images.field-0 (rw c.as_slice-3.ensures at c.in-Ok-check_images.ensures.looks)

pub returns-in-Ok-check_images-clause-silent : goal.returns-in-Ok-check_images-clause-silent
returns-in-Ok-check_images-clause-silent g c = λ told.
    clock_after _ _ _ (clock_once _ _ _ (c.in-Ok-check_mounts.ensures.once told)) (c.in-Ok-check_mounts.ensures.looks.fails.grows told) (c.in-Ok-check_images.ensures.looks.fails.grows told)
    ∙ silent_lengths _ _ _ c.in-Ok-check_images.ensures.asks told

pub returns-in-Err-check_images-clause-looks : goal.returns-in-Err-check_images-clause-looks
returns-in-Err-check_images-clause-looks g c =
    unfit_looked _ (system_configuration c.args.system.now) (known_content c.args.known.now) c.args.states.now c.in-Ok.jobs _ _ _ c.in-Ok-check_mounts.field-0 c.requires
    (rw c.as_slice.ensures at c.in-Ok.ensures.answers) (rw c.as_slice-2.ensures at c.in-Ok-check_mounts.ensures.looks) c.in-Err-check_images.stop (rw c.as_slice-3.ensures at c.in-Err-check_images.ensures.looks)

pub returns-in-Err-check_images-clause-silent : goal.returns-in-Err-check_images-clause-silent
returns-in-Err-check_images-clause-silent g c = λ told.
    clock_after _ _ _ (clock_once _ _ _ (c.in-Ok-check_mounts.ensures.once told)) (c.in-Ok-check_mounts.ensures.looks.fails.grows told) (c.in-Err-check_images.ensures.looks.fails.grows told)
    ∙ silent_lengths _ _ _ c.in-Err-check_images.ensures.asks told

pub returns-in-Err-check_images-clause-failing : goal.returns-in-Err-check_images-clause-failing
returns-in-Err-check_images-clause-failing g c =
    then_in _ is_target_call _ _ _ _ c.in-Ok-check_mounts.ensures.looks.fails c.in-Err-check_images.ensures.looks.fails
    (lengths_in _ is_target_call _ _ _ c.in-Err-check_images.ensures.asks (λ path. refl) c.in-Err-check_images.ensures.looks.fails)
