use Rattle.std.proofs.Common.{◌∙◌}
use Rattle.manifest.specs.Contents.{content}
use Rattle.manifest.proofs.Classes.{classes_apart}
use Rattle.manifest.proofs.Passed.{hooks_there, passes}
use Rattle.manifest.proofs.reading.read_content.Goals as goal

pub read_bundle_text-requires : goal.read_bundle_text-requires
read_bundle_text-requires c = (passes c.args.file.now c.requires.pass).bad_value

pub invariant_of-result : goal.invariant_of-result
invariant_of-result c = record {
  hooked = hooks_there c.args.file.now c.in_ok-hook_file.hook_file c.has_install_check.result c.in_ok-images.images c.requires.pass (c.in_ok-hook_file.ensures ∙ c.get.ensures) c.has_install_check.ensures c.in_ok-images.ensures;
  apart = classes_apart c.args.file.now c.in_ok-images.images c.requires.differ c.in_ok-images.ensures;
}

pub returns : goal.returns
unfolding content
returns c = λ i. record { bundle = c.in_ok-bundle.ensures i; hook_file = (c.in_ok-hook_file.ensures ∙ c.get.ensures) i; install_check = c.has_install_check.ensures i; images = c.in_ok-images.ensures i }
