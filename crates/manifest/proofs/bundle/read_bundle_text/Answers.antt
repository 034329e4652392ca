use Rattle.std.proofs.Common.{◌∙◌}
use Rattle.manifest.proofs.Passed.{texts_formed}
use Rattle.manifest.proofs.bundle.read_bundle_text.Goals as goal

pub invariant_of-result : goal.invariant_of-result
invariant_of-result c = record {
  formed = texts_formed c.args.file.now c.reads_back.ensures.form c.requires c.in_ok-compatible.compatible c.in_ok-version.version c.in_ok-description.description c.in_ok-build.build (c.in_ok-compatible.ensures ∙ c.compatible_of.ensures) (c.in_ok-version.ensures ∙ c.get.ensures) (c.in_ok-description.ensures ∙ c.get-2.ensures) (c.in_ok-build.ensures ∙ c.get-3.ensures);
}
