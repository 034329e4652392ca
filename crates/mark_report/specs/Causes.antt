-- Why there is nothing to tell, in words.
use Rattle.keyfile.specs.Groups.{Text}
use Rattle.child_steps.specs.Causes.{bundle_cause, mount_cause}
use Rattle.mark_report.specs.declared.bundle_info.InfoRefusal.{InfoRefusal}
use Rattle.mark_report.specs.declared.bundle_info.InfoRefusal.TheVariants.{Mount, Bundle}

abbrev pub info_cause : InfoRefusal → Text
info_cause (Mount refusal) = mount_cause refusal
info_cause (Bundle refusal) = bundle_cause refusal
