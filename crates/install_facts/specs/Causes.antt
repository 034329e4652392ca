-- Why a bundle is not installed, in words.
use Rattle.std.specs.Prelude.{List, ◌++◌, codes}
use Rattle.boot_backends.specs.Words.{boot_cause}
use Rattle.child_steps.specs.Causes.{bundle_cause, check_cause, mount_cause}
use Rattle.child_steps.specs.Hooks.{handler_word, hook_word}
use Rattle.keyfile.specs.Groups.{Text}
use Rattle.machine.specs.Endings.{ended_text}
use Rattle.raw_writer.specs.Checking.{put_cause}
use Rattle.slot_graph.specs.Causes.{assign_cause}
use Rattle.slot_status.specs.Causes.{status_cause}
use Rattle.status_file.specs.Status.{names_in}
use Rattle.system_conf.specs.Slots.{name_at}
use Rattle.system_conf.specs.declared.slot.Slot.{Slot}
use Rattle.install_facts.specs.declared.refusal.InstallRefusal.{InstallRefusal}
use Rattle.install_facts.specs.declared.refusal.InstallRefusal.TheVariants as why

-- slots are named by their places in the configuration
abbrev pub install_cause : List Slot → InstallRefusal → Text
install_cause slots (why.Mount refusal) = mount_cause refusal
install_cause slots why.BootedUnknown = codes "booted slot is not known"
install_cause slots (why.Bundle refusal) = bundle_cause refusal
install_cause slots (why.Compatible system bundle) = codes "compatible is " ++ (system ++ (codes ", bundle has " ++ bundle))
install_cause slots (why.Check refusal) = check_cause refusal
install_cause slots (why.Assign refusal) = assign_cause slots refusal
install_cause slots why.MountsUnread = codes "mounts unreadable"
install_cause slots (why.Mounted slot) = codes "slot " ++ (name_at slots slot ++ codes " is mounted")
install_cause slots (why.Image image name cause) = put_cause name cause
install_cause slots (why.Status refusal) = status_cause (names_in slots) refusal
install_cause slots (why.HandlerFailed which ended) = codes "handler " ++ (handler_word which ++ (codes " failed: " ++ ended_text ended))
install_cause slots (why.HookFailed which slot ended) =
    codes "hook " ++ (hook_word which ++ (codes " of " ++ (name_at slots slot ++ (codes " failed: " ++ ended_text ended))))
install_cause slots (why.Boot refusal) = boot_cause refusal
