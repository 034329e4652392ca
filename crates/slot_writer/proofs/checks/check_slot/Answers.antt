use Rattle.slot_writer.proofs.Checking.{checks_kind, checks_mounts, checks_use, slot_there}
use Rattle.slot_writer.proofs.checks.check_slot.Goals as goal

pub returns-in-Err-clause-checks : goal.returns-in-Err-clause-checks
returns-in-Err-clause-checks g c =
    let there = slot_there c.args.system.now.slots c.as_slice.result.now c.args.at c.index-as_slice-at.result c.requires c.as_slice.ensures c.index-as_slice-at.is in
    checks_use _ _ _ c.args.at c.index-as_slice-at.result c.args.image.now _ there _ c.in-Err.stop c.in-Err.ensures.checks

pub returns-in-Err-check_kind-clause-checks : goal.returns-in-Err-check_kind-clause-checks
returns-in-Err-check_kind-clause-checks g c =
    let there = slot_there c.args.system.now.slots c.as_slice.result.now c.args.at c.index-as_slice-at.result c.requires c.as_slice.ensures c.index-as_slice-at.is in
    checks_kind _ _ _ c.args.at c.index-as_slice-at.result c.args.image.now _ there _ _ c.in-Err-check_kind.stop c.in-Ok.ensures.checks c.in-Err-check_kind.ensures.checks

pub returns-in-Ok-check_kind-clause-checks : goal.returns-in-Ok-check_kind-clause-checks
returns-in-Ok-check_kind-clause-checks g c =
    let there = slot_there c.args.system.now.slots c.as_slice.result.now c.args.at c.index-as_slice-at.result c.requires c.as_slice.ensures c.index-as_slice-at.is in
    checks_mounts _ _ _ c.args.at c.index-as_slice-at.result c.args.image.now _ there _ _ _ _ c.check_mounts.result c.in-Ok.ensures.checks c.in-Ok-check_kind.ensures.checks c.check_mounts.ensures.checks

pub returns-in-Err-clause-about : goal.returns-in-Err-clause-about
returns-in-Err-clause-about g c = c.in-Err.ensures.about c.args.image.now

pub returns-in-Ok-check_kind-clause-about : goal.returns-in-Ok-check_kind-clause-about
returns-in-Ok-check_kind-clause-about g c = c.check_mounts.ensures.about c.args.image.now
