use Rattle.std.proofs.Common.{◌≡◌, Some, None, length, arith, sym, ◌∙◌, ap}
use Rattle.undo_log.proofs.Places.{found_bytes, found_none, found_written, same_some}
use Rattle.undo_log.proofs.changes.patch_list.Goals as goal

pub patch-requires : goal.patch-requires
patch-requires c =
    let there = found_bytes c.args.list.now c.args.path.now c.in-Some.place c.index-list-place.result c.in-Some.ensures in
    let same = same_some _ _ (sym there ∙ c.requires.1) in
    omega (arith, c.requires.2, ap length same, ap length c.as_mut_slice.ensures.value)

pub returns-in-Some : goal.returns-in-Some
returns-in-Some c =
    found_written c.args.list.now c.args.path.now c.args.at c.args.from.now c.in-Some.place c.index-list-place.result _ _ c.in-Some.ensures c.as_mut_slice.ensures.value c.patch.ensures c.patch.auto.bytes

pub returns-in_default : goal.returns-in_default
returns-in_default c =
    let bad : None ≡ Some c.requires.0 = sym (found_none c.args.list.now c.args.path.now c.in_default.ensures) ∙ c.requires.1 in
    cc
