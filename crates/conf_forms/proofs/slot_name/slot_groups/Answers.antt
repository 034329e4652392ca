use Rattle.std.proofs.Common.{List, ◌++◌, [], ◌∷◌, map, filter, sym, ◌∙◌, ap}
use Rattle.std.specs.Prelude.{ℕ}
use Rattle.keyfile.specs.Groups.{Text, Group}
use Rattle.conf_forms.specs.SlotNames.{is_slot_group, parts, parts_of}
use Rattle.conf_forms.proofs.Lists.{not_past}
use Rattle.conf_forms.proofs.SlotNames.{slot_parts_more}
use Rattle.conf_forms.proofs.slot_name.slot_groups.Goals as goal
use Rattle.conf_forms.proofs.slot_name.slot_groups.Goals.{in-Some+in_ok-push_slot, in_default}

pub loop-at-preserved : goal.loop-at-preserved
loop-at-preserved c = elim c.match-group.branch [
  | in-Some+in_ok-push_slot w ↦
      ap (λ v. map parts v.items) w.found-is ∙ w.in_ok-push_slot.ensures
      ∙ ap (λ (before : List (Text × Text × Text × ℕ)). before ++ map parts_of (filter is_slot_group (w.in-Some.group.now ∷ []))) c.loop-at.invariant
      ∙ sym (slot_parts_more c.args.file.now c.loop-at.at w.in-Some.group.now w.in-Some.ensures)
  | in_default w ↦ absurd (not_past (λ (g : Group). g.0) c.args.file.now c.loop-at.at c.groups-at-end.result w.in_default.ensures c.loop-at-test.true c.groups-at-end.ensures.count)
]
