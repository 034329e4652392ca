use Rattle.std.proofs.Common.{◌<◌, ◌++◌, ◌∷◌, [], ℕ, List, filter, sym, ◌∙◌, ap, subst}
use Rattle.keyfile.specs.Groups.{Text}
use Rattle.manifest.specs.Images.{is_image_group}
use Rattle.manifest.proofs.Groups.{images_more, named_within}
use Rattle.manifest.proofs.image_groups.image_groups.Goals as goal
use Rattle.manifest.proofs.image_groups.image_groups.Goals.{in-Some+in_ok-push_image, in_default}

pub loop-at-preserved : goal.loop-at-preserved
loop-at-preserved c = elim c.match-group.branch [
  | in-Some+in_ok-push_image w ↦
      ap (λ v. v.items) w.found-is ∙ w.in_ok-push_image.ensures
      ∙ ap (λ (before : List Text). before ++ filter is_image_group (w.in-Some.group.now ∷ [])) c.loop-at.invariant
      ∙ sym (images_more c.args.file.now c.loop-at.at w.in-Some.group.now w.in-Some.ensures)
  | in_default w ↦ absurd (named_within c.args.file.now c.loop-at.at (subst (λ (n : ℕ). c.loop-at.at < n) c.groups-at-end.ensures.count c.loop-at-test.true) w.in_default.ensures)
]
