use Rattle.manifest.proofs.Passed.{image_there, sourced_there}
use Rattle.manifest.proofs.images.read_images.Goals as goal

pub read_image-requires-clause-sourced : goal.read_image-requires-clause-sourced
read_image-requires-clause-sourced c =
    sourced_there c.args.file.now c.requires.pass c.args.images.now c.requires.groups c.loop-group.group-index c.group-item.result c.as_str.result.now c.loop-group-test.true c.group-item.is c.as_str.ensures

pub read_image-requires-clause-is_one : goal.read_image-requires-clause-is_one
read_image-requires-clause-is_one c =
    image_there c.args.file.now c.requires.pass c.args.images.now c.requires.groups c.loop-group.group-index c.group-item.result c.as_str.result.now c.loop-group-test.true c.group-item.is c.as_str.ensures
