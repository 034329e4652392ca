-- The images of a manifest are for classes of their own.
use Rattle.std.specs.Prelude.{Bool, List, map}
use Rattle.keyfile.specs.Groups.{all_distinct}
use Rattle.manifest.specs.declared.image.Image.{Image}

-- no two images are for one class
abbrev pub classes_differ : List Image → Bool
classes_differ images = all_distinct (map (λ i. i.class) images)
