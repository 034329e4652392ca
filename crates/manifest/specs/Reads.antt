-- What reading a manifest answers.
use Rattle.std.specs.Prelude.{◌≡◌, List, map, Option, Some, None, Result, Ok, Err}
use Rattle.updater_text.specs.declared.stops.Lack.{Lack}
use Rattle.updater_text.specs.declared.stops.Lack.TheVariants as lack
use Rattle.manifest.specs.Contents.{BundleContent, Content, ImageContent}
use Rattle.manifest.specs.declared.bundle_text.BundleText.{BundleText}
use Rattle.manifest.specs.declared.image.Image.{Image}
use Rattle.manifest.specs.declared.content.Manifest.{Manifest}
use Rattle.manifest.specs.declared.refusal.ManifestRefusal.{ManifestRefusal}

-- what a value holds, without the facts about it
abbrev pub bundle_content : BundleText → BundleContent
bundle_content b = record { compatible = b.compatible; version = b.version; description = b.description; build = b.build }

abbrev pub image_content : Image → ImageContent
image_content i = record { class = i.class; file = i.file; pre = i.pre; install = i.install; post = i.post; adaptive = i.adaptive }

abbrev pub image_contents : List Image → List ImageContent
image_contents = map image_content

abbrev pub manifest_content : Manifest → Content
manifest_content m = record { bundle = bundle_content m.bundle; hook_file = m.hook_file; install_check = m.install_check; images = image_contents m.images }

-- the call answered by what the manifest means
abbrev pub Reads : Result Content ManifestRefusal → Result Manifest (Lack ManifestRefusal) → Type 0
Reads meaning (Ok manifest) = meaning ≡ Ok (manifest_content manifest)
Reads meaning (Err (lack.Refused why)) = meaning ≡ Err why
Reads meaning (Err lack.NoMemory) = Unit {0}

-- the call passed where no refusal holds, and gave the refusal that does
abbrev pub Checks : Option ManifestRefusal → Result (Unit {0}) (Lack ManifestRefusal) → Type 0
Checks refusal (Ok passed) = refusal ≡ None
Checks refusal (Err (lack.Refused why)) = refusal ≡ Some why
Checks refusal (Err lack.NoMemory) = Unit {0}
