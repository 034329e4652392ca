-- What is wrong with what a manifest says, in words.
use Rattle.std.specs.Prelude.{◌++◌, codes, decimal}
use Rattle.keyfile.specs.Groups.{Text}
use Rattle.conf_forms.specs.Causes.{place_cause}
use Rattle.manifest.specs.declared.refusal.ManifestRefusal.{ManifestRefusal}
use Rattle.manifest.specs.declared.refusal.ManifestRefusal.TheVariants as refusal

-- a group, and what is the matter with it
abbrev pub group_cause : Text → Text → Text
group_cause matter group = matter ++ (codes " [" ++ (group ++ codes "]"))

-- the refusal, without the name of the file
abbrev pub manifest_cause : ManifestRefusal → Text
manifest_cause (refusal.Missing group key) = place_cause group key (codes "missing")
manifest_cause (refusal.UnknownKey group key) = place_cause group key (codes "unknown")
manifest_cause (refusal.LeftOut group key) = place_cause group key (codes "left out")
manifest_cause (refusal.BadValue group key) = place_cause group key (codes "bad value")
manifest_cause (refusal.BadName group) = group_cause (codes "bad file name") group
manifest_cause (refusal.BadDigest group) = group_cause (codes "bad digest") group
manifest_cause refusal.NoImages = codes "no images"
manifest_cause (refusal.TooManyImages count) = codes "too many images: " ++ decimal count
