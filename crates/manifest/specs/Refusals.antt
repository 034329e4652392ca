-- The refusals of a manifest, each by what holds of the whole list of its groups, and the manifest where none holds.
use Rattle.std.specs.Prelude.{Bool, false, ◌==◌, ◌&&◌, ◌||◌, not, nat_lt, List, [], ◌∷◌, codes, length, Option, Some, None, is_none, option_map, Result, Ok, Err, if◌then◌else◌}
use Rattle.std.specs.Option.{option_map_or}
use Rattle.std.specs.List.{list_any}
use Rattle.std.specs.Str.{bytes_eq}
use Rattle.updater_text.specs.Digests.{digest_of}
use Rattle.keyfile.specs.Groups.{Text, Group, get_in}
use Rattle.conf_forms.specs.Lists.{first_of, is_among}
use Rattle.conf_forms.specs.Walks.{first_bad, first_left_out, first_unknown}
use Rattle.manifest.specs.Contents.{Content, content}
use Rattle.manifest.specs.Images.{image_groups, is_image_group}
use Rattle.manifest.specs.KeyTable.{manifest_table}
use Rattle.manifest.specs.Mandatory.{first_missing}
use Rattle.manifest.specs.declared.refusal.ManifestRefusal.{ManifestRefusal}
use Rattle.manifest.specs.declared.refusal.ManifestRefusal.TheVariants as refusal

-- ---- groups, keys and values

-- a mandatory key has no value
unfoldable pub missing : List Group → Option ManifestRefusal
missing groups = option_map (λ p. refusal.Missing p.0 p.1) (first_missing groups)

-- the table of a manifest does not know a group or key
unfoldable pub unknown_key : List Group → Option ManifestRefusal
unknown_key groups = option_map (λ p. refusal.UnknownKey p.0 p.1) (first_unknown manifest_table groups)

-- a group or key is left out
unfoldable pub left_out : List Group → Option ManifestRefusal
left_out groups = option_map (λ p. refusal.LeftOut p.0 p.1) (first_left_out manifest_table groups)

-- a value does not have its form
unfoldable pub bad_value : List Group → Option ManifestRefusal
bad_value groups = option_map (λ p. refusal.BadValue p.0 p.1) (first_bad manifest_table (λ group entry. false) groups)

-- ---- files

-- what is no name of a file
abbrev pub reserved_names : List Text
reserved_names = [] ∷ codes "." ∷ codes ".." ∷ []

-- the name of a file: none of these, and without a slash
abbrev pub is_file_name : Text → Bool
is_file_name name = not (is_among reserved_names name) && not (list_any (λ b. b == 47) name)

-- a group with a file: that of the hooks, or an image's
abbrev pub has_file : Text → Bool
has_file group = bytes_eq group (codes "hooks") || is_image_group group

-- the file's name of such a group is none
abbrev pub is_misnamed : List Group → Text → Bool
is_misnamed groups group = has_file group && option_map_or (λ name. not (is_file_name name)) (get_in groups group (codes "filename")) false

abbrev pub misnamed : List Group → Group → Option ManifestRefusal
misnamed groups g = if is_misnamed groups g.0 then Some (refusal.BadName g.0) else None

-- the name of a file is none
unfoldable pub bad_name : List Group → Option ManifestRefusal
bad_name groups = first_of (misnamed groups) groups

-- the digest of an image's group is none
abbrev pub has_bad_digest : List Group → Text → Bool
has_bad_digest groups group = option_map_or (λ text. is_none (digest_of text)) (get_in groups group (codes "sha256")) false

abbrev pub undigested : List Group → Text → Option ManifestRefusal
undigested groups group = if has_bad_digest groups group then Some (refusal.BadDigest group) else None

-- the digest of an image is none
unfoldable pub bad_digest : List Group → Option ManifestRefusal
bad_digest groups = first_of (undigested groups) (image_groups groups)

-- ---- how many images

-- there is none
unfoldable pub no_images : List Group → Option ManifestRefusal
no_images groups = if length (image_groups groups) == 0 then Some refusal.NoImages else None

-- there are more than 64
unfoldable pub too_many_images : List Group → Option ManifestRefusal
too_many_images groups = if nat_lt 64 (length (image_groups groups)) then Some (refusal.TooManyImages (length (image_groups groups))) else None

-- ---- in their order

abbrev pub refusals : List Group → List (Option ManifestRefusal)
refusals groups =
    missing groups
    ∷ unknown_key groups
    ∷ left_out groups
    ∷ bad_value groups
    ∷ bad_name groups
    ∷ bad_digest groups
    ∷ no_images groups
    ∷ too_many_images groups ∷ []

-- the first that holds
abbrev pub first_refusal : List Group → Option ManifestRefusal
first_refusal groups = first_of (λ refusal. refusal) (refusals groups)

abbrev pub unless_refused : Option ManifestRefusal → Content → Result Content ManifestRefusal
unless_refused None content = Ok content
unless_refused (Some why) content = Err why

-- the first refusal that holds, or else what the groups say
abbrev pub manifest_of : List Group → Result Content ManifestRefusal
manifest_of groups = unless_refused (first_refusal groups) (content groups)
