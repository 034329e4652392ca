-- What holds of every manifest.
use Rattle.std.specs.Prelude.{Bool, true, ◌&&◌, ◌||◌, Option, is_some}
use Rattle.std.specs.Option.{option_map_or}
use Rattle.keyfile.specs.Groups.{Text, is_entry_value}
use Rattle.conf_forms.specs.Forms.{is_text}
use Rattle.manifest.specs.declared.image.ImageFile.{ImageFile}

-- at most 1,024 bytes, of which those below 32 are tabs, line feeds and carriage returns
abbrev pub is_bundle_text : Text → Bool
is_bundle_text text = is_text text && is_entry_value text

abbrev pub is_text_if_any : Option Text → Bool
is_text_if_any text = option_map_or is_bundle_text text true

-- all that a bundle says of itself
abbrev pub are_bundle_texts : Text → Option Text → Option Text → Option Text → Bool
are_bundle_texts compatible version description build =
    is_bundle_text compatible && (is_text_if_any version && (is_text_if_any description && is_text_if_any build))

-- an image has a file, or a hook installs it
abbrev pub has_source : Option ImageFile → Bool → Bool
has_source file install = is_some file || install
