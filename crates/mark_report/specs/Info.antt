-- What there is to tell of a bundle.
use Rattle.std.specs.Prelude.{ℕ, Bool, ◌||◌, [], ◌++◌, codes, decimal, length, Option, unwrap_or}
use Rattle.std.specs.List.{enumerate_from, flat_map}
use Rattle.std.specs.Option.{option_map_or}
use Rattle.hex.specs.Hex.{encode_lower}
use Rattle.keyfile.specs.Groups.{Text}
use Rattle.manifest.specs.Contents.{BundleContent, Content, ImageContent}
use Rattle.manifest.specs.declared.image.ImageFile.{ImageFile}
use Rattle.report_lines.specs.Lines.{line, line_if_any, number_line, numbered, setting, text_if}
use Rattle.updater_text.specs.declared.form.Form.{Form}
use Rattle.updater_text.specs.declared.form.Form.TheVariants as form

-- ---- for a reader

unfoldable pub file_lines : ImageFile → Text
file_lines f = line (codes "  file: ") f.name ++ (number_line (codes "  size: ") f.size ++ line (codes "  sha256: ") (encode_lower f.digest.0))

-- the hooks that an image names, each behind a blank
abbrev pub hook_words : ImageContent → Text
hook_words i = text_if i.pre (codes " pre-install") ++ (text_if i.install (codes " install") ++ text_if i.post (codes " post-install"))

unfoldable pub hook_line : ImageContent → Text
hook_line i = text_if (i.pre || (i.install || i.post)) (codes "  hooks:" ++ (hook_words i ++ codes "\n"))

unfoldable pub image_lines : ImageContent → Text
image_lines i =
    line (codes "image ") i.class
    ++ (option_map_or file_lines i.file [] ++ (hook_line i ++ text_if i.adaptive (codes "  adaptive: block-hash-index\n")))

unfoldable pub bundle_lines : BundleContent → Text
bundle_lines b =
    line (codes "compatible: ") b.compatible
    ++ (line_if_any (codes "version: ") b.version ++ (line_if_any (codes "description: ") b.description ++ line_if_any (codes "build: ") b.build))

unfoldable pub readable : Content → Text
readable c = bundle_lines c.bundle ++ (number_line (codes "images: ") (length c.images) ++ flat_map image_lines c.images)

-- ---- for a shell

-- the settings of an image's file; what is not there is empty
unfoldable pub file_settings : ℕ → Option ImageFile → Text
file_settings number file =
    numbered (codes "RAUC_IMAGE_SIZE_") number (option_map_or (λ f. decimal f.size) file [])
    ++ numbered (codes "RAUC_IMAGE_DIGEST_") number (option_map_or (λ f. encode_lower f.digest.0) file [])

-- the settings of an image, by its number
unfoldable pub image_settings : ℕ × ImageContent → Text
image_settings i =
    numbered (codes "RAUC_IMAGE_CLASS_") i.0 i.1.class
    ++ (numbered (codes "RAUC_IMAGE_NAME_") i.0 (option_map_or (λ f. f.name) i.1.file []) ++ file_settings i.0 i.1.file)

unfoldable pub bundle_settings : BundleContent → Text
bundle_settings b =
    setting (codes "RAUC_MF_COMPATIBLE") b.compatible
    ++ (setting (codes "RAUC_MF_VERSION") (unwrap_or b.version [])
    ++ (setting (codes "RAUC_MF_DESCRIPTION") (unwrap_or b.description []) ++ setting (codes "RAUC_MF_BUILD") (unwrap_or b.build [])))

unfoldable pub shell : Content → Text
shell c =
    bundle_settings c.bundle ++ (setting (codes "RAUC_MF_IMAGES") (decimal (length c.images)) ++ flat_map image_settings (enumerate_from 1 c.images))

-- ---- either: what a manifest says, as text

abbrev pub info_text : Form → Content → Text
info_text form.Readable c = readable c
info_text form.Shell c = shell c
