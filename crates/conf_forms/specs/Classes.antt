-- Classes of slots and images.
use Rattle.std.specs.Prelude.{ℕ, ◌==◌, Bool, ◌&&◌, ◌||◌, nat_le, length}
use Rattle.std.specs.List.{list_all}
use Rattle.keyfile.specs.Groups.{Text}

-- a letter or digit of ASCII, `-` or `_`
abbrev pub is_class_byte : ℕ → Bool
is_class_byte byte =
    ((nat_le 97 byte && nat_le byte 122) || (nat_le 65 byte && nat_le byte 90))
    || ((nat_le 48 byte && nat_le byte 57) || ((byte == 45) || (byte == 95)))

-- the class of slots and images: 1 to 255 of these
abbrev pub is_class : Text → Bool
is_class text = (nat_le 1 (length text) && nat_le (length text) 255) && list_all is_class_byte text
