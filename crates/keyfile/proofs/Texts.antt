-- The canonical text of what the maps hold is UTF-8.
use Rattle.std.proofs.Common.{◌<◌, ℕ, zero, suc, List, [], ◌∷◌, ◌++◌, get_or, lit<}
use Rattle.std.specs.List.{flat_map}
use Rattle.std.specs.Str.{IsUtf8}
use Rattle.std.specs.String.{string_bytes}
use Rattle.std.proofs.lemmas.Str.{IsUtf8-append, IsUtf8-from_ascii, IsUtf8-nil, IsUtf8-string_bytes}
use Rattle.keyfile.proofs.Escaped.{value_text-text}
use Rattle.keyfile.proofs.Maps.{Inner, Name}
use Rattle.keyfile.specs.Canonical.{canonical, entry_text, group_text}
use Rattle.keyfile.specs.Escapes.{value_text}
use Rattle.keyfile.specs.Groups.{entries_in, groups_in}

byte-text : (b : ℕ) → b < 128 → IsUtf8 (b ∷ [])
byte-text b narrow = IsUtf8-from_ascii (b ∷ []) one
  where
    one : (i : ℕ) → get_or (b ∷ []) i 0 < 128
    one zero = narrow
    one (suc i) = lit< tt

entry-text : (e : Name × Name) → IsUtf8 (entry_text (string_bytes e.0, string_bytes e.1))
entry-text e =
    IsUtf8-append (string_bytes e.0 ++ 61 ∷ value_text (string_bytes e.1)) (10 ∷ [])
    (IsUtf8-append (string_bytes e.0) (61 ∷ value_text (string_bytes e.1)) (IsUtf8-string_bytes e.0)
    (IsUtf8-append (61 ∷ []) (value_text (string_bytes e.1)) (byte-text 61 (lit< tt)) (value_text-text (string_bytes e.1) (IsUtf8-string_bytes e.1))))
    (byte-text 10 (lit< tt))

entries-text : (es : List (Name × Name)) → IsUtf8 (flat_map entry_text (entries_in es))
entries-text [] = IsUtf8-nil
entries-text (e ∷ es) = IsUtf8-append (entry_text (string_bytes e.0, string_bytes e.1)) (flat_map entry_text (entries_in es)) (entry-text e) (entries-text es)

group-text : (g : Name × Inner) → IsUtf8 (group_text (string_bytes g.0, entries_in g.1.entries))
group-text g =
    IsUtf8-append (91 ∷ string_bytes g.0) (93 ∷ 10 ∷ flat_map entry_text (entries_in g.1.entries))
    (IsUtf8-append (91 ∷ []) (string_bytes g.0) (byte-text 91 (lit< tt)) (IsUtf8-string_bytes g.0))
    (IsUtf8-append (93 ∷ []) (10 ∷ flat_map entry_text (entries_in g.1.entries)) (byte-text 93 (lit< tt))
    (IsUtf8-append (10 ∷ []) (flat_map entry_text (entries_in g.1.entries)) (byte-text 10 (lit< tt)) (entries-text g.1.entries)))

more-text : (gs : List (Name × Inner)) → IsUtf8 (flat_map (λ y. (10 ∷ []) ++ group_text y) (groups_in gs))
more-text [] = IsUtf8-nil
more-text (g ∷ gs) =
    IsUtf8-append (10 ∷ group_text (string_bytes g.0, entries_in g.1.entries)) (flat_map (λ y. (10 ∷ []) ++ group_text y) (groups_in gs))
    (IsUtf8-append (10 ∷ []) (group_text (string_bytes g.0, entries_in g.1.entries)) (byte-text 10 (lit< tt)) (group-text g)) (more-text gs)

pub canonical-text : (gs : List (Name × Inner)) → IsUtf8 (canonical (groups_in gs))
canonical-text [] = IsUtf8-nil
canonical-text (g ∷ gs) = IsUtf8-append (group_text (string_bytes g.0, entries_in g.1.entries)) (flat_map (λ y. (10 ∷ []) ++ group_text y) (groups_in gs)) (group-text g) (more-text gs)
