-- Whole texts.
use Rattle.std.proofs.Common.{◌≡◌, ◌∙◌, ◌≤◌, ap, refl, ℕ, Bool, true, false, List, length, map, Err, if◌then◌else◌, arith}
use Rattle.std.specs.Prelude.{nat_lt}
use Rattle.std.proofs.lemmas.Bool.Decides.{nat_tests}
use Rattle.std.proofs.lemmas.Str.{IsUtf8-from_is_utf8, is_utf8-from_IsUtf8}
use Rattle.std.specs.Str.{IsUtf8, is_utf8}
use Rattle.std.specs.Str.Lines.{lines}
use Rattle.std.specs.Str.Lossy.{utf8_valid_len}
use Rattle.keyfile.specs.Groups.{Text, Group}
use Rattle.keyfile.specs.Lines.{line_of}
use Rattle.keyfile.specs.Reading.{read_lines_of, read_of}
use Rattle.keyfile.specs.declared.fault.KeyFault.{KeyFault}
use Rattle.keyfile.specs.declared.fault.KeyFault.TheVariants as fault
use Rattle.std.proofs.Common.{Result}

short : (n : ℕ) → n ≤ 1048576 → nat_lt 1048576 n ≡ false
short n small = grind (arith, nat_tests)

judged_by : Text → Bool → Bool → Result (List Group) KeyFault
judged_by text long valid =
    if long then Err (fault.TooLong (length text))
    else if valid then read_lines_of (map line_of (lines text))
    else Err (fault.NotUtf8 (utf8_valid_len text))

-- a text that is short enough and UTF-8 is read by its lines
pub read_of-text : (text : Text) → length text ≤ 1048576 → IsUtf8 text → read_of text ≡ read_lines_of (map line_of (lines text))
unfolding judged_by
read_of-text text small valid = ap (λ (b : Bool). judged_by text b (is_utf8 text)) (short (length text) small) ∙ ap (judged_by text false) (is_utf8-from_IsUtf8 text valid)

-- other bytes are refused
pub read_of-bytes : (text : Text) → length text ≤ 1048576 → (IsUtf8 text → ⊥) → read_of text ≡ Err (fault.NotUtf8 (utf8_valid_len text))
unfolding judged_by
read_of-bytes text small invalid = ap (λ (b : Bool). judged_by text b (is_utf8 text)) (short (length text) small) ∙ ap (judged_by text false) (go (is_utf8 text) refl)
  where
    go : (b : Bool) → is_utf8 text ≡ b → b ≡ false
    go true h = absurd (invalid (IsUtf8-from_is_utf8 text h))
    go false h = refl
