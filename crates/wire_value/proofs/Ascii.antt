-- Types are ASCII, so they are texts.
use Rattle.std.proofs.Common.{◌≡◌, ℕ, ◌<◌, List, [], ◌∷◌, ◌++◌, Some, sym, subst, arith, inl, inr}
use Rattle.std.specs.Str.{IsAscii}
use Rattle.std.proofs.lemmas.Str.{IsUtf8-from_ascii, IsAscii-append}
use Rattle.std.proofs.lemmas.Str.Ascii.{IsAscii-nil, IsAscii-cons}
use Rattle.wire_value.specs.Types.{byte, boolean, int16, uint16, int32, uint32, int64, uint64, double, unix_fd, string, object_path, signature, fixed, textual, Basic, letter, Kind, Kinds, ty_basic, ty_variant, ty_array, ty_dict, ty_struct, no_kinds, and_kind, text, texts, IsEntryType, IsItemType, IsSignature}
use Rattle.wire_value.specs.Reading.{as_text}
use Rattle.wire_value.proofs.Texts.{utf8_yes}

letter_ascii : (b : Basic) → letter b < 128
letter_ascii (fixed byte) = omega arith
letter_ascii (fixed boolean) = omega arith
letter_ascii (fixed int16) = omega arith
letter_ascii (fixed uint16) = omega arith
letter_ascii (fixed int32) = omega arith
letter_ascii (fixed uint32) = omega arith
letter_ascii (fixed int64) = omega arith
letter_ascii (fixed uint64) = omega arith
letter_ascii (fixed double) = omega arith
letter_ascii (fixed unix_fd) = omega arith
letter_ascii (textual string) = omega arith
letter_ascii (textual object_path) = omega arith
letter_ascii (textual signature) = omega arith

entry_ascii : (b : Basic) (k : Kind) → IsAscii (text k) → IsAscii (123 ∷ (letter b ∷ (text k ++ 125 ∷ [])))
entry_ascii b k h =
    let value : IsAscii (text k ++ 125 ∷ []) = IsAscii-append (text k) (125 ∷ []) h (IsAscii-cons 125 [] (omega arith) IsAscii-nil) in
    IsAscii-cons 123 (letter b ∷ (text k ++ 125 ∷ [])) (omega arith) (IsAscii-cons (letter b) (text k ++ 125 ∷ []) (letter_ascii b) value)

mutual
  type_ascii : (k : Kind) → IsAscii (text k)
  type_ascii (ty_basic b) = IsAscii-cons (letter b) [] (letter_ascii b) IsAscii-nil
  type_ascii ty_variant = IsAscii-cons 118 [] (omega arith) IsAscii-nil
  type_ascii (ty_array k) = IsAscii-cons 97 (text k) (omega arith) (type_ascii k)
  type_ascii (ty_dict b k) = IsAscii-cons 97 (123 ∷ (letter b ∷ (text k ++ 125 ∷ []))) (omega arith) (entry_ascii b k (type_ascii k))
  type_ascii (ty_struct k ks) = IsAscii-cons 40 (text k ++ (texts ks ++ 41 ∷ [])) (omega arith) (IsAscii-append (text k) (texts ks ++ 41 ∷ []) (type_ascii k) (IsAscii-append (texts ks) (41 ∷ []) (types_ascii ks) (IsAscii-cons 41 [] (omega arith) IsAscii-nil)))

  types_ascii : (ks : Kinds) → IsAscii (texts ks)
  types_ascii no_kinds = IsAscii-nil
  types_ascii (and_kind k ks) = IsAscii-append (text k) (texts ks) (type_ascii k) (types_ascii ks)

ascii_text : (s : List ℕ) → IsAscii s → as_text s ≡ Some s
ascii_text s h = utf8_yes s (IsUtf8-from_ascii s h)

pub signature_text : (s : List ℕ) → IsSignature s → as_text s ≡ Some s
signature_text s h = ascii_text s (subst IsAscii (sym h.is) (types_ascii h.kinds))

entry_text : (s : List ℕ) → IsEntryType s → IsAscii s
entry_text s h = subst IsAscii (sym h.is) (entry_ascii h.key h.value (type_ascii h.value))

pub item_text : (s : List ℕ) → IsItemType s → as_text s ≡ Some s
item_text s h = elim h [ inl t ↦ ascii_text s (subst IsAscii (sym t.is) (type_ascii t.kind)) | inr e ↦ ascii_text s (entry_text s e) ]
