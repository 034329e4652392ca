-- The plain value that a value stands for.
use Rattle.std.specs.Prelude.{ℕ, Bool, true, false, List, [], ◌∷◌, map}
use Rattle.std.specs.Int.{w16, w32, w64, cast_unsigned}
use Rattle.byteorder.specs.Endian.{little_number}
use Rattle.wire_value.specs.Types.{byte, boolean, int16, uint16, int32, uint32, int64, uint64, double, unix_fd, string, object_path, signature}
use Rattle.wire_value.specs.Plain.{Plain, number, words, array, struct, entry, variant, Plains, none, more}
use Rattle.wire_value.specs.declared.value.Value.{Value, fold-Value}
use Rattle.wire_value.specs.declared.value.Value.TheOpen.{Value-F}

-- the values, and then others
abbrev pub onto : List Plain → Plains → Plains
onto [] vs = vs
onto (x ∷ xs) vs = more x (onto xs vs)

abbrev pub bit : Bool → ℕ
bit true = 1
bit false = 0

-- one level, with each value inside already seen as its data
abbrev pub view_step : Value-F Plain → Plain
view_step (Value-F.Byte x) = number byte x
view_step (Value-F.Flag b) = number boolean (bit b)
view_step (Value-F.I16 z) = number int16 (cast_unsigned w16 z)
view_step (Value-F.U16 x) = number uint16 x
view_step (Value-F.I32 z) = number int32 (cast_unsigned w32 z)
view_step (Value-F.U32 x) = number uint32 x
view_step (Value-F.I64 z) = number int64 (cast_unsigned w64 z)
view_step (Value-F.U64 x) = number uint64 x
view_step (Value-F.Double bs) = number double (little_number 8 bs)
view_step (Value-F.Str t) = words string t
view_step (Value-F.Path t) = words object_path t
view_step (Value-F.Sig t) = words signature t
view_step (Value-F.Fd x) = number unix_fd x
view_step (Value-F.Array t vs) = array t (onto vs.items none)
view_step (Value-F.Struct vs) = struct (onto vs.items none)
view_step (Value-F.Pair k v) = entry k.value v.value
view_step (Value-F.Variant v) = variant v.value

abbrev pub view : Value → Plain
view = fold-Value Plain view_step

abbrev pub views : List Value → Plains
views vs = onto (map view vs) none
