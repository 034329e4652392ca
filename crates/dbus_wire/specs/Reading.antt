-- Reading a message of which the first 16 bytes are there.
use Rattle.std.specs.Prelude.{ℕ, ◌+◌, ◌-◌, ◌^◌, Bool, true, false, ◌&&◌, ◌||◌, not, ◌==◌, nat_lt, nat_le, if◌then◌else◌, List, length, take, drop, slice_index, Option, Some, None}
use Rattle.wire_value.specs.Plain.{Plains}
use Rattle.wire_value.specs.Reading.{◌>>=◌, At, bytes_at, gap_at, from_word, all_items_at, values_at, is_signature}
use Rattle.wire_value.specs.Sizes.{aligned}
use Rattle.dbus_wire.specs.Fields.{Fields, no_fields, said, settled, signature_of, has_needed, only_if}
use Rattle.dbus_wire.specs.Spelling.{PlainMessage, field_type}

-- the byte order, where the first four bytes are those of a message
abbrev pub order_of : List ℕ → Option Bool
order_of bytes =
    if not (slice_index bytes 3 == 1) then None
    else if slice_index bytes 0 == 108 then Some true
    else if slice_index bytes 0 == 66 then Some false
    else None

-- the number of four bytes at an offset
unfoldable pub word_in : Bool → ℕ → List ℕ → ℕ
word_in little n bytes = from_word little 4 (take 4 (drop n bytes))

-- the length that a message states: its header, padded to 8, and its body
unfoldable pub stated : Bool → List ℕ → ℕ
stated little bytes = aligned 8 (16 + word_in little 12 bytes) + word_in little 4 bytes

-- the fields, and what stands behind them
unfoldable pub fields_at : ℕ → Bool → ℕ → List ℕ → Option (Fields × At)
fields_at kind little size bytes = do
  f ← bytes_at size (16, drop 16 bytes)
  fs ← all_items_at 63 little field_type (16, f.0)
  h ← said no_fields fs
  if has_needed kind h then Some (h, f.1) else None

-- the body, which all that is left is
unfoldable pub body_at : Bool → List ℕ → At → Option Plains
body_at little s p = do
  q ← gap_at 8 p
  vs ← (if is_signature s then values_at 64 little s q else None)
  if length vs.1.1 == 0 then Some vs.0 else None

-- kind and serial are not 0
abbrev pub is_sent : Bool → List ℕ → Bool
is_sent little bytes = nat_lt 0 (slice_index bytes 1) && nat_lt 0 (word_in little 8 bytes)

-- a message of what its parts say
abbrev pub joined : Bool → ℕ → ℕ → ℕ → Fields → Plains → PlainMessage
joined little kind flags serial h vs = record {
  little = little;
  kind = kind;
  flags = flags;
  serial = serial;
  fields = settled h;
  body = vs;
}

-- the message that all the bytes are
unfoldable pub message_at : Bool → List ℕ → Option PlainMessage
message_at little bytes =
    if is_sent little bytes then (do
      h ← fields_at (slice_index bytes 1) little (word_in little 12 bytes) bytes
      vs ← body_at little (signature_of h.0) h.1
      Some (joined little (slice_index bytes 1) (slice_index bytes 2) (word_in little 8 bytes) h.0 vs))
    else None

-- ---- any bytes

-- what bytes come to
pub data Answer : Type 0 where
  -- so many bytes more
  need : ℕ → Answer
  -- a message, which has so many bytes
  got : PlainMessage → ℕ → Answer
  bad : Answer
  -- a message of so many bytes
  too_large : ℕ → Answer

abbrev pub whole : Option PlainMessage → ℕ → Answer
whole None n = bad
whole (Some m) n = got m n

abbrev pub by_length : Bool → List ℕ → ℕ → Answer
by_length little bytes n =
    if nat_lt 1048576 n then too_large n
    else if nat_lt (length bytes) n then need (n - length bytes)
    else whole (message_at little (take n bytes)) n

abbrev pub by_order : Option Bool → List ℕ → Answer
by_order None bytes = bad
by_order (Some little) bytes = by_length little bytes (stated little bytes)

unfoldable pub answer : List ℕ → Answer
answer bytes =
    if nat_lt (length bytes) 16 then need (16 - length bytes)
    else by_order (order_of bytes) bytes
