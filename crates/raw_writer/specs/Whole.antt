-- What a whole write leaves, in which order it writes, and why it stops.
use Rattle.std.specs.Prelude.{◌≡◌, ◌<◌, ◌≤◌, ◌⊎◌, ◌+◌, ◌-◌, ◌*◌, ◌/◌, ◌%◌, ◌==◌, ◌++◌, ℕ, Bool, IsTrue, List, [], ◌∷◌, length, map, take, drop, Option, Some, None, Result, Ok, Err, if◌then◌else◌}
use Rattle.std.specs.Option.{option_map}
use Rattle.std.specs.List.{range_with_len}
use Rattle.sha2.specs.Sha256.{sha256}
use Rattle.updater_text.specs.Counts.{CountRose}
use Rattle.updater_text.specs.declared.digest.Digest.{Digest}
use Rattle.machine.specs.declared.stops.Fault.{Fault}
use Rattle.machine.specs.declared.world.Span.{Span}
use Rattle.machine.specs.declared.world.World.{World}
use Rattle.machine.specs.declared.calls.CallStop.{CallStop}
use Rattle.machine.specs.declared.calls.CallStop.TheVariants as call
use Rattle.machine.specs.World.{disk, readable, with_write, with_sync, with_fetched}
use Rattle.machine.specs.Past.{Always, ArbitraryWrite, Past, world_now}
use Rattle.machine.specs.Frames.{DiffersOnlyIn, IsRead}
use Rattle.raw_writer.specs.declared.whole.WholeStop.{WholeStop}
use Rattle.raw_writer.specs.declared.whole.WholeStop.TheVariants.{Outside, Short, NoMemory}

-- bytes begin with an image of this size and this SHA-256
pub record IsWhole (bytes : List ℕ) (size : ℕ) (digest : Digest) : Type 0 where
  pub enough : size ≤ length bytes
  pub hashed : digest.0 ≡ sha256 (take size bytes)

-- bytes with so many of an image's at their front
abbrev pub with_image_front : ℕ → List ℕ → List ℕ → List ℕ
with_image_front count image old = take count image ++ drop count old

-- the span of one write
abbrev pub span : List ℕ → ℕ → ℕ → Span
span device at count = record { path = device; at = at; length = count }

-- the spans of a write of so many bytes in pieces: whole pieces one after another, and one of the rest
abbrev pub pieces : List ℕ → ℕ → ℕ → List Span
pieces device piece size =
    map (λ k. span device (k * piece) piece) (range_with_len 0 (size / piece))
    ++ (if size % piece == 0 then [] else span device (size / piece * piece) (size % piece) ∷ [])

-- how many of so many bytes lie in whole pieces
abbrev pub whole_length : ℕ → ℕ → ℕ
whole_length piece size = size / piece * piece

-- the spans that w has more than old are the first ones of these, in this order
pub record AddsInOrder (spans : List Span) (old w : World) : Type 0 where
  pub count : ℕ
  pub writes : w.writes ≡ old.writes ++ take count spans

-- where told: at each moment since, inside the calls too, the first ones of these spans were written, in this order
pub record WritesInOrder (tells : Bool) (spans : List Span) (old new : Past) : Type 0 where
  pub all : IsTrue tells → Always old new (AddsInOrder spans (world_now old))

-- the device begins with the image's first `done` bytes, then come any bytes where a write of the next
-- piece was begun, and all behind is as it was
pub record IsPartCopied (image device : List ℕ) (piece size : ℕ) (old w : World) : Type 0 where
  pub done : ℕ
  pub any : List ℕ
  pub enough : done ≤ length (readable old image)
  pub one_piece : length any ≤ piece
  pub within : done + length any ≤ size
  pub front : disk w device ≡ option_map (λ bytes. take done (readable old image) ++ any ++ drop (done + length any) bytes) (disk old device)
  pub writes : w.writes ≡ old.writes ++ pieces device piece (done + length any)

-- where told: at each moment since, inside the calls too, the device was so copied
pub record CopiesInOrder (tells : Bool) (image device : List ℕ) (piece size : ℕ) (old new : Past) : Type 0 where
  pub all : IsTrue tells → Always old new (IsPartCopied image device piece size (world_now old))

-- the device begins with the image's first bytes; nothing of it is pending, and all else is as it was
pub record IsWritten (image device : List ℕ) (piece size : ℕ) (digest : Digest) (old w : World) : Type 0 where
  pub enough : size ≤ length (readable old image)
  pub front : disk w device ≡ option_map (with_image_front size (readable old image)) (disk old device)
  pub only : DiffersOnlyIn device 0 size old w
  pub pending : w.pending ≡ (with_sync old device).pending
  pub writes : w.writes ≡ old.writes ++ pieces device piece size
  pub fetched : w.fetched ≡ (with_fetched old image size).fetched
  pub hashed : digest.0 ≡ sha256 (take size (readable old image))

-- the image ended at `found`: its whole pieces up to there were written and are pending, what follows
-- them was read and not written, and all else is as it was
pub record IsShort (image device : List ℕ) (piece size found : ℕ) (old w : World) : Type 0 where
  pub fewer : found < size
  pub ends : found ≡ length (readable old image)
  pub front : disk w device ≡ option_map (with_image_front (whole_length piece found) (readable old image)) (disk old device)
  pub only : DiffersOnlyIn device 0 size old w
  pub pending : w.pending ≡ old.pending ++ pieces device piece (whole_length piece found)
  pub writes : w.writes ≡ old.writes ++ pieces device piece (whole_length piece found)
  pub fetched : w.fetched ≡ (with_fetched old image found).fetched

-- what a whole write leaves; where a call failed or wanted memory, no more than what holds at each moment
abbrev pub WholeEnds : List ℕ → List ℕ → ℕ → ℕ → World → World → Result Digest WholeStop → Type 0
WholeEnds image device piece size old w (Ok digest) = IsWritten image device piece size digest old w
WholeEnds image device piece size old w (Err (Short found)) = IsShort image device piece size found old w
WholeEnds image device piece size old w (Err (Outside fault)) = Unit {0}
WholeEnds image device piece size old w (Err NoMemory) = Unit {0}

-- told or not: an image that ended early ended before this
abbrev pub ShortOf : {T : Type 0} → ℕ → Result T WholeStop → Type 0
ShortOf size (Ok x) = Unit {0}
ShortOf size (Err (Short found)) = found < size
ShortOf size (Err (Outside fault)) = Unit {0}
ShortOf size (Err NoMemory) = Unit {0}

-- why a whole write stops where a call of this kind stopped
abbrev pub whole_stop : CallStop → Fault → WholeStop
whole_stop call.Failed fault = Outside fault
whole_stop call.NoMemory fault = NoMemory

-- the kind of the call that failed
abbrev pub whole_fault : {T : Type 0} → Result T WholeStop → Option Fault
whole_fault (Ok x) = None
whole_fault (Err (Outside fault)) = Some fault
whole_fault (Err (Short found)) = None
whole_fault (Err NoMemory) = None

-- counts never fall; a fault is answered only where that of faults rose, and out of memory only where that of wants rose
abbrev pub WholeCounted : {T : Type 0} → ℕ → ℕ → ℕ → ℕ → Result T WholeStop → Type 0
WholeCounted faults faults' wants wants' (Ok x) = (faults ≤ faults') × (wants ≤ wants')
WholeCounted faults faults' wants wants' (Err (Short found)) = (faults ≤ faults') × (wants ≤ wants')
WholeCounted faults faults' wants wants' (Err (Outside fault)) = CountRose faults faults' × (wants ≤ wants')
WholeCounted faults faults' wants wants' (Err NoMemory) = (faults ≤ faults') × CountRose wants wants'

-- w is old after reads, and after one write at most, of this range of the device, with any bytes
pub record WritesAtMost (device : List ℕ) (at count : ℕ) (old w : World) : Type 0 where
  pub is : IsRead old w ⊎ ((u : World) × IsRead old u × ArbitraryWrite device at count u w)

-- where told: at each moment since, inside the calls too, no more was done than reads and such a write
pub record OneWriteAtMost (tells : Bool) (device : List ℕ) (at count : ℕ) (old new : Past) : Type 0 where
  pub all : IsTrue tells → Always old new (WritesAtMost device at count (world_now old))

-- one piece: its bytes are the image's from an offset on, and were read and written there
pub record IsCopied (image device : List ℕ) (at : ℕ) (piece : List ℕ) (old w : World) : Type 0 where
  pub enough : at + length piece ≤ length (readable old image)
  pub bytes : piece ≡ take (length piece) (drop at (readable old image))
  pub left : w ≡ with_write (with_fetched old image (length piece)) device at piece

-- the image ended within a piece: what there was of it was read, and nothing was written
pub record IsCut (image : List ℕ) (at : ℕ) (piece : List ℕ) (found : ℕ) (old w : World) : Type 0 where
  pub starts : at ≤ found
  pub fewer : found < at + length piece
  pub ends : at ≤ length (readable old image) → found ≡ length (readable old image)
  pub left : w ≡ with_fetched old image (found - at)

-- what the copying of one piece leaves
abbrev pub PieceEnds : {T : Type 0} → List ℕ → List ℕ → ℕ → List ℕ → World → World → Result T WholeStop → Type 0
PieceEnds image device at piece old w (Ok x) = IsCopied image device at piece old w
PieceEnds image device at piece old w (Err (Short found)) = IsCut image at piece found old w
PieceEnds image device at piece old w (Err (Outside fault)) = Unit {0}
PieceEnds image device at piece old w (Err NoMemory) = Unit {0}
