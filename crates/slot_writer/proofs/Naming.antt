-- A refusal names the slot and the image that were asked for.
use Rattle.std.proofs.Common.{◌≡◌, ℕ, Bool, List, [], ◌∷◌, get_or, Option, Some, Result, Ok, Err, ◌∙◌, ap, bytes_eq}
use Rattle.std.proofs.lemmas.List.Quantifiers.{position-Some}
use Rattle.std.proofs.lemmas.Option.{slice_get-get_or}
use Rattle.std.specs.Option.{option_map_or}
use Rattle.keyfile.proofs.Distinct.{same_text}
use Rattle.system_conf.specs.declared.slot.Slot.{Slot}
use Rattle.slot_writer.specs.declared.refusal.SlotRefusal.{SlotRefusal}
use Rattle.slot_writer.specs.declared.refusal.SlotRefusal.TheVariants.{NoSuchSlot, BootedUnknown, Busy, ReadOnly, ArchiveImage, WrongType, MountsUnread, Mounted, Image}
use Rattle.system_conf.specs.Slots.{name_at}
use Rattle.machine.specs.declared.stops.Stop.{Stop}
use Rattle.machine.specs.declared.stops.Stop.TheVariants.{Refused, Outside, NoMemory}
use Rattle.slot_writer.specs.declared.refusal.SlotWritten.{SlotWritten}
use Rattle.slot_writer.specs.Checks.{IfRefused, IsAbout, NamesSlot}
use Rattle.updater_text.specs.declared.digest.Digest.{Digest}
use Rattle.raw_writer.specs.declared.check.PutRefusal.{PutRefusal}
use Rattle.raw_writer.specs.declared.check.PutRefusal.TheVariants.{NoImage, ImageSize, NoDevice, ImageTooLarge, ImageDigest}
use Rattle.raw_writer.specs.Checking.{NoDigestRefused}
use Rattle.raw_writer.specs.declared.whole.WholeStop.{WholeStop}
use Rattle.raw_writer.specs.declared.whole.WholeStop.TheVariants as whole
use Rattle.slot_writer.specs.Slots.{image_stop, slot_named, whole_answer}

named_there : (slots : List Slot) (name : List ℕ) (at : ℕ) → slot_named slots name ≡ Some at → name_at slots at ≡ name
named_there [] name at is = absurd (cc)
named_there (s ∷ ss) name at is =
    let found = position-Some (λ t. bytes_eq t.name name) (s ∷ ss) at s is in
    let here = slice_get-get_or (s ∷ ss) at s found.0 in
    ap (λ (o : Option Slot). option_map_or (λ t. t.name) o []) here ∙ same_text (get_or (s ∷ ss) at s).name name found.1

names_about : (slots : List Slot) (name image : List ℕ) (at : ℕ) (refusal : SlotRefusal) → slot_named slots name ≡ Some at → IsAbout at image refusal → NamesSlot slots name image refusal
names_about slots name image at (NoSuchSlot text) is about = absurd about
names_about slots name image at BootedUnknown is about = tt
names_about slots name image at (Busy slot) is about = ap (name_at slots) about ∙ named_there slots name at is
names_about slots name image at (ReadOnly slot) is about = ap (name_at slots) about ∙ named_there slots name at is
names_about slots name image at (ArchiveImage path) is about = about
names_about slots name image at (WrongType slot) is about = ap (name_at slots) about ∙ named_there slots name at is
names_about slots name image at MountsUnread is about = tt
names_about slots name image at (Mounted slot) is about = ap (name_at slots) about ∙ named_there slots name at is
names_about slots name image at (Image (NoImage path)) is about = tt
names_about slots name image at (Image (ImageSize stated found)) is about = tt
names_about slots name image at (Image (NoDevice path)) is about = tt
names_about slots name image at (Image (ImageTooLarge size device)) is about = tt
names_about slots name image at (Image (ImageDigest stated found)) is about = about

pub named_as : (slots : List Slot) (name image : List ℕ) (at : ℕ) (result : Result SlotWritten (Stop SlotRefusal)) → slot_named slots name ≡ Some at → IfRefused result (IsAbout at image) → IfRefused result (NamesSlot slots name image)
named_as slots name image at (Ok written) is about = tt
named_as slots name image at (Err (Refused refusal)) is about = names_about slots name image at refusal is about
named_as slots name image at (Err (Outside kind)) is about = tt
named_as slots name image at (Err NoMemory) is about = tt

-- a write that stopped names no slot
pub whole_about : (slot size : ℕ) (unread : Bool) (image : List ℕ) (result : Result Digest WholeStop) → IfRefused (whole_answer slot size unread result) (IsAbout slot image)
whole_about slot size unread image (Ok digest) = tt
whole_about slot size unread image (Err (whole.Outside kind)) = tt
whole_about slot size unread image (Err (whole.Short found)) = tt
whole_about slot size unread image (Err whole.NoMemory) = tt

-- nor does a check of the image
pub image_about : (slot : ℕ) (image : List ℕ) (stop : Stop PutRefusal) → NoDigestRefused {T = ℕ} (Err stop) → IfRefused {T = SlotWritten} (Err (image_stop stop)) (IsAbout slot image)
image_about slot image (Refused (NoImage path)) h = tt
image_about slot image (Refused (ImageSize stated found)) h = tt
image_about slot image (Refused (NoDevice path)) h = tt
image_about slot image (Refused (ImageTooLarge size device)) h = tt
image_about slot image (Refused (ImageDigest stated found)) h = h
image_about slot image (Outside kind) h = tt
image_about slot image NoMemory h = tt

-- what a step refuses is refused by the whole
pub about_passed : (stop : Stop SlotRefusal) (P : SlotRefusal → Type 0) → IfRefused {T = Unit {0}} (Err stop) P → IfRefused {T = SlotWritten} (Err stop) P
about_passed (Refused refusal) P h = h
about_passed (Outside kind) P h = tt
about_passed NoMemory P h = tt
