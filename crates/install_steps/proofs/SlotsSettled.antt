-- What was made to last on the device of a slot.
use Rattle.std.proofs.Common.{◌≡◌, ◌<◌, inl, inr, ℕ, Bool, List, [], Option, Ok, length, get_or, Result, IsTrue, refl, sym, ◌∙◌, ap, subst}
use Rattle.std.specs.Prelude.{⊤, option_map, unwrap_or}
use Rattle.std.proofs.lemmas.Option.{slice_get_read}
use Rattle.boot_model.specs.declared.boot_kind.BootKind.{BootKind}
use Rattle.keyfile.specs.Groups.{Text}
use Rattle.machine.specs.Calls.{Ends}
use Rattle.machine.specs.Past.{After, Broken, Done, End, Overlong, Past, Sync, world_now}
use Rattle.machine.specs.World.{with_sync}
use Rattle.machine.specs.declared.calls.CallStop.{CallStop}
use Rattle.machine.specs.declared.world.World.{World}
use Rattle.machine.proofs.Failing.{fails_call}
use Rattle.machine.proofs.Moments.{always_ends}
use Rattle.system_conf.specs.Configuration.{Configuration}
use Rattle.system_conf.specs.declared.slot.Slot.{Slot}
use Rattle.install_steps.specs.Putting.{SettlesSlot}
use Rattle.install_steps.specs.Steps.{EitherOf, device_of}

synced : (boot : BootKind) (device : Text) (w : World) (end : End) (v : World) → After boot (Sync device) end w v → EitherOf w (with_sync w device) v
synced boot device w Done v is = inr is
synced boot device w Broken v is = inl is
synced boot device w Overlong v is = inl is

settles : (t : Bool) (device : Text) (a z : Past) → (IsTrue t → Ends {T = ⊤} a z (Sync device) (Ok tt)) → SettlesSlot t device a z (Ok tt)
settles t device a z ends = record {
  moments = λ told.
      always_ends a z (Sync device) (EitherOf (world_now a) (with_sync (world_now a) device)) given (ends told) (inl refl) (λ u same. inl same) (λ end v is. synced a.boot device (world_now a) end v is);
  after = λ told. (ends told).after;
  fails = fails_call t a z (Sync device) given ends;
}
  where
    given : Result ⊤ CallStop
    given = Ok tt

-- the device of the slot that stands at a place
device_at : (c : Configuration) (slot : ℕ) (view : List Slot) (item : Slot) (device : Text) → slot < length c.slots → view ≡ c.slots → item ≡ get_or view slot item → device ≡ (get_or view slot item).device → device ≡ device_of c slot
device_at c slot view item device within same found is =
    let there = slice_get_read c.slots (length c.slots) slot item refl within (found ∙ ap (λ (xs : List Slot). get_or xs slot item) same) in
    is ∙ ap (λ (s : Slot). s.device) (sym found) ∙ sym (ap (λ (o : Option Slot). unwrap_or (option_map (λ s. s.device) o) []) there)

pub settles_done : (t : Bool) (c : Configuration) (slot : ℕ) (view : List Slot) (item : Slot) (device : Text) (a z : Past) → slot < length c.slots → view ≡ c.slots → item ≡ get_or view slot item → device ≡ (get_or view slot item).device → (IsTrue t → Ends {T = ⊤} a z (Sync device) (Ok tt)) → SettlesSlot t (device_of c slot) a z (Ok tt)
settles_done t c slot view item device a z within same found is ends =
    subst (λ (d : Text). SettlesSlot t d a z (Ok tt)) (device_at c slot view item device within same found is) (settles t device a z ends)
