-- What runs is not written by any plan.
use Rattle.std.proofs.Common.{◌≡◌, ◌||◌, inl, inr, ℕ, ℤ, zero, suc, Bool, true, false, List, [], ◌∷◌, map, Option, Some, None, Result, Ok, Err, IsTrue, refl, sym, ◌∙◌, ap, subst, slice_get}
use Rattle.std.proofs.lemmas.Slice.Eq.{bytes_eq-Decides}
use Rattle.std.specs.List.{list_any}
use Rattle.std.specs.Prelude.{bytes_eq}
use Rattle.machine.specs.declared.world.Child.{Child}
use Rattle.machine.specs.declared.world.Spares.{Spares}
use Rattle.machine.specs.Spares.{has_disk}
use Rattle.machine.specs.declared.world.World.{World}
use Rattle.machine.specs.Crash.{is_in}
use Rattle.machine.specs.World.{disk_byte, file, with_file}
use Rattle.machine.specs.Past.{Past, Held, world_now}
use Rattle.keyfile.specs.Groups.{Group}
use Rattle.keyfile.specs.Reading.{read_of}
use Rattle.keyfile.specs.declared.fault.KeyFault.{KeyFault}
use Rattle.system_conf.specs.Slots.{slots_of}
use Rattle.system_conf.specs.declared.conf_refusal.ConfRefusal.{ConfRefusal}
use Rattle.system_conf.specs.declared.slot.Slot.{Slot}
use Rattle.system_conf.specs.Configuration.{Configuration, configuration}
use Rattle.system_conf.specs.Refusals.{bad_slot_name, bad_value, first_refusal, left_out, missing, same_device, too_many, unknown_key, unless_refused}
use Rattle.conf_forms.proofs.FirstOf.{both_none}
use Rattle.rauc_words.specs.Table.{conf_path, slot_word}
use Rattle.boot_model.specs.Vars.{Variables}
use Rattle.boot_model.specs.declared.boot_kind.BootKind.{BootKind}
use Rattle.boot_commands.specs.declared.command.Command.{Command as BootCommand}
use Rattle.boot_backends.specs.Through.{StoppedThrough}
use Rattle.slot_marks.specs.declared.naming.Action.{Action}
use Rattle.slot_marks.specs.declared.refusal.MarkRefusal.{MarkRefusal}
use Rattle.slot_marks.specs.Marking.{choice}
use Rattle.slot_marks.specs.Noting.{new_text, noted_by}
use Rattle.status_file.specs.Clock.{clock_since}
use Rattle.rauc_words.specs.declared.asked.Asked.{Asked}
use Rattle.rauc_words.specs.declared.asked.Asked.TheVariants as asked
use Rattle.rauc_words.specs.declared.asked.Command.{Command}
use Rattle.rauc_words.specs.declared.asked.Command.TheVariants.{Install, WriteSlot, Info, Status, Mark}
use Rattle.rauc_words.specs.declared.asked.Run.{Run}
use Rattle.slot_writer.specs.declared.refusal.SlotRefusal.{SlotRefusal}
use Rattle.slot_writer.specs.declared.refusal.SlotWritten.{SlotWritten}
use Rattle.running_system.specs.Running.{RunningKept, what_runs}
use Rattle.slot_writer.specs.Slots.{slot_answer}
use Rattle.running_system.proofs.SlotsKept.{kept_but}
use Rattle.slot_writer.proofs.Sparing.{not_written, running_kept}
use Rattle.slot_writer.proofs.StayingTrue.{truth_kept}
use Rattle.slot_writer.proofs.Targets.{slot_there}
use Rattle.rauc_cli.specs.Conf.{of_conf, of_file, of_groups, system_at, system_in}
use Rattle.rauc_cli.specs.declared.conf.NoSystem.{NoSystem}
use Rattle.rauc_cli.specs.Ends.{AskedStands, CommandStands, SystemStands, TruthOf}
use Rattle.rauc_cli.specs.Plans.{AfterAStop, Effect, From, Put, Nothing, Front, Children, Reading, Marking, Installing, asked_plan, booted_for, command_plan, given_by, mark_effect, marking_at, marking_with, slot_plan, slots_by, slots_for, system_plan}

-- ---- the slots of a configuration have devices of their own

alone_by : (groups : List Group) → first_refusal groups ≡ None → same_device (slots_of groups) ≡ None
alone_by groups h =
    let h1 = (both_none (missing groups) _ h).1 in
    let h2 = (both_none (unknown_key groups) _ h1).1 in
    let h3 = (both_none (left_out groups) _ h2).1 in
    let h4 = (both_none (bad_value groups) _ h3).1 in
    let h5 = (both_none (bad_slot_name groups) _ h4).1 in
    let h6 = (both_none (too_many (slots_of groups)) _ h5).1 in
    (both_none (same_device (slots_of groups)) _ h6).0

ok_slots : List Slot → Result Configuration NoSystem → List Slot
ok_slots other (Ok system) = system.slots
ok_slots other (Err refusal) = other

alone_groups : (groups : List Group) (system : Configuration) (o : Option ConfRefusal) → first_refusal groups ≡ o → of_conf (of_groups (unless_refused o (configuration groups))) ≡ Ok system → same_device system.slots ≡ None
unfolding configuration ok_slots
alone_groups groups system (Some refusal) is e = absurd (cc)
alone_groups groups system None is e =
    subst (λ (slots : List Slot). same_device slots ≡ None) (ap (ok_slots []) e) (alone_by groups is)

alone_file : (r : Result (List Group) KeyFault) (system : Configuration) → of_conf (of_file r) ≡ Ok system → same_device system.slots ≡ None
alone_file (Ok groups) system e = alone_groups groups system (first_refusal groups) refl e
alone_file (Err fault) system e = absurd (cc)

alone_in_file : (o : Option (List ℕ)) (system : Configuration) → system_in o ≡ Ok system → same_device system.slots ≡ None
alone_in_file (Some bytes) system e = alone_file (read_of bytes) system e
alone_in_file None system e = absurd (cc)

-- ---- no plan writes a slot that runs

-- a mark writes no device, and runs no other children
pub data IsMarking : Effect → Type 0 where
  not_at_all : IsMarking Nothing
  by_commands : (machine : BootKind) (commands : Variables → List BootCommand) (put : Option Put) → IsMarking (Marking machine commands put)

with_text : (machine : BootKind) (system : Configuration) (at : ℕ) (path : List ℕ) (text : Option (List ℕ)) → IsMarking (marking_with machine system at path text)
with_text machine system at path None = not_at_all
with_text machine system at path (Some text) = by_commands _ _ _

at_place : (machine : BootKind) (system : Configuration) (act : Action) (noted : Option (List ℕ)) (clock : Option ℤ) (w : World) (at : ℕ) → IsMarking (marking_at machine system act noted clock w at)
at_place machine system act None clock w at = by_commands _ _ _
at_place machine system act (Some path) clock w at = with_text machine system at path (new_text system.slots (file w path) at clock)

pub by_choice : (machine : BootKind) (system : Configuration) (act : Action) (choice : Result ℕ MarkRefusal) (clock : Option ℤ) (w : World) → IsMarking (mark_effect machine system act choice clock w)
by_choice machine system act (Ok at) clock w = at_place machine system act (noted_by system act) clock w at
by_choice machine system act (Err why) clock w = not_at_all

mark_changes : (a c : Past) (given : Option (List ℕ)) (system : Configuration) (act : Action) (who : Option (List ℕ)) → IsMarking (command_plan a c system given (Mark act who)).effect
mark_changes a c given system act who = by_choice a.boot system act (choice system.slots given (slot_word who) (world_now a)) (clock_since a c) (world_now a)

no_front : {e : Effect} {system : Configuration} {image : List ℕ} {written : SlotWritten} → IsMarking e → e ≡ Front system image written → ⊥
no_front not_at_all e = cc
no_front (by_commands machine commands put) e = cc

no_children : {e : Effect} {spares : Spares} {children : List Child} → IsMarking e → e ≡ Children spares children → ⊥
no_children not_at_all e = cc
no_children (by_commands machine commands put) e = cc

-- these are the slots of a system, and what was written to one of them is the answer of write-slot
pub record WritesSlot (slots : List Slot) (given : Option (List ℕ)) (w : World) (system : Configuration) (written : SlotWritten) : Type 0 where
  pub has : slots ≡ system.slots
  pub alone : same_device system.slots ≡ None
  pub name : List ℕ
  pub image : List ℕ
  pub answers : slot_answer system given name image w ≡ Ok written

module _ (a c : Past) (given : Option (List ℕ)) (system : Configuration) (image' : List ℕ) (written : SlotWritten) where
  abbrev Writes : Configuration → Type 0
  Writes s = WritesSlot s.slots given (world_now a) system written

  abbrev front : Effect
  front = Front system image' written

  by_answer : (s : Configuration) (name image : List ℕ) (r : Result SlotWritten SlotRefusal) → same_device s.slots ≡ None → slot_answer s given name image (world_now a) ≡ r → (slot_plan s name image r).effect ≡ front → Writes s
  by_answer s name image (Ok done) alone is e =
      let same : s ≡ system = cc in
      let here : done ≡ written = cc in
      subst (λ (x : Configuration). WritesSlot s.slots given (world_now a) x written) same
      (record { has = refl; alone = alone; name = name; image = image; answers = is ∙ ap (λ (x : SlotWritten). Ok x) here })
  by_answer s name image (Err refusal) alone is e = let bad : ⊥ = cc in absurd bad

  by_command : (s : Configuration) (command : Command) → same_device s.slots ≡ None → (command_plan a c s given command).effect ≡ front → Writes s
  by_command s (Install bundle ignored) alone e = let bad : ⊥ = cc in absurd bad
  by_command s (Info bundle form) alone e = let bad : ⊥ = cc in absurd bad
  by_command s (Status form detailed) alone e = let bad : ⊥ = cc in absurd bad
  by_command s (Mark act who) alone e = absurd (no_front (mark_changes a c given s act who) e)
  by_command s (WriteSlot name image) alone e = by_answer s name image (slot_answer s given name image (world_now a)) alone refl e

by_system : (a c : Past) (run : Run) (system : Configuration) (image' : List ℕ) (written : SlotWritten) (r : Result Configuration NoSystem) → ((s : Configuration) → r ≡ Ok s → same_device s.slots ≡ None)
    → (system_plan a c run r).effect ≡ Front system image' written → WritesSlot (slots_by r) run.place.given (world_now a) system written
by_system a c run system image' written (Ok s) alone e = by_command a c run.place.given system image' written s run.command (alone s refl) e
by_system a c run system image' written (Err refusal) alone e = let bad : ⊥ = cc in absurd bad

plan_writes : (a c : Past) (asked : Option Asked) (system : Configuration) (image' : List ℕ) (written : SlotWritten) → (asked_plan a c asked).effect ≡ Front system image' written
    → WritesSlot (slots_for asked (world_now a)) (given_by asked) (world_now a) system written
plan_writes a c (Some (asked.Run run)) system image' written e =
    by_system a c run system image' written (system_at (world_now a) (conf_path run.place)) (λ s is. alone_in_file (file (world_now a) (conf_path run.place)) s is) e
plan_writes a c (Some asked.Help) system image' written e = let bad : ⊥ = cc in absurd bad
plan_writes a c None system image' written e = let bad : ⊥ = cc in absurd bad

-- ---- what its children leave alone has all slots

effect_spares : Effect → Spares
effect_spares Installing = record { disks = []; files = []; boot = false }
effect_spares Nothing = record { disks = []; files = []; boot = false }
effect_spares (Front system image written) = record { disks = []; files = []; boot = false }
effect_spares (Children spares children) = spares
effect_spares (Reading boot names) = record { disks = []; files = []; boot = false }
effect_spares (Marking machine commands put) = record { disks = []; files = []; boot = false }

has_device : (slots : List Slot) (at : ℕ) (slot : Slot) → slice_get slots at ≡ Some slot → list_any (λ p. bytes_eq p slot.device) (map (λ (s : Slot). s.device) slots) ≡ true
has_device [] at slot e = absurd (cc)
has_device (s ∷ ss) zero slot e =
    let same : s ≡ slot = cc in
    rw (ap (λ (x : Slot). bytes_eq x.device slot.device) same ∙ (bytes_eq-Decides slot.device slot.device).1 refl) refl
has_device (s ∷ ss) (suc at) slot e = or_later (bytes_eq s.device slot.device) (list_any (λ p. bytes_eq p slot.device) (map (λ (x : Slot). x.device) ss)) (has_device ss at slot e)
  where
    or_later : (a b : Bool) → b ≡ true → (a || b) ≡ true
    or_later true b h = refl
    or_later false b h = h

module _ (a c : Past) (spares : Spares) (children : List Child) (at : ℕ) (slot : Slot) where
  answer_spares : (system : Configuration) (name image : List ℕ) (r : Result SlotWritten SlotRefusal) → (slot_plan system name image r).effect ≡ Children spares children → ⊥
  answer_spares system name image (Ok written) e = let bad : ⊥ = cc in bad
  answer_spares system name image (Err refusal) e = let bad : ⊥ = cc in bad

  command_spares : (given : Option (List ℕ)) (system : Configuration) (command : Command) → (command_plan a c system given command).effect ≡ Children spares children → slice_get system.slots at ≡ Some slot → IsTrue (has_disk spares slot.device)
  unfolding effect_spares
  command_spares given system (Install bundle ignored) e there = let bad : ⊥ = cc in absurd bad
  command_spares given system (WriteSlot name image) e there = absurd (answer_spares system name image (slot_answer system given name image (world_now a)) e)
  command_spares given system (Info bundle form) e there =
      subst (λ (s : Spares). IsTrue (has_disk s slot.device)) (ap effect_spares e) (has_device system.slots at slot there)
  command_spares given system (Status form detailed) e there = let bad : ⊥ = cc in absurd bad
  command_spares given system (Mark act who) e there = absurd (no_children (mark_changes a c given system act who) e)

  system_spares : (run : Run) (r : Result Configuration NoSystem) → (system_plan a c run r).effect ≡ Children spares children → slice_get (slots_by r) at ≡ Some slot → IsTrue (has_disk spares slot.device)
  system_spares run (Ok system) e there = command_spares run.place.given system run.command e there
  system_spares run (Err refusal) e there = let bad : ⊥ = cc in absurd bad

  asked_spares : (asked : Option Asked) → (asked_plan a c asked).effect ≡ Children spares children → slice_get (slots_for asked (world_now a)) at ≡ Some slot → IsTrue (has_disk spares slot.device)
  asked_spares (Some (asked.Run run)) e there = system_spares run (system_at (world_now a) (conf_path run.place)) e there
  asked_spares (Some asked.Help) e there = let bad : ⊥ = cc in absurd bad
  asked_spares None e there = let bad : ⊥ = cc in absurd bad

-- only an install has no effect of its own
module _ (a c : Past) where
  slot_installs : (system : Configuration) (name image : List ℕ) (r : Result SlotWritten SlotRefusal) → (slot_plan system name image r).effect ≡ Installing → ⊥
  slot_installs system name image (Ok written) e = let bad : ⊥ = cc in bad
  slot_installs system name image (Err refusal) e = let bad : ⊥ = cc in bad

  mark_installs : {e : Effect} → IsMarking e → e ≡ Installing → ⊥
  mark_installs not_at_all e = let bad : ⊥ = cc in bad
  mark_installs (by_commands machine commands put) e = let bad : ⊥ = cc in bad

  command_installs : (t : Bool) (given : Option (List ℕ)) (system : Configuration) (command : Command) → (command_plan a c system given command).effect ≡ Installing → CommandStands t system given command a c → RunningKept t system.slots (what_runs system.slots given (world_now a)) a c
  command_installs t given system (Install bundle ignored) e safe = safe.running
  command_installs t given system (WriteSlot name image) e safe = absurd (slot_installs system name image (slot_answer system given name image (world_now a)) e)
  command_installs t given system (Info bundle form) e safe = let bad : ⊥ = cc in absurd bad
  command_installs t given system (Status form detailed) e safe = let bad : ⊥ = cc in absurd bad
  command_installs t given system (Mark act who) e safe = absurd (mark_installs (mark_changes a c given system act who) e)

  system_installs : (t : Bool) (run : Run) (r : Result Configuration NoSystem) → (system_plan a c run r).effect ≡ Installing → SystemStands t run r a c → RunningKept t (slots_by r) (what_runs (slots_by r) run.place.given (world_now a)) a c
  system_installs t run (Ok system) e safe = command_installs t run.place.given system run.command e safe
  system_installs t run (Err refusal) e safe = let bad : ⊥ = cc in absurd bad

  asked_installs : (t : Bool) (asked : Option Asked) → (asked_plan a c asked).effect ≡ Installing → AskedStands t asked a c → RunningKept t (slots_for asked (world_now a)) (booted_for asked (world_now a)) a c
  asked_installs t (Some (asked.Run run)) e safe = system_installs t run (system_at (world_now a) (conf_path run.place)) e safe
  asked_installs t (Some asked.Help) e safe = let bad : ⊥ = cc in absurd bad
  asked_installs t None e safe = let bad : ⊥ = cc in absurd bad

-- so what runs keeps its bytes
pub running_planned : (t : Bool) (asked : Option Asked) (a c : Past) → (IsTrue t → (v : World) → Held a c v → AfterAStop (asked_plan a c asked).effect (world_now a) v) → AskedStands t asked a c → RunningKept t (slots_for asked (world_now a)) (booted_for asked (world_now a)) a c
unfolding with_file
running_planned t asked a c left install = by (asked_plan a c asked).effect refl left
  where
    by : (e : Effect) → (asked_plan a c asked).effect ≡ e → (IsTrue t → (v : World) → Held a c v → AfterAStop e (world_now a) v) → RunningKept t (slots_for asked (world_now a)) (booted_for asked (world_now a)) a c
    by Installing is left = asked_installs a c t asked is install
    by (Front system image written) is left =
        let writes = plan_writes a c asked system image written is in
        subst (λ (slots : List Slot). RunningKept t slots (what_runs slots (given_by asked) (world_now a)) a c) (sym writes.has)
        (running_kept t system (what_runs system.slots (given_by asked) (world_now a)) a c (Ok written)
        (λ other e at slot there used same. not_written system (given_by asked) writes.name writes.image (world_now a) other writes.alone at slot there used (writes.answers ∙ e) same)
        (record { each = left }))
    by (Children spares children) is left = record {
      each = λ told v held at slot there used i settled. (left told v held).bytes slot.device (asked_spares a c spares children at slot asked is there) i settled;
    }
    by (Reading boot names) is left = record {
      each = λ told v held at slot there used i settled.
          let stopped = left told v held in
          stopped.2.bytes slot.device i (λ touched. touched) (ap (λ (x : World). is_in x.pending slot.device i) stopped.1.rest ∙ settled)
          ∙ ap (λ (x : World). disk_byte x slot.device i) stopped.1.rest;
    }
    by (Marking machine commands None) is left = record {
      each = λ told v held at slot there used i settled. (left told v held).1.bytes slot.device i settled;
    }
    by (Marking machine commands (Some put)) is left = record {
      each = λ told v held at slot there used i settled. either (commands (left told v held).0) v slot i settled (left told v held).1;
    }
      where
        either : (cs : List BootCommand) (v : World) (slot : Slot) (i : ℕ) → is_in (world_now a).pending slot.device i ≡ false → From (Some put) (world_now a) (λ x. StoppedThrough machine cs x v) → disk_byte v slot.device i ≡ disk_byte (world_now a) slot.device i
        either cs v slot i settled (inl before) = before.bytes slot.device i settled
        either cs v slot i settled (inr with) = with.bytes slot.device i settled
    by Nothing is left =
        kept_but t (slots_for asked (world_now a)) (booted_for asked (world_now a)) a c (λ path i. ⊥) (λ at slot there used i touched. touched) left

-- and where a slot is written, what the status file says of a slot stays true
pub truth_planned : (t : Bool) (asked : Option Asked) (a c : Past) → (IsTrue t → (v : World) → Held a c v → AfterAStop (asked_plan a c asked).effect (world_now a) v) → TruthOf (asked_plan a c asked).effect t a c
truth_planned t asked a c left = by (asked_plan a c asked).effect refl left
  where
    by : (e : Effect) → (asked_plan a c asked).effect ≡ e → (IsTrue t → (v : World) → Held a c v → AfterAStop e (world_now a) v) → TruthOf e t a c
    by Installing is left = tt
    by (Front system image written) is left =
        let writes = plan_writes a c asked system image written is in
        truth_kept t system (Ok written) a c writes.alone
        (λ slot other e. slot_there system (given_by asked) writes.image (world_now a) other writes.name slot (writes.answers ∙ e))
        (record { each = left })
    by (Children spares children) is left = tt
    by (Reading boot names) is left = tt
    by (Marking machine commands put) is left = tt
    by Nothing is left = tt
