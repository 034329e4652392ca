-- A bootname that was marked.
use Rattle.std.proofs.Common.{◌≡◌, ℕ, Bool, List, Option, None, Ok, Err, IsTrue, refl, sym, subst}
use Rattle.std.specs.Prelude.{⊤}
use Rattle.boot_commands.specs.declared.command.Mark.{Mark}
use Rattle.boot_backends.specs.Systems.{Keeps, Leads, Leaves, MarkEnds}
use Rattle.boot_backends.specs.declared.refusal.BootRefusal.{BootRefusal}
use Rattle.machine.specs.Past.{Fails, Past, world_now}
use Rattle.machine.specs.Stops.{stop_fault}
use Rattle.machine.specs.declared.stops.Fault.{Fault}
use Rattle.machine.specs.declared.stops.Stop.{Stop}
use Rattle.machine.specs.declared.stops.Stop.TheVariants.{Refused, Outside, NoMemory}
use Rattle.system_conf.specs.Configuration.{Configuration}
use Rattle.install_facts.specs.declared.refusal.InstallRefusal.{InstallRefusal}
use Rattle.install_steps.specs.Causes.{BootMarks, MarkAnswers, boot_stop}

-- it was done
pub marks_done : (t : Bool) (c : Configuration) (m : Mark) (given name : List ℕ) (a z : Past) → given ≡ name → (IsTrue t → Leaves c m given a z) → (IsTrue t → Keeps c given a z) → (IsTrue t → Leads c m given a z) → (IsTrue t → MarkEnds c m given a z (Ok tt)) → Fails t a z None → BootMarks t c m name a z (Ok tt)
marks_done t c m given name a z is leaves keeps leads ends fails =
    subst (λ (n : List ℕ). BootMarks t c m n a z (Ok tt)) is (record { leads = leads; keeps = keeps; leaves = leaves; answers = ends; fails = fails })

-- it stopped
answered : (c : Configuration) (m : Mark) (name : List ℕ) (a z : Past) (stop : Stop BootRefusal) → MarkEnds c m name a z (Err stop) → MarkAnswers c m name (world_now a) (world_now z) (Err (boot_stop stop))
answered c m name a z (Refused why) ends = (why, refl, ends)
answered c m name a z (Outside kind) ends = tt
answered c m name a z NoMemory ends = tt

same_fault : (stop : Stop BootRefusal) → stop_fault {T = ⊤} (Err stop) ≡ stop_fault {T = ⊤} (Err (boot_stop stop))
same_fault (Refused why) = refl
same_fault (Outside kind) = refl
same_fault NoMemory = refl

stopped : (t : Bool) (c : Configuration) (m : Mark) (name : List ℕ) (a z : Past) (stop : Stop BootRefusal) → (IsTrue t → Keeps c name a z) → (IsTrue t → Leads c m name a z) → (IsTrue t → MarkEnds c m name a z (Err stop)) → Fails t a z (stop_fault {T = ⊤} (Err stop)) → BootMarks t c m name a z (Err (boot_stop stop))
stopped t c m name a z stop keeps leads ends fails = record {
  leads = leads;
  keeps = keeps;
  leaves = λ told. tt;
  answers = λ told. answered c m name a z stop (ends told);
  fails = subst (λ (kind : Option Fault). Fails t a z kind) (same_fault stop) fails;
}

pub marks_stopped : (t : Bool) (c : Configuration) (m : Mark) (given name : List ℕ) (a z : Past) (stop : Stop BootRefusal) (last : Stop InstallRefusal) → given ≡ name → last ≡ boot_stop stop → (IsTrue t → Keeps c given a z) → (IsTrue t → Leads c m given a z) → (IsTrue t → MarkEnds c m given a z (Err stop)) → Fails t a z (stop_fault {T = ⊤} (Err stop)) → BootMarks t c m name a z (Err last)
marks_stopped t c m given name a z stop last is stops keeps leads ends fails =
    subst (λ (s : Stop InstallRefusal). BootMarks t c m name a z (Err s)) (sym stops)
    (subst (λ (n : List ℕ). BootMarks t c m n a z (Err (boot_stop stop))) is (stopped t c m given a z stop keeps leads ends fails))
