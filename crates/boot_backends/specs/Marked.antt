-- What marks of names, and the reading of the variables, leave.
use Rattle.std.specs.Prelude.{◌≡◌, ◌≢◌, ℕ, Bool, true, false, List, Option, Some, Result, Ok, Err, filter_map, position, option_and_then}
use Rattle.std.specs.FinMap as fin
use Rattle.std.specs.Option.{option_map_or}
use Rattle.std.specs.Str.{bytes_eq}
use Rattle.boot_model.specs.Vars.{Variables}
use Rattle.boot_model.specs.declared.boot_kind.BootKind.{BootKind}
use Rattle.boot_state.specs.Orders.{has_word}
use Rattle.boot_state.specs.States as states
use Rattle.boot_commands.specs.declared.command.Mark.{Mark}
use Rattle.boot_commands.specs.Effects.{commands_of, left_by}
use Rattle.boot_commands.specs.Plans.{readings}
use Rattle.boot_outputs.specs.Saw.{TellsStates}
use Rattle.machine.specs.declared.stops.Stop.{Stop}
use Rattle.machine.specs.declared.world.RunNote.{RunNote}
use Rattle.machine.specs.declared.world.World.{World}
use Rattle.machine.specs.Past.{Always, Held, Past, world_now}
use Rattle.system_conf.specs.declared.slot.Slot.{Slot}
use Rattle.boot_backends.specs.declared.refusal.BootRefusal.{BootRefusal}
use Rattle.boot_backends.specs.Causes.{AreServed, CommandsCause}
use Rattle.boot_backends.specs.Honest.{Honest}
use Rattle.boot_backends.specs.Through.{RanFirst, StoppedThrough, Through}

-- the bootnames of slots, in their order
abbrev pub names_of : List Slot → List (List ℕ)
names_of slots = filter_map (λ s. s.bootname) slots

-- it is one of them
abbrev pub is_boot_name : List Slot → List ℕ → Bool
is_boot_name slots name = has_word (names_of slots) name

-- the slot has this bootname
abbrev pub has_boot_name : List ℕ → Slot → Bool
has_boot_name name s = option_map_or (λ other. bytes_eq other name) s.bootname false

-- the place of the slot that the boot loader boots next
abbrev pub primary_slot : BootKind → Variables → List Slot → Option ℕ
primary_slot boot vars slots = option_and_then (λ name. position (has_boot_name name) slots) (states.primary boot vars (names_of slots))

-- at each moment since, the first of the mark's commands were run, by what was read; and so it is wherever the power stops
pub record Led (boot : BootKind) (names : List (List ℕ)) (mark : Mark) (name : List ℕ) (old new : Past) : Type 0 where
  pub read : Variables
  pub moments : Always old new (Through old.boot (commands_of boot names mark name read) (world_now old))
  pub stops : (v : World) → Held old new v → StoppedThrough old.boot (commands_of boot names mark name read) (world_now old) v

-- honest programs left what the mark is to leave
abbrev pub Left : BootKind → List (List ℕ) → Mark → List ℕ → Past → Past → Type 0
Left boot names mark name old new = Honest boot old new → left_by boot names mark name (world_now old).vars ≡ Some (world_now new).vars

-- honest programs left the name down
abbrev pub Downs : BootKind → List ℕ → Past → Past → Type 0
Downs boot name old new = Honest boot old new → states.is_down boot (world_now new).vars name ≡ true

-- with honest programs, wherever the power stops, each other name that was down is down, and each that was good is good
abbrev pub KeepsOthers : BootKind → List (List ℕ) → List ℕ → Past → Past → Type 0
KeepsOthers boot names name old new =
    Honest boot old new → (other : List ℕ) → other ≢ name → (v : World) → Held old new v → states.KeepsName boot names other (world_now old).vars v.vars

-- w is old but that the first of the commands that read were run
pub record OnlyReadVars (boot : BootKind) (names : List (List ℕ)) (old w : World) : Type 0 where
  pub rest : w ≡ record old { runs = w.runs }
  pub runs : RanFirst (readings boot names) old.runs w.runs

-- by what honest programs printed, the same names are good and the same one is primary
abbrev pub Told : BootKind → List (List ℕ) → Past → Past → Variables → Type 0
Told boot names old new read = Honest boot old new → TellsStates boot names (world_now old).vars read

-- the place of the slot is the one of the variables before
abbrev pub PrimaryTold : BootKind → List Slot → Past → Past → Option ℕ → Type 0
PrimaryTold boot slots old new at = Honest boot old new → at ≡ primary_slot boot (world_now old).vars slots

-- the answer by the runs: the place of the slot by what was read
abbrev pub PrimaryCause : BootKind → List Slot → List RunNote → Result (Option ℕ) (Stop BootRefusal) → Type 0
PrimaryCause boot slots notes (Ok at) =
    (read : Variables) × AreServed (readings boot (names_of slots)) notes fin.empty read × (at ≡ primary_slot boot read slots)
PrimaryCause boot slots notes (Err stop) = CommandsCause (readings boot (names_of slots)) fin.empty notes (Err stop)
