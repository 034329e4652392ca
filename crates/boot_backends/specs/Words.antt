-- Why the programs of a boot loader did not do what they were to, in words.
use Rattle.std.specs.Prelude.{ℕ, List, ◌++◌, codes}
use Rattle.std.specs.List.{join_by}
use Rattle.machine.specs.Endings.{ended_text}
use Rattle.boot_backends.specs.declared.refusal.BootRefusal.{BootRefusal}
use Rattle.boot_backends.specs.declared.refusal.BootRefusal.TheVariants.{Program, Output, Unlisted}

-- a program by its words, with a blank between each two
abbrev pub program_text : List (List ℕ) → List ℕ
program_text argv = join_by (λ word. word) (codes " ") argv

-- by the refusal
abbrev pub boot_cause : BootRefusal → List ℕ
boot_cause (Program argv ended) = program_text argv ++ (codes " failed: " ++ ended_text ended)
boot_cause (Output argv) = program_text argv ++ codes ": bad output"
boot_cause (Unlisted name) = codes "no boot entry " ++ name
