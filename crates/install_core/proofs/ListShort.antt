-- The notes of an install are as short as a report takes them.
use Rattle.std.proofs.Common.{◌≤◌, List, length}
use Rattle.system_conf.specs.Reads.{system_configuration}
use Rattle.system_conf.specs.declared.system.System.{System}
use Rattle.install_facts.specs.Facts.{facts_content}
use Rattle.install_facts.specs.declared.facts.Facts.{Facts}
use Rattle.install_facts.specs.declared.report.Note.{Note}
use Rattle.install_plan.specs.Acts.{acts_of, notes_in}
use Rattle.install_plan.specs.declared.step.Act.{Act}
use Rattle.install_plan.specs.declared.step.Act.TheVariants.{Do, Tell}
use Rattle.install_steps.specs.Steady.{AreShort}
use Rattle.install_plan.proofs.Each.{OfNote, each_at, each_note, each_weaker}
use Rattle.install_plan.proofs.WhatActs.{IsAct, acts_are}

-- a note is at most 279 bytes long
abbrev IsShort : Note → Type 0
IsShort n = length n.text ≤ 279

-- so is each note of a system, since the names of its slots have their form
pub short_notes : (system : System) (facts : Facts) → AreShort (notes_in (acts_of (system_configuration system) (facts_content facts)))
short_notes system facts = each_at IsShort (notes_in acts) (each_note IsShort acts (each_weaker (IsAct (system_configuration system) (facts_content facts)) (OfNote IsShort) each acts (acts_are (system_configuration system) (facts_content facts))))
  where
    acts : List Act
    acts = acts_of (system_configuration system) (facts_content facts)

    each : (a : Act) → IsAct (system_configuration system) (facts_content facts) a → OfNote IsShort a
    each (Do s) is = tt
    each (Tell n) is = is system.sound.slots.formed
